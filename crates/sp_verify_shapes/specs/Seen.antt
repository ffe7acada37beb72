-- None of this belongs to what the program promises: it is for contracts between crates.
-- Calls that were seen to fit: whole lists, and what jumps pass, by the names of lists.
use Rattle.std.specs.Prelude.{◌≡◌, ◌⊎◌, ℕ, ◌<◌, ◌≤◌, List, Some, Bool, true, slice_get}
use Rattle.sp_code.specs.declared.code.Formal.{Formal}
use Rattle.sp_code.specs.declared.code.Layout.{Layout}
use Rattle.sp_verify_shapes.specs.declared.memo.Memo.{Memo}
use Rattle.sp_verify_shapes.specs.declared.seen.Seen.{Seen}
use Rattle.sp_verify_shapes.specs.declared.stacks.Jump.{Jump}
use Rattle.sp_verify_shapes.specs.declared.stacks.Stacks.{Stacks}
use Rattle.sp_verify_shapes.specs.Fits.{first_fit}
use Rattle.sp_verify_shapes.specs.Memos.{AddsFits, AreFitsOf, has_fit}
use Rattle.sp_verify_shapes.specs.Names.{AreNames, PassAlike, far_of}
use Rattle.sp_verify_shapes.specs.Stacks.{IsJump, list_of}

-- a list of this name is such that the first k formals fit it if b says so
abbrev pub HasFit : Stacks → List Formal → Bool → ℕ → ℕ → Type 0
HasFit st fs b k r = (n : ℕ) × PassAlike st n r × (first_fit fs k (list_of st n) ≡ b)

-- what is kept of a layout by names is so
abbrev pub ArePartsOf : List Formal → Stacks → ℕ → Memo → Type 0
ArePartsOf fs st p memo = (k r : ℕ) → has_fit memo p k r ≡ true → HasFit st fs true k r

-- all that is kept of a layout
abbrev pub AreSeenOf : List Formal → Stacks → ℕ → Seen → Type 0
AreSeenOf fs st p seen = AreFitsOf fs st p seen.wholes × ArePartsOf fs st p seen.parts × AreNames st seen.names.of

-- all that is kept
abbrev pub AreSeen : List Layout → Stacks → Seen → Type 0
AreSeen ls st seen = ((p : ℕ) (l : Layout) → slice_get ls p ≡ Some l
    → AreFitsOf l.formals st p seen.wholes × ArePartsOf l.formals st p seen.parts) × AreNames st seen.names.of

-- no others are kept by names than before, and this one
abbrev pub AddsPart : Stacks → Memo → Memo → ℕ → ℕ → ℕ → Type 0
AddsPart st old new p k n = (q i r : ℕ) → has_fit new q i r ≡ true
    → (has_fit old q i r ≡ true) ⊎ ((q ≡ p) × (i ≡ k) × PassAlike st n r)

-- no others than before, and some of a layout, with at least k formals: these fit if b says so
abbrev pub AddsParts : Stacks → List Formal → ℕ → ℕ → Bool → Memo → Memo → Type 0
AddsParts st fs p k b old new = (q i r : ℕ) → has_fit new q i r ≡ true
    → (has_fit old q i r ≡ true) ⊎ ((q ≡ p) × (k ≤ i) × HasFit st fs b i r)

-- of both
abbrev pub AddsSeen : Stacks → List Formal → ℕ → Bool → Seen → Seen → Type 0
AddsSeen st fs p b old new = AddsFits st fs p 0 b old.wholes new.wholes × AddsParts st fs p 0 b old.parts new.parts
    × AreNames st new.names.of

-- a jump over shapes that were seen to fit, by the name of its list
pub record IsSeenJump (st : Stacks) (memo : Memo) (p k n : ℕ) (j : Jump) : Type 0 where
  pub name : ℕ
  pub alike : PassAlike st n name
  pub fits : has_fit memo p k name ≡ true
  pub far : far_of st n ≡ j.far
  pub some : 0 < j.far
  pub within : j.far ≤ k
  pub jump : IsJump st (list_of st n) j
