-- None of this belongs to what the program promises: it is for contracts between crates.
-- Operands and formals that were seen to fit.
use Rattle.std.specs.Prelude.{◌≡◌, ◌⊎◌, ℕ, ◌≤◌, List, Bool, true}
use Rattle.std.specs.declared.cmp.Ordering.{Ordering}
use Rattle.std.specs.Ordering.{nat_cmp, ordering_then}
use Rattle.std.specs.BTreeSet.{contains}
use Rattle.sp_code.specs.declared.code.Formal.{Formal}
use Rattle.sp_verify_shapes.specs.declared.memo.Memo.{Memo}
use Rattle.sp_verify_shapes.specs.declared.stacks.Stacks.{Stacks}
use Rattle.sp_verify_shapes.specs.Fits.{first_fit}
use Rattle.sp_verify_shapes.specs.Stacks.{list_of}

-- the order of what is kept: by layouts, then by how many formals, then by lists
abbrev pub fit_cmp : ℕ × ℕ × ℕ → ℕ × ℕ × ℕ → Ordering
fit_cmp x y = ordering_then (ordering_then (nat_cmp x.0 y.0) (nat_cmp x.1 y.1)) (nat_cmp x.2 y.2)

-- the first k formals of a layout were seen to fit a list
abbrev pub has_fit : Memo → ℕ → ℕ → ℕ → Bool
has_fit memo p k n = contains fit_cmp memo.fits (p, k, n)

-- no others are kept than before, and these
abbrev pub AddsFit : Memo → Memo → ℕ → ℕ → ℕ → Type 0
AddsFit old new p k n = (q i m : ℕ) → has_fit new q i m ≡ true
    → (has_fit old q i m ≡ true) ⊎ ((q ≡ p) × (i ≡ k) × (m ≡ n))

-- those of a layout do fit
abbrev pub AreFitsOf : List Formal → Stacks → ℕ → Memo → Type 0
AreFitsOf fs st p memo = (k n : ℕ) → has_fit memo p k n ≡ true → first_fit fs k (list_of st n) ≡ true

-- no others are kept than before, and some of a layout, with at least k formals: these fit if b says so
abbrev pub AddsFits : Stacks → List Formal → ℕ → ℕ → Bool → Memo → Memo → Type 0
AddsFits st fs p k b old new = (q i n : ℕ) → has_fit new q i n ≡ true
    → (has_fit old q i n ≡ true) ⊎ ((q ≡ p) × (k ≤ i) × (first_fit fs i (list_of st n) ≡ b))
