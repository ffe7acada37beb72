-- Tables of where variables stand, as they are filled.
use Rattle.std.proofs.Common.{◌≡◌, ◌≢◌, ℕ, ◌+◌, ◌-◌, ◌≤◌, ◌<◌, List, [], ◌∷◌, length, drop, get_or, Option, Some, None}
use Rattle.std.proofs.Common.{refl, sym, ap, ◌∙◌, inl, inr}
use Rattle.std.specs.Prelude.{slice_get, min}
use Rattle.std.specs.Option.{option_or}
use Rattle.std.specs.BTreeMap.{BTreeMap}
use Rattle.std.proofs.lemmas.Bool.{cases_eq, eq-eqb, ne_eqb}
use Rattle.sp_cell.specs.declared.spot.Spot.{Spot}
use Rattle.sp_cell.specs.declared.spot.Address.{Address}
use Rattle.sp_code.specs.declared.code.Layout.{Layout}
use Rattle.sp_code.specs.Memory.{Frame as PlainFrame, last_frames, reference_target}
use Rattle.sp_code.specs.System.{place_of, spot_by, spot_at, spot_in, spot_from, or_outward}
use Rattle.sp_machine.specs.Seen.{under, Notes, NotesAll}
use Rattle.sp_machine.proofs.VariablePlaces.{place_here, place_on, place_end, spot_next}
use Rattle.sp_machine.proofs.FrameLists.{referred_here, referred_on, referred_end}

-- ---- options

or_none : {A : Type 0} → (o : Option A) → option_or o None ≡ o
or_none None = refl
or_none (Some x) = refl

or_twice : {A : Type 0} → (o p q : Option A) → option_or (option_or o p) q ≡ option_or o (option_or p q)
or_twice None p q = refl
or_twice (Some x) p q = refl

or_is : (o : Option Spot) (p : Option Spot) → or_outward o p ≡ option_or o p
or_is None p = refl
or_is (Some s) p = refl

-- ---- one item more

module _ {A : Type 0} (old new : BTreeMap ℕ A) (y : ℕ) (item : A) (notes : Notes old new y item) where
  pub noted_here : (x : ℕ) (rest : Option A) → y ≡ x → option_or (under old x) (Some item)
      ≡ option_or (under new x) rest
  noted_here x rest e =
      let now : under new x ≡ option_or (under old x) (Some item) = notes x ∙ rw (eq-eqb y x e) refl in
      sym (ap (λ (o : Option A). option_or o rest) now ∙ or_twice (under old x) (Some item) rest)

  pub noted_beside : (x : ℕ) (rest : Option A) → y ≢ x → option_or (under old x) rest ≡ option_or (under new x) rest
  noted_beside x rest d =
      let now : under new x ≡ under old x = notes x ∙ rw (ne_eqb y x d) (or_none (under old x)) in
      sym (ap (λ (o : Option A). option_or o rest) now)

-- ---- what variable parameters stand for

pub reference_more : (rs : List (ℕ × Address)) (old new : BTreeMap ℕ Address) (i : ℕ) (r : ℕ × Address) → i < length rs
    → r ≡ get_or rs i r → Notes old new r.0 r.1 → (x : ℕ) → option_or (under old x) (reference_target x (drop i rs))
    ≡ option_or (under new x) (reference_target x (drop (i + 1) rs))
reference_more rs old new i r h e notes x = elim (cases_eq r.0 x) [
  | inl w ↦ ap (option_or (under old x)) (referred_here rs x i r h e w)
      ∙ noted_here old new r.0 r.1 notes x (reference_target x (drop (i + 1) rs)) w
  | inr d ↦ ap (option_or (under old x)) (referred_on rs x i r h e d)
      ∙ noted_beside old new r.0 r.1 notes x (reference_target x (drop (i + 1) rs)) d
]

pub references_end : (rs : List (ℕ × Address)) (m : BTreeMap ℕ Address) (i x : ℕ) → length rs ≤ i
    → option_or (under m x) (reference_target x (drop i rs)) ≡ under m x
references_end rs m i x h = ap (option_or (under m x)) (referred_end rs x i h) ∙ or_none (under m x)

-- ---- the variables of a block's frame

pub block_more : (l : Layout) (f : PlainFrame) (vs : List ℕ) (old new : BTreeMap ℕ Spot) (n i y : ℕ) (s : Spot)
    → i < length vs → y ≡ get_or vs i y → Some s ≡ spot_by f n (slice_get l.formals n) → Notes old new y s → (x : ℕ)
    → option_or (under old x) (spot_at f l (place_of x n (drop i vs)))
    ≡ option_or (under new x) (spot_at f l (place_of x (n + 1) (drop (i + 1) vs)))
block_more l f vs old new n i y s h e is notes x = elim (cases_eq y x) [
  | inl w ↦ ap (λ (o : Option ℕ). option_or (under old x) (spot_at f l o)) (place_here vs x n i y h e (sym w))
      ∙ ap (option_or (under old x)) (sym is)
      ∙ noted_here old new y s notes x (spot_at f l (place_of x (n + 1) (drop (i + 1) vs))) w
  | inr d ↦ ap (λ (o : Option ℕ). option_or (under old x) (spot_at f l o)) (place_on vs x n i y h e (λ w. d (sym w)))
      ∙ noted_beside old new y s notes x (spot_at f l (place_of x (n + 1) (drop (i + 1) vs))) d
]

pub block_end : (l : Layout) (f : PlainFrame) (vs : List ℕ) (m : BTreeMap ℕ Spot) (n i x : ℕ) → length vs ≤ i
    → option_or (under m x) (spot_at f l (place_of x n (drop i vs))) ≡ under m x
block_end l f vs m n i x h = ap (λ (o : Option ℕ). option_or (under m x) (spot_at f l o)) (place_end vs x n i h)
    ∙ or_none (under m x)

-- ---- the frames

pub frame_more : (ls : List Layout) (fs : List PlainFrame) (old new : BTreeMap ℕ Spot) (count : ℕ) (f : PlainFrame)
    → 0 < count → count ≤ length fs → last_frames (count - 1 + 1) fs ≡ f ∷ last_frames (count - 1) fs
    → NotesAll old new (spot_in ls f f.home) → (x : ℕ)
    → option_or (under old x) (spot_from ls count (last_frames count fs) x)
    ≡ option_or (under new x) (spot_from ls (min f.link (count - 1)) (last_frames (min f.link (count - 1)) fs) x)
frame_more ls fs old new count f h l e notes x =
    let rest = spot_from ls (min f.link (count - 1)) (last_frames (min f.link (count - 1)) fs) x in
    ap (option_or (under old x)) (spot_next ls fs count x f h l e ∙ or_is (spot_in ls f f.home x) rest)
    ∙ sym (ap (λ (o : Option Spot). option_or o rest) (notes x) ∙ or_twice (under old x) (spot_in ls f f.home x) rest)
