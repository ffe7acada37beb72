-- A fork of verified code can be carried out: what it moves and shares are effects of the area, which are held and
-- stand apart.
use Rattle.std.proofs.Common.{◌≡◌, ◌≢◌, ⊎_elim, ℕ, zero, suc, ◌<◌, ℤ, List, Option, Some, None, refl}
use Rattle.std.proofs.Common.{sym, ◌∙◌, subst, arith}
use Rattle.std.specs.FinMap as map
use Rattle.std.proofs.lemmas.Bool.{cases_eq}
use Rattle.std.proofs.lemmas.Option.{same_Some}
use Rattle.sp_tree.specs.Interference.{IsMember, AllDifferent}
use Rattle.sp_tree.proofs.Members.{member_front, member_back}
use Rattle.sp_cell.specs.declared.cell.Cell.{Cell}
use Rattle.sp_cell.specs.declared.spot.Spot.{Spot}
use Rattle.sp_cell.specs.Fork.{moved_of, shared_of}
use Rattle.sp_cell.specs.Frame.{HasNextFrame}
use Rattle.sp_cell.specs.Map.{Map, Plain, Content, Own, Shared, Output, Away, IsHeld, IsPiece, IsOutput}
use Rattle.sp_cell.specs.Spots.{In, IsDistinct}
use Rattle.sp_code.specs.declared.code.ChildTable.{ChildTable}
use Rattle.sp_code.specs.declared.code.ForkTable.{ForkTable}
use Rattle.sp_code.specs.declared.code.Layout.{Layout}
use Rattle.sp_code.specs.Memory.{Frame, position_in}
use Rattle.sp_code.specs.PlainStore.{piece_of}
use Rattle.sp_code.specs.Sound.{CanSplit}
use Rattle.sp_code.specs.System.{spot_of, plan_from, child_or}
use Rattle.sp_code.specs.Tables.{child_at}
use Rattle.sp_verify_rules.specs.Forks.{handed_to}
use Rattle.sp_verify_rules.specs.HeldEffects.{HoldsVariable, Allowed}
use Rattle.sp_verify_rules.proofs.Lists.{different_front, different_apart}
use Rattle.sp_code.proofs.Plans.{spots_from, out_of, child_handing, distinct_spots, distinct_plan, moved_by, shared_by}
use Rattle.sp_code.proofs.StoreLaws.{piece_of_cells, held_of_cells}

-- ---- contents

pub cells_of_position : (o : Option Content) (n : ℕ) → position_in (piece_of o) ≡ Some n → (cs : List Cell)
    × (piece_of o ≡ Some cs)
cells_of_position None n e = absurd (cc e)
cells_of_position (Some (Own ds)) n e = (ds, refl)
cells_of_position (Some (Shared ds)) n e = (ds, refl)
cells_of_position (Some (Output bs)) n e = absurd (cc e)
cells_of_position (Some Away) n e = absurd (cc e)

pub held_of_output : (o : Option Content) → IsOutput o → IsHeld o
held_of_output None h = absurd h
held_of_output (Some (Own ds)) h = tt
held_of_output (Some (Shared ds)) h = tt
held_of_output (Some (Output bs)) h = tt
held_of_output (Some Away) h = absurd h

module _ (ls : List Layout) (fs : List Frame) (m : Map) where
  pub has_held : (x : ℕ) (s : Spot) → HoldsVariable ls fs m x s → IsHeld (map.get m s)
  has_held zero s h = let w = cells_of_position (map.get m s) h.0 h.1 in held_of_cells (map.get m s) w.0 w.1
  has_held (suc zero) s h = held_of_output (map.get m s) h
  has_held (suc (suc x)) s h = held_of_cells (map.get m s) h.0 h.1

  pub has_piece : (x : ℕ) (s : Spot) → (x ≡ 1 → ⊥) → HoldsVariable ls fs m x s → IsPiece (map.get m s)
  has_piece zero s d h = let w = cells_of_position (map.get m s) h.0 h.1 in piece_of_cells (map.get m s) w.0 w.1
  has_piece (suc zero) s d h = absurd (d refl)
  has_piece (suc (suc x)) s d h = piece_of_cells (map.get m s) h.0 h.1

-- what the rules say of the table of a fork with n children, in an area with the effects E
pub record KeepsForks (E : ℕ → Type 0) (t : ForkTable) (n : ℕ) : Type 0 where
  pub effect : (j x : ℕ) → j < n → IsMember x (handed_to (child_or (child_at t j))) → E x
  pub once : (j : ℕ) → j < n → AllDifferent (handed_to (child_or (child_at t j)))
  pub no_output : (j : ℕ) → j < n → IsMember 1 (child_or (child_at t j)).shared → ⊥
  pub clear : (j k x : ℕ) → j < n → k < n → j ≢ k → IsMember x (child_or (child_at t j)).moved
      → IsMember x (handed_to (child_or (child_at t k))) → ⊥

module _ (ls : List Layout) (K : Type 0) (E : ℕ
    → Type 0) (N : ℕ) (fs : List Frame) (p : Plain) (t : ForkTable) (value : ℤ) (n : ℕ)
    (keeps : KeepsForks E t n) (a : Allowed ls K E N fs p.map) (room : HasNextFrame p) where
  abbrev table : ℕ → ChildTable
  table j = child_or (child_at t j)

  moved_effect : (j x : ℕ) → j < n → IsMember x (table j).moved → E x
  moved_effect j x lt h = keeps.effect j x lt (member_front x (table j).moved (table j).shared h)

  shared_effect : (j x : ℕ) → j < n → IsMember x (table j).shared → E x
  shared_effect j x lt h = keeps.effect j x lt (member_back x (table j).moved (table j).shared h)

  -- what is there of a variable that stands at q
  there : (x : ℕ) (q : Spot) → E x → spot_of ls fs x ≡ Some q → HoldsVariable ls fs p.map x q
  there x q e at = let (_, stands, _, holds) = a.held x e in
      subst (λ (s : Spot). HoldsVariable ls fs p.map x s) (same_Some _ _ (sym stands ∙ at)) holds

  held : (q : Spot) → In q (moved_of (plan_from ls fs t value 0 n)) → IsHeld (map.get p.map q)
  held q i =
      let w = moved_by ls fs t value n q i in
      let v = spots_from ls fs (table w.0).moved q w.2 in
      has_held ls fs p.map v.0 q (there v.0 q (moved_effect w.0 v.0 w.1 v.1) v.2)

  pieces : (q : Spot) → In q (shared_of (plan_from ls fs t value 0 n)) → IsPiece (map.get p.map q)
  pieces q i =
      let w = shared_by ls fs t value n q i in
      let v = spots_from ls fs (table w.0).shared q w.2 in
      has_piece ls fs p.map v.0 q (λ e. keeps.no_output w.0 w.1 (subst (λ z. IsMember z (table w.0).shared) e v.1))
      (there v.0 q (shared_effect w.0 v.0 w.1 v.1) v.2)

  distinct : IsDistinct (moved_of (plan_from ls fs t value 0 n))
  distinct = distinct_plan ls fs t value n
      (λ j lt. distinct_spots ls fs (table j).moved (different_front (table j).moved (table j).shared (keeps.once j lt))
      (λ y z q i k e g. a.apart y z q (moved_effect j y lt i) (moved_effect j z lt k) e g))
      (λ j k q l lt i h. two j k q (omega (arith, l, lt)) lt (λ e. absurd (omega (arith, l, e))) i h)
    where
      two : (j k : ℕ) (q : Spot) → j < n → k < n → j ≢ k → In q (child_handing ls fs t value j).moved
          → In q (child_handing ls fs t value k).moved → ⊥
      two j k q lj lk d i h =
          let v = spots_from ls fs (table j).moved q i in
          let w = spots_from ls fs (table k).moved q h in
          let same : v.0 ≡ w.0 = a.apart v.0 w.0 q (moved_effect j v.0 lj v.1) (moved_effect k w.0 lk w.1) v.2 w.2 in
          keeps.clear j k w.0 lj lk d (subst (λ z. IsMember z (table j).moved) same v.1)
          (member_front w.0 (table k).moved (table k).shared w.1)

  apart : (q : Spot) → In q (moved_of (plan_from ls fs t value 0 n))
      → Rattle.sp_cell.specs.Spots.NotIn q (shared_of (plan_from ls fs t value 0 n))
  apart q i = out_of q (shared_of (plan_from ls fs t value 0 n)) (λ h. both h)
    where
      both : In q (shared_of (plan_from ls fs t value 0 n)) → ⊥
      both h =
          let u = moved_by ls fs t value n q i in
          let o = shared_by ls fs t value n q h in
          let v = spots_from ls fs (table u.0).moved q u.2 in
          let w = spots_from ls fs (table o.0).shared q o.2 in
          let same : v.0 ≡ w.0 = a.apart v.0 w.0 q (moved_effect u.0 v.0 u.1 v.1)
          (shared_effect o.0 w.0 o.1 w.1) v.2 w.2 in
          ⊎_elim
          (λ (e : u.0 ≡ o.0). different_apart w.0 (table o.0).moved (table o.0).shared (keeps.once o.0 o.1)
          (subst (λ j. IsMember w.0 (table j).moved) e (subst (λ z. IsMember z (table u.0).moved) same v.1)) w.1)
          (λ (d : u.0 ≢ o.0). keeps.clear u.0 o.0 w.0 u.1 o.1 d (subst (λ z. IsMember z (table u.0).moved) same v.1)
          (member_back w.0 (table o.0).moved (table o.0).shared w.1))
          (cases_eq u.0 o.0)

  -- what is handed over is held, distinct and apart
  pub can_split : CanSplit p (plan_from ls fs t value 0 n)
  can_split = record { held = held; pieces = pieces; distinct = distinct; apart = apart; number = λ i. room }
