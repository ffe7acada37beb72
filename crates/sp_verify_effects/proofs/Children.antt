-- Each child of a table is the area of its own of one instruction, where V1 is nowhere broken.
use Rattle.std.proofs.Common.{◌≡◌, ◌⊎◌, inl, inr, refl, ap, sym, ◌∙◌, subst, ℕ, zero, suc, ◌<◌, ◌==◌, List, [], ◌∷◌}
use Rattle.std.proofs.Common.{length, Option, Some, None, Bool, true, false, arith, eqb-true}
use Rattle.std.specs.Prelude.{slice_get}
use Rattle.std.proofs.lemmas.Bool.{eq-eqb}
use Rattle.std.proofs.lemmas.Option.{slice_get_within, none-some, same_Some}
use Rattle.sp_base.proofs.Facts.{item_there, not_true_and_false}
use Rattle.sp_code.specs.declared.instr.Instr.{Instr}
use Rattle.sp_code.specs.declared.code.ChildTable.{ChildTable}
use Rattle.sp_code.specs.declared.code.ForkTable.{ForkTable}
use Rattle.sp_code.specs.declared.code.Parts.{Parts}
use Rattle.sp_verify_rules.specs.Areas.{Area, Child, table_named, table_at, child_of, child_at}
use Rattle.sp_verify_rules.specs.Reach.{IsArea}
use Rattle.sp_verify_rules.specs.NameRules.{BreaksV1, TableUnnamed, LiesIn, Names, IsChild}
use Rattle.sp_verify_areas.specs.declared.owners.Owner.{Owner}
use Rattle.sp_verify_areas.specs.declared.owners.Owner.TheVariants as owner
use Rattle.sp_verify_areas.specs.Owners.{AreOwners, Owns}
use Rattle.sp_verify_areas.proofs.OwnerClosure.{named_within}

pub table_there : (fs : List ForkTable) (t k : ℕ) (ch : ChildTable) → child_of (slice_get fs t) k ≡ Some ch
    → (tb : ForkTable) × (slice_get fs t ≡ Some tb) × (slice_get tb.children k ≡ Some ch)
table_there fs t k ch h = go (slice_get fs t) refl h
  where
    go : (o : Option ForkTable) → slice_get fs t ≡ o → child_of o k ≡ Some ch → (tb : ForkTable)
        × (slice_get fs t ≡ Some tb) × (slice_get tb.children k ≡ Some ch)
    go None e h = absurd (none-some ch h)
    go (Some tb) e h = (tb, e, h)

pub name_there : (fs : List ForkTable) (o : Option ℕ) (k : ℕ) (ch : ChildTable) → child_of (table_at fs o) k ≡ Some ch
    → (t : ℕ) × (o ≡ Some t)
name_there fs None k ch e = absurd (none-some ch e)
name_there fs (Some t) k ch e = (t, refl)

-- an instruction names a table, or none does
is_name : (t : ℕ) (o : Option ℕ) → (o ≡ Some t) ⊎ (o ≡ Some t → ⊥)
is_name t None = inr (λ e. none-some t e)
is_name t (Some u) = go (u == t) refl
  where
    go : (b : Bool) → u == t ≡ b → (Some u ≡ Some t) ⊎ (Some u ≡ Some t → ⊥)
    go true e = inl (ap Some (eqb-true u t e))
    go false e = inr (λ h. not_true_and_false (u == t) (eq-eqb u t (same_Some u t h)) e)

name_in : (t : ℕ) (os : List Instr) → ((q : ℕ) × (table_named (slice_get os q) ≡ Some t))
    ⊎ ((q : ℕ) → table_named (slice_get os q) ≡ Some t → ⊥)
name_in t [] = inr (λ q e. none-some t e)
name_in t (o ∷ os) = go (is_name t (table_named (Some o))) (name_in t os)
  where
    no : (table_named (Some o) ≡ Some t → ⊥) → ((q : ℕ) → table_named (slice_get os q) ≡ Some t → ⊥) → (q : ℕ)
        → table_named (slice_get (o ∷ os) q) ≡ Some t → ⊥
    no f g zero e = f e
    no f g (suc q) e = g q e

    go : (table_named (Some o) ≡ Some t) ⊎ (table_named (Some o) ≡ Some t → ⊥)
        → ((q : ℕ) × (table_named (slice_get os q) ≡ Some t)) ⊎ ((q : ℕ) → table_named (slice_get os q) ≡ Some t → ⊥)
        → ((q : ℕ) × (table_named (slice_get (o ∷ os) q) ≡ Some t))
        ⊎ ((q : ℕ) → table_named (slice_get (o ∷ os) q) ≡ Some t → ⊥)
    go (inl e) s = inl (zero, e)
    go (inr f) (inl r) = inl (suc r.0, r.1)
    go (inr f) (inr g) = inr (no f g)

-- a child by the instruction that makes it
pub record IsOf (c : Parts) (t k : ℕ) (ch : ChildTable) : Type 0 where
  pub around : Area
  pub position : ℕ
  pub names : Names c t position
  pub there : IsArea c (Child around position k)
  pub child : child_at c position k ≡ Some ch

pub child_by : (c : Parts) (t q k : ℕ) (ch : ChildTable) → Names c t q → IsChild c t k ch → child_at c q k ≡ Some ch
child_by c t q k ch n h = ap (λ (o : Option ℕ). child_of (table_at c.forks o) k) n ∙ h

module _ (c : Parts) (kept : (p : ℕ) → BreaksV1 c p → ⊥) (os : List Owner) (own : AreOwners c os) where
  by_owner : (q : ℕ) (w : Owner) → Owns c q w → ((a : Area) × LiesIn c q a) ⊎ ((a : Area) → LiesIn c q a → ⊥)
  by_owner q owner.Nobody h = inr h
  by_owner q (owner.Block b) h = inl (h.area, h.lies)
  by_owner q (owner.Child p k) h = inl (h.area, h.lies)
  by_owner q owner.Several h = inl (h.first, h.lies)

  pub area_of : (q : ℕ) → q < length c.instrs → ((a : Area) × LiesIn c q a) ⊎ ((a : Area) → LiesIn c q a → ⊥)
  area_of q l = let r = item_there os q (subst (λ n. q < n) (sym own.0) l) in by_owner q r.0 (own.1 q r.0 r.1)

  first_child : (t k : ℕ) (ch : ChildTable) → IsChild c t k ch → (d : ChildTable) × IsChild c t 0 d
  first_child t k ch h =
      let r = table_there c.forks t k ch h in
      let n = slice_get_within r.0.children k ch r.2 in
      let f = item_there r.0.children 0 (omega (arith, n)) in
      (f.0, ap (λ (o : Option ForkTable). child_of o 0) r.1 ∙ f.1)

  pub child_area : (t k : ℕ) (ch : ChildTable) → IsChild c t k ch → IsOf c t k ch
  child_area t k ch h = go (name_in t c.instrs)
    where
      in_area : (q : ℕ) → Names c t q → ((a : Area) × LiesIn c q a) ⊎ ((a : Area) → LiesIn c q a → ⊥) → IsOf c t k ch
      in_area q n (inl (area, lies)) = let e = child_by c t q k ch n h in
          record { around = area; position = q; names = n; there = (lies.0, lies.1, (ch, e)); child = e }
      in_area q n (inr f) = let d = first_child t k ch h in absurd
          (kept d.0.entry (TableUnnamed (t, d.0, d.1, refl, inr (inr (q, n, f)))))

      go : ((q : ℕ) × Names c t q) ⊎ ((q : ℕ) → Names c t q → ⊥) → IsOf c t k ch
      go (inl r) = in_area r.0 r.1 (area_of r.0 (named_within c t r.0 r.1))
      go (inr f) = let d = first_child t k ch h in absurd (kept d.0.entry (TableUnnamed (t, d.0, d.1, refl, inl f)))
