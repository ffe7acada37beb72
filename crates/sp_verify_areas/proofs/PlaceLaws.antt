-- Whether an instruction may stand where it does, by whose it is.
use Rattle.std.proofs.Common.{◌≡◌, ◌⊎◌, inl, inr, ⊎_elim, refl, ap, sym, ◌∙◌, ℕ, ◌+◌, ◌≤◌, ◌==◌, List, [], ◌∷◌, length}
use Rattle.std.proofs.Common.{Option, Some, true, ◌||◌, arith, eqb-true}
use Rattle.std.specs.Prelude.{not, nat_le}
use Rattle.std.proofs.lemmas.Bool.{le-leb, eq-eqb, and_from, and_parts, not-true, not_from_false, or_cases, or_left}
use Rattle.std.proofs.lemmas.Bool.{or_right}
use Rattle.sp_code.specs.declared.instr.Instr.{Instr}
use Rattle.sp_code.specs.declared.instr.Instr.TheVariants as i
use Rattle.sp_code.specs.declared.code.Parts.{Parts}
use Rattle.sp_verify_areas.specs.declared.owners.Owner.{Owner}
use Rattle.sp_verify_areas.specs.declared.owners.Owner.TheVariants as owner
use Rattle.sp_verify_rules.specs.Areas.{Area, Body, Child, instr_at}
use Rattle.sp_verify_rules.specs.Reach.{IsMember, nexts}
use Rattle.sp_verify_rules.specs.NameRules.{Shared, Misplaced, ends_well}
use Rattle.sp_verify_areas.specs.Owners.{owner_of, IsOnly, Owns}
use Rattle.sp_verify_areas.specs.Placement.{ends_as, has_way, runs_past, fails_placed}

has_in : (q : ℕ) (ns : List ℕ) → has_way q ns ≡ true → IsMember q ns
has_in q [] e = absurd (cc e)
has_in q (r ∷ rs) e = ⊎_elim (λ h. inl (eqb-true q r h)) (λ h. inr (has_in q rs h)) (or_cases (q == r) (has_way q rs) e)

in_has : (q : ℕ) (ns : List ℕ) → IsMember q ns → has_way q ns ≡ true
in_has q [] i = absurd i
in_has q (r ∷ rs) (inl e) = or_left (q == r) (has_way q rs) (eq-eqb q r e)
in_has q (r ∷ rs) (inr i) = or_right (q == r) (has_way q rs) (in_has q rs i)

ends_by : (c : Parts) (a : Area) (o : Option Instr) → ends_as (owner_of a) o ≡ ends_well c a o
ends_by c (Body b) (Some i.Return) = refl
ends_by c (Child a p k) (Some i.Return) = refl
ends_by c (Body b) (Some i.End) = refl
ends_by c (Child a p k) (Some i.End) = refl
ends_by c (Body b) o = refl
ends_by c (Child a p k) o = refl

module _ (c : Parts) (p : ℕ) where
  only_fails : (w : Owner) → IsOnly c p w
      → (runs_past (length c.instrs) p (instr_at c p) || not (ends_as w (instr_at c p))) ≡ true → Shared c p
      ⊎ Misplaced c (ends_well c) p
  only_fails w h e = ⊎_elim past ends
      (or_cases (runs_past (length c.instrs) p (instr_at c p)) (not (ends_as w (instr_at c p))) e)
    where
      reached : nat_le (length c.instrs) (p + 1) ≡ true → length c.instrs ≤ p + 1
      reached l = Prim.grind (arith, l)

      past : runs_past (length c.instrs) p (instr_at c p) ≡ true → Shared c p ⊎ Misplaced c (ends_well c) p
      past r = let b = and_parts (has_way (p + 1) (nexts p (instr_at c p))) (nat_le (length c.instrs) (p + 1)) r in inl
          (h.area, h.lies, inr (has_in (p + 1) (nexts p (instr_at c p)) b.0, reached b.1))

      ends : not (ends_as w (instr_at c p)) ≡ true → Shared c p ⊎ Misplaced c (ends_well c) p
      ends f = inr (
        h.area,
        h.lies,
        sym (ends_by c h.area (instr_at c p))
            ∙ ap (λ (z : Owner). ends_as z (instr_at c p)) h.owner_is ∙ not-true (ends_as w (instr_at c p)) f,
      )

  fails_only : (w : Owner) → IsOnly c p w → Shared c p ⊎ Misplaced c (ends_well c) p
      → (runs_past (length c.instrs) p (instr_at c p) || not (ends_as w (instr_at c p))) ≡ true
  fails_only w h (inl (a, lies, inl (b, k, d))) = absurd (d (h.only a lies ∙ sym (h.only b k)))
  fails_only w h (inl (a, lies, inr (i, l))) =
      or_left (runs_past (length c.instrs) p (instr_at c p)) (not (ends_as w (instr_at c p)))
      (and_from (has_way (p + 1) (nexts p (instr_at c p))) (nat_le (length c.instrs) (p + 1))
      (in_has (p + 1) (nexts p (instr_at c p)) i) (le-leb (length c.instrs) (p + 1) l))
  fails_only w h (inr (a, lies, f)) =
      let s : a ≡ h.area = h.only a lies in
      or_right (runs_past (length c.instrs) p (instr_at c p)) (not (ends_as w (instr_at c p)))
      (not_from_false (ends_as w (instr_at c p)) (ap (λ (z : Owner). ends_as z (instr_at c p)) (sym h.owner_is
      ∙ ap owner_of (sym s)) ∙ ends_by c a (instr_at c p) ∙ f))

  pub is_misplaced : (w : Owner) → Owns c p w → fails_placed (length c.instrs) p (instr_at c p) w ≡ true → Shared c p
      ⊎ Misplaced c (ends_well c) p
  is_misplaced owner.Nobody h e = absurd (cc e)
  is_misplaced (owner.Block b) h e = only_fails (owner.Block b) h e
  is_misplaced (owner.Child q k) h e = only_fails (owner.Child q k) h e
  is_misplaced owner.Several h e = inl (h.first, h.lies, inl (h.second, h.too, h.apart))

  pub misplaced_is : (w : Owner) → Owns c p w → Shared c p ⊎ Misplaced c (ends_well c) p
      → fails_placed (length c.instrs) p (instr_at c p) w ≡ true
  misplaced_is owner.Nobody h (inl (a, lies, rest)) = absurd (h a lies)
  misplaced_is owner.Nobody h (inr (a, lies, f)) = absurd (h a lies)
  misplaced_is (owner.Block b) h z = fails_only (owner.Block b) h z
  misplaced_is (owner.Child q k) h z = fails_only (owner.Child q k) h z
  misplaced_is owner.Several h z = refl
