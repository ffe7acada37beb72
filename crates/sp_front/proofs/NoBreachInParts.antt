-- Where a list of broken rules is empty, no part of it has one.
use Rattle.std.proofs.Common.{◌≡◌, refl, ap, sym, ◌∙◌, ℕ, List, [], ◌∷◌, Option, Some, None, Bool, true, false}
use Rattle.std.proofs.Common.{if◌then◌else◌, arith}
use Rattle.std.specs.Prelude.{not, nat_eq}
use Rattle.std.proofs.lemmas.Bool.{not-false}
use Rattle.std.proofs.lemmas.Option.{same_Some}
use Rattle.sp_base.specs.declared.place.Place.{Place}
use Rattle.sp_base.specs.declared.rule.Rule.{Rule}
use Rattle.sp_base.specs.declared.halt.Refusal.{Refusal}
use Rattle.sp_tree.specs.First.{refusal_before}
use Rattle.sp_tree.specs.PhaseResults.{FirstRefusal, refusal_if, earlier_refusal, refusal_list, first_of_refusals}
use Rattle.sp_tree.specs.NameFirst.{both_lists}
use Rattle.sp_types.specs.TypeRules.{unless, differ}

-- the two parts of an empty list
pub none_in_parts : (rs ss : List Refusal) → both_lists rs ss ≡ [] → (rs ≡ []) × (ss ≡ [])
none_in_parts [] ss e = (refl, e)
none_in_parts (r ∷ rs) ss e = absurd (cc e)

pub none_at_site : (f : FirstRefusal) → refusal_list f ≡ [] → f ≡ None
none_at_site None e = refl
none_at_site (Some r) e = absurd (cc e)

-- two sites, and a part before one
pub none_with_site : (rs : List Refusal) (f : FirstRefusal) → both_lists rs (refusal_list f) ≡ [] → (rs ≡ [])
    × (f ≡ None)
none_with_site rs f e = let h = none_in_parts rs (refusal_list f) e in (h.0, none_at_site f h.1)

lesser_some : (a : FirstRefusal) (r : Refusal) → earlier_refusal a (Some r) ≡ None → ⊥
lesser_some None r e = absurd (cc e)
lesser_some (Some x) r e = go (refusal_before r x) e
  where
    go : (b : Bool) → (if b then Some r else Some x) ≡ None → ⊥
    go true e = absurd (cc e)
    go false e = absurd (cc e)

pub none_of_earlier : (a b : FirstRefusal) → earlier_refusal a b ≡ None → (a ≡ None) × (b ≡ None)
none_of_earlier None b e = (refl, e)
none_of_earlier (Some x) None e = absurd (cc e)
none_of_earlier (Some x) (Some y) e = absurd (lesser_some (Some x) y e)

-- what is found of a list that has one is not nothing
taken_some : (rs : List Refusal) (r : Refusal) → first_of_refusals rs (Some r) ≡ None → ⊥
taken_some [] r e = absurd (cc e)
taken_some (s ∷ rs) r e = go (λ x. taken_some rs x) (refusal_before s r) e
  where
    go : ((x : Refusal) → first_of_refusals rs (Some x) ≡ None → ⊥) → (b : Bool)
        → first_of_refusals rs (if b then Some s else Some r) ≡ None
        → ⊥
    go next true e = next s e
    go next false e = next r e

pub none_in_list : (rs : List Refusal) → first_of_refusals rs None ≡ None → rs ≡ []
none_in_list [] e = refl
none_in_list (r ∷ rs) e = absurd (taken_some rs r e)

pub not_if_none : (r : Rule) (at : Place) (b : Bool) → refusal_if r at b ≡ None → b ≡ false
not_if_none r at true e = absurd (cc e)
not_if_none r at false e = refl

pub takes_if_none : (r : Rule) (at : Place) (takes : ℕ → Bool) (o : Option ℕ) (k : ℕ) → o ≡ Some k
    → unless r at takes o ≡ None → takes k ≡ true
takes_if_none r at takes None k e u = absurd (cc e)
takes_if_none r at takes (Some j) k e u = ap takes (sym (same_Some j k e))
    ∙ not-false (takes j) (not_if_none r at (not (takes j)) u)

pub nat_eq_is : (a b : ℕ) → nat_eq a b ≡ true → a ≡ b
nat_eq_is a b e = Prim.grind (arith, e)

-- two known types that don't differ are one
pub same_if_none : (j k : Option ℕ) (a b : ℕ) → j ≡ Some a → k ≡ Some b → differ j k ≡ false → a ≡ b
same_if_none None k a b ja kb d = absurd (cc ja)
same_if_none (Some j) None a b ja kb d = absurd (cc kb)
same_if_none (Some j) (Some k) a b ja kb d = cc (ja, kb, nat_eq_is j k (not-false (nat_eq j k) d))
