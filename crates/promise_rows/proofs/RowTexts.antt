-- What a text with a tree of the rows is: its program, and that it breaks no rule.
use Rattle.std.proofs.Common.{◌≡◌, inl, inr, ℕ, ◌<◌, List, Ok, Err, sym, ◌∙◌, ap, subst, arith, Result}
use Rattle.sp_base.specs.declared.halt.Refusal.{Refusal}
use Rattle.sp_code.specs.Places.{tree_length}
use Rattle.sp_front.specs.Checks.{IsChecked, IsProgramOf}
use Rattle.sp_front.proofs.OneAnswer.{OneTree}
use Rattle.sp_tree.specs.Bare.{without_places}
use Rattle.sp_tree.specs.Breaches.{IsFirstBroken, IsTree}
use Rattle.sp_tree.specs.Interferes.{Interferes}
use Rattle.sp_tree.specs.NameFirst.{name_resolution}
use Rattle.sp_tree.specs.Plain as m
use Rattle.sp_tree.specs.PlainChecked as c
use Rattle.sp_tree.specs.PlainNamed as n
use Rattle.sp_tree.specs.PlainSyntax as s
use Rattle.sp_types.specs.TypeFirst.{types_outcome}
use Rattle.superpascal.specs.Texts.{FirstBroken}
use Rattle.promise_rows.specs.Programs.{checked, checked_by, typed_by, writes_42}
use Rattle.promise_rows.proofs.Trees.{writes_keeps}

abbrev then_typed : Result n.Program Refusal → Result c.Program Refusal
then_typed (Ok p) = types_outcome p
then_typed (Err r) = Err r

refused_not_named : (p : n.Program) (r : Refusal) → ◌≡◌ {A = Result n.Program Refusal} (Ok p) (Err r) → ⊥
refused_not_named p r e = cc e

refused_not_typed : (p : c.Program) (r : Refusal) → ◌≡◌ {A = Result c.Program Refusal} (Ok p) (Err r) → ⊥
refused_not_typed p r e = cc e

too_long : (m : ℕ) → m ≡ tree_length (without_places (checked writes_42)) → 1048576 < m → ⊥
too_long m e h = omega (arith, e, h)

module _ (one : OneTree) (text : List ℕ) (tree : s.Program) (t : IsTree text tree) where
  tree_is : (p : c.Program) → IsChecked text p → p ≡ checked tree
  tree_is p (named, (syntax, u, names), types) =
      let same : syntax ≡ tree = one text syntax tree u t in
      let resolved : name_resolution tree ≡ Ok named = ap name_resolution (sym same) ∙ names in
      sym (ap checked_by types) ∙ sym (ap typed_by resolved)

  -- its program
  pub program_is : (p : m.Program) → IsProgramOf text p → p ≡ without_places (checked tree)
  program_is p (found, h, e) = sym e ∙ ap without_places (tree_is found h)

module _ (one : OneTree) (text : List ℕ) (t : IsTree text writes_42) where
  -- it breaks no rule
  pub keeps_rules : ((text : List ℕ) (p : s.Program) (r : Refusal) → IsTree text p → IsFirstBroken text r → ⊥)
      → (r : Refusal) → FirstBroken text r → ⊥
  keeps_rules not_both r (inl (inl (inl h))) = not_both text writes_42 r t h
  keeps_rules not_both r (inl (inl (inr (inl (syntax, u, names))))) =
      refused_not_named _ r (ap name_resolution (sym (one text syntax writes_42 u t)) ∙ names)
  keeps_rules not_both r (inl (inl (inr (inr (named, (syntax, u, names), types))))) =
      let resolved : name_resolution writes_42 ≡ Ok named =
      ap name_resolution (sym (one text syntax writes_42 u t)) ∙ names in
      refused_not_typed (checked writes_42) r (ap then_typed resolved ∙ types)
  keeps_rules not_both r (inl (inr (p, h, first))) =
      writes_keeps r.rule r.at
      (subst (λ z. Interferes z r.rule r.at) (tree_is one text writes_42 t p h) first.breaks)
  keeps_rules not_both r (inr (p, h, long, e)) =
      too_long (tree_length (without_places p))
      (ap (λ z. tree_length (without_places z)) (tree_is one text writes_42 t p h.0)) long
