-- The phases together give one answer.
use Rattle.std.proofs.Common.{◌≡◌, ℕ, List, Result, Ok, Err, inl, inr, sym as back_of, ap, ◌∙◌, subst}
use Rattle.sp_base.specs.declared.halt.Refusal.{Refusal}
use Rattle.sp_tree.specs.PlainSyntax as s
use Rattle.sp_tree.specs.PlainNamed as n
use Rattle.sp_tree.specs.Breaches.{IsTree, IsFirstBroken}
use Rattle.sp_tree.specs.NameFirst.{name_resolution}
use Rattle.sp_tree.specs.PlainChecked as c
use Rattle.sp_types.specs.TypeFirst.{types_outcome}
use Rattle.sp_tree.specs.Bare.{without_places}
use Rattle.sp_tree.specs.Plain as m
use Rattle.sp_scope.proofs.PartBreaches.{inner}
use Rattle.sp_front.specs.Checks.{HasNamedTree, IsChecked, IsProgramOf, BreaksNames, BreaksTypes, FirstBrokenUpToTypes}

-- what the characters and the grammar say
abbrev pub OneTree : Type 0
OneTree = (text : List ℕ) (p q : s.Program) → IsTree text p → IsTree text q → p ≡ q

abbrev pub OneRefusal : Type 0
OneRefusal = (text : List ℕ) (a b : Refusal) → IsFirstBroken text a → IsFirstBroken text b → a ≡ b

abbrev pub NotBoth : Type 0
NotBoth = (text : List ℕ) (p : s.Program) (r : Refusal) → IsTree text p → IsFirstBroken text r → ⊥

abbrev refusal_or : {A : Type 0} → Refusal → Result A Refusal → Refusal
refusal_or r (Ok y) = r
refusal_or r (Err s) = s

abbrev IsOk : {A : Type 0} → Result A Refusal → Type 0
IsOk (Ok x) = Unit {0}
IsOk (Err r) = ⊥

same_refusal : {A : Type 0} (a b : Refusal) → ◌≡◌ {A = Result A Refusal} (Err a) (Err b) → a ≡ b
same_refusal a b e = ap (refusal_or a) e

never_both : {A : Type 0} (x : A) (r : Refusal) → ◌≡◌ {A = Result A Refusal} (Ok x) (Err r) → ⊥
never_both x r e = subst IsOk e tt

-- a phase gives one answer to one tree
onward : {A B : Type 0} (phase : A → Result B Refusal) (p q : A) (x y : Result B Refusal) → p ≡ q → phase p ≡ x
    → phase q ≡ y → x ≡ y
onward phase p q x y e h k = back_of h ∙ (ap phase e ∙ k)

module _ (one : OneTree) (text : List ℕ) where
  named_once : (p q : n.Program) → HasNamedTree text p → HasNamedTree text q → p ≡ q
  named_once p q (t, h, x) (u, k, y) = inner p q (onward name_resolution t u (Ok p) (Ok q) (one text t u h k) x y)

  pub checked_once : (p q : c.Program) → IsChecked text p → IsChecked text q → p ≡ q
  checked_once p q (m, h, x) (o, k, y) = inner p q (onward types_outcome m o (Ok p) (Ok q) (named_once m o h k) x y)

  pub program_once : (p q : m.Program) → IsProgramOf text p → IsProgramOf text q → p ≡ q
  program_once p q (t, h, x) (u, k, y) = back_of x ∙ (ap without_places (checked_once t u h k) ∙ y)

  named_or_broken : (p : n.Program) (r : Refusal) → HasNamedTree text p → BreaksNames text r → ⊥
  named_or_broken p r (t, h, x) (u, k, y) =
      never_both p r (onward name_resolution t u (Ok p) (Err r) (one text t u h k) x y)

  names_once : (a b : Refusal) → BreaksNames text a → BreaksNames text b → a ≡ b
  names_once a b (t, h, x) (u, k, y) =
      same_refusal a b (onward name_resolution t u (Err a) (Err b) (one text t u h k) x y)

  types_once : (a b : Refusal) → BreaksTypes text a → BreaksTypes text b → a ≡ b
  types_once a b (m, h, x) (o, k, y) =
      same_refusal a b (onward types_outcome m o (Err a) (Err b) (named_once m o h k) x y)

  types_or_not : (p : c.Program) (r : Refusal) → IsChecked text p → BreaksTypes text r → ⊥
  types_or_not p r (m, h, x) (o, k, y) =
      never_both p r (onward types_outcome m o (Ok p) (Err r) (named_once m o h k) x y)

  pub refused_once : OneRefusal → NotBoth → (a b : Refusal) → FirstBrokenUpToTypes text a → FirstBrokenUpToTypes text b
      → a ≡ b
  refused_once first both a b (inl x) (inl y) = first text a b x y
  refused_once first both a b (inl x) (inr (inl (u, k, y))) = absurd (both text u a k x)
  refused_once first both a b (inl x) (inr (inr (o, (u, k, y), z))) = absurd (both text u a k x)
  refused_once first both a b (inr (inl (t, h, x))) (inl y) = absurd (both text t b h y)
  refused_once first both a b (inr (inl x)) (inr (inl y)) = names_once a b x y
  refused_once first both a b (inr (inl x)) (inr (inr (o, k, y))) = absurd (named_or_broken o a k x)
  refused_once first both a b (inr (inr (m, (t, h, x), z))) (inl y) = absurd (both text t b h y)
  refused_once first both a b (inr (inr (m, h, x))) (inr (inl y)) = absurd (named_or_broken m b h y)
  refused_once first both a b (inr (inr x)) (inr (inr y)) = types_once a b x y

  pub kept_or_broken : NotBoth → (p : c.Program) (r : Refusal) → IsChecked text p → FirstBrokenUpToTypes text r → ⊥
  kept_or_broken both p r (m, (t, h, x), z) (inl y) = both text t r h y
  kept_or_broken both p r (m, h, x) (inr (inl y)) = named_or_broken m r h y
  kept_or_broken both p r x (inr (inr y)) = types_or_not p r x y
