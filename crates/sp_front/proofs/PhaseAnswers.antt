-- What the phases answer, the phase of interference among them, as one answer about the text.
use Rattle.std.proofs.Common.{◌≡◌, ℕ, List, [], Result, Ok, Err, inl, inr, refl, sym as back_of, ap, ◌∙◌, subst, arith}
use Rattle.std.specs.Result.{IfOk}
use Rattle.sp_base.specs.declared.halt.Halt.{Halt}
use Rattle.sp_base.specs.declared.halt.Refusal.{Refusal}
use Rattle.sp_tree.specs.PlainSyntax as s
use Rattle.sp_tree.specs.PlainChecked as c
use Rattle.sp_tree.specs.CheckedOf as checked
use Rattle.sp_tree.specs.PlainOf as meant
use Rattle.sp_tree.specs.Bare.{without_places, bare_block}
use Rattle.sp_tree.specs.First.{IsFirst}
use Rattle.sp_tree.specs.Interferes.{Interferes}
use Rattle.sp_tree.specs.Interference.{IsFreeOfInterference}
use Rattle.sp_tree.specs.NameFirst.{broken_name_rules}
use Rattle.sp_tree.specs.NamedTree.{program_named}
use Rattle.sp_tree.proofs.RefusalOrder.{one_first}
use Rattle.sp_types.specs.CheckedTree.{program_checked}
use Rattle.sp_front.specs.AcceptedTree.{IsNumberedTree, tree}
use Rattle.sp_front.proofs.TreeAnswers.{names_kept, types_kept}
use Rattle.sp_meaning.specs.LocalWork.{RunInput}
use Rattle.sp_meaning.specs.Runs.{IsDisjointRun}
use Rattle.sp_varsets.specs.AreSets.{HaveEarlierParents, HaveOwnNumbers}
use Rattle.sp_interfere.proofs.BlockLevels.{bare_at}
use Rattle.sp_front.specs.declared.analysis.Accepted.{Accepted}
use Rattle.sp_front.specs.Checks.{IsChecked, FirstBrokenUpToTypes, IsProgramOf}
use Rattle.sp_front.specs.Compiles.{IsAccepted, FirstBrokenOfPhases, Compiles, AcceptedByPhases}
use Rattle.sp_front.proofs.StatementNumbers.{text_numbers_differ}
use Rattle.sp_front.proofs.OwnNumbers.{own_numbers}
use Rattle.sp_front.proofs.TypedAnswers.{Apart}

-- the numbers of blocks and statements in the tree of a text
abbrev pub Numbered : Type 0
Numbered = (p : s.Program) → broken_name_rules p ≡ [] → IsNumberedTree (tree p)

pub parents : Numbered → (text : List ℕ) (p : c.Program) → IsChecked text p → HaveEarlierParents p
parents numbered text p (named, (syntax, is, h), k) b m q e o =
    let x = names_kept syntax named h in
    let y = types_kept named p k in
    let same : program_checked (program_named syntax) ≡ p = ap program_checked x.1 ∙ y.1 in
    let t : IsNumberedTree (without_places p) =
    subst (λ z. IsNumberedTree (without_places z)) same (numbered syntax x.0) in
    let low = t.parents b q (bare_block m) (bare_at p.blocks b m e) o in
    omega arith

pub numbers : (text : List ℕ) (p : c.Program) → IsChecked text p → HaveOwnNumbers p
numbers text p h = own_numbers p (text_numbers_differ text p h)

-- from one phase to the next
abbrev pub OneTree : Type 0
OneTree = (text : List ℕ) (p q : c.Program) → IsChecked text p → IsChecked text q → p ≡ q

pub keeps_all : OneTree → Apart → (text : List ℕ) (result : Result Accepted Halt) → Compiles text result
    → IfOk result (λ a. AcceptedByPhases text)
keeps_all one apart text (Err e) h = tt
keeps_all one apart text (Ok a) ((h, calm), are) = none
  where
    none : (r : Refusal) → FirstBrokenOfPhases text r → ⊥
    none r (inl b) = apart text (checked.program_of a.checked) r h b
    none r (inr (q, k, first)) = calm r.rule r.at
        (subst (λ z. Interferes z r.rule r.at) (one text q (checked.program_of a.checked) k h) first.breaks)

pub programs_of : (text : List ℕ) (result : Result Accepted Halt) → Compiles text result
    → IfOk result (λ a. IsProgramOf text (meant.program_of a.checked))
programs_of text (Err e) h = tt
programs_of text (Ok a) ((h, calm), are) = (checked.program_of a.checked, h, refl)

-- the first rule of all phases is one, and none where the tree is accepted
module _ (one : OneTree) (apart : Apart) (text : List ℕ) where
  pub first_once : ((a b : Refusal) → FirstBrokenUpToTypes text a → FirstBrokenUpToTypes text b → a ≡ b)
      → (a b : Refusal)
      → FirstBrokenOfPhases text a → FirstBrokenOfPhases text b → a ≡ b
  first_once once a b (inl x) (inl y) = once a b x y
  first_once once a b (inl x) (inr (q, k, y)) = absurd (apart text q a k x)
  first_once once a b (inr (p, h, x)) (inl y) = absurd (apart text p b h y)
  first_once once a b (inr (p, h, x)) (inr (q, k, y)) =
      one_first (Interferes q) a b (subst (λ z. IsFirst (Interferes z) a) (one text p q h k) x) y

  pub accepted_apart : (p : c.Program) (r : Refusal) → IsAccepted text p → FirstBrokenOfPhases text r → ⊥
  accepted_apart p r (h, calm) (inl b) = apart text p r h b
  accepted_apart p r (h, calm) (inr (q, k, first)) =
      calm r.rule r.at (subst (λ z. Interferes z r.rule r.at) (one text q p k h) first.breaks)

abbrev pub Free : Type 0
Free = (text : List ℕ) (p : c.Program) → IsAccepted text p → IsFreeOfInterference (without_places p)

pub free_of : Free → (text : List ℕ) (result : Result Accepted Halt) → Compiles text result
    → IfOk result (λ a. IsFreeOfInterference (meant.program_of a.checked))
free_of free text (Err e) h = tt
free_of free text (Ok a) (h, are) = free text (checked.program_of a.checked) h

pub disjoint_of : Free → ((g : RunInput) → IsFreeOfInterference g.program → IsDisjointRun g)
    → (text : List ℕ) (result : Result Accepted Halt) → Compiles text result
    → IfOk result (λ a. (g : RunInput) → g.program ≡ meant.program_of a.checked → IsDisjointRun g)
disjoint_of free keepers text (Err e) h = tt
disjoint_of free keepers text (Ok a) (h, are) =
    λ g e. keepers g (subst IsFreeOfInterference (back_of e) (free text (checked.program_of a.checked) h))
