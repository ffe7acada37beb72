-- No two statements of the checked tree of a text have one number.
use Rattle.std.proofs.Common.{◌≡◌, ℕ, List, [], ◌∷◌, ◌++◌, Some, None, Result, Ok, Err, refl, sym as back_of, ap, ap₂}
use Rattle.std.proofs.Common.{◌∙◌, subst}
use Rattle.sp_base.specs.declared.place.Place.{Place}
use Rattle.sp_base.specs.declared.halt.Refusal.{Refusal}
use Rattle.sp_tree.specs.PhaseResults.{FirstRefusal, phase_result}
use Rattle.sp_tree.specs.PlainSyntax as s
use Rattle.sp_tree.specs.PlainNamed as n
use Rattle.sp_tree.specs.PlainChecked as c
use Rattle.sp_tree.specs.Scopes.{Scope, Local}
use Rattle.sp_tree.specs.NameFirst.{names_first}
use Rattle.sp_tree.specs.NamedTree.{named_statement, parts_named, part_named, program_named}
use Rattle.sp_types.specs.TypeFirst.{types_first}
use Rattle.sp_types.specs.TypeWalk.{statement_place}
use Rattle.sp_types.specs.CheckedTree.{program_checked}
use Rattle.sp_types.specs.StatementNumbers.{AllDiffer, blocks_numbers, body_places}
use Rattle.sp_types.proofs.StatementNumbers.{numbers_differ}
use Rattle.sp_front.specs.Checks.{IsChecked}
use Rattle.sp_front.proofs.BodyPlaces.{place_of, parts_places, part_places, places_of_bodies}

places_both : (bs cs : List n.Block) → body_places (bs ++ cs) ≡ body_places bs ++ body_places cs
places_both [] cs = refl
places_both (b ∷ bs) cs = ap (λ (l : List Place). statement_place b.body ∷ l) (places_both bs cs)

-- a statement with numbers for names stands where it stood
same_place : (around : List Scope) (l : Local) (a : s.Statement)
    → statement_place (named_statement around l a) ≡ place_of a
same_place around l (s.Does at form) = refl

mutual
  parts_same : (around : List Scope) (l : Local) (ps : s.Parts)
      → body_places (parts_named around l ps).blocks ≡ parts_places ps
  parts_same around l s.NoPart = refl
  parts_same around l (s.Declare p rest) =
      places_both (part_named around l p).blocks _
      ∙ ap₂ (λ (x y : List Place). x ++ y) (part_same around l p) (parts_same around _ rest)

  part_same : (around : List Scope) (l : Local) (p : s.Part)
      → body_places (part_named around l p).blocks ≡ part_places p
  part_same around l (s.Const x v) = refl
  part_same around l (s.Kind x k) = refl
  part_same around l (s.Var xs t) = refl
  part_same around l (s.Proc x fs answer parts body) =
      ap₂ (λ (p : Place) (q : List Place). p ∷ q) (same_place _ _ body) (parts_same _ _ parts)

program_same : (p : s.Program) → body_places (program_named p).blocks ≡ place_of p.block.body
    ∷ parts_places p.block.parts
program_same p = ap₂ (λ (x : Place) (y : List Place). x ∷ y) (same_place _ _ p.block.body)
    (parts_same _ _ p.block.parts)

-- what a phase gives is its tree
pub given : {A : Type 0} (f : FirstRefusal) (x y : A) → phase_result f x ≡ Ok y → x ≡ y
given None x y e = cc
given (Some r) x y e = absurd (never x r y e)
  where
    never : {A : Type 0} (x : A) (r : Refusal) (y : A) → ◌≡◌ {A = Result A Refusal} (Err r) (Ok y) → ⊥
    never x r y e = cc

pub text_numbers_differ : (text : List ℕ) (p : c.Program) → IsChecked text p → AllDiffer (blocks_numbers p.blocks)
text_numbers_differ text p (named, (tree, t, e), f) =
    let is_named : program_named tree ≡ named = given (names_first tree) (program_named tree) named e in
    let is_checked : program_checked named ≡ p = given (types_first named) (program_checked named) p f in
    let places = subst AllDiffer (back_of (program_same tree)) (places_of_bodies text tree t) in
    subst (λ (q : c.Program). AllDiffer (blocks_numbers q.blocks)) is_checked
    (numbers_differ named (subst (λ (q : n.Program). AllDiffer (body_places q.blocks)) is_named places))
