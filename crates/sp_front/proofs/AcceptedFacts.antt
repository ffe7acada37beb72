-- A text that breaks no rule has a formed tree that is free of interference, with fine blocks.
use Rattle.std.proofs.Common.{◌≡◌, sym, ◌∙◌, ap, subst, ℕ, List, [], Some, slice_get}
use Rattle.sp_tree.specs.PlainSyntax as syntax
use Rattle.sp_tree.specs.PlainChecked as c
use Rattle.sp_tree.specs.Plain as plain
use Rattle.sp_tree.specs.Plain.{Stmt}
use Rattle.sp_tree.specs.Viable.{Any}
use Rattle.sp_tree.specs.Bare.{without_places}
use Rattle.sp_tree.specs.TreeShape.{IsFormed}
use Rattle.sp_tree.specs.Breaches.{IsTree}
use Rattle.sp_tree.specs.NamedTree.{program_named}
use Rattle.sp_tree.specs.NameFirst.{broken_name_rules}
use Rattle.sp_tree.specs.Interference.{IsFreeOfInterference}
use Rattle.sp_types.specs.TypeFirst.{types_broken}
use Rattle.sp_types.specs.CheckedTree.{program_checked}
use Rattle.sp_code.specs.Sizes.{HasSmallTypes}
use Rattle.sp_code.specs.CodeOfTree.{IsSoundBlock}
use Rattle.sp_code.specs.NeverStops.{NeverStops}
use Rattle.sp_front.specs.AcceptedTree.{KeepsInterference, IsAccepted}
use Rattle.sp_front.proofs.SoundBlocks.{block_fine}
use Rattle.sp_front.proofs.BlockIndices.{indices_typed}
use Rattle.sp_front.proofs.TablesKnow.{knows}
use Rattle.sp_front.proofs.Enumerations.{program_given}
use Rattle.sp_front.proofs.Results.{program_answers}
use Rattle.sp_front.proofs.TreeAnswers.{names_kept, types_kept}
use Rattle.sp_front.proofs.Unbroken.{program_free, function_is_silent}
use Rattle.sp_front.proofs.Grammatical.{program_full}
use Rattle.sp_front.proofs.SmallTypes.{types_small}
use Rattle.sp_front.proofs.TreeFormed.{program_formed}

-- what is said of the checked tree of a tree that breaks no rule of names and none of types holds of an accepted one
accepted_by : (P : c.Program → Type 0) (text : List ℕ) (g : c.Program) → IsAccepted text g
    → ((s : syntax.Program) → IsTree text s → broken_name_rules s ≡ [] → types_broken (program_named s) ≡ []
    → KeepsInterference (program_checked (program_named s)) → P (program_checked (program_named s))) → P g
accepted_by P text g ((m, (s, is, resolves), types), kept) h =
    let names = names_kept s m resolves in
    let at = types_kept m g types in
    let same : program_checked (program_named s) ≡ g = ap program_checked names.1 ∙ at.1 in
    subst P same (h s is names.0 (ap types_broken names.1 ∙ at.0) (subst KeepsInterference (sym same) kept))

module _ (s : syntax.Program) (calm : broken_name_rules s ≡ []) (no_types : types_broken (program_named s) ≡ [])
    (kept : KeepsInterference (program_checked (program_named s))) where
  abbrev p_ : plain.Program
  p_ = without_places (program_checked (program_named s))

  fine : (moves shares : Stmt → List ℕ) (f q : ℕ) (b : plain.Block) → slice_get p_.blocks f ≡ Some b
      → IsSoundBlock p_ moves shares (NeverStops p_) f q b
  fine moves shares f q b at = block_fine s calm no_types (program_free s calm kept)
      (λ f x b at ans. function_is_silent (program_checked (program_named s)) kept f x b at ans)
      (knows s calm no_types (program_given s calm) (program_answers s calm no_types)) (indices_typed s calm) moves
      shares f q b at

pub accepted_fine : (text : List ℕ) (g : c.Program) → IsAccepted text g
    → (moves shares : Stmt → List ℕ) (f q : ℕ) (b : plain.Block) → slice_get (without_places g).blocks f ≡ Some b
    → IsSoundBlock (without_places g) moves shares (NeverStops (without_places g)) f q b
accepted_fine text g accepted moves shares f q b at =
    accepted_by (λ (z : c.Program). slice_get (without_places z).blocks f ≡ Some b
    → IsSoundBlock (without_places z) moves shares (NeverStops (without_places z)) f q b) text g accepted
    (λ s is calm no_types kept at. fine s calm no_types kept moves shares f q b at) at

pub accepted_free : (text : List ℕ) (g : c.Program) → IsAccepted text g → IsFreeOfInterference (without_places g)
accepted_free text g accepted = accepted_by (λ (z : c.Program). IsFreeOfInterference (without_places z)) text g accepted
    (λ s is calm no_types kept. program_free s calm kept)

pub accepted_small : (text : List ℕ) (g : c.Program) → IsAccepted text g → HasSmallTypes (without_places g)
accepted_small text g accepted = accepted_by (λ (z : c.Program). HasSmallTypes (without_places z)) text g accepted
    (λ s is calm no_types kept. types_small s no_types)

pub accepted_formed : (text : List ℕ) (g : c.Program) → IsAccepted text g → IsFormed (without_places g)
accepted_formed text g accepted = accepted_by (λ (z : c.Program). IsFormed (without_places z)) text g accepted
    (λ s is calm no_types kept. (let full = program_full text Any is.spells in
    program_formed s calm no_types full.0 full.1
    (λ f b at. fine s calm no_types kept (λ z. []) (λ z. []) f 0 b at)))
