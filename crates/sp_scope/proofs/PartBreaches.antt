-- What the walk finds in a part, from what it finds in its own parts.
use Rattle.std.proofs.Common.{◌≡◌, ap, sym, ◌∙◌, subst, [], ◌∷◌, None, Some, Result, Ok, Err}
use Rattle.sp_base.specs.declared.halt.Refusal.{Refusal}
use Rattle.sp_base.specs.declared.halt.Halt.{Halt}
use Rattle.sp_tree.specs.declared.named.Named.{Named}
use Rattle.sp_tree.specs.PhaseResults.{FirstRefusal, AnswersAs, phase_result}
use Rattle.sp_tree.specs.NameFirst.{name_resolution}
use Rattle.sp_tree.specs.Scopes.{empty_local, standard_scope}
use Rattle.sp_tree.specs.NamedTree.{Inside, inside_named, program_tables}
use Rattle.sp_tree.specs.NamedOf as named
use Rattle.sp_tree.specs.PlainSyntax as p
use Rattle.sp_scope.specs.Firsts.{files_first, block_first}

abbrev unwrap : {A : Type 0} → A → Result A Refusal → A
unwrap d (Ok x) = x
unwrap d (Err e) = d

pub inner : {A : Type 0} (x y : A) → ◌≡◌ {A = Result A Refusal} (Ok x) (Ok y) → x ≡ y
inner x y e = ap (unwrap x) e

-- What the walk through a program answers: its tree, and the first rule that its heading or its block breaks.
found_in : (q : p.Program) (f0 : FirstRefusal) (i : Inside) (f : FirstRefusal)
    → f0 ≡ files_first [] q.heading None
    → ◌≡◌ {A = Result (Inside × FirstRefusal) Refusal}
    (Ok (
      inside_named (standard_scope ∷ []) empty_local q.block.parts q.block.body,
      block_first (standard_scope ∷ []) empty_local q.block.parts q.block.body f0,
    )) (Ok (i, f))
    → ◌≡◌ {A = Inside × FirstRefusal} (
      inside_named (standard_scope ∷ []) empty_local q.block.parts q.block.body,
      block_first (standard_scope ∷ []) empty_local q.block.parts q.block.body (files_first [] q.heading None),
    ) (i, f)
found_in q f0 i f b c =
    ap {B = Inside × FirstRefusal} (λ g. (
      inside_named (standard_scope ∷ []) empty_local q.block.parts q.block.body,
      block_first (standard_scope ∷ []) empty_local q.block.parts q.block.body g,
    )) (sym b)
    ∙ inner (
      inside_named (standard_scope ∷ []) empty_local q.block.parts q.block.body,
      block_first (standard_scope ∷ []) empty_local q.block.parts q.block.body f0,
    ) (i, f) c

-- a program that breaks no rule of names, from its heading and its block
pub resolved_found : (r : Result Named Halt) (q : p.Program) (f0 : FirstRefusal) (i : Inside) (f : FirstRefusal)
    → f0 ≡ files_first [] q.heading None
    → ◌≡◌ {A = Result (Inside × FirstRefusal) Refusal}
    (Ok (
      inside_named (standard_scope ∷ []) empty_local q.block.parts q.block.body,
      block_first (standard_scope ∷ []) empty_local q.block.parts q.block.body f0,
    )) (Ok (i, f))
    → f ≡ None
    → AnswersAs named.program_of r (Ok (program_tables q.name i))
    → AnswersAs named.program_of r (name_resolution q)
resolved_found r q f0 i f b c d w =
    subst (λ (z : Inside × FirstRefusal). AnswersAs named.program_of r (phase_result z.1 (program_tables q.name z.0)))
    (sym (found_in q f0 i f b c))
    (subst (λ g. AnswersAs named.program_of r (phase_result g (program_tables q.name i))) (sym d) w)

-- a program that breaks one
pub resolved_refused : (e : Refusal) (q : p.Program) (f0 : FirstRefusal) (i : Inside) (f : FirstRefusal)
    → f0 ≡ files_first [] q.heading None
    → ◌≡◌ {A = Result (Inside × FirstRefusal) Refusal}
    (Ok (
      inside_named (standard_scope ∷ []) empty_local q.block.parts q.block.body,
      block_first (standard_scope ∷ []) empty_local q.block.parts q.block.body f0,
    )) (Ok (i, f))
    → f ≡ Some e
    → name_resolution q ≡ Err e
resolved_refused e q f0 i f b c d =
    ap (λ (z : Inside × FirstRefusal). phase_result z.1 (program_tables q.name z.0)) (found_in q f0 i f b c)
    ∙ ap (λ g. phase_result g (program_tables q.name i)) d
