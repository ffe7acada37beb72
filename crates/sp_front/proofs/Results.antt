-- The result of a function is of an ordinal type.
use Rattle.std.proofs.Common.{◌≡◌, refl, ap, sym, ◌∙◌, subst, ℕ, zero, suc, ◌+◌, List, [], ◌∷◌, Option, Some, None}
use Rattle.std.proofs.Common.{true, length, slice_get, arith}
use Rattle.std.proofs.lemmas.Option.{same_Some}
use Rattle.sp_base.specs.declared.rule.Rule.TheVariants as rule
use Rattle.sp_tree.specs.declared.checked.Variable as checked
use Rattle.sp_tree.specs.declared.named.NamedAnswer.{NamedAnswer}
use Rattle.sp_tree.specs.PhaseResults.{refusal_list}
use Rattle.sp_tree.specs.NameFirst.{both_lists, broken_name_rules}
use Rattle.sp_tree.specs.Cells.{sizes}
use Rattle.sp_tree.specs.Plain as plain
use Rattle.sp_tree.specs.PlainSyntax as syntax
use Rattle.sp_tree.specs.PlainNamed as n
use Rattle.sp_tree.specs.PlainNamed.{Statement, Does, Form, Empty, Assign, Call, Perform, Sequence, If, While, Repeat}
use Rattle.sp_tree.specs.PlainNamed.{Case, For, Parallel, Forall, Assume, NoElse, Else, Statements, NoStatement}
use Rattle.sp_tree.specs.PlainNamed.{AndThen, On, Arms, NoArm, Or, Branches, NoBranch, Beside}
use Rattle.sp_types.specs.Tables.{Env, table_entry, variable_kind, with_next_number, with_index_type, env_of}
use Rattle.sp_types.specs.Tables.{numbers_of, constants_of}
use Rattle.sp_types.specs.Tables.{answer_variable}
use Rattle.sp_types.specs.TypeRules.{is_ordinal, ordinal, answer_rule, frame_rule, frame_cells}
use Rattle.sp_types.specs.TypeFirst.{types_broken}
use Rattle.sp_types.specs.Kinds.{expression_kind}
use Rattle.sp_types.specs.TypeWalk as w
use Rattle.sp_types.specs.TypeWalk.{statement_after, statements_after, arms_after, branches_after, form_after}
use Rattle.sp_types.specs.TypeWalk.{with_first_number, starts_of}
use Rattle.sp_code.specs.CodeOfTree.{NoIndex}
use Rattle.sp_front.proofs.NoBreachInParts.{none_in_parts, none_at_site, takes_if_none}
use Rattle.sp_front.proofs.IndexTypes.{AreSpans, others_stay}
use Rattle.sp_front.proofs.Program.{named, tree, results}
use Rattle.sp_front.proofs.BlockIndices.{spans}
use Rattle.sp_front.proofs.Tree.{block_from, starts_length}
use Rattle.sp_front.proofs.TablesKnow.{variable_is_of}

-- ---- the types stay as they are

abbrev SameKinds : Env → Env → Type 0
SameKinds a b = b.kinds ≡ a.kinds

mutual
  pub statement_kinds : (env : Env) (s : Statement) → SameKinds env (statement_after env s)
  statement_kinds env (Does at form) = form_kinds (with_next_number env) form

  form_kinds : (env : Env) (form : Form) → SameKinds env (form_after env form)
  form_kinds env Empty = refl
  form_kinds env (Assign v e) = refl
  form_kinds env (Call f args) = refl
  form_kinds env (Perform f args) = refl
  form_kinds env (Sequence ss) = statements_kinds env ss
  form_kinds env (If e a NoElse) = statement_kinds env a
  form_kinds env (If e a (Else b)) = statement_kinds (statement_after env a) b ∙ statement_kinds env a
  form_kinds env (While e a) = statement_kinds env a
  form_kinds env (Repeat ss e) = statements_kinds (with_next_number env) ss
  form_kinds env (Case e arms) = arms_kinds env arms
  form_kinds env (For x at from down to a) = statement_kinds env a
  form_kinds env (Parallel bs) = branches_kinds env bs
  form_kinds env (Forall x from to a) = statement_kinds (with_index_type env x (expression_kind env from)) a
  form_kinds env (Assume e) = refl

  pub statements_kinds : (env : Env) (ss : Statements) → SameKinds env (statements_after env ss)
  statements_kinds env NoStatement = refl
  statements_kinds env (AndThen a rest) = statements_kinds (statement_after env a) rest ∙ statement_kinds env a

  arms_kinds : (env : Env) (arms : Arms) → SameKinds env (arms_after env arms)
  arms_kinds env NoArm = refl
  arms_kinds env (Or (On cs a) rest) = arms_kinds (statement_after env a) rest ∙ statement_kinds env a

  branches_kinds : (env : Env) (bs : Branches) → SameKinds env (branches_after env bs)
  branches_kinds env NoBranch = refl
  branches_kinds env (Beside ss rest) = branches_kinds (statements_after (with_next_number env) ss) rest
      ∙ statements_kinds (with_next_number env) ss

-- ---- over the blocks

answers_ordinal : (p : plain.Program) (numbers cells : List ℕ) (variables : List checked.Variable) (k : ℕ) (env : Env)
    (starts : List ℕ) (bs : List n.Block) → env.kinds ≡ p.kinds → length starts ≡ length bs → AreSpans p k bs
    → w.blocks_sites [] both_lists refusal_list numbers cells variables k env starts bs ≡ []
    → (i : ℕ) (b : n.Block) (a : NamedAnswer) (v : plain.Variable) → slice_get bs i ≡ Some b → b.answer ≡ Some a
    → slice_get p.variables a.variable ≡ Some v → NoIndex v.role → variable_kind env a.variable ≡ Some v.kind
    → is_ordinal (slice_get p.kinds v.kind) ≡ true
answers_ordinal p numbers cells variables k env starts [] same len spans calm i b a v e ans at d known = absurd (cc e)
answers_ordinal p numbers cells variables k env [] (c ∷ bs) same len spans calm i b a v e ans at d known =
    absurd (omega (arith, len))
answers_ordinal p numbers cells variables k env (z ∷ starts) (c ∷ bs) same len spans calm zero b a v e ans at d known =
    let two = none_in_parts (w.block_sites [] both_lists refusal_list numbers cells variables k
    (with_first_number env z) c)
    (w.blocks_sites [] both_lists refusal_list numbers cells variables (k + 1)
    (statement_after (with_first_number env z) c.body)
    starts bs) calm in
    let one = none_in_parts (refusal_list (frame_rule c.at (frame_cells numbers cells k variables)))
    (both_lists (w.answer_sites [] both_lists refusal_list (with_first_number env z) c.answer)
    (w.statement_sites [] both_lists refusal_list (with_first_number env z) c.body)) two.0 in
    let mine = (none_in_parts (w.answer_sites [] both_lists refusal_list (with_first_number env z) c.answer)
    (w.statement_sites [] both_lists refusal_list (with_first_number env z) c.body) one.1).0 in
    let is : c.answer ≡ Some a = ap (λ (y : n.Block). y.answer) (same_Some c b e) ∙ ans in
    let rule_ = none_at_site
    (answer_rule (with_first_number env z) a.at (variable_kind (with_first_number env z) a.variable))
    (subst (λ y. w.answer_sites [] both_lists refusal_list (with_first_number env z) y ≡ []) is mine) in
    subst (λ ks. is_ordinal (slice_get ks v.kind) ≡ true) same
    (takes_if_none rule.Y14 a.at (ordinal (with_first_number env z))
    (variable_kind (with_first_number env z) a.variable) v.kind known
    rule_)
answers_ordinal p numbers cells variables k env (z ∷ starts) (c ∷ bs) same len (span, spans) calm (suc i) b a v e ans at
    d known =
    let next = statement_after (with_first_number env z) c.body in
    let two = none_in_parts (w.block_sites [] both_lists refusal_list numbers cells variables k
    (with_first_number env z) c)
    (w.blocks_sites [] both_lists refusal_list numbers cells variables (k + 1) next starts bs) calm in
    let stays = others_stay p k env (z ∷ []) (c ∷ []) a.variable v at d (span, tt) in
    answers_ordinal p numbers cells variables (suc k) next starts bs (statement_kinds (with_first_number env z) c.body
    ∙ same)
    (omega (arith, len)) spans
    (subst (λ y. w.blocks_sites [] both_lists refusal_list numbers cells variables y next starts bs ≡ [])
    (let y : k + 1 ≡ suc k = omega arith in y) two.1) i b a v e ans at d (ap table_entry stays ∙ known)

-- ---- the program

pub program_answers : (s : syntax.Program) (calm : broken_name_rules s ≡ []) → types_broken (named s calm) ≡ []
    → (f : ℕ) (b : plain.Block) (x : ℕ) (v : plain.Variable) → slice_get (tree s calm).blocks f ≡ Some b
    → b.answer ≡ Some x → slice_get (tree s calm).variables x ≡ Some v
    → is_ordinal (slice_get (tree s calm).kinds v.kind) ≡ true
program_answers s calm no_types f b x v at ans vat =
    let n_ = named s calm in
    let p_ = tree s calm in
    let (nb, nb_at, _, _, answer_is) = block_from (env_of n_) (starts_of n_.blocks) n_.blocks f b at in
    let a = answer_from nb.answer x (sym answer_is ∙ ans) in
    let w_ = results s calm f b x at ans in
    let d = subst NoIndex (sym (ap (λ (z : plain.Variable). z.role) (same_Some v w_.0 (sym vat ∙ w_.1)) ∙ w_.2)) tt in
    let known = variable_is_of s calm x v vat d in
    let rest = w.blocks_sites [] both_lists refusal_list (numbers_of n_) (sizes (env_of n_).kinds) n_.variables 0
    (env_of n_)
    (starts_of n_.blocks) n_.blocks in
    let cells = w.cells_sites [] both_lists refusal_list (w.places_of n_.kinds) (sizes (env_of n_).kinds) in
    let kinds = w.kinds_sites [] both_lists refusal_list (constants_of n_) n_.kinds in
    let blocks_calm = (none_in_parts cells rest
    (none_in_parts kinds (both_lists cells rest)
    (none_in_parts (w.constants_sites [] both_lists refusal_list (constants_of n_) n_.constants)
    (both_lists kinds (both_lists cells rest)) no_types).1).1).1 in
    answers_ordinal p_ (numbers_of n_) (sizes (env_of n_).kinds) n_.variables 0 (env_of n_) (starts_of n_.blocks)
    n_.blocks refl (starts_length n_.blocks) (spans s calm) blocks_calm f nb a.0 v nb_at a.1
    (subst (λ z. slice_get p_.variables z ≡ Some v) (sym a.2) vat) d
    (subst (λ z. variable_kind (env_of n_) z ≡ Some v.kind) (sym a.2) known)
  where
    answer_from : (o : Option NamedAnswer) (x : ℕ) → answer_variable o ≡ Some x → (a : NamedAnswer) × (o ≡ Some a)
        × (a.variable ≡ x)
    answer_from None x e = absurd (cc e)
    answer_from (Some a) x e = (a, refl, (let y : a.variable ≡ x = cc e in y))
