-- What the grammar gives of the tree of a text: a record has a field, and a parallel statement has a process statement.
use Rattle.std.proofs.Common.{◌≡◌, subst, ℕ, zero, suc, ◌≤◌, List, [], ◌∷◌, ◌++◌, Option, Some, None, Bool, true, false}
use Rattle.std.proofs.Common.{if◌then◌else◌, length, slice_get, arith}
use Rattle.std.specs.Prelude.{ℤ, pos, map}
use Rattle.std.proofs.lemmas.Option.{same_Some}
use Rattle.sp_tree.specs.declared.token.Token.{Token}
use Rattle.sp_tree.specs.declared.meaning.Meaning.{Meaning}
use Rattle.sp_tree.specs.declared.meaning.Meaning.TheVariants as meaning
use Rattle.sp_tree.specs.declared.named.NamedKind.{NamedKind}
use Rattle.sp_tree.specs.declared.named.NamedKindForm.{NamedKindForm}
use Rattle.sp_tree.specs.declared.named.NamedKindForm.TheVariants as form
use Rattle.sp_tree.specs.declared.checked.KindOf.TheVariants as kind
use Rattle.sp_tree.specs.declared.syntax.SynKind.{SynKind}
use Rattle.sp_tree.specs.Grammar as g
use Rattle.sp_tree.specs.Grammar.{with_part_first}
use Rattle.sp_tree.specs.Scopes.{Scope, Env, Local, inner_env, find, empty_local, standard_scope}
use Rattle.sp_tree.specs.NameWalk.{part_local, parts_local, title_local, heading_local, blocks_around}
use Rattle.sp_tree.specs.NamedOf as of_
use Rattle.sp_tree.specs.NamedTree.{procedure_named, named_arguments, named_statement, named_statement_form}
use Rattle.sp_tree.specs.NamedTree.{named_other, named_statements, named_arms, named_branches, kind_named, parts_named}
use Rattle.sp_tree.specs.NamedTree.{part_named, program_named}
use Rattle.sp_tree.specs.PlainNamed as n
use Rattle.sp_tree.specs.PlainSyntax as tree
use Rattle.sp_types.specs.declared.tables.Ordinal.{Ordinal}
use Rattle.sp_types.specs.Tables.{type_number, const_value, number_or, type_or, are_bounds, array_of, kinds_by}
use Rattle.sp_types.specs.Tables.{kinds_from}
use Rattle.sp_front.specs.ForkWalk.{ForksSatisfy, FormSatisfies, ElseSatisfies, AllSatisfy, ArmsSatisfy}
use Rattle.sp_front.specs.ForkWalk.{BranchesSatisfy, BlocksSatisfy, AnyIndex, IsSplit}
use Rattle.sp_front.specs.NonEmptyRecords.{IsNonEmptyKind, AreNonEmptyKinds}

call_split : (o : Option Meaning) (args : n.Arguments) → FormSatisfies AnyIndex IsSplit (procedure_named o args)
call_split None args = tt
call_split (Some (meaning.Constant k)) args = tt
call_split (Some (meaning.Kind k)) args = tt
call_split (Some (meaning.Variable x b r)) args = tt
call_split (Some (meaning.Procedure b fs)) args = tt
call_split (Some (meaning.Function b fs)) args = tt
call_split (Some (meaning.StandardFunction f)) args = tt
call_split (Some (meaning.StandardProcedure f)) args = tt

filled_join : (xs ys : List NamedKind) → AreNonEmptyKinds xs → AreNonEmptyKinds ys → AreNonEmptyKinds (xs ++ ys)
filled_join [] ys h k = k
filled_join (x ∷ xs) ys h k = (h.0, filled_join xs ys h.1 k)

blocks_join : (xs ys : List n.Block) → BlocksSatisfy AnyIndex IsSplit xs → BlocksSatisfy AnyIndex IsSplit ys
    → BlocksSatisfy AnyIndex IsSplit (xs ++ ys)
blocks_join [] ys h k = k
blocks_join (x ∷ xs) ys h k = (h.0, blocks_join xs ys h.1 k)

module _ (text : List ℕ) where
  type_filled : {ts r : List Token} {k : SynKind} → g.IsType text ts r k → (env : Env)
      → IsNonEmptyKind (kind_named env k)
  type_filled (g.alias x) env = tt
  type_filled (g.enumeration a b c) env = tt
  type_filled (g.array a b c d e f h i) env = tt
  type_filled (g.fields i (g.group (g.names x more) c t) rest) env = tt
  type_filled (g.channel a b c d) env = tt

  module _ (Ok : ℕ → List Token → Type 0) where
    mutual
      statement_split : {d : ℕ} {ts r : List Token} {s : tree.Statement} → g.IsStatement text Ok d ts r s
          → (around : List Scope) (l : Local) → ForksSatisfy AnyIndex IsSplit (named_statement around l s)
      statement_split (g.empty t) around l = tt
      statement_split (g.statement t ok f) around l = form_split f around l

      form_split : {d : ℕ} {ts r : List Token} {f : tree.Form} → g.IsForm text Ok d ts r f
          → (around : List Scope) (l : Local) → FormSatisfies AnyIndex IsSplit (named_statement_form around l f)
      form_split (g.assignment v i e) around l = tt
      form_split (g.plain_call {n = x} i) around l = call_split (find (inner_env around l) x.text) n.NoArgument
      form_split (g.call {n = x} {args = args} i a) around l =
          call_split (find (inner_env around l) x.text) (of_.arguments (named_arguments (inner_env around l) args))
      form_split (g.compound_form (g.compound b ss e)) around l = sequence_split ss around l
      form_split (g.choice {s = a} i e t s o) around l = (statement_split s around l, other_split o around _)
      form_split (g.while_loop i e o s) around l = statement_split s around l
      form_split (g.repeat_loop i ss o e) around l = sequence_split ss around l
      form_split (g.for_loop a b c e f h i s) around l = statement_split s around l
      form_split (g.case_choice i e o (g.arm cs s) rest) around l =
          (statement_split s around l, more_arms_split rest around _)
      form_split (g.parallel i bs) around l = branches_split bs around l
      form_split (g.forall a b c e f h i s) around l = (tt, statement_split s _ _)
      form_split (g.assume i e) around l = tt

      other_split : {d : ℕ} {ts r : List Token} {o : tree.ElsePart} → g.IsElse text Ok d ts r o
          → (around : List Scope) (l : Local) → ElseSatisfies AnyIndex IsSplit (named_other around l o)
      other_split (g.no_else i) around l = tt
      other_split (g.other i s) around l = statement_split s around l

      sequence_split : {d : ℕ} {ts r : List Token} {ss : tree.Statements} → g.IsSequence text Ok d ts r ss
          → (around : List Scope) (l : Local)
          → AllSatisfy AnyIndex IsSplit (of_.statements (named_statements around l ss))
      sequence_split (g.sequence s ss) around l = (statement_split s around l, statements_split ss around _)

      statements_split : {d : ℕ} {ts r : List Token} {ss : tree.Statements} → g.IsMoreStatements text Ok d ts r ss
          → (around : List Scope) (l : Local)
          → AllSatisfy AnyIndex IsSplit (of_.statements (named_statements around l ss))
      statements_split g.statements_end around l = tt
      statements_split (g.statements_go_on i ss) around l = sequence_split ss around l

      more_arms_split : {d : ℕ} {ts r : List Token} {arms : tree.Arms} → g.IsMoreArms text Ok d ts r arms
          → (around : List Scope) (l : Local) → ArmsSatisfy AnyIndex IsSplit (of_.arms (named_arms around l arms))
      more_arms_split (g.arms_end i) around l = tt
      more_arms_split (g.last_arm i e) around l = tt
      more_arms_split (g.arms_go_on i (g.arm cs s) rest) around l =
          (statement_split s around l, more_arms_split rest around _)

      branches_split : {d : ℕ} {ts r : List Token} {bs : tree.Branches} → g.IsBranches text Ok d ts r bs
          → (around : List Scope) (l : Local) → IsSplit (of_.branches (named_branches around l bs))
          × BranchesSatisfy AnyIndex IsSplit (of_.branches (named_branches around l bs))
      branches_split (g.branches ss bs) around l = (tt, (sequence_split ss around l, more_branches_split bs around _))

      more_branches_split : {d : ℕ} {ts r : List Token} {bs : tree.Branches} → g.IsMoreBranches text Ok d ts r bs
          → (around : List Scope) (l : Local)
          → BranchesSatisfy AnyIndex IsSplit (of_.branches (named_branches around l bs))
      more_branches_split (g.branches_end i) around l = tt
      more_branches_split (g.branches_go_on i bs) around l = (branches_split bs around l).1

    -- what stands in a block
    abbrev Full : tree.Block → Type 0
    Full b = (around : List Scope) (l : Local) → AreNonEmptyKinds (parts_named around l b.parts).kinds
        × BlocksSatisfy AnyIndex IsSplit (parts_named around l b.parts).blocks
        × ForksSatisfy AnyIndex IsSplit (named_statement around (parts_local l b.parts) b.body)

    with_part : (p : tree.Part) (b : tree.Block)
        → ((around : List Scope) (l : Local) → AreNonEmptyKinds (part_named around l p).kinds
        × BlocksSatisfy AnyIndex IsSplit (part_named around l p).blocks) → Full b → Full (with_part_first p b)
    with_part p b h full around l =
        let one = part_named around l p in
        let more = parts_named around (part_local l p) b.parts in
        let first = h around l in
        let rest = full around (part_local l p) in
        (filled_join one.kinds more.kinds first.0 rest.0, blocks_join one.blocks more.blocks first.1 rest.1, rest.2)

    mutual
      parts_full : {d : ℕ} {ts r : List Token} {b : tree.Block} → g.IsParts text Ok d ts r b → Full b
      parts_full (g.body (g.compound i ss e)) = λ around l. (tt, tt, sequence_split ss around l)
      parts_full (g.constants {b = b} i (g.constant_part {n = x} {c = c} a q v z) rest) =
          with_part (tree.Const x c) b (λ around l. (tt, tt)) (constants_full rest)
      parts_full (g.types {b = b} i (g.type_part {n = x} {k = k} a q t z) rest) =
          with_part (tree.Kind x k) b (λ around l. ((type_filled t (inner_env around l), tt), tt)) (types_full rest)
      parts_full (g.variables {b = b} i (g.variable_part {g = xs} a z) rest) =
          with_part (tree.Var xs.names xs.kind) b (λ around l. (tt, tt)) (variables_full rest)
      parts_full (g.procedure {n = x} {fs = fs} {k = k} {m = m} i a f z (g.block ok parts) y rest) =
          with_part (tree.Proc x fs None k.parts k.body) m
          (λ around l. (let in_ = parts_full parts (blocks_around around (title_local l x fs None))
          (heading_local l x fs None) in (in_.0, (in_.2, in_.1)))) (parts_full rest)
      parts_full (g.function {n = x} {fs = fs} {answer = answer} {k = k} {m = m} i a f c t z (g.block ok parts) y
          rest) =
          with_part (tree.Proc x fs (Some answer) k.parts k.body) m
          (λ around l. (let in_ = parts_full parts (blocks_around around (title_local l x fs (Some answer)))
          (heading_local l x fs (Some answer)) in (in_.0, (in_.2, in_.1)))) (parts_full rest)

      constants_full : {d : ℕ} {ts r : List Token} {b : tree.Block} → g.IsMoreConstants text Ok d ts r b → Full b
      constants_full (g.constants_end rest) = parts_full rest
      constants_full (g.constants_go_on {b = b} (g.constant_part {n = x} {c = c} a q v z) rest) =
          with_part (tree.Const x c) b (λ around l. (tt, tt)) (constants_full rest)

      types_full : {d : ℕ} {ts r : List Token} {b : tree.Block} → g.IsMoreTypes text Ok d ts r b → Full b
      types_full (g.types_end rest) = parts_full rest
      types_full (g.types_go_on {b = b} (g.type_part {n = x} {k = k} a q t z) rest) =
          with_part (tree.Kind x k) b (λ around l. ((type_filled t (inner_env around l), tt), tt)) (types_full rest)

      variables_full : {d : ℕ} {ts r : List Token} {b : tree.Block} → g.IsMoreVariables text Ok d ts r b → Full b
      variables_full (g.variables_end rest) = parts_full rest
      variables_full (g.variables_go_on {b = b} (g.variable_part {g = xs} a z) rest) =
          with_part (tree.Var xs.names xs.kind) b (λ around l. (tt, tt)) (variables_full rest)

    pub program_full : {ts r : List Token} {s : tree.Program} → g.IsProgram text Ok ts r s
        → AreNonEmptyKinds (program_named s).kinds × BlocksSatisfy AnyIndex IsSplit (program_named s).blocks
    program_full (g.program i a h z (g.block ok parts) e) = let f =
        parts_full parts (standard_scope ∷ []) empty_local in
        ((tt, (tt, (tt, f.0))), (f.2, f.1))

-- ---- types

array_no_fields : (low high low2 high2 : ℤ) (i e : ℕ) (fs : List (List ℕ × ℕ)) (z : Bool)
    → (if z then kind.Array low high i e else kind.Array low2 high2 i e) ≡ kind.Fields fs → ⊥
array_no_fields low high low2 high2 i e fs true h = cc h
array_no_fields low high low2 high2 i e fs false h = cc h

filled : (f : List ℕ × ℕ) (rest fs : List (List ℕ × ℕ)) → kind.Fields (f ∷ rest) ≡ kind.Fields fs → 1 ≤ length fs
filled f rest fs e = let z : f ∷ rest ≡ fs = cc e in subst (λ z. 1 ≤ length z) z (omega arith)

-- a record has a field
pub record_filled : (ns : List ℕ) (known : List (Option Ordinal)) (ks : List NamedKind) → AreNonEmptyKinds ks
    → (k : ℕ) (fs : List (List ℕ × ℕ)) → slice_get (kinds_from ns known ks) k ≡ Some (kind.Fields fs) → 1 ≤ length fs
record_filled ns known [] h k fs e = absurd (cc e)
record_filled ns known (t ∷ ks) h k fs e = by t.form h.0 k e (λ k e. record_filled ns known ks h.1 k fs e)
  where
    by : (f : NamedKindForm) → IsNonEmptyKind f → (k : ℕ)
        → slice_get (kinds_by ns known f ++ kinds_from ns known ks) k ≡ Some (kind.Fields fs)
        → ((k : ℕ) → slice_get (kinds_from ns known ks) k ≡ Some (kind.Fields fs) → 1 ≤ length fs) → 1 ≤ length fs
    by form.Integer i zero e more = absurd (cc e)
    by form.Integer i (suc k) e more = more k e
    by form.Boolean i zero e more = absurd (cc e)
    by form.Boolean i (suc k) e more = more k e
    by form.Char i zero e more = absurd (cc e)
    by form.Char i (suc k) e more = more k e
    by (form.Alias j) i k e more = more k e
    by (form.Enumeration m) i zero e more = absurd (cc e)
    by (form.Enumeration m) i (suc k) e more = more k e
    by (form.Array a b el) i zero e more = absurd
        (array_no_fields (number_or (pos 1) (const_value known a)) (number_or (pos 0) (const_value known b)) (pos 1)
        (pos 0) (type_or 0 (const_value known a)) (type_number ns el) fs (are_bounds known a b)
        (same_Some (array_of known a b (type_number ns el)) (kind.Fields fs) e))
    by (form.Array a b el) i (suc k) e more = more k e
    by (form.Fields []) i k e more = absurd i
    by (form.Fields (g ∷ gs)) i zero e more =
        filled (g.0, type_number ns g.1) (map (λ f. (f.0, type_number ns f.1)) gs) fs
        (same_Some (kind.Fields (map (λ f. (f.0, type_number ns f.1)) (g ∷ gs))) (kind.Fields fs) e)
    by (form.Fields (g ∷ gs)) i (suc k) e more = more k e
    by (form.Channel cs) i zero e more = absurd (cc e)
    by (form.Channel cs) i (suc k) e more = more k e
