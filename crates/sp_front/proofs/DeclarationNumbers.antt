-- Numbers of declarations: where no rule of names is broken, what a part declares is counted, so that the number which
-- is given at a declaration is its place in the lists of the program.
use Rattle.std.proofs.Common.{◌≡◌, ap, sym, ◌∙◌, subst, ℕ, suc, ◌+◌, List, [], ◌∷◌, ◌++◌, Option, Some, None, Bool}
use Rattle.std.proofs.Common.{false, if◌then◌else◌, length, arith}
use Rattle.std.specs.Prelude.{nat_le}
use Rattle.std.specs.Option.{is_some}
use Rattle.std.proofs.lemmas.List.{length-append}
use Rattle.sp_base.specs.declared.rule.Rule.TheVariants as rule
use Rattle.sp_tree.specs.declared.checked.Role.{Role}
use Rattle.sp_tree.specs.declared.checked.Role.TheVariants as role
use Rattle.sp_tree.specs.declared.meaning.Meaning.{Meaning}
use Rattle.sp_tree.specs.declared.meaning.Meaning.TheVariants as meaning
use Rattle.sp_tree.specs.declared.meaning.Counts.{Counts}
use Rattle.sp_tree.specs.declared.meaning.Sort.{Sort}
use Rattle.sp_tree.specs.declared.meaning.Sort.TheVariants as sort
use Rattle.sp_tree.specs.declared.syntax.Name.{Name}
use Rattle.sp_tree.specs.declared.syntax.SynFormal.{SynFormal}
use Rattle.sp_tree.specs.declared.syntax.SynKind.{SynKind}
use Rattle.sp_tree.specs.declared.syntax.SynKind.TheVariants as kinds
use Rattle.sp_tree.specs.PhaseResults.{refusal_if}
use Rattle.sp_tree.specs.NameFirst.{both_lists, all_at}
use Rattle.sp_tree.specs.NameRules.{Declares, Loops, Uses, AsKind, declare_rule}
use Rattle.sp_tree.specs.Scopes as scope
use Rattle.sp_tree.specs.Scopes.{Env, Local, Scope, inner_env, look, count, declaration_limit, with_one_more}
use Rattle.sp_tree.specs.Scopes.{with_declaration, local_of_inner, variable}
use Rattle.sp_tree.specs.Scopes.{next_constant, next_kind, next_variable, next_block}
use Rattle.sp_tree.specs.NameWalk as w
use Rattle.sp_tree.specs.PlainNamed as n
use Rattle.sp_tree.specs.NameWalk.{statement_local, statements_local, other_local, arms_local}
use Rattle.sp_tree.specs.NameWalk.{branches_local, form_local, local_of_index, blocks_around, names_local}
use Rattle.sp_tree.specs.NameWalk.{formals_local, role_of}
use Rattle.sp_tree.specs.NameWalk.{title_local, answer_local, heading_local, constants_local, kind_local, type_local}
use Rattle.sp_tree.specs.NameWalk.{parts_local, part_local, block_meaning}
use Rattle.sp_tree.specs.NamedTree.{kind_number, indices, form_indices, other_indices, statements_indices, arms_indices}
use Rattle.sp_tree.specs.NamedTree.{branches_indices, variables_named, formals_named, answer_named}
use Rattle.sp_tree.specs.NamedTree.{enumeration_constants}
use Rattle.sp_tree.specs.NamedTree.{constants_named, parts_named, part_named}
use Rattle.sp_tree.specs.PlainSyntax.{Statement, Does, Form, Sequence, If, While, Repeat, Case}
use Rattle.sp_tree.specs.PlainSyntax.{For, Parallel, Forall, ElsePart, NoElse, Else, Statements, NoStatement}
use Rattle.sp_tree.specs.PlainSyntax.{AndThen, On, Arms, NoArm, Or, Branches, NoBranch, Beside, Part, Const, Kind, Var}
use Rattle.sp_tree.specs.PlainSyntax.{Proc, Parts, NoPart, Declare}
use Rattle.sp_front.proofs.NoBreachInParts.{none_in_parts, none_at_site, none_of_earlier, not_if_none}

-- ---- what a declaration counts

pub room_at : (env : Env) (x : Name) (s : Sort) → all_at env (Declares x s) ≡ []
    → nat_le declaration_limit (count s env.local.counts) ≡ false
room_at env x s e = not_if_none rule.L4 x.at (nat_le declaration_limit (count s env.local.counts))
    (none_of_earlier (refusal_if rule.N2 x.at (is_some (look env.local.here x.text)))
    (refusal_if rule.L4 x.at (nat_le declaration_limit (count s env.local.counts)))
    (none_at_site (declare_rule env x s) e)).1

pub declared_counts : (l : Local) (name : List ℕ) (s : Sort) (m : Meaning) → nat_le declaration_limit (count s l.counts)
    ≡ false
    → (with_declaration l name s m).counts ≡ with_one_more s l.counts
declared_counts l name s m e = ap (λ (b : Bool).
    (if b then l else record {
      here = scope.put l.here name m;
      block = l.block;
      answer = l.answer;
      counts = with_one_more s l.counts;
    }).counts) e

-- the next numbers are so many further
pub record Moved (c d : Counts) (constants kinds variables blocks : ℕ) : Type 0 where
  pub constants_are : next_constant d ≡ next_constant c + constants
  pub kinds_are : next_kind d ≡ next_kind c + kinds
  pub variables_are : next_variable d ≡ next_variable c + variables
  pub blocks_are : next_block d ≡ next_block c + blocks

pub counted : {c d : Counts} {i k v b : ℕ} → next_constant d ≡ next_constant c + i → next_kind d ≡ next_kind c + k
    → next_variable d ≡ next_variable c + v → next_block d ≡ next_block c + b → Moved c d i k v b
counted constants kinds variables blocks = record {
  constants_are = constants;
  kinds_are = kinds;
  variables_are = variables;
  blocks_are = blocks;
}

pub stays : (c : Counts) → Moved c c 0 0 0 0
stays c = counted (omega arith) (omega arith) (omega arith) (omega arith)

pub moves_on : (c d e : Counts) (i k v b i2 k2 v2 b2 : ℕ) → Moved c d i k v b → Moved d e i2 k2 v2 b2
    → Moved c e (i + i2) (k + k2) (v + v2) (b + b2)
moves_on c d e i k v b i2 k2 v2 b2 x y = record {
  constants_are = one (next_constant c) (next_constant d) (next_constant e) i i2 x.constants_are y.constants_are;
  kinds_are = one (next_kind c) (next_kind d) (next_kind e) k k2 x.kinds_are y.kinds_are;
  variables_are = one (next_variable c) (next_variable d) (next_variable e) v v2 x.variables_are y.variables_are;
  blocks_are = one (next_block c) (next_block d) (next_block e) b b2 x.blocks_are y.blocks_are;
}
  where
    one : (a b c i j : ℕ) → b ≡ a + i → c ≡ b + j → c ≡ a + (i + j)
    one a b c i j x y = omega (arith, x, y)

-- only variables
abbrev pub AddsVariables : Counts → Counts → ℕ → Type 0
AddsVariables c d v = Moved c d 0 0 v 0

adds_on : (c d e : Counts) (v v2 : ℕ) → AddsVariables c d v → AddsVariables d e v2 → AddsVariables c e (v + v2)
adds_on c d e v v2 x y = moves_on c d e 0 0 v 0 0 0 v2 0 x y

adds_same : (c d : Counts) (v v2 : ℕ) → v ≡ v2 → AddsVariables c d v → AddsVariables c d v2
adds_same c d v v2 e h = subst (AddsVariables c d) e h

pub one_variable : (l : Local) (name : List ℕ) (m : Meaning) → nat_le declaration_limit (count sort.Variable l.counts)
    ≡ false
    → AddsVariables l.counts (with_declaration l name sort.Variable m).counts 1
one_variable l name m e =
    subst (λ (d : Counts). AddsVariables l.counts d 1) (sym (declared_counts l name sort.Variable m e))
    (counted (omega arith) (omega arith) (omega arith) (omega arith))

-- ---- statements: the indices of the foralls in them are counted

module _ (block : ℕ) where
  mutual
    pub statement_adds : (around : List Scope) (l : Local) (s : Statement)
        → w.statement_sites [] both_lists all_at around l s ≡ []
        → AddsVariables l.counts (statement_local l s).counts (length (indices block s))
    statement_adds around l (Does at form) calm = form_adds around l form calm

    pub form_adds : (around : List Scope) (l : Local) (form : Form)
        → w.form_sites [] both_lists all_at around l form ≡ []
        → AddsVariables l.counts (form_local l form).counts (length (form_indices block form))
    form_adds around l (Sequence ss) calm = statements_adds around l ss calm
    form_adds around l (If e a o) calm =
        let parts = none_in_parts (w.expression_sites [] both_lists all_at (inner_env around l) e)
        (both_lists (w.statement_sites [] both_lists all_at around l a)
        (w.other_sites [] both_lists all_at around (statement_local l a) o)) calm in
        let two = none_in_parts (w.statement_sites [] both_lists all_at around l a)
        (w.other_sites [] both_lists all_at around (statement_local l a) o) parts.1 in
        adds_same l.counts (other_local (statement_local l a) o).counts
        (length (indices block a) + length (other_indices block o))
        (length (indices block a ++ other_indices block o))
        (sym (length-append (indices block a) (other_indices block o)))
        (adds_on l.counts (statement_local l a).counts (other_local (statement_local l a) o).counts
        (length (indices block a)) (length (other_indices block o)) (statement_adds around l a two.0)
        (other_adds around (statement_local l a) o two.1))
    form_adds around l (While e a) calm = statement_adds around l a
        (none_in_parts (w.expression_sites [] both_lists all_at (inner_env around l) e)
        (w.statement_sites [] both_lists all_at around l a) calm).1
    form_adds around l (Repeat ss e) calm = statements_adds around l ss
        (none_in_parts (w.statements_sites [] both_lists all_at around l ss)
        (w.expression_sites [] both_lists all_at (inner_env around (statements_local l ss)) e) calm).0
    form_adds around l (Case e choices) calm =
        arms_adds around l choices (none_in_parts (w.expression_sites [] both_lists all_at (inner_env around l) e)
        (w.arms_sites [] both_lists all_at around l choices) calm).1
    form_adds around l (For x from down to a) calm =
        let one = none_in_parts (all_at (inner_env around l) (Loops x))
        (both_lists (w.expression_sites [] both_lists all_at (inner_env around l) from)
        (both_lists (w.expression_sites [] both_lists all_at (inner_env around l) to)
        (w.statement_sites [] both_lists all_at around l a))) calm in
        let two = none_in_parts (w.expression_sites [] both_lists all_at (inner_env around l) from)
        (both_lists (w.expression_sites [] both_lists all_at (inner_env around l) to)
        (w.statement_sites [] both_lists all_at around l a)) one.1 in
        let three = none_in_parts (w.expression_sites [] both_lists all_at (inner_env around l) to)
        (w.statement_sites [] both_lists all_at around l a) two.1 in
        statement_adds around l a three.1
    form_adds around l (Parallel bs) calm = branches_adds around l bs calm
    form_adds around l (Forall x from to a) calm =
        let index = all_at (inner_env (blocks_around around l) (local_of_inner l.block l.answer l))
        (Declares x sort.Variable) in
        let one = none_in_parts (w.expression_sites [] both_lists all_at (inner_env around l) from)
        (both_lists (w.expression_sites [] both_lists all_at (inner_env around l) to)
        (both_lists index (w.statement_sites [] both_lists all_at (blocks_around around l) (local_of_index l x) a)))
        calm in
        let two = none_in_parts (w.expression_sites [] both_lists all_at (inner_env around l) to)
        (both_lists index (w.statement_sites [] both_lists all_at (blocks_around around l) (local_of_index l x) a))
        one.1 in
        let three = none_in_parts index (w.statement_sites [] both_lists all_at (blocks_around around l)
        (local_of_index l x) a) two.1 in
        let room = room_at (inner_env (blocks_around around l) (local_of_inner l.block l.answer l)) x sort.Variable
        three.0 in
        adds_same l.counts (statement_local (local_of_index l x) a).counts (1 + length (indices block a))
        (suc (length (indices block a))) (omega arith)
        (adds_on l.counts (local_of_index l x).counts (statement_local (local_of_index l x) a).counts 1
        (length (indices block a))
        (one_variable (local_of_inner l.block l.answer l) x.text
        (variable (local_of_inner l.block l.answer l) role.Index) room)
        (statement_adds (blocks_around around l) (local_of_index l x) a three.1))
    form_adds _ l _ _ = stays l.counts

    pub other_adds : (around : List Scope) (l : Local) (o : ElsePart)
        → w.other_sites [] both_lists all_at around l o ≡ []
        → AddsVariables l.counts (other_local l o).counts (length (other_indices block o))
    other_adds around l NoElse calm = stays l.counts
    other_adds around l (Else a) calm = statement_adds around l a calm

    pub statements_adds : (around : List Scope) (l : Local) (ss : Statements)
        → w.statements_sites [] both_lists all_at around l ss ≡ []
        → AddsVariables l.counts (statements_local l ss).counts (length (statements_indices block ss))
    statements_adds around l NoStatement calm = stays l.counts
    statements_adds around l (AndThen a rest) calm =
        let two = none_in_parts (w.statement_sites [] both_lists all_at around l a)
        (w.statements_sites [] both_lists all_at around (statement_local l a) rest) calm in
        adds_same l.counts (statements_local (statement_local l a) rest).counts
        (length (indices block a) + length (statements_indices block rest))
        (length (indices block a ++ statements_indices block rest))
        (sym (length-append (indices block a) (statements_indices block rest)))
        (adds_on l.counts (statement_local l a).counts (statements_local (statement_local l a) rest).counts
        (length (indices block a)) (length (statements_indices block rest)) (statement_adds around l a two.0)
        (statements_adds around (statement_local l a) rest two.1))

    pub arms_adds : (around : List Scope) (l : Local) (arms : Arms)
        → w.arms_sites [] both_lists all_at around l arms ≡ []
        → AddsVariables l.counts (arms_local l arms).counts (length (arms_indices block arms))
    arms_adds around l NoArm calm = stays l.counts
    arms_adds around l (Or (On cs a) rest) calm =
        let two = none_in_parts (both_lists (w.constants_sites [] both_lists all_at (inner_env around l) cs)
        (w.statement_sites [] both_lists all_at around l a))
        (w.arms_sites [] both_lists all_at around (statement_local l a) rest) calm in
        let one = none_in_parts (w.constants_sites [] both_lists all_at (inner_env around l) cs)
        (w.statement_sites [] both_lists all_at around l a) two.0 in
        adds_same l.counts (arms_local (statement_local l a) rest).counts
        (length (indices block a) + length (arms_indices block rest))
        (length (indices block a ++ arms_indices block rest))
        (sym (length-append (indices block a) (arms_indices block rest)))
        (adds_on l.counts (statement_local l a).counts (arms_local (statement_local l a) rest).counts
        (length (indices block a)) (length (arms_indices block rest)) (statement_adds around l a one.1)
        (arms_adds around (statement_local l a) rest two.1))

    pub branches_adds : (around : List Scope) (l : Local) (bs : Branches)
        → w.branches_sites [] both_lists all_at around l bs ≡ []
        → AddsVariables l.counts (branches_local l bs).counts (length (branches_indices block bs))
    branches_adds around l NoBranch calm = stays l.counts
    branches_adds around l (Beside ss rest) calm =
        let two = none_in_parts (w.statements_sites [] both_lists all_at around l ss)
        (w.branches_sites [] both_lists all_at around (statements_local l ss) rest) calm in
        adds_same l.counts (branches_local (statements_local l ss) rest).counts
        (length (statements_indices block ss) + length (branches_indices block rest))
        (length (statements_indices block ss ++ branches_indices block rest))
        (sym (length-append (statements_indices block ss) (branches_indices block rest)))
        (adds_on l.counts (statements_local l ss).counts (branches_local (statements_local l ss) rest).counts
        (length (statements_indices block ss)) (length (branches_indices block rest))
        (statements_adds around l ss two.0) (branches_adds around (statements_local l ss) rest two.1))

-- ---- declarations

pub names_adds : (around : List Scope) (r : Role) (l : Local) (xs : List Name) (block k : ℕ)
    → w.names_sites [] both_lists all_at around r l xs ≡ []
    → AddsVariables l.counts (names_local r l xs).counts (length (variables_named block r k xs))
names_adds around r l [] block k calm = stays l.counts
names_adds around r l (x ∷ xs) block k calm =
    let next = with_declaration l x.text sort.Variable (variable l r) in
    let two = none_in_parts (all_at (inner_env around l) (Declares x sort.Variable))
    (w.names_sites [] both_lists all_at around r next xs) calm in
    adds_same l.counts (names_local r next xs).counts (1 + length (variables_named block r k xs))
    (suc (length (variables_named block r k xs))) (omega arith)
    (adds_on l.counts next.counts (names_local r next xs).counts 1 (length (variables_named block r k xs))
    (one_variable l x.text (variable l r) (room_at (inner_env around l) x sort.Variable two.0))
    (names_adds around r next xs block k two.1))

pub formals_adds : (around : List Scope) (l : Local) (fs : List SynFormal) (env : Env) (block : ℕ)
    → w.formals_sites [] both_lists all_at around l fs ≡ []
    → AddsVariables l.counts (formals_local l fs).counts (length (formals_named env block fs))
formals_adds around l [] env block calm = stays l.counts
formals_adds around l (f ∷ fs) env block calm =
    let k = kind_number (scope.find env f.kind.text) in
    let next = names_local (role_of f.by_reference) l f.names in
    let two = none_in_parts (w.names_sites [] both_lists all_at around (role_of f.by_reference) l f.names)
    (w.formals_sites [] both_lists all_at around next fs) calm in
    let here = variables_named block (role_of f.by_reference) k f.names in
    adds_same l.counts (formals_local next fs).counts (length here + length (formals_named env block fs))
    (length (here ++ formals_named env block fs)) (sym (length-append here (formals_named env block fs)))
    (adds_on l.counts next.counts (formals_local next fs).counts (length here) (length (formals_named env block fs))
    (names_adds around (role_of f.by_reference) l f.names block k two.0)
    (formals_adds around next fs env block two.1))

-- the result of a function is a variable without a name
pub answer_adds : (l : Local) (env : Env) (block : ℕ) (x : Name) (answer : Option Name)
    → AddsVariables l.counts (answer_local l answer).counts (length (answer_named env block x answer))
answer_adds l env block x None = stays l.counts
answer_adds l env block x (Some t) = counted (omega arith) (omega arith) (omega arith) (omega arith)

pub constants_move : (around : List Scope) (l : Local) (xs : List Name) (k i : ℕ)
    → w.enumerated_sites [] both_lists all_at around l xs ≡ []
    → Moved l.counts (constants_local l xs).counts (length (enumeration_constants k i xs)) 0 0 0
constants_move around l [] k i calm = stays l.counts
constants_move around l (x ∷ xs) k i calm =
    let m = meaning.Constant (next_constant l.counts) in
    let next = with_declaration l x.text sort.Constant m in
    let two = none_in_parts (all_at (inner_env around l) (Declares x sort.Constant))
    (w.enumerated_sites [] both_lists all_at around next xs) calm in
    let one : Moved l.counts next.counts 1 0 0 0 =
    subst (λ (d : Counts). Moved l.counts d 1 0 0 0)
    (sym (declared_counts l x.text sort.Constant m (room_at (inner_env around l) x sort.Constant two.0)))
    (counted (omega arith) (omega arith) (omega arith) (omega arith)) in
    let all = moves_on l.counts next.counts (constants_local next xs).counts 1 0 0 0
    (length (enumeration_constants k (suc i) xs))
    0 0 0 one (constants_move around next xs k (suc i) two.1) in
    subst (λ z. Moved l.counts (constants_local next xs).counts z 0 0 0)
    (let z : 1 + length (enumeration_constants k (suc i) xs) ≡ suc (length (enumeration_constants k (suc i) xs)) =
    omega arith in z) all

-- ---- parts

-- all that a part declares is counted
abbrev pub MovedBy : Counts → Counts → n.Program → Type 0
MovedBy c d p = Moved c d (length p.constants) (length p.kinds) (length p.variables) (length p.blocks)

pub kind_moves : (around : List Scope) (l : Local) (x : Name) (k : SynKind)
    → w.kind_constants_sites [] both_lists all_at around l k ≡ [] → (j : ℕ)
    → Moved l.counts (kind_local l k).counts (length (constants_named j k)) 0 0 0
kind_moves around l x (kinds.Enumeration xs) calm j = constants_move around l xs j 0 calm
kind_moves _ l _ _ _ _ = stays l.counts

pub sum5 : (a b c d e f i j k l m t : ℕ) → b ≡ a + i → c ≡ b + j → d ≡ c + k → e ≡ d + l → f ≡ e + m
    → (i + j) + ((k + l) + m) ≡ t → f ≡ a + t
sum5 a b c d e f i j k l m t x y z u v w = omega (arith, x, y, z, u, v, w)

-- what a procedure's own block counts, in order: the block, its parameters, its result, what its parts declare, and the
-- indices
mutual
  pub parts_move : (around : List Scope) (l : Local) (ps : Parts) → w.parts_sites [] both_lists all_at around l ps ≡ []
      → MovedBy l.counts (parts_local l ps).counts (parts_named around l ps)
  parts_move around l NoPart calm = stays l.counts
  parts_move around l (Declare p rest) calm =
      let two = none_in_parts (w.part_sites [] both_lists all_at around l p)
      (w.parts_sites [] both_lists all_at around (part_local l p) rest) calm in
      let a = part_named around l p in
      let b = parts_named around (part_local l p) rest in
      let h = moves_on l.counts (part_local l p).counts (parts_local (part_local l p) rest).counts (length a.constants)
      (length a.kinds) (length a.variables) (length a.blocks) (length b.constants) (length b.kinds)
      (length b.variables) (length b.blocks) (part_moves around l p two.0)
      (parts_move around (part_local l p) rest two.1) in
      record {
        constants_are = h.constants_are
            ∙ ap (λ z. next_constant l.counts + z) (sym (length-append a.constants b.constants));
        kinds_are = h.kinds_are ∙ ap (λ z. next_kind l.counts + z) (sym (length-append a.kinds b.kinds));
        variables_are = h.variables_are
            ∙ ap (λ z. next_variable l.counts + z) (sym (length-append a.variables b.variables));
        blocks_are = h.blocks_are ∙ ap (λ z. next_block l.counts + z) (sym (length-append a.blocks b.blocks));
      }

  pub part_moves : (around : List Scope) (l : Local) (p : Part) → w.part_sites [] both_lists all_at around l p ≡ []
      → MovedBy l.counts (part_local l p).counts (part_named around l p)
  part_moves around l (Const x c) calm =
      let m = meaning.Constant (next_constant l.counts) in
      let two = none_in_parts (all_at (inner_env around l) (Declares x sort.Constant))
      (w.value_sites [] both_lists all_at (inner_env around l) c.value) calm in
      subst (λ (d : Counts). Moved l.counts d 1 0 0 0)
      (sym (declared_counts l x.text sort.Constant m (room_at (inner_env around l) x sort.Constant two.0)))
      (counted (omega arith) (omega arith) (omega arith) (omega arith))
  part_moves around l (Kind x k) calm =
      let m = meaning.Kind (next_kind l.counts) in
      let one = none_in_parts (all_at (inner_env around l) (Declares x sort.Kind))
      (both_lists (w.kind_sites [] both_lists all_at (inner_env around l) x k)
      (w.kind_constants_sites [] both_lists all_at around (type_local l x) k)) calm in
      let two = none_in_parts (w.kind_sites [] both_lists all_at (inner_env around l) x k)
      (w.kind_constants_sites [] both_lists all_at around (type_local l x) k) one.1 in
      let j = next_kind l.counts in
      let first : Moved l.counts (type_local l x).counts 0 1 0 0 =
      subst (λ (d : Counts). Moved l.counts d 0 1 0 0)
      (sym (declared_counts l x.text sort.Kind m (room_at (inner_env around l) x sort.Kind one.0)))
      (counted (omega arith) (omega arith) (omega arith) (omega arith)) in
      let h = moves_on l.counts (type_local l x).counts (kind_local (type_local l x) k).counts 0 1 0 0
      (length (constants_named j k)) 0 0 0 first (kind_moves around (type_local l x) x k two.1 j) in
      let e : 0 + length (constants_named j k) ≡ length (constants_named j k) = omega arith in
      subst (λ z. Moved l.counts (kind_local (type_local l x) k).counts z 1 0 0) e h
  part_moves around l (Var xs t) calm = names_adds around role.Local l xs l.block
      (kind_number (scope.find (inner_env around l) t.text))
      (none_in_parts (all_at (inner_env around l) (Uses t AsKind))
      (w.names_sites [] both_lists all_at around role.Local l xs)
      calm).1
  part_moves around l (Proc x fs answer parts body) calm =
      let env = inner_env around l in
      let f = next_block l.counts in
      let title = title_local l x fs answer in
      let in_ = blocks_around around title in
      let head = heading_local l x fs answer in
      let one = none_in_parts (w.title_sites [] both_lists all_at env x fs answer)
      (both_lists (w.formals_sites [] both_lists all_at in_ (local_of_inner f 0 title) fs)
      (both_lists (w.parts_sites [] both_lists all_at in_ head parts)
      (w.statement_sites [] both_lists all_at in_ (parts_local head parts) body))) calm in
      let name = none_in_parts (all_at env (Declares x sort.Block))
      (both_lists (w.heading_sites [] both_lists all_at env fs) (w.answer_sites [] both_lists all_at env answer))
      one.0 in
      let two = none_in_parts (w.formals_sites [] both_lists all_at in_ (local_of_inner f 0 title) fs)
      (both_lists (w.parts_sites [] both_lists all_at in_ head parts)
      (w.statement_sites [] both_lists all_at in_ (parts_local head parts) body)) one.1 in
      let three = none_in_parts (w.parts_sites [] both_lists all_at in_ head parts)
      (w.statement_sites [] both_lists all_at in_ (parts_local head parts) body) two.1 in
      let m = block_meaning l fs answer in
      let formals = formals_local (local_of_inner f 0 title) fs in
      let inner = parts_named in_ head parts in
      let c = l.counts in
      let m1 : Moved c title.counts 0 0 0 1 =
      subst (λ (d : Counts). Moved c d 0 0 0 1)
      (sym (declared_counts l x.text sort.Block m (room_at env x sort.Block name.0)))
      (counted (omega arith) (omega arith) (omega arith) (omega arith)) in
      let m2 = formals_adds in_ (local_of_inner f 0 title) fs env f two.0 in
      let m3 = answer_adds formals env f x answer in
      let m4 = parts_move in_ head parts three.0 in
      let m5 = statement_adds head.block in_ (parts_local head parts) body three.1 in
      let a = formals_named env f fs in
      let b = answer_named env f x answer in
      let d = indices head.block body in
      let last = (statement_local (parts_local head parts) body).counts in
      let v = length-append a (b ++ (inner.variables ++ d)) in
      let v2 = length-append b (inner.variables ++ d) in
      let v3 = length-append inner.variables d in
      record {
        constants_are =
            sum5 (next_constant c) (next_constant title.counts) (next_constant formals.counts)
            (next_constant head.counts)
            (next_constant (parts_local head parts).counts) (next_constant last) 0 0 0 (length inner.constants) 0
            (length inner.constants) m1.constants_are m2.constants_are m3.constants_are m4.constants_are
            m5.constants_are (omega arith);
        kinds_are = sum5 (next_kind c) (next_kind title.counts) (next_kind formals.counts) (next_kind head.counts)
            (next_kind (parts_local head parts).counts) (next_kind last) 0 0 0 (length inner.kinds) 0
            (length inner.kinds) m1.kinds_are m2.kinds_are m3.kinds_are m4.kinds_are m5.kinds_are (omega arith);
        variables_are =
            sum5 (next_variable c) (next_variable title.counts) (next_variable formals.counts)
            (next_variable head.counts)
            (next_variable (parts_local head parts).counts) (next_variable last) 0 (length a) (length b)
            (length inner.variables) (length d) (length (a ++ (b ++ (inner.variables ++ d)))) m1.variables_are
            m2.variables_are m3.variables_are m4.variables_are m5.variables_are (omega (arith, v, v2, v3));
        blocks_are = sum5 (next_block c) (next_block title.counts) (next_block formals.counts) (next_block head.counts)
            (next_block (parts_local head parts).counts) (next_block last) 1 0 0 (length inner.blocks) 0
            (suc (length inner.blocks)) m1.blocks_are m2.blocks_are m3.blocks_are m4.blocks_are m5.blocks_are
            (omega arith);
      }
