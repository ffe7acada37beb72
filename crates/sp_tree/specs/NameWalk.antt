-- All of this belongs to what the program promises (docs/promise.txt).
-- All that stands in a program for the rules of names, with the declarations visible there. `join` puts together what
-- is found at the sites: lists give all broken rules, `earlier_refusal` the first. The contracts of `sp_scope` follow
-- its parts.
use Rattle.std.specs.Option.{option_map_or}
use Rattle.std.specs.Prelude.{ℕ, suc, ◌+◌, ◌&&◌, List, [], ◌∷◌, ◌++◌, map, Bool, true, false, if◌then◌else◌, Option}
use Rattle.std.specs.Prelude.{Some, None}
use Rattle.sp_base.specs.declared.place.Place.{Place}
use Rattle.sp_tree.specs.declared.checked.Role.{Role}
use Rattle.sp_tree.specs.declared.checked.Role.TheVariants as role
use Rattle.sp_tree.specs.declared.meaning.Meaning.{Meaning}
use Rattle.sp_tree.specs.declared.meaning.Meaning.TheVariants as meaning
use Rattle.sp_tree.specs.declared.meaning.Passing.{Passing}
use Rattle.sp_tree.specs.declared.meaning.Sort.TheVariants as sort
use Rattle.sp_tree.specs.declared.syntax.Name.{Name}
use Rattle.sp_tree.specs.declared.syntax.SynConst.{SynConst}
use Rattle.sp_tree.specs.declared.syntax.SynValue.{SynValue}
use Rattle.sp_tree.specs.declared.syntax.SynValue.TheVariants as value
use Rattle.sp_tree.specs.declared.syntax.SynKind.{SynKind}
use Rattle.sp_tree.specs.declared.syntax.SynKind.TheVariants as kinds
use Rattle.sp_tree.specs.declared.syntax.SynFormal.{SynFormal}
use Rattle.sp_tree.specs.declared.syntax.SynGroup.{SynGroup}
use Rattle.sp_tree.specs.Scopes.{Scope, Env, Local, inner_env, find, with_declaration, local_of_inner, local_of_outer}
use Rattle.sp_tree.specs.Scopes.{empty_local, standard_scope, variable}
use Rattle.sp_tree.specs.Scopes.{next_constant, next_kind, next_variable, next_block}
use Rattle.sp_tree.specs.NameRules.{Site, Declares, Fields, Heads, Uses, UsesIn, Operand, Targets, Assigns, Loops}
use Rattle.sp_tree.specs.NameRules.{Computes, Calls, Widens, Bare, AsConstant, AsKind, next_passing, flags_left}
use Rattle.sp_tree.specs.NameRules.{references_of, rest_of, needs_variable, same_place}
use Rattle.sp_tree.specs.PlainSyntax.{Expression, ExpressionAt, ExpressionForm, Read, Apply, Unary}
use Rattle.sp_tree.specs.PlainSyntax.{Binary}
use Rattle.sp_tree.specs.PlainSyntax.{Variable, Entire, Selector, Index, Field, Selectors, Whole, Select, Argument}
use Rattle.sp_tree.specs.PlainSyntax.{Pass, Width, NoWidth, WithWidth, Arguments, NoArgument, AndArgument, Statement}
use Rattle.sp_tree.specs.PlainSyntax.{Does}
use Rattle.sp_tree.specs.PlainSyntax.{Form, Empty, Assign, Call, Sequence, If, While, Repeat, Case, For, Parallel}
use Rattle.sp_tree.specs.PlainSyntax.{Forall, Assume, ElsePart, NoElse, Else, Statements, NoStatement, AndThen, Arm, On}
use Rattle.sp_tree.specs.PlainSyntax.{Arms, NoArm, Or, Branches, NoBranch, Beside, Part, Const, Kind, Var, Proc, Parts}
use Rattle.sp_tree.specs.PlainSyntax.{NoPart, Declare, Block, Program}

abbrev pub count : Arguments → ℕ
count NoArgument = 0
count (AndArgument a rest) = suc (count rest)

-- a variable without selectors
abbrev pub is_whole : Selectors → Bool
is_whole Whole = true
is_whole (Select s rest) = false

-- where an expression stands
abbrev pub place : Expression → Place
place (ExpressionAt at form) = at

-- the index of a forall
abbrev pub index_local : Local → Name → Local
index_local l x = with_declaration l x.text sort.Variable (variable l role.Index)

-- the same in a block of its own
abbrev pub local_of_index : Local → Name → Local
local_of_index l x = index_local (local_of_inner l.block l.answer l) x

-- what was declared behind a statement: the indices of the foralls in it are counted
abbrev mutual
  pub statement_local : Local → Statement → Local
  statement_local l (Does at form) = form_local l form

  pub form_local : Local → Form → Local
  form_local l (Sequence ss) = statements_local l ss
  form_local l (If e s o) = other_local (statement_local l s) o
  form_local l (While e s) = statement_local l s
  form_local l (Repeat ss e) = statements_local l ss
  form_local l (Case e choices) = arms_local l choices
  form_local l (For x from down to s) = statement_local l s
  form_local l (Parallel bs) = branches_local l bs
  form_local l (Forall x from to s) = local_of_outer l (statement_local (local_of_index l x) s)
  form_local l _ = l

  pub other_local : Local → ElsePart → Local
  other_local l NoElse = l
  other_local l (Else s) = statement_local l s

  pub statements_local : Local → Statements → Local
  statements_local l NoStatement = l
  statements_local l (AndThen s rest) = statements_local (statement_local l s) rest

  pub arms_local : Local → Arms → Local
  arms_local l NoArm = l
  arms_local l (Or a rest) = arms_local (arm_local l a) rest

  pub arm_local : Local → Arm → Local
  arm_local l (On cs s) = statement_local l s

  pub branches_local : Local → Branches → Local
  branches_local l NoBranch = l
  branches_local l (Beside ss rest) = branches_local (statements_local l ss) rest

-- the variables that a part declares, all with one role
abbrev pub names_local : Role → Local → List Name → Local
names_local r l [] = l
names_local r l (x ∷ xs) = names_local r (with_declaration l x.text sort.Variable (variable l r)) xs

abbrev pub role_of : Bool → Role
role_of true = role.Reference
role_of false = role.Value

abbrev pub formals_local : Local → List SynFormal → Local
formals_local l [] = l
formals_local l (f ∷ fs) = formals_local (names_local (role_of f.by_reference) l f.names) fs

-- for each parameter, whether it is a variable parameter
abbrev pub references : List SynFormal → List Bool
references [] = []
references (f ∷ fs) = map (λ (x : Name). f.by_reference) f.names ++ references fs

-- a procedure, or a function where it has an answer
abbrev pub block_meaning : Local → List SynFormal → Option Name → Meaning
block_meaning l fs None = meaning.Procedure (next_block l.counts) (references fs)
block_meaning l fs (Some t) = meaning.Function (next_block l.counts) (references fs)

-- the block around a procedure, with its name
abbrev pub title_local : Local → Name → List SynFormal → Option Name → Local
title_local l x fs answer = with_declaration l x.text sort.Block (block_meaning l fs answer)

-- the result of a function, a variable without a name
abbrev pub answer_local : Local → Option Name → Local
answer_local l None = l
answer_local l (Some t) =
    record l { answer = next_variable l.counts; counts = record l.counts { results = l.counts.results + 1 } }

-- a procedure's own block with its parameters and result
abbrev pub heading_local : Local → Name → List SynFormal → Option Name → Local
heading_local l x fs answer =
    answer_local (formals_local (local_of_inner (next_block l.counts) 0 (title_local l x fs answer))
    fs) answer

-- the constants of an enumeration
abbrev pub constants_local : Local → List Name → Local
constants_local l [] = l
constants_local l (x ∷ xs) = constants_local
    (with_declaration l x.text sort.Constant (meaning.Constant (next_constant l.counts))) xs

abbrev pub kind_local : Local → SynKind → Local
kind_local l (kinds.Enumeration xs) = constants_local l xs
kind_local l k = l

abbrev pub type_local : Local → Name → Local
type_local l x = with_declaration l x.text sort.Kind (meaning.Kind (next_kind l.counts))

-- the names of some fields, in front of the names before them
abbrev pub names_with_fields : List (List ℕ) → List Name → List (List ℕ)
names_with_fields before [] = before
names_with_fields before (x ∷ xs) = names_with_fields (x.text ∷ before) xs

-- what a block has declared behind its parts
abbrev mutual
  pub parts_local : Local → Parts → Local
  parts_local l NoPart = l
  parts_local l (Declare p rest) = parts_local (part_local l p) rest

  pub part_local : Local → Part → Local
  part_local l (Const x c) = with_declaration l x.text sort.Constant (meaning.Constant (next_constant l.counts))
  part_local l (Kind x k) = kind_local (type_local l x) k
  part_local l (Var xs t) = names_local role.Local l xs
  part_local l (Proc x fs answer parts body) =
      local_of_outer (title_local l x fs answer)
      (statement_local (parts_local (heading_local l x fs answer) parts) body)

-- the blocks around a block inside
abbrev pub blocks_around : List Scope → Local → List Scope
blocks_around around l = around ++ (l.here ∷ [])

module _ {M : Type 0} (none : M) (join : M → M → M) (site : Env → Site → M) (env : Env) where
  -- a name as an argument: a target where a variable is wanted and it is written as one, in no parentheses
  abbrev pub passed_name_sites : Passing → Place → Name → Bool → M
  passed_name_sites p at x whole = if needs_variable p && same_place at x.at then site env (Targets x) else
      join (site env (Bare at p)) (site env (Operand x whole))

  abbrev mutual
    pub expression_sites : Expression → M
    expression_sites (ExpressionAt at form) = expression_form_sites form

    pub expression_form_sites : ExpressionForm → M
    expression_form_sites (Read v) = operand_sites v
    expression_form_sites (Apply f args) = join (site env (Computes f (count args)))
        (arguments_sites (references_of (find env f.text)) (rest_of (find env f.text)) args)
    expression_form_sites (Unary op a) = expression_sites a
    expression_form_sites (Binary op a b) = join (expression_sites a) (expression_sites b)
    expression_form_sites _ = none

    -- a variable, constant or function in an expression
    pub operand_sites : Variable → M
    operand_sites (Entire x ss) = join (site env (Operand x (is_whole ss))) (selectors_sites ss)

    pub selector_sites : Selector → M
    selector_sites (Index e) = expression_sites e
    selector_sites (Field f) = none

    pub selectors_sites : Selectors → M
    selectors_sites Whole = none
    selectors_sites (Select s rest) = join (selector_sites s) (selectors_sites rest)

    -- the arguments of a call, passed by the flags of the parameters and then as the rest
    pub arguments_sites : List Bool → Passing → Arguments → M
    arguments_sites flags rest NoArgument = none
    arguments_sites flags rest (AndArgument a args) =
        join (argument_sites (next_passing flags rest) a) (arguments_sites (flags_left flags) rest args)

    pub argument_sites : Passing → Argument → M
    argument_sites p (Pass e w) = join (width_sites p (place e) w) (passed_sites p e)

    pub width_sites : Passing → Place → Width → M
    width_sites p at NoWidth = none
    width_sites p at (WithWidth w) = join (site env (Widens at p)) (expression_sites w)

    pub passed_sites : Passing → Expression → M
    passed_sites p (ExpressionAt at (Read (Entire x ss))) =
        join (passed_name_sites p at x (is_whole ss)) (selectors_sites ss)
    passed_sites p (ExpressionAt at form) = join (site env (Bare at p)) (expression_form_sites form)

module _ {M : Type 0} (none : M) (join : M → M → M) (site : Env → Site → M) where
  abbrev pub value_sites : Env → SynValue → M
  value_sites env (value.Number n) = none
  value_sites env (value.Quoted t) = none
  value_sites env (value.Named x) = site env (Uses x AsConstant)

  abbrev pub constants_sites : Env → List SynConst → M
  constants_sites env [] = none
  constants_sites env (c ∷ cs) = join (value_sites env c.value) (constants_sites env cs)

  -- the index of a forall
  abbrev pub index_sites : List Scope → Local → Name → M
  index_sites around l x = site (inner_env around l) (Declares x sort.Variable)

  abbrev pub assigned_sites : Env → Variable → M
  assigned_sites env (Entire x ss) = join (site env (Assigns x (is_whole ss))) (selectors_sites none join site env ss)

  -- a call as a statement
  abbrev pub call_sites : Env → Name → Arguments → M
  call_sites env f args = join (site env (Calls f (count args)))
      (arguments_sites none join site env (references_of (find env f.text)) (rest_of (find env f.text)) args)

  abbrev mutual
    pub statement_sites : List Scope → Local → Statement → M
    statement_sites around l (Does at form) = form_sites around l form

    pub form_sites : List Scope → Local → Form → M
    form_sites around l Empty = none
    form_sites around l (Assign v e) = join (assigned_sites (inner_env around l) v)
        (expression_sites none join site (inner_env around l) e)
    form_sites around l (Call f args) = call_sites (inner_env around l) f args
    form_sites around l (Sequence ss) = statements_sites around l ss
    form_sites around l (If e s o) =
        join (expression_sites none join site (inner_env around l) e)
        (join (statement_sites around l s)
        (other_sites around (statement_local l s) o))
    form_sites around l (While e s) = join (expression_sites none join site (inner_env around l) e)
        (statement_sites around l s)
    form_sites around l (Repeat ss e) = join (statements_sites around l ss)
        (expression_sites none join site (inner_env around (statements_local l ss)) e)
    form_sites around l (Case e choices) = join (expression_sites none join site (inner_env around l) e)
        (arms_sites around l choices)
    form_sites around l (For x from down to s) =
        join (site (inner_env around l) (Loops x))
        (join (expression_sites none join site (inner_env around l) from)
        (join (expression_sites none join site (inner_env around l) to)
        (statement_sites around l s)))
    form_sites around l (Parallel bs) = branches_sites around l bs
    form_sites around l (Forall x from to s) =
        join (expression_sites none join site (inner_env around l) from)
        (join (expression_sites none join site (inner_env around l) to)
        (join (index_sites (blocks_around around l) (local_of_inner l.block l.answer l) x)
        (statement_sites (blocks_around around l) (local_of_index l x) s)))
    form_sites around l (Assume e) = expression_sites none join site (inner_env around l) e

    pub other_sites : List Scope → Local → ElsePart → M
    other_sites around l NoElse = none
    other_sites around l (Else s) = statement_sites around l s

    pub statements_sites : List Scope → Local → Statements → M
    statements_sites around l NoStatement = none
    statements_sites around l (AndThen s rest) =
        join (statement_sites around l s) (statements_sites around (statement_local l s) rest)

    pub arms_sites : List Scope → Local → Arms → M
    arms_sites around l NoArm = none
    arms_sites around l (Or a rest) = join (arm_sites around l a) (arms_sites around (arm_local l a) rest)

    pub arm_sites : List Scope → Local → Arm → M
    arm_sites around l (On cs s) = join (constants_sites (inner_env around l) cs) (statement_sites around l s)

    pub branches_sites : List Scope → Local → Branches → M
    branches_sites around l NoBranch = none
    branches_sites around l (Beside ss rest) =
        join (statements_sites around l ss) (branches_sites around (statements_local l ss) rest)

  -- variables of one role
  abbrev pub names_sites : List Scope → Role → Local → List Name → M
  names_sites around r l [] = none
  names_sites around r l (x ∷ xs) =
      join (site (inner_env around l) (Declares x sort.Variable))
      (names_sites around r (with_declaration l x.text sort.Variable (variable l r)) xs)

  -- the types of the parameters, which mean what they mean around the heading
  abbrev pub heading_sites : Env → List SynFormal → M
  heading_sites env [] = none
  heading_sites env (f ∷ fs) = join (site env (Uses f.kind AsKind)) (heading_sites env fs)

  abbrev pub answer_sites : Env → Option Name → M
  answer_sites env t = option_map_or (λ t. site env (Uses t AsKind)) t none

  -- the parameters
  abbrev pub formals_sites : List Scope → Local → List SynFormal → M
  formals_sites around l [] = none
  formals_sites around l (f ∷ fs) =
      join (names_sites around (role_of f.by_reference) l f.names)
      (formals_sites around (names_local (role_of f.by_reference) l f.names) fs)

  -- a constant in the definition of a type
  abbrev pub bound_sites : Env → Name → SynValue → M
  bound_sites env own (value.Named x) = site env (UsesIn own x AsConstant)
  bound_sites _ _ _ = none

  -- fields of one type, behind others
  abbrev pub fields_sites : Env → List (List ℕ) → List Name → M
  fields_sites env before [] = none
  fields_sites env before (x ∷ xs) = join (site env (Fields x before)) (fields_sites env (x.text ∷ before) xs)

  -- the fields of a record, behind others
  abbrev pub groups_sites : Env → Name → List (List ℕ) → List SynGroup → M
  groups_sites env own before [] = none
  groups_sites env own before (g ∷ gs) =
      join (fields_sites env before g.names)
      (join (site env (UsesIn own g.kind AsKind))
      (groups_sites env own (names_with_fields before g.names) gs))

  abbrev pub messages_sites : Env → Name → List Name → M
  messages_sites env own [] = none
  messages_sites env own (t ∷ ts) = join (site env (UsesIn own t AsKind)) (messages_sites env own ts)

  -- the constants of an enumeration
  abbrev pub enumerated_sites : List Scope → Local → List Name → M
  enumerated_sites around l [] = none
  enumerated_sites around l (x ∷ xs) =
      join (site (inner_env around l) (Declares x sort.Constant))
      (enumerated_sites around (with_declaration l x.text sort.Constant (meaning.Constant (next_constant l.counts))) xs)

  -- the definition of the type `own`
  abbrev pub kind_sites : Env → Name → SynKind → M
  kind_sites env own (kinds.Alias t) = site env (UsesIn own t AsKind)
  kind_sites env own (kinds.Enumeration xs) = none
  kind_sites env own (kinds.Array a b t) =
      join (bound_sites env own a.value)
      (join (bound_sites env own b.value)
      (site env (UsesIn own t AsKind)))
  kind_sites env own (kinds.Record gs) = groups_sites env own [] gs
  kind_sites env own (kinds.Channel ts) = messages_sites env own ts

  -- the constants of an enumeration, which are declared behind the type's name
  abbrev pub kind_constants_sites : List Scope → Local → SynKind → M
  kind_constants_sites around l (kinds.Enumeration xs) = enumerated_sites around l xs
  kind_constants_sites around l k = none

  -- what stands in a heading for the block around it
  abbrev pub title_sites : Env → Name → List SynFormal → Option Name → M
  title_sites env x fs answer = join (site env (Declares x sort.Block))
      (join (heading_sites env fs) (answer_sites env answer))

  abbrev mutual
    pub parts_sites : List Scope → Local → Parts → M
    parts_sites around l NoPart = none
    parts_sites around l (Declare p rest) = join (part_sites around l p) (parts_sites around (part_local l p) rest)

    pub part_sites : List Scope → Local → Part → M
    part_sites around l (Const x c) = join (site (inner_env around l) (Declares x sort.Constant))
        (value_sites (inner_env around l) c.value)
    part_sites around l (Kind x k) =
        join (site (inner_env around l) (Declares x sort.Kind))
        (join (kind_sites (inner_env around l) x k)
        (kind_constants_sites around (type_local l x) k))
    part_sites around l (Var xs t) =
        join (site (inner_env around l) (Uses t AsKind)) (names_sites around role.Local l xs)
    part_sites around l (Proc x fs answer parts body) =
        join (title_sites (inner_env around l) x fs answer)
        (join (formals_sites (blocks_around around (title_local l x fs answer))
        (local_of_inner (next_block l.counts) 0 (title_local l x fs answer)) fs)
        (join (parts_sites (blocks_around around (title_local l x fs answer)) (heading_local l x fs answer) parts)
        (statement_sites (blocks_around around (title_local l x fs answer))
        (parts_local (heading_local l x fs answer) parts)
        body)))

  -- the names in the program's heading
  abbrev pub files_sites : List (List ℕ) → List Name → M
  files_sites before [] = none
  files_sites before (x ∷ xs) =
      join (site (inner_env [] empty_local) (Heads x before)) (files_sites (x.text ∷ before) xs)

  abbrev pub block_sites : List Scope → Local → Block → M
  block_sites around l b = join (parts_sites around l b.parts) (statement_sites around (parts_local l b.parts) b.body)

  -- the program, with the standard names in a block around it
  abbrev pub program_sites : Program → M
  program_sites p = join (files_sites [] p.heading) (block_sites (standard_scope ∷ []) empty_local p.block)
