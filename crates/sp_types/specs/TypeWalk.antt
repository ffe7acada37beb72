-- All of this belongs to what the program promises (docs/promise.txt).
-- All that stands in a program for the rules of types. `join` puts together what is found at the nodes: lists give all
-- broken rules, `earlier_refusal` the first. The contracts of this crate follow its parts.
use Rattle.std.specs.Option.{option_map_or}
use Rattle.std.specs.Prelude.{option_and_then}
use Rattle.std.specs.Prelude.{ℕ, zero, suc, ◌+◌, nat_eq, nat_lt, ◌&&◌, ◌||◌, List, [], ◌∷◌, ◌++◌, Bool, false}
use Rattle.std.specs.Prelude.{if◌then◌else◌, Option, Some, None, slice_get}
use Rattle.sp_base.specs.declared.place.Place.{Place}
use Rattle.sp_tree.specs.declared.checked.Role.{Role}
use Rattle.sp_tree.specs.declared.checked.Variable as checked
use Rattle.sp_tree.specs.declared.operators.StandardFn.{StandardFn}
use Rattle.sp_tree.specs.declared.meaning.StandardProcedure.{StandardProcedure}
use Rattle.sp_tree.specs.declared.meaning.StandardProcedure.TheVariants as procedure
use Rattle.sp_tree.specs.declared.named.NamedConstant.{NamedConstant}
use Rattle.sp_tree.specs.declared.named.NamedConstant.TheVariants as constant
use Rattle.sp_tree.specs.declared.named.NamedConst.{NamedConst}
use Rattle.sp_tree.specs.declared.named.NamedKind.{NamedKind}
use Rattle.sp_tree.specs.declared.named.NamedKindForm.{NamedKindForm}
use Rattle.sp_tree.specs.declared.named.NamedKindForm.TheVariants as form
use Rattle.sp_tree.specs.declared.named.NamedAnswer.{NamedAnswer}
use Rattle.sp_tree.specs.Cells.{sizes}
use Rattle.sp_tree.specs.PhaseResults.{FirstRefusal}
use Rattle.sp_tree.specs.NameRules.{same_place}
use Rattle.sp_tree.specs.PlainNamed.{Expression, ExpressionAt, ExpressionForm, Number, Quoted, Constant, Read, Apply}
use Rattle.sp_tree.specs.PlainNamed.{Standard}
use Rattle.sp_tree.specs.PlainNamed.{Unary, Binary, Variable, Entire, Selector, Index, Field, Selectors, Whole, Select}
use Rattle.sp_tree.specs.PlainNamed.{Argument, Pass, Width, NoWidth, WithWidth, Arguments, NoArgument, AndArgument}
use Rattle.sp_tree.specs.PlainNamed.{Statement, Does, Form, Empty, Assign, Call, Perform, Sequence, If, While, Repeat}
use Rattle.sp_tree.specs.PlainNamed.{Case, For, Parallel, Forall, Assume, ElsePart, NoElse, Else, Statements}
use Rattle.sp_tree.specs.PlainNamed.{NoStatement}
use Rattle.sp_tree.specs.PlainNamed.{AndThen, Arm, On, Arms, NoArm, Or, Branches, NoBranch, Beside, Block, Program}
use Rattle.sp_types.specs.declared.tables.Ordinal.{Ordinal}
use Rattle.sp_types.specs.Tables.{Env, const_value, variable_kind, ordinal_kind, formals_of, with_next_number}
use Rattle.sp_types.specs.Tables.{with_index_type}
use Rattle.sp_types.specs.Tables.{numbers_of, constants_of, env_of}
use Rattle.sp_types.specs.TypeRules.{unary_rule, left_rule, right_rule, index_rule, field_rule, condition_rule}
use Rattle.sp_types.specs.TypeRules.{assign_rule, actual_rule, standard_rule, read_rule, write_rule, width_rule}
use Rattle.sp_types.specs.TypeRules.{channel_rule, message_rule, range_rule, limit_rule, selector_rule, choice_rule}
use Rattle.sp_types.specs.TypeRules.{repeat_rule, bounds_rule, const_rule, text_rule, answer_rule, cells_rule}
use Rattle.sp_types.specs.TypeRules.{frame_cells, frame_rule}
use Rattle.sp_types.specs.Kinds.{expression_kind, selected, selection, argument_kind}

abbrev pub place : Expression → Place
place (ExpressionAt at form) = at

-- written as a variable: in no parentheses
abbrev pub is_variable : Expression → Bool
is_variable (ExpressionAt at (Read (Entire x name ss))) = same_place at name
is_variable e = false

-- the first formal, and the others
abbrev pub formal : List ℕ → Option ℕ
formal [] = None
formal (x ∷ xs) = Some x

abbrev pub formals_behind : List ℕ → List ℕ
formals_behind [] = []
formals_behind (x ∷ xs) = xs

abbrev pub formal_role : Env → Option ℕ → Option Role
formal_role env x = option_and_then (slice_get env.roles) x

abbrev pub formal_kind : Env → Option ℕ → Option ℕ
formal_kind env x = option_and_then (variable_kind env) x

-- the arguments behind the first
abbrev pub arguments_behind : Arguments → Arguments
arguments_behind NoArgument = NoArgument
arguments_behind (AndArgument a rest) = rest

-- how many arguments
abbrev pub count : Arguments → ℕ
count NoArgument = 0
count (AndArgument a rest) = suc (count rest)

-- the numbers of so many statements more
abbrev pub with_more_numbers : ℕ → Env → Env
with_more_numbers n env = record env { next = env.next + n }

-- the single statements that a call of a standard procedure stands for
abbrev pub single_count : StandardProcedure → Arguments → ℕ
single_count procedure.Readln args = count args + 1
single_count procedure.Writeln args = count args + 1
single_count procedure.Send args = count (arguments_behind args)
single_count procedure.Receive args = count (arguments_behind args)
single_count _ args = count args

-- one is the statement itself, others stand in a sequence
abbrev pub parts_count : ℕ → ℕ
parts_count (suc zero) = 0
parts_count n = n

-- what is known behind a statement: its statements have their numbers, and the indices of its foralls their types
abbrev mutual
  pub statement_after : Env → Statement → Env
  statement_after env (Does at form) = form_after (with_next_number env) form

  pub form_after : Env → Form → Env
  form_after env (Perform p args) = with_more_numbers (parts_count (single_count p args)) env
  form_after env (Sequence ss) = statements_after env ss
  form_after env (If e s o) = other_after (statement_after env s) o
  form_after env (While e s) = statement_after env s
  form_after env (Repeat ss e) = statements_after (with_next_number env) ss
  form_after env (Case e choices) = arms_after env choices
  form_after env (For x at from down to s) = statement_after env s
  form_after env (Parallel bs) = branches_after env bs
  form_after env (Forall x from to s) = statement_after (with_index_type env x (expression_kind env from)) s
  form_after env _ = env

  pub other_after : Env → ElsePart → Env
  other_after env NoElse = env
  other_after env (Else s) = statement_after env s

  pub statements_after : Env → Statements → Env
  statements_after env NoStatement = env
  statements_after env (AndThen s rest) = statements_after (statement_after env s) rest

  pub arms_after : Env → Arms → Env
  arms_after env NoArm = env
  arms_after env (Or a rest) = arms_after (arm_after env a) rest

  pub arm_after : Env → Arm → Env
  arm_after env (On cs s) = statement_after env s

  pub branches_after : Env → Branches → Env
  branches_after env NoBranch = env
  branches_after env (Beside ss rest) = branches_after (statements_after (with_next_number env) ss) rest

-- the number behind a statement whose own number is given: each statement has one, those inside it the next ones
abbrev mutual
  pub statement_counted : ℕ → Statement → ℕ
  statement_counted k (Does at form) = form_counted (k + 1) form

  pub form_counted : ℕ → Form → ℕ
  form_counted k (Perform p args) = k + parts_count (single_count p args)
  form_counted k (Sequence ss) = statements_counted k ss
  form_counted k (If e s o) = other_counted (statement_counted k s) o
  form_counted k (While e s) = statement_counted k s
  form_counted k (Repeat ss e) = statements_counted (k + 1) ss
  form_counted k (Case e choices) = arms_counted k choices
  form_counted k (For x at from down to s) = statement_counted k s
  form_counted k (Parallel bs) = branches_counted k bs
  form_counted k (Forall x from to s) = statement_counted k s
  form_counted k _ = k

  pub other_counted : ℕ → ElsePart → ℕ
  other_counted k NoElse = k
  other_counted k (Else s) = statement_counted k s

  pub statements_counted : ℕ → Statements → ℕ
  statements_counted k NoStatement = k
  statements_counted k (AndThen s rest) = statements_counted (statement_counted k s) rest

  pub arms_counted : ℕ → Arms → ℕ
  arms_counted k NoArm = k
  arms_counted k (Or a rest) = arms_counted (arm_counted k a) rest

  pub arm_counted : ℕ → Arm → ℕ
  arm_counted k (On cs s) = statement_counted k s

  pub branches_counted : ℕ → Branches → ℕ
  branches_counted k NoBranch = k
  branches_counted k (Beside ss rest) = branches_counted (statements_counted (k + 1) ss) rest

abbrev pub statement_place : Statement → Place
statement_place (Does at form) = at

-- for each block, the place of its statement part and how many statements it has
abbrev pub bodies : List Block → List (Place × ℕ)
bodies [] = []
bodies (b ∷ bs) = (statement_place b.body, statement_counted 0 b.body) ∷ bodies bs

-- the first of two places comes before the second
abbrev pub is_earlier : Place → Place → Bool
is_earlier a b = nat_lt a.line b.line || (nat_eq a.line b.line && nat_lt a.column b.column)

-- The number of the first statement of the part that begins at a place, counted on from k: numbers go by the order of
-- the text, where the statement part of a block stands behind those of the blocks inside it.
abbrev pub count_before : ℕ → Place → List (Place × ℕ) → ℕ
count_before k at [] = k
count_before k at (b ∷ bs) = count_before (if is_earlier b.0 at then k + b.1 else k) at bs

-- the number of each block's first statement
abbrev pub starts_from : List (Place × ℕ) → List (Place × ℕ) → List ℕ
starts_from all [] = []
starts_from all (b ∷ bs) = count_before 0 b.0 all ∷ starts_from all bs

abbrev pub starts_of : List Block → List ℕ
starts_of bs = starts_from (bodies bs) (bodies bs)

-- the next statement has this number
abbrev pub with_first_number : Env → ℕ → Env
with_first_number env n = record env { next = n }

-- what is known behind blocks, whose bodies have these first numbers
abbrev pub blocks_after : Env → List ℕ → List Block → Env
blocks_after env starts [] = env
blocks_after env [] (b ∷ bs) = env
blocks_after env (n ∷ starts) (b ∷ bs) = blocks_after (statement_after (with_first_number env n) b.body) starts bs

-- the places of the names of new types; another name of a type makes none
abbrev pub place_by : Place → NamedKindForm → List Place
place_by at (form.Alias k) = []
place_by at f = at ∷ []

abbrev pub places_of : List NamedKind → List Place
places_of [] = []
places_of (k ∷ ks) = place_by k.at k.form ++ places_of ks

-- the constants of a `case` statement up to and with one more
abbrev pub with_constant : Option Ordinal → List Ordinal → List Ordinal
with_constant o before = option_map_or (λ o. before ++ o ∷ []) o before

abbrev pub with_constants : Env → List NamedConst → List Ordinal → List Ordinal
with_constants env [] before = before
with_constants env (c ∷ cs) before = with_constants env cs (with_constant (const_value env.constants c) before)

abbrev pub arm_constants : Arm → List NamedConst
arm_constants (On cs s) = cs

-- the constants of each choice
abbrev pub constant_lists : Arms → List (List NamedConst)
constant_lists NoArm = []
constant_lists (Or a rest) = arm_constants a ∷ constant_lists rest

module _ {M : Type 0} (none : M) (join : M → M → M) (site : FirstRefusal → M) where
  module _ (env : Env) where
    abbrev mutual
      pub expression_sites : Expression → M
      expression_sites (ExpressionAt at form) = form_sites at form

      pub form_sites : Place → ExpressionForm → M
      form_sites at (Number n) = none
      form_sites at (Quoted t) = site (text_rule at t)
      form_sites at (Constant k) = none
      form_sites at (Read v) = variable_sites v
      form_sites at (Apply f name args) = actuals_sites (formals_of env f) args
      form_sites at (Standard f args) = standard_sites f args
      form_sites at (Unary op a) = join (expression_sites a) (site (unary_rule op (place a) (expression_kind env a)))
      form_sites at (Binary op a b) =
          join
          (join (expression_sites a) (site (left_rule env op (place a) (expression_kind env a))))
          (join (expression_sites b) (site (right_rule env op (place b) (expression_kind env a)
          (expression_kind env b))))

      pub variable_sites : Variable → M
      variable_sites (Entire x at ss) = selectors_sites at (variable_kind env x) ss

      -- the selectors of a variable, which has a type so far
      pub selectors_sites : Place → Option ℕ → Selectors → M
      selectors_sites at k Whole = none
      selectors_sites at k (Select s rest) = join (selector_sites at k s) (selectors_sites at (selection env k s) rest)

      pub selector_sites : Place → Option ℕ → Selector → M
      selector_sites at k (Index e) = join (expression_sites e)
          (site (index_rule env at k (place e) (expression_kind env e)))
      selector_sites at k (Field name) = site (field_rule env at k name)

      -- the actual parameters of a call, by its formals
      pub actuals_sites : List ℕ → Arguments → M
      actuals_sites xs NoArgument = none
      actuals_sites xs (AndArgument a rest) = join (actual_sites (formal xs) a) (actuals_sites (formals_behind xs) rest)

      pub actual_sites : Option ℕ → Argument → M
      actual_sites x (Pass e w) = join (expression_sites e)
          (site (actual_rule (formal_role env x) (place e) (is_variable e) (formal_kind env x) (expression_kind env e)))

      -- the parameters of a standard function
      pub standard_sites : StandardFn → Arguments → M
      standard_sites f NoArgument = none
      standard_sites f (AndArgument a rest) = join (parameter_sites f a) (standard_sites f rest)

      pub parameter_sites : StandardFn → Argument → M
      parameter_sites f (Pass e w) = join (expression_sites e)
          (site (standard_rule env f (place e) (expression_kind env e)))

    -- what is read
    abbrev pub read_sites : Argument → M
    read_sites (Pass e w) = join (expression_sites e) (site (read_rule (place e) (expression_kind env e)))

    -- what is written: a text may have any length
    abbrev pub written_sites : Expression → M
    written_sites (ExpressionAt at (Quoted t)) = none
    written_sites e = join (expression_sites e) (site (write_rule (place e) (expression_kind env e)))

    abbrev pub width_sites : Place → Width → M
    width_sites at NoWidth = none
    width_sites at (WithWidth w) = join (expression_sites w) (site (width_rule at (expression_kind env w)))

    abbrev pub write_sites : Argument → M
    write_sites (Pass e w) = join (width_sites (place e) w) (written_sites e)

    -- a channel: what is opened, or the first argument of `send` or `receive`
    abbrev pub channel_sites : Argument → M
    channel_sites (Pass e w) = join (expression_sites e) (site (channel_rule env (place e) (expression_kind env e)))

    -- what is sent or received on a channel of a type
    abbrev pub message_sites : Option ℕ → Argument → M
    message_sites c (Pass e w) = join (expression_sites e) (site (message_rule env (place e) c (expression_kind env e)))

    abbrev pub each_sites : (Argument → M) → Arguments → M
    each_sites f NoArgument = none
    each_sites f (AndArgument a rest) = join (f a) (each_sites f rest)

    -- a channel and its messages
    abbrev pub messages_sites : Arguments → M
    messages_sites NoArgument = none
    messages_sites (AndArgument a rest) = join (channel_sites a) (each_sites (message_sites (argument_kind env a)) rest)

    abbrev pub perform_sites : StandardProcedure → Arguments → M
    perform_sites procedure.Write args = each_sites write_sites args
    perform_sites procedure.Writeln args = each_sites write_sites args
    perform_sites procedure.Open args = each_sites channel_sites args
    perform_sites procedure.Send args = messages_sites args
    perform_sites procedure.Receive args = messages_sites args
    perform_sites _ args = each_sites read_sites args

    abbrev pub condition_sites : Expression → M
    condition_sites e = join (expression_sites e) (site (condition_rule (place e) (expression_kind env e)))

    -- a limit, which has to have this type
    abbrev pub limit_sites : Option ℕ → Expression → M
    limit_sites k e = join (expression_sites e) (site (limit_rule (place e) k (expression_kind env e)))

    -- a constant of a `case` statement with a selector of this type, behind others
    abbrev pub choice_sites : Option ℕ → List Ordinal → NamedConst → M
    choice_sites k before c =
        join (site (const_rule env.constants c))
        (join (site (choice_rule c.at k (ordinal_kind (const_value env.constants c))))
        (site (repeat_rule c.at before (const_value env.constants c))))

    abbrev pub choices_sites : Option ℕ → List Ordinal → List NamedConst → M
    choices_sites k before [] = none
    choices_sites k before (c ∷ cs) = join (choice_sites k before c)
        (choices_sites k (with_constant (const_value env.constants c) before) cs)

    -- the constants of all choices, of which the first have been read
    abbrev pub lists_sites : Option ℕ → List Ordinal → List (List NamedConst) → M
    lists_sites k before [] = none
    lists_sites k before (cs ∷ rest) = join (choices_sites k before cs)
        (lists_sites k (with_constants env cs before) rest)

  abbrev mutual
    pub statement_sites : Env → Statement → M
    statement_sites env (Does at form) = statement_form_sites (with_next_number env) form

    pub statement_form_sites : Env → Form → M
    statement_form_sites env Empty = none
    statement_form_sites env (Assign v e) = join (variable_sites env v)
        (join (expression_sites env e) (site (assign_rule (place e) (selected env v) (expression_kind env e))))
    statement_form_sites env (Call f args) = actuals_sites env (formals_of env f) args
    statement_form_sites env (Perform p args) = perform_sites env p args
    statement_form_sites env (Sequence ss) = statements_sites env ss
    statement_form_sites env (If e s o) = join (condition_sites env e)
        (join (statement_sites env s) (other_sites (statement_after env s) o))
    statement_form_sites env (While e s) = join (condition_sites env e) (statement_sites env s)
    statement_form_sites env (Repeat ss e) =
        join (statements_sites (with_next_number env) ss)
        (condition_sites (statements_after (with_next_number env) ss) e)
    statement_form_sites env (Case e choices) =
        join (join (expression_sites env e) (site (selector_rule env (place e) (expression_kind env e))))
        (join (lists_sites env (expression_kind env e) [] (constant_lists choices)) (arms_sites env choices))
    statement_form_sites env (For x at from down to s) =
        join (site (range_rule env at (variable_kind env x)))
        (join (limit_sites env (variable_kind env x) from)
        (join (limit_sites env (variable_kind env x) to) (statement_sites env s)))
    statement_form_sites env (Parallel bs) = branches_sites env bs
    statement_form_sites env (Forall x from to s) =
        join (join (expression_sites env from) (site (range_rule env (place from) (expression_kind env from))))
        (join (limit_sites env (expression_kind env from) to)
        (statement_sites (with_index_type env x (expression_kind env from)) s))
    statement_form_sites env (Assume e) = condition_sites env e

    pub other_sites : Env → ElsePart → M
    other_sites env NoElse = none
    other_sites env (Else s) = statement_sites env s

    pub statements_sites : Env → Statements → M
    statements_sites env NoStatement = none
    statements_sites env (AndThen s rest) = join (statement_sites env s) (statements_sites (statement_after env s) rest)

    pub arms_sites : Env → Arms → M
    arms_sites env NoArm = none
    arms_sites env (Or a rest) = join (arm_sites env a) (arms_sites (arm_after env a) rest)

    pub arm_sites : Env → Arm → M
    arm_sites env (On cs s) = statement_sites env s

    pub branches_sites : Env → Branches → M
    branches_sites env NoBranch = none
    branches_sites env (Beside ss rest) = join (statements_sites (with_next_number env) ss)
        (branches_sites (statements_after (with_next_number env) ss) rest)

  -- declared constants
  abbrev pub constants_sites : List (Option Ordinal) → List NamedConstant → M
  constants_sites known [] = none
  constants_sites known (constant.Value c ∷ cs) = join (site (const_rule known c)) (constants_sites known cs)
  constants_sites known (constant.Enumerated k i ∷ cs) = constants_sites known cs

  -- the bounds of an array
  abbrev pub bounds_sites : List (Option Ordinal) → NamedKindForm → M
  bounds_sites known (form.Array a b e) = join (site (const_rule known a))
      (join (site (const_rule known b)) (site (bounds_rule b.at (const_value known a) (const_value known b))))
  bounds_sites known f = none

  -- the bounds of the declared types
  abbrev pub kinds_sites : List (Option Ordinal) → List NamedKind → M
  kinds_sites known [] = none
  kinds_sites known (k ∷ ks) = join (bounds_sites known k.form) (kinds_sites known ks)

  -- the cells of new types, whose names stand at these places
  abbrev pub cells_sites : List Place → List ℕ → M
  cells_sites (at ∷ places) (n ∷ cells) = join (site (cells_rule at n)) (cells_sites places cells)
  cells_sites _ _ = none

  abbrev pub answer_sites : Env → Option NamedAnswer → M
  answer_sites env a = option_map_or (λ a. site (answer_rule env a.at (variable_kind env a.variable))) a none

  abbrev pub block_sites : List ℕ → List ℕ → List checked.Variable → ℕ → Env → Block → M
  block_sites numbers cells variables b env x =
      join (site (frame_rule x.at (frame_cells numbers cells b variables)))
      (join (answer_sites env x.answer) (statement_sites env x.body))

  -- blocks from a number on, whose bodies have these first numbers
  abbrev pub blocks_sites : List ℕ → List ℕ → List checked.Variable → ℕ → Env → List ℕ → List Block → M
  blocks_sites numbers cells variables b env starts [] = none
  blocks_sites numbers cells variables b env [] (x ∷ xs) = none
  blocks_sites numbers cells variables b env (n ∷ starts) (x ∷ xs) =
      join (block_sites numbers cells variables b (with_first_number env n) x)
      (blocks_sites numbers cells variables (b + 1) (statement_after (with_first_number env n) x.body) starts xs)

  -- a program
  abbrev pub program_sites : Program → M
  program_sites p =
      join (constants_sites (constants_of p) p.constants)
      (join (kinds_sites (constants_of p) p.kinds)
      (join (cells_sites (places_of p.kinds) (sizes (env_of p).kinds))
      (blocks_sites (numbers_of p) (sizes (env_of p).kinds) p.variables 0 (env_of p) (starts_of p.blocks) p.blocks)))
