-- All of this belongs to what the program promises (docs/promise.txt).
-- The types of expressions and variables, by their numbers. None: the part is broken, and has no type. The rules of
-- types and the checked tree go by it, and the walks promise it of each part.
use Rattle.std.specs.Prelude.{option_and_then, option_map}
use Rattle.std.specs.Prelude.{ℕ, if◌then◌else◌, List, Option, Some, None}
use Rattle.sp_tree.specs.declared.checked.KindOf.{KindOf}
use Rattle.sp_tree.specs.declared.checked.KindOf.TheVariants as kind
use Rattle.sp_tree.specs.declared.operators.StandardFn.{StandardFn}
use Rattle.sp_tree.specs.declared.operators.StandardFn.TheVariants as fn
use Rattle.sp_tree.specs.PlainNamed.{Expression, ExpressionAt, ExpressionForm, Number, Quoted, Constant, Read, Apply}
use Rattle.sp_tree.specs.PlainNamed.{Standard}
use Rattle.sp_tree.specs.PlainNamed.{Unary, Binary, Variable, Entire, Selector, Index, Field, Selectors, Whole, Select}
use Rattle.sp_tree.specs.PlainNamed.{Argument, Pass, Arguments, NoArgument, AndArgument}
use Rattle.sp_types.specs.Tables.{Env, kind_at, char_of, ordinal_kind, constant_kind, variable_kind, answer_kind}
use Rattle.sp_types.specs.TypeRules.{integer, boolean, char, ordinal, unary_takes, binary_gives, differ, field_in}

-- the elements of an array under an index; an index that has another type is wrong, one that has none is not
abbrev pub element_of : Option ℕ → KindOf → Option ℕ
element_of i (kind.Array low high index element) = if differ (Some index) i then None else Some element
element_of i k = None

-- the same where the type may be unknown
abbrev pub element_in : Option ℕ → Option KindOf → Option ℕ
element_in i k = option_and_then (element_of i) k

-- the elements of an array by its type's number
abbrev pub element : Env → Option ℕ → Option ℕ → Option ℕ
element env k i = option_and_then (λ k. element_in i (kind_at env k)) k

-- the type of a field that was found
abbrev pub field_kind : Option (ℕ × ℕ) → Option ℕ
field_kind f = option_map (λ f. f.1) f

-- the type of a field by the record's number
abbrev pub field : Env → Option ℕ → List ℕ → Option ℕ
field env k name = option_and_then (λ k. field_kind (field_in name (kind_at env k))) k

-- an ordinal's own type
abbrev pub if_ordinal : Env → Option ℕ → Option ℕ
if_ordinal env k = option_and_then (λ k. if ordinal env k then Some k else None) k

-- what a standard function gives, by its parameter
abbrev pub standard_gives : Env → StandardFn → Option ℕ → Option ℕ
standard_gives env fn.Odd k = Some boolean
standard_gives env fn.Chr k = Some char
standard_gives env fn.Succ k = if_ordinal env k
standard_gives env fn.Pred k = if_ordinal env k
standard_gives env fn.Eof k = Some boolean
standard_gives env fn.Eoln k = Some boolean
standard_gives _ _ _ = Some integer

module _ (env : Env) where
  abbrev mutual
    pub expression_kind : Expression → Option ℕ
    expression_kind (ExpressionAt at form) = form_kind form

    pub form_kind : ExpressionForm → Option ℕ
    form_kind (Number n) = Some integer
    form_kind (Quoted t) = ordinal_kind (char_of t)
    form_kind (Constant k) = constant_kind env k
    form_kind (Read v) = selected v
    form_kind (Apply f at args) = answer_kind env f
    form_kind (Standard f args) = standard_gives env f (parameter_kind None args)
    form_kind (Unary op a) = Some (unary_takes op)
    form_kind (Binary op a b) = Some (binary_gives op)

    -- a variable with its selectors
    pub selected : Variable → Option ℕ
    selected (Entire x at ss) = selected_kind (variable_kind env x) ss

    pub selected_kind : Option ℕ → Selectors → Option ℕ
    selected_kind k Whole = k
    selected_kind k (Select s rest) = selected_kind (selection k s) rest

    pub selection : Option ℕ → Selector → Option ℕ
    selection k (Index e) = element env k (expression_kind e)
    selection k (Field name) = field env k name

    -- the type of a standard function's parameter, of which there is at most one
    pub parameter_kind : Option ℕ → Arguments → Option ℕ
    parameter_kind k NoArgument = k
    parameter_kind k (AndArgument a rest) = parameter_kind (argument_kind a) rest

    pub argument_kind : Argument → Option ℕ
    argument_kind (Pass e w) = expression_kind e
