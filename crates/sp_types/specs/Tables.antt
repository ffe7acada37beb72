-- All of this belongs to what the program promises (docs/promise.txt).
-- What a program declares, by numbers: its types, its constants, its variables and the headings of its blocks. The
-- rules of types and the checked tree ask it, and the contracts of the tables promise it.
use Rattle.std.specs.Option.{option_flatten, option_map_or}
use Rattle.std.specs.Prelude.{option_and_then, option_map}
use Rattle.std.specs.Prelude.{ℕ, ◌+◌, nat_eq, ℤ, pos, neg_ℤ, int_le, not, Bool, true, false, ◌&&◌, if◌then◌else◌, List}
use Rattle.std.specs.Prelude.{[], ◌∷◌, ◌++◌, length, map, slice_get, slice_set, Option, Some, None}
use Rattle.sp_tree.specs.declared.checked.KindOf.{KindOf}
use Rattle.sp_tree.specs.declared.checked.KindOf.TheVariants as kind
use Rattle.sp_tree.specs.declared.checked.Role.{Role}
use Rattle.sp_tree.specs.declared.checked.Role.TheVariants as role
use Rattle.sp_tree.specs.declared.checked.Variable as checked
use Rattle.sp_tree.specs.declared.named.NamedConstant.{NamedConstant}
use Rattle.sp_tree.specs.declared.named.NamedConstant.TheVariants as constant
use Rattle.sp_tree.specs.declared.named.NamedConst.{NamedConst}
use Rattle.sp_tree.specs.declared.named.NamedValue.{NamedValue}
use Rattle.sp_tree.specs.declared.named.NamedValue.TheVariants as given
use Rattle.sp_tree.specs.declared.named.NamedKind.{NamedKind}
use Rattle.sp_tree.specs.declared.named.NamedKindForm.{NamedKindForm}
use Rattle.sp_tree.specs.declared.named.NamedKindForm.TheVariants as form
use Rattle.sp_tree.specs.declared.named.NamedAnswer.{NamedAnswer}
use Rattle.sp_tree.specs.Cells.{first_or}
use Rattle.sp_tree.specs.PlainNamed as n
use Rattle.sp_types.specs.declared.tables.Ordinal.{Ordinal}
use Rattle.sp_types.specs.declared.tables.Signature.{Signature}
use Rattle.sp_types.specs.declared.tables.Tables.{Tables}

-- Another name of a type stands for the type's number; each other definition makes a new type, with the next number.
abbrev pub number_by : List ℕ → ℕ → NamedKindForm → ℕ
number_by known next (form.Alias k) = first_or 0 (slice_get known k)
number_by known next f = next

abbrev pub next_by : ℕ → NamedKindForm → ℕ
next_by next (form.Alias k) = next
next_by next f = next + 1

-- the types that declared names stand for, where those of the names before them are known
abbrev pub numbers_from : List ℕ → ℕ → List NamedKind → List ℕ
numbers_from known next [] = known
numbers_from known next (k ∷ ks) = numbers_from (known ++ number_by known next k.form ∷ []) (next_by next k.form) ks

-- the number of a declared name's type
abbrev pub type_number : List ℕ → ℕ → ℕ
type_number numbers k = first_or 0 (slice_get numbers k)

-- the fields of a record, with the numbers of their types
abbrev pub fields_by : List ℕ → List (List ℕ × ℕ) → List (List ℕ × ℕ)
fields_by numbers fields = map (λ f. (f.0, type_number numbers f.1)) fields

-- a text of length 1 is a char
abbrev pub char_of : List ℕ → Option Ordinal
char_of (c ∷ []) = Some (record { kind = 2; number = pos c })
char_of t = None

-- an entry of a table, none where the number is none of the table's
abbrev pub table_entry : {A : Type 0} → Option (Option A) → Option A
table_entry x = option_flatten x

-- a constant without its sign; none: it is a text that is no char
abbrev pub value_by : List (Option Ordinal) → NamedValue → Option Ordinal
value_by known (given.Number n) = Some (record { kind = 0; number = pos n })
value_by known (given.Quoted t) = char_of t
value_by known (given.Constant k) = table_entry (slice_get known k)

-- a sign before an integer; before anything else it is wrong, and changes nothing
abbrev pub signed_value : Option Bool → Option Ordinal → Option Ordinal
signed_value (Some true) (Some o) = Some (record o { number = if nat_eq o.kind 0 then neg_ℤ o.number else o.number })
signed_value sign o = o

-- the type and the number of a written constant
abbrev pub const_value : List (Option Ordinal) → NamedConst → Option Ordinal
const_value known c = signed_value c.negative (value_by known c.value)

abbrev pub constant_by : List ℕ → List (Option Ordinal) → NamedConstant → Option Ordinal
constant_by numbers known (constant.Value c) = const_value known c
constant_by numbers known (constant.Enumerated k i) = Some (record { kind = type_number numbers k; number = pos i })

-- the declared constants, where those before them are known
abbrev pub constants_from : List ℕ → List (Option Ordinal) → List NamedConstant → List (Option Ordinal)
constants_from numbers known [] = known
constants_from numbers known (c ∷ cs) = constants_from numbers (known ++ constant_by numbers known c ∷ []) cs

-- a sign stands before what is no integer
abbrev pub has_wrong_sign : Option Bool → Option Ordinal → Bool
has_wrong_sign (Some s) (Some o) = not (nat_eq o.kind 0)
has_wrong_sign sign o = false

-- a text that is no char
abbrev pub is_long : NamedValue → Bool
is_long (given.Quoted t) = not (nat_eq (length t) 1)
is_long v = false

-- two bounds have different types, or the lower is above the upper
abbrev pub are_wrong : Option Ordinal → Option Ordinal → Bool
are_wrong (Some a) (Some b) = not (nat_eq a.kind b.kind && int_le a.number b.number)
are_wrong a b = false

-- bounds without any fault
abbrev pub are_bounds : List (Option Ordinal) → NamedConst → NamedConst → Bool
are_bounds known a b =
    not (is_long a.value) && (not (is_long b.value)
    && (not (has_wrong_sign a.negative (value_by known a.value))
    && (not (has_wrong_sign b.negative (value_by known b.value))
    && not (are_wrong (const_value known a) (const_value known b)))))

abbrev pub type_or : ℕ → Option Ordinal → ℕ
type_or d o = option_map_or (λ o. o.kind) o d

abbrev pub number_or : ℤ → Option Ordinal → ℤ
number_or d o = option_map_or (λ o. o.number) o d

-- An array whose bounds have a fault has no elements.
abbrev pub array_of : List (Option Ordinal) → NamedConst → NamedConst → ℕ → KindOf
array_of known a b element =
    if are_bounds known a b then kind.Array (number_or (pos 1) (const_value known a))
    (number_or (pos 0) (const_value known b)) (type_or 0 (const_value known a)) element
    else kind.Array (pos 1) (pos 0) (type_or 0 (const_value known a)) element

-- a type; another name of a type is none
abbrev pub kinds_by : List ℕ → List (Option Ordinal) → NamedKindForm → List KindOf
kinds_by numbers known form.Integer = kind.Integer ∷ []
kinds_by numbers known form.Boolean = kind.Boolean ∷ []
kinds_by numbers known form.Char = kind.Char ∷ []
kinds_by numbers known (form.Alias k) = []
kinds_by numbers known (form.Enumeration m) = kind.Enumeration m ∷ []
kinds_by numbers known (form.Array a b e) = array_of known a b (type_number numbers e) ∷ []
kinds_by numbers known (form.Fields fs) = kind.Fields (fields_by numbers fs) ∷ []
kinds_by numbers known (form.Channel ks) = kind.Channel (map (type_number numbers) ks) ∷ []

-- the types, in order of declaration
abbrev pub kinds_from : List ℕ → List (Option Ordinal) → List NamedKind → List KindOf
kinds_from numbers known [] = []
kinds_from numbers known (k ∷ ks) = kinds_by numbers known k.form ++ kinds_from numbers known ks

abbrev pub answer_variable : Option NamedAnswer → Option ℕ
answer_variable a = option_map (λ a. a.variable) a

abbrev pub type_of : List ℕ → Role → ℕ → Option ℕ
type_of numbers role.Index k = None
type_of numbers r k = Some (type_number numbers k)

-- What is known while statements are read: the constants, types, variables and headings by their numbers, and the
-- number of the next statement.
abbrev pub Env : Type 0
Env = Tables

-- the types of the variables; that of a forall index is found at its first limit
abbrev pub types_of : List ℕ → List checked.Variable → List (Option ℕ)
types_of numbers [] = []
types_of numbers (x ∷ xs) = type_of numbers x.role x.kind ∷ types_of numbers xs

abbrev pub roles_of : List checked.Variable → List Role
roles_of [] = []
roles_of (x ∷ xs) = x.role ∷ roles_of xs

abbrev pub signatures : List n.Block → List Signature
signatures [] = []
signatures (b ∷ bs) = record { formals = b.formals; answer = answer_variable b.answer } ∷ signatures bs

-- the types that a program's declared names stand for
abbrev pub numbers_of : n.Program → List ℕ
numbers_of p = numbers_from [] 0 p.kinds

abbrev pub constants_of : n.Program → List (Option Ordinal)
constants_of p = constants_from (numbers_of p) [] p.constants

abbrev pub env_of : n.Program → Env
env_of p = record {
  constants = constants_of p;
  kinds = kinds_from (numbers_of p) (constants_of p) p.kinds;
  variables = types_of (numbers_of p) p.variables;
  roles = roles_of p.variables;
  blocks = signatures p.blocks;
  next = 0;
}

-- the type of a number
abbrev pub kind_at : Env → ℕ → Option KindOf
kind_at env k = slice_get env.kinds k

-- the type of a variable
abbrev pub variable_kind : Env → ℕ → Option ℕ
variable_kind env x = table_entry (slice_get env.variables x)

abbrev pub ordinal_kind : Option Ordinal → Option ℕ
ordinal_kind o = option_map (λ o. o.kind) o

-- the type of a declared constant
abbrev pub constant_kind : Env → ℕ → Option ℕ
constant_kind env k = ordinal_kind (table_entry (slice_get env.constants k))

abbrev pub formals_in : Option Signature → List ℕ
formals_in s = option_map_or (λ s. s.formals) s []

-- the parameters of a block
abbrev pub formals_of : Env → ℕ → List ℕ
formals_of env f = formals_in (slice_get env.blocks f)

-- the type of a variable, where there is one
abbrev pub kind_of_variable : Env → Option ℕ → Option ℕ
kind_of_variable env x = option_and_then (variable_kind env) x

abbrev pub answer_in : Env → Option Signature → Option ℕ
answer_in env s = option_and_then (λ s. kind_of_variable env s.answer) s

-- the type of a function's result
abbrev pub answer_kind : Env → ℕ → Option ℕ
answer_kind env f = answer_in env (slice_get env.blocks f)

-- one statement more has a number
abbrev pub with_next_number : Env → Env
with_next_number env = record env { next = env.next + 1 }

-- the index of a forall gets its type
abbrev pub with_index_type : Env → ℕ → Option ℕ → Env
with_index_type env x k = record env { variables = slice_set env.variables x k }
