-- All of this belongs to what the program promises (docs/promise.txt).
-- What stands in a tree for the rules of names, and which of them is broken there, by the declarations visible there.
-- The walk asks it at each site, with one clause for each row of the rules.
use Rattle.std.specs.Prelude.{ℕ, nat_eq, nat_le, not, List, [], ◌∷◌, length, Bool, true, false, ◌||◌, ◌&&◌}
use Rattle.std.specs.Prelude.{if◌then◌else◌, Option, Some, None, codes}
use Rattle.std.specs.List.{list_any}
use Rattle.std.specs.Option.{is_some}
use Rattle.std.specs.Str.{bytes_eq}
use Rattle.sp_base.specs.declared.place.Place.{Place}
use Rattle.sp_base.specs.declared.rule.Rule.TheVariants as rule
use Rattle.sp_tree.specs.declared.checked.Role.{Role}
use Rattle.sp_tree.specs.declared.checked.Role.TheVariants as role
use Rattle.sp_tree.specs.declared.operators.StandardFn.{StandardFn}
use Rattle.sp_tree.specs.declared.operators.StandardFn.TheVariants as fn
use Rattle.sp_tree.specs.declared.meaning.StandardProcedure.{StandardProcedure}
use Rattle.sp_tree.specs.declared.meaning.StandardProcedure.TheVariants as procedure
use Rattle.sp_tree.specs.declared.meaning.Meaning.{Meaning}
use Rattle.sp_tree.specs.declared.meaning.Meaning.TheVariants as meaning
use Rattle.sp_tree.specs.declared.meaning.Passing.{Passing}
use Rattle.sp_tree.specs.declared.meaning.Passing.TheVariants as passing
use Rattle.sp_tree.specs.declared.meaning.Sort.{Sort}
use Rattle.sp_tree.specs.declared.syntax.Name.{Name}
use Rattle.sp_tree.specs.PhaseResults.{FirstRefusal, refusal_at, refusal_if, earlier_refusal}
use Rattle.sp_tree.specs.Scopes.{Env, look, find, count, declaration_limit}

-- what a name is used as in a declaration or a `case`
pub data Use : Type 0 where
  AsConstant : Use
  AsKind : Use

pub data Site : Type 0 where
  -- a declaration in the innermost block
  Declares : (x : Name) (s : Sort) → Site
  -- a field of a record, behind others
  Fields : (x : Name) (flags_left : List (List ℕ)) → Site
  -- a name in the program's heading, behind others
  Heads : (x : Name) (flags_left : List (List ℕ)) → Site
  -- a constant or a type
  Uses : (x : Name) (u : Use) → Site
  -- the same in the definition of the type `own`
  UsesIn : (own : Name) (x : Name) (u : Use) → Site
  -- a name in an expression; `whole`: without selectors
  Operand : (x : Name) (whole : Bool) → Site
  -- a variable that is a target
  Targets : (x : Name) → Site
  -- the left side of an assignment; `whole`: without selectors
  Assigns : (x : Name) (whole : Bool) → Site
  -- the variable of a `for`
  Loops : (x : Name) → Site
  -- a call in an expression, with so many arguments
  Computes : (f : Name) (args : ℕ) → Site
  -- a call as a statement, with so many arguments
  Calls : (f : Name) (args : ℕ) → Site
  -- a width on an argument that begins at a place
  Widens : (at : Place) (p : Passing) → Site
  -- an argument that is not written as a variable
  Bare : (at : Place) (p : Passing) → Site

-- N1: not declared. N3: declared, and no constant; or no type
abbrev pub use_rule : Use → Place → Option Meaning → FirstRefusal
use_rule u at None = refusal_at rule.N1 at
use_rule AsConstant at (Some (meaning.Constant n)) = None
use_rule AsKind at (Some (meaning.Kind n)) = None
use_rule u at (Some m) = refusal_at rule.N3 at

-- N4: the name of a type in its own definition, whatever it means outside
abbrev pub own_rule : Name → Name → FirstRefusal → FirstRefusal
own_rule own x other = if bytes_eq own.text x.text then refusal_at rule.N4 x.at else other

-- so many arguments fit
abbrev pub procedure_takes : StandardProcedure → ℕ → Bool
procedure_takes procedure.Readln n = true
procedure_takes procedure.Writeln n = true
procedure_takes procedure.Send n = nat_le 2 n
procedure_takes procedure.Receive n = nat_le 2 n
procedure_takes _ n = nat_le 1 n

-- so many arguments are right
abbrev pub function_takes : StandardFn → ℕ → Bool
function_takes fn.Eof n = nat_eq 0 n
function_takes fn.Eoln n = nat_eq 0 n
function_takes f n = nat_eq 1 n

-- N1, N3: no function. N6: with other parameters
abbrev pub function_rule : Place → ℕ → Option Meaning → FirstRefusal
function_rule at n None = refusal_at rule.N1 at
function_rule at n (Some (meaning.Function b fs)) = refusal_if rule.N6 at (not (nat_eq (length fs) n))
function_rule at n (Some (meaning.StandardFunction f)) = refusal_if rule.N6 at (not (function_takes f n))
function_rule at n (Some m) = refusal_at rule.N3 at

-- N1, N3: no procedure. N6: with other parameters
abbrev pub procedure_rule : Place → ℕ → Option Meaning → FirstRefusal
procedure_rule at n None = refusal_at rule.N1 at
procedure_rule at n (Some (meaning.Procedure b fs)) = refusal_if rule.N6 at (not (nat_eq (length fs) n))
procedure_rule at n (Some (meaning.StandardProcedure p)) = refusal_if rule.N6 at (not (procedure_takes p n))
procedure_rule at n (Some m) = refusal_at rule.N3 at

-- N1, N3: with selectors no variable
abbrev pub selects_rule : Place → Option Meaning → FirstRefusal
selects_rule at None = refusal_at rule.N1 at
selects_rule at (Some (meaning.Variable n b r)) = None
selects_rule at (Some m) = refusal_at rule.N3 at

-- N1, N3: alone no constant, variable or function. N6: a function with parameters
abbrev pub alone_rule : Place → Option Meaning → FirstRefusal
alone_rule at (Some (meaning.Constant n)) = None
alone_rule at (Some (meaning.Variable n b r)) = None
alone_rule at m = function_rule at 0 m

-- what is broken at a name in an expression
abbrev pub operand_rule : Place → Bool → Option Meaning → FirstRefusal
operand_rule at true m = alone_rule at m
operand_rule at false m = selects_rule at m

-- a variable may be a target, the index of a forall may not
abbrev pub variable_rule : Place → Role → FirstRefusal
variable_rule at role.Index = refusal_at rule.N7 at
variable_rule at r = None

-- N1, N3: a type or a procedure. N7: a constant, the index of a forall, or a function
abbrev pub target_rule : Place → Option Meaning → FirstRefusal
target_rule at None = refusal_at rule.N1 at
target_rule at (Some (meaning.Variable n b r)) = variable_rule at r
target_rule at (Some (meaning.Constant n)) = refusal_at rule.N7 at
target_rule at (Some (meaning.Function b fs)) = refusal_at rule.N7 at
target_rule at (Some (meaning.StandardFunction f)) = refusal_at rule.N7 at
target_rule at (Some m) = refusal_at rule.N3 at

-- the same, but in its own statement part a function's name alone may be assigned
abbrev pub assign_rule : ℕ → Place → Bool → Option Meaning → FirstRefusal
assign_rule block at true (Some (meaning.Function b fs)) = refusal_if rule.N7 at (not (nat_eq b block))
assign_rule block at whole m = target_rule at m

-- declared in a `var` part of this block
abbrev pub is_local : ℕ → Option Meaning → Bool
is_local block (Some (meaning.Variable n b role.Local)) = nat_eq b block
is_local block m = false

-- N8: no variable of a `var` part of the innermost program, procedure or function
abbrev pub loop_rule : ℕ → Place → Option Meaning → FirstRefusal
loop_rule block at m = earlier_refusal (target_rule at m) (refusal_if rule.N8 at (not (is_local block m)))

-- N2: declared in this block already. L4: the 4,097th of its sort
abbrev pub declare_rule : Env → Name → Sort → FirstRefusal
declare_rule env x s = earlier_refusal (refusal_if rule.N2 x.at (is_some (look env.local.here x.text)))
    (refusal_if rule.L4 x.at (nat_le declaration_limit (count s env.local.counts)))

-- one of these names
abbrev pub is_listed_name : List ℕ → List (List ℕ) → Bool
is_listed_name name names = list_any (bytes_eq name) names

-- N1: neither the input nor the output. N2: twice
abbrev pub heading_rule : Name → List (List ℕ) → FirstRefusal
heading_rule x flags_left =
    if bytes_eq x.text (codes "input") || bytes_eq x.text (codes "output") then
    refusal_if rule.N2 x.at (is_listed_name x.text flags_left)
    else refusal_at rule.N1 x.at

-- N5: a width where none is taken
abbrev pub width_rule : Place → Passing → FirstRefusal
width_rule at passing.Written = None
width_rule at p = refusal_at rule.N5 at

-- N5: no variable where a standard procedure assigns it
abbrev pub bare_rule : Place → Passing → FirstRefusal
bare_rule at passing.Target = refusal_at rule.N5 at
bare_rule at p = None

-- the first rule of names that is broken at a site
abbrev pub broken_rule : Env → Site → FirstRefusal
broken_rule env (Declares x s) = declare_rule env x s
broken_rule env (Fields x flags_left) = refusal_if rule.N2 x.at (is_listed_name x.text flags_left)
broken_rule env (Heads x flags_left) = heading_rule x flags_left
broken_rule env (Uses x u) = use_rule u x.at (find env x.text)
broken_rule env (UsesIn own x u) = own_rule own x (use_rule u x.at (find env x.text))
broken_rule env (Operand x whole) = operand_rule x.at whole (find env x.text)
broken_rule env (Targets x) = target_rule x.at (find env x.text)
broken_rule env (Assigns x whole) = assign_rule env.local.block x.at whole (find env x.text)
broken_rule env (Loops x) = loop_rule env.local.block x.at (find env x.text)
broken_rule env (Computes f n) = function_rule f.at n (find env f.text)
broken_rule env (Calls f n) = procedure_rule f.at n (find env f.text)
broken_rule env (Widens at p) = width_rule at p
broken_rule env (Bare at p) = bare_rule at p

-- how the next argument is passed: by the flags of the parameters, and then as the rest
abbrev pub next_passing : List Bool → Passing → Passing
next_passing [] rest = rest
next_passing (true ∷ fs) rest = passing.Reference
next_passing (false ∷ fs) rest = passing.Value

-- all but the first
abbrev pub flags_left : List Bool → List Bool
flags_left [] = []
flags_left (f ∷ fs) = fs

-- the flags of what is called; of `receive` the channel stands before the variables
abbrev pub references_of : Option Meaning → List Bool
references_of (Some (meaning.Procedure b fs)) = fs
references_of (Some (meaning.Function b fs)) = fs
references_of (Some (meaning.StandardProcedure procedure.Receive)) = false ∷ []
references_of m = []

-- how the arguments behind the flags are passed
abbrev pub rest_of : Option Meaning → Passing
rest_of (Some (meaning.StandardProcedure procedure.Read)) = passing.Target
rest_of (Some (meaning.StandardProcedure procedure.Readln)) = passing.Target
rest_of (Some (meaning.StandardProcedure procedure.Open)) = passing.Target
rest_of (Some (meaning.StandardProcedure procedure.Receive)) = passing.Target
rest_of (Some (meaning.StandardProcedure procedure.Write)) = passing.Written
rest_of (Some (meaning.StandardProcedure procedure.Writeln)) = passing.Written
rest_of m = passing.Value

-- an argument is passed to something that it has to be a variable for
abbrev pub needs_variable : Passing → Bool
needs_variable passing.Reference = true
needs_variable passing.Target = true
needs_variable p = false

-- two places are the same
abbrev pub same_place : Place → Place → Bool
same_place a b = nat_eq a.line b.line && nat_eq a.column b.column
