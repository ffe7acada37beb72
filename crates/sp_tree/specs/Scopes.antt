-- All of this belongs to what the program promises (docs/promise.txt).
-- The declarations that are visible at a place: those of the innermost block, and those of the blocks around it. The
-- rules of names ask it, and the tables of `sp_scope` promise it.
use Rattle.std.specs.Option.{option_or}
use Rattle.std.specs.Prelude.{ℕ, ◌+◌, nat_le, List, [], ◌∷◌, Option, None, if◌then◌else◌, codes}
use Rattle.std.specs.Map.{lookup}
use Rattle.std.specs.Str.{bytes_eq}
use Rattle.sp_tree.specs.declared.checked.Role.{Role}
use Rattle.sp_tree.specs.declared.operators.StandardFn.TheVariants as fn
use Rattle.sp_tree.specs.declared.meaning.StandardProcedure.TheVariants as procedure
use Rattle.sp_tree.specs.declared.meaning.Meaning.{Meaning}
use Rattle.sp_tree.specs.declared.meaning.Meaning.TheVariants as meaning
use Rattle.sp_tree.specs.declared.meaning.Counts.{Counts}
use Rattle.sp_tree.specs.declared.meaning.Sort.{Sort}
use Rattle.sp_tree.specs.declared.meaning.Sort.TheVariants as sort

-- the names that one block declares
abbrev pub Scope : Type 0
Scope = List (List ℕ × Meaning)

-- The innermost block as far as it is read; the number of the program, procedure or function that it belongs to, and
-- that of its result's variable; and what was declared so far.
pub record Local : Type 0 where
  pub here : Scope
  pub block : ℕ
  pub answer : ℕ
  pub counts : Counts

-- the innermost block, and those around it, innermost last
pub record Env : Type 0 where
  pub local : Local
  pub around : List Scope

-- what is visible in a block
abbrev pub inner_env : List Scope → Local → Env
inner_env around l = record { local = l; around = around }

-- what a block declares a name as
abbrev pub look : Scope → List ℕ → Option Meaning
look b name = lookup (bytes_eq name) b

-- a name is declared; where it is declared already, it stands for the newer one
abbrev pub put : Scope → List ℕ → Meaning → Scope
put [] name m = (name, m) ∷ []
put (e ∷ es) name m = if bytes_eq name e.0 then (e.0, m) ∷ es else e ∷ put es name m

abbrev pub or_else : {A : Type 0} → Option A → Option A → Option A
or_else x b = option_or x b

-- in the last of the blocks that declares it, or what is given
abbrev pub find_in : List Scope → List ℕ → Option Meaning → Option Meaning
find_in [] name given = given
find_in (b ∷ bs) name given = find_in bs name (or_else (look b name) given)

-- the innermost declaration of a name
abbrev pub find : Env → List ℕ → Option Meaning
find env name = or_else (look env.local.here name) (find_in env.around name None)

-- how many of a sort were declared
abbrev pub count : Sort → Counts → ℕ
count sort.Constant c = c.constants
count sort.Kind c = c.kinds
count sort.Variable c = c.variables
count sort.Block c = c.blocks

-- one more of a sort
abbrev pub with_one_more : Sort → Counts → Counts
with_one_more sort.Constant c = record c { constants = c.constants + 1 }
with_one_more sort.Kind c = record c { kinds = c.kinds + 1 }
with_one_more sort.Variable c = record c { variables = c.variables + 1 }
with_one_more sort.Block c = record c { blocks = c.blocks + 1 }

-- The numbers that the next declarations get: behind the standard constants and types, the input and the output, and
-- the program. The results of functions are variables too.
abbrev pub next_constant : Counts → ℕ
next_constant c = c.constants + 3

-- the number of the next type: three are standard
abbrev pub next_kind : Counts → ℕ
next_kind c = c.kinds + 3

-- the number of the next variable: the input and the output come first
abbrev pub next_variable : Counts → ℕ
next_variable c = c.variables + c.results + 2

-- the number of the next block: the program is 0
abbrev pub next_block : Counts → ℕ
next_block c = c.blocks + 1

-- how many of one sort a text may declare
abbrev pub declaration_limit : ℕ
declaration_limit = 4096

-- A declaration. Past the limit nothing is entered: the text is refused there or before.
abbrev pub with_declaration : Local → List ℕ → Sort → Meaning → Local
with_declaration l name s m =
    if nat_le declaration_limit (count s l.counts) then l
    else record l { here = put l.here name m; counts = with_one_more s l.counts }

-- a new block inside, of the procedure with this number, with nothing in it
abbrev pub local_of_inner : ℕ → ℕ → Local → Local
local_of_inner block answer l = record l { here = []; block = block; answer = answer }

-- back in the outer block, with what was declared inside
abbrev pub local_of_outer : Local → Local → Local
local_of_outer outer inner = record outer { counts = inner.counts }

-- the program's block before anything is declared
abbrev pub empty_local : Local
empty_local = record {
  here = [];
  block = 0;
  answer = 0;
  counts = record { constants = 0; kinds = 0; variables = 0; results = 0; blocks = 0 };
}

-- the standard names, which stand in a block around the program
abbrev pub standard_scope : Scope
standard_scope =
    (codes "integer", meaning.Kind 0) ∷ (codes "boolean", meaning.Kind 1) ∷ (codes "char", meaning.Kind 2) ∷
    (codes "false", meaning.Constant 0) ∷ (codes "true", meaning.Constant 1) ∷ (codes "maxint", meaning.Constant 2) ∷
    (codes "abs", meaning.StandardFunction fn.Abs) ∷ (codes "sqr", meaning.StandardFunction fn.Sqr) ∷
    (codes "odd", meaning.StandardFunction fn.Odd) ∷ (codes "ord", meaning.StandardFunction fn.Ord) ∷
    (codes "chr", meaning.StandardFunction fn.Chr) ∷ (codes "succ", meaning.StandardFunction fn.Succ) ∷
    (codes "pred", meaning.StandardFunction fn.Pred) ∷ (codes "eof", meaning.StandardFunction fn.Eof) ∷
    (codes "eoln", meaning.StandardFunction fn.Eoln) ∷
    (codes "read", meaning.StandardProcedure procedure.Read) ∷
    (codes "readln", meaning.StandardProcedure procedure.Readln) ∷
    (codes "write", meaning.StandardProcedure procedure.Write) ∷
    (codes "writeln", meaning.StandardProcedure procedure.Writeln) ∷
    (codes "open", meaning.StandardProcedure procedure.Open) ∷
    (codes "send", meaning.StandardProcedure procedure.Send) ∷
    (codes "receive", meaning.StandardProcedure procedure.Receive) ∷ []

-- a variable of the innermost block
abbrev pub variable : Local → Role → Meaning
variable l r = meaning.Variable (next_variable l.counts) l.block r
