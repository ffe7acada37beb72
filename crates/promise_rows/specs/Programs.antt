-- None of this belongs to what the program promises: it is for contracts between crates.
-- The programs of the rows, as trees of their texts. Above each stands its text, by whose columns the places are.
use Rattle.std.specs.Prelude.{ℕ, List, [], ◌∷◌, Result, Ok, Err, codes}
use Rattle.sp_base.specs.declared.halt.Refusal.{Refusal}
use Rattle.sp_base.specs.declared.place.Place.{Place}
use Rattle.sp_meaning.specs.LocalWork.{RunInput}
use Rattle.sp_tree.specs.declared.syntax.Name.{Name}
use Rattle.sp_tree.specs.declared.syntax.SynKind.TheVariants as kinds
use Rattle.sp_tree.specs.NameFirst.{name_resolution}
use Rattle.sp_tree.specs.Bare.{without_places}
use Rattle.sp_tree.specs.PlainSyntax.{Statement, Does, Sequence, AndThen, NoStatement, Call, AndArgument, NoArgument}
use Rattle.sp_tree.specs.PlainSyntax.{Pass}
use Rattle.sp_tree.specs.PlainSyntax.{NoWidth, ExpressionAt, Quoted, NoPart, Program}
use Rattle.sp_tree.specs.PlainSyntax.{Argument, Declare, Entire, Kind, Read, Var, Whole}
use Rattle.sp_tree.specs.PlainNamed as n
use Rattle.sp_tree.specs.PlainChecked as c
use Rattle.sp_types.specs.TypeFirst.{types_outcome}
use Rattle.sp_words.specs.Ranges.{default_limits}

-- on the first line
abbrev pub at : ℕ → Place
at column = record { line = 1; column = column }

abbrev pub name : List ℕ → ℕ → Name
name text column = record { text = text; at = at column }

-- program p; begin STATEMENT end.
abbrev pub program_of : Statement → Program
program_of s = record {
  name = name (codes "p") 9;
  heading = [];
  block = record { parts = NoPart; body = Does (at 12) (Sequence (AndThen s NoStatement)) };
}

-- program p; begin q end.
abbrev pub calls_unknown : Program
calls_unknown = program_of (Does (at 18) (Call (name (codes "q") 18) NoArgument))

-- program p; begin write('42') end.
abbrev pub writes_42 : Program
writes_42 = program_of (Does (at 18) (Call (name (codes "write") 18)
    (AndArgument (Pass (ExpressionAt (at 24) (Quoted (codes "42"))) NoWidth) NoArgument)))

abbrev read : List ℕ → ℕ → Argument
read text column = Pass (ExpressionAt (at column) (Read (Entire (name text column) Whole))) NoWidth

-- program r; type ch = *(integer); var c: ch; x: integer; begin open(c); receive(c, x) end.
abbrev pub waits : Program
waits = record {
  name = name (codes "r") 9;
  heading = [];
  block = record {
    parts = Declare (Kind (name (codes "ch") 17) (kinds.Channel (name (codes "integer") 24 ∷ [])))
        (Declare (Var (name (codes "c") 38 ∷ []) (name (codes "ch") 41))
        (Declare (Var (name (codes "x") 45 ∷ []) (name (codes "integer") 48)) NoPart));
    body = Does (at 57) (Sequence (AndThen
        (Does (at 63) (Call (name (codes "open") 63) (AndArgument (read (codes "c") 68) NoArgument))) (AndThen
        (Does (at 72) (Call (name (codes "receive") 72) (AndArgument (read (codes "c") 80)
        (AndArgument (read (codes "x") 83) NoArgument)))) NoStatement)));
  };
}

abbrev pub no_tree : c.Program
no_tree = record { kinds = []; variables = []; blocks = [] }

abbrev pub checked_by : Result c.Program Refusal → c.Program
checked_by (Ok p) = p
checked_by (Err r) = no_tree

abbrev pub typed_by : Result n.Program Refusal → c.Program
typed_by (Ok p) = checked_by (types_outcome p)
typed_by (Err r) = no_tree

-- its checked tree, if it has one
abbrev pub checked : Program → c.Program
checked p = typed_by (name_resolution p)

-- its run on no input with the limits that are used without options
abbrev pub run_of : Program → RunInput
run_of p = record { program = without_places (checked p); input = []; limits = default_limits }
