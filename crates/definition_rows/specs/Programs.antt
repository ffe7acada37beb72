-- None of this belongs to what the program promises: it is for contracts between crates.
-- The program `parallel x := 1 | x := 2`, which breaks the rules of interference.
use Rattle.std.specs.Prelude.{ℕ, [], ◌∷◌, None, pos}
use Rattle.sp_tree.specs.declared.checked.KindOf.TheVariants as kind
use Rattle.sp_tree.specs.declared.checked.Role.TheVariants as role
use Rattle.sp_tree.specs.Plain.{Variable, Typed, Number, Entire, Whole, Stmt, Assign, Parallel, No, And}
use Rattle.sp_meaning.specs.LocalWork.{RunInput}

abbrev pub console : Variable
console = record { kind = 0; block = 0; role = role.Console }

-- x is variable 2, an integer
abbrev pub sets : ℕ → Stmt
sets n = Assign (Entire 2 Whole) (Typed 0 (Number (pos n)))

abbrev pub both_set : RunInput
both_set = record {
  program = record {
    kinds = kind.Integer ∷ [];
    variables = console ∷ console ∷ record { kind = 0; block = 0; role = role.Local } ∷ [];
    blocks = record {
      parent = None;
      formals = [];
      answer = None;
      body = Parallel (And (sets 1) (And (sets 2) No));
    } ∷ [];
  };
  input = [];
  limits = record {
    ticks = 100;
    depth = 10;
    cells = 100;
    processes = 10;
    channels = 10;
    entries = 100;
    output = 100;
  };
}
