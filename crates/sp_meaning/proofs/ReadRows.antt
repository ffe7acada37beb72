-- Worked programs in which reading goes on where it stopped, by computing.
use Rattle.std.proofs.Common.{◌≡◌, ℕ, List, [], ◌∷◌, None, refl}
use Rattle.sp_tree.specs.declared.checked.KindOf.TheVariants as kind
use Rattle.sp_tree.specs.declared.checked.Role.TheVariants as role
use Rattle.sp_tree.specs.Plain.{Variable, Entire, Whole, Stmt, Sequence, ReadValue, ReadLine, WriteValue}
use Rattle.sp_meaning.specs.LocalWork.{RunInput}
use Rattle.sp_meaning.proofs.Faults.{prints, ample, console, read, root, sequence}

abbrev char : Variable
char = record { kind = 1; block = 0; role = role.Local }

-- variables 2 and 3 are chars, and the input has two lines: ab, c
abbrev reading : List Stmt → RunInput
reading ss = record {
  program = record {
    kinds = kind.Integer ∷ kind.Char ∷ [];
    variables = console ∷ console ∷ char ∷ char ∷ [];
    blocks = record { parent = None; formals = []; answer = None; body = Sequence (sequence ss) } ∷ [];
  };
  input = 97 ∷ 98 ∷ 10 ∷ 99 ∷ 10 ∷ [];
  limits = ample;
}

abbrev takes : ℕ → Stmt
takes x = ReadValue (Entire x Whole)

one_behind_the_other : prints (reading (takes 2 ∷ takes 3 ∷ WriteValue (read 1 3) None ∷ [])) (root ∷ root ∷ root ∷ [])
    ≡ 98 ∷ []
one_behind_the_other = refl

line_is_skipped : prints (reading (ReadLine ∷ takes 2 ∷ WriteValue (read 1 2) None ∷ [])) (root ∷ root ∷ root ∷ []) ≡ 99
    ∷ []
line_is_skipped = refl
