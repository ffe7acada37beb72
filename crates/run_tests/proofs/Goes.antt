-- How a program goes along a schedule: how many of its steps are lawful, what they write, and how the run ends.
use Rattle.std.proofs.Common.{◌≡◌, ℕ, List, [], ◌∷◌, Option, Some}
use Rattle.sp_base.specs.declared.fault.Fault.{Fault}
use Rattle.sp_base.specs.declared.limits.Limits.{Limits}
use Rattle.sp_journal.specs.declared.outcome.End.{End}
use Rattle.sp_journal.specs.declared.outcome.End.TheVariants as end
use Rattle.sp_meaning.specs.Ends.{EndsSo}
use Rattle.sp_meaning.specs.Fronts.{longest_front}
use Rattle.sp_meaning.specs.LocalWork.{RunInput}
use Rattle.sp_meaning.specs.Model.{Name}
use Rattle.sp_meaning.specs.Runs.{StateOf, output_of}
use Rattle.sp_tree.specs.Plain.{Program}

-- the state behind the longest lawful front of a schedule
abbrev pub behind : (g : RunInput) → List Name → StateOf g
behind g qs = (longest_front g qs).1

-- of the schedule so many steps are lawful, they write this, and the run has this end or none
pub record Goes (g : RunInput) (qs : List Name) (n : ℕ) (out : List ℕ) (e : Option End) : Type 0 where
  pub steps : (longest_front g qs).0 ≡ n
  pub output : output_of g (behind g qs) ≡ out
  pub end : EndsSo g (behind g qs) e

-- limits that are met by no row that does not say so
abbrev pub ample : Limits
ample = record {
  ticks = 1000;
  depth = 100;
  cells = 1000;
  processes = 100;
  channels = 100;
  entries = 100;
  output = 100;
}

-- the program on no input
abbrev pub limited : Program → Limits → RunInput
limited p limits = record { program = p; input = []; limits = limits }

abbrev pub of : Program → RunInput
of p = limited p ample

-- the root, and the children of its first fork and of its second one
abbrev pub root : Name
root = []

abbrev pub child : ℕ → Name
child i = (0, i) ∷ []

abbrev pub later : ℕ → Name
later i = (1, i) ∷ []

-- a fault of the root
abbrev pub root_meets : Fault → Option End
root_meets f = Some (end.Fault (record { pairs = [] }) f)
