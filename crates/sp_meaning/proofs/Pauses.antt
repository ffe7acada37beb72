-- A worked process that is due after two ticks, pauses, and ends.
use Rattle.std.proofs.Common.{ℕ, zero, suc, true, false, List, [], ◌∷◌, Option, Some, None, refl}
use Rattle.sp_tree.specs.Plain.{Empty, For}
use Rattle.sp_meaning.specs.LocalWork.{Process}
use Rattle.sp_meaning.specs.SuperPascal.{root}
use Rattle.sp_meaning.specs.LocalWork.{RunInput}
use Rattle.sp_meaning.specs.Entries.{Paused, Ended}
use Rattle.sp_meaning.specs.Runs.{StateOf, running_process}
use Rattle.sp_meaning.specs.Along.{IsAlong}
use Rattle.sp_meaning.specs.Ends.{IsDone}
use Rattle.sp_meaning.proofs.Faults.{program, num, ample, of, after}

abbrev loop : RunInput
loop = of (program (For 3 (num 1) false (num 3) Empty ∷ [])) ample

abbrev roots : ℕ → List (List (ℕ × ℕ))
roots zero = []
roots (suc n) = [] ∷ roots n

abbrev at : ℕ → StateOf loop
at n = after loop (roots n)

abbrev own_by : Option Process → Process
own_by None = root loop
own_by (Some o) = o

abbrev own_at : ℕ → Process
own_at n = own_by (running_process loop (at n) [])

pauses : IsAlong loop 2 (record { who = []; what = Paused } ∷ record { who = []; what = Ended } ∷ []) 5 (at 5)
pauses = record {
  not_laid = refl;
  steps = 3;
  rest = 2;
  middle = at 3;
  paused = true;
  size = refl;
  turns = record {
    process = own_at 0;
    runs = refl;
    enters_none = refl;
    next = at 1;
    steps = refl;
    ahead = record {
      process = own_at 1;
      runs = refl;
      enters_none = refl;
      next = at 2;
      steps = refl;
      ahead = record {
        process = own_at 2;
        runs = refl;
        enters_none = refl;
        next = at 3;
        steps = refl;
        ahead = (refl, refl, refl);
      };
    };
  };
  enters = (
    refl,
    refl,
    record {
      not_laid = refl;
      steps = 1;
      rest = 1;
      middle = at 4;
      paused = false;
      size = refl;
      turns = record {
        process = own_at 3;
        runs = refl;
        enters_none = refl;
        next = at 4;
        steps = refl;
        ahead = record {
          stays = refl;
          unpaused = refl;
          process = own_at 4;
          runs = refl;
          what = Ended;
          happens = refl;
        };
      };
      enters = (
        refl,
        record {
          unpaused = refl;
          next = at 5;
          rest = 0;
          size = refl;
          makes = record {
            process = own_at 4;
            runs = refl;
            happens = refl;
            steps = refl;
          };
          ahead = (refl, refl);
        },
      );
    },
  );
}

done : IsDone loop (at 5)
done = refl
