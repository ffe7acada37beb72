-- What the machine says of a journal with the code of a program is what the program means along it (`followed`): it
-- leads from `replay` to the program.
use Rattle.std.proofs.Common.{◌≡◌, ℕ, zero, suc, List, [], ◌∷◌, take, Option, Some, None, Result, Ok, Err, refl, sym}
use Rattle.std.proofs.Common.{ap, ◌∙◌, subst}
use Rattle.std.proofs.lemmas.Option.{none-some}
use Rattle.sp_base.specs.declared.limits.Limits.{Limits}
use Rattle.sp_base.specs.declared.limits.TheConstants.{TURN_TICKS}
use Rattle.sp_tree.specs.Plain.{Program, Stmt}
use Rattle.sp_journal.specs.declared.entry.Entry.{Entry}
use Rattle.sp_journal.specs.declared.entry.Journal.{Journal}
use Rattle.sp_journal.specs.declared.outcome.End.{End}
use Rattle.sp_journal.specs.declared.outcome.End.TheVariants as end
use Rattle.sp_journal.specs.Births.{Births, first_births, births_after_entry, occurrences_from, NameableFrom}
use Rattle.sp_journal.specs.Births.{IsNameable}
use Rattle.sp_cell.specs.Map.{Plain}
use Rattle.sp_meaning.specs.LocalWork.{RunInput}
use Rattle.sp_meaning.specs.Runs.{StateOf}
use Rattle.sp_meaning.specs.Along.{IsAlong}
use Rattle.sp_meaning.specs.Ends.{EndIs, EndsSo}
use Rattle.sp_code.specs.declared.code.Parts.{Parts}
use Rattle.sp_code.specs.Machine.{Stop, Forks, Opens, Sends, Receives, Ends, Pauses, Config}
use Rattle.sp_code.specs.Memory.{Memory}
use Rattle.sp_code.specs.PlainStore.{plain}
use Rattle.sp_code.specs.Sound.{run_of}
use Rattle.sp_code.specs.System.{System, Condition, Working, Waits, IsSystem}
use Rattle.sp_code.specs.Agreement.{Running, phase_in}
use Rattle.sp_link.specs.Premises.{IsReady, run_by}
use Rattle.sp_link.proofs.Endings.{program_no_fault, program_deadlock}
use Rattle.sp_link.proofs.Programs.{program_runs, program_over}
use Rattle.sp_replay.specs.declared.replayer.Replayed.{Replayed}
use Rattle.sp_replay.specs.declared.replayer.ReplayError.{ReplayError}
use Rattle.sp_replay.specs.declared.replayer.ReplayError.TheVariants as error
use Rattle.sp_replay.specs.Replays as machine
use Rattle.sp_execute.specs.Runs.{run_input, IsCodeOf}
use Rattle.sp_execute.specs.Follows.{FollowsTo}
use Rattle.sp_execute.proofs.Conclusions.{names, means, same_output, same_end}

-- the first entries of a journal that gives names give names
nameable_front : (s : Births) (n : ℕ) (es : List Entry) → NameableFrom s es → NameableFrom s (take n es)
nameable_front s zero es h = tt
nameable_front s (suc n) [] h = tt
nameable_front s (suc n) (e ∷ es) h = (h.0, nameable_front (births_after_entry s e) n es h.1)

-- who runs works
works : (X : Condition Plain) → phase_in X ≡ Running → (d : Config (Memory Plain)) × (X ≡ Working d)
works (Working d) e = (d, refl)
works (Waits stop d) e = absurd (waiting stop e)
  where
    waiting : (stop : Stop) → phase_in {S = Plain} (Waits stop d) ≡ Running → ⊥
    waiting (Forks tb v m) f = cc f
    waiting (Opens a) f = cc f
    waiting (Sends c m cs) f = cc f
    waiting (Receives c m a) f = cc f
    waiting Ends f = cc f
    waiting Pauses f = cc f
works _ e = absurd (cc e)

module _ (g : RunInput) (moves shares : Stmt → List ℕ) (ready : IsReady g moves shares) where
  -- a system that goes on is at no end of the program
  goes_on : (es : List Entry) (t : System Plain) (h : IsSystem plain (run_by g moves shares TURN_TICKS) es t) (n : ℕ)
      (s : StateOf g) → IsAlong g TURN_TICKS (occurrences_from first_births es) n s
      → machine.GoesOn t → (e : End) → EndIs g s e → ⊥
  goes_on es t h n s k on end.Done d =
      let over = program_over g moves shares TURN_TICKS ready es
      (names g moves shares TURN_TICKS ready es t h) t h n s k d in
      on.root (ap (λ y. phase_in y) over.1)
  goes_on es t h n s k on (end.Deadlock ws) d =
      let stuck = program_deadlock g moves shares TURN_TICKS ready es t h n s k d.0 d.1 in
      let runs = works (t.condition on.runs.0) on.runs.1 in
      stuck.idle on.runs.0 runs.0 runs.1
  goes_on es t h n s k on (end.Fault p f) d = none-some _
      (sym (program_no_fault g moves shares TURN_TICKS ready es t h n s k on.no_fault) ∙ d.1)
  goes_on es t h n s k on end.Memory d = absurd d

  ends : (es : List Entry) (t : System Plain) (h : IsSystem plain (run_by g moves shares TURN_TICKS) es t) (n : ℕ)
      (s : StateOf g) → IsAlong g TURN_TICKS (occurrences_from first_births es) n s
      → (o : Option End) → machine.ReplayEndsSo es t o → EndsSo g s o
  ends es t h n s k None on = goes_on es t h n s k on
  ends es t h n s k (Some e) at = same_end g moves shares TURN_TICKS ready es t h n s k e at

  pub program_follows : (j : Journal) → IsNameable j → (r : Result Replayed ReplayError)
      → machine.Replays (run_by g moves shares TURN_TICKS) j.entries r → FollowsTo g j r
  program_follows j named (Ok r) h =
      let z = means g moves shares TURN_TICKS ready j.entries h.system h.along in
      record {
        steps = z.0;
        state = z.1;
        along = z.2;
        output = same_output g moves shares TURN_TICKS ready j.entries h.system h.along z.0 z.1 z.2 h.output.0 r.output
            h.output.1;
        end = ends j.entries h.system h.along z.0 z.1 z.2 r.end h.end;
      }
  program_follows j named (Err (error.Unfit n)) h = record {
    inside = h.inside;
    fits = means g moves shares TURN_TICKS ready (take n j.entries) h.fits.0 h.fits.1;
    unfit = λ m.
        let z = program_runs g moves shares TURN_TICKS ready (take (suc n) j.entries)
        (nameable_front first_births (suc n) j.entries named) m.0 m.1 m.2 in
        h.unfit z.0 z.1;
  }
  program_follows j named (Err error.Memory) h = tt {0}

module _ (code : Parts) (input : List ℕ) (lim : Limits) (p : Program) (moves shares : Stmt
    → List ℕ) (is : IsCodeOf (run_input p input lim) moves shares code) where
  pub followed : (j : Journal) → IsNameable j → (r : Result Replayed ReplayError)
      → machine.Replays (run_of code input lim) j.entries r → FollowsTo (run_input p input lim) j r
  followed j named r h =
      program_follows (run_input p input lim) moves shares is.ready j named r
      (subst (λ (x : Parts). machine.Replays (run_of x input lim) j.entries r) is.emitted h)
