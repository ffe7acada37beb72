-- What lets a run be told: no run, no replay and no run of a code file ends by want of memory.
use Rattle.std.proofs.Common.{ℕ, List, Option, Some, None}
use Rattle.sp_base.specs.declared.limits.Limits.{Limits}
use Rattle.sp_cell.specs.Map.{Plain}
use Rattle.sp_code.specs.System.{System}
use Rattle.sp_execute.specs.declared.execution.Ran.{Ran}
use Rattle.sp_execute.specs.Runs.{Executes, run_input}
use Rattle.sp_journal.specs.declared.entry.Entry.{Entry}
use Rattle.sp_journal.specs.declared.entry.Journal.{Journal}
use Rattle.sp_journal.specs.declared.outcome.End.{End}
use Rattle.sp_journal.specs.declared.outcome.End.TheVariants as ends
use Rattle.sp_kernel.specs.declared.closed.Closed.{Closed}
use Rattle.sp_meaning.specs.Ends.{EndIs, EndsSo}
use Rattle.sp_meaning.specs.LocalWork.{RunInput}
use Rattle.sp_meaning.specs.Runs.{StateOf}
use Rattle.sp_print.specs.OutcomeLines.{HasLines}
use Rattle.sp_replay.specs.declared.replayer.Replayed.{Replayed}
use Rattle.sp_runner.specs.Ends.{EndsAt}
use Rattle.sp_tree.specs.Bare.{without_places}
use Rattle.superpascal.specs.AnswerParts.{HasEndLines, IsTellable}
use Rattle.superpascal.specs.Executions.{IsExecutionOf}
use Rattle.superpascal.specs.Replays.{IsReplayOf}
use Rattle.superpascal.specs.Runs.{IsRunOf}

abbrev pub EndHasLines : End → Type 0
EndHasLines x = HasLines x

-- no run ends by want of memory
ends_at : (g : RunInput) (s : StateOf g) (x : End) → EndIs g s x → HasLines x
ends_at g s ends.Done h = tt
ends_at g s (ends.Deadlock ws) h = tt
ends_at g s (ends.Fault n y) h = tt
ends_at g s ends.Memory h = absurd h

executed : (g : RunInput) (workers : ℕ) (r : Ran) → Executes g workers r → IsTellable r
executed g workers r h = (h.about.names, ends_at g h.about.state r.closed.end h.about.end)

pub ends_of : (text input : List ℕ) (workers : ℕ) (limits : Limits) (r : Ran) → IsRunOf text input workers limits r
    → HasLines r.closed.end
ends_of text input workers limits r h = (executed (run_input (without_places h.tree) input limits) workers r h.meant).1

-- no replay does
meant_ends : (g : RunInput) (s : StateOf g) (o : Option End) → EndsSo g s o → HasEndLines o
meant_ends g s None h = tt
meant_ends g s (Some ends.Done) h = tt
meant_ends g s (Some (ends.Deadlock ws)) h = tt
meant_ends g s (Some (ends.Fault n y)) h = tt
meant_ends g s (Some ends.Memory) h = absurd h

pub replay_ends : (text input : List ℕ) (limits : Limits) (j : Journal) (r : Replayed)
    → IsReplayOf text input limits j r → HasEndLines r.end
replay_ends text input limits j r h = meant_ends _ h.meant.state r.end h.meant.end

-- nor an execution
entries_end : (es : List Entry) (s : System Plain) (x : End) → EndsAt es s x → HasLines x
entries_end es s ends.Done h = tt
entries_end es s (ends.Deadlock ws) h = tt
entries_end es s (ends.Fault n y) h = tt
entries_end es s ends.Memory h = absurd h

pub execution_ends : (bytes input : List ℕ) (limits : Limits) (r : Closed) → IsExecutionOf bytes input limits r
    → HasLines r.end
execution_ends bytes input limits r h = entries_end r.journal.entries h.gives.system r.end h.gives.end
