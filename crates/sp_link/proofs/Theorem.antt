-- The system along a journal is the meaning along that journal, both ways; with the same output, and
-- the first process ended in both or in neither.
use Rattle.std.proofs.Common.{◌≡◌, ℕ, List, [], Some, None, false, sym, subst}
use Rattle.std.specs.Prelude.{slice_get}
use Rattle.sp_tree.specs.Plain.{Block}
use Rattle.sp_journal.specs.declared.entry.Entry.{Entry}
use Rattle.sp_journal.specs.Births.{first_births, births_from, occurrences_from, NameableFrom}
use Rattle.sp_journal.proofs.BirthLaws.{lawful_start}
use Rattle.sp_cell.specs.Map.{Plain}
use Rattle.sp_meaning.specs.Runs.{StateOf, start, running_process, output_of}
use Rattle.sp_meaning.specs.Along.{before_entries, IsAlong}
use Rattle.sp_code.specs.Machine.{Config}
use Rattle.sp_code.specs.Turns.{IsSafe}
use Rattle.sp_code.specs.Memory.{Memory}
use Rattle.sp_code.specs.PlainStore.{plain}
use Rattle.sp_code.specs.System.{System, Working, Over, IsSystem, OutputIs, opening_system}
use Rattle.sp_link.proofs.FirstRelation.{lives, opening_now}
use Rattle.sp_link.proofs.Fronts.{Grows, began, grows_from, all_began}
use Rattle.sp_link.proofs.JournalEntries.{system_is_meaning}
use Rattle.sp_link.proofs.Journal.{Goes_along}
use Rattle.sp_link.proofs.Relation.{RunContext, Began, at_open, run_is, ops}
use Rattle.sp_link.proofs.OneState.{one_state}
use Rattle.sp_link.proofs.Outputs.{output_is, done_there}
use Rattle.sp_link.proofs.WhoRuns.{root_over, nobody}
use Rattle.sp_meaning.specs.Model.{Name, Ended}
use Rattle.sp_link.proofs.Replay.{replays}
use Rattle.sp_link.proofs.TurnsSafe.{turn_safe}
use Rattle.sp_link.proofs.Relation.{stop_of}

module _ (G : RunContext) (b : Block) (eb : slice_get G.g.program.blocks 0 ≡ Some b) (es : List Entry)
    (named : NameableFrom first_births es) (all : births_from first_births es ≡ G.births) where
  begun : Began G first_births
  begun = began G first_births lawful_start
      (subst (λ y. Grows first_births y) all (grows_from es first_births lawful_start named))

  -- with the relation at its end
  pub linked_along : (t : System Plain) → IsSystem plain (run_is G) es t
      → Goes_along G before_entries (start G.g) first_births es t
  linked_along t h = system_is_meaning G (lives (at_open G 0) b eb begun) (opening_now G b eb begun) es t
      (all_began G es first_births lawful_start named all) h

  pub meaning_of_system : (t : System Plain) → IsSystem plain (run_is G) es t → (n : ℕ) × (s : StateOf G.g)
      × IsAlong G.g G.pause (occurrences_from first_births es) n s
  meaning_of_system t h = let z = linked_along t h in (z.steps, z.state, z.along)

  -- each turn of the system after these entries is safe
  pub turns_safe : (t : System Plain) → IsSystem plain (run_is G) es t → (i : ℕ) (d : Config (Memory Plain))
      → t.condition i ≡ Working d → IsSafe (ops G) G.code d
  turns_safe t h i d at = let z = linked_along t h in
      turn_safe (stop_of (at_open G t.births.channels) z.lives z.course z.state t z.linked i d at)

  -- and the other way round
  pub system_of_meaning : (n : ℕ) (s : StateOf G.g) → IsAlong G.g G.pause (occurrences_from first_births es) n s
      → (t : System Plain) × IsSystem plain (run_is G) es t
  system_of_meaning n s h = replays G es (lives (at_open G 0) b eb begun) before_entries (start G.g)
      (opening_system plain (run_is G)) (opening_now G b eb begun) (all_began G es first_births lawful_start named all)
      named n s h

  -- the state of the meaning that the relation has is the one along the journal
  module _ (t : System Plain) (h : IsSystem plain (run_is G) es t) (n : ℕ) (s : StateOf G.g)
      (k : IsAlong G.g G.pause (occurrences_from first_births es) n s) where
    at_end : Goes_along G before_entries (start G.g) first_births es t
    at_end = linked_along t h

    is_it : at_end.state ≡ s
    is_it = (one_state G.g G.pause (occurrences_from first_births es) at_end.steps n at_end.state s at_end.along k).1

    -- the same output
    pub output_same : OutputIs plain (run_is G) t (output_of G.g s)
    output_same = subst (λ y. OutputIs plain (run_is G) t (output_of G.g y)) is_it
        (output_is (at_open G t.births.channels) at_end.lives at_end.course at_end.state t at_end.linked)

    -- done on both sides
    pub done_means : (d : Config (Memory Plain)) → t.condition 0 ≡ Over d → s.condition [] ≡ Ended
    done_means d e = subst (λ (y : StateOf G.g). y.condition [] ≡ Ended) is_it
        (root_over (at_open G t.births.channels) at_end.lives at_end.course at_end.state t at_end.linked d e)

    pub done_runs : s.condition [] ≡ Ended → (d : Config (Memory Plain)) × (t.condition 0 ≡ Over d)
    done_runs e = done_there (at_open G t.births.channels) at_end.lives at_end.course at_end.state t at_end.linked
        (subst (λ (y : StateOf G.g). y.condition [] ≡ Ended) (sym is_it) e)

    -- nobody runs on both sides
    pub idle_means : t.faulted ≡ false → ((i : ℕ) (d : Config (Memory Plain)) → t.condition i ≡ Working d → ⊥)
        → (q : Name) → running_process G.g s q ≡ None
    idle_means no_fault none q = subst (λ y. running_process G.g y q ≡ None) is_it
        (nobody (at_open G t.births.channels) at_end.lives at_end.course at_end.state t at_end.linked no_fault none q)
