-- Races, and what shows them.
use Rattle.std.proofs.Common.{◌≡◌, ◌≢◌, ℕ, List, [], ◌∷◌, Some, sym, ◌∙◌, ap, subst}
use Rattle.std.specs.Option.{option_map_or}
use Rattle.std.specs.Prelude.{codes}
use Rattle.sp_base.specs.declared.limits.TheConstants.{TURN_TICKS}
use Rattle.sp_base.specs.declared.name.ChanName.{ChanName}
use Rattle.sp_execute.specs.declared.execution.Ran.{Ran}
use Rattle.sp_execute.specs.Follows.{IsMeant}
use Rattle.sp_execute.specs.Runs.{run_input}
use Rattle.sp_execute.specs.Witnesses.{witness_of}
use Rattle.sp_front.specs.Checks.{IsProgramOf}
use Rattle.sp_journal.specs.declared.entry.Way.{Way}
use Rattle.sp_journal.specs.declared.outcome.End.TheVariants as end
use Rattle.sp_journal.specs.declared.outcome.Verdict.{Verdict}
use Rattle.sp_journal.specs.declared.outcome.Verdict.TheVariants as verdict
use Rattle.sp_journal.specs.declared.version.Version.TheVariants as version
use Rattle.sp_journal.specs.Texts.{journal_text}
use Rattle.sp_race.specs.Races.{IsFault}
use Rattle.sp_meaning.specs.Along.{IsAlong}
use Rattle.sp_tree.specs.Plain.{Program}
use Rattle.sp_witness.specs.Contention.{NeverContends}
use Rattle.sp_witness.specs.OccurrenceNumbers.{witness_journal}
use Rattle.sp_words.specs.Ranges.{default_limits}
use Rattle.sp_words.specs.Words.{command_of}
use Rattle.sp_words.specs.declared.command.Command.TheVariants as command
use Rattle.superpascal.specs.Calls.{Call}
use Rattle.superpascal.specs.Runs.{witness_text}
use Rattle.promise_rows.specs.Observations.{Holds, Observed}
use Rattle.promise_rows.proofs.AskedWords.{a_run, a_witness, run_words, witness_words}
use Rattle.promise_rows.proofs.Seen.{whole_output}

abbrev text_by : Ran → Verdict → List ℕ
text_by r v = option_map_or (journal_text version.Two) (witness_of v r.closed.journal) []

not_ordered : (w : Way) (c : ChanName) (i k : ℕ) → verdict.Race w c i k ≡ verdict.Ordered → ⊥
not_ordered w c i k e = cc e

module _ {c : Call} {input out notes : List ℕ} where
  module _ (o : Observed c (codes "witness" ∷ codes "a" ∷ []) input out notes) where
    asked : command_of c.words ≡ Some (command.Run a_witness)
    asked = ap command_of o.words ∙ witness_words

    output_is : (r : Ran) → c.outcome.ran ≡ Some r → c.outcome.status ≢ 6 → out ≡ witness_text r
    output_is r e n = whole_output o (witness_text r) ((o.promise.writing.ran a_witness asked r e).whole n).0

    pub no_race_is_shown : (r : Ran) → c.outcome.ran ≡ Some r → r.verdict ≡ verdict.Ordered → c.outcome.status ≢ 6
        → out ≡ []
    no_race_is_shown r e v n = output_is r e n ∙ ap (text_by r) v

    pub a_race_is_shown : (text : List ℕ) → Holds c (codes "a") text
        → (r : Ran) (w : Way) (channel : ChanName) (i k : ℕ)
        → c.outcome.ran ≡ Some r → r.verdict ≡ verdict.Race w channel i k → c.outcome.status ≢ 6
        → (out ≡ journal_text version.Two (witness_journal r.closed.journal i k))
        × ((p : Program) × IsProgramOf text p
        × IsMeant (run_input p input default_limits) (witness_journal r.closed.journal i k).entries)
    a_race_is_shown text held r w channel i k e v n =
        let h = o.promise.witnessing.shown a_witness text asked held input o.input r e in
        let s = (h.2.witness w channel i k v).2 in (
          output_is r e n ∙ ap (text_by r) v,
          (
            h.0,
            h.1,
            (
              s.shows.size,
              s.shows.state,
              subst (λ es. IsAlong (run_input h.0 input default_limits) TURN_TICKS es s.shows.size s.shows.state)
                  (sym s.names) s.shows.along,
            ),
          ),
        )

  module _ (o : Observed c (codes "run" ∷ codes "a" ∷ []) input out notes) (text : List ℕ)
      (held : Holds c (codes "a") text) (r : Ran) (e : c.outcome.ran ≡ Some r) (done : r.closed.end ≡ end.Done) where
    no_fault : IsFault r.closed.end → ⊥
    no_fault f = subst IsFault done f

    pub contends : (w : Way) (channel : ChanName) (i k : ℕ) → r.verdict ≡ verdict.Race w channel i k
        → (p : Program) × IsProgramOf text p × (NeverContends (run_input p input default_limits) → ⊥)
    contends w channel i k v =
        let h = o.promise.witnessing.shown a_run text (ap command_of o.words ∙ run_words) held input o.input r e in
        (h.0, h.1, λ never. not_ordered w channel i k (sym v ∙ (h.2.ordered no_fault).1 never))

    pub never_contends : r.verdict ≡ verdict.Ordered
        → (p : Program) × IsProgramOf text p × NeverContends (run_input p input default_limits)
    never_contends v =
        let h = o.promise.witnessing.shown a_run text (ap command_of o.words ∙ run_words) held input o.input r e in
        (h.0, h.1, (h.2.ordered no_fault).0 v)
