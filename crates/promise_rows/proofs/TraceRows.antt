-- Journals that are told, by their entries and by the state behind them.
use Rattle.std.proofs.Common.{◌≡◌, inl, ℕ, List, [], ◌∷◌, ◌++◌, length, filter, Option, Some, None, Bool}
use Rattle.std.proofs.Common.{false, if◌then◌else◌, refl, sym, ◌∙◌, ap, subst, arith, append_assoc, append-nil}
use Rattle.std.specs.List.{flat_map}
use Rattle.std.specs.Prelude.{codes}
use Rattle.sp_base.specs.Places.{place_text}
use Rattle.sp_base.specs.declared.fault.Fault.{Fault}
use Rattle.sp_base.specs.declared.place.Place.{Place}
use Rattle.sp_cell.specs.Map.{Plain}
use Rattle.sp_code.specs.Machine.{Stop, Forks, Opens, Sends, Receives, Ends, Pauses, Config}
use Rattle.sp_code.specs.Memory.{CodeRun, Memory}
use Rattle.sp_code.specs.PlainStore.{plain}
use Rattle.sp_code.specs.Sound.{run_of}
use Rattle.sp_code.specs.System.{Condition, System, event_at, event_of, event_or, opening_system}
use Rattle.sp_code.specs.System.{system_after_turn}
use Rattle.sp_code.specs.Turns.{Faulted, Stopped, Turn}
use Rattle.sp_journal.specs.declared.entry.Event.TheVariants as event
use Rattle.sp_journal.specs.declared.entry.Journal.{Journal}
use Rattle.sp_journal.specs.declared.version.Version.TheVariants as version
use Rattle.sp_journal.specs.Births.{Births, births}
use Rattle.sp_journal.specs.Queue.{numbers}
use Rattle.sp_journal.specs.Texts.{journal_text}
use Rattle.sp_lines.specs.declared.mark.Mark.{Mark}
use Rattle.sp_lines.specs.declared.entry_place.Told.{Told}
use Rattle.sp_lines.specs.Marks.{marks}
use Rattle.sp_lines.specs.EntryPlaces.{DescribesEntries, lasts_after}
use Rattle.sp_replay.specs.TraceAnswers.{never}
use Rattle.sp_report.specs.InOrder.{sorted_by_name}
use Rattle.sp_lines.specs.Constants.{by_kind, constants_of}
use Rattle.sp_tree.specs.declared.checked.KindOf.{KindOf}
use Rattle.sp_where.specs.Places.{statement_at}
use Rattle.sp_where.specs.StateVariables.{Known}
use Rattle.sp_where.specs.States.{fault_in, is_live, named_text, where_text}
use Rattle.sp_where.specs.Traces.{trace_text}
use Rattle.sp_words.specs.Ranges.{default_limits}
use Rattle.sp_words.specs.Words.{command_of}
use Rattle.sp_words.specs.declared.requests.View.TheVariants as view
use Rattle.superpascal.specs.Calls.{Call}
use Rattle.superpascal.specs.Replays.{IsJournalOf}
use Rattle.superpascal.specs.Traces.{IsStateOf, IsTraceOf}
use Rattle.promise_rows.specs.Files.{one_end}
use Rattle.promise_rows.specs.Observations.{Holds, Observed}
use Rattle.promise_rows.proofs.AskedWords.{a_journal, trace_words, where_words}
use Rattle.promise_rows.proofs.JournalRows.{One, is_one_end}
use Rattle.promise_rows.proofs.Lines.{zero_text}
use Rattle.promise_rows.proofs.Seen.{whole_output}

-- the line of the end of the root, with its number and its place
abbrev line_with : List ℕ → List ℕ → List ℕ
line_with place number = codes "trace\n"
    ++ ((number ++ codes " " ++ place ++ codes " " ++ codes "0 end" ++ [] ++ codes "\n") ++ [])

joined : (place : List ℕ) → line_with place (codes "0") ≡ codes "trace\n0 " ++ place ++ codes " 0 end\n"
joined place = ap (λ (x : List ℕ). codes "trace\n0 " ++ x)
    (append-nil (((place ++ codes " ") ++ codes "0 end") ++ [] ++ codes "\n")
    ∙ ap (λ (x : List ℕ). x ++ codes "\n") (append-nil ((place ++ codes " ") ++ codes "0 end"))
    ∙ append_assoc (place ++ codes " ") (codes "0 end") (codes "\n")
    ∙ append_assoc place (codes " ") (codes "0 end\n"))

-- the text of one end is the line of its entry
one_line : (kinds : List KindOf) (constants : List (List (List ℕ))) (marks : List Mark) (ws : List Told)
    → length ws ≡ 1 → (at : Place) × (trace_text kinds constants marks one_end.entries ws
    ≡ codes "trace\n0 " ++ place_text at ++ codes " 0 end\n")
one_line kinds constants marks [] e = absurd (omega (arith, e))
one_line kinds constants marks (w ∷ []) e =
    let at = statement_at marks w.instruction in (at, ap (line_with (place_text at)) zero_text ∙ joined (place_text at))
one_line kinds constants marks (w ∷ (v ∷ ws)) e = absurd (omega (arith, e))

-- a turn that ends does so at its end
not_end : (o : Option Fault) (stop : Stop) (c : Config (Memory Plain)) → (event_at stop ≡ event.End → ⊥)
    → event_or o (Stopped stop c) ≡ event.End → ⊥
not_end None stop c n e = n e
not_end (Some f) stop c n e = cc e

module _ (g : CodeRun) where
  -- behind the turn in which it ends the root does not live
  gone : (turn : Turn (Memory Plain)) → event_of g.limits (opening_system plain g) turn ≡ event.End
      → is_live ((system_after_turn plain g 0 turn (opening_system plain g)).condition 0) ≡ false
  gone (Faulted f c) e = absurd (cc e)
  gone (Stopped Ends c) e = refl
  gone (Stopped Pauses c) e = absurd (cc e)
  gone (Stopped (Forks t v n) c) e = absurd (not_end _ (Forks t v n) c (λ x. cc x) e)
  gone (Stopped (Opens a) c) e = absurd (not_end _ (Opens a) c (λ x. cc x) e)
  gone (Stopped (Sends d k cs) c) e = absurd (not_end _ (Sends d k cs) c (λ x. cc x) e)
  gone (Stopped (Receives d k a) c) e = absurd (not_end _ (Receives d k a) c (λ x. cc x) e)

  behind : (ws : List Told) (s : System Plain) → DescribesEntries g one_end.entries ws s
      → is_live (s.condition 0) ≡ false
  behind [] s h = absurd h
  behind (w ∷ []) s (u, (_, _, turn, _, is_end, after, _), e) =
      subst (λ (x : System Plain). is_live (x.condition 0) ≡ false) (sym e)
      (subst (λ (x : System Plain). is_live (x.condition 0) ≡ false) (sym after) (gone turn is_end))
  behind (w ∷ (v ∷ ws)) s h = absurd h.2

-- where no process lives, none is told
nobody : (w : Known) (last : ℕ → ℕ) (condition : ℕ → Condition Plain) → w.births ≡ births one_end.entries
    → is_live (condition 0) ≡ false → where_text w one_end.entries last condition ≡ codes "where\n"
nobody w last condition b h = subst (λ (s : Births). codes "where\n"
    ++ flat_map (named_text w (fault_in one_end.entries) last condition)
    (sorted_by_name s (filter (λ q. is_live (condition q)) (numbers 0 s.processes))) ≡ codes "where\n") (sym b)
    (ap (λ (x : Bool). codes "where\n" ++ flat_map (named_text w (fault_in one_end.entries) last condition)
    (sorted_by_name (births one_end.entries) (if x then 0 ∷ [] else []))) h)

module _ (one : One) (bytes : List ℕ) (is : bytes ≡ journal_text version.Two one_end) where
  same_journal : (j : Journal) → IsJournalOf bytes j → j ≡ one_end
  same_journal j h = one h.version version.Two j one_end bytes h.text (is_one_end bytes is)

  line_of_end : (text : List ℕ) (j : Journal) → IsJournalOf bytes j → (out : List ℕ)
      → IsTraceOf text [] default_limits j out
      → (at : Place) × (out ≡ codes "trace\n0 " ++ place_text at ++ codes " 0 end\n")
  line_of_end text j h out x = go (subst (λ (k : Journal). IsTraceOf text [] default_limits k out) (same_journal j h) x)
    where
      go : IsTraceOf text [] default_limits one_end out
          → (at : Place) × (out ≡ codes "trace\n0 " ++ place_text at ++ codes " 0 end\n")
      go y = let l = one_line y.of.tree.kinds (by_kind y.of.tree.kinds (constants_of y.syntax))
          (marks y.of.tree) y.told y.of.placed.each in (l.0, y.is_text ∙ l.1)

  state_of_end : (text : List ℕ) (j : Journal) → IsJournalOf bytes j → (out : List ℕ)
      → IsStateOf text [] default_limits j out → out ≡ codes "where\n"
  state_of_end text j h out x =
      go (subst (λ (k : Journal). IsStateOf text [] default_limits k out) (same_journal j h) x)
    where
      go : IsStateOf text [] default_limits one_end out → out ≡ codes "where\n"
      go y = y.is_text ∙ nobody (record {
        tree = y.of.tree;
        constants = by_kind y.of.tree.kinds (constants_of y.syntax);
        marks = marks y.of.tree;
        code = y.of.code;
        births = births one_end.entries;
      }) (lasts_after one_end.entries y.told never) y.of.state.condition refl
          (behind (run_of y.of.code [] default_limits) y.told y.of.state y.of.is_told)

abbrev first_byte : List ℕ → ℕ
first_byte [] = 0
first_byte (b ∷ bs) = b

module _ {c : Call} {out notes : List ℕ} where
  module _ (one : One) (text bytes : List ℕ) (held : Holds c (codes "a") text) (journal : Holds c (codes "j") bytes)
      (is : bytes ≡ journal_text version.Two one_end) (done : c.outcome.status ≡ 0) where
    pub an_end_is_told : Observed c (codes "trace" ∷ codes "a" ∷ codes "j" ∷ []) [] out notes
        → (at : Place) × (out ≡ codes "trace\n0 " ++ place_text at ++ codes " 0 end\n")
    an_end_is_told o =
        let w = o.promise.tracing.traced (a_journal view.Entries) text bytes (ap command_of o.words ∙ trace_words) held
        journal [] o.input refl (inl done) in
        let l = line_of_end one bytes is text w.journal w.is_journal w.out w.is_text in
        (l.0, whole_output o w.out w.written ∙ l.1)

    pub no_output_is_told : Observed c (codes "trace" ∷ codes "a" ∷ codes "j" ∷ []) [] out notes
        → out ≡ codes "42" → ⊥
    no_output_is_told o e = omega (arith, ap first_byte (sym (an_end_is_told o).1 ∙ e))

    pub nobody_is_anywhere : Observed c (codes "where" ∷ codes "a" ∷ codes "j" ∷ []) [] out notes
        → out ≡ codes "where\n"
    nobody_is_anywhere o =
        let w = o.promise.tracing.placed (a_journal view.State) text bytes (ap command_of o.words ∙ where_words) held
        journal [] o.input refl (inl done) in
        whole_output o w.out w.written ∙ state_of_end one bytes is text w.journal w.is_journal w.out w.is_text
