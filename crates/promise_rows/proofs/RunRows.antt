-- Runs: a text that is refused, and one whose output is known.
use Rattle.std.proofs.Common.{◌≡◌, ◌⊎◌, inl, inr, ℕ, ◌≤◌, List, [], ◌∷◌, ◌++◌, length, take, None, Some, refl}
use Rattle.std.proofs.Common.{sym, ◌∙◌, ap, subst, arith}
use Rattle.std.specs.Prelude.{codes}
use Rattle.sp_base.specs.declared.halt.Refusal.{Refusal}
use Rattle.sp_base.specs.declared.limits.Show.TheVariants as show
use Rattle.sp_execute.specs.declared.execution.Ran.{Ran}
use Rattle.sp_execute.specs.Runs.{Executes, run_input}
use Rattle.sp_front.specs.Checks.{IsProgramOf}
use Rattle.sp_journal.specs.declared.entry.Entry.{Entry}
use Rattle.sp_journal.specs.declared.outcome.End.{End}
use Rattle.sp_journal.specs.declared.outcome.Verdict.{Verdict}
use Rattle.sp_journal.specs.declared.outcome.Verdict.TheVariants as verdict
use Rattle.sp_meaning.specs.LocalWork.{RunInput}
use Rattle.sp_meaning.specs.Model.{Name}
use Rattle.sp_meaning.specs.Runs.{IsDisjointRun, Lawful, StateOf, start}
use Rattle.sp_print.specs.OutcomeLines.{end_text, verdict_text}
use Rattle.sp_tree.specs.Breaches.{IsFirstBroken, IsTree}
use Rattle.sp_tree.specs.Plain as m
use Rattle.sp_tree.specs.PlainSyntax.{Program}
use Rattle.sp_words.specs.Ranges.{default_limits}
use Rattle.sp_words.specs.Words.{command_of}
use Rattle.sp_words.specs.declared.command.Command.TheVariants as command
use Rattle.superpascal.specs.declared.ending.Ending.TheVariants as e
use Rattle.superpascal.specs.Answers.{line_of, status_of}
use Rattle.superpascal.specs.Calls.{Call, IsFinal, SaysEnding}
use Rattle.superpascal.specs.Headline.{IsMeant, Prints}
use Rattle.superpascal.specs.Runs.{ending_of}
use Rattle.superpascal.specs.Statuses.{IsRegularStatus}
use Rattle.promise_rows.specs.Observations.{Ends, Holds, IsQuiet, Observed}
use Rattle.promise_rows.specs.Programs.{calls_unknown, waits, writes_42}
use Rattle.promise_rows.proofs.AskedWords.{a_run, run_words}
use Rattle.promise_rows.proofs.RowTexts.{keeps_rules, program_is}
use Rattle.promise_rows.proofs.Lines.{unknown_name_line}
use Rattle.promise_rows.proofs.RunFacts.{WaitsForever, Writes42, waits_forever, writes}
use Rattle.promise_rows.proofs.Seen.{memory, part_of_output, short_input, silent, whole_notes, whole_output, works}
use Rattle.promise_rows.proofs.Trees.{breaks_names, is_accepted_text, unknown_name, waits_accepted}
use Rattle.promise_rows.proofs.WritingRows.{a_deadlock_is_told}

abbrev lines_with : List ℕ → List ℕ → List ℕ → List ℕ
lines_with x v reports = (x ++ v) ++ reports

pub six_is_no_end : (s : ℕ) → IsFinal s → s ≡ 6 → ⊥
six_is_no_end s (inl h) e = omega (arith, h, e)
six_is_no_end s (inr (inl h)) e = omega (arith, h, e)
six_is_no_end s (inr (inr h)) e = omega (arith, h, e)

module _ {c : Call} {input out notes : List ℕ} (o : Observed c (codes "run" ∷ codes "a" ∷ []) input out notes) where
  asked : command_of c.words ≡ Some (command.Run a_run)
  asked = ap command_of o.words ∙ run_words

  pub unknown_names_are_refused : IsQuiet c → input ≡ [] → (text : List ℕ) → Holds c (codes "a") text
      → IsTree text calls_unknown → Ends c 1 ((out ≡ []) × (notes ≡ codes "refused N1 1:18\n"))
  unknown_names_are_refused q empty text held t =
      go (o.promise.headline.refused a_run text asked held unknown_name (breaks_names text t))
    where
      go : SaysEnding c (e.Refused unknown_name) → Ends c 1 ((out ≡ []) × (notes ≡ codes "refused N1 1:18\n"))
      go (inl h) = inl (
        h.0,
        (
          silent o 1 h.0 (λ z. omega (arith, z)) (λ z. omega (arith, z)) (λ z. omega (arith, z))
              (λ z. omega (arith, z)),
          whole_notes o (line_of (e.Refused unknown_name)) h.1 ∙ unknown_name_line,
        ),
      )
      go (inr h) = inr (memory c o.promise q
          (short_input o (subst (λ x. length x ≤ 16777216) (sym empty) (omega (arith)))) h)

  pub kept_rules_are_not_refused : ((text : List ℕ) (p q : Program) → IsTree text p → IsTree text q → p ≡ q)
      → ((text : List ℕ) (p : Program) (r : Refusal) → IsTree text p → IsFirstBroken text r → ⊥)
      → (text : List ℕ) → Holds c (codes "a") text → IsTree text writes_42 → c.outcome.status ≡ 1 → ⊥
  kept_rules_are_not_refused one not_both text held t e =
      let h = o.promise.headline.no_other_refused a_run text asked held e in
      keeps_rules one text t not_both h.0 h.1

module _ {c : Call} {out notes : List ℕ} (o : Observed c (codes "run" ∷ codes "a" ∷ []) [] out notes) where
  module _ (one : (text : List ℕ) (p q : Program) → IsTree text p → IsTree text q → p ≡ q) (text : List ℕ)
      (held : Holds c (codes "a") text) (t : IsTree text writes_42) where
    ran_42 : (r : Ran) → IsMeant a_run text [] r → Writes42 r
    ran_42 r (p, is, x) = writes 4 r (subst (λ (z : m.Program). Executes (run_input z [] default_limits) 4 r)
        (program_is one text writes_42 t p is) x)

    printed : ((es : List Entry) → c.reports show.End es ≡ []) → (r : Ran) → c.outcome.ran ≡ Some r
        → IsFinal c.outcome.status → IsMeant a_run text [] r × Prints c a_run.telling r
        → (c.outcome.status ≡ 0) × ((out ≡ codes "42") × (notes ≡ codes "done\nordered\n"))
    printed told r e f (h, k) =
        let w = ran_42 r h in
        let a = o.promise.writing.ran a_run (asked o) r e in
        let n = (a.whole (six_is_no_end c.outcome.status f)).1 in
        let reports = told r.closed.journal.entries in (
          status k.status w,
          (
            whole_output o r.closed.output (k.whole (six_is_no_end c.outcome.status f)) ∙ w.output,
            whole_notes o (lines_with (end_text r.closed.end) (verdict_text r.verdict)
                (c.reports show.End r.closed.journal.entries)) n
                ∙ ap (λ (x : End). lines_with (end_text x) (verdict_text r.verdict)
                (c.reports show.End r.closed.journal.entries)) w.end
                ∙ ap (λ (v : Verdict). lines_with (codes "done\n") (verdict_text v)
                (c.reports show.End r.closed.journal.entries)) w.verdict
                ∙ ap (λ (x : List ℕ). lines_with (codes "done\n") (codes "ordered\n") x) reports,
          ),
        )
      where
        status : (c.outcome.status ≡ status_of (ending_of r.closed.end)) ⊎ (c.outcome.status ≡ 6) → Writes42 r
            → c.outcome.status ≡ 0
        status (inl e) w = e ∙ ap (λ (x : End). status_of (ending_of x)) w.end
        status (inr e) w = absurd (six_is_no_end c.outcome.status f e)

    pub a_run_writes_42 : IsQuiet c → ((es : List Entry) → c.reports show.End es ≡ [])
        → Ends c 0 ((out ≡ codes "42") × (notes ≡ codes "done\nordered\n"))
    a_run_writes_42 q told = go (o.promise.statuses.complete (command.Run a_run) text (asked o) held
        (is_accepted_text text t) (works c o.promise q (command.Run a_run) [] o.input (omega (arith))))
      where
        go : IsRegularStatus (command.Run a_run) c.outcome.status
            → Ends c 0 ((out ≡ codes "42") × (notes ≡ codes "done\nordered\n"))
        go (inl f) =
            let r = o.promise.statuses.ran (command.Run a_run) (asked o) tt f in
            inl (printed told r.0 r.1 f (o.promise.headline.meant a_run text (asked o) held [] o.input r.0 r.1))
        go (inr (inl e)) = inr e
        go (inr (inr (inl h))) = absurd h.0
        go (inr (inr (inr h))) = absurd h.0

    pub a_part_is_written : (r : Ran) → c.outcome.ran ≡ Some r → (n : ℕ) × (out ≡ take n (codes "42"))
    a_part_is_written r e =
        let h = o.promise.headline.meant a_run text (asked o) held [] o.input r e in
        let p = part_of_output o r.closed.output h.1.part in
        (p.0, p.1 ∙ ap (λ (x : List ℕ). take p.0 x) (ran_42 r h.0).output)

pub other_programs_are_not_run : {c : Call} {input out notes : List ℕ}
    → Observed c (codes "run" ∷ codes "a" ∷ []) input out notes → (text : List ℕ) → Holds c (codes "a") text
    → (g : RunInput) → IsProgramOf text g.program → (IsDisjointRun g → ⊥) → (r : Ran) → c.outcome.ran ≡ Some r → ⊥
other_programs_are_not_run o text held g is wrong r e =
    wrong (o.promise.headline.disjoint a_run text (asked o) held r e g.program is g refl)

module _ {c : Call} {out notes : List ℕ} (o : Observed c (codes "run" ∷ codes "a" ∷ []) [] out notes)
    (one : (text : List ℕ) (p q : Program) → IsTree text p → IsTree text q → p ≡ q) (text : List ℕ)
    (held : Holds c (codes "a") text) (t : IsTree text waits) where
  waits_of : (r : Ran) → IsMeant a_run text [] r → WaitsForever r
  waits_of r (p, is, x) = waits_forever 4 r (subst (λ (z : m.Program). Executes (run_input z [] default_limits) 4 r)
      (program_is one text waits t p is) x)

  pub a_run_waits : IsQuiet c → ((es : List Entry) → c.reports show.End es ≡ [])
      → Ends c 4 ((out ≡ []) × (notes ≡ codes "deadlock\nwaits 0 receive 0#0\nordered\n"))
  a_run_waits q told = go (o.promise.statuses.complete (command.Run a_run) text (asked o) held
      (waits_accepted text t) (works c o.promise q (command.Run a_run) [] o.input (omega (arith))))
    where
      printed : IsFinal c.outcome.status → (r : Ran) → c.outcome.ran ≡ Some r
          → IsMeant a_run text [] r × Prints c a_run.telling r
          → (c.outcome.status ≡ 4) × ((out ≡ []) × (notes ≡ codes "deadlock\nwaits 0 receive 0#0\nordered\n"))
      printed f r e h =
          let w = waits_of r h.0 in
          let d = a_deadlock_is_told o told r e w.end w.verdict (six_is_no_end c.outcome.status f) in (
            d.0,
            (
              whole_output o r.closed.output (h.1.whole (six_is_no_end c.outcome.status f)) ∙ w.output,
              d.1,
            ),
          )

      go : IsRegularStatus (command.Run a_run) c.outcome.status
          → Ends c 4 ((out ≡ []) × (notes ≡ codes "deadlock\nwaits 0 receive 0#0\nordered\n"))
      go (inl f) =
          let r = o.promise.statuses.ran (command.Run a_run) (asked o) tt f in
          inl (printed f r.0 r.1 (o.promise.headline.meant a_run text (asked o) held [] o.input r.0 r.1))
      go (inr (inl e)) = inr e
      go (inr (inr (inl h))) = absurd h.0
      go (inr (inr (inr h))) = absurd h.0

pub ordered_runs_end_alike : {c : Call} {input out notes : List ℕ}
    → Observed c (codes "run" ∷ codes "a" ∷ []) input out notes → (text : List ℕ) → Holds c (codes "a") text
    → (r : Ran) → c.outcome.ran ≡ Some r → r.verdict ≡ verdict.Ordered
    → (p : m.Program) × IsProgramOf text p × (n : ℕ)
    × ((qs : List Name) (u : StateOf (run_input p input default_limits))
    → Lawful (run_input p input default_limits) (start (run_input p input default_limits)) qs u
    → (length qs ≤ n) × (u.fault ≡ None) × (rest : List Name) × (length (qs ++ rest) ≡ n))
ordered_runs_end_alike {input = input} o text held r e v =
    let ((p, is_program, x), _) = o.promise.headline.meant a_run text (asked o) held input o.input r e in
    (p, is_program, x.about.steps, λ qs u l. let k = x.alike v qs u l in (k.bounded, k.no_fault, k.rest, k.full))
