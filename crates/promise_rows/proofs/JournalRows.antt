-- Journals that are followed.
use Rattle.std.proofs.Common.{◌≡◌, ◌⊎◌, inl, inr, ℕ, zero, suc, ◌<◌, ◌≤◌, List, [], ◌∷◌, ◌++◌, length, Option, Some}
use Rattle.std.proofs.Common.{refl}
use Rattle.std.proofs.Common.{sym, ◌∙◌, ap, subst, arith, IfSome}
use Rattle.std.specs.Prelude.{codes}
use Rattle.sp_execute.specs.Follows.{IsFollowed, IsUnfitAt}
use Rattle.sp_execute.specs.Runs.{run_input}
use Rattle.sp_journal.specs.declared.entry.Journal.{Journal}
use Rattle.sp_journal.specs.declared.outcome.End.{End}
use Rattle.sp_journal.specs.declared.outcome.End.TheVariants as end
use Rattle.sp_journal.specs.declared.version.Version.{Version}
use Rattle.sp_journal.specs.declared.version.Version.TheVariants as version
use Rattle.sp_journal.specs.ReadAnswers.{IsText}
use Rattle.sp_journal.specs.Texts.{IsFirstBad, IsTextOf, bad_entry, bad_heading, heading, journal_text}
use Rattle.sp_front.specs.Checks.{IsChecked}
use Rattle.sp_meaning.specs.Ends.{EndsSo}
use Rattle.sp_meaning.specs.Runs.{output_of}
use Rattle.sp_replay.specs.declared.replayer.Replayed.{Replayed}
use Rattle.sp_tree.specs.Bare.{without_places}
use Rattle.sp_tree.specs.Breaches.{IsTree}
use Rattle.sp_tree.specs.Plain as m
use Rattle.sp_tree.specs.PlainSyntax.{Program}
use Rattle.sp_words.specs.Ranges.{default_limits}
use Rattle.sp_words.specs.Words.{command_of}
use Rattle.sp_words.specs.declared.command.Command.{Command}
use Rattle.sp_words.specs.declared.requests.View.TheVariants as view
use Rattle.sp_words.specs.declared.requests.ReplayRequest.{ReplayRequest}
use Rattle.sp_words.specs.declared.command.Command.TheVariants as command
use Rattle.superpascal.specs.declared.ending.Ending.{Ending}
use Rattle.superpascal.specs.declared.ending.Ending.TheVariants as e
use Rattle.superpascal.specs.Answers.{line_of, status_of}
use Rattle.superpascal.specs.Calls.{Call, IsFinal, IsOutside, SaysEnding}
use Rattle.superpascal.specs.Causes.{HasRead}
use Rattle.superpascal.specs.ReplayPromise.{IsMeantAlong, IsNoJournal, PrintsReplay}
use Rattle.superpascal.specs.Replays.{IsJournalOf, IsUnfitFor, ending_of_replay, replay_notes}
use Rattle.superpascal.specs.Texts.{IsAcceptedText}
use Rattle.promise_rows.specs.Files.{one_end, two_ends}
use Rattle.promise_rows.specs.Observations.{Ends, Holds, IsQuiet, Observed}
use Rattle.promise_rows.specs.Programs.{checked, writes_42}
use Rattle.promise_rows.proofs.AskedWords.{a_journal, a_run, replay_words, run_words}
use Rattle.promise_rows.proofs.RowTexts.{program_is}
use Rattle.promise_rows.proofs.Lines.{bad_journal_line, unfit_line}
use Rattle.promise_rows.proofs.Seen.{memory, short_input, silent, whole_notes, whole_output}
use Rattle.promise_rows.proofs.Trees.{is_accepted_text, is_checked}
use Rattle.promise_rows.proofs.OutputRuns.{at_end, ended, ends_done, g, meant, not_twice}

abbrev first_byte : List ℕ → ℕ
first_byte [] = 0
first_byte (b ∷ bs) = b

headed : (v : Version) (xs rest : List ℕ) → first_byte ((heading v ++ xs) ++ rest) ≡ 115
headed version.One xs rest = refl
headed version.Two xs rest = refl

headed_alone : (v : Version) (xs : List ℕ) → first_byte (heading v ++ xs) ≡ 115
headed_alone version.One xs = refl
headed_alone version.Two xs = refl

-- bytes that begin with 0 are no text of a journal, and their first line is bad
module _ (bytes rest : List ℕ) (is : bytes ≡ 48 ∷ rest) where
  no_journal : IsText bytes → ⊥
  no_journal (v, j, h) = omega (arith, ap first_byte (sym is ∙ h.text) ∙ headed_alone v _)

  first_line : (n : ℕ) → IsFirstBad n bytes → n ≡ 1
  first_line n (bad_heading e f) = e
  first_line n (bad_entry v j text more t e some last none) =
      absurd (omega (arith, ap first_byte (sym is ∙ e ∙ ap (λ (x : List ℕ). x ++ more) t.text) ∙ headed v _ more))

pub is_one_end : (bytes : List ℕ) → bytes ≡ journal_text version.Two one_end → IsTextOf version.Two one_end bytes
is_one_end bytes e = record { nameable = ((omega arith, tt), tt); held = (tt, tt); text = e }

is_two_ends : (bytes : List ℕ) → bytes ≡ journal_text version.Two two_ends → IsTextOf version.Two two_ends bytes
is_two_ends bytes e = record {
  nameable = ((omega arith, tt), ((omega arith, tt), tt));
  held = (tt, (tt, tt));
  text = e;
}

pub journal_of : (bytes : List ℕ) → bytes ≡ journal_text version.Two one_end → length bytes ≤ 67108864
    → IsJournalOf bytes one_end
journal_of bytes e short = record { version = version.Two; text = is_one_end bytes e; short = short }

unfit : IsUnfitAt g two_ends.entries 1
unfit = record { inside = omega arith; fits = (2, ended, meant); unfit = λ h. not_twice h.0 h.1 h.2 }

abbrev pub One : Type 0
One = (v w : Version) (j k : Journal) (bytes : List ℕ) → IsTextOf v j bytes → IsTextOf w k bytes → j ≡ k

abbrev pub OneTree : Type 0
OneTree = (text : List ℕ) (p q : Program) → IsTree text p → IsTree text q → p ≡ q

same_command : (b d : ReplayRequest) → ◌≡◌ {A = Option Command} (Some (command.Replay b)) (Some (command.Replay d))
    → b ≡ d
same_command b d e = cc e

module _ {c : Call} {out notes : List ℕ}
    (o : Observed c (codes "replay" ∷ codes "a" ∷ codes "j" ∷ []) [] out notes) where
  asked : command_of c.words ≡ Some (command.Replay (a_journal view.Output))
  asked = ap command_of o.words ∙ replay_words

  module _ (q : IsQuiet c) where
    for_memory : IsOutside c.outcome.status → c.outcome.status ≡ 8
    for_memory h = memory c o.promise q (short_input o (omega (arith))) h

    with_line : (x : Ending) → 9 ≡ status_of x → (text : List ℕ) → line_of x ≡ text → SaysEnding c x
        → Ends c 9 ((out ≡ []) × (notes ≡ text))
    with_line x s text l (inl h) =
        let status : c.outcome.status ≡ 9 = h.0 ∙ sym s in
        inl (
          status,
          (
            silent o 9 status (λ z. omega (arith, z)) (λ z. omega (arith, z)) (λ z. omega (arith, z))
                (λ z. omega (arith, z)),
            whole_notes o (line_of x) h.1 ∙ l,
          ),
        )
    with_line x s text l (inr h) = inr (for_memory h)

    pub a_second_end_is_unfit : (text bytes : List ℕ) → Holds c (codes "a") text → IsTree text writes_42
        → Holds c (codes "j") bytes → bytes ≡ journal_text version.Two two_ends → length bytes ≤ 67108864
        → Ends c 9 ((out ≡ []) × (notes ≡ codes "journal unfit 1\n"))
    a_second_end_is_unfit text bytes held t journal is short =
        with_line (e.Unfit 1) refl (codes "journal unfit 1\n") unfit_line
        (o.promise.following.unfit (a_journal view.Output) text bytes asked held journal [] o.input
        (is_accepted_text text t) (omega (arith)) (without_places (checked writes_42))
        (checked writes_42, is_checked text t, refl) two_ends
        (record { version = version.Two; text = is_two_ends bytes is; short = short }) 1 unfit)

    pub a_heading_is_missing : (text rest : List ℕ) → Holds c (codes "a") text → IsTree text writes_42
        → Holds c (codes "j") (codes "0 end\n" ++ rest) → length (codes "0 end\n" ++ rest) ≤ 67108864
        → Ends c 9 ((out ≡ []) × (notes ≡ codes "bad journal 1\n"))
    a_heading_is_missing text rest held t journal short =
        go (o.promise.following.bad (a_journal view.Output) text bytes asked held journal
        (is_accepted_text text t) short (no_journal bytes _ refl))
      where
        bytes : List ℕ
        bytes = codes "0 end\n" ++ rest

        go : ((n : ℕ) × IsFirstBad n bytes × SaysEnding c (e.BadJournal n)) ⊎ IsOutside c.outcome.status
            → Ends c 9 ((out ≡ []) × (notes ≡ codes "bad journal 1\n"))
        go (inl (n, bad, says)) = with_line (e.BadJournal 1) refl (codes "bad journal 1\n") bad_journal_line
            (subst (λ x. SaysEnding c (e.BadJournal x)) (first_line bytes _ refl n bad) says)
        go (inr h) = inr (for_memory h)

    pub long_journals_are_refused : (text bytes : List ℕ) → Holds c (codes "a") text → IsTree text writes_42
        → Holds c (codes "j") bytes → 67108864 < length bytes
        → Ends c 9 ((out ≡ []) × (notes ≡ codes "journal too long\n"))
    long_journals_are_refused text bytes held t journal long =
        with_line e.LongJournal refl (codes "journal too long\n") refl
        (o.promise.following.long (a_journal view.Output) text bytes asked held journal (is_accepted_text text t) long)

  module _ (one_tree : OneTree) (one : One) (text bytes : List ℕ) (held : Holds c (codes "a") text)
      (t : IsTree text writes_42) (journal : Holds c (codes "j") bytes)
      (is : bytes ≡ journal_text version.Two one_end) (short : length bytes ≤ 67108864) where
    followed : (r : Replayed) → IsMeantAlong (a_journal view.Output) text bytes [] r → IsFollowed g one_end r
    followed r a = subst (λ j. IsFollowed g j r)
        (one a.is_journal.version version.Two a.journal one_end bytes a.is_journal.text (is_one_end bytes is))
        (subst (λ (p : m.Program). IsFollowed (run_input p [] default_limits) a.journal r)
        (program_is one_tree text writes_42 t a.program a.is_program) a.followed)

    pub an_end_is_followed : IsQuiet c → Ends c 0 ((out ≡ codes "42") × (notes ≡ codes "replayed\ndone\n"))
    an_end_is_followed q = go (o.promise.following.accepted (a_journal view.Output) text bytes asked held journal []
        o.input (is_accepted_text text t) (omega (arith)) (without_places (checked writes_42))
        (checked writes_42, is_checked text t, refl) one_end (journal_of bytes is short) (2, ended, meant))
      where
        printed : (r : Replayed) → IsFollowed g one_end r → PrintsReplay c (a_journal view.Output) r
            → (c.outcome.status ≡ 0) × ((out ≡ codes "42") × (notes ≡ codes "replayed\ndone\n"))
        printed r f p =
            let last = at_end f.steps f.state f.along in
            let done : r.end ≡ Some end.Done = ends_done r.end (subst (λ s. EndsSo g s r.end) last f.end) in (
              p.status ∙ ap (λ (x : Option End). status_of (ending_of_replay x)) done,
              (
                whole_output o r.output (p.output refl) ∙ f.output ∙ ap (output_of g) last,
                whole_notes o (replay_notes r.end) p.notes ∙ ap replay_notes done,
              ),
            )

        go : IsFinal c.outcome.status ⊎ IsOutside c.outcome.status
            → Ends c 0 ((out ≡ codes "42") × (notes ≡ codes "replayed\ndone\n"))
        go (inl f) =
            let h = o.promise.following.followed (a_journal view.Output) text bytes asked held journal [] o.input f in
            inl (printed h.0 (followed h.0 h.1) h.2)
        go (inr h) = inr (for_memory q h)

    fits : (h : HasRead c.files c.source (a_journal view.Output)) (n : ℕ)
        → IsUnfitFor h.text h.input default_limits h.journal n → ⊥
    fits h n u = none n (subst (λ j. IsUnfitAt g j.entries n) same_journal
        (subst (λ (p : m.Program). IsUnfitAt (run_input p [] default_limits) h.journal.entries n) same_program
        (subst (λ x. IsUnfitAt (run_input (without_places u.tree) x default_limits) h.journal.entries n) same_input
        u.unfit)))
      where
        same_text : h.text ≡ text
        same_text = subst (λ x. IfSome x (λ all. h.text ≡ all)) held h.loaded

        same_input : h.input ≡ []
        same_input = subst (λ x. IfSome x (λ all. h.input ≡ all)) o.input h.read

        same_bytes : h.bytes ≡ bytes
        same_bytes = subst (λ x. IfSome x (λ all. h.bytes ≡ all)) journal h.told

        same_journal : h.journal ≡ one_end
        same_journal = one h.is_journal.version version.Two h.journal one_end bytes
            (subst (λ x. IsTextOf h.is_journal.version h.journal x) same_bytes h.is_journal.text)
            (is_one_end bytes is)

        same_program : without_places u.tree ≡ without_places (checked writes_42)
        same_program = program_is one_tree text writes_42 t (without_places u.tree)
            (u.tree, subst (λ x. IsChecked x u.tree) same_text u.has.accepted.0, refl)

        none : (n : ℕ) → IsUnfitAt g one_end.entries n → ⊥
        none zero h = h.unfit (2, ended, meant)
        none (suc n) h = omega (arith, h.inside)

    pub fit_journals_are_not_refused : c.outcome.status ≡ 9 → ⊥
    fit_journals_are_not_refused e = go (o.promise.following.only e)
      where
        same : (b : ReplayRequest) → command_of c.words ≡ Some (command.Replay b) → b ≡ a_journal view.Output
        same b e = same_command b (a_journal view.Output) (sym e ∙ asked)

        not_read : IsNoJournal bytes → ⊥
        not_read (inl long) = omega (arith, short, long)
        not_read (inr none) = none (version.Two, one_end, is_one_end bytes is)

        stands : (b : ReplayRequest) → b ≡ a_journal view.Output → IfSome (c.files.held b.journal) IsNoJournal
            ⊎ ((h : HasRead c.files c.source b) × (n : ℕ) × IsUnfitFor h.text h.input b.limits h.journal n) → ⊥
        stands b e h = here (subst (λ (x : ReplayRequest). IfSome (c.files.held x.journal) IsNoJournal
            ⊎ ((h : HasRead c.files c.source x) × (n : ℕ) × IsUnfitFor h.text h.input x.limits h.journal n)) e h)
          where
            here : IfSome (c.files.held (codes "j")) IsNoJournal
                ⊎ ((h : HasRead c.files c.source (a_journal view.Output)) × (n : ℕ)
                × IsUnfitFor h.text h.input default_limits h.journal n) → ⊥
            here (inl h) = not_read (subst (λ x. IfSome x IsNoJournal) journal h)
            here (inr (h, n, u)) = fits h n u

        go : (b : ReplayRequest) × (command_of c.words ≡ Some (command.Replay b))
            × IfSome (c.files.held b.file) IsAcceptedText
            × (IfSome (c.files.held b.journal) IsNoJournal
            ⊎ ((h : HasRead c.files c.source b) × (n : ℕ) × IsUnfitFor h.text h.input b.limits h.journal n)) → ⊥
        go (b, e, kept, h) = stands b (same b e) h

pub runs_follow_none : {c : Call} {input out notes : List ℕ}
    → Observed c (codes "run" ∷ codes "a" ∷ []) input out notes → c.outcome.status ≡ 9 → ⊥
runs_follow_none {c} o e =
    let h = o.promise.following.only e in
    clash h.0 (sym (ap command_of o.words ∙ run_words) ∙ h.1)
  where
    clash : (b : ReplayRequest) → ◌≡◌ {A = Option Command} (Some (command.Run a_run)) (Some (command.Replay b))
        → ⊥
    clash b e = cc e
