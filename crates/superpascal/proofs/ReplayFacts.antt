-- From what the steps of a replay give to the cause of its answer; and what follows of its text, its journal and its
-- input, as they are told.
use Rattle.std.proofs.Common.{◌≡◌, inl, inr, ℕ, ◌<◌, ◌≤◌, List, length, Option, Some, None, Result, Ok, Err, refl}
use Rattle.std.proofs.Common.{◌∙◌, ap, subst, sym, arith}
use Rattle.std.specs.Prelude.{IfSome}
use Rattle.sp_base.specs.declared.limits.Limits.{Limits}
use Rattle.sp_code.specs.declared.code.Parts.{Parts}
use Rattle.sp_execute.specs.Follows.{IsMeant as IsDefined, IsUnfitAt}
use Rattle.sp_execute.specs.Runs.{run_input}
use Rattle.sp_front.specs.Checks.{IsProgramOf}
use Rattle.sp_journal.specs.declared.entry.Journal.{Journal}
use Rattle.sp_journal.specs.declared.outcome.End.{End}
use Rattle.sp_journal.specs.declared.outcome.End.TheVariants as ends
use Rattle.sp_journal.specs.ReadAnswers.{IsText}
use Rattle.sp_journal.specs.Texts.{IsFirstBad}
use Rattle.sp_outside.specs.Counts.{Rose}
use Rattle.sp_replay.specs.declared.replayer.Replayed.{Replayed}
use Rattle.sp_tree.specs.Bare.{without_places}
use Rattle.sp_tree.specs.Plain.{Program}
use Rattle.sp_tree.specs.PlainChecked as c
use Rattle.sp_words.specs.declared.command.Command.TheVariants as command
use Rattle.sp_words.specs.declared.requests.View.{View}
use Rattle.sp_words.specs.declared.requests.ReplayRequest.{ReplayRequest}
use Rattle.superpascal.specs.declared.teller.Account.{Account}
use Rattle.superpascal.specs.declared.ending.Ending.{Ending}
use Rattle.superpascal.specs.declared.ending.Ending.TheVariants as e
use Rattle.superpascal.specs.declared.ending.Answer.{Answer}
use Rattle.superpascal.specs.AnswerParts.{HasCode, HasEndLines, ending_answer}
use Rattle.superpascal.specs.Answers.{notes_by}
use Rattle.superpascal.specs.Causes.{by_library, by_source, by_length, by_memory, by_replay, by_entry, by_line, by_size}
use Rattle.superpascal.specs.Causes.{Files, HasRead, IsKnownAs, IsUntouched, Stream}
use Rattle.superpascal.specs.ReplayPromise.{IsMeantAlong}
use Rattle.superpascal.specs.Replays.{IsJournalOf, IsReplayOf, IsUnfitFor, IsWritten, ending_of_replay, replay_answer}
use Rattle.superpascal.specs.Runs.{HasTree, Reports}
use Rattle.superpascal.specs.Steps.{AccountsFor, AnswersCommand, CommandCause, ReplaysTo, GivesInput, GivesJournal}
use Rattle.superpascal.specs.Steps.{HasInput, IsUnready}
use Rattle.superpascal.specs.Steps.{ReadsJournal, TellsReplay}
use Rattle.superpascal.specs.Texts.{CanRead, IsJournalText, IsAcceptedText}
use Rattle.superpascal.proofs.Laws.{Laws}
use Rattle.superpascal.proofs.Parts.{cause_of_text, keeps_code, text_unready, when_told}
use Rattle.superpascal.proofs.Tellable.{replay_ends}

-- ---- words

pub one_followed : (a b : ReplayRequest) → command.Replay b ≡ command.Replay a → b ≡ a
one_followed a b h = cc

pub not_generated : (b : ReplayRequest) (size workers : ℕ) → command.Replay b ≡ command.Gen size workers → ⊥
not_generated b size workers h = cc

-- ---- from the parts of the call

-- a count that rises later has risen from before
pub rose_before : (before middle after : ℕ) → before ≤ middle → Rose middle after → Rose before after
rose_before before middle after l (inl r) = inl (omega (arith, l, r))
rose_before before middle after l (inr r) = inr r

pub tree_keeps : (text : List ℕ) (tree : c.Program) → HasTree text tree → IsAcceptedText text
tree_keeps text tree h = (tree, h.accepted, h.short)

-- the journal of the bytes under a name
pub given_journal : (f : Files) (name bytes : List ℕ) → IsKnownAs (f.held name) bytes → length bytes ≤ 67108864
    → (r : Result Journal Ending) → ReadsJournal bytes r → GivesJournal f name r
given_journal f name bytes t short (Ok j) (v, is) =
    (bytes, t, record { version = v; text = is; short = short })
given_journal f name bytes t short (Err x) (inl (n, h, bad)) = inr (bytes, n, t, short, h, bad)
given_journal f name bytes t short (Err x) (inr h) = inl (inr (inr h))

-- of the library that was asked once before for the text
pub journal_under : (f g : Files) (name : List ℕ) → g.held name ≡ f.held name → f.before name ≤ g.before name
    → g.after name ≡ f.after name → (r : Result Journal Ending) → GivesJournal g name r → GivesJournal f name r
journal_under f g name held l i (Ok j) (bytes, t, is) = (bytes, subst (λ o. IsKnownAs o bytes) held t, is)
journal_under f g name held l i (Err x) (inl (inl h)) = inl
    (inl (h.0, subst (λ o. IfSome o (λ all. 67108864 < length all)) held h.1))
journal_under f g name held l i (Err x) (inl (inr (inl h))) = inl
    (inr (inl (h.0, rose_before (f.before name) (g.before name) (f.after name) l (subst (Rose (g.before name)) i h.1))))
journal_under f g name held l i (Err x) (inl (inr (inr h))) = inl (inr (inr h))
journal_under f g name held l i (Err x) (inr (bytes, n, t, short, h, bad)) = inr
    (bytes, n, subst (λ o. IsKnownAs o bytes) held t, short, h, bad)

module _ (f : Files) (s : Stream) (reports : Reports) (b : ReplayRequest) where
  abbrev Due_replay : Answer → Type 0
  Due_replay a = CommandCause f s reports (command.Replay b) a

  -- no code comes of the text
  pub replay_unready : IsUntouched s → (x : Ending) → IsUnready f b.file x → Due_replay (ending_answer x)
  replay_unready u x h = cause_of_text f s reports (command.Replay b) u (ending_answer x)
      (text_unready f (command.Replay b) b.file (refl, λ k. k) (λ text r k. k) x h)

  module _ (text : List ℕ) (t : IsKnownAs (f.held b.file) text) (tree : c.Program) (code : Parts)
      (has : HasCode text tree code) where
    kept_is : IfSome (f.held b.file) IsAcceptedText
    kept_is = when_told IsAcceptedText (f.held b.file) text t (keeps_code text tree code has)

    -- no journal is read
    pub replay_unread : IsUntouched s → (x : Ending) → GivesJournal f b.journal (Err x) → Due_replay (ending_answer x)
    replay_unread u x (inl (inl h)) = (
      by_size b refl (record { kept = kept_is; long = h.1; answer = ap ending_answer h.0 }),
      inl u,
    )
    replay_unread u x (inl (inr (inl h))) = (
      by_library
          (record {
            name = b.journal;
            loads = inr (b, refl, refl, kept_is);
            rose = h.1;
            answer = ap ending_answer h.0;
          }),
      inl u,
    )
    replay_unread u x (inl (inr (inr h))) = (by_memory (ap ending_answer h), inl u)
    replay_unread u x (inr (bytes, n, told, short, h, bad)) = (
      by_line b n refl (record {
        kept = kept_is;
        short = when_told (λ y. length y ≤ 67108864) (f.held b.journal) bytes told short;
        bad = when_told (IsFirstBad n) (f.held b.journal) bytes told bad.0;
        no_text = when_told (λ y. IsText y → ⊥) (f.held b.journal) bytes told bad.1;
        answer = ap ending_answer h;
      }),
      inl u,
    )

    module _ (bytes : List ℕ) (told : IsKnownAs (f.held b.journal) bytes) (j : Journal) (is : IsJournalOf bytes j) where
      may_read : CanRead f.held (command.Replay b)
      may_read = (kept_is, when_told IsJournalText (f.held b.journal) bytes told ((is.version, j, is.text), is.short))

      -- memory was wanting for the run, or for what is told of it
      pub replay_wanting : (x : Ending) → x ≡ e.OutOfMemory → Due_replay (ending_answer x)
      replay_wanting x h = (by_memory (ap ending_answer h), inr may_read)

      -- the input is not read
      pub replay_no_input : (x : Ending) → GivesInput s (Err x) → Due_replay (ending_answer x)
      replay_no_input x (inl h) =
          (by_source (record { reads = may_read; rose = h.1; answer = ap ending_answer h.0 }), inr may_read)
      replay_no_input x (inr (inl h)) =
          (by_length (record { reads = may_read; long = h.1; answer = ap ending_answer h.0 }), inr may_read)
      replay_no_input x (inr (inr h)) = replay_wanting x h

      module _ (input : List ℕ) (i : HasInput s input) where
        abbrev has_read : HasRead f s b
        has_read = record {
          text = text;
          bytes = bytes;
          journal = j;
          input = input;
          loaded = t;
          told = told;
          is_journal = is;
          read = i.read;
          fits = i.fits;
          at_end = i.at_end;
        }

        -- an entry does not fit
        pub replay_unfit : (x : Ending) → ReplaysTo text input b.limits j (Err x) → Due_replay (ending_answer x)
        replay_unfit x (inl (n, h, m)) = (
          by_entry b n refl (record { has_read = has_read; is_unfit = m; answer = ap ending_answer h }),
          inr
              may_read,
        )
        replay_unfit x (inr h) = replay_wanting x h

        pub replay_told : (account : Account) → AccountsFor b.view text input b.limits j (Ok account)
            → (r : Result Answer Ending) → TellsReplay account r → AnswersCommand f s reports (command.Replay b) r
        replay_told account (replayed, m, same, written) (Ok a) k = (
          by_replay b refl (record {
            has_read = has_read;
            replayed = replayed;
            is_replay = m;
            out = account.text;
            written = written;
            answer = k ∙ ap (λ (end : Option End). replay_answer end account.text) same;
          }),
          inr may_read,
        )
        replay_told account m (Err x) k = replay_wanting x k

-- ---- what stands for what

pub told_of : (o : Option (List ℕ)) (all text : List ℕ) → o ≡ Some text → IsKnownAs o all → all ≡ text
told_of o all text h t = subst (λ x. IsKnownAs x all) h t

pub if_told : (P : List ℕ → Type 0) (o : Option (List ℕ)) (text : List ℕ) → o ≡ Some text → IfSome o P → P text
if_told P o text h k = subst (λ x. IfSome x P) h k

-- the notes of a replay stand as they are
pub replay_notes_stand : (o : Option End) (notes : List ℕ) → HasEndLines o → notes_by (ending_of_replay o) notes ≡ notes
replay_notes_stand None notes h = refl
replay_notes_stand (Some ends.Done) notes h = refl
replay_notes_stand (Some (ends.Deadlock ws)) notes h = refl
replay_notes_stand (Some (ends.Fault n y)) notes h = refl
replay_notes_stand (Some ends.Memory) notes h = absurd h

-- the end of a journal that was followed has lines
pub account_ends : (v : View) (text input : List ℕ) (limits : Limits) (j : Journal) (account : Account)
    → AccountsFor v text input limits j (Ok account) → HasEndLines account.end
account_ends v text input limits j account (r, m, same, written) =
    subst HasEndLines (sym same) (replay_ends text input limits j r m)

module _ (l : Laws) (text input : List ℕ) (limits : Limits) (j : Journal) where
  -- the program of a text is that of its code
  same_program : (p : Program) → IsProgramOf text p → (tree : c.Program) → HasTree text tree → without_places tree ≡ p
  same_program p (q, is, e) tree has = ap without_places (l.tree text tree q has.accepted.0 is) ∙ e

  pub meant_defined : (p : Program) → IsProgramOf text p → (r : Replayed) → IsReplayOf text input limits j r
      → IsDefined (run_input p input limits) j.entries
  meant_defined p is r h = subst (λ (q : Program). IsDefined (run_input q input limits) j.entries)
      (same_program p is h.tree h.has) (h.meant.steps, h.meant.state, h.meant.along)

  pub unfit_there : (p : Program) → IsProgramOf text p → (n : ℕ) → IsUnfitFor text input limits j n
      → IsUnfitAt (run_input p input limits) j.entries n
  unfit_there p is n h = subst (λ (q : Program). IsUnfitAt (run_input q input limits) j.entries n)
      (same_program p is h.tree h.has) h.unfit

module _ (f : Files) (s : Stream) (b : ReplayRequest) (l : Laws) (h : HasRead f s b) (text bytes input : List ℕ)
    (t : f.held b.file ≡ Some text) (u : f.held b.journal ≡ Some bytes) (i : s.left ≡ Some input) where
  same_text : h.text ≡ text
  same_text = told_of (f.held b.file) h.text text t h.loaded

  same_bytes : h.bytes ≡ bytes
  same_bytes = told_of (f.held b.journal) h.bytes bytes u h.told

  same_input : h.input ≡ input
  same_input = told_of s.left h.input input i h.read

  pub journal_is : IsJournalOf bytes h.journal
  journal_is = subst (λ x. IsJournalOf x h.journal) same_bytes h.is_journal

  pub same_journal : (j : Journal) → IsJournalOf bytes j → h.journal ≡ j
  same_journal j is = l.journal journal_is.version is.version h.journal j bytes journal_is.text is.text

  pub replay_is : (r : Replayed) → IsReplayOf h.text h.input b.limits h.journal r
      → IsReplayOf text input b.limits h.journal r
  replay_is r m = subst (λ x. IsReplayOf x input b.limits h.journal r) same_text
      (subst (λ x. IsReplayOf h.text x b.limits h.journal r) same_input m)

  pub unfit_is : (n : ℕ) → IsUnfitFor h.text h.input b.limits h.journal n → IsUnfitFor text input b.limits h.journal n
  unfit_is n m = subst (λ x. IsUnfitFor x input b.limits h.journal n) same_text
      (subst (λ x. IsUnfitFor h.text x b.limits h.journal n) same_input m)

  pub written_is : (r : Replayed) (out : List ℕ) → IsWritten b.view h.text h.input b.limits h.journal r out
      → IsWritten b.view text input b.limits h.journal r out
  written_is r out m = subst (λ x. IsWritten b.view x input b.limits h.journal r out) same_text
      (subst (λ x. IsWritten b.view h.text x b.limits h.journal r out) same_input m)

  pub meant_along : (r : Replayed) → IsReplayOf h.text h.input b.limits h.journal r → IsMeantAlong b text bytes input r
  meant_along r m = let n = replay_is r m in
      record {
        journal = h.journal;
        is_journal = journal_is;
        program = without_places n.tree;
        is_program =
            (n.tree, n.has.accepted.0, refl);
        followed = n.meant;
      }

  -- a journal along which the meaning is defined was followed; one that was followed has no entry that is unfit
  module _ (p : Program) (is : IsProgramOf text p) (j : Journal) (of : IsJournalOf bytes j) where
    pub not_unfit : (n : ℕ) → IsUnfitFor h.text h.input b.limits h.journal n
        → IsDefined (run_input p input b.limits) j.entries → ⊥
    not_unfit n m d =
        l.unfit_or (run_input p input b.limits) j.entries n d
        (subst (λ (x : Journal). IsUnfitAt (run_input p input b.limits) x.entries n) (same_journal j of)
        (unfit_there l text input b.limits h.journal p is n (unfit_is n m)))

    pub not_followed : (n : ℕ) (r : Replayed) → IsReplayOf h.text h.input b.limits h.journal r
        → IsUnfitAt (run_input p input b.limits) j.entries n → ⊥
    not_followed n r m d =
        l.unfit_or (run_input p input b.limits) j.entries n
        (subst (λ (x : Journal). IsDefined (run_input p input b.limits) x.entries) (same_journal j of)
        (meant_defined l text input b.limits h.journal p is r (replay_is r m))) d

    pub same_entry : (m n : ℕ) → IsUnfitFor h.text h.input b.limits h.journal m
        → IsUnfitAt (run_input p input b.limits) j.entries n → m ≡ n
    same_entry m n x y =
        l.unfit (run_input p input b.limits) j.entries m n
        (subst (λ (z : Journal). IsUnfitAt (run_input p input b.limits) z.entries m) (same_journal j of)
        (unfit_there l text input b.limits h.journal p is m (unfit_is m x))) y
