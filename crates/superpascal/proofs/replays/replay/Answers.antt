use Rattle.std.proofs.Common.{Ok, Err, refl}
use Rattle.std.proofs.lemmas.Result.{err_from_is_err_and}
use Rattle.sp_words.specs.declared.command.Command.TheVariants as command
use Rattle.superpascal.specs.Causes.{Files, files_of}
use Rattle.superpascal.specs.Steps.{AnswersCommand}
use Rattle.superpascal.proofs.Parts.{at_exit}
use Rattle.superpascal.proofs.ReplayFacts.{account_ends, journal_under, replay_no_input, replay_told, replay_unfit}
use Rattle.superpascal.proofs.ReplayFacts.{replay_unread, replay_unready}
use Rattle.superpascal.proofs.replays.replay.Goals as goal

pub account-requires-clause-code : goal.account-requires-clause-code
account-requires-clause-code g c =
    let (text, _, tree, has_code, _) = c.in_ok-ready.ensures.ready in
    (text, tree, has_code)

pub account-requires-clause-nameable : goal.account-requires-clause-nameable
account-requires-clause-nameable g c = c.in_ok-journal.ensures.2.text.nameable

pub tell_replay-requires : goal.tell_replay-requires
tell_replay-requires g c =
    let (text, _, tree, has_code, has_teller) = c.in_ok-ready.ensures.ready in
    record {
      lines = account_ends c.args.asked.now.view _ _ _ _ c.in_ok-account.account
          (c.in_ok-account.ensures text tree c.args.asked.now.view has_code has_teller);
    }

pub returns-in_err-ready : goal.returns-in_err-ready
returns-in_err-ready g c = λ reports.
    at_exit (AnswersCommand _ _ reports (command.Replay c.args.asked.now)) c.from_residual.result _
    (err_from_is_err_and c.from_residual.result c.from_residual.ensures.1)
    (replay_unready _ _ reports c.args.asked.now (refl, refl) _ c.in_err-ready.ensures.ready)

pub returns-in_err-journal : goal.returns-in_err-journal
returns-in_err-journal g c = λ reports.
    let (text, known, tree, has_code, has_teller) = c.in_ok-ready.ensures.ready in
    let name = c.args.asked.now.journal in
    let f : Files = files_of g.L.Library.held g.L.Library.faults c.args.library.now c.prepare_journal.new.library in
    let after : Files = files_of g.L.Library.held g.L.Library.faults c.ready.new.library
    c.prepare_journal.new.library in
    let r = c.from_residual-in_err-journal.result in
    at_exit (AnswersCommand _ _ reports (command.Replay c.args.asked.now)) r _
    (err_from_is_err_and r c.from_residual-in_err-journal.ensures.1)
    (replay_unread _ _ reports c.args.asked.now text known tree c.in_ok-ready.ready.code has_code (refl, refl) _
    (journal_under f after name (c.in_ok-ready.ensures.unchanged name) (c.in_ok-ready.ensures.counted name) refl (Err _)
    c.in_err-journal.ensures))

pub returns-in_err-input : goal.returns-in_err-input
returns-in_err-input g c = λ reports.
    let (text, known, tree, has_code, has_teller) = c.in_ok-ready.ensures.ready in
    let name = c.args.asked.now.journal in
    let f : Files = files_of g.L.Library.held g.L.Library.faults c.args.library.now c.prepare_journal.new.library in
    let after : Files = files_of g.L.Library.held g.L.Library.faults c.ready.new.library
    c.prepare_journal.new.library in
    let j = journal_under f after name (c.in_ok-ready.ensures.unchanged name) (c.in_ok-ready.ensures.counted name) refl
    (Ok c.in_ok-journal.journal) c.in_ok-journal.ensures in
    let r = c.from_residual-in_err-input.result in
    at_exit (AnswersCommand _ _ reports (command.Replay c.args.asked.now)) r _
    (err_from_is_err_and r c.from_residual-in_err-input.ensures.1)
    (replay_no_input _ _ reports c.args.asked.now text known tree c.in_ok-ready.ready.code has_code j.0 j.1
    c.in_ok-journal.journal j.2 _ c.in_err-input.ensures)

pub returns-in_err-account : goal.returns-in_err-account
returns-in_err-account g c = λ reports.
    let (text, known, tree, has_code, has_teller) = c.in_ok-ready.ensures.ready in
    let name = c.args.asked.now.journal in
    let f : Files = files_of g.L.Library.held g.L.Library.faults c.args.library.now c.prepare_journal.new.library in
    let after : Files = files_of g.L.Library.held g.L.Library.faults c.ready.new.library
    c.prepare_journal.new.library in
    let j = journal_under f after name (c.in_ok-ready.ensures.unchanged name) (c.in_ok-ready.ensures.counted name) refl
    (Ok c.in_ok-journal.journal) c.in_ok-journal.ensures in
    let r = c.from_residual-in_err-account.result in
    at_exit (AnswersCommand _ _ reports (command.Replay c.args.asked.now)) r _
    (err_from_is_err_and r c.from_residual-in_err-account.ensures.1)
    (replay_unfit _ _ reports c.args.asked.now text known tree c.in_ok-ready.ready.code has_code j.0 j.1
    c.in_ok-journal.journal j.2 c.in_ok-input.input c.in_ok-input.ensures _
    (c.in_err-account.ensures text tree c.args.asked.now.view has_code has_teller))

pub returns : goal.returns
returns g c = λ reports.
    let (text, known, tree, has_code, has_teller) = c.in_ok-ready.ensures.ready in
    let name = c.args.asked.now.journal in
    let f : Files = files_of g.L.Library.held g.L.Library.faults c.args.library.now c.prepare_journal.new.library in
    let after : Files = files_of g.L.Library.held g.L.Library.faults c.ready.new.library
    c.prepare_journal.new.library in
    let j = journal_under f after name (c.in_ok-ready.ensures.unchanged name) (c.in_ok-ready.ensures.counted name) refl
    (Ok c.in_ok-journal.journal) c.in_ok-journal.ensures in
    replay_told _ _ reports c.args.asked.now text known tree c.in_ok-ready.ready.code has_code j.0 j.1
    c.in_ok-journal.journal j.2 c.in_ok-input.input c.in_ok-input.ensures c.in_ok-account.account
    (c.in_ok-account.ensures text tree c.args.asked.now.view has_code has_teller) c.tell_replay.result
    c.tell_replay.ensures
