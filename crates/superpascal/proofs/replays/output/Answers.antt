use Rattle.std.proofs.Common.{Ok, Err, refl}
use Rattle.std.proofs.lemmas.Result.{err_from_is_err_and}
use Rattle.sp_words.specs.declared.requests.View.TheVariants as view
use Rattle.superpascal.specs.Steps.{AccountsFor}
use Rattle.superpascal.proofs.Parts.{at_exit}
use Rattle.superpascal.proofs.RunFacts.{follows_text, ready_held}
use Rattle.superpascal.proofs.replays.output.Goals as goal

pub follow-requires-clause-program : goal.follow-requires-clause-program
follow-requires-clause-program c =
    ready_held c.accepted_programs_are_ready.ensures c.args.code.value c.args.input.value 1 c.args.limits.now
    c.requires.range c.args.code.value c.args.input.value refl refl c.requires.code

pub returns-in_err-replayed : goal.returns-in_err-replayed
returns-in_err-replayed c = λ program tree has.
    at_exit (AccountsFor view.Output program c.args.input.value c.args.limits.now c.args.journal.now)
    c.from_residual.result _ (err_from_is_err_and c.from_residual.result c.from_residual.ensures.1)
    (follows_text c.accepted_programs_are_ready.ensures c.args.code.value c.args.input.value 1 c.args.limits.now
    c.requires.range c.args.code.value c.args.input.value refl refl
    c.args.journal.now (Err _) c.in_err-replayed.ensures program tree has)

pub returns : goal.returns
returns c = λ program tree has. (
  c.in_ok-replayed.replayed,
  follows_text c.accepted_programs_are_ready.ensures c.args.code.value c.args.input.value 1 c.args.limits.now
      c.requires.range c.args.code.value c.args.input.value refl refl
      c.args.journal.now (Ok c.in_ok-replayed.replayed) c.in_ok-replayed.ensures program tree has,
  refl,
  refl,
)
