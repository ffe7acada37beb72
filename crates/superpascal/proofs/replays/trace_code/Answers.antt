use Rattle.std.proofs.Common.{Ok, Err, refl}
use Rattle.std.proofs.lemmas.Result.{err_from_is_err_and}
use Rattle.superpascal.specs.Steps.{TracesTo}
use Rattle.superpascal.proofs.Parts.{at_exit}
use Rattle.superpascal.proofs.RunFacts.{follows_text, ready_code, ready_held}
use Rattle.superpascal.proofs.replays.trace_code.Goals as goal

pub follow_told-requires-clause-program : goal.follow_told-requires-clause-program
follow_told-requires-clause-program c =
    ready_held c.accepted_programs_are_ready.ensures c.args.code.value c.args.input.value 1 c.args.limits.now
    c.requires.range c.args.code.value c.args.input.value refl refl c.requires.code

pub returns-in_err-traced : goal.returns-in_err-traced
returns-in_err-traced c = λ program tree has.
    at_exit (λ r. TracesTo program tree c.args.code.value c.args.input.value c.args.limits.now c.args.journal.now r)
    c.from_residual.result _ (err_from_is_err_and c.from_residual.result c.from_residual.ensures.1)
    (follows_text c.accepted_programs_are_ready.ensures c.args.code.value c.args.input.value 1 c.args.limits.now
    c.requires.range c.args.code.value c.args.input.value refl refl
    c.args.journal.now (Err _) c.in_err-traced.ensures.follows program tree has)

pub returns : goal.returns
returns c = λ program tree has. (
  follows_text c.accepted_programs_are_ready.ensures c.args.code.value c.args.input.value 1 c.args.limits.now
      c.requires.range c.args.code.value c.args.input.value refl refl
      c.args.journal.now (Ok c.in_ok-traced.traced.replayed) c.in_ok-traced.ensures.follows program tree has,
  c.in_ok-traced.ensures.traces,
  c.journals_are_told_in_the_text.ensures tree has.code.0.moves has.code.0.shares c.args.input.value c.args.limits.now
      c.args.code.value (ready_code c.accepted_programs_are_ready.ensures c.args.code.value c.args.input.value 1
      c.args.limits.now c.requires.range program tree has) _ c.in_ok-traced.traced c.in_ok-traced.ensures.traces,
  c.in_ok-traced.ensures.sound,
)
