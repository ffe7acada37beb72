use Rattle.sp_front.proofs.Existence.{answered, program}
use Rattle.sp_front.proofs.law.some_answer.Goals as goal

pub returns-clause-either : goal.returns-clause-either
returns-clause-either c = answered c.args.text.now c.some_verdict.ensures c.first_breach-found.result
    c.first_breach-found.ensures

pub returns-clause-kept : goal.returns-clause-kept
returns-clause-kept c = program c.args.text.now
    (answered c.args.text.now c.some_verdict.ensures c.first_breach-found.result c.first_breach-found.ensures)
