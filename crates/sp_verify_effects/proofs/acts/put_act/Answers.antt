use Rattle.sp_verify_effects.proofs.ActLaws.{acts_marked, acts_same}
use Rattle.sp_verify_effects.proofs.acts.put_act.Goals as goal

pub returns-in-None-clause-before : goal.returns-in-None-clause-before
returns-in-None-clause-before c = acts_same c.args.g.now.code.now c.requires.known.kept c.args.p c.args.flags.now
    c.requires.before (λ a lies act. c.in-None.ensures a lies)

pub returns-then-acts-clause-before : goal.returns-then-acts-clause-before
returns-then-acts-clause-before c =
    let (a, only, at) = c.in-Some.ensures in
    acts_marked c.args.g.now.code.now c.requires.known.kept c.args.p c.args.flags.now c.requires.before
    c.mark.new.flags a c.in-Some.entry c.requires.size only at c.mark.ensures

pub returns-else-acts-clause-before : goal.returns-else-acts-clause-before
returns-else-acts-clause-before c = acts_same c.args.g.now.code.now c.requires.known.kept c.args.p c.args.flags.now
    c.requires.before (λ a lies act. c.acts.ensures c.if-acts.false a act)
