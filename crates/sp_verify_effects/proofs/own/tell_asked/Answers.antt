use Rattle.std.proofs.Common.{sym, ◌∙◌}
use Rattle.sp_verify_effects.proofs.Owns.{none_asked}
use Rattle.sp_verify_effects.proofs.own.tell_asked.Goals as goal

pub returns-else-has : goal.returns-else-has
returns-else-has c =
    let a = c.requires.lies in
    none_asked c.args.g.now.code.now c.args.p a.0 c.args.area a.1 a.2 c.args.asked.now c.args.facts.now
    (sym c.has.ensures ∙ c.if-has.false)
