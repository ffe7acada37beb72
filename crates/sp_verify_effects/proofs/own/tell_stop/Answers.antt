use Rattle.std.proofs.Common.{sym, ◌∙◌}
use Rattle.sp_verify_effects.proofs.Owns.{stop_told}
use Rattle.sp_verify_effects.proofs.own.tell_stop.Goals as goal

pub returns-in-Ok : goal.returns-in-Ok
returns-in-Ok c =
    stop_told c.args.asked.now c.args.facts.now c.tell_one.new.facts c.args.area c.args.instr
    (sym c.is_stop.ensures ∙ c.if-is_stop.true) c.in-Ok.ensures
