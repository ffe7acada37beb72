use Rattle.std.proofs.Common.{sym, ◌∙◌}
use Rattle.sp_verify_effects.proofs.Rows.{no_rows, rows_more, rows_end}
use Rattle.sp_verify_effects.proofs.effects.rows_of.Goals as goal

pub loop-i-init : goal.loop-i-init
loop-i-init c = no_rows c.args.facts.now c.args.count c.in-Ok.value c.in-Ok.ensures.0 c.in-Ok.ensures.1

pub returns-in-None : goal.returns-in-None
returns-in-None c = rows_end c.args.facts.now c.loop-i.i c.args.count c.loop-i.rows (sym c.at.ensures
    ∙ c.in-None.is) c.loop-i.invariant

pub loop-i-preserved : goal.loop-i-preserved
loop-i-preserved c = rows_more c.args.facts.now c.loop-i.i c.args.count c.in-Some.fact c.loop-i.rows c.write.new.rows
    (sym c.at.ensures ∙ c.in-Some.is) c.loop-i.invariant c.in-Ok-write.ensures
