use Rattle.std.proofs.Common.{◌∙◌, ◌≤◌, sym, ap, arith, length}
use Rattle.std.proofs.lemmas.Grind.{common_steps}
use Rattle.std.proofs.Math.Seq.{set_out}
use Rattle.sp_types.proofs.tables.with_type.Goals as goal

pub returns-else-x-len : goal.returns-else-x-len
returns-else-x-len c =
    let e = ap length c.into_vec-variables.ensures in
    let h : length c.args.variables ≤ c.args.x = first_of (omega (arith, e), grind (arith, common_steps, e)) in
    c.of-else-x-len.ensures ∙ c.into_vec-variables.ensures ∙ sym (set_out c.args.variables c.args.x c.args.k h)
