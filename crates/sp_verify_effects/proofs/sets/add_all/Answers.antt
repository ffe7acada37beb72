use Rattle.std.proofs.Common.{◌≡◌, ◌&&◌, Bool, true, false, refl, arith}
use Rattle.std.proofs.lemmas.Grind.{common_steps}
use Rattle.sp_verify_effects.proofs.sets.add_all.Goals as goal

again : (a b d : Bool) → ((a && b) && d) ≡ (a && (b && d))
again true b d = refl
again false b d = refl

pub loop-x-preserved : goal.loop-x-preserved
loop-x-preserved c = (grind (arith, common_steps, again), grind (arith, common_steps))
