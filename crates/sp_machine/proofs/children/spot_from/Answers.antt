use Rattle.std.proofs.Common.{◌≡◌, None, arith, ap, sym, ◌∙◌}
use Rattle.sp_code.specs.Memory.{last_frames}
use Rattle.sp_code.specs.System.{spot_in, spot_from}
use Rattle.sp_machine.specs.Frames.{frame_of, home_of}
use Rattle.sp_machine.proofs.VariablePlaces.{spot_on, nothing_found}
use Rattle.sp_machine.proofs.children.spot_from.Goals as goal

pub loop-count-preserved : goal.loop-count-preserved
loop-count-preserved c =
    let none : spot_in c.args.code.now.layouts (frame_of c.at-frame.result.now) (home_of c.at-frame.result.now.home)
    c.args.variable ≡ None = sym c.in-Ok.ensures ∙ nothing_found c.in-Ok.value c.in_default.not-Some in
    let step = spot_on c.args.code.now.layouts c.args.frames.now c.loop-count.count c.args.variable
    (frame_of c.at-frame.result.now) c.loop-count-test.true c.loop-count.invariant.within c.at-frame.ensures none in
    record {
      within = rw c.smaller-next.ensures (omega (arith, c.loop-count.invariant.within));
      same = c.loop-count.invariant.same ∙ step
          ∙ ap (λ n. spot_from c.args.code.now.layouts n (last_frames n c.args.frames.now) c.args.variable)
          (sym c.smaller-next.ensures);
    }
