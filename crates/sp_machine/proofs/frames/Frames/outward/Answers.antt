use Rattle.std.proofs.Common.{◌+◌, ◌-◌, ◌∙◌, sym, ap, arith}
use Rattle.sp_code.specs.Memory.{last_frames, frames_up}
use Rattle.sp_machine.specs.Frames.{frame_of}
use Rattle.sp_machine.proofs.FrameLists.{up_more}
use Rattle.sp_machine.proofs.frames.Frames.outward.Goals as goal

pub loop-preserved : goal.loop-preserved
loop-preserved c = record {
  same = c.loop.invariant.same ∙ up_more c.args.self.now c.args.up c.loop.counter c.loop.count
      (frame_of c.at.result.now) c.loop-test.true c.if-count-eq0.false c.loop.invariant.within c.at.ensures
      ∙ ap (λ n. frames_up (c.args.up - (c.loop.counter + 1)) (last_frames n c.args.self.now))
      (sym c.smaller-next.ensures);
  within = rw c.smaller-next.ensures (omega (arith, c.loop.invariant.within));
}
