use Rattle.std.proofs.Common.{◌∙◌, sym, ap, arith}
use Rattle.std.specs.Option.{option_or}
use Rattle.sp_code.specs.Memory.{last_frames}
use Rattle.sp_code.specs.System.{spot_from}
use Rattle.sp_machine.specs.Frames.{frame_of}
use Rattle.sp_machine.specs.Seen.{under}
use Rattle.sp_machine.proofs.Noting.{frame_more}
use Rattle.sp_machine.proofs.seen.seen_by.Goals as goal

pub loop-left-preserved : goal.loop-left-preserved
loop-left-preserved c = record {
  within = rw c.smaller-next.ensures (omega (arith, c.loop-left.invariant.within));
  same = λ x.
      ap (λ n. option_or (under c.note_frame.new.seen x)
      (spot_from c.args.code.now.layouts n (last_frames n c.args.frames.now) x)) c.smaller-next.ensures
      ∙ sym (frame_more c.args.code.now.layouts c.args.frames.now c.loop-left.seen c.note_frame.new.seen
      c.loop-left.left (frame_of c.at-frame.result.now) c.loop-left-test.true c.loop-left.invariant.within
      c.at-frame.ensures (c.in-Ok.ensures c.if-not-whole.false) x) ∙ c.loop-left.invariant.same x;
}
