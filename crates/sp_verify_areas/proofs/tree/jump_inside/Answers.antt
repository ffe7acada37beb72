use Rattle.std.proofs.Common.{length, refl}
use Rattle.sp_verify_areas.proofs.Outward.{two_jumps}
use Rattle.sp_verify_areas.proofs.tree.jump_inside.Goals as goal

pub returns-then-near-lt1000000000 : goal.returns-then-near-lt1000000000
returns-then-near-lt1000000000 c = λ ls lists h are l.
    let near = c.jump_at-near.ensures ls lists are l in
    let next = c.jump_at-next.ensures ls lists are near.within in
    two_jumps lists (length c.args.tree.now) h
    (lists c.args.around) c.jump_at-near.result c.jump_at-next.result _ near next refl refl
