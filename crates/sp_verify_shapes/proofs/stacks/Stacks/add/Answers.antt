use Rattle.std.proofs.Common.{refl, ap, ◌+◌}
use Rattle.sp_verify_shapes.proofs.ListNumbers.{stacks_grow, stacks_extend, stacks_same, list_more, taken_away}
use Rattle.sp_verify_shapes.proofs.stacks.Stacks.add.Goals as goal

are_stacks : goal.returns-in-Ok-insert-clause-stacks
are_stacks c =
    stacks_grow c.args.self.now (record { cells = c.push.new.self; known = c.insert.new.self })
    (record { shape = c.args.shape; below = c.args.below; jump = c.jump_over-jump.result }) c.args.key
    (c.len-n.result + 1) c.requires.stacks c.in-Ok.ensures.ok (ap (λ m. m + 1) c.len-n.ensures)
    c.if-n-gt4294967295.false c.requires.below c.requires.small
    c.jump_over-jump.ensures c.requires.key c.requires.new
    (λ q. c.in-Ok-insert.ensures.updates.0 q)

pub returns-in-Ok-insert-clause-stacks : goal.returns-in-Ok-insert-clause-stacks
returns-in-Ok-insert-clause-stacks c = are_stacks c

pub returns-in-Ok-insert-clause-extends : goal.returns-in-Ok-insert-clause-extends
returns-in-Ok-insert-clause-extends c =
    stacks_extend c.args.self.now (record { cells = c.push.new.self; known = c.insert.new.self })
    (record { shape = c.args.shape; below = c.args.below; jump = c.jump_over-jump.result }) c.requires.stacks
    c.in-Ok.ensures.ok

pub returns-in-Ok-insert-clause-pushed : goal.returns-in-Ok-insert-clause-pushed
returns-in-Ok-insert-clause-pushed c =
    list_more c.args.self.now (record { cells = c.push.new.self; known = c.insert.new.self })
    (record { shape = c.args.shape; below = c.args.below; jump = c.jump_over-jump.result }) (c.len-n.result + 1)
    c.requires.stacks (are_stacks c) c.in-Ok.ensures.ok (ap (λ m. m + 1) c.len-n.ensures) c.requires.below

pub returns-in-Err-clause-stacks : goal.returns-in-Err-clause-stacks
returns-in-Err-clause-stacks c =
    stacks_same c.args.self.now (record { cells = c.push.new.self; known = c.args.self.now.known }) c.requires.stacks
    c.in-Err.ensures.err refl

pub returns-in-Err-insert-clause-stacks : goal.returns-in-Err-insert-clause-stacks
returns-in-Err-insert-clause-stacks c =
    stacks_same c.args.self.now (record { cells = c.pop.new.self; known = c.insert.new.self }) c.requires.stacks
    (taken_away c.pop.result c.args.self.now.cells c.push.new.self c.pop.new.self
    (record { shape = c.args.shape; below = c.args.below; jump = c.jump_over-jump.result }) c.in-Ok.ensures.ok
    c.pop.ensures)
    c.in-Err-insert.ensures.err
