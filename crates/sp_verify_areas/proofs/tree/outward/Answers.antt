use Rattle.std.proofs.Common.{◌≡◌, length, sym, arith}
use Rattle.sp_base.proofs.Facts.{item_is_not_none}
use Rattle.sp_verify_areas.specs.Tree.{IsJump}
use Rattle.sp_verify_areas.proofs.Outward.{drop_along, found_here, found_none}
use Rattle.sp_verify_areas.proofs.tree.outward.Goals as goal

pub levels-preserved : goal.levels-preserved
levels-preserved c = λ ls lists are l.
    let i = c.levels.invariant ls lists are l in
    let j = c.in-Some-step.j in
    let size = length c.args.tree.now in
    let n = c.in-Some.n.now in
    let k : IsJump lists size (lists c.levels.at) j = c.in-Some-step.ensures.jump ls lists size (lists c.levels.at)
    (are c.levels.at n (sym c.in-Some.ensures)) in (
      k.within,
      drop_along lists size c.levels.left c.args.up (lists c.levels.at)
          (lists c.args.node) j i.1 c.in-Some-step.ensures.far.1 k,
    )

pub returns-in-None : goal.returns-in-None
returns-in-None c = λ ls lists are l. absurd
    (item_is_not_none c.args.tree.now c.levels.at (c.levels.invariant ls lists are l).0 (sym c.in-None.ensures))

pub returns-in-None-step : goal.returns-in-None-step
returns-in-None-step c = λ ls lists are l.
    let size = length c.args.tree.now in
    let n = c.in-Some.n.now in
    let hs = lists c.levels.at in
    let i = are c.levels.at n (sym c.in-Some.ensures) in
    found_none ls lists size hs (lists c.args.node) c.args.up c.levels.left n i
    (c.levels.invariant ls lists are l).1 c.levels-test.true (c.in-None-step.ensures.jump ls lists size hs i)

pub returns-in-None-get : goal.returns-in-None-get
returns-in-None-get c = λ ls lists are l. absurd
    (item_is_not_none c.args.tree.now c.levels.at (c.levels.invariant ls lists are l).0 (sym c.in-None-get.ensures))

pub returns-in-Some-get : goal.returns-in-Some-get
returns-in-Some-get c = λ ls lists are l.
    let n = c.in-Some-get.n.now in
    let z : c.levels.left ≡ 0 = omega arith in
    found_here ls lists (length c.args.tree.now) (lists c.levels.at) (lists c.args.node) c.args.up c.levels.left n
    (are c.levels.at n (sym c.in-Some-get.ensures)) (c.levels.invariant ls lists are l).1 z
