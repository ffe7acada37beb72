use Rattle.std.proofs.Common.{rules, ◌≡◌, ◌<◌, ◌^◌, arith, subst}
use Rattle.sp_varsets.specs.Paths.{Visited}
use Rattle.sp_varsets.proofs.Paths.{visited_more, visited_rest}
use Rattle.sp_varsets.proofs.closure.visit.Goals as goal

pub called-preserved : goal.called-preserved
called-preserved c =
    let n = c.in-Some.ensures in
    let fits : c.in-Some.f < 2 ^ 32 = search rules in (
      omega arith,
      visited_more c.args.rows.now c.called.rows c.carry.new.rows c.args.b c.args.calls.now c.args.hidden.now
          c.called.from c.in-Some.f c.called.changed c.in_ok-changed.field-0 c.called.invariant.1
          c.in_ok-changed.ensures
          n.1
          n.0 n.2,
    )

pub returns : goal.returns
returns c =
    let high = c.called.invariant.0 in
    let low = c.called-test.false in
    let e : c.called.from ≡ 4294967296 = omega arith in
    subst (λ n. Visited c.args.rows.now c.called.rows c.args.b c.args.calls.now c.args.hidden.now n c.called.changed) e
    c.called.invariant.1

pub returns-in-None : goal.returns-in-None
returns-in-None c = visited_rest c.args.rows.now c.called.rows c.args.b c.args.calls.now c.args.hidden.now c.called.from
    4294967296 c.called.changed c.called.invariant.1 c.in-None.ensures
