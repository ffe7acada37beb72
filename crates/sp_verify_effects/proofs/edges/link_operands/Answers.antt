use Rattle.std.proofs.Common.{◌<◌, length, subst, arith}
use Rattle.sp_verify_shapes.specs.Stacks.{list_of, shape_of}
use Rattle.sp_verify_effects.proofs.EdgeRows.{deeper_more, deeper_end, deeper_known, below_more, none_below}
use Rattle.sp_verify_effects.proofs.edges.link_operands.Goals as goal

pub returns-then-is_linked : goal.returns-then-is_linked
returns-then-is_linked c =
    let st = c.args.stacks.now in
    let l = c.args.layout.now in
    let j = c.loop-depth.depth in
    let links = c.loop-depth.invariant.2 in
    let inside : j < length l.formals = subst (λ n. j < n) c.len-depth-end.ensures c.loop-depth-test.true in
    deeper_known l c.args.to (list_of st c.args.stack) c.args.rows.now c.loop-depth.rows j (list_of st c.loop-depth.at)
    c.loop-depth.invariant.1
    (λ i s e at within edge. links.kept l.entry e (c.requires.linked c.loop-depth.at j
    (c.is_linked.ensures c.if-is_linked.true) i s e at within edge)) links (omega (arith, inside))

pub returns-in-None : goal.returns-in-None
returns-in-None c =
    let st = c.args.stacks.now in
    let ss = list_of st c.args.stack in
    let l = c.args.layout.now in
    let j = c.loop-depth.depth in
    let inside : j < length l.formals = subst (λ n. j < n) c.len-depth-end.ensures c.loop-depth-test.true in
    deeper_end l c.args.to ss c.args.rows.now c.loop-depth.rows j (length l.formals)
    (none_below ss (list_of st c.loop-depth.at) j c.in-None.ensures c.loop-depth.invariant.1) c.loop-depth.invariant.2
    (omega (arith, inside))

pub loop-depth-preserved : goal.loop-depth-preserved
loop-depth-preserved c =
    let st = c.args.stacks.now in
    let ss = list_of st c.args.stack in
    let l = c.args.layout.now in
    let j = c.loop-depth.depth in
    let s = shape_of c.in-Some.top.0 in
    let b = below_more ss (list_of st c.loop-depth.at)
    (list_of st c.in-Some.top.1) s j c.in-Some.ensures.0 c.loop-depth.invariant.1 in (
      c.in-Some.ensures.1,
      b.1,
      deeper_more l c.args.to ss c.args.rows.now c.loop-depth.rows c.link_deep.new.rows j s b.0
          c.loop-depth.invariant.2 c.in-Ok.ensures,
    )
