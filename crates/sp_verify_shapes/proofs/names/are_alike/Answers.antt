use Rattle.std.proofs.Common.{◌≡◌, ◌-◌, sym, ◌∙◌, subst, arith, zero}
use Rattle.sp_verify_shapes.specs.Names.{AreLike}
use Rattle.sp_verify_shapes.specs.Stacks.{list_of}
use Rattle.sp_verify_shapes.proofs.AlikeLists.{alike_cells, like_kinds}
use Rattle.sp_verify_shapes.proofs.names.are_alike.Goals as goal

pub returns-then-c-eq1 : goal.returns-then-c-eq1
returns-then-c-eq1 c = λ _.
    let st = c.args.stacks.now in
    let x = c.in-Some.c in
    let y = c.in-Some-cell.d in
    let some = c.if-c-eq0.false in
    let one = c.if-c-eq1.true in
    let none : zero ≡ x.jump.far - 1 = omega (arith, one) in
    alike_cells st c.args.one c.args.other x y c.requires.stacks c.in-Some.ensures c.in-Some-cell.ensures c.if-c-d.false
    (like_kinds x.shape y.shape c.kind_of.ensures.small c.kind_of-in-Some-cell.ensures.small
    (sym c.kind_of.ensures.kind ∙ c.if-kind_of.false ∙ c.kind_of-in-Some-cell.ensures.kind))
    (omega (arith, some))
    (subst (λ k. AreLike k (list_of st x.below) (list_of st y.below)) none tt)

pub returns-else-c-eq1 : goal.returns-else-c-eq1
returns-else-c-eq1 c = λ e.
    let x = c.in-Some.c in
    let y = c.in-Some-cell.d in
    let some = c.if-c-eq0.false in
    alike_cells c.args.stacks.now c.args.one c.args.other x y c.requires.stacks c.in-Some.ensures
    c.in-Some-cell.ensures c.if-c-d.false
    (like_kinds x.shape y.shape c.kind_of.ensures.small c.kind_of-in-Some-cell.ensures.small
    (sym c.kind_of.ensures.kind ∙ c.if-kind_of.false ∙ c.kind_of-in-Some-cell.ensures.kind))
    (omega (arith, some)) (c.are_alike_below.ensures e)
