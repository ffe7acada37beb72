use Rattle.std.proofs.Common.{◌≡◌, ◌⊎◌, length, refl, subst, arith}
use Rattle.std.proofs.lemmas.Option.{slice_get_read}
use Rattle.sp_verify_rules.specs.Areas.{homes}
use Rattle.sp_verify_areas.specs.LeastPlaces.{IsLeast, Upto}
use Rattle.sp_verify_areas.specs.Unknown.{ChildUnknown, UnknownBy}
use Rattle.sp_verify_areas.proofs.KnownVariables.{children_more, children_none}
use Rattle.sp_verify_areas.proofs.unknown.after_children.Goals as goal

pub loop-child-init : goal.loop-child-init
loop-child-init c = λ a l.
    let code = c.args.code.now in
    children_none (Upto (UnknownBy code) c.args.q) code.layouts
    (homes code a) c.args.children.now c.args.before c.requires.before

pub loop-child-preserved : goal.loop-child-preserved
loop-child-preserved c = λ a l.
    let code = c.args.code.now in
    let ts = c.args.children.now in
    let n = c.loop-child.child-index in
    let ch = c.child-item.result in
    let g = slice_get_read ts (length ts) n ch refl c.loop-child-test.true c.child-item.is in
    children_more (Upto (UnknownBy code) c.args.q) code.layouts
    (homes code a) ts c.loop-child.first c.after_child-first.result n ch g (c.loop-child.invariant a l)
    (c.after_child-first.ensures a l)

pub returns : goal.returns
returns c = λ a l.
    let code = c.args.code.now in
    let ts = c.args.children.now in
    let e : c.loop-child.child-index ≡ length ts = omega arith in
    subst (λ n. IsLeast (λ p. Upto (UnknownBy code) c.args.q p
    ⊎ Upto (ChildUnknown code.layouts (homes code a) ts) n p) c.loop-child.first) e (c.loop-child.invariant a l)
