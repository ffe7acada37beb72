use Rattle.std.proofs.Common.{◌≡◌, ◌<◌, length, refl, sym, subst, arith}
use Rattle.std.proofs.lemmas.Option.{slice_get_read, same_Some}
use Rattle.sp_verify_areas.specs.Owners.{IsHanded, IsOwner, IsTrueOf, Propagates}
use Rattle.sp_verify_areas.proofs.OwnerSteps.{handed_more, some_of_child}
use Rattle.sp_verify_areas.proofs.owners.visit_children.Goals as goal

pub hand-changed-requires-clause-just : goal.hand-changed-requires-clause-just
hand-changed-requires-clause-just c = c.loop-k.invariant.just

pub hand-changed-requires-clause-some : goal.hand-changed-requires-clause-some
hand-changed-requires-clause-some c =
    subst IsOwner (sym c.of_child.ensures) (some_of_child c.loop-k.k c.args.o c.requires.some)

pub hand-changed-requires-clause-owner : goal.hand-changed-requires-clause-owner
hand-changed-requires-clause-owner c = λ q e l.
    let code = c.args.code.now in
    let ts = c.args.children.now in
    let ch = c.index-children-k.result in
    let s : ch.entry ≡ q = same_Some ch.entry q e in
    let g = slice_get_read ts (length ts) c.loop-k.k ch refl c.loop-k-test.true c.index-children-k.is in
    subst (λ z. IsTrueOf code z c.of_child.result) s
    (subst (IsTrueOf code ch.entry) (sym c.of_child.ensures)
    (c.requires.owner c.loop-k.k ch g (subst (λ z. z < length code.instrs) (sym s) l)))

pub loop-k-preserved : goal.loop-k-preserved
loop-k-preserved c =
    let ts = c.args.children.now in
    let ch = c.index-children-k.result in
    let g = slice_get_read ts (length ts) c.loop-k.k ch refl c.loop-k-test.true c.index-children-k.is in
    handed_more c.args.code.now c.args.owners.now c.loop-k.owners c.hand-changed.new.owners c.args.o c.of_child.result
    ts c.loop-k.k ch c.loop-k.changed c.hand-changed.result g c.of_child.ensures c.loop-k.invariant
    c.hand-changed.ensures

pub returns : goal.returns
returns c =
    let e : c.loop-k.k ≡ length c.args.children.now = omega arith in
    subst (λ n. Propagates c.args.code.now c.args.owners.now c.loop-k.owners
    (IsHanded c.args.code.now c.args.o c.args.children.now n) c.loop-k.changed) e c.loop-k.invariant
