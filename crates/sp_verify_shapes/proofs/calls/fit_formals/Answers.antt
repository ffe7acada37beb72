use Rattle.std.proofs.Common.{◌+◌, ◌-◌, inl, refl, sym, ◌∙◌, arith, length, subst}
use Rattle.sp_verify_shapes.specs.Fits.{first_fit}
use Rattle.sp_verify_shapes.specs.Memos.{AddsFits}
use Rattle.sp_verify_shapes.specs.Stacks.{list_of}
use Rattle.sp_verify_shapes.proofs.Memos.{adds_fewer}
use Rattle.sp_verify_shapes.proofs.SeenJumps.{parts_all, parts_lower, passes_seen}
use Rattle.sp_verify_shapes.proofs.calls.fit_formals.Goals as goal

pub operands-init : goal.operands-init
operands-init c = (c.requires.there, omega arith, refl, (λ q i n e. inl e), (λ q i n e. inl e), c.requires.known.2)

pub operands-preserved-in-Some : goal.operands-preserved-in-Some
operands-preserved-in-Some c =
    let fs = c.args.formals.now in
    let st = c.args.stacks.now in
    let p = c.args.place in
    let k = c.operands.count in
    let j = c.in-Some.jump in
    let b = first_fit fs (length fs) (list_of st c.args.n) in
    let h = c.in-Some.ensures.seen in
    let i = c.operands.invariant in
    let within = i.1 in
    let some = h.some in
    let few = h.within in
    let to = passes_seen st fs p k c.operands.rest j b c.args.seen.now.parts c.operands.seen.parts within i.4
    c.requires.known.1 h in (
      to.held,
      omega (arith, within),
      sym to.same ∙ i.2,
      subst (λ m. AddsFits st fs p (k - j.far) b c.args.seen.now.wholes m) (sym c.in-Some.ensures.wholes)
          (adds_fewer st fs p (k - j.far) k b c.args.seen.now.wholes c.operands.seen.wholes (omega arith) i.3),
      parts_all st fs p (k - j.far + 1) k b c.args.seen.now.parts c.passes.new.self.parts (omega (arith, some, few))
          (parts_lower st fs p k c.operands.rest b c.args.seen.now.parts c.operands.seen.parts c.passes.new.self.parts
          i.2 i.4 c.in-Some.ensures.adds),
      c.in-Some.ensures.names,
    )
