use Rattle.std.proofs.Common.{◌≡◌, ◌+◌, ◌-◌, ◌<◌, reverse, length, ap, ◌∙◌, subst, arith}
use Rattle.sp_witness.specs.Passes.{HasFlags}
use Rattle.sp_witness.proofs.Backwards.{first_back, marks_back, this_mark}
use Rattle.sp_witness.proofs.marks.marks_of.Goals as goal

pub overflow_sub-first : goal.overflow_sub-first
overflow_sub-first c =
    let is : c.loop-at.at ≡ (c.loop-at.at - 1) + 1 = omega arith in
    let inside : c.loop-at.at - 1 < length c.args.front.now = omega arith in
    let f = first_back c.args.earlier c.args.last c.args.front.now c.loop-at.at (c.loop-at.at - 1) is inside
    c.loop-at.first c.children-first.result c.loop-at.invariant.first c.children-first.ensures.value in
    omega (arith, f)

pub pass-requires-clause-first : goal.pass-requires-clause-first
pass-requires-clause-first c =
    let is : c.loop-at.at ≡ (c.loop-at.at - 1) + 1 = omega arith in
    let inside : c.loop-at.at - 1 < length c.args.front.now = omega arith in
    let f = first_back c.args.earlier c.args.last c.args.front.now c.loop-at.at (c.loop-at.at - 1) is inside
    c.loop-at.first c.children-first.result c.loop-at.invariant.first c.children-first.ensures.value in
    omega (arith, f)

pub loop-at-preserved : goal.loop-at-preserved
loop-at-preserved c =
    let is : c.loop-at.at ≡ (c.loop-at.at - 1) + 1 = omega arith in
    let inside : c.loop-at.at - 1 < length c.args.front.now = omega arith in
    let f = first_back c.args.earlier c.args.last c.args.front.now c.loop-at.at (c.loop-at.at - 1) is inside
    c.loop-at.first c.children-first.result c.loop-at.invariant.first c.children-first.ensures.value in
    let has = subst (λ n. HasFlags c.args.earlier c.args.last c.args.front.now n c.loop-at.needed) is
    c.loop-at.invariant.flags in
    record {
      inside = omega arith;
      first = omega (arith, f);
      flags = c.in_ok-mark.ensures.flags c.args.last has;
      marks =
          ap reverse c.in_ok-push.ensures.items
          ∙ marks_back c.args.earlier c.args.last c.args.front.now c.loop-at.at (c.loop-at.at - 1) is inside
          c.loop-at.marked.items c.in_ok-mark.mark c.loop-at.invariant.marks
          (this_mark c.args.earlier c.args.last c.args.front.now (c.loop-at.at - 1) inside c.in_ok-mark.mark
          (c.in_ok-mark.ensures.mark c.args.last has));
    }
