use Rattle.std.proofs.Common.{◌<◌, ℕ, length, Option, ap, sym, ◌∙◌, subst}
use Rattle.sp_code.specs.declared.code.Parts.{Parts}
use Rattle.sp_verify_areas.specs.Owners.{KnowsAt, Propagates}
use Rattle.sp_verify_areas.proofs.OwnerSteps.{hand_given}
use Rattle.sp_verify_areas.proofs.owners.hand.Goals as goal

pub returns-then-q-len : goal.returns-then-q-len
returns-then-q-len c =
    let code = c.args.code.now in
    let a = c.args.owners.now in
    let b = c.give.new.owners in
    let q = c.in-Some.q in
    let l : q < length code.instrs = subst (λ n. q < n) (c.len.ensures
    ∙ ap (λ (z : Parts). length z.instrs) c.parts.ensures.same) c.if-q-len.true in
    subst (λ (z : Option ℕ). Propagates code a b (KnowsAt code z c.args.o) c.give.result) (sym c.in-Some.is)
    (hand_given code a b q c.args.o c.give.result c.requires.just c.requires.some l
    (c.requires.owner q c.in-Some.is l) c.give.ensures)
