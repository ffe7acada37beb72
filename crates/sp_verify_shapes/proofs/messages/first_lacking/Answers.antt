use Rattle.std.proofs.Common.{◌≡◌, ◌≤◌, sym, ◌∙◌, ap, length, subst}
use Rattle.sp_code.specs.declared.code.Parts.{Parts}
use Rattle.sp_verify_shapes.specs.Lengths.{is_longer, received_at}
use Rattle.sp_verify_shapes.proofs.MessageLengths.{first_lacks, none_lacks, one_on}
use Rattle.sp_verify_shapes.proofs.messages.first_lacking.Goals as goal

pub returns-then-is_longer : goal.returns-then-is_longer
returns-then-is_longer c =
    let m = c.args.lengths.now in
    let e = ap (is_longer m) (sym c.received.ensures) ∙ sym c.is_longer.ensures ∙ c.if-is_longer.true in
    first_lacks c.args.code.now c.args.shapes.now c.requires.shapes m c.requires.lengths c.loop-p.p e c.loop-p.invariant

pub loop-p-preserved : goal.loop-p-preserved
loop-p-preserved c =
    let m = c.args.lengths.now in
    let e = ap (is_longer m) (sym c.received.ensures) ∙ sym c.is_longer.ensures ∙ c.if-is_longer.false in
    one_on (λ k. is_longer m (received_at c.args.code.now c.args.shapes.now k)) c.loop-p.p c.loop-p.invariant e

pub returns : goal.returns
returns c =
    let code = c.args.code.now in
    let size : c.len-p-end.result ≡ length code.instrs = c.len-p-end.ensures
    ∙ ap (λ (x : Parts). length x.instrs) c.parts.ensures.same in
    none_lacks code c.args.shapes.now c.requires.shapes c.args.lengths.now c.requires.lengths c.loop-p.p
    (subst (λ n. n ≤ c.loop-p.p) size c.loop-p-test.false) c.loop-p.invariant
