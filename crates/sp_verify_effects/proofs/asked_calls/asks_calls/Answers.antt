use Rattle.std.proofs.Common.{◌≡◌, ◌<◌, ◌∙◌, length, ap, arith}
use Rattle.sp_code.specs.declared.code.Parts.{Parts}
use Rattle.sp_verify_areas.specs.Alone.{flag_at}
use Rattle.sp_verify_shapes.proofs.CallRepeats.{none_more, not_here}
use Rattle.sp_verify_effects.specs.AskedCalls.{lacks_actual, lacks_at}
use Rattle.sp_verify_effects.proofs.Again.{lacks_again}
use Rattle.sp_verify_effects.proofs.CallTests.{calls_asked}
use Rattle.sp_verify_effects.proofs.asked_calls.asks_calls.Goals as goal

pub loop-p-init : goal.loop-p-init
loop-p-init c = (
  c.no_walks-walks.ensures c.args.g.now.shapes.now.stacks (lacks_actual c.args.asked.now c.args.own.now.keys),
  λ q l. absurd (omega (arith, l)),
)

pub loop-p-preserved : goal.loop-p-preserved
loop-p-preserved c =
    let g = c.args.g.now in
    let p = c.loop-p.p in
    let k = c.args.asked.now in
    let ks = c.args.own.now.keys in
    let P = lacks_at g.code.now k ks g.shapes.now in
    let (walks, none) = c.in-Ok.ensures c.if-lacks.false in (
      walks,
      none_more P p (not_here P (flag_at g.repeats.now p) p
          (λ f. let r = c.requires.known.repeats p f in (
            r.0,
            r.1.earlier,
            lacks_again g.code.now k ks g.owners.now g.shapes.now p r.0 r.1,
          ))
          c.loop-p.invariant.1 none)
          c.loop-p.invariant.1,
    )

pub returns-then-lacks : goal.returns-then-lacks
returns-then-lacks c = λ t. absurd (cc t)

pub returns : goal.returns
returns c = λ t.
    let g = c.args.g.now in
    let code = g.code.now in
    let m : c.len.result ≡ length code.instrs = c.len.ensures
    ∙ ap (λ (z : Parts). length z.instrs) c.parts.ensures.same in
    calls_asked code c.requires.known.kept g.shapes.now c.requires.known.shapes c.args.asked.now c.args.own.now.keys
    c.requires.own c.loop-p.p
    (λ q within below.
    let end : q < c.count_below-count.result = c.count_below-count.ensures.all q (omega (arith, m, within)) below in
    omega (arith, end))
    c.loop-p.invariant.1
