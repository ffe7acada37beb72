use Rattle.std.proofs.Common.{◌≡◌, ◌<◌, ◌∙◌, length, ap, sym, arith}
use Rattle.std.specs.Prelude.{not}
use Rattle.std.proofs.lemmas.Bool.{and_parts}
use Rattle.sp_base.proofs.Facts.{not_true_and_false}
use Rattle.sp_code.specs.declared.code.Parts.{Parts}
use Rattle.sp_verify_areas.specs.Alone.{flag_at}
use Rattle.sp_verify_shapes.proofs.ReachLaws.{first_one}
use Rattle.sp_verify_shapes.proofs.CallRepeats.{none_more, not_here}
use Rattle.sp_verify_effects.specs.Calls.{fails_at, is_outer}
use Rattle.sp_verify_effects.proofs.Again.{clashes_again}
use Rattle.sp_verify_effects.proofs.CallTests.{call_within}
use Rattle.sp_verify_effects.proofs.calls.first_call.Goals as goal

pub loop-p-init : goal.loop-p-init
loop-p-init c = (
  c.no_walks-walks.ensures c.args.g.now.shapes.now.stacks (is_outer c.args.effects.now),
  λ q l. absurd (omega (arith, l)),
)

pub returns-then-fails : goal.returns-then-fails
returns-then-fails c =
    let g = c.args.g.now in
    let p = c.loop-p.p in
    let P = fails_at g.code.now c.args.effects.now g.shapes.now in
    first_one P p (and_parts (not (flag_at g.repeats.now p)) (P p)
    (sym c.in-Ok-fails_first.ensures.fails ∙ c.if-fails.true)).1 c.loop-p.invariant.1

pub loop-p-preserved : goal.loop-p-preserved
loop-p-preserved c =
    let g = c.args.g.now in
    let p = c.loop-p.p in
    let e = c.args.effects.now in
    let P = fails_at g.code.now e g.shapes.now in (
      c.in-Ok-fails_first.ensures.walks,
      none_more P p (not_here P (flag_at g.repeats.now p) p
          (λ f. let r = c.requires.known.repeats p f in (
            r.0,
            r.1.earlier,
            clashes_again g.code.now e g.owners.now g.shapes.now p r.0 r.1,
          ))
          c.loop-p.invariant.1 (sym c.in-Ok-fails_first.ensures.fails ∙ c.if-fails.false))
          c.loop-p.invariant.1,
    )

pub returns : goal.returns
returns c = λ q h.
    let code = c.args.g.now.code.now in
    let e = c.args.effects.now in
    let s = c.args.g.now.shapes.now in
    let m : c.len-count.result ≡ length code.instrs = c.len-count.ensures
    ∙ ap (λ (z : Parts). length z.instrs) c.parts.ensures.same in
    let l = call_within code e s c.requires.known.shapes q h in
    let b : q < c.loop-p.p = omega (arith, m, l) in
    not_true_and_false (fails_at code e s q) h (c.loop-p.invariant.1 q b)
