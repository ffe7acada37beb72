use Rattle.std.proofs.Common.{◌∷◌, [], ◌+◌, ◌∙◌, ap, sym, subst, length, List, Bool}
use Rattle.std.proofs.lemmas.List.{length-append}
use Rattle.sp_verify_shapes.specs.Repeats.{AreRepeats}
use Rattle.sp_verify_shapes.proofs.CallRepeats.{more_repeats}
use Rattle.sp_verify_shapes.proofs.repeats.repeats_of.Goals as goal

pub loop-p-preserved : goal.loop-p-preserved
loop-p-preserved c =
    let code = c.args.code.now in
    let os = c.args.owners.now in
    let s = c.args.shapes.now in
    let fs = c.loop-p.flags in
    let b = c.in-Ok.value in
    let e = c.in-Ok-push.ensures.ok in (
      ap (λ (xs : List Bool). length xs) e ∙ length-append fs (b ∷ []) ∙ ap (λ n. n + 1) c.loop-p.invariant.0,
      subst (AreRepeats code os s) (sym e)
          (more_repeats code os s fs b c.loop-p.p c.loop-p.invariant.0 c.in-Ok.ensures c.loop-p.invariant.1),
    )
