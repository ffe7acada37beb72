use Rattle.std.proofs.Common.{◌∙◌, ◌++◌, ◌∷◌, [], ◌+◌, false, length, get_or, arith, refl, ap}
use Rattle.std.proofs.lemmas.Option.{slice_get_read}
use Rattle.sp_varsets.proofs.BlockRows.{length_more}
use Rattle.sp_varsets.proofs.CallSets.{flag_more, flags_are}
use Rattle.sp_varsets.proofs.totals.flags.Goals as goal

pub rows-preserved : goal.rows-preserved
rows-preserved c =
    let inside = c.rows-test.true in
    let at = slice_get_read c.args.rows.now (length c.args.rows.now) c.rows.b c.index-rows-b.result refl (omega arith)
    c.index-rows-b.is in
    let e = c.in_ok-push.ensures.ok ∙ ap (λ z. c.rows.flags ++ z ∷ []) c.contains.ensures in
    let l = c.rows.invariant.0 in (
      ap length e ∙ (length_more c.rows.flags _ ∙ ap (λ m. m + 1) l),
      λ d low. ap (λ z. get_or z d false) e ∙ flag_more c.rows.flags c.args.rows.now c.rows.b c.index-rows-b.result l at
          c.rows.invariant.1 d low,
    )

pub returns : goal.returns
returns c =
    let end = c.rows-test.false in
    let l = c.rows.invariant.0 in
    let upto = c.rows.auto in
    flags_are c.rows.flags c.args.rows.now (omega arith) (λ d low. c.rows.invariant.1 d (omega arith))
