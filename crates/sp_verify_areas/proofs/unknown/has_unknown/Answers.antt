use Rattle.std.proofs.Common.{◌≡◌, ◌<◌, ⊎_elim, get_or, sym, ◌∙◌, ap, subst}
use Rattle.std.specs.Prelude.{slice_get}
use Rattle.std.proofs.lemmas.Option.{slice_get-get_or, same_Some}
use Rattle.sp_base.proofs.Facts.{below_or_last}
use Rattle.sp_verify_rules.specs.Areas.{homes}
use Rattle.sp_verify_areas.specs.Unknown.{OneUnknown}
use Rattle.sp_verify_areas.proofs.KnownVariables.{unknown_here, unknown_none}
use Rattle.sp_verify_areas.proofs.unknown.has_unknown.Goals as goal

pub returns-then-is_unknown : goal.returns-then-is_unknown
returns-then-is_unknown c = λ a l.
    let code = c.args.code.now in
    let xs = c.args.xs.now in
    let k = c.loop-x.x-index in
    unknown_here code.layouts xs (homes code a) k (get_or xs k 0) (slice_get-get_or xs k 0 c.loop-x-test.true)
    ((c.is_unknown.ensures a l).yes c.if-is_unknown.true)

pub loop-x-preserved : goal.loop-x-preserved
loop-x-preserved c = λ a l k y h e u.
    let code = c.args.code.now in
    let xs = c.args.xs.now in
    let i = c.loop-x.x-index in
    ⊎_elim (λ (m : k < i). c.loop-x.invariant a l k y m e u)
    (λ (s : k ≡ i). (c.is_unknown.ensures a l).no c.if-is_unknown.false
    (subst (λ z. OneUnknown code.layouts z (homes code a)) (same_Some y (get_or xs i 0) (sym e ∙ ap (slice_get xs) s
    ∙ slice_get-get_or xs i 0 c.loop-x-test.true)) u))
    (below_or_last k i h)

pub returns : goal.returns
returns c = λ a l.
    let code = c.args.code.now in
    unknown_none code.layouts c.args.xs.now (homes code a) c.loop-x.x-index c.loop-x-test.false (c.loop-x.invariant a l)
