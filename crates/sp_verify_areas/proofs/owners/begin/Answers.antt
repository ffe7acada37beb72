use Rattle.std.proofs.Common.{◌≡◌, List, length, Some, refl, ap, sym, ◌∙◌, subst}
use Rattle.std.specs.Prelude.{slice_get}
use Rattle.std.proofs.lemmas.Option.{slice_get_read}
use Rattle.sp_code.specs.declared.code.Layout.{Layout}
use Rattle.sp_code.specs.declared.code.Parts.{Parts}
use Rattle.sp_code.specs.Machine.{layout_of}
use Rattle.sp_verify_areas.specs.Owners.{entry_at}
use Rattle.sp_verify_areas.proofs.OwnerSteps.{begun_more, entry_true}
use Rattle.sp_verify_areas.proofs.owners.begin.Goals as goal

pub hand-changed-requires-clause-owner : goal.hand-changed-requires-clause-owner
hand-changed-requires-clause-owner c = λ q e l.
    let code = c.args.code.now in
    let b = c.l-item.result.block in
    let s : c.entry_of-entry.result ≡ entry_at (layout_of code.layouts b) = subst
    (λ (z : Parts). c.entry_of-entry.result ≡ entry_at
    (layout_of z.layouts b)) c.parts.ensures.same c.entry_of-entry.ensures in
    entry_true code b q (sym s ∙ e) l

pub loop-l-preserved : goal.loop-l-preserved
loop-l-preserved c =
    let code = c.args.code.now in
    let ls = c.items-l-items.result.now in
    let l = c.l-item.result in
    let j = c.loop-l.l-index in
    let s : c.entry_of-entry.result ≡ entry_at (layout_of code.layouts l.block) = subst
    (λ (z : Parts). c.entry_of-entry.result ≡ entry_at
    (layout_of z.layouts l.block)) c.parts.ensures.same c.entry_of-entry.ensures in
    let g : slice_get ls j ≡ Some l = slice_get_read ls (length ls) j l refl c.loop-l-test.true c.l-item.is in
    let e : slice_get code.layouts j ≡ Some l = subst (λ (zs : List Layout). slice_get zs j ≡ Some l)
    (c.items-l-items.ensures ∙ ap (λ (z : Parts). z.layouts) c.parts.ensures.same) g in
    begun_more code c.args.owners.now c.loop-l.owners c.hand-changed.new.owners j l c.entry_of-entry.result
    c.loop-l.changed c.hand-changed.result e (λ m f. s ∙ ap entry_at f) c.loop-l.invariant c.hand-changed.ensures
