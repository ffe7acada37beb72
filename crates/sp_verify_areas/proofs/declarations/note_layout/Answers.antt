use Rattle.std.proofs.Common.{◌≡◌, ◌∙◌, ◌+◌, ◌<◌, ◌≤◌, ℕ, List, length, get_or, Some, refl, sym, ap, subst}
use Rattle.std.specs.Prelude.{slice_get}
use Rattle.std.proofs.lemmas.Option.{slice_get_read, slice_get-get_or}
use Rattle.sp_code.specs.declared.code.Layout.{Layout}
use Rattle.sp_code.specs.declared.code.Parts.{Parts}
use Rattle.sp_verify_rules.specs.NameRules.{InLayout}
use Rattle.sp_verify_areas.proofs.DeclarationSteps.{noted, next_layout, variable_of, layout_ends}
use Rattle.sp_verify_areas.proofs.declarations.note_layout.Goals as goal

pub loop-x-preserved : goal.loop-x-preserved
loop-x-preserved c =
    let code = c.args.code.now in
    let ls = c.items.result.now in
    let l = c.index-items-place.result in
    let j = c.args.place in
    let k = c.loop-x.x-index in
    let xs = c.items-x-items.result.now in
    let x = get_or xs k 0 in
    let same : ls ≡ code.layouts = c.items.ensures ∙ ap (λ (z : Parts). z.layouts) c.parts.ensures.same in
    let there : slice_get code.layouts j ≡ Some l = subst (λ (zs : List Layout). slice_get zs j ≡ Some l) same
    (slice_get_read ls (length ls) j l refl (subst (λ (zs : List Layout). j < length zs) (sym same)
    c.requires.there) c.index-items-place.is) in
    let at : slice_get l.variables k ≡ Some x = subst (λ (zs : List ℕ). slice_get zs k ≡ Some x) c.items-x-items.ensures
    (slice_get-get_or xs k 0 c.loop-x-test.true) in
    λ kept.
    let (was, notes) = c.note.ensures kept in
    let old = c.loop-x.seen in
    let new = c.note.new.seen in
    noted code (InLayout j k) (InLayout j (k + 1)) (next_layout code j k) old.variables new.variables old.first
    new.first x l.entry (variable_of code j k x l there at) (c.loop-x.invariant was) notes

pub returns : goal.returns
returns c =
    let code = c.args.code.now in
    let ls = c.items.result.now in
    let l = c.index-items-place.result in
    let j = c.args.place in
    let same : ls ≡ code.layouts = c.items.ensures ∙ ap (λ (z : Parts). z.layouts) c.parts.ensures.same in
    let there : slice_get code.layouts j ≡ Some l = subst (λ (zs : List Layout). slice_get zs j ≡ Some l) same
    (slice_get_read ls (length ls) j l refl (subst (λ (zs : List Layout). j < length zs) (sym same)
    c.requires.there) c.index-items-place.is) in
    let end : length l.variables ≤ c.loop-x.x-index = subst (λ (zs : List ℕ). length zs ≤ c.loop-x.x-index)
    c.items-x-items.ensures c.loop-x-test.false in
    λ kept. layout_ends code j c.loop-x.x-index l c.loop-x.seen.variables c.loop-x.seen.first there end
    (c.loop-x.invariant kept)
