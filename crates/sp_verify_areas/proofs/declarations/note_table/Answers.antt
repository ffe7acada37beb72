use Rattle.std.proofs.Common.{◌≡◌, ◌∙◌, ◌<◌, ◌≤◌, List, length, Some, refl, sym, ap, subst}
use Rattle.std.specs.Prelude.{slice_get}
use Rattle.std.proofs.lemmas.Option.{slice_get_read}
use Rattle.sp_code.specs.declared.code.ChildTable.{ChildTable}
use Rattle.sp_code.specs.declared.code.ForkTable.{ForkTable}
use Rattle.sp_code.specs.declared.code.Parts.{Parts}
use Rattle.sp_verify_areas.proofs.DeclarationSteps.{table_ends}
use Rattle.sp_verify_areas.proofs.declarations.note_table.Goals as goal

pub returns : goal.returns
returns c =
    let code = c.args.code.now in
    let fs = c.items.result.now in
    let tb = c.index-items-table.result in
    let t = c.args.table in
    let same : fs ≡ code.forks = c.items.ensures ∙ ap (λ (z : Parts). z.forks) c.parts.ensures.same in
    let there : slice_get code.forks t ≡ Some tb = subst (λ (zs : List ForkTable). slice_get zs t ≡ Some tb) same
    (slice_get_read fs (length fs) t tb refl (subst (λ (zs : List ForkTable). t < length zs) (sym same)
    c.requires.there) c.index-items-table.is) in
    let is : c.items-children.result.now ≡ tb.children = c.items-children.ensures ∙ ap (λ (z : ForkTable). z.children)
    (sym c.index-items-table.is) in
    let end : length tb.children ≤ c.loop-k.k = subst (λ (zs : List ChildTable). length zs ≤ c.loop-k.k) is
    c.loop-k-test.false in
    λ kept. table_ends code t c.loop-k.k tb c.loop-k.seen.variables c.loop-k.seen.first there end
    (c.loop-k.invariant kept)
