use Rattle.std.proofs.Common.{◌≡◌, refl, ap, sym, ◌∙◌, subst, ◌+◌, List, length, Some, None}
use Rattle.std.specs.Prelude.{slice_get}
use Rattle.std.proofs.lemmas.Option.{slice_get_read, none-some}
use Rattle.sp_code.specs.declared.code.Layout.{Layout}
use Rattle.sp_code.specs.declared.code.Parts.{Parts}
use Rattle.sp_code.specs.Machine.{layout_of}
use Rattle.sp_verify_shapes.specs.declared.steps.Arrival.{Arrival}
use Rattle.sp_verify_shapes.specs.Starts.{AddsStarts, IsOfLayouts}
use Rattle.sp_verify_shapes.proofs.AreaEntries.{adds_then, adds_as, one_less, one_more, of_block}
use Rattle.sp_verify_shapes.proofs.begin.begin_blocks.Goals as goal
use Rattle.sp_verify_shapes.proofs.begin.begin_blocks.Goals.{in-None, in-Some+in-Ok}

pub start-requires : goal.start-requires
start-requires c =
    of_block c.args.code.now c.l-item.result.block c.in-Some.m.now
    (sym (c.in-Some.ensures ∙ ap (λ (z : Parts). layout_of z.layouts c.l-item.result.block) c.parts.ensures.same))

pub loop-l-preserved : goal.loop-l-preserved
loop-l-preserved c =
    let code = c.args.code.now in
    let ls = c.items-l-items.result.now in
    let l = c.l-item.result in
    let n = c.loop-l.l-index in
    let xs = c.args.arrivals.now in
    let same : ls ≡ code.layouts = c.items-l-items.ensures ∙ ap (λ (z : Parts). z.layouts) c.parts.ensures.same in
    let g : slice_get code.layouts n ≡ Some l = subst (λ (zs : List Layout). slice_get zs n ≡ Some l) same
    (slice_get_read ls (length ls) n l refl c.loop-l-test.true c.l-item.is) in
    let find : layout_of c.parts.result.now.layouts l.block
    ≡ layout_of code.layouts l.block = ap (λ (z : Parts). layout_of z.layouts l.block) c.parts.ensures.same in
    elim c.match-find.branch [
      | in-None w ↦ subst (λ (zs : List Arrival). AddsStarts code (IsOfLayouts code (n + 1)) xs zs) (sym w.arrivals-is)
          (adds_as code (IsOfLayouts code n) (IsOfLayouts code (n + 1)) xs c.loop-l.arrivals
          (λ q h. one_less code n q l None g (w.in-None.ensures ∙ find) h (λ m e f. absurd (none-some m e)))
          c.loop-l.invariant)
      | in-Some+in-Ok w ↦ subst (λ (zs : List Arrival). AddsStarts code (IsOfLayouts code (n + 1)) xs zs)
          (sym w.arrivals-is)
          (adds_then code (IsOfLayouts code n) (λ q. q ≡ w.in-Some.m.now.entry) (IsOfLayouts code (n + 1)) xs
          c.loop-l.arrivals w.start.new.arrivals
          (λ q h. one_more code n q l w.in-Some.m.now g (w.in-Some.ensures ∙ find) h) c.loop-l.invariant
          w.in-Ok.ensures)
    ]
