use Rattle.std.proofs.Common.{◌≡◌, refl, ◌∙◌, ap, length}
use Rattle.sp_code.specs.declared.code.Parts.{Parts}
use Rattle.sp_verify_shapes.specs.declared.search.Search.{Search}
use Rattle.sp_verify_shapes.proofs.AreaEntries.{begun, bare_at, unmarked_at}
use Rattle.sp_verify_shapes.proofs.begin.begin.Goals as goal

pub returns : goal.returns
returns c =
    let code = c.args.code.now in
    let m : c.len-count.result ≡ length code.instrs = c.len-count.ensures
    ∙ ap (λ (z : Parts). length z.instrs) c.parts-parts.ensures.same in
    let s : Search = record {
      stacks = c.new.result;
      at = c.in-Ok-no_lists.value;
      broken = c.in-Ok-no_marks.value;
      frontier =
          c.new-2.result;
      arrivals = c.begin_forks.new.arrivals;
    } in (
      (
        0,
        begun code c.new-arrivals.result c.begin_blocks.new.arrivals c.begin_forks.new.arrivals c.new-arrivals.ensures
            c.in-Ok.ensures c.in-Ok-begin_forks.ensures s refl c.new.ensures
            (c.in-Ok-no_lists.ensures.0 ∙ m) (c.in-Ok-no_marks.ensures.0 ∙ m)
            (bare_at s c.len-count.result c.in-Ok-no_lists.ensures)
            (unmarked_at s c.len-count.result c.in-Ok-no_marks.ensures),
      ),
      c.new-2.ensures,
    )
