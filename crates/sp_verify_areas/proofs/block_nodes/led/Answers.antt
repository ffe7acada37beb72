use Rattle.std.proofs.Common.{◌≡◌, length, replicate, ap, ◌∙◌, None}
use Rattle.sp_code.specs.declared.code.Parts.{Parts}
use Rattle.sp_verify_areas.specs.declared.tree.Grown.{Grown}
use Rattle.sp_verify_areas.proofs.BlockNodes.{none_led}
use Rattle.sp_verify_areas.proofs.block_nodes.led.Goals as goal

pub search-requires-clause-just : goal.search-requires-clause-just
search-requires-clause-just c =
    let none : Grown = record { nodes = c.new.result; of = c.in-Ok-no_nodes.value } in
    let count : c.len.result ≡ length c.args.code.now.layouts = c.len.ensures
    ∙ ap (λ (z : Parts). length z.layouts) c.parts-parts.ensures.same in
    none_led c.args.code.now.layouts none c.new.ensures (c.in-Ok-no_nodes.ensures
    ∙ ap (λ n. replicate n None) count)
