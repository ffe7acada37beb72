use Rattle.std.proofs.Common.{◌≡◌, length, replicate, None, ap, ◌∙◌, refl}
use Rattle.sp_code.specs.declared.code.Parts.{Parts}
use Rattle.sp_verify_areas.proofs.Surroundings.{homes_are, attached_start}
use Rattle.sp_verify_areas.proofs.around.homes.Goals as goal

pub hang_all-requires-clause-just : goal.hang_all-requires-clause-just
hang_all-requires-clause-just c =
    let count : c.len.result ≡ length c.args.code.now.forks = c.len.ensures
    ∙ ap (λ (z : Parts). length z.forks) c.parts-parts.ensures.same in
    attached_start c.args.code.now c.in-Ok.value _ c.in-Ok.ensures refl (c.in-Ok-no_nodes.ensures
    ∙ ap (λ n. replicate n None) count)

pub returns : goal.returns
returns c =
    homes_are c.args.code.now c.in-Ok.value.of c.args.owners.now c.hang_all.new.grown _ c.requires.owners
    c.in-Ok.ensures.full c.in-Ok-hang_all.ensures refl c.in-Ok-nodes_of.ensures
