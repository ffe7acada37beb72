use Rattle.std.proofs.Common.{length, map, sym, subst}
use Rattle.sp_base.proofs.Facts.{length_of_map}
use Rattle.sp_tree.specs.CheckedOf.{block_of, program_of}
use Rattle.sp_varsets.specs.Bodies.{AreBodies, IsInBlocks}
use Rattle.sp_varsets.specs.Records.{RecordsStatements}
use Rattle.sp_varsets.proofs.SetsFound.{if_found, within_written}
use Rattle.sp_varsets.proofs.find.sets_of.Goals as goal

pub returns : goal.returns
returns c = if_found (program_of c.args.checked.now) c.new-walk.result c.gather.new.walk c.in-Ok.value
    c.in-Ok-reached.value c.requires.numbers
    c.new-walk.ensures.slots
    (subst (λ bs. RecordsStatements c.new-walk.result c.gather.new.walk (λ t. IsInBlocks (map block_of bs) t))
    c.items.ensures
    c.in-Ok.ensures.walk)
    (subst (λ n. AreBodies (map block_of c.args.checked.now.blocks) c.in-Ok.value n)
    (sym (length_of_map block_of c.args.checked.now.blocks))
    (subst (λ bs. AreBodies (map block_of bs) c.in-Ok.value (length bs)) c.items.ensures
    c.in-Ok.ensures.bodies))
    c.in-Ok-reached.ensures c.pooled.result c.pooled.ensures

pub pooled-requires-clause-within : goal.pooled-requires-clause-within
pooled-requires-clause-within c = within_written c.new-walk.result c.gather.new.walk
    (λ t. IsInBlocks (map block_of c.items.result.now) t) c.new-walk.ensures.slots c.in-Ok.ensures.walk
