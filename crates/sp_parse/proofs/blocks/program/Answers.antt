use Rattle.std.proofs.Common.{[], refl}
use Rattle.sp_tree.specs.Table as row
use Rattle.sp_parse.proofs.Pending.{begin, read, pass, enter}
use Rattle.sp_parse.proofs.blocks.program.Goals as goal

pub returns : goal.returns
returns c = pass (read (pass (read (read (enter [] row.program refl refl (λ t u fine e. refl) (λ t. refl) (begin
    c.requires)
    c.expect.ensures) c.name-name.ensures) c.heading-heading.ensures) c.expect-2.ensures) c.block-block.ensures)
    c.expect-3.ensures
