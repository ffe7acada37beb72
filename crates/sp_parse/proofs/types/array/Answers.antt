use Rattle.sp_parse.proofs.Pending.{begin, read, pass}
use Rattle.sp_parse.proofs.types.array.Goals as goal

pub returns : goal.returns
returns c = read (pass (pass (read (pass (read (pass (begin c.requires) c.expect.ensures) c.constant-low.ensures)
    c.expect-2.ensures) c.constant-high.ensures) c.expect-3.ensures) c.expect-4.ensures) c.name-of.ensures
