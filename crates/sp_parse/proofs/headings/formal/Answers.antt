use Rattle.std.proofs.Common.{[]}
use Rattle.sp_parse.proofs.ReadHeadings.{formal_is}
use Rattle.sp_parse.proofs.headings.formal.Goals as goal

pub returns : goal.returns
returns c = formal_is c.pass-by_reference.result (c.group-of.result) c.requires c.pass-by_reference.ensures
    c.group-of.ensures
