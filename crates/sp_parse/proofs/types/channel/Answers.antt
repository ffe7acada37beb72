use Rattle.std.proofs.Common.{[], ap}
use Rattle.sp_tree.specs.declared.syntax.SynKind.TheVariants as kinds
use Rattle.sp_parse.specs.BlockProductions.{listed_names}
use Rattle.sp_parse.proofs.Pending.{begin, read_as, pass}
use Rattle.sp_parse.proofs.types.channel.Goals as goal

pub returns : goal.returns
returns c = read_as listed_names.symbols [] (λ _. kinds.Channel c.listed.result) (pass (begin c.requires)
    c.expect.ensures)
    c.listed.ensures (λ us same vs. ap kinds.Channel same)
