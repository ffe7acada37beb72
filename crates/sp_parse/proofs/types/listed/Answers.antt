use Rattle.std.proofs.Common.{[], ◌∷◌}
use Rattle.sp_tree.specs.Words as w
use Rattle.sp_tree.specs.Symbols.{AName, MoreNames, AToken}
use Rattle.sp_parse.proofs.Pending.{begin, read_as, pass}
use Rattle.sp_parse.proofs.types.listed.Goals as goal

pub returns : goal.returns
returns c = pass (read_as (AName ∷ MoreNames ∷ []) (AToken w.Close ∷ []) (λ vs. c.names-all.result) (begin c.requires)
    c.names-all.ensures (λ us same vs. same)) c.expect.ensures
