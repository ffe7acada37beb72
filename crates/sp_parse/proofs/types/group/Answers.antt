use Rattle.std.proofs.Common.{[], ◌∷◌, ap}
use Rattle.sp_tree.specs.Words as w
use Rattle.sp_tree.specs.declared.syntax.SynGroup.{SynGroup}
use Rattle.sp_tree.specs.Symbols.{AName, MoreNames, AToken}
use Rattle.sp_parse.proofs.Pending.{begin, read, read_as, pass}
use Rattle.sp_parse.proofs.types.group.Goals as goal

pub returns : goal.returns
returns c = read (pass (read_as (AName ∷ MoreNames ∷ []) (AToken w.Colon ∷ AName ∷ [])
    (λ vs. record { names = c.names-names.result; kind = vs.1.0 }) (begin c.requires) c.names-names.ensures
    (λ us same vs. ap (λ ns. (let g : SynGroup = record { names = ns; kind = vs.1.0 } in g)) same))
    c.expect.ensures) c.name-kind.ensures
