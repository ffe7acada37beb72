use Rattle.std.proofs.Common.{[], refl}
use Rattle.sp_tree.specs.Table as row
use Rattle.sp_parse.proofs.Pending.{begin, enter, keep}
use Rattle.sp_parse.proofs.ReadNames.{is_made}
use Rattle.sp_parse.proofs.names.name.Goals as goal

pub returns : goal.returns
returns c = keep _ (enter [] row.name refl refl (λ t u fine e. refl) (λ t. refl) (begin c.requires)
    c.expect-first.ensures) c.made.ensures (λ p _. is_made _ _ p c.name_at.ensures)
