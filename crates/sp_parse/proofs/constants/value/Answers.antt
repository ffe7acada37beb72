use Rattle.std.proofs.Common.{[], ap, refl}
use Rattle.sp_tree.specs.declared.token.Kind.TheVariants as kind
use Rattle.sp_tree.specs.declared.syntax.SynValue.TheVariants as value
use Rattle.sp_tree.specs.Symbols.{AValue}
use Rattle.sp_tree.specs.Table as row
use Rattle.sp_parse.proofs.Pending.{begin, say, keep, row_at, fail_at}
use Rattle.sp_parse.proofs.Steps.{step_fails}
use Rattle.sp_parse.proofs.Rows.{no_value}
use Rattle.sp_parse.proofs.ReadNames.{is_made}
use Rattle.sp_parse.proofs.constants.value.Goals as goal

pub returns-in-Number : goal.returns-in-Number
returns-in-Number c = say (λ _. ap value.Number c.number_at.ensures) (row_at [] row.value_number refl refl refl tt
    c.in-Number.is
    (begin c.requires) c.look-first.ensures c.skip.ensures)

pub returns-in-Name : goal.returns-in-Name
returns-in-Name c = keep (λ _. value.Named c.made.result) (row_at [] row.value_name refl refl refl tt c.in-Name.is
    (begin c.requires)
    c.look-first.ensures c.skip.ensures) c.made.ensures (λ p _. ap value.Named (is_made _ _ p c.name_at.ensures))

pub returns-in_default : goal.returns-in_default
returns-in_default c = fail_at _ (begin c.requires) c.look-first.ensures (λ u q. step_fails c.args.source.now AValue
    c.look-first.result u (no_value c.look-first.result.kind c.in_default.not-Name c.in_default.not-Number) refl q)
    c.skip.ensures.failed c.misplaced.ensures c.fail.ensures
