use Rattle.std.proofs.Common.{[], ap, refl}
use Rattle.sp_tree.specs.declared.token.Kind.TheVariants as kind
use Rattle.sp_tree.specs.Words as w
use Rattle.sp_tree.specs.declared.syntax.SynKind.TheVariants as kinds
use Rattle.sp_tree.specs.Symbols.{AType}
use Rattle.sp_tree.specs.Table as row
use Rattle.sp_tree.specs.Table.{rows}
use Rattle.sp_parse.specs.BlockProductions.{listed_names, fields}
use Rattle.sp_parse.proofs.Pending.{begin, keep, read_as, go_on, row_at, fail_at}
use Rattle.sp_parse.proofs.Steps.{step_fails}
use Rattle.sp_parse.proofs.Rows.{kind_at, other_at, none_at}
use Rattle.sp_parse.proofs.ReadNames.{is_made}
use Rattle.sp_parse.proofs.types.type_of.Goals as goal

pub returns-then-is : goal.returns-then-is
returns-then-is c = keep (λ _. kinds.Alias c.made.result) (row_at [] row.alias refl refl refl tt
    (kind_at c.look-first.result kind.Name c.is.ensures c.if-is.true) (begin c.requires) c.look-first.ensures
    c.skip.ensures) c.made.ensures (λ p _. ap kinds.Alias (is_made _ _ p c.name_at.ensures))

pub returns-then-is-2 : goal.returns-then-is-2
returns-then-is-2 c = read_as listed_names.symbols [] (λ _. kinds.Enumeration c.listed.result)
    (row_at [] row.enumeration refl refl refl tt (kind_at c.look-first.result w.Open c.is-2.ensures c.if-is-2.true)
    (begin c.requires) c.look-first.ensures c.skip.ensures) c.listed.ensures
    (λ us same _. ap kinds.Enumeration same)

pub returns-then-is-3 : goal.returns-then-is-3
returns-then-is-3 c = go_on (row_at [] row.array refl refl refl tt (kind_at c.look-first.result w.Array c.is-3.ensures
    c.if-is-3.true) (begin c.requires) c.look-first.ensures c.skip.ensures) c.array.ensures (λ us. refl)

pub returns-then-is-4 : goal.returns-then-is-4
returns-then-is-4 c = read_as fields.symbols [] (λ _. kinds.Record c.fields.result)
    (row_at [] row.fields refl refl refl tt (kind_at c.look-first.result w.Record c.is-4.ensures c.if-is-4.true)
    (begin c.requires) c.look-first.ensures c.skip.ensures) c.fields.ensures
    (λ us same _. ap kinds.Record same)

pub returns-then-is-5 : goal.returns-then-is-5
returns-then-is-5 c = go_on (row_at [] row.channel refl refl refl tt (kind_at c.look-first.result w.Times
    c.is-5.ensures c.if-is-5.true) (begin c.requires) c.look-first.ensures c.skip.ensures) c.channel.ensures (λ us.
    refl)

pub returns : goal.returns
returns c = fail_at _ (begin c.requires) c.look-first.ensures (λ u q. step_fails c.args.source.now AType
    c.look-first.result u (none_at (rows AType) c.look-first.result.kind (
      other_at c.look-first.result kind.Name c.is.ensures c.if-is.false,
      (
        other_at c.look-first.result w.Open c.is-2.ensures c.if-is-2.false,
        (
          other_at c.look-first.result w.Array c.is-3.ensures c.if-is-3.false,
          (
            other_at c.look-first.result w.Record c.is-4.ensures c.if-is-4.false,
            (
              other_at c.look-first.result w.Times
                  c.is-5.ensures c.if-is-5.false,
              tt,
            ),
          ),
        ),
      ),
    )) refl q)
    c.skip.ensures.failed c.misplaced.ensures c.fail.ensures
