use Rattle.std.proofs.Common.{[], None, true, false, ap, refl, ◌∙◌}
use Rattle.sp_tree.specs.declared.token.Kind.TheVariants as kind
use Rattle.sp_tree.specs.Words as w
use Rattle.sp_tree.specs.declared.syntax.SynConst.{SynConst}
use Rattle.sp_tree.specs.declared.syntax.SynValue.TheVariants as value
use Rattle.sp_tree.specs.Symbols.{AConstant}
use Rattle.sp_tree.specs.Table as row
use Rattle.sp_parse.proofs.Pending.{begin, say, keep, read, row_at, fail_at}
use Rattle.sp_parse.proofs.Steps.{step_fails}
use Rattle.sp_parse.proofs.Rows.{kind_at, other_at, no_constant}
use Rattle.sp_parse.proofs.ReadNames.{is_made}
use Rattle.sp_parse.proofs.constants.constant.Goals as goal

pub returns-then-is : goal.returns-then-is
returns-then-is c = read (row_at [] (row.constant row.constant_plus) refl refl refl tt
    (kind_at c.look-first.result w.Plus c.is.ensures c.if-is.true) (begin c.requires) c.look-first.ensures
    c.skip.ensures) c.value.ensures

pub returns-then-is-2 : goal.returns-then-is-2
returns-then-is-2 c = read (row_at [] (row.constant row.constant_minus) refl refl refl tt
    (kind_at c.look-first.result w.Minus c.is-2.ensures c.if-is-2.true) (begin c.requires) c.look-first.ensures
    c.skip.ensures) c.value-then-is-2.ensures

pub returns-in-Number : goal.returns-in-Number
returns-in-Number c = say (λ _. c.unsigned.ensures ∙ ap (λ v. (let x : SynConst =
    record { at = c.look-first.result.at; negative = None; value = value.Number v } in x)) c.number_at.ensures)
    (row_at [] (row.constant row.constant_number) refl refl refl tt c.in-Number.is
    (begin c.requires) c.look-first.ensures c.skip.ensures)

pub returns-in-Name : goal.returns-in-Name
returns-in-Name c = say (λ _. c.unsigned-in-Name.ensures)
    (keep (λ _. record { at = c.look-first.result.at; negative = None; value = value.Named c.made-name.result })
    (row_at [] (row.constant row.constant_name) refl refl refl tt c.in-Name.is (begin c.requires) c.look-first.ensures
    c.skip.ensures) c.made-name.ensures
    (λ p _. ap (λ v. (let x : SynConst = record { at = c.look-first.result.at; negative = None; value = value.Named v }
    in x)) (is_made _ _ p c.name_at.ensures)))

pub returns-in-Text : goal.returns-in-Text
returns-in-Text c = say (λ _. c.unsigned-in-Text.ensures)
    (keep (λ _. record { at = c.look-first.result.at; negative = None; value = value.Quoted c.made-text.result })
    (row_at [] (row.constant row.constant_text) refl refl refl tt c.in-Text.is (begin c.requires) c.look-first.ensures
    c.skip.ensures) c.made-text.ensures
    (λ p _. ap (λ v. (let x : SynConst = record { at = c.look-first.result.at; negative = None; value = value.Quoted v }
    in x)) (is_made _ _ p c.quoted_at.ensures)))

pub returns-in_default : goal.returns-in_default
returns-in_default c = fail_at _ (begin c.requires) c.look-first.ensures (λ u q. step_fails c.args.source.now AConstant
    c.look-first.result u (no_constant c.look-first.result.kind c.in_default.not-Name c.in_default.not-Number
    c.in_default.not-Text (other_at c.look-first.result w.Plus c.is.ensures c.if-is.false)
    (other_at c.look-first.result w.Minus c.is-2.ensures c.if-is-2.false)) refl q)
    c.skip.ensures.failed c.misplaced.ensures c.fail.ensures
