use Rattle.std.proofs.Common.{◌+◌, ◌++◌, [], ap, ◌∙◌, sym, append-nil, arith, take}
use Rattle.sp_journal.specs.Births.{births}
use Rattle.sp_where.specs.Values.{filled, form}
use Rattle.sp_where.proofs.values.put_value.Goals as goal

pub returns : goal.returns
returns c = λ kept.
    let b = c.cut_from.ensures kept in
    let a = c.put_form-left.ensures b.0 in (
      a.0,
      b.1 c.args.out.now.items.items _ (omega (arith, c.len-start.ensures, c.args.out.now.items.ok))
          (ap (take (c.len-start.result + 121)) (sym (append-nil c.put_form-left.new.out.items.items)) ∙ a.1 []
          ∙ ap (λ ps. take (c.len-start.result + 121) (c.args.out.now.items.items
          ++ filled c.args.symbols.now.checked.kinds c.args.symbols.now.constants
          (births c.args.ledger.now.journal.entries) ps c.args.cells.now))
          (append-nil (form c.args.symbols.now.checked.kinds c.args.kind))),
    )
