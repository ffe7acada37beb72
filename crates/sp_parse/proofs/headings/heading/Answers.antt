use Rattle.std.proofs.Common.{[], refl}
use Rattle.sp_tree.specs.Table as row
use Rattle.sp_parse.proofs.Pending.{begin, say, go_on, pass_row, leave_at, passed, not_passed}
use Rattle.sp_parse.proofs.Turns.{none_if}
use Rattle.sp_parse.proofs.headings.heading.Goals as goal

pub returns-then-pass : goal.returns-then-pass
returns-then-pass c = go_on (pass_row [] row.heading refl refl (begin c.requires) (passed c.pass.ensures
    c.if-pass.true))
    c.listed.ensures (λ us. refl)

pub returns : goal.returns
returns c = say (λ _. c.new.ensures) (leave_at (begin c.requires) (not_passed c.pass.ensures c.if-pass.false)
    (λ t n. none_if _ n refl) refl)
