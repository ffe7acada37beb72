use Rattle.std.proofs.Common.{ap, ◌∙◌}
use Rattle.sp_tree.specs.CheckedOf.{program_of, statement_of}
use Rattle.sp_interfere.specs.Rules.{is_function, site_first}
use Rattle.sp_interfere.specs.Walk.{statement_first}
use Rattle.sp_interfere.proofs.check.block_first.Goals as goal

pub returns : goal.returns
returns c =
    c.statement_first.ensures
    ∙ (ap (λ f. statement_first (site_first c.args.s.now (program_of c.args.c.now) f c.args.b)
    (statement_of c.args.k.now.body) c.heading_first-first.result) c.is_function.ensures
    ∙ ap (statement_first (site_first c.args.s.now (program_of c.args.c.now) (is_function c.args.k.now.answer) c.args.b)
    (statement_of c.args.k.now.body)) c.heading_first-first.ensures)
