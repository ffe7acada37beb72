use Rattle.std.proofs.Common.{subst, sym}
use Rattle.sp_tree.specs.declared.syntax.Syntax.{Syntax}
use Rattle.sp_tree.specs.NameFirst.{name_resolution}
use Rattle.sp_tree.specs.NamedOf as named
use Rattle.sp_tree.specs.PhaseResults.{AnswersAs}
use Rattle.sp_tree.specs.SyntaxOf as plain
use Rattle.sp_scope.proofs.program.resolve.Goals as goal

pub returns : goal.returns
returns c =
    subst (λ (s : Syntax). AnswersAs named.program_of c.resolve_parts.result (name_resolution (plain.program_of s)))
    (sym c.parts-name.ensures) c.resolve_parts.ensures
