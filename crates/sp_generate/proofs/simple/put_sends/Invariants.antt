use Rattle.std.proofs.Common.{map, drop}
use Rattle.sp_tree.specs.CheckedOf.{expression_of}
use Rattle.sp_tree.specs.Bare.{bare_expression}
use Rattle.sp_base.specs.Adds.{Covers}
use Rattle.sp_generate.specs.Views.{plain_program, scopes}
use Rattle.sp_generate.specs.CodeBuffers.{sends_code}
use Rattle.sp_generate.proofs.simple.put_sends.Given as goal

abbrev pub invariant-loop-e : goal.invariant-loop-e
invariant-loop-e l = Covers l.fn.code l.code
    (sends_code (plain_program l.g) (scopes l.sc) (bare_expression (expression_of l.channel))
    (map expression_of (drop l.e-index l.values)))
    (sends_code (plain_program l.g) (scopes l.sc) (bare_expression (expression_of l.channel))
    (map expression_of l.values))
