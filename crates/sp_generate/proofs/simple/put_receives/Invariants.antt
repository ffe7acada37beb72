use Rattle.std.proofs.Common.{map, drop}
use Rattle.sp_tree.specs.CheckedOf.{expression_of, variable_of}
use Rattle.sp_tree.specs.Bare.{bare_expression}
use Rattle.sp_base.specs.Adds.{Covers}
use Rattle.sp_generate.specs.Views.{plain_program, scopes}
use Rattle.sp_generate.specs.CodeBuffers.{receives_code}
use Rattle.sp_generate.proofs.simple.put_receives.Given as goal

abbrev pub invariant-loop-v : goal.invariant-loop-v
invariant-loop-v l = Covers l.fn.code l.code
    (receives_code (plain_program l.g) (scopes l.sc) (bare_expression (expression_of l.channel))
    (map variable_of (drop l.v-index l.variables)))
    (receives_code (plain_program l.g) (scopes l.sc) (bare_expression (expression_of l.channel))
    (map variable_of l.variables))
