use Rattle.std.proofs.Common.{map}
use Rattle.sp_tree.specs.CheckedOf.{expression_of, variable_of}
use Rattle.sp_generate.specs.BuffersAfter.{written}
use Rattle.sp_generate.specs.Handings.{moved_of, shared_of}
use Rattle.sp_generate.specs.Views.{plain_program, scopes}
use Rattle.sp_generate.proofs.Forms.{wrote, receives_are}
use Rattle.sp_generate.proofs.statements.put_receive_each.Goals as goal

pub returns : goal.returns
returns c at number =
    let context = c.args.context.now in
    let d = written c.args.d.now in
    wrote d _ c.put_receives.ensures (receives_are (plain_program context.program.now) (moved_of context.sets.now)
    (shared_of context.sets.now) (scopes context.scopes.now) d number at (expression_of c.args.channel.now)
    (map variable_of c.args.variables.now))
