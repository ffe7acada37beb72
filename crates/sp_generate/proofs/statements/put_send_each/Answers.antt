use Rattle.std.proofs.Common.{map}
use Rattle.sp_tree.specs.CheckedOf.{expression_of}
use Rattle.sp_generate.specs.BuffersAfter.{written}
use Rattle.sp_generate.specs.Handings.{moved_of, shared_of}
use Rattle.sp_generate.specs.Views.{plain_program, scopes}
use Rattle.sp_generate.proofs.Forms.{wrote, sends_are}
use Rattle.sp_generate.proofs.statements.put_send_each.Goals as goal

pub returns : goal.returns
returns c at number =
    let context = c.args.context.now in
    let d = written c.args.d.now in
    wrote d _ c.put_sends.ensures (sends_are (plain_program context.program.now) (moved_of context.sets.now)
    (shared_of context.sets.now) (scopes context.scopes.now) d number at (expression_of c.args.channel.now)
    (map expression_of c.args.values.now))
