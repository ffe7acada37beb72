use Rattle.std.proofs.Common.{List, [], ◌∷◌, ◌++◌, ap, ◌∙◌}
use Rattle.sp_tree.specs.Around as around
use Rattle.sp_tree.specs.CheckedOf.{block_of, statement_of}
use Rattle.sp_code.specs.declared.instr.Instr.{Instr}
use Rattle.sp_code.specs.TreeCode.{end_instr}
use Rattle.sp_generate.specs.BuffersAfter.{written}
use Rattle.sp_generate.specs.Handings.{moved_of, shared_of}
use Rattle.sp_generate.specs.Views.{plain_program, scopes}
use Rattle.sp_generate.specs.CodeBuffers.{WrittenCode, buffer_of, with_code, buffer_after}
use Rattle.sp_generate.proofs.WrittenProgram.{block_is}
use Rattle.sp_generate.proofs.blocks.put_block.Goals as goal

pub returns-in-Ok : goal.returns-in-Ok
returns-in-Ok c k =
    let p = plain_program c.args.g.now in
    let mv = moved_of c.args.sets.now in
    let sh = shared_of c.args.sets.now in
    let d = written c.args.d.now in
    let d2 = written c.put_statement.new.d in
    let x = c.put.ensures k in
    let s = c.put_statement.ensures x.0 in
    let inner = ap scopes c.as_slice.ensures.value ∙ c.in-Ok.ensures in
    let body = s.1 ∙ ap (λ (sc : List around.Scope). buffer_after p mv sh d sc (statement_of c.args.k.now.body)) inner
    in
    let code = x.1 ∙ ap (λ (x : Instr). d2.instrs ++ x ∷ []) c.end_instr.ensures in (
      s.0,
      (λ j. buffer_of (code j) d2.forks d2.texts)
          ∙ ap (λ (e : WrittenCode). with_code e (end_instr c.args.b ∷ [])) body
          ∙ block_is p mv sh d c.args.b (block_of c.args.k.now),
    )
