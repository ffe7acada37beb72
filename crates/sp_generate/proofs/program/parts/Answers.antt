use Rattle.std.proofs.Common.{◌∙◌}
use Rattle.sp_generate.specs.BuffersAfter.{written}
use Rattle.sp_generate.proofs.WrittenProgram.{written_program}
use Rattle.sp_generate.proofs.program.parts.Goals as goal

pub returns : goal.returns
returns c =
    let d = written c.put_blocks-layouts.new.d in
    let (_, (blocks_put, layouts_are)) = c.put_blocks-layouts.ensures c.in_ok-instrs.ensures.kept in
    let of = c.of.ensures ∙ (λ j. (c.in_ok-instrs.ensures.items j).items) in
    (λ j. record { instrs = of j; layouts = c.put_blocks-layouts.result; forks = d.forks; texts = d.texts })
    ∙ written_program c.args.checked.now c.in_ok-g.g.checked.now c.args.sets.now d c.put_blocks-layouts.result
    c.new.result.items.items c.new-2.result c.new-3.result
    c.in_ok-g.ensures c.new.ensures.items c.new-2.ensures c.new-3.ensures blocks_put layouts_are
