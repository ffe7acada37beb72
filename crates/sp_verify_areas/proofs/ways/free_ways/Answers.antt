use Rattle.std.proofs.Common.{length, ap, sym, ◌∙◌, arith}
use Rattle.std.proofs.lemmas.Option.{slice_get_within}
use Rattle.std.specs.Option.{option_copied}
use Rattle.sp_code.specs.declared.code.Parts.{Parts}
use Rattle.sp_verify_areas.proofs.ways.free_ways.Goals as goal

pub ways_on-requires : goal.ways_on-requires
ways_on-requires c =
    let is = c.parts.result.now.instrs in
    let l = slice_get_within is c.args.p c.in-Some.instr.now (sym c.get.ensures ∙ ap option_copied c.in-Some.is) in
    let k = c.parts.ensures.sizes.instrs in
    let s = ap (λ (z : Parts). length z.instrs) c.parts.ensures.same in
    omega (arith, l, k, s)
