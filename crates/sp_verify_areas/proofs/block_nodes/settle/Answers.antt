use Rattle.std.proofs.Common.{◌≡◌, None, Some, ap, sym, ◌∙◌, arith}
use Rattle.std.specs.Prelude.{slice_get}
use Rattle.std.proofs.lemmas.Option.{slice_get_within}
use Rattle.sp_code.specs.declared.code.Parts.{Parts}
use Rattle.sp_verify_areas.specs.Blocks.{number_from}
use Rattle.sp_verify_areas.specs.Grown.{inside_of, node_at}
use Rattle.sp_verify_areas.proofs.BlockNodes.{is_none, led_step, place_there}
use Rattle.std.proofs.lemmas.Grind.{common_steps}
use Rattle.sp_verify_areas.proofs.block_nodes.settle.Goals as goal

pub returns-in-None-place : goal.returns-in-None-place
returns-in-None-place c =
    let ls = c.args.code.now.layouts in
    let l = c.in-Some.l.now in
    let e : slice_get ls c.args.item ≡ Some l = ap (λ (z : Parts). slice_get z.layouts c.args.item)
    (sym c.parts.ensures.same) ∙ sym c.in-Some.ensures in
    absurd (place_there ls c.args.item l e (sym (c.requires.blocks l.block) ∙ sym c.place.ensures ∙ c.in-None-place.is))

pub give_node-requires : goal.give_node-requires
give_node-requires c =
    let ls = c.args.code.now.layouts in
    let l = c.in-Some.l.now in
    let e : slice_get ls c.args.item ≡ Some l = ap (λ (z : Parts). slice_get z.layouts c.args.item)
    (sym c.parts.ensures.same) ∙ sym c.in-Some.ensures in
    let w = slice_get_within ls c.args.item l e in
    let s = c.requires.just.long in
    omega (arith, w, s)

pub returns : goal.returns
returns c =
    let ls = c.args.code.now.layouts in
    let l = c.in-Some.l.now in
    let e : slice_get ls c.args.item ≡ Some l = ap (λ (z : Parts). slice_get z.layouts c.args.item)
    (sym c.parts.ensures.same) ∙ sym c.in-Some.ensures in
    let n : node_at c.args.grown.now.of c.args.item ≡ None = sym c.node_at.ensures
    ∙ is_none c.node_at.result (sym c.is_some.ensures ∙ c.if-is_some.false) in
    let p : number_from 0 ls l.block ≡ Some c.in-Some-place.place = sym (c.requires.blocks l.block)
    ∙ sym c.place.ensures ∙ c.in-Some-place.is in
    let i : inside_of ls c.args.grown.now.of l ≡ Some c.in-Some-inside_of.around = sym
    (c.inside_of.ensures ls c.requires.blocks) ∙ c.in-Some-inside_of.is in
    led_step ls c.args.grown.now c.give_node.new.grown c.args.item c.in-Some-place.place l c.in-Some-inside_of.around
    c.requires.just e n p i c.in-Ok.ensures

pub returns-in-None : goal.returns-in-None
returns-in-None c = grind (arith, common_steps)

pub returns-then-is_some : goal.returns-then-is_some
returns-then-is_some c = grind (arith, common_steps)

pub returns-in-None-inside_of : goal.returns-in-None-inside_of
returns-in-None-inside_of c = grind (arith, common_steps)
