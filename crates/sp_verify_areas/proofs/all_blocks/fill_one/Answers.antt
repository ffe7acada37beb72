use Rattle.std.proofs.Common.{◌≡◌, None, Some, ap, sym, ◌∙◌, arith}
use Rattle.std.specs.Prelude.{slice_get}
use Rattle.sp_base.proofs.Facts.{item_is_not_none, value_if_some}
use Rattle.sp_code.specs.declared.code.Parts.{Parts}
use Rattle.sp_verify_areas.specs.Blocks.{number_from}
use Rattle.sp_verify_areas.specs.Grown.{node_at}
use Rattle.sp_verify_areas.proofs.NodesForAll.{filled_more, filled_same}
use Rattle.sp_verify_areas.proofs.BlockNodes.{is_none, place_there}
use Rattle.sp_verify_areas.proofs.all_blocks.fill_one.Goals as goal

pub returns-then-is_some : goal.returns-then-is_some
returns-then-is_some c =
    let has = value_if_some c.node_at.result (sym c.is_some.ensures ∙ c.if-is_some.true) in
    filled_same c.args.code.now c.args.item has.0 c.args.grown.now c.requires.just (sym c.node_at.ensures ∙ has.1)

pub returns-in-None : goal.returns-in-None
returns-in-None c =
    absurd (item_is_not_none c.args.code.now.layouts c.args.item c.requires.there
    (ap (λ (z : Parts). slice_get z.layouts c.args.item) (sym c.parts.ensures.same) ∙ sym c.in-None.ensures))

pub returns-in-None-place : goal.returns-in-None-place
returns-in-None-place c =
    let ls = c.args.code.now.layouts in
    let l = c.in-Some.l.now in
    let e : slice_get ls c.args.item ≡ Some l = ap (λ (z : Parts). slice_get z.layouts c.args.item)
    (sym c.parts.ensures.same) ∙ sym c.in-Some.ensures in
    absurd (place_there ls c.args.item l e (sym (c.requires.blocks l.block) ∙ sym c.place.ensures ∙ c.in-None-place.is))

pub give_node-requires : goal.give_node-requires
give_node-requires c = let a = c.requires.there in let b = c.requires.just.long in omega (arith, a, b)

pub returns : goal.returns
returns c =
    let ls = c.args.code.now.layouts in
    let l = c.in-Some.l.now in
    let e : slice_get ls c.args.item ≡ Some l = ap (λ (z : Parts). slice_get z.layouts c.args.item)
    (sym c.parts.ensures.same) ∙ sym c.in-Some.ensures in
    let n : node_at c.args.grown.now.of c.args.item ≡ None = sym c.node_at.ensures
    ∙ is_none c.node_at.result (sym c.is_some.ensures ∙ c.if-is_some.false) in
    let p : number_from 0 ls l.block ≡ Some c.in-Some-place.place = sym (c.requires.blocks l.block)
    ∙ sym c.place.ensures ∙ c.in-Some-place.is in
    filled_more c.args.code.now c.args.item c.in-Some-place.place c.args.grown.now c.give_node.new.grown l
    c.requires.just e n p c.in-Ok.ensures
