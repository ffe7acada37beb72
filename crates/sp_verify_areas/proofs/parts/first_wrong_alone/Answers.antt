use Rattle.std.proofs.Common.{◌≡◌, List, sym, subst}
use Rattle.sp_code.specs.declared.code.Layout.{Layout}
use Rattle.sp_verify_areas.specs.Alone.{BreaksAlone}
use Rattle.sp_verify_areas.specs.Blocks.{IsNumbered}
use Rattle.sp_verify_areas.specs.LeastPlaces.{IsLeast, earlier_of}
use Rattle.sp_verify_areas.proofs.Alone.{passed}
use Rattle.sp_verify_areas.proofs.parts.first_wrong_alone.Goals as goal

pub returns : goal.returns
returns c =
    let code = c.args.code.now in
    let a = c.first_misnaming-named.result in
    let b = c.place_if-program.result in
    let d = c.first_layout-layout.result in
    let e = c.first_in-child.result in
    let first = c.args.blocks.now.first in
    let same : c.items-layouts.result.now ≡ code.layouts = cc in
    let numbered = subst (λ (ls : List Layout). IsNumbered first ls) (sym same) c.requires in
    let whole : c.least-3.result ≡ earlier_of (earlier_of a b) (earlier_of d e) = cc in
    subst (IsLeast (BreaksAlone code)) (sym whole)
    (passed code first c.in-Ok.value c.in-Ok-flags.value a b d e
    c.items-instrs.result.now c.items-layouts.result.now c.items-tables.result.now c.has.result
    (cc) same (cc) c.has.ensures numbered c.in-Ok.ensures c.in-Ok-flags.ensures
    c.first_misnaming-named.ensures c.place_if-program.ensures c.first_layout-layout.ensures c.first_in-child.ensures)
