use Rattle.std.proofs.Common.{◌-◌, ◌∙◌, ap, sym, arith, length}
use Rattle.std.proofs.lemmas.List.{get_or_default}
use Rattle.sp_cell.specs.Map.{spot_cmp}
use Rattle.sp_store.proofs.Places.{behind_all}
use Rattle.sp_store.proofs.slots.is_behind.Goals as goal

pub returns-in-Less : goal.returns-in-Less
returns-in-Less c _ =
    let spots = c.args.spots.now in
    let last = length spots - 1 in
    behind_all spots c.args.spot last c.requires (omega (arith, c.if-count-eq0.false))
    (λ d. ap (λ s. spot_cmp s c.args.spot) (get_or_default spots last d _ (omega (arith, c.if-count-eq0.false)))
    ∙ sym c.cmp.ensures ∙ c.in-Less.is)
