use Rattle.std.proofs.Common.{length, arith, refl, sym, ap, ◌∙◌}
use Rattle.sp_format.proofs.ItemLists.{lay_start, lay_blank, lay_kept, lay_item, lay_less, lay_long, lay_done}
use Rattle.sp_format.proofs.canonical.lay.Goals as goal

pub items-init : goal.items-init
items-init c = (
  lay_start c.args.text.now _ _ c.args.tokens.now c.requires c.new-out.ensures.items
      c.start-context.ensures,
  omega (arith, ap length c.new-out.ensures.items),
)

pub items-preserved-then-is_blank : goal.items-preserved-then-is_blank
items-preserved-then-is_blank c = (
  lay_blank c.in-Some.others.now c.in-Some.first c.in-Some.ensures
      (sym c.is_blank.ensures ∙ c.if-is_blank.true) c.items.invariant.0,
  c.items.invariant.1,
)

pub first_item-kind-requires-clause-kept : goal.first_item-kind-requires-clause-kept
first_item-kind-requires-clause-kept c = lay_kept c.args.tokens.now c.requires c.items.invariant.0

pub slice_bounds-put_item-count : goal.slice_bounds-put_item-count
slice_bounds-put_item-count c = omega (
  arith,
  lay_less c.first_item-kind.result.1.now c.in-Some.first c.first_item-kind.result.0 c.in-Some.ensures
      (sym c.is_blank.ensures ∙ c.if-is_blank.false) c.first_item-kind.ensures c.items.invariant.0,
)

pub returns-then-len-ge-MAX_TEXT : goal.returns-then-len-ge-MAX_TEXT
returns-then-len-ge-MAX_TEXT c = lay_long c.first_item-kind.result.1.now c.in-Some.first c.first_item-kind.result.0
    c.in-Some.ensures (sym c.is_blank.ensures ∙ c.if-is_blank.false) c.first_item-kind.ensures c.items.invariant.0
    c.put_item.new.out.items _ c.in_ok-put_item.ensures (omega arith) refl

pub items-smaller : goal.items-smaller
items-smaller c = lay_less c.first_item-kind.result.1.now c.in-Some.first c.first_item-kind.result.0 c.in-Some.ensures
    (sym c.is_blank.ensures ∙ c.if-is_blank.false) c.first_item-kind.ensures c.items.invariant.0

pub items-preserved : goal.items-preserved
items-preserved c = (
  lay_item c.first_item-kind.result.1.now c.in-Some.first c.first_item-kind.result.0
      c.in-Some.ensures (sym c.is_blank.ensures ∙ c.if-is_blank.false) c.first_item-kind.ensures c.items.invariant.0
      c.put_item.new.out.items c.behind-context.result c.in_ok-put_item.ensures c.behind-context.ensures,
  omega arith,
)

pub returns : goal.returns
returns c = lay_done c.push.new.self.items c.in_default.ensures c.items.invariant.1 c.in_ok-push.ensures.items
    c.items.invariant.0
