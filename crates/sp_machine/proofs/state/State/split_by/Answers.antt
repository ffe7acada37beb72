use Rattle.std.proofs.Common.{◌≡◌, ◌<◌, ℕ, List, length, get_or, IsSome, arith, ap, sym, subst, ◌∙◌}
use Rattle.sp_cell.specs.declared.spot.Spot.{Spot}
use Rattle.sp_cell.specs.declared.spot.Handing.{Handing}
use Rattle.sp_cell.specs.Spots.{In, NotIn}
use Rattle.sp_cell.specs.Fork.{moved_of, shared_of}
use Rattle.sp_code.specs.System.{child_or}
use Rattle.sp_code.specs.Tables.{child_at}
use Rattle.sp_store.specs.Layout.{FramesBelow}
use Rattle.sp_machine.proofs.ForkPlans.{length_plan, below_plan, length_children, split_newborn}
use Rattle.sp_machine.proofs.state.State.split_by.Goals as goal

pub children-requires-clause-numbers : goal.children-requires-clause-numbers
children-requires-clause-numbers c =
    let size : length c.in-Ok.value ≡ c.args.count = ap length c.in-Ok.ensures
    ∙ length_plan c.args.code.now.layouts c.args.self.now.frames c.args.table.now c.args.self.now.first 0
    c.args.count in
    omega (arith, size, c.requires.numbers)

pub children-requires-clause-below : goal.children-requires-clause-below
children-requires-clause-below c =
    subst (λ (hs : List Handing). (k : ℕ) (h : Handing) → k < length hs → h ≡ get_or hs k h
    → IsSome (child_or (child_at c.args.table.now k)).index → FramesBelow h.moved 18446744073709551615
    × FramesBelow h.shared 18446744073709551615)
    (sym c.in-Ok.ensures)
    (λ k h inside is index. below_plan c.args.self.now.store c.args.code.now.layouts c.args.self.now.frames
    c.args.table.now c.args.self.now.first c.args.count k h c.requires.can inside is index)

pub split-requires-clause-apart : goal.split-requires-clause-apart
split-requires-clause-apart c = subst (λ (hs : List Handing). (q : Spot) → In q (moved_of hs) → NotIn q (shared_of hs))
    (sym c.in-Ok.ensures) c.requires.can.apart

pub give_stores-requires : goal.give_stores-requires
give_stores-requires c = ap length c.in-Ok-split.ensures.children
    ∙ length_children c.args.self.now.store.map c.in-Ok.value ∙ sym c.in-Ok-children.ensures.0

pub returns-clause-children : goal.returns-clause-children
returns-clause-children c =
    split_newborn c.args.code.now c.args.self.now c.args.table.now c.args.number c.args.count c.share.new.self
    c.in-Ok.value c.in-Ok-children.value.items c.give_stores.new.children.items c.of.result
    c.in-Ok-split.value c.share.ensures.same
    c.in-Ok.ensures c.in-Ok-split.ensures.children c.in-Ok-children.ensures.0 c.in-Ok-children.ensures.1
    c.give_stores.ensures.len c.give_stores.ensures.stores c.of.ensures
