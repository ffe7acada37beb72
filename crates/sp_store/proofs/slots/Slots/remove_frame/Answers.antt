use Rattle.std.proofs.Common.{◌≡◌, ◌<◌, ◌≤◌, ◌≢◌, ◌-◌, ℕ, List, length, get_or, ap, subst, ◌∙◌, sym}
use Rattle.sp_cell.specs.declared.spot.Spot.{Spot}
use Rattle.sp_cell.specs.Map.{Map}
use Rattle.sp_cell.specs.Frame.{without_spots_of}
use Rattle.sp_store.proofs.Places.{taken_out, sorted_out, length-out}
use Rattle.sp_store.proofs.slots.Slots.remove_frame.Goals as goal

pub invariant_of-self : goal.invariant_of-self
invariant_of-self c =
    let ss = c.self.inside.spots.items in
    let es = c.self.inside.entries.items in
    let a = c.start_of-start.result in
    let b = c.end_of-end.result in (
      ap length c.take_out.ensures ∙ length-out ss es a b c.self.invariant.0 ∙ sym (ap length c.take_out-2.ensures),
      rw c.take_out.ensures (sorted_out ss a b c.start_of-start.ensures.bound c.self.invariant.1),
    )

pub returns : goal.returns
returns c =
    let ss = c.self.inside.spots.items in
    let es = c.self.inside.entries.items in
    let a = c.start_of-start.result in
    let b = c.end_of-end.result in
    let end = c.deref.ensures.value in
    let start = c.deref-2.ensures.value in
    let bound : b ≤ length ss = subst (λ (xs : List Spot). b ≤ length xs) end c.end_of-end.ensures.bound in
    let after : (k : ℕ) (d : Spot) → b ≤ k → k < length ss
    → c.args.frame < (get_or ss k d).frame =
    subst (λ (xs : List Spot). (k : ℕ) (d : Spot) → b ≤ k → k < length xs → c.args.frame < (get_or xs k d).frame)
    end c.end_of-end.ensures.above in
    let most : (d : Spot) → 0 < b → (get_or ss (b - 1) d).frame ≤ c.args.frame =
    subst (λ (xs : List Spot). (d : Spot) → 0 < b → (get_or xs (b - 1) d).frame ≤ c.args.frame) end
    c.end_of-end.ensures.below in
    let inside : (k : ℕ) (d : Spot) → a ≤ k → k < b
    → (get_or ss k d).frame ≡ c.args.frame =
    subst (λ (xs : List Spot). (k : ℕ) (d : Spot) → a ≤ k → k < b → (get_or xs k d).frame ≡ c.args.frame) start
    c.start_of-start.ensures.inside in
    let other : (d : Spot) → 0 < a → (get_or ss (a - 1) d).frame ≢ c.args.frame =
    subst (λ (xs : List Spot). (d : Spot) → 0 < a → (get_or xs (a - 1) d).frame ≢ c.args.frame) start
    c.start_of-start.ensures.below in
    rw (c.take_out.ensures, c.take_out-2.ensures)
    (taken_out ss es c.self.invariant.1 c.self.invariant.0 c.args.frame a b c.start_of-start.ensures.bound bound
    after inside most other)
    ∙ ap (λ (m : Map). without_spots_of m c.args.frame) c.self.view_is
