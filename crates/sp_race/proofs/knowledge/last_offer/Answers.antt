use Rattle.std.proofs.Common.{◌≡◌, ◌⊎◌, ⊎_elim, ◌<◌, ◌≤◌, ◌-◌, ℕ, length, sym, ◌∙◌, subst, arith}
use Rattle.std.proofs.lemmas.Bool.{true≢false}
use Rattle.sp_race.specs.JudgeTables.{IsOfferAt}
use Rattle.sp_race.proofs.Halves.{offer_here, offer_there}
use Rattle.sp_race.proofs.knowledge.last_offer.Goals as goal

pub returns-then-is_offer : goal.returns-then-is_offer
returns-then-is_offer c =
    let h = c.loop-i.invariant in
    let test = c.loop-i-test.true in
    let room = c.requires in
    let low = h.0 in
    let inside : c.loop-i.i - 1 < length c.args.entries.now = omega (arith, test, room, low) in (
      omega (arith, test, low),
      offer_here c.args.entries.now c.args.way c.args.channel (c.loop-i.i - 1) _ inside
          (c.is_offer.ensures.0 c.if-is_offer.true),
      λ k a b. h.1 k (omega (arith, a, test)) b,
    )

pub loop-i-preserved : goal.loop-i-preserved
loop-i-preserved c =
    let h = c.loop-i.invariant in
    let test = c.loop-i-test.true in
    let low = h.0 in (
      omega (arith, low),
      λ k a b o. ⊎_elim
          (λ (x : k < c.loop-i.i). true≢false
          (sym (c.is_offer.ensures.1 (offer_there c.args.entries.now c.args.way c.args.channel (c.loop-i.i - 1)
          (subst (IsOfferAt c.args.entries.now c.args.way c.args.channel) (only k (c.loop-i.i) a x) o) _))
          ∙ c.if-is_offer.false))
          (λ (x : c.loop-i.i ≤ k). h.1 k x b o)
          (low_or_not k c.loop-i.i),
    )
  where
    only : (k i : ℕ) → i - 1 ≤ k → k < i → k ≡ i - 1
    only k i a b = omega arith

    low_or_not : (a b : ℕ) → (a < b) ⊎ (b ≤ a)
    low_or_not a b = grind (arith)

pub returns : goal.returns
returns c k l o = let f = c.loop-i-test.false in c.loop-i.invariant.1 k (omega (arith, f)) l o
