use Rattle.std.proofs.Common.{rules, ◌<◌, ◌≤◌, ◌-◌, ◌/◌, length, sym, ◌∙◌, subst, arith}
use Rattle.std.proofs.lemmas.Bool.{true≢false}
use Rattle.sp_journal.specs.declared.entry.Entry.{Entry}
use Rattle.sp_journal.specs.declared.entry.Event.TheVariants as event
use Rattle.sp_race.proofs.Halves.{inside, there, other_there, none_below, all_below, place_there, counted}
use Rattle.sp_race.proofs.knowledge.first_unknown.Goals as goal

abbrev any : Entry
any = record { process = 0; event = event.Fork 0 }

pub loop-known-preserved-in-None : goal.loop-known-preserved-in-None
loop-known-preserved-in-None c =
    let h = c.loop-known.invariant in (
      h.0,
      none_below c.args.entries.now c.requires.tame c.args.at c.args.racing_offer.process c.args.racing_offer.way
          c.args.racing_offer.channel c.requires.here _ c.in-None.ensures,
      h.2,
    )

pub bounds-entries-i : goal.bounds-entries-i
bounds-entries-i c =
    let h = c.loop-known.invariant.0 in
    let l = c.in-Some.ensures.0 in
    let a = inside c.args.entries.now c.requires.tame c.args.at c.args.racing_offer.process c.args.racing_offer.way
    c.args.racing_offer.channel c.requires.here in
    omega (arith, h, l, a)

pub offset_bounds-entries-i : goal.offset_bounds-entries-i
offset_bounds-entries-i c = let l : c.in-Some.i < length c.args.entries.now = bounds-entries-i c in search rules

pub index-requires : goal.index-requires
index-requires c =
    let h = c.loop-known.invariant.0 in
    let l = c.in-Some.ensures.0 in
    let p = place_there c.args.entries.now c.requires.tame c.args.at c.args.racing_offer.process c.args.racing_offer.way
    c.args.racing_offer.channel c.requires.here c.args.until.now c.args.tables.now c.requires.holds c.in-Some.i
    (omega (arith, h, l)) in
    subst (λ n. c.in-Some.i < n) (sym c.args.tables.now.places.ok.0) p

pub knows_entry-requires-clause-inside : goal.knows_entry-requires-clause-inside
knows_entry-requires-clause-inside c = inside c.args.entries.now c.requires.tame c.args.at c.args.racing_offer.process
    c.args.racing_offer.way c.args.racing_offer.channel c.requires.here

pub knows_entry-requires-clause-process : goal.knows_entry-requires-clause-process
knows_entry-requires-clause-process c = there c.args.entries.now c.requires.tame c.args.at c.args.racing_offer.process
    c.args.racing_offer.way c.args.racing_offer.channel c.requires.here

pub knows_entry-requires-clause-other : goal.knows_entry-requires-clause-other
knows_entry-requires-clause-other c = other_there c.args.entries.now c.requires.tame c.args.at
    c.args.racing_offer.process
    c.args.racing_offer.way c.args.racing_offer.channel c.requires.here c.in-Some.i c.in-Some.ensures.1 _

pub loop-known-preserved-then-knows : goal.loop-known-preserved-then-knows
loop-known-preserved-then-knows c =
    let h = c.loop-known.invariant in
    let low : c.loop-known.first ≤ c.args.at = h.0 in
    let o = c.in-Some.ensures in
    let l : c.in-Some.i < c.loop-known.first - (c.loop-known.first - c.loop-known.known) / 2 = o.0 in
    let says = counted c.args.entries.now c.requires.tame c.args.at c.args.racing_offer.process c.args.racing_offer.way
    c.args.racing_offer.channel c.requires.here c.args.until.now c.args.tables.now c.requires.holds c.in-Some.i
    c.index.result.now any (omega (arith, low, l)) o.1 c.index.ensures in (
      h.0,
      all_below c.args.entries.now c.requires.tame c.args.at c.args.racing_offer.process c.args.racing_offer.way
          c.args.racing_offer.channel
          c.requires.here c.requires.in_order _ c.in-Some.i (omega (arith, low)) o
          (says.0 (c.in-Ok.ensures.0 c.if-knows.true)),
      h.2,
    )

pub loop-known-preserved : goal.loop-known-preserved
loop-known-preserved c =
    let h = c.loop-known.invariant in
    let low : c.loop-known.first ≤ c.args.at = h.0 in
    let (l, offered, _) = c.in-Some.ensures in
    let (offer, offer_at, offer_is) = offered in
    let says = counted c.args.entries.now c.requires.tame c.args.at c.args.racing_offer.process c.args.racing_offer.way
    c.args.racing_offer.channel c.requires.here c.args.until.now c.args.tables.now c.requires.holds c.in-Some.i
    c.index.result.now any (omega (arith, low, l)) offered c.index.ensures in (
      omega (arith, low, l),
      h.1,
      λ a. (
        offer,
        offer_at,
        offer_is,
        λ k. true≢false
            (sym (c.in-Ok.ensures.1 (says.1 k)) ∙ c.if-knows.false),
      ),
    )

pub returns-then-first-at : goal.returns-then-first-at
returns-then-first-at c =
    let h = c.loop-known.invariant in
    let f = c.loop-known-test.false in
    (c.if-first-at.true, h.2 c.if-first-at.true, λ k l. h.1 k (omega (arith, f, l)))

pub returns-else-first-at : goal.returns-else-first-at
returns-else-first-at c i l = let f = c.loop-known-test.false in let a = c.if-first-at.false in
    c.loop-known.invariant.1 i (omega (arith, f, a, l))
