use Rattle.std.proofs.Common.{◌<◌, ◌≡◌, true, nat_lt, refl, sym, ◌∙◌, subst, arith, ℕ}
use Rattle.std.proofs.lemmas.Result.{IfOk-weaker}
use Rattle.std.proofs.lemmas.Bool.Decides.{nat_tests}
use Rattle.sp_base.proofs.Facts.{item_is}
use Rattle.sp_journal.specs.declared.entry.Entry.{Entry}
use Rattle.sp_race.specs.JudgeTables.{offer_event}
use Rattle.sp_race.proofs.Steps.{channel_inside, clocks_inside, last_there, knows_none, knows_own, knows_counted}
use Rattle.sp_race.proofs.Steps.{knows_last}
use Rattle.sp_race.proofs.Halves.{inside, there}
use Rattle.sp_race.proofs.knowledge.knows_offers.Goals as goal

lt_of : (a b : ℕ) → true ≡ nat_lt a b → a < b
lt_of a b e = grind (arith, nat_tests)

pub index-requires : goal.index-requires
index-requires c = subst (λ n. c.args.offer.channel < n) (sym c.args.tables.now.lines.ok.0)
    (channel_inside c.args.entries.now c.requires.tame c.args.at
    (record { process = c.args.offer.process; event = offer_event c.args.offer.way c.args.offer.channel })
    c.requires.here c.args.until.now c.args.tables.now c.requires.holds c.args.offer.way c.args.offer.channel refl)

pub index-requires-then-is_asked : goal.index-requires-then-is_asked
index-requires-then-is_asked c = subst (λ n. c.args.offer.process < n) (sym c.args.tables.now.clocks.ok.0)
    (clocks_inside c.args.entries.now c.requires.tame c.args.at
    (record { process = c.args.offer.process; event = offer_event c.args.offer.way c.args.offer.channel })
    c.requires.here c.args.until.now c.args.tables.now c.requires.holds)

pub knows_entry-requires-clause-inside : goal.knows_entry-requires-clause-inside
knows_entry-requires-clause-inside c = inside c.args.entries.now c.requires.tame c.args.at c.args.offer.process
    c.args.offer.way c.args.offer.channel c.requires.here

pub knows_entry-requires-clause-process : goal.knows_entry-requires-clause-process
knows_entry-requires-clause-process c = there c.args.entries.now c.requires.tame c.args.at c.args.offer.process
    c.args.offer.way c.args.offer.channel c.requires.here

pub knows_entry-requires-clause-other : goal.knows_entry-requires-clause-other
knows_entry-requires-clause-other c =
    let e : Entry = record {
      process = c.args.offer.process;
      event = offer_event c.args.offer.way c.args.offer.channel;
    } in
    let i = channel_inside c.args.entries.now c.requires.tame c.args.at e c.requires.here c.args.until.now
    c.args.tables.now c.requires.holds c.args.offer.way c.args.offer.channel refl in
    last_there c.args.entries.now c.requires.tame c.args.at e c.requires.here c.args.until.now c.args.tables.now
    c.requires.holds c.args.offer.way c.args.offer.channel refl
    c.index.result.now (item_is c.args.tables.now.lines.items c.args.offer.channel c.index.result.now i c.index.ensures)
    c.in-Some.last (sym c.last.ensures ∙ c.in-Some.is) c.requires.in_order

pub returns-in-None : goal.returns-in-None
returns-in-None c =
    let e : Entry = record {
      process = c.args.offer.process;
      event = offer_event c.args.offer.way c.args.offer.channel;
    } in
    let i = channel_inside c.args.entries.now c.requires.tame c.args.at e c.requires.here c.args.until.now
    c.args.tables.now c.requires.holds c.args.offer.way c.args.offer.channel refl in (
      λ t. knows_none c.args.entries.now c.requires.tame c.args.at e c.requires.here c.args.until.now c.args.tables.now
          c.requires.holds c.args.offer.way c.args.offer.channel refl
          c.index.result.now (item_is c.args.tables.now.lines.items c.args.offer.channel c.index.result.now i
          c.index.ensures) (sym c.last.ensures ∙ c.in-None.is),
      λ k. refl,
    )

pub returns-then-last-offer : goal.returns-then-last-offer
returns-then-last-offer c =
    let e : Entry = record {
      process = c.args.offer.process;
      event = offer_event c.args.offer.way c.args.offer.channel;
    } in
    let i = channel_inside c.args.entries.now c.requires.tame c.args.at e c.requires.here c.args.until.now
    c.args.tables.now c.requires.holds c.args.offer.way c.args.offer.channel refl in (
      λ t. knows_own c.args.entries.now c.requires.tame c.args.at e c.requires.here c.args.until.now c.args.tables.now
          c.requires.holds c.args.offer.way c.args.offer.channel refl
          c.index.result.now (item_is c.args.tables.now.lines.items c.args.offer.channel c.index.result.now i
          c.index.ensures) c.in-Some.last (sym c.last.ensures ∙ c.in-Some.is) c.requires.in_order
          c.if-last-offer.true,
      λ k. refl,
    )

pub returns-then-is_asked : goal.returns-then-is_asked
returns-then-is_asked c =
    let e : Entry = record {
      process = c.args.offer.process;
      event = offer_event c.args.offer.way c.args.offer.channel;
    } in
    let i = channel_inside c.args.entries.now c.requires.tame c.args.at e c.requires.here c.args.until.now
    c.args.tables.now c.requires.holds c.args.offer.way c.args.offer.channel refl in
    let f = knows_last c.args.entries.now c.requires.tame c.args.at e c.requires.here c.args.until.now c.args.tables.now
    c.requires.holds c.args.offer.way c.args.offer.channel refl
    c.index.result.now (item_is c.args.tables.now.lines.items c.args.offer.channel c.index.result.now i c.index.ensures)
    c.in-Some.last (sym c.last.ensures ∙ c.in-Some.is) c.requires.in_order
    (lt_of c.args.at _ c.if-is_asked.ensures) c.index-then-is_asked.result.now c.index-then-is_asked.ensures in
    (λ t. f.0 (c.knows.ensures.0 t), λ k. c.knows.ensures.1 (f.1 k))

pub returns-else-is_asked : goal.returns-else-is_asked
returns-else-is_asked c =
    let e : Entry = record {
      process = c.args.offer.process;
      event = offer_event c.args.offer.way c.args.offer.channel;
    } in
    let i = channel_inside c.args.entries.now c.requires.tame c.args.at e c.requires.here c.args.until.now
    c.args.tables.now c.requires.holds c.args.offer.way c.args.offer.channel refl in
    let f = knows_counted c.args.entries.now c.requires.tame c.args.at e c.requires.here c.args.until.now
    c.args.tables.now c.requires.holds c.args.offer.way c.args.offer.channel refl
    c.index.result.now (item_is c.args.tables.now.lines.items c.args.offer.channel c.index.result.now i c.index.ensures)
    c.in-Some.last (sym c.last.ensures ∙ c.in-Some.is) c.requires.in_order in
    IfOk-weaker c.knows_entry.result _ _ (λ x h. (λ t. f.0 (h.0 t), λ k. h.1 (f.1 k))) c.knows_entry.ensures
