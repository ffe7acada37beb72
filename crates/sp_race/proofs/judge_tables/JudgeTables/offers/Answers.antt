use Rattle.std.proofs.Common.{◌≡◌, ◌-◌, ◌<◌, length, slice_set, get_or, Some, None, refl, sym, ap, ◌∙◌, subst, arith}
use Rattle.sp_base.proofs.Facts.{item_is}
use Rattle.sp_race.specs.Clocks.{clock_at, clocks_after_meeting, number_at}
use Rattle.sp_race.specs.JudgeTables.{offer_event, channel_offers_with}
use Rattle.sp_race.proofs.Steps.{made_inside, clocks_inside, channel_inside, inside_over, waits_there}
use Rattle.sp_race.proofs.Steps.{waits_apart, offer_waits, offer_meets}
use Rattle.sp_race.proofs.judge_tables.JudgeTables.offers.Goals as goal

pub note-requires : goal.note-requires
note-requires c = made_inside c.args.entries.now c.requires.tame c.args.at
    (record { process = c.args.process; event = offer_event c.args.way c.args.channel }) c.requires.here
    c.args.until.now c.args.self.now c.requires.holds

pub index-line-requires : goal.index-line-requires
index-line-requires c = subst (λ n. c.args.channel < n)
    (sym (c.note.new.self.lines.ok.0 ∙ ap length c.note.ensures.lines))
    (channel_inside c.args.entries.now c.requires.tame c.args.at
    (record { process = c.args.process; event = offer_event c.args.way c.args.channel }) c.requires.here
    c.args.until.now c.args.self.now c.requires.holds c.args.way c.args.channel refl)

pub index_mut-requires : goal.index_mut-requires
index_mut-requires c = subst (λ n. c.args.channel < n)
    (sym (c.note.new.self.lines.ok.0 ∙ ap length c.note.ensures.lines))
    (channel_inside c.args.entries.now c.requires.tame c.args.at
    (record { process = c.args.process; event = offer_event c.args.way c.args.channel }) c.requires.here
    c.args.until.now c.args.self.now c.requires.holds c.args.way c.args.channel refl)

pub index_mut-requires-in-Some : goal.index_mut-requires-in-Some
index_mut-requires-in-Some c = subst (λ n. c.args.channel < n)
    (sym (c.note.new.self.lines.ok.0 ∙ ap length c.note.ensures.lines))
    (channel_inside c.args.entries.now c.requires.tame c.args.at
    (record { process = c.args.process; event = offer_event c.args.way c.args.channel }) c.requires.here
    c.args.until.now c.args.self.now c.requires.holds c.args.way c.args.channel refl)

pub meet-requires-clause-comes : goal.meet-requires-clause-comes
meet-requires-clause-comes c = inside_over c.args.process _ _ c.note.ensures.clocks
    (clocks_inside c.args.entries.now c.requires.tame c.args.at
    (record { process = c.args.process; event = offer_event c.args.way c.args.channel }) c.requires.here
    c.args.until.now c.args.self.now c.requires.holds)

pub meet-requires-clause-waits : goal.meet-requires-clause-waits
meet-requires-clause-waits c =
    let l = c.index-line.result.now in
    let i = channel_inside c.args.entries.now c.requires.tame c.args.at
    (record { process = c.args.process; event = offer_event c.args.way c.args.channel }) c.requires.here
    c.args.until.now c.args.self.now c.requires.holds c.args.way c.args.channel refl in
    let line = item_is c.args.self.now.lines.items c.args.channel l i
    (c.index-line.ensures ∙ ap (λ xs. get_or xs c.args.channel l) c.note.ensures.lines) in
    subst (λ cs. c.in-Some.other.process < length cs) (sym c.note.ensures.clocks)
    (waits_there c.args.entries.now c.requires.tame c.args.at
    (record { process = c.args.process; event = offer_event c.args.way c.args.channel }) c.requires.here
    c.args.until.now c.args.self.now c.requires.holds c.args.way c.args.channel refl l line c.in-Some.other
    c.in-Some.is)

pub meet-requires-clause-apart : goal.meet-requires-clause-apart
meet-requires-clause-apart c =
    let l = c.index-line.result.now in
    let i = channel_inside c.args.entries.now c.requires.tame c.args.at
    (record { process = c.args.process; event = offer_event c.args.way c.args.channel }) c.requires.here
    c.args.until.now c.args.self.now c.requires.holds c.args.way c.args.channel refl in
    let line = item_is c.args.self.now.lines.items c.args.channel l i
    (c.index-line.ensures ∙ ap (λ xs. get_or xs c.args.channel l) c.note.ensures.lines) in
    waits_apart c.args.entries.now c.requires.tame c.args.at
    (record { process = c.args.process; event = offer_event c.args.way c.args.channel }) c.requires.here
    c.args.until.now c.args.self.now c.requires.holds c.args.way c.args.channel refl l line c.in-Some.other
    c.in-Some.is

pub returns-in-None : goal.returns-in-None
returns-in-None c =
    let b = c.args.self.now in
    let l = c.index-line.result.now in
    let i = channel_inside c.args.entries.now c.requires.tame c.args.at
    (record { process = c.args.process; event = offer_event c.args.way c.args.channel }) c.requires.here
    c.args.until.now c.args.self.now c.requires.holds c.args.way c.args.channel refl in
    let line = item_is b.lines.items c.args.channel l i
    (c.index-line.ensures ∙ ap (λ xs. get_or xs c.args.channel l) c.note.ensures.lines) in
    let place : c.in-Ok.value - 1 ≡ number_at b.made.items c.args.process = let n = c.in-Ok.ensures.count in
    omega (arith, n) in
    let now_is = c.then.ensures
    ∙ (λ j. channel_offers_with c.args.way (record { process = c.args.process; place = place j })
    (Some (record { process = c.args.process; place = place j })) l) in
    offer_waits c.args.entries.now c.requires.tame c.args.at
    (record { process = c.args.process; event = offer_event c.args.way c.args.channel }) c.requires.here
    c.args.until.now c.args.self.now c.requires.holds
    _ (ap length c.note.ensures.clocks) c.in-Ok.ensures.places c.in-Ok.ensures.made c.args.way
    c.args.channel refl l line c.note.ensures.next
    c.in-None.is (λ j. slice_set (c.note.ensures.lines j) c.args.channel (now_is j)) c.note.ensures.clocks

pub returns-in-Ok-meet : goal.returns-in-Ok-meet
returns-in-Ok-meet c =
    let b = c.args.self.now in
    let l = c.index-line.result.now in
    let i = channel_inside c.args.entries.now c.requires.tame c.args.at
    (record { process = c.args.process; event = offer_event c.args.way c.args.channel }) c.requires.here
    c.args.until.now c.args.self.now c.requires.holds c.args.way c.args.channel refl in
    let line = item_is b.lines.items c.args.channel l i
    (c.index-line.ensures ∙ ap (λ xs. get_or xs c.args.channel l) c.note.ensures.lines) in
    let place : c.in-Ok.value - 1 ≡ number_at b.made.items c.args.process = let n = c.in-Ok.ensures.count in
    omega (arith, n) in
    let now_is = c.then-in-Some.ensures ∙ (λ j. channel_offers_with c.args.way
    (record { process = c.args.process; place = place j }) None l) in
    offer_meets c.args.entries.now c.requires.tame c.args.at
    (record { process = c.args.process; event = offer_event c.args.way c.args.channel }) c.requires.here
    c.args.until.now c.args.self.now c.requires.holds
    _ (c.in-Ok-meet.ensures.len ∙ ap length c.note.ensures.clocks) c.in-Ok.ensures.places
    c.in-Ok.ensures.made c.args.way c.args.channel refl l line c.note.ensures.next
    c.in-Some.other c.in-Some.is (λ j. slice_set (c.note.ensures.lines j) c.args.channel (now_is j))
    (λ r q a. c.in-Ok-meet.ensures.clocks r q a
    ∙ (λ j. clocks_after_meeting (clock_at (c.note.ensures.clocks j)) c.args.process (c.in-Ok.ensures.count j)
    c.in-Some.other.process (c.in-Ok-one_more.ensures j) r q))
