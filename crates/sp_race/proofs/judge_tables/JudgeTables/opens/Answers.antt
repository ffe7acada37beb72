use Rattle.std.proofs.Common.{◌+◌, length, refl, ap, ◌∙◌}
use Rattle.sp_journal.specs.declared.entry.Event.TheVariants as event
use Rattle.sp_race.specs.Clocks.{clock_at, number_at, IsAsked}
use Rattle.sp_race.proofs.Steps.{made_inside, clocks_inside, inside_over, raised_over, opened}
use Rattle.sp_race.proofs.judge_tables.JudgeTables.opens.Goals as goal

pub note-requires : goal.note-requires
note-requires c = made_inside c.args.entries.now c.requires.tame c.args.at
    (record { process = c.args.process; event = event.Open }) c.requires.here c.args.until.now c.args.self.now
    c.requires.holds

pub raise-requires : goal.raise-requires
raise-requires c = inside_over c.args.process _ _ c.note.ensures.clocks
    (clocks_inside c.args.entries.now c.requires.tame c.args.at
    (record { process = c.args.process; event = event.Open }) c.requires.here c.args.until.now c.args.self.now
    c.requires.holds)

pub returns : goal.returns
returns c =
    let b = c.args.self.now in
    opened c.args.entries.now c.requires.tame c.args.at (record { process = c.args.process; event = event.Open })
    c.requires.here c.args.until.now b c.requires.holds
    _ (c.in-Ok-raise.ensures.len ∙ ap length c.note.ensures.clocks) c.in-Ok.ensures.places
    c.in-Ok.ensures.made c.note.ensures.lines refl c.note.ensures.next
    (raised_over c.args.process b.clocks.items c.note.new.self.clocks.items c.note.ensures.clocks c.in-Ok.value
    (number_at b.made.items c.args.process + 1) c.in-Ok.ensures.count
    (IsAsked c.args.until.now (c.args.at + 1)) (clock_at c.raise.new.clocks.items) c.in-Ok-raise.ensures.clocks)
