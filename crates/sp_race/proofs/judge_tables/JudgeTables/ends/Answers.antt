use Rattle.std.proofs.Common.{◌+◌, ◌<◌, length, refl, sym, ap, ◌∙◌, subst}
use Rattle.std.proofs.lemmas.Result.{on_ok_weaker}
use Rattle.sp_journal.specs.declared.entry.Event.TheVariants as event
use Rattle.sp_journal.specs.Births.{births}
use Rattle.sp_race.specs.Clocks.{clock_at, number_at, IsAsked}
use Rattle.sp_race.proofs.Steps.{made_inside, clocks_inside, inside_over, raised_over, is_there, parent_inside, ended}
use Rattle.sp_race.proofs.Steps.{ended_root, ok_both}
use Rattle.sp_race.proofs.judge_tables.JudgeTables.ends.Goals as goal

pub note-requires : goal.note-requires
note-requires c = made_inside c.args.entries.now c.requires.tame c.args.at
    (record { process = c.args.process; event = event.End }) c.requires.here c.args.until.now c.args.self.now
    c.requires.holds

pub raise-requires : goal.raise-requires
raise-requires c = inside_over c.args.process _ _ c.note.ensures.clocks
    (clocks_inside c.args.entries.now c.requires.tame c.args.at (record { process = c.args.process; event = event.End })
    c.requires.here c.args.until.now c.args.self.now c.requires.holds)

pub birth-requires-clause-there : goal.birth-requires-clause-there
birth-requires-clause-there c = subst (λ es. c.args.process < (births es).processes) (sym c.requires.its_journal)
    (is_there c.args.entries.now c.requires.tame c.args.at (record { process = c.args.process; event = event.End })
    c.requires.here c.args.until.now c.args.self.now c.requires.holds)

pub learn-requires-clause-learner : goal.learn-requires-clause-learner
learn-requires-clause-learner c =
    subst (λ n. c.in-Some.birth.parent < n) (sym (c.in-Ok-raise.ensures.len ∙ ap length c.note.ensures.clocks))
    (parent_inside c.args.entries.now c.requires.tame c.args.at (record { process = c.args.process; event = event.End })
    c.requires.here c.args.until.now c.args.self.now c.requires.holds c.in-Some.birth
    (sym c.in-Some.is ∙ c.birth.ensures ∙ ap (λ es. (births es).birth c.args.process) c.requires.its_journal))

pub learn-requires-clause-teacher : goal.learn-requires-clause-teacher
learn-requires-clause-teacher c =
    subst (λ n. c.args.process < n) (sym (c.in-Ok-raise.ensures.len ∙ ap length c.note.ensures.clocks))
    (clocks_inside c.args.entries.now c.requires.tame c.args.at (record { process = c.args.process; event = event.End })
    c.requires.here c.args.until.now c.args.self.now c.requires.holds)

pub returns-in-None : goal.returns-in-None
returns-in-None c =
    let b = c.args.self.now in
    ended_root c.args.entries.now c.requires.tame c.args.at (record { process = c.args.process; event = event.End })
    c.requires.here c.args.until.now b c.requires.holds
    _ (c.in-Ok-raise.ensures.len ∙ ap length c.note.ensures.clocks) c.in-Ok.ensures.places
    c.in-Ok.ensures.made c.note.ensures.lines refl c.note.ensures.next
    (sym c.in-None.is ∙ c.birth.ensures ∙ ap (λ es. (births es).birth c.args.process) c.requires.its_journal)
    (raised_over c.args.process b.clocks.items c.note.new.self.clocks.items c.note.ensures.clocks c.in-Ok.value
    (number_at b.made.items c.args.process + 1) c.in-Ok.ensures.count
    (IsAsked c.args.until.now (c.args.at + 1)) (clock_at c.raise.new.clocks.items) c.in-Ok-raise.ensures.clocks)

pub returns-in-Some : goal.returns-in-Some
returns-in-Some c =
    let b = c.args.self.now in
    on_ok_weaker c.learn.result (λ x. ended c.args.entries.now c.requires.tame c.args.at
    (record { process = c.args.process; event = event.End }) c.requires.here c.args.until.now b c.requires.holds
    _ (x.0 ∙ c.in-Ok-raise.ensures.len ∙ ap length c.note.ensures.clocks) c.in-Ok.ensures.places
    c.in-Ok.ensures.made c.note.ensures.lines refl c.note.ensures.next
    c.in-Some.birth (sym c.in-Some.is ∙ c.birth.ensures
    ∙ ap (λ es. (births es).birth c.args.process) c.requires.its_journal) (clock_at c.raise.new.clocks.items)
    (raised_over c.args.process b.clocks.items c.note.new.self.clocks.items c.note.ensures.clocks c.in-Ok.value
    (number_at b.made.items c.args.process + 1) c.in-Ok.ensures.count
    (IsAsked c.args.until.now (c.args.at + 1)) (clock_at c.raise.new.clocks.items) c.in-Ok-raise.ensures.clocks)
    x.1) (ok_both _ _ c.learn.result c.learn.ensures.len c.learn.ensures.clocks)
