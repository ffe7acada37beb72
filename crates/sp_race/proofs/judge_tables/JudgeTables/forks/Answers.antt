use Rattle.std.proofs.Common.{ℕ, ◌+◌, ◌<◌, length, refl, sym, ap, ◌∙◌, subst, arith}
use Rattle.sp_journal.specs.declared.entry.Event.TheVariants as event
use Rattle.sp_race.specs.Clocks.{clock_at, number_at, IsAsked}
use Rattle.sp_race.proofs.Steps.{made_inside, clocks_inside, inside_over, raised_over, forked}
use Rattle.sp_race.proofs.Steps.{before_next, children_inside, children_few, shared_over}
use Rattle.sp_race.proofs.judge_tables.JudgeTables.forks.Goals as goal

pub note-requires : goal.note-requires
note-requires c = made_inside c.args.entries.now c.requires.tame c.args.at
    (record { process = c.args.process; event = event.Fork c.args.count }) c.requires.here c.args.until.now
    c.args.self.now c.requires.holds

pub raise-requires : goal.raise-requires
raise-requires c = inside_over c.args.process _ _ c.note.ensures.clocks
    (clocks_inside c.args.entries.now c.requires.tame c.args.at
    (record { process = c.args.process; event = event.Fork c.args.count }) c.requires.here c.args.until.now
    c.args.self.now c.requires.holds)

pub share-requires-clause-before : goal.share-requires-clause-before
share-requires-clause-before c = subst (λ (n : ℕ). c.args.process < n) (sym c.note.ensures.next)
    (before_next c.args.entries.now c.requires.tame c.args.at
    (record { process = c.args.process; event = event.Fork c.args.count }) c.requires.here c.args.until.now
    c.args.self.now c.requires.holds)

pub share-requires-clause-there : goal.share-requires-clause-there
share-requires-clause-there c =
    let a = children_inside c.args.entries.now c.requires.tame c.args.at
    (record { process = c.args.process; event = event.Fork c.args.count }) c.requires.here c.args.until.now
    c.args.self.now c.requires.holds c.args.count refl in
    let n = c.note.ensures.next in
    let l = c.in-Ok-raise.ensures.len ∙ ap length c.note.ensures.clocks in
    omega (arith, a, n, l)

pub share-requires-clause-few : goal.share-requires-clause-few
share-requires-clause-few c =
    let a = children_few c.args.entries.now c.requires.tame c.args.at
    (record { process = c.args.process; event = event.Fork c.args.count }) c.requires.here c.args.until.now
    c.args.self.now c.requires.holds c.args.count refl in
    let n = c.note.ensures.next in
    omega (arith, a, n)

pub overflow_add-self : goal.overflow_add-self
overflow_add-self c =
    let a = children_few c.args.entries.now c.requires.tame c.args.at
    (record { process = c.args.process; event = event.Fork c.args.count }) c.requires.here c.args.until.now
    c.args.self.now c.requires.holds c.args.count refl in
    let n = c.note.ensures.next in
    omega (arith, a, n)

pub returns : goal.returns
returns c =
    let b = c.args.self.now in
    forked c.args.entries.now c.requires.tame c.args.at
    (record { process = c.args.process; event = event.Fork c.args.count }) c.requires.here c.args.until.now b
    c.requires.holds
    _ (c.in-Ok-share.ensures.len ∙ c.in-Ok-raise.ensures.len ∙ ap length c.note.ensures.clocks)
    c.in-Ok.ensures.places c.in-Ok.ensures.made c.note.ensures.lines c.args.count refl
    (λ i. c.note.ensures.next i + c.from.ensures i) (clock_at c.raise.new.clocks.items)
    (raised_over c.args.process b.clocks.items c.note.new.self.clocks.items c.note.ensures.clocks c.in-Ok.value
    (number_at b.made.items c.args.process + 1) c.in-Ok.ensures.count
    (IsAsked c.args.until.now (c.args.at + 1)) (clock_at c.raise.new.clocks.items) c.in-Ok-raise.ensures.clocks)
    (shared_over c.note.new.self.next b.next c.note.ensures.next c.args.count c.args.process
    (clock_at c.raise.new.clocks.items) (clock_at c.share.new.clocks.items) c.in-Ok-share.ensures.clocks)
