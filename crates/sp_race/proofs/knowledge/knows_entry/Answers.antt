use Rattle.std.proofs.Common.{◌≡◌, ◌<◌, ◌+◌, ◌≤◌, take, length, sym, ap, ◌∙◌, subst, arith}
use Rattle.sp_journal.specs.Births.{births}
use Rattle.sp_race.specs.Clocks.{number_at}
use Rattle.sp_race.specs.JudgeTables.{IsBlank, TablesHold}
use Rattle.sp_race.proofs.VerdictSteps.{blank_holds}
use Rattle.sp_race.proofs.Halves.{clock_says}
use Rattle.sp_race.proofs.knowledge.knows_entry.Goals as goal

pub loop-i-init : goal.loop-i-init
loop-i-init c =
    let es = c.args.entries.now in
    let p : c.processes-2.result ≡ (births es).processes = c.processes-2.ensures.value
    ∙ ap (λ xs. (births xs).processes) c.requires.its_journal in
    let q : c.channels.result ≡ (births es).channels = c.channels.ensures.value
    ∙ ap (λ xs. (births xs).channels) c.requires.its_journal in
    blank_holds es c.in-Ok-new.value (subst (λ n. IsBlank c.in-Ok-new.value n (births es).channels) p
    (subst (λ n. IsBlank c.in-Ok-new.value c.processes-2.result n) q c.in-Ok-new.ensures))
    c.in-Ok.value.items

pub returns : goal.returns
returns c =
    let es = c.args.entries.now in
    let i = c.loop-i.i in
    let end : i ≡ c.args.at = (let f = c.loop-i-test.false in let a = c.loop-i.auto.i-end in omega (arith, f, a)) in
    let holds : TablesHold (births es) c.in-Ok.value.items (take c.args.at es) c.loop-i.tables =
    subst (λ n. TablesHold (births es) c.in-Ok.value.items (take n es) c.loop-i.tables) end c.loop-i.invariant in
    let asked : c.args.at < number_at c.in-Ok.value.items c.args.offer.process =
    (let u : number_at c.in-Ok.value.items c.args.offer.process ≡ c.args.at + 1 = c.in-Ok.ensures in
    omega (arith, u)) in
    let inside : c.args.at ≤ length es = (let a = c.requires.inside in omega (arith, a)) in
    let says = clock_says es c.requires.tame c.args.at c.in-Ok.value.items c.loop-i.tables holds inside
    c.args.process c.args.offer.process c.requires.process c.requires.other asked c.index.result.now
    c.index.ensures in (
      λ k. subst (λ n. c.args.offer.place < n) says (c.knows.ensures.0 k),
      λ k. c.knows.ensures.1 (subst (λ n. c.args.offer.place < n) (sym says) k),
    )
