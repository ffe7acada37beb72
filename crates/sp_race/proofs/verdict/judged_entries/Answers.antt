use Rattle.std.proofs.Common.{◌≡◌, ◌+◌, length, take, get_or, Some, slice_get, sym, ap, ◌∙◌, subst, arith}
use Rattle.std.proofs.lemmas.Option.{slice_get-get_or}
use Rattle.std.specs.Result.{IfOk}
use Rattle.sp_journal.specs.declared.entry.Journal.{Journal}
use Rattle.sp_journal.specs.Births.{births, occurrences}
use Rattle.sp_journal.proofs.Walk.{any_entry}
use Rattle.sp_race.specs.OfferOrder.{AreKnown}
use Rattle.sp_race.specs.JudgeTables.{entries_by_names, IsNameableAndSilent, IsBlank, TablesHold}
use Rattle.sp_race.specs.Races.{IsJudged}
use Rattle.sp_race.proofs.Numbers.{all_named}
use Rattle.sp_race.proofs.VerdictSteps.{nameable_and_silent_of, blank_holds, known_next, all_ordered, none_racing}
use Rattle.sp_race.proofs.verdict.judged_entries.Goals as goal

pub loop-at-init : goal.loop-at-init
loop-at-init c =
    let es = c.items-entries.result.now in
    let is : c.args.journal.now.entries ≡ es = sym c.items-entries.ensures in
    let p : c.processes-2.result ≡ (births es).processes = c.processes-2.ensures.value
    ∙ ap (λ (j : Journal). (births j.entries).processes) c.in-Ok.ensures.1
    ∙ ap (λ xs. (births xs).processes) is in
    let q : c.channels-2.result ≡ (births es).channels = c.channels-2.ensures.value
    ∙ ap (λ (j : Journal). (births j.entries).channels) c.in-Ok.ensures.1
    ∙ ap (λ xs. (births xs).channels) is in (
      blank_holds es c.in-Ok-new.value (subst (λ n. IsBlank c.in-Ok-new.value n (births es).channels) p
          (subst (λ n. IsBlank c.in-Ok-new.value c.processes-2.result n) q c.in-Ok-new.ensures))
          c.in-Ok-questions.value.items,
      tt,
    )

pub racing-requires-clause-tame : goal.racing-requires-clause-tame
racing-requires-clause-tame c = subst IsNameableAndSilent (sym c.items-entries.ensures)
    (nameable_and_silent_of c.args.journal.now c.requires.nameable c.requires.silent)

pub race-requires-clause-tame : goal.race-requires-clause-tame
race-requires-clause-tame c = subst IsNameableAndSilent (sym c.items-entries.ensures)
    (nameable_and_silent_of c.args.journal.now c.requires.nameable c.requires.silent)

pub see-requires-clause-tame : goal.see-requires-clause-tame
see-requires-clause-tame c = subst IsNameableAndSilent (sym c.items-entries.ensures)
    (nameable_and_silent_of c.args.journal.now c.requires.nameable c.requires.silent)

pub returns-in-Some : goal.returns-in-Some
returns-in-Some c =
    let is : entries_by_names (births c.items-entries.result.now) c.items-entries.result.now
    ≡ occurrences c.args.journal.now =
    ap (λ xs. entries_by_names (births xs) xs) c.items-entries.ensures
    ∙ sym (all_named c.args.journal.now.entries c.requires.nameable) in
    subst (λ os. IfOk c.race.result (λ v. IsJudged os v)) is c.race.ensures

pub loop-at-preserved : goal.loop-at-preserved
loop-at-preserved c =
    let es = c.items-entries.result.now in
    let at = c.loop-at.at in
    let e = get_or es at any_entry in
    let inside : slice_get es at ≡ Some e = slice_get-get_or es at any_entry c.loop-at-test.true in
    let tame = subst IsNameableAndSilent (sym c.items-entries.ensures)
    (nameable_and_silent_of c.args.journal.now c.requires.nameable c.requires.silent) in (
      subst (λ u. TablesHold (births es) u (take (at + 1) es) c.see.new.self) c.deref-in-loop-at.ensures.value
          c.in-Ok-see.ensures,
      known_next es tame at e inside c.loop-at.invariant.1
          (none_racing es at c.in-Ok-racing.value c.in-Ok-racing.ensures c.in_default.not-Some e inside),
    )

pub returns : goal.returns
returns c =
    let es = c.items-entries.result.now in
    let is = c.items-entries.ensures in
    let f = c.loop-at-test.false in
    let l = ap length is in
    all_ordered c.args.journal.now c.requires.nameable c.loop-at.at (omega (arith, f, l))
    (subst (λ xs. AreKnown (entries_by_names (births xs) (take c.loop-at.at xs))) is c.loop-at.invariant.1)
