use Rattle.std.proofs.Common.{sym, subst, IfOk}
use Rattle.sp_base.specs.declared.limits.TheConstants.{TURN_TICKS}
use Rattle.sp_journal.specs.declared.entry.Journal.{Journal}
use Rattle.sp_journal.specs.declared.outcome.End.{End}
use Rattle.sp_journal.specs.Births.{occurrences}
use Rattle.sp_meaning.specs.LocalWork.{RunInput}
use Rattle.sp_race.specs.Prefixes.{WaitersAreSilent}
use Rattle.sp_tree.specs.Interference.{IsFreeOfInterference}
use Rattle.sp_race.specs.Races.{IsVerdict}
use Rattle.sp_execute.specs.Runs.{IsAbout, Promises}
use Rattle.sp_execute.proofs.VerdictFacts.{alike, if_judged}
use Rattle.sp_execute.proofs.verdict.judge.Goals as goal

pub verdict_of-requires-clause-silent : goal.verdict_of-requires-clause-silent
verdict_of-requires-clause-silent c =
    let a = c.requires.about in
    subst (λ (j : Journal). WaitersAreSilent (occurrences j)) (sym c.journal.ensures)
    (c.runs_are_silent.ensures a.0 TURN_TICKS
    (occurrences c.args.concluded.now.closed.journal) a.1.steps a.1.state a.1.along)

pub returns-clause-exact : goal.returns-clause-exact
returns-clause-exact c =
    subst (λ (j : Journal). IfOk c.verdict_of.result
    (λ v. IsVerdict (occurrences j) c.args.concluded.now.closed.end v)) c.journal.ensures
    (subst (λ (e : End). IfOk c.verdict_of.result
    (λ v. IsVerdict (occurrences c.journal.result.now) e v)) c.end.ensures c.verdict_of.ensures)

pub returns-clause-promise : goal.returns-clause-promise
returns-clause-promise c =
    let d = c.args.concluded.now.closed in
    if_judged (λ v. IsVerdict (occurrences d.journal) d.end v) (λ v. (g : RunInput) → IsFreeOfInterference g.program
    → IsAbout g d → Promises g d v)
    (λ v x g free a. (
      a,
      alike g (occurrences d.journal) a.steps a.state d.end v
          (c.verdicts_hold_of_runs.ensures g TURN_TICKS (occurrences d.journal) a.steps a.state d.end v free a.along
          a.end x),
    ))
    c.verdict_of.result
    (subst (λ (j : Journal). IfOk c.verdict_of.result (λ v. IsVerdict (occurrences j) d.end v)) c.journal.ensures
    (subst (λ (e : End). IfOk c.verdict_of.result
    (λ v. IsVerdict (occurrences c.journal.result.now) e v)) c.end.ensures c.verdict_of.ensures))
