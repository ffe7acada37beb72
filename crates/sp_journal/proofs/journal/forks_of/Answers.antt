use Rattle.std.proofs.Common.{◌≡◌, ◌≢◌, ◌+◌, ℕ, sym, ap, ◌∙◌, arith, take, cond}
use Rattle.std.proofs.lemmas.Bool.{ne_eqb}
use Rattle.sp_journal.specs.declared.entry.Event.TheVariants as event
use Rattle.sp_journal.specs.Births.{Births, births, births_after_event}
use Rattle.sp_journal.proofs.Facts.{here}
use Rattle.sp_journal.proofs.Walk.{any_entry, more_births, this, after_fork, no_fork}
use Rattle.sp_journal.proofs.journal.forks_of.Goals as goal
use Rattle.sp_journal.proofs.journal.forks_of.Goals.{in-Fork+then-entry-process, in-Fork+else-entry-process, in_default}

fork_here : (s : Births) (p n q : ℕ) → p ≡ q → (births_after_event s p (event.Fork n)).forks q ≡ s.forks q + 1
fork_here s p n q e = ap (λ b. cond b (s.forks p + 1) (s.forks q)) (here p q e) ∙ ap (λ x. s.forks x + 1) e

fork_apart : (s : Births) (p n q : ℕ) → p ≢ q → (births_after_event s p (event.Fork n)).forks q ≡ s.forks q
fork_apart s p n q e = ap (λ b. cond b (s.forks p + 1) (s.forks q)) (ne_eqb p q e)

pub loop-entry-preserved : goal.loop-entry-preserved
loop-entry-preserved c =
    let es = c.args.entries.now in
    let i = c.loop-entry.entry-index in
    let p = c.args.process in
    let l = c.loop-entry-test.true in
    let h = c.loop-entry.invariant in
    let s : Births = births (take i es) in
    let q : ℕ = (this es i l).process in
    elim c.match-entry.branch [
      | in-Fork+then-entry-process w ↦ (
        w.forks-is ∙ ap (λ (x : ℕ). x + 1) h.0 ∙ sym (fork_here s q w.in-Fork.field-0 p w.if-entry-process.true)
            ∙ ap (λ (x : Births). x.forks p) (sym (after_fork es i l w.in-Fork.field-0 w.in-Fork.is)),
        let f = w.forks-is in omega arith,
      )
      | in-Fork+else-entry-process w ↦ (
        w.forks-is ∙ h.0 ∙ sym (fork_apart s q w.in-Fork.field-0 p w.if-entry-process.false)
            ∙ ap (λ (x : Births). x.forks p) (sym (after_fork es i l w.in-Fork.field-0 w.in-Fork.is)),
        let f = w.forks-is in omega arith,
      )
      | in_default w ↦ (
        w.forks-is ∙ h.0 ∙ sym ((no_fork s q (this es i l).event w.in_default.not-Fork).2 p)
            ∙ ap (λ (x : Births). x.forks p) (sym (more_births es i any_entry l)),
        let f = w.forks-is in omega arith,
      )
    ]
