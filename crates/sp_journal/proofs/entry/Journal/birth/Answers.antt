use Rattle.std.proofs.Common.{◌≡◌, ◌+◌, ◌-◌, ◌≤◌, ◌<◌, ◌⊎◌, inl, inr, ℕ, List, Bool, true, false, sym, ap, ◌∙◌, arith}
use Rattle.std.proofs.Common.{take, Some, None, refl}
use Rattle.std.proofs.lemmas.List.{take_all}
use Rattle.sp_journal.specs.declared.entry.Entry.{Entry}
use Rattle.sp_journal.specs.Births.{Births, births}
use Rattle.sp_journal.proofs.Walk.{any_entry, this, more_births, still_nameable, found, not_yet, after_fork, no_fork}
use Rattle.sp_journal.proofs.Walk.{has_birth, has_none}
use Rattle.sp_journal.proofs.entry.Journal.birth.Goals as goal
use Rattle.sp_journal.proofs.entry.Journal.birth.Goals.{in-Fork+else-from-next}
use Rattle.sp_journal.proofs.entry.Journal.birth.Goals.{else-from-next-via-then-from-next+else-from-after}
use Rattle.sp_journal.proofs.entry.Journal.birth.Goals.{else-from-next-via-else-from-next, in_default}

pub returns-then-from-after-clause-value : goal.returns-then-from-after-clause-value
returns-then-from-after-clause-value c =
    let es = c.items-entries.result.now in
    let a = c.from.ensures in
    let b = c.from-in-Fork.ensures in
    let d = c.from-then-from-next.ensures in
    let f = c.if-from-next.true in
    let g = c.if-from-after.true in
    let q = c.args.process in
    let e = found es c.loop-at.at c.loop-at-test.true c.in-Fork.count c.in-Fork.is q c.loop-at.next c.forks_of.result
    c.loop-at.invariant.1 c.forks_of.ensures (omega arith) (omega arith) in
    ap (λ (x : ℕ). Some (record {
      parent = (this es c.loop-at.at c.loop-at-test.true).process;
      fork = c.forks_of.result;
      child = x - c.loop-at.next;
    })) c.from-then-from-after.ensures
    ∙ e ∙ ap (λ (x : List Entry). (births x).birth q) c.items-entries.ensures

true_false : {A : Type 0} → ◌≡◌ {A = Bool} true false → A
true_false e = absurd (cc)

pub returns-then-from-after-clause-none : goal.returns-then-from-after-clause-none
returns-then-from-after-clause-none c = (
  λ e. true_false e,
  λ h. absurd (has_birth c.args.self.now.entries c.requires c.args.process _
      (returns-then-from-after-clause-value c) h),
)

pub loop-at-preserved : goal.loop-at-preserved
loop-at-preserved c =
    let es = c.items-entries.result.now in
    let i = c.loop-at.at in
    let q = c.args.process in
    let l = c.loop-at-test.true in
    let h = c.loop-at.invariant in
    let s : Births = births (take i es) in
    let p : ℕ = (this es i l).process in
    elim c.match-entry.branch [
      | in-Fork+else-from-next w ↦
          let a = w.from.ensures in
          let b = w.from-in-Fork.ensures in
          let f = after_fork es i l w.in-Fork.count w.in-Fork.is in
          let out : (q < s.processes) ⊎ (s.processes + w.in-Fork.count ≤ q) =
          elim w.else-from-next.branch [
            | else-from-next-via-then-from-next+else-from-after v ↦ let d = v.from-then-from-next.ensures in
                let g = v.if-from-after.false in inr (omega arith)
            | else-from-next-via-else-from-next v ↦ let g = v.if-from-next.false in inl (omega arith)
          ] in (
            still_nameable es i any_entry l h.0,
            w.next-is ∙ (λ j. h.1 j + a j)
                ∙ ap (λ (x : Births). x.processes) (sym f),
            not_yet es i l w.in-Fork.count w.in-Fork.is q out h.2,
          )
      | in_default w ↦
          let n = no_fork s p (this es i l).event w.in_default.not-Fork in
          let m = more_births es i any_entry l in (
            still_nameable es i any_entry l h.0,
            w.next-is ∙ h.1 ∙ sym n.0 ∙ ap (λ (x : Births). x.processes) (sym m),
            ap (λ (x : Births). x.birth q) m ∙ n.1 q ∙ h.2,
          )
    ]

pub returns-clause-none : goal.returns-clause-none
returns-clause-none c =
    let es = c.items-entries.result.now in
    let whole : take c.loop-at.at es ≡ es = take_all c.loop-at.at es c.loop-at-test.false in
    let e : (births c.args.self.now.entries).birth c.args.process ≡ None =
    ap (λ (x : List Entry). (births x).birth c.args.process) (sym (whole ∙ c.items-entries.ensures))
    ∙ c.loop-at.invariant.2 in
    (λ _. has_none c.args.self.now.entries c.requires c.args.process (sym e), λ _. refl)
