use Rattle.std.proofs.Common.{◌+◌, ◌++◌, ◌∷◌, [], cond, nat_eq, Some, ℕ, refl, ap, ◌∙◌}
use Rattle.std.specs.HashMap as hash
use Rattle.sp_journal.specs.declared.ledger.Made.{Made}
use Rattle.sp_journal.proofs.Facts.{if_not_err}
use Rattle.sp_journal.proofs.LedgerLaws.{open_ledger}
use Rattle.sp_journal.proofs.ledger.Ledger.add_open.Goals as goal

pub returns-clause-ledger : goal.returns-clause-ledger
returns-clause-ledger c =
    let l = c.args.self.now in
    open_ledger l _ c.args.process c.requires.ledger c.requires.next
    c.in_ok-push.ensures.ok
    refl
    refl
    (if_not_err _ _ c.is_err.ensures.value c.if-is_err.false c.push-2.ensures.ok
    ∙ ap (λ (x : ℕ). l.openings ++ record { owner = c.args.process; nth = x } ∷ []) c.made-made.ensures.opens)
    (λ q. (if_not_err _ _ c.is_err-2.ensures.value c.if-is_err-2.false c.insert.ensures.updates).0 q
    ∙ ap (λ (v : Made). cond (nat_eq c.args.process q) (Some v) (hash.get nat_eq l.made q))
    (λ i. record { forks = c.made-made.ensures.forks i; opens = c.made-made.ensures.opens i + 1 }))
