use Rattle.std.proofs.Common.{◌≤◌, ◌<◌, ◌^◌, ℕ, sym, subst}
use Rattle.sp_journal.proofs.BirthLaws.{lawful}
use Rattle.sp_journal.proofs.ledger.Ledger.processes.Goals as goal

pub returns-clause-some : goal.returns-clause-some
returns-clause-some c = subst (λ (n : ℕ). 0 < n) (sym c.requires.processes)
    (lawful c.args.self.now.journal.entries c.requires.nameable).some

pub returns-clause-few : goal.returns-clause-few
returns-clause-few c = subst (λ (n : ℕ). n ≤ 2 ^ 32) (sym c.requires.processes)
    (lawful c.args.self.now.journal.entries c.requires.nameable).few
