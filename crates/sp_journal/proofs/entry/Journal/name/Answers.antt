use Rattle.std.proofs.Common.{◌≡◌, ◌<◌, ◌∙◌, ℕ, Result, Ok, Err, List, subst}
use Rattle.std.specs.Result.{IfOk}
use Rattle.sp_base.specs.declared.halt.Memory.{Memory}
use Rattle.sp_base.specs.declared.name.ProcName.{ProcName}
use Rattle.sp_journal.specs.declared.entry.Journal.{Journal}
use Rattle.sp_journal.specs.declared.entry.Entry.{Entry}
use Rattle.sp_journal.specs.Names.{proc_name}
use Rattle.sp_journal.specs.Births.{births, NameableFrom, first_births}
use Rattle.sp_journal.proofs.BirthLaws.{lawful}
use Rattle.sp_journal.proofs.NameLaws.{names_differ}
use Rattle.sp_journal.proofs.entry.Journal.name.Goals as goal

-- no other process has this name
alone : (es : List Entry) → NameableFrom first_births es → (q : ℕ) → q < (births es).processes
    → (r : Result ProcName Memory)
    → IfOk r (λ name. name ≡ proc_name ((births es).name q))
    → IfOk r (λ name. (other : ℕ) → other < (births es).processes → proc_name ((births es).name other) ≡ name
    → other ≡ q)
alone es n q l (Ok name) e = λ other o f. (lawful es n).one_name other q o l (names_differ _ _ (f ∙ e))
alone es n q l (Err m) e = tt

pub returns-clause-alone : goal.returns-clause-alone
returns-clause-alone c =
    alone c.args.self.now.entries c.requires.nameable c.args.process c.requires.there c.name.result
    (subst (λ (j : Journal). IfOk c.name.result (λ name. name ≡ proc_name ((births j.entries).name c.args.process)))
    c.in_ok-ledger.ensures.1 c.name.ensures)
