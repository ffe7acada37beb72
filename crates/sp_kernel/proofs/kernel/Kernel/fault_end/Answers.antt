use Rattle.std.proofs.Common.{rules, ◌≡◌, ◌<◌, Some, sym, ap, subst, ◌∙◌}
use Rattle.sp_journal.specs.declared.entry.Journal.{Journal}
use Rattle.sp_journal.specs.Births.{births, first_births}
use Rattle.sp_kernel.specs.Faults.{fault_in}
use Rattle.sp_kernel.proofs.Ending.{fault_there}
use Rattle.sp_kernel.proofs.kernel.Kernel.fault_end.Goals as goal

pub name-requires-clause-there : goal.name-requires-clause-there
name-requires-clause-there c =
    let found : fault_in c.args.self.now.journal.entries ≡ Some (c.in-Some.process, c.in-Some.fault) =
    let f : c.fault_in.result ≡ Some (c.in-Some.process, c.in-Some.fault) = search rules in
    ap fault_in (sym c.entries.ensures) ∙ sym c.fault_in.ensures ∙ f in
    subst (λ (j : Journal). c.in-Some.process < (births j.entries).processes) (sym c.in-Ok.ensures.1)
    (fault_there first_births c.args.self.now.journal.entries c.in-Some.process c.in-Some.fault
    c.requires.named.nameable found)
