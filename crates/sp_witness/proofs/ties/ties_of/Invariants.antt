use Rattle.std.proofs.Common.{◌≡◌, ℕ, take, drop}
use Rattle.sp_journal.specs.Births.{births, NameableFrom}
use Rattle.sp_witness.specs.Passes.{waiters, lines_of, AreFirstPartners}
use Rattle.sp_witness.proofs.ties.ties_of.Given as goal

abbrev pub invariant-loop-entry : goal.invariant-loop-entry
invariant-loop-entry l = record {
  nameable : NameableFrom (births (take l.entry-index l.front)) (drop l.entry-index l.front);
  partners : AreFirstPartners l.entry-index l.front l.partners.items;
  processes : l.processes ≡ (births (take l.entry-index l.front)).processes;
  waiting : (c : ℕ) → waiters l.waiting c ≡ lines_of (take l.entry-index l.front) c;
}
