use Rattle.std.proofs.Common.{◌≡◌, ◌∙◌, sym, ap, Option, Some, None, MatchOption, Bor, length, take, slice_get}
use Rattle.std.specs.Option.{option_copied}
use Rattle.sp_base.specs.declared.name.ProcName.{ProcName}
use Rattle.sp_journal.specs.Births.{Births}
use Rattle.sp_journal.specs.Names.{proc_name}
use Rattle.sp_report.specs.GuessedOrder.{names_of}
use Rattle.sp_report.proofs.NameOrder.{at_name}
use Rattle.sp_report.proofs.preorder.known.Goals as goal

pub returns-then-found-process : goal.returns-then-found-process
returns-then-found-process c = λ s are. go s are c.get-then-found-process.result c.get-then-found-process.ensures
  where
    go : (s : Births) → c.args.names.now ≡ names_of s (take (length c.args.names.now) c.args.order.now)
        → (o : Option (Bor ProcName)) → option_copied o ≡ slice_get c.args.names.now c.in-Some.place
        → MatchOption o (Unit {0}) (λ n. n.now ≡ proc_name (s.name c.args.process))
    go s are None e = tt
    go s are (Some n) e = at_name s (length c.args.names.now) c.args.order.now c.in-Some.place c.args.process n.now
        (ap (λ ns. slice_get ns c.in-Some.place) (sym are) ∙ sym e)
        (sym c.get.ensures ∙ (ap option_copied c.in-Some-get.is ∙ ap Some c.if-found-process.true))
