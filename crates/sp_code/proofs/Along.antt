-- Along a history the births are those that its entries give.
use Rattle.std.proofs.Common.{◌≡◌, List, [], ◌∷◌, ap, ◌∙◌}
use Rattle.sp_journal.specs.declared.entry.Entry.{Entry}
use Rattle.sp_journal.specs.Births.{births_after_event, births_from}
use Rattle.sp_cell.specs.Map.{Plain}
use Rattle.sp_code.specs.Memory as memory
use Rattle.sp_code.specs.PlainStore.{plain}
use Rattle.sp_code.specs.System.{System, EntriesLead}

pub births_along : (g : memory.CodeRun) (es : List Entry) (s t : System Plain) → EntriesLead plain g s es t
    → t.births ≡ births_from s.births es
births_along g [] s t h = ap (λ (y : System Plain). y.births) h
births_along g (e ∷ es) s t (next, (_, _, _, _, event_is, leads), more) =
    births_along g es next t more ∙ ap (λ (y : System Plain). births_from y.births es) leads
    ∙ ap (λ y. births_from (births_after_event s.births e.process y) es) event_is
