use Rattle.sp_code.specs.PlainStore.{plain}
use Rattle.sp_code.specs.Control.{control_at_start}
use Rattle.sp_code.specs.System.{opening_system}
use Rattle.sp_code.proofs.ControlAgreement.{orderly_start, agrees_start}
use Rattle.sp_code.proofs.Legal.{legal_reaches, reaches_legal, reaches_leads, reaches_same, reaches_keeps}
use Rattle.sp_code.proofs.Outs.{outs_start, outs_all}
use Rattle.sp_code.proofs.history_laws.histories_lead_to_systems.Goals as goal

pub returns-clause-leads : goal.returns-clause-leads
returns-clause-leads k = λ g ns l. legal_reaches plain g control_at_start (opening_system plain g) ns l

pub returns-clause-legal : goal.returns-clause-legal
returns-clause-legal k = λ g ns s r. reaches_legal plain g control_at_start (opening_system plain g) s ns r

pub returns-clause-journal : goal.returns-clause-journal
returns-clause-journal k = λ g ns s r. reaches_leads plain g control_at_start (opening_system plain g) s ns r

pub returns-clause-one : goal.returns-clause-one
returns-clause-one k = λ g ns s t r u. reaches_same plain g control_at_start (opening_system plain g) s t ns r u

pub returns-clause-alike : goal.returns-clause-alike
returns-clause-alike k = λ g ns s r.
    let a = agrees_start plain g in
    let o = reaches_keeps plain g control_at_start (opening_system plain g) s ns orderly_start a r in
    (o.0, o.1, outs_all plain g control_at_start (opening_system plain g) s ns orderly_start a outs_start r)
