use Rattle.sp_code.specs.PlainStore.{plain}
use Rattle.sp_code.specs.Control.{control, control_at_start}
use Rattle.sp_code.specs.System.{opening_system}
use Rattle.sp_code.proofs.ControlAgreement.{orderly_start, agrees_start}
use Rattle.sp_code.proofs.Families.{parent_joins, children_start, children_all}
use Rattle.sp_code.proofs.InTurn.{first_in_first_out}
use Rattle.sp_code.proofs.history_laws.histories_keep_turns.Goals as goal

pub returns-clause-joined : goal.returns-clause-joined
returns-clause-joined k = λ g ns s q w b r out e. parent_joins (control ns)
    (children_all plain g control_at_start (opening_system plain g) s ns orderly_start (agrees_start plain g)
    children_start r)
    q w b out e

pub returns-clause-turns : goal.returns-clause-turns
returns-clause-turns k = λ g ns s r x. first_in_first_out plain g s ns r x
