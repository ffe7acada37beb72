use Rattle.std.specs.Prelude.{◌≡◌}
use Rattle.std.proofs.Common.{subst, sym}
use Rattle.sp_code.specs.PlainStore.{plain}
use Rattle.sp_code.specs.Control.{Control, Out, control, control_at_start}
use Rattle.sp_code.specs.System.{opening_system}
use Rattle.sp_code.proofs.ControlAgreement.{orderly_start, agrees_start}
use Rattle.sp_code.proofs.Legal.{reaches_keeps, stays, noted_more}
use Rattle.sp_code.proofs.Outs.{outs_start, outs_all, over_all, nobody_runs}
use Rattle.sp_code.proofs.history_laws.histories_keep_what_is_out.Goals as goal

pub returns-clause-stays : goal.returns-clause-stays
returns-clause-stays k = λ g ns more s t p w c r u none out runs.
    let o = reaches_keeps plain g control_at_start (opening_system plain g) s ns orderly_start
    (agrees_start plain g) r in
    let h = stays plain g (control ns) s t more o.0 o.1 u p w c none out runs in
    (subst (λ (m : Control). m.doing p ≡ Out w) (sym (noted_more control_at_start ns more)) h.0, h.1)

pub returns-clause-idle : goal.returns-clause-idle
returns-clause-idle k = λ g ns s r none idle kept q.
    let a = agrees_start plain g in
    let o = reaches_keeps plain g control_at_start (opening_system plain g) s ns orderly_start a r in
    nobody_runs (control ns) s o.0 o.1 (outs_all plain g control_at_start (opening_system plain g) s ns orderly_start a
    outs_start r) none idle kept q

pub returns-clause-over : goal.returns-clause-over
returns-clause-over k = λ g ns more s t r v u.
    let a = agrees_start plain g in
    let o = reaches_keeps plain g control_at_start (opening_system plain g) s ns orderly_start a r in
    over_all plain g (control ns) s t more o.0 o.1
    (outs_all plain g control_at_start (opening_system plain g) s ns orderly_start a outs_start r) v u
