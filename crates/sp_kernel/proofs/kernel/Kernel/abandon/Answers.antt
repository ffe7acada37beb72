use Rattle.std.proofs.Common.{◌≡◌, ◌+◌, ◌-◌, Option, Some, sym, ap, refl, subst, ◌∙◌, slice_set}
use Rattle.std.specs.Prelude.{IfSome}
use Rattle.std.specs.Option.{option_map}
use Rattle.sp_code.specs.Control.{Out}
use Rattle.sp_machine.specs.declared.state.State.{State as Proc}
use Rattle.sp_kernel.specs.declared.slot.Slot.TheVariants as slot
use Rattle.sp_kernel.specs.declared.kernel.Kernel.{Kernel}
use Rattle.sp_kernel.specs.Kernels.{control_of, Abandons}
use Rattle.sp_kernel.proofs.NoteSteps.{gives_up_none, gives_up_some}
use Rattle.sp_kernel.proofs.kernel.Kernel.abandon.Goals as goal

pub returns-in-None : goal.returns-in-None
returns-in-None c = subst (λ (o : Option Proc). Abandons c.args.self.now (option_map (λ (p : Proc). p.number) o)
    (record c.args.self.now { abandons = c.args.self.now.abandons + 1 })) (sym c.in-None.is)
    (gives_up_none c.args.self.now c.requires.whole c.args.worker)

pub returns-in-Some : goal.returns-in-Some
returns-in-Some c =
    let x : Kernel = c.args.self.now in
    let p : Proc = c.in-Some.proc in
    let q = c.number-number.result in
    let n : q ≡ p.number = c.number-number.ensures in
    let out : (control_of x).doing p.number ≡ Out c.args.worker =
    subst (λ (o : Option Proc). IfSome o (λ r. (control_of x).doing r.number ≡ Out c.args.worker)) c.in-Some.is
    c.requires.out in
    let here : (control_of x).doing q ≡ Out c.args.worker = ap (control_of x).doing n ∙ out in
    let o = c.lose.ensures in
    subst (λ (r : Option Proc). Abandons x (option_map (λ (s : Proc). s.number) r) c.lose.new.self) (sym c.in-Some.is)
    (subst (Abandons x (Some p.number)) (sym o.2)
    (subst (λ i. Abandons x (Some i) (record x
    { slots = slice_set x.slots q (slot.Gone o.0); out = x.out - 1; abandons = x.abandons + 1 })) n
    (gives_up_some x c.requires.whole c.args.worker q here (slot.Gone o.0) refl o.1 tt)))
