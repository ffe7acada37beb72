-- An event that is a fault: its process is laid down with that fault, and this leads to `IsAfterGive`.
use Rattle.std.proofs.Common.{◌≡◌, ℕ, ◌+◌, ◌<◌, ◌≤◌, nat_lt, true, false, Some, Result, OnOk, sym, ap, subst}
use Rattle.std.proofs.Common.{refl, ◌∙◌, arith}
use Rattle.sp_base.specs.declared.fault.Fault.{Fault}
use Rattle.sp_base.proofs.Facts.{on_map}
use Rattle.sp_journal.specs.declared.entry.Event.TheVariants as event
use Rattle.sp_code.specs.System.{fault_of}
use Rattle.sp_kernel.specs.declared.slot.Slot.TheVariants as slot
use Rattle.sp_kernel.specs.declared.slot.State.TheVariants as st
use Rattle.sp_kernel.specs.declared.handed.Handed.{Handed}
use Rattle.sp_kernel.specs.declared.kernel.Kernel.{Kernel}
use Rattle.sp_kernel.specs.Kernels.{system_of, IsKernel, kernel_after_give, IsAfterGive}
use Rattle.sp_kernel.specs.Procs.{turn_of}
use Rattle.sp_kernel.specs.Fits.{FitsHanded}
use Rattle.sp_kernel.proofs.KernelEvents.{gave_fault}

-- it is laid down with that fault
pub failed : {A E : Type 0} (r : Result A E) (x y : Kernel) (k : IsKernel x) (w : ℕ) (h i : Handed) (g : Fault)
    → FitsHanded x w h → x.faulted ≡ false → i ≡ h → fault_of x.limits (system_of x) (turn_of h) ≡ Some g
    → OnOk r (y ≡ record (kernel_after_give i.proc.number (event.Fault g) (slot.Here i.proc st.Laid) x) {
      faulted =
          true;
    })
    → OnOk r (IsAfterGive x h.proc.number h y)
failed r x y k w h i g fits no_fault same is = on_map r _ _
    (λ e. subst (IsAfterGive x h.proc.number h) (sym
    (e ∙ ap (λ (j : Handed). record (kernel_after_give j.proc.number (event.Fault g) (slot.Here j.proc st.Laid) x)
    { faulted = true }) same)) (gave_fault x k h.proc.number w fits.out h g (refl, fits.input) no_fault is))

pub is_full : (l n m : ℕ) → m ≡ l → m ≤ n → nat_lt l (n + 1) ≡ true
is_full l n m e h = grind (arith, e, h)

pub not_full : (l n m : ℕ) → m ≡ l → n < m → nat_lt l (n + 1) ≡ false
not_full l n m e h = grind (arith, e, h)
