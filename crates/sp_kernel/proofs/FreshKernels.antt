-- A kernel that was just made is at the start of a run (`opened`).
use Rattle.std.proofs.Common.{◌≡◌, ◌≢◌, ◌⊎◌, ℕ, zero, suc, ◌==◌, inl, inr, false, List, [], ◌∷◌, length, Option, Some}
use Rattle.std.proofs.Common.{None, if◌then◌else◌, slice_get, refl, sym, ap, ◌∙◌, subst, arith}
use Rattle.std.proofs.Math.Path.{fun_ext}
use Rattle.sp_channel.specs.declared.channels.Pending.{Pending}
use Rattle.sp_journal.specs.Births.{births, first_births}
use Rattle.sp_code.specs.PlainStore.{plain}
use Rattle.sp_code.specs.Sound.{IsSound, AreLimits}
use Rattle.sp_code.specs.Control.{Ready, Unborn, control_at_start}
use Rattle.sp_code.specs.System.{Working, opening_system}
use Rattle.sp_machine.specs.Procs.{start_of}
use Rattle.sp_machine.specs.declared.state.State.{State as Proc}
use Rattle.sp_code.specs.Agreement.{IsOrderly, AgreesWithSystem}
use Rattle.sp_code.proofs.ControlAgreement.{agrees_start, orderly_start}
use Rattle.sp_code.proofs.Queues.{number_or}
use Rattle.sp_kernel.specs.declared.slot.Slot.{Slot}
use Rattle.sp_kernel.specs.declared.slot.Slot.TheVariants as slot
use Rattle.sp_kernel.specs.declared.slot.State.TheVariants as st
use Rattle.sp_kernel.specs.declared.kernel.Kernel.{Kernel}
use Rattle.sp_kernel.specs.Procs.{config_of}
use Rattle.sp_kernel.specs.Kernels.{doing_in, condition_in, control_of, system_of, code_run_of, WaitsAs, NumberIn}
use Rattle.sp_kernel.specs.Kernels.{HasParents, parent_in, parent_of, IsKernel}
use Rattle.sp_kernel.specs.Asks.{IsOpening}

later : (q : ℕ) → suc q == 0 ≡ false
later q = go (number_or (suc q) 0)
  where
    go : (suc q ≡ 0) ⊎ ((suc q ≢ 0) × (suc q == 0 ≡ false)) → suc q == 0 ≡ false
    go (inl e) = absurd (omega (arith, e))
    go (inr o) = o.1

-- the parts of a kernel that begins
pub record IsFresh (x : Kernel) (p : Proc) : Type 0 where
  pub slots : x.slots ≡ slot.Here p st.Ready ∷ []
  pub parents : x.parents ≡ None ∷ []
  pub ready : x.ready ≡ 0 ∷ []
  pub out : x.out ≡ 0
  pub channels : x.channels ≡ []
  pub journal : x.journal.entries ≡ []
  pub entries : x.entries ≡ 0
  pub faulted : x.faulted ≡ false
  pub abandons : x.abandons ≡ 0
  pub root : x.root.value ≡ p

module _ (x : Kernel) (p : Proc) (f : IsFresh x p) (config : config_of p ≡ start_of x.code.value p.input.value)
    (number : p.number ≡ 0) where
  doing : ◌≡◌ {A = ℕ → _} (control_of x).doing control_at_start.doing
  doing = fun_ext (λ q. ap (λ (l : List Slot). doing_in (slice_get l q)) f.slots ∙ go q)
    where
      go : (q : ℕ) → doing_in (slice_get (slot.Here p st.Ready ∷ []) q) ≡ (if q == 0 then Ready else Unborn)
      go zero = refl
      go (suc q) = rw (later q) refl

  pub control : control_of x ≡ control_at_start
  control = λ i. record {
    doing = doing i;
    ready = f.ready i;
    out = f.out i;
    pending = λ c. Rattle.sp_kernel.specs.Kernels.offer_in (slice_get (f.channels i) c);
    births = births (f.journal i);
    faulted = f.faulted i;
    abandons = f.abandons i;
  }

  condition : ◌≡◌ {A = ℕ → _} (system_of x).condition (opening_system plain (code_run_of x)).condition
  condition = fun_ext (λ q. ap (λ (l : List Slot). condition_in (slice_get l q)) f.slots ∙ go q)
    where
      start : config_of p ≡ Rattle.sp_code.specs.Memory.first_process plain (code_run_of x)
      start = config ∙ ap (λ (r : Proc). start_of x.code.value r.input.value) (sym f.root)

      go : (q : ℕ) → condition_in (slice_get (slot.Here p st.Ready ∷ []) q)
          ≡ (opening_system plain (code_run_of x)).condition q
      go zero = ap (λ c. Working c) start
      go (suc q) = rw (later q) refl

  pub system : system_of x ≡ opening_system plain (code_run_of x)
  system = λ i. record {
    condition = condition i;
    births = births (f.journal i);
    pending = λ c. Rattle.sp_kernel.specs.Kernels.process_in (slice_get (f.channels i) c);
    faulted = f.faulted i;
    entries = f.entries i;
  }

  whole : IsKernel x
  whole = record {
    orderly = subst IsOrderly (sym control) orderly_start;
    agrees = subst (λ k. AgreesWithSystem k (system_of x)) (sym control)
        (subst (AgreesWithSystem control_at_start) (sym system) (agrees_start plain (code_run_of x)));
    processes = ap length f.slots ∙ ap (λ l. (births l).processes) (sym f.journal);
    channels = ap length f.channels ∙ ap (λ l. (births l).channels) (sym f.journal);
    offers = λ c o e. none c o (ap (λ (l : List (Option Pending)). slice_get l c) (sym f.channels) ∙ e);
    numbers = λ q. subst (λ (l : List Slot). NumberIn (code_run_of x).input (slice_get l q) q) (sym f.slots) (own q);
    parents = subst (λ l. HasParents l (births x.journal.entries)) (sym f.parents)
        (subst (λ l. HasParents (None ∷ []) (births l)) (sym f.journal) (record { count = refl; each = each }));
  }
    where
      none : (c : ℕ) (o : Pending) → slice_get [] c ≡ Some (Some o) → WaitsAs (slice_get x.slots o.process) c o
      none c o e = absurd (cc e)

      own : (q : ℕ) → NumberIn (code_run_of x).input (slice_get (slot.Here p st.Ready ∷ []) q) q
      own zero = (number, ap (λ (r : Proc). r.input.value) (sym f.root))
      own (suc q) = tt {0}

      each : (q : ℕ) → parent_in (slice_get (None ∷ []) q) ≡ parent_of (first_births.birth q)
      each zero = refl
      each (suc q) = refl

  pub opened : AreLimits x.limits → IsSound x.code.value → IsOpening x
  opened limits sound = record {
    whole = whole;
    control = control;
    system = system;
    out = f.out;
    abandons = f.abandons;
    journal = f.journal;
    limits = limits;
    sound = sound;
  }
