-- Events that give no number change nothing of what a journal gives.
use Rattle.std.proofs.Common.{◌≡◌, ◌⊎◌, ⊎_elim, ℕ, ap}
use Rattle.sp_base.specs.declared.fault.Fault.{Fault}
use Rattle.sp_journal.specs.declared.entry.Event.{Event}
use Rattle.sp_journal.specs.declared.entry.Event.TheVariants as event
use Rattle.sp_journal.specs.Births.{Births, births_after_event}

-- an event other than fork and open gives nothing
pub gives_no_numbers : (s : Births) (p : ℕ) (e : Event)
    → ((x : ℕ) × (e ≡ event.Send x)) ⊎ (((x : ℕ) × (e ≡ event.Receive x))
    ⊎ ((e ≡ event.End) ⊎ (((x : Fault) × (e ≡ event.Fault x)) ⊎ ((e ≡ event.Laid) ⊎ (e ≡ event.Pause)))))
    → births_after_event s p e ≡ s
gives_no_numbers s p e h =
    ⊎_elim (λ (w : (x : ℕ) × (e ≡ event.Send x)). ap (births_after_event s p) w.1)
    (λ (h : ((x : ℕ) × (e ≡ event.Receive x))
    ⊎ ((e ≡ event.End) ⊎ (((x : Fault) × (e ≡ event.Fault x)) ⊎ ((e ≡ event.Laid) ⊎ (e ≡ event.Pause))))).
    ⊎_elim (λ (w : (x : ℕ) × (e ≡ event.Receive x)). ap (births_after_event s p) w.1)
    (λ (h : (e ≡ event.End) ⊎ (((x : Fault) × (e ≡ event.Fault x)) ⊎ ((e ≡ event.Laid) ⊎ (e ≡ event.Pause)))).
    ⊎_elim (λ (w : e ≡ event.End). ap (births_after_event s p) w)
    (λ (h : ((x : Fault) × (e ≡ event.Fault x)) ⊎ ((e ≡ event.Laid) ⊎ (e ≡ event.Pause))).
    ⊎_elim (λ (w : (x : Fault) × (e ≡ event.Fault x)). ap (births_after_event s p) w.1)
    (λ (h : (e ≡ event.Laid) ⊎ (e ≡ event.Pause)).
    ⊎_elim (λ (w : e ≡ event.Laid). ap (births_after_event s p) w)
    (λ (w : e ≡ event.Pause). ap (births_after_event s p) w) h) h) h)
    h) h
