-- Which processes the kernel does not have after an event, and what is ready once a fault stands.
use Rattle.std.proofs.Common.{◌≡◌, ℕ, true, [], sym, ◌∙◌}
use Rattle.sp_journal.specs.declared.entry.Way.TheVariants as way
use Rattle.sp_journal.specs.declared.entry.Event.{Event}
use Rattle.sp_journal.specs.declared.entry.Event.TheVariants as event
use Rattle.sp_code.specs.Control.{Control, Sending, Receiving, Ended, does, comes_back}
use Rattle.sp_code.proofs.EventFrames.{offers_faulted, reports_faulted}
use Rattle.sp_kernel.proofs.RunEnds.{IsByNoEvent}
use Rattle.sp_replay.specs.FollowInvariant.{IsOutOfKernel}

-- who is away after an event was so before it
pub away_by_none : IsByNoEvent IsOutOfKernel
away_by_none = record {
  ready = λ o. o;
  sending = λ c o. o;
  receiving = λ c o. o;
  joining = λ n o. o;
  laid = λ o. o;
  ended = λ o. o;
}

-- ---- once a fault stands, each event lays its process, and none becomes ready

pub back_still : (k : Control) (p : ℕ) (e : Event) → (k.faulted ≡ true → e ≡ event.Laid) → k.ready ≡ []
    → (comes_back p e k).faulted ≡ true → (comes_back p e k).ready ≡ []
back_still k p (event.Fault f) laid none is = none
back_still k p event.Laid laid none is = none
back_still k p (event.Fork n) laid none is = absurd (cc (laid is))
back_still k p event.Open laid none is = absurd (cc (laid is))
back_still k p (event.Send c) laid none is =
    absurd (cc (laid (sym (offers_faulted way.Send (Sending c) p c (k.pending c) k) ∙ is)))
back_still k p (event.Receive c) laid none is =
    absurd (cc (laid (sym (offers_faulted way.Receive (Receiving c) p c (k.pending c) k) ∙ is)))
back_still k p event.End laid none is = absurd
    (cc (laid (sym (reports_faulted (k.births.birth p) (does p Ended k)) ∙ is)))
back_still k p event.Pause laid none is = absurd (cc (laid is))
