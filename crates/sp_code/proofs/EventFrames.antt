-- What an event leaves of a control as it was: whether a fault stands, and what is pending.
use Rattle.std.proofs.Common.{◌≡◌, ℕ, ◌-◌, ◌==◌, if◌then◌else◌, Bool, true, false, Option, Some, None, refl}
use Rattle.sp_journal.specs.declared.entry.Way.{Way}
use Rattle.sp_journal.specs.declared.entry.Birth.{Birth}
use Rattle.sp_code.specs.Control.{Control, Doing, Joining}
use Rattle.sp_code.specs.Control.{does, queues, offers, one_fewer, reports}

-- ---- whether a fault stands

pub offers_faulted : (w : Way) (d : Doing) (p c : ℕ) (o : Option (Way × ℕ)) (k : Control)
    → (offers w d p c o k).faulted ≡ k.faulted
offers_faulted w d p c None k = refl
offers_faulted w d p c (Some z) k = refl

pub fewer_faulted : (x : ℕ) (d : Doing) (k : Control) → (one_fewer x d k).faulted ≡ k.faulted
fewer_faulted x (Joining n) k = go (n == 1)
  where
    go : (b : Bool) → (if b then queues x k else does x (Joining (n - 1)) k).faulted ≡ k.faulted
    go true = refl
    go false = refl
fewer_faulted _ _ _ = refl

pub reports_faulted : (o : Option Birth) (k : Control) → (reports o k).faulted ≡ k.faulted
reports_faulted None k = refl
reports_faulted (Some b) k = fewer_faulted b.parent (k.doing b.parent) k

-- ---- what is pending

pub fewer_pending : (x : ℕ) (d : Doing) (k : Control) (c : ℕ) → k.pending c ≡ (one_fewer x d k).pending c
fewer_pending x (Joining n) k c = go (n == 1)
  where
    go : (b : Bool) → k.pending c ≡ (if b then queues x k else does x (Joining (n - 1)) k).pending c
    go true = refl
    go false = refl
fewer_pending _ _ _ _ = refl
