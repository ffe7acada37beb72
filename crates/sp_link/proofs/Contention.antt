-- Contention is an entry exactly where an offer meets one of its own way and the journal is not full.
use Rattle.std.proofs.Common.{◌≡◌, ℕ, ◌+◌, ◌<◌, ◌==◌, List, Option, Some, None, Bool, true, false, if◌then◌else◌, refl}
use Rattle.std.proofs.Common.{ap, ◌∙◌, subst, arith}
use Rattle.std.specs.Prelude.{nat_lt}
use Rattle.std.proofs.lemmas.Option.{same_Some}
use Rattle.sp_base.specs.declared.fault.Fault.{Fault}
use Rattle.sp_base.specs.declared.fault.Fault.TheVariants as fault
use Rattle.sp_base.specs.declared.limits.Limits.{Limits}
use Rattle.sp_journal.specs.declared.entry.Event.TheVariants as event
use Rattle.sp_journal.specs.declared.entry.Way.TheVariants as way
use Rattle.sp_cell.specs.Map.{Plain}
use Rattle.sp_code.specs.Machine.{Stop, Forks, Opens, Sends, Receives, Ends, Pauses, Config}
use Rattle.sp_code.specs.Memory.{Memory}
use Rattle.sp_code.specs.Turns.{Stopped}
use Rattle.sp_code.specs.System.{System, event_of, event_or, fault_of, first_fault, clash_of, clash_by, pending_stop}
use Rattle.sp_code.proofs.OneFault.{stop_not_fault}
use Rattle.sp_link.specs.Endings.{MeetsItsWay}

fault_is : (o : Option Fault) (stop : Stop) (e : Config (Memory Plain)) (f : Fault)
    → event_or o (Stopped stop e) ≡ event.Fault f → o ≡ Some f
fault_is (Some x) stop e f r = ap (λ y. Some y) (one r)
  where
    one : {x y : Fault} → event.Fault x ≡ event.Fault y → x ≡ y
    one r = cc r
fault_is None stop e f r = absurd (stop_not_fault stop f r)

room : (a b : ℕ) → nat_lt a (b + 1) ≡ false → b < a
room a b e = Prim.grind (arith, e)

less : (a b : ℕ) → b < a → nat_lt a (b + 1) ≡ false
less a b h = Prim.grind (arith, h)

abbrev full : Limits → System Plain → Bool
full lim t = nat_lt lim.entries (t.entries + 1)

-- a send against what is pending
send_meets : (k : ℕ) (b : Bool) (o : Option Stop)
    → first_fault (if b then Some fault.F15 else None) (clash_by way.Send k o) ≡ Some fault.F6
    → (b ≡ false) × ((d j : ℕ) × (bs : List Rattle.sp_cell.specs.declared.cell.Cell.Cell) × (o ≡ Some (Sends d j bs)))
send_meets k true o e = absurd (cc e)
send_meets k false None e = absurd (cc e)
send_meets k false (Some (Sends d j bs)) e = (refl, (d, j, bs, refl))
send_meets k false (Some (Receives d j a)) e = absurd (go (j == k) e)
  where
    go : (b : Bool) → (if b then None else Some fault.F7) ≡ Some fault.F6 → ⊥
    go true e = cc e
    go false e = cc e
send_meets k false (Some (Forks t v n)) e = absurd (cc e)
send_meets k false (Some (Opens a)) e = absurd (cc e)
send_meets k false (Some Ends) e = absurd (cc e)
send_meets k false (Some Pauses) e = absurd (cc e)

receive_meets : (k : ℕ) (b : Bool) (o : Option Stop)
    → first_fault (if b then Some fault.F15 else None) (clash_by way.Receive k o) ≡ Some fault.F6
    → (b ≡ false) × ((d j : ℕ) × (a : Rattle.sp_cell.specs.declared.spot.Address.Address) × (o ≡ Some (Receives d j a)))
receive_meets k true o e = absurd (cc e)
receive_meets k false None e = absurd (cc e)
receive_meets k false (Some (Receives d j a)) e = (refl, (d, j, a, refl))
receive_meets k false (Some (Sends d j bs)) e = absurd (go (j == k) e)
  where
    go : (b : Bool) → (if b then None else Some fault.F7) ≡ Some fault.F6 → ⊥
    go true e = cc e
    go false e = cc e
receive_meets k false (Some (Forks t v n)) e = absurd (cc e)
receive_meets k false (Some (Opens a)) e = absurd (cc e)
receive_meets k false (Some Ends) e = absurd (cc e)
receive_meets k false (Some Pauses) e = absurd (cc e)

-- no other limit is a contention
other_limit : (a b : Bool) (f : Fault) → (f ≡ fault.F6 → ⊥)
    → first_fault (if a then Some fault.F15 else (if b then Some f else None)) None ≡ Some fault.F6 → ⊥
other_limit true b f n e = cc e
other_limit false true f n e = n (same_Some _ _ e)
other_limit false false f n e = cc e

by_stop : (lim : Limits) (t : System Plain) (stop : Stop) (e : Config (Memory Plain))
    → fault_of lim t (Stopped stop e) ≡ Some fault.F6 → MeetsItsWay t stop × (t.entries < lim.entries)
by_stop lim t (Forks tb v n) e r = absurd (other_limit (full lim t) (nat_lt lim.processes (t.births.processes + n))
    fault.F13 (λ x. cc x) r)
by_stop lim t (Opens a) e r = absurd (other_limit (full lim t) (nat_lt lim.channels (t.births.channels + 1)) fault.F14
    (λ x. cc x) r)
by_stop lim t (Sends c k cs) e r = let w = send_meets k (full lim t) (pending_stop t (t.pending c)) r in
    (w.1, room lim.entries t.entries w.0)
by_stop lim t (Receives c k a) e r = let w = receive_meets k (full lim t) (pending_stop t (t.pending c)) r in
    (w.1, room lim.entries t.entries w.0)
by_stop lim t Ends e r = absurd (cc r)
by_stop lim t Pauses e r = absurd (cc r)

pub contention_meets : (lim : Limits) (t : System Plain) (stop : Stop) (e : Config (Memory Plain)) → t.faulted ≡ false
    → event_of lim t (Stopped stop e) ≡ event.Fault fault.F6 → MeetsItsWay t stop × (t.entries < lim.entries)
contention_meets lim t stop e q r = by_stop lim t stop e
    (fault_is (fault_of lim t (Stopped stop e)) stop e fault.F6
    (subst (λ b. (if b then event.Laid else event_or (fault_of lim t (Stopped stop e)) (Stopped stop e))
    ≡ event.Fault fault.F6) q r))

found : (lim : Limits) (t : System Plain) (stop : Stop) (e : Config (Memory Plain)) → MeetsItsWay t stop
    → t.entries < lim.entries → fault_of lim t (Stopped stop e) ≡ Some fault.F6
found lim t (Sends c k cs) e (_, _, _, pends) l = ap (λ b. first_fault (if b then Some fault.F15 else None)
    (clash_of t (Sends c k cs))) (less lim.entries t.entries l) ∙ ap (λ o. clash_by way.Send k o) pends
found lim t (Receives c k a) e (_, _, _, pends) l = ap (λ b. first_fault (if b then Some fault.F15 else None)
    (clash_of t (Receives c k a))) (less lim.entries t.entries l) ∙ ap (λ o. clash_by way.Receive k o) pends
found _ _ _ _ m _ = absurd m

pub meets_contention : (lim : Limits) (t : System Plain) (stop : Stop) (e : Config (Memory Plain)) → t.faulted ≡ false
    → MeetsItsWay t stop → t.entries < lim.entries → event_of lim t (Stopped stop e) ≡ event.Fault fault.F6
meets_contention lim t stop e q m l =
    ap (λ b. if b then event.Laid else event_or (fault_of lim t (Stopped stop e)) (Stopped stop e)) q
    ∙ ap (λ f. event_or f (Stopped stop e)) (found lim t stop e m l)
