-- The entry of an offer, whatever is pending on its channel (`offering`): it waits, it meets the other one, or a fault
-- comes.
use Rattle.std.proofs.Common.{◌≡◌, ℕ, ◌+◌, ◌<◌, List, ◌∷◌, Option, Some, None, Bool, true, false, if◌then◌else◌, refl}
use Rattle.std.proofs.Common.{sym, ap, ◌∙◌, subst, arith}
use Rattle.std.specs.Prelude.{◌≢◌, nat_lt}
use Rattle.std.proofs.lemmas.Option.{same_Some}
use Rattle.sp_base.specs.declared.fault.Fault.TheVariants as fault
use Rattle.sp_journal.specs.Births.{channel}
use Rattle.sp_cell.specs.Map.{Plain}
use Rattle.sp_meaning.specs.Model.{Name, Channel, Payload, Message, Takes, Offering, Totals}
use Rattle.sp_meaning.specs.Steps.{WaitsOn, OfferOf, entry_cost, Faulty, step_outcome, limit_fault, fault_or}
use Rattle.sp_meaning.specs.Steps.{offer_outcome, result_of}
use Rattle.sp_meaning.specs.Entries.{Happening}
use Rattle.sp_meaning.specs.LocalWork.{LocationContent, Address, LocalState, WorkOutcome, Computed, Item, Tree}
use Rattle.sp_meaning.specs.LocalWork.{Position, Written}
use Rattle.sp_meaning.specs.Actions.{Action, Offered}
use Rattle.sp_meaning.specs.SuperPascal.{superpascal}
use Rattle.sp_meaning.specs.Run.{Store}
use Rattle.sp_meaning.specs.Runs.{total_limits, happening_at, happening_of}
use Rattle.sp_meaning.specs.Turn as source
use Rattle.sp_code.specs.Machine.{At}
use Rattle.sp_code.specs.Machine as machine
use Rattle.sp_code.specs.Turns.{Stopped}
use Rattle.sp_code.specs.System.{fault_of}
use Rattle.sp_code.specs.System as sys
use Rattle.sp_link.proofs.AtOffer as ao
use Rattle.sp_link.proofs.AtStop.{w, p1, does_at}
use Rattle.sp_link.proofs.Halts.{failed_entry, offered_halt, says_something}
use Rattle.sp_link.proofs.KernelSteps.{kernel_next, kernel_says}
use Rattle.sp_link.proofs.OffersMeet.{waiting_idle, meeting_entry}
use Rattle.sp_link.proofs.OffersWait.{waiting_entry}
use Rattle.sp_link.proofs.OneChanges.{runs_as_pr}
use Rattle.sp_link.proofs.Pauses.{Entry_of, Meant, Kept_to}
use Rattle.sp_link.proofs.Relation.{Named, Ca, Performs_all, IsPending}
use Rattle.sp_link.proofs.Relation.{AtStop}
use Rattle.sp_link.proofs.Pauses.{MatchesNow, OffersAt}

module _ (at_stop : AtStop) (z : MatchesNow at_stop)
    (ch : Channel) (kd : ℕ) (cg : Payload LocationContent Address) (todo : List Item) (o : LocalState) (m : Store)
    (x : Meant at_stop z (Computed (source.Stops (Offered ch kd cg todo)) o, m))
    (t : OffersAt at_stop z ch kd cg todo o m)
    (y : Kept_to at_stop z (Computed (source.Stops (Offered ch kd cg todo)) o, m))
    (no_fault : at_stop.system.faulted ≡ false) where
  open at_stop use {
    run as G,
    lives as lv,
    course as c,
    state as s,
    system as u,
    linked as l,
    number as i,
    configuration as d,
  }

  abbrev v : Name
  v = w at_stop

  abbrev r : WorkOutcome Action × Store
  r = (Computed (Offered ch kd cg todo) o, m)

  abbrev off : OfferOf (superpascal G.g)
  off = ao.off at_stop z ch kd cg todo o m x t y

  -- what the step says, whatever it comes to
  said_any : (what : Happening) × (happening_at G.g x.state v x.left ≡ Some what)
  said_any = says_something at_stop z r x tt

  -- ---- the entries are at their limit

  over_entry : nat_lt G.g.limits.entries (u.entries + 1) ≡ true → Entry_of G c s u i d
  over_entry full = failed_entry at_stop (offered_halt at_stop z ch kd cg todo o m x t) refl
      fault.F15
      (kernel_says G.g v x.state x.left x.runs r x.does ∙ ap (λ b. happening_of {L = superpascal G.g} (Offering off) b)
      faults)
      (kernel_next G.g v x.state x.left x.runs r x.does
      ∙ ap (λ b. Some (result_of {L = superpascal G.g} x.state v b)) faults)
      (found cg refl t.carries) no_fault
    where
      passes : limit_fault (total_limits G.g) x.state.totals (Some entry_cost) ≡ Some fault.F15
      passes =
          ap (λ (a : Totals). limit_fault (total_limits G.g) a (Some entry_cost)) x.elsewhere.totals
          ∙ ap (λ n. if nat_lt G.g.limits.entries (n + 1) then Some fault.F15 else None) l.entries
          ∙ ap (λ b. if b then Some fault.F15 else None) full

      faults : step_outcome {L = superpascal G.g} (total_limits G.g) x.state v (Offering off) ≡ Faulty fault.F15
      faults = ap (λ a. fault_or a (offer_outcome {L = superpascal G.g} x.state v off (x.state.pending ch))) passes

      found : (g1 : Payload LocationContent Address) → cg ≡ g1
          → Ca G (lv v) (λ a b. lv ((a, b) ∷ v)) v z.fresh (p1 at_stop).who z.named (c.since v) t.frames ch kd
          g1 t.stop → fault_of G.g.limits u (Stopped t.stop (At t.pc t.stack t.memory)) ≡ Some fault.F15
      found (Message (Tree a)) e h = ap (λ b. fault_of G.g.limits u (Stopped b (At t.pc t.stack t.memory))) h.2
          ∙ ap (λ b. sys.first_fault (if b then Some fault.F15 else None)
          (sys.clash_of u (machine.Sends h.0 kd (Rattle.sp_codegen.specs.CodePositions.cells_in h.1)))) full
      found (Message (Position n)) e h = absurd h
      found (Message (Written bs)) e h = absurd h
      found (Takes a) e h = ap (λ b. fault_of G.g.limits u (Stopped b (At t.pc t.stack t.memory))) h.2
          ∙ ap (λ b. sys.first_fault (if b then Some fault.F15 else None)
          (sys.clash_of u (machine.Receives h.0 kd h.1))) full

  -- ---- an offer is pending

  module _ (zi : ℕ) (below : zi < G.births.processes) (pends : s.pending ch ≡ Some (G.births.name zi)) (j : ℕ)
      (named : Named G ch j) (pending_is : u.pending j ≡ Some zi)
      (enough : nat_lt G.g.limits.entries (u.entries + 1) ≡ false) where
    waits_on : WaitsOn ch (s.condition (G.births.name zi))
    waits_on = l.known.sound.waits ch (G.births.name zi) pends

    few : zi < u.births.processes
    few = let n = l.numbered (G.births.name zi) (λ e. subst (λ b. WaitsOn ch b) e waits_on) in
        subst (λ k. k < u.births.processes) (G.one_name n.0 zi
        (let a = n.1 in let b = l.began.processes in omega (arith, a, b)) below n.2) n.1

    apart : G.births.name zi ≢ v
    apart e = waiting_idle s.condition v ch (s.condition v) _ (subst (λ b. WaitsOn ch (s.condition b)) e waits_on)
        (runs_as_pr at_stop)

    waits_then : WaitsOn ch (x.state.condition (G.births.name zi))
    waits_then = subst (λ b. WaitsOn ch b) (sym (x.elsewhere.condition (G.births.name zi) apart)) waits_on

    by_condition : (X : sys.Condition Plain) → u.condition zi ≡ X
        → Performs_all G lv (G.births.name zi) c x.state (u.births.opens zi) X → Entry_of G c s u i d
    by_condition sys.Absent e h = absurd h
    by_condition (sys.Working a) e h = absurd
        (waiting_idle x.state.condition (G.births.name zi) ch (x.state.condition (G.births.name zi)) h.0 waits_then h.1)
    by_condition (sys.Waits st2 d2) e (o2, waits, t2, carries, opens2, laid2, _) =
        meeting_entry at_stop z ch kd cg todo o m x t y said_any.0
        said_any.1 no_fault zi few pends j named pending_is enough apart st2 d2 e o2 waits
        (subst (λ b. WaitsOn ch b) waits waits_then) t2 carries opens2 laid2
    by_condition (sys.Joins left a) e (_, _, _, joins, _, _, _) = absurd (subst (λ b. WaitsOn ch b) joins waits_then)
    by_condition (sys.Laid a) e (_, _, (own, runs), _) = absurd (waiting_idle x.state.condition (G.births.name zi) ch
        (x.state.condition (G.births.name zi)) own waits_then runs)
    by_condition sys.Gone e h = absurd (subst (λ b. WaitsOn ch b) h.0 waits_then)
    by_condition (sys.Over a) e h = absurd (subst (λ b. WaitsOn ch b) h.0 waits_then)

    meets_it : Entry_of G c s u i d
    meets_it = by_condition (u.condition zi) refl
        (does_at at_stop z r x said_any.0 said_any.1 zi few
        (λ e. apart (ap (λ n. G.births.name n) (sym e))))

  -- its number
  by_pending : (zn : Name) → s.pending ch ≡ Some zn → (j : ℕ) → Named G ch j
      → nat_lt G.g.limits.entries (u.entries + 1) ≡ false → Entry_of G c s u i d
  by_pending zn pends j named enough = go (s.pending (channel G.births j)) (u.pending j) refl refl
      (ap (λ a. s.pending a) named.2 ∙ pends) (l.pending j (subst (λ n. j < n) l.open_is named.0))
    where
      go : (a : Option Name) (b : Option ℕ) → s.pending (channel G.births j) ≡ a → u.pending j ≡ b → a ≡ Some zn
          → IsPending G a b → Entry_of G c s u i d
      go None b e f h k = let n : ◌≡◌ {A = Option Name} None (Some zn) = h in absurd (cc n)
      go (Some a) None e f h k = absurd k
      go (Some a) (Some zi) e f h k = meets_it zi k.0 (pends ∙ ap (λ b. Some b) (sym (same_Some a zn h) ∙ sym k.1)) j
          named f enough

  pub offering : Entry_of G c s u i d
  offering = by_limit (nat_lt G.g.limits.entries (u.entries + 1)) refl
    where
      number : (g1 : Payload LocationContent Address)
          → Ca G (lv v) (λ a b. lv ((a, b) ∷ v)) v z.fresh (p1 at_stop).who
          z.named (c.since v) t.frames ch kd g1 t.stop → (j : ℕ) × Named G ch j
      number (Message (Tree a)) (j, _, _, named, _) = (j, named)
      number (Message (Position n)) h = absurd h
      number (Message (Written bs)) h = absurd h
      number (Takes a) (j, _, _, named, _, _, _) = (j, named)

      by_offer : (b : Option Name) → s.pending ch ≡ b → nat_lt G.g.limits.entries (u.entries + 1) ≡ false
          → Entry_of G c s u i d
      by_offer None e h = waiting_entry at_stop z ch kd cg todo o m x t y no_fault e h
      by_offer (Some zn) e h = let n = number cg t.carries in by_pending zn e n.0 n.1 h

      by_limit : (b : Bool) → nat_lt G.g.limits.entries (u.entries + 1) ≡ b → Entry_of G c s u i d
      by_limit true e = over_entry e
      by_limit false e = by_offer (s.pending ch) refl e
