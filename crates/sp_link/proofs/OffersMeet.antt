-- The entry `Send` or `Receive` on both sides if an offer is pending on the channel (`meeting_entry`). If one sends and
-- the other receives, with the same type, both go on, and the receiver has the message (`sending_meets`,
-- `receiving_meets`). If not, the entry is a fault (`clash_entry`): F6 if both have the same way, F7 if the types
-- differ.
use Rattle.std.proofs.Common.{◌≡◌, ◌⊎◌, inl, inr, ⊎_elim, ℕ, ◌+◌, ◌<◌, ◌==◌, List, [], ◌∷◌, Option, Some, None, Bool}
use Rattle.std.proofs.Common.{true, false, cond, if◌then◌else◌, eqb-true, eq-eqb, refl, sym, ap, ◌∙◌, subst, arith}
use Rattle.std.specs.Prelude.{◌≢◌, nat_lt}
use Rattle.std.proofs.lemmas.Bool.{ne_eqb}
use Rattle.sp_base.specs.declared.fault.Fault.{Fault}
use Rattle.sp_base.specs.declared.fault.Fault.TheVariants as fault
use Rattle.sp_journal.specs.Births.{channel, happening, births_after_event}
use Rattle.sp_journal.specs.declared.entry.Way.{Way}
use Rattle.sp_journal.specs.declared.entry.Way.TheVariants as way
use Rattle.sp_journal.specs.declared.entry.Event.TheVariants as event
use Rattle.sp_journal.specs.Maps.{at_key}
use Rattle.sp_cell.specs.declared.cell.Cell.{Cell as OneCell}
use Rattle.sp_cell.specs.declared.spot.Address.{Address as Ptr}
use Rattle.sp_cell.specs.Map.{Plain}
use Rattle.sp_meaning.specs.Maps.{at_key as put_at}
use Rattle.sp_meaning.specs.Model.{Name, same_name, Condition, Absent, Works, Waits, Joins, Ended}
use Rattle.sp_meaning.specs.Model.{with_changes as After}
use Rattle.sp_meaning.specs.Model.{same_channel, Channel, Payload, Message, Takes, Offering, Totals}
use Rattle.sp_meaning.specs.Steps.{has_ended, own_part_in, IsAlive as IsLive, WaitsOn, OfferOf, meeting_changes}
use Rattle.sp_meaning.specs.Steps.{message, entry_cost}
use Rattle.sp_meaning.specs.Steps.{way_of, Advances, Faulty, step_outcome, limit_fault, fault_or, offer_outcome}
use Rattle.sp_meaning.specs.Steps.{meeting_outcome, handover_outcome, result_of}
use Rattle.sp_meaning.specs.Entries.{Happening, Offered as Is_offered}
use Rattle.sp_meaning.specs.LocalWork.{Loc, LocationContent, Address, LocalState, Process, WorkOutcome, Computed, Item}
use Rattle.sp_meaning.specs.LocalWork.{Tree, Position, Written, content_with}
use Rattle.sp_meaning.specs.LocalWork.{same_loc}
use Rattle.sp_meaning.specs.Values.{Value}
use Rattle.sp_meaning.specs.Actions.{Action, Offered}
use Rattle.sp_meaning.specs.SuperPascal.{superpascal}
use Rattle.sp_meaning.specs.Rights.{MayTake}
use Rattle.sp_meaning.specs.Run.{Store}
use Rattle.sp_meaning.specs.Runs.{StateOf, total_limits, next_state, happening_at, happening_of}
use Rattle.sp_meaning.specs.Along.{JournalState, ticks_in, ticks_of, with_ticks}
use Rattle.sp_meaning.specs.Turn as source
use Rattle.sp_meaning.proofs.Instance.{loc_test}
use Rattle.sp_meaning.proofs.Keys.{name_test, channel_test, number_or}
use Rattle.sp_meaning.proofs.Maps.{at_same, at_other, differs, itself, same_or_not}
use Rattle.sp_meaning.proofs.RightsInvariant.{Inv, ConditionInRights}
use Rattle.sp_meaning.proofs.Parallel.{IsAlone}
use Rattle.sp_meaning.proofs.StepLaws.{StateKeeps, step_well, raised, lowered}
use Rattle.sp_meaning.proofs.Rights.{OwnOrGiven}
use Rattle.sp_meaning.proofs.Sound.{step_sound}
use Rattle.sp_meaning.proofs.Status.{working_lives}
use Rattle.sp_code.specs.Machine.{Config, At, Stop, Sends, Receives}
use Rattle.sp_code.specs.Turns.{Turn, Stopped}
use Rattle.sp_code.specs.Memory.{Memory, put_cells}
use Rattle.sp_code.specs.PlainStore.{plain}
use Rattle.sp_code.specs.Scopes.{sort}
use Rattle.sp_code.specs.System.{System, system_after_turn, event_of, event_or, fault_of, apply_unless_fault, on_store}
use Rattle.sp_code.specs.System as sys
use Rattle.sp_codegen.specs.CodePositions.{cells_in}
use Rattle.sp_codegen.specs.Shapes.{Flat}
use Rattle.sp_link.proofs.AtOffer as ao
use Rattle.sp_link.proofs.AtStop.{w, p1, known_at, rights_at, ended_at, other_name, does_at}
use Rattle.sp_link.proofs.Halts.{failed_entry, offered_halt}
use Rattle.sp_link.proofs.Journal.{IsOpen, now_by}
use Rattle.sp_link.proofs.KernelSteps.{kernel_next, kernel_says}
use Rattle.sp_link.proofs.Messages.{sent_flat, receiver_stands}
use Rattle.sp_link.proofs.OneChanges.{here, inv_local, since_other, unlaid}
use Rattle.sp_link.proofs.OthersStay.{does_stay, stands_stay}
use Rattle.sp_link.proofs.Pauses.{Entry_of, Meant, Kept_to, after_no_fault, way_of_step, makes_step}
use Rattle.sp_link.proofs.Pauses.{MatchesNow, OffersAt}
use Rattle.sp_link.proofs.Relation.{W_of, R_of, Named, ProcessMatches, Ca, Performs_all, IsPending, Linked, run_is}
use Rattle.sp_link.proofs.Relation.{AtStop}

-- one that waits does not run
pub waiting_idle : (m : Name → Condition Process LocationContent Address) (q : Name) (ch : Channel)
    (c : Condition Process LocationContent Address) (own : Process) → WaitsOn ch c → own_part_in m q c ≡ Some own → ⊥
waiting_idle m q ch Absent own h e = h
waiting_idle m q ch (Works pr) own h e = h
waiting_idle m q ch (Waits w) own h e = absurd (cc e)
waiting_idle m q ch (Joins k n pr) own h e = h
waiting_idle m q ch Ended own h e = h

module _ (at_stop : AtStop) (z : MatchesNow at_stop)
    (ch : Channel) (kd : ℕ) (cg : Payload LocationContent Address) (todo : List Item) (o : LocalState) (m : Store)
    (x : Meant at_stop z (Computed (source.Stops (Offered ch kd cg todo)) o, m))
    (t : OffersAt at_stop z ch kd cg todo o m)
    (y : Kept_to at_stop z (Computed (source.Stops (Offered ch kd cg todo)) o, m)) where
  open at_stop use {
    run as G,
    lives as lv,
    course as c,
    state as s,
    system as u,
    linked as l,
    number as i,
    configuration as d,
  }

  module _ (what : Happening) (said : happening_at G.g x.state (w at_stop) x.left ≡ Some what)
      (no_fault : u.faulted ≡ false)
      (zi : ℕ) (few : zi < u.births.processes) (pends : s.pending ch ≡ Some (G.births.name zi)) (j : ℕ)
      (named : Named G ch j) (pending_is : u.pending j ≡ Some zi)
      (enough : nat_lt G.g.limits.entries (u.entries + 1) ≡ false)
      (apart : G.births.name zi ≢ w at_stop) (st2 : Stop) (d2 : Config (Memory Plain))
      (at_z : u.condition zi ≡ sys.Waits st2 d2) (off2 : OfferOf (superpascal G.g))
      (waits : x.state.condition (G.births.name zi) ≡ Waits off2) (on : off2.channel ≡ ch)
      (t2 : ProcessMatches G (lv (G.births.name zi)) (λ a b. lv ((a, b) ∷ G.births.name zi)) (G.births.name zi)
      (c.since (G.births.name zi)) off2.next x.state.store d2)
      (ca2 : Ca G (lv (G.births.name zi)) (λ a b. lv ((a, b) ∷ G.births.name zi)) (G.births.name zi) t2.fresh
      off2.next.who t2.named (c.since (G.births.name zi)) t2.js off2.channel off2.kind off2.payload st2)
      (opens2 : off2.next.who.opens ≡ u.births.opens zi) (laid2 : c.laid (G.births.name zi) ≡ false) where
    abbrev v : Name
    v = w at_stop

    abbrev zn : Name
    zn = G.births.name zi

    abbrev r : WorkOutcome Action × Store
    r = (Computed (Offered ch kd cg todo) o, m)

    abbrev off : OfferOf (superpascal G.g)
    off = ao.off at_stop z ch kd cg todo o m x t y

    -- the machine's process where it goes on after its offer
    abbrev there : Config (Memory Plain)
    there = ao.there at_stop z ch kd cg todo o m x t y

    known_then : StateKeeps G.g x.state
    known_then = known_at at_stop z r x what said

    rights_then : Inv G.g.program (W_of G lv) (R_of G lv) x.state.condition x.state.forks
    rights_then = rights_at at_stop z r x what said

    -- ---- what the offer comes to in the meaning

    passes : limit_fault (total_limits G.g) x.state.totals (Some entry_cost) ≡ None
    passes =
        ap (λ (a : Totals). limit_fault (total_limits G.g) a (Some entry_cost)) x.elsewhere.totals
        ∙ ap (λ n. if nat_lt G.g.limits.entries (n + 1) then Some fault.F15 else None) l.entries
        ∙ ap (λ b. if b then Some fault.F15 else None) enough

    outcome_is : (mm : Option (Address × LocationContent)) → message cg off2.payload ≡ mm
        → step_outcome {L = superpascal G.g} (total_limits G.g) x.state v (Offering off)
        ≡ handover_outcome {L = superpascal G.g} x.state v off zn off2 mm
    outcome_is mm e = ap (λ a. fault_or a (offer_outcome {L = superpascal G.g} x.state v off (x.state.pending ch)))
        passes
        ∙ ap (λ a. offer_outcome {L = superpascal G.g} x.state v off a) (ap (λ a. a ch) x.elsewhere.pending ∙ pends)
        ∙ ap (λ a. meeting_outcome {L = superpascal G.g} x.state v off zn a) waits
        ∙ ap (λ a. handover_outcome {L = superpascal G.g} x.state v off zn off2 a) e

    numbers : i ≢ zi
    numbers e = apart (ap (λ n. G.births.name n) (sym e))

    is_open : j < u.births.channels
    is_open = subst (λ n. j < n) l.open_is named.0

    name_of : channel u.births j ≡ ch
    name_of = l.began.openings j is_open ∙ named.2

    -- ---- the two meet

    -- what is known when they do: where the message goes, the message, and which of the two receives it
    record Meeting : Type 0 where
      address : Address
      content : LocationContent
      same_kind : kd == off2.kind ≡ true
      message_is : message cg off2.payload ≡ Some (address, content)
      who_receives : Name
      alone : IsAlone x.state who_receives
      is_either : (who_receives ≡ v) ⊎ (who_receives ≡ zn)
      may_receive : OwnOrGiven (W_of G lv) who_receives address.spot

    module _ (meeting : Meeting) where
      open meeting use {
        address as a,
        content as hv,
        same_kind,
        message_is as msg,
        who_receives as wr,
        alone as wr_alone,
        is_either as wr_is,
        may_receive as may,
      }

      abbrev t1 : StateOf G.g
      t1 = After {L = superpascal G.g} (meeting_changes {L = superpascal G.g} x.state v off zn off2 (a, hv)) x.state

      meets_so : step_outcome {L = superpascal G.g} (total_limits G.g) x.state v (Offering off)
          ≡ Advances (meeting_changes {L = superpascal G.g} x.state v off zn off2 (a, hv))
      meets_so = outcome_is (Some (a, hv)) msg
          ∙ ap (λ b. if b then Advances (meeting_changes {L = superpascal G.g} x.state v off zn off2 (a, hv)) else
          Faulty
          fault.F7)
          same_kind

      abbrev says_now : Happening
      says_now = Is_offered (way_of cg) ch

      said_now : happening_at G.g x.state v x.left ≡ Some says_now
      said_now = kernel_says G.g v x.state x.left x.runs r x.does
          ∙ ap (λ b. happening_of {L = superpascal G.g} (Offering off) b) meets_so

      goes_next : next_state G.g x.state v ≡ Some t1
      goes_next = kernel_next G.g v x.state x.left x.runs r x.does
          ∙ ap (λ b. Some (result_of {L = superpascal G.g} x.state v b)) meets_so

      cond_z : t1.condition zn ≡ Works off2.next
      cond_z = at_same name_test (put_at same_name v (Works off.next) x.state.condition) zn (Works off2.next)

      cond_v : t1.condition v ≡ Works off.next
      cond_v = at_other name_test (put_at same_name v (Works off.next) x.state.condition) zn v (Works off2.next) apart
          ∙ at_same name_test x.state.condition v (Works off.next)

      cond_r : (b : Name) → b ≢ v → b ≢ zn → t1.condition b ≡ x.state.condition b
      cond_r b nv nz = at_other name_test (put_at same_name v (Works off.next) x.state.condition) zn b (Works off2.next)
          (λ e. nz (sym e)) ∙ at_other name_test x.state.condition v b (Works off.next) (λ e. nv (sym e))

      known_now : StateKeeps G.g t1
      known_now = record {
        sound = step_sound (total_limits G.g) x.state v t1 known_then.sound goes_next;
        well = lowered G.g (λ b. ticks_in (x.state.condition b)) t1
            (step_well G.g x.state known_then.sound v (raised G.g x.state known_then.well) t1 goes_next);
      }

      holds_z : ConditionInRights G.g.program (W_of G lv) (R_of G lv) x.state.forks zn (Waits off2)
      holds_z = subst (λ b. ConditionInRights G.g.program (W_of G lv) (R_of G lv) x.state.forks zn b) waits
          (rights_then.holds zn)

      rights_now : Inv G.g.program (W_of G lv) (R_of G lv) t1.condition t1.forks
      rights_now = inv_local G (W_of G lv) (R_of G lv) first t1.condition x.state.forks x.state.forks zn
          (inv_local G (W_of G lv) (R_of G lv) x.state.condition first x.state.forks x.state.forks v rights_then refl
          (λ e. subst (λ b. IsLive b) e (working_lives x.state.condition v (x.state.condition v) x.left x.runs))
          (λ b e. at_other name_test x.state.condition v b (Works off.next) (λ f. e (sym f)))
          (subst (λ b. ConditionInRights G.g.program (W_of G lv) (R_of G lv) x.state.forks v b)
          (sym (at_same name_test x.state.condition v (Works off.next)))
          (ao.holds at_stop z ch kd cg todo o m x t y).0))
          refl (λ e. no_absent (sym waits ∙ sym
          (at_other name_test x.state.condition v zn (Works off.next) (λ f. apart (sym f))) ∙ e))
          (λ b e. at_other name_test first zn b (Works off2.next) (λ f. e (sym f)))
          (subst (λ b. ConditionInRights G.g.program (W_of G lv) (R_of G lv) x.state.forks zn b) (sym cond_z) holds_z.0)
        where
          first : Name → Condition Process LocationContent Address
          first = put_at same_name v (Works off.next) x.state.condition

          no_absent : ◌≡◌ {A = Condition Process LocationContent Address} (Waits off2) Absent → ⊥
          no_absent e = cc e

      stays : (b : Loc) → (t1.store b ≡ x.state.store b) ⊎ OwnOrGiven (W_of G lv) wr b
      stays b = go (same_loc a.spot b) refl
        where
          go : (f : Bool) → same_loc a.spot b ≡ f → (t1.store b ≡ x.state.store b) ⊎ OwnOrGiven (W_of G lv) wr b
          go true e = inr (subst (λ k. OwnOrGiven (W_of G lv) wr k) ((loc_test a.spot b).0 e) may)
          go false e = inl (ap (λ f. cond f (content_with a (x.state.store a.spot) hv) (x.state.store b)) e)

      ended_same : (b : Name) → has_ended (t1.condition b) ≡ has_ended (x.state.condition b)
      ended_same b = ⊎_elim
          (λ (e : b ≡ v). ap (λ k. has_ended (t1.condition k)) e ∙ ap (λ k. has_ended k) cond_v
          ∙ sym (ended_at at_stop z r x what said) ∙ ap (λ k. has_ended (x.state.condition k)) (sym e))
          (λ (nv : b ≢ v). ⊎_elim
          (λ (e : b ≡ zn). ap (λ k. has_ended (t1.condition k)) e ∙ ap (λ k. has_ended k) cond_z
          ∙ sym (ap (λ k. has_ended k) waits) ∙ ap (λ k. has_ended (x.state.condition k)) (sym e))
          (λ (nz : b ≢ zn). ap (λ k. has_ended k) (cond_r b nv nz))
          (same_or_not name_test b zn))
          (same_or_not name_test b v)

      present_same : (b : Name) → x.state.condition b ≢ Absent → t1.condition b ≢ Absent
      present_same b h e = ⊎_elim
          (λ (f : b ≡ v). subst (λ k. IsLive k) (sym cond_v ∙ subst (λ k. t1.condition k ≡ Absent) f e) tt)
          (λ (nv : b ≢ v). ⊎_elim (λ (f : b ≡ zn). subst (λ k. IsLive k)
          (sym cond_z ∙ subst (λ k. t1.condition k ≡ Absent) f e) tt) (λ (nz : b ≢ zn). h (sym (cond_r b nv nz) ∙ e))
          (same_or_not name_test b zn))
          (same_or_not name_test b v)

      abbrev c1 : JournalState
      c1 = with_ticks v (ticks_of G.g t1 v) c

      since_here : c1.since v ≡ t.memory.ticks
      since_here = ap (λ b. cond b (ticks_of G.g t1 v) (c.since v)) (itself name_test v) ∙ ap ticks_in cond_v
          ∙ t.stand.ticks

      known_numbers : (k : ℕ) → k < u.births.processes → k < G.births.processes
      known_numbers k lt = let b = l.began.processes in omega (arith, lt, b)

      other_z : (k : ℕ) → k < u.births.processes → zi ≢ k → G.births.name k ≢ zn
      other_z k lt e h = e (G.one_name zi k (known_numbers zi few) (known_numbers k lt) (sym h))

      not_writer : (b : Name) → b ≢ v → b ≢ zn → b ≢ wr
      not_writer b nv nz e = ⊎_elim (λ f. nv (e ∙ f)) (λ f. nz (e ∙ f)) wr_is

      does_other : (k : ℕ) → k < u.births.processes → i ≢ k → zi ≢ k
          → Performs_all G lv (G.births.name k) c1 t1 (u.births.opens k) (u.condition k)
      does_other k lt e f =
          let nv = other_name at_stop z r x what said k lt e in
          let nz = other_z k lt f in
          does_stay G lv x.state t1 known_then.sound rights_then.fair wr wr_alone stays (G.births.name k)
          (not_writer (G.births.name k) nv nz) (cond_r (G.births.name k) nv nz)
          (λ a b. ended_same ((a, b) ∷ G.births.name k)) (λ a b. present_same ((a, b) ∷ G.births.name k)) c c1
          (since_other c v (ticks_of G.g t1 v) (G.births.name k) nv) refl (λ h. h) (u.births.opens k) (u.condition k)
          (does_at at_stop z r x what said k lt e)

      -- with the message, and with nothing else changed
      abbrev with_message : StateOf G.g
      with_message = record (x.state) { store = t1.store }

      module _ (e1 e2 : Config (Memory Plain))
          (do_v : ProcessMatches G (lv v) (λ a b. lv ((a, b) ∷ v)) v (c1.since v) off.next t1.store e1)
          (do_z : ProcessMatches G (lv zn) (λ a b. lv ((a, b) ∷ zn)) zn (c.since zn) off2.next t1.store e2) where
        abbrev u1 : System Plain
        u1 = record u {
          condition = at_key ◌==◌ i (sys.Working e1) (at_key ◌==◌ zi (sys.Working e2) u.condition);
          pending = at_key ◌==◌ j None u.pending;
          entries = u.entries + 1;
        }

        at_v : u1.condition i ≡ sys.Working e1
        at_v = ap (λ b. cond b (sys.Working e1) (cond (zi == i) (sys.Working e2) (u.condition i))) (eq-eqb i i refl)

        at_zi : u1.condition zi ≡ sys.Working e2
        at_zi = ap (λ b. cond b (sys.Working e1) (cond (zi == zi) (sys.Working e2) (u.condition zi)))
            (ne_eqb i zi numbers) ∙ ap (λ b. cond b (sys.Working e2) (u.condition zi)) (eq-eqb zi zi refl)

        at_far : (k : ℕ) → i ≢ k → zi ≢ k → u1.condition k ≡ u.condition k
        at_far k e f = ap (λ b. cond b (sys.Working e1) (cond (zi == k) (sys.Working e2) (u.condition k))) (ne_eqb i k
            e)
            ∙ ap (λ b. cond b (sys.Working e2) (u.condition k)) (ne_eqb zi k f)

        its_does : Performs_all G lv v c1 t1 (u.births.opens i) (sys.Working e1)
        its_does = (
          off.next,
          ap (own_part_in t1.condition v) cond_v,
          inl do_v,
          ao.opens_same at_stop z ch kd cg todo o m x t y,
          unlaid at_stop,
        )

        other_does : Performs_all G lv zn c1 t1 (u.births.opens zi) (sys.Working e2)
        other_does = (
          off2.next,
          ap (own_part_in t1.condition zn) cond_z,
          inl (subst (λ k. ProcessMatches G (lv zn) (λ a b. lv ((a, b) ∷ zn)) zn k off2.next t1.store e2)
              (sym (since_other c v (ticks_of G.g t1 v) zn apart)) do_z),
          opens2,
          laid2,
        )

        pends_now : (k : ℕ) → k < u.births.channels → IsPending G (t1.pending (channel G.births k)) (u1.pending k)
        pends_now k lt = ⊎_elim
            (λ (e : j ≡ k). subst (λ b. IsPending G (t1.pending (channel G.births b)) (u1.pending b)) e
            (subst (λ b. IsPending G (cond b None (x.state.pending (channel G.births j))) (u1.pending j))
            (sym ((channel_test ch (channel G.births j)).1 (sym named.2)))
            (subst (λ b. IsPending G None (cond b None (u.pending j))) (sym (eq-eqb j j refl)) tt)))
            (λ (e : j ≢ k). subst (λ b. IsPending G (cond b None (x.state.pending (channel G.births k))) (u1.pending k))
            (sym (far e))
            (subst (λ b. IsPending G (x.state.pending (channel G.births k)) (cond b None (u.pending k)))
            (sym (ne_eqb j k e))
            (subst (λ b. IsPending G (b (channel G.births k)) (u.pending k)) (sym x.elsewhere.pending)
            (l.pending k lt))))
            (number_or j k)
          where
            far : j ≢ k → same_channel ch (channel G.births k) ≡ false
            far e = differs channel_test ch (channel G.births k)
                (λ h. e (G.one_channel j k named.1 (let b = l.began.channels in omega (arith, lt, b)) (named.2 ∙ h)))

        linked : Linked G lv c1 t1 u1
        linked = record {
          rights = rights_now;
          known = known_now;
          reads_output = l.reads_output;
          began = l.began;
          open_is = l.open_is;
          forks = λ k lt. ap (λ b. b (G.births.name k)) x.elsewhere.forks ∙ l.forks k lt;
          processes = (let b = ap (λ (k : Totals). k.processes) x.elsewhere.totals in let e = l.processes in
              omega (arith, b, e));
          channels = (let b = ap (λ (k : Totals). k.channels) x.elsewhere.totals in let e = l.channels in
              omega (arith, b, e));
          entries = (let b = ap (λ (k : Totals). k.entries) x.elsewhere.totals in let e = l.entries in
              omega (arith, b, e));
          fresh_since = λ b e. ⊎_elim (λ (f : b ≡ v). absurd
              (no_absent off.next (sym cond_v ∙ subst (λ k. t1.condition k ≡ Absent) f e)))
              (λ (nv : b ≢ v). ⊎_elim (λ (f : b ≡ zn). absurd
              (no_absent off2.next (sym cond_z ∙ subst (λ k. t1.condition k ≡ Absent) f e)))
              (λ (nz : b ≢ zn). since_other c v (ticks_of G.g t1 v) b nv
              ∙ l.fresh_since b (sym (x.elsewhere.condition b nv) ∙ sym (cond_r b nv nz) ∙ e))
              (same_or_not name_test b zn)) (same_or_not name_test b v);
          pending = pends_now;
          none_pending = λ k le. ap (λ b. cond b None (u.pending k))
              (ne_eqb j k (λ e. let b = is_open in omega (arith, b, le, e))) ∙ l.none_pending k le;
          faulted = l.faulted;
          no_fault = λ e. x.elsewhere.fault ∙ l.no_fault e;
          unlaid = l.unlaid;
          does = λ k lt. ⊎_elim
              (λ (e : i ≡ k). subst (λ b. Performs_all G lv (G.births.name b) c1 t1 (u.births.opens b) (u1.condition b))
              e
              (subst (λ b. Performs_all G lv v c1 t1 (u.births.opens i) b) (sym at_v) its_does))
              (λ (e : i ≢ k). ⊎_elim
              (λ (f : zi ≡ k). subst (λ b. Performs_all G lv (G.births.name b) c1 t1 (u.births.opens b) (u1.condition
              b))
              f (subst (λ b. Performs_all G lv zn c1 t1 (u.births.opens zi) b) (sym at_zi) other_does))
              (λ (f : zi ≢ k). subst (λ b. Performs_all G lv (G.births.name k) c1 t1 (u.births.opens k) b)
              (sym (at_far k e f)) (does_other k lt e f))
              (number_or zi k))
              (number_or i k);
          unborn = λ k le. at_far k (λ e. let b = here at_stop in omega (arith, b, le, e))
              (λ e. omega (arith, few, le, e)) ∙ l.unborn k le;
          unmade = l.unmade;
          numbered = λ b h. ⊎_elim (λ (e : b ≡ v). (i, here at_stop, sym e))
              (λ (nv : b ≢ v). ⊎_elim (λ (e : b ≡ zn). (zi, few, sym e))
              (λ (nz : b ≢ zn). l.numbered b (λ f. h (cond_r b nv nz ∙ x.elsewhere.condition b nv ∙ f)))
              (same_or_not name_test b zn)) (same_or_not name_test b v);
        }
          where
            no_absent : (pr : Process) → ◌≡◌ {A = Condition Process LocationContent Address} (Works pr) Absent → ⊥
            no_absent pr e = cc e

        -- once it is known what the machine's turn makes
        entry_by : system_after_turn plain (run_is G) i (Stopped t.stop (At t.pc t.stack t.memory)) u ≡ u1
            → happening u.births (event_of G.g.limits u (Stopped t.stop (At t.pc t.stack t.memory))) ≡ says_now
            → IsOpen u.births (event_of G.g.limits u (Stopped t.stop (At t.pc t.stack t.memory))) → Entry_of G c s u i d
        entry_by is told speaks = record {
          turn = Stopped t.stop (At t.pc t.stack t.memory);
          is_turn = ao.tn_is at_stop z ch kd cg todo o m x t y;
          way = way_of_step at_stop x.steps x.state (x.turn says_now said_now) says_now t1
              (makes_step at_stop x.state t1 x.left says_now no_fault x.runs said_now goes_next) _
              (sym told);
          speaks = speaks;
          lives = lv;
          linked = λ began. now_by G lv c1 t1 (system_after_turn plain (run_is G) i (Stopped t.stop (At t.pc t.stack
              t.memory)) u)
              (subst (λ a. Linked G lv c1 t1 a) (sym is) linked);
        }

    -- ---- this one sends

    module _ (value : Value) (cg_is : cg ≡ Message (Tree value)) (a : Address) (payload2 : off2.payload ≡ Takes a)
        (same_kind : kd == off2.kind ≡ true) where
      msg : message cg off2.payload ≡ Some (a, Tree value)
      msg = ap (λ b. message b off2.payload) cg_is ∙ ap (λ b. message (Message (Tree value)) b) payload2

      alone_z : IsAlone x.state zn
      alone_z = inr (ch, subst (λ b. WaitsOn ch b) (sym waits) on)

      may_z : OwnOrGiven (W_of G lv) zn a.spot
      may_z = (subst (λ b. MayTake G.g.program (λ k. OwnOrGiven (W_of G lv) zn k)
          (λ k. OwnOrGiven (R_of G lv) zn k) b) payload2
          (subst (λ b. ConditionInRights G.g.program (W_of G lv) (R_of G lv) x.state.forks zn b) waits
          (rights_then.holds zn)).1)

      abbrev sending : Meeting
      sending = record {
        address = a;
        content = Tree value;
        same_kind = same_kind;
        message_is = msg;
        who_receives = zn;
        alone = alone_z;
        is_either = inr refl;
        may_receive = may_z;
      }

      abbrev t1s : StateOf G.g
      t1s = t1 sending

      abbrev c1s : JournalState
      c1s = c1 sending

      since_s : c1s.since v ≡ t.memory.ticks
      since_s = since_here sending

      -- what it gives, at the stop, and where the other takes it
      gives : Ca G (lv v) (λ a b. lv ((a, b) ∷ v)) v z.fresh x.left.who x.good.named (c1s.since v) t.frames ch kd
          (Message (Tree value)) t.stop
      gives = subst (λ b. Ca G (lv v) (λ a b. lv ((a, b) ∷ v)) v z.fresh x.left.who x.good.named (c1s.since v) t.frames
          ch kd b
          t.stop) cg_is (ao.payload at_stop z ch kd cg todo o m x t y (c1s.since v) since_s)

      takes : Ca G (lv zn) (λ a b. lv ((a, b) ∷ zn)) zn t2.fresh off2.next.who t2.named (c.since zn) t2.js off2.channel
          off2.kind (Takes a) st2
      takes = subst (λ b. Ca G (lv zn) (λ a b. lv ((a, b) ∷ zn)) zn t2.fresh off2.next.who t2.named (c.since zn) t2.js
          off2.channel off2.kind b st2) payload2 ca2

      abbrev sent_cells : List OneCell
      sent_cells = cells_in gives.1

      flat : Flat G.g.program (Named G) off2.kind value sent_cells
      flat = let (_, entry, _, _, fits) = gives in
          subst (λ k. Flat G.g.program (Named G) k value (cells_in entry))
          (eqb-true kd off2.kind same_kind)
          (sent_flat G (lv v) (λ a b. lv ((a, b) ∷ v)) v x.left.who (c1s.since v) kd (sort G.g.program kd) refl value
          entry fits)

      sender : ProcessMatches G (lv v) (λ a b. lv ((a, b) ∷ v)) v (c1s.since v) off.next t1s.store
          there
      sender = stands_stay G lv x.state (with_message sending)
          known_then.sound rights_then.fair zn alone_z (stays sending)
          v
          (λ e. apart (sym e)) refl (λ k n. refl) (λ k n h. h)
          (c1s.since v) off.next there (inl (x.left, x.runs))
          (ao.stands at_stop z ch kd cg todo o m x t y (c1s.since v) since_s)

      receiver : ProcessMatches G (lv zn) (λ a b. lv ((a, b) ∷ zn)) zn (c.since zn) off2.next t1s.store
          (on_store (put_cells plain takes.1 sent_cells) d2)
      receiver = receiver_stands G (lv zn) (λ a b. lv ((a, b) ∷ zn)) zn t2 off2.channel off2.kind a st2 takes value
          sent_cells flat

      -- ---- in the machine

      kinds_back : off2.kind == kd ≡ true
      kinds_back = eq-eqb off2.kind kd (sym (eqb-true kd off2.kind same_kind))

      jj : gives.0 ≡ j
      jj = let (number, _, _, (_, below, channel_is), _) = gives in
          G.one_channel number j below named.1 (channel_is ∙ sym named.2)

      stop_is : t.stop ≡ Sends j kd sent_cells
      stop_is = gives.2 ∙ ap (λ k. Sends k kd sent_cells) jj

      abbrev tn : Turn (Memory Plain)
      tn = Stopped (Sends j kd sent_cells) (At t.pc t.stack t.memory)

      turn_has_no_fault : fault_of G.g.limits u tn ≡ None
      turn_has_no_fault = ap (λ b. sys.first_fault (if b then Some fault.F15 else None)
          (sys.clash_by way.Send kd (sys.pending_stop u (u.pending j)))) enough
          ∙ ap (λ b. sys.clash_by way.Send kd (sys.pending_stop u b)) pending_is
          ∙ ap (λ b. sys.clash_by way.Send kd (sys.stop_of {S = Plain} b)) at_z
          ∙ ap (λ b. sys.clash_by way.Send kd (Some b)) takes.2
          ∙ ap (λ b. if b then None else Some fault.F7) kinds_back

      abbrev u1s : System Plain
      u1s = u1 sending
          there (on_store (put_cells plain takes.1 sent_cells) d2) sender receiver

      after_is : system_after_turn plain (run_is G) i tn u ≡ u1s
      after_is = after_no_fault G i tn u no_fault ∙ ap
          (λ f. record (apply_unless_fault plain (run_is G) f i tn u) {
            births =
                births_after_event u.births i (event_or f tn);
          })
          turn_has_no_fault
          ∙ ap (λ b. record (sys.with_entry_counted plain (run_is G)
          (sys.apply_send plain (run_is G) i (Sends j kd sent_cells) j sent_cells
          there b u)) { births = u.births }) pending_is
          ∙ ap (λ b. record u {
            condition = at_key ◌==◌ i
                (sys.Working there)
                (at_key ◌==◌ zi (sys.after_message plain (run_is G) sent_cells b) u.condition);
            pending = at_key ◌==◌ j None u.pending;
            entries = u.entries + 1;
          }) at_z
          ∙ ap (λ b. record u {
            condition = at_key ◌==◌ i
                (sys.Working there)
                (at_key ◌==◌ zi (sys.after_message plain (run_is G) sent_cells (sys.Waits b d2)) u.condition);
            pending = at_key ◌==◌ j None u.pending;
            entries = u.entries + 1;
          }) takes.2

      event_is : event_of G.g.limits u tn ≡ event.Send j
      event_is = ap (λ b. if b then event.Laid else event_or (fault_of G.g.limits u tn) tn) no_fault
          ∙ ap (λ f. event_or f tn) turn_has_no_fault

      pub sending_meets : Entry_of G c s u i d
      sending_meets = entry_by sending
          there (on_store (put_cells plain takes.1 sent_cells) d2) sender receiver
          (ap (λ st. system_after_turn plain (run_is G) i (Stopped st (At t.pc t.stack t.memory)) u) stop_is ∙ after_is)
          (ap (λ st. happening u.births (event_of G.g.limits u (Stopped st (At t.pc t.stack t.memory)))) stop_is
          ∙ ap (λ f. happening u.births f) event_is ∙ ap (λ k. Is_offered way.Send k) name_of
          ∙ ap (λ b. Is_offered (way_of b) ch) (sym cg_is))
          (subst (λ st. IsOpen u.births (event_of G.g.limits u (Stopped st (At t.pc t.stack t.memory)))) (sym stop_is)
          (subst (λ f. IsOpen u.births f) (sym event_is) is_open))

    -- ---- this one receives

    module _ (value : Value) (a : Address) (cg_is : cg ≡ Takes a) (payload2 : off2.payload ≡ Message (Tree value))
        (same_kind : kd == off2.kind ≡ true) where
      msg_r : message cg off2.payload ≡ Some (a, Tree value)
      msg_r = ap (λ b. message b off2.payload) cg_is ∙ ap (λ b. message (Takes a) b) payload2

      alone_v : IsAlone x.state v
      alone_v = inl (x.left, x.runs)

      may_v : OwnOrGiven (W_of G lv) v a.spot
      may_v = subst (λ b. MayTake G.g.program (λ k. OwnOrGiven (W_of G lv) v k)
          (λ k. OwnOrGiven (R_of G lv) v k) b) cg_is (ao.holds at_stop z ch kd cg todo o m x t y).1

      abbrev receiving : Meeting
      receiving = record {
        address = a;
        content = Tree value;
        same_kind = same_kind;
        message_is = msg_r;
        who_receives = v;
        alone = alone_v;
        is_either = inl refl;
        may_receive = may_v;
      }

      abbrev t1r : StateOf G.g
      t1r = t1 receiving

      abbrev c1r : JournalState
      c1r = c1 receiving

      since_r : c1r.since v ≡ t.memory.ticks
      since_r = since_here receiving

      takes_v : Ca G (lv v) (λ a b. lv ((a, b) ∷ v)) v z.fresh x.left.who x.good.named (c1r.since v) t.frames ch kd
          (Takes a)
          t.stop
      takes_v = subst (λ b. Ca G (lv v) (λ a b. lv ((a, b) ∷ v)) v z.fresh x.left.who x.good.named (c1r.since v)
          t.frames ch kd
          b t.stop) cg_is (ao.payload at_stop z ch kd cg todo o m x t y (c1r.since v) since_r)

      gives_z : Ca G (lv zn) (λ a b. lv ((a, b) ∷ zn)) zn t2.fresh off2.next.who t2.named (c.since zn) t2.js
          off2.channel
          off2.kind (Message (Tree value)) st2
      gives_z = subst (λ b. Ca G (lv zn) (λ a b. lv ((a, b) ∷ zn)) zn t2.fresh off2.next.who t2.named (c.since zn) t2.js
          off2.channel off2.kind b st2) payload2 ca2

      abbrev received_cells : List OneCell
      received_cells = cells_in gives_z.1

      flat_r : Flat G.g.program (Named G) kd value received_cells
      flat_r = let (_, entry, _, _, fits) = gives_z in
          subst (λ k. Flat G.g.program (Named G) k value (cells_in entry))
          (sym (eqb-true kd off2.kind same_kind))
          (sent_flat G (lv zn) (λ a b. lv ((a, b) ∷ zn)) zn off2.next.who (c.since zn) off2.kind
          (sort G.g.program off2.kind) refl value entry fits)

      sender_z : ProcessMatches G (lv zn) (λ a b. lv ((a, b) ∷ zn)) zn (c.since zn) off2.next t1r.store d2
      sender_z = stands_stay G lv x.state (with_message receiving)
          known_then.sound rights_then.fair v alone_v (stays receiving)
          zn
          apart refl (λ k n. refl) (λ k n h. h)
          (c.since zn) off2.next d2 (inr (ch, subst (λ b. WaitsOn ch b) (sym waits) on)) t2

      receiver_v : ProcessMatches G (lv v) (λ a b. lv ((a, b) ∷ v)) v (c1r.since v) off.next t1r.store
          (on_store (put_cells plain takes_v.1 received_cells)
          there)
      receiver_v = receiver_stands G (lv v) (λ a b. lv ((a, b) ∷ v)) v
          (ao.stands at_stop z ch kd cg todo o m x t y (c1r.since v) since_r) ch kd a t.stop takes_v value
          received_cells flat_r

      jj_r : takes_v.0 ≡ j
      jj_r = let (number, _, _, (_, below, channel_is), _, _, _) = takes_v in
          G.one_channel number j below named.1 (channel_is ∙ sym named.2)

      stop_is_r : t.stop ≡ Receives j kd takes_v.1
      stop_is_r = takes_v.2 ∙ ap (λ k. Receives k kd takes_v.1) jj_r

      abbrev tr : Turn (Memory Plain)
      tr = Stopped (Receives j kd takes_v.1) (At t.pc t.stack t.memory)

      kinds_back_r : off2.kind == kd ≡ true
      kinds_back_r = eq-eqb off2.kind kd (sym (eqb-true kd off2.kind same_kind))

      no_fault_r : fault_of G.g.limits u tr ≡ None
      no_fault_r = ap (λ b. sys.first_fault (if b then Some fault.F15 else None)
          (sys.clash_by way.Receive kd (sys.pending_stop u (u.pending j)))) enough
          ∙ ap (λ b. sys.clash_by way.Receive kd (sys.pending_stop u b)) pending_is
          ∙ ap (λ b. sys.clash_by way.Receive kd (sys.stop_of {S = Plain} b)) at_z
          ∙ ap (λ b. sys.clash_by way.Receive kd (Some b)) gives_z.2
          ∙ ap (λ b. if b then None else Some fault.F7) kinds_back_r

      abbrev u1r : System Plain
      u1r = u1 receiving
          (on_store (put_cells plain takes_v.1 received_cells)
          there) d2 receiver_v sender_z

      after_is_r : system_after_turn plain (run_is G) i tr u ≡ u1r
      after_is_r = after_no_fault G i tr u no_fault ∙ ap
          (λ f. record (apply_unless_fault plain (run_is G) f i tr u) {
            births =
                births_after_event u.births i (event_or f tr);
          })
          no_fault_r
          ∙ ap (λ b. record (sys.with_entry_counted plain (run_is G)
          (sys.apply_receive plain (run_is G) i (Receives j kd takes_v.1) j takes_v.1
          there b u)) { births = u.births }) pending_is
          ∙ ap (λ b. record u {
            condition = at_key ◌==◌ i
                (sys.Working (on_store (put_cells plain takes_v.1
                (sys.message_of plain (run_is G) (sys.stop_of {S = Plain} b)))
                there))
                (at_key ◌==◌ zi (sys.after_message plain (run_is G) [] b) u.condition);
            pending = at_key ◌==◌ j None u.pending;
            entries = u.entries + 1;
          }) at_z
          ∙ ap (λ b. record u {
            condition = at_key ◌==◌ i
                (sys.Working (on_store (put_cells plain takes_v.1 (sys.message_of plain (run_is G) (Some b)))
                there))
                (at_key ◌==◌ zi (sys.after_message plain (run_is G) [] (sys.Waits b d2)) u.condition);
            pending = at_key ◌==◌ j None u.pending;
            entries = u.entries + 1;
          }) gives_z.2

      event_is_r : event_of G.g.limits u tr ≡ event.Receive j
      event_is_r = ap (λ b. if b then event.Laid else event_or (fault_of G.g.limits u tr) tr) no_fault
          ∙ ap (λ f. event_or f tr) no_fault_r

      pub receiving_meets : Entry_of G c s u i d
      receiving_meets = entry_by receiving
          (on_store (put_cells plain takes_v.1 received_cells)
          there) d2 receiver_v sender_z
          (ap (λ st. system_after_turn plain (run_is G) i (Stopped st (At t.pc t.stack t.memory)) u) stop_is_r
          ∙ after_is_r)
          (ap (λ st. happening u.births (event_of G.g.limits u (Stopped st (At t.pc t.stack t.memory)))) stop_is_r
          ∙ ap (λ f. happening u.births f) event_is_r ∙ ap (λ k. Is_offered way.Receive k) name_of
          ∙ ap (λ b. Is_offered (way_of b) ch) (sym cg_is))
          (subst (λ st. IsOpen u.births (event_of G.g.limits u (Stopped st (At t.pc t.stack t.memory)))) (sym stop_is_r)
          (subst (λ f. IsOpen u.births f) (sym event_is_r) is_open))

    -- ---- the two do not go together

    module _ (f : Fault)
        (faults : step_outcome {L = superpascal G.g} (total_limits G.g) x.state v (Offering off) ≡ Faulty f)
        (fault_is : fault_of G.g.limits u (Stopped t.stop (At t.pc t.stack t.memory)) ≡ Some f) where
      clash_entry : Entry_of G c s u i d
      clash_entry = failed_entry at_stop (offered_halt at_stop z ch kd cg todo o m x t) refl f
          (kernel_says G.g v x.state x.left x.runs r x.does
          ∙ ap (λ b. happening_of {L = superpascal G.g} (Offering off) b) faults)
          (kernel_next G.g v x.state x.left x.runs r x.does
          ∙ ap (λ b. Some (result_of {L = superpascal G.g} x.state v b)) faults) fault_is no_fault

    -- what the machine finds at this stop against the other one
    found : (st : Stop) (w1 : Way) → t.stop ≡ st → ((e1 : Option Fault)
        → fault_of G.g.limits u (Stopped st (At t.pc t.stack t.memory))
        ≡ sys.first_fault (if nat_lt G.g.limits.entries (u.entries + 1) then Some fault.F15 else None)
        (sys.clash_by w1 kd (sys.pending_stop u (u.pending j))))
        → fault_of G.g.limits u (Stopped t.stop (At t.pc t.stack t.memory)) ≡ sys.clash_by w1 kd (Some st2)
    found st w1 e h = ap (λ b. fault_of G.g.limits u (Stopped b (At t.pc t.stack t.memory))) e ∙ h None
        ∙ ap (λ b. sys.first_fault (if b then Some fault.F15 else None)
        (sys.clash_by w1 kd (sys.pending_stop u (u.pending j)))) enough
        ∙ ap (λ b. sys.clash_by w1 kd (sys.pending_stop u b)) pending_is
        ∙ ap (λ b. sys.clash_by w1 kd (sys.stop_of {S = Plain} b)) at_z

    sends_found : (cs : List OneCell) (k : ℕ) → Named G ch k → t.stop ≡ Sends k kd cs
        → fault_of G.g.limits u (Stopped t.stop (At t.pc t.stack t.memory)) ≡ sys.clash_by way.Send kd (Some st2)
    sends_found cs k n e = found (Sends j kd cs) way.Send
        (e ∙ ap (λ b. Sends b kd cs) (G.one_channel k j n.1 named.1 (n.2 ∙ sym named.2))) (λ e1. refl)

    takes_found : (a : Ptr) (k : ℕ) → Named G ch k → t.stop ≡ Receives k kd a
        → fault_of G.g.limits u (Stopped t.stop (At t.pc t.stack t.memory)) ≡ sys.clash_by way.Receive kd (Some st2)
    takes_found a k n e = found (Receives j kd a) way.Receive
        (e ∙ ap (λ b. Receives b kd a) (G.one_channel k j n.1 named.1 (n.2 ∙ sym named.2))) (λ e1. refl)

    -- ---- the entry, by the two payloads

    abbrev Mine : Payload LocationContent Address → Type 0
    Mine g1 = Ca G (lv v) (λ a b. lv ((a, b) ∷ v)) v z.fresh (p1 at_stop).who z.named (c.since v) t.frames ch kd
        g1 t.stop

    abbrev Other : Payload LocationContent Address → Type 0
    Other g2 = Ca G (lv zn) (λ a b. lv ((a, b) ∷ zn)) zn t2.fresh off2.next.who t2.named (c.since zn) t2.js off2.channel
        off2.kind g2 st2

    other_kind : (b : Bool) → kd == off2.kind ≡ b → off2.kind == kd ≡ b
    other_kind true e = eq-eqb off2.kind kd (sym (eqb-true kd off2.kind e))
    other_kind false e = ne_eqb off2.kind kd (λ f. let g : true ≡ false = sym (eq-eqb kd off2.kind (sym f)) ∙ e in
        absurd (cc g))

    send_take : (value : Value) (a : Address) → cg ≡ Message (Tree value) → off2.payload ≡ Takes a
        → Mine (Message (Tree value)) → Other (Takes a) → (b : Bool) → kd == off2.kind ≡ b → Entry_of G c s u i d
    send_take value a e f h k true q = sending_meets value e a f q
    send_take value a e f (j1, en, stop_is, named1, _) k false q = clash_entry fault.F7
        (outcome_is (Some (a, Tree value)) (ap (λ b. message b off2.payload) e
        ∙ ap (λ b. message (Message (Tree value)) b) f)
        ∙ ap (λ b. if b then Advances (meeting_changes {L = superpascal G.g} x.state v off zn off2 (a, Tree value)) else
        Faulty fault.F7) q)
        (sends_found (cells_in en) j1 named1 stop_is ∙ ap (λ b. sys.clash_by way.Send kd (Some b)) k.2
        ∙ ap (λ b. if b then None else Some fault.F7) (other_kind false q))

    take_send : (value : Value) (a : Address) → cg ≡ Takes a → off2.payload ≡ Message (Tree value) → Mine (Takes a)
        → Other (Message (Tree value)) → (b : Bool) → kd == off2.kind ≡ b → Entry_of G c s u i d
    take_send value a e f h k true q = receiving_meets value a e f q
    take_send value a e f (j1, target, stop_is, named1, _, _, _) k false q = clash_entry fault.F7
        (outcome_is (Some (a, Tree value)) (ap (λ b. message b off2.payload) e ∙ ap (λ b. message (Takes a) b) f)
        ∙ ap (λ b. if b then Advances (meeting_changes {L = superpascal G.g} x.state v off zn off2 (a, Tree value)) else
        Faulty fault.F7) q)
        (takes_found target j1 named1 stop_is ∙ ap (λ b. sys.clash_by way.Receive kd (Some b)) k.2
        ∙ ap (λ b. if b then None else Some fault.F7) (other_kind false q))

    both : (g1 g2 : Payload LocationContent Address) → cg ≡ g1 → off2.payload ≡ g2 → Mine g1 → Other g2
        → Entry_of G c s u i
        d
    both (Message (Tree value)) (Takes a) e f h k = send_take value a e f h k (kd == off2.kind) refl
    both (Takes a) (Message (Tree value)) e f h k = take_send value a e f h k (kd == off2.kind) refl
    both (Message (Tree value)) (Message (Tree other)) e f (j1, en, stop_is, named1, _) k = clash_entry fault.F6
        (outcome_is None (ap (λ b. message b off2.payload) e ∙ ap (λ b. message (Message (Tree value)) b) f))
        (sends_found (cells_in en) j1 named1 stop_is ∙ ap (λ b. sys.clash_by way.Send kd (Some b)) k.2)
    both (Takes a) (Takes b) e f (j1, target, stop_is, named1, _, _, _) k = clash_entry fault.F6
        (outcome_is None (ap (λ b. message b off2.payload) e ∙ ap (λ b. message (Takes a) b) f))
        (takes_found target j1 named1 stop_is ∙ ap (λ b. sys.clash_by way.Receive kd (Some b)) k.2)
    both (Message (Position n)) g2 e f h k = absurd h
    both (Message (Written bs)) g2 e f h k = absurd h
    both (Message (Tree value)) (Message (Position n)) e f h k = absurd k
    both (Message (Tree value)) (Message (Written bs)) e f h k = absurd k
    both (Takes a) (Message (Position n)) e f h k = absurd k
    both (Takes a) (Message (Written bs)) e f h k = absurd k

    pub meeting_entry : Entry_of G c s u i d
    meeting_entry = both cg off2.payload refl refl t.carries ca2
