-- Who waits in the machine waits in the meaning, with the same way and channel, and the other way round (`waits_means`,
-- `waits_runs`); so where nobody can go on in the one, nobody can in the other, and the same ones wait (`stuck_means`,
-- `stuck_runs`).
use Rattle.std.proofs.Common.{◌≡◌, ℕ, ◌<◌, ◌∷◌, List, Some, false, refl, sym, ap, ◌∙◌, subst}
use Rattle.std.proofs.lemmas.Option.{none-some, same_Some}
use Rattle.sp_journal.specs.declared.entry.Way.TheVariants as way
use Rattle.sp_journal.specs.Births.{channel}
use Rattle.sp_cell.specs.Map.{Plain}
use Rattle.sp_meaning.specs.Model.{Name, Channel, Payload, Message, Takes, Offer, Condition, Absent, Waits, Joins}
use Rattle.sp_meaning.specs.Model.{Ended}
use Rattle.sp_meaning.specs.Steps.{own_part_in, way_of}
use Rattle.sp_meaning.specs.LocalWork.{Tree, Position, Written, LocationContent, Address, Process}
use Rattle.sp_meaning.specs.Runs.{StateOf}
use Rattle.sp_meaning.specs.Along.{JournalState}
use Rattle.sp_meaning.specs.Ends.{Waiting, WaitsSo, IsDeadlock}
use Rattle.sp_code.specs.Machine.{Config, Stop}
use Rattle.sp_code.specs.Memory.{Memory}
use Rattle.sp_code.specs.System.{System}
use Rattle.sp_code.specs.System as sys
use Rattle.sp_link.specs.Endings.{waiting_at, WaitsAs, IsStuck}
use Rattle.sp_link.proofs.Outputs.{done_there}
use Rattle.sp_link.proofs.Journal.{has_number}
use Rattle.sp_link.proofs.Relation.{RunContext, RightsOfAll, Named, Ca, Performs_all, Linked}
use Rattle.sp_link.proofs.WhoRuns.{nobody, somebody, root_over}

module _ (G : RunContext) (lv : RightsOfAll G) (c : JournalState) (s : StateOf G.g) (u : System Plain)
    (l : Linked G lv c s u) where
  -- the channel of a number
  named_here : (ch : Channel) (j : ℕ) → Named G ch j → channel u.births j ≡ ch
  named_here ch j n = l.began.openings j (subst (λ y. j < y) l.open_is n.0) ∙ n.2

  -- what a process offers by its stop and by its payload
  module _ (i : ℕ) (lt : i < u.births.processes) (stop : Stop) (d : Config (Memory Plain))
      (h : Performs_all G lv (G.births.name i) c s (u.births.opens i) (sys.Waits stop d)) where
    abbrev q : Name
    q = G.births.name i

    abbrev o : Offer Process LocationContent Address
    o = h.0

    offers_so : (g : Payload LocationContent Address) → Ca G (lv q) (λ a b. lv ((a, b) ∷ q)) q (h.2).fresh o.next.who
        (h.2).named
        (c.since q) (h.2).js o.channel o.kind g stop
        → waiting_at u.births i stop ≡ Some (record { who = q; way = way_of g; channel = o.channel })
    offers_so (Message (Tree v)) (j, _, stop_is, named, _) = ap (λ y. waiting_at u.births i y) stop_is
        ∙ ap (λ y. Some (waits y)) (l.began.names i lt) ∙ ap (λ y. Some (waits_on y)) (named_here o.channel j named)
      where
        waits : Name → Waiting
        waits y = record { who = y; way = way.Send; channel = channel u.births j }

        waits_on : Channel → Waiting
        waits_on y = record { who = q; way = way.Send; channel = y }
    offers_so (Message (Position n)) x = absurd x
    offers_so (Message (Written bs)) x = absurd x
    offers_so (Takes a) (j, _, stop_is, named, _, _, _) = ap (λ y. waiting_at u.births i y) stop_is
        ∙ ap (λ y. Some (waits y)) (l.began.names i lt)
        ∙ ap (λ y. Some (waits_on y)) (named_here o.channel j named)
      where
        waits : Name → Waiting
        waits y = record { who = y; way = way.Receive; channel = channel u.births j }

        waits_on : Channel → Waiting
        waits_on y = record { who = q; way = way.Receive; channel = y }

    offers : waiting_at u.births i stop ≡ Some (record { who = q; way = way_of o.payload; channel = o.channel })
    offers = let (_, _, _, payload, _, _, _) = h in offers_so o.payload payload

  pub waits_means : (w : Waiting) → WaitsAs u w → WaitsSo G.g s w
  waits_means w h =
      let i = h.number in
      let lt = has_number G lv c s u l i (sys.Waits h.stop h.configuration) h.waits (λ e. cc e) in
      let x : Performs_all G lv (G.births.name i) c s (u.births.opens i) (sys.Waits h.stop h.configuration) =
      subst (λ y. Performs_all G lv (G.births.name i) c s (u.births.opens i) y) h.waits (l.does i lt) in
      let is : Some w ≡ Some (record { who = G.births.name i; way = way_of (x.0).payload; channel = (x.0).channel }) =
      sym h.waiting_is ∙ offers i lt h.stop h.configuration x in
      let same = same_Some _ _ is in (
        x.0,
        ap (λ (y : Waiting). s.condition y.who) same ∙ x.1,
        ap (λ (y : Waiting). y.way) same,
        ap (λ (y : Waiting). y.channel) same,
      )

  pub waits_runs : (w : Waiting) → WaitsSo G.g s w → WaitsAs u w
  waits_runs w (offer, waits, way_is, channel_is) =
      let n = l.numbered w.who (λ e. present (sym waits ∙ e)) in
      by n.0 n.1 n.2 (u.condition n.0) refl (l.does n.0 n.1)
    where
      present : ◌≡◌ {A = Condition Process LocationContent Address} (Waits offer) Absent → ⊥
      present e = cc e

      works : {x : Condition Process LocationContent Address} {pr : Process} (q : Name) → x ≡ Waits offer
          → own_part_in s.condition q x ≡ Some pr → ⊥
      works q e r = none-some _ (sym (ap (own_part_in s.condition q) e) ∙ r)

      ended : ◌≡◌ {A = Condition Process LocationContent Address} Ended (Waits offer) → ⊥
      ended e = cc e

      joins : {k n : ℕ} {pr : Process} → ◌≡◌ {A = Condition Process LocationContent Address} (Joins k n pr)
          (Waits offer) → ⊥
      joins e = cc e

      one : {x y : Offer Process LocationContent Address} → ◌≡◌ {A = Condition Process LocationContent Address}
          (Waits x) (Waits y) → x ≡ y
      one e = cc e

      by : (i : ℕ) → i < u.births.processes → G.births.name i ≡ w.who → (X : sys.Condition Plain) → u.condition i ≡ X
          → Performs_all G lv (G.births.name i) c s (u.births.opens i) X → WaitsAs u w
      by i lt e sys.Absent k x = absurd x
      by i lt e (sys.Working d) k x = absurd (works (G.births.name i) (ap (λ y. s.condition y) e ∙ waits) x.1)
      by i lt e (sys.Waits stop d) k x =
          let o : x.0 ≡ offer = one (sym x.1 ∙ ap (λ y. s.condition y) e ∙ waits) in
          let is : record { who = G.births.name i; way = way_of (x.0).payload; channel = (x.0).channel } ≡ w =
          ap (λ (y : Offer Process LocationContent Address). same (G.births.name i) y) o ∙ ap (λ y. same y offer) e
          ∙ rest in
          record {
            number = i;
            stop = stop;
            configuration = d;
            waits = k;
            waiting_is = offers i lt stop d x ∙ ap (λ y. Some y) is;
          }
        where
          same : Name → Offer Process LocationContent Address → Waiting
          same y z = record { who = y; way = way_of z.payload; channel = z.channel }

          rest : same w.who offer ≡ w
          rest = λ j. record { who = w.who; way = sym way_is j; channel = sym channel_is j }
      by i lt e (sys.Joins left d) k (_, _, _, joining, _, _, _) =
          absurd (joins (sym joining ∙ ap (λ y. s.condition y) e ∙ waits))
      by i lt e (sys.Laid d) k (_, _, (_, runs), _) = absurd (works (G.births.name i) (ap (λ y. s.condition y) e
          ∙ waits) runs)
      by i lt e sys.Gone k x = absurd (ended (sym x.0 ∙ ap (λ y. s.condition y) e ∙ waits))
      by i lt e (sys.Over d) k x = absurd (ended (sym x.0 ∙ ap (λ y. s.condition y) e ∙ waits))

  -- ---- nobody can go on

  pub stuck_means : (ws : List Waiting) → IsStuck u ws → IsDeadlock G.g s ws
  stuck_means ws k = record {
    idle = nobody G lv c s u l k.no_fault k.idle;
    goes_on = λ e. (let z = done_there G lv c s u l e in k.goes_on z.0 z.1);
    no_fault = l.no_fault k.no_fault;
    sorted = k.sorted;
    only = λ w i. waits_means w (k.only w i);
    whole = λ w h. k.whole w (waits_runs w h);
  }

  pub stuck_runs : (ws : List Waiting) → u.faulted ≡ false → IsDeadlock G.g s ws → IsStuck u ws
  stuck_runs ws no_fault k = record {
    no_fault = no_fault;
    idle = λ i d e. (let z = somebody G lv c s u l i d e in none-some _ (sym (k.idle (G.births.name i)) ∙ z.1));
    goes_on = λ d e. k.goes_on (root_over G lv c s u l d e);
    sorted = k.sorted;
    only = λ w i. waits_runs w (k.only w i);
    whole = λ w h. k.whole w (waits_means w h);
  }
