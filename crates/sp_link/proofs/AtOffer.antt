-- A process at its stop with an offer: where it stands after the entry, with which payload, and what it may do when it
-- goes on.
use Rattle.std.proofs.Common.{◌≡◌, ◌⊎◌, ℕ, List, ◌∷◌, length, refl, sym, ap, ◌∙◌, subst}
use Rattle.sp_cell.specs.Map.{Plain}
use Rattle.sp_meaning.specs.Model.{Name, Channel, Payload}
use Rattle.sp_meaning.specs.Steps.{OfferOf}
use Rattle.sp_meaning.specs.LocalWork.{LocationContent, Address, LocalState, Computed, Item, Identity}
use Rattle.sp_meaning.specs.Actions.{Offered}
use Rattle.sp_meaning.specs.SuperPascal.{superpascal, with_todo}
use Rattle.sp_meaning.specs.Run.{Store}
use Rattle.sp_meaning.specs.Turn as source
use Rattle.sp_meaning.proofs.RightsInvariant.{ConditionInRights}
use Rattle.sp_code.specs.Machine.{Config, At}
use Rattle.sp_code.specs.Turns.{Stopped, IsTurn}
use Rattle.sp_code.specs.Memory.{Memory}
use Rattle.sp_codegen.proofs.FramePairs.{sources_length}
use Rattle.sp_link.proofs.AfterEntry.{stand_again, follows_again, payload_again}
use Rattle.sp_meaning.proofs.SilentActions.{IsDead}
use Rattle.sp_link.proofs.AtStop.{same_but_dead, w, p1, kt}
use Rattle.sp_link.proofs.KernelSteps.{stand_dead}
use Rattle.sp_link.proofs.Pauses.{Meant, Kept_to, turn_is}
use Rattle.sp_link.proofs.Relation.{W_of, R_of, ProcessMatches, Ca, ops}
use Rattle.sp_link.proofs.Relation.{AtStop}
use Rattle.sp_link.proofs.Pauses.{MatchesNow, OffersAt}
use Rattle.sp_link.proofs.OneChanges.{opens_are}

module _ (at_stop : AtStop) (z : MatchesNow at_stop)
    (ch : Channel) (kd : ℕ) (cg : Payload LocationContent Address) (todo : List Item) (o : LocalState) (m : Store)
    (x : Meant at_stop z (Computed (source.Stops (Offered ch kd cg todo)) o, m))
    (t : OffersAt at_stop z ch kd cg todo o m)
    (y : Kept_to at_stop z (Computed (source.Stops (Offered ch kd cg todo)) o, m)) where
  open at_stop use {
    run as G,
    lives as lv,
    course as c,
    system as u,
    number as i,
    configuration as d,
  }

  abbrev pub v : Name
  v = w at_stop

  abbrev pub off : OfferOf (superpascal G.g)
  off = record { channel = ch; kind = kd; payload = cg; next = with_todo todo x.left.who o }

  -- it stands where it waits or goes on
  abbrev pub n1 : Memory Plain
  n1 = record (t.memory) { since = t.memory.ticks }

  abbrev pub there : Config (Memory Plain)
  there = At t.pc t.stack n1

  pub tn_is : IsTurn (ops G) G.code d (Stopped t.stop (At t.pc t.stack t.memory))
  tn_is = turn_is at_stop z (Stopped t.stop (At t.pc t.stack t.memory)) (t.last, t.comes, t.stops)

  pub opens_same : x.left.who.opens ≡ u.births.opens i
  opens_same = ap (λ (a : Identity). a.opens) x.who_is ∙ opens_are at_stop

  -- what it keeps to when it goes on, and that it may take what it asks for
  pub holds : ConditionInRights G.g.program (W_of G lv) (R_of G lv) x.state.forks v
      (Rattle.sp_meaning.specs.Model.Waits off)
  holds = (
    record {
      named = x.good.named;
      forked = ap (λ (a : Identity). a.forks) x.who_is
          ∙ (kt at_stop).forked ∙ ap (λ a. a v) (sym x.elsewhere.forks);
      last = (kt at_stop).last;
      fit = y.final.1;
    },
    y.final.0,
  )

  module _ (since1 : ℕ) (since_is : since1 ≡ t.memory.ticks) where
    abbrev pub stands : ProcessMatches G (lv v) (λ a b. lv ((a, b) ∷ v)) v since1 off.next x.state.store there
    stands = record {
      fresh = z.fresh;
      named = x.good.named;
      js = t.frames;
      pc = t.pc;
      stack = t.stack;
      memory = n1;
      configuration_is = refl;
      stand = stand_again G (lv v) (λ a b. lv ((a, b) ∷ v)) v {w = (p1 at_stop).who} {w1 = x.left.who}
          {since = c.since v} {since1 = since1} (ap (λ (a : Identity). a.name) x.who_is) since_is
          (stand_dead G (lv v) (λ a b. lv ((a, b) ∷ v)) v t.stand x.state.store
          (λ a. subst (λ b. (x.state.store a ≡ m a) ⊎ IsDead b a)
          (ap (λ b. length b) t.stand.frames.sources_are ∙ sources_length t.frames)
          (same_but_dead at_stop z (Offered ch kd cg todo) o m x tt a)));
      follows = follows_again G (lv v) (λ a b. lv ((a, b) ∷ v)) v z.fresh z.fresh (p1 at_stop).who
          x.left.who z.named x.good.named (c.since v) since1 t.pc t.stack t.frames todo t.follows;
    }

    pub payload : Ca G (lv v) (λ a b. lv ((a, b) ∷ v)) v z.fresh x.left.who x.good.named since1 t.frames ch kd cg t.stop
    payload = payload_again G (lv v) (λ a b. lv ((a, b) ∷ v)) v z.fresh z.fresh (p1 at_stop).who x.left.who
        z.named x.good.named (c.since v) since1 t.frames ch kd cg t.stop t.carries
