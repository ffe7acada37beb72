-- A process at its stop, before its kernel step: all others stand as before its turn, with the system of the machine
-- unchanged (`does_at`), and rights and totals are those of before.
use Rattle.std.proofs.Common.{◌≡◌, ◌⊎◌, inl, ⊎_elim, ℕ, ◌<◌, ◌∷◌, Some, Bool, true, false, refl, sym, ap, ◌∙◌, subst}
use Rattle.std.proofs.Common.{arith, List, length}
use Rattle.std.specs.Prelude.{◌≢◌}
use Rattle.sp_meaning.specs.Model.{Name, Absent}
use Rattle.sp_meaning.specs.Steps.{has_ended, IsAlive as IsLive}
use Rattle.sp_meaning.specs.Entries.{Happening}
use Rattle.sp_meaning.specs.LocalWork.{Loc, Output, Item, LocalState, Process, WorkOutcome, Computed, EndsInFault}
use Rattle.sp_meaning.specs.Actions.{Action, Opened}
use Rattle.sp_base.specs.declared.fault.Fault.{Fault}
use Rattle.sp_meaning.specs.Run.{Store}
use Rattle.sp_meaning.specs.Runs.{happening_at}
use Rattle.sp_meaning.proofs.Keys.{name_test}
use Rattle.sp_meaning.proofs.Maps.{same_or_not}
use Rattle.sp_meaning.proofs.RightsInvariant.{Inv, Keeps_to}
use Rattle.sp_meaning.proofs.Parallel.{IsAlone}
use Rattle.sp_meaning.proofs.SilentActions.{IsStop, IsDead, IsSameButOne, actions_are_silent, silent_opens}
use Rattle.sp_meaning.proofs.SilentActions.{silent_faults}
use Rattle.sp_meaning.proofs.StepLaws.{StateKeeps}
use Rattle.sp_meaning.proofs.Status.{working_lives, lives_ended}
use Rattle.sp_link.proofs.TurnsMeet.{Keeps_it, keeps, turn_known, pure_blocks, Wr, Rd}
use Rattle.sp_link.proofs.OneChanges.{q, pr, runs_as_pr, alone, light, keeps_to, here, present, not_ended, holds_by}
use Rattle.sp_link.proofs.OneChanges.{inv_local}
use Rattle.sp_link.proofs.Pauses.{kids}
use Rattle.sp_link.proofs.Relation.{W_of, R_of, Performs_all}
use Rattle.sp_link.proofs.OthersStay.{does_stay}
use Rattle.sp_link.proofs.SourceTurns.{Comes_to}
use Rattle.sp_link.proofs.Relation.{AtStop}
use Rattle.sp_link.proofs.Pauses.{MatchesNow}

module _ (at_stop : AtStop) where
  open at_stop use {
    run as G,
    lives as lv,
    course as c,
    state as s,
    system as u,
    linked as l,
    number as i,
    configuration as d,
  }

  abbrev pub w : Name
  w = q at_stop

  abbrev pub p1 : Process
  p1 = pr at_stop

  abbrev pub kt : Keeps_to G.g.program (W_of G lv) (R_of G lv) s.forks w p1
  kt = keeps_to at_stop

  module _ (z : MatchesNow at_stop) where
    abbrev pub Stopped_at : WorkOutcome Action × Store → Type 0
    Stopped_at r = Comes_to G.g w G.pause (c.since w)
        (Keeps_it G (lv w) (kids at_stop) w (c.since w) s p1 d z (runs_as_pr at_stop)
        (light at_stop) kt.last kt.fit)
        (keeps G (lv w) (kids at_stop) w (c.since w) s p1 d z (runs_as_pr at_stop)
        (light at_stop) kt.last kt.fit) s p1 r

    -- what its step wrote: of a fork, an offer or an end nothing that is still there, of an open one variable, of a
    -- fault no output
    pub same_but_dead : (e : Action) (o : LocalState) (m : Store) (x : Stopped_at (Computed e o, m)) → IsStop e
        → (a : Loc)
        → (x.state.store a ≡ m a) ⊎ IsDead (length o.frames) a
    same_but_dead e o m x stop = actions_are_silent G.g G.free G.pure (pure_blocks G)
        (Wr G (lv w) (kids at_stop) w (c.since w))
        (Rd G (lv w) (kids at_stop) w
        (c.since w)) kt.last x.left x.good.fit x.good.pure x.state.store e o m
        stop x.does

    pub same_but_one : (todo : List Item) (o : LocalState) (m : Store) (x : Stopped_at (Computed (Opened todo) o, m))
        → IsSameButOne (length x.left.own.frames) x.state.store m
    same_but_one todo o m x = silent_opens G.g G.free G.pure (pure_blocks G)
        (Wr G (lv w) (kids at_stop) w (c.since w))
        (Rd G (lv w) (kids at_stop) w
        (c.since w)) kt.last x.left x.good.fit x.good.pure x.state.store todo o
        m x.does

    pub same_output : (f : Fault) (m : Store) (x : Stopped_at (EndsInFault f, m)) → x.state.store Output ≡ m Output
    same_output f m x = silent_faults G.g G.free G.pure (pure_blocks G)
        (Wr G (lv w) (kids at_stop) w (c.since w))
        (Rd G (lv w) (kids at_stop) w (c.since w)) kt.last x.left x.good.fit x.good.pure x.state.store f m
        x.does

    module _ (r : WorkOutcome Action × Store) (x : Stopped_at r) (what : Happening)
        (said : happening_at G.g x.state w x.left ≡ Some what) where
      pub alone_at : IsAlone x.state w
      alone_at = inl (x.left, x.runs)

      pub known_at : StateKeeps G.g x.state
      known_at = turn_known G.g G.pause (c.since w) w x.steps s x.state false l.known (x.turn what said)

      pub keeps_at : Keeps_to G.g.program (W_of G lv) (R_of G lv) s.forks w x.left
      keeps_at = record {
        named = x.good.named;
        forked = ap (λ (y : Rattle.sp_meaning.specs.LocalWork.Identity). y.forks) x.who_is
            ∙ kt.forked;
        last = kt.last;
        fit = x.good.fit;
      }

      pub rights_at : Inv G.g.program (W_of G lv) (R_of G lv) x.state.condition x.state.forks
      rights_at = inv_local G (W_of G lv) (R_of G lv) s.condition x.state.condition s.forks x.state.forks w l.rights
          x.elsewhere.forks (present at_stop) x.elsewhere.condition
          (holds_by G (W_of G lv) (R_of G lv) x.state.condition s.forks w (x.state.condition w) x.left x.runs keeps_at)

      pub ended_at : has_ended (x.state.condition w) ≡ false
      ended_at = go (has_ended (x.state.condition w)) refl
        where
          go : (b : Bool) → has_ended (x.state.condition w) ≡ b → b ≡ false
          go true e = absurd (lives_ended (x.state.condition w)
              (working_lives x.state.condition w (x.state.condition w) x.left x.runs) e)
          go false e = refl

      ended_same : (r1 : Name) → has_ended (x.state.condition r1) ≡ has_ended (s.condition r1)
      ended_same r1 = ⊎_elim (λ (e : r1 ≡ w). ap (λ y. has_ended (x.state.condition y)) e ∙ ended_at
          ∙ sym (not_ended at_stop) ∙ ap (λ y. has_ended (s.condition y)) (sym e))
          (λ (e : r1 ≢ w). ap (λ y. has_ended y) (x.elsewhere.condition r1 e)) (same_or_not name_test r1 w)

      present_same : (r1 : Name) → s.condition r1 ≢ Absent → x.state.condition r1 ≢ Absent
      present_same r1 h e = ⊎_elim
          (λ (f : r1 ≡ w). subst (λ y. IsLive y) (subst (λ a. x.state.condition a ≡ Absent) f e)
          (working_lives x.state.condition w (x.state.condition w) x.left x.runs))
          (λ (f : r1 ≢ w). h (sym (x.elsewhere.condition r1 f) ∙ e)) (same_or_not name_test r1 w)

      pub other_name : (j : ℕ) → j < u.births.processes → i ≢ j → G.births.name j ≢ w
      other_name j lt e h = e (G.one_name i j (few i (here at_stop)) (few j lt) (sym h))
        where
          few : (j : ℕ) → j < u.births.processes → j < G.births.processes
          few j lt = let a = l.began.processes in omega (arith, lt, a)

      -- the others
      pub does_at : (j : ℕ) → j < u.births.processes → i ≢ j
          → Performs_all G lv (G.births.name j) c x.state (u.births.opens j) (u.condition j)
      does_at j lt e =
          let apart = other_name j lt e in
          does_stay G lv s x.state l.known.sound l.rights.fair w (alone at_stop) x.good.stays
          (G.births.name j) apart (x.elsewhere.condition (G.births.name j) apart)
          (λ k n. ended_same ((k, n) ∷ G.births.name j)) (λ k n. present_same ((k, n) ∷ G.births.name j)) c c refl
          refl (λ h. h) (u.births.opens j) (u.condition j) (l.does j lt)
