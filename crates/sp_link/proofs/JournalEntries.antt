-- Every entry on both sides: each process that runs makes one, by how its turn ends (`entry`). So the meaning goes
-- along every journal of the system (`system_is_meaning`).
use Rattle.std.proofs.Common.{◌≡◌, inl, inr, ⊎_elim, List, Bool, true, false, refl, sym, ap, ◌∙◌, subst}
use Rattle.sp_journal.specs.declared.entry.Entry.{Entry}
use Rattle.sp_journal.specs.Births.{first_births, happening}
use Rattle.sp_cell.specs.Map.{Plain}
use Rattle.sp_meaning.specs.LocalWork.{WorkOutcome, Computed, EndsInFault, IllFormed, OutOfFuel}
use Rattle.sp_meaning.specs.Actions.{Stepped, Ticked, Opened, Forked, Offered, Ended}
use Rattle.sp_meaning.specs.Run.{Store}
use Rattle.sp_meaning.specs.Runs.{start}
use Rattle.sp_meaning.specs.Along.{before_entries}
use Rattle.sp_meaning.specs.Turn as source
use Rattle.sp_code.specs.PlainStore.{plain}
use Rattle.sp_code.specs.System.{System, IsSystem, opening_system, system_after_turn, event_of}
use Rattle.sp_code.proofs.OneTurn.{turn_same}
use Rattle.sp_codegen.proofs.Safe.{AtEnd}
use Rattle.sp_link.proofs.TurnsMeet.{outcome, kept, turned, ends, result}
use Rattle.sp_link.proofs.Ends.{finishing}
use Rattle.sp_link.proofs.Halts.{failing, laying, too_large_laid, too_large_fails}
use Rattle.sp_link.proofs.Journal.{Now, Goes_on, OneEntry, Goes_along, AllBegan, goes_along}
use Rattle.sp_link.proofs.OneChanges.{q, pr, its, runs_as_pr, light, keeps_to}
use Rattle.sp_link.proofs.Pauses.{Entry_of, Meant, Machined, Kept_to, kids, pausing}
use Rattle.sp_link.proofs.Offers.{offering}
use Rattle.sp_link.proofs.Opens.{opening_entry}
use Rattle.sp_link.proofs.Parallels.{parallel_entry}
use Rattle.sp_link.proofs.Foralls.{forall_entry}
use Rattle.sp_link.proofs.Relation.{RunContext, RightsOfAll, TooLarge, Began, at_open, run_is}
use Rattle.sp_link.proofs.Relation.{ops}
use Rattle.sp_link.proofs.Relation.{AtStop, stop_of}
use Rattle.sp_link.proofs.Pauses.{MatchesNow, running, ForksAt, pauses_at, forks_at, offers_at, opens_at, ends_at}
use Rattle.sp_link.proofs.MachineStops.{ForkStop}

module _ (at_stop : AtStop) where
  open at_stop use {
    run as G,
    lives as lv,
    course as c,
    state as s,
    system as u,
    number as i,
    configuration as d,
  }

  module _ (z : MatchesNow at_stop) where
    by_no_fault : (r : WorkOutcome source.Stop × Store) → AtEnd r → Meant at_stop z r
        → Machined at_stop z r → Kept_to at_stop z r → u.faulted ≡ false
        → Entry_of G c s u i d
    by_no_fault (Computed (source.Paused todo) o, m) e x t y f =
        pausing at_stop z todo o m x (pauses_at at_stop z todo o m t) f
    by_no_fault (Computed (source.Stops (Stepped todo)) o, m) e x t y f = absurd e
    by_no_fault (Computed (source.Stops (Ticked todo)) o, m) e x t y f = absurd e
    by_no_fault (Computed (source.Stops (Opened todo)) o, m) e x t y f =
        opening_entry at_stop z todo o m x (opens_at at_stop z todo o m t) y f
    by_no_fault (Computed (source.Stops (Forked bs todo)) o, m) e x t y f =
        by_form t1.forks
      where
        t1 : ForksAt at_stop z bs todo o m
        t1 = forks_at at_stop z bs todo o m t

        by_form : ForkStop (running at_stop z) t1.frames bs t1.stop → Entry_of G c s u i d
        by_form (inl h) = parallel_entry at_stop z bs todo o m x t1 y f h
        by_form (inr h) = forall_entry at_stop z bs todo o m x t1 y f h
    by_no_fault (Computed (source.Stops (Offered ch k a todo)) o, m) e x t y f =
        offering at_stop z ch k a todo o m x (offers_at at_stop z ch k a todo o m t) y f
    by_no_fault (Computed (source.Stops Ended) o, m) e x t y f = finishing at_stop z o m x (ends_at at_stop z o m t) f
    by_no_fault (EndsInFault f, m) e x t y q = failing at_stop z f m x t q
    by_no_fault (IllFormed, m) e x t y f = absurd e
    by_no_fault (OutOfFuel, m) e x t y f = absurd e

    by_fault : (b : Bool) → u.faulted ≡ b → (r : WorkOutcome source.Stop × Store) → AtEnd r
        → Meant at_stop z r
        → Machined at_stop z r → Kept_to at_stop z r → Entry_of G c s u i d
    by_fault true f r e x t y = laying at_stop z r e x t f
    by_fault false f r e x t y = by_no_fault r e x t y f

    abbrev kt : Rattle.sp_meaning.proofs.RightsInvariant.Keeps_to G.g.program (Rattle.sp_link.proofs.Relation.W_of G lv)
        (Rattle.sp_link.proofs.Relation.R_of G lv) s.forks (q at_stop) (pr at_stop)
    kt = keeps_to at_stop

    standing : Entry_of G c s u i d
    standing = by_fault u.faulted refl
        (result G (lv (q at_stop)) (kids at_stop) (q at_stop)
        (c.since (q at_stop)) s (pr at_stop) d z (runs_as_pr at_stop)
        (light at_stop) kt.last kt.fit)
        (ends G (lv (q at_stop)) (kids at_stop) (q at_stop)
        (c.since (q at_stop)) s (pr at_stop) d z (runs_as_pr at_stop)
        (light at_stop) kt.last kt.fit)
        (outcome G (lv (q at_stop)) (kids at_stop) (q at_stop)
        (c.since (q at_stop)) s (pr at_stop) d z (runs_as_pr at_stop)
        (light at_stop) kt.last kt.fit)
        (turned G (lv (q at_stop)) (kids at_stop) (q at_stop)
        (c.since (q at_stop)) s (pr at_stop) d z (runs_as_pr at_stop)
        (light at_stop) kt.last kt.fit)
        (kept G (lv (q at_stop)) (kids at_stop) (q at_stop)
        (c.since (q at_stop)) s (pr at_stop) d z (runs_as_pr at_stop)
        (light at_stop) kt.last kt.fit)

  -- the entry of a process that runs: it has one
  pub entry : Entry_of G c s u i d
  entry = ⊎_elim (λ z. standing z) (λ z. by z u.faulted refl) (its at_stop).2
    where
      by : TooLarge G (lv (q at_stop)) (kids at_stop) (q at_stop) s.store
          (pr at_stop) d → (b : Bool) → u.faulted ≡ b → Entry_of G c s u i d
      by z true f = too_large_laid at_stop z f
      by z false f = too_large_fails at_stop z f

-- however many channels are open
module _ (G : RunContext) where
  -- one entry on both sides
  pub one_entry : OneEntry G
  one_entry lv c s u t i e l (d, at, tn, is_turn, event_is, after_is) began =
      let en = entry (stop_of (at_open G u.births.channels) lv c s u l i d at) in
      let same : en.turn ≡ tn = turn_same (ops G) G.code d en.turn tn en.is_turn is_turn in
      let at : system_after_turn plain (run_is G) i en.turn u ≡ t =
      ap (λ x. system_after_turn plain (run_is G) i x u) same ∙ sym after_is in
      let said : event_of G.g.limits u en.turn ≡ e = ap (λ x. event_of G.g.limits u x) same ∙ event_is in
      subst (λ x. Goes_on G c s (G.births.name i) (happening u.births e) x) at
      (subst (λ x. Goes_on G c s (G.births.name i) (happening u.births x)
      (system_after_turn plain (run_is G) i en.turn u)) said
      (record {
        way = en.way;
        lives = en.lives;
        linked = en.linked (subst (λ (x : System Plain). Began G x.births) (sym at) began);
      }))

  -- where the system is defined along a journal, the meaning is
  pub system_is_meaning : (lv : RightsOfAll G) → Now G lv before_entries (start G.g) (opening_system plain (run_is G))
      → (es : List Entry) (t : System Plain) → AllBegan G first_births es → IsSystem plain (run_is G) es t
      → Goes_along G before_entries (start G.g) first_births es t
  system_is_meaning lv l es t b h =
      goes_along G one_entry es lv before_entries (start G.g) (opening_system plain (run_is G)) t l b
      h
