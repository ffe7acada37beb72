-- What a worker holds may be handed in: who gets work has it out, in the state of the system along what its seat has
-- seen.
use Rattle.std.proofs.Common.{◌≡◌, ◌⊎◌, ℕ, ◌++◌, false, inl, inr, List, Option, Some, None, refl, sym, ap, ◌∙◌, subst}
use mathlib.Core.List.{append-nil}
use Rattle.std.specs.Option.{option_map}
use Rattle.sp_base.specs.declared.limits.Limits.{Limits}
use Rattle.sp_cell.specs.Map.{Plain}
use Rattle.sp_journal.specs.declared.entry.Note.{Note}
use Rattle.sp_code.specs.declared.code.Parts.{Parts}
use Rattle.sp_code.specs.Memory.{CodeRun, memory}
use Rattle.sp_code.specs.PlainStore.{plain}
use Rattle.sp_code.specs.Ranks.{IsRankedAlong}
use Rattle.sp_code.specs.Turns.{IsTurn, IsSafe}
use Rattle.sp_code.specs.Sound.{run_of}
use Rattle.sp_code.specs.Control.{Control, Out, control_at_start, control, after_note, after_give, takes, entries_of}
use Rattle.sp_code.specs.System.{System, Working, opening_system, IsSystem}
use Rattle.sp_code.specs.Agreement.{Reaches}
use Rattle.sp_code.proofs.Queues.{at_same}
use Rattle.sp_machine.specs.declared.state.State.{State as Proc}
use Rattle.sp_machine.specs.declared.state.Stop.{Stop}
use Rattle.sp_machine.specs.declared.state.Stop.TheVariants as stop
use Rattle.sp_machine.specs.Procs.{config_of, turn_by, CanTurn, IsRankedFrom, IsTurnOf, KeepsFork, KeepsNumberAndInput}
use Rattle.sp_room.specs.History.{LeadsTo, StartsWith, note_list as with_note}
use Rattle.sp_room.specs.RoomRule.{Called, Declined}
use Rattle.sp_room.specs.declared.view.View.{View}
use Rattle.sp_kernel.specs.declared.handed.Handed.{Handed}
use Rattle.sp_kernel.specs.declared.kernel.Kernel.{Kernel}
use Rattle.sp_kernel.specs.declared.ask.Ask.{Ask}
use Rattle.sp_kernel.specs.declared.ask.Ask.TheVariants as ask
use Rattle.sp_kernel.specs.declared.ask.Got.TheVariants as got
use Rattle.sp_kernel.specs.Kernels.{control_of, system_of, code_run_of}
use Rattle.sp_kernel.specs.Fits.{IsWhole}
use Rattle.sp_kernel.specs.Asks.{IsOpening, HoldsOut, MayAsk, StandsFor, KernelSteps, LeavesNote, GotMatchesNote}
use Rattle.sp_kernel.specs.Asks.{is_abandon, refusal}
use Rattle.sp_kernel.specs.KernelLaws.{after_log, from_start, control_is, along, later}
use Rattle.sp_runner.specs.Runs.{notes_of_worker}
use Rattle.sp_runner.specs.Works.{IsRunOf}

-- after these notes the system has this process so, out with the worker
pub record HasProcessOut (x : Kernel) (seen : List Note) (w : ℕ) (p : Proc) : Type 0 where
  pub system : System Plain
  pub reaches : Reaches plain (code_run_of x) control_at_start (opening_system plain (code_run_of x)) seen system
  pub along : IsSystem plain (code_run_of x) (entries_of seen) system
  pub out : (control seen).doing p.number ≡ Out w
  pub runs : system.condition p.number ≡ Working (config_of p)
  pub input : p.input.value ≡ (code_run_of x).input

-- the ask came back, no note was left, and what is seen is legal
record Back (x : Kernel) (v w : View Kernel Note) (a : Ask) (h : Option Handed) : Type 0 where
  ask : a ≡ ask.Turn h
  own : w.own ≡ v.own
  last : Kernel
  legal : LeadsTo KernelSteps x w.seen last

module _ (x : Kernel) (fine : IsOpening x) (v w : View Kernel Note) (a : Ask) where
  -- who gets work has it out
  got_work : (p : Proc) → w.number ≡ v.number → Called KernelSteps x v a (got.Work p) w
      → HasProcessOut x w.seen w.number p
  got_work p same c = go c.note a c.answer
    where
      noted_out : (n : Note) (q : ℕ) (k : Control) → n.got ≡ Some q → (after_note n k).doing q ≡ Out n.worker
      noted_out n q k e = by n.got e (after_give n.given n.event n.got k)
        where
          by : (o : Option ℕ) → o ≡ Some q → (m : Control) → (takes n.worker o m).doing q ≡ Out n.worker
          by None e m = absurd (cc e)
          by (Some r) e m = let f : r ≡ q = cc e in subst (λ i. (takes n.worker (Some i) m).doing q ≡ Out n.worker)
              (sym f) (at_same m.doing q (Out n.worker))

      found : (b : Ask) (n : Note) (o : Option ℕ) → n.got ≡ o → LeavesNote c.met v.number b c.left (got.Work p) n
          → GotMatchesNote c.left (got.Work p) o → HasProcessOut x w.seen w.number p
      found b n None e s t = absurd t
      found b n (Some q) e s t = record {
        system = system_of c.left;
        reaches = from_start x fine w.seen c.left c.legal_after;
        along = along x fine w.seen c.left c.legal_after;
        out = ap (λ (k : Control). k.doing p.number) (sym (control_is x fine w.seen c.left c.legal_after) ∙ s.control)
            ∙ ap (after_note n (control_of c.met)).doing t.0 ∙ noted_out n q (control_of c.met) e
            ∙ ap (λ i. Out i) (s.worker ∙ sym same);
        runs = ap (system_of c.left).condition t.0 ∙ t.1;
        input = t.2 ∙ ap (λ (g : CodeRun). g.input) (after_log x fine w.seen c.left c.legal_after).code_run;
      }

      go : (o : Option Note) (b : Ask) → KernelSteps c.met v.number b c.left (got.Work p) o
          → HasProcessOut x w.seen w.number p
      go None (ask.Turn None) s = absurd s.1
      go None (ask.Turn (Some h)) s = absurd (cc (s.1))
      go None (ask.Abandon q) s = absurd s.1
      go (Some n) b s = found b n n.got refl s s.answer

  pub got_work_so : (p : Proc) → w.number ≡ v.number → Called KernelSteps x v a (got.Work p) w
      ⊎ ((is_abandon a ≡ false) × Declined KernelSteps refusal x v a (got.Work p) w) → HasProcessOut x w.seen w.number p
  got_work_so p same (inl c) = got_work p same c
  got_work_so p same (inr d) = go a d.1.answer
    where
      go : (b : Ask) → refusal b (got.Work p) → HasProcessOut x w.seen w.number p
      go (ask.Turn h) e = absurd (cc e)
      go (ask.Abandon q) e = absurd e

  -- who is refused holds what it held
  held_by : (h : Option Handed) → Called KernelSteps x v a (got.Refused h) w → Back x v w a h
  held_by h c = go c.note a refl c.answer c.own
    where
      go : (o : Option Note) (b : Ask) → a ≡ b → KernelSteps c.met v.number b c.left (got.Refused h) o → w.own ≡ v.own
          ++ with_note o → Back x v w a h
      go None (ask.Turn None) e s own = absurd s.1
      go None (ask.Turn (Some i)) e s own = let f : h ≡ Some i = cc (s.1) in record {
        ask = e
            ∙ ap ask.Turn (sym f);
        own = own ∙ append-nil v.own;
        last = c.left;
        legal = c.legal_after;
      }
      go None (ask.Abandon q) e s own = absurd s.1
      go (Some n) b e s own = absurd (none n.got s.answer)
        where
          none : (o : Option ℕ) → GotMatchesNote c.left (got.Refused h) o → ⊥
          none None t = t
          none (Some q) t = t

  held_refused : (h : Option Handed) → Declined KernelSteps refusal x v a (got.Refused h) w → Back x v w a h
  held_refused h d = go a refl d.answer
    where
      go : (b : Ask) → a ≡ b → refusal b (got.Refused h) → Back x v w a h
      go (ask.Turn i) e f = let g : h ≡ i = cc f in record {
        ask = e
            ∙ ap ask.Turn (sym g);
        own = d.own;
        last = d.met;
        legal = d.legal;
      }
      go (ask.Abandon q) e f = absurd f

  abrupt : (seen : List Note) (n : ℕ) (h : Option Handed) → StandsFor (code_run_of x) seen n (ask.Turn h)
      → StandsFor (code_run_of x) seen n (ask.Abandon (option_map (λ (i : Handed). i.proc) h))
  abrupt seen n None s = tt {0}
  abrupt seen n (Some h) s = s.holds

  pub may_give_up : (h : Option Handed) → w.number ≡ v.number → StartsWith w.seen v.seen
      → notes_of_worker w.number w.seen ≡ w.own → MayAsk x v.number v.seen v.own a
      → Called KernelSteps x v a (got.Refused h) w
      ⊎ ((is_abandon a ≡ false) × Declined KernelSteps refusal x v a (got.Refused h) w)
      → MayAsk x w.number w.seen w.own (ask.Abandon (option_map (λ (i : Handed). i.proc) h))
  may_give_up h number starts by may call = go (both call)
    where
      both : Called KernelSteps x v a (got.Refused h) w
          ⊎ ((is_abandon a ≡ false) × Declined KernelSteps refusal x v a (got.Refused h) w) → Back x v w a h
      both (inl c) = held_by h c
      both (inr d) = held_refused h d.1

      go : Back x v w a h → MayAsk x w.number w.seen w.own (ask.Abandon (option_map (λ (i : Handed). i.proc) h))
      go t =
          let mine : notes_of_worker v.number w.seen ≡ v.own = subst (λ i. notes_of_worker i w.seen ≡ v.own) number (by
          ∙ t.own) in
          let s = later x fine w.seen t.last t.legal v.number v.seen v.own may.0 starts mine a may.1 in (
            by,
            subst (λ i. StandsFor (code_run_of x) w.seen i (ask.Abandon (option_map (λ (j : Handed). j.proc) h)))
                (sym number) (abrupt w.seen v.number h
                (subst (λ b. StandsFor (code_run_of x) w.seen v.number b) t.ask s.0)),
          )

module _ (x : Kernel) (code : Parts) (lim : Limits) (run : IsRunOf x code lim) (seen : List Note) (w : ℕ) (p : Proc)
    (h : HasProcessOut x seen w p) where
  -- the run of the process is that of the room
  same_run : code_run_of x ≡ run_of code p.input.value lim
  same_run = λ i. run_of (run.code i) (sym h.input i) (run.limits i)

  -- a turn of what is held lacks nothing
  pub may_turn : CanTurn p code lim
  may_turn = subst (λ (g : CodeRun). IsSafe (memory plain g) g.code (config_of p)) same_run
      ((run.opening.sound.safe x.root.value.input.value x.limits run.opening.limits
      (entries_of seen) h.system h.along).turns p.number (config_of p) h.runs)

  -- and ranks fall along it
  pub is_ranked : IsRankedFrom p code lim
  is_ranked = subst (λ (g : CodeRun). IsRankedAlong (memory plain g) g.code (config_of p)) same_run
      ((run.opening.sound.safe x.root.value.input.value x.limits run.opening.limits
      (entries_of seen) h.system h.along).ranks p.number (config_of p) h.runs)

  abbrev holds : (q : Proc) → q.number ≡ p.number → HoldsOut (code_run_of x) seen w q.number
  holds q same = record {
    system = h.system;
    reaches = h.reaches;
    out = ap (control seen).doing same
        ∙ h.out;
    configuration = config_of p;
    runs = ap h.system.condition same ∙ h.runs;
  }

  -- a process that was turned may be handed in
  pub may_hand_in : (own : List Note) (q : Proc) (s : Stop) → notes_of_worker w seen ≡ own → IsTurnOf p code lim q s
      → KeepsNumberAndInput p q → (s ≡ stop.Memory → ⊥)
      → MayAsk x w seen own (ask.Turn (Some (record { proc = q; stop = s })))
  may_hand_in own q s by turned stays not = (
    by,
    record {
      holds = holds q stays.0;
      turn = subst (λ (g : CodeRun). IsTurn (memory plain g) g.code (config_of p) (turn_by s q)) (sym same_run)
          (by_stop s not turned).0;
      fork = (by_stop s not turned).1;
      input = ap (λ (i : _). i.value) stays.1 ∙ h.input;
      whole = whole s not;
    },
  )
    where
      by_stop : (r : Stop) → (r ≡ stop.Memory → ⊥) → IsTurnOf p code lim q r
          → IsTurn (memory plain (run_of code p.input.value lim)) code (config_of p) (turn_by r q) × KeepsFork r q
      by_stop stop.Memory n t = absurd (n refl)
      by_stop _ _ t = t

      whole : (r : Stop) → (r ≡ stop.Memory → ⊥) → IsWhole r
      whole stop.Memory n = absurd (n refl)
      whole _ _ = tt {0}

  -- who is lost with its worker
  pub may_lose : (own : List Note) (q : Proc) → notes_of_worker w seen ≡ own → KeepsNumberAndInput p q
      → MayAsk x w seen own (ask.Abandon (Some q))
  may_lose own q by stays = (by, holds q stays.0)
