-- The legal history of a run that is followed goes on, and what its laws give there.
use Rattle.std.proofs.Common.{◌≡◌, ◌≢◌, ℕ, zero, suc, ◌+◌, ◌-◌, ◌<◌, ◌≤◌, ◌==◌, ◌||◌, nat_lt, inl, inr, if◌then◌else◌}
use Rattle.std.proofs.Common.{Bool, true, false, List, [], ◌∷◌, ◌++◌, length, Option, Some, None, refl, sym, ap, ◌∙◌}
use Rattle.std.proofs.Common.{subst, arith}
use Rattle.std.specs.Option.{option_map}
use Rattle.sp_base.specs.declared.limits.Limits.{Limits}
use Rattle.sp_cell.specs.Map.{Plain}
use Rattle.sp_journal.specs.declared.entry.Entry.{Entry}
use Rattle.sp_journal.specs.declared.entry.Event.{Event}
use Rattle.sp_journal.specs.declared.entry.Note.{Note}
use Rattle.sp_journal.specs.Maps.{at_key}
use Rattle.sp_journal.specs.Births.{births}
use Rattle.sp_journal.proofs.BirthLaws.{Lawful, lawful}
use Rattle.sp_code.specs.declared.code.Parts.{Parts}
use Rattle.sp_code.specs.Memory.{CodeRun}
use Rattle.sp_code.specs.PlainStore.{plain}
use Rattle.sp_code.specs.Control.{Control, Ready, Unborn, control_at_start, entries_of, comes_back, takes, queue_tail}
use Rattle.sp_code.specs.Control.{front, front_while, standing, Standing, Running as Going, IsDone, IsDeadlock, IsFault}
use Rattle.sp_code.specs.Control.{IsMemory, is_ready, has_ended}
use Rattle.sp_code.specs.System.{System, EntryLeads, IsSystem, opening_system, event_of}
use Rattle.sp_code.specs.Agreement.{HasOuts, IsGot}
use Rattle.sp_code.specs.WorkerHistory.{HasChildren}
use Rattle.sp_code.proofs.ControlAgreement.{agrees_start, orderly_start}
use Rattle.sp_code.proofs.Families.{children_start, children_all}
use Rattle.sp_code.proofs.Legal.{got_of}
use Rattle.sp_code.proofs.Outs.{outs_start, outs_all}
use Rattle.sp_machine.specs.declared.state.State.{State as Proc}
use Rattle.sp_machine.specs.Procs.{CanTurn, IsRankedFrom}
use Rattle.sp_room.proofs.Histories.{runs_on, starts_self}
use Rattle.sp_kernel.specs.declared.handed.Handed.{Handed}
use Rattle.sp_kernel.specs.declared.kernel.Kernel.{Kernel}
use Rattle.sp_kernel.specs.declared.ask.Ask.TheVariants as ask
use Rattle.sp_kernel.specs.declared.ask.Got.{Got}
use Rattle.sp_kernel.specs.declared.ask.Got.TheVariants as got
use Rattle.sp_kernel.specs.Procs.{turn_of}
use Rattle.sp_kernel.specs.Kernels.{control_of, system_of, code_run_of, IsKernel, IsAfterGive, Takes}
use Rattle.sp_kernel.specs.Fits.{FitsHanded}
use Rattle.sp_kernel.specs.Closes.{IsNameableKernel}
use Rattle.sp_kernel.specs.Asks.{IsOpening, KernelSteps, GotMatchesNote}
use Rattle.sp_kernel.specs.KernelLaws.{after_log, from_start, control_is, along, later}
use Rattle.sp_kernel.proofs.Ending.{named}
use Rattle.sp_kernel.proofs.NoteSteps.{same_code_run, noted_take, noted_turn, taken_abandons, back_abandons}
use Rattle.sp_runner.specs.Runs.{notes_of_worker}
use Rattle.sp_runner.specs.Works.{IsRunOf}
use Rattle.sp_runner.proofs.WorkInHand.{HasProcessOut, is_ranked, may_turn, may_hand_in}
use Rattle.sp_replay.specs.declared.follow.FollowedRun.{FollowedRun}
use Rattle.sp_replay.specs.HeldProcesses.{held_at}
use Rattle.sp_replay.specs.FollowInvariant.{IsOutOfKernel, HasCome, IsOutAs, AreOut, IsReplayKernel, HoldsAllReady}
use Rattle.sp_replay.specs.FollowInvariant.{RunsOn}
use Rattle.sp_replay.specs.FollowInvariant.{WasTurned, SameRun}
use Rattle.sp_replay.specs.FollowInvariant.{IsInHand, EventMade, Exchanged}
use Rattle.sp_replay.proofs.LiveRoots.{ended_none, few_out}
use Rattle.sp_replay.proofs.OutProcesses.{out_same, taken_some, taken_out, given_out}

-- ---- what holds where a history has come

module _ (x : Kernel) (c : HasCome x) where
  pub is_whole : IsKernel x
  is_whole = (after_log c.opened c.opening c.log x c.told).whole

  pub code_run_is : code_run_of x ≡ code_run_of c.opened
  code_run_is = (after_log c.opened c.opening c.log x c.told).code_run

  pub is_named : IsNameableKernel x
  is_named = named c.opened c.opening c.log x c.told

  pub entries_are : x.journal.entries ≡ entries_of c.log
  entries_are = (after_log c.opened c.opening c.log x c.told).journal
      ∙ ap (λ l. l ++ entries_of c.log) c.opening.journal

  -- the system of the kernel is that along its journal
  pub is_system : IsSystem plain (code_run_of x) x.journal.entries (system_of x)
  is_system = subst (λ (g : CodeRun). IsSystem plain g x.journal.entries (system_of x)) (sym code_run_is)
      (subst (λ (es : List Entry). IsSystem plain (code_run_of c.opened) es (system_of x)) (sym entries_are)
      (along c.opened c.opening c.log x c.told))

  pub has_outs : HasOuts (control_of x)
  has_outs = subst HasOuts (sym (control_is c.opened c.opening c.log x c.told))
      (outs_all plain (code_run_of c.opened) control_at_start (opening_system plain (code_run_of c.opened))
      (system_of x) c.log
      orderly_start (agrees_start plain (code_run_of c.opened)) outs_start
      (from_start c.opened c.opening c.log x c.told))

  has_children : HasChildren (control_of x)
  has_children = subst HasChildren (sym (control_is c.opened c.opening c.log x c.told))
      (children_all plain (code_run_of c.opened) control_at_start (opening_system plain (code_run_of c.opened))
      (system_of x)
      c.log orderly_start (agrees_start plain (code_run_of c.opened)) children_start
      (from_start c.opened c.opening c.log x c.told))

  is_lawful : Lawful (births x.journal.entries)
  is_lawful = lawful x.journal.entries is_named.nameable

  pub out_bound : x.out + 1 < 18446744073709551616
  out_bound = let a : x.out ≤ (births x.journal.entries).processes = few_out (control_of x) is_whole.orderly has_outs in
      let b : (births x.journal.entries).processes ≤ 4294967296 = is_lawful.few in omega (arith, a, b)

  -- ---- where none is taken, none is ready

  none_left : (a f e o : Bool) (r : List ℕ) → front_while
      (if a then IsMemory else (if f then IsFault else
      (if e then IsDone else (if is_ready r || o then Going else IsDeadlock)))) r ≡ None → a ≡ false
      → (f ≡ true → r ≡ []) → (e ≡ true → r ≡ []) → r ≡ []
  none_left a f e o [] is up still done = refl
  none_left true f e o (p ∷ ps) is up still done = absurd (cc up)
  none_left false true e o (p ∷ ps) is up still done = still refl
  none_left false false true o (p ∷ ps) is up still done = done refl
  none_left false false false o (p ∷ ps) is up still done = absurd (cc is)

  up_none : (n : ℕ) → n ≡ 0 → nat_lt 0 n ≡ false
  up_none n e = grind (arith, e)

  pub none_ready : (who : ℕ → Option Proc) → AreOut x who → front (control_of x) ≡ None → x.ready ≡ []
  none_ready who o is = none_left (nat_lt 0 x.abandons) x.faulted (has_ended ((control_of x).doing 0)) (nat_lt 0 x.out)
      x.ready is (up_none x.abandons c.kept) o.still (ended_none (control_of x) is_whole.orderly has_children is_lawful)

  -- ---- a process that is held

  module _ (code : Parts) (lim : Limits) (runs : RunsOn x code lim) (p : Proc) (o : IsOutAs x p.number p) where
    has : HasProcessOut c.opened c.log 0 p
    has = record {
      system = system_of x;
      reaches = from_start c.opened c.opening c.log x c.told;
      along = along c.opened c.opening c.log x c.told;
      out = ap (λ (k : Control). k.doing p.number) (sym (control_is c.opened c.opening c.log x c.told)) ∙ o.out;
      runs = o.runs;
      input = o.input ∙ ap (λ (g : CodeRun). g.input) code_run_is;
    }

    run : IsRunOf c.opened code lim
    run = record {
      opening = c.opening;
      code = ap (λ (g : CodeRun). g.code) (sym code_run_is) ∙ runs.code;
      limits = ap (λ (g : CodeRun). g.limits) (sym code_run_is) ∙ runs.limits;
    }

    -- it can make a turn
    pub can_turn : CanTurn p code lim
    can_turn = may_turn c.opened code lim run c.log 0 p has

    pub ranked : IsRankedFrom p code lim
    ranked = is_ranked c.opened code lim run c.log 0 p has

    -- and may be handed in after it
    pub fits : (h : Handed) → WasTurned p code lim h → FitsHanded x 0 h
    fits h t =
        let may = may_hand_in c.opened code lim run c.log 0 p has (notes_of_worker 0 c.log) h.proc h.stop refl t.turn
        t.keeps t.whole in
        (later c.opened c.opening c.log x c.told 0 c.log (notes_of_worker 0 c.log) refl (starts_self c.log) refl
        (ask.Turn (Some h)) may.1).1

-- ---- the history goes on

module _ (x : Kernel) (c : HasCome x) where
  -- where one was taken
  come_taken : (y : Kernel) (p : Proc) → Takes x 0 y (Some p) → HasCome y
  come_taken y p t = record {
    opened = c.opened;
    opening = c.opening;
    log = c.log ++ record { worker = 0; given = None; event = None; got = Some p.number } ∷ [];
    told = runs_on KernelSteps c.opened c.log x y 0 (ask.Turn None) (got.Work p)
        (record { worker = 0; given = None; event = None; got = Some p.number }) c.told (noted_take x 0 y p t);
    kept = ap (λ (k : Control). k.abandons) t.control ∙ c.kept;
  }

  -- one call of the kernel that takes: the queue is shorter then
  fewer : (y : Kernel) (p : Proc) → Takes x 0 y (Some p) → length y.ready < length x.ready
  fewer y p t =
      let g : IsGot (control_of x) (Some p.number) =
      got_of (control_of x) (is_whole x c).orderly (Some p.number) t.front in
      let r : y.ready ≡ queue_tail x.ready = ap (λ (k : Control). k.ready) t.control in
      let ((others, ready_is), _) = g in
      let a : length y.ready ≡ length others = ap length (r ∙ ap queue_tail ready_is) in
      let b : length x.ready ≡ length (p.number ∷ others) = ap length ready_is in
      omega (arith, a, b)

  pub takes_some : (y : Kernel) (p : Proc) → Takes x 0 y (Some p) → HasCome y × SameRun x y
      × (length y.ready < length x.ready)
  takes_some y p t = (
    come_taken y p t,
    record {
      code_run = same_code_run x y t.code_run;
      entries = ap (λ (j : _). j.entries) t.journal;
      system = t.system;
    },
    fewer y p t,
  )

  -- what is told where none is taken
  nothing : (y : Kernel) → front (control_of y) ≡ None → (g : Got) × GotMatchesNote y g None
  nothing y is = go (standing (control_of y)) y.out refl refl
    where
      over : (st : Standing) (n : ℕ) → st ≢ Going → standing (control_of y) ≡ st → y.out ≡ n → (g : Got)
          × GotMatchesNote y g None
      over st zero n s o = (got.Finished, ((λ e. n (sym s ∙ e)), o))
      over st (suc k) n s o = (got.Nothing, (is, inr (omega (arith, o))))

      go : (st : Standing) (n : ℕ) → standing (control_of y) ≡ st → y.out ≡ n → (g : Got) × GotMatchesNote y g None
      go Going n s o = (got.Nothing, (is, inl s))
      go IsDone n s o = over IsDone n (λ e. absurd (cc e)) s o
      go IsDeadlock n s o = over IsDeadlock n (λ e. absurd (cc e)) s o
      go IsFault n s o = over IsFault n (λ e. absurd (cc e)) s o
      go IsMemory n s o = over IsMemory n (λ e. absurd (cc e)) s o

  module _ (h : Handed) (f : FitsHanded x 0 h) (m : Kernel) (gave : IsAfterGive x h.proc.number h m) (y : Kernel) where
    abbrev e : Event
    e = event_of x.limits (system_of x) (turn_of h)

    answered : (r : Option Proc) → Takes m 0 y r → (g : Got)
        × GotMatchesNote y g (option_map (λ (p : Proc). p.number) r)
    answered None t = nothing y (ap (λ (z : Kernel). front (control_of z)) (t.unchanged refl) ∙ sym t.front)
    answered (Some p) t = (
      got.Work p,
      (
        refl,
        ap (λ (s : System Plain). s.condition p.number) t.system ∙ (t.work p refl).0,
        (t.work p refl).1
            ∙ ap (λ (g : CodeRun). g.input) (sym (same_code_run m y t.code_run)),
      ),
    )

    -- where one was handed in, and the next was taken, if any
    pub come_given : (r : Option Proc) → Takes m 0 y r → HasCome y
    come_given r t =
        let a = answered r t in
        let n : Note = record {
          worker = 0;
          given = Some h.proc.number;
          event = Some e;
          got = option_map (λ (p : Proc). p.number) r;
        } in
        record {
          opened = c.opened;
          opening = c.opening;
          log = c.log ++ n ∷ [];
          told = runs_on KernelSteps c.opened c.log x y 0 (ask.Turn (Some h)) a.0 n c.told
              (noted_turn x 0 h m y r a.0 e f gave t refl a.1);
          kept = ap (λ (k : Control). k.abandons)
              (t.control ∙ ap (takes 0 (option_map (λ (p : Proc). p.number) r)) gave.control)
              ∙ taken_abandons 0 (option_map (λ (p : Proc). p.number) r) (comes_back h.proc.number e (control_of x))
              ∙ back_abandons h.proc.number e (control_of x) ∙ c.kept;
        }

-- ---- the steps of a run that is followed

-- at the start none is out
pub starts : (x : Kernel) → IsOpening x → (held : List (Option Proc)) → held ≡ [] → IsReplayKernel x (held_at held)
starts x o held e = record {
  come = record { opened = x; opening = o; log = []; told = refl; kept = o.abandons };
  held = record {
    each = λ q p f. absurd (let g : held_at [] q ≡ Some p =
        subst (λ (l : List (Option Proc)). held_at l q ≡ Some p) e f in cc g);
    all = λ q a. absurd (at_start (q == 0) (subst IsOutOfKernel (ap (λ (k : Control). k.doing q) o.control) a));
    still = λ f. absurd (let g = ap (λ (k : Control). k.faulted) o.control in cc (f, g));
  };
}
  where
    at_start : (b : Bool) → IsOutOfKernel (if b then Ready else Unborn) → ⊥
    at_start true i = i
    at_start false i = i

-- one more was taken, and is held
pub take_more : (x y : Kernel) (held new : List (Option Proc)) (p : Proc) → IsReplayKernel x (held_at held)
    → Takes x 0 y (Some p) → ((q : ℕ) → held_at new q ≡ at_key ◌==◌ p.number (Some p) (held_at held) q)
    → IsReplayKernel y (held_at new) × SameRun x y × (length y.ready < length x.ready)
take_more x y held new p f t same =
    let s = takes_some x f.come y p t in (
      record {
        come = s.0;
        held = out_same y (at_key ◌==◌ p.number (Some p) (held_at held)) (held_at new) same
            (taken_some x y (held_at held) f.held p t);
      },
      s.1,
      s.2,
    )

-- none was taken, and all that can run are held
pub take_none : (x y : Kernel) (held : List (Option Proc)) → IsReplayKernel x (held_at held) → Takes x 0 y None
    → IsReplayKernel y (held_at held) × (y.ready ≡ []) × SameRun x y
take_none x y held f t =
    let same : x ≡ y = sym (t.unchanged refl) in
    subst (λ (z : Kernel). IsReplayKernel z (held_at held) × (z.ready ≡ []) × SameRun x z) same (
      f,
      none_ready x f.come (held_at held) f.held (sym t.front),
      record { code_run = refl; entries = refl; system = refl },
    )

pub same_again : (x y z : Kernel) → SameRun x y → SameRun y z → SameRun x z
same_again x y z a b = record {
  code_run = b.code_run ∙ a.code_run;
  entries = b.entries ∙ a.entries;
  system = b.system
      ∙ a.system;
}

module _ (f : FollowedRun) (code : Parts) (lim : Limits) (runs : RunsOn f.kernel code lim) (h : Handed)
    (i : IsInHand f code lim h) where
  -- what is in hand may be handed in
  pub fits_in : FitsHanded f.kernel 0 h
  fits_in = fits f.kernel i.follows.come code lim runs i.before (i.follows.held.each i.before.number i.before i.picked)
      h i.turned

  module _ (m : Kernel) (gave : IsAfterGive f.kernel h.proc.number h m) where
    pub out_between : m.out + 1 < 18446744073709551616
    out_between = let a : m.out ≡ f.kernel.out - 1 = ap (λ (k : Control). k.out) gave.control in
        let b = out_bound f.kernel i.follows.come in omega (arith, a, b)

    left : AreOut m (held_at f.held)
    left = given_out f.kernel (is_whole f.kernel i.follows.come) i.none_ready i.who i.follows.held h m gave
        (held_at f.held) (λ q. subst (λ n. held_at f.held q ≡ at_key ◌==◌ n None i.who q) (sym i.turned.keeps.0)
        (i.others q))

    -- its event was made, and the next was taken, if any
    pub exchanges : (r : Option Proc) (y : Kernel) → Takes m 0 y r → Exchanged f.kernel h.proc.number f.held r y
    exchanges r y t = record {
      event = event_of f.kernel.limits (system_of f.kernel) (turn_of h);
      made = record {
        code_run = same_code_run m y t.code_run ∙ same_code_run f.kernel m gave.code_run;
        entries = ap (λ (j : _). j.entries) t.journal ∙ gave.entry;
        enters = (fits_in.configuration, fits_in.runs, turn_of h, fits_in.turn, refl, t.system ∙ gave.system);
      };
      follows = record {
        come = come_given f.kernel i.follows.come h fits_in m gave y r t;
        held = taken_out m y (held_at f.held) left r t;
      };
    }

-- the same kernel, with the same processes in another list
pub follows_same : (x y : Kernel) (f h : ℕ → Option Proc) → y ≡ x → ((q : ℕ) → h q ≡ f q) → IsReplayKernel x f
    → IsReplayKernel y h
follows_same x y f h e same s = subst (λ (z : Kernel). IsReplayKernel z h) (sym e)
    (record { come = s.come; held = out_same x f h same s.held })

-- an event was made, and then others were taken
pub made_then : (x y z : Kernel) (p : ℕ) (e : Event) → EventMade x p e y → SameRun y z → EventMade x p e z
made_then x y z p e m s = record {
  code_run = s.code_run ∙ m.code_run;
  entries = s.entries ∙ m.entries;
  enters = subst (λ (t : System Plain). EntryLeads plain (code_run_of x) (system_of x) p e t) (sym s.system) m.enters;
}

-- who is held has its number
pub picked_out : (x : Kernel) (who : ℕ → Option Proc) → AreOut x who → (q : ℕ) (p : Proc) → who q ≡ Some p
    → IsOutAs x p.number p
picked_out x who o q p e = let w = o.each q p e in subst (λ n. IsOutAs x n p) (sym w.number) w

-- one was picked and turned, and all others are held
pub in_hand : (f g : FollowedRun) (code : Parts) (lim : Limits) (q : ℕ) (p : Proc) (h : Handed) → HoldsAllReady f
    → g.kernel ≡ f.kernel → held_at f.held q ≡ Some p
    → ((r : ℕ) → held_at g.held r ≡ at_key ◌==◌ q None (held_at f.held) r) → WasTurned p code lim h
    → IsInHand g code lim h
in_hand f g code lim q p h s same e others t =
    let n : p.number ≡ q = (s.follows.held.each q p e).number in
    record {
      who = held_at f.held;
      follows = subst (λ (k : Kernel). IsReplayKernel k (held_at f.held)) (sym same) s.follows;
      none_ready = ap (λ (k : Kernel). k.ready) same ∙ s.none_ready;
      before = p;
      picked = ap (held_at f.held) n ∙ e;
      others = λ r. others r ∙ ap (λ i. at_key ◌==◌ i None (held_at f.held) r) (sym n);
      turned = t;
    }

-- what is none of the others is none
pub none_of : {X : Type 0} (o : Option X) → ((x : X) → o ≡ Some x → ⊥) → o ≡ None
none_of None n = refl
none_of (Some x) n = absurd (n x refl)
