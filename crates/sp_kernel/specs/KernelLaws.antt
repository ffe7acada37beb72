-- None of this belongs to what the program promises: it is for contracts between crates.
-- The laws of the kernel as an object that a room keeps: what a note tells of the kernel, and that a seat's knowledge
-- lasts. The room asks its object for these proofs, so they stand in specs.
use Rattle.std.proofs.Common.{◌≡◌, ◌≢◌, ℕ, ◌+◌, ◌<◌, ◌≤◌, ◌==◌, Bool, true, false, List, [], ◌∷◌, ◌++◌, append_assoc}
use Rattle.std.proofs.Common.{length, Some, None, refl, sym, ap, ◌∙◌, subst, arith}
use Rattle.sp_cell.specs.Map.{Plain}
use Rattle.sp_journal.specs.declared.entry.Note.{Note}
use Rattle.sp_code.specs.Machine.{Config, Sends, Receives, Stop as MachineStop}
use Rattle.sp_code.specs.Memory.{CodeRun, Memory, memory}
use Rattle.sp_code.specs.PlainStore.{plain}
use Rattle.sp_code.specs.Turns.{IsTurn, Stopped}
use Rattle.sp_code.specs.Control.{Control, Out, Joining, control_at_start, control, after_note, after_notes, entries_of}
use Rattle.sp_code.specs.Control.{entry_of}
use Rattle.sp_code.specs.System.{System, Working, opening_system, IsSystem}
use Rattle.sp_room.specs.History.{LeadsTo, notes_by, StartsWith, either_list}
use mathlib.Core.List.{append-nil}
use Rattle.sp_base.proofs.Facts.{equals_itself}
use Rattle.sp_kernel.specs.declared.handed.Handed.{Handed}
use Rattle.sp_machine.specs.declared.state.Stop.{Stop}
use Rattle.sp_machine.specs.declared.state.Stop.TheVariants as stop
use Rattle.sp_kernel.specs.declared.kernel.Kernel.{Kernel}
use Rattle.sp_kernel.specs.declared.ask.Ask.{Ask}
use Rattle.sp_kernel.specs.declared.ask.Ask.TheVariants as ask
use Rattle.sp_kernel.specs.declared.ask.Got.{Got}
use Rattle.sp_kernel.specs.declared.ask.Got.TheVariants as got
use Rattle.sp_kernel.specs.Procs.{config_of, turn_by, turn_of}
use Rattle.sp_kernel.specs.Kernels.{control_of, system_of, code_run_of, IsKernel}
use Rattle.sp_kernel.specs.Fits.{FitsHanded, FitsCode, IsOffered, IsWhole}
use Rattle.sp_kernel.specs.Asks.{IsOpening, CanServe, FitsAsk, HoldsOut, HasRun, MayAsk, StandsFor, KernelSteps}
use Rattle.sp_kernel.specs.Asks.{LeavesNote}
use Rattle.sp_kernel.specs.Asks.{is_abandon, refusal}
use Rattle.sp_code.specs.Sound.{IsSafeSystem}
use Rattle.sp_journal.specs.declared.entry.Birth.{Birth}
use Rattle.sp_code.specs.Channels.{StopHas}
use Rattle.sp_code.specs.NamesChannels.{NamesChannels}
use Rattle.sp_code.proofs.KnownChannels.{system_spoken, turn_spoken}
use Rattle.sp_code.proofs.Families.{parent_joins, children_all, children_start}
use Rattle.sp_code.specs.Agreement.{Reaches, NoneBy}
use Rattle.sp_code.proofs.ControlAgreement.{agrees_start, orderly_start}
use Rattle.sp_code.proofs.Legal.{reaches_keeps, reaches_leads, reaches_same, reaches_front, stays}

-- without a note nothing changed
pub none_same : (x : Kernel) (w : ℕ) (a : Ask) (y : Kernel) (g : Got) → KernelSteps x w a y g None → y ≡ x
none_same x w a y g m = m.0

-- a note has changed the kernel
pub note_changes : (x : Kernel) (w : ℕ) (a : Ask) (y : Kernel) (g : Got) (n : Note) → KernelSteps x w a y g (Some n)
    → y ≡ x
    → ⊥
note_changes x w a y g n m same = m.changed same

-- an abandon has a note
pub abandon_notes : (x : Kernel) (w : ℕ) (a : Ask) (y : Kernel) (g : Got) → is_abandon a ≡ true
    → KernelSteps x w a y g None
    → ⊥
abandon_notes x w (ask.Turn h) y g is m = absurd (cc is)
abandon_notes x w (ask.Abandon p) y g is m = m.1

-- a note names its worker
pub note_names : (x : Kernel) (w : ℕ) (a : Ask) (y : Kernel) (g : Got) (n : Note) → KernelSteps x w a y g (Some n)
    → n.worker ≡ w
note_names x w a y g n m = m.worker

-- what a refusal gives back is what was asked
pub refusal_returns : (a b : Ask) (g : Got) → is_abandon a ≡ false → is_abandon b ≡ false → refusal a g → refusal b g
    → a ≡ b
refusal_returns (ask.Turn h) (ask.Turn i) g one two p q = let e : got.Refused h ≡ got.Refused i = sym p ∙ q in
    let f : h ≡ i = cc e in ap ask.Turn f
refusal_returns (ask.Turn h) (ask.Abandon p) g one two a b = absurd (cc two)
refusal_returns (ask.Abandon p) b g one two a c = absurd (cc one)

-- ---- what the notes tell of the kernel

-- where the kernel has come after these notes
pub record KernelAfter (x : Kernel) (log : List Note) (y : Kernel) : Type 0 where
  pub reaches : Reaches plain (code_run_of x) (control_of x) (system_of x) log (system_of y)
  pub control : control_of y ≡ after_notes log (control_of x)
  pub code_run : code_run_of y ≡ code_run_of x
  pub whole : IsKernel y
  pub out : y.out ≤ x.out + length log
  pub abandons : y.abandons ≤ x.abandons + length log
  pub journal : y.journal.entries ≡ x.journal.entries ++ entries_of log

pub kernel_after : (x : Kernel) (log : List Note) (y : Kernel) → IsKernel x → LeadsTo KernelSteps x log y
    → KernelAfter x log y
kernel_after x [] y k r = record {
  reaches = ap system_of r;
  control = ap control_of (sym r);
  code_run = ap code_run_of (sym r);
  whole = subst IsKernel r k;
  out = let e : x.out ≡ y.out = ap (λ (z : Kernel). z.out) r in omega (arith, e);
  abandons = let e : x.abandons ≡ y.abandons = ap (λ (z : Kernel). z.abandons) r in omega (arith, e);
  journal = ap (λ (z : Kernel). z.journal.entries) (sym r) ∙ sym (append-nil x.journal.entries);
}
kernel_after x (n ∷ ns) y k (mid, worker, asked, answered, step, further) =
    let one : LeavesNote x worker asked mid answered n = step in
    let rest = kernel_after mid ns y one.whole further in
    record {
      reaches = (
        system_of mid,
        one.follows,
        subst (λ (g : CodeRun). Reaches plain g (after_note n (control_of x)) (system_of mid) ns (system_of y))
            one.code_run
            (subst (λ (c : Control). Reaches plain (code_run_of mid) c (system_of mid) ns (system_of y)) one.control
            rest.reaches),
      );
      control = rest.control ∙ ap (after_notes ns) one.control;
      code_run = rest.code_run ∙ one.code_run;
      whole = rest.whole;
      out = omega (arith, one.out, rest.out);
      abandons = omega (arith, one.abandons, rest.abandons);
      journal = rest.journal ∙ ap (λ l. l ++ entries_of ns) one.journal
          ∙ append_assoc x.journal.entries (entry_of n.given n.event) (entries_of ns);
    }

-- ---- what may be asked may be asked later

notes_append : (w : ℕ) (xs ys : List Note) → notes_by (λ (n : Note). n.worker) w (xs ++ ys)
    ≡ notes_by (λ (n : Note). n.worker) w xs ++ notes_by (λ (n : Note). n.worker) w ys
notes_append w [] ys = refl
notes_append w (x ∷ xs) ys = go (notes_append w xs ys) (x.worker == w)
  where
    go : notes_by (λ (n : Note). n.worker) w (xs ++ ys) ≡ notes_by (λ (n : Note). n.worker) w xs
        ++ notes_by (λ (n : Note). n.worker) w ys → (b : Bool)
        → either_list b (x ∷ notes_by (λ (n : Note). n.worker) w (xs ++ ys))
        (notes_by (λ (n : Note). n.worker) w (xs ++ ys))
        ≡ either_list b (x ∷ notes_by (λ (n : Note). n.worker) w xs) (notes_by (λ (n : Note). n.worker) w xs)
        ++ notes_by (λ (n : Note). n.worker) w ys
    go e true = ap (λ l. x ∷ l) e
    go e false = e

nothing_more : {X : Type 0} (xs ys : List X) → xs ++ ys ≡ xs → ys ≡ []
nothing_more [] ys e = e
nothing_more {X = X} (x ∷ xs) ys e = nothing_more xs ys (let t : xs ++ ys ≡ xs = cc e in t)

pub noted_append : (xs ys : List Note) (k : Control) → after_notes (xs ++ ys) k ≡ after_notes ys (after_notes xs k)
noted_append [] ys k = refl
noted_append (x ∷ xs) ys k = noted_append xs ys (after_note x k)

none_by : (w : ℕ) (ns : List Note) → notes_by (λ (n : Note). n.worker) w ns ≡ [] → NoneBy w ns
none_by w [] e = tt {0}
none_by w (n ∷ ns) e = go (n.worker == w) refl e (λ h. none_by w ns h)
  where
    go : (b : Bool) → n.worker == w ≡ b → either_list b (n ∷ notes_by (λ (m : Note). m.worker) w ns)
        (notes_by (λ (m : Note). m.worker) w ns) ≡ [] → (notes_by (λ (m : Note). m.worker) w ns ≡ [] → NoneBy w ns)
        → (n.worker ≢ w) × NoneBy w ns
    go true f h on = absurd (cc h)
    go false f h on = (
      (λ is. let t : n.worker == w ≡ true = subst (λ y. n.worker == y ≡ true) is (equals_itself n.worker) in
          absurd (cc (f, t))),
      on h,
    )

module _ (x : Kernel) (fine : IsOpening x) (log : List Note) (y : Kernel) (told : LeadsTo KernelSteps x log y) where
  pub after_log : KernelAfter x log y
  after_log = kernel_after x log y fine.whole told

  pub from_start : Reaches plain (code_run_of x) control_at_start (opening_system plain (code_run_of x)) log
      (system_of y)
  from_start = subst (λ (s : System Plain). Reaches plain (code_run_of x) control_at_start s log (system_of y))
      fine.system (subst (λ (c : Control). Reaches plain (code_run_of x) c (system_of x) log (system_of y)) fine.control
      after_log.reaches)

  pub control_is : control_of y ≡ control log
  control_is = after_log.control ∙ ap (after_notes log) fine.control

  pub along : IsSystem plain (code_run_of x) (entries_of log) (system_of y)
  along = reaches_leads plain (code_run_of x) control_at_start (opening_system plain (code_run_of x)) (system_of y) log
      from_start

  few_out : length log < 18446744073709551615 → y.out + 1 < 18446744073709551616
  few_out short = omega (arith, after_log.out, fine.out, short)

  few_abandons : length log < 18446744073709551615 → y.abandons + 1 < 18446744073709551616
  few_abandons short = omega (arith, after_log.abandons, fine.abandons, short)

  module _ (w : ℕ) (seen own : List Note) (mine : notes_by (λ (n : Note). n.worker) w seen ≡ own)
      (starts : StartsWith log seen) (by : notes_by (λ (n : Note). n.worker) w log ≡ own) where
    no_more : notes_by (λ (n : Note). n.worker) w starts.0 ≡ []
    no_more = nothing_more (notes_by (λ (n : Note). n.worker) w seen) _
        (sym (notes_append w seen starts.0) ∙ ap (notes_by (λ (n : Note). n.worker) w) (sym starts.1) ∙ by ∙ sym mine)

    -- so its worker left no note since
    no_note : NoneBy w starts.0
    no_note = none_by w starts.0 no_more

    -- what is out with the worker is as it was
    as_before : (s : System Plain) (p : ℕ) (at : Config (Memory Plain))
        → Reaches plain (code_run_of x) control_at_start (opening_system plain (code_run_of x)) seen s
        → (control seen).doing p ≡ Out w → s.condition p ≡ Working at
        → ((control log).doing p ≡ Out w) × ((system_of y).condition p ≡ Working at)
    as_before s p at r out runs =
        let f = reaches_front plain (code_run_of x) control_at_start (opening_system plain (code_run_of x))
        (system_of y) seen
        starts.0 (subst (λ (l : List Note). Reaches plain (code_run_of x) control_at_start
        (opening_system plain (code_run_of x)) l (system_of y)) starts.1 from_start) in
        let same : s ≡ f.0 = reaches_same plain (code_run_of x) control_at_start
        (opening_system plain (code_run_of x)) s f.0
        seen r f.1 in
        let kept = reaches_keeps plain (code_run_of x) control_at_start (opening_system plain (code_run_of x)) f.0 seen
        orderly_start (agrees_start plain (code_run_of x)) f.1 in
        let o = stays plain (code_run_of x) (control seen) f.0
        (system_of y) starts.0 kept.0 kept.1 f.2 p w at no_note out
        (ap (λ (z : System Plain). z.condition p) (sym same) ∙ runs) in
        (ap (λ (c : Control). c.doing p) (ap control starts.1 ∙ noted_append seen starts.0 control_at_start) ∙ o.0, o.1)

    module _ (q : ℕ) (h : HoldsOut (code_run_of x) seen w q) where
      pub kept : ((control log).doing q ≡ Out w) × ((system_of y).condition q ≡ Working h.configuration)
      kept = as_before h.system q h.configuration h.reaches h.out h.runs

      pub out_now : (control_of y).doing q ≡ Out w
      out_now = ap (λ (c : Control). c.doing q) control_is ∙ kept.0

      pub runs_now : (system_of y).condition q ≡ Working h.configuration
      runs_now = kept.1

      abbrev pub held_now : HoldsOut (code_run_of x) log w q
      held_now = record {
        system = system_of y;
        reaches = from_start;
        out = kept.0;
        configuration = h.configuration;
        runs = kept.1;
      }

      -- the parent of a child that is out waits for it
      pub parent_waits : (b : Birth) → (system_of y).births.birth q ≡ Some b → (n : ℕ)
          × ((control_of y).doing b.parent ≡ Joining n)
      parent_waits b e =
          let j = parent_joins (control log)
          (children_all plain (code_run_of x) control_at_start (opening_system plain (code_run_of x)) (system_of y) log
          orderly_start (agrees_start plain (code_run_of x)) children_start from_start) q w b kept.0
          (ap (λ (c : Control). c.births.birth q) (sym control_is) ∙ e) in
          (j.0, ap (λ (c : Control). c.doing b.parent) control_is ∙ j.1)

    -- it offers on a channel that is there
    offered_now : (h : Handed) (at : Config (Memory Plain)) → (system_of y).condition h.proc.number ≡ Working at
        → IsTurn (memory plain (code_run_of x)) (code_run_of x).code at (turn_of h) → IsWhole h.stop
        → IsOffered (length y.channels) h.stop
    offered_now h at runs turn whole = go h.stop whole turn
      where
        spoken : NamesChannels (system_of y)
        spoken = system_spoken (code_run_of x) (entries_of log) (system_of y) along

        there : (stop : MachineStop) → IsTurn (memory plain (code_run_of x)) (code_run_of x).code at
            (Stopped stop (config_of h.proc)) → StopHas (λ c. c < (system_of y).births.channels) stop
        there stop t = (turn_spoken (code_run_of x) (system_of y) h.proc.number at (Stopped stop (config_of h.proc))
            spoken runs t).0

        go : (s : Stop) → IsWhole s → IsTurn (memory plain (code_run_of x)) (code_run_of x).code at (turn_by s h.proc)
            → IsOffered (length y.channels) s
        go (stop.Send c k cs) b t = subst (λ n. c < n) (sym after_log.whole.channels) (there (Sends c k cs) t).0
        go (stop.Receive c k) b t =
            subst (λ n. c < n) (sym after_log.whole.channels) (there (Receives c k h.proc.target) t)
        go stop.Memory b t = absurd b
        go _ _ _ = tt {0}

    pub fits_now : (h : Handed) → HasRun (code_run_of x) seen w h → FitsHanded y w h
    fits_now h m = record {
      out = out_now h.proc.number m.holds;
      configuration = m.holds.configuration;
      runs = runs_now h.proc.number m.holds;
      turn = subst (λ (g : CodeRun). IsTurn (memory plain g) g.code m.holds.configuration (turn_of h))
          (sym after_log.code_run)
          m.turn;
      safe = subst (λ (g : CodeRun). IsSafeSystem g (system_of y)) (sym after_log.code_run)
          (fine.sound.safe x.root.value.input.value x.limits fine.limits (entries_of log) (system_of y) along);
      offered = offered_now h m.holds.configuration (runs_now h.proc.number m.holds) m.turn m.whole;
      fork = m.fork;
      input = m.input ∙ ap (λ (g : CodeRun). g.input) (sym after_log.code_run);
      parent = parent_waits h.proc.number m.holds;
      code = subst (λ (g : CodeRun). FitsCode g.code) (sym after_log.code_run)
          (record { blocks = fine.sound.blocks; formals = fine.sound.formals });
    }

    pub later : (a : Ask) → StandsFor (code_run_of x) seen w a → StandsFor (code_run_of x) log w a × FitsAsk y w a
    later (ask.Turn None) m = (tt {0}, tt {0})
    later (ask.Turn (Some h)) m = (
      record {
        holds = held_now h.proc.number m.holds;
        turn = m.turn;
        fork = m.fork;
        input = m.input;
        whole = m.whole;
      },
      fits_now h m,
    )
    later (ask.Abandon None) m = (tt {0}, tt {0})
    later (ask.Abandon (Some p)) m = (held_now p.number m, out_now p.number m)

pub asks_last : (x : Kernel) (w : ℕ) (seen own : List Note) (a : Ask) (log : List Note) (y : Kernel) → IsOpening x
    → MayAsk x w seen own a → StartsWith log seen → notes_by (λ (n : Note). n.worker) w log ≡ own
    → LeadsTo KernelSteps x log y
    → length log < 18446744073709551615
    → MayAsk x w log own a × CanServe y w a
asks_last x w seen own a log y fine may starts by told short =
    let l = later x fine log y told w seen own may.0 starts by a may.1 in (
      (by, l.0),
      record {
        whole = (after_log x fine log y told).whole;
        out = few_out x fine log y told short;
        abandons = few_abandons x fine log y told short;
        fits = l.1;
      },
    )
