-- Each call of the kernel that leaves a note is a step of the control and the system of the definitions (`LeavesNote`).
use Rattle.std.proofs.Common.{◌≡◌, ◌≢◌, ℕ, ◌+◌, ◌-◌, ◌<◌, ◌≤◌, ◌==◌, ◌||◌, nat_lt, Bool, true, false, if◌then◌else◌}
use Rattle.std.proofs.Common.{List, [], ◌∷◌, ◌++◌, length, length-append, Option, Some, None, slice_set, refl, sym, ap}
use Rattle.std.proofs.Common.{◌∙◌, subst, arith}
use Rattle.std.specs.Option.{option_map}
use Rattle.sp_cell.specs.Map.{Plain}
use Rattle.sp_journal.specs.declared.entry.Way.{Way}
use Rattle.sp_journal.specs.declared.entry.Event.{Event}
use Rattle.sp_journal.specs.declared.entry.Event.TheVariants as event
use Rattle.sp_journal.specs.declared.entry.Birth.{Birth}
use Rattle.sp_journal.specs.Maps.{at_key}
use Rattle.sp_code.specs.Memory.{CodeRun}
use Rattle.sp_code.specs.PlainStore.{plain}
use Rattle.sp_code.specs.Sound.{run_of}
use Rattle.sp_code.specs.Control.{Control, Doing, Out, Gone, Joining, Ended}
use Rattle.sp_code.specs.Control.{takes, after_give, entry_of, comes_back, abandons, front, offers, queues, does}
use Rattle.sp_code.specs.Control.{one_fewer}
use Rattle.sp_code.specs.Control.{reports}
use Rattle.sp_code.specs.System.{System, event_of, GiveIsLegal, GetIsLegal}
use Rattle.sp_kernel.specs.declared.slot.Slot.{Slot}
use Rattle.sp_machine.specs.declared.state.State.{State as Proc}
use Rattle.sp_kernel.specs.declared.handed.Handed.{Handed}
use Rattle.sp_kernel.specs.declared.kernel.Kernel.{Kernel}
use mathlib.Core.List.{append-nil}
use Rattle.sp_kernel.specs.declared.ask.Ask.TheVariants as ask
use Rattle.sp_kernel.specs.declared.ask.Got.{Got}
use Rattle.sp_kernel.specs.declared.ask.Got.TheVariants as got
use Rattle.sp_kernel.specs.Procs.{turn_of}
use Rattle.sp_kernel.specs.Kernels.{control_of, system_of, code_run_of, doing_in, condition_in, NumberIn, IsKernel}
use Rattle.sp_kernel.specs.Kernels.{Takes, IsAfterGive, Abandons}
use Rattle.sp_kernel.specs.Fits.{FitsHanded}
use Rattle.sp_kernel.specs.Asks.{LeavesNote, GotMatchesNote, FitsAsk}
use Rattle.sp_code.specs.Agreement.{IsOrderly, AgreesWithSystem}
use Rattle.std.proofs.lemmas.List.{length-set}
use Rattle.sp_code.proofs.Legal.{orderly_gives_up, agrees_gives_up}
use Rattle.sp_kernel.proofs.Tables.{table_set, set_as_it_was}
use Rattle.sp_kernel.proofs.TakeEvents.{over_none}
use Rattle.sp_kernel.proofs.KernelEvents.{there, same_offers, same_numbers}

pub same_code_run : (x y : Kernel) → (y.code ≡ x.code) × (y.limits ≡ x.limits) × (y.root ≡ x.root)
    → code_run_of y ≡ code_run_of x
same_code_run x y e = λ i. run_of (e.0 i).value (e.2 i).value.input.value (e.1 i)

pub noted_take : (x : Kernel) (w : ℕ) (y : Kernel) (p : Proc) → Takes x w y (Some p)
    → LeavesNote x w (ask.Turn None) y (got.Work p)
    (record { worker = w; given = None; event = None; got = Some p.number })
noted_take x w y p t = record {
  worker = refl;
  changed = λ same. let e : y.out ≡ x.out + 1 = ap (λ (c : Control). c.out) t.control in
      let f : y.out ≡ x.out = ap (λ (z : Kernel). z.out) same in omega (arith, e, f);
  follows = record { gives = t.system; gets = sym t.front };
  control = t.control;
  code_run = same_code_run x y t.code_run;
  whole = t.whole;
  out = let e : y.out ≡ x.out + 1 = ap (λ (c : Control). c.out) t.control in omega (arith, e);
  abandons = let e : y.abandons ≡ x.abandons = ap (λ (c : Control). c.abandons) t.control in omega (arith, e);
  answer = (
    refl,
    ap (λ (s : System Plain). s.condition p.number) t.system ∙ (t.work p refl).0,
    (t.work p refl).1
        ∙ ap (λ (g : CodeRun). g.input) (sym (same_code_run x y t.code_run)),
  );
  journal = ap (λ (j : _). j.entries) t.journal ∙ sym (append-nil x.journal.entries);
  gives_up = (refl, refl);
  given = refl;
}

offers_abandons : (w : Way) (d : Doing) (p c : ℕ) (o : Option (Way × ℕ)) (k : Control)
    → (offers w d p c o k).abandons ≡ k.abandons
offers_abandons w d p c None k = refl
offers_abandons w d p c (Some z) k = refl

fewer_abandons : (x : ℕ) (d : Doing) (k : Control) → (one_fewer x d k).abandons ≡ k.abandons
fewer_abandons x (Joining n) k = go (n == 1)
  where
    go : (b : Bool) → (if b then queues x k else does x (Joining (n - 1)) k).abandons ≡ k.abandons
    go true = refl
    go false = refl
fewer_abandons _ _ _ = refl

reports_abandons : (o : Option Birth) (k : Control) → (reports o k).abandons ≡ k.abandons
reports_abandons None k = refl
reports_abandons (Some b) k = fewer_abandons b.parent (k.doing b.parent) k

pub back_abandons : (p : ℕ) (e : Event) (k : Control) → (comes_back p e k).abandons ≡ k.abandons
back_abandons p (event.Send c) k = offers_abandons _ _ p c (k.pending c) k
back_abandons p (event.Receive c) k = offers_abandons _ _ p c (k.pending c) k
back_abandons p event.End k = reports_abandons (k.births.birth p) (does p Ended k)
back_abandons _ _ _ = refl

taken_out : (w : ℕ) (o : Option ℕ) (k : Control) → (takes w o k).out ≤ k.out + 1
taken_out w None k = omega arith
taken_out w (Some q) k = omega arith

pub taken_abandons : (w : ℕ) (o : Option ℕ) (k : Control) → (takes w o k).abandons ≡ k.abandons
taken_abandons w None k = refl
taken_abandons w (Some q) k = refl

one_more : {X : Type 0} (xs : List X) (x : X) → xs ++ x ∷ [] ≢ xs
one_more xs x e = let f : length (xs ++ x ∷ []) ≡ length xs = ap length e in omega (arith, f, length-append xs (x ∷ []))

pub noted_turn : (x : Kernel) (w : ℕ) (h : Handed) (m : Kernel) (y : Kernel) (r : Option Proc) (g : Got) (e : Event)
    → FitsHanded x w h → IsAfterGive x h.proc.number h m → Takes m w y r
    → e ≡ event_of x.limits (system_of x) (turn_of h)
    → GotMatchesNote y g (option_map (λ (p : Proc). p.number) r)
    → LeavesNote x w (ask.Turn (Some h)) y g (record
    { worker = w; given = Some h.proc.number; event = Some e; got = option_map (λ (p : Proc). p.number) r })
noted_turn x w h m y r g e fits gave t is answer =
    let k : Control = control_of x in
    let back : control_of m ≡ comes_back h.proc.number e k = gave.control
    ∙ ap (λ f. comes_back h.proc.number f k) (sym is) in
    let now : control_of y ≡ takes w (option_map (λ (p : Proc). p.number) r) (comes_back h.proc.number e k) = t.control
    ∙ ap (takes w (option_map (λ (p : Proc). p.number) r)) back in
    record {
      worker = refl;
      changed = λ same. one_more x.journal.entries _
          (sym (ap (λ (j : _). j.entries) t.journal ∙ gave.entry) ∙ ap (λ (z : Kernel). z.journal.entries) same);
      follows = record {
        gives = (fits.out, (fits.configuration, fits.runs, turn_of h, fits.turn, sym is, t.system ∙ gave.system));
        gets = t.front ∙ ap front back;
      };
      control = now;
      code_run = same_code_run m y t.code_run ∙ same_code_run x m gave.code_run;
      whole = t.whole;
      out = let a : y.out ≡ (takes w (option_map (λ (p : Proc). p.number) r) (comes_back h.proc.number e k)).out =
          ap (λ (c : Control). c.out) now in
          omega (arith, a, taken_out w (option_map (λ (p : Proc). p.number) r) (comes_back h.proc.number e k));
      abandons = let a : y.abandons ≡ x.abandons = ap (λ (c : Control). c.abandons) now
          ∙ taken_abandons w (option_map (λ (p : Proc). p.number) r) (comes_back h.proc.number e k)
          ∙ back_abandons h.proc.number e k in omega (arith, a);
      answer = answer;
      journal = ap (λ (j : _). j.entries) t.journal ∙ gave.entry
          ∙ ap (λ f. x.journal.entries ++ record { process = h.proc.number; event = f } ∷ []) (sym is);
      gives_up = refl;
      given = refl;
    }

-- ---- an abandon

module _ (x : Kernel) (k : IsKernel x) (w : ℕ) where
  pub gives_up_none : Abandons x None (record x { abandons = x.abandons + 1 })
  gives_up_none = record {
    control = refl;
    system = refl;
    code_run = (refl, refl, refl);
    journal = refl;
    whole = record {
      orderly = orderly_gives_up (control_of x) k.orderly w None (λ p e. absurd (cc e));
      agrees = agrees_gives_up (control_of x) (system_of x) k.agrees w None (λ p e. absurd (cc e));
      processes = k.processes;
      channels = k.channels;
      offers = k.offers;
      numbers = k.numbers;
      parents = k.parents;
    };
  }

  module _ (q : ℕ) (out : (control_of x).doing q ≡ Out w) (s : Slot) (gone : doing_in (Some s) ≡ Gone)
      (runs : condition_in (Some s) ≡ (system_of x).condition q)
      (free : NumberIn (code_run_of x).input (Some s) q) where
    abbrev lost : Kernel
    lost = record x { slots = slice_set x.slots q s; out = x.out - 1; abandons = x.abandons + 1 }

    lost_control : control_of lost ≡ abandons (Some q) (control_of x)
    lost_control = λ i. record (control_of x) {
      doing = (table_set doing_in x.slots q s (there x k q w out)
          ∙ ap (λ d. at_key ◌==◌ q d (control_of x).doing) gone) i;
      out = x.out - 1;
      abandons = x.abandons + 1;
    }

    lost_system : system_of lost ≡ system_of x
    lost_system = λ i. record (system_of x) {
      condition =
          (table_set condition_in x.slots q s (there x k q w out)
          ∙ set_as_it_was (system_of x).condition q (condition_in (Some s)) runs) i;
    }

    is_mine : (p : ℕ) → Some q ≡ Some p → (control_of x).doing p ≡ Out w
    is_mine p e = let f : q ≡ p = cc e in subst (λ i. (control_of x).doing i ≡ Out w) f out

    pub gives_up_some : Abandons x (Some q) lost
    gives_up_some = record {
      control = lost_control;
      system = lost_system;
      code_run = (refl, refl, refl);
      journal = refl;
      whole = record {
        orderly = subst IsOrderly (sym lost_control) (orderly_gives_up (control_of x) k.orderly w (Some q) is_mine);
        agrees = subst (λ c. AgreesWithSystem c (system_of lost)) (sym lost_control)
            (subst (λ t. AgreesWithSystem (abandons (Some q) (control_of x)) t) (sym lost_system)
            (agrees_gives_up (control_of x) (system_of x) k.agrees w (Some q) is_mine));
        processes = length-set x.slots q s ∙ k.processes;
        channels = k.channels;
        offers = same_offers x k q w out s;
        numbers = same_numbers x k q w out s free;
        parents = k.parents;
      };
    }

abandons_one : (o : Option ℕ) (k : Control) → (abandons o k).abandons ≡ k.abandons + 1
abandons_one None k = refl
abandons_one (Some p) k = refl

abandons_out : (o : Option ℕ) (k : Control) → (abandons o k).out ≤ k.out + 1
abandons_out None k = omega arith
abandons_out (Some p) k = omega arith

over_by : (n : ℕ) (b : Bool) → 0 < n → (nat_lt 0 n || b) ≡ true
over_by n b l = grind (arith, l)

-- nothing is taken any more
pub none_after : (x : Kernel) (o : Option ℕ) (y : Kernel) → Abandons x o y → front (control_of y) ≡ None
none_after x o y a = over_none (control_of y)
    (let e : y.abandons ≡ x.abandons + 1 = ap (λ (c : Control). c.abandons) a.control ∙ abandons_one o (control_of x) in
    over_by y.abandons _ (omega (arith, e)))

noted_abandons : (w : ℕ) (o : Option ℕ) (k : Control) → takes w None (after_give o None None k) ≡ abandons o k
noted_abandons w None k = refl
noted_abandons w (Some p) k = refl

pub noted_abandon : (x : Kernel) (w : ℕ) (o : Option Proc) (y : Kernel) (g : Got) → FitsAsk x w (ask.Abandon o)
    → Abandons x (option_map (λ (p : Proc). p.number) o) y → GotMatchesNote y g None
    → LeavesNote x w (ask.Abandon o) y g (record {
      worker = w;
      given = option_map (λ (p : Proc). p.number) o;
      event = None;
      got = None;
    })
noted_abandon x w o y g fits a answer =
    let n : Option ℕ = option_map (λ (p : Proc). p.number) o in
    let more : y.abandons ≡ x.abandons + 1 = ap (λ (c : Control). c.abandons) a.control
    ∙ abandons_one n (control_of x) in
    let outs : y.out ≡ (abandons n (control_of x)).out = ap (λ (c : Control). c.out) a.control in
    record {
      worker = refl;
      changed = λ same. let e : y.abandons ≡ x.abandons = ap (λ (z : Kernel). z.abandons) same in
          absurd (omega (arith, more, e));
      follows = record { gives = gives o fits a.system; gets = gets o };
      control = a.control ∙ sym (noted_abandons w n (control_of x));
      code_run = same_code_run x y a.code_run;
      whole = a.whole;
      out = omega (arith, outs, abandons_out n (control_of x));
      abandons = omega (arith, more);
      answer = answer;
      journal = ap (λ (j : _). j.entries) a.journal ∙ sym (no_entry o);
      gives_up = (refl, refl);
      given = refl;
    }
  where
    gives : (p : Option Proc) → FitsAsk x w (ask.Abandon p) → system_of y ≡ system_of x
        → GiveIsLegal plain (code_run_of x) (control_of x) (system_of x) w (option_map (λ (q : Proc). q.number) p)
        None None
        (system_of y)
    gives None f e = e
    gives (Some p) f e = (f, refl, e)

    gets : (p : Option Proc) → GetIsLegal plain (code_run_of x)
        (after_give (option_map (λ (q : Proc). q.number) p) None None (control_of x)) None None
    gets p = tt {0}

    no_entry : (p : Option Proc) → x.journal.entries
        ++ entry_of (option_map (λ (q : Proc). q.number) p) None ≡ x.journal.entries
    no_entry None = append-nil x.journal.entries
    no_entry (Some p) = append-nil x.journal.entries
