-- A journal followed where the program's frame has more cells than the limit: F12 of the first process is the only
-- entry that can come.
use Rattle.std.proofs.Common.{◌≡◌, ◌≢◌, ℕ, ◌==◌, Bool, true, false, cond, if◌then◌else◌, List, [], ◌∷◌, length}
use Rattle.std.proofs.Common.{Some, None, Ok, Err, refl, sym, ap, ◌∙◌, subst, arith}
use Rattle.std.proofs.lemmas.Bool.{eqb-true}
use Rattle.std.proofs.lemmas.List.{nil_from_length}
use Rattle.sp_base.specs.declared.fault.Fault.TheVariants as fault
use Rattle.sp_base.specs.declared.limits.Limits.{Limits}
use Rattle.sp_cell.specs.Map.{Plain}
use Rattle.sp_journal.specs.declared.entry.Entry.{Entry}
use Rattle.sp_journal.specs.declared.entry.Event.{Event}
use Rattle.sp_journal.specs.declared.entry.Event.TheVariants as event
use Rattle.sp_code.specs.declared.code.Parts.{Parts}
use Rattle.sp_code.specs.Machine as m
use Rattle.sp_code.specs.Memory.{Memory, memory, first_process}
use Rattle.sp_code.specs.PlainStore.{plain}
use Rattle.sp_code.specs.Sound.{run_of}
use Rattle.sp_code.specs.System.{System, Working, Absent, Laid, EntryLeads, opening_system, event_of}
use Rattle.sp_code.specs.System.{system_after_turn}
use Rattle.sp_code.specs.Turns.{Turn, Faulted, IsTurn, Runs, BeginsOrFaults}
use Rattle.sp_code.specs.OutputHolder.{IsOutputOf}
use Rattle.sp_machine.specs.FirstFrames.{first_fits}
use Rattle.sp_kernel.specs.FirstFaults.{first_fault, first_fault_end}
use Rattle.sp_runner.proofs.TooLarge.{faulted_system, leads_there, faulted_output, opening_output}
use Rattle.sp_replay.specs.declared.replayer.Replayed.{Replayed}
use Rattle.sp_replay.specs.declared.replayer.ReplayError.TheVariants as error
use Rattle.sp_replay.specs.Replays.{Replays, ReplayEndsSo, ReplayLeadsTo, IsUnfitAt}

-- a process that is working is no other one
same_working : (c d : m.Config (Memory Plain)) → Working c ≡ Working d → c ≡ d
same_working c d e = cc e

module _ (code : Parts) (input : List ℕ) (lim : Limits) where
  abbrev start : System Plain
  start = opening_system plain (run_of code input lim)

  abbrev c0 : m.Config (Memory Plain)
  c0 = first_process plain (run_of code input lim)

  -- the first process alone works at first
  only_first : (q : ℕ) (c : m.Config (Memory Plain)) → start.condition q ≡ Working c → (q ≡ 0) × (c0 ≡ c)
  only_first q c e = go (q == 0) refl e
    where
      go : (b : Bool) → q == 0 ≡ b → (if b then Working c0 else Absent) ≡ Working c → (q ≡ 0) × (c0 ≡ c)
      go true j s = (eqb-true q 0 j, same_working c0 c s)
      go false j s = absurd (cc s)

  -- its turn is the fault
  its_turn : (t : Turn (Memory Plain)) → first_fits code lim ≡ false
      → IsTurn (memory plain (run_of code input lim)) code c0 t → t ≡ Faulted fault.F12 c0
  its_turn t large is =
      subst (λ b. BeginsOrFaults b c0 t (Runs (memory plain (run_of code input lim)) code c0 t)) large is

  only_entry : (q : ℕ) (e : Event) (u : System Plain) → first_fits code lim ≡ false
      → EntryLeads plain (run_of code input lim) start q e u → (q ≡ 0) × (e ≡ event.Fault fault.F12)
  only_entry q e u large (c, works, t, is, made, after) =
      let w = only_first q c works in
      let same = its_turn t large (subst (λ d. IsTurn (memory plain (run_of code input lim)) code d t) (sym w.1) is) in
      (w.0, sym made ∙ ap (event_of lim start) same)

  one_system : (u : System Plain) → first_fits code lim ≡ false
      → EntryLeads plain (run_of code input lim) start 0 (event.Fault fault.F12) u → u ≡ faulted_system code input lim
  one_system u large (c, works, t, is, made, after) =
      let w = only_first 0 c works in
      after ∙ ap (λ (x : Turn (Memory Plain)). system_after_turn plain (run_of code input lim) 0 x start)
      (its_turn t large (subst (λ d. IsTurn (memory plain (run_of code input lim)) code d t) (sym w.1) is))

  -- nothing comes after it
  none_after : (q : ℕ) (e : Event) (u : System Plain)
      → EntryLeads plain (run_of code input lim) (faulted_system code input lim) q e u → ⊥
  none_after q e u (c, works, t, is, made, after) = go (0 == q) refl (q == 0) refl works
    where
      go : (a : Bool) → 0 == q ≡ a → (b : Bool) → q == 0 ≡ b
          → cond a (Laid c0) (if b then Working c0 else Absent) ≡ Working c → ⊥
      go true i b j s = cc s
      go false i true j s =
          let z = eqb-true q 0 j in
          let same : 0 == q ≡ true = grind (arith, z) in
          absurd (cc (i, same))
      go false i false j s = cc s

  pub nothing_yet : (r : Replayed) → r.end ≡ None → r.output ≡ [] → Replays (run_of code input lim) [] (Ok r)
  nothing_yet r end output = record {
    system = start;
    along = refl;
    end = subst (ReplayEndsSo [] start) (sym end) (record {
      no_fault = refl;
      root = λ e. cc e;
      runs = (0, refl);
    });
    output = (
      0,
      subst (IsOutputOf start 0) (sym output)
          (opening_output code input lim),
    );
  }

  pub no_first : (first : Entry) (rest : List Entry) → first_fits code lim ≡ false → first ≢ first_fault
      → Replays (run_of code input lim) (first ∷ rest) (Err (error.Unfit 0))
  no_first first rest large other = record {
    inside = omega arith;
    fits = (start, refl);
    unfit = λ t l. (let w = only_entry first.process first.event l.0 large l.1 in
        other (λ i. record { process = w.0 i; event = w.1 i }));
  }

  pub no_second : (second : Entry) (rest : List Entry) → first_fits code lim ≡ false
      → Replays (run_of code input lim) (first_fault ∷ second ∷ rest) (Err (error.Unfit 1))
  no_second second rest large = record {
    inside = omega arith;
    fits = (faulted_system code input lim, (faulted_system code input lim, leads_there code input lim large, refl));
    unfit = λ t (middle, leads, (after, leads_on, _)). none_after second.process second.event after
        (subst (λ s. EntryLeads plain (run_of code input lim) s second.process second.event after)
        (one_system middle large leads) leads_on);
  }

  pub one_fault : (r : Replayed) → first_fits code lim ≡ false → r.end ≡ Some first_fault_end → r.output ≡ []
      → Replays (run_of code input lim) (first_fault ∷ []) (Ok r)
  one_fault r large end output = record {
    system = faulted_system code input lim;
    along = (faulted_system code input lim, leads_there code input lim large, refl);
    end = subst (ReplayEndsSo (first_fault ∷ []) (faulted_system code input lim)) (sym end) (0, refl, refl);
    output = (
      0,
      subst (IsOutputOf (faulted_system code input lim) 0) (sym output)
          (faulted_output code input lim),
    );
  }

  -- ---- a journal by its first entry and the others

  pub at_second : (es : List Entry) (first : Entry) (rest : List Entry) → first_fits code lim ≡ false
      → es ≡ first ∷ rest → first ≡ first_fault → length rest == 0 ≡ false → IsUnfitAt (run_of code input lim) es 1
  at_second es first [] large is fault more = absurd (cc more)
  at_second es first (second ∷ rest) large is fault more =
      subst (λ (xs : List Entry). IsUnfitAt (run_of code input lim) xs 1)
      (sym (is ∙ ap (λ (e : Entry). e ∷ second ∷ rest) fault)) (no_second second rest large)

  pub at_end : (es : List Entry) (first : Entry) (rest : List Entry) (r : Replayed) → first_fits code lim ≡ false
      → es ≡ first ∷ rest → first ≡ first_fault → length rest == 0 ≡ true → r.end ≡ Some first_fault_end
      → r.output ≡ [] → ReplayLeadsTo (run_of code input lim) es r
  at_end es first rest r large is fault none end output =
      subst (λ (xs : List Entry). ReplayLeadsTo (run_of code input lim) xs r)
      (sym (is ∙ ap (λ (e : Entry). e ∷ rest) fault
      ∙ ap (λ (xs : List Entry). first_fault ∷ xs) (nil_from_length rest (eqb-true (length rest) 0 none))))
      (one_fault r large end output)
