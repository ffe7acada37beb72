-- From instructions to a turn.
use Rattle.std.proofs.Common.{◌+◌, ◌∷◌, Option, Result, Ok, Err, IfOk, IfSome, inl, inr, arith}
use Rattle.std.specs.Prelude.{slice_get, IsTrue}
use Rattle.std.proofs.Common.{◌≡◌, ◌≢◌, ℕ, zero, suc, ◌<◌, Bool, true, Some, None, refl, sym, ap, ◌∙◌, subst}
use Rattle.sp_base.specs.declared.fault.Fault.{Fault}
use Rattle.sp_base.specs.declared.halt.Memory.{Memory as Refused}
use Rattle.sp_base.specs.declared.limits.Limits.{Limits}
use Rattle.sp_cell.specs.declared.spot.Address.{Address}
use Rattle.sp_cell.specs.Map.{Plain}
use Rattle.sp_code.specs.declared.code.Parts.{Parts}
use Rattle.sp_code.specs.declared.instr.Instr.{Instr}
use Rattle.sp_code.specs.declared.instr.Instr.TheVariants as instr
use Rattle.sp_code.specs.Machine as m
use Rattle.sp_code.specs.Turns.{Turn, Stopped, Faulted, RunsIn, EndsSo, Runs, BeginsOrFaults, frames_fit, IsTurn}
use Rattle.sp_code.specs.Turns.{IsSafe}
use Rattle.sp_code.specs.Memory.{Memory, memory, CodeRun, addr_in, frames_up}
use Rattle.sp_code.specs.PlainStore.{plain}
use Rattle.sp_code.specs.Sound.{run_of}
use Rattle.sp_code.specs.Budgets.{left_by, ticks_left}
use Rattle.sp_code.proofs.Falls.{falls}
use Rattle.sp_code.proofs.TickCounts.{spends}
use Rattle.sp_machine.specs.declared.state.State.{State}
use Rattle.sp_machine.specs.declared.state.Outcome.{Outcome}
use Rattle.sp_machine.specs.declared.state.Stop.{Stop}
use Rattle.sp_machine.specs.declared.state.Stop.TheVariants as stop
use Rattle.sp_machine.specs.Procs.{step_at_config, IsSafeThen, WentTwice, Proceeded, CameBy, does, memory_of}
use Rattle.sp_machine.specs.StackEntries.{entries_of}
use Rattle.sp_machine.specs.Procs.{config_of, code_run_of, next_of, StepMatches}
use Rattle.sp_machine.specs.Procs.{StopIs, FaultIs, IsRankedFrom, IsTurnOf, told_by}

module _ (g : CodeRun) where
  abbrev ops : m.Ops (Memory Plain)
  ops = memory plain g

  pub comes_more : (n : ℕ) (c d e : m.Config (Memory Plain)) → RunsIn ops g.code n c d → m.next_step ops g.code d
      ≡ m.Goes e
      → RunsIn ops g.code (suc n) c e
  comes_more zero c d e h k = (e, ap (m.next_step ops g.code) h ∙ k, refl)
  comes_more (suc n) c d e h k = (h.0, h.1, comes_more n h.0 d e h.2 k)

  went : (o : m.StepResult (Memory Plain)) (p q : State) → StepMatches o p q None → o ≢ m.Stuck
      → o ≡ m.Goes (config_of q)
  went (m.Goes d) p q c n = ap m.Goes (sym c)
  went (m.Stops t d) p q c n = absurd c
  went (m.Fails f) p q c n = absurd c
  went m.Stuck p q c n = absurd (n refl)

  -- how a turn that has begun ends
  ended : (c d : m.Config (Memory Plain)) (t : Turn (Memory Plain)) (n : ℕ) → frames_fit ops g.code c ≡ true
      → RunsIn ops g.code n c d → EndsSo ops g.code d t → IsTurn ops g.code c t
  ended c d t n b h k = subst (λ (x : Bool). BeginsOrFaults x c t (Runs ops g.code c t)) (sym b)
      (d, record { steps = n; proof = h }, k)

  module _ (c : m.Config (Memory Plain)) (p q : State) (n : ℕ) (b : frames_fit ops g.code c ≡ true)
      (h : RunsIn ops g.code n c (config_of p)) (x : State) (code : Parts) (lim : Limits) (is : c ≡ config_of x)
      (same : g ≡ code_run_of x code lim) where
    moved : (u : Turn (Memory Plain)) → IsTurn ops g.code c u
        → IsTurn (memory plain (code_run_of x code lim)) code (config_of x) u
    moved u k = subst (λ (y : m.Config (Memory Plain)). IsTurn (memory plain (code_run_of x code lim)) code y u) is
        (subst (λ (y : CodeRun). IsTurn (memory plain y) y.code c u) same k)

    -- the turn that ended at an instruction with this stop
    stopped_so : (s : Stop) (t : m.Stop) (d : m.Config (Memory Plain)) → m.next_step ops g.code (config_of p)
        ≡ m.Stops t d
        → StopIs s q t → config_of q ≡ d → IsTurnOf x code lim q s
    stopped_so s t d e i w = by s i
      where
        done : (z : m.Stop) → t ≡ z → IsTurn (memory plain (code_run_of x code lim)) code (config_of x)
            (Stopped z (config_of q))
        done z k = moved (Stopped z (config_of q))
            (ended c (config_of p) (Stopped z (config_of q)) n b h
            (e ∙ ap (λ (y : m.Stop). m.Stops y d) k ∙ ap (m.Stops z) (sym w)))

        by : (s : Stop) → StopIs s q t → IsTurnOf x code lim q s
        by (stop.Fork table v k) i = (done (m.Forks table v k) i.0, i.1)
        by stop.Open i = (done (m.Opens q.target) i, tt)
        by (stop.Send ch k cs) i = (done (m.Sends ch k cs) i, tt)
        by (stop.Receive ch k) i = (done (m.Receives ch k q.target) i, tt)
        by stop.End i = (done m.Ends i, tt)
        by stop.Pause i = (done m.Pauses i, tt)
        by (stop.Fault f) i = absurd i
        by stop.Memory i = absurd i

    faulted_so : (s : Stop) (f : Fault) → m.next_step ops g.code (config_of p) ≡ m.Fails f → FaultIs s f
        → config_of q ≡ config_of p → IsTurnOf x code lim q s
    faulted_so s f e i w = by s i
      where
        done : (z : Fault) → z ≡ f → IsTurn (memory plain (code_run_of x code lim)) code (config_of x)
            (Faulted z (config_of q))
        done z k = moved (Faulted z (config_of q))
            (ended c (config_of p) (Faulted z (config_of q)) n b h (e ∙ ap m.Fails (sym k), w))

        by : (s : Stop) → FaultIs s f → IsTurnOf x code lim q s
        by (stop.Fault z) i = (done z i, tt)
        by _ i = absurd i

    stopped : (s : Stop) (o : m.StepResult (Memory Plain)) → m.next_step ops g.code (config_of p) ≡ o → o ≢ m.Stuck
        → StepMatches o p q (Some s) → IsTurnOf x code lim q s
    stopped s (m.Goes d) e live came = absurd came
    stopped s (m.Stops t d) e live came = stopped_so s t d e came.0 came.1
    stopped s (m.Fails f) e live came = faulted_so s f e came.0 came.1
    stopped s m.Stuck e live came = absurd (live refl)

module _ (x : State) (code : Parts) (lim : Limits) (p : State) (input : p.input ≡ x.input) where
  same_next : next_of p code lim ≡ m.next_step (memory plain (code_run_of x code lim)) code (config_of p)
  same_next = ap (λ (g : CodeRun). m.next_step (memory plain g) code (config_of p))
      (ap (λ i. run_of code i.value lim) input)

  same_from : (d : m.Config (Memory Plain))
      → step_at_config p code lim d ≡ m.next_step (memory plain (code_run_of x code lim)) code d
  same_from d = ap (λ (g : CodeRun). m.next_step (memory plain g) code d) (ap (λ i. run_of code i.value lim) input)

  pub safe_next : (n : ℕ) → IsSafe (memory plain (code_run_of x code lim)) code (config_of x)
      → frames_fit (memory plain (code_run_of x code lim)) code (config_of x) ≡ true
      → RunsIn (memory plain (code_run_of x code lim)) code n (config_of x) (config_of p) → next_of p code lim ≢ m.Stuck
  safe_next n safe b h e = safe b (config_of p) (record { steps = n; proof = h }) (sym same_next ∙ e)

  -- where it goes on by two instructions
  to_both : (n : ℕ) → RunsIn (memory plain (code_run_of x code lim)) code n (config_of x) (config_of p)
      → (d : m.Config (Memory Plain)) → next_of p code lim ≡ m.Goes d
      → RunsIn (memory plain (code_run_of x code lim)) code (suc n) (config_of x) d
  to_both n h d e = comes_more (code_run_of x code lim) n (config_of x) (config_of p) d h (sym same_next ∙ e)

  pub safe_both : (n : ℕ) → IsSafe (memory plain (code_run_of x code lim)) code (config_of x)
      → frames_fit (memory plain (code_run_of x code lim)) code (config_of x) ≡ true
      → RunsIn (memory plain (code_run_of x code lim)) code n (config_of x) (config_of p) → IsSafeThen p code lim
  safe_both n safe b h d e s = safe b d (record { steps = suc n; proof = to_both n h d e }) (sym (same_from d) ∙ s)

  module _ (q : State) (n : ℕ) (safe : IsSafe (memory plain (code_run_of x code lim)) code (config_of x))
      (b : frames_fit (memory plain (code_run_of x code lim)) code (config_of x) ≡ true)
      (h : RunsIn (memory plain (code_run_of x code lim)) code n (config_of x) (config_of p)) where
    goes_to : StepMatches (next_of p code lim) p q None
        → m.next_step (memory plain (code_run_of x code lim)) code (config_of p) ≡ m.Goes (config_of q)
    goes_to c = sym same_next ∙ went (code_run_of x code lim) (next_of p code lim) p q c (safe_next n safe b h)

    pub on_it : StepMatches (next_of p code lim) p q None
        → RunsIn (memory plain (code_run_of x code lim)) code (suc n) (config_of x) (config_of q)
    on_it c = comes_more (code_run_of x code lim) n (config_of x) (config_of p) (config_of q) h (goes_to c)

    pub smaller : IsRankedFrom x code lim → StepMatches (next_of p code lim) p q None
        → left_by code.instrs (ticks_left (code_run_of x code lim)) (config_of q)
        < left_by code.instrs (ticks_left (code_run_of x code lim)) (config_of p)
    smaller ranked c = falls (memory plain (code_run_of x code lim)) code (ticks_left (code_run_of x code lim))
        (spends plain (code_run_of x code lim)) (config_of p) (config_of q)
        (ranked (config_of p) (record { steps = n; proof = h })) (goes_to c)

    pub on_both : WentTwice p code lim q
        → RunsIn (memory plain (code_run_of x code lim)) code (suc (suc n)) (config_of x) (config_of q)
    on_both (between, (goes, goes_on)) =
        comes_more (code_run_of x code lim) (suc n) (config_of x) between (config_of q) (to_both n h between goes)
        (sym (same_from between) ∙ goes_on)

    pub smaller_both : IsRankedFrom x code lim → WentTwice p code lim q
        → left_by code.instrs (ticks_left (code_run_of x code lim)) (config_of q)
        < left_by code.instrs (ticks_left (code_run_of x code lim)) (config_of p)
    smaller_both ranked (between, (goes, goes_on)) = omega (
      arith,
      falls (memory plain (code_run_of x code lim)) code (ticks_left (code_run_of x code lim))
          (spends plain (code_run_of x code lim)) (config_of p) between
          (ranked (config_of p) (record { steps = n; proof = h })) (sym same_next ∙ goes),
      falls (memory plain (code_run_of x code lim)) code (ticks_left (code_run_of x code lim))
          (spends plain (code_run_of x code lim)) between (config_of q)
          (ranked between (record { steps = suc n; proof = to_both n h between goes }))
          (sym (same_from between) ∙ goes_on),
    )

    pub ends_it : (s : Stop) → StepMatches (next_of p code lim) p q (Some s) → IsTurnOf x code lim q s
    ends_it s c = stopped (code_run_of x code lim) (config_of x) p q n b h x code lim refl refl s (next_of p code lim)
        (sym same_next) (safe_next n safe b h) c

    -- so it ends where the outcome tells a stop: two instructions at once only go on
    pub ends_by : (r : Outcome) (s : Stop) → told_by q r ≡ Some (Some s) → Proceeded p code lim q r
        → IsTurnOf x code lim q s
    ends_by r s e (inl c) = ends_it s (subst (λ (o : Option (Option Stop)). IfSome o
        (λ (y : Option Stop). StepMatches (next_of p code lim) p q y)) e c)
    ends_by r s e (inr h) = absurd (none_some (sym (ap (told_by q) h.0) ∙ e))
      where
        none_some : Some None ≡ Some (Some s) → ⊥
        none_some k = cc

-- what a turn did, whatever the state keeps of why it stopped
pub turned_with : (x : State) (code : Parts) (lim : Limits) (q : State) (t s : Stop) → IsTurnOf x code lim q s
    → IsTurnOf x code lim (record q { stopped = t }) s
turned_with x code lim q t (stop.Fork table v k) h = h
turned_with _ _ _ _ _ _ h = h

-- one instruction came so
pub once : (p : State) (code : Parts) (lim : Limits) (q : State) (r : Outcome)
    → CameBy (next_of p code lim) p q r → Proceeded p code lim q r
once p code lim q r h = inl h

-- an address pushed, and the ordinal there loaded
module _ (p : State) (code : Parts) (lim : Limits) (a : Address) where
  abbrev pub addressed : m.Config (Memory Plain)
  addressed = m.At (p.pc + 1) (m.Pointer a ∷ entries_of p.stack) (memory_of p)

  abbrev pub loads : Option Instr → m.StepResult (Memory Plain)
  loads o = m.instruction (memory plain (code_run_of p code lim)) code o (p.pc + 1) (m.Pointer a ∷ entries_of p.stack)
      (memory_of p)

  pub at_address : (up var : ℕ) → slice_get code.instrs p.pc ≡ Some (instr.Addr up var)
      → Some a ≡ addr_in (frames_up up p.frames) var → next_of p code lim ≡ m.Goes addressed
  at_address up var e f = ap (λ o. does o p code lim) e
      ∙ ap (λ b. m.on_some b (λ c. m.Goes (m.At (p.pc + 1) (m.Pointer c ∷ entries_of p.stack) (memory_of p)))) (sym f)

  pub safe_load : IsSafeThen p code lim → next_of p code lim ≡ m.Goes addressed
      → slice_get code.instrs (p.pc + 1) ≡ Some instr.Load → loads (Some instr.Load) ≢ m.Stuck
  safe_load safe e f s = safe addressed e (ap loads f ∙ s)

  pub loaded_both : (q : State) (r : Result Bool Refused) → next_of p code lim ≡ m.Goes addressed
      → slice_get code.instrs (p.pc + 1) ≡ Some instr.Load
      → IfOk r (λ b. IsTrue b → loads (Some instr.Load) ≡ m.Goes (config_of q))
      → IfOk r (λ b. IsTrue b → WentTwice p code lim q)
  loaded_both q (Ok b) e f g = λ t. (addressed, (e, ap loads f ∙ g t))
  loaded_both q (Err x) e f g = tt
