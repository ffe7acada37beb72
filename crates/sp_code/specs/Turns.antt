-- Some of this belongs to what the program promises (docs/promise.txt).
-- A turn of a process: its instructions up to the next stop, or to the first moment at which it is due. The machine's
-- `turn` promises it, and the system steps by it; a relation, since an unsound process has no turn.
use Rattle.std.specs.Prelude.{◌≡◌, ℕ, zero, suc, Bool, true, false}
use Rattle.sp_base.specs.declared.fault.Fault.{Fault}
use Rattle.sp_base.specs.declared.fault.Fault.TheVariants as fault
use Rattle.sp_code.specs.declared.code.Parts.{Parts}
use Rattle.sp_code.specs.Machine.{Config, At, Stop, StepResult, Goes, Stops, Fails, Stuck, Ops, next_step}

-- how a turn ends: at a stop, with the process after it; or with a fault, at the instruction that has it
pub data Turn (M : Type 0) : Type 0 where
  Stopped : (stop : Stop) (c : Config M) → Turn M
  Faulted : (fault : Fault) (c : Config M) → Turn M

-- what a process that is run for some instructions comes to: the end of its turn, an instruction that lacks what it
-- needs, or neither yet
pub data TurnProgress (M : Type 0) : Type 0 where
  Ended : (turn : Turn M) → TurnProgress M
  Lacks : (c : Config M) → TurnProgress M
  GoesOn : (c : Config M) → TurnProgress M

-- the live frames of a process fit, as the test says; else F12 comes before its first instruction
abbrev pub BeginsOrFaults : {M : Type 0} → Bool → Config M → Turn M → Type 0 → Type 0
BeginsOrFaults true c t rest = rest
BeginsOrFaults false c t rest = t ≡ Faulted fault.F12 c

module _ {M : Type 0} (ops : Ops M) (code : Parts) where
  -- n instructions lead from c to d
  abbrev pub RunsIn : ℕ → Config M → Config M → Type 0
  RunsIn zero c d = c ≡ d
  RunsIn (suc n) c d = (e : Config M) × (next_step ops code c ≡ Goes e) × RunsIn n e d

  -- some instructions lead from c to d
  pub record RunsTo (c d : Config M) : Type 0 where
    pub steps : ℕ
    pub proof : RunsIn steps c d

  -- the instruction of c ends a turn so
  abbrev pub EndsSo : Config M → Turn M → Type 0
  EndsSo c (Stopped s d) = next_step ops code c ≡ Stops s d
  EndsSo c (Faulted f d) = (next_step ops code c ≡ Fails f) × (d ≡ c)

  -- from c some instructions lead to one that ends the turn so
  abbrev pub Runs : Config M → Turn M → Type 0
  Runs c t = (d : Config M) × RunsTo c d × EndsSo d t

  -- its live frames fit
  abbrev pub frames_fit : Config M → Bool
  frames_fit (At pc stack n) = ops.fits n

  -- the turn of c ends so
  abbrev pub IsTurn : Config M → Turn M → Type 0
  IsTurn c t = BeginsOrFaults (frames_fit c) c t (Runs c t)

  -- no instruction of the turn of c lacks what it needs; where its frames do not fit, it has none
  abbrev pub IsSafe : Config M → Type 0
  IsSafe c = frames_fit c ≡ true → (d : Config M) → RunsTo c d → next_step ops code d ≡ Stuck → ⊥

  -- what the outcome of one instruction comes to, where go runs on
  abbrev pub run_after_step : (Config M → TurnProgress M) → Config M → StepResult M → TurnProgress M
  run_after_step go c (Goes d) = go d
  run_after_step go c (Stops s d) = Ended (Stopped s d)
  run_after_step go c (Fails f) = Ended (Faulted f c)
  run_after_step go c Stuck = Lacks c

  -- the same, computed: no more than n instructions
  abbrev pub run_within : ℕ → Config M → TurnProgress M
  run_within zero c = GoesOn c
  run_within (suc n) c = run_after_step (run_within n) c (next_step ops code c)

  -- n instructions, where it may begin
  abbrev pub run_if_begun : ℕ → Bool → Config M → TurnProgress M
  run_if_begun n true c = run_within n c
  run_if_begun n false c = Ended (Faulted fault.F12 c)

  -- the turn of c, if it has no more than n instructions
  abbrev pub turn_within : ℕ → Config M → TurnProgress M
  turn_within n c = run_if_begun n (frames_fit c) c
