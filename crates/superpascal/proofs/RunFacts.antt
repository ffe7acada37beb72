-- The run of the code of a text is one of its program, and so is what follows a journal. It leads from `execute` and
-- `follow`, and the laws of ready programs and of races, to the text's program.
use Rattle.std.proofs.Common.{◌≡◌, inl, inr, ℕ, ◌≤◌, List, Result, Ok, Err, refl, sym, subst, arith}
use Rattle.std.specs.Prelude.{IfOk}
use Rattle.sp_base.specs.declared.halt.Memory.{Memory}
use Rattle.sp_base.specs.declared.limits.Limits.{Limits}
use Rattle.sp_code.specs.declared.code.Parts.{Parts}
use Rattle.sp_code.specs.Shares.{SetsAre}
use Rattle.sp_code.specs.Sound.{AreLimits}
use Rattle.sp_execute.specs.declared.execution.Ran.{Ran}
use Rattle.sp_execute.specs.Follows.{FollowsTo as FollowsProgram}
use Rattle.sp_execute.specs.Runs.{Executes, IsCodeOf as IsReadyCode, run_input}
use Rattle.sp_execute.specs.Witnesses.{IsReadyRun, ShowsRace}
use Rattle.sp_front.specs.AcceptedTree.{IsAccepted}
use Rattle.sp_journal.specs.declared.entry.Journal.{Journal}
use Rattle.sp_link.specs.Premises.{IsReady}
use Rattle.sp_meaning.specs.LocalWork.{RunInput}
use Rattle.sp_replay.specs.declared.replayer.Replayed.{Replayed}
use Rattle.sp_replay.specs.declared.replayer.ReplayError.{ReplayError}
use Rattle.sp_replay.specs.declared.replayer.ReplayError.TheVariants as error
use Rattle.sp_tree.specs.Bare.{without_places}
use Rattle.sp_tree.specs.Plain.{Program, Stmt}
use Rattle.sp_tree.specs.PlainChecked as c
use Rattle.sp_words.specs.Ranges.{IsInRange}
use Rattle.superpascal.specs.declared.ending.Ending.{Ending}
use Rattle.superpascal.specs.AnswerParts.{HasCode, ending_of_error}
use Rattle.superpascal.specs.Runs.{IsRunOf}
use Rattle.superpascal.specs.Steps.{ReplaysTo}

-- options in their ranges are within their types
below : (m n k : ℕ) → m ≤ n → n ≤ k → m ≤ k
below m n k h i = omega arith

pub limits_are : (workers : ℕ) (lim : Limits) → IsInRange workers lim → AreLimits lim
limits_are workers lim r = record {
  depth = below lim.depth 10000 4294967295 r.depth.1 (omega arith);
  cells = below lim.cells 67108864 4294967295 r.cells.1 (omega arith);
  processes = below lim.processes 1000000 4294967295 r.processes.1 (omega arith);
  channels = below lim.channels 1000000 4294967295 r.channels.1 (omega arith);
  entries = below lim.entries 10000000 4294967295 r.entries.1 (omega arith);
  root = r.processes.0;
}

-- the law of ready programs
abbrev pub ReadyLaw : Type 0
ReadyLaw = (text : List ℕ) (t : c.Program) → IsAccepted text t → (moves shares : Stmt → List ℕ)
    → SetsAre (without_places t) moves shares
    → (input : List ℕ) (lim : Limits) → AreLimits lim
    → IsReady (record { program = without_places t; input = input; limits = lim }) moves shares

-- the law of races
abbrev pub RaceLaw : Type 0
RaceLaw = (g : RunInput) (moves shares : Stmt → List ℕ) (workers : ℕ) (r : Ran) → IsReady g moves shares
    → Executes g workers r → ShowsRace g r

-- how following a journal ends a replay
abbrev pub ending_at : Result Replayed ReplayError → Result Replayed Ending
ending_at (Ok r) = Ok r
ending_at (Err x) = Err (ending_of_error x)

module _ (law : ReadyLaw) (code : Parts) (input : List ℕ) (workers : ℕ) (lim : Limits)
    (range : IsInRange workers lim) where
  pub ready_code : (text : List ℕ) (t : c.Program) (has : HasCode text t code)
      → IsReadyCode (run_input (without_places t) input lim) has.code.0.moves has.code.0.shares code
  ready_code text t has = record {
    ready = law text t has.has.accepted has.code.0.moves has.code.0.shares has.code.0.are input lim
        (limits_are workers lim range);
    emitted = has.code.1;
  }

  -- of the code and the input as the run holds them
  module _ (held : Parts) (read : List ℕ) (h : held ≡ code) (i : read ≡ input) where
    pub ready_held : ((text : List ℕ) × (t : c.Program) × HasCode text t code) → (p : Program) × (moves : Stmt → List ℕ)
        × (shares : Stmt → List ℕ) × IsReadyCode (run_input p read lim) moves shares held
    ready_held (text, t, has) = (
      without_places t,
      has.code.0.moves,
      has.code.0.shares,
      subst (λ (z : List ℕ × Parts). IsReadyCode (run_input (without_places t) z.0 lim) has.code.0.moves
          has.code.0.shares z.1)
          (λ k. (sym i k, sym h k)) (ready_code text t has),
    )

    abbrev Meant : List ℕ → Parts → Ran → Type 0
    Meant y x r = (p : Program) (moves shares : Stmt → List ℕ) → IsReadyCode (run_input p y lim) moves shares x
        → Executes (run_input p y lim) workers r

    -- a run of the code is one of the program, and the program is ready for it
    pub ready_if : ((text : List ℕ) × (t : c.Program) × HasCode text t code) → (r : Result Ran Memory)
        → IfOk r (λ e. Meant read held e) → IfOk r IsReadyRun
    ready_if some (Ok e) meant =
        let (program, moves, shares, is_ready) = ready_held some in
        (run_input program read lim, moves, shares, workers, is_ready.ready, meant program moves shares is_ready)
    ready_if some (Err x) meant = tt

    pub is_run_if : RaceLaw → (r : Result Ran Memory) → IfOk r (λ e. Meant read held e)
        → IfOk r (λ e. (text : List ℕ) (t : c.Program) → HasCode text t code → IsRunOf text input workers lim e)
    is_run_if races (Ok e) meant = λ text t has.
        let ready = ready_code text t has in
        let executes = subst (λ (z : List ℕ × Parts). Meant z.0 z.1 e) (λ k. (i k, h k)) meant
        (without_places t) has.code.0.moves has.code.0.shares ready in
        record {
          tree = t;
          has = has.has;
          meant = executes;
          shown = races (run_input (without_places t) input lim) has.code.0.moves has.code.0.shares workers e
              ready.ready
              executes;
        }
    is_run_if races (Err x) meant = tt

    module _ (j : Journal) (r : Result Replayed ReplayError) (says : (p : Program) (moves shares : Stmt → List ℕ)
        → IsReadyCode (run_input p read lim) moves shares held → FollowsProgram (run_input p read lim) j r) where
      said : (text : List ℕ) (t : c.Program) → HasCode text t code
          → FollowsProgram (run_input (without_places t) input lim) j r
      said text t has =
          subst (λ (z : List ℕ × Parts). (p : Program) (moves shares : Stmt → List ℕ)
          → IsReadyCode (run_input p z.0 lim) moves shares z.1
          → FollowsProgram (run_input p z.0 lim) j r) (λ k. (i k, h k)) says
          (without_places t) has.code.0.moves has.code.0.shares (ready_code text t has)

      pub follows_text : (text : List ℕ) (t : c.Program) → HasCode text t code
          → ReplaysTo text input lim j (ending_at r)
      follows_text text t has = go r (said text t has)
        where
          go : (x : Result Replayed ReplayError) → FollowsProgram (run_input (without_places t) input lim) j x
              → ReplaysTo text input lim j (ending_at x)
          go (Ok y) m = record { tree = t; has = has.has; meant = m }
          go (Err (error.Unfit n)) m = inl (n, refl, record { tree = t; has = has.has; unfit = m })
          go (Err error.Memory) m = inr refl
