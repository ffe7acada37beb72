-- The turn of a process that stands, on both sides: how it ends in the meaning (`outcome`), what it kept to (`kept`),
-- how it ends in the machine (`turned`), that it does end (`ends`), and that no instruction of it lacks what it needs
-- (`safe`).
use Rattle.std.proofs.Common.{◌≡◌, ◌⊎◌, inl, inr, ℕ, List, [], Some, Bool, true, refl, sym, subst}
use Rattle.sp_cell.specs.Map.{Plain}
use Rattle.sp_meaning.specs.Model.{Name}
use Rattle.sp_meaning.specs.EffectTree.{run_tree}
use Rattle.sp_meaning.specs.LocalWork.{RunInput, Loc, Cell, LocalState, Item, Frame, Process, WorkOutcome, Computed}
use Rattle.sp_meaning.specs.LocalWork.{EndsInFault, IllFormed, OutOfFuel, same_loc}
use Rattle.sp_meaning.specs.Actions.{Action, Stepped, Ticked, Opened, Forked, Offered, Ended}
use Rattle.sp_meaning.specs.Rights.{Fit, Fair}
use Rattle.sp_meaning.specs.SuperPascal.{action_of, with_todo, fuel_of, weight_of}
use Rattle.sp_meaning.specs.Run.{Store, run}
use Rattle.sp_meaning.specs.Runs.{StateOf, total_limits, running_process}
use Rattle.sp_meaning.specs.Along.{Turn, ticks_in}
use Rattle.sp_meaning.specs.Turn as source
use Rattle.sp_meaning.proofs.ActionRights.{next_action_from}
use Rattle.sp_meaning.proofs.Pure.{PureItems, AreBlocksPure}
use Rattle.sp_meaning.proofs.SilentActions.{pure_kept}
use Rattle.sp_codegen.proofs.PureCode.{blocks_pure, follows_pure}
use Rattle.sp_meaning.proofs.RightsInvariant.{Result, result_within}
use Rattle.sp_meaning.proofs.StepLaws.{StateKeeps, step_well, raised, lowered}
use Rattle.sp_meaning.proofs.Rights.{OwnLocation}
use Rattle.sp_meaning.proofs.Sound.{step_sound}
use Rattle.sp_meaning.proofs.TurnWalks.{turn_keeps as walk_keeps}
use Rattle.sp_meaning.proofs.Within.{StaysWithin}
use Rattle.sp_meaning.proofs.Weights.{AreLight}
use Rattle.sp_code.specs.Machine.{Config, At}
use Rattle.sp_code.specs.Turns.{IsSafe, BeginsOrFaults, IsTurn, Turn as Machine_turn, Runs, frames_fit}
use Rattle.sp_code.specs.Memory.{Memory}
use Rattle.sp_codegen.specs.TurnAgrees.{due_after}
use Rattle.sp_codegen.proofs.Safe.{AtEnd, turn_finishes, finishes_safe}
use Rattle.sp_codegen.specs.CodePositions.{Turned}
use Rattle.sp_codegen.proofs.Turn.{turn_meets}
use Rattle.sp_link.proofs.TurnsEnd.{Ended as Over_now, enough_turn, this_turn_ends}
use Rattle.sp_link.proofs.TurnsKeep.{ChangesWritable, stays_on, stored_within, TurnKeeps, turn_keeps}
use Rattle.sp_link.proofs.Relation.{RunContext, BirthRights, ProcessMatches, law, execution, ops}
use Rattle.sp_link.proofs.SourceTurns.{Outcome, turns}

-- what is known of every state is known after local steps
pub turn_known : (g : RunInput) (turn since : ℕ) (q : Name) (n : ℕ) (s t : StateOf g) (paused : Bool) → StateKeeps g s
    → Turn g turn since q n s t paused → StateKeeps g t
turn_known g turn since q n s t paused k turns = walk_keeps g (StateKeeps g) q
    (λ z own next runs enters_none goes known. record {
      sound = step_sound (total_limits g) z q next known.sound goes;
      well = lowered g (λ r. ticks_in (z.condition r)) next
          (step_well g z known.sound q (raised g z known.well) next goes);
    }) turn since n s t paused turns k

-- all expressions of the program are pure
pub pure_blocks : (G : RunContext) → AreBlocksPure G.g.program
pure_blocks G = blocks_pure G.g.program G.values G.moves G.shares G.code G.callable G.blocks

module _ (G : RunContext) (lf : BirthRights) (kids : ℕ → ℕ → BirthRights) (q : Name) (since : ℕ) where
  abbrev pub Wr : Loc → Type 0
  Wr l = OwnLocation q l ⊎ lf.W l

  abbrev pub Rd : Loc → Type 0
  Rd l = OwnLocation q l ⊎ lf.R l

  abbrev pub dues : LocalState → Bool
  dues o = due_after since G.pause o

  pub own_right : (n x : ℕ) → Wr (Cell q n x)
  own_right n x = inl refl

  -- what local steps keep, from a store on: the name, the rights, and what it may not write
  pub record Keeps_right (s0 : Store) (last : List Frame) (pr : Process) (s : Store) : Type 0 where
    pub named : pr.who.name ≡ q
    pub fit : Fit G.g.program Wr Rd last pr.own.frames pr.todo
    pub stays : (l : Loc) → (s l ≡ s0 l) ⊎ Wr l
    pub pure : PureItems G.g.program pr.todo

  module _ (s : StateOf G.g) (pr : Process) (d : Config (Memory Plain))
      (z : ProcessMatches G lf kids q since pr s.store d)
      (runs : running_process G.g s q ≡ Some pr) (light : AreLight (weight_of G.g.program) pr.todo)
      (last : List Frame) (fit : Fit G.g.program Wr Rd last pr.own.frames pr.todo) where
    abbrev pub Keeps_it : Process → Store → Type 0
    Keeps_it p1 s1 = Keeps_right s.store last p1 s1

    pub keeps : (p1 : Process) (s1 : Store) → Keeps_it p1 s1
        → (todo : List Item) (o : LocalState) (m : Store) (e : Action)
        → ◌≡◌ {A = WorkOutcome Action × Store} (run_tree same_loc (action_of G.g p1) s1) (Computed e o, m)
        → (e ≡ Stepped todo)
        ⊎ (e ≡ Ticked todo) → Keeps_it (with_todo todo p1.who o) m
    keeps p1 s1 k todo o m e er w = record {
      named = k.named;
      fit = by w;
      stays = stays_on G.g G.free q Wr Rd own_right z.fresh.reads dues s.store s1 m k.stays
          (subst (λ (x : WorkOutcome Action × Store). ChangesWritable G.g G.free q Wr Rd own_right z.fresh.reads dues s1
          x.1) er
          (stored_within G.g G.free q Wr Rd own_right z.fresh.reads dues F (action_of G.g p1) s1 within));
      pure = pure_kept G.g G.free G.pure (pure_blocks G) Wr Rd last p1 k.fit k.pure s1 e o m er todo w;
    }
      where
        F : Action → LocalState → Type 0
        F x o1 = Fair G.g.program Wr Rd last x o1.frames

        within : StaysWithin Wr Rd F (action_of G.g p1)
        within = (next_action_from G.g q Wr Rd own_right z.fresh.reads G.free (fuel_of G.g p1.own) last p1.own.frames
            p1.todo
            k.fit).proof p1.who p1.own k.named refl

        fair : Fair G.g.program Wr Rd last e o.frames
        fair = subst (λ (x : WorkOutcome Action × Store). Result F x.0) er
            (result_within Wr Rd F (λ x. x) (action_of G.g p1) s1 within)

        by : (e ≡ Stepped todo) ⊎ (e ≡ Ticked todo) → Fit G.g.program Wr Rd last o.frames todo
        by (inl x) = subst (λ y. Fair G.g.program Wr Rd last y o.frames) x fair
        by (inr x) = subst (λ y. Fair G.g.program Wr Rd last y o.frames) x fair

    -- the end of the turn in the meaning
    abbrev pub result : WorkOutcome source.Stop × Store
    result = run (source.turn G.g dues (enough_turn G.g dues pr) pr.todo) pr.who pr.own s.store

    abbrev pub Outcome_of : WorkOutcome source.Stop × Store → Type 0
    Outcome_of r = Outcome G.g q G.pause since Keeps_it keeps s pr r

    pub outcome : Outcome_of result
    outcome = turns G.g q G.pause since Keeps_it keeps (enough_turn G.g dues pr) s pr (record {
      named = z.named;
      fit = fit;
      stays = λ l. inl refl;
      pure = follows_pure (execution G lf kids q z.fresh pr.who z.named since) G.values lf.end [] lf.below z.pc z.stack
          z.js pr.todo z.follows;
    }) runs

    abbrev pub Kept_of : WorkOutcome source.Stop × Store → Type 0
    Kept_of r = TurnKeeps G.g G.free q Wr Rd own_right z.fresh.reads dues last s.store r

    pub kept : Kept_of result
    kept = turn_keeps G.g G.free q Wr Rd own_right z.fresh.reads dues last (enough_turn G.g dues pr) pr.todo pr.who
        pr.own s.store z.named fit

    -- and in the machine
    abbrev pub Turned_as : WorkOutcome source.Stop × Store → Type 0
    Turned_as r = Turned (execution G lf kids q z.fresh pr.who z.named since) (At z.pc z.stack z.memory) lf.end []
        lf.below r

    pub turned : Turned_as result
    turned = turn_meets (execution G lf kids q z.fresh pr.who z.named since) G.blocks lf.end [] lf.below z.fresh.ends
        refl (enough_turn G.g dues pr) pr.todo z.pc z.stack z.js pr.own s.store z.memory z.stand z.follows

    at_end : (r : WorkOutcome source.Stop × Store) → Over_now G.g dues r → Turned_as r → AtEnd r
    at_end (Computed (source.Paused todo) o, m) e t = tt
    at_end (Computed (source.Stops (Stepped todo)) o, m) e t = e
    at_end (Computed (source.Stops (Ticked todo)) o, m) e t = e
    at_end (Computed (source.Stops (Opened todo)) o, m) e t = tt
    at_end (Computed (source.Stops (Forked bs todo)) o, m) e t = tt
    at_end (Computed (source.Stops (Offered c k x todo)) o, m) e t = tt
    at_end (Computed (source.Stops Ended) o, m) e t = tt
    at_end (EndsInFault f, m) e t = tt
    at_end (IllFormed, m) e t = absurd t
    at_end (OutOfFuel, m) e t = e

    pub ends : AtEnd result
    ends = at_end result (this_turn_ends G.g dues pr s.store light) turned

    -- so no instruction of it lacks what it needs
    pub safe : IsSafe (ops G) G.code d
    safe = subst (IsSafe (ops G) G.code) (sym z.configuration_is)
        (finishes_safe (ops G) G.code (At z.pc z.stack z.memory)
        (turn_finishes (execution G lf kids q z.fresh pr.who z.named since) (At z.pc z.stack z.memory) lf.end []
        lf.below result turned ends))

    fits_now : frames_fit (ops G) G.code (At z.pc z.stack z.memory) ≡ true
    fits_now = (law G lf kids q z.fresh pr.who z.named since).fits z.stand

    -- a run of its instructions is a turn
    pub is_turn : (t : Machine_turn (Memory Plain)) → Runs (ops G) G.code (At z.pc z.stack z.memory) t
        → IsTurn (ops G) G.code d t
    is_turn t r = subst (λ c. IsTurn (ops G) G.code c t) (sym z.configuration_is)
        (subst (λ b. BeginsOrFaults b (At z.pc z.stack z.memory) t (Runs (ops G) G.code (At z.pc z.stack z.memory) t))
        (sym fits_now) r)
