-- The laws of a process of a run: all operations keep that it stands, and its turns end as those of the meaning do.
use Rattle.std.proofs.Common.{◌≡◌, inl, inr, ℕ, suc, ◌+◌, ◌≤◌, ◌<◌, List, Some, refl, arith}
use Rattle.std.specs.Prelude.{slice_get}
use Rattle.sp_cell.specs.Map.{Plain}
use Rattle.sp_tree.specs.Plain.{Stmt}
use Rattle.sp_meaning.specs.Model.{Name}
use Rattle.sp_meaning.specs.LocalWork.{RunInput, Loc, Cell, LocalState, Item, WorkOutcome, Computed, EndsInFault}
use Rattle.sp_meaning.specs.LocalWork.{IllFormed, OutOfFuel}
use Rattle.sp_meaning.specs.Actions.{Stepped, Ticked, Opened, Forked, Offered}
use Rattle.sp_meaning.specs.Actions as actions
use Rattle.sp_meaning.specs.Run.{Store, run}
use Rattle.sp_meaning.specs.SuperPascal.{weight_of}
use Rattle.sp_meaning.specs.Turn as source
use Rattle.sp_meaning.proofs.EnoughSteps.{budget}
use Rattle.sp_meaning.proofs.Weights.{AreLight, weights}
use Rattle.sp_code.specs.declared.code.Layout.{Layout}
use Rattle.sp_code.specs.Machine.{Entry, At, layout_of}
use Rattle.sp_code.specs.Turns.{IsSafe}
use Rattle.sp_code.specs.Memory.{Memory}
use Rattle.sp_code.specs.NeverStops.{NeverStops}
use Rattle.sp_code.specs.CodeOfTree.{BlocksAt}
use Rattle.sp_code.proofs.Blocks.{blocks_stand, layout_found}
use Rattle.sp_codegen.specs.CodePositions.{Turned}
use Rattle.sp_codegen.specs.FramePairs.{FramePair}
use Rattle.sp_codegen.specs.ProcessInfos.{IsCompilable, Inheritance, Consoles, Handed, writes_by, reads_by, ProcessInfo}
use Rattle.sp_codegen.specs.ProcessInfos.{IsProcessInfo, code_of}
use Rattle.sp_codegen.specs.ProcessInfos.{IsWritableLoc, IsReadable, due_of, operations_of, Laws, execution_of, IsAt}
use Rattle.sp_codegen.specs.TurnAgrees.{AtEnd}
use Rattle.sp_codegen.proofs.FirstTurn.{laid_of}
use Rattle.sp_codegen.proofs.Instance.{instance}
use Rattle.sp_codegen.proofs.Safe.{turn_finishes, finishes_safe}
use Rattle.sp_codegen.proofs.Turn.{turn_meets}
use Rattle.sp_codegen.proofs.TurnsEnd.{Ended, turn_ends}

module _ (g : RunInput) (moves shares : Stmt → List ℕ) (pause : ℕ) (life : ProcessInfo)
    (tree : IsCompilable g.program moves shares) where
  blocks : BlocksAt g.program moves shares (code_of g moves shares pause life) (NeverStops g.program)
  blocks = blocks_stand g.program moves shares (NeverStops g.program) tree.fine

  found : (f : ℕ) (l : Layout) → slice_get (code_of g moves shares pause life).layouts f ≡ Some l
      → layout_of (code_of g moves shares pause life).layouts f ≡ Some l
  found f l e = layout_found g.program f l e

  own_by : (q : Name) (x : Inheritance) (n k : ℕ) → writes_by g.program q x (Cell q n k)
  own_by q Consoles n k = inl refl
  own_by q (Handed older sc js st) n k = inl refl

  pub reads_all : (q : Name) (x : Inheritance) (l : Loc) → writes_by g.program q x l → reads_by g.program q x l
  reads_all q Consoles l w = w
  reads_all q (Handed older sc js st) l (inl m) = inl m
  reads_all q (Handed older sc js st) l (inr a) = inr (a.0, inl a.1, a.2)

  pub operations_keep : IsProcessInfo life → g.limits.depth ≤ 4294967295 → Laws g moves shares pause life
  operations_keep h small = record {
    keeps = instance g (code_of g moves shares pause life) life.who (λ c j. slice_get life.channels j ≡ Some c)
        (λ q i. slice_get life.processes i ≡ Some q) (λ l. IsWritableLoc g moves shares pause life l)
        (λ l. IsReadable g moves shares pause life l)
        (λ k. Rattle.sp_codegen.specs.ProcessInfos.Indexes g moves shares pause life k) life.low life.base life.born
        life.since
        pause life.moved tree.formed tree.small
        (laid_of g.program (code_of g moves shares pause life) moves shares (NeverStops g.program) blocks found)
        h.based
        (λ n x. reads_all life.who.name life.given (Cell life.who.name n x) (own_by life.who.name life.given n x))
        (let a = h.low in omega (arith, a, small)) h.channels;
    free = tree.free;
    reads_written = λ l w. reads_all life.who.name life.given l w;
    own_written = λ n x. own_by life.who.name life.given n x;
    uses_formed = tree.formed.uses;
    layouts_found = found;
  }

  module _ (h : Laws g moves shares pause life) (end : ℕ) (base : List Entry) (below js : List FramePair)
      (todo : List Item)
      (pc : ℕ) (stack : List Entry) (o : LocalState) (s : Store) (n : Memory Plain)
      (it : IsAt g moves shares pause life h end base below js todo pc stack o s n) where
    -- k steps at most
    abbrev result : ℕ → WorkOutcome source.Stop × Store
    result k = run (source.turn g (due_of g moves shares pause life) k todo) life.who o s

    pub turn_alike : (k : ℕ) → Turned (execution_of g moves shares pause life h) (At pc stack n) end base below
        (result k)
    turn_alike k = turn_meets (execution_of g moves shares pause life h) blocks end base below it.ends it.outer k todo
        pc stack js o s n it.stands it.follows

    at_end : (r : WorkOutcome source.Stop × Store) → Ended g (due_of g moves shares pause life) r
        → Turned (execution_of g moves shares pause life h) (At pc stack n) end base below r → AtEnd r
    at_end (Computed (source.Paused todo) o, m) e t = tt
    at_end (Computed (source.Stops (Stepped todo)) o, m) e t = e
    at_end (Computed (source.Stops (Ticked todo)) o, m) e t = e
    at_end (Computed (source.Stops (Opened todo)) o, m) e t = tt
    at_end (Computed (source.Stops (Forked bs todo)) o, m) e t = tt
    at_end (Computed (source.Stops (Offered c k x todo)) o, m) e t = tt
    at_end (Computed (source.Stops actions.Ended) o, m) e t = tt
    at_end (EndsInFault f, m) e t = tt
    at_end (IllFormed, m) e t = absurd t
    at_end (OutOfFuel, m) e t = e

    -- a turn has an end
    pub turn_over : AreLight (weight_of g.program) todo → (b : ℕ) × ((k : ℕ) → b < k → AtEnd (result k))
    turn_over light = (
      budget g (weight_of g.program) o.ticks + weights todo,
      λ k lt. at_end (result k) (turn_ends g (due_of g moves shares pause life) k todo life.who o s light lt)
          (turn_alike k),
    )

    pub turn_safe : AreLight (weight_of g.program) todo
        → IsSafe (operations_of g moves shares pause life) (code_of g moves shares pause life) (At pc stack n)
    turn_safe light =
        let over = turn_over light in
        let k = suc over.0 in
        finishes_safe (operations_of g moves shares pause life) (code_of g moves shares pause life) (At pc stack n)
        (turn_finishes (execution_of g moves shares pause life h) (At pc stack n) end base below (result k)
        (turn_alike k) (over.1 k (omega arith)))
