-- The first turn of a run of the code of a tree is that of the meaning.
use Rattle.std.proofs.Common.{◌≡◌, ℕ, ◌≤◌, List, [], ◌∷◌, Some, true, refl, sym, ap, subst, arith, inl}
use Rattle.std.specs.Prelude.{slice_get}
use Rattle.sp_tree.specs.Plain.{Program, Block, Stmt}
use Rattle.sp_tree.specs.Interference.{IsFreeOfInterference}
use Rattle.sp_cell.specs.Map.{Plain}
use Rattle.sp_meaning.specs.LocalWork.{RunInput, Loc, Identity, WorkOutcome, Computed, EndsInFault, IllFormed}
use Rattle.sp_meaning.specs.LocalWork.{OutOfFuel}
use Rattle.sp_meaning.specs.Actions.{Stepped, Ticked, Opened, Forked, Offered, push, size_of_frame}
use Rattle.sp_meaning.specs.Actions as actions
use Rattle.sp_meaning.specs.Run.{Store, run}
use Rattle.sp_meaning.specs.SuperPascal.{root, first_store}
use Rattle.sp_meaning.specs.Turn as source
use Rattle.sp_code.specs.declared.code.Layout.{Layout}
use Rattle.sp_code.specs.declared.code.Parts.{Parts as Code}
use Rattle.sp_code.specs.Machine.{Config, At, Pauses, Opens, Ends as Ended, layout_of}
use Rattle.sp_code.specs.Turns.{Turn, Stopped, Faulted, IsTurn, BeginsOrFaults, Runs, frames_fit}
use Rattle.sp_code.specs.Memory.{Memory, memory, first_process, first_memory, entry_of}
use Rattle.sp_code.specs.PlainStore.{plain}
use Rattle.sp_code.specs.Places.{after_statement}
use Rattle.sp_code.specs.Scopes.{scopes_of}
use Rattle.sp_code.specs.TreeCode.{program_code}
use Rattle.sp_code.specs.CodeOfTree.{BlockAt, BlocksAt, IsSoundBlock}
use Rattle.sp_code.specs.NeverStops.{NeverStops}
use Rattle.sp_code.proofs.Blocks.{blocks_stand, layout_found}
use Rattle.sp_tree.specs.TreeShape.{IsFormed}
use Rattle.sp_code.specs.Sizes.{HasSmallTypes}
use Rattle.sp_codegen.specs.FramePairs.{FramePair}
use Rattle.sp_codegen.specs.Executions.{Execution}
use Rattle.sp_codegen.specs.Relation.{KeepsRelation}
use Rattle.sp_codegen.specs.MemoryRelation.{relation}
use Rattle.sp_codegen.specs.TurnAgrees.{code_run, due_after, EndsAlike}
use Rattle.sp_codegen.proofs.Returns.{Laid}
use Rattle.sp_codegen.proofs.Instance.{instance}
use Rattle.sp_codegen.proofs.Follows.{push_follows, slides}
use Rattle.sp_codegen.proofs.Turn.{Turned, turn_meets}
use Rattle.sp_codegen.proofs.Root.{NoChannel, IsFirst, NoIndexes, W, who, j0, root_stands, root_placed}

pub laid_of : (p : Program) (code : Code) (moves shares : Stmt → List ℕ) (callable : ℕ → Type 0)
    → BlocksAt p moves shares code callable → ((f : ℕ) (l : Layout) → slice_get code.layouts f ≡ Some l
    → layout_of code.layouts f ≡ Some l) → Laid p code.layouts
laid_of p code moves shares callable blocks finds f b e = let z = blocks f b e in
    (z.layout, finds f z.layout z.layout_at, z.layout_is)

module _ (g : RunInput) (code : Code) (formed : IsFormed g.program) (types : HasSmallTypes g.program) (b : Block)
    (eb : slice_get g.program.blocks 0 ≡ Some b) (pause : ℕ) (moves shares : Stmt → List ℕ) (callable : ℕ → Type 0)
    (free : IsFreeOfInterference g.program)
    (finds : (f : ℕ) (l : Layout) → slice_get code.layouts f ≡ Some l → layout_of code.layouts f ≡ Some l)
    (blocks : BlocksAt g.program moves shares code callable) (small : g.limits.depth ≤ 4294967295)
    (fits : size_of_frame g 0 ≤ g.limits.cells) where
  abbrev p : Program
  p = g.program

  pub laid : Laid p code.layouts
  laid = laid_of p code moves shares callable blocks finds

  abbrev w : Identity
  w = who g code formed laid b eb pause NoChannel IsFirst (refl, refl)

  abbrev V : Loc → Type 0
  V l = W g code formed laid b eb pause NoChannel IsFirst (refl, refl) l

  law : KeepsRelation g w (due_after 0 pause) V V NoIndexes (memory plain (code_run g code pause))
      (relation g code w NoChannel IsFirst V V NoIndexes 1 1 0 0 pause [])
  law = instance g code w NoChannel IsFirst V V NoIndexes 1 1 0 0 pause [] formed types laid (omega arith)
      (λ n x. inl refl) (omega (arith, small)) (λ c d i j h k. absurd h)

  abbrev execution : Execution (Memory Plain)
  execution = record {
    run_input = g;
    code = code;
    moves = moves;
    shares = shares;
    IsCallableInFunctions = callable;
    who = w;
    due = due_after 0 pause;
    Writes = V;
    IsReadable = V;
    Indexes = NoIndexes;
    operations = memory plain (code_run g code pause);
    relation = relation g code w NoChannel IsFirst V V NoIndexes 1 1 0 0 pause [];
    laws = law;
    reads_written = λ l h. h;
    free = free;
    own_written = λ n x. inl refl;
    uses_formed = formed.uses;
    layouts_found = finds;
  }

  layout : BlockAt p moves shares code callable 0 b
  layout = blocks 0 b eb

  abbrev js : List FramePair
  js = j0 g code formed laid b eb pause NoChannel IsFirst (refl, refl) ∷ []

  -- a turn that begins and runs so
  turn_by : (c : Config (Memory Plain)) (t : Turn (Memory Plain))
      → frames_fit (memory plain (code_run g code pause)) code c ≡ true
      → Runs (memory plain (code_run g code pause)) code c t → IsTurn (memory plain (code_run g code pause)) code c t
  turn_by c t e r = subst (λ z. BeginsOrFaults z c t (Runs (memory plain (code_run g code pause)) code c t)) (sym e) r

  entry_is : entry_of plain (code_run g code pause) (layout_of code.layouts 0) ≡ layout.layout.entry
  entry_is = ap (λ z. entry_of plain (code_run g code pause) z) (finds 0 layout.layout layout.layout_at)

  abbrev n0 : Memory Plain
  n0 = first_memory plain (code_run g code pause) (layout_of code.layouts 0)

  abbrev end : ℕ
  end = after_statement p layout.layout.entry b.body

  turned : (k : ℕ) → Turned execution (At layout.layout.entry [] n0) end [] js
      (run (source.turn g (due_after 0 pause) k (push b.body [])) w (root g).own (first_store g))
  turned k = turn_meets execution
      blocks end [] js layout.stands.end refl k (push b.body []) layout.layout.entry [] js (root g).own (first_store g)
      n0 (root_stands g code formed laid b eb pause NoChannel IsFirst (refl, refl) fits)
      (push_follows execution
      b.body end [] js (scopes_of p 0) layout.layout.entry [] js []
      (root_placed g code formed laid b eb pause NoChannel IsFirst (refl, refl) free) (layout.stands.body true tt)
      (slides execution end [], refl, refl))

  fits_first : (memory plain (code_run g code pause)).fits n0 ≡ true
  fits_first = law.fits (root_stands g code formed laid b eb pause NoChannel IsFirst (refl, refl) fits)

  by_outcome : (r : WorkOutcome source.Stop × Store) → Turned execution (At layout.layout.entry [] n0) end [] js r
      → EndsAlike (code_run g code pause) (At layout.layout.entry [] n0) r
  by_outcome (Computed (source.Paused todo) o, s) (last, comes, k) = (
    At k.pc k.stack k.memory,
    turn_by (At layout.layout.entry [] n0) (Stopped Pauses (At k.pc k.stack k.memory)) fits_first
        (last, comes, k.stops),
  )
  by_outcome (Computed (source.Stops (Stepped todo)) o, s) q = tt
  by_outcome (Computed (source.Stops (Ticked todo)) o, s) q = tt
  by_outcome (Computed (source.Stops (Opened todo)) o, s) (last, comes, k) = (
    k.target,
    At k.pc k.stack k.memory,
    turn_by (At layout.layout.entry [] n0) (Stopped (Opens k.target) (At k.pc k.stack k.memory)) fits_first
        (last, comes, k.stops),
  )
  by_outcome (Computed (source.Stops (Forked bs todo)) o, s) (last, comes, k) = (
    k.stop,
    At k.pc k.stack k.memory,
    turn_by (At layout.layout.entry [] n0) (Stopped k.stop (At k.pc k.stack k.memory)) fits_first
        (last, comes, k.stops),
  )
  by_outcome (Computed (source.Stops (Offered c x payload todo)) o, s) (last, comes, k) = (
    k.stop,
    At k.pc k.stack k.memory,
    turn_by (At layout.layout.entry [] n0) (Stopped k.stop (At k.pc k.stack k.memory)) fits_first
        (last, comes, k.stops),
  )
  by_outcome (Computed (source.Stops actions.Ended) o, s) (At pc st n, comes, k) = (
    At pc st n,
    turn_by (At layout.layout.entry [] n0) (Stopped Ended (At pc st n)) fits_first (At pc st n, comes, k.stops),
  )
  by_outcome (EndsInFault f, s) q = (
    q.configuration,
    turn_by (At layout.layout.entry [] n0) (Faulted f q.configuration) fits_first
        (q.configuration, q.comes, (q.fails, refl)),
  )
  by_outcome (IllFormed, s) q = q
  by_outcome (OutOfFuel, s) q = tt

  pub first_turn : (k : ℕ) → EndsAlike (code_run g code pause) (first_process plain (code_run g code pause))
      (run (source.turn g (due_after 0 pause) k (push b.body [])) w (root g).own (first_store g))
  first_turn k = subst (λ z. EndsAlike (code_run g code pause) (At z [] n0)
      (run (source.turn g (due_after 0 pause) k (push b.body [])) w (root g).own (first_store g))) (sym entry_is)
      (by_outcome (run (source.turn g (due_after 0 pause) k (push b.body [])) w (root g).own (first_store g))
      (turned k))

-- for the code of every tree whose blocks keep the rules
pub first_turn_of_tree : (g : RunInput) (moves shares : Stmt → List ℕ) (pause k : ℕ) (b : Block) → IsFormed g.program
    → HasSmallTypes g.program → IsFreeOfInterference g.program
    → ((f q : ℕ) (b : Block) → slice_get g.program.blocks f ≡ Some b
    → IsSoundBlock g.program moves shares (NeverStops g.program) f q b)
    → slice_get g.program.blocks 0 ≡ Some b → g.limits.depth ≤ 4294967295 → size_of_frame g 0 ≤ g.limits.cells
    → EndsAlike (code_run g (program_code g.program moves shares) pause)
    (first_process plain (code_run g (program_code g.program moves shares) pause))
    (run (source.turn g (due_after 0 pause) k (push b.body [])) (record { name = []; forks = 0; opens = 0 })
    (root g).own (first_store g))
first_turn_of_tree g moves shares pause k b formed types free fine eb small fits =
    first_turn g (program_code g.program moves shares) formed types b eb pause moves shares (NeverStops g.program) free
    (λ f l e. layout_found g.program f l e) (blocks_stand g.program moves shares (NeverStops g.program) fine) small
    fits k
