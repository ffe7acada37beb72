-- A process after its entry stands as before, with its ticks at that entry in place of those at the last one, and with
-- one more fork or open: its memory, the code of what it has left to do, and its offer.
use Rattle.std.proofs.Common.{◌≡◌, ◌⊎◌, inl, ℕ, ◌+◌, List, [], ◌∷◌, length, Some, sym, subst}
use Rattle.std.specs.Prelude.{Bool, slice_get}
use Rattle.sp_tree.specs.TreeShape.{IsFormedUse}
use Rattle.sp_tree.specs.Plain.{Block, Stmt, Repeat}
use Rattle.sp_tree.specs.Uses.{Use, In_stmt}
use Rattle.sp_tree.specs.Interference.{IsFreeOfInterference}
use Rattle.sp_cell.specs.Map.{Plain}
use Rattle.sp_meaning.specs.Model.{Name, Channel, Payload, Message, Takes}
use Rattle.sp_meaning.specs.LocalWork.{RunInput, Loc, Cell, LocationContent, Tree, Position, Written, Address}
use Rattle.sp_meaning.specs.LocalWork.{LocalState, Identity, Item, Do, First}
use Rattle.sp_meaning.specs.LocalWork.{Again, Test, Leave, Break}
use Rattle.sp_meaning.specs.Run.{Store}
use Rattle.sp_meaning.proofs.Rights.{OwnLocation}
use Rattle.sp_code.specs.declared.code.Parts.{Parts as Code}
use Rattle.sp_code.specs.declared.code.Layout.{Layout}
use Rattle.sp_code.specs.Machine.{Entry, Stop, Ops, layout_of}
use Rattle.sp_code.specs.Places.{after_statement}
use Rattle.sp_code.specs.Memory.{Memory}
use Rattle.sp_codegen.specs.FramePairs.{FramePair}
use Rattle.sp_codegen.specs.TurnAgrees.{due_after}
use Rattle.sp_codegen.specs.Relation.{Relation, KeepsRelation}
use Rattle.sp_codegen.specs.MemoryRelation.{OwnersWithin}
use Rattle.sp_codegen.specs.Executions.{Execution}
use Rattle.sp_codegen.specs.CodePositions.{Slides, CodeFollows}
use Rattle.sp_link.proofs.Relation.{RunContext, BirthRights, Called, Fresh, Fo, Ca, St, Rel, law, ops}

-- the code of what is left goes by the frames that a process made, and by nothing else of what it is
module _ {M : Type 0} (g : RunInput) (code : Code) (moves shares : Stmt → List ℕ) (callable : ℕ → Type 0)
    (W R : Loc → Type 0) (J : ℕ → Type 0) (ops : Ops M) (free : IsFreeOfInterference g.program)
    (finds : (f : ℕ) (l : Layout) → slice_get code.layouts f ≡ Some l → layout_of code.layouts f ≡ Some l)
    (formed : (f : ℕ) (b : Block) → slice_get g.program.blocks f ≡ Some b → (u : Use) → In_stmt b.body u
    → IsFormedUse g.program u) (reads reads1 : (l : Loc) → W l → R l)
    (w : Identity) (due : LocalState → Bool) (rel : Relation M) (law : KeepsRelation g w due W R J ops rel)
    (own : (n x : ℕ) → W (Cell w.name n x))
    (w1 : Identity) (due1 : LocalState → Bool) (rel1 : Relation M) (law1 : KeepsRelation g w1 due1 W R J ops rel1)
    (own1 : (n x : ℕ) → W (Cell w1.name n x))
    (mine : (j : FramePair) (js : List FramePair) → rel.Mine j js → rel1.Mine j js) where
  abbrev before : Execution M
  before = record {
    run_input = g;
    code = code;
    moves = moves;
    shares = shares;
    IsCallableInFunctions = callable;
    who = w;
    due = due;
    Writes = W;
    IsReadable = R;
    Indexes = J;
    operations = ops;
    relation = rel;
    laws = law;
    reads_written = reads;
    free = free;
    own_written = own;
    uses_formed = formed;
    layouts_found = finds;
  }

  abbrev now : Execution M
  now = record {
    run_input = g;
    code = code;
    moves = moves;
    shares = shares;
    IsCallableInFunctions = callable;
    who = w1;
    due = due1;
    Writes = W;
    IsReadable = R;
    Indexes = J;
    operations = ops;
    relation = rel1;
    laws = law1;
    reads_written = reads1;
    free = free;
    own_written = own1;
    uses_formed = formed;
    layouts_found = finds;
  }

  slides_again : {pc to : ℕ} {stack : List Entry} → Slides before pc to stack → Slides now pc to stack
  slides_again h = record { proof = h.proof }

  pub again : (end : ℕ) (base : List Entry) (below : List FramePair) (pc : ℕ) (stack : List Entry) (js : List FramePair)
      (todo : List Item) → CodeFollows before end base below pc stack js todo
      → CodeFollows now end base below pc stack js todo
  again end base below pc stack js [] (slides, empty, frames) = (slides_again slides, empty, frames)
  again end base below pc stack js (Do s ∷ todo) (q, slides, k) = (
    q,
    slides_again slides,
    record {
      scopes = k.scopes;
      placed = k.placed;
      stands = k.stands;
      rest = again end base below (after_statement g.program q s) stack js todo k.rest;
    },
  )
  again end base below pc stack js (First x lo hi d s ∷ todo) (q, slides, k, in_range) = (
    q,
    slides_again slides,
    record {
      scopes = k.scopes;
      under = k.under;
      stack_is = k.stack_is;
      placed = k.placed;
      turns = k.turns;
      rest = again end base below (after_statement g.program (q + 1 + 1) s + 1) k.under js todo k.rest;
    },
    in_range,
  )
  again end base below pc stack js (Again x hi d s ∷ todo) (q, slides, k) = (
    q,
    slides_again slides,
    record {
      scopes = k.scopes;
      under = k.under;
      stack_is = k.stack_is;
      placed = k.placed;
      turns = k.turns;
      rest = again end base below (after_statement g.program (q + 1 + 1) s + 1) k.under js todo k.rest;
    },
  )
  again end base below pc stack js (Test s e ∷ todo) (q, slides, k) = (
    q,
    slides_again slides,
    record {
      scopes = k.scopes;
      placed = k.placed;
      stands = k.stands;
      rest = again end base below (after_statement g.program q (Repeat s e)) stack js todo k.rest;
    },
  )
  again end base below pc stack js (Leave ∷ todo) (q, slides, k) = (
    q,
    slides_again slides,
    record {
      back = k.back;
      under = k.under;
      frame = k.frame;
      outer = k.outer;
      stack_is = k.stack_is;
      returns = k.returns;
      frames_are = k.frames_are;
      rest = again end base below k.back k.under k.outer todo k.rest;
      mine = mine k.frame k.outer k.mine;
    },
  )
  again end base below pc stack js (Break x ∷ todo) h = h

module _ (G : RunContext) (lf : BirthRights) (kids : ℕ → ℕ → BirthRights) (q : Name) where
  -- its ticks since then
  pub stand_again : {w w1 : Identity} {since since1 : ℕ} {js : List FramePair} {o : LocalState} {s : Store}
      {n : Memory Plain}
      → w1.name ≡ w.name → since1 ≡ n.ticks → St G lf kids q w since js o s n
      → St G lf kids q w1 since1 js o s (record n { since = n.ticks })
  stand_again {js = js} {n = n} e f t = record {
    frames = record {
      sources_are = t.frames.sources_are;
      machines_are = t.frames.machines_are;
      paired = t.frames.paired;
      process = subst (λ z. Called G z n.process) (sym e) t.frames.process;
      owners = subst (λ z. OwnersWithin (length z) js) (sym e) t.frames.owners;
      depth = t.frames.depth;
      cells = t.frames.cells;
      fits = t.frames.fits;
      shallow = t.frames.shallow;
      own_frames = t.frames.own_frames;
      above_base = t.frames.above_base;
      deep = t.frames.deep;
      counts = t.frames.counts;
      apart = t.frames.apart;
      root = t.frames.root;
      bottom = t.frames.bottom;
    };
    ticks = t.ticks;
    since_is = sym f;
    moved_is = t.moved_is;
    known = t.known;
    unaway = t.unaway;
    held = λ r h x l m. (let z = t.held r h x l m in
        record { tree = z.tree; tree_is = z.tree_is; cells = z.cells; piece = z.piece; flat = z.flat });
    indexes = t.indexes;
    position = t.position;
    output = t.output;
  }

  module _ (f f1 : Fresh G lf kids q) (w w1 : Identity) (n : w.name ≡ q) (n1 : w1.name ≡ q) (a b : ℕ) where
    -- the code of what is left
    pub follows_again : (pc : ℕ) (stack : List Entry) (js : List FramePair) (todo : List Item)
        → Fo G lf kids q f w n a pc stack js todo → Fo G lf kids q f1 w1 n1 b pc stack js todo
    follows_again pc stack js todo h = again G.g G.code G.moves G.shares G.callable (λ l. OwnLocation q l ⊎ lf.W l)
        (λ l. OwnLocation q l ⊎ lf.R l) lf.J (ops G) G.free G.finds G.formed.uses f.reads f1.reads w
        (due_after a G.pause)
        (Rel G lf kids q w a) (law G lf kids q f w n a) (λ h x. inl n)
        w1 (due_after b G.pause) (Rel G lf kids q w1 b) (law G lf kids q f1 w1 n1 b) (λ h x. inl n1) (λ j js m. m)
        lf.end [] lf.below pc stack js todo h

    -- the offer of one that waits
    pub payload_again : (js : List FramePair) (c : Channel) (k : ℕ) (x : Payload LocationContent Address) (z : Stop)
        → Ca G lf kids q f w n a js c k x z → Ca G lf kids q f1 w1 n1 b js c k x z
    payload_again js c k (Message (Tree v)) z h = h
    payload_again js c k (Message (Position m)) z h = h
    payload_again js c k (Message (Written bs)) z h = h
    payload_again js c k (Takes t) z h = h
