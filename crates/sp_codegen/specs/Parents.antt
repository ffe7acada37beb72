-- None of this belongs to what the program promises: it is for contracts between crates.
-- A fork: what a child of it begins with in the code, and how its parent stands while it joins: but for what moved
-- away. The laws of forks and joins promise it.
use Rattle.std.specs.Prelude.{◌≡◌, ◌⊎◌, ℕ, suc, ℤ, pos, List, [], ◌∷◌, Some, None, IsSome, Bool, slice_get}
use Rattle.std.specs.FinMap as fin
use Rattle.sp_tree.specs.Plain.{Program, Stmt, Stmts}
use Rattle.sp_tree.specs.Uses.{Use, In_stmt, In_stmts}
use Rattle.sp_cell.specs.declared.cell.Cell.TheVariants as cell
use Rattle.sp_cell.specs.declared.spot.Handing.{Handing}
use Rattle.sp_cell.specs.declared.spot.Spot.{Spot}
use Rattle.sp_cell.specs.Map.{Map, Plain, Output as Bytes, Away, output_spot, with_map}
use Rattle.sp_cell.specs.Fork.{moved_of, shared_of}
use Rattle.sp_cell.specs.Spots.{In, NotIn}
use Rattle.sp_meaning.specs.Actions.{Birth, push}
use Rattle.sp_meaning.specs.Model.{Name, Channel}
use Rattle.sp_meaning.specs.LocalWork.{RunInput, Loc, Cell, Input, Output, Position, Written, OfIndex, LocalState}
use Rattle.sp_meaning.specs.LocalWork.{Identity}
use Rattle.sp_meaning.specs.Run.{Store}
use Rattle.sp_code.specs.declared.code.Parts.{Parts as Code}
use Rattle.sp_code.specs.declared.instr.Instr.TheVariants as i
use Rattle.sp_code.specs.TreeCode.{children_tables, child_table}
use Rattle.sp_code.specs.Memory.{Memory, position_at}
use Rattle.sp_code.specs.Places.{after_statement}
use Rattle.sp_code.specs.PlainStore.{piece_of}
use Rattle.sp_code.specs.Scopes.{Scope, slot}
use Rattle.sp_code.specs.CodeOfTree.{CodeAt, HasFork, HasWords, StatementAt}
use Rattle.sp_codegen.specs.FramePairs.{FramePair, pairs_from}
use Rattle.sp_codegen.specs.ProcessInfos.{ProcessInfo, code_of, Named, Called, IsWritableLoc, IsReadable, Indexes}
use Rattle.sp_codegen.specs.MemoryRelation.{spot_at, Live, HeldAt, Agrees}

module _ (p : Program) (moves shares : Stmt → List ℕ) (code : Code) (callable : ℕ → Type 0) (free : Bool)
    (sc : List Scope) where
  -- child k of a parallel statement
  pub record ChildIs (ss : Stmts) (q k : ℕ) (b : Birth) : Type 0 where
    pub statement : Stmt
    pub entry : ℕ
    pub table : slice_get (children_tables p moves shares q ss) k
        ≡ Some (child_table p moves shares entry None statement)
    pub birth : b ≡ record { todo = push statement []; index = None }
    pub body : StatementAt p moves shares (CodeAt code) (HasFork code) (HasWords code) callable free sc entry statement
    pub end : slice_get code.instrs (after_statement p entry statement) ≡ Some i.End
    pub inside : (u : Use) → In_stmt statement u → In_stmts ss u

-- the index of a forall, the input's position and the output, in a map
abbrev pub Fixed : Map → Spot → ℤ → Type 0
Fixed mp q v = piece_of (fin.get mp q) ≡ Some (cell.Ordinal v ∷ [])

abbrev pub PositionIs : Store → Map → Type 0
PositionIs s mp = (k : ℕ) × (s Input ≡ Position k)
    × (piece_of (fin.get mp position_at.spot) ≡ Some (cell.Ordinal (pos k) ∷ []))

abbrev pub OutputIs : Store → Map → Type 0
OutputIs s mp = (bs : List ℕ) × (s Output ≡ Written bs) × (fin.get mp output_spot ≡ Some (Bytes bs))

module _ (g : RunInput) (code : Code) (w : Identity) (Names : Channel → ℕ → Type 0) (Calls : Name → ℕ → Type 0)
    (W R : Loc → Type 0) (J : ℕ → Type 0) (low base born since pause : ℕ) (moved : List Spot) where
  -- n: the memory at the fork; mp: its map now; A: the spots that moved to children that are not joined yet
  pub record Joining (A : Spot → Type 0) (js : List FramePair) (o : LocalState) (s : Store) (n : Memory Plain)
      (mp : Map) : Type
      0 where
    pub store : Store
    pub before : Agrees g code w Names Calls W R J low base born since pause moved js o store n
    pub known : (q : Spot) → IsSome (fin.get mp q) → IsSome (fin.get n.store.map q)
    pub unaway : (q : Spot) → fin.get mp q ≡ Some Away → A q
    pub held : (q : Name) (h x : ℕ) → (l : Live g.program js q h x) → R (Cell q h x)
        → A (spot_at l.joint.machine.number (slot g.program x))
        ⊎ HeldAt g.program Names s mp (Cell q h x)
        (spot_at l.joint.machine.number (slot g.program x)) l.info.kind
    pub indexes : (h : ℕ) → J h → (j : FramePair) (rest : List FramePair) (x : ℕ) (v : ℤ)
        → pairs_from (suc h) js ≡ j ∷ rest
        → j.source.home ≡ OfIndex x v → A (spot_at j.machine.number 0) ⊎ Fixed mp (spot_at j.machine.number 0) v
    pub position : R Input → A position_at.spot ⊎ PositionIs s mp
    pub output : R Output → A output_spot ⊎ OutputIs s mp

-- the memory with another map
abbrev pub with_pieces : Memory Plain → Map → Memory Plain
with_pieces n mp = record n { store = with_map n.store mp }

-- the parent has all that it hands over
abbrev pub HasAllHanded : Memory Plain → List Handing → Type 0
HasAllHanded n hs = (q : Spot) → In q (moved_of hs) ⊎ In q (shared_of hs) → IsSome (fin.get n.store.map q)

-- who waits for children stands but for the spots that are away
abbrev pub JoiningStands : (g : RunInput) (moves shares : Stmt → List ℕ) (pause : ℕ) (life : ProcessInfo)
    → (Spot → Type 0) → List FramePair
    → LocalState → Store → Memory Plain → Map → Type 0
JoiningStands g moves shares pause life away js o s n mp =
    Joining g (code_of g moves shares pause life) life.who (λ c j. Named g moves shares pause life c j)
    (λ q k. Called g moves shares pause life q k) (λ l. IsWritableLoc g moves shares pause life l)
    (λ l. IsReadable g moves shares pause life l) (λ h. Indexes g moves shares pause life h) life.low life.base
    life.born life.since pause life.moved away js o s n mp

module _ (g : RunInput) (moves shares : Stmt → List ℕ) (pause : ℕ) (life : ProcessInfo) where
  -- what moved to the child may be read by it and is still known to it, and was its parent's at the fork
  pub record GivesBack (child : ProcessInfo) (js ks : List FramePair) (n nc : Memory Plain) : Type 0 where
    pub live : (q : Name) (h x : ℕ) → (l : Live g.program js q h x) → IsReadable g moves shares pause life (Cell q h x)
        → In (spot_at l.joint.machine.number (slot g.program x)) nc.store.moved
        → IsReadable g moves shares pause child (Cell q h x)
        × ((k : Live g.program ks q h x) × (k.joint ≡ l.joint) × (k.info ≡ l.info))
    pub no_index : (h : ℕ) → Indexes g moves shares pause life h → (j : FramePair) (rest : List FramePair)
        → (x : ℕ) (v : ℤ)
        → pairs_from (suc h) js ≡ j ∷ rest → j.source.home ≡ OfIndex x v
        → NotIn (spot_at j.machine.number 0) nc.store.moved
    pub input : IsReadable g moves shares pause life Input → In position_at.spot nc.store.moved
        → IsReadable g moves shares pause child Input
    pub output : IsReadable g moves shares pause life Output → In output_spot nc.store.moved
        → IsReadable g moves shares pause child Output
    pub kept : (q : Spot) → In q nc.store.moved → IsSome (fin.get nc.store.map q)
    pub old : (q : Spot) → In q nc.store.moved → IsSome (fin.get n.store.map q)
