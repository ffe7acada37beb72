-- Where more channels are named, each memory stands as before: what an open needs of all processes but the one that
-- opens.
use Rattle.std.proofs.Common.{inl, inr, ⊎_elim, ℕ, List, [], ◌∷◌}
use Rattle.sp_cell.specs.declared.cell.Cell.{Cell as OneCell}
use Rattle.sp_cell.specs.declared.cell.Cell.TheVariants as cell
use Rattle.sp_cell.specs.declared.spot.Spot.{Spot}
use Rattle.sp_cell.specs.Map.{Map, Plain}
use Rattle.sp_tree.specs.Plain.{Program}
use Rattle.sp_meaning.specs.Model.{Name, Channel}
use Rattle.sp_meaning.specs.Values.{Value, Undefined, Ordinal, Chan, Parts}
use Rattle.sp_meaning.specs.LocalWork.{RunInput, Loc, LocalState, Identity}
use Rattle.sp_meaning.specs.Run.{Store}
use Rattle.sp_code.specs.declared.code.Parts.{Parts as Code}
use Rattle.sp_code.specs.Memory.{Memory}
use Rattle.sp_codegen.specs.FramePairs.{FramePair}
use Rattle.sp_codegen.specs.Shapes.{leaves, CellIs, CellsAre, Flat}
use Rattle.sp_codegen.specs.MemoryRelation.{Agrees}
use Rattle.sp_codegen.proofs.Joins.{Joining}
use Rattle.std.proofs.Common.{◌≡◌, ◌⊎◌, zero, suc, ◌+◌, length, if◌then◌else◌, refl, sym, ap, ◌∙◌, arith}
use Rattle.sp_meaning.specs.Model.{Condition, Payload, Message, Takes}
use Rattle.sp_meaning.specs.LocalWork.{LocationContent, Tree, Position, Written, Address, Item, Process}
use Rattle.sp_meaning.specs.Runs.{StateOf}
use Rattle.sp_meaning.specs.Along.{JournalState}
use Rattle.sp_meaning.specs.Steps.{has_ended}
use Rattle.sp_meaning.proofs.Rights.{OwnLocation}
use Rattle.sp_code.specs.Machine.{Entry, Config, Stop, At}
use Rattle.sp_code.specs.Scopes.{Sort, Ordinals, Channels, Many, NoSort, sort}
use Rattle.sp_code.specs.System as sys
use Rattle.sp_codegen.specs.TurnAgrees.{due_after}
use Rattle.sp_codegen.specs.Relation.{StackHolds}
use Rattle.sp_link.proofs.AfterEntry.{again}
use Rattle.sp_link.proofs.Relation.{RunContext, BirthRights, Called, Named, Fresh, ProcessMatches, Joined, Handed}
use Rattle.sp_link.proofs.Relation.{Performs, Fo, Ca, Rel, OutputMatches, TooLarge}
use Rattle.sp_link.proofs.Relation.{law, left_of, at_open, ops}

module _ (Named Named1 : Channel → ℕ → Type 0) (more : (c : Channel) (j : ℕ) → Named c j → Named1 c j) where
  cell_more : (v : Value) (c : OneCell) → CellIs Named v c → CellIs Named1 v c
  cell_more Undefined cell.Undefined h = h
  cell_more Undefined (cell.Ordinal n) h = h
  cell_more Undefined (cell.Channel c) h = h
  cell_more (Ordinal v) cell.Undefined h = h
  cell_more (Ordinal v) (cell.Ordinal n) h = h
  cell_more (Ordinal v) (cell.Channel c) h = h
  cell_more (Chan d) cell.Undefined h = h
  cell_more (Chan d) (cell.Ordinal n) h = h
  cell_more (Chan d) (cell.Channel c) h = more d c h
  cell_more (Parts vs) c h = h

  cells_more : (vs : List Value) (cs : List OneCell) → CellsAre Named vs cs → CellsAre Named1 vs cs
  cells_more [] [] h = h
  cells_more [] (c ∷ cs) h = h
  cells_more (v ∷ vs) [] h = h
  cells_more (v ∷ vs) (c ∷ cs) h = (cell_more v c h.0, cells_more vs cs h.1)

  pub flat_more : (p : Program) (k : ℕ) (v : Value) (cs : List OneCell) → Flat p Named k v cs → Flat p Named1 k v cs
  flat_more p k v cs h = (h.0, cells_more (leaves v) cs h.1)

  module _ (g : RunInput) (code : Code) (w : Identity) (Called : Name → ℕ → Type 0) (W R : Loc → Type 0)
      (J : ℕ → Type 0)
      (low base born since pause : ℕ) (moved : List Spot) where
    pub stand_more : {js : List FramePair} {o : LocalState} {s : Store} {n : Memory Plain}
        → Agrees g code w Named Called W R J low base born since pause moved js o s n
        → Agrees g code w Named1 Called W R J low base born since pause moved js o s n
    stand_more t = record {
      frames = t.frames;
      ticks = t.ticks;
      since_is = t.since_is;
      moved_is = t.moved_is;
      known = t.known;
      unaway = t.unaway;
      held = λ q h x l r. (let z = t.held q h x l r in
          record {
            tree = z.tree;
            tree_is = z.tree_is;
            cells = z.cells;
            piece = z.piece;
            flat = flat_more g.program l.info.kind z.tree z.cells z.flat;
          });
      indexes = t.indexes;
      position = t.position;
      output = t.output;
    }

    pub joining_grows : {A : Spot → Type 0} {js : List FramePair} {o : LocalState} {s : Store} {n : Memory Plain}
        {mp : Map}
        → Joining g code w Named Called W R J low base born since pause moved A js o s n mp
        → Joining g code w Named1 Called W R J low base born since pause moved A js o s n mp
    joining_grows t = record {
      store = t.store;
      before = stand_more t.before;
      known = t.known;
      unaway = t.unaway;
      held = λ q h x l r. ⊎_elim (λ a. inl a)
          (λ z. inr (record {
            tree = z.tree;
            tree_is = z.tree_is;
            cells = z.cells;
            piece = z.piece;
            flat = flat_more g.program l.info.kind z.tree z.cells z.flat;
          })) (t.held q h x l r);
      indexes = t.indexes;
      position = t.position;
      output = t.output;
    }

-- one more channel is open
abbrev pub one_more : RunContext → RunContext
one_more G = at_open G (G.opened + 1)

module _ (G : RunContext) where
  pub named_more : (c : Channel) (j : ℕ) → Named G c j → Named (one_more G) c j
  named_more c j h = ((let a = h.0 in omega (arith, a)), h.1, h.2)

  module _ (lf : BirthRights) (kids : ℕ → ℕ → BirthRights) (q : Name) where
    abbrev pub fresh_more : Fresh G lf kids q → Fresh (one_more G) lf kids q
    fresh_more f = record { based = f.based; reads = f.reads; low_small = f.low_small; ends = f.ends }

    pub follows_more : (f : Fresh G lf kids q) (w : Identity) (n : w.name ≡ q) (since pc : ℕ) (stack : List Entry)
        (js : List FramePair) (todo : List Item) → Fo G lf kids q f w n since pc stack js todo
        → Fo (one_more G) lf kids q (fresh_more f) w n since pc stack js todo
    follows_more f w n since pc stack js todo h =
        again G.g G.code G.moves G.shares G.callable (λ l. OwnLocation q l ⊎ lf.W l)
        (λ l. OwnLocation q l ⊎ lf.R l) lf.J
        (ops G) G.free
        G.finds G.formed.uses f.reads f.reads w (due_after since G.pause) (Rel G lf kids q w since)
        (law G lf kids q f w n since) (λ h x. inl n)
        w (due_after since G.pause) (Rel (one_more G) lf kids q w since)
        (law (one_more G) lf kids q (fresh_more f) w n since) (λ h x. inl n) (λ j js m. m) lf.end [] lf.below pc
        stack js todo h

    abbrev pub stands_more : (since : ℕ) (pr : Process) (s : Store) (d : Config (Memory Plain))
        → ProcessMatches G lf kids q since pr s d → ProcessMatches (one_more G) lf kids q since pr s d
    stands_more since pr s d z = record {
      fresh = fresh_more z.fresh;
      named = z.named;
      js = z.js;
      pc = z.pc;
      stack = z.stack;
      memory = z.memory;
      configuration_is = z.configuration_is;
      stand = stand_more (Named G) (Named (one_more G)) named_more G.g G.code pr.who (Called G)
          (λ l. OwnLocation q l ⊎ lf.W l)
          (λ l. OwnLocation q l ⊎ lf.R l) lf.J lf.low (length lf.below) lf.born since G.pause lf.moved z.stand;
      follows = follows_more z.fresh pr.who z.named since z.pc z.stack z.js pr.todo z.follows;
    }

    stood_more : (w : Identity) (since : ℕ) (y : Sort) (k : ℕ) (v : Value) (e : Entry)
        → StackHolds (Rel G lf kids q w since) G.g.program y k v e
        → StackHolds (Rel (one_more G) lf kids q w since) G.g.program y k v e
    stood_more w since Ordinals k v e h = h
    stood_more w since Channels k v e (nm, k1, v_is, e_is, named) = (nm, k1, v_is, e_is, named_more nm k1 named)
    stood_more w since Many k v e h = (
      h.0,
      h.1,
      flat_more (Named G) (Named (one_more G)) named_more G.g.program k v h.0 h.2,
    )
    stood_more w since NoSort k v e h = h

    payload_more : (f : Fresh G lf kids q) (w : Identity) (n : w.name ≡ q) (since : ℕ) (js : List FramePair)
        (c : Channel)
        (k : ℕ)
        (x : Payload LocationContent Address) (z : Stop) → Ca G lf kids q f w n since js c k x z
        → Ca (one_more G) lf kids q (fresh_more f) w n since js c k x z
    payload_more f w n since js c k (Message (Tree v)) z (j, e, stop_is, named, stood) =
        (j, e, stop_is, named_more c j named, stood_more w since (sort G.g.program k) k v e stood)
    payload_more f w n since js c k (Message (Position m)) z h = h
    payload_more f w n since js c k (Message (Written bs)) z h = h
    payload_more f w n since js c k (Takes a) z (j, target, stop_is, named, kind_is, points, may) =
        (j, target, stop_is, named_more c j named, kind_is, points, may)

    handed_more : (js : List FramePair) (n : Memory Plain) (v : BirthRights) (z : Name) → Handed G lf kids q js n v z
        → Handed (one_more G) lf kids q js n v z
    handed_more js n v z h = record {
      live = h.live;
      aims = h.aims;
      no_index = h.no_index;
      input = h.input;
      output = h.output;
      input_aims = h.input_aims;
      output_aims = h.output_aims;
      old = h.old;
      kept = h.kept;
    }

    left_more : (c : Name → Condition Process LocationContent Address) (k n : ℕ)
        → left_of (one_more G) lf kids q c k n ≡ left_of G lf kids q c k n
    left_more c k zero = refl
    left_more c k (suc i) = ap (λ n. (if has_ended (c ((k, i) ∷ q)) then 0 else 1) + n) (left_more c k i)

    joined_more : (since k n left : ℕ) (pr : Process) (s : StateOf G.g) (d : Config (Memory Plain))
        → Joined G lf kids q since k n left pr s d → Joined (one_more G) lf kids q since k n left pr s d
    joined_more since k n left pr s d z = record {
      fresh = fresh_more z.fresh;
      named = z.named;
      js = z.js;
      pc = z.pc;
      stack = z.stack;
      memory = z.memory;
      held = z.held;
      configuration_is = z.configuration_is;
      joining = joining_grows (Named G) (Named (one_more G)) named_more G.g G.code pr.who (Called G)
          (λ l. OwnLocation q l ⊎ lf.W l) (λ l. OwnLocation q l ⊎ lf.R l) lf.J lf.low (length lf.below) lf.born since
          G.pause lf.moved
          z.joining;
      follows = follows_more z.fresh pr.who z.named since z.pc z.stack z.js pr.todo z.follows;
      count = z.count ∙ sym (left_more s.condition k n);
      some = z.some;
      there = z.there;
      children = λ i h. handed_more z.js z.memory (kids k i) ((k, i) ∷ q) (z.children i h);
      gone = z.gone;
      parted = z.parted;
    }

    large_more : (s : Store) (pr : Process) (d : Config (Memory Plain)) → TooLarge G lf kids q s pr d
        → TooLarge (one_more G) lf kids q s pr d
    large_more s pr d z = record {
      is_first = z.is_first;
      faults = z.faults;
      is_root = z.is_root;
      configuration_is = z.configuration_is;
      no_room = z.no_room;
      output = told_more d z.output;
    }
      where
        told_more : (d : Config (Memory Plain)) → OutputMatches G lf kids q s d
            → OutputMatches (one_more G) lf kids q s d
        told_more (At pc st n) h = h

    -- whatever it does
    pub does_more : (c : JournalState) (s : StateOf G.g) (opens : ℕ) (x : sys.Condition Plain)
        → Performs G lf kids q c s opens x → Performs (one_more G) lf kids q c s opens x
    does_more c s opens sys.Absent h = h
    does_more c s opens (sys.Working d) (pr, runs, stands, opens_are, not_laid) = (
      pr,
      runs,
      ⊎_elim (λ z. inl (stands_more (c.since q) pr s.store d z))
          (λ z. inr (large_more s.store pr d z)) stands,
      opens_are,
      not_laid,
    )
    does_more c s opens (sys.Waits y d) (o, waits, t, carries, opens_are, not_laid, owns) = (
      o,
      waits,
      stands_more (c.since q) o.next s.store d t,
      payload_more t.fresh o.next.who t.named (c.since q) t.js o.channel o.kind o.payload y
          carries,
      opens_are,
      not_laid,
      owns,
    )
    does_more c s opens (sys.Joins left d) (k, n, pr, joins, t, opens_are, not_laid) =
        (k, n, pr, joins, joined_more (c.since q) k n left pr s d t, opens_are, not_laid)
    does_more c s opens (sys.Laid d) h = h
    does_more c s opens sys.Gone h = h
    does_more c s opens (sys.Over d) h = h
