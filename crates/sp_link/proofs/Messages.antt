-- A message goes over: what is sent, in cells, is of its type (`sent_flat`), and the receiver stands with it
-- (`receiver_stands`).
use Rattle.std.proofs.Common.{◌≡◌, ◌⊎◌, ℕ, ◌<◌, List, length, refl, sym, ap, ◌∙◌}
use Rattle.std.proofs.Common.{subst}
use Rattle.std.specs.FinMap as fin
use Rattle.sp_cell.specs.declared.cell.Cell.{Cell as OneCell}
use Rattle.sp_cell.specs.declared.spot.Spot.{Spot}
use Rattle.sp_cell.specs.declared.spot.Address.{Address as Ptr}
use Rattle.sp_cell.proofs.Laws.{get_here}
use Rattle.sp_cell.specs.Map.{Own as Owned, Plain, IsOwn, HasCells}
use Rattle.sp_meaning.specs.Maps.{at_key}
use Rattle.sp_meaning.specs.Model.{Name, Channel, Takes}
use Rattle.sp_meaning.specs.Values.{Value, Ordinal, Chan}
use Rattle.sp_meaning.specs.LocalWork.{Tree, Address, LocalState, Process, Identity, content_with, same_loc}
use Rattle.sp_meaning.specs.Run.{Store}
use Rattle.sp_meaning.proofs.Rights.{OwnLocation}
use Rattle.sp_code.specs.Machine.{Config, At, Entry, Stop, Forks, Opens, Sends, Receives, Ends, Pauses}
use Rattle.sp_code.specs.Memory.{Memory, put_cells, cells_at}
use Rattle.sp_code.specs.PlainStore.{plain}
use Rattle.sp_code.specs.Scopes.{Sort, Ordinals, Channels, Many, NoSort, sort, size}
use Rattle.sp_code.specs.System.{on_store}
use Rattle.sp_code.proofs.StoreLaws.{piece_holds}
use Rattle.sp_codegen.specs.Relation.{StackHolds}
use Rattle.sp_codegen.specs.FramePairs.{FramePair}
use Rattle.sp_codegen.specs.Shapes.{Flat, SameShape, leaves}
use Rattle.sp_codegen.specs.CodePositions.{IsOwned, cells_in}
use Rattle.sp_codegen.specs.MemoryRelation.{PointsTo}
use Rattle.sp_codegen.proofs.Locations.{simple_value, has_all, shaped_size}
use Rattle.sp_codegen.proofs.Shapes.{cells_length}
use Rattle.sp_codegen.proofs.Stores.{put_cells_law}
use Rattle.sp_link.proofs.Relation.{RunContext, BirthRights, Called, Named, Rel, St, ProcessMatches, Ca, HasOwnTarget}
use Rattle.sp_link.proofs.Relation.{ops}

module _ (G : RunContext) (lf : BirthRights) (kids : ℕ → ℕ → BirthRights) (q : Name) where
  -- what is sent, in cells
  pub sent_flat : (w : Identity) (since k : ℕ) (y : Sort) → sort G.g.program k ≡ y → (v : Value) (e : Entry)
      → StackHolds (Rel G lf kids q w since) G.g.program y k v e → Flat G.g.program (Named G) k v (cells_in e)
  sent_flat w since k Ordinals i v e s =
      subst (λ y. Flat G.g.program (Named G) k y (cells_in e)) (sym s.1)
      (subst (λ y. Flat G.g.program (Named G) k (Ordinal s.0) (cells_in y)) (sym s.2) (
        subst (λ y. SameShape y (Ordinal s.0))
            (sym (simple_value G.g.program G.formed k (subst Rattle.sp_codegen.specs.Relation.OneCell (sym i) tt))) tt,
        (refl, tt),
      ))
  sent_flat w since k Channels i v e (nm, _, value_is, entry_is, named) =
      subst (λ y. Flat G.g.program (Named G) k y (cells_in e)) (sym value_is)
      (subst (λ y. Flat G.g.program (Named G) k (Chan nm) (cells_in y)) (sym entry_is) (
        subst (λ y. SameShape y (Chan nm)) (sym
            (simple_value G.g.program G.formed k (subst Rattle.sp_codegen.specs.Relation.OneCell (sym i) tt))) tt,
        (named, tt),
      ))
  sent_flat w since k Many i v e s = subst (λ y. Flat G.g.program (Named G) k v (cells_in y)) (sym s.1) s.2
  sent_flat w since k NoSort i v e s = absurd s

  -- the receiver, whose target is a of the type of the message
  pub receiver_stands : {since : ℕ} {pr : Process} {s : Store} {c : Config (Memory Plain)}
      (t : ProcessMatches G lf kids q since pr s c) (ch : Channel) (k : ℕ) (a : Address) (stop : Stop)
      → (x : Ca G lf kids q t.fresh pr.who t.named since t.js ch k (Takes a) stop)
      → (v : Value) (ds : List OneCell) → Flat G.g.program (Named G) k v ds
      → ProcessMatches G lf kids q since pr (at_key same_loc a.spot (content_with a (s a.spot) (Tree v)) s)
      (on_store (put_cells plain x.1 ds) c)
  receiver_stands {since} {pr} {s} {c} t ch k a stop (_, place, _, _, kind_is, points, may) v ds f = record {
    fresh = t.fresh;
    named = t.named;
    js = t.js;
    pc = t.pc;
    stack = t.stack;
    memory = record (t.memory) { store = put_cells plain place ds t.memory.store };
    configuration_is = ap (λ y. on_store (put_cells plain place ds) y) t.configuration_is;
    stand = put_cells_law G.g G.code pr.who (Named G) (Called G) (λ l. OwnLocation q l ⊎ lf.W l)
        (λ l. OwnLocation q l ⊎ lf.R l) lf.J
        lf.low (length lf.below) lf.born since G.pause lf.moved G.formed t.stand a place points may v ds
        (subst (λ y. Flat G.g.program (Named G) y v ds) (sym kind_is) f);
    follows = t.follows;
  }

-- a piece that is made the process's own is its own
own_here : (n : Memory Plain) (a : Spot) (cs : List OneCell) → IsOwn (fin.get (plain.owned n.store a cs).map a)
own_here n a cs = subst (λ c. IsOwn c) (sym (get_here n.store.map a (Owned cs))) tt

-- a receiver at its stop
pub owned_ready : (G : RunContext) (z : Stop) (pc : ℕ) (st : List Entry) (n : Memory Plain) → IsOwned (ops G) z n
    → HasOwnTarget z (At pc st (record n { since = n.ticks }))
owned_ready G (Forks tb val k) pc st n h = tt
owned_ready G (Opens a) pc st n h = tt
owned_ready G (Sends ch k cs) pc st n h = tt
owned_ready G (Receives ch k a) pc st n h = subst (λ (y : Memory Plain). IsOwn (fin.get y.store.map a.spot)) (sym h.1)
    (own_here h.0 a.spot (cells_at plain (h.0).store a.spot))
owned_ready G Ends pc st n h = tt
owned_ready G Pauses pc st n h = tt

-- ---- room for a message

module _ (G : RunContext) (lf : BirthRights) (kids : ℕ → ℕ → BirthRights) (q : Name) where
  -- where a message of type k goes there is room for it
  pub room : {w : Identity} {since : ℕ} {js : List FramePair} {o : LocalState} {s : Store} {n : Memory Plain}
      → St G lf kids q w since js o s n → (a : Address) (t : Ptr) → PointsTo G.g.program js a t → OwnLocation q a.spot
      ⊎ lf.R a.spot → HasCells n.store.map t (size G.g.program a.kind)
  room {w} {since} {js} {o} {s} {n} st a t p may =
      piece_holds (fin.get n.store.map t.spot) t.offset (size G.g.program a.kind)
      (has_all G.g G.code w (Named G) (Called G) (λ l. OwnLocation q l ⊎ lf.W l) (λ l. OwnLocation q l ⊎ lf.R l)
      lf.J lf.low
      (length lf.below) lf.born since G.pause lf.moved G.formed st a t p may)

-- a message is as long as its type
pub message_length : (G : RunContext) (k : ℕ) → k < length G.g.program.kinds → (v : Value) (cs : List OneCell)
    → Flat G.g.program (Named G) k v cs → length cs ≡ size G.g.program k
message_length G k lt v cs f = sym (cells_length (Named G) (leaves v) cs f.1)
    ∙ shaped_size G.g.program G.formed k lt v f.0
