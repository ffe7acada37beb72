-- A process that joins its children: what moved to them is away, and it stands again once all are joined.
use Rattle.std.proofs.Common.{◌≡◌, ◌⊎◌, inl, inr, ⊎_elim, ℕ, suc, ℤ, List, ◌∷◌, Some, sym, ap, ◌∙◌, subst}
use Rattle.std.specs.Prelude.{IsSome}
use Rattle.std.specs.FinMap as fin
use Rattle.sp_tree.specs.Plain.{Variable}
use Rattle.sp_cell.specs.declared.cell.Cell.{Cell as OneCell}
use Rattle.sp_cell.specs.declared.spot.Spot.{Spot}
use Rattle.sp_cell.specs.declared.spot.Handing.{Handing}
use Rattle.sp_cell.specs.Fork.{map_after_fork, map_after_join, moved_of, shared_of}
use Rattle.sp_cell.specs.Map.{Map, Plain, Shared, Away, cells_at, output_spot, with_map}
use Rattle.sp_cell.proofs.Partition.{parent_shared, parent_rest}
use Rattle.sp_cell.proofs.Plan.{in_or, get_taken_in, get_taken_out}
use Rattle.sp_cell.specs.Spots.{In, NotIn}
use Rattle.sp_meaning.specs.Model.{Name, Channel}
use Rattle.sp_meaning.specs.LocalWork.{RunInput, Loc, Cell, Input, Output, OfIndex, LocalState, Identity}
use Rattle.sp_meaning.specs.Run.{Store}
use Rattle.sp_code.specs.declared.code.Parts.{Parts as Code}
use Rattle.sp_code.specs.Memory.{Memory, position_at}
use Rattle.sp_code.specs.PlainStore.{piece_of}
use Rattle.sp_code.specs.Scopes.{slot}
use Rattle.sp_code.proofs.StoreLaws.{piece_cells}
use Rattle.sp_codegen.specs.FramePairs.{FramePair, pairs_from}
use Rattle.sp_codegen.specs.Shapes.{Flat}
pub use Rattle.sp_codegen.specs.Parents.{Joining}
use Rattle.sp_codegen.specs.MemoryRelation.{spot_at, Live, HeldAt, Agrees}

module _ (g : RunInput) (code : Code) (w : Identity) (Named : Channel → ℕ → Type 0) (Called : Name → ℕ → Type 0)
    (W R : Loc → Type 0) (J : ℕ → Type 0) (low base born since pause : ℕ) (moved : List Spot) where
  abbrev pub St : List FramePair → LocalState → Store → Memory Plain → Type 0
  St js o s n = Agrees g code w Named Called W R J low base born since pause moved js o s n

  abbrev Ha : Store → Map → Loc → Spot → ℕ → Type 0
  Ha s mp l q k = HeldAt g.program Named s mp l q k

  abbrev JoiningStands : (Spot → Type 0) → List FramePair → LocalState → Store → Memory Plain → Map → Type 0
  JoiningStands A js o s n mp = Joining g code w Named Called W R J low base born since pause moved A js o s n mp

  -- the memory with another map
  abbrev pub with_store : Memory Plain → Map → Memory Plain
  with_store n mp = record n { store = with_map n.store mp }

  -- once nothing is away it stands as at the fork, with what the store is now
  pub all_joined : {A : Spot → Type 0} {js : List FramePair} {o : LocalState} {s : Store} {n : Memory Plain} {mp : Map}
      → ((q : Spot) → A q → ⊥) → JoiningStands A js o s n mp → St js o s (with_store n mp)
  all_joined none t = let b = t.before in record {
    frames = b.frames;
    ticks = b.ticks;
    since_is = b.since_is;
    moved_is = b.moved_is;
    known = λ q k. b.known q (t.known q k);
    unaway = λ q e. none q (t.unaway q e);
    held = λ q h x l r. ⊎_elim (λ a. absurd (none _ a)) (λ a. a) (t.held q h x l r);
    indexes = λ h k j rest x v e i. ⊎_elim (λ a. absurd (none _ a)) (λ a. a) (t.indexes h k j rest x v e i);
    position = λ r. ⊎_elim (λ a. absurd (none _ a)) (λ a. a) (t.position r);
    output = λ r. ⊎_elim (λ a. absurd (none _ a)) (λ a. a) (t.output r);
  }

  -- ---- a write elsewhere

  -- the store changes where the process may not read: it stands as before
  pub stand_same : {js : List FramePair} {o : LocalState} {s : Store} {n : Memory Plain} → St js o s n → (s1 : Store)
      → ((l : Loc) → R l → s1 l ≡ s l) → St js o s1 n
  stand_same t s1 same = record {
    frames = t.frames;
    ticks = t.ticks;
    since_is = t.since_is;
    moved_is = t.moved_is;
    known = t.known;
    unaway = t.unaway;
    held = λ q h x l r. (let z = t.held q h x l r in
        record {
          tree = z.tree;
          tree_is = same (Cell q h x) r
              ∙ z.tree_is;
          cells = z.cells;
          piece = z.piece;
          flat = z.flat;
        });
    indexes = t.indexes;
    position = λ r. (let z = t.position r in (z.0, same Input r ∙ z.1, z.2));
    output = λ r. (let z = t.output r in (z.0, same Output r ∙ z.1, z.2));
  }

  -- so it is while it joins, where what is away may change besides
  pub joining_same : {A : Spot → Type 0} {js : List FramePair} {o : LocalState} {s : Store} {n : Memory Plain}
      {mp : Map}
      → JoiningStands A js o s n mp → (s1 : Store)
      → ((q : Name) (h x : ℕ) → (l : Live g.program js q h x) → R (Cell q h x)
      → A (spot_at l.joint.machine.number (slot g.program x)) ⊎ (s1 (Cell q h x) ≡ s (Cell q h x)))
      → (R Input → A position_at.spot ⊎ (s1 Input ≡ s Input)) → (R Output → A output_spot ⊎ (s1 Output ≡ s Output))
      → JoiningStands A js o s1 n mp
  joining_same t s1 cells input output = record {
    store = t.store;
    before = t.before;
    known = t.known;
    unaway = t.unaway;
    held = λ q h x l r. ⊎_elim (λ a. inl a) (λ e. ⊎_elim (λ a. inl a)
        (λ z. inr (record { tree = z.tree; tree_is = e ∙ z.tree_is; cells = z.cells; piece = z.piece; flat = z.flat }))
        (t.held q h x l r)) (cells q h x l r);
    indexes = t.indexes;
    position = λ r. ⊎_elim (λ a. inl a) (λ e. ⊎_elim (λ a. inl a) (λ z. inr (z.0, e ∙ z.1, z.2)) (t.position r))
        (input r);
    output = λ r. ⊎_elim (λ a. inl a) (λ e. ⊎_elim (λ a. inl a) (λ z. inr (z.0, e ∙ z.1, z.2)) (t.output r)) (output r);
  }

  -- more may be away
  pub joining_more : {A B : Spot → Type 0} {js : List FramePair} {o : LocalState} {s : Store} {n : Memory Plain}
      {mp : Map}
      → ((q : Spot) → A q → B q) → JoiningStands A js o s n mp → JoiningStands B js o s n mp
  joining_more f t = record {
    store = t.store;
    before = t.before;
    known = t.known;
    unaway = λ q e. f q (t.unaway q e);
    held = λ q h x l r. ⊎_elim (λ a. inl (f _ a)) (λ z. inr z) (t.held q h x l r);
    indexes = λ h k j rest x v e i. ⊎_elim (λ a. inl (f _ a)) (λ z. inr z) (t.indexes h k j rest x v e i);
    position = λ r. ⊎_elim (λ a. inl (f _ a)) (λ z. inr z) (t.position r);
    output = λ r. ⊎_elim (λ a. inl (f _ a)) (λ z. inr z) (t.output r);
  }

  -- ---- the fork

  module _ {js : List FramePair} {o : LocalState} {s : Store} {n : Memory Plain} (t : St js o s n) (hs : List Handing)
      (known : (q : Spot) → In q (moved_of hs) ⊎ In q (shared_of hs) → IsSome (fin.get n.store.map q))
      (dry : R Output → NotIn output_spot (shared_of hs)) where
    abbrev mp : Map
    mp = map_after_fork n.store.map hs

    piece_left : (q : Spot) (cs : List OneCell) → piece_of (fin.get n.store.map q) ≡ Some cs → In q (moved_of hs)
        ⊎ (piece_of (fin.get mp q) ≡ Some cs)
    piece_left q cs e = ⊎_elim (λ i. inl i)
        (λ (d : NotIn q (moved_of hs)). inr (⊎_elim
        (λ (i : In q (shared_of hs)). ap piece_of (parent_shared n.store.map hs q i)
        ∙ ap Some (piece_cells (fin.get n.store.map q) cs e))
        (λ (f : NotIn q (shared_of hs)). ap piece_of (parent_rest n.store.map hs q d f) ∙ e)
        (in_or q (shared_of hs))))
        (in_or q (moved_of hs))

    pub handed_joining : JoiningStands (λ q. In q (moved_of hs)) js o s n mp
    handed_joining = record {
      store = s;
      before = t;
      known = λ q k. ⊎_elim (λ i. known q (inl i))
          (λ (d : NotIn q (moved_of hs)). ⊎_elim (λ i. known q (inr i))
          (λ (f : NotIn q (shared_of hs)). subst IsSome (parent_rest n.store.map hs q d f) k) (in_or q (shared_of hs)))
          (in_or q (moved_of hs));
      unaway = λ q e. ⊎_elim (λ i. i) (λ (d : NotIn q (moved_of hs)). absurd (stays q e d)) (in_or q (moved_of hs));
      held = λ q h x l r. (let z = t.held q h x l r in
          ⊎_elim (λ i. inl i) (λ e. inr (record
          { tree = z.tree; tree_is = z.tree_is; cells = z.cells; piece = e; flat = z.flat }))
          (piece_left _ z.cells z.piece));
      indexes = λ h k j rest x v e i. piece_left (spot_at j.machine.number 0) _ (t.indexes h k j rest x v e i);
      position = λ r. (let z = t.position r in
          ⊎_elim (λ i. inl i) (λ e. inr (z.0, z.1, e)) (piece_left position_at.spot _ z.2));
      output = λ r. (let z = t.output r in ⊎_elim (λ i. inl i)
          (λ (d : NotIn output_spot (moved_of hs)). inr
          (z.0, z.1, parent_rest n.store.map hs output_spot d (dry r) ∙ z.2)) (in_or output_spot (moved_of hs)));
    }
      where
        stays : (q : Spot) → fin.get mp q ≡ Some Away → NotIn q (moved_of hs) → ⊥
        stays q e d = ⊎_elim
            (λ (i : In q (shared_of hs)). (let z : Some (Shared (cells_at n.store.map q)) ≡ Some Away =
            sym (parent_shared n.store.map hs q i) ∙ e in absurd (cc z)))
            (λ (f : NotIn q (shared_of hs)). t.unaway q (sym (parent_rest n.store.map hs q d f) ∙ e))
            (in_or q (shared_of hs))

  -- ---- a child's end

  module _ {A : Spot → Type 0} {js : List FramePair} {o : LocalState} {s : Store} {n : Memory Plain} {mp : Map}
      (t : JoiningStands A js o s n mp)
      (v : Identity) (V T : Loc → Type 0) (K : ℕ → Type 0) (low1 base1 born1 since1 pause1 : ℕ) (moved1 : List Spot)
      {ks : List FramePair} {oc : LocalState} {nc : Memory Plain}
      (child : Agrees g code v Named Called V T K low1 base1 born1 since1 pause1 moved1 ks oc s nc)
      -- what moved to it is what it may read, is still known to it, and was known at the fork
      (live : (q : Name) (h x : ℕ) → (l : Live g.program js q h x) → R (Cell q h x)
      → In (spot_at l.joint.machine.number (slot g.program x)) nc.store.moved
      → T (Cell q h x) × ((k : Live g.program ks q h x) × (k.joint ≡ l.joint) × (k.info ≡ l.info)))
      (no_index : (h : ℕ) → J h → (j : FramePair) (rest : List FramePair) (x : ℕ) (i : ℤ)
      → pairs_from (suc h) js ≡ j ∷ rest
      → j.source.home ≡ OfIndex x i → NotIn (spot_at j.machine.number 0) nc.store.moved)
      (input : R Input → In position_at.spot nc.store.moved → T Input)
      (output : R Output → In output_spot nc.store.moved → T Output)
      (kept : (q : Spot) → In q nc.store.moved → IsSome (fin.get nc.store.map q))
      (old : (q : Spot) → In q nc.store.moved → IsSome (fin.get n.store.map q)) where
    abbrev mq : Map
    mq = map_after_join mp nc.store

    abbrev B : Spot → Type 0
    B q = A q × NotIn q nc.store.moved

    back : (q : Spot) → In q nc.store.moved → fin.get mq q ≡ fin.get nc.store.map q
    back q i = get_taken_in nc.store.map nc.store.moved mp q i (kept q i)

    rest_same : (q : Spot) → NotIn q nc.store.moved → fin.get mq q ≡ fin.get mp q
    rest_same q d = get_taken_out nc.store.map nc.store.moved mp q d

    pub joined_joining : JoiningStands B js o s n mq
    joined_joining = record {
      store = t.store;
      before = t.before;
      known = λ q k. ⊎_elim (λ i. old q i) (λ (d : NotIn q nc.store.moved). t.known q (subst IsSome (rest_same q d) k))
          (in_or q nc.store.moved);
      unaway = λ q e. ⊎_elim (λ (i : In q nc.store.moved). absurd (child.unaway q (sym (back q i) ∙ e)))
          (λ (d : NotIn q nc.store.moved). (t.unaway q (sym (rest_same q d) ∙ e), d)) (in_or q nc.store.moved);
      held = λ q h x l r. held_by q h x l r (in_or _ nc.store.moved);
      indexes = λ h k j rest x z e i. (let d = no_index h k j rest x z e i in
          ⊎_elim (λ a. inl (a, d)) (λ f. inr (ap piece_of (rest_same _ d) ∙ f)) (t.indexes h k j rest x z e i));
      position = λ r. ⊎_elim
          (λ (i : In position_at.spot nc.store.moved).
          (let z = child.position (input r i) in inr (z.0, z.1, ap piece_of (back position_at.spot i) ∙ z.2)))
          (λ (d : NotIn position_at.spot nc.store.moved). ⊎_elim (λ a. inl (a, d))
          (λ z. inr (z.0, z.1, ap piece_of (rest_same position_at.spot d) ∙ z.2)) (t.position r))
          (in_or position_at.spot nc.store.moved);
      output = λ r. ⊎_elim
          (λ (i : In output_spot nc.store.moved).
          (let z = child.output (output r i) in inr (z.0, z.1, back output_spot i ∙ z.2)))
          (λ (d : NotIn output_spot nc.store.moved). ⊎_elim (λ a. inl (a, d))
          (λ z. inr (z.0, z.1, rest_same output_spot d ∙ z.2)) (t.output r))
          (in_or output_spot nc.store.moved);
    }
      where
        held_by : (q : Name) (h x : ℕ) → (l : Live g.program js q h x) → R (Cell q h x)
            → In (spot_at l.joint.machine.number (slot g.program x)) nc.store.moved
            ⊎ NotIn (spot_at l.joint.machine.number (slot g.program x)) nc.store.moved
            → B (spot_at l.joint.machine.number (slot g.program x))
            ⊎ Ha s mq (Cell q h x) (spot_at l.joint.machine.number (slot g.program x)) l.info.kind
        held_by q h x l r (inl i) =
            let (may, there) = live q h x l r i in
            let (l_child, joint_same, info_same) = there in
            let z = child.held q h x l_child may in
            let same : spot_at l_child.joint.machine.number (slot g.program x)
            ≡ spot_at l.joint.machine.number (slot g.program x) =
            ap (λ (y : FramePair). spot_at y.machine.number (slot g.program x)) joint_same in
            inr (record {
              tree = z.tree;
              tree_is = z.tree_is;
              cells = z.cells;
              piece = ap piece_of (back _ i ∙ ap (λ y. fin.get nc.store.map y) (sym same)) ∙ z.piece;
              flat = subst (λ (y : Variable). Flat g.program Named y.kind z.tree z.cells) info_same z.flat;
            })
        held_by q h x l r (inr d) = ⊎_elim (λ a. inl (a, d))
            (λ z. inr (record {
              tree = z.tree;
              tree_is = z.tree_is;
              cells = z.cells;
              piece = ap piece_of (rest_same _ d)
                  ∙ z.piece;
              flat = z.flat;
            })) (t.held q h x l r)
