-- Addresses of the machine and variables of the meaning, and what stands there.
use Rattle.std.proofs.Common.{◌≡◌, ℕ, zero, suc, ◌+◌, ◌*◌, ◌<◌, ◌≤◌, ℤ, List, [], ◌∷◌, ◌++◌, Option, Some, None}
use Rattle.std.proofs.Common.{true, ◌&&◌, length, refl, sym, ap, ◌∙◌, subst, arith}
use Rattle.std.proofs.lemmas.List.{length-append}
use Rattle.std.proofs.lemmas.Option.{slice_get_within}
use Rattle.std.specs.Prelude.{pos, ◌+ℤ◌, ◌-ℤ◌, nat_abs, int_le, nat_le, slice_get, slice_index_or, drop}
use Rattle.std.specs.FinMap as map
use Rattle.std.proofs.lemmas.Bool.{and_parts, le-leb}
use Rattle.sp_base.proofs.Facts.{from_low, to_high}
use Rattle.sp_tree.specs.declared.checked.KindOf.{KindOf}
use Rattle.sp_tree.specs.declared.checked.KindOf.TheVariants as kind
use Rattle.sp_tree.specs.declared.checked.Role.TheVariants as role
use Rattle.sp_tree.specs.Cells.{count}
use Rattle.sp_tree.specs.Plain.{Program, Variable}
use Rattle.sp_cell.specs.declared.spot.Spot.{Spot}
use Rattle.sp_cell.specs.declared.cell.Cell.{Cell as OneCell}
use Rattle.sp_cell.specs.declared.cell.Cell.TheVariants as cell
use Rattle.sp_cell.specs.declared.spot.Address.{Address}
use Rattle.sp_cell.specs.Lists.{part}
use Rattle.sp_cell.specs.Map.{Plain, output_of}
use Rattle.sp_meaning.specs.Model.{Name, Channel}
use Rattle.sp_meaning.specs.Values.{Value, Undefined, Ordinal, Chan, Parts, get_at}
use Rattle.sp_meaning.specs.LocalWork.{RunInput, Loc, Cell, Input, Output, Tree, OfBlock, OfIndex}
use Rattle.sp_meaning.specs.LocalWork.{LocalState, Identity, reference_target, value_in, position_in}
use Rattle.sp_meaning.specs.LocalWork as own
use Rattle.sp_meaning.specs.Eval.{in_frame}
use Rattle.sp_meaning.specs.Run.{Store}
use Rattle.sp_code.specs.declared.code.Parts.{Parts as Code}
use Rattle.sp_code.specs.Machine.{address_after, Ops}
use Rattle.sp_code.specs.Memory.{Memory, memory, addr_in, deref_in, frames_up, has_cells, cells_in, left_after, is_held}
use Rattle.sp_code.specs.Memory.{cell_at}
use Rattle.sp_code.specs.Memory as m
use Rattle.sp_code.specs.PlainStore.{plain, piece_of}
use Rattle.sp_code.specs.Scopes.{sort, sort_by, size, slot, field_offset}
use Rattle.sp_codegen.specs.FramePairs.{FramePair, machines, pairs_from, up_at}
use Rattle.sp_codegen.specs.Shapes.{leaves, IsScalar, SameShape, initial_value, Shaped, CellIs, CellsAre, Flat, PieceAt}
use Rattle.sp_codegen.specs.Shapes.{AreBefore}
use Rattle.sp_tree.specs.TreeShape.{IsFormed}
use Rattle.sp_code.specs.Sizes.{HasSmallTypes}
use Rattle.sp_codegen.specs.Relation.{Owns, OneCell as IsOneCell}
use Rattle.sp_codegen.specs.MemoryRelation.{Live, PointsTo, Paired, Agrees, FixesTo}
use Rattle.sp_codegen.specs.TurnAgrees.{code_run}
use Rattle.sp_codegen.proofs.Shapes.{shape_length, whole, reaches_on, many_replicate, item_replicate, before_replicate}
use Rattle.sp_codegen.proofs.Shapes.{cells_length, cells_part, cells_look}
use Rattle.sp_codegen.proofs.Types.{array_initial, record_initial, initial_is, sized, many_map, item_map, before_map}
use Rattle.sp_codegen.proofs.Types.{fields_sized}
use Rattle.sp_codegen.proofs.FramePairs.{from_push, from_from, up_from, paired_up, frames_up_is}

-- ---- addresses

module _ (p : Program) where
  -- what stands in an end stands in the whole
  abbrev pub live_in : (n : ℕ) (js : List FramePair) (q : Name) (h x : ℕ) → (l : Live p (pairs_from n js) q h x)
      → Live p js q h x
  live_in n js q h x l = record {
    info = l.info;
    known = l.known;
    owns = l.owns;
    joint = l.joint;
    rest = l.rest;
    frame_at = from_from (suc h) n js l.joint l.rest l.frame_at;
    owner_is = l.owner_is;
    home = l.home;
  }

  abbrev pub live_push : (j : FramePair) (js : List FramePair) (q : Name) (h x : ℕ) → (l : Live p js q h x)
      → Live p (j ∷ js) q h x
  live_push j js q h x l = record {
    info = l.info;
    known = l.known;
    owns = l.owns;
    joint = l.joint;
    rest = l.rest;
    frame_at = from_push (suc h) j js l.joint l.rest l.frame_at;
    owner_is = l.owner_is;
    home = l.home;
  }

  pub points_in : (n : ℕ) (js : List FramePair) (a : own.Address) (t : Address) → PointsTo p (pairs_from n js) a t
      → PointsTo p js a t
  points_in n js a t k = record {
    owner = k.owner;
    frame = k.frame;
    variable = k.variable;
    cell_is = k.cell_is;
    live = live_in n js k.owner k.frame k.variable k.live;
    spot_is = k.spot_is;
    reaches = k.reaches;
    typed = k.typed;
  }

  pub points_push : (j : FramePair) (js : List FramePair) (a : own.Address) (t : Address) → PointsTo p js a t
      → PointsTo p (j ∷ js) a t
  points_push j js a t k = record {
    owner = k.owner;
    frame = k.frame;
    variable = k.variable;
    cell_is = k.cell_is;
    live = live_push j js k.owner k.frame k.variable k.live;
    spot_is = k.spot_is;
    reaches = k.reaches;
    typed = k.typed;
  }

module _ (p : Program) (formed : IsFormed p) where
  in_range : (low high v : ℤ) → (int_le low v && int_le v high) ≡ true → nat_abs (v -ℤ low) < count low high
  in_range low high v e = let b = and_parts (int_le low v) (int_le v high) e in within b.0 b.1
    where
      short : (a c : ℤ) → int_le (pos 0) a ≡ true → int_le a c ≡ true → nat_abs a < nat_abs (c +ℤ pos 1)
      short a c x y = Prim.grind (arith, x, y)

      within : int_le low v ≡ true → int_le v high ≡ true → nat_abs (v -ℤ low) < count low high
      within x y = short (v -ℤ low) (high -ℤ low) (from_low low v x) (to_high low v high y)

  pub element_points : (js : List FramePair) (a : own.Address) (t : Address) → PointsTo p js a t
      → (low high : ℤ) (index element : ℕ) → slice_get p.kinds a.kind ≡ Some (kind.Array low high index element)
      → (v : ℤ) → (int_le low v && int_le v high) ≡ true
      → PointsTo p js (record { spot = a.spot; path = a.path ++ nat_abs (v -ℤ low) ∷ []; kind = element })
      (address_after (nat_abs (v -ℤ low) * size p element) t)
  element_points js a t k low high index element e v r =
      let n = nat_abs (v -ℤ low) in
      let l = in_range low high v r in
      let before = (formed.arrays a.kind low high index element e).0 in
      let there : element < length p.kinds = let z =
      slice_get_within p.kinds a.kind (kind.Array low high index element) e in omega (arith, before, z) in
      record {
        owner = k.owner;
        frame = k.frame;
        variable = k.variable;
        cell_is = k.cell_is;
        live = k.live;
        spot_is = k.spot_is;
        reaches = reaches_on p k.live.info.kind a.path t.offset a.kind k.reaches _
            (array_initial p formed a.kind low high index element e) n element
            (subst (λ z. n < z) (sym (many_replicate (count low high) (initial_value p element))) l)
            (item_replicate (count low high) n (initial_value p element) l)
            (n * size p element) (before_replicate (count low high) n (initial_value p element) l
            ∙ ap (λ z. n * z) (sized p formed element there).0);
        typed = there;
      }

  pub field_points : (js : List FramePair) (a : own.Address) (t : Address) → PointsTo p js a t
      → (fs : List (List ℕ × ℕ))
      → slice_get p.kinds a.kind ≡ Some (kind.Fields fs)
      → (f k : ℕ) (name : List ℕ) → slice_get fs f ≡ Some (name, k)
      → PointsTo p js (record { spot = a.spot; path = a.path ++ f ∷ []; kind = k })
      (address_after (field_offset p fs f) t)
  field_points js a t k fs e f c name d =
      let l : f < length fs = slice_get_within fs f (name, c) d in
      record {
        owner = k.owner;
        frame = k.frame;
        variable = k.variable;
        cell_is = k.cell_is;
        live = k.live;
        spot_is = k.spot_is;
        reaches = reaches_on p k.live.info.kind a.path t.offset a.kind k.reaches _ (record_initial p formed a.kind fs e)
            f c
            (subst (λ z. f < z) (sym (many_map p formed (λ (z : List ℕ × ℕ). initial_value p z.1) fs)) l)
            (item_map p formed (λ (z : List ℕ × ℕ). initial_value p z.1) fs f (name, c) d)
            (field_offset p fs f) (before_map p formed fs f (fields_sized p formed a.kind fs e) l);
        typed = below fs (formed.fields a.kind fs e).0 f d;
      }
    where
      within : a.kind < length p.kinds
      within = slice_get_within p.kinds a.kind (kind.Fields fs) e

      below : (fs : List (List ℕ × ℕ)) → AreBefore a.kind fs → (f : ℕ) → slice_get fs f ≡ Some (name, c)
          → c < length p.kinds
      below [] b f d = absurd (cc d)
      below (x ∷ fs) b zero d = let y : x ≡ (name, c) = cc d in let z = ap (λ (u : List ℕ × ℕ). u.1) y in let v = b.0 in
          omega (arith, z, v, within)
      below (x ∷ fs) b (suc f) d = below fs b.1 f d

-- ---- what is held

-- an ordinal or a channel is one leaf
scalar_leaf : (v : Value) → IsScalar v → leaves v ≡ v ∷ []
scalar_leaf Undefined h = refl
scalar_leaf (Ordinal n) h = refl
scalar_leaf (Chan c) h = refl
scalar_leaf (Parts vs) h = absurd h

module _ (p : Program) (formed : IsFormed p) where
  simple_by : (k : ℕ) (t : KindOf) → slice_get p.kinds k ≡ Some t → IsOneCell (sort_by (Some t))
      → initial_value p k ≡ Undefined
  simple_by k kind.Integer e h = initial_is p formed k kind.Integer e
  simple_by k kind.Boolean e h = initial_is p formed k kind.Boolean e
  simple_by k kind.Char e h = initial_is p formed k kind.Char e
  simple_by k (kind.Enumeration n) e h = initial_is p formed k (kind.Enumeration n) e
  simple_by k (kind.Array low high index element) e h = absurd h
  simple_by k (kind.Fields fs) e h = absurd h
  simple_by k (kind.Channel ks) e h = initial_is p formed k (kind.Channel ks) e

  pub simple_value : (k : ℕ) → IsOneCell (sort p k) → initial_value p k ≡ Undefined
  simple_value k h = go (slice_get p.kinds k) refl h
    where
      go : (t : Option KindOf) → slice_get p.kinds k ≡ t → IsOneCell (sort_by t) → initial_value p k ≡ Undefined
      go None e h = absurd h
      go (Some t) e h = simple_by k t e h

  pub scalar_if : (k : ℕ) → IsOneCell (sort p k) → (v : Value) → Shaped p k v → IsScalar v
  scalar_if k h v s = subst (λ z. SameShape z v) (simple_value k h) s

  pub leaf_if : (k : ℕ) → IsOneCell (sort p k) → (v : Value) → Shaped p k v → leaves v ≡ v ∷ []
  leaf_if k h v s = scalar_leaf v (scalar_if k h v s)

  pub shaped_size : (k : ℕ) → k < length p.kinds → (v : Value) → Shaped p k v → length (leaves v) ≡ size p k
  shaped_size k l v s = sym (shape_length (initial_value p k) v s) ∙ (sized p formed k l).0

module _ (g : RunInput) (code : Code) (w : Identity) (Named : Channel → ℕ → Type 0) (Called : Name → ℕ → Type 0)
    (W R : Loc → Type 0) (J : ℕ → Type 0) (low base born since pause : ℕ) (moved : List Spot)
    (formed : IsFormed g.program) where
  abbrev p : Program
  p = g.program

  abbrev pub St : List FramePair → LocalState → Store → Memory Plain → Type 0
  St js o s n = Agrees g code w Named Called W R J low base born since pause moved js o s n

  abbrev pub ops : Ops (Memory Plain)
  ops = memory plain (code_run g code pause)

  -- frames in pairs, from so many levels outward on
  pub outward : {js : List FramePair} {o : LocalState} {s : Store} {n : Memory Plain} → St js o s n
      → (up : ℕ) (j : FramePair) (rest : List FramePair) → up_at up js ≡ j ∷ rest
      → (frames_up up n.frames ≡ machines (j ∷ rest)) × Paired p Called (j ∷ rest)
  outward {js} {o} {s} {n} t up j rest e = (
    ap (λ fs. frames_up up fs) t.frames.machines_are ∙ frames_up_is p Called up js t.frames.paired ∙ ap machines e,
    subst (Paired p Called) e (paired_up p Called up js t.frames.paired),
  )

  pub addr_law : {js : List FramePair} {o : LocalState} {s : Store} {n : Memory Plain} → St js o s n
      → (up x : ℕ) (j : FramePair) (rest : List FramePair) → up_at up js ≡ j ∷ rest
      → (v : Variable) → slice_get p.variables x ≡ Some v → j.source.home ≡ OfBlock v.block → Owns v.role
      → (a : Address) × (ops.addr up (slot p x) n ≡ Some a) × PointsTo p js (in_frame g x v j.source) a
  addr_law {js} t up x j rest e v kv hv ov =
      let (machines_are, paired) = outward t up j rest e in (
        cell_at j.machine.number (slot p x),
        ap (λ fs. addr_in fs (slot p x)) machines_are,
        record {
          owner = j.source.owner;
          frame = j.source.number;
          variable = x;
          cell_is = refl;
          live = record {
            info = v;
            known = kv;
            owns = ov;
            joint = j;
            rest = rest;
            frame_at = subst (λ z. pairs_from (suc z) js ≡ j ∷ rest) (sym paired.0.number_is) (up_from up js j rest e);
            owner_is = refl;
            home = hv;
          };
          spot_is = refl;
          reaches = whole p v.kind;
          typed = formed.kinds x v kv;
        },
      )

  pub deref_law : {js : List FramePair} {o : LocalState} {s : Store} {n : Memory Plain} → St js o s n
      → (up x : ℕ) (j : FramePair) (rest : List FramePair) → up_at up js ≡ j ∷ rest
      → (v : Variable) → slice_get p.variables x ≡ Some v → j.source.home ≡ OfBlock v.block → v.role ≡ role.Reference
      → (r : own.Address) × (reference_target x j.source.references ≡ Some r) × (r.kind ≡ v.kind)
      × ((a : Address) × (ops.deref up (slot p x) n ≡ Some a) × PointsTo p js r a)
  deref_law {js} t up x j rest e v kv hv rv =
      let (machines_are, paired) = outward t up j rest e in
      let (source, source_is, kind_is, found) = paired.0.references x v kv hv rv in
      let (target, target_is, points) = found in (
        source,
        source_is,
        kind_is,
        (
          target,
          ap (λ fs. deref_in fs (slot p x)) machines_are ∙ target_is,
          points_in p (suc (length rest)) js source target
              (subst (λ z. PointsTo p z source target) (sym (up_from up js j rest e))
              (points_push p j rest source target points)),
        ),
      )

  pub index_law : {js : List FramePair} {o : LocalState} {s : Store} {n : Memory Plain} → St js o s n
      → (up x : ℕ) (v : ℤ) (j : FramePair) (rest : List FramePair) → up_at up js ≡ j ∷ rest
      → j.source.home ≡ OfIndex x v
      → J (length rest)
      → (a : Address) × (ops.addr up 0 n ≡ Some a)
      × FixesTo J js v a
  index_law {js} t up x v j rest e hv jh =
      let u = outward t up j rest e in (
        cell_at j.machine.number 0,
        ap (λ fs. addr_in fs 0) u.0,
        record {
          height = length rest;
          frame = j;
          rest = rest;
          index = x;
          is_held = jh;
          from = up_from up js j rest e;
          home_is = hv;
          address_is = refl;
        },
      )

  -- what an address leads to
  pub record Shown (js : List FramePair) (s : Store) (n : Memory Plain) (a : own.Address) (t : Address) : Type 0 where
    pub points : PointsTo p js a t
    pub may : R (Cell points.owner points.frame points.variable)
    pub tree : Value
    pub tree_is : s a.spot ≡ Tree tree
    pub cells : List OneCell
    pub piece : piece_of (map.get n.store.map t.spot) ≡ Some cells
    pub flat : Flat p Named points.live.info.kind tree cells
    pub piece_at : PieceAt p points.live.info.kind a.path t.offset a.kind tree
    pub sized : length (leaves (get_at a.path tree)) ≡ size p a.kind

  pub shown : {js : List FramePair} {o : LocalState} {s : Store} {n : Memory Plain} → St js o s n
      → (a : own.Address) (t : Address)
      → PointsTo p js a t → R a.spot → Shown js s n a t
  shown {js} {o} {s} {n} st a t k r =
      let r1 : R (Cell k.owner k.frame k.variable) = subst R k.cell_is r in
      let h = st.held k.owner k.frame k.variable k.live r1 in
      let z = k.reaches.piece h.tree h.flat.0 in
      record {
        points = k;
        may = r1;
        tree = h.tree;
        tree_is = ap s k.cell_is ∙ h.tree_is;
        cells = h.cells;
        piece = ap (λ q. piece_of (map.get n.store.map q)) k.spot_is ∙ h.piece;
        flat = h.flat;
        piece_at = z;
        sized = shaped_size p formed a.kind k.typed (get_at a.path h.tree) z.shaped;
      }

  has_law : {js : List FramePair} {s : Store} {n : Memory Plain} (a : own.Address) (t : Address) → Shown js s n a t
      → (k : ℕ) → k ≤ size p a.kind → ops.has t k n ≡ true
  has_law {js} {s} {n} a t h k l =
      let len : length h.cells ≡ length h.piece_at.front + (size p a.kind + length h.piece_at.back) =
      sym (cells_length Named (leaves h.tree) h.cells h.flat.1) ∙ ap length h.piece_at.leaves_are
      ∙ length-append h.piece_at.front (leaves (get_at a.path h.tree) ++ h.piece_at.back)
      ∙ ap (λ z. length h.piece_at.front + z) (length-append (leaves (get_at a.path h.tree)) h.piece_at.back
      ∙ ap (λ z. z + length h.piece_at.back) h.sized) in
      let off = h.piece_at.offset_is in
      ap (λ z. has_cells z t.offset k) h.piece ∙ le-leb (t.offset + k) (length h.cells) (omega (arith, len, off, l))

  pub has_all : {js : List FramePair} {o : LocalState} {s : Store} {n : Memory Plain} → St js o s n
      → (a : own.Address) (t : Address) → PointsTo p js a t → R a.spot → ops.has t (size p a.kind) n ≡ true
  has_all st a t k r = has_law a t (shown st a t k r) (size p a.kind) (omega arith)

  pub has_one : {js : List FramePair} {o : LocalState} {s : Store} {n : Memory Plain} → St js o s n
      → (a : own.Address) (t : Address) → PointsTo p js a t → R a.spot → ops.has t 1 n ≡ true
  has_one st a t k r = has_law a t (shown st a t k r) 1 (sized p formed a.kind k.typed).1

  pub has_none : {js : List FramePair} {o : LocalState} {s : Store} {n : Memory Plain} → St js o s n
      → (a : own.Address) (t : Address) → PointsTo p js a t → R a.spot → ops.has t 0 n ≡ true
  has_none st a t k r = has_law a t (shown st a t k r) 0 (omega arith)

  -- it is no further on than its variable has cells
  offset_small : HasSmallTypes p → {js : List FramePair} {s : Store} {n : Memory Plain} (a : own.Address) (t : Address)
      → Shown js s n a t → t.offset ≤ 4294967295
  offset_small small a t h =
      let ty = h.points.live.info.kind in
      let there : ty < length p.kinds = (let i =
      formed.kinds h.points.variable h.points.live.info h.points.live.known in omega (arith, i)) in
      let whole : length h.piece_at.front + length (leaves (get_at a.path h.tree) ++ h.piece_at.back) ≡ size p ty =
      sym (length-append h.piece_at.front (leaves (get_at a.path h.tree) ++ h.piece_at.back))
      ∙ ap length (sym h.piece_at.leaves_are)
      ∙ shaped_size p formed ty there h.tree h.flat.0 in
      let off = h.piece_at.offset_is in
      let few = small ty in
      omega (arith, whole, off, few)

  pub within_law : HasSmallTypes p → {js : List FramePair} {o : LocalState} {s : Store} {n : Memory Plain} → St js o s n
      → (a : own.Address) (t : Address) → PointsTo p js a t → R a.spot → nat_le t.offset 4294967295 ≡ true
  within_law small st a t k r = le-leb t.offset 4294967295 (offset_small small a t (shown st a t k r))

  -- the leaves of the whole, around a component that is one
  pub around : {js : List FramePair} {s : Store} {n : Memory Plain} (a : own.Address) (t : Address)
      → (h : Shown js s n a t)
      → IsOneCell (sort p a.kind)
      → CellsAre Named (h.piece_at.front ++ (get_at a.path h.tree ∷ h.piece_at.back)) h.cells
  around a t h one = subst (λ z. CellsAre Named z h.cells)
      (h.piece_at.leaves_are ∙ ap (λ z. h.piece_at.front ++ (z ++ h.piece_at.back))
      (leaf_if p formed a.kind one (get_at a.path h.tree) h.piece_at.shaped)) h.flat.1

  pub load_law : {js : List FramePair} {o : LocalState} {s : Store} {n : Memory Plain} → St js o s n
      → (a : own.Address) (t : Address) → PointsTo p js a t → R a.spot → IsOneCell (sort p a.kind)
      → CellIs Named (get_at a.path (value_in (s a.spot))) (ops.read t n)
  load_law {js} {o} {s} {n} st a t k r one =
      let h = shown st a t k r in
      subst (λ z. CellIs Named (get_at a.path (value_in z)) (ops.read t n)) (sym h.tree_is)
      (subst (λ z. CellIs Named (get_at a.path h.tree) (slice_index_or (cells_in z) t.offset cell.Undefined))
      (sym h.piece)
      (subst (λ z. CellIs Named (get_at a.path h.tree) (slice_index_or h.cells z cell.Undefined)) h.piece_at.offset_is
      (cells_look Named h.piece_at.front h.piece_at.back (get_at a.path h.tree) h.cells cell.Undefined
      (around a t h one))))

  pub pack_law : {js : List FramePair} {o : LocalState} {s : Store} {n : Memory Plain} → St js o s n
      → (a : own.Address) (t : Address) → PointsTo p js a t → R a.spot
      → Flat p Named a.kind (get_at a.path (value_in (s a.spot))) (ops.cells t (size p a.kind) n)
  pack_law {js} {o} {s} {n} st a t k r =
      let h = shown st a t k r in
      subst (λ z. Flat p Named a.kind (get_at a.path (value_in z)) (ops.cells t (size p a.kind) n)) (sym h.tree_is) (
        h.piece_at.shaped,
        subst (λ z. CellsAre Named (leaves (get_at a.path h.tree)) (part (cells_in z) t.offset (size p a.kind)))
            (sym h.piece)
            (subst (λ z. CellsAre Named (leaves (get_at a.path h.tree))
            (part h.cells z (size p a.kind))) h.piece_at.offset_is
            (subst (λ z. CellsAre Named (leaves (get_at a.path h.tree))
            (part h.cells (length h.piece_at.front) z)) h.sized
            (cells_part Named h.piece_at.front (leaves (get_at a.path h.tree)) h.piece_at.back h.cells
            (subst (λ z. CellsAre Named z h.cells) h.piece_at.leaves_are h.flat.1)))),
      )

  pub load_index_law : {js : List FramePair} {o : LocalState} {s : Store} {n : Memory Plain} → St js o s n
      → (v : ℤ) (t : Address)
      → FixesTo J js v t → (ops.has t 1 n ≡ true)
      × (ops.read t n ≡ cell.Ordinal v)
  load_index_law {js} {o} {s} {n} st v t fixes =
      let e = st.indexes fixes.height fixes.is_held fixes.frame fixes.rest fixes.index v fixes.from fixes.home_is in
      let address_is = fixes.address_is in (
        ap (λ (z : Address). has_cells (piece_of (map.get n.store.map z.spot)) z.offset 1) address_is
            ∙ ap (λ z. has_cells z 0 1) e,
        ap (λ (z : Address). slice_index_or (cells_in (piece_of (map.get n.store.map z.spot))) z.offset cell.Undefined)
            address_is ∙ ap (λ z. slice_index_or (cells_in z) 0 cell.Undefined) e,
      )

  pub left_law : {js : List FramePair} {o : LocalState} {s : Store} {n : Memory Plain} → St js o s n → R Input
      → ops.left n ≡ Some (drop (position_in (s Input)) g.input)
  left_law {js} {o} {s} {n} st r =
      let z = st.position r in
      ap (λ y. left_after g.input (m.position_in y)) z.2 ∙ ap (λ y. Some (drop (position_in y) g.input)) (sym z.1)

  pub has_output_law : {js : List FramePair} {o : LocalState} {s : Store} {n : Memory Plain} → St js o s n → R Output
      → ops.has_output n ≡ true
  has_output_law st r = let z = st.output r in ap (λ y. is_held (output_of y)) z.2
