-- What is put into a variable that is held, into the input's position and into the output.
use Rattle.std.proofs.Common.{◌≡◌, ◌⊎◌, inl, inr, ⊎_elim, ℕ, suc, ◌+◌, ◌<◌, ℤ, List, [], ◌∷◌, ◌++◌, Option, Some, Bool}
use Rattle.std.proofs.Common.{true, false, cond, if◌then◌else◌, length, refl, sym, ap, ◌∙◌, subst, arith}
use Rattle.std.specs.Prelude.{pos, ◌≢◌, IsSome, slice_get, slice_set, nat_lt, nat_le}
use Rattle.std.specs.FinMap as map
use Rattle.std.proofs.lemmas.Bool.{le-leb}
use Rattle.sp_base.specs.declared.fault.Fault.TheVariants as fault
use Rattle.sp_tree.specs.Plain.{Program, Variable}
use Rattle.sp_cell.specs.declared.cell.Cell.{Cell as OneCell}
use Rattle.sp_cell.specs.declared.cell.Cell.TheVariants as cell
use Rattle.sp_cell.specs.declared.spot.Spot.{Spot}
use Rattle.sp_cell.specs.declared.spot.Address.{Address}
use Rattle.sp_cell.specs.Lists.{part, splice}
use Rattle.sp_cell.proofs.Laws.{get_other, get_here, same_or}
use Rattle.sp_cell.specs.Map.{Map, Content, Plain, Own as Owned, Output as Bytes, Away, with_map, output_spot}
use Rattle.sp_cell.specs.Map.{output_of, bytes_of}
use Rattle.sp_meaning.specs.Maps.{at_key}
use Rattle.sp_meaning.specs.Model.{Name, Channel}
use Rattle.sp_meaning.specs.Values.{Value, Ordinal, Chan, get_at, set_at}
use Rattle.sp_meaning.specs.LocalWork.{RunInput, Loc, Cell, Input, Output, LocationContent, Tree, Position, Written}
use Rattle.sp_meaning.specs.LocalWork.{OfBlock, OfIndex}
use Rattle.sp_meaning.specs.LocalWork.{LocalState, Identity, value_in, position_in, content_with, same_loc, tick, Work}
use Rattle.sp_meaning.specs.LocalWork.{fail, write_location, set_local_state}
use Rattle.sp_meaning.specs.LocalWork as own
use Rattle.sp_meaning.specs.EffectTree.{run_tree}
use Rattle.sp_meaning.specs.Actions.{write}
use Rattle.sp_meaning.specs.Run.{Store, run}
use Rattle.sp_meaning.proofs.Instance.{loc_test}
use Rattle.sp_code.specs.declared.code.Parts.{Parts as Code}
use Rattle.sp_code.specs.Machine.{Entry, Done, Failed}
use Rattle.sp_code.specs.Memory.{Memory, with_store, cells_in, position_at}
use Rattle.sp_code.specs.Memory as m
use Rattle.sp_code.specs.PlainStore.{plain, piece_of}
use Rattle.sp_code.specs.Scopes.{Sort, Ordinals, Channels, Many, NoSort, sort, size, slot}
use Rattle.sp_codegen.specs.FramePairs.{FramePair, pairs_from}
use Rattle.sp_codegen.specs.Shapes.{leaves, SameShape, Shaped, CellIs, CellsAre, Flat}
use Rattle.sp_tree.specs.TreeShape.{IsFormed}
use Rattle.sp_codegen.specs.Relation.{OneCell as IsOneCell, StackHolds, Alike, cell_of}
use Rattle.sp_codegen.specs.MemoryRelation.{spot_at, Live, PointsTo, HeldAt, relation}
use Rattle.sp_codegen.proofs.Shapes.{cells_set, cells_over}
use Rattle.sp_codegen.proofs.Slots.{slot_same, slot_low}
use Rattle.sp_codegen.proofs.Locations.{St, ops, Shown, shown, around, leaf_if, simple_value, shaped_size, pack_law}
use Rattle.sp_codegen.proofs.Contents.{known_piece, known_bytes}

abbrev a_joint : FramePair → List FramePair → List FramePair → FramePair
a_joint d [] js = d
a_joint d (j ∷ is) js = j

pub first_same : (i j : FramePair) (is js : List FramePair) → i ∷ is ≡ j ∷ js → i ≡ j
first_same i j is js e = ap (λ z. a_joint i z []) e

module _ (g : RunInput) (code : Code) (w : Identity) (Named : Channel → ℕ → Type 0) (Called : Name → ℕ → Type 0)
    (W R : Loc → Type 0) (J : ℕ → Type 0) (low base born since pause : ℕ) (moved : List Spot)
    (formed : IsFormed g.program) where
  abbrev p : Program
  p = g.program

  abbrev S : List FramePair → LocalState → Store → Memory Plain → Type 0
  S js o s n = St g code w Named Called W R J low base born since pause moved formed js o s n

  abbrev here_spot : (js : List FramePair) (q : Name) (h x : ℕ) → Live p js q h x → Spot
  here_spot js q h x l = spot_at l.joint.machine.number (slot p x)

  abbrev Is : Map → Store → (l : Loc) → Spot → ℕ → Type 0
  Is m s l q k = HeldAt g.program Named s m l q k

  -- the memory with something else at one spot that is known
  abbrev with_content : Memory Plain → Spot → Content → Memory Plain
  with_content n q c = record n { store = with_map n.store (map.insert n.store.map q c) }

  changed : {js : List FramePair} {o : LocalState} {s : Store} {n : Memory Plain} → S js o s n
      → (sp : Spot) (c : Content)
      → IsSome (map.get n.store.map sp) → c ≢ Away → (s1 : Store)
      → ((q : Name) (h x : ℕ) → (l : Live p js q h x) → R (Cell q h x)
      → Is (map.insert n.store.map sp c) s1 (Cell q h x) (here_spot js q h x l) l.info.kind)
      → ((h : ℕ) → J h → (j : FramePair) (rest : List FramePair) (x : ℕ) (v : ℤ) → pairs_from (suc h) js ≡ j ∷ rest
      → j.source.home ≡ OfIndex x v → piece_of (map.get (map.insert n.store.map sp c) (spot_at j.machine.number 0))
      ≡ Some (cell.Ordinal v ∷ []))
      → (R Input → (k : ℕ) × (s1 Input ≡ Position k)
      × (piece_of (map.get (map.insert n.store.map sp c) position_at.spot) ≡ Some (cell.Ordinal (pos k) ∷ [])))
      → (R Output → (bs : List ℕ) × (s1 Output ≡ Written bs)
      × (map.get (map.insert n.store.map sp c) output_spot ≡ Some (Bytes bs)))
      → S js o s1 (with_content n sp c)
  changed {js} {o} {s} {n} t sp c there na s1 he ix po ou = record {
    frames = t.frames;
    ticks = t.ticks;
    since_is = t.since_is;
    moved_is = t.moved_is;
    known = λ q k. ⊎_elim (λ (e : q ≡ sp). t.known q (subst (λ z. IsSome (map.get n.store.map z)) (sym e) there))
        (λ (d : q ≢ sp). t.known q (subst IsSome (get_other n.store.map sp c q d) k)) (same_or q sp);
    unaway = λ q e. ⊎_elim (λ (i : q ≡ sp). (let z : Some c ≡ Some Away = sym (get_here n.store.map sp c)
        ∙ ap (λ y. map.get (map.insert n.store.map sp c) y) (sym i) ∙ e in absurd (na (cc z))))
        (λ (d : q ≢ sp). t.unaway q (sym (get_other n.store.map sp c q d) ∙ e)) (same_or q sp);
    held = he;
    indexes = ix;
    position = po;
    output = ou;
  }

  -- two that are held at one spot are one
  same_place : {js : List FramePair} {o : LocalState} {s : Store} {n : Memory Plain} → S js o s n → (q : Name) (h x : ℕ)
      → (l : Live p js q h x) → R (Cell q h x) → (q2 : Name) (h2 x2 : ℕ) → (l2 : Live p js q2 h2 x2) → R (Cell q2 h2 x2)
      → here_spot js q2 h2 x2 l2 ≡ here_spot js q h x l → (Cell q2 h2 x2 ≡ Cell q h x) × (l2.info.kind ≡ l.info.kind)
  same_place {js} t q h x l r q2 h2 x2 l2 r2 e =
      let hh : h2 ≡ h = t.frames.apart h2 h l2.joint l.joint l2.rest l.rest l2.frame_at l.frame_at
      (inl (q2, x2, l2, r2))
      (inl (q, x, l, r)) (ap (λ (z : Spot). z.frame) e) in
      let jj : l2.joint ≡ l.joint = first_same l2.joint l.joint l2.rest l.rest
      (sym l2.frame_at ∙ ap (λ z. pairs_from (suc z) js) hh ∙ l.frame_at) in
      let qq : q2 ≡ q = sym l2.owner_is ∙ ap (λ (z : FramePair). z.source.owner) jj ∙ l.owner_is in
      let home : OfBlock l2.info.block ≡ OfBlock l.info.block = sym l2.home ∙ ap (λ (z : FramePair). z.source.home) jj
      ∙ l.home in
      let bb : l2.info.block ≡ l.info.block = cc home in
      let xx : x2 ≡ x = slot_same p formed x2 x l2.info l.info l2.known l.known bb l2.owns
      (ap (λ (z : Spot). z.variable) e) in
      let vv : Some l2.info ≡ Some l.info = sym l2.known ∙ ap (λ z. slice_get p.variables z) xx ∙ l.known in
      let ii : l2.info ≡ l.info = cc vv in
      (λ i. Cell (qq i) (hh i) (xx i), ap (λ (z : Variable). z.kind) ii)

  -- a variable and an index stand at different spots
  no_index : {js : List FramePair} {o : LocalState} {s : Store} {n : Memory Plain} → S js o s n → (q : Name) (h x : ℕ)
      → (l : Live p js q h x) → R (Cell q h x) → (h2 : ℕ) → J h2 → (j : FramePair) (rest : List FramePair) (x2 : ℕ)
      (v : ℤ)
      → pairs_from (suc h2) js ≡ j ∷ rest → j.source.home ≡ OfIndex x2 v
      → spot_at j.machine.number 0 ≢ here_spot js q h x l
  no_index {js} t q h x l r h2 jh j rest x2 v at home e =
      let hh : h2 ≡ h = t.frames.apart h2 h j l.joint rest l.rest at l.frame_at
      (inr (inl (jh, (j, rest, x2, v, at, home))))
      (inl (q, x, l, r)) (ap (λ (z : Spot). z.frame) e) in
      let jj : j ≡ l.joint = first_same j l.joint rest l.rest
      (sym at ∙ ap (λ z. pairs_from (suc z) js) hh ∙ l.frame_at) in
      let no : OfIndex x2 v ≡ OfBlock l.info.block = sym home ∙ ap (λ (z : FramePair). z.source.home) jj ∙ l.home in
      absurd (cc no)

  -- and so do a variable and the input or the output
  no_console : {js : List FramePair} {o : LocalState} {s : Store} {n : Memory Plain} → S js o s n → (q : Name) (h x : ℕ)
      → (l : Live p js q h x) → R (Cell q h x) → R Input ⊎ R Output → (k : ℕ) → k < 2
      → spot_at 0 k ≢ here_spot js q h x l
  no_console {js} t q h x l r rc k lt e =
      let (frame, rest, from, number_is) = t.frames.bottom rc in
      let hh : 0 ≡ h = t.frames.apart 0 h frame l.joint rest l.rest from l.frame_at (inr (inr (inl (rc, refl))))
      (inl (q, x, l, r))
      (number_is ∙ ap (λ (z : Spot). z.frame) e) in
      let jj : frame ≡ l.joint = first_same frame l.joint rest l.rest (sym from ∙ ap (λ z. pairs_from (suc z) js) hh
      ∙ l.frame_at) in
      let bb : OfBlock 0 ≡ OfBlock l.info.block = sym (t.frames.root frame rest from)
      ∙ ap (λ (z : FramePair). z.source.home) jj
      ∙ l.home in
      let zero_is : 0 ≡ l.info.block = cc bb in
      let s2 = slot_low p formed x l.info l.known (sym zero_is) in
      let k2 : k ≡ slot p x = ap (λ (z : Spot). z.variable) e in
      absurd (omega (arith, s2, k2, lt))

  own_is_piece : (cs : List OneCell) → Owned cs ≢ Away
  own_is_piece cs e = absurd (cc e)

  -- another value in a variable that is held
  pub update : {js : List FramePair} {o : LocalState} {s : Store} {n : Memory Plain} → S js o s n → (q : Name) (h x : ℕ)
      → (l : Live p js q h x) → R (Cell q h x) → (s1 : Store) (tree : Value) (cs : List OneCell)
      → s1 (Cell q h x) ≡ Tree tree
      → ((l2 : Loc) → l2 ≢ Cell q h x → s1 l2 ≡ s l2) → Flat p Named l.info.kind tree cs
      → S js o s1 (with_content n (here_spot js q h x l) (Owned cs))
  update {js} {o} {s} {n} t q h x l r s1 tree cs here there f =
      changed t sp (Owned cs) (known_piece (map.get n.store.map sp) was.cells was.piece) (own_is_piece cs) s1
      (λ q2 h2 x2 l2 r2. ⊎_elim
      (λ (e : here_spot js q2 h2 x2 l2 ≡ sp). (let z = same_place t q h x l r q2 h2 x2 l2 r2 e in
      record {
        tree = tree;
        tree_is = ap s1 z.0 ∙ here;
        cells = cs;
        piece = ap piece_of (ap (λ y. map.get m1 y) e ∙ get_here n.store.map sp (Owned cs));
        flat = subst (λ y. Flat p Named y tree cs) (sym z.1) f;
      }))
      (λ (d : here_spot js q2 h2 x2 l2 ≢ sp). (let old = t.held q2 h2 x2 l2 r2 in
      record {
        tree = old.tree;
        tree_is = there (Cell q2 h2 x2) (λ e. d (same_spot q2 h2 x2 l2 e)) ∙ old.tree_is;
        cells = old.cells;
        piece = ap piece_of (get_other n.store.map sp (Owned cs) (here_spot js q2 h2 x2 l2) d)
            ∙ old.piece;
        flat = old.flat;
      }))
      (same_or (here_spot js q2 h2 x2 l2) sp))
      (λ h2 jh j rest x2 v at home. ap piece_of
      (get_other n.store.map sp (Owned cs) (spot_at j.machine.number 0)
      (no_index t q h x l r h2 jh j rest x2 v at home)) ∙ t.indexes h2 jh j rest x2 v at home)
      (λ ri. let z = t.position ri in (
        z.0,
        there Input (λ e. absurd (cc e)) ∙ z.1,
        ap piece_of (get_other n.store.map sp (Owned cs) position_at.spot
            (no_console t q h x l r (inl ri) 0 (omega arith))) ∙ z.2,
      ))
      (λ ro. let z = t.output ro in (
        z.0,
        there Output (λ e. absurd (cc e)) ∙ z.1,
        get_other n.store.map sp (Owned cs) output_spot (no_console t q h x l r (inr ro) 1 (omega arith)) ∙ z.2,
      ))
    where
      sp : Spot
      sp = here_spot js q h x l

      m1 : Map
      m1 = map.insert n.store.map sp (Owned cs)

      was : Is n.store.map s (Cell q h x) sp l.info.kind
      was = t.held q h x l r

      same_spot : (q2 : Name) (h2 x2 : ℕ) → (l2 : Live p js q2 h2 x2) → Cell q2 h2 x2 ≡ Cell q h x
          → here_spot js q2 h2 x2 l2 ≡ sp
      same_spot q2 h2 x2 l2 e =
          let hh : h2 ≡ h = cc e in
          let xx : x2 ≡ x = cc e in
          let jj : l2.joint ≡ l.joint = first_same l2.joint l.joint l2.rest l.rest
          (sym l2.frame_at ∙ ap (λ z. pairs_from (suc z) js) hh ∙ l.frame_at) in
          λ i. spot_at (jj i).machine.number (slot p (xx i))

  -- a store with another value at one location
  put_here : (s : Store) (l k : Loc) (v : LocationContent) → l ≡ k → at_key same_loc l v s k ≡ v
  put_here s l k v e = ap (λ b. cond b v (s k)) ((loc_test l k).1 e)

  put_there : (s : Store) (l k : Loc) (v : LocationContent) → k ≢ l → at_key same_loc l v s k ≡ s k
  put_there s l k v d = go (same_loc l k) refl
    where
      go : (b : Bool) → same_loc l k ≡ b → cond b v (s k) ≡ s k
      go true e = absurd (d (sym ((loc_test l k).0 e)))
      go false e = refl

  -- a component of a variable that is held gets a value: at t stand cs afterwards
  put_at : {js : List FramePair} {o : LocalState} {s : Store} {n : Memory Plain} → S js o s n
      → (a : own.Address) (t : Address)
      → (h : Shown g code w Named Called W R J low base born since pause moved formed js s n a t) → (v : Value)
      → Shaped p a.kind v → (cs : List OneCell)
      → CellsAre Named (h.piece_at.front ++ (leaves v ++ h.piece_at.back)) cs
      → S js o (at_key same_loc a.spot (content_with a (s a.spot) (Tree v)) s)
      (with_store plain n (plain.owned n.store t.spot cs))
  put_at {js} {o} {s} {n} st a t h v sv cs are =
      let k = h.points in
      let z = h.piece_at.set v sv in
      subst (λ y. S js o (at_key same_loc a.spot (content_with a (s a.spot) (Tree v)) s)
      (with_store plain n (plain.owned n.store y cs))) (sym k.spot_is)
      (update st k.owner k.frame k.variable k.live h.may (at_key same_loc a.spot (content_with a (s a.spot) (Tree v)) s)
      (set_at a.path v h.tree) cs
      (put_here s a.spot (Cell k.owner k.frame k.variable) (content_with a (s a.spot) (Tree v)) k.cell_is
      ∙ ap (λ y. content_with a y (Tree v)) h.tree_is)
      (λ l2 d. put_there s a.spot l2 (content_with a (s a.spot) (Tree v)) (λ e. d (e ∙ k.cell_is)))
      (z.1, subst (λ y. CellsAre Named y cs) (sym z.0) are))

  stood_cell : (k : ℕ) (z : Sort) → sort p k ≡ z → IsOneCell z → (v : Value) (e : Entry)
      → StackHolds (relation g code w Named Called W R J low base born since pause moved) p z k v e
      → CellIs Named v (cell_of e) × Shaped p k v
  stood_cell k Ordinals i one v e (number, value_is, entry_is) = (
    subst (λ y. CellIs Named y (cell_of e)) (sym value_is)
        (subst (λ y. CellIs Named (Ordinal number) (cell_of y)) (sym entry_is) refl),
    subst (λ y. Shaped p k y) (sym value_is)
        (subst (λ y. SameShape y (Ordinal number)) (sym (simple_value p formed k (subst IsOneCell (sym i) tt))) tt),
  )
  stood_cell k Channels i one v e (c, _, value_is, entry_is, named) = (
    subst (λ y. CellIs Named y (cell_of e)) (sym value_is)
        (subst (λ y. CellIs Named (Chan c) (cell_of y)) (sym entry_is) named),
    subst (λ y. Shaped p k y) (sym value_is)
        (subst (λ y. SameShape y (Chan c)) (sym (simple_value p formed k (subst IsOneCell (sym i) tt))) tt),
  )
  stood_cell k Many i one v e s = absurd one
  stood_cell k NoSort i one v e s = absurd one

  pub store_law : {js : List FramePair} {o : LocalState} {s : Store} {n : Memory Plain} → S js o s n
      → (a : own.Address) (t : Address) → PointsTo p js a t → R a.spot → IsOneCell (sort p a.kind)
      → (v : Value) (e : Entry) → StackHolds (relation g code w Named Called W R J low base born since pause moved) p
      (sort p a.kind) a.kind v e
      → S js o (at_key same_loc a.spot (content_with a (s a.spot) (Tree v)) s)
      ((ops g code w Named Called W R J low base born since pause moved formed).put t (cell_of e) n)
  store_law {js} {o} {s} {n} st a t k r one v e stood =
      let h = shown g code w Named Called W R J low base born since pause moved formed st a t k r in
      let c = stood_cell a.kind (sort p a.kind) refl one v e stood in
      let cs = slice_set h.cells (length h.piece_at.front) (cell_of e) in
      let is : cs ≡ slice_set (cells_in (piece_of (map.get n.store.map t.spot))) t.offset (cell_of e) =
      ap (λ y. slice_set h.cells y (cell_of e)) h.piece_at.offset_is
      ∙ ap (λ y. slice_set (cells_in y) t.offset (cell_of e)) (sym h.piece) in
      subst (λ y. S js o (at_key same_loc a.spot (content_with a (s a.spot) (Tree v)) s)
      (with_store plain n (plain.owned n.store t.spot y))) is
      (put_at st a t h v c.1 cs (subst (λ y. CellsAre Named (h.piece_at.front ++ (y ++ h.piece_at.back)) cs)
      (sym (leaf_if p formed a.kind one v c.1))
      (cells_set Named h.piece_at.front h.piece_at.back (get_at a.path h.tree) v h.cells (cell_of e)
      (around g code w Named Called W R J low base born since pause moved formed a t h one) c.0)))

  -- many cells put
  pub put_cells_law : {js : List FramePair} {o : LocalState} {s : Store} {n : Memory Plain} → S js o s n
      → (a : own.Address) (t : Address) → PointsTo p js a t → R a.spot → (v : Value) (ds : List OneCell)
      → Flat p Named a.kind v ds
      → S js o (at_key same_loc a.spot (content_with a (s a.spot) (Tree v)) s)
      (with_store plain n (m.put_cells plain t ds n.store))
  put_cells_law {js} {o} {s} {n} st a t k r v ds f =
      let h = shown g code w Named Called W R J low base born since pause moved formed st a t k r in
      let cs = splice h.cells (length h.piece_at.front) ds in
      let is : cs ≡ splice (cells_in (piece_of (map.get n.store.map t.spot))) t.offset ds =
      ap (λ y. splice h.cells y ds) h.piece_at.offset_is
      ∙ ap (λ y. splice (cells_in y) t.offset ds) (sym h.piece) in
      subst (λ y. S js o (at_key same_loc a.spot (content_with a (s a.spot) (Tree v)) s)
      (with_store plain n (plain.owned n.store t.spot y))) is
      (put_at st a t h v f.0 cs
      (cells_over Named h.piece_at.front (leaves (get_at a.path h.tree)) h.piece_at.back (leaves v)
      h.cells ds (subst (λ y. CellsAre Named y h.cells) h.piece_at.leaves_are h.flat.1) f.1
      (shaped_size p formed a.kind k.typed v f.0 ∙ sym h.sized)))

  pub copy_law : {js : List FramePair} {o : LocalState} {s : Store} {n : Memory Plain} → S js o s n
      → (a b : own.Address) (t u : Address) → PointsTo p js a t → PointsTo p js b u → R a.spot → R b.spot
      → a.kind ≡ b.kind
      → S js o (at_key same_loc a.spot (content_with a (s a.spot) (Tree (get_at b.path (value_in (s b.spot))))) s)
      ((ops g code w Named Called W R J low base born since pause moved formed).copy t u (size p a.kind) n)
  copy_law {js} {o} {s} {n} st a b t u k l r q e =
      let v = get_at b.path (value_in (s b.spot)) in
      let f : Flat p Named b.kind v (part (cells_in (piece_of (map.get n.store.map u.spot))) u.offset (size p b.kind)) =
      pack_law g code w Named Called W R J low base born since pause moved formed st b u l q in
      put_cells_law st a t k r v (part (cells_in (piece_of (map.get n.store.map u.spot))) u.offset (size p a.kind))
      (subst (λ y. Flat p Named y v (part (cells_in (piece_of (map.get n.store.map u.spot))) u.offset (size p y)))
      (sym e) f)

  pub make_own_law : {js : List FramePair} {o : LocalState} {s : Store} {n : Memory Plain} → S js o s n
      → (a : own.Address) (t : Address) → PointsTo p js a t → R a.spot
      → S js o s ((ops g code w Named Called W R J low base born since pause moved formed).make_own t n)
  make_own_law {js} {o} {s} {n} st a t k r =
      let h = shown g code w Named Called W R J low base born since pause moved formed st a t k r in
      subst (λ y. S js o s (with_store plain n (plain.owned n.store t.spot (cells_in y)))) (sym h.piece)
      (subst (λ y. S js o s (with_store plain n (plain.owned n.store y h.cells))) (sym h.points.spot_is)
      (update st h.points.owner h.points.frame h.points.variable h.points.live h.may s h.tree h.cells
      (ap s (sym h.points.cell_is) ∙ h.tree_is) (λ l2 d. refl) h.flat))

  -- ---- the input's position, and the output

  a_variable : {js : List FramePair} {o : LocalState} {s : Store} {n : Memory Plain} → S js o s n
      → (sp : Spot) (c : Content) (s1 : Store) → ((q : Name) (h x : ℕ) → s1 (Cell q h x) ≡ s (Cell q h x))
      → ((q : Name) (h x : ℕ) → (l : Live p js q h x) → R (Cell q h x) → here_spot js q h x l ≢ sp)
      → (q : Name) (h x : ℕ) → (l : Live p js q h x) → R (Cell q h x)
      → Is (map.insert n.store.map sp c) s1 (Cell q h x) (here_spot js q h x l) l.info.kind
  a_variable {js} {n = n} t sp c s1 same other q h x l r =
      let old = t.held q h x l r in
      record {
        tree = old.tree;
        tree_is = same q h x ∙ old.tree_is;
        cells = old.cells;
        piece = ap piece_of (get_other n.store.map sp c (here_spot js q h x l) (other q h x l r)) ∙ old.piece;
        flat = old.flat;
      }

  -- an index and a console stand at different spots
  no_index_console : {js : List FramePair} {o : LocalState} {s : Store} {n : Memory Plain} → S js o s n → R Input
      ⊎ R Output
      → (k : ℕ) (h : ℕ) → J h → (j : FramePair) (rest : List FramePair) (x : ℕ) (v : ℤ)
      → pairs_from (suc h) js ≡ j ∷ rest
      → j.source.home ≡ OfIndex x v → spot_at j.machine.number 0 ≢ spot_at 0 k
  no_index_console {js} t rc k h jh j rest x v at home e =
      let (frame, above, from, number_is) = t.frames.bottom rc in
      let hh : h ≡ 0 = t.frames.apart h 0 j frame rest above at from (inr (inl (jh, (j, rest, x, v, at, home))))
      (inr (inr (inl (rc, refl)))) (ap (λ (z : Spot). z.frame) e ∙ sym number_is) in
      let jj : j ≡ frame = first_same j frame rest above (sym at ∙ ap (λ z. pairs_from (suc z) js) hh ∙ from) in
      let no : OfIndex x v ≡ OfBlock 0 = sym home ∙ ap (λ (z : FramePair). z.source.home) jj
      ∙ t.frames.root frame above from in
      absurd (cc no)

  flip : {A : Type 0} {x y : A} → x ≢ y → y ≢ x
  flip d e = d (sym e)

  pub advance_law : {js : List FramePair} {o : LocalState} {s : Store} {n : Memory Plain} → S js o s n → R Input
      → (k : ℕ)
      → S js o (at_key same_loc Input (Position (position_in (s Input) + k)) s)
      ((ops g code w Named Called W R J low base born since pause moved formed).advance k n)
  advance_law {js} {o} {s} {n} t ri k =
      let z = t.position ri in
      let cs : List OneCell = cell.Ordinal (pos (z.0 + k)) ∷ [] in
      let s1 = at_key same_loc Input (Position (position_in (s Input) + k)) s in
      let is : cs ≡ slice_set (cells_in (piece_of (map.get n.store.map position_at.spot))) 0
      (cell.Ordinal (pos (m.or_zero (m.position_in (piece_of (map.get n.store.map position_at.spot))) + k))) =
      ap (λ y. slice_set (cells_in y) 0 (cell.Ordinal (pos (m.or_zero (m.position_in y) + k)))) (sym z.2) in
      subst (λ y. S js o s1 (with_store plain n (plain.owned n.store position_at.spot y))) is
      (changed t position_at.spot (Owned cs) (known_piece (map.get n.store.map position_at.spot) _ z.2)
      (own_is_piece cs) s1
      (a_variable t position_at.spot (Owned cs) s1 (λ q h x. refl)
      (λ q h x l r. flip (no_console t q h x l r (inl ri) 0 (omega arith))))
      (λ h jh j rest x v at home. ap piece_of
      (get_other n.store.map position_at.spot (Owned cs) (spot_at j.machine.number 0)
      (no_index_console t (inl ri) 0 h jh j rest x v at home)) ∙ t.indexes h jh j rest x v at home)
      (λ r2. (
        z.0 + k,
        ap (λ y. Position (position_in y + k)) z.1,
        ap piece_of (get_here n.store.map position_at.spot (Owned cs)),
      ))
      (λ ro. let y = t.output ro in (
        y.0,
        y.1,
        get_other n.store.map position_at.spot (Owned cs) output_spot other
            ∙ y.2,
      )))
    where
      other : output_spot ≢ position_at.spot
      other e = let x : 1 ≡ 0 = ap (λ (z : Spot). z.variable) e in absurd (omega (arith, x))

  bytes_no_away : (bs : List ℕ) → Bytes bs ≢ Away
  bytes_no_away bs e = absurd (cc e)

  printed : {js : List FramePair} {o : LocalState} {s : Store} {n : Memory Plain} → S js o s n → R Output
      → (bs ts : List ℕ)
      → s Output ≡ Written bs → map.get n.store.map output_spot ≡ Some (Bytes bs)
      → S js o (at_key same_loc Output (Written (bs ++ ts)) s) (with_content n output_spot (Bytes (bs ++ ts)))
  printed {js} {o} {s} {n} t ro bs ts e f =
      changed t output_spot (Bytes (bs ++ ts)) (known_bytes _ bs f) (bytes_no_away (bs ++ ts))
      (at_key same_loc Output (Written (bs ++ ts)) s)
      (a_variable t output_spot (Bytes (bs ++ ts)) (at_key same_loc Output (Written (bs ++ ts)) s) (λ q h x. refl)
      (λ q h x l r. flip (no_console t q h x l r (inr ro) 1 (omega arith))))
      (λ h jh j rest x v at home. ap piece_of
      (get_other n.store.map output_spot (Bytes (bs ++ ts)) (spot_at j.machine.number 0)
      (no_index_console t (inr ro) 1 h jh j rest x v at home)) ∙ t.indexes h jh j rest x v at home)
      (λ ri. let y = t.position ri in (
        y.0,
        y.1,
        ap piece_of (get_other n.store.map output_spot (Bytes (bs ++ ts)) position_at.spot other) ∙ y.2,
      ))
      (λ r2. (bs ++ ts, refl, get_here n.store.map output_spot (Bytes (bs ++ ts))))
    where
      other : position_at.spot ≢ output_spot
      other e = let x : 0 ≡ 1 = ap (λ (z : Spot). z.variable) e in absurd (omega (arith, x))

  pub print_law : {js : List FramePair} {o : LocalState} {s : Store} {n : Memory Plain} → S js o s n → R Output
      → (ts : List ℕ)
      → Alike (relation g code w Named Called W R J low base born since pause moved) js s (run (write g ts) w o s)
      ((ops g code w Named Called W R J low base born since pause moved formed).print ts n)
  print_law {js} {o} {s} {n} t ro ts =
      let z = t.output ro in
      subst (λ x. K x (map.get n.store.map output_spot)) (sym z.1)
      (subst (λ y. K (Written z.0) y) (sym z.2) (go z.0 z.1 z.2 (nat_lt g.limits.output (length z.0 + length ts))))
    where
      K : LocationContent → Option Content → Type 0
      K x y = Alike (relation g code w Named Called W R J low base born since pause moved) js s
          (run_tree same_loc ((if nat_lt g.limits.output (length (own.bytes_in x) + length ts) then fail fault.F16 else
          write_location Output (Written (own.bytes_in x ++ ts))) w o) s)
          (if nat_lt g.limits.output (length (m.bytes_in (output_of y)) + length ts) then Failed fault.F16 else
          Done (with_content n output_spot (Bytes (bytes_of y ++ ts))))

      go : (bs : List ℕ) → s Output ≡ Written bs → map.get n.store.map output_spot ≡ Some (Bytes bs) → (b : Bool)
          → Alike (relation g code w Named Called W R J low base born since pause moved) js s
          (run_tree same_loc ((if b then fail fault.F16 else write_location Output (Written (bs ++ ts))) w o) s)
          (if b then Failed fault.F16 else Done (with_content n output_spot (Bytes (bs ++ ts))))
      go bs e f true = (refl, refl)
      go bs e f false = printed t ro bs ts e f

  -- ---- counts

  ticked : {js : List FramePair} {o : LocalState} {s : Store} {n : Memory Plain} → S js o s n
      → S js (record o { ticks = o.ticks + 1 }) s (record n { ticks = n.ticks + 1 })
  ticked t = record {
    frames = t.frames;
    ticks = ap (λ z. z + 1) t.ticks;
    since_is = t.since_is;
    moved_is = t.moved_is;
    known = t.known;
    unaway = t.unaway;
    held = λ q h x l r. (let z = t.held q h x l r in
        record { tree = z.tree; tree_is = z.tree_is; cells = z.cells; piece = z.piece; flat = z.flat });
    indexes = t.indexes;
    position = t.position;
    output = t.output;
  }

  pub tick_law : {js : List FramePair} {o : LocalState} {s : Store} {n : Memory Plain} → S js o s n
      → Alike (relation g code w Named Called W R J low base born since pause moved) js s (run (tick g.limits) w o s)
      ((ops g code w Named Called W R J low base born since pause moved formed).tick n)
  tick_law {js} {o} {s} {n} t = go (nat_lt o.ticks g.limits.ticks) (nat_lt n.ticks g.limits.ticks)
      (ap (λ z. nat_lt z g.limits.ticks) t.ticks)
    where
      counting : Bool → Work (Unit {0})
      counting b w1 o1 = if b then set_local_state (record o1 { ticks = o1.ticks + 1 }) w1 o1 else fail fault.F10 w1 o1

      go : (b c : Bool) → b ≡ c → Alike (relation g code w Named Called W R J low base born since pause moved) js s
          (run (counting b) w o s) (if c then Done (record n { ticks = n.ticks + 1 }) else Failed fault.F10)
      go true true e = ticked t
      go true false e = absurd (cc e)
      go false true e = absurd (cc e)
      go false false e = (refl, refl)

  pub fork_law : {js : List FramePair} {o : LocalState} {s : Store} {n : Memory Plain} → S js o s n
      → nat_lt o.depth g.limits.depth ≡ (ops g code w Named Called W R J low base born since pause moved
      formed).may_fork n
  fork_law t = ap (λ z. nat_lt z g.limits.depth) t.frames.depth

  pub due_law : {js : List FramePair} {o : LocalState} {s : Store} {n : Memory Plain} → S js o s n
      → nat_le (since + pause) o.ticks ≡ (ops g code w Named Called W R J low base born since pause moved formed).due n
  due_law {n = n} t = ap (λ z. nat_le (since + pause) z) t.ticks ∙ ap (λ z. nat_le (z + pause) n.ticks) (sym t.since_is)

  pub fits_law : {js : List FramePair} {o : LocalState} {s : Store} {n : Memory Plain} → S js o s n
      → (ops g code w Named Called W R J low base born since pause moved formed).fits n ≡ true
  fits_law {n = n} t = let a = t.frames.fits in let b = t.frames.cells in le-leb n.cells g.limits.cells
      (omega (arith, a, b))
