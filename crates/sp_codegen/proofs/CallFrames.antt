-- A call: the arguments fit, there is a number for the frame, and the new frame stands for that of the meaning.
use Rattle.sp_tree.specs.Interference.{IsMember}
use Rattle.std.proofs.Common.{◌≡◌, ◌⊎◌, inl, inr, ⊎_elim, ℕ, suc, ◌+◌, ◌<◌, ◌≤◌, ◌==◌, ℤ, List, [], ◌∷◌, ◌++◌, Some}
use Rattle.std.proofs.Common.{Bool, true, false, ◌&&◌, if◌then◌else◌, length, refl, sym, ap, ◌∙◌, subst, arith}
use Rattle.std.proofs.Common.{eqb-true, eq-eqb}
use Rattle.std.specs.Prelude.{IsSome, map, sum, slice_get, replicate, option_map}
use Rattle.std.proofs.lemmas.Option.{slice_get-map}
use Rattle.std.proofs.lemmas.List.{append_assoc}
use Rattle.std.specs.FinMap as fin
use Rattle.sp_tree.specs.declared.checked.Role.{Role}
use Rattle.sp_tree.specs.declared.checked.Role.TheVariants as role
use Rattle.sp_tree.specs.Cells.{variables_of, sizes, cells_by}
use Rattle.sp_tree.specs.Plain.{Program, Variable, Block}
use Rattle.sp_cell.specs.declared.cell.Cell.TheVariants as cell
use Rattle.sp_cell.specs.declared.spot.Spot.{Spot}
use Rattle.sp_cell.specs.declared.spot.Address.{Address}
use Rattle.sp_cell.specs.Frame.{next_frame, with_pieces, with_new_frame}
use Rattle.sp_cell.proofs.FrameLaws.{known_pieces, is_other}
use Rattle.sp_cell.specs.Map.{Map, Plain, output_spot}
use Rattle.sp_meaning.specs.Model.{Name, Channel}
use Rattle.sp_meaning.specs.Values.{Value}
use Rattle.sp_meaning.specs.LocalWork.{RunInput, Loc, Cell, Input, Output, OfBlock, OfIndex, LocalState, Identity}
use Rattle.sp_meaning.specs.LocalWork.{reference_target}
use Rattle.sp_meaning.specs.LocalWork as own
use Rattle.sp_meaning.specs.Eval.{ArgumentValue, ValueOf, PlaceOf}
use Rattle.sp_meaning.specs.Actions.{references, size_of_frame}
use Rattle.sp_meaning.specs.Run.{Store}
use Rattle.sp_code.specs.declared.code.Formal.TheVariants as formal
use Rattle.sp_code.specs.declared.code.Layout.{Layout}
use Rattle.sp_code.specs.declared.code.Parts.{Parts as Code}
use Rattle.sp_code.specs.Machine.{Entry, fits_formal, fit_formals}
use Rattle.sp_code.specs.Memory.{Memory, frames_up, position_at}
use Rattle.sp_code.specs.Memory as m
use Rattle.sp_code.specs.PlainStore.{piece_of}
use Rattle.sp_code.specs.Scopes.{Sort, Ordinals, Channels, Many, NoSort, as_list, is_local, sort, size, frame_of, slot}
use Rattle.sp_code.specs.TreeCode.{formal_by, formal_of, cells_of}
use Rattle.sp_code.specs.TreeCode as emitted
use Rattle.sp_codegen.specs.FramePairs.{FramePair, sources, machines, pairs_from, up_at}
use Rattle.sp_codegen.specs.Shapes.{leaves, initial_value}
use Rattle.sp_tree.specs.TreeShape.{IsFormed, is_parameter, numbers_with_role}
use Rattle.sp_codegen.specs.Relation.{Owns, OneCell as IsOneCell, StackHolds, GivenIs, GivensAre, frame_for}
use Rattle.sp_codegen.specs.Relation.{Relation}
use Rattle.sp_codegen.specs.MemoryRelation.{Paired, spot_at, Live, PointsTo, ReferencesAre, HeldAt, HoldsIn}
use Rattle.sp_codegen.specs.MemoryRelation.{made_frames}
use Rattle.sp_codegen.specs.MemoryRelation.{relation}
use Rattle.sp_codegen.proofs.Shapes.{cells_length}
use Rattle.sp_codegen.proofs.Types.{sized}
use Rattle.sp_codegen.proofs.Slots.{HasVar, among_has, variables_has, frame_has}
use Rattle.sp_codegen.proofs.FramePairs.{from_push, from_length, from_cases, up_from, machines_length, from_inside}
use Rattle.sp_codegen.proofs.Numbers.{made_own, made_more, made_new, made_at, next_small, known_before, own_before}
use Rattle.sp_codegen.proofs.Numbers.{are_known, AreKnown, frame_is, frame_cells}
use Rattle.sp_codegen.proofs.FirstValues.{new_flat}
use Rattle.sp_codegen.proofs.Locations.{St, outward, simple_value, shaped_size}
use Rattle.sp_codegen.proofs.Stores.{first_same}
use Rattle.sp_code.proofs.Pieces.{pieces_other, pieces_at, pieces_unaway}
use Rattle.sp_codegen.proofs.FrameStores.{index_at, Rises, among_rises, Numbered, numbered_low, numbered_in}
use Rattle.sp_codegen.proofs.FrameStores.{slot_from_zero}
use Rattle.sp_codegen.proofs.FrameStores.{laid, laid_other, laid_at}
use Rattle.sp_codegen.proofs.Contents.{known_piece, known_bytes}

-- the variables of a block are of it
abbrev pub AreOf : ℕ → List (ℕ × Variable) → Type 0
AreOf b [] = Unit {0}
AreOf b (x ∷ xs) = (x.1.block ≡ b) × AreOf b xs

pub are_of : (b x0 : ℕ) (vs : List Variable) → AreOf b (variables_of b x0 vs)
are_of b x0 [] = tt
are_of b x0 (v ∷ vs) = go (v.block == b) refl (are_of b (suc x0) vs)
  where
    go : (t : Bool) → v.block == b ≡ t → AreOf b (variables_of b (suc x0) vs)
        → AreOf b (if t then (x0, v) ∷ variables_of b (suc x0) vs else variables_of b (suc x0) vs)
    go true t ih = (eqb-true v.block b t, ih)
    go false t ih = ih

module _ (p : Program) (formed : IsFormed p) where
  pub among_of : (fits : Role → Bool) (b x : ℕ) (xs : List (ℕ × Variable)) → AreKnown p formed xs → AreOf b xs
      → IsMember x (numbers_with_role fits xs) → (v : Variable) × (slice_get p.variables x ≡ Some v) × (v.block ≡ b)
  among_of fits b x [] k o h = absurd h
  among_of fits b x (y ∷ ys) k o h = go (fits y.1.role) (among_of fits b x ys k.1 o.1) h
    where
      go : (c : Bool) → (IsMember x (numbers_with_role fits ys) → (v : Variable) × (slice_get p.variables x ≡ Some v)
          × (v.block ≡ b)) → IsMember x (if c then y.0 ∷ numbers_with_role fits ys else numbers_with_role fits ys)
          → (v : Variable)
          × (slice_get p.variables x ≡ Some v) × (v.block ≡ b)
      go true ih (inl i) = (y.1, ap (λ z. slice_get p.variables z) i ∙ k.0, o.0)
      go true ih (inr i) = ih i
      go false ih i = ih i

  -- a parameter is a variable of its block
  pub formal_of_block : (f : ℕ) (b : Block) → slice_get p.blocks f ≡ Some b → (x : ℕ) → IsMember x b.formals
      → (v : Variable) × (slice_get p.variables x ≡ Some v) × (v.block ≡ f)
  formal_of_block f b e x i = among_of is_parameter f x (variables_of f 0 p.variables) (are_known p formed f)
      (are_of f 0 p.variables) (subst (λ y. IsMember x y) (formed.formals f b e) i)

  pub formals_numbered : (f : ℕ) (b : Block) (q : ℕ) → slice_get p.blocks f ≡ Some b → b.parent ≡ Some q
      → Numbered p formed 0 b.formals
  formals_numbered f b q eb ep =
      numbered_in p formed f (frame_of p f) refl (λ x. refl) [] b.formals
      (as_list b.answer ++ numbers_with_role is_local (variables_of f 0 p.variables))
      (frame_is p formed f b eb ∙ append_assoc b.formals (as_list b.answer)
      (numbers_with_role is_local (variables_of f 0 p.variables)))
      (λ x i. let v = formal_of_block f b eb x i in slot_from_zero p formed f b q x v.0 eb ep v.1 v.2) (λ y i. absurd i)
      (subst Rises (sym (formed.formals f b eb)) (among_rises is_parameter f 0 p.variables))

  size_one : (k : ℕ) → k < length p.kinds → IsOneCell (sort p k) → size p k ≡ 1
  size_one k l one = sym (sized p formed k l).0 ∙ ap (λ v. length (leaves v)) (simple_value p formed k one)

  pub owned_cells : (ss : List ℕ) (r : Role) (k : ℕ) → Owns r → cells_by ss r k ≡ cells_by ss role.Local k
  owned_cells ss role.Console k o = absurd o
  owned_cells ss role.Local k o = refl
  owned_cells ss role.Value k o = refl
  owned_cells ss role.Reference k o = absurd o
  owned_cells ss role.Index k o = absurd o
  owned_cells ss role.Answer k o = refl

module _ (g : RunInput) (code : Code) (w : Identity) (Named : Channel → ℕ → Type 0) (Called : Name → ℕ → Type 0)
    (W R : Loc → Type 0) (J : ℕ → Type 0) (low base born since pause : ℕ) (moved : List Spot)
    (formed : IsFormed g.program) (based : 1 ≤ base) (mine_read : (n x : ℕ) → R (Cell w.name n x))
    (room : low + g.limits.depth ≤ 18446744073709551615 + born) where
  abbrev p : Program
  p = g.program

  abbrev S : List FramePair → LocalState → Store → Memory Plain → Type 0
  S js o s n = St g code w Named Called W R J low base born since pause moved formed js o s n

  abbrev Ho : List FramePair → ℕ → Type 0
  Ho js h = HoldsIn g.program R J base js h

  abbrev rel : Relation (Memory Plain)
  rel = relation g code w Named Called W R J low base born since pause moved

  -- ---- the arguments fit

  value_fits : (k : ℕ) → k < length p.kinds → (z : Sort) → sort p k ≡ z → (v : Value) (e : Entry)
      → StackHolds rel p z k v e
      → fits_formal (formal.Value (size p k)) e ≡ true
  value_fits k l Ordinals i v e (_, _, entry_is) =
      subst (λ y. fits_formal (formal.Value (size p k)) y ≡ true) (sym entry_is)
      (eq-eqb (size p k) 1 (size_one p formed k l (subst IsOneCell (sym i) tt)))
  value_fits k l Channels i v e (_, _, _, entry_is, _) =
      subst (λ y. fits_formal (formal.Value (size p k)) y ≡ true) (sym entry_is)
      (eq-eqb (size p k) 1 (size_one p formed k l (subst IsOneCell (sym i) tt)))
  value_fits k l Many i v e (cells, entry_is, (shaped, are)) =
      subst (λ y. fits_formal (formal.Value (size p k)) y ≡ true) (sym entry_is)
      (eq-eqb (length cells) (size p k) (sym (cells_length Named (leaves v) cells are)
      ∙ shaped_size p formed k l v shaped))
  value_fits k l NoSort i v e s = absurd s

  given_fits : (js : List FramePair) (x : ℕ) (v : Variable) → slice_get p.variables x ≡ Some v
      → (gv : ArgumentValue) (e : Entry)
      → GivenIs rel p js v gv e → fits_formal (formal_by p (slice_get p.variables x)) e ≡ true
  given_fits js x v ev (ValueOf u) e h = ap (λ y. fits_formal (formal_by p y) e) ev
      ∙ ap (λ y. fits_formal (formal_of y (size p v.kind)) e) h.0
      ∙ value_fits v.kind (formed.kinds x v ev) (sort p v.kind) refl u e h.1
  given_fits js x v ev (PlaceOf a) e (role_is, _, (_, entry_is, _)) = ap (λ y. fits_formal (formal_by p y) e) ev
      ∙ ap (λ y. fits_formal (formal_of y (size p v.kind)) e) role_is
      ∙ ap (λ y. fits_formal (formal.Reference (size p v.kind)) y) entry_is

  pub fit_law : (js : List FramePair) (xs : List ℕ) (gs : List ArgumentValue) (es : List Entry)
      → GivensAre rel p js xs gs es
      → fit_formals (map (λ x. formal_by p (slice_get p.variables x)) xs) es ≡ true
  fit_law js [] [] [] h = refl
  fit_law js [] [] (e ∷ es) h = absurd h
  fit_law js [] (y ∷ gs) es h = absurd h
  fit_law js (x ∷ xs) [] es h = absurd h
  fit_law js (x ∷ xs) (y ∷ gs) [] h = absurd h
  fit_law js (x ∷ xs) (y ∷ gs) (e ∷ es) ((v, known, given), others) = ap
      (λ b. b && fit_formals (map (λ x. formal_by p (slice_get p.variables x)) xs) es)
      (given_fits js x v known y e given) ∙ fit_law js xs gs es others

  -- ---- what the variable parameters stand for

  pub record Refers (js : List FramePair) (x k : ℕ) (v : Variable) (xs : List ℕ) (gs : List ArgumentValue)
      (es : List Entry) : Type
      0 where
    pub source : own.Address
    pub source_is : reference_target x (references xs gs) ≡ Some source
    pub kind : source.kind ≡ v.kind
    pub target : Address
    pub machine_is : m.reference_target (slot p x) (m.references k es) ≡ Some target
    pub points : PointsTo p js source target

  same_role : (x y : ℕ) (v u : Variable) → x ≡ y → slice_get p.variables x ≡ Some v → slice_get p.variables y ≡ Some u
      → v ≡ u
  same_role x y v u e ex ey = let z : Some v ≡ Some u = sym ex ∙ ap (λ i. slice_get p.variables i) e ∙ ey in cc z

  no_reference : (k : ℕ) (z : Sort) (kd : ℕ) (v : Value) (e : Entry) (es : List Entry) → StackHolds rel p z kd v e
      → m.references k (e ∷ es) ≡ m.references (suc k) es
  no_reference k Ordinals kd v e es (_, _, entry_is) = ap (λ y. m.references k (y ∷ es)) entry_is
  no_reference k Channels kd v e es (_, _, _, entry_is, _) = ap (λ y. m.references k (y ∷ es)) entry_is
  no_reference k Many kd v e es (_, entry_is, _) = ap (λ y. m.references k (y ∷ es)) entry_is
  no_reference k NoSort kd v e es s = absurd s

  find_reference : (js : List FramePair) (x : ℕ) (v : Variable) → slice_get p.variables x ≡ Some v
      → v.role ≡ role.Reference
      → (k : ℕ) (xs : List ℕ) (gs : List ArgumentValue) (es : List Entry) → GivensAre rel p js xs gs es
      → Numbered p formed k xs
      → IsMember x xs → Refers js x k v xs gs es
  find_reference js x v ev rv k [] [] [] h n i = absurd i
  find_reference js x v ev rv k [] [] (e ∷ es) h n i = absurd h
  find_reference js x v ev rv k [] (y ∷ gs) es h n i = absurd h
  find_reference js x v ev rv k (y ∷ xs) [] es h n i = absurd h
  find_reference js x v ev rv k (y ∷ xs) (z ∷ gs) [] h n i = absurd h
  find_reference js x v ev rv k (y ∷ xs) (ValueOf u ∷ gs) (e ∷ es) ((w1, known, (role_is, stands)), others) n i =
      go (x == y) refl (find_reference js x v ev rv (suc k) xs gs es others n.1)
    where
      go : (b : Bool) → x == y ≡ b → (IsMember x xs → Refers js x (suc k) v xs gs es)
          → Refers js x k v (y ∷ xs) (ValueOf u ∷ gs) (e ∷ es)
      go true t ih =
          let same = same_role x y v w1 (eqb-true x y t) ev known in
          let bad : role.Reference ≡ role.Value = sym rv ∙ ap (λ (q : Variable). q.role) same ∙ role_is in
          absurd (cc bad)
      go false t ih =
          let r = ih (tail i) in
          record {
            source = r.source;
            source_is = r.source_is;
            kind = r.kind;
            target = r.target;
            machine_is = ap (λ q. m.reference_target (slot p x) q)
                (no_reference k (sort p w1.kind) w1.kind u e es stands) ∙ r.machine_is;
            points = r.points;
          }
        where
          tail : (x ≡ y) ⊎ IsMember x xs → IsMember x xs
          tail (inl j) = let q : false ≡ true = sym t ∙ eq-eqb x y j in absurd (cc q)
          tail (inr j) = j
  find_reference js x v ev rv k (y ∷ xs) (PlaceOf a ∷ gs) (e ∷ es)
      ((w1, known, (_, kind_is, (target, entry, at_target))), others) n i =
      go (x == y) refl (find_reference js x v ev rv (suc k) xs gs es others n.1)
    where
      go : (b : Bool) → x == y ≡ b → (IsMember x xs → Refers js x (suc k) v xs gs es)
          → Refers js x k v (y ∷ xs) (PlaceOf a ∷ gs) (e ∷ es)
      go true t ih =
          let same = same_role x y v w1 (eqb-true x y t) ev known in
          let at : slot p x ≡ k = ap (λ q. slot p q) (eqb-true x y t) ∙ n.0 in
          record {
            source = a;
            source_is = ap (λ b. if b then Some a else reference_target x (references xs gs)) t;
            kind = kind_is ∙ sym (ap (λ (q : Variable). q.kind) same);
            target = target;
            machine_is = ap (λ q. m.reference_target (slot p x) (m.references k (q ∷ es))) entry
                ∙ ap (λ b. if b then Some target else m.reference_target (slot p x) (m.references (suc k) es))
                (eq-eqb (slot p x) k at);
            points = at_target;
          }
      go false t ih =
          let j = tail i in
          let r = ih j in
          let far = numbered_low p formed (suc k) xs x n.1 j in
          record {
            source = r.source;
            source_is = ap (λ b. if b then Some a else reference_target x (references xs gs)) t ∙ r.source_is;
            kind = r.kind;
            target = r.target;
            machine_is = ap (λ q. m.reference_target (slot p x) (m.references k (q ∷ es))) entry
                ∙ ap (λ b. if b then Some target else m.reference_target (slot p x) (m.references (suc k) es))
                (is_other (slot p x) k (λ d. absurd (omega (arith, d, far)))) ∙ r.machine_is;
            points = r.points;
          }
        where
          tail : (x ≡ y) ⊎ IsMember x xs → IsMember x xs
          tail (inl j) = let q : false ≡ true = sym t ∙ eq-eqb x y j in absurd (cc q)
          tail (inr j) = j

  -- ---- the new frame, with nothing in it

  module _ {js : List FramePair} {o : LocalState} {s : Store} {n : Memory Plain} (t : S js o s n) (f : ℕ) (b : Block)
      (l : Layout)
      (eb : slice_get p.blocks f ≡ Some b) (el : l ≡ emitted.layout_of p f l.entry b)
      (q up : ℕ) (j : FramePair) (rest : List FramePair) (ep : b.parent ≡ Some q) (eu : up_at up js ≡ j ∷ rest)
      (gs : List ArgumentValue) (es : List Entry) (given : GivensAre rel p js b.formals gs es) where
    abbrev nf : ℕ
    nf = next_frame n.store

    -- the new frame
    abbrev jm : m.Frame
    jm = record {
      owner = n.process;
      number = nf;
      home = m.OfBlock l.block;
      link = length (frames_up up n.frames);
      references = m.references 0 es;
    }

    abbrev j1 : FramePair
    j1 = record { source = frame_for rel w f b js (j ∷ rest) gs; machine = jm }

    abbrev vs : List (ℕ × Variable)
    vs = variables_of f 0 p.variables

    abbrev m1 : Map
    m1 = with_pieces n.store.map nf 0 l.sizes

    abbrev s1 : Store
    s1 = laid g w (length js) vs s

    abbrev o1 : LocalState
    o1 = record o {
      frames = sources (j1 ∷ js);
      depth = o.depth + 1;
      ticks = o.ticks + 1;
      cells = o.cells + size_of_frame g f;
    }

    abbrev n1 : Memory Plain
    n1 = record n {
      frames = jm ∷ n.frames;
      depth = n.depth + 1;
      ticks = n.ticks + 1;
      cells = n.cells + sum l.sizes;
      store = with_new_frame n.store l.sizes;
    }

    sizes_are : l.sizes ≡ map (λ x. cells_of p (slice_get p.variables x)) (frame_of p f)
    sizes_are = ap (λ (y : Layout). y.sizes) el

    older : (h : ℕ) → h < length js → Ho (j1 ∷ js) h → Ho js h
    older h lt (inl (owner, variable, live, may)) = ⊎_elim
        (λ (c : (suc h ≡ suc (length js)) × (j1 ∷ js ≡ live.joint ∷ live.rest)). absurd (omega (arith, c.0, lt)))
        (λ (c : pairs_from (suc h) js ≡ live.joint ∷ live.rest). inl (
          owner,
          variable,
          record {
            info = live.info;
            known = live.known;
            owns = live.owns;
            joint = live.joint;
            rest = live.rest;
            frame_at = c;
            owner_is = live.owner_is;
            home = live.home;
          },
          may,
        ))
        (from_cases (suc h) j1 js live.joint live.rest live.frame_at)
    older h lt (inr (inl (may, (frame, rest, variable, value, from, home)))) = ⊎_elim
        (λ (c : (suc h ≡ suc (length js)) × (j1 ∷ js ≡ frame ∷ rest)). absurd (omega (arith, c.0, lt)))
        (λ (c : pairs_from (suc h) js ≡ frame ∷ rest). inr (inl (may, (frame, rest, variable, value, c, home))))
        (from_cases (suc h) j1 js frame rest from)
    older h lt (inr (inr x)) = inr (inr x)

    zero_below : R Input ⊎ R Output → 0 < nf
    zero_below (inl ri) = let z = t.position ri in
        known_before n.store position_at.spot (known_piece (fin.get n.store.map position_at.spot) _ z.2)
    zero_below (inr ro) = let z = t.output ro in
        known_before n.store output_spot (known_bytes (fin.get n.store.map output_spot) z.0 z.2)

    -- what is held stands in frames with smaller numbers
    below : (h : ℕ) (i : FramePair) (is : List FramePair) → pairs_from (suc h) js ≡ i ∷ is → Ho js h
        → i.machine.number < nf
    below h i is e (inl (owner, variable, live, may)) =
        let z = t.held owner h variable live may in
        let k = known_before n.store (spot_at live.joint.machine.number (slot p variable))
        (known_piece (fin.get n.store.map (spot_at live.joint.machine.number (slot p variable))) z.cells z.piece) in
        subst (λ (y : FramePair). y.machine.number < nf) (first_same live.joint i live.rest is (sym live.frame_at ∙ e))
        k
    below h i is e (inr (inl (may, (frame, rest, variable, value, from, home)))) =
        let z = t.indexes h may frame rest variable value from home in
        let k = known_before n.store (spot_at frame.machine.number 0)
        (known_piece (fin.get n.store.map (spot_at frame.machine.number 0)) _ z) in
        subst (λ (y : FramePair). y.machine.number < nf) (first_same frame i rest is (sym from ∙ e)) k
    below h i is e (inr (inr (inl (may, lowest)))) =
        let (frame, rest, from, number_is) = t.frames.bottom may in
        let k = zero_below may in
        subst (λ (y : FramePair). y.machine.number < nf)
        (first_same frame i rest is (sym from ∙ ap (λ y. pairs_from (suc y) js) (sym lowest) ∙ e))
        (subst (λ y. y < nf) (sym number_is) k)
    below h i is e (inr (inr (inr x))) = own_before n.store i.machine.number
        (subst (λ y. IsMember i.machine.number y) (sym t.frames.own_frames) (made_at base h js i is x e))

    references_are : ReferencesAre p j1 js
    references_are x v ev hv rv =
        let same : OfBlock f ≡ OfBlock v.block = hv in
        let bf : f ≡ v.block = cc same in
        let i : IsMember x b.formals = subst (λ y. IsMember x y) (sym (formed.formals f b eb)) (has x v ev bf rv) in
        let r = find_reference js x v ev rv 0 b.formals gs es given (formals_numbered p formed f b q eb ep) i in
        (r.source, r.source_is, r.kind, (r.target, r.machine_is, r.points))
      where
        has : (x : ℕ) (v : Variable) → slice_get p.variables x ≡ Some v → f ≡ v.block → v.role ≡ role.Reference
            → IsMember x (numbers_with_role is_parameter (variables_of f 0 p.variables))
        has x v ev bf rv = among_has is_parameter x v (variables_of f 0 p.variables)
            (subst (λ z. HasVar z v (variables_of f 0 p.variables)) {x = 0 + x} {y = x} (omega arith)
            (variables_has f 0 p.variables x v ev (sym bf))) (ap is_parameter rv)

    -- a variable of the new frame has its first value, and its cells
    new_held : (h : ℕ) (x : ℕ) (v : Variable) (qn : Name) → slice_get p.variables x ≡ Some v → Owns v.role → v.block ≡ f
        → h ≡ length js → qn ≡ w.name → HeldAt g.program Named s1 m1
        (Cell qn h x) (spot_at nf (slot p x)) v.kind
    new_held h x v qn ev ov bv hh hq =
        let here : HasVar x v vs = subst (λ z. HasVar z v vs) {x = 0 + x} {y = x} (omega arith)
        (variables_has f 0 p.variables x v ev bv) in
        let member : IsMember x (frame_of p f) =
        subst (λ z. IsMember x (frame_of p z)) bv (frame_has p formed x v ev ov) in
        let at = index_at x 0 (frame_of p f) member in
        let size_at : slice_get l.sizes at.0 ≡ Some (size p v.kind) =
        ap (λ z. slice_get z at.0) sizes_are
        ∙ slice_get-map (λ x. cells_of p (slice_get p.variables x)) (frame_of p f) at.0
        ∙ ap (λ z. option_map (λ x. cells_of p (slice_get p.variables x)) z) at.2 ∙ ap (λ z. Some (cells_of p z)) ev
        ∙ ap Some (owned_cells p formed (sizes p.kinds) v.role v.kind ov) in
        let num : slot p x ≡ 0 + at.0 = slot_from_zero p formed f b q x v eb ep ev bv ∙ at.1 in
        record {
          tree = initial_value p v.kind;
          tree_is = ap (λ z. s1 (Cell z h x)) hq ∙ ap (λ z. s1 (Cell w.name z x)) hh
              ∙ laid_at g w formed (length js) x v ev ov vs (are_known p formed f) s (inl here);
          cells = replicate (size p v.kind) cell.Undefined;
          piece = ap piece_of (ap (λ z. fin.get m1 (spot_at nf z)) num
              ∙ pieces_at n.store.map nf 0 l.sizes at.0 (size p v.kind) size_at);
          flat = new_flat p formed Named v.kind (formed.kinds x v ev);
        }

    pub stands_new : o.depth + 1 ≤ g.limits.depth → o.cells + size_of_frame g f ≤ g.limits.cells → S (j1 ∷ js) o1 s1 n1
    stands_new hd hc = record {
      frames = record {
        sources_are = refl;
        machines_are = ap (λ z. jm ∷ z) t.frames.machines_are;
        paired = (
          record {
            homes = (sym (ap (λ (y : Layout). y.block) el), (b, eb));
            link_is = sym (ap length out.0 ∙ machines_length (j ∷ rest));
            link_low = (from_length (suc (length rest)) js j rest (up_from up js j rest eu)).1;
            number_is = refl;
            owner_is = t.frames.process;
            references = references_are;
          },
          t.frames.paired,
        );
        process = t.frames.process;
        owners = (omega arith, t.frames.owners);
        depth = ap (λ z. z + 1) t.frames.depth;
        cells = ap (λ z. z + size_of_frame g f) t.frames.cells
            ∙ ap (λ z. n.cells + z) (sym (frame_cells p formed f b eb) ∙ ap (λ z. sum z) (sym sizes_are));
        fits = hc;
        shallow = hd;
        own_frames = ap (λ z. z ++ nf ∷ []) t.frames.own_frames ∙ sym (made_own base j1 js t.frames.above_base);
        above_base = let a = t.frames.above_base in omega (arith, a);
        deep = let a = t.frames.deep in omega (arith, a);
        counts = ((λ z. next_small n.store low base js t.frames.own_frames t.frames.counts t.known), t.frames.counts);
        apart = λ h k i i2 is is2 e e2 x y d. apart_by h k i i2 is is2 x y d (from_cases (suc h) j1 js i is e)
            (from_cases (suc k) j1 js i2 is2 e2);
        root = λ i is e. ⊎_elim (λ (c : (1 ≡ suc (length js)) × (j1 ∷ js ≡ i ∷ is)).
            (let a = t.frames.above_base in absurd (omega (arith, c.0, a, based))))
            (λ (c : pairs_from 1 js ≡ i ∷ is). t.frames.root i is c)
            (from_cases 1 j1 js i is e);
        bottom = λ rc. let (lowest, rest, from, number_is) = t.frames.bottom rc in
            (lowest, rest, from_push 1 j1 js lowest rest from, number_is);
      };
      ticks = ap (λ z. z + 1) t.ticks;
      since_is = t.since_is;
      moved_is = t.moved_is;
      known = λ y k. ⊎_elim
          (λ (a : IsSome (fin.get n.store.map y)). ⊎_elim (λ (c : y.frame < low). inl c)
          (λ (c : IsMember y.frame (made_frames base js)). inr (made_more base j1 js y.frame t.frames.above_base c))
          (t.known y a))
          (λ (a : y.frame ≡ nf). inr (subst (λ z. IsMember z (made_frames base (j1 ∷ js))) (sym a)
          (made_new base j1 js t.frames.above_base)))
          (known_pieces n.store.map nf 0 l.sizes y k);
      unaway = pieces_unaway n.store.map nf 0 l.sizes t.unaway;
      held = λ qn h x v r. held_by qn h x v r (from_cases (suc h) j1 js v.joint v.rest v.frame_at);
      indexes = λ h jh i is x v e hi. index_by h jh i is x v hi (from_cases (suc h) j1 js i is e);
      position = λ ri. let z = t.position ri in (
        z.0,
        laid_other g w (length js) vs s Input (λ x e. absurd (cc e)) ∙ z.1,
        ap piece_of (pieces_other n.store.map nf 0 l.sizes position_at.spot
            (λ e. let k = zero_below (inl ri) in absurd (omega (arith, e, k)))) ∙ z.2,
      );
      output = λ ro. let z = t.output ro in (
        z.0,
        laid_other g w (length js) vs s Output (λ x e. absurd (cc e)) ∙ z.1,
        pieces_other n.store.map nf 0 l.sizes output_spot
            (λ e. let k = zero_below (inr ro) in absurd (omega (arith, e, k))) ∙ z.2,
      );
    }
      where
        out : (frames_up up n.frames ≡ machines (j ∷ rest)) × Paired p Called (j ∷ rest)
        out = outward g code w Named Called W R J low base born since pause moved formed t up j rest eu

        apart_by : (h k : ℕ) (i i2 : FramePair) (is is2 : List FramePair) → Ho (j1 ∷ js) h → Ho (j1 ∷ js) k
            → i.machine.number ≡ i2.machine.number
            → ((suc h ≡ suc (length js)) × (j1 ∷ js ≡ i ∷ is)) ⊎ (pairs_from (suc h) js ≡ i ∷ is)
            → ((suc k ≡ suc (length js)) × (j1 ∷ js ≡ i2 ∷ is2)) ⊎ (pairs_from (suc k) js ≡ i2 ∷ is2) → h ≡ k
        apart_by h k i i2 is is2 x y d (inl c) (inl e) = omega (arith, c.0, e.0)
        apart_by h k i i2 is is2 x y d (inl c) (inr e) =
            let a = below k i2 is2 e (older k (from_inside k js i2 is2 e) y) in
            let z : nf ≡ i.machine.number = ap (λ (z : FramePair). z.machine.number) (first_same j1 i js is c.1) in
            absurd (omega (arith, a, z, d))
        apart_by h k i i2 is is2 x y d (inr c) (inl e) =
            let a = below h i is c (older h (from_inside h js i is c) x) in
            let z : nf ≡ i2.machine.number = ap (λ (z : FramePair). z.machine.number) (first_same j1 i2 js is2 e.1) in
            absurd (omega (arith, a, z, d))
        apart_by h k i i2 is is2 x y d (inr c) (inr e) =
            t.frames.apart h k i i2 is is2 c e (older h (from_inside h js i is c) x)
            (older k (from_inside k js i2 is2 e) y) d

        held_by : (qn : Name) (h x : ℕ) (v : Live p (j1 ∷ js) qn h x) → R (Cell qn h x)
            → ((suc h ≡ suc (length js)) × (j1 ∷ js ≡ v.joint ∷ v.rest)) ⊎ (pairs_from (suc h) js ≡ v.joint ∷ v.rest)
            → HeldAt g.program Named s1 m1 (Cell qn h x)
            (spot_at v.joint.machine.number (slot p x)) v.info.kind
        held_by qn h x v r (inl c) =
            let same : j1 ≡ v.joint = first_same j1 v.joint js v.rest c.1 in
            let home : OfBlock v.info.block ≡ OfBlock f = sym v.home
            ∙ ap (λ (z : FramePair). z.source.home) (sym same) in
            let hh : h ≡ length js = let a = c.0 in omega (arith, a) in
            let z = new_held h x v.info qn v.known v.owns (cc home) hh
            (sym v.owner_is ∙ ap (λ (z : FramePair). z.source.owner) (sym same)) in
            subst (λ (y : FramePair). HeldAt g.program Named s1 m1
            (Cell qn h x)
            (spot_at y.machine.number (slot p x)) v.info.kind) same z
        held_by qn h x v r (inr c) =
            let old : Live p js qn h x = record {
              info = v.info;
              known = v.known;
              owns = v.owns;
              joint = v.joint;
              rest = v.rest;
              frame_at = c;
              owner_is = v.owner_is;
              home = v.home;
            } in
            let z = t.held qn h x old r in
            let a = below h v.joint v.rest c (inl (qn, x, old, r)) in
            let lt = from_inside h js v.joint v.rest c in
            record {
              tree = z.tree;
              tree_is = laid_other g w (length js) vs s (Cell qn h x)
                  (λ y e. (let d : length js ≡ h = cc e in absurd (omega (arith, d, lt)))) ∙ z.tree_is;
              cells = z.cells;
              piece = ap piece_of (pieces_other n.store.map nf 0 l.sizes (spot_at v.joint.machine.number (slot p x))
                  (λ e. absurd (omega (arith, e, a)))) ∙ z.piece;
              flat = z.flat;
            }

        index_by : (h : ℕ) → J h → (i : FramePair) (is : List FramePair) (x : ℕ) (v : ℤ) → i.source.home ≡ OfIndex x v
            → ((suc h ≡ suc (length js)) × (j1 ∷ js ≡ i ∷ is)) ⊎ (pairs_from (suc h) js ≡ i ∷ is)
            → piece_of (fin.get m1 (spot_at i.machine.number 0)) ≡ Some (cell.Ordinal v ∷ [])
        index_by h jh i is x v hi (inl c) = let bad : OfBlock f ≡ OfIndex x v =
            ap (λ (z : FramePair). z.source.home) (first_same j1 i js is c.1) ∙ hi in absurd (cc bad)
        index_by h jh i is x v hi (inr c) =
            let a = below h i is c (inr (inl (jh, (i, is, x, v, c, hi)))) in
            ap piece_of (pieces_other n.store.map nf 0 l.sizes (spot_at i.machine.number 0)
            (λ e. absurd (omega (arith, e, a)))) ∙ t.indexes h jh i is x v c hi
