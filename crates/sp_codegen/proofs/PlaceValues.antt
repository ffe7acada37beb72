-- Variables and their components: the place, or what is read there, is on top of the stack.
use Rattle.std.proofs.Common.{◌≡◌, ℕ, ◌+◌, ◌*◌, ℤ, List, [], ◌∷◌, ◌++◌, Option, Some, None, Bool, true, false, ◌&&◌}
use Rattle.std.proofs.Common.{if◌then◌else◌, length, refl, sym, ap, ◌∙◌, subst, arith}
use Rattle.std.proofs.lemmas.Bool.Decides.{nat_tests}
use Rattle.std.specs.Prelude.{◌-ℤ◌, nat_abs, nat_le, int_le, slice_get}
use Rattle.sp_base.specs.declared.fault.Fault.TheVariants as fault
use Rattle.sp_tree.specs.declared.checked.KindOf.{KindOf}
use Rattle.sp_tree.specs.declared.checked.KindOf.TheVariants as kind
use Rattle.sp_tree.specs.declared.checked.Role.{Role}
use Rattle.sp_tree.specs.declared.checked.Role.TheVariants as role
use Rattle.sp_tree.specs.Plain.{Program, Variable}
use Rattle.sp_cell.specs.declared.cell.Cell.{Cell}
use Rattle.sp_cell.specs.declared.cell.Cell.TheVariants as cell
use Rattle.sp_cell.specs.declared.spot.Address.{Address as Ptr}
use Rattle.sp_meaning.specs.Values.{Value, Undefined, Ordinal, Chan, Parts, get_at}
use Rattle.sp_meaning.specs.LocalWork.{Address, Home, OfBlock, OfIndex, Frame, LocalState, Work, bind, give, fail}
use Rattle.sp_meaning.specs.LocalWork.{ill_formed, or_ill_formed}
use Rattle.sp_meaning.specs.LocalWork.{visible_frame, fetch, is_block, is_index, value_in, reference_target}
use Rattle.sp_meaning.specs.Rights.{location_of, location_at, location_by, cell_of, reference_of, spot_of, frame_found}
use Rattle.sp_meaning.specs.Eval.{Place, AtAddress, Fixed, ordinal_read, channel_read, checked_value, element_at}
use Rattle.sp_meaning.specs.Eval.{field_kind}
use Rattle.sp_meaning.specs.Eval.{element_place, field_place, read_at, in_frame, index_in, place_by, place_of}
use Rattle.sp_meaning.specs.Run.{Store}
use Rattle.sp_meaning.proofs.Static.{home_is}
use Rattle.sp_code.specs.declared.instr.Instr.TheVariants as i
use Rattle.sp_code.specs.Machine.{address_after, Entry, Config, Goes, Fails, on_some, ordinal_in, channel_in, next_step}
use Rattle.sp_code.specs.Machine as m
use Rattle.sp_code.specs.Scopes.{Sort, Ordinals, Channels, Many, NoSort, Scope, sort, sort_by, size, slot, level}
use Rattle.sp_code.specs.Scopes as places
use Rattle.sp_code.specs.CodeOfTree.{CodeAt, HasFork, HasWords, VarRole, VarAt, ReadAt}
use Rattle.sp_codegen.specs.FramePairs.{FramePair, sources, Chain}
use Rattle.sp_codegen.specs.Shapes.{CellIs, Flat}
use Rattle.sp_codegen.specs.Executions.{Execution}
use Rattle.sp_codegen.specs.CodePositions.{StandsFor}
use Rattle.sp_codegen.specs.Relation.{StackHolds, Owns, OneCell}
use Rattle.sp_codegen.proofs.Runs.{goes, gives_known, gives_give, gives_fail, gives_by, holds_when}
use Rattle.sp_codegen.proofs.Chains.{block_agrees, index_agrees, found, seek_all, find_in}
use Rattle.sp_codegen.proofs.ValueForms.{NotNone, IsMany, IsTrue, G, at_one, Top, St, PlaceTop, PlaceIs}
use Rattle.sp_codegen.proofs.ValueForms.{MayRead, visible_known, or_known, kind_known, fetch_known}

module _ {M : Type 0} (ex : Execution M) where
  open ex use {
    run_input as g,
    code,
    moves,
    shares,
    IsCallableInFunctions as callable,
    who as w,
    operations as ops,
    relation as rel,
    laws as law,
  }

  abbrev p : Program
  p = g.program

  -- a variable with cells of its own
  pub own_gives : {js : List FramePair} {o : LocalState} {s : Store} (sc : List Scope) (q x k : ℕ) (stack : List Entry)
      (n : M)
      → rel.Agrees js o s n → Chain sc js → MayRead ex sc js x → (v : Variable) → slice_get p.variables x ≡ Some v
      → v.kind ≡ k → Owns v.role → ((f : Option Frame)
      → location_by (sources js) x v v.role
      ≡ cell_of x (frame_found (is_block v.block) (length (sources js)) (sources js)))
      → (up : ℕ) → level (places.is_block v.block) sc ≡ Some up → slice_get code.instrs q ≡ Some (i.Addr up (slot p x))
      → G ex js (m.At q stack n) o s (q + 1) (PlaceTop ex stack) (PlaceIs ex js x k)
      (bind (visible_frame (is_block v.block)) (λ f. give (AtAddress (in_frame g x v f))))
  own_gives {js} {o} {s} sc q x k stack n t ch may v e ek ow by up lv h =
      let r = found (is_block v.block) (places.is_block v.block) (block_agrees v.block) sc js up ch lv in
      let a = law.addr t up x r.frame r.rest r.frame_at v e (home_is v.block r.frame.source.home r.fit) ow in
      let at : location_of p (sources js) x ≡ Some (in_frame g x v r.frame.source).spot =
      ap (location_at (sources js) x) e
      ∙ by None ∙ ap (cell_of x) (find_in (is_block v.block) js r.frame r.rest r.sought) in
      gives_known ops rel w code _ r.frame.source
      (visible_known ex t (is_block v.block) r.frame r.rest (seek_all (is_block v.block) js ∙ r.sought))
      (gives_give ops rel w code (AtAddress (in_frame g x v r.frame.source)) a.0
      (goes ops rel w code (at_one ex q stack n h
      ∙ ap (λ z. on_some z (λ u. Goes (m.At (q + 1) (m.Pointer u ∷ stack) n))) a.1)) t
      (ek, a.2, may.location (in_frame g x v r.frame.source).spot at, at))

  index_home : (x : ℕ) (h : Home) → is_index x h ≡ true → (v : ℤ) × (h ≡ OfIndex x v)
  index_home x (OfBlock c) e = absurd (subst IsTrue e tt)
  index_home x (OfIndex y v) e = let z : y ≡ x = Prim.grind (arith, nat_tests, e) in (v, ap (λ u. OfIndex u v) z)

  -- an entire variable
  pub var_gives : {js : List FramePair} {o : LocalState} {s : Store} (sc : List Scope) (q x k : ℕ) (stack : List Entry)
      (n : M)
      → rel.Agrees js o s n → Chain sc js → MayRead ex sc js x
      → VarAt p moves shares (CodeAt code) (HasFork code) (HasWords code) callable sc q x k
      → G ex js (m.At q stack n) o s (q + 1) (PlaceTop ex stack) (PlaceIs ex js x k) (place_of g x)
  var_gives {js} {o} {s} sc q x k stack n t ch may (v, known, is_kind, role_at) =
      gives_known ops rel w code (λ i. place_by g x i i.role) v (or_known ex (slice_get p.variables x) v known)
      (by_role v.role refl role_at)
    where
      Goal : Role → Type 0
      Goal r = G ex js (m.At q stack n) o s (q + 1) (PlaceTop ex stack) (PlaceIs ex js x k) (place_by g x v r)

      by_role : (r : Role) → v.role ≡ r
          → VarRole p moves shares (CodeAt code) (HasFork code) (HasWords code) callable sc q
          x v r → Goal r
      by_role role.Console er z = absurd z
      by_role role.Local er z = own_gives sc q x k stack n t ch may v known is_kind (subst Owns (sym er) tt)
          (λ f. ap (location_by (sources js) x v) er) z.0 z.1 z.2
      by_role role.Value er z = own_gives sc q x k stack n t ch may v known is_kind (subst Owns (sym er) tt)
          (λ f. ap (location_by (sources js) x v) er) z.0 z.1 z.2
      by_role role.Answer er z = own_gives sc q x k stack n t ch may v known is_kind (subst Owns (sym er) tt)
          (λ f. ap (location_by (sources js) x v) er) z.0 z.1 z.2
      by_role role.Reference er z =
          let r = found (is_block v.block) (places.is_block v.block) (block_agrees v.block) sc js z.0 ch z.1 in
          let (source, source_is, kind_is, found_target) = law.deref t z.0 x r.frame r.rest r.frame_at v known
          (home_is v.block r.frame.source.home r.fit) er in
          let (target, target_is, points) = found_target in
          let at : location_of p (sources js) x ≡ Some source.spot = ap (location_at (sources js) x) known
          ∙ ap (location_by (sources js) x v) er
          ∙ ap (reference_of x) (find_in (is_block v.block) js r.frame r.rest r.sought) ∙ ap spot_of source_is in
          gives_known ops rel w code (λ f. bind (or_ill_formed (reference_target x f.references))
          (λ a. give (AtAddress a))) r.frame.source
          (visible_known ex t (is_block v.block) r.frame r.rest (seek_all (is_block v.block) js ∙ r.sought))
          (gives_known ops rel w code (λ a. give (AtAddress a)) source
          (or_known ex (reference_target x r.frame.source.references) source source_is)
          (gives_give ops rel w code (AtAddress source) target
          (goes ops rel w code (at_one ex q stack n z.2
          ∙ ap (λ y. on_some y (λ u. Goes (m.At (q + 1) (m.Pointer u ∷ stack) n))) target_is)) t
          (kind_is ∙ is_kind, points, may.location source.spot at, at)))
      by_role role.Index er (up, level_is, instr, sort_is) =
          let r = found (is_index x) (places.is_index x) (index_agrees x) sc js up ch level_is in
          let b = index_home x r.frame.source.home r.fit in
          let a = law.index t up x b.0 r.frame r.rest r.frame_at b.1
          (may.index v known er up level_is r.frame r.rest r.frame_at) in
          gives_known ops rel w code (λ f. index_in g f.home) r.frame.source
          (visible_known ex t (is_index x) r.frame r.rest (seek_all (is_index x) js ∙ r.sought))
          (gives_by ops rel w code (ap (index_in g) b.1)
          (gives_give ops rel w code (Fixed b.0) a.0
          (goes ops rel w code (at_one ex q stack n instr
          ∙ ap (λ y. on_some y (λ u. Goes (m.At (q + 1) (m.Pointer u ∷ stack) n))) a.1)) t
          (subst (λ y. sort p y ≡ Ordinals) is_kind sort_is, a.2, (v, known, er))))

  not_many : (ty : Option KindOf) (z : KindOf) → ty ≡ Some z → sort_by (Some z) ≡ Many → sort_by ty ≡ Ordinals → ⊥
  not_many ty z e f h = subst IsMany (sym f ∙ ap sort_by (sym e) ∙ h) tt

  pub indexed_gives : {js : List FramePair} {o : LocalState} {s : Store} (q x k : ℕ) (low high : ℤ) (ix el : ℕ)
      (stack : List Entry)
      (pl : Place) (a : Ptr) (v : ℤ) (n : M) → rel.Agrees js o s n → PlaceIs ex js x k pl a
      → slice_get p.kinds k ≡ Some (kind.Array low high ix el)
      → slice_get code.instrs q ≡ Some (i.Index low high (size p el))
      → G ex js (m.At q (m.Number v ∷ m.Pointer a ∷ stack) n) o s (q + 1) (PlaceTop ex stack) (PlaceIs ex js x el)
      (element_place g pl v)
  indexed_gives q x k low high ix el stack (Fixed z) a v n t pi hk h =
      absurd (not_many (slice_get p.kinds k) (kind.Array low high ix el) hk refl pi.0)
  indexed_gives {js} {o} {s} q x k low high ix el stack (AtAddress b) a v n t (kind_is, points, may_it, located) hk h =
      gives_known ops rel w code (element_at b v) (kind.Array low high ix el)
      (kind_known ex b.kind k (kind.Array low high ix el) kind_is hk)
      (by_test (int_le low v && int_le v high) refl (at_one ex q (m.Number v ∷ m.Pointer a ∷ stack) n h))
    where
      b1 : Address
      b1 = record { spot = b.spot; path = b.path ++ nat_abs (v -ℤ low) ∷ []; kind = el }

      a1 : Ptr
      a1 = address_after (nat_abs (v -ℤ low) * size p el) a

      by_test : (y : Bool) → (int_le low v && int_le v high) ≡ y
          → next_step ops code (m.At q (m.Number v ∷ m.Pointer a ∷ stack) n)
          ≡ (if y then m.selection_step ops code a1 (q + 1) stack n else Fails fault.F1)
          → G ex js (m.At q (m.Number v ∷ m.Pointer a ∷ stack) n) o s (q + 1) (PlaceTop ex stack) (PlaceIs ex js x el)
          (if y then give (AtAddress b1) else fail fault.F1)
      by_test true e gg =
          let pt = law.element b a points low high ix el (ap (λ y. slice_get p.kinds y) kind_is ∙ hk) v e in
          gives_give ops rel w code (AtAddress b1) a1
          (goes ops rel w code (gg ∙ holds_when (nat_le a1.offset 4294967295)
          (Goes (m.At (q + 1) (m.Pointer a1 ∷ stack) n)) (law.within t b1 a1 pt may_it))) t (refl, pt, may_it, located)
      by_test false e gg = gives_fail ops rel w code fault.F1 (js, o, t) gg

  pub fielded_gives : {js : List FramePair} {o : LocalState} {s : Store} (q x k f j : ℕ) (name : List ℕ)
      (gs : List (List ℕ × ℕ))
      (stack : List Entry) (pl : Place) (a : Ptr) (n : M) → rel.Agrees js o s n → PlaceIs ex js x k pl a
      → slice_get p.kinds k ≡ Some (kind.Fields gs) → slice_get gs f ≡ Some (name, j)
      → slice_get code.instrs q ≡ Some (i.Field (places.field_offset p gs f))
      → G ex js (m.At q (m.Pointer a ∷ stack) n) o s (q + 1) (PlaceTop ex stack) (PlaceIs ex js x j)
      (field_place g f pl)
  fielded_gives q x k f j name gs stack (Fixed z) a n t pi hk hf h =
      absurd (not_many (slice_get p.kinds k) (kind.Fields gs) hk refl pi.0)
  fielded_gives {js} {o} {s} q x k f j name gs stack (AtAddress b) a n t (kind_is, points, may_it, located) hk hf h =
      gives_known ops rel w code (λ y. bind (or_ill_formed (field_kind f y))
      (λ u. give (AtAddress (record { spot = b.spot; path = b.path ++ f ∷ []; kind = u })))) (kind.Fields gs)
      (kind_known ex b.kind k (kind.Fields gs) kind_is hk)
      (gives_known ops rel w code
      (λ u. give (AtAddress (record { spot = b.spot; path = b.path ++ f ∷ []; kind = u }))) j
      (or_known ex (field_kind f (kind.Fields gs)) j (rw hf refl))
      (gives_give ops rel w code (AtAddress b1) a1 (goes ops rel w code
      (at_one ex q (m.Pointer a ∷ stack) n h
      ∙ holds_when (nat_le a1.offset 4294967295) (Goes (m.At (q + 1) (m.Pointer a1 ∷ stack) n))
      (law.within t b1 a1 pt may_it))) t (refl, pt, may_it, located)))
    where
      b1 : Address
      b1 = record { spot = b.spot; path = b.path ++ f ∷ []; kind = j }

      a1 : Ptr
      a1 = address_after (places.field_offset p gs f) a

      pt : rel.Points js b1 a1
      pt = law.field b a points gs (ap (λ y. slice_get p.kinds y) kind_is ∙ hk) f j name hf

  -- what is read at a place
  pub ordinal_cell : {js : List FramePair} {o : LocalState} {s : Store} (q k : ℕ) (stack : List Entry) (c : Config M)
      (n : M)
      → rel.Agrees js o s n → StandsFor rel c s → sort p k ≡ Ordinals → (v : Value) (z : Cell) → CellIs rel.Named v z
      → next_step ops code c ≡ ordinal_in z (λ u. Goes (m.At q (m.Number u ∷ stack) n))
      → G ex js c o s q (Top ex stack) (St ex k) (ordinal_read v)
  ordinal_cell q k stack c n t f e Undefined cell.Undefined h gg = gives_fail ops rel w code fault.F4 f gg
  ordinal_cell q k stack c n t f e Undefined (cell.Ordinal u) h gg = absurd h
  ordinal_cell q k stack c n t f e Undefined (cell.Channel u) h gg = absurd h
  ordinal_cell q k stack c n t f e (Ordinal v) cell.Undefined h gg = absurd h
  ordinal_cell q k stack c n t f e (Ordinal v) (cell.Ordinal u) h gg =
      gives_give ops rel w code (Ordinal v) (m.Number u) (goes ops rel w code gg) t
      (subst (λ z. StackHolds rel p z k (Ordinal v) (m.Number u)) (sym e) (v, refl, ap m.Number (sym h)))
  ordinal_cell q k stack c n t f e (Ordinal v) (cell.Channel u) h gg = absurd h
  ordinal_cell q k stack c n t f e (Chan v) cell.Undefined h gg = absurd h
  ordinal_cell q k stack c n t f e (Chan v) (cell.Ordinal u) h gg = absurd h
  ordinal_cell q k stack c n t f e (Chan v) (cell.Channel u) h gg = gives_fail ops rel w code fault.F4 f gg
  ordinal_cell q k stack c n t f e (Parts v) z h gg = absurd h

  channel_cell : {js : List FramePair} {o : LocalState} {s : Store} (q k : ℕ) (stack : List Entry) (c : Config M)
      (n : M)
      → rel.Agrees js o s n → StandsFor rel c s → sort p k ≡ Channels → (v : Value) (z : Cell) → CellIs rel.Named v z
      → next_step ops code c ≡ channel_in z (λ u. Goes (m.At q (m.Chan u ∷ stack) n))
      → G ex js c o s q (Top ex stack) (St ex k) (channel_read v)
  channel_cell q k stack c n t f e Undefined cell.Undefined h gg = gives_fail ops rel w code fault.F5 f gg
  channel_cell q k stack c n t f e Undefined (cell.Ordinal u) h gg = absurd h
  channel_cell q k stack c n t f e Undefined (cell.Channel u) h gg = absurd h
  channel_cell q k stack c n t f e (Ordinal v) cell.Undefined h gg = absurd h
  channel_cell q k stack c n t f e (Ordinal v) (cell.Ordinal u) h gg = gives_fail ops rel w code fault.F5 f gg
  channel_cell q k stack c n t f e (Ordinal v) (cell.Channel u) h gg = absurd h
  channel_cell q k stack c n t f e (Chan v) cell.Undefined h gg = absurd h
  channel_cell q k stack c n t f e (Chan v) (cell.Ordinal u) h gg = absurd h
  channel_cell q k stack c n t f e (Chan v) (cell.Channel u) h gg =
      gives_give ops rel w code (Chan v) (m.Chan u) (goes ops rel w code gg) t
      (subst (λ z. StackHolds rel p z k (Chan v) (m.Chan u)) (sym e) (v, u, refl, refl, h))
  channel_cell q k stack c n t f e (Parts v) z h gg = absurd h

  -- what checked does, by the sort
  abbrev pub read_as : Sort → Value → Work Value
  read_as Ordinals v = ordinal_read v
  read_as Channels v = channel_read v
  read_as Many v = give v
  read_as NoSort v = ill_formed

  pub checked_as : (ty : KindOf) (v : Value) → checked_value ty v ≡ read_as (sort_by (Some ty)) v
  checked_as kind.Integer v = refl
  checked_as _ _ = refl

  -- the type that a sort is of
  kind_there : (k : ℕ) (z : Sort) → sort p k ≡ z → NotNone z → (ty : KindOf) × (slice_get p.kinds k ≡ Some ty)
  kind_there k z e h = go (slice_get p.kinds k) refl (subst NotNone (sym e) h)
    where
      go : (y : Option KindOf) → slice_get p.kinds k ≡ y → NotNone (sort_by y) → (ty : KindOf)
          × (slice_get p.kinds k ≡ Some ty)
      go None e h = absurd h
      go (Some ty) e h = (ty, e)

  pub read_gives : {js : List FramePair} {o : LocalState} {s : Store} (q x k : ℕ) (stack : List Entry) (pl : Place)
      (a : Ptr)
      (n : M) → rel.Agrees js o s n → PlaceIs ex js x k pl a
      → ReadAt p moves shares (CodeAt code) (HasFork code) (HasWords code) callable q k (sort p k)
      → G ex js (m.At q (m.Pointer a ∷ stack) n) o s (q + 1) (Top ex stack) (St ex k) (read_at g pl)
  read_gives {js} {o} {s} q x k stack (Fixed z) a n t pi h =
      let l = law.load_index t z a pi.1 in
      gives_give ops rel w code (Ordinal z) (m.Number z)
      (goes ops rel w code (at_one ex q (m.Pointer a ∷ stack) n
      (subst (ReadAt p moves shares (CodeAt code) (HasFork code) (HasWords code) callable q k) pi.0 h)
      ∙ holds_when (ops.has a 1 n) _ l.0 ∙ ap (λ y. ordinal_in y (λ u. Goes (m.At (q + 1) (m.Number u ∷ stack) n)))
      l.1))
      t (subst (λ y. StackHolds rel p y k (Ordinal z) (m.Number z)) (sym pi.0) (z, refl, refl))
  read_gives {js} {o} {s} q x k stack (AtAddress b) a n t pi h = by_sort (sort p k) refl h
    where
      c : Config M
      c = m.At q (m.Pointer a ∷ stack) n

      v : Value
      v = get_at b.path (value_in (s b.spot))

      same_sort : sort p b.kind ≡ sort p k
      same_sort = ap (sort p) pi.0

      from_kind : (z : Sort) → sort p k ≡ z → NotNone z → G ex js c o s (q + 1) (Top ex stack) (St ex k) (read_as z v)
          → G ex js c o s (q + 1) (Top ex stack) (St ex k) (read_at g (AtAddress b))
      from_kind z e nn gg =
          let ty = kind_there k z e nn in
          gives_known ops rel w code (λ y. bind (fetch b) (checked_value y)) ty.0
          (kind_known ex b.kind k ty.0 pi.0 ty.1)
          (gives_known ops rel w code (checked_value ty.0) v (fetch_known ex b)
          (gives_by ops rel w code (checked_as ty.0 v ∙ ap (λ y. read_as y v) (sym (ap sort_by ty.1) ∙ e)) gg))

      one_cell : (z : Sort) → sort p k ≡ z → OneCell z → OneCell (sort p b.kind)
      one_cell z e h = subst OneCell (sym (same_sort ∙ e)) h

      by_sort : (z : Sort) → sort p k ≡ z
          → ReadAt p moves shares (CodeAt code) (HasFork code) (HasWords code) callable q k
          z → G ex js c o s (q + 1) (Top ex stack) (St ex k) (read_at g (AtAddress b))
      by_sort Ordinals e h = from_kind Ordinals e tt
          (ordinal_cell (q + 1) k stack c n t (js, o, t) e v (ops.read a n)
          (law.load t b a pi.1 pi.2 (one_cell Ordinals e tt))
          (at_one ex q (m.Pointer a ∷ stack) n h ∙ holds_when (ops.has a 1 n) _ (law.has_one t b a pi.1 pi.2)))
      by_sort Channels e h = from_kind Channels e tt
          (channel_cell (q + 1) k stack c n t (js, o, t) e v (ops.read a n)
          (law.load t b a pi.1 pi.2 (one_cell Channels e tt))
          (at_one ex q (m.Pointer a ∷ stack) n h ∙ holds_when (ops.has a 1 n) _ (law.has_one t b a pi.1 pi.2)))
      by_sort Many e h =
          from_kind Many e tt (gives_give ops rel w code v (m.Cells (ops.cells a (size p k) n))
          (goes ops rel w code (at_one ex q (m.Pointer a ∷ stack) n h
          ∙ holds_when (ops.has a (size p k) n) _
          (subst (λ y. ops.has a (size p y) n ≡ true) pi.0 (law.has t b a pi.1 pi.2)))) t
          (subst (λ y. StackHolds rel p y k v (m.Cells (ops.cells a (size p k) n))) (sym e) (
            ops.cells a (size p k) n,
            refl,
            subst (λ y. Flat p rel.Named y v (ops.cells a (size p y) n)) pi.0 (law.pack t b a pi.1 pi.2),
          )))
      by_sort NoSort e h = absurd h
