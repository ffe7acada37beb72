-- After a fork each child lives by what it is handed, and the parent, which joins them, by what it had.
use Rattle.std.proofs.Common.{◌≡◌, ◌≢◌, ◌⊎◌, inl, inr, ⊎_elim, ℕ, zero, suc, ◌+◌, ◌≤◌, ◌<◌, ◌==◌, ℤ, List, [], ◌∷◌}
use Rattle.std.proofs.Common.{◌++◌, length, Option, Some, None, Bool, true, false, refl, sym, ap, ◌∙◌, subst, arith}
use Rattle.std.specs.Prelude.{IsSome, slice_get}
use Rattle.std.specs.FinMap as map
use Rattle.std.proofs.lemmas.Option.{same_Some}
use Rattle.sp_tree.specs.Interference.{IsMember}
use Rattle.sp_tree.proofs.Members.{member_front, member_back}
use Rattle.sp_cell.specs.declared.cell.Cell.{Cell}
use Rattle.sp_cell.specs.declared.cell.Cell.TheVariants as cell
use Rattle.sp_cell.specs.declared.spot.Spot.{Spot}
use Rattle.sp_cell.specs.declared.spot.Handing.{Handing}
use Rattle.sp_cell.specs.Fork.{with_shared, with_away, with_index, index_frame, child_map, moved_of, shared_of}
use Rattle.sp_cell.specs.Frame.{HasNextFrame}
use Rattle.sp_cell.proofs.FrameLaws.{known_below}
use Rattle.sp_cell.proofs.Laws.{known_of_held, known_of_piece, get_here, get_other, same_or, own_away, held_not_away}
use Rattle.sp_cell.specs.Map.{Map, Content, Own, Shared, Output, Away, Plain, IsHeld, IsPiece, IsOutput, output_spot}
use Rattle.sp_cell.specs.Map.{cells_at, spot_cmp}
use Rattle.sp_cell.proofs.Partition.{parent_moved, child_moved, child_rest}
use Rattle.sp_cell.proofs.Plan.{in_or, get_taken_out, get_lent_in, get_lent_out, get_away_out, lent_alike}
use Rattle.sp_cell.specs.Spots.{In, NotIn, IsDistinct}
use Rattle.sp_code.specs.declared.code.ChildTable.{ChildTable}
use Rattle.sp_code.specs.declared.code.ForkTable.{ForkTable}
use Rattle.sp_code.specs.Machine.{Config, At}
use Rattle.sp_code.specs.Memory.{CodeRun, Home, OfIndex, Frame, Memory}
use Rattle.sp_code.specs.PlainStore.{plain}
use Rattle.sp_code.specs.Sound.{CanSplit}
use Rattle.sp_code.specs.System.{spot_of, frames_of, on_store, handing_of, plan_from, table_or, child_process}
use Rattle.sp_code.specs.System.{with_index_frame}
use Rattle.sp_verify_rules.specs.Areas.{with_home}
use Rattle.sp_verify_rules.specs.Chains.{Chain}
use Rattle.sp_verify_rules.specs.Extents.{extent}
use Rattle.sp_verify_rules.specs.Forks.{handed_to}
use Rattle.sp_verify_rules.specs.HeldEffects.{Allowed, input_spot}
use Rattle.sp_verify_rules.specs.ProcessLife.{Base, HasConsole, HasActivations, IsChild, ForkInvariant, table_of}
use Rattle.sp_verify_rules.specs.Systems.{MovedSpot, moved_to, JoinInvariant}
use Rattle.sp_verify_rules.proofs.Births.{IsRight, born, born_with_index, chain_new, stays, outer_extent, above_bound}
use Rattle.sp_verify_rules.proofs.ForkSteps.{has_held, KeepsForks, can_split}
use Rattle.sp_verify_rules.proofs.Holdings.{head, next_low}
use Rattle.sp_verify_rules.proofs.StoreLaws.{KeepsLengths, all_keeps, keeps_lent}
use Rattle.sp_code.proofs.Plans.{spots_from}

-- the same rights under another name
allowed_iff : (ls : List Rattle.sp_code.specs.declared.code.Layout.Layout) (K J : Type 0) (R E : ℕ
    → Type 0) (n : ℕ) (fs : List Frame) (m : Map) → ((x : ℕ) → E x → R x) → (E 0 ⊎ E 1 → J) → (J → K)
    → Allowed ls K R n fs m → Allowed ls J E n fs m
allowed_iff ls K J R E n fs m to has back a = record {
  held = λ x e. a.held x (to x e);
  apart = λ x y s d e. a.apart x y s (to x d) (to y e);
  console = has;
  clear = λ c x s r e. a.clear (back c) x s r (to x e);
}

module _ (g : CodeRun) {Area : Type 0} (H : Area → List Home) (E : Area → ℕ → Type 0) (T : List Area
    → Config (Memory Plain) → Type 0) (Room Cells : ℕ → ℕ → Type 0) (b : Base g H E T) (a : Area) (us : List Area)
    (pc : ℕ) (st : List Rattle.sp_code.specs.Machine.Entry) (n : Memory Plain)
    (l : HasActivations g H E T b (a ∷ us) (At pc st n)) where
  abbrev d : Config (Memory Plain)
  d = At pc st n

  abbrev ls : List Rattle.sp_code.specs.declared.code.Layout.Layout
  ls = g.code.layouts

  abbrev N : ℕ
  N = l.holding.bound

  mother : Chain (H a) n.frames × Allowed ls (HasConsole g H E T b.area) (E a) N n.frames n.store.map
  mother = head ls H E (HasConsole g H E T b.area) N a us n.frames n.store.map l.holding.allowed

  known_low : (q : Spot) → IsSome (map.get n.store.map q) → q.frame ≤ n.depth
  known_low q k = let w = known_below n.store.map q k in let m = next_low ls H E (HasConsole g H E T b.area)
      (a ∷ us) n.frames n.depth n.store l.holding in omega (arith, w, m)

  effect_known : (x : ℕ) (q : Spot) → E a x → spot_of ls n.frames x ≡ Some q → IsHeld (map.get n.store.map q)
  effect_known x q e at =
      let (there, stands, _, holds) = mother.1.held x e in
      subst (λ (s : Spot). IsHeld (map.get n.store.map s)) (same_Some _ _ (sym stands ∙ at))
      (has_held ls n.frames n.store.map x there holds)

  -- ---- a child

  module _ (value : ℤ) (q k : ℕ) (t : ChildTable) (e : Area) (c : IsChild g H E T a e t) where
    abbrev h : Handing
    h = handing_of ls n.frames value k t

    abbrev child : Config (Memory Plain)
    child = child_process plain g d value q k t

    moved_held : (s : Spot) → In s h.moved → IsHeld (map.get n.store.map s)
    moved_held s i = let v = spots_from ls n.frames t.moved s i in effect_known v.0 s
        (c.effect v.0 (member_front v.0 t.moved t.shared v.1)) v.2

    shared_held : (s : Spot) → In s h.shared → IsHeld (map.get n.store.map s)
    shared_held s i = let v = spots_from ls n.frames t.shared s i in effect_known v.0 s
        (c.effect v.0 (member_back v.0 t.moved t.shared v.1)) v.2

    -- what the child knows is handed to it, or its index
    child_known : (s : Spot) → IsSome (map.get (child_map n.store.map h) s) → In s h.moved
        ⊎ (In s h.shared ⊎ (s.frame ≡ index_frame h))
    child_known s k = ⊎_elim (λ i. inl i)
        (λ o. ⊎_elim (λ i. inr (inl i)) (λ u. inr (inr (framed o u (s.frame == index_frame h) refl)))
        (in_or s h.shared)) (in_or s h.moved)
      where
        framed : NotIn s h.moved → NotIn s h.shared → (t : Bool) → (s.frame == index_frame h) ≡ t
            → s.frame ≡ index_frame h
        framed o u true e = Rattle.std.proofs.lemmas.Bool.eqb-true s.frame (index_frame h) e
        framed o u false e = absurd (mathlib.Core.Bool.false≢true
            (subst (λ z. IsSome z) (child_rest n.store.map h s o u (λ i. cc (sym e
            ∙ Rattle.sp_cell.proofs.FrameLaws.is_same s.frame (index_frame h) i))) k))

    index_low : index_frame h ≤ n.depth + 1
    index_low =
        let m = above_bound h.moved (n.depth + 1)
        (λ s i. (let w = known_low s (known_of_held (map.get n.store.map s) (moved_held s i)) in omega
        (arith, w))) in
        let o = above_bound h.shared (n.depth + 1)
        (λ s i. (let w = known_low s (known_of_held (map.get n.store.map s) (shared_held s i)) in omega
        (arith, w))) in
        omega (arith, m, o)

    low : (s : Spot) → IsSome (map.get (child_map n.store.map h) s) → s.frame ≤ n.depth + 1
    low s k = ⊎_elim
        (λ i. (let w = known_low s (known_of_held (map.get n.store.map s) (moved_held s i)) in omega (arith, w)))
        (λ r. ⊎_elim
        (λ i. (let w = known_low s (known_of_held (map.get n.store.map s) (shared_held s i)) in omega (arith, w)))
        (λ (f : s.frame ≡ index_frame h). omega (arith, f, index_low)) r)
        (child_known s k)

    shared_away : {cs : List Cell} → Some (Shared cs) ≢ Some Away
    shared_away e = cc e

    none_index : (o : Option (ℕ × ℤ)) (m : Map) (f : ℕ) (s : Spot) → map.get m s ≢ Some Away
        → map.get (with_index m f o) s ≢ Some Away
    none_index None m f s o e = o e
    none_index (Some i) m f s o e = ⊎_elim
        (λ (w : s ≡ record { frame = f; variable = i.0 }). own_away
        (sym (get_here m (record { frame = f; variable = i.0 }) (Own (cell.Ordinal i.1 ∷ [])))
        ∙ ap (λ z. map.get (with_index m f (Some i)) z) (sym w) ∙ e))
        (λ (w : s ≢ record { frame = f; variable = i.0 }). o
        (sym (get_other m (record { frame = f; variable = i.0 }) (Own (cell.Ordinal i.1 ∷ [])) s w) ∙ e))
        (same_or s (record { frame = f; variable = i.0 }))

    none_lent : (s : Spot) → map.get (with_shared n.store.map h.shared map.empty) s ≢ Some Away
    none_lent s e = ⊎_elim
        (λ i. shared_away (sym (get_lent_in n.store.map h.shared map.empty s i) ∙ e))
        (λ o. absent (sym (map.get-empty spot_cmp s) ∙ sym (get_lent_out n.store.map h.shared map.empty s o) ∙ e))
        (in_or s h.shared)
      where
        absent : None ≢ Some Away
        absent e = cc e

    child_away : (s : Spot) → map.get (child_map n.store.map h) s ≢ Some Away
    child_away s e = ⊎_elim
        (λ i. held_not_away (map.get n.store.map s) (moved_held s i)
        (sym (child_moved n.store.map h s i (known_of_held (map.get n.store.map s) (moved_held s i))) ∙ e))
        (λ o. none_index h.index (with_shared n.store.map h.shared map.empty) (index_frame h) s (none_lent s)
        (sym (get_taken_out n.store.map h.moved
        (with_index (with_shared n.store.map h.shared map.empty) (index_frame h) h.index) s o) ∙ e))
        (in_or s h.moved)

    right : (x : ℕ) → E e x → IsRight t x
    right x r = c.rights x r

    back : E e 0 ⊎ E e 1 → IsRight t 0 ⊎ IsRight t 1
    back z = ⊎_elim (λ r. inl (c.rights 0 r)) (λ r. inr (c.rights 1 r)) z

    -- what it holds, with its frames
    record BeginsHolding (fs : List Frame) : Type 0 where
      pub chain : Chain (H e) fs
      pub allowed : Allowed ls (HasConsole g H E T e) (E e) (suc N) fs (child_map n.store.map h)
      pub stood : (x : ℕ) → IsMember x (handed_to t) → spot_of ls fs x ≡ spot_of ls n.frames x
      pub alike : (x : ℕ) → IsMember x (handed_to t) → 2 ≤ x → extent ls fs x ≡ extent ls n.frames x

    begins_by : (o : Option ℕ) → t.index ≡ o → BeginsHolding (with_index_frame plain g q h o n.frames)
    begins_by None is = record {
      chain = subst (λ hs. Chain hs n.frames) (sym (c.homes ∙ ap (λ o. with_home o (H a)) is)) mother.0;
      allowed = allowed_iff ls (IsRight t 0
          ⊎ IsRight t 1) (HasConsole g H E T e) (IsRight t) (E e) (suc N) n.frames (child_map n.store.map h) right
          (λ z. z) back
          (born ls (H a) n.frames mother.0 (HasConsole g H E T b.area)
          (E a) N n.store.map mother.1 t value k c.effect c.once c.no_output c.around is);
      stood = λ x i. refl;
      alike = λ x i r. refl;
    }
    begins_by (Some y) is =
        let w = c.index y is in
        record {
          chain = subst (λ hs. Chain hs (f ∷ n.frames)) (sym (c.homes
              ∙ ap (λ o. with_home o (H a)) is))
              (chain_new ls (H a) n.frames mother.0 (HasConsole g H E T b.area)
              (E a) N n.store.map mother.1 t value k c.effect c.once c.no_output c.around y is q w.0 w.1);
          allowed = allowed_iff ls (IsRight t 0
              ⊎ IsRight t 1) (HasConsole g H E T e) (IsRight t) (E e) (suc N) (f ∷ n.frames)
              (child_map n.store.map h) right (λ z. z) back
              (born_with_index ls (H a) n.frames mother.0 (HasConsole g H E T b.area)
              (E a) N n.store.map mother.1 t value k c.effect c.once c.no_output c.around y is q w.0 w.1);
          stood = stays ls (H a) n.frames mother.0 (HasConsole g H E T b.area)
              (E a) N n.store.map mother.1 t value k c.effect c.once c.no_output c.around y is q w.0 w.1;
          alike = outer_extent ls (H a) n.frames mother.0 (HasConsole g H E T b.area)
              (E a) N n.store.map mother.1 t value k c.effect c.once c.no_output c.around y is q w.0 w.1;
        }
      where
        f : Frame
        f = record { owner = q; number = index_frame h; home = OfIndex y; link = length n.frames; references = [] }

    begins : BeginsHolding (frames_of child)
    begins = begins_by t.index refl

    abbrev pub child_base : Base g H E T
    child_base = record { area = e; frames = frames_of child; moved = h.moved }

    console_known : HasConsole g H E T e → IsSome (map.get (child_map n.store.map h) input_spot)
        ⊎ IsSome (map.get (child_map n.store.map h) output_spot)
    console_known (inl r) = let (there, stands, _, holds) = begins.allowed.held 0 r in inl
        (known_of_held (map.get (child_map n.store.map h) input_spot)
        (subst (λ (s : Spot). IsHeld (map.get (child_map n.store.map h) s)) (sym (same_Some _ _ stands))
        (has_held ls (frames_of child) (child_map n.store.map h) 0 there holds)))
    console_known (inr r) = let (there, stands, _, holds) = begins.allowed.held 1 r in inr
        (known_of_held (map.get (child_map n.store.map h) output_spot)
        (subst (λ (s : Spot). IsHeld (map.get (child_map n.store.map h) s)) (sym (same_Some _ _ stands))
        (has_held ls (frames_of child) (child_map n.store.map h) 1 there holds)))

    -- the child lives
    pub child_lives : HasActivations g H E T child_base (e ∷ []) child
    child_lives = record {
      holding = record {
        bound = suc N;
        allowed = (begins.chain, begins.allowed);
        base = n.depth + 1;
        own = refl;
        deep = omega arith;
        known = λ s r. inr (low s r);
        none_away = child_away;
        moved = λ s i. subst IsHeld (sym
            (child_moved n.store.map h s i (known_of_held (map.get n.store.map s) (moved_held s i)))) (moved_held s i);
        old = λ s i z. z;
        console = λ z. ((λ i. i), console_known z);
      };
      last = (refl, refl);
      moved = refl;
    }

    -- what moved to it is its own and its parent's
    pub child_transferred : (s : Spot) → In s h.moved → MovedSpot g H E T Room Cells a n.frames child_base s
    child_transferred s i =
        let v = spots_from ls n.frames t.moved s i in
        let m = member_front v.0 t.moved t.shared v.1 in
        record {
          variable = v.0;
          here = c.effect v.0 m;
          there = c.given v.0 (inl m);
          stands = v.2;
          stood = begins.stood v.0 m ∙ v.2;
          alike = begins.alike v.0 m;
        }

  -- ---- the parent, at a fork of table t with this many children

  module _ (t : ℕ) (value : ℤ) (count : ℕ) (f : ForkInvariant g H E T a t value count d)
      (room : HasNextFrame n.store) where
    abbrev table : ForkTable
    table = table_or (slice_get g.code.forks t)

    abbrev plan : List Handing
    plan = plan_from ls n.frames table value 0 count

    keeps : KeepsForks (E a) table count
    keeps = record {
      effect = λ j x lt i. (f.children j lt).effect x i;
      once = λ j lt. (f.children j lt).once;
      no_output = λ j lt i. (f.children j lt).no_output i;
      clear = f.clear;
    }

    pub splits : CanSplit n.store plan
    splits = can_split ls (HasConsole g H E T b.area) (E a) N n.frames n.store table value count keeps mother.1 room

    abbrev whole : Map
    whole = with_shared n.store.map (shared_of plan) n.store.map

    piece_not_output : (o : Option Content) → IsPiece o → IsOutput o → ⊥
    piece_not_output None p o = p
    piece_not_output (Some (Own cs)) p o = o
    piece_not_output (Some (Shared cs)) p o = o
    piece_not_output (Some (Output bs)) p o = p
    piece_not_output (Some Away) p o = p

    keeps_whole : (k : ℕ) → KeepsLengths (HasConsole g H E T b.area) k n.store.map whole
    keeps_whole k = keeps_lent (HasConsole g H E T b.area) k n.store.map (shared_of plan)
        (λ i o. piece_not_output (map.get n.store.map output_spot) (splits.pieces output_spot i) o)

    either : (q : Spot) (P : Option Content → Type 0)
        → (In q (shared_of plan) → P (Some (Shared (cells_at n.store.map q))))
        → (NotIn q (shared_of plan) → P (map.get n.store.map q)) → P (map.get whole q)
    either q P x y = ⊎_elim (λ i. subst P (sym (get_lent_in n.store.map (shared_of plan) n.store.map q i)) (x i))
        (λ o. subst P (sym (get_lent_out n.store.map (shared_of plan) n.store.map q o)) (y o))
        (in_or q (shared_of plan))

    whole_known : (q : Spot) → IsSome (map.get whole q) → IsSome (map.get n.store.map q)
    whole_known q k = ⊎_elim (λ i. known_of_piece (map.get n.store.map q) (splits.pieces q i))
        (λ o. subst (λ z. IsSome z) (get_lent_out n.store.map (shared_of plan) n.store.map q o) k)
        (in_or q (shared_of plan))

    not_away : {cs : List Cell} → Some (Shared cs) ≢ Some Away
    not_away e = cc e

    lives_whole : HasActivations g H E T b (a ∷ us)
        (At pc st (record n { store = record { map = whole; own = n.store.own; moved = n.store.moved } }))
    lives_whole = record {
      holding = record {
        bound = N;
        allowed = all_keeps ls (HasConsole g H E T b.area) n.store.map whole H E N (a ∷ us) n.frames
            (keeps_whole N) l.holding.allowed;
        base = l.holding.base;
        own = l.holding.own;
        deep = l.holding.deep;
        known = λ q k. l.holding.known q (whole_known q k);
        none_away = λ q. either q (λ o. o ≢ Some Away) (λ i. not_away) (λ o. l.holding.none_away q);
        moved = λ q m. either q IsHeld (λ i. tt) (λ o. l.holding.moved q m);
        old = l.holding.old;
        console = λ k. (
          (l.holding.console k).0,
          ⊎_elim
              (λ i. inl (either input_spot (λ o. IsSome o) (λ m. refl) (λ o. i)))
              (λ i. inr (either output_spot (λ o. IsSome o) (λ m. refl) (λ o. i))) (l.holding.console k).1,
        );
      };
      last = l.last;
      moved = l.moved;
    }

    -- the children's numbers are the next ones from P on
    module _ (P : ℕ) (base : ℕ → Base g H E T) (is : (j : ℕ) (lt : j < count)
        → base (P + j) ≡ child_base value (P + j) j (table_of g H E T t j) (f.area j) (f.children j lt)) where
      moved_is : (i k : ℕ) → ((j : ℕ) → j < k
          → (base (P + (i + j))).moved ≡ (handing_of ls n.frames value (i + j) (table_of g H E T t (i + j))).moved)
          → moved_to g H E T Room Cells base (Rattle.sp_journal.specs.Queue.numbers (P + i) k) ≡ moved_of
          (plan_from ls n.frames table value i k)
      moved_is i zero h = refl
      moved_is i (suc k) h =
          ap (λ xs. xs ++ moved_to g H E T Room Cells base (Rattle.sp_journal.specs.Queue.numbers (suc (P + i)) k))
          (first (h 0 (omega arith)))
          ∙ ap (λ ys. (handing_of ls n.frames value i (table_of g H E T t i)).moved
          ++ ys) (ap (λ z. moved_to g H E T Room Cells base (Rattle.sp_journal.specs.Queue.numbers z k)) next
          ∙ moved_is (suc i) k (λ j lt. shift j (h (suc j) (omega (arith, lt)))))
        where
          next : suc (P + i) ≡ P + suc i
          next = omega arith

          zero_at : i + 0 ≡ i
          zero_at = omega arith

          first : (base (P + (i + 0))).moved ≡ (handing_of ls n.frames value (i + 0) (table_of g H E T t (i + 0))).moved
              → (base (P + i)).moved ≡ (handing_of ls n.frames value i (table_of g H E T t i)).moved
          first e = subst (λ z. (base (P + z)).moved ≡
              (handing_of ls n.frames value z (table_of g H E T t z)).moved) zero_at e

          shift : (j : ℕ) → (base (P + (i + suc j))).moved ≡
              (handing_of ls n.frames value (i + suc j) (table_of g H E T t (i + suc j))).moved
              → (base (P + (suc i + j))).moved ≡
              (handing_of ls n.frames value (suc i + j) (table_of g H E T t (suc i + j))).moved
          shift j e = subst (λ z. (base (P + z)).moved ≡
              (handing_of ls n.frames value z (table_of g H E T t z)).moved) {x = i + suc j} {y = suc i + j}
              (omega arith) e

      all_moved : moved_to g H E T Room Cells base (Rattle.sp_journal.specs.Queue.numbers P count) ≡ moved_of plan
      all_moved =
          ap (λ z. moved_to g H E T Room Cells base (Rattle.sp_journal.specs.Queue.numbers z count)) {x = P} {y = P + 0}
          (omega arith)
          ∙ moved_is 0 count (λ j lt. subst
          (λ z. (base (P + z)).moved ≡ (handing_of ls n.frames value z
          (table_of g H E T t z)).moved) {x = j} {y = 0 + j} (omega arith)
          (ap (λ (x : Base g H E T). x.moved) (is j lt)))

      abbrev rs : List ℕ
      rs = Rattle.sp_journal.specs.Queue.numbers P count

      number_in : (p k r : ℕ) → IsMember r (Rattle.sp_journal.specs.Queue.numbers p k) → (j : ℕ) × (j < k) × (r ≡ p + j)
      number_in p zero r m = absurd m
      number_in p (suc k) r (inl e) = (0, omega arith, omega (arith, e))
      number_in p (suc k) r (inr m) = let w = number_in (suc p) k r m in
          (suc w.0, omega (arith, w.1), omega (arith, w.2))

      transferred_at : (r : ℕ) → IsMember r rs → (s : Spot) → In s (base r).moved
          → MovedSpot g H E T Room Cells a n.frames (base r) s
      transferred_at r m s i =
          let w = number_in P count r m in
          let same : base r ≡ child_base value (P + w.0) w.0 (table_of g H E T t w.0) (f.area w.0)
          (f.children w.0 w.1) = ap base w.2 ∙ is w.0 w.1 in
          subst (λ (x : Base g H E T). MovedSpot g H E T Room Cells a n.frames x s) (sym same)
          (child_transferred value (P + w.0) w.0 (table_of g H E T t w.0) (f.area w.0) (f.children w.0 w.1) s
          (subst (λ (x : Base g H E T). In s x.moved) same i))

      pub joins_well : T (a ∷ us) (on_store (λ m. plain.handed m plan) d)
          → JoinInvariant g H E T Room Cells base b rs (on_store (λ m. plain.handed m plan) d)
      joins_well stands = record {
        area = a;
        callers = us;
        whole = whole;
        lives = lives_whole;
        stands = stands;
        lent = record {
          away = λ s i. (let m = subst (In s) all_moved i in parent_moved n.store.map plan s m (splits.apart s m));
          rest = λ s o. lent_alike n.store.map (shared_of plan) (with_away n.store.map (moved_of plan)) n.store.map s
              (get_away_out n.store.map (moved_of plan) s (subst (NotIn s) all_moved o));
          distinct = subst IsDistinct (sym all_moved) splits.distinct;
          transferred = transferred_at;
        };
      }
