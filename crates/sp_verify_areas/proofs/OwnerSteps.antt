-- The steps of a search for owners: each hands on what is true, and where it changes nothing, it leaves nothing to be
-- handed on.
use Rattle.std.proofs.Common.{◌≡◌, ◌⊎◌, inl, inr, ⊎_elim, refl, ap, sym, ◌∙◌, subst, ℕ, zero, suc, ◌+◌, ◌<◌, List}
use Rattle.std.proofs.Common.{[], ◌∷◌, length, Option, Some, None, Bool, true, false, ◌||◌, if◌then◌else◌, arith}
use Rattle.std.specs.Prelude.{slice_get, slice_set, Result, Ok, Err, IfOk}
use Rattle.std.proofs.lemmas.List.Sums.{sum_by-set}
use Rattle.std.proofs.lemmas.Option.{slice_get_within, get_or_from_slice_get, none-some, same_Some}
use Rattle.sp_base.proofs.Facts.{below_or_last, not_true_and_false}
use Rattle.sp_code.specs.declared.instr.Instr.{Instr}
use Rattle.sp_code.specs.declared.code.Layout.{Layout}
use Rattle.sp_code.specs.declared.code.ChildTable.{ChildTable}
use Rattle.sp_code.specs.declared.code.ForkTable.{ForkTable}
use Rattle.sp_code.specs.declared.code.Parts.{Parts}
use Rattle.sp_code.specs.Machine.{layout_of}
use Rattle.sp_verify_areas.specs.declared.owners.Owner.{Owner}
use Rattle.sp_verify_areas.specs.declared.owners.Owner.TheVariants as owner
use Rattle.sp_verify_rules.specs.Areas.{on_option, instr_at, table_named, child_of}
use Rattle.sp_verify_rules.specs.Reach.{IsMember, nexts}
use Rattle.sp_verify_rules.specs.NameRules.{Names}
use Rattle.sp_verify_areas.specs.Owners.{IsTrueOf, AreTrue, is_same, IsOwner, common_owner, changes_left, room}
use Rattle.sp_verify_areas.specs.Owners.{as_child}
use Rattle.sp_verify_areas.specs.Owners.{of_child, KnowsOwner}
use Rattle.sp_verify_areas.specs.Owners.{HandsOwner, Propagates, KnowsAt, IsSpread, IsHanded, IsSpreadBy}
use Rattle.sp_verify_areas.specs.Owners.{AreBegun, EachFirst}
use Rattle.sp_verify_areas.specs.Owners.{list_of_ways, entry_at}
use Rattle.sp_verify_areas.proofs.OwnerLaws.{same_is, same_self, gives_spreads, spreads_as, spreads_then}
use Rattle.sp_verify_areas.proofs.OwnerLaws.{spreads_room, true_along, true_table, true_child, true_begin}
use Rattle.sp_verify_areas.proofs.OwnerClosure.{some_child}

-- ---- one change

set_same : (xs : List Owner) (x : ℕ) (w : Owner) → slice_get xs x ≡ Some w → slice_set xs x w ≡ xs
set_same [] x w e = refl
set_same (y ∷ ys) zero w e = ap (λ z. z ∷ ys) (sym (same_Some y w e))
set_same (y ∷ ys) (suc x) w e = ap (λ zs. y ∷ zs) (set_same ys x w e)

few : (o : Owner) → is_same owner.Nobody o ≡ false → changes_left o < 2
few owner.Nobody e = absurd (cc e)
few (owner.Block b) e = omega arith
few (owner.Child p k) e = omega arith
few owner.Several e = omega arith

fewer : (w o : Owner) → changes_left w ≡ 1 → is_same w (if is_same w o then w else owner.Several) ≡ false
    → changes_left (if is_same w o then w else owner.Several) < changes_left w
fewer w o one e = go (is_same w o) e
  where
    go : (b : Bool) → is_same w (if b then w else owner.Several) ≡ false
        → changes_left (if b then w else owner.Several) < changes_left w
    go true e = absurd (not_true_and_false (is_same w w) (same_self w) e)
    go false e = omega (arith, one)

falls : (w o : Owner) → is_same w (common_owner w o) ≡ false → changes_left (common_owner w o) < changes_left w
falls owner.Nobody o e = few o e
falls (owner.Block b) o e = fewer (owner.Block b) o refl e
falls (owner.Child p k) o e = fewer (owner.Child p k) o refl e
falls owner.Several o e = absurd (cc e)

pub gives_old : (os : List Owner) (x : ℕ) (o w : Owner) → slice_get os x ≡ Some w → is_same w (common_owner w o) ≡ true
    → HandsOwner os os x o false
gives_old os x o w e h = record { now = now; less = λ z. absurd (cc z); unchanged = λ z. refl }
  where
    now : os ≡ on_option os (slice_get os x) (λ v. slice_set os x (common_owner v o))
    now = sym (ap (λ (u : Option Owner). on_option os u (λ v. slice_set os x (common_owner v o))) e
        ∙ ap (slice_set os x) (sym (same_is w (common_owner w o) h)) ∙ set_same os x w e)

pub gives_new : (os : List Owner) (x : ℕ) (o w : Owner) → slice_get os x ≡ Some w → is_same w (common_owner w o) ≡ false
    → HandsOwner os (slice_set os x (common_owner w o)) x o true
gives_new os x o w e h = record {
  now = sym (ap (λ (u : Option Owner). on_option os u (λ v. slice_set os x (common_owner v o))) e);
  less = λ z. less;
  unchanged = λ z. absurd (cc z);
}
  where
    less : room (slice_set os x (common_owner w o)) < room os
    less =
        let s = sum_by-set changes_left os x (common_owner w o) w (slice_get_within os x w e) in
        let g = ap changes_left (get_or_from_slice_get os x w w e) in
        let f = falls w o h in
        omega (arith, s, g, f)

-- ---- ways

pub way_first : (q : ℕ) (s : Option ℕ) (ns : List ℕ) → list_of_ways (Some q) s ≡ ns → IsMember q ns
way_first q None ns e = subst (IsMember q) e (inl refl)
way_first q (Some r) ns e = subst (IsMember q) e (inl refl)

pub way_second : (q : ℕ) (f : Option ℕ) (ns : List ℕ) → list_of_ways f (Some q) ≡ ns → IsMember q ns
way_second q None ns e = subst (IsMember q) e (inl refl)
way_second q (Some r) ns e = subst (IsMember q) e (inr (inl refl))

pub in_listed : (q : ℕ) (f s : Option ℕ) → IsMember q (list_of_ways f s) → (f ≡ Some q) ⊎ (s ≡ Some q)
in_listed q None None i = absurd i
in_listed q None (Some r) (inl e) = inr (ap Some (sym e))
in_listed q None (Some r) (inr i) = absurd i
in_listed q (Some p) None (inl e) = inl (ap Some (sym e))
in_listed q (Some p) None (inr i) = absurd i
in_listed q (Some p) (Some r) (inl e) = inl (ap Some (sym e))
in_listed q (Some p) (Some r) (inr (inl e)) = inr (ap Some (sym e))
in_listed q (Some p) (Some r) (inr (inr i)) = absurd i

-- what holds of an answer, if there is one
pub ok_map : {T E : Type 0} (r : Result T E) (P Q : T → Type 0) → ((x : T) → P x → Q x) → IfOk r P → IfOk r Q
ok_map (Ok x) P Q f h = f x h
ok_map (Err e) P Q f h = tt

module _ (c : Parts) where
  -- ---- the next instructions

  pub first_true : (os : List Owner) (p : ℕ) (o : Owner) (i : Instr) (f s : Option ℕ) → AreTrue c os
      → p < length c.instrs → slice_get os p ≡ Some o → instr_at c p ≡ Some i → list_of_ways f s ≡ nexts p (Some i)
      → (q : ℕ) → f ≡ Some q → q < length c.instrs → IsTrueOf c q o
  first_true os p o i f s are l e ei ways q ef m =
      true_along c p q o l m (subst (IsMember q) (sym (ap (nexts p) ei))
      (way_first q s (nexts p (Some i)) (ap (λ (z : Option ℕ). list_of_ways z s) (sym ef) ∙ ways))) (are.each p o e)

  pub second_true : (os : List Owner) (p : ℕ) (o : Owner) (i : Instr) (f s : Option ℕ) → AreTrue c os
      → p < length c.instrs → slice_get os p ≡ Some o → instr_at c p ≡ Some i → list_of_ways f s ≡ nexts p (Some i)
      → (q : ℕ) → s ≡ Some q → q < length c.instrs → IsTrueOf c q o
  second_true os p o i f s are l e ei ways q es m =
      true_along c p q o l m (subst (IsMember q) (sym (ap (nexts p) ei))
      (way_second q f (nexts p (Some i)) (ap (list_of_ways f) (sym es) ∙ ways))) (are.each p o e)

  -- ---- to the end of a way

  pub hand_given : (a b : List Owner) (q : ℕ) (o : Owner) (s : Bool) → AreTrue c a → IsOwner o → q < length c.instrs
      → IsTrueOf c q o → HandsOwner a b q o s → Propagates c a b (KnowsAt c (Some q) o) s
  hand_given a b q o s are some l t g =
      spreads_as c a b (λ os. KnowsOwner os q o) (KnowsAt c (Some q) o) s
      (λ same k r e m. subst (λ z. KnowsOwner b z o) (same_Some q r e) k)
      (gives_spreads c a b q o s are some t g (omega (arith, l)))

  -- ---- to a table

  abbrev Tabled : ℕ → Owner → List Owner → Type 0
  Tabled p o os = (t : ℕ) → Names c t p → t < length c.forks → KnowsOwner os (length c.instrs + t) (as_child p o)

  pub table_given : (a b : List Owner) (p t : ℕ) (o v : Owner) (i : Instr) (s : Bool) → AreTrue c a → IsOwner o
      → p < length c.instrs → IsTrueOf c p o → instr_at c p ≡ Some i → Some t ≡ table_named (Some i)
      → t < length c.forks → v ≡ as_child p o → HandsOwner a b (length c.instrs + t) v s
      → Propagates c a b (Tabled p o) s
  table_given a b p t o v i s are some l h e n m ev g =
      spreads_as c a b (λ os. KnowsOwner os (length c.instrs + t) (as_child p o)) (Tabled p o) s
      (λ same k u r w. subst (λ z. KnowsOwner b (length c.instrs + z) (as_child p o)) (same_Some t u (n
      ∙ sym (ap table_named e) ∙ r)) k)
      (gives_spreads c a b (length c.instrs + t) (as_child p o) s are (some_child p o some)
      (true_table c p t o l (ap table_named e
      ∙ sym n) h) (subst (λ z. HandsOwner a b (length c.instrs + t) z s) ev g) (omega (arith, m)))

  -- ---- an instruction

  pub an_owner : (w : Owner) → is_same w owner.Nobody ≡ false → IsOwner w
  an_owner w h e = not_true_and_false (is_same w owner.Nobody) (ap (λ z. is_same z owner.Nobody) e) h

  pub visited : (a b d e : List Owner) (p : ℕ) (o : Owner) (i : Instr) (f s : Option ℕ) (r t u : Bool)
      → slice_get a p ≡ Some o → instr_at c p ≡ Some i → list_of_ways f s ≡ nexts p (Some i)
      → Propagates c a b (KnowsAt c f o) r → Propagates c b d (KnowsAt c s o) t → Propagates c d e (Tabled p o) u
      → Propagates c a e (IsSpread c p) ((r || t) || u)
  visited a b d e p o i f s r t u ea ei ways h k m =
      spreads_as c a e (λ os. (KnowsAt c f o os × KnowsAt c s o os) × Tabled p o os) (IsSpread c p) ((r || t)
      || u) is_spread
      (spreads_then c a d e (λ os. KnowsAt c f o os × KnowsAt c s o os) (Tabled p o) (r
      || t) u (spreads_then c a b d (KnowsAt c f o) (KnowsAt c s o) r t h k) m)
    where
      is_spread : e ≡ a → (KnowsAt c f o e × KnowsAt c s o e) × Tabled p o e → IsSpread c p e
      is_spread same ((by_first, by_second), by_table) v ev some =
          let w : v ≡ o = same_Some v o (sym ev ∙ ap (λ (os : List Owner). slice_get os p) same ∙ ea) in
          subst (λ z. ((q : ℕ) → IsMember q (nexts p (instr_at c p)) → q < length c.instrs → KnowsOwner e q z)
          × ((t : ℕ) → Names c t p → t < length c.forks → KnowsOwner e (length c.instrs + t) (as_child p z))) (sym w) (
            (λ q j l. ⊎_elim (λ z. by_first q z l) (λ z. by_second q z l)
                (in_listed q f s (subst (IsMember q) (ap (nexts p) ei ∙ sym ways) j))),
            by_table,
          )

  -- ---- children

  pub handed_more : (a b d : List Owner) (o v : Owner) (ts : List ChildTable) (k : ℕ) (ch : ChildTable) (s t : Bool)
      → slice_get ts k ≡ Some ch → v ≡ of_child k o
      → Propagates c a b (IsHanded c o ts k) s → Propagates c b d (KnowsAt c (Some ch.entry) v) t
      → Propagates c a d (IsHanded c o ts (k + 1)) (s || t)
  handed_more a b d o v ts k ch s t e ev h m =
      spreads_as c a d (λ os. IsHanded c o ts k os × KnowsAt c (Some ch.entry) v os) (IsHanded c o ts (k + 1)) (s
      || t) more (spreads_then c a b d (IsHanded c o ts k) (KnowsAt c (Some ch.entry) v) s t h m)
    where
      more : d ≡ a → IsHanded c o ts k d × KnowsAt c (Some ch.entry) v d → IsHanded c o ts (k + 1) d
      more same z j x l ex lx = ⊎_elim (λ (m : j < k). z.0 j x m ex lx) here (below_or_last j k l)
        where
          here : j ≡ k → KnowsOwner d x.entry (of_child j o)
          here s =
              let r : x ≡ ch = same_Some x ch (sym ex ∙ ap (slice_get ts) s ∙ e) in
              let y = z.1 ch.entry refl (subst (λ (y : ChildTable). y.entry < length c.instrs) r lx) in
              subst (λ (y : ChildTable). KnowsOwner d y.entry (of_child j o)) (sym r)
              (subst (λ i. KnowsOwner d ch.entry (of_child i o)) (sym s) (subst (KnowsOwner d ch.entry) ev y))

  pub spread_by : (a b : List Owner) (t : ℕ) (o : Owner) (tb : ForkTable) (ts : List ChildTable) (s : Bool)
      → slice_get a (length c.instrs + t) ≡ Some o → slice_get c.forks t ≡ Some tb → ts ≡ tb.children
      → Propagates c a b (IsHanded c o ts (length ts)) s → Propagates c a b (IsSpreadBy c t) s
  spread_by a b t o tb ts s ea et ets h = spreads_as c a b (IsHanded c o ts (length ts)) (IsSpreadBy c t) s by h
    where
      by : b ≡ a → IsHanded c o ts (length ts) b → IsSpreadBy c t b
      by same k v ev some j ch i l =
          let w : v ≡ o = same_Some v o (sym ev ∙ ap (λ (os : List Owner). slice_get os (length c.instrs + t)) same
          ∙ ea) in
          let g : slice_get ts j ≡ Some ch = ap (λ (zs : List ChildTable). slice_get zs j) ets
          ∙ sym (ap (λ (u : Option ForkTable). child_of u j) et) ∙ i in
          subst (λ z. KnowsOwner b ch.entry (of_child j z)) (sym w) (k j ch (slice_get_within ts j ch g) g l)

  pub child_true : (os : List Owner) (t : ℕ) (o : Owner) (tb : ForkTable) (ts : List ChildTable) → AreTrue c os
      → slice_get os (length c.instrs + t) ≡ Some o → slice_get c.forks t ≡ Some tb → ts ≡ tb.children
      → (k : ℕ) (ch : ChildTable) → slice_get ts k ≡ Some ch → ch.entry < length c.instrs
      → IsTrueOf c ch.entry (of_child k o)
  child_true os t o tb ts are e et ets k ch g l =
      true_child c t k ch o (ap (λ (u : Option ForkTable). child_of u k) et
      ∙ ap (λ (zs : List ChildTable). slice_get zs k) (sym ets) ∙ g) l (are.each (length c.instrs + t) o e)

  -- ---- entries of blocks

  pub begun_more : (a b d : List Owner) (j : ℕ) (l : Layout) (to : Option ℕ) (s t : Bool)
      → slice_get c.layouts j ≡ Some l → ((m : Layout) → layout_of c.layouts l.block ≡ Some m → to ≡ Some m.entry)
      → Propagates c a b (AreBegun c j) s → Propagates c b d (KnowsAt c to (owner.Block l.block)) t
      → Propagates c a d (AreBegun c (j + 1)) (s || t)
  begun_more a b d j l to s t e at h k =
      spreads_as c a d (λ os. AreBegun c j os × KnowsAt c to (owner.Block l.block) os) (AreBegun c (j + 1)) (s
      || t) more (spreads_then c a b d (AreBegun c j) (KnowsAt c to (owner.Block l.block)) s t h k)
    where
      more : d ≡ a → AreBegun c j d × KnowsAt c to (owner.Block l.block) d → AreBegun c (j + 1) d
      more same z i x m lt ex em lm = ⊎_elim (λ (y : i < j). z.0 i x m y ex em lm) here (below_or_last i j lt)
        where
          here : i ≡ j → KnowsOwner d m.entry (owner.Block x.block)
          here s =
              let r : x ≡ l = same_Some x l (sym ex ∙ ap (slice_get c.layouts) s ∙ e) in
              subst (λ (y : Layout). KnowsOwner d m.entry (owner.Block y.block)) (sym r)
              (z.1 m.entry (at m (subst (λ (y : Layout). layout_of c.layouts y.block ≡ Some m) r em)) lm)

  -- ---- all

  -- one more, beside what is closed already
  pub each_more : (B : List Owner → Type 0) (P : ℕ → List Owner → Type 0) (a b d : List Owner) (k : ℕ) (s t : Bool)
      → Propagates c a b (λ os. B os × EachFirst P k os) s
      → Propagates c b d (P k) t → Propagates c a d (λ os. B os × EachFirst P (k + 1) os) (s || t)
  each_more B P a b d k s t h m = spreads_as c a d (λ os. (B os × EachFirst P k os) × P k os)
      (λ os. B os × EachFirst P (k + 1) os) (s || t) more
      (spreads_then c a b d (λ os. B os × EachFirst P k os) (P k) s t h m)
    where
      more : d ≡ a → (B d × EachFirst P k d) × P k d → B d × EachFirst P (k + 1) d
      more same ((before, first), here) = (
        before,
        λ x l. ⊎_elim (λ (y : x < k). first x y) (λ (e : x ≡ k). subst (λ i. P i d) (sym e) here) (below_or_last x k l),
      )

  -- none so far
  pub each_none : (B : List Owner → Type 0) (P : ℕ → List Owner → Type 0) (a b : List Owner) (s : Bool)
      → Propagates c a b B s → Propagates c a b (λ os. B os × EachFirst P 0 os) s
  each_none B P a b s h = spreads_as c a b B (λ os. B os × EachFirst P 0 os) s
      (λ same before. (before, λ x l. absurd (omega (arith, l)))) h

  -- with nothing said of what is closed
  abbrev Any : List Owner → Type 0
  Any os = Unit {0}

  pub any : (P : List Owner → Type 0) (a b : List Owner) (s : Bool) → Propagates c a b P s → Propagates c a b Any s
  any P a b s h = spreads_as c a b P Any s (λ same p. tt) h

  pub any_more : (a b d : List Owner) (s t : Bool) → Propagates c a b Any s → Propagates c b d Any t
      → Propagates c a d Any (s || t)
  any_more a b d s t h k = spreads_as c a d (λ os. Any os × Any os) Any (s
      || t) (λ same p. tt) (spreads_then c a b d Any Any s t h k)

pub some_of_child : (k : ℕ) (o : Owner) → IsOwner o → IsOwner (of_child k o)
some_of_child k owner.Nobody some e = some refl
some_of_child k (owner.Block b) some e = cc (e)
some_of_child k (owner.Child p j) some e = cc (e)
some_of_child k owner.Several some e = cc (e)

-- the entry of a block is its own
pub entry_true : (c : Parts) (b q : ℕ) → entry_at (layout_of c.layouts b) ≡ Some q → q < length c.instrs
    → IsTrueOf c q (owner.Block b)
entry_true c b q e l = go (layout_of c.layouts b) refl e
  where
    go : (o : Option Layout) → layout_of c.layouts b ≡ o → entry_at o ≡ Some q → IsTrueOf c q (owner.Block b)
    go None f e = absurd (none-some q e)
    go (Some m) f e =
        let s = same_Some m.entry q e in
        subst (λ z. IsTrueOf c z (owner.Block b)) s (true_begin c b m f (subst (λ z. z < length c.instrs) (sym s) l))

-- a sweep that found something new leaves less to be found, also after what follows it
pub room_falls : (c : Parts) (a b d : List Owner) (P Q : List Owner → Type 0) (s t : Bool) → Propagates c a b P s
    → s ≡ true → Propagates c b d Q t → room d < room a
room_falls c a b d P Q s t h e k = let x = h.less e in let y = spreads_room c b d Q t k in omega (arith, x, y)

-- one that found nothing leaves nothing
pub closed_now : (c : Parts) (a b : List Owner) (P : List Owner → Type 0) (s : Bool) → Propagates c a b P s → s ≡ false
    → AreTrue c b × P b
closed_now c a b P s h e = (h.just, (h.unchanged e).1)
