-- Which variables are known around the code of an area.
use Rattle.std.proofs.Common.{◌≡◌, ◌⊎◌, inl, inr, ⊎_elim, refl, ap, sym, ◌∙◌, subst, ℕ, zero, suc, ◌+◌, ◌<◌, ◌≤◌}
use Rattle.std.proofs.Common.{◌==◌, List, [], ◌∷◌, ◌++◌, length, drop, Option, Some, None, Bool, true, false, ◌||◌}
use Rattle.std.proofs.Common.{arith, eqb-true}
use Rattle.std.specs.Prelude.{slice_get, not}
use Rattle.std.proofs.lemmas.Bool.{eq-eqb, not-true, not_from_false, or_left, or_right}
use Rattle.std.proofs.lemmas.Option.{slice_get_within, none-some, same_Some}
use Rattle.sp_base.proofs.Facts.{below_or_last, item_there, not_true_and_false}
use Rattle.sp_code.specs.declared.code.Layout.{Layout}
use Rattle.sp_code.specs.declared.code.ChildTable.{ChildTable}
use Rattle.sp_code.specs.declared.code.ForkTable.{ForkTable}
use Rattle.sp_code.specs.declared.code.Parts.{Parts}
use Rattle.sp_code.specs.Memory.{Home}
use Rattle.sp_verify_rules.specs.Areas.{Area, Body, Child, homes, child_of, instr_at, table_named}
use Rattle.sp_verify_rules.specs.Reach.{IsMember}
use Rattle.sp_verify_rules.specs.NameRules.{Names, is_in, has_variable, some_has}
use Rattle.sp_verify_rules.proofs.Lists.{member_front, member_back, member_either, member_at}
use Rattle.sp_verify_areas.specs.declared.homes.Homes.{Homes}
use Rattle.sp_verify_areas.specs.declared.tree.Frame.{Frame}
use Rattle.sp_verify_areas.specs.Homes.{AreHomes}
use Rattle.sp_verify_areas.specs.WrongNames.{Decides}
use Rattle.sp_verify_areas.specs.Only.{LiesOnlyIn}
use Rattle.sp_verify_areas.specs.Tree.{home_of, IsFrameOfHome, IsFrame}
use Rattle.sp_verify_areas.specs.LeastPlaces.{IsLeast, Upto}
use Rattle.sp_verify_areas.specs.declared.owners.Owner.TheVariants as owner
use Rattle.sp_verify_areas.specs.Owners.{owner_of, Owns}
use Rattle.sp_verify_areas.specs.Unknown.{ChildUnknown, HasUnknown, IsBelow, IsBetter, OneUnknown, UnknownBy}
use Rattle.sp_verify_areas.specs.Unknown.{UnknownOnly}
use Rattle.sp_verify_areas.proofs.Leasts.{least_of_same}
use Rattle.sp_verify_areas.proofs.OwnerClosure.{named_within}
use Rattle.sp_verify_areas.proofs.Surroundings.{owner_is}
use Rattle.sp_verify_areas.proofs.Outward.{drop_none}

pub drop_split : {T : Type 0} (xs : List T) (k : ℕ) (x : T) → slice_get xs k ≡ Some x → drop k xs ≡ x ∷ drop (k + 1) xs
drop_split [] k x e = absurd (none-some x e)
drop_split (y ∷ xs) zero x e = ap (λ z. z ∷ xs) (same_Some y x e) ∙ ap (λ (zs : List _). x ∷ zs) (sym (drop_none xs))
drop_split (y ∷ xs) (suc k) x e = let n : suc (k + 1) ≡ suc k + 1 = omega arith in drop_split xs k x e
    ∙ ap (λ i. x ∷ drop i (y ∷ xs)) n

pub drop_past : {T : Type 0} (xs : List T) (k : ℕ) → length xs ≤ k → drop k xs ≡ []
drop_past [] zero l = refl
drop_past [] (suc k) l = refl
drop_past (x ∷ xs) zero l = absurd (omega (arith, l))
drop_past (x ∷ xs) (suc k) l = drop_past xs k (omega (arith, l))

-- ---- in a list

-- the first items are others: it is among the rest, or is the next
pub in_next : (x y : ℕ) (xs : List ℕ) (k : ℕ) → slice_get xs k ≡ Some y → is_in x xs ≡ is_in x (drop k xs) → (x ≡ y → ⊥)
    → is_in x xs ≡ is_in x (drop (k + 1) xs)
in_next x y xs k e h d = h ∙ ap (is_in x) (drop_split xs k y e)
    ∙ ap (λ (t : Bool). t || is_in x (drop (k + 1) xs)) (unequal (x == y) refl)
  where
    unequal : (t : Bool) → x == y ≡ t → x == y ≡ false
    unequal true s = absurd (d (eqb-true x y s))
    unequal false s = s

pub in_here : (x y : ℕ) (xs : List ℕ) (k : ℕ) → slice_get xs k ≡ Some y → is_in x xs ≡ is_in x (drop k xs) → x ≡ y
    → true ≡ is_in x xs
in_here x y xs k e h s = sym (h ∙ ap (is_in x) (drop_split xs k y e)
    ∙ or_left (x == y) (is_in x (drop (k + 1) xs)) (eq-eqb x y s))

pub in_none : (x : ℕ) (xs : List ℕ) (k : ℕ) → length xs ≤ k → is_in x xs ≡ is_in x (drop k xs) → false ≡ is_in x xs
in_none x xs k l h = sym (h ∙ ap (is_in x) (drop_past xs k l))

pub in_at : (x y : ℕ) (xs : List ℕ) (k : ℕ) → slice_get xs k ≡ Some y → x == y ≡ true → is_in x xs ≡ true
in_at x y [] k e t = absurd (none-some y e)
in_at x y (z ∷ xs) zero e t = or_left (x == z) (is_in x xs) (ap (λ w. x == w) (same_Some z y e) ∙ t)
in_at x y (z ∷ xs) (suc k) e t = or_right (x == z) (is_in x xs) (in_at x y xs k e t)

pub in_get : (x : ℕ) (xs : List ℕ) → IsMember x xs → (k : ℕ) × (slice_get xs k ≡ Some x)
in_get x [] i = absurd i
in_get x (y ∷ xs) (inl e) = (zero, ap Some (sym e))
in_get x (y ∷ xs) (inr i) = let r = in_get x xs i in (suc r.0, r.1)

-- ---- in homes

pub some_at : (ls : List Layout) (x : ℕ) (hs : List Home) (k : ℕ) (h : Home) → slice_get hs k ≡ Some h
    → has_variable ls x h ≡ true → some_has ls x hs ≡ true
some_at ls x [] k h e t = absurd (none-some h e)
some_at ls x (g ∷ hs) zero h e t = or_left (has_variable ls x g) (some_has ls x hs)
    (ap (has_variable ls x) (same_Some g h e) ∙ t)
some_at ls x (g ∷ hs) (suc k) h e t = or_right (has_variable ls x g) (some_has ls x hs) (some_at ls x hs k h e t)

pub near_has : (ls : List Layout) (x : ℕ) (hs : List Home) (k : ℕ) (f : Frame)
    → IsFrameOfHome ls (slice_get hs k) (Some f)
    → (IsFrame ls f → has_variable ls x (home_of f) ≡ true) → some_has ls x hs ≡ true
near_has ls x hs k f i t = some_at ls x hs k (home_of f) (sym i.home_is) (t (i.frame f refl))

pub around_next : (ls : List Layout) (x : ℕ) (hs : List Home) (k : ℕ) (f : Frame)
    → IsFrameOfHome ls (slice_get hs k) (Some f)
    → some_has ls x hs ≡ some_has ls x (drop k hs) → (IsFrame ls f → false ≡ has_variable ls x (home_of f))
    → some_has ls x hs ≡ some_has ls x (drop (k + 1) hs)
around_next ls x hs k f i h t = h ∙ ap (some_has ls x) (drop_split hs k (home_of f) (sym i.home_is))
    ∙ ap (λ (b : Bool). b || some_has ls x (drop (k + 1) hs)) (sym (t (i.frame f refl)))

pub around_here : (ls : List Layout) (x : ℕ) (hs : List Home) (k : ℕ) (f : Frame)
    → IsFrameOfHome ls (slice_get hs k) (Some f)
    → (IsFrame ls f → true ≡ has_variable ls x (home_of f)) → true ≡ some_has ls x hs
around_here ls x hs k f i t = sym (near_has ls x hs k f i (λ z. sym (t z)))

pub around_none : (ls : List Layout) (x : ℕ) (hs : List Home) (k : ℕ) → length hs ≤ k
    → some_has ls x hs ≡ some_has ls x (drop k hs) → false ≡ some_has ls x hs
around_none ls x hs k l h = sym (h ∙ ap (some_has ls x) (drop_past hs k l))

pub homes_short : (c : Parts) (h : Homes) (p : ℕ) (a : Area) → AreHomes c h → p < length c.instrs → LiesOnlyIn c p a
    → length (homes c a) ≤ length h.nodes
homes_short c h p a are l only =
    let i = are.each p a l only in
    let n = item_there h.nodes i.node i.within in
    subst (λ (hs : List Home). length hs ≤ length h.nodes) i.stands (are.tree i.node n.0 n.1).short

-- ---- unknown ones

pub one_large : (ls : List Layout) (x : ℕ) (hs : List Home) (t : Bool) → 2 ≤ x → t ≡ some_has ls x hs
    → Decides (not t) (OneUnknown ls x hs)
one_large ls x hs t l s = record {
  yes = λ e. (
    l,
    sym s
        ∙ not-true t e,
  );
  no = λ e u. not_true_and_false (not t) (not_from_false t (s ∙ u.1)) e;
}

pub unknown_here : (ls : List Layout) (xs : List ℕ) (hs : List Home) (k x : ℕ) → slice_get xs k ≡ Some x
    → OneUnknown ls x hs → Decides true (HasUnknown ls xs hs)
unknown_here ls xs hs k x e u = record { yes = λ z. (x, member_at xs k x e, u); no = λ z. absurd (cc z) }

pub unknown_none : (ls : List Layout) (xs : List ℕ) (hs : List Home) (n : ℕ) → length xs ≤ n
    → ((k y : ℕ) → k < n → slice_get xs k ≡ Some y → OneUnknown ls y hs → ⊥) → Decides false (HasUnknown ls xs hs)
unknown_none ls xs hs n l known = record { yes = λ z. absurd (cc z); no = λ z u. no u }
  where
    no : HasUnknown ls xs hs → ⊥
    no (x, among, absent) =
        let g = in_get x xs among in
        let w = slice_get_within xs g.0 x g.1 in
        known g.0 x (omega (arith, w, l)) g.1 absent

module _ (ls : List Layout) (xs ys : List ℕ) (hs : List Home) where
  pub unknown_first : (t : Bool) → Decides t (HasUnknown ls xs hs) → t ≡ true
      → Decides true (HasUnknown ls (xs ++ ys) hs)
  unknown_first t d e = let (x, among, absent) = d.yes e in
      record { yes = λ z. (x, member_front x xs ys among, absent); no = λ z. absurd (cc z) }

  pub unknown_second : (s t : Bool) → Decides s (HasUnknown ls xs hs) → s ≡ false → Decides t (HasUnknown ls ys hs)
      → Decides t (HasUnknown ls (xs ++ ys) hs)
  unknown_second s t d e h = record {
    yes = λ z. (let (x, among, absent) = h.yes z in (x, member_back x xs ys among, absent));
    no = λ z u. no z u (member_either u.0 xs ys u.1);
  }
    where
      no : t ≡ false → (u : HasUnknown ls (xs ++ ys) hs) → IsMember u.0 xs ⊎ IsMember u.0 ys → ⊥
      no z (x, _, absent) (inl i) = d.no e (x, i, absent)
      no z (x, _, absent) (inr i) = h.no z (x, i, absent)

-- ---- the least one

pub least_better : (P : ℕ → Type 0) (first result : Option ℕ) (p : ℕ) (U : Type 0) → IsLeast P first
    → IsBetter first p U result → IsLeast (λ n. P n ⊎ ((p ≡ n) × U)) result
least_better P first result p U h (inl (e, never)) = subst (IsLeast (λ n. P n
    ⊎ ((p ≡ n) × U))) (sym e) (keep first h never)
  where
    keep : (first : Option ℕ) → IsLeast P first → (IsBelow first p → U → ⊥) → IsLeast (λ n. P n ⊎ ((p ≡ n) × U)) first
    keep None h never = λ n z. ⊎_elim (h n) (λ w. never tt w.1) z
    keep (Some m) h never = (inl h.0, λ n l z. ⊎_elim (h.1 n l) (λ w. never (subst (λ i. i < m) (sym w.0) l) w.1) z)
least_better P first result p U h (inr (e, below, u)) = subst (IsLeast (λ n. P n
    ⊎ ((p ≡ n) × U))) (sym e) (
      inr (refl, u),
      λ n l z. ⊎_elim (before first h below n l)
          (λ w. (let s : p ≡ n = w.0 in omega (arith, s, l))) z,
    )
  where
    before : (first : Option ℕ) → IsLeast P first → IsBelow first p → (n : ℕ) → n < p → P n → ⊥
    before None h below n l = h n
    before (Some m) h below n l = h.1 n (omega (arith, below, l))

module _ (P : ℕ → Type 0) (ls : List Layout) (hs : List Home) (ts : List ChildTable) where
  pub children_none : (first : Option ℕ) → IsLeast P first → IsLeast (λ p. P p ⊎ Upto (ChildUnknown ls hs ts) 0 p) first
  children_none first h = least_of_same P (λ p. P p
      ⊎ Upto (ChildUnknown ls hs ts) 0 p) first (λ p z. inl z)
      (λ p z. ⊎_elim (λ w. w) (λ (u : Upto (ChildUnknown ls hs ts) 0 p). absurd (omega (arith, u.below))) z) h

  pub children_more : (first result : Option ℕ) (n : ℕ) (ch : ChildTable) → slice_get ts n ≡ Some ch
      → IsLeast (λ p. P p ⊎ Upto (ChildUnknown ls hs ts) n p) first
      → IsBetter first ch.entry (HasUnknown ls (ch.moved ++ ch.shared) hs) result
      → IsLeast (λ p. P p ⊎ Upto (ChildUnknown ls hs ts) (n + 1) p) result
  children_more first result n ch e h b =
      least_of_same (λ p. (P p ⊎ Upto (ChildUnknown ls hs ts) n p)
      ⊎ ((ch.entry ≡ p) × HasUnknown ls (ch.moved ++ ch.shared) hs)) (λ p. P p
      ⊎ Upto (ChildUnknown ls hs ts) (n + 1) p) result up down
      (least_better (λ p. P p ⊎ Upto (ChildUnknown ls hs ts) n p) first result ch.entry
      (HasUnknown ls (ch.moved ++ ch.shared) hs) h b)
    where
      up : (p : ℕ) → (P p ⊎ Upto (ChildUnknown ls hs ts) n p)
          ⊎ ((ch.entry ≡ p) × HasUnknown ls (ch.moved ++ ch.shared) hs) → P p ⊎ Upto (ChildUnknown ls hs ts) (n + 1) p
      up p (inl (inl z)) = inl z
      up p (inl (inr u)) = inr (record {
        item = u.item;
        below = (let l = u.below in omega (arith, l));
        holds = u.holds;
      })
      up p (inr z) = inr (record { item = n; below = omega arith; holds = (ch, e, z.0, z.1) })

      split : (p : ℕ) (u : Upto (ChildUnknown ls hs ts) (n + 1) p) → (u.item < n) ⊎ (u.item ≡ n)
          → (P p ⊎ Upto (ChildUnknown ls hs ts) n p) ⊎ ((ch.entry ≡ p) × HasUnknown ls (ch.moved ++ ch.shared) hs)
      split p u (inl l) = inl (inr (record { item = u.item; below = l; holds = u.holds }))
      split p u (inr q) =
          let (other, there, begins, unknown) = u.holds in
          let s : other ≡ ch = same_Some other ch (sym there ∙ ap (slice_get ts) q ∙ e) in
          inr (subst (λ (z : ChildTable). (z.entry ≡ p) × HasUnknown ls (z.moved ++ z.shared) hs) s (begins, unknown))

      down : (p : ℕ) → P p ⊎ Upto (ChildUnknown ls hs ts) (n + 1) p → (P p ⊎ Upto (ChildUnknown ls hs ts) n p)
          ⊎ ((ch.entry ≡ p) × HasUnknown ls (ch.moved ++ ch.shared) hs)
      down p (inl z) = inl (inl z)
      down p (inr u) = split p u (below_or_last u.item n u.below)

module _ (c : Parts) where
  -- an instruction that hands nothing unknown on
  pub after_none : (q : ℕ) (o : Option ℕ) → ((p : ℕ) → UnknownBy c q p → ⊥) → IsLeast (Upto (UnknownBy c) q) o
      → IsLeast (Upto (UnknownBy c) (q + 1)) o
  after_none q o never h = least_of_same (Upto (UnknownBy c) q) (Upto (UnknownBy c) (q + 1)) o
      (λ p u. record { item = u.item; below = (let l = u.below in omega (arith, l)); holds = u.holds })
      (λ p u. down p u (below_or_last u.item q u.below)) h
    where
      down : (p : ℕ) (u : Upto (UnknownBy c) (q + 1) p) → (u.item < q) ⊎ (u.item ≡ q) → Upto (UnknownBy c) q p
      down p u (inl l) = record { item = u.item; below = l; holds = u.holds }
      down p u (inr e) = absurd (never p (subst (λ i. UnknownBy c i p) e u.holds))

  pub after_table : (q t : ℕ) (tb : ForkTable) (a : Area) (o : Option ℕ) → Names c t q → LiesOnlyIn c q a
      → slice_get c.forks t ≡ Some tb
      → IsLeast (λ p. Upto (UnknownBy c) q p
      ⊎ Upto (ChildUnknown c.layouts (homes c a) tb.children) (length tb.children) p) o
      → IsLeast (Upto (UnknownBy c) (q + 1)) o
  after_table q t tb a o names only there h =
      least_of_same (λ p. Upto (UnknownBy c) q p ⊎ Upto (ChildUnknown c.layouts (homes c a) tb.children)
      (length tb.children) p)
      (Upto (UnknownBy c) (q + 1)) o up (λ p u. down p u (below_or_last u.item q u.below)) h
    where
      up : (p : ℕ) → Upto (UnknownBy c) q p
          ⊎ Upto (ChildUnknown c.layouts (homes c a) tb.children) (length tb.children) p → Upto (UnknownBy c) (q + 1) p
      up p (inl u) = record { item = u.item; below = (let l = u.below in omega (arith, l)); holds = u.holds }
      up p (inr u) =
          let (ch, is_child, begins, unknown) = u.holds in
          record {
            item = q;
            below = omega arith;
            holds = record {
              area = a;
              table = t;
              number = u.item;
              child = ch;
              names_table = names;
              lies_only_there = only;
              is_child = ap (λ (o : Option ForkTable). child_of o u.item) there ∙ is_child;
              begins = begins;
              unknown = unknown;
            };
          }

      by_it : (p : ℕ) → UnknownBy c q p → Upto (ChildUnknown c.layouts (homes c a) tb.children) (length tb.children) p
      by_it p u =
          let same_table : u.table ≡ t = same_Some u.table t (sym u.names_table ∙ names) in
          let same : slice_get c.forks u.table ≡ Some tb = ap (slice_get c.forks) same_table ∙ there in
          let there_too : slice_get tb.children u.number ≡ Some u.child =
          sym (ap (λ (o : Option ForkTable). child_of o u.number) same) ∙ u.is_child in
          let same_area : u.area ≡ a = only.1 u.area u.lies_only_there.0 in
          record {
            item = u.number;
            below = slice_get_within tb.children u.number u.child there_too;
            holds = (
              u.child,
              there_too,
              u.begins,
              subst (λ z. HasUnknown c.layouts (u.child.moved ++ u.child.shared) (homes c z)) same_area u.unknown,
            );
          }

      down : (p : ℕ) (u : Upto (UnknownBy c) (q + 1) p) → (u.item < q) ⊎ (u.item ≡ q) → Upto (UnknownBy c) q p
          ⊎ Upto (ChildUnknown c.layouts (homes c a) tb.children) (length tb.children) p
      down p u (inl l) = inl (record { item = u.item; below = l; holds = u.holds })
      down p u (inr e) = inr (by_it p (subst (λ i. UnknownBy c i p) e u.holds))

  pub never_several : (q p : ℕ) → Owns c q owner.Several → UnknownBy c q p → ⊥
  never_several q p h u = apart u.area (owner_is c q owner.Several u.area h u.lies_only_there)
    where
      apart : (a : Area) → owner.Several ≡ owner_of a → ⊥
      apart (Body b) e = cc e
      apart (Child a q k) e = cc e

  pub never_nobody : (q p : ℕ) → Owns c q owner.Nobody → UnknownBy c q p → ⊥
  never_nobody q p h u = h u.area u.lies_only_there.0

  pub never_named : (q p : ℕ) → table_named (instr_at c q) ≡ None → UnknownBy c q p → ⊥
  never_named q p e u = none-some u.table (sym e ∙ u.names_table)

  pub never_there : (q p t : ℕ) → table_named (instr_at c q) ≡ Some t → slice_get c.forks t ≡ None → UnknownBy c q p → ⊥
  never_there q p t e n u =
      let s : u.table ≡ t = same_Some u.table t (sym u.names_table ∙ e) in
      none-some u.child
      (sym (ap (λ (o : Option ForkTable). child_of o u.number) (ap (slice_get c.forks) s ∙ n)) ∙ u.is_child)

  pub all_unknown : (o : Option ℕ) → IsLeast (Upto (UnknownBy c) (length c.instrs)) o → IsLeast (UnknownOnly c) o
  all_unknown o h = least_of_same (Upto (UnknownBy c) (length c.instrs)) (UnknownOnly c) o up down h
    where
      up : (p : ℕ) → Upto (UnknownBy c) (length c.instrs) p → UnknownOnly c p
      up p u = (u.item, u.holds)

      down : (p : ℕ) → UnknownOnly c p → Upto (UnknownBy c) (length c.instrs) p
      down p (q, u) = record { item = q; below = named_within c u.table q u.names_table; holds = u }
