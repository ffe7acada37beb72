-- Names that rise are in order: where every process that was forked is among those of a guessed order, and their names
-- rise, they are the ones that insertion puts in order (`rising_lines`).
use Rattle.std.proofs.Common.{◌≡◌, ◌≢◌, ◌⊎◌, inl, inr, ⊎_elim, ℕ, zero, suc, ◌+◌, ◌-◌, ◌<◌, ◌≤◌, nat_le, Bool, true}
use Rattle.std.proofs.Common.{false}
use Rattle.std.proofs.Common.{if◌then◌else◌, List, [], ◌∷◌, ◌++◌, Some, length, refl, sym, ap, ◌∙◌, subst}
use Rattle.std.proofs.Common.{arith, Result, Ok, Err, take}
use Rattle.std.specs.Result.{IfOk}
use Rattle.sp_base.specs.declared.halt.Memory.{Memory}
use Rattle.std.specs.Prelude.{slice_get}
use Rattle.std.specs.declared.cmp.Ordering.{Ordering}
use Rattle.std.specs.declared.cmp.Ordering.TheVariants.{Less, Equal, Greater}
use Rattle.std.specs.BTreeMap.{insert_entry}
use Rattle.std.specs.Cmp.{tied_itself}
use Rattle.std.specs.List.{AllByRecursion, flat_map}
use Rattle.std.specs.List.Sorted.{IsStrictlySortedBy}
use Rattle.std.specs.Ordering.{ordering_reverse, match_ordering}
use Rattle.std.proofs.lemmas.Option.{none-some, same_Some}
use Rattle.std.proofs.lemmas.Map.Keys.{sorted_from_all_adjacent, sorted_head, sorted_tail}
use Rattle.sp_base.specs.declared.name.ProcName.{ProcName}
use Rattle.sp_base.specs.Order.{name_cmp, name_total}
use Rattle.sp_journal.specs.Births.{Births}
use Rattle.sp_journal.specs.Names.{proc_name, pairs_of}
use Rattle.sp_journal.specs.declared.entry.Birth.{Birth}
use Rattle.sp_journal.specs.Queue.{numbers}
use Rattle.sp_base.proofs.Facts.{below_or_last}
use Rattle.sp_journal.proofs.Facts.{numbers_last}
use Rattle.sp_report.specs.InOrder.{NamedProcess, sorted_by_name}
use Rattle.sp_report.specs.GuessedOrder.{names_of, AreForked, HasBelow, Rises}
use Rattle.sp_report.specs.Tree.{tree_line, tree_lines, forked_processes}
use Rattle.sp_report.proofs.Orders.{placed_last}

module _ (s : Births) where
  abbrev name : ℕ → ProcName
  name q = proc_name (s.name q)

  -- with their numbers
  abbrev named : List ℕ → List NamedProcess
  named [] = []
  named (q ∷ qs) = (name q, q) ∷ named qs

  -- those of them with numbers up to m
  abbrev upto : ℕ → List ℕ → List ℕ
  upto m [] = []
  upto m (q ∷ qs) = if nat_le q m then q ∷ upto m qs else upto m qs

  abbrev Above : ProcName → List ℕ → Type 0
  Above k qs = AllByRecursion (λ y. name_cmp k y ≡ Less) (names_of s qs)

  abbrev Rise : List ℕ → Type 0
  Rise [] = Unit {0}
  Rise (q ∷ qs) = Above (name q) qs × Rise qs

  abbrev Among : ℕ → List ℕ → Type 0
  Among q [] = ⊥
  Among q (x ∷ qs) = (q ≡ x) ⊎ Among q qs

  not_below_itself : (k : ProcName) → name_cmp k k ≡ Less → ⊥
  not_below_itself k e = let t : Equal ≡ Less = sym (tied_itself name_total k) ∙ e in cc t

  greater : (k n : ProcName) → name_cmp n k ≡ Less → name_cmp k n ≡ Greater
  greater k n e = name_total.antisymm k n ∙ ap ordering_reverse e

  -- what is below all stands first
  in_front : (k : ProcName) (v : ℕ) (qs : List ℕ) → Above k qs
      → insert_entry name_cmp (named qs) k v ≡ (k, v) ∷ named qs
  in_front k v [] a = refl
  in_front k v (q ∷ qs) a = ap (λ (r : Ordering). match_ordering r ((k, v) ∷ (name q, q) ∷ named qs)
      ((name q, v) ∷ named qs) ((name q, q) ∷ insert_entry name_cmp (named qs) k v)) a.0

  above_upto : (k : ProcName) (m : ℕ) (qs : List ℕ) → Above k qs → Above k (upto m qs)
  above_upto k m [] a = tt
  above_upto k m (q ∷ qs) a = go (nat_le q m) (above_upto k m qs a.1)
    where
      go : (b : Bool) → Above k (upto m qs) → Above k (if b then q ∷ upto m qs else upto m qs)
      go true on = (a.0, on)
      go false on = on

  above_one : (k : ProcName) (q : ℕ) (qs : List ℕ) → Above k qs → Among q qs → name_cmp k (name q) ≡ Less
  above_one k q (x ∷ qs) a (inl e) = ap (λ y. name_cmp k (name y)) e ∙ a.0
  above_one k q (x ∷ qs) a (inr i) = above_one k q qs a.1 i
  above_one k q [] a i = absurd i

  -- whether a number is up to the next one
  same_test : (q m : ℕ) → q ≢ suc m → nat_le q (suc m) ≡ nat_le q m
  same_test q m d = go (nat_le q m) refl (nat_le q (suc m)) refl
    where
      go : (a : Bool) → nat_le q m ≡ a → (b : Bool) → nat_le q (suc m) ≡ b → nat_le q (suc m) ≡ nat_le q m
      go true e true f = f ∙ sym e
      go false e false f = f ∙ sym e
      go true e false f = absurd (grind (arith, e, f))
      go false e true f = absurd (d (grind (arith, e, f)))

  -- where the next number is above all, it is none of them
  none_left : (m : ℕ) (qs : List ℕ) → Above (name (suc m)) qs → upto (suc m) qs ≡ upto m qs
  none_left m [] a = refl
  none_left m (q ∷ qs) a = ap (λ (b : Bool). if b then q ∷ upto (suc m) qs else upto (suc m) qs) (same_test q m other)
      ∙ ap (λ (rs : List ℕ). if nat_le q m then q ∷ rs else rs) (none_left m qs a.1)
    where
      other : q ≢ suc m
      other e = not_below_itself (name (suc m)) (ap (λ y. name_cmp (name (suc m)) (name y)) (sym e) ∙ a.0)

  -- the next number comes to its place
  step : (m : ℕ) (qs : List ℕ) → Rise qs → Among (suc m) qs
      → insert_entry name_cmp (named (upto m qs)) (name (suc m)) (suc m) ≡ named (upto (suc m) qs)
  step m [] r i = absurd i
  step m (q ∷ qs) r (inl e) =
      ap (λ (b : Bool).
      insert_entry name_cmp (named (if b then q ∷ upto m qs else upto m qs)) (name (suc m)) (suc m)) left
      ∙ (in_front (name (suc m)) (suc m) (upto m qs) (above_upto (name (suc m)) m qs above)
      ∙ (ap (λ y. (name y, y) ∷ named (upto m qs)) e
      ∙ (ap (λ rs. (name q, q) ∷ named rs) (sym (none_left m qs above))
      ∙ ap (λ (b : Bool). named (if b then q ∷ upto (suc m) qs else upto (suc m) qs))
      (sym right))))
    where
      above : Above (name (suc m)) qs
      above = subst (λ y. Above (name y) qs) (sym e) r.0

      left : nat_le q m ≡ false
      left = grind (arith, e)

      right : nat_le q (suc m) ≡ true
      right = grind (arith, e)
  step m (q ∷ qs) r (inr i) = go (nat_le q m) refl (step m qs r.1 i)
    where
      below : name_cmp (name q) (name (suc m)) ≡ Less
      below = above_one (name q) (suc m) qs r.0 i

      other : q ≢ suc m
      other e = not_below_itself (name q) (ap (λ y. name_cmp (name q) (name y)) e ∙ below)

      go : (b : Bool) → nat_le q m ≡ b
          → insert_entry name_cmp (named (upto m qs)) (name (suc m)) (suc m) ≡ named (upto (suc m) qs)
          → insert_entry name_cmp (named (if nat_le q m then q ∷ upto m qs else upto m qs)) (name (suc m)) (suc m)
          ≡ named (if nat_le q (suc m) then q ∷ upto (suc m) qs else upto (suc m) qs)
      go true e on =
          ap (λ (b : Bool).
          insert_entry name_cmp (named (if b then q ∷ upto m qs else upto m qs)) (name (suc m)) (suc m)) e
          ∙ (ap (λ (o : Ordering). match_ordering o ((name (suc m), suc m) ∷ (name q, q) ∷ named (upto m qs))
          ((name q, suc m) ∷ named (upto m qs))
          ((name q, q) ∷ insert_entry name_cmp (named (upto m qs)) (name (suc m)) (suc m)))
          (greater (name (suc m)) (name q) below)
          ∙ (ap (λ (ns : List NamedProcess). (name q, q) ∷ ns) on
          ∙ ap (λ (b : Bool). named (if b then q ∷ upto (suc m) qs else upto (suc m) qs))
          (sym (same_test q m other ∙ e))))
      go false e on =
          ap (λ (b : Bool).
          insert_entry name_cmp (named (if b then q ∷ upto m qs else upto m qs)) (name (suc m)) (suc m)) e
          ∙ (on
          ∙ ap (λ (b : Bool). named (if b then q ∷ upto (suc m) qs else upto (suc m) qs))
          (sym (same_test q m other ∙ e)))

  among_at : (q : ℕ) (qs : List ℕ) (i : ℕ) → slice_get qs i ≡ Some q → Among q qs
  among_at q [] i e = cc e
  among_at q (x ∷ qs) zero e = inl (same x q e)
    where
      same : (x q : ℕ) → Some x ≡ Some q → q ≡ x
      same x q e = let w : x ≡ q = cc e in sym w
  among_at q (x ∷ qs) (suc i) e = inr (among_at q qs i e)

  rise_of : (qs : List ℕ) → IsStrictlySortedBy name_cmp (names_of s qs) → Rise qs
  rise_of [] h = tt
  rise_of (q ∷ qs) h = (
    sorted_head name_cmp (name q) (names_of s qs) h,
    rise_of qs (sorted_tail name_cmp (name q) (names_of s qs) h),
  )

  none_first : (qs : List ℕ) → ((i q : ℕ) → slice_get qs i ≡ Some q → 1 ≤ q) → upto 0 qs ≡ []
  none_first [] h = refl
  none_first (q ∷ qs) h =
      let l = h 0 q refl in
      let no : nat_le q 0 ≡ false = grind (arith, l) in
      ap (λ (b : Bool). if b then q ∷ upto 0 qs else upto 0 qs) no ∙ none_first qs (λ i x e. h (suc i) x e)

  all_last : (m : ℕ) (qs : List ℕ) → ((i q : ℕ) → slice_get qs i ≡ Some q → q ≤ m) → upto m qs ≡ qs
  all_last m [] h = refl
  all_last m (q ∷ qs) h =
      let l = h 0 q refl in
      let yes : nat_le q m ≡ true = grind (arith, l) in
      ap (λ (b : Bool). if b then q ∷ upto m qs else upto m qs) yes
      ∙ ap (λ rs. q ∷ rs) (all_last m qs (λ i x e. h (suc i) x e))

  -- the first m of them in order
  sorted_so_far : (m : ℕ) (qs : List ℕ) → Rise qs → AreForked s qs → HasBelow (m + 1) qs
      → sorted_by_name s (numbers 1 m) ≡ named (upto m qs)
  sorted_so_far zero qs r f h = ap named (sym (none_first qs (λ i q e. (f i q e).0)))
  sorted_so_far (suc m) qs r f h =
      let has = h (suc m) (omega arith) (omega arith) in
      let a : 1 + m ≡ suc m = omega arith in
      ap (sorted_by_name s) (numbers_last 1 m ∙ ap (λ (x : ℕ). numbers 1 m ++ x ∷ []) a)
      ∙ (placed_last s [] (numbers 1 m) (suc m)
      ∙ (ap (λ es. insert_entry name_cmp es (name (suc m)) (suc m))
      (sorted_so_far m qs r f (λ q l b. h q l (omega (arith, b))))
      ∙ step m qs r (among_at (suc m) qs has.0 has.1)))

  lines_of : (qs : List ℕ) → tree_lines (named qs) ≡ flat_map tree_line (names_of s qs)
  lines_of [] = refl
  lines_of (q ∷ qs) = ap (λ t. tree_line (name q) ++ t) (lines_of qs)

  pub rising_lines : (qs : List ℕ) → 1 ≤ s.processes → AreForked s qs → HasBelow s.processes qs → Rises (names_of s qs)
      → flat_map tree_line (names_of s qs) ≡ tree_lines (sorted_by_name s (forked_processes s))
  rising_lines qs some f h rises =
      let m = s.processes - 1 in
      let top : m + 1 ≡ s.processes = omega (arith, some) in
      let r = rise_of qs (sorted_from_all_adjacent name_total (names_of s qs) (name 0)
      (λ k l. rises (name 0) k l)) in
      sym (lines_of qs) ∙ ap tree_lines (ap named (sym (all_last m qs
      (λ i q e. let b = (f i q e).1 in omega (arith, b, top))))
      ∙ sym (sorted_so_far m qs r f (λ q l b. h q l (omega (arith, b, top)))))

-- ---- what is looked at

pub has_none : (qs : List ℕ) → HasBelow 1 qs
has_none qs q l b = absurd (omega (arith, l, b))

pub has_more : (n : ℕ) (qs : List ℕ) → HasBelow n qs → (i : ℕ) × (slice_get qs i ≡ Some n) → HasBelow (n + 1) qs
has_more n qs h at q l b = ⊎_elim (λ (lt : q < n). h q l lt)
    (λ (e : q ≡ n). subst (λ x. (i : ℕ) × (slice_get qs i ≡ Some x)) (sym e) at) (below_or_last q n b)

pub has_fewer : (n m : ℕ) (qs : List ℕ) → n ≤ m → HasBelow m qs → HasBelow n qs
has_fewer n m qs le h q l b = h q l (omega (arith, le, b))

module _ (s : Births) where
  names_append : (xs ys : List ℕ) → names_of s (xs ++ ys) ≡ names_of s xs ++ names_of s ys
  names_append [] ys = refl
  names_append (x ∷ xs) ys = ap (λ ns. proc_name (s.name x) ∷ ns) (names_append xs ys)

  -- one process more
  pub names_more : (xs all : List ℕ) (q : ℕ) (names new : List ProcName) (n : ProcName) → all ≡ xs ++ q ∷ []
      → names ≡ names_of s xs → n ≡ proc_name (s.name q) → new ≡ names ++ n ∷ [] → new ≡ names_of s all
  names_more xs all q names new n whole so_far named added =
      added ∙ (ap (λ ns. ns ++ n ∷ []) so_far ∙ (ap (λ y. names_of s xs ++ y ∷ []) named
      ∙ (sym (names_append xs (q ∷ [])) ∙ ap (names_of s) (sym whole))))

  pub forked_more : (xs : List ℕ) (y : ℕ) → AreForked s xs → 1 ≤ y → y < s.processes → AreForked s (xs ++ y ∷ [])
  forked_more [] y f a b zero q e = let w : y ≡ q = cc e in subst (λ x. (1 ≤ x) × (x < s.processes)) w (a, b)
  forked_more [] y f a b (suc i) q e = absurd (cc e)
  forked_more (x ∷ xs) y f a b zero q e = f 0 q e
  forked_more (x ∷ xs) y f a b (suc i) q e = forked_more xs y (λ j r h. f (suc j) r h) a b i q e

  pub lines_rise : (qs : List ℕ) (names : List ProcName) (n : ℕ) → n ≡ s.processes → 0 < n → HasBelow n qs
      → names ≡ names_of s qs → AreForked s qs → Rises names
      → flat_map tree_line names ≡ tree_lines (sorted_by_name s (forked_processes s))
  lines_rise qs names n count some has are forked rise =
      ap (flat_map tree_line) are
      ∙ rising_lines s qs (omega (arith, count, some)) forked (subst (λ k. HasBelow k qs) count has)
      (subst Rises are rise)

-- the name of a child, by that of its parent
pub child_name : (s : Births) (q : ℕ) (b : Birth) (parent n : ProcName)
    → s.name q ≡ (b.fork, b.child) ∷ s.name b.parent → parent ≡ proc_name (s.name b.parent)
    → n.pairs ≡ parent.pairs ++ record { fork = b.fork; child = b.child } ∷ [] → n ≡ proc_name (s.name q)
child_name s q b parent n born known made =
    let e : n.pairs ≡ pairs_of (s.name q) = made
    ∙ (ap (λ (p : ProcName). p.pairs ++ record { fork = b.fork; child = b.child } ∷ []) known
    ∙ ap pairs_of (sym born)) in
    λ i. record { pairs = e i }

pub ok_child : (s : Births) (q : ℕ) (b : Birth) (parent : ProcName) (r : Result ProcName Memory)
    → s.name q ≡ (b.fork, b.child) ∷ s.name b.parent → parent ≡ proc_name (s.name b.parent)
    → IfOk r (λ n. n.pairs ≡ parent.pairs ++ record { fork = b.fork; child = b.child } ∷ [])
    → IfOk r (λ n. n ≡ proc_name (s.name q))
ok_child s q b parent (Ok n) born known made = child_name s q b parent n born known made
ok_child s q b parent (Err e) born known made = tt

-- the name at a place is that of the process at this place
pub at_name : (s : Births) (n : ℕ) (order : List ℕ) (k q : ℕ) (x : ProcName)
    → slice_get (names_of s (take n order)) k ≡ Some x → slice_get order k ≡ Some q → x ≡ proc_name (s.name q)
at_name s n [] k q x e f = absurd (none-some q f)
at_name s zero (y ∷ ys) k q x e f = absurd (none-some x e)
at_name s (suc n) (y ∷ ys) zero q x e f =
    sym (same_Some (proc_name (s.name y)) x e) ∙ ap (λ z. proc_name (s.name z)) (same_Some y q f)
at_name s (suc n) (y ∷ ys) (suc k) q x e f = at_name s n ys k q x e f

length_front : (s : Births) (i : ℕ) (qs : List ℕ) → i < length qs → length (names_of s (take i qs)) ≡ i
length_front s i [] l = absurd (omega (arith, l))
length_front s zero (x ∷ qs) l = refl
length_front s (suc i) (x ∷ qs) l = ap suc (length_front s i qs (omega (arith, l)))

-- the names so far are those of the front that is as long
pub names_front : (s : Births) (i : ℕ) (qs : List ℕ) (names : List ProcName) → i < length qs
    → names ≡ names_of s (take i qs) → names ≡ names_of s (take (length names) qs)
names_front s i qs names l e =
    e ∙ ap (λ n. names_of s (take n qs)) (sym (ap length e ∙ length_front s i qs l))
