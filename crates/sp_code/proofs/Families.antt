-- A child that has not ended is awaited by its parent.
use Rattle.std.proofs.Common.{◌≡◌, ◌≢◌, ◌⊎◌, ℕ, ◌-◌, ◌≤◌, ◌==◌, inl, inr, Bool, true, false, cond, if◌then◌else◌, List}
use Rattle.std.proofs.Common.{[], ◌∷◌, length, Option, Some, None, refl, sym, ap, ◌∙◌, subst, arith}
use Rattle.std.proofs.lemmas.Bool.{eqb-true}
use Rattle.std.proofs.lemmas.Option.{same_Some}
use Rattle.sp_journal.specs.declared.entry.Way.{Way}
use Rattle.sp_journal.specs.declared.entry.Way.TheVariants as way
use Rattle.sp_journal.specs.declared.entry.Event.{Event}
use Rattle.sp_journal.specs.declared.entry.Event.TheVariants as event
use Rattle.sp_journal.specs.declared.entry.Birth.{Birth}
use Rattle.sp_journal.specs.declared.entry.Note.{Note}
use Rattle.sp_journal.specs.Maps.{at_key}
use Rattle.sp_journal.specs.Births.{is_next}
use Rattle.sp_journal.specs.Queue.{numbers}
use Rattle.sp_code.specs.Control.{Control, Doing, Unborn, Ready, Out, Sending, Receiving, Joining, Laid, Ended, Gone}
use Rattle.sp_code.specs.Control.{does, queues, offers, one_fewer, reports, comes_back, abandons, takes, after_give}
use Rattle.sp_code.specs.Control.{after_note}
use Rattle.sp_code.specs.Control.{after_notes, control_at_start}
use Rattle.sp_code.specs.Memory.{CodeRun, Stores}
use Rattle.sp_code.specs.System.{System, GiveIsLegal, GetIsLegal}
use Rattle.sp_code.specs.Agreement.{Among, IsOrderly, AgreesWithSystem, Reaches, waits_by, IsGot}
use Rattle.sp_code.specs.WorkerHistory.{left_of, IsLive, HasChildren}
use Rattle.sp_code.proofs.Queues.{number_or, at_same, at_other, numbers_have, numbers_length, among_none}
use Rattle.sp_code.proofs.Orders.{orderly_back, next_is, out_there}
use Rattle.sp_code.proofs.Legal.{got_of, keeps}
use Rattle.sp_code.proofs.Outs.{without, without_length, without_has}

-- so many children, by what the process does, and who they are
abbrev CountsChildren : (ℕ → List ℕ) → (ℕ → Doing) → (ℕ → Option Birth) → Type 0
CountsChildren f d b = ((p : ℕ) → length (f p) ≡ left_of (d p))
    × ((q : ℕ) (x : Birth) → b q ≡ Some x → IsLive (d q) → Among q (f x.parent))

-- where a process neither waited nor waits, and is no less alive than before
one_else : (f : ℕ → List ℕ) (d : ℕ → Doing) (b : ℕ → Option Birth) (p : ℕ) (v : Doing) → left_of (d p) ≡ left_of v
    → (IsLive v → IsLive (d p)) → CountsChildren f d b → CountsChildren f (at_key ◌==◌ p v d) b
one_else f d b p v e l k = ((λ r. count r (number_or p r)), λ q x w i. k.1 q x w (live q (number_or p q) i))
  where
    count : (r : ℕ) → (p ≡ r) ⊎ ((p ≢ r) × (p == r ≡ false)) → length (f r) ≡ left_of (at_key ◌==◌ p v d r)
    count r (inl is) = subst (λ y. length (f y) ≡ left_of (at_key ◌==◌ p v d y)) is
        (k.0 p ∙ e ∙ ap left_of (sym (at_same d p v)))
    count r (inr o) = k.0 r ∙ ap left_of (sym (at_other d p r v o.0))

    live : (q : ℕ) → (p ≡ q) ⊎ ((p ≢ q) × (p == q ≡ false)) → IsLive (at_key ◌==◌ p v d q) → IsLive (d q)
    live q (inl is) i = subst (λ y. IsLive (d y)) is
        (l (subst IsLive (at_same d p v) (subst (λ y. IsLive (at_key ◌==◌ p v d y)) (sym is) i)))
    live q (inr o) i = subst IsLive (at_other d p q v o.0) i

-- a child is gone from the list of its parent, which waits for one fewer
one_gone : (f : ℕ → List ℕ) (d : ℕ → Doing) (b : ℕ → Option Birth) (q p n : ℕ) (v : Doing) → (IsLive (d q) → ⊥)
    → d p ≡ Joining n → left_of v ≡ n - 1 → Among q (f p) → CountsChildren f d b
    → CountsChildren (at_key ◌==◌ p (without q (f p)) f) (at_key ◌==◌ p v d) b
one_gone f d b q p n v dead joins e among k = ((λ r. count r (number_or p r)), λ r x w i. all r x w i)
  where
    count : (r : ℕ) → (p ≡ r) ⊎ ((p ≢ r) × (p == r ≡ false))
        → length (at_key ◌==◌ p (without q (f p)) f r) ≡ left_of (at_key ◌==◌ p v d r)
    count r (inl is) =
        subst (λ y. length (at_key ◌==◌ p (without q (f p)) f y) ≡ left_of (at_key ◌==◌ p v d y)) is
        (ap length (at_same f p (without q (f p))) ∙ without_length q (f p) among
        ∙ ap (λ m. m - 1) (k.0 p ∙ ap left_of joins) ∙ sym e ∙ ap left_of (sym (at_same d p v)))
    count r (inr o) = ap length (at_other f p r (without q (f p)) o.0) ∙ k.0 r ∙ ap left_of (sym (at_other d p r v o.0))

    live : (r : ℕ) → (p ≡ r) ⊎ ((p ≢ r) × (p == r ≡ false)) → IsLive (at_key ◌==◌ p v d r) → IsLive (d r)
    live r (inl is) i = subst (λ y. IsLive (d y)) is (subst IsLive (sym joins) tt)
    live r (inr o) i = subst IsLive (at_other d p r v o.0) i

    all : (r : ℕ) (x : Birth) → b r ≡ Some x → IsLive (at_key ◌==◌ p v d r)
        → Among r (at_key ◌==◌ p (without q (f p)) f x.parent)
    all r x w i = go (number_or p x.parent) (k.1 r x w (live r (number_or p r) i))
      where
        go : (p ≡ x.parent) ⊎ ((p ≢ x.parent) × (p == x.parent ≡ false)) → Among r (f x.parent)
            → Among r (at_key ◌==◌ p (without q (f p)) f x.parent)
        go (inl is) a =
            subst (λ y. Among r (at_key ◌==◌ p (without q (f p)) f y)) is
            (subst (Among r) (sym (at_same f p (without q (f p))))
            (without_has q r (f p) (λ e. dead (subst (λ y. IsLive (d y)) e (live r (number_or p r) i)))
            (subst (λ y. Among r (f y)) (sym is) a)))
        go (inr o) a = subst (Among r) (sym (at_other f p x.parent (without q (f p)) o.0)) a

offered_kept : (w : Way) (waits : Doing) (p c : ℕ) (k : Control) (o : Option (Way × ℕ)) (f : ℕ → List ℕ)
    → k.pending c ≡ o → IsOrderly k → left_of (k.doing p) ≡ 0 → IsLive (k.doing p) → left_of waits ≡ 0
    → CountsChildren f k.doing k.births.birth
    → CountsChildren f (offers w waits p c o k).doing (offers w waits p c o k).births.birth
offered_kept w waits p c k None f e h l i z a = one_else f k.doing k.births.birth p waits (l ∙ sym z) (λ x. i) a
offered_kept w waits p c k (Some y) f e h l i z a =
    one_else f _ k.births.birth p Ready (left_after (number_or y.1 p)) (λ x. live_after (number_or y.1 p))
    (one_else f k.doing k.births.birth y.1 Ready (ap left_of (h.pending c y.1 y.0 e) ∙ left_waits y.0)
    (λ x. subst IsLive (sym (h.pending c y.1 y.0 e)) (live_waits y.0)) a)
  where
    left_waits : (v : Way) → left_of (waits_by v c) ≡ 0
    left_waits way.Send = refl
    left_waits way.Receive = refl

    live_waits : (v : Way) → IsLive (waits_by v c)
    live_waits way.Send = tt
    live_waits way.Receive = tt

    left_after : (y.1 ≡ p) ⊎ ((y.1 ≢ p) × (y.1 == p ≡ false)) → left_of (at_key ◌==◌ y.1 Ready k.doing p) ≡ 0
    left_after (inl is) = ap left_of (subst (λ x. at_key ◌==◌ y.1 Ready k.doing x ≡ Ready) is
        (at_same k.doing y.1 Ready))
    left_after (inr o) = ap left_of (at_other k.doing y.1 p Ready o.0) ∙ l

    live_after : (y.1 ≡ p) ⊎ ((y.1 ≢ p) × (y.1 == p ≡ false)) → IsLive (at_key ◌==◌ y.1 Ready k.doing p)
    live_after (inl is) = subst IsLive (sym (subst (λ x. at_key ◌==◌ y.1 Ready k.doing x ≡ Ready) is
        (at_same k.doing y.1 Ready))) tt
    live_after (inr o) = subst IsLive (sym (at_other k.doing y.1 p Ready o.0)) i

-- a child of a process is there where a live one says so
some_left : (q : ℕ) (xs : List ℕ) (d : Doing) → Among q xs → length xs ≡ left_of d → (n : ℕ) × (d ≡ Joining n)
some_left q [] d i e = absurd i
some_left q (x ∷ xs) (Joining n) i e = (n, refl)
some_left q (x ∷ xs) Unborn i e = absurd (omega (arith, e))
some_left q (x ∷ xs) Ready i e = absurd (omega (arith, e))
some_left q (x ∷ xs) (Out w) i e = absurd (omega (arith, e))
some_left q (x ∷ xs) (Sending c) i e = absurd (omega (arith, e))
some_left q (x ∷ xs) (Receiving c) i e = absurd (omega (arith, e))
some_left q (x ∷ xs) Laid i e = absurd (omega (arith, e))
some_left q (x ∷ xs) Ended i e = absurd (omega (arith, e))
some_left q (x ∷ xs) Gone i e = absurd (omega (arith, e))

-- the parent of a process that is out joins its children
pub parent_joins : (k : Control) → HasChildren k → (q w : ℕ) (b : Birth) → k.doing q ≡ Out w → k.births.birth q ≡ Some b
    → (n : ℕ) × (k.doing b.parent ≡ Joining n)
parent_joins k h q w b out e = some_left q (h.children b.parent) (k.doing b.parent)
    (h.all q b e (subst IsLive (sym out) tt)) (h.count b.parent)

made : (k : Control) (f : ℕ → List ℕ) → CountsChildren f k.doing k.births.birth → HasChildren k
made k f a = record { children = f; count = a.0; all = a.1 }

module _ (k : Control) (o : IsOrderly k) (h : HasChildren k) (p w : ℕ) (out : k.doing p ≡ Out w) where
  was : CountsChildren h.children k.doing k.births.birth
  was = (h.count, h.all)

  left_out : left_of (k.doing p) ≡ 0
  left_out = ap left_of out

  live_out : IsLive (k.doing p)
  live_out = subst IsLive (sym out) tt

  becomes_kept : (v : Doing) → left_of v ≡ 0 → CountsChildren h.children (at_key ◌==◌ p v k.doing) k.births.birth
  becomes_kept v e = one_else h.children k.doing k.births.birth p v (left_out ∙ sym e) (λ x. live_out) was

  fork_kept : (n : ℕ) → HasChildren (comes_back p (event.Fork n) k)
  fork_kept n = record {
    children = at_key ◌==◌ p (numbers k.births.processes n) h.children;
    count = λ r. count r (is_next k.births n r) refl (number_or p r);
    all = λ q b e i. all q b (is_next k.births n q) refl e i;
  }
    where
      none : (r : ℕ) → k.births.processes ≤ r → length (h.children r) ≡ 0
      none r l = h.count r ∙ ap left_of (o.unborn r l)

      count : (r : ℕ) (t : Bool) → is_next k.births n r ≡ t → (p ≡ r) ⊎ ((p ≢ r) × (p == r ≡ false))
          → length (at_key ◌==◌ p (numbers k.births.processes n) h.children r)
          ≡ left_of (cond t Ready (cond (p == r) (Joining n) (k.doing r)))
      count r true e (inl is) = absurd (omega (arith, next_is k.births n r e, out_there o p w out, is))
      count r true e (inr d) = ap length (at_other h.children p r (numbers k.births.processes n) d.0)
          ∙ none r (next_is k.births n r e).0
      count r false e (inl is) = subst (λ y. length (at_key ◌==◌ p (numbers k.births.processes n) h.children y)
          ≡ left_of (cond (p == y) (Joining n) (k.doing y))) is
          (ap length (at_same h.children p (numbers k.births.processes n)) ∙ numbers_length k.births.processes n
          ∙ ap left_of (sym (at_same k.doing p (Joining n))))
      count r false e (inr d) = ap length (at_other h.children p r (numbers k.births.processes n) d.0) ∙ h.count r
          ∙ ap left_of (sym (at_other k.doing p r (Joining n) d.0))

      live_was : (q : ℕ) → (p ≡ q) ⊎ ((p ≢ q) × (p == q ≡ false)) → IsLive (at_key ◌==◌ p (Joining n) k.doing q)
          → IsLive (k.doing q)
      live_was q (inl is) i = subst (λ y. IsLive (k.doing y)) is live_out
      live_was q (inr d) i = subst IsLive (at_other k.doing p q (Joining n) d.0) i

      all : (q : ℕ) (b : Birth) (t : Bool) → is_next k.births n q ≡ t
          → cond t (Some (record { parent = p; fork = k.births.forks p; child = q - k.births.processes }))
          (k.births.birth q) ≡ Some b → IsLive (cond t Ready (cond (p == q) (Joining n) (k.doing q)))
          → Among q (at_key ◌==◌ p (numbers k.births.processes n) h.children b.parent)
      all q b true e f i =
          let l = next_is k.births n q e in
          let is : p ≡ b.parent = ap (λ (x : Birth). x.parent) (same_Some _ _ f) in
          subst (λ y. Among q (at_key ◌==◌ p (numbers k.births.processes n) h.children y)) is
          (subst (Among q) (sym (at_same h.children p (numbers k.births.processes n)))
          (numbers_have k.births.processes n q l.0 l.1))
      all q b false e f i = go (number_or p b.parent) (h.all q b f (live_was q (number_or p q) i))
        where
          go : (p ≡ b.parent) ⊎ ((p ≢ b.parent) × (p == b.parent ≡ false)) → Among q (h.children b.parent)
              → Among q (at_key ◌==◌ p (numbers k.births.processes n) h.children b.parent)
          go (inl is) a = absurd (among_none q (h.children b.parent)
              (h.count b.parent ∙ ap left_of (ap k.doing (sym is)) ∙ left_out) a)
          go (inr d) a = subst (Among q) (sym (at_other h.children p b.parent (numbers k.births.processes n) d.0)) a

  end_kept : HasChildren (comes_back p event.End k)
  end_kept = go (k.births.birth p) refl
    where
      m : Control
      m = does p Ended k

      ended : CountsChildren h.children m.doing k.births.birth
      ended = becomes_kept Ended refl

      dead : IsLive (m.doing p) → ⊥
      dead i = subst IsLive (at_same k.doing p Ended) i

      fewer : (b : Birth) → k.births.birth p ≡ Some b → (n : ℕ) → m.doing b.parent ≡ Joining n
          → Among p (h.children b.parent) → HasChildren
          (record (one_fewer b.parent (Joining n) m) { out = k.out - 1; births = k.births })
      fewer b e n joins a = by (n == 1) refl
        where
          by : (t : Bool) → n == 1 ≡ t → HasChildren
              (record (if t then queues b.parent m else does b.parent (Joining (n - 1)) m)
              { out = k.out - 1; births = k.births })
          by true f = made _ _ (one_gone h.children m.doing k.births.birth p b.parent n Ready dead joins
              (let x = eqb-true n 1 f in omega (arith, x)) a ended)
          by false f = made _ _ (one_gone h.children m.doing k.births.birth p b.parent n (Joining (n - 1)) dead joins
              refl a ended)

      go : (x : Option Birth) → k.births.birth p ≡ x
          → HasChildren (record (reports x m) { out = k.out - 1; births = k.births })
      go None e = made _ h.children ended
      go (Some b) e =
          let apart : p ≢ b.parent = λ is. omega (arith, o.parents p b e, is) in
          let j = parent_joins k h p w b out e in
          let joins : m.doing b.parent ≡ Joining j.0 = at_other k.doing p b.parent Ended apart ∙ j.1 in
          subst (λ d. HasChildren (record (one_fewer b.parent d m) { out = k.out - 1; births = k.births })) (sym joins)
          (fewer b e j.0 joins (h.all p b e live_out))

  pub children_back : (e : Event) → HasChildren (comes_back p e k)
  children_back (event.Fork n) = fork_kept n
  children_back event.Open = made _ h.children (becomes_kept Ready refl)
  children_back (event.Send c) = go (k.pending c) refl
    where
      go : (x : Option (Way × ℕ)) → k.pending c ≡ x
          → HasChildren (record (offers way.Send (Sending c) p c x k) { out = k.out - 1; births = k.births })
      go None e = made _ h.children (offered_kept way.Send (Sending c) p c k None h.children e o left_out live_out refl
          was)
      go (Some z) e = made _ h.children (offered_kept way.Send (Sending c) p c k (Some z) h.children e o left_out
          live_out refl was)
  children_back (event.Receive c) = go (k.pending c) refl
    where
      go : (x : Option (Way × ℕ)) → k.pending c ≡ x
          → HasChildren (record (offers way.Receive (Receiving c) p c x k) { out = k.out - 1; births = k.births })
      go None e = made _ h.children (offered_kept way.Receive (Receiving c) p c k None h.children e o left_out live_out
          refl was)
      go (Some z) e = made _ h.children (offered_kept way.Receive (Receiving c) p c k (Some z) h.children e o left_out
          live_out refl was)
  children_back event.End = end_kept
  children_back (event.Fault f) = made _ h.children (becomes_kept Laid refl)
  children_back event.Laid = made _ h.children (becomes_kept Laid refl)
  children_back event.Pause = made _ h.children (becomes_kept Ready refl)

  pub children_gives_up : HasChildren (abandons (Some p) k)
  children_gives_up = made _ h.children (becomes_kept Gone refl)

pub children_takes : (k : Control) → HasChildren k → (w : ℕ) (got : Option ℕ) → IsGot k got
    → HasChildren (takes w got k)
children_takes k h w None i = h
children_takes k h w (Some q) i = made _ h.children
    (one_else h.children k.doing k.births.birth q (Out w) (ap left_of i.1) (λ x. subst IsLive (sym i.1) tt)
    (h.count, h.all))

pub children_start : HasChildren control_at_start
children_start = record { children = λ p. []; count = λ p. go (p == 0); all = λ q b e i. absurd (cc e) }
  where
    go : (b : Bool) → 0 ≡ left_of (if b then Ready else Unborn)
    go true = refl
    go false = refl

-- ---- along a history

module _ {S : Type 0} (stores : Stores S) (g : CodeRun) where
  pub children_by : (w : ℕ) (give : Option ℕ) (e : Option Event) (got : Option ℕ) (k : Control) (s t : System S)
      → IsOrderly k → HasChildren k → GiveIsLegal stores g k s w give e got t
      → GetIsLegal stores g (after_give give e got k) e got
      → HasChildren (takes w got (after_give give e got k))
  children_by w None None None k s t h c i j = record { children = c.children; count = c.count; all = c.all }
  children_by w None None (Some q) k s t h c i j = children_takes k c w (Some q) (got_of k h (Some q) (sym j))
  children_by w None (Some e) got k s t h c i j = absurd i
  children_by w (Some p) None None k s t h c i j = children_gives_up k h c p w i.0
  children_by w (Some p) None (Some q) k s t h c i j = absurd (cc (i.1))
  children_by w (Some p) (Some e) got k s t h c i j =
      children_takes (comes_back p e k) (children_back k h c p w i.0 e) w got
      (got_of (comes_back p e k) (orderly_back k h p w e i.0) got j)

  pub children_all : (k : Control) (s t : System S) (ns : List Note) → IsOrderly k → AgreesWithSystem k s
      → HasChildren k
      → Reaches stores g k s ns t → HasChildren (after_notes ns k)
  children_all k s t [] h a c r = c
  children_all k s t (n ∷ ns) h a c r =
      let m = keeps stores g k s r.0 n h a r.1 in
      children_all (after_note n k) r.0 t ns m.0 m.1
      (children_by n.worker n.given n.event n.got k s r.0 h c r.1.gives r.1.gets) r.2
