-- The count of the processes that are out, and that nobody runs where none is out and none is ready.
use Rattle.std.proofs.Common.{◌≡◌, ◌≢◌, ◌⊎◌, ℕ, ◌+◌, ◌-◌, ◌≤◌, ◌==◌, inl, inr, Bool, true, false, cond, nat_lt, ◌||◌}
use Rattle.std.proofs.Common.{if◌then◌else◌, List, [], ◌∷◌, ◌++◌, length, Option, Some, None, refl, sym, ap, ◌∙◌, subst}
use Rattle.std.proofs.Common.{arith}
use Rattle.sp_base.proofs.Facts.{equals_itself}
use Rattle.sp_journal.specs.declared.entry.Way.{Way}
use Rattle.sp_journal.specs.declared.entry.Way.TheVariants as way
use Rattle.sp_journal.specs.declared.entry.Event.{Event}
use Rattle.sp_journal.specs.declared.entry.Event.TheVariants as event
use Rattle.sp_journal.specs.declared.entry.Birth.{Birth}
use Rattle.sp_journal.specs.declared.entry.Note.{Note}
use Rattle.sp_journal.specs.Maps.{at_key}
use Rattle.sp_journal.specs.Births.{is_next}
use Rattle.sp_code.specs.Control.{Control, Doing, Unborn, Ready, Out, Sending, Receiving, Joining, Laid, Ended, Gone}
use Rattle.sp_code.specs.Control.{does, queues, offers, one_fewer, reports, comes_back, abandons, takes, after_give}
use Rattle.sp_code.specs.Control.{after_note}
use Rattle.sp_code.specs.Control.{after_notes, entry_of, entries_of, standing, front_while, control_at_start, Standing}
use Rattle.sp_code.specs.Control.{Running as Going, IsDone, IsDeadlock, IsFault, IsMemory, has_ended, is_ready}
use Rattle.sp_code.specs.System.{System, GiveIsLegal, GetIsLegal}
use Rattle.sp_code.specs.Memory.{CodeRun, Stores}
use Rattle.sp_code.specs.Agreement.{EachNumber, Differ, Among, IsOrderly, IsGot, AgreesWithSystem, Reaches, phase}
use Rattle.sp_code.specs.Agreement.{phase_in, Running}
use Rattle.sp_code.specs.Agreement.{IsOut, HasOuts, IsOver}
use Rattle.sp_code.proofs.Queues.{each_of, number_or, at_same, at_other, among_none}
use Rattle.sp_code.proofs.Orders.{orderly_back}
use Rattle.sp_code.proofs.OutProcesses.{back_out}
use Rattle.sp_code.proofs.Legal.{got_of, keeps}

-- at the start nothing is out
pub outs_start : HasOuts control_at_start
outs_start = record { outs = []; count = refl; distinct = tt {0}; each = tt {0}; all = λ q o. absurd (none (q == 0) o) }
  where
    none : (b : Bool) → IsOut (if b then Ready else Unborn) → ⊥
    none true o = let e = o.1 in cc
    none false o = let e = o.1 in cc

-- ---- a list without a number

abbrev pub without : ℕ → List ℕ → List ℕ
without p [] = []
without p (x ∷ xs) = cond (p == x) xs (x ∷ without p xs)

pub without_length : (p : ℕ) (xs : List ℕ) → Among p xs → length (without p xs) ≡ length xs - 1
without_length p [] i = absurd i
without_length p (x ∷ xs) i = go (number_or p x) i (without_length p xs) (some xs)
  where
    some : (ys : List ℕ) → Among p ys → 1 ≤ length ys
    some [] j = absurd j
    some (y ∷ ys) j = omega arith

    go : (p ≡ x) ⊎ ((p ≢ x) × (p == x ≡ false)) → Among p (x ∷ xs)
        → (Among p xs → length (without p xs) ≡ length xs - 1) → (Among p xs → 1 ≤ length xs)
        → length (cond (p == x) xs (x ∷ without p xs)) ≡ length (x ∷ xs) - 1
    go (inl is) j h l = rw (subst (λ y. p == y ≡ true) is (equals_itself p)) (omega arith)
    go (inr n) (inl e) h l = absurd (n.0 e)
    go (inr n) (inr j) h l = rw (n.1) (let a = h j in let b = l j in omega (arith, a, b))

pub without_each : (P : ℕ → Type 0) (p : ℕ) (xs : List ℕ) → EachNumber P xs → EachNumber P (without p xs)
without_each P p [] e = tt {0}
without_each P p (x ∷ xs) e = go (p == x) (without_each P p xs e.1)
  where
    go : (b : Bool) → EachNumber P (without p xs) → EachNumber P (cond b xs (x ∷ without p xs))
    go true h = e.1
    go false h = (e.0, h)

pub without_differ : (p : ℕ) (xs : List ℕ) → Differ xs → Differ (without p xs)
without_differ p [] d = tt {0}
without_differ p (x ∷ xs) d = go (p == x) (without_differ p xs d.1)
  where
    go : (b : Bool) → Differ (without p xs) → Differ (cond b xs (x ∷ without p xs))
    go true h = d.1
    go false h = (without_each (λ y. y ≢ x) p xs d.0, h)

without_gone : (p : ℕ) (xs : List ℕ) → Differ xs → EachNumber (λ y. y ≢ p) (without p xs)
without_gone p [] d = tt {0}
without_gone p (x ∷ xs) d = go (number_or p x) (without_gone p xs d.1)
  where
    go : (p ≡ x) ⊎ ((p ≢ x) × (p == x ≡ false)) → EachNumber (λ y. y ≢ p) (without p xs)
        → EachNumber (λ y. y ≢ p) (cond (p == x) xs (x ∷ without p xs))
    go (inl is) h = rw (subst (λ y. p == y ≡ true) is (equals_itself p))
        (each_of (λ y. y ≢ x) (λ y. y ≢ p) xs (λ y n e. n (e ∙ is)) d.0)
    go (inr n) h = rw (n.1) ((λ e. n.0 (sym e)), h)

pub without_has : (p q : ℕ) (xs : List ℕ) → q ≢ p → Among q xs → Among q (without p xs)
without_has p q [] n i = absurd i
without_has p q (x ∷ xs) n i = go (number_or p x) i (without_has p q xs n)
  where
    go : (p ≡ x) ⊎ ((p ≢ x) × (p == x ≡ false)) → Among q (x ∷ xs) → (Among q xs → Among q (without p xs))
        → Among q (cond (p == x) xs (x ∷ without p xs))
    go (inl is) (inl e) h = absurd (n (e ∙ sym is))
    go (inl is) (inr j) h = rw (subst (λ y. p == y ≡ true) is (equals_itself p)) j
    go (inr m) (inl e) h = rw (m.1) (inl e)
    go (inr m) (inr j) h = rw (m.1) (inr (h j))

-- ---- who is out after an event was out before it, and is another

at_out : (f : ℕ → Doing) (z q : ℕ) (d : Doing) → (IsOut d → ⊥) → IsOut (at_key ◌==◌ z d f q) → IsOut (f q) × (q ≢ z)
at_out f z q d n o = go (number_or z q)
  where
    go : (z ≡ q) ⊎ ((z ≢ q) × (z == q ≡ false)) → IsOut (f q) × (q ≢ z)
    go (inl is) = absurd (n (o.0, sym (subst (λ y. at_key ◌==◌ z d f y ≡ d) is (at_same f z d)) ∙ o.1))
    go (inr m) = ((o.0, sym (at_other f z q d m.0) ∙ o.1), λ e. m.0 (sym e))

no_out : (d : Doing) → ((w : ℕ) → d ≢ Out w) → IsOut d → ⊥
no_out d n o = n o.0 o.1

module _ (k : Control) (p : ℕ) where
  fewer_was : (x : ℕ) (d : Doing) (m : Control) (q : ℕ) → IsOut ((one_fewer x d m).doing q) → IsOut (m.doing q)
  fewer_was x (Joining n) m q o = go (n == 1) o
    where
      go : (b : Bool) → IsOut ((if b then queues x m else does x (Joining (n - 1)) m).doing q) → IsOut (m.doing q)
      go true o = (at_out m.doing x q Ready (no_out Ready (λ w e. absurd (cc e))) o).0
      go false o = (at_out m.doing x q (Joining (n - 1)) (no_out _ (λ w e. absurd (cc e))) o).0
  fewer_was _ _ _ _ o = o

  ready_was : (f : ℕ → Doing) (z q : ℕ) → IsOut (at_key ◌==◌ z Ready f q) → IsOut (f q) × (q ≢ z)
  ready_was f z q o = at_out f z q Ready (no_out Ready (λ w e. absurd (cc e))) o

  offers_was : (w : Way) (d : Doing) (c : ℕ) (x : Option (Way × ℕ)) (q : ℕ) → (IsOut d → ⊥)
      → IsOut ((offers w d p c x k).doing q) → IsOut (k.doing q) × (q ≢ p)
  offers_was w d c None q n o = at_out k.doing p q d n o
  offers_was w d c (Some z) q n o = let a = ready_was (at_key ◌==◌ z.1 Ready k.doing) p q o in
      ((ready_was k.doing z.1 q a.0).0, a.1)

  back_was : (e : Event) (q : ℕ) → IsOut ((comes_back p e k).doing q) → IsOut (k.doing q) × (q ≢ p)
  back_was (event.Fork n) q o = go (is_next k.births n q) o
    where
      go : (b : Bool) → IsOut (cond b Ready (cond (p == q) (Joining n) (k.doing q))) → IsOut (k.doing q) × (q ≢ p)
      go true o = absurd (cc (o.1))
      go false o = at_out k.doing p q (Joining n) (no_out _ (λ w e. absurd (cc e))) o
  back_was event.Open q o = ready_was k.doing p q o
  back_was (event.Send c) q o = offers_was way.Send (Sending c) c (k.pending c) q (no_out _ (λ w e. absurd (cc e))) o
  back_was (event.Receive c) q o = offers_was way.Receive (Receiving c) c (k.pending c) q
      (no_out _ (λ w e. absurd (cc e))) o
  back_was event.End q o = go (k.births.birth p) o
    where
      go : (x : Option Birth) → IsOut ((reports x (does p Ended k)).doing q) → IsOut (k.doing q) × (q ≢ p)
      go None o = at_out k.doing p q Ended (no_out _ (λ w e. absurd (cc e))) o
      go (Some b) o = at_out k.doing p q Ended (no_out _ (λ w e. absurd (cc e)))
          (fewer_was b.parent ((does p Ended k).doing b.parent) (does p Ended k) q o)
  back_was (event.Fault f) q o = at_out k.doing p q Laid (no_out _ (λ w e. absurd (cc e))) o
  back_was event.Laid q o = at_out k.doing p q Laid (no_out _ (λ w e. absurd (cc e))) o
  back_was event.Pause q o = ready_was k.doing p q o

outs_back : (k : Control) → IsOrderly k → HasOuts k → (p u : ℕ) (e : Event) → k.doing p ≡ Out u
    → HasOuts (comes_back p e k)
outs_back k h o p u e out = record {
  outs = without p o.outs;
  count = without_length p o.outs (o.all p (u, out)) ∙ ap (λ n. n - 1) o.count;
  distinct = without_differ p o.outs o.distinct;
  each = kept (without p o.outs) (without_each (λ q. IsOut (k.doing q)) p o.outs o.each)
      (without_gone p o.outs o.distinct);
  all = λ q i. let w = back_was k p e q i in without_has p q o.outs w.1 (o.all q w.0);
}
  where
    kept : (xs : List ℕ) → EachNumber (λ q. IsOut (k.doing q)) xs → EachNumber (λ y. y ≢ p) xs
        → EachNumber (λ q. IsOut ((comes_back p e k).doing q)) xs
    kept [] a b = tt {0}
    kept (x ∷ xs) ((w, is_out), others) b = ((w, back_out k h x w p is_out (λ i. b.0 (sym i)) e), kept xs others b.1)

outs_takes : (k : Control) → HasOuts k → (w : ℕ) (got : Option ℕ) → IsGot k got → HasOuts (takes w got k)
outs_takes k o w None i = record { outs = o.outs; count = o.count; distinct = o.distinct; each = o.each; all = o.all }
outs_takes k o w (Some p) i = record {
  outs = p ∷ o.outs;
  count = let c = o.count in omega (arith, c);
  distinct = (
    each_of (λ q. IsOut (k.doing q)) (λ q. q ≢ p) o.outs
        (λ q s e. let r : k.doing q ≡ Ready = ap k.doing e ∙ i.1 in let t = s.1 in absurd (cc (r, t))) o.each,
    o.distinct,
  );
  each = (
    (w, at_same k.doing p (Out w)),
    each_of (λ q. IsOut (k.doing q))
        (λ q. IsOut (at_key ◌==◌ p (Out w) k.doing q)) o.outs (λ q s. keep q (number_or p q) s) o.each,
  );
  all = λ q s. new q (number_or p q) s;
}
  where
    keep : (q : ℕ) → (p ≡ q) ⊎ ((p ≢ q) × (p == q ≡ false)) → IsOut (k.doing q)
        → IsOut (at_key ◌==◌ p (Out w) k.doing q)
    keep q (inl is) s = subst (λ y. IsOut (at_key ◌==◌ p (Out w) k.doing y)) is (w, at_same k.doing p (Out w))
    keep q (inr n) s = (s.0, at_other k.doing p q (Out w) n.0 ∙ s.1)

    new : (q : ℕ) → (p ≡ q) ⊎ ((p ≢ q) × (p == q ≡ false)) → IsOut (at_key ◌==◌ p (Out w) k.doing q)
        → Among q (p ∷ o.outs)
    new q (inl is) s = inl (sym is)
    new q (inr n) s = inr (o.all q (s.0, sym (at_other k.doing p q (Out w) n.0) ∙ s.1))

outs_gives_up : (k : Control) → HasOuts k → (p u : ℕ) → k.doing p ≡ Out u → HasOuts (abandons (Some p) k)
outs_gives_up k o p u out = record {
  outs = without p o.outs;
  count = without_length p o.outs (o.all p (u, out)) ∙ ap (λ n. n - 1) o.count;
  distinct = without_differ p o.outs o.distinct;
  each = kept (without p o.outs) (without_each (λ q. IsOut (k.doing q)) p o.outs o.each)
      (without_gone p o.outs o.distinct);
  all = λ q i. let w = at_out k.doing p q Gone (no_out Gone (λ w e. absurd (cc e))) i in
      without_has p q o.outs w.1 (o.all q w.0);
}
  where
    kept : (xs : List ℕ) → EachNumber (λ q. IsOut (k.doing q)) xs → EachNumber (λ y. y ≢ p) xs
        → EachNumber (λ q. IsOut (at_key ◌==◌ p Gone k.doing q)) xs
    kept [] a b = tt {0}
    kept (x ∷ xs) ((w, is_out), others) b =
        ((w, at_other k.doing p x Gone (λ i. b.0 (sym i)) ∙ is_out), kept xs others b.1)

module _ {S : Type 0} (stores : Stores S) (g : CodeRun) where
  -- a legal note keeps the count
  pub outs_by : (w : ℕ) (give : Option ℕ) (e : Option Event) (got : Option ℕ) (k : Control) (s t : System S)
      → IsOrderly k → HasOuts k → GiveIsLegal stores g k s w give e got t
      → GetIsLegal stores g (after_give give e got k) e got
      → HasOuts (takes w got (after_give give e got k))
  outs_by w None None None k s t h o i j = record {
    outs = o.outs;
    count = o.count;
    distinct = o.distinct;
    each = o.each;
    all = o.all;
  }
  outs_by w None None (Some q) k s t h o i j = outs_takes k o w (Some q) (got_of k h (Some q) (sym j))
  outs_by w None (Some e) got k s t h o i j = absurd i
  outs_by w (Some p) None None k s t h o i j = outs_gives_up k o p w i.0
  outs_by w (Some p) None (Some q) k s t h o i j = absurd (cc (i.1))
  outs_by w (Some p) (Some e) got k s t h o i j =
      outs_takes (comes_back p e k) (outs_back k h o p w e i.0) w got
      (got_of (comes_back p e k) (orderly_back k h p w e i.0) got j)

  pub outs_all : (k : Control) (s t : System S) (ns : List Note) → IsOrderly k → AgreesWithSystem k s → HasOuts k
      → Reaches stores g k s ns t → HasOuts (after_notes ns k)
  outs_all k s t [] h a o r = o
  outs_all k s t (n ∷ ns) h a o r = let m = keeps stores g k s r.0 n h a r.1 in
      outs_all (after_note n k) r.0 t ns m.0 m.1 (outs_by n.worker n.given n.event n.got k s r.0 h o r.1.gives
      r.1.gets) r.2

  front_over : (st : Standing) (ps : List ℕ) → st ≢ Going → front_while st ps ≡ None
  front_over Going ps n = absurd (n refl)
  front_over _ _ _ = refl

  given_up : (b : Bool) (x : Standing) → b ≡ true → (if b then IsMemory else x) ≢ Going
  given_up true x e f = absurd (cc f)
  given_up false x e f = absurd (cc e)

  -- after that only workers give up, and no event is made any more
  pub over_by : (w : ℕ) (give : Option ℕ) (e : Option Event) (got : Option ℕ) (k : Control) (s t : System S) → HasOuts k
      → IsOver k → GiveIsLegal stores g k s w give e got t → GetIsLegal stores g (after_give give e got k) e got
      → (e ≡ None)
      × IsOver (takes w got (after_give give e got k))
  over_by w None None None k s t o v i j = (refl, (memory, v.1))
    where
      memory : standing (abandons None k) ≢ Going
      memory e = given_up (nat_lt 0 (k.abandons + 1))
          (if k.faulted then IsFault else (if has_ended (k.doing 0) then IsDone else
          (if is_ready k.ready || nat_lt 0 k.out then Going else IsDeadlock))) (grind (arith)) e
  over_by w None None (Some q) k s t o v i j = absurd (let f = front_over (standing k) k.ready v.0 in cc (f, j))
  over_by w None (Some e) got k s t o v i j = absurd i
  over_by w (Some p) e got k s t o v i j = absurd (nobody e i)
    where
      nobody : (e : Option Event) → GiveIsLegal stores g k s w (Some p) e got t → ⊥
      nobody None i = among_none p o.outs (o.count ∙ v.1) (o.all p (w, i.0))
      nobody (Some e) i = among_none p o.outs (o.count ∙ v.1) (o.all p (w, i.0))

  no_event : (give : Option ℕ) (e : Option Event) → e ≡ None → entry_of give e ≡ []
  no_event None None f = refl
  no_event (Some p) None f = refl
  no_event give (Some e) f = absurd (cc f)

  -- and so along all that follows
  pub over_all : (k : Control) (s t : System S) (ns : List Note) → IsOrderly k → AgreesWithSystem k s → HasOuts k
      → IsOver k
      → Reaches stores g k s ns t → entries_of ns ≡ []
  over_all k s t [] h a o v r = refl
  over_all k s t (n ∷ ns) h a o v r =
      let m = keeps stores g k s r.0 n h a r.1 in
      let b = over_by n.worker n.given n.event n.got k s r.0 o v r.1.gives r.1.gets in
      let rest = over_all (after_note n k) r.0 t ns m.0 m.1
      (outs_by n.worker n.given n.event n.got k s r.0 h o r.1.gives r.1.gets) b.1 r.2 in
      ap (λ es. es ++ entries_of ns) (no_event n.given n.event b.0) ∙ rest

-- nobody runs where none is ready, none is out and no worker gave up a process: a deadlock of the control is one of the
-- system
pub nobody_runs : {S : Type 0} (k : Control) (s : System S) → IsOrderly k → AgreesWithSystem k s → HasOuts k
    → k.ready ≡ []
    → k.out ≡ 0 → ((q : ℕ) → k.doing q ≢ Gone) → (q : ℕ) → phase_in (s.condition q) ≢ Running
nobody_runs k s h a o none idle kept q is = go (k.doing q) refl (a.each q ∙ is)
  where
    go : (d : Doing) → k.doing q ≡ d → phase d ≡ Running → ⊥
    go Unborn e f = absurd (cc f)
    go Ready e f = let i : Among q [] = subst (Among q) none (h.queue.all q e) in i
    go (Out w) e f = among_none q o.outs (o.count ∙ idle) (o.all q (w, e))
    go (Sending c) e f = absurd (cc f)
    go (Receiving c) e f = absurd (cc f)
    go (Joining n) e f = absurd (cc f)
    go Laid e f = absurd (cc f)
    go Ended e f = absurd (cc f)
    go Gone e f = kept q e
