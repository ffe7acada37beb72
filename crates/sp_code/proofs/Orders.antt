-- Each event and each take keeps the control orderly.
use Rattle.std.proofs.Common.{◌≡◌, ◌≢◌, ◌⊎◌, ℕ, ◌+◌, ◌-◌, ◌≤◌, ◌<◌, ◌==◌, nat_le, inl, inr, Bool, true, false, cond}
use Rattle.std.proofs.Common.{if◌then◌else◌, List, [], ◌∷◌, ◌++◌, Option, Some, None, refl, sym, ap, ◌∙◌, subst, arith}
use Rattle.std.proofs.lemmas.Option.{same_Some}
use Rattle.sp_base.proofs.Facts.{equals_itself}
use Rattle.sp_journal.specs.declared.entry.Way.{Way}
use Rattle.sp_journal.specs.declared.entry.Way.TheVariants as way
use Rattle.sp_journal.specs.declared.entry.Event.{Event}
use Rattle.sp_journal.specs.declared.entry.Event.TheVariants as event
use Rattle.sp_journal.specs.declared.entry.Birth.{Birth}
use Rattle.sp_journal.specs.Maps.{at_key}
use Rattle.sp_journal.specs.Births.{Births, births_after_event, is_next}
use Rattle.sp_journal.specs.Queue.{numbers}
use Rattle.sp_code.specs.Control.{Control, Doing, Unborn, Ready, Out, Sending, Receiving, Joining, Laid, Ended, Gone}
use Rattle.sp_code.specs.Control.{does, queues, offers, one_fewer, reports, comes_back}
use Rattle.sp_code.specs.Agreement.{EachNumber, Among, IsQueue, IsOrderly, waits_by}
use Rattle.sp_code.proofs.Queues.{each_of, each_append, differ_append, among_front, among_back, numbers_from}
use Rattle.sp_code.proofs.Queues.{numbers_below, numbers_differ, numbers_have, number_or, at_same, at_other}

-- ---- what a number is not

pub not_ready_out : (d : Doing) (w : ℕ) → d ≡ Out w → d ≢ Ready
not_ready_out d w e f = absurd (cc (e, f))

pub not_ready_waits : (d : Doing) (w : Way) (c : ℕ) → d ≡ waits_by w c → d ≢ Ready
not_ready_waits d way.Send c e f = absurd (cc (e, f))
not_ready_waits d way.Receive c e f = absurd (cc (e, f))

pub waits_channel : (v w : Way) (c d : ℕ) → waits_by v c ≡ waits_by w d → c ≡ d
waits_channel way.Send way.Send c d e = cc
waits_channel way.Send way.Receive c d e = absurd cc
waits_channel way.Receive way.Send c d e = absurd cc
waits_channel way.Receive way.Receive c d e = cc

-- ---- the queue

module _ {d : ℕ → Doing} {r : List ℕ} (h : IsQueue d r) where
  pub away : (z : ℕ) → d z ≢ Ready → EachNumber (λ y. y ≢ z) r
  away z n = each_of (λ q. d q ≡ Ready) (λ y. y ≢ z) r (λ q e is. n (ap d (sym is) ∙ e)) h.queued

  pub queue_does : (z : ℕ) (v : Doing) → d z ≢ Ready → v ≢ Ready → IsQueue (at_key ◌==◌ z v d) r
  queue_does z v n m = record {
    queued = each_of (λ q. (d q ≡ Ready) × (q ≢ z)) (λ q. at_key ◌==◌ z v d q ≡ Ready) r
        (λ q e. at_other d z q v (λ is. e.1 (sym is)) ∙ e.0) (both r h.queued (away z n));
    distinct = h.distinct;
    all = λ q e. h.all q (back q (number_or z q) e);
  }
    where
      both : (xs : List ℕ) → EachNumber (λ q. d q ≡ Ready) xs → EachNumber (λ y. y ≢ z) xs
          → EachNumber (λ q. (d q ≡ Ready) × (q ≢ z)) xs
      both [] a b = tt {0}
      both (x ∷ xs) a b = ((a.0, b.0), both xs a.1 b.1)

      back : (q : ℕ) → (z ≡ q) ⊎ ((z ≢ q) × (z == q ≡ false)) → at_key ◌==◌ z v d q ≡ Ready → d q ≡ Ready
      back q (inl is) e = absurd (m (sym (subst (λ x. at_key ◌==◌ z v d x ≡ v) is (at_same d z v)) ∙ e))
      back q (inr o) e = sym (at_other d z q v o.0) ∙ e

  pub queue_add : (z : ℕ) → d z ≢ Ready → IsQueue (at_key ◌==◌ z Ready d) (r ++ z ∷ [])
  queue_add z n = record {
    queued = each_append (λ q. at_key ◌==◌ z Ready d q ≡ Ready) r (z ∷ [])
        (each_of (λ q. d q ≡ Ready) (λ q. at_key ◌==◌ z Ready d q ≡ Ready) r (λ q e. either q (number_or z q) e)
        h.queued) (at_same d z Ready, tt {0});
    distinct = differ_append r (z ∷ []) h.distinct (tt {0}, tt {0})
        (each_of (λ y. y ≢ z) (λ x. EachNumber (λ y. y ≢ x) (z ∷ [])) r (λ x f. ((λ is. f (sym is)), tt {0}))
        (away z n));
    all = λ q e. there q (number_or z q) e;
  }
    where
      either : (q : ℕ) → (z ≡ q) ⊎ ((z ≢ q) × (z == q ≡ false)) → d q ≡ Ready → at_key ◌==◌ z Ready d q ≡ Ready
      either q (inl is) e = subst (λ x. at_key ◌==◌ z Ready d x ≡ Ready) is (at_same d z Ready)
      either q (inr o) e = at_other d z q Ready o.0 ∙ e

      there : (q : ℕ) → (z ≡ q) ⊎ ((z ≢ q) × (z == q ≡ false)) → at_key ◌==◌ z Ready d q ≡ Ready → Among q (r ++ z ∷ [])
      there q (inl is) e = among_back q r (z ∷ []) (inl (sym is))
      there q (inr o) e = among_front q r (z ∷ []) (h.all q (sym (at_other d z q Ready o.0) ∙ e))

pub queue_take : (d : ℕ → Doing) (z : ℕ) (r : List ℕ) (v : Doing) → IsQueue d (z ∷ r) → v ≢ Ready
    → IsQueue (at_key ◌==◌ z v d) r
queue_take d z r v h m = record {
  queued = queued_by r h.queued.1 h.distinct.0;
  distinct = h.distinct.1;
  all = λ q e. back q (number_or z q) e;
}
  where
    queued_by : (xs : List ℕ) → EachNumber (λ q. d q ≡ Ready) xs → EachNumber (λ y. y ≢ z) xs
        → EachNumber (λ q. at_key ◌==◌ z v d q ≡ Ready) xs
    queued_by [] a b = tt {0}
    queued_by (x ∷ xs) a b = (at_other d z x v (λ is. b.0 (sym is)) ∙ a.0, queued_by xs a.1 b.1)

    found : (q : ℕ) → z ≢ q → Among q (z ∷ r) → Among q r
    found q n (inl e) = absurd (n (sym e))
    found q n (inr i) = i

    back : (q : ℕ) → (z ≡ q) ⊎ ((z ≢ q) × (z == q ≡ false)) → at_key ◌==◌ z v d q ≡ Ready → Among q r
    back q (inl is) e = absurd (m (sym (subst (λ x. at_key ◌==◌ z v d x ≡ v) is (at_same d z v)) ∙ e))
    back q (inr o) e = found q o.0 (h.all q (sym (at_other d z q v o.0) ∙ e))

-- ---- a fork

pub next_is : (s : Births) (n q : ℕ) → is_next s n q ≡ true → (s.processes ≤ q) × (q < s.processes + n)
next_is s n q e = (grind (arith, e), grind (arith, e))

pub next_not : (s : Births) (n q : ℕ) → q < s.processes → is_next s n q ≡ false
next_not s n q l = grind (arith, l)

pub next_past : (s : Births) (n q : ℕ) → s.processes + n ≤ q → is_next s n q ≡ false
next_past s n q l = grind (arith, l)

pub next_yes : (s : Births) (n q : ℕ) → s.processes ≤ q → q < s.processes + n → is_next s n q ≡ true
next_yes s n q l m = grind (arith, l, m)

abbrev forked_doing : Births → ℕ → Doing → ℕ → (ℕ → Doing) → ℕ → Doing
forked_doing s p v n d q = cond (is_next s n q) Ready (cond (p == q) v (d q))

queue_forks : (d : ℕ → Doing) (r : List ℕ) (s : Births) (p n : ℕ) (v : Doing) → IsQueue d r
    → ((q : ℕ) → s.processes ≤ q → d q ≡ Unborn) → d p ≢ Ready → v ≢ Ready
    → IsQueue (forked_doing s p v n d) (r ++ numbers s.processes n)
queue_forks d r s p n v h unborn np nv = record {
  queued = each_append (λ q. forked_doing s p v n d q ≡ Ready) r (numbers s.processes n)
      (each_of (λ q. (d q ≡ Ready) × (q ≢ p)) (λ q. forked_doing s p v n d q ≡ Ready) r (λ q e. old q e.0 e.1)
      (both r h.queued (away h p np)))
      (each_of (λ q. (s.processes ≤ q) × (q < s.processes + n)) (λ q. forked_doing s p v n d q ≡ Ready)
      (numbers s.processes n) (λ q e. rw (next_yes s n q e.0 e.1) refl)
      (pair (numbers s.processes n) (numbers_from s.processes n) (numbers_below s.processes n)));
  distinct = differ_append r (numbers s.processes n) h.distinct (numbers_differ s.processes n)
      (each_of (λ q. d q ≡ Ready) (λ x. EachNumber (λ y. y ≢ x) (numbers s.processes n)) r
      (λ x e. each_of (λ q. s.processes ≤ q) (λ y. y ≢ x) (numbers s.processes n)
      (λ y l is. is_late x e (subst (λ z. s.processes ≤ z) is l)) (numbers_from s.processes n)) h.queued);
  all = λ q e. there q (is_next s n q) refl e;
}
  where
    is_late : (x : ℕ) → d x ≡ Ready → s.processes ≤ x → ⊥
    is_late x e l = let u = unborn x l in absurd (cc (e, u))

    both : (xs : List ℕ) → EachNumber (λ q. d q ≡ Ready) xs → EachNumber (λ y. y ≢ p) xs
        → EachNumber (λ q. (d q ≡ Ready) × (q ≢ p)) xs
    both [] a b = tt {0}
    both (x ∷ xs) a b = ((a.0, b.0), both xs a.1 b.1)

    pair : (xs : List ℕ) → EachNumber (λ q. s.processes ≤ q) xs → EachNumber (λ q. q < s.processes + n) xs
        → EachNumber (λ q. (s.processes ≤ q) × (q < s.processes + n)) xs
    pair [] a b = tt {0}
    pair (x ∷ xs) a b = ((a.0, b.0), pair xs a.1 b.1)

    old : (q : ℕ) → d q ≡ Ready → q ≢ p → forked_doing s p v n d q ≡ Ready
    old q e m = go (is_next s n q) (number_or p q)
      where
        go : (b : Bool) → (p ≡ q) ⊎ ((p ≢ q) × (p == q ≡ false)) → cond b Ready (cond (p == q) v (d q)) ≡ Ready
        go true o = refl
        go false (inl is) = absurd (m (sym is))
        go false (inr o) = rw (o.1) e

    there : (q : ℕ) (b : Bool) → is_next s n q ≡ b → cond b Ready (cond (p == q) v (d q)) ≡ Ready
        → Among q (r ++ numbers s.processes n)
    there q true w e = let l = next_is s n q w in
        among_back q r (numbers s.processes n) (numbers_have s.processes n q l.0 l.1)
    there q false w e = among_front q r (numbers s.processes n) (h.all q (go (number_or p q) e))
      where
        go : (p ≡ q) ⊎ ((p ≢ q) × (p == q ≡ false)) → cond (p == q) v (d q) ≡ Ready → d q ≡ Ready
        go (inl is) f = absurd (nv (sym (subst (λ z. cond (p == z) v (d z) ≡ v) is (here p)) ∙ f))
          where
            here : (p : ℕ) → cond (p == p) v (d p) ≡ v
            here p = rw (equals_itself p) refl
        go (inr o) f = sym (skip o.1) ∙ f
          where
            skip : p == q ≡ false → cond (p == q) v (d q) ≡ d q
            skip e = rw e refl

-- ---- what an event does to the control

module _ {k : Control} (h : IsOrderly k) where
  pub there_of : (p : ℕ) (d : Doing) → k.doing p ≡ d → d ≢ Unborn → p < k.births.processes
  there_of p d e n = go (nat_le k.births.processes p) refl
    where
      go : (b : Bool) → nat_le k.births.processes p ≡ b → p < k.births.processes
      go true w = absurd (n (sym e ∙ h.unborn p (grind (arith, w))))
      go false w = grind (arith, w)

  -- what a process that is there becomes
  pub orderly_does : (p : ℕ) (v : Doing) → p < k.births.processes → k.doing p ≢ Ready → v ≢ Ready
      → ((c : ℕ) (w : Way) → k.pending c ≡ Some (w, p) → ⊥) → IsOrderly (does p v k)
  orderly_does p v l n m o = record {
    queue = queue_does h.queue p v n m;
    unborn = λ q i. at_other k.doing p q v (λ e. absurd (omega (arith, l, i, e))) ∙ h.unborn q i;
    pending = λ c z w e. at_other k.doing p z v (λ is. o c w (e ∙ ap (λ y. Some (w, y)) (sym is))) ∙ h.pending c z w e;
    parents = h.parents;
  }

  orderly_queues : (p : ℕ) → p < k.births.processes → k.doing p ≢ Ready
      → ((c : ℕ) (w : Way) → k.pending c ≡ Some (w, p) → ⊥) → IsOrderly (queues p k)
  orderly_queues p l n o = record {
    queue = queue_add h.queue p n;
    unborn = λ q i. at_other k.doing p q Ready (λ e. absurd (omega (arith, l, i, e))) ∙ h.unborn q i;
    pending = λ c z w e. at_other k.doing p z Ready (λ is. o c w (e ∙ ap (λ y. Some (w, y)) (sym is)))
        ∙ h.pending c z w e;
    parents = h.parents;
  }

module _ {k : Control} (h : IsOrderly k) where
  -- nobody's pending offer is that of a process that is out
  pub no_offer : (p u : ℕ) → k.doing p ≡ Out u → (c : ℕ) (w : Way) → k.pending c ≡ Some (w, p) → ⊥
  no_offer p u e c way.Send f = let g : k.doing p ≡ Sending c = h.pending c p way.Send f in absurd (cc (e, g))
  no_offer p u e c way.Receive f = let g : k.doing p ≡ Receiving c = h.pending c p way.Receive f in absurd (cc (e, g))

  pub out_there : (p u : ℕ) → k.doing p ≡ Out u → p < k.births.processes
  out_there p u e = there_of h p (Out u) e (λ f. absurd (cc f))

  -- the offer on a channel goes
  cleared : (c : ℕ) → IsOrderly (record k { pending = at_key ◌==◌ c None k.pending })
  cleared c = record {
    queue = h.queue;
    unborn = h.unborn;
    pending = λ d z w e. go d z w (number_or c d) e;
    parents = h.parents;
  }
    where
      go : (d z : ℕ) (w : Way) → (c ≡ d) ⊎ ((c ≢ d) × (c == d ≡ false)) → at_key ◌==◌ c None k.pending d ≡ Some (w, z)
          → k.doing z ≡ waits_by w d
      go d z w (inl is) e = let n : at_key ◌==◌ c None k.pending d ≡ None =
          subst (λ x. at_key ◌==◌ c None k.pending x ≡ None) is (at_same k.pending c None) in absurd (cc (n, e))
      go d z w (inr o) e = h.pending d z w (sym (at_other k.pending c d None o.0) ∙ e)

  not_cleared : (c d z : ℕ) (v w : Way) → k.pending c ≡ Some (v, z) → at_key ◌==◌ c None k.pending d ≡ Some (w, z) → ⊥
  not_cleared c d z v w f e = go (number_or c d)
    where
      go : (c ≡ d) ⊎ ((c ≢ d) × (c == d ≡ false)) → ⊥
      go (inl is) = let n : at_key ◌==◌ c None k.pending d ≡ None =
          subst (λ x. at_key ◌==◌ c None k.pending x ≡ None) is (at_same k.pending c None) in absurd (cc (n, e))
      go (inr o) = o.0 (waits_channel v w c d
          (sym (h.pending c z v f) ∙ h.pending d z w (sym (at_other k.pending c d None o.0) ∙ e)))

  waiting : (p u c : ℕ) (w : Way) → k.doing p ≡ Out u
      → IsOrderly (record k {
        doing = at_key ◌==◌ p (waits_by w c) k.doing;
        pending = at_key ◌==◌ c (Some (w, p)) k.pending;
      })
  waiting p u c w e = record {
    queue = queue_does h.queue p (waits_by w c) (not_ready_out (k.doing p) u e)
        (not_ready_waits (waits_by w c) w c refl);
    unborn = λ q i. at_other k.doing p q (waits_by w c) (λ f. absurd (omega (arith, out_there p u e, i, f)))
        ∙ h.unborn q i;
    pending = λ d z v f. go d z v (number_or c d) f;
    parents = h.parents;
  }
    where
      go : (d z : ℕ) (v : Way) → (c ≡ d) ⊎ ((c ≢ d) × (c == d ≡ false))
          → at_key ◌==◌ c (Some (w, p)) k.pending d ≡ Some (v, z)
          → at_key ◌==◌ p (waits_by w c) k.doing z ≡ waits_by v d
      go d z v (inl is) f =
          let n : ◌≡◌ {A = Option (Way × ℕ)} (Some (w, p)) (Some (v, z)) =
          sym (subst (λ x. at_key ◌==◌ c (Some (w, p)) k.pending x ≡ Some (w, p)) is
          (at_same k.pending c (Some (w, p)))) ∙ f in
          let m : ◌≡◌ {A = Way × ℕ} (w, p) (v, z) = cc n in
          subst (λ x. at_key ◌==◌ p (waits_by w c) k.doing x ≡ waits_by v d) (ap (λ (x : Way × ℕ). x.1) m)
          (at_same k.doing p (waits_by w c) ∙ ap (λ (x : Way × ℕ). waits_by x.0 c) m ∙ ap (waits_by v) is)
      go d z v (inr o) f =
          let g : k.pending d ≡ Some (v, z) = sym (at_other k.pending c d (Some (w, p)) o.0) ∙ f in
          at_other k.doing p z (waits_by w c) (λ is. no_offer p u e d v (g ∙ ap (λ y. Some (v, y)) (sym is)))
          ∙ h.pending d z v g

-- who waits is not out
pub waits_not_out : (v : Way) (c u : ℕ) → waits_by v c ≢ Out u
waits_not_out way.Send c u g = absurd (cc g)
waits_not_out way.Receive c u g = absurd (cc g)

-- an offer waits, or meets
orderly_offers : (k : Control) → IsOrderly k → (w : Way) (p u c : ℕ) → k.doing p ≡ Out u → (o : Option (Way × ℕ))
    → k.pending c ≡ o → IsOrderly (offers w (waits_by w c) p c o k)
orderly_offers k h w p u c e None f = waiting h p u c w e
orderly_offers k h w p u c e (Some z) f =
    let k0 : Control = record k { pending = at_key ◌==◌ c None k.pending } in
    let wz : k.doing z.1 ≡ waits_by z.0 c = h.pending c z.1 z.0 f in
    let apart : z.1 ≢ p = λ is. waits_not_out z.0 c u (sym wz ∙ ap k.doing is ∙ e) in
    let one : IsOrderly (queues z.1 k0) = orderly_queues (cleared h c) z.1
    (there_of h z.1 (waits_by z.0 c) wz (not_unborn z.0)) (not_ready_waits (k.doing z.1) z.0 c wz)
    (λ d v g. not_cleared h c d z.1 z.0 v f g) in
    orderly_queues one p (out_there h p u e)
    (λ g. not_ready_out (k.doing p) u e (sym (at_other k.doing z.1 p Ready apart) ∙ g))
    (λ d v g. no_offer (cleared h c) p u e d v g)
  where
    not_unborn : (v : Way) → waits_by v c ≢ Unborn
    not_unborn way.Send g = absurd (cc g)
    not_unborn way.Receive g = absurd (cc g)

joining_offer : {k : Control} → IsOrderly k → (p n c : ℕ) (w : Way) → k.doing p ≡ Joining n → k.pending c ≡ Some (w, p)
    → ⊥
joining_offer {k} h p n c way.Send e f = let g : k.doing p ≡ Sending c = h.pending c p way.Send f in absurd (cc (e, g))
joining_offer {k} h p n c way.Receive e f = let g : k.doing p ≡ Receiving c = h.pending c p way.Receive f in
    absurd (cc (e, g))

orderly_fewer : (k : Control) → IsOrderly k → (p : ℕ) (d : Doing) → k.doing p ≡ d → IsOrderly (one_fewer p d k)
orderly_fewer k h p (Joining n) e = go (n == 1)
  where
    l : p < k.births.processes
    l = there_of h p (Joining n) e (λ f. absurd (cc f))

    m : k.doing p ≢ Ready
    m f = absurd (cc (e, f))

    go : (b : Bool) → IsOrderly (if b then queues p k else does p (Joining (n - 1)) k)
    go true = orderly_queues h p l m (λ c w f. joining_offer h p n c w e f)
    go false = orderly_does h p (Joining (n - 1)) l m (λ f. absurd (cc f)) (λ c w f. joining_offer h p n c w e f)
orderly_fewer k h p Unborn e = h
orderly_fewer k h p Ready e = h
orderly_fewer k h p (Out w) e = h
orderly_fewer k h p (Sending c) e = h
orderly_fewer k h p (Receiving c) e = h
orderly_fewer k h p Laid e = h
orderly_fewer k h p Ended e = h
orderly_fewer k h p Gone e = h

orderly_reports : (k : Control) → IsOrderly k → (o : Option Birth) → IsOrderly (reports o k)
orderly_reports k h None = h
orderly_reports k h (Some b) = orderly_fewer k h b.parent (k.doing b.parent) refl

-- the counts of processes and births as they were
same_births : (k : Control) (out : ℕ) (b : Births) → IsOrderly k → b.processes ≡ k.births.processes
    → ((q : ℕ) → b.birth q ≡ k.births.birth q) → IsOrderly (record k { out = out; births = b })
same_births k out b h e f = record {
  queue = h.queue;
  unborn = λ q i. h.unborn q (subst (λ n. n ≤ q) e i);
  pending = h.pending;
  parents = λ q c g. h.parents q c (sym (f q) ∙ g);
}

orderly_forks : (k : Control) → IsOrderly k → (p u n : ℕ) → k.doing p ≡ Out u
    → IsOrderly (comes_back p (event.Fork n) k)
orderly_forks k h p u n e = record {
  queue = queue_forks k.doing k.ready k.births p n (Joining n) h.queue h.unborn (not_ready_out (k.doing p) u e)
      (λ f. absurd (cc f));
  unborn = λ q i. rw (next_past k.births n q i) (skip q (number_or p q) (omega (arith, i)));
  pending = λ c z w f. keeps z w c (h.pending c z w f)
      (λ is. no_offer h p u e c w (f ∙ ap (λ y. Some (w, y)) (sym is)));
  parents = λ q b f. parent q b (is_next k.births n q) refl f;
}
  where
    there : p < k.births.processes
    there = out_there h p u e

    skip : (q : ℕ) → (p ≡ q) ⊎ ((p ≢ q) × (p == q ≡ false)) → k.births.processes ≤ q
        → cond (p == q) (Joining n) (k.doing q) ≡ Unborn
    skip q (inl is) i = absurd (omega (arith, there, is, i))
    skip q (inr o) i = rw (o.1) (h.unborn q i)

    keeps : (z : ℕ) (w : Way) (c : ℕ) → k.doing z ≡ waits_by w c → p ≢ z
        → forked_doing k.births p (Joining n) n k.doing z ≡ waits_by w c
    keeps z w c f m = rw (next_not k.births n z (there_of h z (waits_by w c) f (born w))) (go (number_or p z))
      where
        born : (v : Way) → waits_by v c ≢ Unborn
        born way.Send g = absurd (cc g)
        born way.Receive g = absurd (cc g)

        go : (p ≡ z) ⊎ ((p ≢ z) × (p == z ≡ false)) → cond (p == z) (Joining n) (k.doing z) ≡ waits_by w c
        go (inl is) = absurd (m is)
        go (inr o) = rw (o.1) f

    parent : (q : ℕ) (b : Birth) (t : Bool) → is_next k.births n q ≡ t
        → cond t (Some (record { parent = p; fork = k.births.forks p; child = q - k.births.processes }))
        (k.births.birth q) ≡ Some b → b.parent < q
    parent q b true w f = let l = next_is k.births n q w in
        let g : p ≡ b.parent = ap (λ (x : Birth). x.parent) (same_Some _ _ f) in omega (arith, l, g, there)
    parent q b false w f = h.parents q b f

-- every event of a process that is out keeps the control orderly
pub orderly_back : (k : Control) → IsOrderly k → (p u : ℕ) (e : Event) → k.doing p ≡ Out u
    → IsOrderly (comes_back p e k)
orderly_back k h p u (event.Fork n) e = orderly_forks k h p u n e
orderly_back k h p u event.Open e = same_births (queues p k) (k.out - 1) (births_after_event k.births p event.Open)
    (orderly_queues h p (out_there h p u e) (not_ready_out (k.doing p) u e) (no_offer h p u e)) refl (λ q. refl)
orderly_back k h p u (event.Send c) e = same_births _ (k.out - 1) k.births
    (orderly_offers k h way.Send p u c e (k.pending c) refl) (kept (k.pending c)) (λ q. born (k.pending c) q)
  where
    kept : (o : Option (Way × ℕ)) → k.births.processes ≡ (offers way.Send (Sending c) p c o k).births.processes
    kept None = refl
    kept (Some z) = refl

    born : (o : Option (Way × ℕ)) (q : ℕ) → k.births.birth q ≡ (offers way.Send (Sending c) p c o k).births.birth q
    born None q = refl
    born (Some z) q = refl
orderly_back k h p u (event.Receive c) e = same_births _ (k.out - 1) k.births
    (orderly_offers k h way.Receive p u c e (k.pending c) refl) (kept (k.pending c)) (λ q. born (k.pending c) q)
  where
    kept : (o : Option (Way × ℕ)) → k.births.processes ≡ (offers way.Receive (Receiving c) p c o k).births.processes
    kept None = refl
    kept (Some z) = refl

    born : (o : Option (Way × ℕ)) (q : ℕ) → k.births.birth q ≡ (offers way.Receive (Receiving c) p c o k).births.birth q
    born None q = refl
    born (Some z) q = refl
orderly_back k h p u event.End e = same_births _ (k.out - 1) k.births
    (orderly_reports (does p Ended k) (orderly_does h p Ended (out_there h p u e) (not_ready_out (k.doing p) u e)
    (λ f. absurd (cc f)) (no_offer h p u e)) (k.births.birth p))
    (ap (λ (b : Births). b.processes) (kept (k.births.birth p)))
    (λ q. ap (λ (b : Births). b.birth q) (kept (k.births.birth p)))
  where
    fewer : (x : ℕ) (d : Doing) (m : Control) → m.births ≡ (one_fewer x d m).births
    fewer x (Joining n) m = go (n == 1)
      where
        go : (b : Bool) → m.births ≡ (if b then queues x m else does x (Joining (n - 1)) m).births
        go true = refl
        go false = refl
    fewer _ _ _ = refl

    kept : (o : Option Birth) → k.births ≡ (reports o (does p Ended k)).births
    kept None = refl
    kept (Some b) = fewer b.parent ((does p Ended k).doing b.parent) (does p Ended k)
orderly_back k h p u (event.Fault f) e = same_births _ (k.out - 1) k.births
    (faulted (orderly_does h p Laid (out_there h p u e) (not_ready_out (k.doing p) u e) (λ g. absurd (cc g))
    (no_offer h p u e))) refl (λ q. refl)
  where
    faulted : IsOrderly (does p Laid k) → IsOrderly (record (does p Laid k) { faulted = true })
    faulted o = record { queue = o.queue; unborn = o.unborn; pending = o.pending; parents = o.parents }
orderly_back k h p u event.Laid e = same_births _ (k.out - 1) k.births
    (orderly_does h p Laid (out_there h p u e) (not_ready_out (k.doing p) u e) (λ g. absurd (cc g)) (no_offer h p u e))
    refl (λ q. refl)
orderly_back k h p u event.Pause e = same_births (queues p k) (k.out - 1) k.births
    (orderly_queues h p (out_there h p u e) (not_ready_out (k.doing p) u e) (no_offer h p u e)) refl (λ q. refl)
