-- The root lives while any process does, since parents wait for their children; and how many processes can be out.
use Rattle.std.proofs.Common.{◌≡◌, ◌≢◌, ◌⊎◌, ℕ, zero, suc, ◌+◌, ◌<◌, ◌≤◌, ◌==◌, inl, inr, cond, Bool, true, false, List}
use Rattle.std.proofs.Common.{[], ◌∷◌, length, refl, sym, subst, arith}
use Rattle.sp_base.proofs.Facts.{equals_itself}
use Rattle.sp_journal.proofs.BirthLaws.{Lawful, Born}
use Rattle.sp_code.specs.Control.{Control, Doing, Unborn, Ready, Out, Sending, Receiving, Joining, Laid, Ended, Gone}
use Rattle.sp_code.specs.Control.{has_ended}
use Rattle.sp_code.specs.Agreement.{EachNumber, Differ, Among, IsOrderly, HasOuts, IsOut}
use Rattle.sp_code.specs.WorkerHistory.{left_of, IsLive, HasChildren}
use Rattle.sp_code.proofs.Queues.{each_of, number_or}
use Rattle.sp_code.proofs.Orders.{out_there}
use Rattle.sp_code.proofs.Outs.{without, without_differ}

-- ---- the root

-- who awaits a child lives
awaits : (q : ℕ) (xs : List ℕ) (d : Doing) → Among q xs → length xs ≡ left_of d → IsLive d
awaits q [] d i e = absurd i
awaits q (x ∷ xs) (Joining n) i e = tt {0}
awaits q (x ∷ xs) Ready i e = tt {0}
awaits q (x ∷ xs) (Out w) i e = tt {0}
awaits q (x ∷ xs) (Sending c) i e = tt {0}
awaits q (x ∷ xs) (Receiving c) i e = tt {0}
awaits q (x ∷ xs) Laid i e = tt {0}
awaits q (x ∷ xs) Gone i e = tt {0}
awaits q (x ∷ xs) Unborn i e = absurd (omega (arith, e))
awaits q (x ∷ xs) Ended i e = absurd (omega (arith, e))

live_there : (d : Doing) → IsLive d → d ≢ Unborn
live_there d l e = subst IsLive e l

module _ (k : Control) (h : IsOrderly k) (c : HasChildren k) (lawful : Lawful k.births) where
  below : (q : ℕ) → IsLive (k.doing q) → q < k.births.processes
  below q l = Rattle.sp_code.proofs.Orders.there_of h q (k.doing q) refl (live_there (k.doing q) l)

  up_to : (n q : ℕ) → q ≤ n → IsLive (k.doing q) → IsLive (k.doing 0)
  up_to zero q le l = let e : q ≡ 0 = omega (arith, le) in subst (λ r. IsLive (k.doing r)) e l
  up_to (suc n) q le l = go (number_or q 0) (λ r s i. up_to n r s i)
    where
      go : (q ≡ 0) ⊎ ((q ≢ 0) × (q == 0 ≡ false)) → ((r : ℕ) → r ≤ n → IsLive (k.doing r) → IsLive (k.doing 0))
          → IsLive (k.doing 0)
      go (inl is) on = subst (λ r. IsLive (k.doing r)) is l
      go (inr o) on =
          let apart = o.0 in
          let b : Born k.births q = lawful.born q (omega (arith, apart)) (below q l) in
          on b.birth.parent (let less = b.older in omega (arith, less, le))
          (awaits q (c.children b.birth.parent) (k.doing b.birth.parent) (c.all q b.birth b.birth_is l)
          (c.count b.birth.parent))

  pub root_lives : (q : ℕ) → IsLive (k.doing q) → IsLive (k.doing 0)
  root_lives q l = up_to q q (omega arith) l

  ended_dead : (d : Doing) → has_ended d ≡ true → IsLive d → ⊥
  ended_dead Ended e l = l
  ended_dead Unborn e l = l
  ended_dead _ e _ = absurd (cc e)

  -- after the root's end nobody is ready
  pub ended_none : has_ended (k.doing 0) ≡ true → k.ready ≡ []
  ended_none e = go k.ready h.queue.queued
    where
      go : (r : List ℕ) → EachNumber (λ q. k.doing q ≡ Ready) r → r ≡ []
      go [] i = refl
      go (q ∷ qs) i = absurd (ended_dead (k.doing 0) e (root_lives q (subst IsLive (sym i.0) tt)))

-- ---- how many

-- a number is gone from a list of numbers up to it
less : (p : ℕ) (xs : List ℕ) → Differ xs → EachNumber (λ q. q < suc p) xs → EachNumber (λ q. q < p) (without p xs)
less p [] d e = tt {0}
less p (x ∷ xs) d e = go (number_or p x) (less p xs d.1 e.1)
  where
    go : (p ≡ x) ⊎ ((p ≢ x) × (p == x ≡ false)) → EachNumber (λ q. q < p) (without p xs)
        → EachNumber (λ q. q < p) (cond (p == x) xs (x ∷ without p xs))
    go (inl is) h = rw (subst (λ y. p == y ≡ true) is (equals_itself p)) (smaller xs d.0 e.1)
      where
        smaller : (ys : List ℕ) → EachNumber (λ y. y ≢ x) ys → EachNumber (λ q. q < suc p) ys
            → EachNumber (λ q. q < p) ys
        smaller [] a b = tt {0}
        smaller (y ∷ ys) a b = (let n = a.0 in let l = b.0 in omega (arith, n, l, is), smaller ys a.1 b.1)
    go (inr n) h = rw (n.1) (let m = n.0 in let l = e.0 in (omega (arith, m, l), h))

no_more : (p : ℕ) (xs : List ℕ) → length xs ≤ length (without p xs) + 1
no_more p [] = omega arith
no_more p (x ∷ xs) = go (p == x) (no_more p xs)
  where
    go : (b : Bool) → length xs ≤ length (without p xs) + 1
        → length (x ∷ xs) ≤ length (cond b xs (x ∷ without p xs)) + 1
    go true h = omega arith
    go false h = omega (arith, h)

-- as many different numbers are below n as n at most
few_below : (n : ℕ) (xs : List ℕ) → Differ xs → EachNumber (λ q. q < n) xs → length xs ≤ n
few_below zero [] d e = omega arith
few_below zero (x ∷ xs) d e = absurd (let l = e.0 in omega (arith, l))
few_below (suc n) xs d e = let a = few_below n (without n xs) (without_differ n xs d) (less n xs d e) in
    let b = no_more n xs in omega (arith, a, b)

pub few_out : (k : Control) → IsOrderly k → HasOuts k → k.out ≤ k.births.processes
few_out k h o = subst (λ n. n ≤ k.births.processes) o.count
    (few_below k.births.processes o.outs o.distinct
    (each_of (λ q. IsOut (k.doing q)) (λ q. q < k.births.processes) o.outs (λ q i. out_there h q i.0 i.1) o.each))
