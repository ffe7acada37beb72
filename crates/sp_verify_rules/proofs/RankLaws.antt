-- Where no instruction of an area lies on a way back to itself without a tick or a call, each such way makes the rank
-- fall.
use Rattle.std.proofs.Common.{◌≡◌, ◌≢◌, ◌⊎◌, inl, inr, ⊎_elim, ℕ, zero, suc, ◌≤◌, ◌<◌, ◌==◌, List, [], ◌∷◌, length}
use Rattle.std.proofs.Common.{Option, Some, None, Bool, true, false, refl, sym, ap, ◌∙◌, subst, eqb-true, arith}
use Rattle.std.proofs.Common.{if◌then◌else◌, ◌++◌, drop}
use Rattle.std.specs.Prelude.{slice_get, nat_lt}
use Rattle.std.proofs.lemmas.Bool.{eqb-false, ltb-true, ltb-false}
use Rattle.std.proofs.lemmas.Option.{slice_get_within}
use Rattle.sp_base.proofs.Facts.{less_same_or_more}
use Rattle.sp_tree.specs.Interference.{IsMember, AllDifferent}
use Rattle.sp_tree.proofs.Members.{member_front}
use Rattle.sp_cell.proofs.FrameLaws.{is_other}
use Rattle.sp_code.specs.declared.instr.Instr.{Instr}
use Rattle.sp_code.specs.declared.instr.Instr.TheVariants as i
use Rattle.sp_code.specs.declared.code.Parts.{Parts}
use Rattle.sp_code.specs.Ranks.{ways, maximum_of, rank, AllBelow}
use Rattle.sp_code.proofs.Falls.{rank_max}
use Rattle.sp_verify_rules.specs.Areas.{Area, instr_at, entry}
use Rattle.sp_verify_rules.specs.Reach.{nexts, LeadsInSteps}
use Rattle.sp_verify_rules.specs.NameRules.{LiesIn}
use Rattle.sp_verify_rules.specs.Rules.{free_nexts, IsFreePath, BreaksV9, ComesBack}
use Rattle.sp_verify_rules.proofs.Lists.{member_or}

-- ---- different numbers below a bound are no more than it

without : ℕ → List ℕ → List ℕ
without y [] = []
without y (x ∷ xs) = if x == y then without y xs else x ∷ without y xs

without_none : (y : ℕ) (xs : List ℕ) → (IsMember y xs → ⊥) → without y xs ≡ xs
unfolding without
without_none y [] h = refl
without_none y (x ∷ xs) h = ap (λ b. if b then without y xs else x ∷ without y xs) (is_other x y (λ e. h (inl (sym e))))
    ∙ ap (λ z. x ∷ z) (without_none y xs (λ m. h (inr m)))

one_less : (y : ℕ) (xs : List ℕ) → AllDifferent xs → length xs ≤ suc (length (without y xs))
unfolding without
one_less y [] d = omega arith
one_less y (x ∷ xs) d = go (x == y) refl (one_less y xs d.1)
  where
    go : (b : Bool) → (x == y) ≡ b → length xs ≤ suc (length (without y xs))
        → length (x ∷ xs) ≤ suc (length (if b then without y xs else x ∷ without y xs))
    go true e h = let w : length (without y xs) ≡ length xs = ap length
        (without_none y xs (λ m. d.0 (subst (λ z. IsMember z xs) (sym (eqb-true x y e)) m))) in omega (arith, w)
    go false e h = omega (arith, h)

left_in : (y z : ℕ) (xs : List ℕ) → IsMember z (without y xs) → IsMember z xs × (z ≢ y)
unfolding without
left_in y z [] m = absurd m
left_in y z (x ∷ xs) m = go (x == y) refl m (left_in y z xs)
  where
    go : (b : Bool) → (x == y) ≡ b → IsMember z (if b then without y xs else x ∷ without y xs)
        → (IsMember z (without y xs) → IsMember z xs × (z ≢ y)) → IsMember z (x ∷ xs) × (z ≢ y)
    go true e m on = let r = on m in (inr r.0, r.1)
    go false e (inl s) on = (inl s, λ h. eqb-false x y e (sym s ∙ h))
    go false e (inr m) on = let r = on m in (inr r.0, r.1)

without_different : (y : ℕ) (xs : List ℕ) → AllDifferent xs → AllDifferent (without y xs)
unfolding without
without_different y [] d = tt
without_different y (x ∷ xs) d = go (x == y) (without_different y xs d.1)
  where
    go : (b : Bool) → AllDifferent (without y xs) → AllDifferent (if b then without y xs else x ∷ without y xs)
    go true h = h
    go false h = (λ m. d.0 (left_in y x xs m).0, h)

pigeons : (n : ℕ) (xs : List ℕ) → ((x : ℕ) → IsMember x xs → x < n) → AllDifferent xs → length xs ≤ n
pigeons zero [] b d = omega arith
pigeons zero (x ∷ xs) b d = absurd (omega (arith, b x (inl refl)))
pigeons (suc n) xs b d =
    let h = pigeons n (without n xs) (λ x m. let r = left_in n x xs m in less x r.1 (b x r.0))
    (without_different n xs d) in
    let o = one_less n xs d in omega (arith, h, o)
  where
    less : (x : ℕ) → (x ≢ n) → x < suc n → x < n
    less x e l = Prim.grind (arith, e, l)

-- ---- the largest of some

most_some : (f : ℕ → ℕ) (ws : List ℕ) (m : ℕ) → maximum_of f ws ≡ suc m → (w : ℕ) × IsMember w ws × (f w ≡ suc m)
most_some f [] m e = absurd (cc e)
most_some f (w ∷ ws) m e = go (nat_lt (f w) (maximum_of f ws)) e (most_some f ws m)
  where
    go : (b : Bool) → (if b then maximum_of f ws else f w) ≡ suc m
        → (maximum_of f ws ≡ suc m → (w : ℕ) × IsMember w ws × (f w ≡ suc m))
        → (v : ℕ) × IsMember v (w ∷ ws) × (f v ≡ suc m)
    go true e on = let r = on e in (r.0, inr r.1, r.2)
    go false e on = (w, inl refl, e)

most_above : (f : ℕ → ℕ) (ws : List ℕ) (w : ℕ) → IsMember w ws → f w ≤ maximum_of f ws
most_above f [] w h = absurd h
most_above f (v ∷ ws) w h = go (nat_lt (f v) (maximum_of f ws)) refl h (most_above f ws w)
  where
    go : (b : Bool) → nat_lt (f v) (maximum_of f ws) ≡ b → (w ≡ v) ⊎ IsMember w ws
        → (IsMember w ws → f w ≤ maximum_of f ws) → f w ≤ (if b then maximum_of f ws else f v)
    go true e (inl s) on = let l = ltb-true (f v) (maximum_of f ws) e in let t : f w ≡ f v = ap f s in
        omega (arith, l, t)
    go true e (inr m) on = on m
    go false e (inl s) on = let t : f w ≡ f v = ap f s in omega (arith, t)
    go false e (inr m) on = let l = ltb-false (f v) (maximum_of f ws) e in omega (arith, on m, l)

most_same : (f g : ℕ → ℕ) (ws : List ℕ) → ((w : ℕ) → IsMember w ws → f w ≡ g w) → maximum_of f ws ≡ maximum_of g ws
most_same f g [] h = refl
most_same f g (w ∷ ws) h = rw (h w (inl refl), most_same f g ws (λ v m. h v (inr m))) refl

-- ---- ways

front_in : (q : ℕ) (xs ys : List ℕ) → xs ++ drop (length xs) ys ≡ ys → IsMember q xs → IsMember q ys
front_in q xs ys e h = subst (IsMember q) e (member_front q xs (drop (length xs) ys) h)

-- only of jumps the order differs
way_in : (p q : ℕ) (o : Option Instr) → IsMember q (ways p o) → IsMember q (free_nexts p o)
way_in p q (Some (i.Jumpf to)) h = ⊎_elim (λ e. inr (inl e)) (λ z. ⊎_elim (λ e. inl e) (λ y. absurd y) z) h
way_in p q (Some (i.Casej v to)) h = ⊎_elim (λ e. inr (inl e)) (λ z. ⊎_elim (λ e. inl e) (λ y. absurd y) z) h
way_in p q (Some (i.Forup var to)) h = ⊎_elim (λ e. inr (inl e)) (λ z. ⊎_elim (λ e. inl e) (λ y. absurd y) z) h
way_in p q (Some (i.Fordown var to)) h = ⊎_elim (λ e. inr (inl e)) (λ z. ⊎_elim (λ e. inl e) (λ y. absurd y) z) h
way_in p q o h = front_in q (ways p o) (free_nexts p o) refl h

pub free_in : (p q : ℕ) (o : Option Instr) → IsMember q (free_nexts p o) → IsMember q (nexts p o)
free_in p q (Some i.Tick) h = absurd h
free_in p q (Some (i.Call b up)) h = absurd h
free_in p q _ h = h

module _ (c : Parts) where
  abbrev r : ℕ → ℕ → ℕ
  r n p = rank n c.instrs p

  -- each leads to the next one
  abbrev IsPath : List ℕ → Type 0
  IsPath [] = Unit {0}
  IsPath (p ∷ []) = Unit {0}
  IsPath (p ∷ q ∷ ps) = IsMember q (free_nexts p (instr_at c p)) × IsPath (q ∷ ps)

  long_path : (n p : ℕ) → r (suc n) p ≡ suc n → (ps : List ℕ) × (length ps ≡ n) × IsPath (p ∷ ps)
  unfolding rank
  long_path zero p e = ([], refl, tt)
  long_path (suc n) p e =
      let w = most_some (r (suc n)) (ways p (instr_at c p)) n (suc_same e) in
      let on = long_path n w.0 w.2 in
      (w.0 ∷ on.0, ap suc on.1, (way_in p w.0 (instr_at c p) w.1, on.2))
    where
      suc_same : {a b : ℕ} → suc a ≡ suc b → a ≡ b
      suc_same e = omega (arith, e)

  -- a rank that is below its bound stays
  stays : (n p : ℕ) → r n p < n → r (suc n) p ≡ r n p
  unfolding rank
  stays zero p h = absurd (omega (arith, h))
  stays (suc n) p h = ap suc (most_same (r (suc n)) (r n) (ways p (instr_at c p))
      (λ w m. let a = most_above (r n) (ways p (instr_at c p)) w m in stays n w (omega (arith, a, h))))

  -- from one instruction of a path to a later one
  to_member : (p : ℕ) (ps : List ℕ) (q : ℕ) → IsPath (p ∷ ps) → IsMember q ps → (n : ℕ) × IsFreePath c (suc n) p q
  to_member p [] q w m = absurd m
  to_member p (x ∷ ps) q w (inl e) = (0, (x, w.0, sym e))
  to_member p (x ∷ ps) q w (inr m) = let on = to_member x ps q w.1 m in (suc on.0, (x, w.0, on.1))

  -- the instructions of a path are different, or one is on a way back to itself
  different_or : (xs : List ℕ) → IsPath xs → AllDifferent xs
      ⊎ ((q : ℕ) × (n : ℕ) × IsMember q xs × IsFreePath c (suc n) q q)
  different_or [] w = inl tt
  different_or (x ∷ []) w = inl (λ m. m, tt)
  different_or (x ∷ y ∷ xs) w = ⊎_elim (λ m. let t = to_member x (y ∷ xs) x w m in inr (x, t.0, inl refl, t.1))
      (λ n. ⊎_elim (λ d. inl (n, d)) (λ (q, n, among, way). inr (q, n, inr among, way)) (different_or (y ∷ xs) w.1))
      (member_or x (y ∷ xs))

  -- all but the last one
  firsts : List ℕ → List ℕ
  firsts [] = []
  firsts (p ∷ []) = []
  firsts (p ∷ q ∷ ps) = p ∷ firsts (q ∷ ps)

  firsts_length : (p : ℕ) (ps : List ℕ) → length (firsts (p ∷ ps)) ≡ length ps
  unfolding firsts
  firsts_length p [] = refl
  firsts_length p (q ∷ ps) = ap suc (firsts_length q ps)

  firsts_path : (xs : List ℕ) → IsPath xs → IsPath (firsts xs)
  unfolding firsts
  firsts_path [] w = tt
  firsts_path (p ∷ []) w = tt
  firsts_path (p ∷ q ∷ []) w = tt
  firsts_path (p ∷ q ∷ x ∷ ps) w = (w.0, firsts_path (q ∷ x ∷ ps) w.1)

  firsts_in : (xs : List ℕ) (q : ℕ) → IsMember q (firsts xs) → IsMember q xs
  unfolding firsts
  firsts_in [] q m = m
  firsts_in (p ∷ []) q m = absurd m
  firsts_in (p ∷ x ∷ ps) q (inl e) = inl e
  firsts_in (p ∷ x ∷ ps) q (inr m) = inr (firsts_in (x ∷ ps) q m)

  leads_within : (p q : ℕ) → IsMember q (free_nexts p (instr_at c p)) → p < length c.instrs
  leads_within p q h = go (instr_at c p) refl h
    where
      go : (o : Option Instr) → instr_at c p ≡ o → IsMember q (free_nexts p o) → p < length c.instrs
      go None e h = absurd h
      go (Some x) e h = slice_get_within c.instrs p x e

  firsts_within : (xs : List ℕ) → IsPath xs → (q : ℕ) → IsMember q (firsts xs) → q < length c.instrs
  unfolding firsts
  firsts_within [] w q m = absurd m
  firsts_within (p ∷ []) w q m = absurd m
  firsts_within (p ∷ x ∷ ps) w q (inl e) = subst (λ z. z < length c.instrs) (sym e) (leads_within p x w.0)
  firsts_within (p ∷ x ∷ ps) w q (inr m) = firsts_within (x ∷ ps) w.1 q m

  -- ways on stay in the area
  goes_far : (m n p q s : ℕ) → LeadsInSteps c m p q → LeadsInSteps c n q s → (k : ℕ) × LeadsInSteps c k p s
  goes_far zero n p q s g h = (n, subst (λ z. LeadsInSteps c n z s) (sym g) h)
  goes_far (suc m) n p q s g h = let on = goes_far m n g.0 q s g.2 h in (suc on.0, (g.0, g.1, on.1))

  free_path_goes : (n p q : ℕ) → IsFreePath c n p q → LeadsInSteps c n p q
  free_path_goes zero p q w = w
  free_path_goes (suc n) p q w = (w.0, free_in p w.0 (instr_at c p) w.1, free_path_goes n w.0 q w.2)

  lies_on : (a : Area) (n p q : ℕ) → LiesIn c p a → IsFreePath c n p q → LiesIn c q a
  lies_on a n p q l w = let g = goes_far l.1.steps n (entry c a) p q l.1.way (free_path_goes n p q w) in
      (l.0, record { steps = g.0; way = g.1 })

  -- the rank falls along each way
  abbrev pub IsRankedAt : ℕ → Type 0
  IsRankedAt p = AllBelow (rank (suc (length c.instrs)) c.instrs) (rank (suc (length c.instrs)) c.instrs p)
      (ways p (slice_get c.instrs p))

  all_below : (f : ℕ → ℕ) (n : ℕ) (ws : List ℕ) → ((w : ℕ) → IsMember w ws → f w < n) → AllBelow f n ws
  all_below f n [] h = tt
  all_below f n (w ∷ ws) h = (h w (inl refl), all_below f n ws (λ v m. h v (inr m)))

  module _ (v9 : (p : ℕ) → BreaksV9 c p → ⊥) (a : Area) (p : ℕ) (l : LiesIn c p a) where
    no_long : (q : ℕ) → IsMember q (ways p (instr_at c p)) → r (suc (length c.instrs)) q ≡ suc (length c.instrs) → ⊥
    no_long q m e =
        let on = long_path (length c.instrs) q e in
        let w : IsPath (p ∷ q ∷ on.0) = (way_in p q (instr_at c p) m, on.2) in
        ⊎_elim (λ d. too_many (pigeons (length c.instrs) (firsts (p ∷ q ∷ on.0)) (firsts_within (p ∷ q ∷ on.0) w) d)
        (firsts_length p (q ∷ on.0)) on.1)
        (λ (i, n, among, way). round i n way (q ∷ on.0) w (firsts_in (p ∷ q ∷ on.0) i among))
        (different_or (firsts (p ∷ q ∷ on.0)) (firsts_path (p ∷ q ∷ on.0) w))
      where
        too_many : {x y n : ℕ} → x ≤ n → x ≡ suc y → y ≡ n → ⊥
        too_many h s e = omega (arith, h, s, e)

        round : (z n : ℕ) → IsFreePath c (suc n) z z → (ps : List ℕ) → IsPath (p ∷ ps) → IsMember z (p ∷ ps) → ⊥
        round z n w ps path (inl s) = v9 p (ComesBack a n l (subst (λ y. IsFreePath c (suc n) y y) s w))
        round z n w ps path (inr k) = let t = to_member p ps z path k in v9 z
            (ComesBack a n (lies_on a (suc t.0) p z l t.1) w)

    pub ranked_at : IsRankedAt p
    unfolding rank
    ranked_at = all_below (r (suc (length c.instrs))) (r (suc (length c.instrs)) p) (ways p (instr_at c p)) below
      where
        below : (q : ℕ) → IsMember q (ways p (instr_at c p)) → r (suc (length c.instrs)) q < r (suc (length c.instrs)) p
        below q m =
            let top = most_above (r (length c.instrs)) (ways p (instr_at c p)) q m in
            let max = rank_max (length c.instrs) c.instrs q in
            let max1 = rank_max (suc (length c.instrs)) c.instrs q in
            less (length c.instrs) (r (length c.instrs) q) (r (suc (length c.instrs)) q)
            (maximum_of (r (length c.instrs)) (ways p (instr_at c p))) top max max1 (no_long q m)
            (stays (length c.instrs) q)
          where
            less : (n x y t : ℕ) → x ≤ t → x ≤ n → y ≤ suc n → (y ≡ suc n → ⊥) → (x < n → y ≡ x) → y < suc t
            less n x y t a b d e f = go (less_same_or_more x n) (less_same_or_more y (suc n))
              where
                go : (x < n) ⊎ ((x ≡ n) ⊎ (n < x)) → (y < suc n) ⊎ ((y ≡ suc n) ⊎ (suc n < y)) → y < suc t
                go (inl h) z = let w = f h in omega (arith, w, a)
                go (inr (inr h)) z = absurd (omega (arith, h, b))
                go (inr (inl h)) (inl k) = omega (arith, h, k, a)
                go (inr (inl h)) (inr (inl k)) = absurd (e k)
                go (inr (inl h)) (inr (inr k)) = absurd (omega (arith, k, d))
