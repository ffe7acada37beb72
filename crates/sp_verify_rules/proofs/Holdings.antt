-- What a process of verified code holds, kept by what its instructions do to its memory: a write, a move of the input's
-- position, printing, a call and a return.
use Rattle.std.proofs.Common.{◌≡◌, ◌≢◌, ◌⊎◌, inl, inr, ⊎_elim, ℕ, ◌+◌, ◌-◌, ◌≤◌, ◌<◌, ◌==◌, ◌&&◌, List, [], ◌∷◌, ◌++◌}
use Rattle.std.proofs.Common.{length, take, Option, Some, None, Bool, true, false, refl, sym, ap, ◌∙◌, subst}
use Rattle.std.proofs.Common.{arith}
use Rattle.std.specs.Prelude.{IsSome, not}
use Rattle.std.specs.List.{list_all}
use Rattle.std.proofs.lemmas.List.{length-append}
use Rattle.std.specs.FinMap as map
use Rattle.sp_base.proofs.Facts.{take_front}
use Rattle.sp_tree.specs.Interference.{IsMember}
use Rattle.sp_tree.proofs.Members.{member_front, member_back, member_either}
use Rattle.sp_cell.specs.declared.spot.Spot.{Spot}
use Rattle.sp_cell.specs.Frame.{next_frame, last_own_frame, without_newest_frame, without_spots_of}
use Rattle.sp_cell.proofs.FrameLaws.{known_below, above_known, is_same, without_here, without_other, newest_last}
use Rattle.sp_cell.proofs.Laws.{get_other, get_here, same_or, known_of_held, known_insert, held_not_away}
use Rattle.sp_cell.specs.Map.{Map, Content, Own, Shared, Output, Away, Plain, IsHeld, output_spot}
use Rattle.sp_code.specs.declared.code.Layout.{Layout}
use Rattle.sp_code.specs.Memory.{Home, Frame}
use Rattle.sp_code.specs.PlainStore.{plain, is_away, none_away}
use Rattle.sp_code.proofs.Members.{above_members, member_above}
use Rattle.sp_verify_rules.specs.Chains.{Chain}
use Rattle.sp_verify_rules.specs.HeldEffects.{Allowed, AllAllowed, AreOwn, Holding, input_spot}
use Rattle.sp_verify_rules.proofs.ForkSteps.{has_held}
use Rattle.sp_verify_rules.proofs.StoreLaws.{KeepsLengths, all_keeps, keeps_same}

-- ---- lists of numbers

module _ (ls : List Layout) {Area : Type 0} (H : Area → List Home) (E : Area → ℕ → Type 0) where
  own_low : (base : ℕ) (us : List Area) (fs : List Frame) (ns : List ℕ) → AreOwn ls H E base us fs ns → (n : ℕ)
      → IsMember n ns → n ≤ base + length ns
  own_low base [] fs ns h n i = absurd h
  own_low base (a ∷ []) fs ns h n i = absurd (subst (λ xs. IsMember n xs) h i)
  own_low base (a ∷ b ∷ us) [] ns h n i = absurd h
  own_low base (a ∷ b ∷ us) (f ∷ fs) ns (older, numbers_are, low, rest) n i =
      let len : length ns ≡ length older + 1 = ap length numbers_are ∙ length-append older (f.number ∷ []) in
      ⊎_elim
      (λ j. omega (arith, len, own_low base (b ∷ us) fs older rest n j))
      (λ j. ⊎_elim (λ (e : n ≡ f.number). omega (arith, low, e)) (λ k. absurd k) j)
      (member_either n older (f.number ∷ []) (subst (IsMember n) numbers_are i))

  pub head : (K : Type 0) (n : ℕ) (a : Area) (us : List Area) (fs : List Frame) (m : Map)
      → AllAllowed ls H E K n (a ∷ us) fs m → Chain (H a) fs × Allowed ls K (E a) n fs m
  head K n a [] fs m h = h
  head K n a (b ∷ us) [] m h = absurd h
  head K n a (b ∷ us) (f ∷ fs) m h = (h.0, h.1)

  -- what is held is known, so its frame is below the next
  rebound_one : (K : Type 0) (F : ℕ → Type 0) (n i : ℕ) (fs : List Frame) (m : Map)
      → ((q : Spot) → IsSome (map.get m q) → q.frame < i) → Allowed ls K F n fs m → Allowed ls K F i fs m
  rebound_one K F n i fs m h a = record {
    held = λ x e. (let (there, stands, _, holds) = a.held x e in
        (there, stands, h there (known_of_held (map.get m there) (has_held ls fs m x there holds)), holds));
    apart = a.apart;
    console = a.console;
    clear = a.clear;
  }

  pub rebound : (K : Type 0) (n base : ℕ) (us : List Area) (fs : List Frame) (p : Plain)
      → AllAllowed ls H E K n us fs p.map → AreOwn ls H E base us fs p.own
      → AllAllowed ls H E K (next_frame p) us fs p.map
  rebound K n base [] fs p h o = h
  rebound K n base (a ∷ []) fs p h o = (
    h.0,
    rebound_one K (E a) n (next_frame p) fs p.map
        (λ q k. (let b = known_below p.map q k in omega (arith, b))) h.1,
  )
  rebound K n base (a ∷ b ∷ us) [] p h o = h
  rebound K n base (a ∷ b ∷ us) (f ∷ fs) p (chain, allowed, _, rest) o =
      let top : IsMember f.number p.own = subst (IsMember f.number) (sym o.1)
      (member_back f.number o.0 (f.number ∷ []) (inl refl)) in
      let b = member_above p.own f.number top in (
        chain,
        rebound_one K (E a) n (next_frame p) (f ∷ fs) p.map
            (λ q k. (let b = known_below p.map q k in omega (arith, b))) allowed,
        omega (arith, b),
        rest,
      )

  module _ (K : Type 0) (us : List Area) (fs : List Frame) (d : ℕ) (p : Plain) (h : Holding ls H E K us fs d p) where
    -- the next frame's number is no greater than the depth that it gets
    pub next_low : next_frame p ≤ d + 1
    next_low =
        let own = above_members p.own (d + 1) (λ n i. omega (arith, own_low h.base us fs p.own h.own n i, h.deep)) in
        let known = above_known p.map (d + 1)
        (λ q k. ⊎_elim (λ i. (let l = own_low h.base us fs p.own h.own q.frame i in omega (arith, l, h.deep)))
        (λ (l : q.frame ≤ h.base). omega (arith, l, h.deep)) (h.known q k)) in
        omega (arith, own, known)

    -- a change of what is at one known spot
    module _ (s : Spot) (c : Content) (was : IsSome (map.get p.map s)) (held : IsHeld (Some c))
        (keeps : KeepsLengths K h.bound p.map (map.insert p.map s c)) where
      pub holding_set : Holding ls H E K us fs d (record { map = map.insert p.map s c; own = p.own; moved = p.moved })
      holding_set = record {
        bound = h.bound;
        allowed = all_keeps ls K p.map (map.insert p.map s c) H E h.bound us fs keeps h.allowed;
        base = h.base;
        own = h.own;
        deep = h.deep;
        known = λ q k. h.known q (before q k);
        none_away = λ q e. not_away q e (same_or q s);
        moved = λ q i. still q (h.moved q i) (same_or q s);
        old = h.old;
        console = λ g. (
          (h.console g).0,
          ⊎_elim (λ i. inl (known_insert p.map s c input_spot i))
              (λ i. inr (known_insert p.map s c output_spot i)) (h.console g).1,
        );
      }
        where
          before : (q : Spot) → IsSome (map.get (map.insert p.map s c) q) → IsSome (map.get p.map q)
          before q k = ⊎_elim (λ (e : q ≡ s). subst (λ z. IsSome (map.get p.map z)) (sym e) was)
              (λ (o : q ≢ s). subst (λ z. IsSome z) (get_other p.map s c q o) k) (same_or q s)

          not_away : (q : Spot) → map.get (map.insert p.map s c) q ≡ Some Away → (q ≡ s) ⊎ (q ≢ s) → ⊥
          not_away q e (inl i) = held_not_away (Some c) held (sym (get_here p.map s c)
              ∙ ap (λ z. map.get (map.insert p.map s c) z) (sym i) ∙ e)
          not_away q e (inr o) = h.none_away q (sym (get_other p.map s c q o) ∙ e)

          still : (q : Spot) → IsHeld (map.get p.map q) → (q ≡ s) ⊎ (q ≢ s) → IsHeld (map.get (map.insert p.map s c) q)
          still q w (inl i) = subst IsHeld (sym (ap (λ z. map.get (map.insert p.map s c) z) i
              ∙ get_here p.map s c)) held
          still q w (inr o) = subst IsHeld (sym (get_other p.map s c q o)) w

  -- the frame of the newest activation goes
  module _ (K : Type 0) (b a : Area) (us : List Area) (f : Frame) (fs : List Frame) (d : ℕ) (p : Plain)
      (h : Holding ls H E K (b ∷ a ∷ us) (f ∷ fs) d p) where
    own_is : p.own ≡ h.own.0 ++ f.number ∷ []
    own_is = h.own.1

    newest_is : last_own_frame p.own ≡ f.number
    newest_is = ap last_own_frame own_is ∙ newest_last h.own.0 f.number

    rest_is : take (length p.own - 1) p.own ≡ h.own.0
    rest_is = ap (λ ns. take (length ns - 1) ns) own_is ∙ take_front h.own.0 f.number

    long : length p.own ≡ length h.own.0 + 1
    long = ap length own_is ∙ length-append h.own.0 (f.number ∷ [])

    none_gone : (ks : List Spot)
        → list_all (λ (q : Spot). not ((q.frame == f.number) && is_away (map.get p.map q))) ks ≡ true
    none_gone [] = refl
    none_gone (q ∷ ks) = ap (λ t. not ((q.frame == f.number) && t)
        && list_all (λ (z : Spot). not ((z.frame == f.number)
        && is_away (map.get p.map z))) ks) (here (map.get p.map q) refl) ∙ go (q.frame == f.number) (none_gone ks)
      where
        here : (o : Option Content) → map.get p.map q ≡ o → is_away (map.get p.map q) ≡ false
        here None e = ap is_away e
        here (Some (Own cs)) e = ap is_away e
        here (Some (Shared cs)) e = ap is_away e
        here (Some (Output bs)) e = ap is_away e
        here (Some Away) e = absurd (h.none_away q e)

        go : (t : Bool) → list_all (λ (z : Spot). not ((z.frame == f.number) && is_away (map.get p.map z))) ks ≡ true
            → (not (t && false) && list_all (λ (z : Spot). not ((z.frame == f.number)
            && is_away (map.get p.map z))) ks) ≡ true
        go true e = e
        go false e = e

    there : (ns : List ℕ) → Rattle.sp_code.specs.Memory.is_there (ns ++ f.number ∷ []) ≡ true
    there [] = refl
    there (n ∷ ns) = refl

    -- it may go
    pub may_go : plain.may_pop p f.number ≡ true
    may_go =
        ap (λ t. (Rattle.sp_code.specs.Memory.is_there p.own && t)
        && none_away p.map f.number) (is_same (last_own_frame p.own) f.number newest_is)
        ∙ ap (λ t. (t && true) && none_away p.map f.number) (ap Rattle.sp_code.specs.Memory.is_there own_is
        ∙ there h.own.0)
        ∙ none_gone (map.keys p.map)

    gone : (q : Spot) → q.frame ≢ f.number → map.get (without_newest_frame p).map q ≡ map.get p.map q
    gone q o = ap (λ n. map.get (without_spots_of p.map n) q) newest_is ∙ without_other p.map f.number q o

    absent : (q : Spot) → q.frame ≡ f.number → map.get (without_newest_frame p).map q ≡ None
    absent q e = ap (λ n. map.get (without_spots_of p.map n) q) newest_is ∙ without_here p.map f.number q e

    still_known : (q : Spot) → IsSome (map.get (without_newest_frame p).map q) → (q.frame ≢ f.number)
        × IsSome (map.get p.map q)
    still_known q k = go (other (q.frame == f.number) refl)
      where
        other : (t : Bool) → (q.frame == f.number) ≡ t → (q.frame ≡ f.number) ⊎ (q.frame ≢ f.number)
        other true e = inl (Rattle.std.proofs.lemmas.Bool.eqb-true q.frame f.number e)
        other false e = inr (λ i. cc (sym e ∙ is_same q.frame f.number i))

        nothing : IsSome (map.get (without_newest_frame p).map q) → map.get (without_newest_frame p).map q ≡ None → ⊥
        nothing k e = mathlib.Core.Bool.false≢true (subst (λ z. IsSome z) e k)

        go : (q.frame ≡ f.number) ⊎ (q.frame ≢ f.number) → (q.frame ≢ f.number) × IsSome (map.get p.map q)
        go (inl e) = absurd (nothing k (absent q e))
        go (inr o) = (o, subst (λ z. IsSome z) (gone q o) k)

    pub holding_pop : Holding ls H E K (a ∷ us) fs (d - 1) (without_newest_frame p)
    holding_pop = record {
      bound = f.number;
      allowed = (let (_, _, _, rest) = h.allowed in
          all_keeps ls K p.map (without_newest_frame p).map H E f.number (a ∷ us) fs
          (keeps_same K f.number p.map (without_newest_frame p).map (λ q l. gone q (λ e. omega (arith, l, e))))
          rest);
      base = h.base;
      own = (let (_, _, _, rest) = h.own in subst (AreOwn ls H E h.base (a ∷ us) fs) (sym rest_is) rest);
      deep = omega (arith, h.deep, long, ap length rest_is);
      known = λ q k. (let w = still_known q k in ⊎_elim
          (λ i. inl (subst (IsMember q.frame) (sym rest_is)
          (⊎_elim (λ j. j) (λ j. ⊎_elim (λ e. absurd (w.0 e)) (λ z. absurd z) j)
          (member_either q.frame h.own.0 (f.number ∷ []) (subst (IsMember q.frame) own_is i)))))
          (λ l. inr l) (h.known q w.1));
      none_away = λ q e. (let w = still_known q (subst (λ z. IsSome z) (sym e) refl) in h.none_away q (sym (gone q w.0)
          ∙ e));
      moved = λ q i. subst IsHeld (sym (gone q (λ e. h.old q i (subst (λ n. IsMember n p.own) (sym e) mine))))
          (h.moved q i);
      old = λ q i j. h.old q i (subst (IsMember q.frame) (sym own_is)
          (member_front q.frame h.own.0 (f.number ∷ []) (subst (IsMember q.frame) rest_is j)));
      console = λ g. (
        λ i. (h.console g).0 (subst (IsMember 0) (sym own_is)
            (member_front 0 h.own.0 (f.number ∷ []) (subst (IsMember 0) rest_is i))),
        ⊎_elim (λ k. inl (subst (λ z. IsSome z)
            (sym (gone input_spot (λ e. (h.console g).0 (subst (λ n. IsMember n p.own) (sym e) mine)))) k))
            (λ k. inr (subst (λ z. IsSome z)
            (sym (gone output_spot (λ e. (h.console g).0 (subst (λ n. IsMember n p.own) (sym e) mine)))) k))
            (h.console g).1,
      );
    }
      where
        mine : IsMember f.number p.own
        mine = subst (IsMember f.number) (sym own_is) (member_back f.number h.own.0 (f.number ∷ []) (inl refl))
