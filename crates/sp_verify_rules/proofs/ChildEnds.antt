-- A child that ends gives back what moved to it, and its parent holds the whole again.
use Rattle.std.proofs.Common.{◌≡◌, ◌≢◌, ◌⊎◌, inl, inr, ⊎_elim, ℕ, zero, suc, ◌≤◌, ◌==◌, cond, List, [], ◌∷◌, ◌++◌}
use Rattle.std.proofs.Common.{length, Option, Some, Bool, true, false, refl, sym, ap, ◌∙◌, subst, arith}
use Rattle.std.specs.Prelude.{IsSome}
use Rattle.std.proofs.lemmas.Bool.{eqb-true}
use Rattle.std.specs.FinMap as map
use Rattle.std.proofs.lemmas.Option.{same_Some}
use Rattle.sp_tree.specs.Interference.{IsMember}
use Rattle.sp_cell.specs.declared.cell.Cell.{Cell}
use Rattle.sp_cell.specs.declared.spot.Spot.{Spot}
use Rattle.sp_cell.specs.Fork.{with_contents}
use Rattle.sp_cell.proofs.FrameLaws.{is_same}
use Rattle.sp_cell.proofs.Laws.{known_of_held, held_not_away}
use Rattle.sp_cell.specs.Map.{Map, Content, Away, Plain, IsHeld, IsOutput, output_spot}
use Rattle.sp_cell.proofs.Plan.{in_or, not_both, get_taken_in, get_taken_out, in_front, in_back, in_either}
use Rattle.sp_cell.proofs.Plan.{distinct_back}
use Rattle.sp_cell.specs.Spots.{In, NotIn, IsDistinct}
use Rattle.sp_code.specs.Machine.{Config, At}
use Rattle.sp_code.specs.Memory.{CodeRun, Home, Memory, position_in}
use Rattle.sp_code.specs.PlainStore.{plain, piece_of}
use Rattle.sp_code.specs.Sound.{CanJoin}
use Rattle.sp_code.specs.System.{spot_of}
use Rattle.sp_verify_rules.specs.Extents.{extent}
use Rattle.sp_verify_rules.specs.HeldEffects.{HoldsVariable, Allowed, Holding, input_spot}
use Rattle.sp_verify_rules.specs.ProcessLife.{Base, HasConsole, HasActivations}
use Rattle.sp_verify_rules.specs.Systems.{without_first, MovedSpot, moved_to, Lent, JoinInvariant}
use Rattle.sp_verify_rules.proofs.Holdings.{head}
use Rattle.sp_verify_rules.proofs.StoreLaws.{KeepsLengths, all_keeps}
use Rattle.sp_verify_rules.proofs.ForkSteps.{has_held}
use Rattle.sp_code.proofs.Plans.{out_of}
use Rattle.sp_code.proofs.ForkOutputs.{distinct_apart}

module _ (g : CodeRun) {Area : Type 0} (H : Area → List Home) (E : Area → ℕ → Type 0) (T : List Area
    → Config (Memory Plain) → Type 0) (Room Cells : ℕ → ℕ → Type 0) where
  -- ---- one child fewer

  module _ (base : ℕ → Base g H E T) (r : ℕ) where
    abbrev all : List ℕ → List Spot
    all rs = moved_to g H E T Room Cells base rs

    pub in_rest : (rs : List ℕ) (q : Spot) → In q (all (without_first r rs)) → In q (all rs)
    in_rest [] q i = i
    in_rest (x ∷ rs) q i = go (r == x) i (in_rest rs q)
      where
        go : (t : Bool) → In q (all (cond t rs (x ∷ without_first r rs)))
            → (In q (all (without_first r rs)) → In q (all rs))
            → In q (all (x ∷ rs))
        go true i h = in_back q (base x).moved (all rs) i
        go false i h = ⊎_elim (λ j. in_front q (base x).moved (all rs) j) (λ j. in_back q (base x).moved (all rs) (h j))
            (in_either q (base x).moved (all (without_first r rs)) i)

    pub in_mine : (rs : List ℕ) (q : Spot) → IsMember r rs → In q (base r).moved → In q (all rs)
    in_mine [] q m i = absurd m
    in_mine (x ∷ rs) q (inl e) i = in_front q (base x).moved (all rs) (subst (λ y. In q (base y).moved) e i)
    in_mine (x ∷ rs) q (inr m) i = in_back q (base x).moved (all rs) (in_mine rs q m i)

    -- all spots are the child's or those of the others
    pub in_split : (rs : List ℕ) (q : Spot) → IsMember r rs → In q (all rs) → In q (base r).moved
        ⊎ In q (all (without_first r rs))
    in_split [] q m i = absurd m
    in_split (x ∷ rs) q m i = go (r == x) refl (in_either q (base x).moved (all rs) i) (λ m j. in_split rs q m j) m
      where
        go : (t : Bool) → r == x ≡ t → In q (base x).moved ⊎ In q (all rs)
            → (IsMember r rs → In q (all rs) → In q (base r).moved ⊎ In q (all (without_first r rs)))
            → IsMember r (x ∷ rs)
            → In q (base r).moved ⊎ In q (all (cond t rs (x ∷ without_first r rs)))
        go true e (inl j) h m = inl (subst (λ y. In q (base y).moved) (sym (eqb-true r x e)) j)
        go true e (inr j) h m = inr j
        go false e (inl j) h m = inr (in_front q (base x).moved (all (without_first r rs)) j)
        go false e (inr j) h (inl is) = absurd (cc (sym e ∙ is_same r x is))
        go false e (inr j) h (inr m) =
            ⊎_elim (λ k. inl k) (λ k. inr (in_back q (base x).moved (all (without_first r rs)) k))
            (h m j)

    pub distinct_rest : (rs : List ℕ) → IsDistinct (all rs) → IsDistinct (all (without_first r rs))
    distinct_rest [] d = d
    distinct_rest (x ∷ rs) d = go (r == x) (distinct_rest rs (distinct_back (base x).moved (all rs) d))
      where
        cut : (xs : List Spot) → IsDistinct (xs ++ all rs) → IsDistinct (all (without_first r rs))
            → IsDistinct (xs ++ all (without_first r rs))
        cut [] d h = h
        cut (y ∷ xs) d h = (
          out_of y (xs ++ all (without_first r rs))
              (λ i. ⊎_elim (λ j. not_both y (xs ++ all rs) (in_front y xs (all rs) j) d.0) (λ j. not_both y (xs
              ++ all rs) (in_back y xs (all rs) (in_rest rs y j)) d.0) (in_either y xs (all (without_first r rs)) i)),
          cut xs d.1 h,
        )

        go : (t : Bool) → IsDistinct (all (without_first r rs)) → IsDistinct (all (cond t rs (x ∷ without_first r rs)))
        go true h = distinct_back (base x).moved (all rs) d
        go false h = cut (base x).moved d h

    pub apart_rest : (rs : List ℕ) (q : Spot) → IsMember r rs → IsDistinct (all rs) → In q (base r).moved
        → In q (all (without_first r rs)) → ⊥
    apart_rest [] q m d i j = m
    apart_rest (x ∷ rs) q m d i j = go (r == x) refl m j
        (λ m k. apart_rest rs q m (distinct_back (base x).moved (all rs) d) i k)
      where
        go : (t : Bool) → r == x ≡ t → IsMember r (x ∷ rs) → In q (all (cond t rs (x ∷ without_first r rs)))
            → (IsMember r rs → In q (all (without_first r rs)) → ⊥) → ⊥
        go true e m j h = distinct_apart q (base x).moved (all rs) d
            (subst (λ y. In q (base y).moved) (eqb-true r x e) i) j
        go false e (inl is) j h = cc (sym e ∙ is_same r x is)
        go false e (inr m) j h = ⊎_elim
            (λ k. distinct_apart q (base x).moved (all rs) d k (in_mine rs q m i)) (λ k. h m k)
            (in_either q (base x).moved (all (without_first r rs)) j)

    pub members : (rs : List ℕ) (x : ℕ) → IsMember x (without_first r rs) → IsMember x rs
    members [] x m = m
    members (y ∷ rs) x m = go (r == y) m (members rs x)
      where
        go : (t : Bool) → IsMember x (cond t rs (y ∷ without_first r rs))
            → (IsMember x (without_first r rs) → IsMember x rs)
            → IsMember x (y ∷ rs)
        go true m h = inr m
        go false (inl e) h = inl e
        go false (inr m) h = inr (h m)

  -- ---- the parent, at e, and the child, at c, whose only activation is the one with which it began

  module _ (base : ℕ → Base g H E T) (b : Base g H E T) (rs : List ℕ) (r : ℕ) (mine : IsMember r rs) (pc qc : ℕ)
      (st qt : List Rattle.sp_code.specs.Machine.Entry) (n c : Memory Plain)
      (j : JoinInvariant g H E T Room Cells base b rs (At pc st n)) (a : Area)
      (l : HasActivations g H E T (base r) (a ∷ []) (At qc qt c)) where
    moved_is : c.store.moved ≡ (base r).moved
    moved_is = l.moved

    child : Allowed g.code.layouts (HasConsole g H E T (base r).area) (E (base r).area) l.holding.bound
        (base r).frames c.store.map
    child =
        subst (λ fs. Allowed g.code.layouts (HasConsole g H E T (base r).area)
        (E (base r).area) l.holding.bound fs c.store.map) l.last.1
        (subst (λ x. Allowed g.code.layouts (HasConsole g H E T (base r).area)
        (E x) l.holding.bound c.frames c.store.map) l.last.0 l.holding.allowed.1)

    in_moved : (q : Spot) → In q c.store.moved → In q (base r).moved
    in_moved q i = subst (In q) moved_is i

    back_in : (q : Spot) → In q (base r).moved → In q c.store.moved
    back_in q i = subst (In q) (sym moved_is) i

    -- it can be joined
    pub can_join : CanJoin n.store c.store
    can_join = record {
      no_frame = l.holding.own;
      held = λ q i. l.holding.moved q i;
      away = λ q i. j.lent.away q (in_mine base r rs q mine (in_moved q i));
    }

    abbrev whole : Map
    whole = with_contents c.store.map c.store.moved j.whole

    child_known : (q : Spot) → In q c.store.moved → IsSome (map.get c.store.map q)
    child_known q i = known_of_held (map.get c.store.map q) (l.holding.moved q i)

    whole_in : (q : Spot) → In q c.store.moved → map.get whole q ≡ map.get c.store.map q
    whole_in q i = get_taken_in c.store.map c.store.moved j.whole q i (child_known q i)

    whole_out : (q : Spot) → NotIn q c.store.moved → map.get whole q ≡ map.get j.whole q
    whole_out q o = get_taken_out c.store.map c.store.moved j.whole q o

    hold : Holding g.code.layouts H E (HasConsole g H E T b.area) (j.area ∷ j.callers) n.frames n.depth
        (record { map = j.whole; own = n.store.own; moved = n.store.moved })
    hold = j.lives.holding

    mother : Allowed g.code.layouts (HasConsole g H E T b.area) (E j.area) hold.bound n.frames j.whole
    mother = (head g.code.layouts H E
        (HasConsole g H E T b.area) hold.bound j.area j.callers n.frames j.whole hold.allowed).1

    transferred : (q : Spot) → In q c.store.moved → MovedSpot g H E T Room Cells j.area n.frames (base r) q
    transferred q i = j.lent.transferred r mine q (in_moved q i)

    -- what was there of a variable, and what the child has of it
    was : (q : Spot) (h : MovedSpot g H E T Room Cells j.area n.frames (base r) q)
        → HoldsVariable g.code.layouts n.frames j.whole h.variable q
    was q h = let (_, stands, _, holds) = mother.held h.variable h.here in subst
        (λ (s : Spot). HoldsVariable g.code.layouts n.frames j.whole h.variable s)
        (same_Some _ _ (sym stands ∙ h.stands)) holds

    is : (q : Spot) (h : MovedSpot g H E T Room Cells j.area n.frames (base r) q)
        → HoldsVariable g.code.layouts (base r).frames c.store.map h.variable q
    is q h = let (_, stands, _, holds) = child.held h.variable h.there in subst
        (λ (s : Spot). HoldsVariable g.code.layouts (base r).frames c.store.map h.variable s)
        (same_Some _ _ (sym stands ∙ h.stood))
        holds

    known_whole : (q : Spot) → In q c.store.moved → IsSome (map.get j.whole q)
    known_whole q i = let h = transferred q i in known_of_held (map.get j.whole q)
        (has_held g.code.layouts n.frames j.whole h.variable q (was q h))

    -- a spot of the input is that of variable 0, and one of the output that of variable 1
    input_at : (h : MovedSpot g H E T Room Cells j.area n.frames (base r) input_spot) → HasConsole g H E T b.area
        → h.variable ≡ 0
    input_at h k = go h.variable h.here h.stands
      where
        go : (x : ℕ) → E j.area x → spot_of g.code.layouts n.frames x ≡ Some input_spot → x ≡ 0
        go zero e at = refl
        go (suc zero) e at = absurd (let z : 1 ≡ 0 = ap (λ (q : Spot). q.variable) (same_Some _ _ at) in
            omega (arith, z))
        go (suc (suc x)) e at = absurd ((mother.clear k (suc (suc x)) input_spot (omega arith) e at).0 refl)

    output_at : (h : MovedSpot g H E T Room Cells j.area n.frames (base r) output_spot) → HasConsole g H E T b.area
        → h.variable ≡ 1
    output_at h k = go h.variable h.here h.stands
      where
        go : (x : ℕ) → E j.area x → spot_of g.code.layouts n.frames x ≡ Some output_spot → x ≡ 1
        go zero e at = absurd (let z : 0 ≡ 1 = ap (λ (q : Spot). q.variable) (same_Some _ _ at) in omega (arith, z))
        go (suc zero) e at = refl
        go (suc (suc x)) e at = absurd ((mother.clear k (suc (suc x)) output_spot (omega arith) e at).1 refl)

    pieces_in : (q : Spot) → In q c.store.moved → (HasConsole g H E T b.area → (q ≢ input_spot) × (q ≢ output_spot))
        → (cs : List Cell) → piece_of (map.get j.whole q) ≡ Some cs → (ds : List Cell)
        × (piece_of (map.get whole q) ≡ Some ds) × (length ds ≡ length cs)
    pieces_in q i clear cs e = go h.variable h.here h.alike h.stands (was q h) (is q h)
      where
        h : MovedSpot g H E T Room Cells j.area n.frames (base r) q
        h = transferred q i

        go : (x : ℕ) → E j.area x → (2 ≤ x → extent g.code.layouts (base r).frames x ≡ extent g.code.layouts n.frames x)
            → spot_of g.code.layouts n.frames x ≡ Some q → HoldsVariable g.code.layouts n.frames j.whole x q
            → HoldsVariable g.code.layouts (base r).frames c.store.map x q
            → (ds : List Cell) × (piece_of (map.get whole q) ≡ Some ds) × (length ds ≡ length cs)
        go zero d alike at u v = absurd ((clear (mother.console (inl d))).0 (sym (same_Some _ _ at)))
        go (suc zero) d alike at u v = absurd ((clear (mother.console (inr d))).1 (sym (same_Some _ _ at)))
        go (suc (suc x)) d alike at u v =
            let same : u.0 ≡ cs = same_Some _ _ (sym u.1 ∙ e) in
            let long : length v.0 ≡ length u.0 = same_Some _ _ (sym v.2 ∙ alike (omega arith) ∙ u.2) in
            (v.0, ap piece_of (whole_in q i) ∙ v.1, long ∙ ap length same)

    keeps : (k : ℕ) → KeepsLengths (HasConsole g H E T b.area) k j.whole whole
    keeps k = record {
      input = λ con far v e. ⊎_elim (λ i. input_in con i)
          (λ o. (v, ap (λ z. position_in (piece_of z)) (whole_out input_spot o) ∙ e)) (in_or input_spot c.store.moved);
      output = λ con far e. ⊎_elim (λ i. output_in con i) (λ o. subst IsOutput (sym (whole_out output_spot o)) e)
          (in_or output_spot c.store.moved);
      pieces = λ q far clear cs e. ⊎_elim (λ i. pieces_in q i clear cs e) (λ o. (
        cs,
        ap piece_of (whole_out q o)
            ∙ e,
        refl,
      )) (in_or q c.store.moved);
    }
      where
        input_in : HasConsole g H E T b.area → In input_spot c.store.moved → (w : ℕ)
            × (position_in (piece_of (map.get whole input_spot)) ≡ Some w)
        input_in con i =
            let h = transferred input_spot i in
            let w = subst (λ x. HoldsVariable g.code.layouts (base r).frames c.store.map x input_spot) (input_at h con)
            (is input_spot h) in
            (w.0, ap (λ z. position_in (piece_of z)) (whole_in input_spot i) ∙ w.1)

        output_in : HasConsole g H E T b.area → In output_spot c.store.moved → IsOutput (map.get whole output_spot)
        output_in con i =
            let h = transferred output_spot i in
            subst IsOutput (sym (whole_in output_spot i))
            (subst (λ x. HoldsVariable g.code.layouts (base r).frames c.store.map x output_spot) (output_at h con)
            (is output_spot h))

    either : (q : Spot) (P : Option Content → Type 0) → (In q c.store.moved → P (map.get c.store.map q))
        → (NotIn q c.store.moved → P (map.get j.whole q)) → P (map.get whole q)
    either q P x y = ⊎_elim (λ i. subst P (sym (whole_in q i)) (x i)) (λ o. subst P (sym (whole_out q o)) (y o))
        (in_or q c.store.moved)

    pub lives_whole : HasActivations g H E T b (j.area ∷ j.callers)
        (At pc st (record n { store = record { map = whole; own = n.store.own; moved = n.store.moved } }))
    lives_whole = record {
      holding = record {
        bound = hold.bound;
        allowed = all_keeps g.code.layouts (HasConsole g H E T b.area) j.whole whole H E hold.bound
            (j.area ∷ j.callers) n.frames (keeps hold.bound) hold.allowed;
        base = hold.base;
        own = hold.own;
        deep = hold.deep;
        known = λ q k. hold.known q (⊎_elim (λ i. known_whole q i) (λ o. subst (λ z. IsSome z) (whole_out q o) k)
            (in_or q c.store.moved));
        none_away = λ q. either q (λ o. o ≢ Some Away)
            (λ i. held_not_away (map.get c.store.map q) (l.holding.moved q i))
            (λ o. hold.none_away q);
        moved = λ q m. either q IsHeld (λ i. l.holding.moved q i) (λ o. hold.moved q m);
        old = hold.old;
        console = λ k. (
          (hold.console k).0,
          ⊎_elim
              (λ i. inl (either input_spot (λ o. IsSome o) (λ m. child_known input_spot m) (λ o. i)))
              (λ i. inr (either output_spot (λ o. IsSome o) (λ m. child_known output_spot m) (λ o. i)))
              (hold.console k).1,
        );
      };
      last = j.lives.last;
      moved = j.lives.moved;
    }

    -- what is left to come back
    pub lent_rest : Lent g H E T Room Cells base (without_first r rs) j.area n.frames
        (plain.joined n.store c.store).map whole
    lent_rest = record {
      away = λ q i. get_taken_out c.store.map c.store.moved n.store.map q
          (out_of q c.store.moved (λ m. apart_rest base r rs q mine j.lent.distinct (in_moved q m) i))
          ∙ j.lent.away q (in_rest base r rs q i);
      rest = λ q o. ⊎_elim
          (λ i. get_taken_in c.store.map c.store.moved n.store.map q i (child_known q i) ∙ sym (whole_in q i))
          (λ d. get_taken_out c.store.map c.store.moved n.store.map q d
          ∙ j.lent.rest q (out_of q (moved_to g H E T Room Cells base rs)
          (λ i. ⊎_elim (λ m. not_both q c.store.moved (back_in q m) d)
          (λ m. not_both q (moved_to g H E T Room Cells base (without_first r rs)) m o) (in_split base r rs q mine i)))
          ∙ sym (whole_out q d))
          (in_or q c.store.moved);
      distinct = distinct_rest base r rs j.lent.distinct;
      transferred = λ x m q i. j.lent.transferred x (members base r rs x m) q i;
    }
