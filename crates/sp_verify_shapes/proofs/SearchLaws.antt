-- What following all ways keeps: what is known stays known, and the levels follow one another.
use Rattle.std.proofs.Common.{◌≡◌, ◌⊎◌, inl, inr, ⊎_elim, refl, ap, sym, ◌∙◌, subst, ℕ, suc, ◌+◌, ◌<◌, List}
use Rattle.std.proofs.Common.{[], ◌∷◌, ◌++◌, length, Some, true, false, arith}
use Rattle.std.specs.Prelude.{sum_by}
use Rattle.std.proofs.lemmas.Option.{same_Some}
use Rattle.sp_code.specs.declared.code.Parts.{Parts}
use Rattle.sp_verify_rules.specs.Areas.{Area, instr_at}
use Rattle.sp_verify_rules.specs.Shapes.{Shape, Wrong, instr_shapes}
use Rattle.sp_verify_rules.specs.Reach.{Arrives, IsWhole, LeadsWith}
use Rattle.sp_verify_rules.specs.NameRules.{LiesIn}
use Rattle.sp_verify_rules.specs.Rules.{ArrivesAt}
use Rattle.sp_verify_shapes.specs.declared.steps.Arrival.{Arrival}
use Rattle.sp_verify_shapes.specs.declared.search.Search.{Search}
use Rattle.sp_verify_shapes.specs.Stacks.{Extends, IsListNumber, list_of}
use Rattle.sp_verify_shapes.specs.Search.{IsOneOf, HasAt, IsMarked, InTable, KnowsShapes, BrokenBy, LacksBy, DiffersBy}
use Rattle.sp_verify_shapes.specs.Search.{IsStepped}
use Rattle.sp_verify_shapes.specs.Search.{IsClosedSearch, Covers, CoversTable, WhileComparing, WhileStepping}
use Rattle.sp_verify_shapes.specs.Search.{AreCompared}
use Rattle.sp_verify_shapes.specs.Search.{AreStepped}
use Rattle.sp_verify_shapes.specs.Search.{KeepsV1, free_count, room}
use Rattle.sp_verify_shapes.proofs.Ways.{one_area, lies}

-- ---- lists

pub among_last : {T : Type 0} (x : T) (xs : List T) → IsOneOf x (xs ++ x ∷ [])
among_last x [] = inl refl
among_last x (y ∷ ys) = inr (among_last x ys)

pub among_left : {T : Type 0} (y : T) (xs zs : List T) → IsOneOf y xs → IsOneOf y (xs ++ zs)
among_left y [] zs h = absurd h
among_left y (x ∷ xs) zs (inl e) = inl e
among_left y (x ∷ xs) zs (inr h) = inr (among_left y xs zs h)

pub among_or : {T : Type 0} (y x : T) (xs : List T) → IsOneOf y (xs ++ x ∷ []) → IsOneOf y xs ⊎ (y ≡ x)
among_or y x [] (inl e) = inr e
among_or y x [] (inr h) = absurd h
among_or y x (z ∷ zs) (inl e) = inl (inl e)
among_or y x (z ∷ zs) (inr h) = ⊎_elim (λ a. inl (inr a)) (λ e. inr e) (among_or y x zs h)

pub one_list : (s : Search) (p j k : ℕ) → HasAt s p j → HasAt s p k → j ≡ k
one_list s p j k h g = same_Some j k (same_Some (Some j) (Some k) (sym h ∙ g))

-- ---- what is known stays known

-- all that is known is known later
pub record Moves (old new : Search) : Type 0 where
  pub extends : Extends old.stacks new.stacks
  pub stays : (p k : ℕ) → HasAt old p k → HasAt new p k
  pub more : (p : ℕ) → IsMarked old p → IsMarked new p
  pub waits : (x : Arrival) → IsOneOf x old.arrivals → IsListNumber old.stacks x.list
      → IsOneOf x new.arrivals ⊎ InTable new x.at (list_of new.stacks x.list)

module _ (old new : Search) (held : (p k : ℕ) → HasAt old p k → IsListNumber old.stacks k) (moves : Moves old new) where
  pub list_stays : (p k : ℕ) → HasAt old p k → list_of new.stacks k ≡ list_of old.stacks k
  list_stays p k h = (moves.extends k (held p k h)).1

  pub table_stays : (q : ℕ) (ts : List Shape) → InTable old q ts → InTable new q ts
  table_stays q ts (k, h, inl e) = (k, moves.stays q k h, inl (list_stays q k h ∙ e))
  table_stays q ts (k, h, inr m) = (k, moves.stays q k h, inr (moves.more q m))

  module _ (carried : (x : Arrival) → IsOneOf x old.arrivals → IsListNumber old.stacks x.list) where
    pub known_stays : (q : ℕ) (ts : List Shape) → KnowsShapes old q ts → KnowsShapes new q ts
    known_stays q ts (inl t) = inl (table_stays q ts t)
    known_stays q ts (inr (x, h, e, f)) = go (moves.waits x h (carried x h))
      where
        same : list_of new.stacks x.list ≡ ts
        same = (moves.extends x.list (carried x h)).1 ∙ f

        go : IsOneOf x new.arrivals ⊎ InTable new x.at (list_of new.stacks x.list) → KnowsShapes new q ts
        go (inl a) = inr (x, a, e, same)
        go (inr t) = inl (subst (λ z. InTable new z ts) e (subst (InTable new x.at) same t))

    pub covers_stay : (c : Parts) (n : ℕ) → Covers c n old → Covers c n new
    covers_stay c n h = λ a p ss w. known_stays p ss (h a p ss w)

    pub stepped_stays : (c : Parts) (p : ℕ) (ss : List Shape) → IsStepped c old p ss → IsStepped c new p ss
    stepped_stays c p ss h = λ a l. let z = h a l in (z.0, λ q ts k. known_stays q ts (z.1 q ts k))

    -- and an instruction that is new, or waits no longer, is seen to
    pub closed_stays : (c : Parts) → IsClosedSearch c old
        → ((p k : ℕ) → HasAt new p k → HasAt old p k ⊎ IsOneOf p new.frontier)
        → ((p k : ℕ) → HasAt old p k → IsOneOf p old.frontier
        → IsMarked new p ⊎ (IsOneOf p new.frontier ⊎ IsStepped c new p (list_of new.stacks k)))
        → IsClosedSearch c new
    closed_stays c closed fresh front p k h = go (fresh p k h)
      where
        go : HasAt old p k ⊎ IsOneOf p new.frontier → IsMarked new p
            ⊎ (IsOneOf p new.frontier ⊎ IsStepped c new p (list_of new.stacks k))
        go (inr f) = inr (inl f)
        go (inl o) = on (closed p k o)
          where
            on : IsMarked old p ⊎ (IsOneOf p old.frontier ⊎ IsStepped c old p (list_of old.stacks k))
                → IsMarked new p ⊎ (IsOneOf p new.frontier ⊎ IsStepped c new p (list_of new.stacks k))
            on (inl m) = inl (moves.more p m)
            on (inr (inl f)) = front p k o f
            on (inr (inr s)) = inr
                (inr (subst (IsStepped c new p) (sym (list_stays p k o)) (stepped_stays c p (list_of old.stacks k) s)))

    pub table_covers : (c : Parts) (n : ℕ) → CoversTable c n old → CoversTable c n new
    table_covers c n h = λ a p ss w. table_stays p ss (h a p ss w)

-- ---- levels

module _ (c : Parts) where
  pub longer : (n p : ℕ) (ss : List Shape) (a : Area) → ArrivesAt c a n p ss → ArrivesAt c a (suc n) p ss
  longer n p ss a h = (h.0, inl h.1)

  pub broken_longer : (n p : ℕ) → BrokenBy c n p → BrokenBy c (suc n) p
  broken_longer n p (LacksBy a ss h e) = LacksBy a ss (longer n p ss a h) e
  broken_longer n p (DiffersBy a ss ts h g d) = DiffersBy a ss ts (longer n p ss a h) (longer n p ts a g) d

  module _ (v1 : KeepsV1 c) where
    not_whole : (n p : ℕ) (a : Area) → LiesIn c p a → BrokenBy c n p → IsWhole c a (Arrives c a n) p → ⊥
    not_whole n p a l (LacksBy b ss h e) w =
        let s : b ≡ a = one_area c v1 p b a (lies c b n p ss h) l in
        w.1 ss (subst (λ z. Arrives c z n p ss) s h.1) (subst (λ z. instr_shapes c z (instr_at c p) p ss ≡ Wrong) s e)
    not_whole n p a l (DiffersBy b ss ts h g d) w =
        let s : b ≡ a = one_area c v1 p b a (lies c b n p ss h) l in
        d (w.0 ss ts (subst (λ z. Arrives c z n p ss) s h.1) (subst (λ z. Arrives c z n p ts) s g.1))

    -- where nothing waits to be stepped from, what longer ways bring is known too
    pub cover_next : (n : ℕ) (s : Search) → ((p : ℕ) → IsMarked s p → BrokenBy c n p) → CoversTable c n s
        → IsClosedSearch c s
        → s.frontier ≡ [] → Covers c (suc n) s
    cover_next n s marked covers closed none a q ts (there, inl h) = inl (covers a q ts (there, h))
    cover_next n s marked covers closed none a q ts (there, inr (p, ss, h, whole, leads)) =
        go (covers a p ss (there, h))
      where
        l : LiesIn c p a
        l = lies c a n p ss (there, h)

        go : InTable s p ss → KnowsShapes s q ts
        go (k, has, inr m) = absurd (not_whole n p a l (marked p m) whole)
        go (k, has, inl e) = on (closed p k has)
          where
            on : IsMarked s p ⊎ (IsOneOf p s.frontier ⊎ IsStepped c s p (list_of s.stacks k)) → KnowsShapes s q ts
            on (inl m) = absurd (not_whole n p a l (marked p m) whole)
            on (inr (inl f)) = absurd (subst (IsOneOf p) none f)
            on (inr (inr z)) = (z a l).1 q ts
                (subst (λ (w : List Shape). LeadsWith (instr_shapes c a (instr_at c p) p w) q ts) (sym e) leads)

    -- all compared: the next level begins
    pub begin_steps : (n : ℕ) (s : Search) → WhileComparing c n s → s.arrivals ≡ [] → WhileStepping c n s
    begin_steps n s h none = record {
      sound = record {
        stacks = h.sound.stacks;
        size = h.sound.size;
        marks = h.sound.marks;
        held = h.sound.held;
        come =
            h.sound.come;
        marked = h.sound.marked;
        carried = h.sound.carried;
        arrive =
            λ x w. absurd (subst (IsOneOf x) none w);
      };
      closed = h.closed;
      covers = λ a p ss w. go p ss (h.covers a p ss w);
    }
      where
        go : (p : ℕ) (ss : List Shape) → KnowsShapes s p ss → InTable s p ss
        go p ss (inl t) = t
        go p ss (inr (x, w, e, f)) = absurd (subst (IsOneOf x) none w)

    -- all stepped from: what was brought is compared
    pub end_steps : (n : ℕ) (s : Search) → WhileStepping c n s → s.frontier ≡ [] → WhileComparing c (suc n) s
    end_steps n s h none = record {
      sound = record {
        stacks = h.sound.stacks;
        size = h.sound.size;
        marks = h.sound.marks;
        held = h.sound.held;
        come = λ p k w. let z = h.sound.come p k w in (z.0, longer n p (list_of s.stacks k) z.0 z.1);
        marked = λ p m. broken_longer n p (h.sound.marked p m);
        carried = h.sound.carried;
        arrive = h.sound.arrive;
      };
      closed = h.closed;
      covers = cover_next n s h.sound.marked h.covers h.closed none;
    }

-- ---- rounds

pub then_steps : (c : Parts) → KeepsV1 c → (s : Search) → AreCompared c s → s.arrivals ≡ [] → AreStepped c s
then_steps c v1 s h e = (h.0, begin_steps c v1 h.0 s h.1 e)

pub then_compares : (c : Parts) → KeepsV1 c → (s : Search) → AreStepped c s → s.frontier ≡ [] → AreCompared c s
then_compares c v1 s h e = (suc h.0, end_steps c v1 h.0 s h.1 e)

pub less_room : (a b d : Search) → room b + length b.frontier ≡ room a + length a.frontier → a.frontier ≡ []
    → (b.frontier ≡ [] → false ≡ true) → d.at ≡ b.at → room d < room a
less_room a b d e f g h = go b.frontier refl
  where
    go : (ps : List ℕ) → b.frontier ≡ ps → room d < room a
    go [] z = absurd (let e = g z in cc e)
    go (p ∷ ps) z =
        let i = ap length z in
        let j = ap length f in
        let k = ap (sum_by free_count) h in
        omega (arith, e, i, j, k)
