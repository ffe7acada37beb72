-- The turn of a process of verified code: it lacks nothing, and where it stops the process lives and its stop is as it
-- should be. It is what the proof over a journal asks of one turn.
use Rattle.std.proofs.Common.{◌≡◌, ℕ, ◌+◌, ◌≤◌, ℤ, List, [], ◌∷◌, Some, Bool, true, false, refl, sym, ap, ◌∙◌, subst}
use Rattle.std.proofs.Common.{arith}
use Rattle.std.proofs.lemmas.Bool.{ltb-true}
use Rattle.std.specs.FinMap as map
use Rattle.sp_tree.specs.Interference.{IsMember}
use Rattle.sp_cell.proofs.Laws.{get_here}
use Rattle.sp_cell.specs.Map.{Plain, Own, IsOwn}
use Rattle.sp_cell.specs.declared.spot.Address.{Address}
use Rattle.sp_code.specs.declared.instr.Instr.TheVariants as i
use Rattle.sp_code.specs.declared.code.Layout.{Layout}
use Rattle.sp_code.specs.Machine.{Entry, Stop, Forks, Opens, Sends, Receives, Ends, Pauses, Config, At, layout_of}
use Rattle.sp_code.specs.Turns.{Stopped, BeginsOrFaults, Runs, IsTurn, IsSafe, RunsTo, frames_fit}
use Rattle.sp_code.specs.Memory.{CodeRun, Memory, memory, cells_at, without_frame}
use Rattle.sp_code.specs.PlainStore.{plain}
use Rattle.sp_code.specs.System.{depth_of, on_store, process_at_entry}
use Rattle.sp_verify_rules.specs.Areas.{Area, Body, homes, instr_at}
use Rattle.sp_verify_rules.specs.Shapes.{Shape}
use Rattle.sp_verify_rules.specs.Reach.{IsArea, IsInCodeOf, Reaches}
use Rattle.sp_verify_rules.specs.Touches.{stored_by}
use Rattle.sp_verify_rules.specs.InstructionFacts.{Points, ProcessAt, StoppedAt, StopsSo, IsSent, IsReceived, ForksAt}
use Rattle.sp_verify_rules.specs.Changes.{areas, areas_of, Unchanged, Ticks, PutsCell, Copies, ReadsItem, Skips, Prints}
use Rattle.sp_verify_rules.specs.Changes.{MakesOwn, Calls}
use Rattle.sp_verify_rules.specs.Changes.{Returns, IsHere}
use Rattle.sp_verify_rules.specs.KeepsCodeRules.{KeepsCodeRules}
use Rattle.sp_verify_rules.specs.Effects.{IsActual, Does}
use Rattle.sp_verify_rules.specs.Forks as fork
use Rattle.sp_verify_rules.specs.Verdict.{is_stop, HasStop}
use Rattle.sp_verify_rules.specs.ProcessLife.{Base, HasActivations, Aims, ForkInvariant, StopInvariant}
use Rattle.sp_verify_rules.specs.Writable.{AllWriteWithin, MayWrite}
use Rattle.sp_verify_rules.proofs.FunctionStops.{Linked, IsAreaAmong, linked_kept, answers_without_stop}
use Rattle.sp_verify_rules.proofs.Holds.{kept, elsewhere}
use Rattle.sp_verify_rules.proofs.Pushes.{KeepsCalls}
use Rattle.sp_verify_rules.proofs.Safe as safe
use Rattle.sp_verify_rules.proofs.Safety.{TurnsWell}
use Rattle.sp_verify_rules.specs.Rules.{BreaksV9}
use Rattle.sp_code.specs.Ranks.{IsRankedAlong}
use Rattle.sp_verify_rules.proofs.ShapePaths.{passes}

module _ (g : CodeRun) where
  -- how a process stands whose activations are of these areas; it is no deeper than the limit, each activation is of a
  -- block that the one below it calls, and what it may store stands where the process may write
  abbrev pub T : List Area → Config (Memory Plain) → Type 0
  T us (At p st n) = (s : ProcessAt g.code p st n.frames) × (us ≡ areas s) × (n.depth ≤ g.limits.depth)
      × Linked g.code us × MayWrite g.code us n

  -- where a message of a type is received, so many cells are left; and it has so many
  abbrev pub Room : ℕ → ℕ → Type 0
  Room k n = IsReceived g.code k n

  abbrev pub Sent : ℕ → ℕ → Type 0
  Sent k n = IsSent g.code k n

  pub t_store : (us : List Area) (c : Config (Memory Plain)) (f : Plain → Plain)
      → ((p : Plain) → (f p).moved ≡ p.moved) → T us c → T us (on_store f c)
  t_store us (At p st n) f same (s, areas_are, shallow, linked, may_write) = (
    s,
    areas_are,
    shallow,
    linked,
    subst (λ ss. AllWriteWithin g.code n.process ss us n.frames) (sym (same n.store)) may_write,
  )

  pub t_entered : (us : List Area) (c : Config (Memory Plain)) → T us c → T us (process_at_entry c)
  t_entered us (At p st n) t = t

  pub t_deep : g.limits.depth ≤ 4294967295 → (us : List Area) (c : Config (Memory Plain)) → T us c
      → depth_of c ≤ 4294967295
  t_deep h us (At p st n) t = let d = t.2 in omega (arith, h, d)

  module _ (k : KeepsCodeRules g.code) (E : Area → ℕ → Type 0)
      (mays : (a : Area) (p : ℕ) (ss : List Shape) (x : ℕ) → IsArea g.code a → Reaches g.code a p ss
      → IsMember x (stored_by g.code a (instr_at g.code p) ss) → E a x)
      (calls : (a : Area) (p : ℕ) (ss : List Shape) (f up : ℕ) (l : Layout) → IsArea g.code a → Reaches g.code a p ss
      → instr_at g.code p ≡ Some (i.Call f up) → layout_of g.code.layouts f ≡ Some l
      → KeepsCalls g.code.layouts (homes g.code a) up l (E a) (E (Body f)) (IsActual l ss))
      (ready : (b : Base g (homes g.code) E T) (p : ℕ) (st : List Entry) (n : Memory Plain)
      (s : ProcessAt g.code p st n.frames) → HasActivations g (homes g.code) E T b (areas s) (At p st n)
      → n.depth ≤ g.limits.depth → safe.ReadyAt plain g k p st n s)
      (forks : (a : Area) (p t n : ℕ) (v : ℤ) (d : Config (Memory Plain)) (us : List Area) → IsArea g.code a
      → IsInCodeOf g.code a p → ForksAt g.code p t n → T (a ∷ us) d → depth_of d + 1 ≤ g.limits.depth
      → ForkInvariant g (homes g.code) E T a t v n d)
      (writes : (b : Base g (homes g.code) E T) (p q : ℕ) (st s1 : List Entry) (n m : Memory Plain)
      (s : ProcessAt g.code p st n.frames) (t : ProcessAt g.code q s1 m.frames)
      → HasActivations g (homes g.code) E T b (areas s) (At p st n) → MayWrite g.code (areas s) n
      → safe.ChangesAt plain g k p st n s (areas t) m → MayWrite g.code (areas t) m)
      (b : Base g (homes g.code) E T) where
    abbrev Lv : List Area → Config (Memory Plain) → Type 0
    Lv us c = HasActivations g (homes g.code) E T b us c

    -- what is known beside how it stands
    abbrev pub IsHoldingAt : (p : ℕ) (st : List Entry) (n : Memory Plain) → ProcessAt g.code p st n.frames → Type 0
    IsHoldingAt p st n s = Lv (areas s) (At p st n) × (n.depth ≤ g.limits.depth) × Linked g.code (areas s)
        × MayWrite g.code (areas s) n

    pub holds_ready : (p : ℕ) (st : List Entry) (n : Memory Plain) (s : ProcessAt g.code p st n.frames)
        → IsHoldingAt p st n s
        → safe.ReadyAt plain g k p st n s
    holds_ready p st n s h = ready b p st n s h.0 h.1

    closed_depth : (n : Memory Plain) → ((memory plain g).close_frame n).depth ≤ n.depth
    closed_depth n = go n.frames
      where
        go : (fs : List Rattle.sp_code.specs.Memory.Frame) → (without_frame plain g fs n).depth ≤ n.depth
        go [] = omega arith
        go (f ∷ fs) = omega arith

    deep : (p : ℕ) (st : List Entry) (n m : Memory Plain) (s : ProcessAt g.code p st n.frames) (vs : List Area)
        → safe.ChangesAt plain g k p st n s vs m → n.depth ≤ g.limits.depth → m.depth ≤ g.limits.depth
    deep p st n m s vs (Unchanged e d) h = subst (λ (z : Memory Plain). z.depth ≤ g.limits.depth) (sym d) h
    deep p st n m s vs (Ticks e d) h = subst (λ (z : Memory Plain). z.depth ≤ g.limits.depth) (sym d) h
    deep p st n m s vs (PutsCell q c e w d) h = subst (λ (z : Memory Plain). z.depth ≤ g.limits.depth) (sym d) h
    deep p st n m s vs (Copies to from j e w d) h = subst (λ (z : Memory Plain). z.depth ≤ g.limits.depth) (sym d) h
    deep p st n m s vs (ReadsItem q c j e w z d) h = subst (λ (z : Memory Plain). z.depth ≤ g.limits.depth) (sym d) h
    deep p st n m s vs (Skips j e z d) h = subst (λ (z : Memory Plain). z.depth ≤ g.limits.depth) (sym d) h
    deep p st n m s vs (Prints bs e z d) h = subst (λ (z : Memory Plain). z.depth ≤ g.limits.depth) (sym d) h
    deep p st n m s vs (MakesOwn q j e w d) h = subst (λ (z : Memory Plain). z.depth ≤ g.limits.depth) (sym d) h
    deep p st n m s vs (Calls f up l es e is le pr ft dp d) h = subst (λ (z : Memory Plain). z.depth ≤ g.limits.depth)
        (sym d) (let x = ltb-true n.depth g.limits.depth dp in omega (arith, x))
    deep p st n m s vs (Returns e is d) h = subst (λ (z : Memory Plain). z.depth ≤ g.limits.depth) (sym d)
        (let x = closed_depth n in omega (arith, x, h))

    pub holds_kept : (p q : ℕ) (st s1 : List Entry) (n m : Memory Plain) (s : ProcessAt g.code p st n.frames)
        (t : ProcessAt g.code q s1 m.frames) → IsHoldingAt p st n s → safe.ChangesAt plain g k p st n s (areas t) m
        → IsHoldingAt q s1 m t
    holds_kept p q st s1 n m s t (live, shallow, linked, may_write) ch = (
      kept g k E T mays calls b p q st s1 n s live m t ch,
      deep p st n m s (areas t) ch shallow,
      linked_kept g k p q st s1 n m s t linked ch,
      writes b p q st s1 n m s t live may_write ch,
    )

    abbrev StandsHolding : Config (Memory Plain) → Type 0
    StandsHolding c = safe.StandsWith plain g k IsHoldingAt holds_ready holds_kept c

    pub known : (us : List Area) (c : Config (Memory Plain)) → Lv us c → T us c → StandsHolding c
    known us (At p st n) l (s, areas_are, shallow, linked, may_write) = (
      s,
      (
        subst (λ z. Lv z (At p st n)) areas_are l,
        shallow,
        subst (Linked g.code) areas_are linked,
        subst (λ z. MayWrite g.code z n) areas_are may_write,
      ),
    )

    -- no instruction of its turn lacks anything
    pub turn_safe : (us : List Area) (c : Config (Memory Plain)) → Lv us c → T us c → IsSafe (memory plain g) g.code c
    turn_safe us c l t = safe.safe plain g k IsHoldingAt holds_ready holds_kept c (known us c l t)

    first_same : (a d : Area) (us vs : List Area) → ◌≡◌ {A = List Area} (a ∷ us) (d ∷ vs) → a ≡ d
    first_same a d us vs e = cc

    rest_same : (a d : Area) (us vs : List Area) → ◌≡◌ {A = List Area} (a ∷ us) (d ∷ vs) → us ≡ vs
    rest_same a d us vs e = cc

    own_there : (q : Address) (m n : Memory Plain) → m ≡ (memory plain g).make_own q n
        → IsOwn (map.get m.store.map q.spot)
    own_there q m n e = subst (λ (z : Memory Plain). IsOwn (map.get z.store.map q.spot)) (sym e)
        (subst IsOwn (sym (get_here n.store.map q.spot (Own (cells_at plain n.store q.spot)))) tt)

    aims : (a : Area) (p : ℕ) (ss : List Shape) (m : Memory Plain) (x left j : ℕ) (q : Address) → IsArea g.code a
        → Reaches g.code a p ss → IsMember x (stored_by g.code a (instr_at g.code p) ss)
        → Points g.code.layouts m.frames x left q → j ≤ left → Aims g (homes g.code) E T a m.frames q j
    aims a p ss m x left j q i r st pt le = record {
      variable = x;
      real = pt.real;
      effect = mays a p ss x i r st;
      stands = pt.stands;
      size = pt.size;
      whole = pt.whole;
      fits = let f = pt.fits in omega (arith, f, le);
    }

    -- a stop of the area of the newest activation
    well_here : (x : Stop) (a : Area) (us : List Area) (p q : ℕ) (ss : List Shape) (s1 : List Entry) (m : Memory Plain)
        (ks : List Rattle.sp_verify_rules.specs.InstructionFacts.Caller) → IsArea g.code a → Reaches g.code a p ss
        → StopsSo g.code x a p ss m.frames ks
        → IsHere plain g m x (a ∷ areas_of ks) (a ∷ us) → T (a ∷ us) (At q s1 m) → (x ≡ Ends → ⊥)
        → StopInvariant g (homes g.code) E T Room Sent x (a ∷ us) (At q s1 m)
    well_here (Forks t v n) a us p q ss s1 m ks i r so h tt1 ne = forks a p t n v (At q s1 m) us i
        (passes g.code a p ss r) so tt1 (let x = ltb-true m.depth g.limits.depth h.1 in omega (arith, x))
    well_here (Opens to) a us p q ss s1 m ks i r (x, left, points, room, stored) h tt1 ne =
        aims a p ss m x left 1 to i r stored points room
    well_here (Sends ch j cs) a us p q ss s1 m ks i r so h tt1 ne = so
    well_here (Receives ch j to) a us p q ss s1 m ks i r (x, left, points, received, stored) (_, (n, own)) tt1 ne =
        ((left, received, aims a p ss m x left left to i r stored points (omega arith)), own_there to m n own)
    well_here Ends a us p q ss s1 m ks i r so h tt1 ne = absurd (ne refl)
    well_here Pauses a us p q ss s1 m ks i r so h tt1 ne = tt

    -- the area where it stopped is that of the newest activation
    same_area : (x : Stop) (a d : Area) (us vs : List Area) (m : Memory Plain) → IsHere plain g m x (a ∷ us) (d ∷ vs)
        → (x ≡ Pauses → ⊥) → a ≡ d
    same_area (Forks t v n) a d us vs m h ne = first_same a d us vs h.0
    same_area (Opens to) a d us vs m h ne = first_same a d us vs h
    same_area (Sends ch j cs) a d us vs m h ne = first_same a d us vs h
    same_area (Receives ch j to) a d us vs m h ne = first_same a d us vs h.0
    same_area Ends a d us vs m h ne = first_same a d us vs h
    same_area Pauses a d us vs m h ne = absurd (ne refl)

    abbrev Out : Stop → Config (Memory Plain) → Type 0
    Out x d = TurnsWell g (homes g.code) E T Room Sent b x d

    -- a stop, but for ends and pauses
    stop_well : (x : Stop) (q : ℕ) (s1 : List Entry) (m : Memory Plain) → (x ≡ Ends → ⊥) → (x ≡ Pauses → ⊥)
        → (s : ProcessAt g.code q s1 m.frames) → IsHoldingAt q s1 m s → (t : StoppedAt g.code x q s1 m.frames)
        → IsHere plain g m x (t.area ∷ areas_of t.callers) (areas s) → Out x (At q s1 m)
    stop_well x q s1 m ne np s (live, shallow, linked, may_write) t here = record {
      areas = areas s;
      lives = live;
      well = let e = same_area x t.area s.area (areas_of t.callers) (areas_of s.callers) m here np in
          subst (λ z. StopInvariant g (homes g.code) E T Room Sent x (z ∷ areas_of s.callers) (At q s1 m)) e
          (well_here x t.area (areas_of s.callers) t.position q t.shapes s1 m t.callers t.there t.reached t.so
          (subst (λ z. IsHere plain g m x (t.area ∷ areas_of t.callers) (z ∷ areas_of s.callers)) (sym e) here) (
            s,
            ap (λ z. z ∷ areas_of s.callers) e,
            shallow,
            subst (λ z. Linked g.code (z ∷ areas_of s.callers))
                (sym e) linked,
            subst (λ z. MayWrite g.code (z ∷ areas_of s.callers) m) (sym e) may_write,
          ) ne);
      stands = λ w. (s, refl, shallow, linked, may_write);
    }

    at_stop : (x : Stop) (d : Config (Memory Plain)) → safe.AtStop plain g k IsHoldingAt holds_ready holds_kept x d
        → Out x d
    at_stop (Forks t v n) (At q s1 m) (s, holds, (stopped, here)) = stop_well (Forks t v n) q s1 m (λ z. cc z)
        (λ z. cc z) s holds stopped here
    at_stop (Opens to) (At q s1 m) (s, holds, (stopped, here)) = stop_well (Opens to) q s1 m (λ z. cc z)
        (λ z. cc z) s holds stopped here
    at_stop (Sends ch j cs) (At q s1 m) (s, holds, (stopped, here)) = stop_well (Sends ch j cs) q s1 m (λ z. cc z)
        (λ z. cc z) s holds stopped here
    at_stop (Receives ch j to) (At q s1 m) (s, holds, (stopped, here)) = stop_well (Receives ch j to) q s1 m (λ z. cc z)
        (λ z. cc z) s holds stopped here
    at_stop Ends (At q s1 m) (p, st, s, h, t) = record {
      areas = areas s;
      lives = elsewhere g E T b (areas s) p q st s1 m h.0;
      well = sym (rest_same t.0.area s.area (areas_of t.0.callers) (areas_of s.callers) t.1) ∙ ap areas_of t.0.so.0;
      stands = λ w. absurd (w refl);
    }
    at_stop Pauses (At q s1 m) (s, (live, shallow, linked, may_write), _) = record {
      areas = areas s;
      lives = live;
      well = tt;
      stands = λ z.
          (s, refl, shallow, linked, may_write);
    }

    -- and it stops as it should
    pub turn_well : (us : List Area) (c d : Config (Memory Plain)) (x : Stop) → Lv us c → T us c
        → IsTurn (memory plain g) g.code c (Stopped x d) → Out x d
    turn_well us c d x l t is = at_stop x d
        (safe.stops_well plain g k IsHoldingAt holds_ready holds_kept c d x (known us c l t)
        (runs (frames_fit (memory plain g) g.code c) is))
      where
        runs : (b : Bool) → BeginsOrFaults b c (Stopped x d) (Runs (memory plain g) g.code c (Stopped x d))
            → Runs (memory plain g) g.code c (Stopped x d)
        runs true r = r
        runs false r = absurd (cc r)

    -- each way of its instructions makes the rank fall, so it ends
    module _ (v9 : (p : ℕ) → BreaksV9 g.code p → ⊥) where
      pub turn_ranked : (us : List Area) (c : Config (Memory Plain)) → Lv us c → T us c
          → IsRankedAlong (memory plain g) g.code c
      turn_ranked us c l t = safe.ranks_along plain g k IsHoldingAt holds_ready holds_kept v9 c (known us c l t)

    -- where it comes to an instruction that stops, no activation is of a block that answers
    module _ (eight : (f : ℕ) (l : Layout) → layout_of g.code.layouts f ≡ Some l
        → fork.BreaksV8 g.code (Does g.code) (HasStop g.code) l f → ⊥) where
      pub turn_without_stop : (us : List Area) (c : Config (Memory Plain)) (q : ℕ) (s1 : List Entry) (m : Memory Plain)
          → Lv us c → T us c → RunsTo (memory plain g) g.code c (At q s1 m) → is_stop (instr_at g.code q) ≡ true
          → (t : ProcessAt g.code q s1 m.frames)
          × ((f : ℕ) (l : Layout) → IsAreaAmong g.code (Body f) (areas t) → layout_of g.code.layouts f ≡ Some l
          → l.answer ≡ false)
      turn_without_stop us (At p st n) q s1 m l t way is =
          let (s, holds) = known us (At p st n) l t in
          let (_, _, linked, _) = holds in
          answers_without_stop g k IsHoldingAt holds_ready holds_kept eight p q st s1 n m s (holds, linked) way is
