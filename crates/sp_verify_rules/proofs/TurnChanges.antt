-- A turn of a process of verified code, from its beginning to its stop or its fault: what it changed in the store, and
-- where its stop may write.
use Rattle.std.proofs.Common.{◌≡◌, inr, ℕ, ◌<◌, ◌≤◌, List, [], ◌∷◌, Bool, true, false, refl, sym, ap}
use Rattle.std.proofs.Common.{◌∙◌, subst}
use Rattle.std.specs.FinMap as map
use Rattle.std.specs.Prelude.{Option, slice_get}
use Rattle.sp_base.specs.declared.fault.Fault.{Fault}
use Rattle.sp_tree.specs.Interference.{IsMember}
use Rattle.sp_cell.specs.declared.spot.Spot.{Spot}
use Rattle.sp_cell.specs.Map.{Plain, IsHeld}
use Rattle.sp_cell.specs.Spots.{In}
use Rattle.sp_code.specs.declared.code.ChildTable.{ChildTable}
use Rattle.sp_code.specs.declared.instr.Instr.{Instr}
use Rattle.sp_code.specs.Machine.{Entry, Stop, Forks, Opens, Sends, Receives, Ends, Pauses, Config, At}
use Rattle.sp_code.specs.Memory.{CodeRun, Home, Frame, Memory, memory, without_frame}
use Rattle.sp_code.specs.PlainStore.{plain}
use Rattle.sp_code.specs.System.{handing_of, child_or, table_or, frames_of, store_of}
use Rattle.sp_code.specs.Tables.{child_at as table_child}
use Rattle.sp_code.specs.Turns.{Turn, Stopped, Faulted, BeginsOrFaults, Runs, IsTurn, frames_fit}
use Rattle.sp_code.proofs.Plans.{spots_from}
use Rattle.sp_verify_rules.specs.Areas.{Area, homes, instr_at}
use Rattle.sp_verify_rules.specs.Changes.{areas, areas_of, Changes, Unchanged, Ticks, PutsCell, Copies, ReadsItem}
use Rattle.sp_verify_rules.specs.Changes.{Skips}
use Rattle.sp_verify_rules.specs.Changes.{Prints, MakesOwn}
use Rattle.sp_verify_rules.specs.Changes.{Calls}
use Rattle.sp_verify_rules.specs.Changes.{Returns, IsHere}
use Rattle.sp_verify_rules.specs.Effects.{Does, May}
use Rattle.sp_verify_rules.specs.Forks.{KeepsEffects}
use Rattle.sp_verify_rules.specs.KeepsCodeRules.{KeepsCodeRules}
use Rattle.sp_verify_rules.specs.NameRules.{Unknown}
use Rattle.sp_verify_rules.specs.Reach.{IsArea, Reaches}
use Rattle.sp_verify_rules.specs.ProcessLife.{Base, HasActivations}
use Rattle.sp_verify_rules.specs.Shapes.{Shape}
use Rattle.sp_verify_rules.specs.InstructionFacts.{ProcessAt, StoppedAt, StopsSo, Caller}
use Rattle.sp_verify_rules.specs.Writable.{IsWritable, WritesWithin}
use Rattle.sp_verify_rules.proofs.TurnEnds as ending
use Rattle.sp_verify_rules.proofs.TurnEnds.{T}
use Rattle.sp_verify_rules.proofs.Firsts.{code_child}
use Rattle.sp_verify_rules.proofs.Safe as safe
use Rattle.sp_verify_rules.proofs.SafeRuns.{mays, calls, ready, forks, writes}
use Rattle.sp_verify_rules.proofs.ShapePaths.{passes}
use Rattle.sp_verify_rules.proofs.WriteLaws.{newest_writes, stores, may_store}
use Rattle.sp_verify_rules.specs.Apart.{spots_moved, map_of, process_of}
use Rattle.sp_verify_rules.specs.OwnChange.{OwnChange}
use Rattle.sp_verify_rules.proofs.TurnStores.{change_none, change_twice, change_one}

first_is : (a d : Area) (us vs : List Area) → ◌≡◌ {A = List Area} (a ∷ us) (d ∷ vs) → a ≡ d
first_is a d us vs e = cc

module _ (g : CodeRun) (k : KeepsCodeRules g.code) (e : KeepsEffects g.code (Does g.code)) (known : (p : ℕ)
    → Unknown g.code p
    → ⊥) (small : g.limits.depth ≤ 4294967295) where
  abbrev E : Area → ℕ → Type 0
  E = May g.code

  abbrev H : Area → List Home
  H = homes g.code

  same_process : (a : Area) (o : Option Instr)
      (ss : List Shape) (n m : Memory Plain) (us vs : List Area) → Changes plain g a o ss n us vs m
      → m.process ≡ n.process
  same_process a o ss n m us vs (Unchanged i d) = ap (λ (z : Memory Plain). z.process) d
  same_process a o ss n m us vs (Ticks i d) = ap (λ (z : Memory Plain). z.process) d
  same_process a o ss n m us vs (PutsCell to c i w d) = ap (λ (z : Memory Plain). z.process) d
  same_process a o ss n m us vs (Copies to from j i w d) = ap (λ (z : Memory Plain). z.process) d
  same_process a o ss n m us vs (ReadsItem to c j i w z d) = ap (λ (z : Memory Plain). z.process) d
  same_process a o ss n m us vs (Skips j i z d) = ap (λ (z : Memory Plain). z.process) d
  same_process a o ss n m us vs (Prints bs i z d) = ap (λ (z : Memory Plain). z.process) d
  same_process a o ss n m us vs (MakesOwn to j i w d) = ap (λ (z : Memory Plain). z.process) d
  same_process a o ss n m us vs (Calls f up l es i is at pr ft dp d) = ap (λ (z : Memory Plain). z.process) d
  same_process a o ss n m us vs (Returns i is d) = ap (λ (z : Memory Plain). z.process) d ∙ closed n.frames
    where
      closed : (fs : List Frame) → (without_frame plain g fs n).process ≡ n.process
      closed [] = refl
      closed (f ∷ fs) = refl

  -- what a stop may write: what moves to children, and where something is put
  abbrev pub StopWrites : ℕ → Stop → Config (Memory Plain) → Type 0
  StopWrites r (Forks t v n) d = (j : ℕ) → j < n → (s : Spot)
      → In s (handing_of g.code.layouts (frames_of d) v j
      (child_or (table_child (table_or (slice_get g.code.forks t)) j))).moved
      → IsWritable r (spots_moved d) (frames_of d) s
  StopWrites r (Opens a) d = IsWritable r (spots_moved d) (frames_of d) a.spot
  StopWrites r (Receives ch i a) d = IsWritable r (spots_moved d) (frames_of d) a.spot
  StopWrites r (Sends ch i cs) d = Unit {0}
  StopWrites r Ends d = Unit {0}
  StopWrites r Pauses d = Unit {0}

  module _ (b : Base g H E (T g)) (r : ℕ) (fs : List Frame) (p0 : Plain) where
    abbrev Before : (p : ℕ) (st : List Entry) (n : Memory Plain) → ProcessAt g.code p st n.frames → Type 0
    Before p st n s = ending.IsHoldingAt g k E (mays g k e known small) (calls g k e known small)
        (ready g k e known small)
        (forks g k e known small) (writes g k e known small) b p st n s

    abbrev IsHoldingChanged : (p : ℕ) (st : List Entry) (n : Memory Plain) → ProcessAt g.code p st n.frames → Type 0
    IsHoldingChanged p st n s = Before p st n s × (n.process ≡ r) × OwnChange r fs p0 n.frames n.store

    holds_ready : (p : ℕ) (st : List Entry) (n : Memory Plain) (s : ProcessAt g.code p st n.frames)
        → IsHoldingChanged p st n s
        → safe.ReadyAt plain g k p st n s
    holds_ready p st n s h = ending.holds_ready g k E (mays g k e known small) (calls g k e known small)
        (ready g k e known small) (forks g k e known small) (writes g k e known small) b p st n s h.0

    holds_kept : (p q : ℕ) (st s1 : List Entry) (n m : Memory Plain) (s : ProcessAt g.code p st n.frames)
        (t : ProcessAt g.code q s1 m.frames) → IsHoldingChanged p st n s → safe.ChangesAt plain g k p st n s (areas t) m
        → IsHoldingChanged q s1 m t
    holds_kept p q st s1 n m s t (before_it, number_is, changes) ch = let (active, _, _, may_write) = before_it in (
      ending.holds_kept g k E (mays g k e known small) (calls g k e known small)
          (ready g k e known small) (forks g k e known small) (writes g k e known small) b p q st s1 n m s t before_it
          ch,
      same_process s.area (instr_at g.code p) s.shapes n m (areas s) (areas t) ch ∙ number_is,
      change_twice r fs n.frames m.frames p0 n.store m.store changes
          (subst (λ z. OwnChange z n.frames n.store m.frames m.store) number_is
          (change_one g k e known (T g) b p q st s1 n m s t active may_write ch)),
    )

    abbrev StandsChanged : Config (Memory Plain) → Type 0
    StandsChanged c = safe.StandsWith plain g k IsHoldingChanged holds_ready holds_kept c

    -- a process that stands, or stopped, after such changes
    abbrev pub Out : Config (Memory Plain) → Type 0
    Out d = (process_of d ≡ r) × OwnChange r fs p0 (frames_of d) (store_of d)
        × ((s : Spot) → In s (spots_moved d) → IsHeld (map.get (map_of d) s))

    out : (d : Config (Memory Plain)) → StandsChanged d → Out d
    out (At p st n) (_, ((active, _, _, _), number_is, changes)) = (number_is, changes, active.holding.moved)

    -- by the area in which it stopped
    stop_writes : (x : Stop) (a : Area) (p q : ℕ) (ss : List Shape) (s1 : List Entry) (m : Memory Plain)
        (ks : List Caller) → IsArea g.code a → Reaches g.code a p ss → StopsSo g.code x a p ss m.frames ks
        → WritesWithin g.code r m.store.moved a m.frames → StopWrites r x (At q s1 m)
    stop_writes (Forks t v n) a p q ss s1 m ks i way so w = λ j lt s h. (
        let ch = code_child plain g k p t n j so lt in
        let y = spots_from g.code.layouts m.frames
        (child_or (table_child (table_or (slice_get g.code.forks t)) j)).moved
        s h in
        w y.0 s (may_store g k e known a y.0 i (record {
          areas = [];
          proof = inr (
            p,
            ch.number,
            ch.table,
            (passes g.code a p ss way, ch.table_is),
            subst
                (λ (z : ChildTable). IsMember y.0 z.moved) ch.begins y.1,
          );
        })) y.2)
    stop_writes (Opens a1) a p q ss s1 m ks i way (x, _, points, _, stored) w =
        w x a1.spot (stores g k e known a p ss x i way stored) points.stands
    stop_writes (Receives c j a1) a p q ss s1 m ks i way (x, _, points, _, stored) w = w x a1.spot
        (stores g k e known a p ss x i way stored) points.stands
    stop_writes (Sends c j cs) a p q ss s1 m ks i way so w = tt
    stop_writes Ends a p q ss s1 m ks i way so w = tt
    stop_writes Pauses a p q ss s1 m ks i way so w = tt

    same_area : (x : Stop) (a d : Area) (us vs : List Area) (m : Memory Plain) → IsHere plain g m x (a ∷ us) (d ∷ vs)
        → (x ≡ Pauses → ⊥) → a ≡ d
    same_area (Forks t v n) a d us vs m h ne = first_is a d us vs h.0
    same_area (Opens to) a d us vs m h ne = first_is a d us vs h
    same_area (Sends ch j cs) a d us vs m h ne = first_is a d us vs h
    same_area (Receives ch j to) a d us vs m h ne = first_is a d us vs h.0
    same_area Ends a d us vs m h ne = first_is a d us vs h
    same_area Pauses a d us vs m h ne = absurd (ne refl)

    -- a stop, but for ends and pauses
    stop_at : (x : Stop) (q : ℕ) (s1 : List Entry) (m : Memory Plain) → (x ≡ Pauses → ⊥)
        → (s : ProcessAt g.code q s1 m.frames) → IsHoldingChanged q s1 m s → (t : StoppedAt g.code x q s1 m.frames)
        → IsHere plain g m x (t.area ∷ areas_of t.callers) (areas s) → Out (At q s1 m) × StopWrites r x (At q s1 m)
    stop_at x q s1 m ne s (before_it, number_is, changes) t here =
        let same = same_area x t.area s.area (areas_of t.callers) (areas_of s.callers) m here ne in
        let (_, _, _, may_write) = before_it in (
          out (At q s1 m) (s, (before_it, number_is, changes)),
          stop_writes x t.area t.position q t.shapes s1 m t.callers t.there t.reached t.so
              (subst (λ a. WritesWithin g.code r m.store.moved a m.frames) (sym same)
              (subst (λ z. WritesWithin g.code z m.store.moved s.area m.frames) number_is
              (newest_writes g.code m.process m.store.moved s.area (areas_of s.callers) m.frames may_write))),
        )

    at_stop : (x : Stop) (d : Config (Memory Plain)) → safe.AtStop plain g k IsHoldingChanged holds_ready holds_kept x d
        → Out d × StopWrites r x d
    at_stop (Forks t v n) (At q s1 m) (stands, held, (stopped, here)) =
        stop_at (Forks t v n) q s1 m (λ z. cc z) stands held stopped here
    at_stop (Opens to) (At q s1 m) (stands, held, (stopped, here)) =
        stop_at (Opens to) q s1 m (λ z. cc z) stands held stopped here
    at_stop (Sends ch j cs) (At q s1 m) w = (out (At q s1 m) (w.0, w.1), tt)
    at_stop (Receives ch j to) (At q s1 m) (stands, held, (stopped, here)) =
        stop_at (Receives ch j to) q s1 m (λ z. cc z) stands held stopped here
    at_stop Ends (At q s1 m) (p, st, s, h, t) = (out (At p st m) (s, h), tt)
    at_stop Pauses (At q s1 m) w = (out (At q s1 m) (w.0, w.1), tt)

    stops : (c d : Config (Memory Plain)) (x : Stop) → StandsChanged c → IsTurn (memory plain g) g.code c (Stopped x d)
        → Out d × StopWrites r x d
    stops c d x w is = at_stop x d (safe.stops_well plain g k IsHoldingChanged holds_ready holds_kept c d x w
        (runs (frames_fit (memory plain g) g.code c) is))
      where
        runs : (t : Bool) → BeginsOrFaults t c (Stopped x d) (Runs (memory plain g) g.code c (Stopped x d))
            → Runs (memory plain g) g.code c (Stopped x d)
        runs true h = h
        runs false h = absurd (cc h)

    faults : (c d : Config (Memory Plain)) (f : Fault) → StandsChanged c
        → IsTurn (memory plain g) g.code c (Faulted f d)
        → Out d
    faults c d f w is = go (frames_fit (memory plain g) g.code c) is
      where
        same : (u : Fault) (c : Config (Memory Plain)) → ◌≡◌ {A = Turn (Memory Plain)} (Faulted f d) (Faulted u c)
            → d ≡ c
        same u c h = cc

        go : (t : Bool) → BeginsOrFaults t c (Faulted f d) (Runs (memory plain g) g.code c (Faulted f d)) → Out d
        go true (e, comes, (_, same_turn)) = subst Out (sym same_turn)
            (out e (safe.comes_in plain g k IsHoldingChanged holds_ready holds_kept comes.steps c e w comes.proof))
        go false h = subst Out (sym (same _ c h)) (out c w)

  -- ---- from a process that lives and stands

  module _ (b : Base g H E (T g)) (us : List Area) (c : Config (Memory Plain)) (l : HasActivations g H E (T g) b us c)
      (t : T g us c) where
    start : StandsChanged b (process_of c) (frames_of c) (store_of c) c
    start = go c l t
      where
        go : (c : Config (Memory Plain)) → HasActivations g H E (T g) b us c → T g us c
            → StandsChanged b (process_of c) (frames_of c) (store_of c) c
        go (At p st n) l t =
            let w = ending.known g k E (mays g k e known small) (calls g k e known small) (ready g k e known small)
            (forks g k e known small) (writes g k e known small) b us (At p st n) l t in
            (w.0, (w.1, refl, change_none n.process n.frames n.store))

    pub turn_stops : (x : Stop) (d : Config (Memory Plain)) → IsTurn (memory plain g) g.code c (Stopped x d)
        → Out b (process_of c) (frames_of c) (store_of c) d × StopWrites (process_of c) x d
    turn_stops x d is = stops b (process_of c) (frames_of c) (store_of c) c d x start is

    pub turn_faults : (f : Fault) (d : Config (Memory Plain)) → IsTurn (memory plain g) g.code c (Faulted f d)
        → Out b (process_of c) (frames_of c) (store_of c) d
    turn_faults f d is = faults b (process_of c) (frames_of c) (store_of c) c d f start is
