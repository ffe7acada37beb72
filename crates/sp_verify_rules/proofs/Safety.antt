-- The system of verified code along a journal is safe, where each turn of a process that lives is: its forks can be
-- carried out, its children can be joined, and messages can be put where they go.
use Rattle.std.proofs.Common.{◌≡◌, ℕ, ◌≤◌, ◌<◌, ◌==◌, ℤ, if◌then◌else◌, List, [], ◌∷◌, length, Option, Some, None, Bool}
use Rattle.std.proofs.Common.{true, false, refl, sym, ap, ◌∙◌, subst, arith}
use Rattle.std.specs.Prelude.{nat_lt}
use Rattle.std.proofs.lemmas.Bool.{eqb-true}
use Rattle.sp_base.specs.declared.fault.Fault.{Fault}
use Rattle.sp_base.specs.declared.fault.Fault.TheVariants as fault
use Rattle.sp_cell.specs.declared.cell.Cell.{Cell}
use Rattle.sp_cell.specs.declared.cell.Cell.TheVariants as cell
use Rattle.sp_cell.specs.declared.spot.Address.{Address}
use Rattle.sp_cell.specs.Frame.{HasNextFrame}
use Rattle.sp_cell.specs.Map.{Plain}
use Rattle.sp_journal.specs.Births.{Births, first_births, births_after_event}
use Rattle.sp_journal.specs.Maps.{at_key}
use Rattle.sp_journal.specs.declared.entry.Way.{Way}
use Rattle.sp_journal.specs.declared.entry.Way.TheVariants as way
use Rattle.sp_journal.specs.declared.entry.Birth.{Birth}
use Rattle.sp_journal.specs.declared.entry.Entry.{Entry}
use Rattle.sp_journal.specs.declared.entry.Event.{Event}
use Rattle.sp_journal.specs.declared.entry.Event.TheVariants as event
use Rattle.sp_code.specs.Machine.{Stop, Forks, Opens, Sends, Receives, Ends, Pauses, Config, At}
use Rattle.sp_code.specs.Memory.{CodeRun, Home, Memory, put_cell, put_cells, memory, first_process}
use Rattle.sp_code.specs.PlainStore.{plain}
use Rattle.sp_code.specs.Sound.{CanSplit, CanJoin, CanPut, StopsAt, IsSafeSystem}
use Rattle.sp_code.specs.System.{Condition, Absent, Working, Waits, Joins, Laid, Gone, Over, System, stop_of, frames_of}
use Rattle.sp_code.specs.System.{store_of, depth_of, on_store, process_at_entry, message_of, plan_of, pending_stop}
use Rattle.sp_code.specs.System.{clash_by}
use Rattle.sp_code.specs.System.{clash_of, first_fault, limit_of, fault_of, event_or, event_at, config_of}
use Rattle.sp_code.specs.System.{apply_unless_fault, apply_stop, apply_end, apply_send, apply_receive}
use Rattle.sp_code.specs.System.{system_after_turn, opening_system, EntryLeads, EntriesLead}
use Rattle.sp_code.specs.System.{IsSystem}
use Rattle.sp_code.specs.Ranks.{IsRankedAlong}
use Rattle.sp_code.specs.Turns.{Turn, Stopped, Faulted, IsTurn, IsSafe}
use Rattle.sp_verify_rules.specs.ProcessLife.{Base, HasActivations, StopInvariant}
use Rattle.sp_verify_rules.specs.Systems.{awaited_children, IsLive, JoinInvariant, LivesIn, Inv}
use Rattle.sp_verify_rules.proofs.Along.{becomes_ok, meets_ok, ends_ok}
use Rattle.sp_verify_rules.proofs.ForkChildren.{splits}
use Rattle.sp_verify_rules.proofs.Holdings.{next_low}
use Rattle.sp_verify_rules.proofs.Journals.{forks_ok}
use Rattle.sp_verify_rules.proofs.Messages.{lives_opened, lives_received, can_put}
use Rattle.sp_verify_rules.proofs.ChildEnds.{can_join}

first_none : (f h : Option Fault) → first_fault f h ≡ None → h ≡ None
first_none None h e = e
first_none (Some f) h e = absurd (cc e)

no_fault : (j k : ℕ) → (if j == k then None else Some fault.F7) ≡ None → j ≡ k
no_fault j k e = go (j == k) refl e
  where
    go : (t : Bool) → (j == k) ≡ t → (if t then None else Some fault.F7) ≡ None → j ≡ k
    go true is e = eqb-true j k is
    go false is e = absurd (cc e)

module _ (g : CodeRun) {Area : Type 0} (H : Area → List Home) (E : Area → ℕ → Type 0) (T : List Area
    → Config (Memory Plain) → Type 0) (Room Cells : ℕ → ℕ → Type 0) where
  -- what is known of a process whose turn stopped so
  pub record TurnsWell (b : Base g H E T) (stop : Stop) (d : Config (Memory Plain)) : Type 0 where
    pub areas : List Area
    pub lives : HasActivations g H E T b areas d
    pub well : StopInvariant g H E T Room Cells stop areas d
    pub stands : (stop ≡ Ends → ⊥) → T areas d

  module _ (rooms : (k n m : ℕ) → Room k n → Cells k m
      → m ≤ n) (t_store : (us : List Area) (c : Config (Memory Plain)) (f : Plain → Plain)
      → ((p : Plain) → (f p).moved ≡ p.moved) → T us c → T us (on_store f c))
      (t_entered : (us : List Area) (c : Config (Memory Plain)) → T us c
      → T us (process_at_entry c)) (t_deep : (us : List Area) (c : Config (Memory Plain)) → T us c
      → depth_of c ≤ 4294967295)
      (turn : (b : Base g H E T) (us : List Area) (c d : Config (Memory Plain)) (stop : Stop)
      → HasActivations g H E T b us c
      → T us c → IsTurn (memory plain g) g.code c (Stopped stop d) → TurnsWell b stop d)
      (safe : (b : Base g H E T) (us : List Area) (c : Config (Memory Plain)) → HasActivations g H E T b us c → T us c
      → IsSafe (memory plain g) g.code c)
      (ranked : (b : Base g H E T) (us : List Area) (c : Config (Memory Plain)) → HasActivations g H E T b us c → T us c
      → IsRankedAlong (memory plain g) g.code c) where
    abbrev IsInvariant : (ℕ → Condition Plain) → Births → Type 0
    IsInvariant f b = Inv g H E T Room Cells f b

    room_of : (b : Base g H E T) (us : List Area) (pc : ℕ) (st : List Rattle.sp_code.specs.Machine.Entry)
        (n : Memory Plain) → HasActivations g H E T b us (At pc st n) → T us (At pc st n) → HasNextFrame n.store
    room_of b us pc st n l t =
        let w = next_low g.code.layouts H E
        (Rattle.sp_verify_rules.specs.ProcessLife.HasConsole g H E T b.area) us n.frames n.depth n.store l.holding in
        let d = t_deep us (At pc st n) t in
        omega (arith, w, d)

    -- ---- at its entry

    now : (b : Base g H E T) (us : List Area) (c : Config (Memory Plain)) → HasActivations g H E T b us c
        → HasActivations g H E T b us (process_at_entry c)
    now b us (At pc st n) l = record { holding = l.holding; last = l.last; moved = l.moved }

    well_now : (stop : Stop) (us : List Area) (c : Config (Memory Plain)) → StopInvariant g H E T Room Cells stop us c
        → StopInvariant g H E T Room Cells stop us (process_at_entry c)
    well_now stop [] c w = absurd w
    well_now (Forks t v n) (a ∷ us)
        (At pc st m) w = record { area = w.area; children = w.children; clear = w.clear; stands = w.stands }
    well_now (Opens p) (a ∷ us) (At pc st m) w = w
    well_now (Sends ch k cs) (a ∷ us) (At pc st m) w = w
    well_now (Receives ch k p) (a ∷ us) (At pc st m) w = w
    well_now Ends (a ∷ us) (At pc st m) w = w
    well_now Pauses (a ∷ us) (At pc st m) w = w

    turned_now : (b : Base g H E T) (stop : Stop) (c : Config (Memory Plain)) → TurnsWell b stop c
        → TurnsWell b stop (process_at_entry c)
    turned_now b stop c w = record {
      areas = w.areas;
      lives = now b w.areas c w.lives;
      well = well_now stop w.areas c w.well;
      stands = λ d. t_entered w.areas c (w.stands d);
    }

    -- ---- an event

    module _ (s : System Plain) (i : IsInvariant s.condition s.births) (q : ℕ) (c0 : Config (Memory Plain))
        (runs : s.condition q ≡ Working c0) where
      absent_not : (x : Condition Plain) → x ≡ Working c0 → x ≡ Absent → ⊥
      absent_not x e f = cc (sym e ∙ f)

      there : q < s.births.processes
      there = go (nat_lt q s.births.processes) refl
        where
          go : (t : Bool) → nat_lt q s.births.processes ≡ t → q < s.births.processes
          go true e = Rattle.std.proofs.lemmas.Bool.ltb-true q s.births.processes e
          go false e = absurd (absent_not (s.condition q) runs
              (i.young q (Rattle.std.proofs.lemmas.Bool.ltb-false q s.births.processes e)))

      live : IsLive (s.condition q)
      live = subst (λ y. IsLive y) (sym runs) tt

      none : awaited_children (s.condition q) ≡ 0
      none = ap awaited_children runs

      becomes : (x : Condition Plain) → LivesIn g H E T Room Cells i.base (i.base q) (i.children q) x
          → awaited_children x ≡ 0
          → IsInvariant (at_key ◌==◌ q x s.condition) s.births
      becomes x f e = becomes_ok g H E T Room Cells rooms t_store s.condition s.births i q x f (e
          ∙ sym none) (λ l. live) (λ le. absurd (omega (arith, le, there)))

      laid : (c : Config (Memory Plain)) → IsInvariant (at_key ◌==◌ q (Laid c) s.condition) s.births
      laid c = becomes (Laid c) tt refl

      opened_births : (f : ℕ → Condition Plain) → IsInvariant f s.births
          → IsInvariant f (births_after_event s.births q event.Open)
      opened_births f j = record {
        base = j.base;
        children = j.children;
        each = j.each;
        count = j.count;
        all = j.all;
        young = j.young;
        known = j.known;
        older = j.older;
      }

      -- an offer meets one of the same type
      send_room : (ch k z : ℕ) (cs : List Cell) → Cells k (length cs)
          → clash_by way.Send k (stop_of (s.condition z)) ≡ None → (d j : ℕ) (p : Address) (c : Config (Memory Plain))
          → s.condition z ≡ Waits (Receives d j p) c → (n : ℕ) → Room j n → length cs ≤ n
      send_room ch k z cs w e d j p c at n r = rooms k n (length cs)
          (subst (λ x. Room x n) (no_fault j k (ap (λ x. clash_by way.Send k (stop_of x)) (sym at) ∙ e)) r) w

      received_room : (k z n : ℕ) → Room k n → (x : Condition Plain)
          → LivesIn g H E T Room Cells i.base (i.base z) (i.children z) x → clash_by way.Receive k (stop_of x) ≡ None
          → length (message_of plain g (stop_of x)) ≤ n
      received_room k z n r Absent f e = omega arith
      received_room k z n r (Working c) f e = omega arith
      received_room k z n r (Waits (Sends d j cs) c) (us, _, _, stop_holds) e = go us stop_holds
        where
          go : (us : List Area) → StopInvariant g H E T Room Cells (Sends d j cs) us c → length cs ≤ n
          go [] w = absurd w
          go (a ∷ us) w = rooms k n (length cs) r (subst (λ x. Cells x (length cs)) (no_fault j k e) w)
      received_room k z n r (Waits (Receives d j p) c) f e = omega arith
      received_room k z n r (Waits (Forks t v m) c) f e = omega arith
      received_room k z n r (Waits (Opens p) c) f e = omega arith
      received_room k z n r (Waits Ends c) f e = omega arith
      received_room k z n r (Waits Pauses c) f e = omega arith
      received_room k z n r (Joins left c) f e = omega arith
      received_room k z n r (Laid c) f e = omega arith
      received_room k z n r Gone f e = omega arith
      received_room k z n r (Over c) f e = omega arith

      meets : (z : ℕ) (cs : List Cell) (x : Condition Plain)
          → ((d j : ℕ) (p : Address) (c : Config (Memory Plain)) → s.condition z ≡ Waits (Receives d j p) c → (n : ℕ)
          → Room j n → length cs ≤ n) → LivesIn g H E T Room Cells i.base (i.base q) (i.children q) x
          → awaited_children x ≡ 0
          → IsInvariant (at_key ◌==◌ q x (at_key ◌==◌ z
          (Rattle.sp_code.specs.System.after_message plain g cs (s.condition z)) s.condition)) s.births
      meets z cs x r f e = meets_ok g H E T Room Cells rooms t_store s.condition s.births i q z cs x r f (e
          ∙ sym none) live (λ le. absurd (omega (arith, le, there)))

      -- what a stop that is no fault does; the process is at its entry
      happens_ok : (stop : Stop) (c : Config (Memory Plain)) → TurnsWell (i.base q) stop c → clash_of s stop ≡ None
          → IsInvariant (apply_stop plain g q stop c s).condition (births_after_event s.births q (event_at stop))
      happens_ok (Forks t v n) (At pc st m) w e = go w.areas w.lives w.well (w.stands (λ x. cc x))
        where
          go : (us : List Area) → HasActivations g H E T (i.base q) us (At pc st m)
              → StopInvariant g H E T Room Cells (Forks t v n) us (At pc st m) → T us (At pc st m)
              → IsInvariant (apply_stop plain g q (Forks t v n) (At pc st m) s).condition
              (births_after_event s.births q (event.Fork n))
          go [] l w k = absurd w
          go (a ∷ us) l w k = forks_ok g H E T Room Cells rooms t_store s.condition s.births i q there live none a us pc
              st m l k t v n w (room_of (i.base q) (a ∷ us) pc st m l k)
      happens_ok (Opens p) (At pc st m) w e = opened_births (apply_stop plain g q (Opens p) (At pc st m) s).condition
          (go w.areas w.lives w.well (w.stands (λ x. cc x)))
        where
          go : (us : List Area) → HasActivations g H E T (i.base q) us (At pc st m)
              → StopInvariant g H E T Room Cells (Opens p) us (At pc st m) → T us (At pc st m)
              → IsInvariant (apply_stop plain g q (Opens p) (At pc st m) s).condition s.births
          go [] l w k = absurd w
          go (a ∷ us) l w k = becomes (Working
              (on_store (put_cell plain p (cell.Channel s.births.channels)) (At pc st m))) (
                a ∷ us,
                lives_opened g H E T (i.base q) a us pc st m p 1 l w (cell.Channel s.births.channels),
                t_store
                    (a ∷ us) (At pc st m) (put_cell plain p (cell.Channel s.births.channels)) (λ m. refl) k,
              ) refl
      happens_ok (Sends ch k cs) c w e = go (s.pending ch) refl
        where
          cells : (us : List Area) → StopInvariant g H E T Room Cells (Sends ch k cs) us c → Cells k (length cs)
          cells [] w = absurd w
          cells (a ∷ us) w = w

          go : (o : Option ℕ) → s.pending ch ≡ o
              → IsInvariant (apply_send plain g q (Sends ch k cs) ch cs c o s).condition s.births
          go None is = becomes (Waits (Sends ch k cs) c) (w.areas, w.lives, w.stands (λ x. cc x), w.well) refl
          go (Some z) is = meets z cs (Working c)
              (send_room ch k z cs (cells w.areas w.well) (ap (λ o. clash_by way.Send k (pending_stop s o)) (sym is)
              ∙ e)) (w.areas, w.lives, w.stands (λ x. cc x)) refl
      happens_ok (Receives ch k p) (At pc st m) w e = go (s.pending ch) refl
        where
          got : (z : ℕ) (us : List Area) → clash_by way.Receive k (stop_of (s.condition z)) ≡ None
              → HasActivations g H E T (i.base q) us (At pc st m)
              → StopInvariant g H E T Room Cells (Receives ch k p) us (At pc st m) → T us (At pc st m)
              → (vs : List Area) × HasActivations g H E T (i.base q) vs
              (on_store (put_cells plain p (message_of plain g (stop_of (s.condition z)))) (At pc st m))
              × T vs (on_store (put_cells plain p (message_of plain g (stop_of (s.condition z)))) (At pc st m))
          got z [] e l w k = absurd w
          got z (a ∷ us) e l ((left, room, aims), _) t =
              let cs = message_of plain g (stop_of (s.condition z)) in (
                a ∷ us,
                lives_received g H E T (i.base q) a us pc st m p left l aims cs
                    (received_room k z left room (s.condition z) (i.each z) e),
                t_store (a ∷ us) (At pc st m)
                    (put_cells plain p cs) (λ m. refl) t,
              )

          go : (o : Option ℕ) → s.pending ch ≡ o
              → IsInvariant (apply_receive plain g q (Receives ch k p) ch p (At pc st m) o s).condition s.births
          go None is = becomes (Waits (Receives ch k p) (At pc st m))
              (w.areas, w.lives, w.stands (λ x. cc x), w.well) refl
          go (Some z) is = meets z [] (Working
              (on_store (put_cells plain p (message_of plain g (stop_of (s.condition z)))) (At pc st m)))
              (λ d j u c at n r. omega arith)
              (got z w.areas (ap (λ o. clash_by way.Receive k (pending_stop s o)) (sym is)
              ∙ e) w.lives w.well (w.stands (λ x. cc x))) refl
      happens_ok Ends (At pc st m) w e = go (s.births.birth q) refl w.areas w.lives w.well
        where
          go : (o : Option Birth) → s.births.birth q ≡ o → (us : List Area)
              → HasActivations g H E T (i.base q) us (At pc st m)
              → StopInvariant g H E T Room Cells Ends us (At pc st m)
              → IsInvariant (apply_end plain g q (At pc st m) o s).condition s.births
          go o is [] l w = absurd w
          go None is (a ∷ us) l w = becomes (Over (At pc st m)) tt refl
          go (Some x) is (a ∷ us) l w = ends_ok g H E T Room Cells rooms t_store s.condition s.births i q x a pc st m is
              live none (subst (λ vs. HasActivations g H E T (i.base q) (a ∷ vs) (At pc st m)) w l)
      happens_ok Pauses c w e = becomes (Working c) (w.areas, w.lives, w.stands (λ x. cc x)) refl

      turn_ok : (t : Turn (Memory Plain)) → IsTurn (memory plain g) g.code c0 t
          → IsInvariant (system_after_turn plain g q t s).condition (system_after_turn plain g q t s).births
      turn_ok t is = go s.faulted refl
        where
          mine : (us : List Area) × HasActivations g H E T (i.base q) us c0 × T us c0
          mine = subst (λ y. LivesIn g H E T Room Cells i.base (i.base q) (i.children q) y) runs (i.each q)

          by_fault : (u : Turn (Memory Plain)) → IsTurn (memory plain g) g.code c0 u → (o : Option Fault)
              → fault_of g.limits s u ≡ o
              → IsInvariant (apply_unless_fault plain g o q u s).condition
              (births_after_event s.births q (event_or o u))
          by_fault u is (Some f) e = laid (config_of u)
          by_fault (Faulted f c) is None e = laid c
          by_fault (Stopped stop c) is None e =
              happens_ok stop (process_at_entry c)
              (turned_now (i.base q) stop c (turn (i.base q) mine.0 c0 c stop mine.1 mine.2 is))
              (first_none (limit_of g.limits s stop) (clash_of s stop) e)

          go : (x : Bool) → s.faulted ≡ x
              → IsInvariant (if x then Rattle.sp_code.specs.System.lays plain g q (config_of t) s else
              apply_unless_fault plain g
              (fault_of g.limits s t) q t s).condition
              (births_after_event s.births q (if x then event.Laid else event_or (fault_of g.limits s t) t))
          go true e = laid (config_of t)
          go false e = by_fault t is (fault_of g.limits s t) refl

    -- ---- along a journal

    pub enters_ok : (s t : System Plain) (q : ℕ) (e : Event) → IsInvariant s.condition s.births
        → EntryLeads plain g s q e t
        → IsInvariant t.condition t.births
    enters_ok s t q e i (configuration, working, turned, is_turn, _, leads) =
        subst (λ (x : System Plain). IsInvariant x.condition x.births) (sym leads)
        (turn_ok s i q configuration working turned is_turn)

    pub leads_ok : (es : List Entry) (s t : System Plain) → IsInvariant s.condition s.births
        → EntriesLead plain g s es t
        → IsInvariant t.condition t.births
    leads_ok [] s t i l = subst (λ (x : System Plain). IsInvariant x.condition x.births) (sym l) i
    leads_ok (e ∷ es) s t i l = leads_ok es l.0 t (enters_ok s l.0 e.process e.event i l.1) l.2

    -- the first process alone
    module _ (main : Area) (first_lives : HasActivations g H E T
        (record { area = main; frames = frames_of (first_process plain g); moved = [] }) (main ∷ [])
        (first_process plain g))
        (first_stands : T (main ∷ []) (first_process plain g)) where
      opening_ok : IsInvariant (opening_system plain g).condition first_births
      opening_ok = record {
        base = λ q. record { area = main; frames = frames_of (first_process plain g); moved = [] };
        children = λ q. [];
        each = λ q. one (q == 0);
        count = λ q. number (q == 0);
        all = λ q x e l. absurd (cc e);
        young = λ q le. absent q le (q == 0) refl;
        known = λ q r m. absurd m;
        older = λ q x e. absurd (cc e);
      }
        where
          one : (b : Bool) → LivesIn g H E T Room Cells
              (λ q. record { area = main; frames = frames_of (first_process plain g); moved = [] })
              (record { area = main; frames = frames_of (first_process plain g); moved = [] }) []
              (if b then Working (first_process plain g) else Absent)
          one true = (main ∷ [], first_lives, first_stands)
          one false = tt

          number : (b : Bool) → 0 ≡ awaited_children (if b then Working (first_process plain g) else Absent)
          number true = refl
          number false = refl

          absent : (q : ℕ) → 1 ≤ q → (b : Bool) → (q == 0) ≡ b
              → (if b then Working (first_process plain g) else Absent) ≡ Absent
          absent q le true e = absurd (let z = eqb-true q 0 e in omega (arith, le, z))
          absent q le false e = refl

      -- every process of a run lives
      pub system_ok : (es : List Entry) (s : System Plain) → IsSystem plain g es s → IsInvariant s.condition s.births
      system_ok es s l = leads_ok es (opening_system plain g) s opening_ok l

    -- ---- all is well with the next turn and event

    module _ (s : System Plain) (i : IsInvariant s.condition s.births) where
      lives_at : (q : ℕ) (c : Config (Memory Plain)) → s.condition q ≡ Working c → (us : List Area)
          × HasActivations g H E T (i.base q) us c × T us c
      lives_at q c e = subst (λ y. LivesIn g H E T Room Cells i.base (i.base q) (i.children q) y) e (i.each q)

      stopped : (q : ℕ) (stop : Stop) (d : Config (Memory Plain)) → StopsAt g s q stop d → TurnsWell (i.base q) stop d
      stopped q stop d a = let w = lives_at q a.configuration a.runs in turn
          (i.base q) w.0 a.configuration d stop w.1 w.2 a.turn

      no_clash : (q : ℕ) (stop : Stop) (d : Config (Memory Plain)) → StopsAt g s q stop d → clash_of s stop ≡ None
      no_clash q stop d a = first_none (limit_of g.limits s stop) (clash_of s stop) a.fine

      split : (q t n : ℕ) (v : ℤ) (d : Config (Memory Plain)) → TurnsWell (i.base q) (Forks t v n) d
          → CanSplit (store_of d) (plan_of plain g d t v n)
      split q t n v (At pc st m) w = go w.areas w.lives w.well (w.stands (λ x. cc x))
        where
          go : (us : List Area) → HasActivations g H E T (i.base q) us (At pc st m)
              → StopInvariant g H E T Room Cells (Forks t v n) us (At pc st m) → T us (At pc st m)
              → CanSplit m.store (plan_of plain g (At pc st m) t v n)
          go [] l f k = absurd f
          go (a ∷ us) l f k = splits g H E T Room Cells (i.base q) a us pc st m l t v n f
              (room_of (i.base q) (a ∷ us) pc st m l k)

      join : (q left : ℕ) (x : Birth) (d e : Config (Memory Plain)) → TurnsWell (i.base q) Ends d
          → IsLive (s.condition q) → s.births.birth q ≡ Some x → s.condition x.parent ≡ Joins left e
          → CanJoin (store_of e) (store_of d)
      join q left x (At pc st m) (At qc qt n) w live birth at = go w.areas w.lives w.well
        where
          mother : JoinInvariant g H E T Room Cells i.base (i.base x.parent) (i.children x.parent) (At qc qt n)
          mother = subst (λ y. LivesIn g H E T Room Cells i.base (i.base x.parent) (i.children x.parent) y) at
              (i.each x.parent)

          go : (us : List Area) → HasActivations g H E T (i.base q) us (At pc st m)
              → StopInvariant g H E T Room Cells Ends us (At pc st m) → CanJoin n.store m.store
          go [] l f = absurd f
          go (a ∷ us) l f = can_join g H E T Room Cells i.base (i.base x.parent) (i.children x.parent) q
              (i.all q x birth live) qc pc qt st n m mother a
              (subst (λ vs. HasActivations g H E T (i.base q) (a ∷ vs) (At pc st m)) f l)

      -- who receives has room for a message of the type
      put : (z : ℕ) (ch k : ℕ) (p : Address) (cs : List Cell) (e : Config (Memory Plain)) (us : List Area)
          → HasActivations g H E T (i.base z) us e → StopInvariant g H E T Room Cells (Receives ch k p) us e
          → Cells k (length cs)
          → CanPut (store_of e) p cs
      put z ch k p cs (At pc st m) [] l w c = absurd w
      put z ch k p cs (At pc st m) (a ∷ us) l ((left, room, aims), own) c = can_put g H E T (i.base z) a us pc st m p
          left l aims cs (rooms k left (length cs) room c) own

      cells_of : (k : ℕ) (ch : ℕ) (cs : List Cell) (us : List Area) (c : Config (Memory Plain))
          → StopInvariant g H E T Room Cells (Sends ch k cs) us c → Cells k (length cs)
      cells_of k ch cs [] c w = absurd w
      cells_of k ch cs (a ∷ us) c w = w

      waits_at : (z : ℕ) (stop : Stop) (e : Config (Memory Plain)) → s.condition z ≡ Waits stop e → (us : List Area)
          × HasActivations g H E T (i.base z) us e × T us e × StopInvariant g H E T Room Cells stop us e
      waits_at z stop e at = subst (λ y. LivesIn g H E T Room Cells i.base (i.base z) (i.children z) y) at (i.each z)

      same_type : (w : Way) (k j : ℕ) (o : Option ℕ) (z : ℕ) (stop : Stop) (e : Config (Memory Plain)) → o ≡ Some z
          → s.condition z ≡ Waits stop e → clash_by w k (pending_stop s o) ≡ None → clash_by w k (Some stop) ≡ None
      same_type w k j o z stop e is at c = ap (λ x. clash_by w k (stop_of x)) (sym at)
          ∙ ap (λ x. clash_by w k (pending_stop s x)) (sym is) ∙ c

      pub system_safe : IsSafeSystem g s
      system_safe = record {
        turns = λ q c e. (let w = lives_at q c e in safe (i.base q) w.0 c w.1 w.2);
        ranks = λ q c e. (let w = lives_at q c e in ranked (i.base q) w.0 c w.1 w.2);
        forks = λ q t n v d a. split q t n v d (stopped q (Forks t v n) d a);
        ends = λ q left x d e a b at. join q left x d e (stopped q Ends d a)
            (subst (λ y. IsLive y) (sym a.runs) tt) b at;
        sends = λ q z ch k j p cs d e a pend at. (
            let w = stopped q (Sends ch k cs) d a in
            let (us, lives, _, stop_holds) = waits_at z (Receives ch j p) e at in
            let same : j ≡ k = no_fault j k
            (same_type way.Send k j (s.pending ch) z (Receives ch j p) e pend at
            (no_clash q (Sends ch k cs) d a)) in
            put z ch j p cs e us lives stop_holds (subst (λ x. Cells x (length cs)) (sym same)
            (cells_of k ch cs w.areas d w.well)));
        receives = λ q z ch k j p cs d e a pend at. (
            let w = stopped q (Receives ch k p) d a in
            let (us, _, _, stop_holds) = waits_at z (Sends ch j cs) e at in
            let same : j ≡ k = no_fault j k
            (same_type way.Receive k j (s.pending ch) z (Sends ch j cs) e pend at
            (no_clash q (Receives ch k p) d a)) in
            put q ch k p cs d w.areas w.lives w.well
            (subst (λ x. Cells x (length cs)) same (cells_of j ch cs us e stop_holds)));
      }
