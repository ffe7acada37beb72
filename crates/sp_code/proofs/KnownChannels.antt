-- Along a journal every process has its number and speaks of channels that are there.
use Rattle.std.proofs.Common.{◌≡◌, ℕ, ◌-◌, ◌≤◌, ◌<◌, ◌==◌, ℤ, Bool, true, false, cond, if◌then◌else◌, List, [], ◌∷◌}
use Rattle.std.proofs.Common.{Option, Some, None, refl, sym, subst, arith}
use Rattle.std.specs.Prelude.{slice_get}
use Rattle.std.proofs.lemmas.Bool.{eqb-true}
use Rattle.sp_base.specs.declared.fault.Fault.{Fault}
use Rattle.sp_cell.specs.declared.cell.Cell.{Cell}
use Rattle.sp_cell.specs.declared.cell.Cell.TheVariants as cell
use Rattle.sp_cell.specs.declared.spot.Address.{Address}
use Rattle.sp_cell.specs.Map.{Plain}
use Rattle.sp_journal.specs.declared.entry.Event.{Event}
use Rattle.sp_journal.specs.declared.entry.Event.TheVariants as event
use Rattle.sp_journal.specs.declared.entry.Entry.{Entry}
use Rattle.sp_journal.specs.declared.entry.Birth.{Birth}
use Rattle.sp_journal.specs.Maps.{at_key}
use Rattle.sp_journal.specs.Births.{Births, births_after_event, is_next}
use Rattle.sp_code.specs.declared.code.ChildTable.{ChildTable}
use Rattle.sp_code.specs.Tables.{child_at}
use Rattle.sp_code.specs.Machine as m
use Rattle.sp_code.specs.Machine.{Stop, Forks, Opens, Sends, Receives, Ends, Pauses, Config, At}
use Rattle.sp_code.specs.Turns.{Turn, Stopped, Faulted, IsTurn}
use Rattle.sp_code.specs.Memory.{CodeRun, Memory, memory, cells_at, sizes_of, first_process, put_cells}
use Rattle.sp_code.specs.PlainStore.{plain}
use Rattle.sp_code.specs.System.{System, Condition, Absent, Working, Waits, Joins, Laid, Gone, Over, event_at, event_or}
use Rattle.sp_code.specs.System.{fault_of, process_at_entry, frames_of, plan_of, child_process, handing_of, child_or}
use Rattle.sp_code.specs.System.{table_or}
use Rattle.sp_code.specs.System.{on_store, after_message, apply_send, apply_receive, parent_after_join, apply_end}
use Rattle.sp_code.specs.System.{apply_stop, apply_unless_fault, lays}
use Rattle.sp_code.specs.System.{system_after_turn, stop_of, message_of, store_of, config_of, opening_system}
use Rattle.sp_code.specs.System.{EntryLeads, EntriesLead, IsSystem}
use Rattle.sp_code.specs.Channels.{CellHas, CellsHave, EntriesHave, StopHas, StoreHas, ConfigHas, TurnHas}
use Rattle.sp_code.specs.NamesChannels.{MemoryHas, ConditionHas, NamesChannels}
use Rattle.sp_code.proofs.Cells.{child_has, handed_has, taken_has, root_has}
use Rattle.sp_code.proofs.Memories.{put_has, puts_has, keeping}
use Rattle.sp_code.proofs.OperationLaws.{turn_has}

-- ---- a weaker property

module _ (C D : ℕ → Type 0) (weaker : (c : ℕ) → C c → D c) where
  cell_weak : (c : Cell) → CellHas C c → CellHas D c
  cell_weak cell.Undefined h = tt
  cell_weak (cell.Ordinal v) h = tt
  cell_weak (cell.Channel c) h = weaker c h

  cells_weak : (cs : List Cell) → CellsHave C cs → CellsHave D cs
  cells_weak [] h = tt
  cells_weak (c ∷ cs) h = (cell_weak c h.0, cells_weak cs h.1)

  entries_weak : (es : List m.Entry) → EntriesHave C es → EntriesHave D es
  entries_weak [] h = tt
  entries_weak (m.Number v ∷ es) h = (tt, entries_weak es h.1)
  entries_weak (m.Chan c ∷ es) h = (weaker c h.0, entries_weak es h.1)
  entries_weak (m.Pointer a ∷ es) h = (tt, entries_weak es h.1)
  entries_weak (m.Cells cs ∷ es) h = (cells_weak cs h.0, entries_weak es h.1)
  entries_weak (m.Link r ∷ es) h = (tt, entries_weak es h.1)
  entries_weak (m.Reply r ∷ es) h = (tt, entries_weak es h.1)

  stop_weak : (s : Stop) → StopHas C s → StopHas D s
  stop_weak (Sends c k cs) h = (weaker c h.0, cells_weak cs h.1)
  stop_weak (Receives c k a) h = weaker c h
  stop_weak _ _ = tt

  config_weak : (q : ℕ) (c : Config (Memory Plain)) → ConfigHas C (MemoryHas C q) c → ConfigHas D (MemoryHas D q) c
  config_weak q (At pc st n) (entries, (number_is, store)) =
      (entries_weak st entries, (number_is, λ p. cells_weak (cells_at plain n.store p) (store p)))

  condition_weak : (q : ℕ) (x : Condition Plain) → ConditionHas C q x → ConditionHas D q x
  condition_weak q Absent h = tt
  condition_weak q (Working c) h = config_weak q c h
  condition_weak q (Waits stop c) h = (stop_weak stop h.0, config_weak q c h.1)
  condition_weak q (Joins n c) h = config_weak q c h
  condition_weak q (Laid c) h = config_weak q c h
  condition_weak q Gone h = tt
  condition_weak q (Over c) h = config_weak q c h

-- ---- what happens, with one property throughout

module _ (g : CodeRun) (C : ℕ → Type 0) where
  abbrev HasChannels : ℕ → Condition Plain → Type 0
  HasChannels q x = ConditionHas C q x

  abbrev Mine : ℕ → Config (Memory Plain) → Type 0
  Mine q c = ConfigHas C (MemoryHas C q) c

  at_has : (z : ℕ) (x : Condition Plain) (f : ℕ → Condition Plain) → HasChannels z x → ((r : ℕ) → HasChannels r (f r))
      → (r : ℕ)
      → HasChannels r (at_key ◌==◌ z x f r)
  at_has z x f h a r = go (z == r) refl
    where
      go : (b : Bool) → z == r ≡ b → HasChannels r (cond b x (f r))
      go true e = subst (λ y. HasChannels y x) (eqb-true z r e) h
      go false e = a r

  store_has : (q : ℕ) (c : Config (Memory Plain)) → Mine q c → StoreHas C plain (store_of c)
  store_has q (At pc st n) (_, (_, store)) = store

  on_has : (q : ℕ) (f : Plain → Plain) (c : Config (Memory Plain))
      → (StoreHas C plain (store_of c) → StoreHas C plain (f (store_of c))) → Mine q c → Mine q (on_store f c)
  on_has q f (At pc st n) k (entries, (number_is, store)) = (entries, (number_is, k store))

  entered_has : (q : ℕ) (c : Config (Memory Plain)) → Mine q c → Mine q (process_at_entry c)
  entered_has q (At pc st n) h = h

  newborn_has : (q : ℕ) (c : Config (Memory Plain)) (v : ℤ) (r k : ℕ) (child : ChildTable) → Mine q c
      → Mine r (child_process plain g c v r k child)
  newborn_has q c v r k child h = (
    tt,
    (
      refl,
      child_has C (store_of c).map (handing_of g.code.layouts (frames_of c) v k child) (store_has q c h),
    ),
  )

  received_has : (q : ℕ) (cs : List Cell) (x : Condition Plain) → CellsHave C cs → HasChannels q x
      → HasChannels q (after_message plain g cs x)
  received_has q cs Absent k h = tt
  received_has q cs (Working c) k h = h
  received_has q cs (Waits (Receives d j a) c) k h = on_has q _ c (λ w. puts_has g C q a cs (store_of c) w k) h.1
  received_has q cs (Waits (Sends d j bs) c) k h = h.1
  received_has q cs (Waits (Forks t v n) c) k h = h.1
  received_has q cs (Waits (Opens a) c) k h = h.1
  received_has q cs (Waits Ends c) k h = h.1
  received_has q cs (Waits Pauses c) k h = h.1
  received_has q cs (Joins n c) k h = h
  received_has q cs (Laid c) k h = h
  received_has q cs Gone k h = tt
  received_has q cs (Over c) k h = h

  stop_message : (stop : Stop) → StopHas C stop → CellsHave C (message_of plain g (Some stop))
  stop_message (Sends c k cs) h = h.1
  stop_message _ _ = tt

  message_has : (q : ℕ) (x : Condition Plain) → HasChannels q x → CellsHave C (message_of plain g (stop_of x))
  message_has q (Waits stop c) h = stop_message stop h.0
  message_has _ _ _ = tt

  rejoined_has : (p q : ℕ) (c : Config (Memory Plain)) (x : Condition Plain) → Mine p c → HasChannels q x
      → HasChannels q (parent_after_join plain g c x)
  rejoined_has p q c Absent k h = tt
  rejoined_has p q c (Working d) k h = h
  rejoined_has p q c (Waits stop d) k h = h
  rejoined_has p q c (Joins n d) k h = go (n == 1)
    where
      e : Config (Memory Plain)
      e = on_store (λ m. plain.joined m (store_of c)) d

      w : Mine q e
      w = on_has q _ d (λ x. taken_has C (store_of c).map (store_of c).moved (store_of d).map (store_has p c k) x) h

      go : (b : Bool) → HasChannels q (if b then Working e else Joins (n - 1) e)
      go true = w
      go false = w
  rejoined_has p q c (Laid d) k h = h
  rejoined_has p q c Gone k h = tt
  rejoined_has p q c (Over d) k h = h

  module _ (s : System Plain) (q : ℕ) (each : (r : ℕ) → HasChannels r (s.condition r)) where
    sent_has : (stop : Stop) (ch : ℕ) (cs : List Cell) (c : Config (Memory Plain)) (o : Option ℕ) → StopHas C stop
        → CellsHave C cs → Mine q c → (r : ℕ) → HasChannels r ((apply_send plain g q stop ch cs c o s).condition r)
    sent_has stop ch cs c None w k h = at_has q (Waits stop c) s.condition (w, h) each
    sent_has stop ch cs c (Some z) w k h = at_has q (Working c) _ h
        (at_has z (after_message plain g cs (s.condition z)) s.condition
        (received_has z cs (s.condition z) k (each z)) each)

    taken_by : (stop : Stop) (ch : ℕ) (a : Address) (c : Config (Memory Plain)) (o : Option ℕ) → StopHas C stop
        → Mine q c → (r : ℕ) → HasChannels r ((apply_receive plain g q stop ch a c o s).condition r)
    taken_by stop ch a c None w h = at_has q (Waits stop c) s.condition (w, h) each
    taken_by stop ch a c (Some z) w h =
        at_has q (Working (on_store (put_cells plain a (message_of plain g (stop_of (s.condition z)))) c)) _
        (on_has q _ c (λ x. puts_has g C q a (message_of plain g (stop_of (s.condition z))) (store_of c) x
        (message_has z (s.condition z) (each z))) h)
        (at_has z (after_message plain g [] (s.condition z)) s.condition (received_has z [] (s.condition z) tt (each z))
        each)

    reported_has : (c : Config (Memory Plain)) (o : Option Birth) → Mine q c → (r : ℕ)
        → HasChannels r ((apply_end plain g q c o s).condition r)
    reported_has c None h = at_has q (Over c) s.condition h each
    reported_has c (Some b) h = at_has b.parent (parent_after_join plain g c (s.condition b.parent)) _
        (rejoined_has q b.parent c (s.condition b.parent) h (each b.parent)) (at_has q Gone s.condition tt each)

    forked_has : (t : ℕ) (v : ℤ) (n : ℕ) (c : Config (Memory Plain)) → Mine q c → (r : ℕ)
        → HasChannels r ((apply_stop plain g q (Forks t v n) c s).condition r)
    forked_has t v n c h r = go (is_next s.births n r)
      where
        child : ChildTable
        child = child_or (child_at (table_or (slice_get g.code.forks t)) (r - s.births.processes))

        go : (b : Bool) → HasChannels r (cond b (Working (child_process plain g c v r (r - s.births.processes) child))
            (at_key ◌==◌ q (Joins n (on_store (λ m. plain.handed m (plan_of plain g c t v n)) c)) s.condition r))
        go true = newborn_has q c v r (r - s.births.processes) child h
        go false = at_has q (Joins n (on_store (λ m. plain.handed m (plan_of plain g c t v n)) c)) s.condition
            (on_has q _ c (λ x. handed_has C (store_of c).map (plan_of plain g c t v n) x) h) each r

    -- the channel of an open has the property too
    abbrev Opening : Stop → Type 0
    Opening (Opens a) = C s.births.channels
    Opening _ = Unit {0}

    happens_has : (stop : Stop) (c : Config (Memory Plain)) → StopHas C stop → Mine q c → Opening stop → (r : ℕ)
        → HasChannels r ((apply_stop plain g q stop c s).condition r)
    happens_has (Forks t v n) c w h o r = forked_has t v n c h r
    happens_has (Opens a) c w h o r = at_has q (Working _) s.condition
        (on_has q _ c (λ x. put_has g C q a (cell.Channel s.births.channels) (store_of c) x o) h) each r
    happens_has (Sends ch k cs) c w h o r = sent_has (Sends ch k cs) ch cs c (s.pending ch) w w.1 h r
    happens_has (Receives ch k a) c w h o r = taken_by (Receives ch k a) ch a c (s.pending ch) w h r
    happens_has Ends c w h o r = reported_has c (s.births.birth q) h r
    happens_has Pauses c w h o r = at_has q (Working c) s.condition h each r

    lays_has : (c : Config (Memory Plain)) → Mine q c → (r : ℕ) → HasChannels r ((lays plain g q c s).condition r)
    lays_has c h = at_has q (Laid c) s.condition h each

-- ---- one entry

channels_grow : (b : Births) (q : ℕ) (e : Event) → b.channels ≤ (births_after_event b q e).channels
channels_grow b q (event.Fork n) = omega arith
channels_grow _ _ _ = omega arith

abbrev B : System Plain → ℕ → Event → ℕ → Type 0
B s q e c = c < (births_after_event s.births q e).channels

module _ (g : CodeRun) where
  after_spoken : (s : System Plain) (q : ℕ) (t : Turn (Memory Plain)) → NamesChannels s
      → TurnHas (λ c. c < s.births.channels) (MemoryHas (λ c. c < s.births.channels) q) t
      → NamesChannels (system_after_turn plain g q t s)
  after_spoken s q t h k r = go s.faulted
    where
      weak : (e : Event) (c : ℕ) → c < s.births.channels → B s q e c
      weak e c l = let w = channels_grow s.births q e in omega (arith, w, l)

      all : (e : Event) (x : ℕ) → ConditionHas (B s q e) x (s.condition x)
      all e x = condition_weak (λ c. c < s.births.channels) (B s q e) (weak e) x (s.condition x) (h x)

      laid : (e : Event) (c : Config (Memory Plain))
          → ConfigHas (λ c. c < s.births.channels) (MemoryHas (λ c. c < s.births.channels) q) c
          → ConditionHas (B s q e) r ((lays plain g q c s).condition r)
      laid e c w = lays_has g (B s q e) s q (all e) c
          (config_weak (λ c. c < s.births.channels) (B s q e) (weak e) q c w) r

      config_has : (x : Turn (Memory Plain))
          → TurnHas (λ c. c < s.births.channels) (MemoryHas (λ c. c < s.births.channels) q) x
          → ConfigHas (λ c. c < s.births.channels) (MemoryHas (λ c. c < s.births.channels) q) (config_of x)
      config_has (Stopped stop c) w = w.1
      config_has (Faulted f c) w = w

      opened : (stop : Stop) → Opening g (B s q (event_at stop)) s q (all (event_at stop)) stop
      opened (Opens a) = omega arith
      opened _ = tt

      by_fault : (o : Option Fault) (x : Turn (Memory Plain))
          → TurnHas (λ c. c < s.births.channels) (MemoryHas (λ c. c < s.births.channels) q) x
          → ConditionHas (B s q (event_or o x)) r ((apply_unless_fault plain g o q x s).condition r)
      by_fault (Some f) x w = laid (event_or (Some f) x) (config_of x) (config_has x w)
      by_fault None (Faulted f c) w = laid (event.Fault f) c w
      by_fault None (Stopped stop c) w =
          let e : Event = event_at stop in
          happens_has g (B s q e) s q (all e) stop (process_at_entry c)
          (stop_weak (λ c. c < s.births.channels) (B s q e) (weak e) stop w.0)
          (entered_has g (B s q e) q c (config_weak (λ c. c < s.births.channels) (B s q e) (weak e) q c w.1))
          (opened stop) r

      go : (b : Bool) → ConditionHas (B s q (if b then event.Laid else event_or (fault_of g.limits s t) t)) r
          ((if b then lays plain g q (config_of t) s else apply_unless_fault plain g (fault_of g.limits s t) q t
          s).condition
          r)
      go true = laid event.Laid (config_of t) (config_has t k)
      go false = by_fault (fault_of g.limits s t) t k

  pub turn_spoken : (s : System Plain) (q : ℕ) (c : Config (Memory Plain)) (t : Turn (Memory Plain)) → NamesChannels s
      → s.condition q ≡ Working c → IsTurn (memory plain g) g.code c t
      → TurnHas (λ c. c < s.births.channels) (MemoryHas (λ c. c < s.births.channels) q) t
  turn_spoken s q c t h e turn =
      turn_has (memory plain g) g.code (λ c. c < s.births.channels) (MemoryHas (λ c. c < s.births.channels) q)
      (keeping g (λ c. c < s.births.channels) q) c t (subst (ConditionHas (λ c. c < s.births.channels) q) e (h q))
      turn

  pub enters_spoken : (s : System Plain) (q : ℕ) (e : Event) (t : System Plain) → NamesChannels s
      → EntryLeads plain g s q e t
      → NamesChannels t
  enters_spoken s q e t h (configuration, runs, turn, is_turn, _, leads) =
      subst NamesChannels (sym leads) (after_spoken s q turn h (turn_spoken s q configuration turn h runs is_turn))

  leads_spoken : (s : System Plain) (es : List Entry) (t : System Plain) → NamesChannels s → EntriesLead plain g s es t
      → NamesChannels t
  leads_spoken s [] t h l = subst NamesChannels (sym l) h
  leads_spoken s (e ∷ es) t h l = leads_spoken l.0 es t (enters_spoken s e.process e.event l.0 h l.1) l.2

  pub opening_spoken : NamesChannels (opening_system plain g)
  opening_spoken q = go (q == 0) refl
    where
      go : (b : Bool) → q == 0 ≡ b → ConditionHas (λ c. c < 0) q (if b then Working (first_process plain g) else Absent)
      go true e = (tt, (sym (eqb-true q 0 e), root_has (λ c. c < 0) (sizes_of (m.layout_of g.code.layouts 0))))
      go false e = tt

  pub system_spoken : (es : List Entry) (s : System Plain) → IsSystem plain g es s → NamesChannels s
  system_spoken es s l = leads_spoken (opening_system plain g) es s opening_spoken l

  -- an offer speaks of a channel that is there
  pub offer_there : (es : List Entry) (s : System Plain) (q : ℕ) (c d : Config (Memory Plain)) (stop : Stop)
      → IsSystem plain g es s → s.condition q ≡ Working c → IsTurn (memory plain g) g.code c (Stopped stop d)
      → StopHas (λ c. c < s.births.channels) stop
  offer_there es s q c d stop l e turn = (turn_spoken s q c (Stopped stop d) (system_spoken es s l) e turn).0
