-- Along a history of safe code one process holds the output, and no other.
use Rattle.std.proofs.Common.{◌≡◌, ◌≢◌, ◌⊎◌, inl, inr, ℕ, ◌+◌, ◌-◌, ◌<◌, ◌==◌, ℤ, List, [], ◌∷◌, Option, Some, None}
use Rattle.std.proofs.Common.{Bool, true, false, cond, if◌then◌else◌, refl, sym, ap, ◌∙◌, subst, arith, zero-add}
use Rattle.std.specs.Prelude.{slice_get}
use Rattle.std.specs.FinMap as map
use Rattle.std.proofs.lemmas.Bool.{eqb-true}
use Rattle.std.proofs.lemmas.Option.{none-some, same_Some}
use Rattle.sp_base.specs.declared.fault.Fault.{Fault}
use Rattle.sp_cell.specs.declared.cell.Cell.{Cell}
use Rattle.sp_cell.specs.declared.cell.Cell.TheVariants as cell
use Rattle.sp_cell.specs.declared.spot.Spot.{Spot}
use Rattle.sp_cell.specs.declared.spot.Address.{Address}
use Rattle.sp_cell.specs.declared.spot.Handing.{Handing}
use Rattle.sp_cell.specs.Map.{Map, Content, Own, Shared, Output, Away, Plain, IsOutput, IsOwn, output_of, output_spot}
use Rattle.sp_cell.specs.Frame.{with_pieces}
use Rattle.sp_cell.specs.Fork.{moved_of}
use Rattle.sp_cell.specs.Spots.{In}
use Rattle.sp_cell.proofs.Plan.{in_or, not_both}
use Rattle.sp_cell.proofs.Laws.{get_other, get_here}
use Rattle.sp_journal.specs.declared.entry.Event.{Event}
use Rattle.sp_journal.specs.declared.entry.Event.TheVariants as event
use Rattle.sp_journal.specs.declared.entry.Entry.{Entry}
use Rattle.sp_journal.specs.declared.entry.Birth.{Birth}
use Rattle.sp_journal.specs.declared.entry.Note.{Note}
use Rattle.sp_journal.specs.Maps.{at_key}
use Rattle.sp_journal.specs.Births.{Births, births_after_event, is_next}
use Rattle.sp_code.specs.Tables.{child_at}
use Rattle.sp_code.specs.Machine as m
use Rattle.sp_code.specs.Machine.{Stop, Forks, Opens, Sends, Receives, Ends, Pauses, Config, At}
use Rattle.sp_code.specs.Turns.{Turn, Stopped, Faulted, IsTurn}
use Rattle.sp_code.specs.Memory.{CodeRun, Memory, memory, put_cell, put_cells, first_process, sizes_of}
use Rattle.sp_code.specs.PlainStore.{plain}
use Rattle.sp_code.specs.Sound.{CanSplit, CanJoin, StopsAt, IsSafeSystem}
use Rattle.sp_code.specs.Control.{Control, Out, after_note, control_at_start}
use Rattle.sp_code.specs.System.{System, Condition, Absent, Working, Waits, Joins, Laid, Gone, Over, event_at, event_or}
use Rattle.sp_code.specs.System.{event_of, fault_of, process_at_entry, frames_of, plan_of, child_process, handing_of}
use Rattle.sp_code.specs.System.{child_or}
use Rattle.sp_code.specs.System.{table_or, on_store, after_message, apply_send, apply_receive, parent_after_join}
use Rattle.sp_code.specs.System.{apply_end, apply_stop, apply_unless_fault}
use Rattle.sp_code.specs.System.{lays, system_after_turn, store_in, stop_of, message_of, store_of, config_of}
use Rattle.sp_code.specs.System.{opening_system, EntryLeads}
use Rattle.sp_code.specs.System.{EntriesLead, GiveIsLegal}
use Rattle.sp_code.specs.Agreement.{ToJoin, phase_in, IsOrderly, AgreesWithSystem, Reaches}
use Rattle.sp_code.specs.WorkerHistory.{HasChildren}
use Rattle.sp_code.specs.EntryCounts.{IsCounted}
use Rattle.sp_code.specs.Channels.{EntriesHave, ConfigHas, AimsAt, TurnDoes}
use Rattle.sp_code.specs.OutputHolder.{Share, HoldsIt, LendsIt, LacksIt, StoreIs, IsPart, Owned, AimsIn, IsShared}
use Rattle.sp_code.specs.OutputHolder.{HasHolder}
use Rattle.sp_code.specs.OutputHolder.{IsOutputOf}
use Rattle.sp_code.proofs.Queues.{number_or, at_same, at_other}
use Rattle.sp_code.proofs.Orders.{next_is, next_not, next_yes}
use Rattle.sp_code.proofs.OperationLaws.{turn_does}
use Rattle.sp_code.proofs.NameableRuns.{there, after_counted, opening_counted}
use Rattle.sp_code.proofs.Families.{parent_joins, children_by, children_start}
use Rattle.sp_code.proofs.ControlAgreement.{orderly_start, agrees_start}
use Rattle.sp_code.proofs.Legal.{keeps}
use Rattle.sp_code.proofs.Outputs.{Shares, AnyChannel, any_cells, own_is, target_apart, sharing}
use Rattle.sp_code.proofs.OutputHolder.{store_runs, store_waits, store_joins, store_laid, store_over, store_on}
use Rattle.sp_code.proofs.OutputHolder.{one_change, received_change, join_lacks, join_holds, no_lender, not_held}
use Rattle.sp_code.proofs.ForkOutputs.{plan_in, plan_found, plan_alone, fork_shares, fork_lends}

-- ---- births

-- a process that was born has a number, and an older parent
abbrev pub IsBorn : Births → Type 0
IsBorn b = (q : ℕ) (d : Birth) → b.birth q ≡ Some d → (q < b.processes) × (d.parent < q)

born_event : (b : Births) (q : ℕ) (e : Event) → q < b.processes → IsBorn b → IsBorn (births_after_event b q e)
born_event b q (event.Fork n) l h r d = go (is_next b n r) refl
  where
    go : (t : Bool) → is_next b n r ≡ t → cond t
        (Some (record { parent = q; fork = b.forks q; child = r - b.processes })) (b.birth r) ≡ Some d
        → (r < b.processes + n) × (d.parent < r)
    go true w k = let x = next_is b n r w in let y : q ≡ d.parent = ap (λ (z : Birth). z.parent) (same_Some _ _ k) in
        (omega (arith, x), omega (arith, x, y, l))
    go false w k = let x = h r d k in (omega (arith, x), x.1)
born_event _ _ _ _ h r d = h r d

-- ---- one entry

any_entries : (es : List m.Entry) → EntriesHave AnyChannel es
any_entries [] = tt
any_entries (m.Number v ∷ es) = (tt, any_entries es)
any_entries (m.Chan c ∷ es) = (tt, any_entries es)
any_entries (m.Pointer a ∷ es) = (tt, any_entries es)
any_entries (m.Cells cs ∷ es) = (any_cells cs, any_entries es)
any_entries (m.Link r ∷ es) = (tt, any_entries es)
any_entries (m.Reply r ∷ es) = (tt, any_entries es)

module _ (g : CodeRun) (s : System Plain) (q : ℕ) (c0 : Config (Memory Plain)) (runs : s.condition q ≡ Working c0)
    (h : HasHolder s) (counted : IsCounted s) (born : IsBorn s.births) (safe : IsSafeSystem g s)
    (joins : (b : Birth) → s.births.birth q ≡ Some b → (n : ℕ) × (d : Config (Memory Plain))
    × (s.condition b.parent ≡ Joins n d)) where
  abbrev moved : List Spot
  moved = (store_of c0).moved

  abbrev Mine : Config (Memory Plain) → Type 0
  Mine c = ConfigHas AnyChannel (Shares (h.share q) moved) c

  start : Mine c0
  start = go c0 runs
    where
      go : (c : Config (Memory Plain)) → s.condition q ≡ Working c
          → ConfigHas AnyChannel (Shares (h.share q) (store_of c).moved) c
      go (At pc st n) e = (any_entries st, (h.shared.stores q n.store (ap store_in e), refl))

  store_is : (c : Config (Memory Plain)) → Mine c → StoreIs (h.share q) (store_of c) × ((store_of c).moved ≡ moved)
  store_is (At pc st n) k = k.1

  entered_mine : (c : Config (Memory Plain)) → Mine c → Mine (process_at_entry c)
  entered_mine (At pc st n) k = k

  entered_aims : (stop : Stop) (c : Config (Memory Plain)) → AimsAt Owned stop c
      → AimsAt Owned stop (process_at_entry c)
  entered_aims (Forks t v n) (At pc st k) a = a
  entered_aims (Opens t) (At pc st k) a = a
  entered_aims (Sends c k cs) (At pc st n) a = a
  entered_aims (Receives c k t) (At pc st n) a = a
  entered_aims Ends (At pc st n) a = a
  entered_aims Pauses (At pc st n) a = a

  opens_owned : (a : Address) (c : Config (Memory Plain)) → AimsAt Owned (Opens a) c
      → IsOwn (map.get (store_of c).map a.spot)
  opens_owned a (At pc st n) k = k

  receives_owned : (ch k : ℕ) (a : Address) (c : Config (Memory Plain)) → AimsAt Owned (Receives ch k a) c
      → IsOwn (map.get (store_of c).map a.spot)
  receives_owned ch k a (At pc st n) i = i

  -- what the process becomes
  mine : (f : ℕ → Condition Plain) → IsShared h.share h.holder f s.births.birth → f q ≡ Working c0
      → (x : Condition Plain) (p : Plain) → store_in x ≡ Some p → StoreIs (h.share q) p → p.moved ≡ moved → AimsIn x
      → IsShared h.share h.holder (at_key ◌==◌ q x f) s.births.birth
  mine f k e x p now is same aims = one_change h.share h.holder s.births.birth f q x (store_of c0) p k
      (ap store_in e ∙ store_runs c0) now is same aims

  still : (z : ℕ) (cs : List Cell) → at_key ◌==◌ z (after_message plain g cs (s.condition z)) s.condition q ≡ Working c0
  still z cs = go (number_or z q)
    where
      go : (z ≡ q) ⊎ ((z ≢ q) × (z == q ≡ false))
          → at_key ◌==◌ z (after_message plain g cs (s.condition z)) s.condition q ≡ Working c0
      go (inl e) =
          subst (λ y. at_key ◌==◌ z (after_message plain g cs (s.condition z)) s.condition y
          ≡ after_message plain g cs (s.condition z)) e
          (at_same s.condition z (after_message plain g cs (s.condition z)))
          ∙ ap (after_message plain g cs) (ap s.condition e ∙ runs)
      go (inr o) = at_other s.condition z q (after_message plain g cs (s.condition z)) o.0 ∙ runs

  lays_held : (c : Config (Memory Plain)) → Mine c
      → IsShared h.share h.holder (at_key ◌==◌ q (Laid c) s.condition) s.births.birth
  lays_held c k = let i = store_is c k in mine s.condition h.shared runs (Laid c) (store_of c) (store_laid c) i.0 i.1 tt

  sent_held : (stop : Stop) (ch : ℕ) (cs : List Cell) (c : Config (Memory Plain)) (o : Option ℕ) → Mine c
      → AimsAt Owned stop c → IsShared h.share h.holder (apply_send plain g q stop ch cs c o s).condition s.births.birth
  sent_held stop ch cs c None k a = let i = store_is c k in
      mine s.condition h.shared runs (Waits stop c) (store_of c) (store_waits stop c) i.0 i.1 a
  sent_held stop ch cs c (Some z) k a =
      let i = store_is c k in
      mine (at_key ◌==◌ z (after_message plain g cs (s.condition z)) s.condition)
      (received_change h.share h.holder s.births.birth g s.condition z cs h.shared) (still z cs) (Working c)
      (store_of c) (store_runs c) i.0 i.1 tt

  taken_held : (stop : Stop) (ch : ℕ) (a : Address) (c : Config (Memory Plain)) (o : Option ℕ) → Mine c
      → AimsAt Owned stop c → IsOwn (map.get (store_of c).map a.spot)
      → IsShared h.share h.holder (apply_receive plain g q stop ch a c o s).condition s.births.birth
  taken_held stop ch a c None k i w = let j = store_is c k in
      mine s.condition h.shared runs (Waits stop c) (store_of c) (store_waits stop c) j.0 j.1 i
  taken_held stop ch a c (Some z) k i w =
      let j = store_is c k in
      let cs : List Cell = message_of plain g (stop_of (s.condition z)) in
      mine (at_key ◌==◌ z (after_message plain g [] (s.condition z)) s.condition)
      (received_change h.share h.holder s.births.birth g s.condition z [] h.shared) (still z [])
      (Working (on_store (put_cells plain a cs) c)) (put_cells plain a cs (store_of c))
      (store_runs (on_store (put_cells plain a cs) c) ∙ ap (λ y. Some y) (store_on (put_cells plain a cs) c))
      (own_is (h.share q) (store_of c) a.spot _ (target_apart (h.share q) (store_of c) a.spot j.0 w) j.0) j.1 tt

  -- an end
  end_held : (c : Config (Memory Plain)) (o : Option Birth) → s.births.birth q ≡ o → Mine c
      → ((n : ℕ) (b : Birth) (d : Config (Memory Plain)) → s.births.birth q ≡ Some b → s.condition b.parent ≡ Joins n d
      → CanJoin (store_of d) (store_of c))
      → HasHolder (record (apply_end plain g q c o s) { births = s.births })
  end_held c None e k can = let i = store_is c k in
      record {
        share = h.share;
        holder = h.holder;
        shared = mine s.condition h.shared runs (Over c) (store_of c) (store_over c) i.0 i.1 tt;
      }
  end_held c (Some b) e k can = go (h.share q) refl
    where
      j : (n : ℕ) × (d : Config (Memory Plain)) × (s.condition b.parent ≡ Joins n d)
      j = joins b e

      x : Condition Plain
      x = parent_after_join plain g c (s.condition b.parent)

      mother : store_in (s.condition b.parent) ≡ Some (store_of j.1)
      mother = ap store_in j.2 ∙ store_joins j.0 j.1

      back : Config (Memory Plain)
      back = on_store (λ y. plain.joined y (store_of c)) j.1

      x_is : (t : Bool) → (j.0 == 1) ≡ t → x ≡ (if t then Working back else Joins (j.0 - 1) back)
      x_is t w = ap (parent_after_join plain g c) j.2 ∙ ap (λ u. if u then Working back else Joins (j.0 - 1) back) w

      now : (t : Bool) → (j.0 == 1) ≡ t → store_in x ≡ Some (plain.joined (store_of j.1) (store_of c))
      now true w = ap store_in (x_is true w) ∙ store_runs back
          ∙ ap (λ y. Some y) (store_on (λ y. plain.joined y (store_of c)) j.1)
      now false w = ap store_in (x_is false w) ∙ store_joins (j.0 - 1) back
          ∙ ap (λ y. Some y) (store_on (λ y. plain.joined y (store_of c)) j.1)

      aims : (t : Bool) → (j.0 == 1) ≡ t → AimsIn x
      aims true w = subst AimsIn (sym (x_is true w)) tt
      aims false w = subst AimsIn (sym (x_is false w)) tt

      order : (r : ℕ) (d : Birth) → s.births.birth r ≡ Some d → d.parent < r
      order r d w = (born r d w).1

      was : store_in (s.condition q) ≡ Some (store_of c0)
      was = ap store_in runs ∙ store_runs c0

      go : (y : Share) → h.share q ≡ y → HasHolder (record (apply_end plain g q c (Some b) s) { births = s.births })
      go LacksIt w = record {
        share = h.share;
        holder = h.holder;
        shared = join_lacks h.share h.holder s.births.birth s.condition h.shared order q b e (store_of c) (store_of c0)
            (store_of j.1) x was (store_is c k).0 (store_is c k).1 mother (can j.0 b j.1 e j.2) (now (j.0 == 1) refl)
            (aims (j.0 == 1) refl) w;
      }
      go HoldsIt w = record {
        share = at_key ◌==◌ b.parent HoldsIt (at_key ◌==◌ q LacksIt h.share);
        holder = b.parent;
        shared = join_holds h.share h.holder s.births.birth s.condition h.shared order q b e (store_of c) (store_of c0)
            (store_of j.1) x was (store_is c k).0 (store_is c k).1 mother (can j.0 b j.1 e j.2) (now (j.0 == 1) refl)
            (aims (j.0 == 1) refl) w;
      }
      go LendsIt w =
          absurd (no_lender h.share h.holder s.births.birth s.condition h.shared order q b e (store_of c) (store_of c0)
          (store_of j.1) x was (store_is c k).0 (store_is c k).1 mother (can j.0 b j.1 e j.2) (now (j.0 == 1) refl)
          (aims (j.0 == 1) refl) w)

  -- a fork
  fork_held : (t : ℕ) (v : ℤ) (n : ℕ) (c : Config (Memory Plain)) → Mine c
      → CanSplit (store_of c) (plan_of plain g c t v n)
      → HasHolder (record (apply_stop plain g q (Forks t v n) c s) {
        births =
            births_after_event s.births q (event.Fork n);
      })
  fork_held t v n c k can = go (h.share q) refl
    where
      nx : ℕ → Bool
      nx r = is_next s.births n r

      child : ℕ → Config (Memory Plain)
      child r = child_process plain g c v r (r - s.births.processes)
          (child_or (child_at (table_or (slice_get g.code.forks t)) (r - s.births.processes)))

      H : ℕ → Handing
      H r = handing_of g.code.layouts (frames_of c) v (r - s.births.processes)
          (child_or (child_at (table_or (slice_get g.code.forks t)) (r - s.births.processes)))

      made : ℕ → Birth
      made r = record { parent = q; fork = s.births.forks q; child = r - s.births.processes }

      hs : List Handing
      hs = plan_of plain g c t v n

      e : Config (Memory Plain)
      e = on_store (λ y. plain.handed y hs) c

      not_q : nx q ≡ false
      not_q = next_not s.births n q (there g s q c0 runs counted)

      here : (r : ℕ) (p : Plain) → store_in (s.condition r) ≡ Some p → nx r ≡ false
      here r p w = by (nx r) refl
        where
          by : (b : Bool) → nx r ≡ b → nx r ≡ false
          by false z = z
          by true z = absurd (none-some _ (ap store_in (sym (counted.absent r (next_is s.births n r z).0)) ∙ w))

      old : (r : ℕ) (d : Birth) → s.births.birth r ≡ Some d → nx d.parent ≡ false
      old r d w = let x = born r d w in next_not s.births n d.parent (omega (arith, x))

      was : store_in (s.condition q) ≡ Some (store_of c0)
      was = ap store_in runs ∙ store_runs c0

      few : (r : ℕ) → nx r ≡ true → r - s.births.processes < n
      few r w = let x = next_is s.births n r w in omega (arith, x)

      hand : ℕ → List Spot
      hand j = (handing_of g.code.layouts (frames_of c) v j
          (child_or (child_at (table_or (slice_get g.code.forks t)) j))).moved

      inside : (r : ℕ) → nx r ≡ true → In output_spot (H r).moved → In output_spot (moved_of hs)
      inside r w i = plan_in g.code.layouts (frames_of c) (table_or (slice_get g.code.forks t)) v output_spot 0 n
          (r - s.births.processes) (few r w)
          (subst (λ j. In output_spot (hand j)) (sym (zero-add (r - s.births.processes))) i)

      kept : (IsPart (h.share q) → In output_spot (moved_of hs) → ⊥)
          → HasHolder (record (apply_stop plain g q (Forks t v n) c s) {
            births =
                births_after_event s.births q (event.Fork n);
          })
      kept output_stays = record {
        share = λ r. cond (nx r) LacksIt (h.share r);
        holder = h.holder;
        shared = fork_shares h.share h.holder s.births.birth s.condition h.shared nx q child H made n e (store_of c)
            (store_of c0) hs not_q here old (λ r. refl) was (store_is c k).0 (store_is c k).1 can
            (store_on (λ y. plain.handed y hs) c) (λ r. refl) output_stays inside;
      }

      lends : h.share q ≡ HoldsIt → In output_spot (moved_of hs)
          → HasHolder (record (apply_stop plain g q (Forks t v n) c s) {
            births =
                births_after_event s.births q (event.Fork n);
          })
      lends w i = record {
        share = λ r. cond (nx r) (cond (r0 == r) HoldsIt LacksIt) (at_key ◌==◌ q LendsIt h.share r);
        holder = r0;
        shared = fork_lends h.share h.holder s.births.birth s.condition h.shared nx q child H made n e (store_of c)
            (store_of c0) hs not_q here old (λ r. refl) was (store_is c k).0 (store_is c k).1 can
            (store_on (λ y. plain.handed y hs) c) (λ r. refl) w r0 new0 has0 i alone;
      }
        where
          found : (j : ℕ) × (j < n) × In output_spot (hand (0 + j))
          found = plan_found g.code.layouts (frames_of c) (table_or (slice_get g.code.forks t)) v output_spot 0 n i

          r0 : ℕ
          r0 = s.births.processes + found.0

          index : r0 - s.births.processes ≡ found.0
          index = omega arith

          new0 : nx r0 ≡ true
          new0 = next_yes s.births n r0 (omega arith) (omega (arith, found.1))

          has0 : In output_spot (H r0).moved
          has0 = subst (λ j. In output_spot (hand j)) (zero-add found.0 ∙ sym index) found.2

          alone : (r : ℕ) → nx r ≡ true → In output_spot (H r).moved → r0 ≡ r
          alone r w j =
              let same : found.0 ≡ r - s.births.processes =
              plan_alone g.code.layouts (frames_of c) (table_or (slice_get g.code.forks t)) v output_spot 0 n
              found.0 (r - s.births.processes) can.distinct found.1 (few r w) found.2
              (subst (λ x. In output_spot (hand x)) (sym (zero-add (r - s.births.processes))) j) in
              let x = next_is s.births n r w in
              omega (arith, same, x)

      go : (y : Share) → h.share q ≡ y → HasHolder
          (record (apply_stop plain g q (Forks t v n) c s) { births = births_after_event s.births q (event.Fork n) })
      go LacksIt w = kept (λ i. absurd (subst IsPart w i))
      go LendsIt w = kept (λ i j. not_held (map.get (store_of c).map output_spot)
          (subst (λ y. StoreIs y (store_of c)) w (store_is c k).0).0 (can.held output_spot j))
      go HoldsIt w = elim (in_or output_spot (moved_of hs)) [
        | inl i ↦ lends w i
        | inr i ↦ kept (λ y j. not_both output_spot (moved_of hs) j i)
      ]

  split_now : (t n : ℕ) (v : ℤ) (d : Config (Memory Plain)) → CanSplit (store_of d) (plan_of plain g d t v n)
      → CanSplit (store_of (process_at_entry d)) (plan_of plain g (process_at_entry d) t v n)
  split_now t n v (At pc st k) can = can

  join_now : (p : Plain) (d : Config (Memory Plain)) → CanJoin p (store_of d)
      → CanJoin p (store_of (process_at_entry d))
  join_now p (At pc st k) can = can

  happens_held : (stop : Stop) (d : Config (Memory Plain)) → Mine d → AimsAt Owned stop d → StopsAt g s q stop d
      → HasHolder (record (apply_stop plain g q stop (process_at_entry d) s)
      { births = births_after_event s.births q (event_at stop) })
  happens_held (Forks t v n) d k a stops = fork_held t v n (process_at_entry d) (entered_mine d k)
      (split_now t n v d (safe.forks q t n v d stops))
  happens_held (Opens a) d k i stops =
      let c : Config (Memory Plain) = process_at_entry d in
      let j = store_is c (entered_mine d k) in
      let w = opens_owned a c (entered_aims (Opens a) d i) in
      record {
        share = h.share;
        holder = h.holder;
        shared = mine s.condition h.shared runs
            (Working (on_store (put_cell plain a (cell.Channel s.births.channels)) c))
            (put_cell plain a (cell.Channel s.births.channels) (store_of c))
            (store_runs (on_store (put_cell plain a (cell.Channel s.births.channels)) c)
            ∙ ap (λ y. Some y) (store_on (put_cell plain a (cell.Channel s.births.channels)) c))
            (own_is (h.share q) (store_of c) a.spot _ (target_apart (h.share q) (store_of c) a.spot j.0 w) j.0) j.1
            tt;
      }
  happens_held (Sends ch n cs) d k a stops =
      record {
        share = h.share;
        holder = h.holder;
        shared = sent_held (Sends ch n cs) ch cs (process_at_entry d) (s.pending ch) (entered_mine d k)
            (entered_aims (Sends ch n cs) d a);
      }
  happens_held (Receives ch n t) d k a stops = record {
    share = h.share;
    holder = h.holder;
    shared = let i = entered_aims (Receives ch n t) d a in
        taken_held (Receives ch n t) ch t (process_at_entry d) (s.pending ch) (entered_mine d k) i
        (receives_owned ch n t (process_at_entry d) i);
  }
  happens_held Ends d k a stops = end_held (process_at_entry d) (s.births.birth q) refl (entered_mine d k)
      (λ n b e w j. join_now (store_of e) d (safe.ends q n b d e stops w j))
  happens_held Pauses d k a stops =
      let i = store_is (process_at_entry d) (entered_mine d k) in
      record {
        share = h.share;
        holder = h.holder;
        shared = mine s.condition h.shared runs (Working (process_at_entry d)) (store_of (process_at_entry d))
            (store_runs (process_at_entry d)) i.0 i.1 tt;
      }

  config_mine : (t : Turn (Memory Plain)) → TurnDoes AnyChannel (Shares (h.share q) moved) Owned t → Mine (config_of t)
  config_mine (Stopped stop d) k = k.1
  config_mine (Faulted f d) k = k

  pub after_held : (t : Turn (Memory Plain)) → IsTurn (memory plain g) g.code c0 t
      → HasHolder (system_after_turn plain g q t s)
  after_held t turn = go s.faulted refl
    where
      does : TurnDoes AnyChannel (Shares (h.share q) moved) Owned t
      does = turn_does (memory plain g) g.code AnyChannel (Shares (h.share q) moved) Owned (sharing g (h.share q) moved)
          c0 t start turn

      laid : (c : Config (Memory Plain)) (f : Bool) → Mine c
          → HasHolder (record (lays plain g q c s) { faulted = f; births = s.births })
      laid c f k = record { share = h.share; holder = h.holder; shared = lays_held c k }

      by_fault : (o : Option Fault) → s.faulted ≡ false → fault_of g.limits s t ≡ o → (x : Turn (Memory Plain)) → t ≡ x
          → TurnDoes AnyChannel (Shares (h.share q) moved) Owned x
          → HasHolder (record (apply_unless_fault plain g o q x s) {
            births =
                births_after_event s.births q (event_or o x);
          })
      by_fault (Some f) w e x is k = laid (config_of x) true (config_mine x k)
      by_fault None w e (Faulted f d) is k = laid d true k
      by_fault None w e (Stopped stop d) is ((_, aims), holds) =
          happens_held stop d holds aims (record {
            configuration = c0;
            runs = runs;
            turn = subst (IsTurn (memory plain g) g.code c0) is turn;
            no_fault = w;
            fine = ap (fault_of g.limits s) (sym is) ∙ e;
          })

      go : (b : Bool) → s.faulted ≡ b → HasHolder
          (record (if b then lays plain g q (config_of t) s else apply_unless_fault plain g
          (fault_of g.limits s t) q t s)
          { births = births_after_event s.births q (if b then event.Laid else event_or (fault_of g.limits s t) t) })
      go true w = record { share = h.share; holder = h.holder; shared = lays_held (config_of t) (config_mine t does) }
      go false w = by_fault (fault_of g.limits s t) w refl t refl does

-- ---- the start

pub pieces_later : (m : Map) (n v : ℕ) (cs : List ℕ) (q : Spot) → q.variable < v
    → map.get (with_pieces m n v cs) q ≡ map.get m q
pieces_later m n v [] q l = refl
pieces_later m n v (c ∷ cs) q l =
    pieces_later (map.insert m (record { frame = n; variable = v })
    (Own (Rattle.std.specs.Prelude.replicate c cell.Undefined))) n (v + 1) cs q (omega (arith, l))
    ∙ get_other m (record { frame = n; variable = v }) (Own (Rattle.std.specs.Prelude.replicate c cell.Undefined)) q
    (λ e. let w : q.variable ≡ v = ap (λ (t : Spot). t.variable) e in omega (arith, w, l))

root_output : (sizes : List ℕ) → map.get (plain.root sizes).map output_spot ≡ Some (Output [])
root_output sizes = pieces_later _ 0 2 sizes output_spot (omega arith) ∙ get_here _ output_spot (Output [])

pub opening_held : (g : CodeRun) → HasHolder (opening_system plain g)
opening_held g = record {
  share = λ q. if q == 0 then HoldsIt else LacksIt;
  holder = 0;
  shared = record {
    holds = refl;
    only = λ q e. only q (q == 0) refl e;
    here = (plain.root (sizes_of (m.layout_of g.code.layouts 0)), refl);
    stores = λ q p e. stores p (q == 0) e;
    up = λ q b e. absurd (cc e);
    siblings = λ q r b d e. absurd (cc e);
    had = λ q b p e. absurd (cc e);
    not_had = λ q b p e. absurd (cc e);
    aims = λ q. aims (q == 0);
  };
}
  where
    only : (q : ℕ) (b : Bool) → q == 0 ≡ b → (if b then HoldsIt else LacksIt) ≡ HoldsIt → q ≡ 0
    only q true w e = eqb-true q 0 w
    only q false w e = absurd (cc e)

    stores : (p : Plain) (b : Bool) → store_in (if b then Working (first_process plain g) else Absent) ≡ Some p
        → StoreIs (if b then HoldsIt else LacksIt) p
    stores p true e = subst (StoreIs HoldsIt) (same_Some _ _ e)
        (subst IsOutput (sym (root_output (sizes_of (m.layout_of g.code.layouts 0)))) tt, tt)
    stores p false e = absurd (none-some _ e)

    aims : (b : Bool) → AimsIn (if b then Working (first_process plain g) else Absent)
    aims true = tt
    aims false = tt

-- ---- along a history

joins_of : (n : ℕ) (x : Condition Plain) → ToJoin n ≡ phase_in x → (d : Config (Memory Plain)) × (x ≡ Joins n d)
joins_of n (Joins k d) e = let w : k ≡ n = cc in (d, ap (λ y. Joins y d) w)
joins_of n Absent e = absurd (cc e)
joins_of n (Working c) e = absurd (cc e)
joins_of n (Waits (Sends c k cs) d) e = absurd (cc e)
joins_of n (Waits (Receives c k a) d) e = absurd (cc e)
joins_of n (Waits (Forks t v k) d) e = absurd (cc e)
joins_of n (Waits (Opens a) d) e = absurd (cc e)
joins_of n (Waits Ends d) e = absurd (cc e)
joins_of n (Waits Pauses d) e = absurd (cc e)
joins_of n (Laid c) e = absurd (cc e)
joins_of n Gone e = absurd (cc e)
joins_of n (Over c) e = absurd (cc e)

module _ (g : CodeRun) where
  -- every system that comes after s is safe
  abbrev pub AllSafe : System Plain → Type 0
  AllSafe s = (es : List Entry) (t : System Plain) → EntriesLead plain g s es t → IsSafeSystem g t

  record SystemInvariant (s : System Plain) : Type 0 where
    held : HasHolder s
    counted : IsCounted s
    born : IsBorn s.births
    safe : AllSafe s

  enters_fine : (k : Control) (s t : System Plain) (p w : ℕ) (e : Event) → IsOrderly k → AgreesWithSystem k s
      → HasChildren k
      → k.doing p ≡ Out w → EntryLeads plain g s p e t → SystemInvariant s → SystemInvariant t
  enters_fine k s t p w e o a c out (configuration, runs, turn, is_turn, event_is, leads) f = record {
    held =
        subst HasHolder (sym leads) (after_held g s p configuration runs f.held f.counted f.born (f.safe [] s refl)
        joins turn is_turn);
    counted = subst IsCounted (sym leads) (after_counted g s p configuration runs f.counted turn);
    born = subst (λ (y : System Plain). IsBorn y.births) (sym leads)
        (born_event s.births p (event_of g.limits s turn) (there g s p configuration runs f.counted) f.born);
    safe =
        λ es u l. f.safe (record { process = p; event = e } ∷ es) u
        (t, (configuration, runs, turn, is_turn, event_is, leads), l);
  }
    where
      joins : (b : Birth) → s.births.birth p ≡ Some b → (i : ℕ) × (d : Config (Memory Plain))
          × (s.condition b.parent ≡ Joins i d)
      joins b x =
          let j = parent_joins k c p w b out (ap (λ (y : Births). y.birth p) a.births ∙ x) in
          let d = joins_of j.0 (s.condition b.parent)
          (sym (ap Rattle.sp_code.specs.Agreement.phase j.1) ∙ a.each b.parent) in
          (j.0, d.0, d.1)

  gives_fine : (w : ℕ) (give : Option ℕ) (e : Option Event) (got : Option ℕ) (k : Control) (s t : System Plain)
      → IsOrderly k → AgreesWithSystem k s → HasChildren k → GiveIsLegal plain g k s w give e got t → SystemInvariant s
      → SystemInvariant t
  gives_fine w None None got k s t o a c i f = subst SystemInvariant (sym i) f
  gives_fine w None (Some e) got k s t o a c i f = absurd i
  gives_fine w (Some p) None got k s t o a c i f = subst SystemInvariant (sym i.2) f
  gives_fine w (Some p) (Some e) got k s t o a c i f = enters_fine k s t p w e o a c i.0 i.1 f

  reaches_fine : (k : Control) (s t : System Plain) (ns : List Note) → IsOrderly k → AgreesWithSystem k s
      → HasChildren k → SystemInvariant s
      → Reaches plain g k s ns t → SystemInvariant t
  reaches_fine k s t [] o a c f r = subst SystemInvariant r f
  reaches_fine k s t (n ∷ ns) o a c f r =
      let w = keeps plain g k s r.0 n o a r.1 in
      reaches_fine (after_note n k) r.0 t ns w.0 w.1
      (children_by plain g n.worker n.given n.event n.got k s r.0 o c r.1.gives r.1.gets)
      (gives_fine n.worker n.given n.event n.got k s r.0 o a c r.1.gives f) r.2

  output_text : (o : Option Content) → IsOutput o → (bs : List ℕ) × (output_of o ≡ Some bs)
  output_text (Some (Output bs)) e = (bs, refl)
  output_text None e = absurd e
  output_text (Some (Own cs)) e = absurd e
  output_text (Some (Shared cs)) e = absurd e
  output_text (Some Away) e = absurd e

  text_output : (o : Option Content) (bs : List ℕ) → output_of o ≡ Some bs → IsOutput o
  text_output (Some (Output cs)) bs e = tt
  text_output None bs e = absurd (cc e)
  text_output (Some (Own cs)) bs e = absurd (cc e)
  text_output (Some (Shared cs)) bs e = absurd (cc e)
  text_output (Some Away) bs e = absurd (cc e)

  is_holding : (y : Share) (p : Plain) → StoreIs y p → IsOutput (map.get p.map output_spot) → y ≡ HoldsIt
  is_holding HoldsIt p i o = refl
  is_holding LendsIt p i o = absurd (subst IsOutput i.0 o)
  is_holding LacksIt p i o = absurd (i o)

  one_output : (s : System Plain) → HasHolder s → (q : ℕ) × (bs : List ℕ) × IsOutputOf s q bs
  one_output s h =
      let p = h.shared.here in
      let t = output_text (map.get p.0.map output_spot)
      (subst (λ y. StoreIs y p.0) h.shared.holds (h.shared.stores h.holder p.0 p.1)).0 in (
        h.holder,
        t.0,
        record {
          store = p.0;
          store_is = p.1;
          output = t.1;
          only = λ r u cs w o. h.shared.only r
              (is_holding (h.share r) u (h.shared.stores r u w) (text_output (map.get u.map output_spot) cs o));
        },
      )

  -- after a history of safe code
  pub one_holder : (s : System Plain) (ns : List Note) → AllSafe (opening_system plain g)
      → Reaches plain g control_at_start (opening_system plain g) ns s → (q : ℕ) × (bs : List ℕ) × IsOutputOf s q bs
  one_holder s ns safe r =
      one_output s (reaches_fine control_at_start (opening_system plain g) s ns orderly_start (agrees_start plain g)
      children_start (record {
        held = opening_held g;
        counted = opening_counted g;
        born = λ q d e. absurd (cc e);
        safe = safe;
      }) r).held
