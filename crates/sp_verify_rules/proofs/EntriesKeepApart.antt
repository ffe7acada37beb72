-- Along every journal the stores of verified code are held apart: each entry keeps it.
use Rattle.std.proofs.Common.{◌≡◌, ◌≢◌, ◌⊎◌, inl, inr, ℕ, ◌-◌, ◌≤◌, ◌<◌, ◌==◌, if◌then◌else◌, cond, ℤ}
use Rattle.std.proofs.Common.{List, [], ◌∷◌}
use Rattle.std.proofs.Common.{length, Option, Some, None, Bool, true, false, refl, sym, ap, ◌∙◌, subst, arith}
use Rattle.std.specs.FinMap as map
use Rattle.std.specs.Prelude.{slice_get}
use Rattle.std.proofs.lemmas.Bool.{eqb-true}
use Rattle.std.proofs.lemmas.Option.{same_Some}
use Rattle.sp_base.specs.declared.fault.Fault.{Fault}
use Rattle.sp_tree.specs.Interference.{IsMember}
use Rattle.sp_cell.specs.declared.cell.Cell.{Cell}
use Rattle.sp_cell.specs.declared.cell.Cell.TheVariants as cell
use Rattle.sp_cell.specs.declared.spot.Spot.{Spot}
use Rattle.sp_cell.specs.declared.spot.Address.{Address}
use Rattle.sp_cell.specs.Map.{Own, Plain, IsHeld}
use Rattle.sp_cell.specs.Spots.{In}
use Rattle.sp_journal.specs.Births.{Births, is_next, first_births, births_after_event}
use Rattle.sp_journal.specs.Maps.{at_key}
use Rattle.sp_journal.specs.declared.entry.Birth.{Birth}
use Rattle.sp_journal.specs.declared.entry.Entry.{Entry as JournalEntry}
use Rattle.sp_journal.specs.declared.entry.Event.{Event}
use Rattle.sp_journal.specs.declared.entry.Event.TheVariants as event
use Rattle.sp_code.specs.Machine.{Entry, Stop, Forks, Opens, Sends, Receives, Ends, Pauses, Config, At}
use Rattle.sp_code.specs.Memory.{CodeRun, Home, Memory, put_cell, put_cells, memory, first_process}
use Rattle.sp_code.specs.PlainStore.{plain}
use Rattle.sp_code.specs.Sound.{CanSplit, CanJoin, StopsAt, IsSafeSystem, identity}
use Rattle.sp_code.specs.System.{Condition, Absent, Working, Waits, Joins, Laid, Gone, Over, System, frames_of}
use Rattle.sp_code.specs.System.{store_of}
use Rattle.sp_code.specs.System.{on_store, process_at_entry, config_of, message_of, stop_of, fault_of, event_or}
use Rattle.sp_code.specs.System.{event_at}
use Rattle.sp_code.specs.System.{apply_unless_fault, lays, apply_stop, after_message, parent_after_join, apply_end}
use Rattle.sp_code.specs.System.{apply_send, apply_receive, system_after_turn, opening_system}
use Rattle.sp_code.specs.System.{EntryLeads, EntriesLead, IsSystem, plan_of, child_process, child_or, table_or}
use Rattle.sp_code.specs.Tables.{child_at}
use Rattle.sp_code.specs.Turns.{Turn, Stopped, Faulted, IsTurn}
use Rattle.sp_code.proofs.Queues.{number_or, at_same, at_other}
use Rattle.sp_verify_rules.specs.Areas.{Area, homes}
use Rattle.sp_verify_rules.specs.Effects.{Does, May}
use Rattle.sp_verify_rules.specs.Forks.{KeepsEffects}
use Rattle.sp_verify_rules.specs.KeepsCodeRules.{KeepsCodeRules}
use Rattle.sp_verify_rules.specs.NameRules.{Unknown}
use Rattle.sp_verify_rules.specs.Rules.{BreaksV9}
use Rattle.sp_verify_rules.specs.ProcessLife.{HasActivations, StopInvariant}
use Rattle.sp_verify_rules.specs.Systems.{awaited_children, IsLive, LivesIn, Inv}
use Rattle.sp_verify_rules.specs.Writable.{IsWritable}
use Rattle.sp_verify_rules.proofs.TurnEnds.{T, Room, Sent}
use Rattle.sp_verify_rules.proofs.SafeRuns.{live_along, enters_live, safe_where}
use Rattle.sp_verify_rules.specs.Apart.{config_in, map_of, spots_moved, meaning, process_of, IsChildOf, AreApart}
use Rattle.sp_verify_rules.specs.Apart.{AreOlder}
use Rattle.sp_verify_rules.specs.OwnChange.{OwnChange}
use Rattle.sp_verify_rules.proofs.StoreChanges.{ChangesTo, becomes_apart, child_before}
use Rattle.sp_verify_rules.proofs.Conditions.{alike, twice, same_put}
use Rattle.sp_verify_rules.proofs.JoinOwners.{ends_apart}
use Rattle.sp_verify_rules.proofs.TurnChanges.{Out, StopWrites, turn_stops, turn_faults}
use Rattle.sp_verify_rules.proofs.ForkOwners.{after_fork, forks_apart}
use Rattle.sp_verify_rules.proofs.TurnStores.{change_none, change_twice, change_write, change_own}

module _ (g : CodeRun) (k : KeepsCodeRules g.code) (e : KeepsEffects g.code (Does g.code)) (known : (p : ℕ)
    → Unknown g.code p
    → ⊥) (small : g.limits.depth ≤ 4294967295) (v9 : (p : ℕ) → BreaksV9 g.code p → ⊥) where
  abbrev E : Area → ℕ → Type 0
  E = May g.code

  abbrev H : Area → List Home
  H = homes g.code

  abbrev IsInvariant : (ℕ → Condition Plain) → Births → Type 0
  IsInvariant f b = Inv g H E (T g) (Room g) (Sent g) f b

  -- ---- who has children

  module _ (f : ℕ → Condition Plain) (b : Births) (i : IsInvariant f b) where
    pub elder : AreOlder f b.birth
    elder r x h = subst (λ z. z < r) h.2 (i.older r h.0 h.1)

    nobody : (r : ℕ) (xs : List ℕ) → length xs ≡ 0 → IsMember r xs → ⊥
    nobody r [] w m = m
    nobody r (x ∷ xs) w m = omega (arith, w)

    -- who awaits none has none
    childless : (q : ℕ) → awaited_children (f q) ≡ 0 → (t : ℕ) → IsChildOf f b.birth t q → ⊥
    childless q none t (born, birth_is, parent_is, living) = nobody t (i.children q) (i.count q ∙ none)
        (subst (λ z. IsMember t (i.children z)) parent_is (i.all t born birth_is living))

  -- ---- an event

  module _ (s : System Plain) (i : IsInvariant s.condition s.births) (p : AreApart s.condition s.births.birth) (q : ℕ)
      (c0 : Config (Memory Plain)) (runs : s.condition q ≡ Working c0) where
    abbrev f : ℕ → Condition Plain
    f = s.condition

    abbrev birth : ℕ → Option Birth
    birth = s.births.birth

    older : AreOlder f birth
    older = elder f s.births i

    none : awaited_children (f q) ≡ 0
    none = ap awaited_children runs

    no_child : (t : ℕ) → IsChildOf f birth t q → ⊥
    no_child = childless f s.births i q none

    was : config_in (f q) ≡ Some c0
    was = ap config_in runs

    live : IsLive (f q)
    live = subst (λ z. IsLive z) (sym runs) tt

    mine : (us : List Area) × HasActivations g H E (T g) (i.base q) us c0 × T g us c0
    mine = subst (λ y. LivesIn g H E (T g) (Room g) (Sent g) i.base (i.base q) (i.children q) y) runs (i.each q)

    -- what a turn comes to
    abbrev TurnChanges : Config (Memory Plain) → Type 0
    TurnChanges d = (process_of d ≡ q) × ChangesTo q c0 d
        × ((z : Spot) → In z (spots_moved d) → IsHeld (map.get (map_of d) z))

    came : (d : Config (Memory Plain))
        → Out g k e known small (i.base q) (process_of c0) (frames_of c0) (store_of c0) d → TurnChanges d
    came d o =
        let n = p.number q c0 was in
        (o.0 ∙ n, subst (λ z. OwnChange z (frames_of c0) (store_of c0) (frames_of d) (store_of d)) n o.1, o.2)

    stopped : (x : Stop) (d : Config (Memory Plain)) → IsTurn (memory plain g) g.code c0 (Stopped x d)
        → TurnChanges d × StopWrites g k e known small q x d
    stopped x d is =
        let w = turn_stops g k e known small (i.base q) mine.0 c0 mine.1 mine.2 x d is in
        (came d w.0, subst (λ z. StopWrites g k e known small z x d) (p.number q c0 was) w.1)

    faulted : (u : Fault) (d : Config (Memory Plain)) → IsTurn (memory plain g) g.code c0 (Faulted u d) → TurnChanges d
    faulted u d is = came d (turn_faults g k e known small (i.base q) mine.0 c0 mine.1 mine.2 u d is)

    -- the process in another condition
    becomes : (y : Condition Plain) (d : Config (Memory Plain)) → config_in y ≡ Some d → ChangesTo q c0 d
        → process_of d ≡ q
        → IsLive y → AreApart (at_key ◌==◌ q y f) birth
    becomes y d now t n l = becomes_apart f birth p older q y c0 d was now no_child t n (λ z. live) (λ x o z. l)

    laid : (d : Config (Memory Plain)) → TurnChanges d → AreApart (at_key ◌==◌ q (Laid d) f) birth
    laid d w = becomes (Laid d) d refl w.1 w.0 tt

    -- ---- a put

    written : (d : Config (Memory Plain)) → TurnChanges d → (a : Address)
        → IsWritable q (spots_moved d) (frames_of d) a.spot
        → (h : Plain → Plain) → ((z : Plain) → (cs : List Cell) × (h z ≡ plain.owned z a.spot cs))
        → ChangesTo q c0 (on_store h d) × (process_of (on_store h d) ≡ q)
    written (At pc st n) w a may h is =
        let v = is n.store in (
          subst (λ (z : Plain). OwnChange q (frames_of c0) (store_of c0) n.frames z) (sym v.1)
              (change_twice q (frames_of c0) n.frames n.frames (store_of c0) n.store
              (plain.owned n.store a.spot v.0) w.1 (change_write q n.frames n.store a.spot (Own v.0) may w.2)),
          w.0,
        )

    -- ---- a message to another process

    -- z is in another condition, and no child is another one's
    abbrev Put : ℕ → Condition Plain → Type 0
    Put z x = AreApart (at_key ◌==◌ z x f) birth
        × ((r w : ℕ) → IsChildOf (at_key ◌==◌ z x f) birth r w → IsChildOf f birth r w)

    unchanged : (z : ℕ) (y : Condition Plain) → f z ≡ y → Put z y
    unchanged z y at = subst (Put z) at (
      alike f (at_key ◌==◌ z (f z) f) birth (λ r. sym (same_put f z r)) p,
      λ r w h. let (born, birth_is, parent_is, living) = h in (
        born,
        birth_is,
        parent_is,
        subst (λ y. IsLive y) (same_put f z r) living,
      ),
    )

    changed : (z : ℕ) (stop : Stop) (c d : Config (Memory Plain)) → f z ≡ Waits stop c → ChangesTo z c d
        → process_of d ≡ z → Put z (Working d)
    changed z stop c d at t n = (
      becomes_apart f birth p older z (Working d) c d (ap config_in at) refl
          (childless f s.births i z (ap awaited_children at)) t n (λ w. lives) (λ x o w. tt),
      λ r w h. child_before f birth p older z (Working d) c d (ap config_in at) refl
          (childless f s.births i z (ap awaited_children at)) t n (λ w. lives) (λ x o w. tt) r w h,
    )
      where
        lives : IsLive (f z)
        lives = subst (λ y. IsLive y) (sym at) tt

    goes_on : (z : ℕ) (stop : Stop) (c : Config (Memory Plain)) → f z ≡ Waits stop c → Put z (Working c)
    goes_on z stop c at = changed z stop c c at (change_none z (frames_of c) (store_of c))
        (p.number z c (ap config_in at))

    received_apart : (z : ℕ) (cs : List Cell) (y : Condition Plain) → f z ≡ y
        → LivesIn g H E (T g) (Room g) (Sent g) i.base (i.base z) (i.children z) y → Put z (after_message plain g cs y)
    received_apart z cs Absent at fine = unchanged z Absent at
    received_apart z cs (Working c) at fine = unchanged z (Working c) at
    received_apart z cs (Waits (Receives d j a) (At pc st n)) at (areas, _, _, stop_holds) = put areas stop_holds
      where
        put : (us : List Area) → StopInvariant g H E (T g) (Room g) (Sent g) (Receives d j a) us (At pc st n)
            → Put z (Working (on_store (put_cells plain a cs) (At pc st n)))
        put [] w = absurd w
        put (b ∷ us) w = changed z (Receives d j a) (At pc st n) (on_store (put_cells plain a cs) (At pc st n)) at
            (change_own z n.frames n.store a.spot _ w.1) (p.number z (At pc st n) (ap config_in at))
    received_apart z cs (Waits (Sends d j bs) c) at fine = goes_on z (Sends d j bs) c at
    received_apart z cs (Waits (Forks t v n) c) at fine = goes_on z (Forks t v n) c at
    received_apart z cs (Waits (Opens a) c) at fine = goes_on z (Opens a) c at
    received_apart z cs (Waits Ends c) at fine = goes_on z Ends c at
    received_apart z cs (Waits Pauses c) at fine = goes_on z Pauses c at
    received_apart z cs (Joins left c) at fine = unchanged z (Joins left c) at
    received_apart z cs (Laid c) at fine = unchanged z (Laid c) at
    received_apart z cs Gone at fine = unchanged z Gone at
    received_apart z cs (Over c) at fine = unchanged z (Over c) at

    -- the message goes over, and the process goes on
    abbrev got : ℕ → List Cell → ℕ → Condition Plain
    got z cs = at_key ◌==◌ z (after_message plain g cs (f z)) f

    got_still : (z : ℕ) (cs : List Cell) → got z cs q ≡ f q
    got_still z cs = go (number_or z q)
      where
        go : (z ≡ q) ⊎ ((z ≢ q) × ((z == q) ≡ false)) → got z cs q ≡ f q
        go (inl o) = subst (λ y. got z cs y ≡ f y) o (at_same f z (after_message plain g cs (f z))
            ∙ ap (after_message plain g cs) (here o) ∙ sym (here o))
          where
            here : z ≡ q → f z ≡ Working c0
            here o = ap f o ∙ runs
        go (inr d) = at_other f z q (after_message plain g cs (f z)) d.0

    meets : (z : ℕ) (cs : List Cell) (d : Config (Memory Plain)) → ChangesTo q c0 d → process_of d ≡ q
        → AreApart (at_key ◌==◌ q (Working d) (got z cs)) birth
    meets z cs d t n =
        let w = received_apart z cs (f z) refl (i.each z) in
        becomes_apart (got z cs) birth w.0 (λ r x h. older r x (w.1 r x h)) q (Working d) c0 d
        (ap config_in (got_still z cs) ∙ was) refl (λ r h. no_child r (w.1 r q h)) t n
        (λ v. subst (λ y. IsLive y) (sym (got_still z cs)) live) (λ x o v. tt)

    -- ---- a fork, and an end

    -- the process where it stopped, before the event
    abbrev stands : Config (Memory Plain) → ℕ → Condition Plain
    stands d = at_key ◌==◌ q (Working d) f

    standing : (d : Config (Memory Plain)) → TurnChanges d → AreApart (stands d) birth
    standing d w = becomes (Working d) d refl w.1 w.0 tt

    stands_child : (d : Config (Memory Plain)) → TurnChanges d → (r x : ℕ) → IsChildOf (stands d) birth r x
        → IsChildOf f birth r x
    stands_child d w r x h = child_before f birth p older q (Working d) c0 d was refl no_child w.1 w.0 (λ z. live)
        (λ x o z. tt) r x h

    module _ (t n : ℕ) (v : ℤ) (pc : ℕ) (st : List Entry) (m : Memory Plain)
        (w : TurnChanges (At pc st m)) (may : StopWrites g k e known small q (Forks t v n) (At pc st m))
        (split : CanSplit m.store (plan_of plain g (At pc st m) t v n)) where
      abbrev forker : Config (Memory Plain)
      forker = At pc st m

      abbrev mid : ℕ → Condition Plain
      mid = stands forker

      mid_older : AreOlder mid birth
      mid_older r x h = older r x (stands_child forker w r x h)

      mid_was : config_in (mid q) ≡ Some forker
      mid_was = ap config_in (at_same f q (Working forker))

      mid_live : IsLive (mid q)
      mid_live = subst (λ z. IsLive z) (sym (at_same f q (Working forker))) tt

      mid_none : (r : ℕ) → IsChildOf mid birth r q → ⊥
      mid_none r h = no_child r (stands_child forker w r q h)

      mid_young : (r : ℕ) → s.births.processes ≤ r → mid r ≡ Absent
      mid_young r le = go (number_or q r)
        where
          absent_not : (x : Condition Plain) → x ≡ Working c0 → x ≡ Absent → ⊥
          absent_not x a b = cc (sym a ∙ b)

          go : (q ≡ r) ⊎ ((q ≢ r) × ((q == r) ≡ false)) → mid r ≡ Absent
          go (inl o) = absurd (absent_not (f q) runs (ap f o ∙ i.young r le))
          go (inr o) = at_other f q r (Working forker) o.0 ∙ i.young r le

      one : (r : ℕ) (born joined : Condition Plain) (x y : Bool)
          → cond x born (cond y joined (cond y (Working forker) (f r))) ≡ cond x born (cond y joined (f r))
      one r born joined true y = refl
      one r born joined false true = refl
      one r born joined false false = refl

      forked : AreApart (apply_stop plain g q (Forks t v n) forker s).condition
          (births_after_event s.births q (event.Fork n)).birth
      forked = alike
          (after_fork g mid s.births (standing forker w) mid_older mid_young q pc st m mid_was mid_live mid_none t v n
          split)
          (apply_stop plain g q (Forks t v n) forker s).condition (births_after_event s.births q (event.Fork n)).birth
          (λ r. one r (Working (child_process plain g forker v r (r - s.births.processes)
          (child_or (child_at (table_or (slice_get g.code.forks t)) (r - s.births.processes)))))
          (Joins n (on_store (λ z. plain.handed z (plan_of plain g forker t v n)) forker))
          (is_next s.births n r) (q == r))
          (forks_apart g mid s.births (standing forker w) mid_older mid_young q pc st m mid_was mid_live mid_none t v
          n split may)

    fork_apart : (t n : ℕ) (v : ℤ) (d : Config (Memory Plain)) → TurnChanges d
        → StopWrites g k e known small q (Forks t v n) d → CanSplit (store_of d) (plan_of plain g d t v n)
        → AreApart (apply_stop plain g q (Forks t v n) d s).condition
        (births_after_event s.births q (event.Fork n)).birth
    fork_apart t n v (At pc st m) w may split = forked t n v pc st m w may split

    module _ (x : Birth) (qc : ℕ) (qt : List Entry) (m : Memory Plain) (born : birth q ≡ Some x)
        (w : TurnChanges (At qc qt m))
        (can : (left : ℕ) (h : Config (Memory Plain)) → f x.parent ≡ Joins left h → CanJoin (store_of h) m.store) where
      abbrev ender : Config (Memory Plain)
      ender = At qc qt m

      child : IsChildOf f birth q x.parent
      child = (x, born, refl, live)

      apart : q ≢ x.parent
      apart o = absurd (let l = older q x.parent child in omega (arith, l, o))

      some : (xs : List ℕ) → IsMember q xs → length xs ≡ 0 → ⊥
      some [] h o = h
      some (y ∷ xs) h o = omega (arith, o)

      not_none : awaited_children (f x.parent) ≡ 0 → ⊥
      not_none o = some (i.children x.parent) (i.all q x born live) (i.count x.parent ∙ o)

      module _ (left pc : ℕ) (st : List Entry) (n : Memory Plain) (at : f x.parent ≡ Joins left (At pc st n)) where
        abbrev joined : Config (Memory Plain)
        joined = on_store (λ z. plain.joined z m.store) (At pc st n)

        mid_child : IsChildOf (stands ender) birth q x.parent
        mid_child = (x, born, refl, subst (λ z. IsLive z) (sym (at_same f q (Working ender))) tt)

        there : stands ender x.parent ≡ Joins left (At pc st n)
        there = at_other f q x.parent (Working ender) apart ∙ at

        ends : (now : Condition Plain) → config_in now ≡ Some joined → IsLive now
            → AreApart (at_key ◌==◌ x.parent now (at_key ◌==◌ q Gone f)) birth
        ends now on alive = alike (at_key ◌==◌ x.parent now (at_key ◌==◌ q Gone (stands ender)))
            (at_key ◌==◌ x.parent now (at_key ◌==◌ q Gone f)) birth
            (λ r. ap (λ z. cond (x.parent == r) now z) (twice f q (Working ender) Gone r))
            (ends_apart (stands ender) birth (standing ender w) (λ r y h. older r y (stands_child ender w r y h)) q
            x.parent qc pc qt st m n now (ap config_in (at_same f q (Working ender))) (ap config_in there) on alive
            (subst (λ z. IsLive z) (sym there) tt) mid_child
            (λ r h. no_child r (stands_child ender w r q h)) (can left (At pc st n) at))

        by_left : (t : Bool) → AreApart (at_key ◌==◌ x.parent (if t then Working joined else Joins (left - 1) joined)
            (at_key ◌==◌ q Gone f)) birth
        by_left true = ends (Working joined) refl tt
        by_left false = ends (Joins (left - 1) joined) refl tt

      ended : (y : Condition Plain) → f x.parent ≡ y
          → AreApart (at_key ◌==◌ x.parent (parent_after_join plain g ender y) (at_key ◌==◌ q Gone f)) birth
      ended Absent at = absurd (not_none (ap awaited_children at))
      ended (Working h) at = absurd (not_none (ap awaited_children at))
      ended (Waits stop h) at = absurd (not_none (ap awaited_children at))
      ended (Joins left (At pc st n)) at = by_left left pc st n at (left == 1)
      ended (Laid h) at = absurd (not_none (ap awaited_children at))
      ended Gone at = absurd (not_none (ap awaited_children at))
      ended (Over h) at = absurd (not_none (ap awaited_children at))

    end_apart : (x : Birth) (d : Config (Memory Plain)) → birth q ≡ Some x → TurnChanges d
        → ((left : ℕ) (h : Config (Memory Plain)) → f x.parent ≡ Joins left h → CanJoin (store_of h) (store_of d))
        → AreApart (at_key ◌==◌ x.parent (parent_after_join plain g d (f x.parent)) (at_key ◌==◌ q Gone f)) birth
    end_apart x (At qc qt m) born w can = ended x qc qt m born w can (f x.parent) refl

    -- ---- what a stop does

    at_entry : (d : Config (Memory Plain)) → TurnChanges d → TurnChanges (process_at_entry d)
    at_entry (At pc st n) w = w

    writes_at_entry : (x : Stop) (d : Config (Memory Plain)) → StopWrites g k e known small q x d
        → StopWrites g k e known small q x (process_at_entry d)
    writes_at_entry (Forks t v n) (At pc st m) w = w
    writes_at_entry (Opens a) (At pc st m) w = w
    writes_at_entry (Receives ch j a) (At pc st m) w = w
    writes_at_entry (Sends ch j cs) (At pc st m) w = tt
    writes_at_entry Ends (At pc st m) w = tt
    writes_at_entry Pauses (At pc st m) w = tt

    same_store : (d : Config (Memory Plain)) → store_of (process_at_entry d) ≡ store_of d
    same_store (At pc st n) = refl

    happens_apart : (x : Stop) (d : Config (Memory Plain)) → TurnChanges d → StopWrites g k e known small q x d
        → ((t n : ℕ) (v : ℤ) → x ≡ Forks t v n
        → CanSplit (store_of d) (plan_of plain g d t v n))
        → ((y : Birth) (left : ℕ) (h : Config (Memory Plain)) → x ≡ Ends → birth q ≡ Some y
        → f y.parent ≡ Joins left h → CanJoin (store_of h) (store_of d))
        → AreApart (apply_stop plain g q x d s).condition (births_after_event s.births q (event_at x)).birth
    happens_apart (Forks t v n) d w may split join = fork_apart t n v d w may (split t n v refl)
    happens_apart (Opens a) d w may split join =
        let v = written d w a may (put_cell plain a (cell.Channel s.births.channels)) (λ z. (_, refl)) in
        becomes (Working (on_store (put_cell plain a (cell.Channel s.births.channels)) d))
        (on_store (put_cell plain a (cell.Channel s.births.channels)) d) refl v.0 v.1 tt
    happens_apart (Sends ch j cs) d w may split join = go (s.pending ch)
      where
        go : (o : Option ℕ) → AreApart (apply_send plain g q (Sends ch j cs) ch cs d o s).condition birth
        go None = becomes (Waits (Sends ch j cs) d) d refl w.1 w.0 tt
        go (Some z) = meets z cs d w.1 w.0
    happens_apart (Receives ch j a) d w may split join = go (s.pending ch)
      where
        go : (o : Option ℕ) → AreApart (apply_receive plain g q (Receives ch j a) ch a d o s).condition birth
        go None = becomes (Waits (Receives ch j a) d) d refl w.1 w.0 tt
        go (Some z) =
            let v = written d w a may (put_cells plain a (message_of plain g (stop_of (f z)))) (λ y. (_, refl)) in
            meets z [] (on_store (put_cells plain a (message_of plain g (stop_of (f z)))) d) v.0 v.1
    happens_apart Ends d w may split join = go (birth q) refl
      where
        go : (o : Option Birth) → birth q ≡ o → AreApart (apply_end plain g q d o s).condition birth
        go None is = becomes_apart f birth p older q (Over d) c0 d was refl no_child w.1 w.0 (λ z. live)
            (λ x o z. absurd (nothing x (sym is ∙ o)))
          where
            nothing : (x : Birth) → None ≡ Some x → ⊥
            nothing x h = cc h
        go (Some x) is = end_apart x d is w (λ left h at. join x left h refl is at)
    happens_apart Pauses d w may split join = becomes (Working d) d refl w.1 w.0 tt

    turn_apart : (t : Turn (Memory Plain)) → IsTurn (memory plain g) g.code c0 t
        → AreApart (system_after_turn plain g q t s).condition (system_after_turn plain g q t s).births.birth
    turn_apart t is = go s.faulted refl
      where
        anyhow : (u : Turn (Memory Plain)) → IsTurn (memory plain g) g.code c0 u → TurnChanges (config_of u)
        anyhow (Stopped x d) is = (stopped x d is).0
        anyhow (Faulted v d) is = faulted v d is

        sound : IsSafeSystem g s
        sound = safe_where g k e known small v9 s i

        by_fault : s.faulted ≡ false → (u : Turn (Memory Plain)) → IsTurn (memory plain g) g.code c0 u
            → (o : Option Fault) → fault_of g.limits s u ≡ o
            → AreApart (apply_unless_fault plain g o q u s).condition
            (births_after_event s.births q (event_or o u)).birth
        by_fault no_fault u is (Some v) w = laid (config_of u) (anyhow u is)
        by_fault no_fault (Faulted v d) is None w = laid d (faulted v d is)
        by_fault no_fault (Stopped x d) is None w =
            let v = stopped x d is in
            happens_apart x (process_at_entry d) (at_entry d v.0) (writes_at_entry x d v.1)
            (λ t n u o. split d t n u (record {
              configuration = c0;
              runs = runs;
              turn = subst
                  (λ z. IsTurn (memory plain g) g.code c0 (Stopped z d)) o is;
              no_fault = no_fault;
              fine = subst
                  (λ z. fault_of g.limits s (Stopped z d) ≡ None) o w;
            }))
            (λ y left h o b at. subst (λ z. CanJoin (store_of h) z) (sym (same_store d))
            (sound.ends q left y d h (record {
              configuration = c0;
              runs = runs;
              turn = subst
                  (λ z. IsTurn (memory plain g) g.code c0 (Stopped z d)) o is;
              no_fault = no_fault;
              fine = subst
                  (λ z. fault_of g.limits s (Stopped z d) ≡ None) o w;
            }) b at))
          where
            split : (d : Config (Memory Plain)) (t n : ℕ) (u : ℤ)
                → StopsAt g s q (Forks t u n) d
                → CanSplit (store_of (process_at_entry d))
                (plan_of plain g (process_at_entry d) t u n)
            split (At pc st m) t n u at = sound.forks q t n u (At pc st m) at

        go : (x : Bool) → s.faulted ≡ x
            → AreApart (if x then lays plain g q (config_of t) s else apply_unless_fault plain g
            (fault_of g.limits s t) q t
            s).condition (births_after_event s.births q
            (if x then event.Laid else event_or (fault_of g.limits s t) t)).birth
        go true w = laid (config_of t) (anyhow t is)
        go false w = by_fault w t is (fault_of g.limits s t) refl

  -- ---- along a journal

  enters_apart : (s t : System Plain) (q : ℕ) (ev : Event) → IsInvariant s.condition s.births
      → AreApart s.condition s.births.birth → EntryLeads plain g s q ev t → AreApart t.condition t.births.birth
  enters_apart s t q ev i p (configuration, runs, turn, is_turn, _, leads) =
      subst (λ (x : System Plain). AreApart x.condition x.births.birth) (sym leads)
      (turn_apart s i p q configuration runs turn is_turn)

  leads_apart : (es : List JournalEntry) (s t : System Plain) → IsInvariant s.condition s.births
      → AreApart s.condition s.births.birth → EntriesLead plain g s es t
      → IsInvariant t.condition t.births × AreApart t.condition t.births.birth
  leads_apart [] s t i p l = subst
      (λ (x : System Plain). IsInvariant x.condition x.births × AreApart x.condition x.births.birth) (sym l) (i, p)
  leads_apart (v ∷ es) s t i p l = leads_apart es l.0 t
      (enters_live g k e known small v9 s l.0 v.process v.event i l.1)
      (enters_apart s l.0 v.process v.event i p l.1) l.2

  -- the first process alone: it made all of its frames
  opening_apart : AreApart (opening_system plain g).condition first_births.birth
  opening_apart = record {
    number = λ r c s. (let w = first_only r c s (r == 0) refl in ap process_of (sym w.1) ∙ sym w.0);
    known = λ r c s q k. (let w = first_only r c s (r == 0) refl in
        inl (subst (λ z. meaning c q.frame ≡ identity z q.frame) (sym w.0)
        (subst (λ (z : Config (Memory Plain)). meaning z q.frame ≡ identity 0 q.frame) w.1 (own q.frame))));
    moved = λ r x c d h. absurd (cc h.1);
    siblings = λ r t x c d apart h. absurd (cc h.1);
    agree = λ r t c d apart s u q same. absurd (apart ((first_only r c s (r == 0) refl).0
        ∙ sym (first_only t d u (t == 0) refl).0));
  }
    where
      nothing : (c : Config (Memory Plain)) → None ≡ Some c → ⊥
      nothing c h = cc h

      first_only : (r : ℕ) (c : Config (Memory Plain)) → config_in ((opening_system plain g).condition r) ≡ Some c
          → (t : Bool)
          → (r == 0) ≡ t → (r ≡ 0) × (first_process plain g ≡ c)
      first_only r c s true is = (
        eqb-true r 0 is,
        same_Some _ _
            (sym (ap (λ b. config_in (if b then Working (first_process plain g) else Absent)) is) ∙ s),
      )
      first_only r c s false is = absurd
          (nothing c (sym (ap (λ b. config_in (if b then Working (first_process plain g) else Absent)) is) ∙ s))

      own : (n : ℕ) → meaning (first_process plain g) n ≡ identity 0 n
      own n = go (0 == n) refl
        where
          go : (t : Bool) → (0 == n) ≡ t → (if t then identity 0 0 else identity 0 n) ≡ identity 0 n
          go true is = ap (identity 0) (eqb-true 0 n is)
          go false is = refl

  -- along every journal
  pub along : (es : List JournalEntry) (s : System Plain) → IsSystem plain g es s
      → IsInvariant s.condition s.births × AreApart s.condition s.births.birth
  along es s l = leads_apart es (opening_system plain g) s
      (live_along g k e known small v9 [] (opening_system plain g) refl)
      opening_apart l
