-- The entries of statements and blocks are their sets by paths.
use Rattle.std.proofs.Common.{◌≡◌, ◌↔◌, ℕ, zero, suc, ◌<◌, Bool, true, false, not, ◌&&◌, List, [], ◌∷◌, length, get_or}
use Rattle.std.proofs.Common.{slice_get, refl, sym, ap, subst, ◌∙◌, arith, inl, inr, Option, Some, None, Result, Ok}
use Rattle.std.proofs.Common.{Err, IfOk}
use Rattle.std.proofs.lemmas.Option.{slice_get_within}
use Rattle.sp_base.proofs.Facts.{length_of_map}
use Rattle.sp_tree.specs.PlainChecked as p
use Rattle.sp_tree.specs.Bare.{bare_statement, bare_block, without_places}
use Rattle.sp_tree.specs.Uses.{Target, Seen, Stop, In_stmt}
use Rattle.sp_tree.proofs.CallClosure as r
use Rattle.sp_varsets.specs.declared.bodies.Bodies.{Bodies}
use Rattle.sp_varsets.specs.declared.find.Reach.{Reach}
use Rattle.sp_varsets.specs.declared.sets.Entry.{Entry}
use Rattle.sp_varsets.specs.declared.sets.Sets.{Sets}
use Rattle.sp_varsets.specs.declared.var_set.VarSet.{VarSet}
use Rattle.sp_varsets.specs.declared.walk.StatementSets.{StatementSets}
use Rattle.sp_varsets.specs.declared.walk.Walk.{Walk}
use Rattle.sp_varsets.specs.AreSets.{AreSets, OfStatement, OfBlock, HaveOwnNumbers, set_of_index, target_index}
use Rattle.sp_varsets.specs.AreSets.{expression_index, targets_of, expressions_of, implicit_targets_of}
use Rattle.sp_varsets.specs.AreSets.{implicit_expressions_of, stops_of}
use Rattle.sp_varsets.specs.Bodies.{AreBodies, AreDeclared, IsInBlocks}
use Rattle.sp_varsets.specs.Members.{has}
use Rattle.sp_varsets.specs.Parts.{number_of, IsPart}
use Rattle.sp_varsets.specs.Paths.{member, Closes}
use Rattle.sp_varsets.specs.Reaches.{Reaches, ArePooled}
use Rattle.sp_varsets.specs.Records.{pool_has, Records, slot_at, RecordsStatements}
use Rattle.sp_varsets.specs.Totals.{AreWithin, AreEntries, AreRowEntries}
use Rattle.sp_varsets.proofs.BlockRows.{in_blocks, of_blocks}
use Rattle.sp_varsets.proofs.CallPaths.{closed_is, fits, free_of, free_in, total_is}
use Rattle.sp_varsets.proofs.StatementRecords.{stands_more}

-- the set that an index names
chosen_is : (pool : List VarSet) (nothing : VarSet) → ((x : ℕ) → has nothing x ≡ false) → (i x : ℕ)
    → has (set_of_index pool nothing i) x ≡ pool_has pool i x
chosen_is pool nothing none zero x = none x
chosen_is pool nothing none (suc i) x = item pool i
  where
    item : (pool : List VarSet) (i : ℕ) → has (get_or pool i nothing) x ≡ pool_has pool (suc i) x
    item [] i = none x
    item (s ∷ pool) zero = refl
    item (s ∷ pool) (suc i) = item pool i

slot_within : (slots : List (Option StatementSets)) (n : ℕ) (sets : StatementSets) → slot_at slots n ≡ Some sets
    → n < length slots
slot_within [] n sets e = absurd (let no : None ≡ Some sets = e in cc)
slot_within (s ∷ slots) zero sets e = omega arith
slot_within (s ∷ slots) (suc n) sets e = let l = slot_within slots n sets e in omega arith

no_slot : (slots : List (Option StatementSets)) (n : ℕ) (sets : StatementSets) → length slots ≡ 0
    → slot_at slots n ≡ Some sets → ⊥
no_slot slots n sets l e = let w = slot_within slots n sets e in omega arith

through : {A B C : Type 0} → A ↔ B → B ↔ C → A ↔ C
through f g = (λ a. g.0 (f.0 a), λ c. f.1 (g.1 c))

along : {a b : Bool} {C : Type 0} → a ≡ b → (b ≡ true) ↔ C → (a ≡ true) ↔ C
along e f = (λ h. f.0 (sym e ∙ h), λ c. e ∙ f.1 c)

-- all that was found before the sets are put together
pub record PartsOfSets (c : p.Program) (start walk mid end : Walk) (bodies : Bodies)
    (hidden free targets_own targets seen_own seen stops_own stops : List VarSet) (statements blocks : List Entry)
    (flags : List Bool) (nothing : VarSet) : Type 0 where
  pub no_slots : length start.slots ≡ 0
  pub writes : RecordsStatements start walk (λ t. IsInBlocks c.blocks t)
  pub bodies_are : AreBodies c.blocks bodies (length c.blocks)
  pub declared : AreDeclared (without_places c) hidden (length (without_places c).variables)
  pub free_is : (b x : ℕ) → member free b x ≡ false
  pub targets_shown : (b x : ℕ) → member targets_own b x ≡ member bodies.targets b x && not (member hidden b x)
  pub seen_shown : (b x : ℕ) → member seen_own b x ≡ member bodies.expressions b x && not (member hidden b x)
  pub stops_shown : (b x : ℕ) → member stops_own b x ≡ member bodies.stops b x && not (member free b x)
  pub targets_closed : Closes bodies.calls hidden targets_own targets
  pub seen_closed : Closes bodies.calls hidden seen_own seen
  pub stops_closed : Closes bodies.calls free stops_own stops
  pub entries : AreEntries walk.pool mid.pool walk.slots targets seen statements (length walk.slots)
  pub row_entries : AreRowEntries mid.pool end.pool targets seen blocks (length targets)
  pub count : length targets ≡ length c.blocks
  pub flags_are : (b : ℕ) → get_or flags b false ≡ member stops b 0
  pub none : (x : ℕ) → has nothing x ≡ false

module _ (c : p.Program) (start walk mid end : Walk) (bodies : Bodies)
    (hidden free targets_own targets seen_own seen stops_own stops : List VarSet) (statements blocks : List Entry)
    (flags : List Bool) (nothing : VarSet) (f : PartsOfSets c start walk mid end bodies hidden free targets_own targets
    seen_own seen stops_own stops statements blocks flags nothing) (numbers : HaveOwnNumbers c) where
  abbrev all : Sets
  all = record { nothing = nothing; pool = end.pool; statements = statements; blocks = blocks; stops = flags }

  bare_low : (b : ℕ) → b < length c.blocks → b < length (without_places c).blocks
  bare_low b h = let l = length_of_map bare_block c.blocks in omega arith

  reach_targets : (b x : ℕ) → (member targets b x ≡ true) ↔ r.OfBlock (without_places c) b (Target x)
  reach_targets b x = closed_is (without_places c) (Target x) x targets_own bodies.calls hidden
      (fits c bodies hidden targets_own bodies.targets (Target x) x f.bodies_are f.bodies_are.targets
      (λ d k e. let at = f.bodies_are.each d k (slice_get_within c.blocks d k e) e in at.targets x)
      (λ d. f.targets_shown d x)
      (λ d low h. free_of (without_places c) hidden d x f.declared (bare_low d low) h)
      (λ d low h. free_in (without_places c) hidden d x f.declared (bare_low d low) h))
      targets f.targets_closed b

  reach_seen : (b x : ℕ) → (member seen b x ≡ true) ↔ r.OfBlock (without_places c) b (Seen x)
  reach_seen b x = closed_is (without_places c) (Seen x) x seen_own bodies.calls hidden
      (fits c bodies hidden seen_own bodies.expressions (Seen x) x f.bodies_are f.bodies_are.expressions
      (λ d k e. let at = f.bodies_are.each d k (slice_get_within c.blocks d k e) e in at.expressions x)
      (λ d. f.seen_shown d x)
      (λ d low h. free_of (without_places c) hidden d x f.declared (bare_low d low) h)
      (λ d low h. free_in (without_places c) hidden d x f.declared (bare_low d low) h))
      seen f.seen_closed b

  reach_stops : (b : ℕ) → (member stops b 0 ≡ true) ↔ r.OfBlock (without_places c) b Stop
  reach_stops b = closed_is (without_places c) Stop 0 stops_own bodies.calls free
      (fits c bodies free stops_own bodies.stops Stop 0 f.bodies_are f.bodies_are.stops
      (λ d k e. let at = f.bodies_are.each d k (slice_get_within c.blocks d k e) e in at.stops)
      (λ d. f.stops_shown d 0)
      (λ d low h. tt)
      (λ d low h. f.free_is d 0))
      stops f.stops_closed b

  recorded : (b : ℕ) (k : p.Block) → slice_get c.blocks b ≡ Some k → (t : p.Statement) → IsPart t k.body
      → (sets : StatementSets) × (slot_at walk.slots (number_of t) ≡ Some sets)
      × Records walk.pool sets (In_stmt (bare_statement t))
  recorded b k e t part =
      let o = f.writes.all t (in_blocks c.blocks b k t e part) in
      elim (f.writes.only (number_of t) o.0 o.1) [
        | inl before ↦ absurd (no_slot start.slots (number_of t) o.0 f.no_slots before)
        | inr (u, in_some, number, records) ↦
            let (d, j, at, inside) = of_blocks c.blocks u in_some in
            let same : u ≡ t = numbers d b j k at e u t inside part number in
            (o.0, o.1, subst (λ s. Records walk.pool o.0 (In_stmt (bare_statement s))) same records)
      ]

  statement_is : (b : ℕ) (k : p.Block) → slice_get c.blocks b ≡ Some k → (t : p.Statement) → IsPart t k.body
      → OfStatement (without_places c) all t
  unfolding targets_of expressions_of
  statement_is b k e t part =
      let o = recorded b k e t part in
      let rec = o.2 in
      let en = f.entries.each (number_of t) o.0 (slot_within walk.slots (number_of t) o.0 o.1) o.1 in
      let entry = en.2 in
      let entry_targets = stands_more f.row_entries.extends entry.targets in
      let entry_expressions = stands_more f.row_entries.extends entry.expressions in record {
        targets = λ x. along
            (ap (λ z. has (set_of_index end.pool nothing (target_index z)) x) en.1
            ∙ chosen_is end.pool nothing f.none en.0.targets x)
            (through (entry_targets.members x) (total_is (without_places c) (In_stmt (bare_statement t)) (Target x)
            walk.pool targets o.0.targets o.0.calls x (rec.targets.members x) rec.calls.members
            (λ g. reach_targets g x)));
        expressions = λ x. along
            (ap (λ z. has (set_of_index end.pool nothing (expression_index z)) x) en.1
            ∙ chosen_is end.pool nothing f.none en.0.expressions x)
            (through (entry_expressions.members x) (total_is (without_places c) (In_stmt (bare_statement t)) (Seen x)
            walk.pool seen o.0.expressions o.0.calls x (rec.expressions.members x) rec.calls.members
            (λ g. reach_seen g x)));
      }

  block_is : (b : ℕ) (k : p.Block) → slice_get c.blocks b ≡ Some k → OfBlock (without_places c) all b
  unfolding implicit_targets_of implicit_expressions_of stops_of
  block_is b k e =
      let inside = slice_get_within c.blocks b k e in
      let count = f.count in
      let (entry, found, its_targets, its_expressions) = f.row_entries.each b (omega arith) in record {
        targets = λ x. along
            (ap (λ z. has (set_of_index end.pool nothing (target_index z)) x) found
            ∙ chosen_is end.pool nothing f.none entry.targets x)
            (through (its_targets.members x) (through (reach_targets b x)
            (r.is_target (without_places c) b x, r.target_is (without_places c) b x)));
        expressions = λ x. along
            (ap (λ z. has (set_of_index end.pool nothing (expression_index z)) x) found
            ∙ chosen_is end.pool nothing f.none entry.expressions x)
            (through (its_expressions.members x) (through (reach_seen b x)
            (λ (j, at, free, uses). (j, at, free, uses), λ (j, at, free, uses). (j, at, free, uses))));
        stops = along (f.flags_are b) (through (reach_stops b)
            (λ (j, at, _, (calls, reach)). (j, at, calls, reach), λ l. r.stop_is (without_places c) b l));
      }

  pub are_sets : AreSets c all
  are_sets = record { statements = statement_is; blocks = block_is }

-- the sets, where there was memory for them
pub if_found : (c : p.Program) (start walk : Walk) (bodies : Bodies) (reach : Reach) → HaveOwnNumbers c
    → length start.slots ≡ 0 → RecordsStatements start walk (λ t. IsInBlocks c.blocks t)
    → AreBodies c.blocks bodies (length c.blocks) → Reaches c bodies reach
    → {E : Type 0} (r : Result Sets E) → IfOk r (λ s. ArePooled walk reach s) → IfOk r (λ s. AreSets c s)
if_found c start walk bodies reach numbers slots writes are reaches (Err e) h = h
if_found c start walk bodies reach numbers slots writes are reaches (Ok s) h =
    let (hidden, declared, targets, seen) = reaches.declared in
    let (free, free_is, stops) = reaches.free in
    are_sets c start walk (record {
      alloc = walk.alloc;
      pool = h.entries.0;
      slots = walk.slots;
      known = walk.known;
      is_lost = walk.is_lost;
    })
    (record {
      alloc = walk.alloc;
      pool = s.pool;
      slots = walk.slots;
      known = walk.known;
      is_lost = walk.is_lost;
    }) bodies hidden free
    targets.closes.0 reach.targets seen.closes.0 reach.seen stops.closes.0 reach.stops s.statements
    s.blocks s.stops s.nothing
    (record {
      no_slots = slots;
      writes = writes;
      bodies_are = are;
      declared = declared;
      free_is = free_is;
      targets_shown = targets.closes.1;
      seen_shown = seen.closes.1;
      stops_shown = stops.closes.1;
      targets_closed = targets.closes.2;
      seen_closed = seen.closes.2;
      stops_closed = stops.closes.2;
      entries = h.entries.1;
      row_entries = h.entries.2;
      count = targets.rows ∙ are.targets;
      flags_are = h.flags;
      none = h.none;
    })
    numbers

pub within_written : (start walk : Walk) (S : p.Statement → Type 0) → length start.slots ≡ 0
    → RecordsStatements start walk S
    → AreWithin walk
within_written start walk S l w n sets e = elim (w.only n sets e) [
  | inl before ↦ absurd (no_slot start.slots n sets l before)
  | inr (_, _, _, rec) ↦ (record {
    targets = (let s = rec.targets in s.within);
    expressions = (let s = rec.expressions in s.within);
    calls = (let s = rec.calls in s.within);
  })
]
