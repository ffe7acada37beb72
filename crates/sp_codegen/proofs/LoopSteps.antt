-- A for loop: its first turn and its next one are stretches of the code.
use Rattle.std.proofs.Common.{◌≡◌, inl, inr, ℕ, ◌+◌, ℤ, List, [], ◌∷◌, Some, Bool, true, false, if◌then◌else◌, refl}
use Rattle.std.proofs.Common.{sym, ap, ◌∙◌, subst}
use Rattle.std.specs.Prelude.{slice_get}
use Rattle.sp_tree.specs.Plain.{Program, Stmt}
use Rattle.sp_tree.specs.Uses.{Use, Target, In_loop}
use Rattle.sp_cell.specs.declared.cell.Cell.TheVariants as cell
use Rattle.sp_cell.specs.declared.spot.Address.{Address as Ptr}
use Rattle.sp_meaning.specs.Values.{Ordinal}
use Rattle.sp_meaning.specs.LocalWork.{Address, LocalState, Item, First, Again, bind, give, assign, tick, is_block}
use Rattle.sp_meaning.specs.Rights.{location_of, location_at, location_by, cell_of as cell_in}
use Rattle.sp_meaning.specs.Eval.{AtAddress, place_of, in_frame, place_by}
use Rattle.sp_meaning.specs.Actions.{Stepped, Ticked, push, is_range, turn_of}
use Rattle.sp_meaning.specs.Run.{Store}
use Rattle.sp_meaning.proofs.Static.{home_is}
use Rattle.sp_code.specs.declared.instr.Instr.TheVariants as i
use Rattle.sp_code.specs.Machine.{Entry, Config, Goes, is_in_no_function, when, on_some, next_step}
use Rattle.sp_code.specs.Machine as m
use Rattle.sp_code.specs.Scopes.{Ordinals, Scope, sort, slot}
use Rattle.sp_code.specs.Scopes as places
use Rattle.sp_code.specs.Places.{after_statement}
use Rattle.sp_code.specs.CodeOfTree.{CodeAt, HasFork, HasWords, ForVar, TurnsAt}
use Rattle.sp_codegen.specs.FramePairs.{FramePair, sources}
use Rattle.sp_codegen.specs.Executions.{Execution}
use Rattle.sp_codegen.specs.Relation.{StackHolds, OneCell, Owns}
use Rattle.sp_codegen.proofs.Runs.{HasKnownValue, stays, goes, known_bind, holds_when}
use Rattle.sp_codegen.proofs.Chains.{block_agrees, found, seek_all, find_in}
use Rattle.sp_codegen.proofs.Follows.{slides, push_follows, makes_bind, makes_known, makes_went, makes_tick}
use Rattle.sp_codegen.proofs.StepForms.{K, After, S, Pl, address_known}
use Rattle.sp_codegen.proofs.AssignSteps.{assign_gives}
use Rattle.sp_codegen.proofs.ValueForms.{within, at_one, or_known, visible_known}

module _ {M : Type 0} (ex : Execution M) where
  open ex use {
    run_input as g,
    code,
    moves,
    shares,
    IsCallableInFunctions as callable,
    who as w,
    IsReadable as R,
    operations as ops,
    relation as rel,
    laws as law,
    reads_written as reads,
  }

  abbrev p : Program
  p = g.program

  -- the variable of a for loop
  pub record ForPlace (fs : List FramePair) (x : ℕ) (n : M) (o : LocalState) (s : Store) : Type 0 where
    pub address : Address
    pub cell : Ptr
    pub known : HasKnownValue ops rel w code o s (place_of g x) (AtAddress address)
    pub cell_at : ops.addr 0 (slot p x) n ≡ Some cell
    pub points : rel.Points fs address cell
    pub may : R address.spot
    pub sorted : sort p address.kind ≡ Ordinals

  pub for_place : {Here : Use → Type 0} {fs : List FramePair} {o : LocalState} {s : Store} {n : M} (sc : List Scope)
      (x : ℕ)
      → rel.Agrees fs o s n → Pl ex sc fs Here → Here (Target x)
      → ForVar p moves shares (CodeAt code) (HasFork code) (HasWords code) callable sc x → ForPlace fs x n o s
  for_place {fs = fs} {o = o} {s = s} {n = n} sc x t pl ai (v, known, role_is, level_is, sort_is) =
      let r = found (is_block v.block) (places.is_block v.block) (block_agrees v.block) sc fs 0 pl.chain level_is in
      let a = law.addr t 0 x r.frame r.rest r.frame_at v known (home_is v.block r.frame.source.home r.fit)
      (subst Owns (sym role_is) tt) in
      let at : location_of p (sources fs) x ≡ Some (in_frame g x v r.frame.source).spot =
      ap (location_at (sources fs) x) known
      ∙ ap (location_by (sources fs) x v) role_is
      ∙ ap (cell_in x) (find_in (is_block v.block) fs r.frame r.rest r.sought) in
      record {
        address = in_frame g x v r.frame.source;
        cell = a.0;
        known = known_bind ops rel w code (λ i. place_by g x i i.role) v (AtAddress (in_frame g x v r.frame.source))
            (or_known ex (slice_get p.variables x) v known)
            (subst (λ y. HasKnownValue ops rel w code o s (place_by g x v y)
            (AtAddress (in_frame g x v r.frame.source))) (sym role_is)
            (known_bind ops rel w code (λ f. give (AtAddress (in_frame g x v f))) r.frame.source
            (AtAddress (in_frame g x v r.frame.source))
            (visible_known ex t (is_block v.block) r.frame r.rest (seek_all (is_block v.block) fs ∙ r.sought))
            (record { proof = refl })));
        cell_at = a.1;
        points = a.2;
        may = reads (in_frame g x v r.frame.source).spot
            (pl.sound.allowed [] (Target x) ai x (in_frame g x v r.frame.source).spot (refl, at));
        sorted = sort_is;
      }

  -- the value of a for loop's turn is assigned, and then there is a tick
  pub turn_makes : (end : ℕ) (base : List Entry) (below : List FramePair) (x : ℕ) (v limit : ℤ) (down : Bool) (d : Stmt)
      (sc : List Scope) (q : ℕ) (st : List Entry) (todo : List Item) (fs : List FramePair) (c : Config M)
      (o : LocalState)
      (s : Store) (n : M) → rel.Agrees fs o s n → Pl ex sc fs (In_loop x d)
      → TurnsAt p moves shares (CodeAt code) (HasFork code) (HasWords code) callable sc q x down
      (after_statement p (q + 1 + 1) d)
      (S ex (is_in_no_function st) sc (q + 1 + 1) d)
      → After ex end base below todo fs (after_statement p (q + 1 + 1) d + 1) st → (z : ForPlace fs x n o s)
      → next_step ops code c ≡ Goes (m.At (q + 1) (m.Number limit ∷ st) (ops.put z.cell (cell.Ordinal v) n))
      → K ex c o s (After ex end base below) (turn_of g x v limit down d todo)
  turn_makes end base below x v limit down d sc q st todo fs c o s n t pl h fo z ge =
      let (_, _, ticks, body, _) = h in
      makes_known ex _ (AtAddress z.address) z.known
      (makes_known ex (λ a. bind (assign a (Ordinal v))
      (λ u. bind (tick g.limits) (λ u. give (Ticked (push d (Again x limit down d ∷ todo)))))) z.address
      (address_known ex z.address)
      (makes_bind ex _ (assign_gives ex (q + 1) z.address z.cell (Ordinal v) (m.Number v)
      (m.Number limit ∷ st) t z.points
      z.may (subst OneCell (sym z.sorted) tt)
      (subst (λ y. StackHolds rel p y z.address.kind (Ordinal v) (m.Number v)) (sym z.sorted) (v, refl, refl)) ge)
      (λ x1 x2 o2 s2 n2 t2 x3.
      makes_tick ex (push d (Again x limit down d ∷ todo)) fs (q + 1 + 1) (m.Number limit ∷ st) (ops.tick n2) (_, _, t2)
      (law.tick t2) (at_one ex (q + 1) (m.Number limit ∷ st) n2 ticks)
      (push_follows ex d end base below sc (q + 1 + 1) (m.Number limit ∷ st) fs (Again x limit down d ∷ todo)
      (within (λ u. inr) pl) body (
        q,
        slides ex _ _,
        record { scopes = sc; under = st; stack_is = refl; placed = pl; turns = h; rest = fo },
      )))))

  pub first_one : (down : Bool) (q to x : ℕ) (stack : List Entry) (n : M) (lo hi : ℤ)
      → slice_get code.instrs q ≡ Some (if down then i.Fordown (slot p x) to else i.Forup (slot p x) to) → (u : Ptr)
      → ops.addr 0 (slot p x) n ≡ Some u → ops.has u 1 n ≡ true
      → next_step ops code (m.At q (m.Number hi ∷ m.Number lo ∷ stack) n)
      ≡ (if is_range down lo hi then Goes (m.At (q + 1) (m.Number hi ∷ stack) (ops.put u (cell.Ordinal lo) n)) else
      Goes (m.At to stack n))
  first_one true q to x stack n lo hi h u e ha = at_one ex q _ n h
      ∙ ap (λ z. on_some z (λ a. when (ops.has a 1 n)
      (if is_range true lo hi then Goes (m.At (q + 1) (m.Number hi ∷ stack) (ops.put a (cell.Ordinal lo) n)) else
      Goes (m.At to stack n)))) e ∙ holds_when (ops.has u 1 n) _ ha
  first_one false q to x stack n lo hi h u e ha = at_one ex q _ n h
      ∙ ap (λ z. on_some z (λ a. when (ops.has a 1 n)
      (if is_range false lo hi then Goes (m.At (q + 1) (m.Number hi ∷ stack) (ops.put a (cell.Ordinal lo) n)) else
      Goes (m.At to stack n)))) e ∙ holds_when (ops.has u 1 n) _ ha

  -- both limits of a for loop are there
  pub for_begins : (end : ℕ) (base : List Entry) (below : List FramePair) (x : ℕ) (down : Bool) (d : Stmt)
      (sc : List Scope)
      (q : ℕ) (stack : List Entry) (todo : List Item) (fs : List FramePair) (lo hi : ℤ) (o : LocalState) (s : Store)
      (n : M)
      → rel.Agrees fs o s n → Pl ex sc fs (In_loop x d)
      → TurnsAt p moves shares (CodeAt code) (HasFork code) (HasWords code) callable sc q x down
      (after_statement p (q + 1 + 1) d)
      (S ex (is_in_no_function stack) sc (q + 1 + 1) d)
      → After ex end base below todo fs (after_statement p (q + 1 + 1) d + 1) stack
      → K ex (m.At q (m.Number hi ∷ m.Number lo ∷ stack) n) o s (After ex end base below)
      (give (Stepped (if is_range down lo hi then First x lo hi down d ∷ todo else todo)))
  for_begins end base below x down d sc q stack todo fs lo hi o s n t pl h k = go (is_range down lo hi) refl
    where
      z : ForPlace fs x n o s
      z = for_place sc x t pl (inl refl) h.0

      step : next_step ops code (m.At q (m.Number hi ∷ m.Number lo ∷ stack) n)
          ≡ (if is_range down lo hi then Goes
          (m.At (q + 1) (m.Number hi ∷ stack) (ops.put z.cell (cell.Ordinal lo) n)) else
          Goes (m.At (after_statement p (q + 1 + 1) d + 1) stack n))
      step = first_one down q (after_statement p (q + 1 + 1) d + 1) x stack n lo hi h.1 z.cell z.cell_at
          (law.has_one t z.address z.cell z.points z.may)

      go : (b : Bool) → is_range down lo hi ≡ b
          → K ex (m.At q (m.Number hi ∷ m.Number lo ∷ stack) n) o s (After ex end base below)
          (give (Stepped (if b then First x lo hi down d ∷ todo else todo)))
      go true e = makes_went ex (First x lo hi down d ∷ todo) fs q (m.Number hi ∷ m.Number lo ∷ stack) n
          (stays ops rel w code _) t (
            q,
            slides ex _ _,
            record { scopes = sc; under = stack; stack_is = refl; placed = pl; turns = h; rest = k },
            e,
          )
      go false e = makes_went ex todo fs (after_statement p (q + 1 + 1) d + 1) stack n
          (goes ops rel w code (step ∙ ap (λ b. if b then
          Goes (m.At (q + 1) (m.Number hi ∷ stack) (ops.put z.cell (cell.Ordinal lo) n)) else
          Goes (m.At (after_statement p (q + 1 + 1) d + 1) stack n)) e)) t k
