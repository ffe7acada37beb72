-- One step of what is left to do is a stretch of the code, and a loop that is first goes on.
use Rattle.std.proofs.Common.{◌≡◌, inl, ℕ, ◌+◌, ℤ, List, [], ◌∷◌, Option, Some, None, Bool, true, false, if◌then◌else◌}
use Rattle.std.proofs.Common.{refl, sym, ap, ◌∙◌, subst}
use Rattle.std.specs.Prelude.{pos, int_le, slice_get}
use Rattle.sp_base.specs.declared.fault.Fault.TheVariants as fault
use Rattle.sp_tree.specs.declared.checked.KindOf.{KindOf}
use Rattle.sp_tree.specs.Plain.{Program, Stmt, Repeat}
use Rattle.sp_tree.specs.Uses.{In_loop}
use Rattle.sp_cell.specs.declared.cell.Cell.{Cell}
use Rattle.sp_cell.specs.declared.cell.Cell.TheVariants as cell
use Rattle.sp_cell.specs.declared.spot.Address.{Address as Ptr}
use Rattle.sp_meaning.specs.Values.{Value, Undefined, Ordinal, Chan, Parts, get_at}
use Rattle.sp_meaning.specs.LocalWork.{LocalState, Item, Do, First, Again, Test, Leave, Break, Work, bind, give, fail}
use Rattle.sp_meaning.specs.LocalWork.{fetch}
use Rattle.sp_meaning.specs.LocalWork.{value_in}
use Rattle.sp_meaning.specs.Eval.{AtAddress, Calls, ordinal, checked_value, ordinal_read, kind_at, read_at, address_of}
use Rattle.sp_meaning.specs.Eval.{place_of}
use Rattle.sp_meaning.specs.Actions.{Action, is_before, next_value, goes_on, peek, turn_of, item_action, settle}
use Rattle.sp_meaning.specs.Actions.{call_by, run_items}
use Rattle.sp_meaning.specs.Actions.{action_by, next_action}
use Rattle.sp_meaning.specs.Run.{Store, run}
use Rattle.sp_code.specs.declared.instr.Instr.TheVariants as i
use Rattle.sp_code.specs.Machine.{Entry, Config, StepResult, Goes, Fails, is_in_no_function, when, on_some, ordinal_in}
use Rattle.sp_code.specs.Machine.{next_step}
use Rattle.sp_code.specs.Machine as m
use Rattle.sp_code.specs.Scopes.{Sort, Ordinals, Channels, Many, NoSort, Scope, sort_by, slot}
use Rattle.sp_code.specs.Places.{after_value, after_statement}
use Rattle.sp_code.specs.CodeOfTree.{CodeAt, HasFork, HasWords, TurnsAt}
use Rattle.sp_codegen.specs.FramePairs.{FramePair}
use Rattle.sp_codegen.specs.Shapes.{CellIs}
use Rattle.sp_codegen.specs.Executions.{Execution}
use Rattle.sp_codegen.specs.Relation.{OneCell}
use Rattle.sp_codegen.proofs.Runs.{HasKnownValue, stays, goes, comes_on, breaks, known_bind, holds_when}
use Rattle.sp_codegen.proofs.Values.{ordinal_gives}
use Rattle.sp_codegen.proofs.Follows.{slides, CodeFollows, makes_after, makes_bind, makes_known, makes_by, makes_went}
use Rattle.sp_codegen.proofs.Steps.{start_makes}
use Rattle.sp_codegen.proofs.StepForms.{C, K, S, Pl, Oks, After, went_if, branch, makes_assoc, address_known}
use Rattle.sp_codegen.proofs.LoopSteps.{ForPlace, for_place, turn_makes, first_one}
use Rattle.sp_codegen.proofs.CallSteps.{Blocks}
use Rattle.sp_codegen.proofs.ValueForms.{within, kind_known, fetch_known, at_one}
use Rattle.sp_codegen.proofs.PlaceValues.{checked_as, read_as}

abbrev pub IsTrue : Bool → Type 0
IsTrue true = ⊥
IsTrue false = Unit {0}

abbrev IsOrdinals : Sort → Type 0
IsOrdinals Ordinals = Unit {0}
IsOrdinals Channels = ⊥
IsOrdinals Many = ⊥
IsOrdinals NoSort = ⊥

pub kind_of_sort : (y : Option KindOf) → sort_by y ≡ Ordinals → (ty : KindOf) × (y ≡ Some ty)
kind_of_sort None e = absurd (subst IsOrdinals (sym e) tt)
kind_of_sort (Some ty) e = (ty, refl)

module _ {M : Type 0} (ex : Execution M) where
  open ex use {
    run_input as g,
    code,
    moves,
    shares,
    IsCallableInFunctions as callable,
    who as w,
    operations as ops,
    relation as rel,
    laws as law,
  }

  abbrev p : Program
  p = g.program

  abbrev pub F : ℕ → List Entry → List FramePair → ℕ → List Entry → List FramePair → List Item → Type 0
  F end base below pc st fs todo = CodeFollows ex end base below pc st fs todo

  abbrev pub Ka : ℕ → List Entry → List FramePair → Config M → LocalState → Store → Work Action → Type 0
  Ka end base below c o s h = K ex c o s (After ex end base below) h

  abbrev FP : List FramePair → ℕ → M → LocalState → Store → Type 0
  FP fs x n o s = ForPlace ex fs x n o s

  -- what the for variable holds
  abbrev held : {fs : List FramePair} {x : ℕ} {n : M} {o : LocalState} {s : Store} → FP fs x n o s → Value
  held {s = s} z = get_at z.address.path (value_in (s z.address.spot))

  -- the last instruction of a turn of a for loop
  next_one : (down : Bool) (q to x : ℕ) (st : List Entry) (n : M) (hi : ℤ)
      → slice_get code.instrs q ≡ Some (if down then i.Nextdown (slot p x) to else i.Nextup (slot p x) to) → (u : Ptr)
      → ops.addr 0 (slot p x) n ≡ Some u → ops.has u 1 n ≡ true
      → next_step ops code (m.At q (m.Number hi ∷ st) n)
      ≡ ordinal_in (ops.read u n) (λ v. if is_before down v hi then
      Goes (m.At to (m.Number hi ∷ st) (ops.put u (cell.Ordinal (next_value down v)) n)) else
      Goes (m.At (q + 1) st n))
  next_one true q to x st n hi h u e ha = at_one ex q _ n h
      ∙ ap (λ z. on_some z (λ a. when (ops.has a 1 n)
      (ordinal_in (ops.read a n) (λ v. if is_before true v hi then
      Goes (m.At to (m.Number hi ∷ st) (ops.put a (cell.Ordinal (next_value true v)) n)) else
      Goes (m.At (q + 1) st n))))) e ∙ holds_when (ops.has u 1 n) _ ha
  next_one false q to x st n hi h u e ha = at_one ex q _ n h
      ∙ ap (λ z. on_some z (λ a. when (ops.has a 1 n)
      (ordinal_in (ops.read a n) (λ v. if is_before false v hi then
      Goes (m.At to (m.Number hi ∷ st) (ops.put a (cell.Ordinal (next_value false v)) n)) else
      Goes (m.At (q + 1) st n))))) e ∙ holds_when (ops.has u 1 n) _ ha

  -- a cell that holds an ordinal
  cell_is : (a : ℤ) (c : Cell) → CellIs rel.Named (Ordinal a) c → (go : ℤ → StepResult M) → ordinal_in c go ≡ go a
  cell_is a cell.Undefined h go = absurd h
  cell_is a (cell.Ordinal b) h go = ap go (sym h)
  cell_is a (cell.Channel b) h go = absurd h

  -- a loop that is first goes on
  abbrev pub LoopMayGoOn : List FramePair → LocalState → Store → M → List Item → Type 0
  LoopMayGoOn fs o s n [] = Unit {0}
  LoopMayGoOn fs o s n (Do d ∷ todo) = Unit {0}
  LoopMayGoOn fs o s n (First x lo hi down d ∷ todo) = Unit {0}
  LoopMayGoOn fs o s n (Again x hi down d ∷ todo) = (z : FP fs x n o s) × (goes_on down hi (held z) ≡ true)
  LoopMayGoOn fs o s n (Test d e ∷ todo) = Unit {0}
  LoopMayGoOn fs o s n (Leave ∷ todo) = Unit {0}
  LoopMayGoOn fs o s n (Break f ∷ todo) = Unit {0}

  pub record Settled (end : ℕ) (base : List Entry) (below : List FramePair) (fs : List FramePair) (o : LocalState)
      (s : Store) (n : M)
      (pc : ℕ) (stack : List Entry) (todo : List Item) : Type 0 where
    pub left : List Item
    pub known : HasKnownValue ops rel w code o s (settle g todo) left
    pub place : ℕ
    pub st : List Entry
    pub comes : C ex (m.At pc stack n) (m.At place st n)
    pub follows : F end base below place st fs left
    pub ready : LoopMayGoOn fs o s n left

  settled : (end : ℕ) (base : List Entry) (below : List FramePair) (fs : List FramePair) (o : LocalState) (s : Store)
      (n : M) (pc : ℕ)
      (stack : List Entry) (todo : List Item) → settle g todo ≡ give todo → F end base below pc stack fs todo
      → LoopMayGoOn fs o s n todo → Settled end base below fs o s n pc stack todo
  settled end base below fs o s n pc stack todo e h r =
      record {
        left = todo;
        known = record { proof = ap (λ z. run z w o s) e };
        place = pc;
        st = stack;
        comes = stays ops rel w code _;
        follows = h;
        ready = r;
      }

  pub settle_follows : (end : ℕ) (base : List Entry) (below : List FramePair) (fs : List FramePair) (o : LocalState)
      (s : Store)
      (n : M) → rel.Agrees fs o s n → (pc : ℕ) (stack : List Entry) (todo : List Item)
      → F end base below pc stack fs todo → Settled end base below fs o s n pc stack todo
  settle_follows end base below fs o s n t pc stack [] h = settled end base below fs o s n pc stack [] refl h tt
  settle_follows end base below fs o s n t pc stack (Do d ∷ todo) h =
      settled end base below fs o s n pc stack (Do d ∷ todo) refl h tt
  settle_follows end base below fs o s n t pc stack (First x lo hi down d ∷ todo) h =
      settled end base below fs o s n pc stack (First x lo hi down d ∷ todo) refl h tt
  settle_follows end base below fs o s n t pc stack (Test d e ∷ todo) h =
      settled end base below fs o s n pc stack (Test d e ∷ todo) refl h tt
  settle_follows end base below fs o s n t pc stack (Leave ∷ todo) h =
      settled end base below fs o s n pc stack (Leave ∷ todo) refl h tt
  settle_follows end base below fs o s n t pc stack (Break f ∷ todo) h =
      settled end base below fs o s n pc stack (Break f ∷ todo) refl h tt
  settle_follows end base below fs o s n t pc stack (Again x hi down d ∷ todo) (at, slide, loop) =
      go (held z) refl (ops.read z.cell n) (law.load t z.address z.cell z.points z.may
      (subst OneCell (sym z.sorted) tt)) at_end
      (settle_follows end base below fs o s n t (j + 1) loop.under todo loop.rest)
    where
      q : ℕ
      q = at

      j : ℕ
      j = after_statement p (at + 1 + 1) d

      z : FP fs x n o s
      z = let (local, _, _, _, _) = loop.turns in for_place ex loop.scopes x t loop.placed (inl refl) local

      at_end : next_step ops code (m.At j (m.Number hi ∷ loop.under) n)
          ≡ ordinal_in (ops.read z.cell n) (λ v. if is_before down v hi then
          Goes (m.At (q + 1) (m.Number hi ∷ loop.under) (ops.put z.cell (cell.Ordinal (next_value down v)) n)) else
          Goes (m.At (j + 1) loop.under n))
      at_end = let (_, _, _, _, next) = loop.turns in next_one down j (q + 1) x loop.under n hi next z.cell z.cell_at
          (law.has_one t z.address z.cell z.points z.may)

      peeked : HasKnownValue ops rel w code o s (peek g x) (held z)
      peeked = known_bind ops rel w code (λ y. bind (address_of g y) fetch) (AtAddress z.address) (held z) z.known
          (known_bind ops rel w code fetch z.address (held z) (address_known ex z.address) (fetch_known ex z.address))

      on : goes_on down hi (held z) ≡ true → Settled end base below fs o s n pc stack (Again x hi down d ∷ todo)
      on e = record {
        left = Again x hi down d ∷ todo;
        known = known_bind ops rel w code (λ v. if goes_on down hi v then give (Again x hi down d ∷ todo) else
            settle g todo) (held z) (Again x hi down d ∷ todo) peeked
            (record { proof = ap (λ b. run (if b then give (Again x hi down d ∷ todo) else settle g todo) w o s) e });
        place = pc;
        st = stack;
        comes = stays ops rel w code _;
        follows = (at, slide, loop);
        ready = (z, e);
      }

      off : goes_on down hi (held z) ≡ false → next_step ops code (m.At j (m.Number hi ∷ loop.under) n)
          ≡ Goes (m.At (j + 1) loop.under n)
          → Settled end base below fs o s n (j + 1) loop.under todo
          → Settled end base below fs o s n pc stack (Again x hi down d ∷ todo)
      off e ge k = record {
        left = k.left;
        known = known_bind ops rel w code (λ v. if goes_on down hi v then give (Again x hi down d ∷ todo) else
            settle g todo) (held z) k.left peeked
            (record {
              proof = ap (λ b. run (if b then give (Again x hi down d ∷ todo) else settle g todo) w o s) e
                  ∙ k.known.proof;
            });
        place = k.place;
        st = k.st;
        comes = comes_on ops rel w code (slide.proof n)
            (comes_on ops rel w code (goes ops rel w code
            (ap (λ y. next_step ops code (m.At j y n)) loop.stack_is ∙ ge)) k.comes);
        follows = k.follows;
        ready = k.ready;
      }

      by_test : (a : ℤ) → held z ≡ Ordinal a
          → next_step ops code (m.At j (m.Number hi ∷ loop.under) n)
          ≡ (if is_before down a hi then Goes
          (m.At (q + 1) (m.Number hi ∷ loop.under) (ops.put z.cell (cell.Ordinal (next_value down a)) n)) else
          Goes (m.At (j + 1) loop.under n)) → Settled end base below fs o s n (j + 1) loop.under todo → (b : Bool)
          → is_before down a hi ≡ b → Settled end base below fs o s n pc stack (Again x hi down d ∷ todo)
      by_test a e ge k true eb = on (ap (goes_on down hi) e ∙ eb)
      by_test a e ge k false eb = off (ap (goes_on down hi) e ∙ eb)
          (ge ∙ ap (λ b. if b then Goes (m.At (q + 1) (m.Number hi ∷ loop.under)
          (ops.put z.cell (cell.Ordinal (next_value down a)) n)) else Goes (m.At (j + 1) loop.under n)) eb) k

      go : (v : Value) → held z ≡ v → (c : Cell) → CellIs rel.Named (held z) c
          → next_step ops code (m.At j (m.Number hi ∷ loop.under) n)
          ≡ ordinal_in c (λ v. if is_before down v hi then
          Goes (m.At (q + 1) (m.Number hi ∷ loop.under) (ops.put z.cell (cell.Ordinal (next_value down v)) n)) else
          Goes (m.At (j + 1) loop.under n)) → Settled end base below fs o s n (j + 1) loop.under todo
          → Settled end base below fs o s n pc stack (Again x hi down d ∷ todo)
      go Undefined e c oi ge k = on (ap (goes_on down hi) e)
      go (Chan y) e c oi ge k = on (ap (goes_on down hi) e)
      go (Parts y) e c oi ge k = on (ap (goes_on down hi) e)
      go (Ordinal a) e c oi ge k = by_test a e
          (ge ∙ cell_is a c (subst (λ y. CellIs rel.Named y c) e oi)
          (λ v. if is_before down v hi then Goes
          (m.At (q + 1) (m.Number hi ∷ loop.under) (ops.put z.cell (cell.Ordinal (next_value down v)) n)) else
          Goes (m.At (j + 1) loop.under n))) k (is_before down a hi) refl

  -- the next value of a for loop
  again_makes : (end : ℕ) (base : List Entry) (below : List FramePair) (x : ℕ) (hi : ℤ) (down : Bool) (d : Stmt)
      (sc : List Scope) (q : ℕ) (st : List Entry) (todo : List Item) (fs : List FramePair) (o : LocalState) (s : Store)
      (n : M)
      → rel.Agrees fs o s n → Pl ex sc fs (In_loop x d)
      → TurnsAt p moves shares (CodeAt code) (HasFork code) (HasWords code) callable sc q x down
      (after_statement p (q + 1 + 1) d)
      (S ex (is_in_no_function st) sc (q + 1 + 1) d)
      → F end base below (after_statement p (q + 1 + 1) d + 1) st fs todo → (z : FP fs x n o s)
      → goes_on down hi (held z) ≡ true
      → Ka end base below (m.At (after_statement p (q + 1 + 1) d) (m.Number hi ∷ st) n) o s
      (bind (place_of g x) (λ y. bind (read_at g y)
      (λ v. bind (ordinal v) (λ a. turn_of g x (next_value down a) hi down d todo))))
  again_makes end base below x hi down d sc q st todo fs o s n t pl (local, test, tick, body, next) k z gz =
      let ty = kind_of_sort (slice_get p.kinds z.address.kind) z.sorted in
      makes_known ex (λ y. bind (read_at g y) rest) (AtAddress z.address) z.known
      (makes_assoc ex (kind_at g z.address.kind) (λ u. bind (fetch z.address) (checked_value u)) rest
      (makes_known ex (λ u. bind (bind (fetch z.address) (checked_value u)) rest) ty.0
      (kind_known ex z.address.kind z.address.kind ty.0 refl ty.1)
      (makes_assoc ex (fetch z.address) (checked_value ty.0) rest
      (makes_known ex (λ v. bind (checked_value ty.0 v) rest) (held z) (fetch_known ex z.address)
      (makes_by ex (ap (λ (y : Work Value). bind y rest)
      (checked_as ex ty.0 (held z) ∙ ap (λ y. read_as ex y (held z)) (sym (ap sort_by ty.1) ∙ z.sorted)))
      (go (held z) gz (ops.read z.cell n) (law.load t z.address z.cell z.points z.may (subst OneCell (sym z.sorted) tt))
      (next_one down (after_statement p (q + 1 + 1) d) (q + 1) x st n hi next z.cell z.cell_at
      (law.has_one t z.address z.cell z.points z.may))))))))
    where
      rest : Value → Work Action
      rest v = bind (ordinal v) (λ a. turn_of g x (next_value down a) hi down d todo)

      c : Config M
      c = m.At (after_statement p (q + 1 + 1) d) (m.Number hi ∷ st) n

      fails : (v : Value) → ordinal_read v ≡ fail fault.F4 → next_step ops code c ≡ Fails fault.F4
          → Ka end base below c o s (bind (ordinal_read v) rest)
      fails v e ge = makes_by ex (ap (λ (y : Work Value). bind y rest) e)
          (record { proof = breaks ops rel w code c fault.F4 s (fs, o, t) ge })

      go : (v : Value) → goes_on down hi v ≡ true → (u : Cell) → CellIs rel.Named v u
          → next_step ops code c ≡ ordinal_in u (λ a. if is_before down a hi then
          Goes (m.At (q + 1) (m.Number hi ∷ st) (ops.put z.cell (cell.Ordinal (next_value down a)) n)) else
          Goes (m.At (after_statement p (q + 1 + 1) d + 1) st n)) → Ka end base below c o s (bind (ordinal_read v) rest)
      go Undefined e cell.Undefined oi ge = fails Undefined refl ge
      go Undefined e (cell.Ordinal a) oi ge = absurd oi
      go Undefined e (cell.Channel a) oi ge = absurd oi
      go (Chan y) e cell.Undefined oi ge = absurd oi
      go (Chan y) e (cell.Ordinal a) oi ge = absurd oi
      go (Chan y) e (cell.Channel a) oi ge = fails (Chan y) refl ge
      go (Parts y) e u oi ge = absurd oi
      go (Ordinal a) e u oi ge =
          turn_makes ex end base below x (next_value down a) hi down d sc q st todo fs c o s n t pl
          (local, test, tick, body, next) k z
          (ge ∙ cell_is a u oi (λ a. if is_before down a hi then
          Goes (m.At (q + 1) (m.Number hi ∷ st) (ops.put z.cell (cell.Ordinal (next_value down a)) n)) else
          Goes (m.At (after_statement p (q + 1 + 1) d + 1) st n))
          ∙ ap (λ b. if b then Goes (m.At (q + 1) (m.Number hi ∷ st)
          (ops.put z.cell (cell.Ordinal (next_value down a)) n)) else Goes
          (m.At (after_statement p (q + 1 + 1) d + 1) st n))
          e)

  -- what is first, where the machine stands before it
  pub act_makes : (call : Calls) → Oks ex call → Blocks ex
      → (end : ℕ) (base : List Entry) (below : List FramePair) (item : Item) (pc : ℕ) (stack : List Entry)
      (todo : List Item) (fs : List FramePair) (o : LocalState) (s : Store) (n : M) → rel.Agrees fs o s n
      → F end base below pc stack fs (item ∷ todo) → LoopMayGoOn fs o s n (item ∷ todo)
      → Ka end base below (m.At pc stack n) o s (item_action g call item todo)
  act_makes call ok bl end base below (Do d) pc stack todo fs o s n t h r =
      let (at, slide, k) = h in
      makes_after ex (slide.proof n)
      (start_makes ex call ok bl end base below d k.scopes at stack todo fs o s n t k.placed k.stands k.rest)
  act_makes call ok bl end base below (First x lo hi down d) pc stack todo fs o s n t h r =
      let (at, slide, k, in_range) = h in
      let (local, test, _, _, _) = k.turns in
      let z = for_place ex k.scopes x t k.placed (inl refl) local in
      makes_after ex (slide.proof n) (subst (λ y. Ka end base below (m.At at y n) o s (turn_of g x lo hi down d todo))
      (sym k.stack_is)
      (turn_makes ex end base below x lo hi down d k.scopes at k.under todo fs
      (m.At at (m.Number hi ∷ m.Number lo ∷ k.under) n) o s n t k.placed k.turns k.rest z
      (first_one ex down at (after_statement p (at + 1 + 1) d + 1) x k.under n lo hi test z.cell z.cell_at
      (law.has_one t z.address z.cell z.points z.may)
      ∙ ap (λ b. if b then Goes (m.At (at + 1) (m.Number hi ∷ k.under) (ops.put z.cell (cell.Ordinal lo) n)) else
      Goes (m.At (after_statement p (at + 1 + 1) d + 1) k.under n)) in_range)))
  act_makes call ok bl end base below (Again x hi down d) pc stack todo fs o s n t h (place, goes_on_so) =
      let (at, slide, k) = h in
      makes_after ex (slide.proof n) (subst (λ y. Ka end base below (m.At (after_statement p (at + 1 + 1) d) y n) o s
      (item_action g call (Again x hi down d) todo)) (sym k.stack_is)
      (again_makes end base below x hi down d k.scopes at k.under todo fs o s n t k.placed k.turns k.rest place
      goes_on_so))
  act_makes call ok bl end base below (Test d e) pc stack todo fs o s n t h r =
      let (at, slide, k) = h in
      let (_, _, value, jump) = k.stands in
      makes_after ex (slide.proof n)
      (makes_bind ex _ (ordinal_gives ex call ok e k.scopes (after_statement p (at + 1) d) stack fs o s n t
      (within (λ u. inl) k.placed) value) (λ v u o1 s1 n1 t1 x1.
      makes_by ex (went_if ex (int_le v (pos 0)) (Do (Repeat d e) ∷ todo) todo)
      (branch ex (After ex end base below) v (after_value (after_statement p (at + 1) d) e) at stack o1 s1 n1 _
      _ jump
      (makes_went ex (Do (Repeat d e) ∷ todo) fs _ stack n1 (stays ops rel w code _) t1
      (at, slides ex _ _, k))
      (makes_went ex todo fs _ stack n1 (stays ops rel w code _) t1 k.rest))))
  act_makes call ok bl end base below Leave pc stack todo fs o s n t h r =
      let (at, slide, k) = h in
      let c = law.close_frame (subst (λ y. rel.Agrees y o s n) k.frames_are t) k.mine in
      record {
        proof = (
          m.At k.back k.under (ops.close_frame n),
          comes_on ops rel w code (slide.proof n)
              (goes ops rel w code (at_one ex at stack n k.returns ∙ ap (λ y. m.return_step ops code y n) k.stack_is
              ∙ holds_when (ops.may_close n) _ c.0)),
          record { frames = k.outer; stand = c.1; follows = k.rest },
        );
      }
  act_makes call ok bl end base below (Break f) pc stack todo fs o s n t h r = absurd h

  pub action_makes : (go : List Item → Work (List Item)) → Oks ex (call_by g go) → Blocks ex
      → (end : ℕ) (base : List Entry) (below : List FramePair) → slice_get code.instrs end ≡ Some i.End
      → is_in_no_function base ≡ true → (todo : List Item) (pc : ℕ) (stack : List Entry) (fs : List FramePair)
      (o : LocalState) (s : Store)
      (n : M) → rel.Agrees fs o s n → F end base below pc stack fs todo → LoopMayGoOn fs o s n todo
      → Ka end base below (m.At pc stack n) o s (action_by g go todo)
  action_makes go ok bl end base below e ob [] pc stack fs o s n t (slide, stack_is, frames_are) r =
      record {
        proof = (
          m.At end stack n,
          slide.proof n,
          record {
            frames = fs;
            stops = at_one ex end stack n e;
            stand = t;
            follows = (slides ex end stack, stack_is, frames_are);
            outside = ap is_in_no_function stack_is ∙ ob;
          },
        );
      }
  action_makes go ok bl end base below e ob (item ∷ todo) pc stack fs o s n t h r =
      act_makes (call_by g go) ok bl end base below item pc stack todo fs o s n t h r

  -- one step of a process
  pub step_makes : (k : ℕ) → Oks ex (call_by g (run_items g k)) → Blocks ex
      → (end : ℕ) (base : List Entry) (below : List FramePair) → slice_get code.instrs end ≡ Some i.End
      → is_in_no_function base ≡ true → (todo : List Item) (pc : ℕ) (stack : List Entry) (fs : List FramePair)
      (o : LocalState) (s : Store)
      (n : M) → rel.Agrees fs o s n → F end base below pc stack fs todo
      → Ka end base below (m.At pc stack n) o s (next_action g k todo)
  step_makes k ok bl end base below e ob todo pc stack fs o s n t h =
      let z = settle_follows end base below fs o s n t pc stack todo h in
      makes_known ex (action_by g (run_items g k)) z.left z.known
      (makes_after ex z.comes (action_makes (run_items g k) ok bl end base below e ob z.left z.place z.st fs o s n t
      z.follows z.ready))
