-- All that is left in a function's body comes to its end, and every function is called as the meaning calls it.
use Rattle.std.proofs.Common.{◌≡◌, ℕ, zero, suc, ◌+◌, ◌==◌, List, [], ◌∷◌, Option, Some, None, true, false}
use Rattle.std.proofs.Common.{if◌then◌else◌, drop, refl, sym, ap, ◌∙◌, subst, arith}
use Rattle.std.proofs.lemmas.Bool.Decides.{nat_tests}
use Rattle.std.specs.Prelude.{slice_get}
use Rattle.sp_base.specs.declared.fault.Fault.TheVariants as fault
use Rattle.sp_tree.specs.declared.checked.Role.TheVariants as role
use Rattle.sp_tree.specs.Plain.{Actuals, Program, Variable, Block}
use Rattle.sp_tree.specs.Uses.{In_call}
use Rattle.sp_cell.specs.declared.cell.Cell.{Cell}
use Rattle.sp_cell.specs.declared.cell.Cell.TheVariants as cell
use Rattle.sp_cell.specs.declared.spot.Address.{Address as Ptr}
use Rattle.sp_meaning.specs.Values.{Value, Undefined, Ordinal, Chan, Parts}
use Rattle.sp_meaning.specs.LocalWork.{OfBlock, Frame, LocalState, Item, WorkOutcome, Computed, EndsInFault, IllFormed}
use Rattle.sp_meaning.specs.LocalWork.{OutOfFuel, Work, bind, give, fetch}
use Rattle.sp_meaning.specs.LocalWork.{value_in, is_block}
use Rattle.sp_meaning.specs.LocalWork as own
use Rattle.sp_meaning.specs.Rights.{AreArgumentsOf}
use Rattle.sp_meaning.specs.Eval.{AtAddress, ArgumentValue, checked_value, ordinal_read, kind_at, read_at, place_of}
use Rattle.sp_meaning.specs.Eval.{in_frame, place_by}
use Rattle.sp_meaning.specs.Actions.{Action, Stepped, Ticked, Opened, Forked, Offered, Ended, push, enter, leave}
use Rattle.sp_meaning.specs.Actions.{item_action}
use Rattle.sp_meaning.specs.Actions.{without_frame, function_result, items_after, call_by, rest_by, run_items}
use Rattle.sp_meaning.specs.Run.{Store, run}
use Rattle.sp_meaning.proofs.Run.{then_run, run_bind}
use Rattle.sp_code.specs.declared.code.Layout.{Layout}
use Rattle.sp_code.specs.declared.instr.Instr.TheVariants as i
use Rattle.sp_code.specs.Machine.{Entry, MemoryResult, Done, Failed, Config, Goes, Stops, Fails, is_in_no_function}
use Rattle.sp_code.specs.Machine.{when, on_some}
use Rattle.sp_code.specs.Machine.{ordinal_in, pause_step, next_step}
use Rattle.sp_code.specs.Machine as m
use Rattle.sp_code.specs.Scopes.{Ordinals, Scope, sort, sort_by, level, is_given, scopes_of}
use Rattle.sp_code.specs.Scopes as places
use Rattle.sp_code.specs.Places.{after_statement}
use Rattle.sp_code.specs.CodeOfTree.{CodeAt, HasFork, HasWords, CallAt, Around}
use Rattle.sp_codegen.specs.FramePairs.{FramePair, sources, Chain}
use Rattle.sp_codegen.specs.Shapes.{CellIs}
use Rattle.sp_codegen.specs.Executions.{Execution}
use Rattle.sp_codegen.specs.CodePositions.{StandsFor}
use Rattle.sp_codegen.specs.Relation.{StackHolds, OneCell, CallMatches, GivensAre, frame_for}
use Rattle.sp_codegen.proofs.Runs.{HasKnownValue, RealizesResult, ends_after, goes, comes_on, breaks, gives_after}
use Rattle.sp_codegen.proofs.Runs.{gives_bind}
use Rattle.sp_codegen.proofs.Runs.{gives_known, known_bind, gives_give, gives_by, holds_when, run_assoc}
use Rattle.sp_codegen.proofs.Chains.{block_agrees, found, seek_all}
use Rattle.sp_codegen.proofs.Follows.{slides, push_follows, outside_follows, Made}
use Rattle.sp_codegen.proofs.StepForms.{C, G, Pl, Oks, After}
use Rattle.sp_codegen.proofs.CallSteps.{BlockIs, Blocks, calls_to, CallFinds, call_finds, return_at}
use Rattle.sp_codegen.proofs.ValueForms.{pushed, kind_known, or_known, fetch_known, visible_known, Top, at_one}
use Rattle.sp_codegen.proofs.PlaceValues.{checked_as, read_as}
use Rattle.sp_codegen.proofs.TurnSteps.{IsTrue, kind_of_sort, F, Ka, LoopMayGoOn, settle_follows, act_makes}

module _ {M : Type 0} (ex : Execution M) where
  open ex use {
    run_input as g,
    code,
    moves,
    shares,
    IsCallableInFunctions as callable,
    who as w,
    due,
    Writes as W,
    IsReadable as R,
    operations as ops,
    relation as rel,
    laws as law,
    reads_written as reads,
    own_written as mine_written,
  }

  abbrev p : Program
  p = g.program

  abbrev BaseTop : List Entry → List Item → Unit {0} → List Entry
  BaseTop base r u = base

  abbrev No_more : List Item → Unit {0} → Type 0
  No_more r u = Unit {0}

  -- all that is left in a function's body comes to its end
  pub record AllMeets (go : List Item → Work (List Item)) : Type 0 where
    pub proof : (end : ℕ) (base : List Entry) (below : List FramePair) → is_in_no_function base ≡ false
        → (todo : List Item) (pc : ℕ) (stack : List Entry) (fs : List FramePair) (o : LocalState) (s : Store) (n : M)
        → rel.Agrees fs o s n → F ex end base below pc stack fs todo
        → G ex below (m.At pc stack n) o s end (BaseTop base) No_more (go todo)

  -- inside a function no step pauses and none is a kernel step
  inside_gives : (end : ℕ) (base : List Entry) (below : List FramePair) → is_in_no_function base ≡ false
      → (go : List Item → Work (List Item)) → AllMeets go
      → (c : Config M) (o : LocalState) (s : Store) (h : Work Action)
      → Ka ex end base below c o s h
      → G ex below c o s end (BaseTop base) No_more (bind h (λ d. bind (items_after g d) go))
  inside_gives end base below ob go ih c o s h k =
      record {
        proof = subst (RealizesResult ops rel w code below c end (BaseTop base) No_more)
            (sym (run_bind h (λ d. bind (items_after g d) go) w o s)) (by_action (run h w o s) k.proof);
      }
    where
      no : (st : List Entry) (pc : ℕ) (fs : List FramePair) (todo : List Item) → F ex end base below pc st fs todo
          → is_in_no_function st ≡ true → ⊥
      no st pc fs todo f e = subst IsTrue (sym (outside_follows ex end base below pc st fs todo f ∙ ob) ∙ e) tt

      by_action : (r : WorkOutcome Action × Store) → Made ex c (After ex end base below) r
          → RealizesResult ops rel w code below c end (BaseTop base) No_more
          (then_run (λ d. bind (items_after g d) go) w r)
      by_action (Computed (Stepped todo) o1, s1) (m.At pc st n1, comes, k) =
          ends_after ops rel w code below c (m.At pc st n1) end (BaseTop base) No_more (run (go todo) w o1 s1) comes
          (ih.proof end base below ob todo pc st k.frames o1 s1 n1 k.stand k.follows).proof
      by_action (Computed (Ticked todo) o1, s1) (_, comes, k) =
          ends_after ops rel w code below c (m.At k.pc k.stack k.memory) end (BaseTop base) No_more
          (run (go todo) w o1 s1)
          (comes_on ops rel w code comes (goes ops rel w code
          (k.ticks ∙ ap (λ b. if b then (if ops.due k.memory then Stops m.Pauses (m.At k.pc k.stack k.memory) else
          Goes (m.At k.pc k.stack k.memory)) else Goes (m.At k.pc k.stack k.memory))
          (outside_follows ex end base below k.pc k.stack k.frames todo k.follows ∙ ob))))
          (ih.proof end base below ob todo k.pc k.stack k.frames o1 s1 k.memory k.stand k.follows).proof
      by_action (Computed (Opened todo) o1, s1) (_, _, k) = absurd (no k.stack k.pc k.frames todo k.follows k.outside)
      by_action (Computed (Forked bs todo) o1, s1) (_, _, k) =
          absurd (no k.stack k.pc k.frames todo k.follows k.outside)
      by_action (Computed (Offered ch x payload todo) o1, s1) (_, _, k) =
          absurd (no k.stack k.pc k.frames todo k.follows k.outside)
      by_action (Computed Ended o1, s1) (m.At pc st _, _, k) = absurd (no st pc k.frames [] k.follows k.outside)
      by_action (EndsInFault f, s1) q = q
      by_action (IllFormed, s1) q = q
      by_action (OutOfFuel, s1) q = q

  gives_assoc : {A B D E : Type 0} {fs : List FramePair} {c : Config M} {o : LocalState} {s : Store} {pc : ℕ}
      {st : D → E → List Entry} {T : D → E → Type 0} (h : Work A) (gg : A → Work B) (k : B → Work D)
      → G ex fs c o s pc st T (bind h (λ a. bind (gg a) k)) → G ex fs c o s pc st T (bind (bind h gg) k)
  gives_assoc {A} {B} {D} {E} {fs} {c} {o} {s} {pc} {st} {T} h gg k x =
      record {
        proof = subst (RealizesResult ops rel w code fs c pc st T)
            (run_bind h (λ a. bind (gg a) k) w o s ∙ run_assoc gg k w (run h w o s)
            ∙ ap (then_run k w) (sym (run_bind h gg w o s)) ∙ sym (run_bind (bind h gg) k w o s)) x.proof;
      }

  abbrev StK : ℕ → Value → Entry → Type 0
  StK k v e = StackHolds rel p (sort p k) k v e

  -- a function's return
  answer_gives : (r k : ℕ) (stack : List Entry) (fs : List FramePair) (fr : FramePair) (c : Config M) (o : LocalState)
      (s : Store)
      (n : M) → StandsFor rel c s → rel.Agrees fs (without_frame g o.frames o) s (ops.close_frame n)
      → sort p k ≡ Ordinals → (v : Value) (u : Cell) → CellIs rel.Named v u
      → next_step ops code c ≡ ordinal_in u (λ a. Goes (m.At r (m.Number a ∷ stack) (ops.close_frame n)))
      → G ex fs c o s r (Top ex stack) (StK k) (bind (ordinal_read v) (λ y. bind (leave g) (λ z. give y)))
  answer_gives r k stack fs fr c o s n f t e Undefined cell.Undefined oi ge =
      record { proof = breaks ops rel w code c fault.F4 s f ge }
  answer_gives r k stack fs fr c o s n f t e Undefined (cell.Ordinal a) oi ge = absurd oi
  answer_gives r k stack fs fr c o s n f t e Undefined (cell.Channel a) oi ge = absurd oi
  answer_gives r k stack fs fr c o s n f t e (Chan y) cell.Undefined oi ge = absurd oi
  answer_gives r k stack fs fr c o s n f t e (Chan y) (cell.Ordinal a) oi ge = absurd oi
  answer_gives r k stack fs fr c o s n f t e (Chan y) (cell.Channel a) oi ge =
      record { proof = breaks ops rel w code c fault.F4 s f ge }
  answer_gives r k stack fs fr c o s n f t e (Parts y) u oi ge = absurd oi
  answer_gives r k stack fs fr c o s n f t e (Ordinal a) cell.Undefined oi ge = absurd oi
  answer_gives r k stack fs fr c o s n f t e (Ordinal a) (cell.Channel b) oi ge = absurd oi
  answer_gives r k stack fs fr c o s n f t e (Ordinal a) (cell.Ordinal b) oi ge =
      record {
        proof = (
          m.Number b,
          ops.close_frame n,
          goes ops rel w code ge,
          t,
          subst (λ z. StackHolds rel p z k (Ordinal a) (m.Number b)) (sym e) (a, refl, ap m.Number (sym oi)),
        );
      }

  rest_gives : Blocks ex → (go : List Item → Work (List Item)) → AllMeets go → Oks ex (call_by g go)
      → (end : ℕ) (base : List Entry) (below : List FramePair) → is_in_no_function base ≡ false
      → (todo : List Item) (pc : ℕ) (stack : List Entry) (fs : List FramePair) (o : LocalState) (s : Store) (n : M)
      → rel.Agrees fs o s n → F ex end base below pc stack fs todo → LoopMayGoOn ex fs o s n todo
      → G ex below (m.At pc stack n) o s end (BaseTop base) No_more (rest_by g go todo)
  rest_gives bl go ih ok end base below ob [] pc stack fs o s n t h r =
      gives_give ops rel w code [] tt (subst (λ y. C ex (m.At pc stack n) (m.At end y n)) h.1 (h.0.proof n))
      (subst (λ y. rel.Agrees y o s n) h.2 t) tt
  rest_gives bl go ih ok end base below ob (item ∷ todo) pc stack fs o s n t h r =
      inside_gives end base below ob go ih (m.At pc stack n) o s (item_action g (call_by g go) item todo)
      (act_makes ex (call_by g go) ok bl end base below item pc stack todo fs o s n t h r)

  pub all_meets : Blocks ex → ((go : List Item → Work (List Item)) → AllMeets go → Oks ex (call_by g go)) → (k : ℕ)
      → AllMeets (run_items g k)
  all_meets bl calls zero = record { proof = λ end base below ob todo pc stack fs o s n t h. record { proof = tt } }
  all_meets bl calls (suc k) = record {
    proof = λ end base below ob todo pc stack fs o s n t h.
        let z = settle_follows ex end base below fs o s n t pc stack todo h in
        gives_known ops rel w code (rest_by g (run_items g k)) z.left z.known
        (gives_after ops rel w code z.comes
        (rest_gives bl (run_items g k) (all_meets bl calls k) (calls (run_items g k) (all_meets bl calls k)) end base
        below ob
        z.left z.place z.st fs o s n t z.follows z.ready));
  }

  abbrev same_head : FramePair → List FramePair → FramePair
  same_head d [] = d
  same_head d (f ∷ fs) = f

  -- the answer's place, in the newest frame
  answer_place : {fr : FramePair} {fs : List FramePair} {o : LocalState} {s : Store} {n : M} (f x : ℕ) (sc : List Scope)
      (v : Variable)
      → rel.Agrees (fr ∷ fs) o s n → Chain (places.OfBlock f ∷ sc) (fr ∷ fs) → slice_get p.variables x ≡ Some v
      → v.role ≡ role.Answer → v.block ≡ f
      → HasKnownValue ops rel w code o s (place_of g x) (AtAddress (in_frame g x v fr.source))
  answer_place {fr} {fs} {o} {s} {n} f x sc v t ch ev er eb =
      let lv : level (places.is_block v.block) (places.OfBlock f ∷ sc) ≡ Some 0 =
      ap (λ b. if b then Some 0 else places.one_more (level (places.is_block v.block) sc))
      (let z : (v.block == f) ≡ true = Prim.grind (arith, nat_tests, eb) in z) in
      let r = found (is_block v.block) (places.is_block v.block) (block_agrees v.block) (places.OfBlock f ∷ sc)
      (fr ∷ fs) 0 ch lv in
      let top : r.frame ≡ fr = ap (same_head fr) (sym r.frame_at) in
      known_bind ops rel w code (λ i. place_by g x i i.role) v (AtAddress (in_frame g x v fr.source))
      (or_known ex (slice_get p.variables x) v ev)
      (subst (λ y. HasKnownValue ops rel w code o s (place_by g x v y) (AtAddress (in_frame g x v fr.source))) (sym er)
      (known_bind ops rel w code (λ y. give (AtAddress (in_frame g x v y))) r.frame.source
      (AtAddress (in_frame g x v fr.source))
      (visible_known ex t (is_block v.block) r.frame r.rest (seek_all (is_block v.block) (fr ∷ fs) ∙ r.sought))
      (record { proof = ap (λ (y : FramePair). run (give (AtAddress (in_frame g x v y.source))) w o s) top })))

  pub call_meets : Blocks ex → (go : List Item → Work (List Item)) → AllMeets go → Oks ex (call_by g go)
  call_meets bl go ih = record {
    proof = λ f args b sc q k stack fs o s n t pl ca ans ek gs es gv ga. function_gives f args
        b sc q k stack fs o s n t pl ca ans ek gs es gv ga (bl f b ca.1);
  }
    where
      function_gives : (f : ℕ) (args : Actuals) (b : Block) (sc : List Scope) (q k : ℕ) (stack : List Entry)
          (fs : List FramePair) (o : LocalState) (s : Store) (n : M) → rel.Agrees fs o s n
          → Pl ex sc fs (In_call f args)
          → CallAt p moves shares (CodeAt code) (HasFork code) (HasWords code) callable sc q f b
          → ((x : ℕ) × (b.answer ≡ Some x)) → sort p k ≡ Ordinals
          → (gs : List ArgumentValue) (es : List Entry) → GivensAre rel p fs b.formals gs es
          → AreArgumentsOf p (sources fs) args gs
          → (z : BlockIs ex f b) → G ex fs (m.At q (pushed es stack) n) o s (q + 1) (Top ex stack) (StK k)
          (call_by g go f gs)
      function_gives f args b sc q k stack fs o s n t pl ca ans ek gs es gv ga z =
          record {
            proof = subst (RealizesResult ops rel w code fs c (q + 1) (Top ex stack) (StK k))
                (sym (run_bind (enter g f gs) body w o s)) (by_enter (run (enter g f gs) w o s) r.did r.entered r.goes);
          }
        where
          l : Layout
          l = z.layout

          r : CallFinds ex fs f b q stack gs es o s n l
          r = call_finds ex f args b sc q stack gs es t pl ca z gv ga

          c : Config M
          c = m.At q (pushed es stack) n

          body : Block → Work Value
          body y = bind (go (push y.body []))
              (λ rest. bind (function_result g y.answer) (λ v. bind (leave g) (λ u. give v)))

          end : ℕ
          end = after_statement p l.entry b.body

          st : List Entry
          st = m.Reply (q + 1) ∷ stack

          answers : l.answer ≡ true
          answers = ap (λ (y : Layout). y.answer) z.layout_is ∙ ap is_given ans.1

          ends : slice_get code.instrs end ≡ Some i.Return
          ends = z.stands.end ∙ ap Some (return_at ex f r.parent.0 b ca.1 r.parent.1)

          at_answer : (fr : FramePair) (v : Variable) (a1 : Ptr) → sort p v.kind ≡ Ordinals
              → (o2 : LocalState) (s2 : Store) (n2 : M) → rel.Agrees (fr ∷ fs) o2 s2 n2 → rel.Mine fr fs
              → fr.source.owner ≡ w.name → ops.answer n2 ≡ Some a1
              → rel.Points (fr ∷ fs) (in_frame g ans.0 v fr.source) a1
              → G ex fs (m.At end st n2) o2 s2 (q + 1) (Top ex stack) (StK k)
              (bind (read_at g (AtAddress (in_frame g ans.0 v fr.source))) (λ v. bind (leave g) (λ u. give v)))
          at_answer fr v a1 so o2 s2 n2 t2 mi ow ea pt =
              let ty = kind_of_sort (slice_get p.kinds v.kind) so in
              let a = in_frame g ans.0 v fr.source in
              let val = value_in (s2 a.spot) in
              let out : Value → Work Value = λ v. bind (leave g) (λ u. give v) in
              let may : R a.spot = reads a.spot
              (subst (λ y. W (own.Cell y fr.source.number ans.0)) (sym ow) (mine_written fr.source.number ans.0)) in
              let cl = law.close_frame t2 mi in
              gives_assoc (kind_at g v.kind) (λ y. bind (fetch a) (checked_value y)) out
              (gives_known ops rel w code (λ y. bind (bind (fetch a) (checked_value y)) out) ty.0
              (kind_known ex v.kind v.kind ty.0 refl ty.1)
              (gives_assoc (fetch a) (checked_value ty.0) out
              (gives_known ops rel w code (λ y. bind (checked_value ty.0 y) out) val (fetch_known ex a)
              (gives_by ops rel w code (ap (λ (y : Work Value). bind y out)
              (checked_as ex ty.0 val ∙ ap (λ y. read_as ex y val) (sym (ap sort_by ty.1) ∙ so)))
              (answer_gives (q + 1) k stack fs fr (m.At end st n2) o2 s2 n2 (_, _, t2) cl.1 ek val (ops.read a1 n2)
              (law.load t2 a a1 pt may (subst OneCell (sym so) tt))
              (at_one ex end st n2 ends ∙ holds_when (ops.may_close n2) _ cl.0
              ∙ ap (λ y. on_some y (λ a. when (ops.has a 1 n2)
              (ordinal_in (ops.read a n2) (λ v. Goes (m.At (q + 1) (m.Number v ∷ stack) (ops.close_frame n2)))))) ea
              ∙ holds_when (ops.has a1 1 n2) _ (law.has_one t2 a a1 pt may)))))))

          inner : (fr : FramePair) (o1 : LocalState) (s1 : Store) (n1 : M)
              → fr.source ≡ frame_for rel w f b fs r.around gs
              → rel.Agrees (fr ∷ fs) o1 s1 n1 → rel.Mine fr fs
              → G ex fs (m.At l.entry st n1) o1 s1 (q + 1) (Top ex stack) (StK k) (body b)
          inner fr o1 s1 n1 ej t1 mi =
              let pl1 = r.placed fr ej in
              let (v1, known, role_is, block_is, sort_is) = z.stands.answer ans.0 ans.1 in
              let hh : fr.source.home ≡ OfBlock f = ap (λ (y : Frame). y.home) ej in
              let ow : fr.source.owner ≡ w.name = ap (λ (y : Frame). y.owner) ej in
              gives_bind ops rel w code
              (ih.proof end st (fr ∷ fs) refl (push b.body []) l.entry st (fr ∷ fs) o1 s1 n1 t1
              (push_follows ex b.body end st (fr ∷ fs) (scopes_of p f) l.entry st (fr ∷ fs) [] pl1
              (z.stands.body false (z.stands.callable_function ans.0 ans.1)) (slides ex _ _, refl, refl)))
              (λ rest u o2 s2 n2 t2 x.
              let (cell1, cell_is, points) = law.result t2 b f ans.0 v1 hh ca.1 ans.1 known role_is block_is in
              gives_by ops rel w code (ap (λ y. bind (function_result g y) (λ v. bind (leave g) (λ u. give v))) ans.1)
              (gives_assoc (place_of g ans.0) (read_at g) (λ v. bind (leave g) (λ u. give v))
              (gives_known ops rel w code (λ y. bind (read_at g y) (λ v. bind (leave g) (λ u. give v)))
              (AtAddress (in_frame g ans.0 v1 fr.source))
              (answer_place f ans.0 (drop ca.0 sc) v1 t2 (subst (λ y. Chain y (fr ∷ fs)) scoped pl1.chain) known role_is
              block_is)
              (at_answer fr v1 cell1 sort_is o2 s2 n2 t2 mi ow cell_is points))))
            where
              around_at : (y : Option ℕ) → b.parent ≡ y
                  → Around p moves shares (CodeAt code) (HasFork code) (HasWords code) callable sc f y ca.0
                  → scopes_of p f ≡ places.OfBlock f ∷ drop ca.0 sc
              around_at None e x = absurd x
              around_at (Some c1) e x = x.1

              scoped : scopes_of p f ≡ places.OfBlock f ∷ drop ca.0 sc
              scoped = around_at b.parent refl ca.2

          by_enter : (x : WorkOutcome Block × Store) (d : MemoryResult M) → CallMatches rel w fs s f b r.around gs x d
              → next_step ops code c ≡ calls_to ex l (q + 1) stack d
              → RealizesResult ops rel w code fs c (q + 1) (Top ex stack) (StK k) (then_run body w x)
          by_enter (Computed b1 o1, s1) (Done n1) (block_is, (frame, frame_is, stands, mine)) e =
              ends_after ops rel w code fs c (m.At l.entry st n1) (q + 1) (Top ex stack) (StK k) (run (body b1) w o1 s1)
              (goes ops rel w code (e ∙ ap (λ y. if y then Goes (m.At l.entry st n1) else
              pause_step ops code l.entry (m.Link (q + 1) ∷ stack) n1) answers))
              (subst (λ (y : Block). G ex fs (m.At l.entry st n1) o1 s1 (q + 1) (Top ex stack) (StK k) (body y))
              (sym block_is) (inner frame o1 s1 n1 frame_is stands mine)).proof
          by_enter (Computed b1 o1, s1) (Failed x) al e = absurd al
          by_enter (EndsInFault x, s1) (Done n1) al e = absurd al
          by_enter (EndsInFault x, s1) (Failed y) (same_fault, same_store) e =
              breaks ops rel w code c x s1 (subst (StandsFor rel c) (sym same_store) (fs, o, t))
              (e ∙ ap Fails (sym same_fault))
          by_enter (IllFormed, s1) d al e = absurd al
          by_enter (OutOfFuel, s1) d al e = absurd al

  -- every function is called as the meaning calls it
  pub calls_meet : Blocks ex → (k : ℕ) → Oks ex (call_by g (run_items g k))
  calls_meet bl k = call_meets bl (run_items g k) (all_meets bl (call_meets bl) k)
