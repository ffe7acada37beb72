-- Where the code of what is left to do stands.
use Rattle.std.proofs.Common.{◌≡◌, inl, inr, ℕ, ◌+◌, List, [], ◌∷◌, Some, Bool, sym, ap, ◌∙◌, subst}
use Rattle.std.specs.Prelude.{slice_get}
use Rattle.sp_base.specs.declared.fault.Fault.{Fault}
use Rattle.sp_tree.specs.Plain.{Program, Stmt, Empty, Sequence, Repeat}
use Rattle.sp_tree.specs.Plain.{Stmts, No, And}
use Rattle.sp_tree.specs.Uses.{Use, In_stmt, In_stmts}
use Rattle.sp_meaning.specs.Model.{Channel, Payload}
use Rattle.sp_meaning.specs.LocalWork.{LocationContent, Address, LocalState, Item, Do, First, Again, Test, Leave, Break}
use Rattle.sp_meaning.specs.LocalWork.{WorkOutcome, Computed, EndsInFault, IllFormed}
use Rattle.sp_meaning.specs.LocalWork.{OutOfFuel, Work, bind, give, fail, tick}
use Rattle.sp_meaning.specs.Actions.{Action, Stepped, Ticked, Birth, push, push_all}
use Rattle.sp_meaning.specs.Run.{Store, run}
use Rattle.sp_meaning.proofs.Run.{then_run, run_bind}
use Rattle.sp_code.specs.declared.instr.Instr.TheVariants as i
use Rattle.sp_code.specs.Machine.{Entry, MemoryResult, Done, Failed, Stop, Config, At, Fails, is_in_no_function}
use Rattle.sp_code.specs.Machine.{pause_step, then_go, next_step}
use Rattle.sp_code.specs.Machine.{instruction}
use Rattle.sp_code.specs.Turns.{RunsTo}
use Rattle.sp_code.specs.Scopes.{Scope}
use Rattle.sp_code.specs.Places.{after_statement, after_all}
use Rattle.sp_code.specs.CodeOfTree.{CodeAt, HasFork, HasWords, StatementAt, AllAt}
use Rattle.sp_codegen.specs.FramePairs.{FramePair}
use Rattle.sp_codegen.specs.Executions.{Execution}
use Rattle.sp_codegen.specs.CodePositions as following
pub use Rattle.sp_codegen.specs.CodePositions.{cells_in}
use Rattle.sp_codegen.specs.CodePositions.{StandsFor}
use Rattle.sp_codegen.specs.Relation.{Alike}
use Rattle.sp_codegen.proofs.Runs.{Realizes, HasKnownValue, RealizesResult, stays, goes, comes_on, breaks, breaks_after}
use Rattle.sp_codegen.proofs.ValueForms.{P, within}

module _ {M : Type 0} (ex : Execution M) where
  open ex use {
    run_input as g,
    code,
    moves,
    shares,
    IsCallableInFunctions as callable,
    who as w,
    IsReadable as R,
    operations as ops,
    relation as rel,
    free,
  }

  abbrev p : Program
  p = g.program

  abbrev Pl : List Scope → List FramePair → (Use → Type 0) → Type 0
  Pl sc js Here = P ex sc js Here

  abbrev pub Slides : ℕ → ℕ → List Entry → Type 0
  Slides pc q stack = following.Slides ex pc q stack

  pub slides : (pc : ℕ) (stack : List Entry) → Slides pc pc stack
  slides pc stack = record { proof = λ n. stays ops rel w code (At pc stack n) }

  pub slides_on : {a b c : ℕ} {stack : List Entry} → Slides a b stack → Slides b c stack → Slides a c stack
  slides_on h k = record { proof = λ n. comes_on ops rel w code (h.proof n) (k.proof n) }

  pub jumps : (q to : ℕ) (stack : List Entry) → slice_get code.instrs q ≡ Some (i.Jump to) → Slides q to stack
  jumps q to stack h = record { proof = λ n. goes ops rel w code (ap (λ o. instruction ops code o q stack n) h) }

  abbrev pub CodeFollows : ℕ → List Entry → List FramePair → ℕ → List Entry → List FramePair → List Item → Type 0
  CodeFollows end base below pc stack fs todo = following.CodeFollows ex end base below pc stack fs todo

  pub slide_follows : (end : ℕ) (base : List Entry) (below : List FramePair) (pc q : ℕ) (stack : List Entry)
      (fs : List FramePair) (todo : List Item) → Slides pc q stack → CodeFollows end base below q stack fs todo
      → CodeFollows end base below pc stack fs todo
  slide_follows end base below pc q stack fs [] h (slide, stack_is, frames_are) =
      (slides_on h slide, stack_is, frames_are)
  slide_follows end base below pc q stack fs (Do s ∷ todo) h (at, slide, k) = (at, slides_on h slide, k)
  slide_follows end base below pc q stack fs (First x lo hi d s ∷ todo) h (at, slide, k, in_range) =
      (at, slides_on h slide, k, in_range)
  slide_follows end base below pc q stack fs (Again x hi d s ∷ todo) h (at, slide, k) = (at, slides_on h slide, k)
  slide_follows end base below pc q stack fs (Test s e ∷ todo) h (at, slide, k) = (at, slides_on h slide, k)
  slide_follows end base below pc q stack fs (Leave ∷ todo) h (at, slide, k) = (at, slides_on h slide, k)
  slide_follows end base below pc q stack fs (Break f ∷ todo) h k = k

  mutual
    pub push_follows : (s : Stmt) (end : ℕ) (base : List Entry) (below : List FramePair) (sc : List Scope) (q : ℕ)
        (stack : List Entry) (fs : List FramePair) (todo : List Item) → Pl sc fs (In_stmt s)
        → StatementAt p moves shares (CodeAt code) (HasFork code) (HasWords code) callable
        (is_in_no_function stack) sc q s
        → CodeFollows end base below (after_statement p q s) stack fs todo
        → CodeFollows end base below q stack fs (push s todo)
    push_follows Empty end base below sc q stack fs todo ch h k = k
    push_follows (Sequence ss) end base below sc q stack fs todo ch h k =
        push_all_follows ss end base below sc q stack fs todo ch h k
    push_follows s end base below sc q stack fs todo ch h k =
        (q, slides q stack, record { scopes = sc; placed = ch; stands = h; rest = k })

    pub push_all_follows : (ss : Stmts) (end : ℕ) (base : List Entry) (below : List FramePair) (sc : List Scope) (q : ℕ)
        (stack : List Entry) (fs : List FramePair) (todo : List Item) → Pl sc fs (In_stmts ss)
        → AllAt p moves shares (CodeAt code) (HasFork code) (HasWords code) callable (is_in_no_function stack) sc q ss
        → CodeFollows end base below (after_all p q ss) stack fs todo
        → CodeFollows end base below q stack fs (push_all ss todo)
    push_all_follows No end base below sc q stack fs todo ch h k = k
    push_all_follows (And s rest) end base below sc q stack fs todo ch h k =
        push_follows s end base below sc q stack fs (push_all rest todo) (within (λ u. inl) ch) h.0
        (push_all_follows rest end base below sc (after_statement p q s) stack fs todo (within (λ u. inr) ch) h.1 k)

  -- what was pushed since is no function's link
  pub outside_follows : (end : ℕ) (base : List Entry) (below : List FramePair) (pc : ℕ) (stack : List Entry)
      (fs : List FramePair) (todo : List Item) → CodeFollows end base below pc stack fs todo
      → is_in_no_function stack ≡ is_in_no_function base
  outside_follows end base below pc stack fs [] (_, stack_is, _) = ap is_in_no_function stack_is
  outside_follows end base below pc stack fs (Do s ∷ todo) (at, _, k) =
      outside_follows end base below (after_statement p at s) stack fs todo k.rest
  outside_follows end base below pc stack fs (First x lo hi d s ∷ todo) (at, _, k, _) =
      ap is_in_no_function k.stack_is
      ∙ outside_follows end base below (after_statement p (at + 1 + 1) s + 1) k.under fs todo k.rest
  outside_follows end base below pc stack fs (Again x hi d s ∷ todo) (at, _, k) =
      ap is_in_no_function k.stack_is
      ∙ outside_follows end base below (after_statement p (at + 1 + 1) s + 1) k.under fs todo k.rest
  outside_follows end base below pc stack fs (Test s e ∷ todo) (at, _, k) =
      outside_follows end base below (after_statement p at (Repeat s e)) stack fs todo k.rest
  outside_follows end base below pc stack fs (Leave ∷ todo) (_, _, k) =
      ap is_in_no_function k.stack_is ∙ outside_follows end base below k.back k.under k.outer todo k.rest
  outside_follows end base below pc stack fs (Break f ∷ todo) h = absurd h

  abbrev pub PayloadIs : List FramePair → Channel → ℕ → Payload LocationContent Address → Stop → Type 0
  PayloadIs fs c k x z = following.PayloadIs ex fs c k x z

  abbrev pub ForkStop : Bool → List FramePair → List Birth → Stop → Type 0
  ForkStop free fs bs z = following.ForkStop ex free fs bs z

  abbrev pub Made : Config M → (List Item → List FramePair → ℕ → List Entry → Type 0) → WorkOutcome Action × Store
      → Type 0
  Made c Q r = following.Made ex c Q r

  pub record Makes (c : Config M) (o : LocalState) (s : Store) (Q : List Item → List FramePair → ℕ → List Entry
      → Type 0)
      (h : Work Action) : Type 0 where
    pub proof : Made c Q (run h w o s)

  pub made_after : (c d : Config M) (Q : List Item → List FramePair → ℕ → List Entry → Type 0) (r : WorkOutcome Action
      × Store)
      → RunsTo ops code c d → Made d Q r → Made c Q r
  made_after c d Q (Computed a o, s) h (last, comes, at) = (last, comes_on ops rel w code h comes, at)
  made_after c d Q (EndsInFault f, s) h k = breaks_after ops rel w code h k
  made_after c d Q (IllFormed, s) h k = k
  made_after c d Q (OutOfFuel, s) h k = k

  pub makes_after : {c d : Config M} {o : LocalState} {s : Store} {Q : List Item → List FramePair → ℕ → List Entry
      → Type 0}
      {h : Work Action} → RunsTo ops code c d → Makes d o s Q h → Makes c o s Q h
  makes_after {c} {d} {o} {s} {Q} {h} e k = record { proof = made_after c d Q (run h w o s) e k.proof }

  pub makes_bind : {A E : Type 0} {fs : List FramePair} {c : Config M} {o : LocalState} {s : Store} {pc : ℕ}
      {st : A → E → List Entry} {F : A → E → Type 0} {Q : List Item → List FramePair → ℕ → List Entry → Type 0}
      {h : Work A}
      (gg : A → Work Action)
      → Realizes ops rel w code fs c o s pc st F h
      → ((a : A) (e : E) (o1 : LocalState) (s1 : Store) (n1 : M) → rel.Agrees fs o1 s1 n1 → F a e
      → Makes (At pc (st a e) n1) o1 s1 Q (gg a)) → Makes c o s Q (bind h gg)
  makes_bind {A} {E} {fs} {c} {o} {s} {pc} {st} {F} {Q} {h} gg k next =
      record { proof = subst (Made c Q) (sym (run_bind h gg w o s)) (go (run h w o s) k.proof) }
    where
      go : (r : WorkOutcome A × Store) → RealizesResult ops rel w code fs c pc st F r → Made c Q (then_run gg w r)
      go (Computed a o1, s1) (e, n1, comes, stands, holds) =
          made_after c (At pc (st a e) n1) Q (run (gg a) w o1 s1) comes
          (next a e o1 s1 n1 stands holds).proof
      go (EndsInFault f, s1) q = q
      go (IllFormed, s1) q = q
      go (OutOfFuel, s1) q = q

  pub makes_known : {A : Type 0} {c : Config M} {o : LocalState} {s : Store}
      {Q : List Item → List FramePair → ℕ → List Entry → Type 0} {h : Work A} (gg : A → Work Action) (a : A)
      → HasKnownValue ops rel w code o s h a → Makes c o s Q (gg a) → Makes c o s Q (bind h gg)
  makes_known {A} {c} {o} {s} {Q} {h} gg a k next =
      record { proof = subst (Made c Q) (sym (run_bind h gg w o s ∙ ap (then_run gg w) k.proof)) next.proof }

  pub makes_by : {c : Config M} {o : LocalState} {s : Store} {Q : List Item → List FramePair → ℕ → List Entry → Type 0}
      {h k : Work Action} → h ≡ k → Makes c o s Q k → Makes c o s Q h
  makes_by {c} {o} {s} {Q} e q = subst (λ x. Makes c o s Q x) (sym e) q

  pub makes_went : {c : Config M} {o : LocalState} {s : Store} {Q : List Item → List FramePair → ℕ → List Entry
      → Type 0}
      (todo : List Item) (fs : List FramePair) (pc : ℕ) (st : List Entry) (n : M) → RunsTo ops code c (At pc st n)
      → rel.Agrees fs o s n → Q todo fs pc st → Makes c o s Q (give (Stepped todo))
  makes_went todo fs pc st n e t q = record {
    proof = (At pc st n, e, record { frames = fs; stand = t; follows = q });
  }

  pub makes_fail : {c : Config M} {o : LocalState} {s : Store} {Q : List Item → List FramePair → ℕ → List Entry
      → Type 0}
      (f : Fault) → StandsFor rel c s → next_step ops code c ≡ Fails f → Makes c o s Q (fail f)
  makes_fail {c} {s = s} f t e = record { proof = breaks ops rel w code c f s t e }

  -- a tick of the process, where a Tick stands
  pub makes_tick : {c : Config M} {o : LocalState} {s : Store} {Q : List Item → List FramePair → ℕ → List Entry
      → Type 0}
      (todo : List Item) (fs : List FramePair) (pc : ℕ) (st : List Entry) (d : MemoryResult M) → StandsFor rel c s
      → Alike rel fs s (run (tick g.limits) w o s) d → next_step ops code c ≡ then_go d
      (λ n1. pause_step ops code pc st n1)
      → Q todo fs pc st → Makes c o s Q (bind (tick g.limits) (λ u. give (Ticked todo)))
  makes_tick {c} {o} {s} {Q} todo fs pc st d t al e q =
      record {
        proof = subst (Made c Q) (sym (run_bind (tick g.limits) (λ u. give (Ticked todo)) w o s))
            (go (run (tick g.limits) w o s) d al e);
      }
    where
      go : (r : WorkOutcome (Unit {0}) × Store) (d : MemoryResult M) → Alike rel fs s r d
          → next_step ops code c ≡ then_go d (λ n1. pause_step ops code pc st n1)
          → Made c Q (then_run (λ u. give (Ticked todo)) w r)
      go (Computed a o1, s1) (Done n1) al e = (
        c,
        stays ops rel w code c,
        record {
          pc = pc;
          stack = st;
          memory = n1;
          frames = fs;
          ticks = e;
          stand = al;
          follows = q;
        },
      )
      go (Computed a o1, s1) (Failed f) al e = absurd al
      go (EndsInFault f, s1) (Done n1) al e = absurd al
      go (EndsInFault f, s1) (Failed g1) (same_fault, same_store) e =
          breaks ops rel w code c f s1 (subst (StandsFor rel c) (sym same_store) t)
          (e ∙ ap Fails (sym same_fault))
      go (IllFormed, s1) d al e = absurd al
      go (OutOfFuel, s1) d al e = absurd al
