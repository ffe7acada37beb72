-- A turn of the code as a turn of the meaning: loops that are left, items, calls of functions, and the whole turn.
use Rattle.std.proofs.Common.{◌≡◌, ℕ, zero, suc, List, Some, Bool, true, false, if◌then◌else◌, sym, ap, ◌∙◌, subst}
use Rattle.std.specs.Prelude.{slice_get}
use Rattle.sp_meaning.specs.LocalWork.{LocalState, Item, WorkOutcome, Computed, EndsInFault, IllFormed, OutOfFuel, give}
use Rattle.sp_meaning.specs.Actions.{Action, Stepped, Ticked, Opened, Forked, Offered, Ended}
use Rattle.sp_meaning.specs.Run.{Store, run}
use Rattle.sp_meaning.specs.SuperPascal.{fuel_of}
use Rattle.sp_meaning.specs.Turn as source
use Rattle.sp_meaning.proofs.Run.{then_run, run_bind}
use Rattle.sp_code.specs.declared.instr.Instr.TheVariants as i
use Rattle.sp_code.specs.Machine.{Entry, Stop, Config, Goes, Stops, is_in_no_function, next_step}
use Rattle.sp_code.specs.Machine as m
use Rattle.sp_codegen.specs.FramePairs.{FramePair}
use Rattle.sp_codegen.specs.Executions.{Execution}
use Rattle.sp_codegen.specs.CodePositions as following
use Rattle.sp_codegen.proofs.Runs.{goes, comes_on, breaks_after}
use Rattle.sp_codegen.proofs.Follows.{outside_follows, Made, made_after}
use Rattle.sp_codegen.proofs.StepForms.{C, After}
use Rattle.sp_codegen.proofs.CallSteps.{Blocks}
use Rattle.sp_codegen.proofs.TurnSteps.{F, step_makes}
use Rattle.sp_codegen.proofs.FunctionBodies.{calls_meet}

module _ {M : Type 0} (ex : Execution M) where
  open ex use {
    run_input as g,
    code,
    who as w,
    due,
    operations as ops,
    relation as rel,
    laws as law,
  }

  -- where a turn ends: the machine comes to the same stop, and stands where what is left stands
  abbrev pub Turned : Config M → ℕ → List Entry → List FramePair → WorkOutcome source.Stop × Store → Type 0
  Turned c end base below r = following.Turned ex c end base below r

  turned_after : (c d : Config M) (end : ℕ) (base : List Entry) (below : List FramePair) (r : WorkOutcome source.Stop
      × Store)
      → C ex c d → Turned d end base below r → Turned c end base below r
  turned_after c d end base below (Computed (source.Paused todo) o, s) h (last, comes, k) =
      (last, comes_on ops rel w code h comes, k)
  turned_after c d end base below (Computed (source.Stops e) o, s) h k =
      made_after ex c d (After ex end base below) (Computed e o, s) h k
  turned_after c d end base below (EndsInFault f, s) h k = breaks_after ops rel w code h k
  turned_after c d end base below (IllFormed, s) h k = k
  turned_after c d end base below (OutOfFuel, s) h k = k

  -- one turn of the code is the local steps up to the first moment at which the process is due or its next step is a
  -- kernel step
  pub turn_meets : Blocks ex → (end : ℕ) (base : List Entry) (below : List FramePair)
      → slice_get code.instrs end ≡ Some i.End → is_in_no_function base ≡ true
      → (k : ℕ) (todo : List Item) (pc : ℕ) (stack : List Entry) (fs : List FramePair) (o : LocalState) (s : Store)
      (n : M)
      → rel.Agrees fs o s n → F ex end base below pc stack fs todo
      → Turned (m.At pc stack n) end base below (run (source.turn g due k todo) w o s)
  turn_meets bl end base below e ob zero todo pc stack fs o s n t h = tt
  turn_meets bl end base below e ob (suc k) todo pc stack fs o s n t h =
      subst (Turned (m.At pc stack n) end base below)
      (sym (run_bind (source.turn_step g due todo) (source.rest_of_turn g due (source.turn g due k)) w o s))
      (go (run (source.turn_step g due todo) w o s)
      (step_makes ex (fuel_of g o) (calls_meet ex bl (fuel_of g o)) bl end base below e ob todo pc stack fs o s n
      t h).proof
      (λ todo1 pc1 st1 fs1 o1 s1 n1 t1 h1. turn_meets bl end base below e ob k todo1 pc1 st1 fs1 o1 s1 n1 t1 h1))
    where
      c : Config M
      c = m.At pc stack n

      by_due : (todo : List Item) (o1 : LocalState) (s1 : Store) (pc1 : ℕ) (st1 : List Entry) (n1 : M)
          (fs1 : List FramePair)
          (d : Config M) → C ex c d → next_step ops code d
          ≡ (if ops.due n1 then Stops m.Pauses (m.At pc1 st1 n1) else Goes (m.At pc1 st1 n1)) → rel.Agrees fs1 o1 s1 n1
          → F ex end base below pc1 st1 fs1 todo
          → Turned (m.At pc1 st1 n1) end base below (run (source.turn g due k todo) w o1 s1)
          → (b : Bool) → b ≡ ops.due n1 → Turned c end base below
          (run (if b then give (source.Paused todo) else source.turn g due k todo) w o1 s1)
      by_due todo o1 s1 pc1 st1 n1 fs1 d cd ge t1 h1 ih true eb = (
        d,
        cd,
        record {
          pc = pc1;
          stack = st1;
          memory = n1;
          frames = fs1;
          stops = ge ∙ ap (λ b. if b then Stops m.Pauses (m.At pc1 st1 n1) else Goes (m.At pc1 st1 n1)) (sym eb);
          stand = t1;
          follows = h1;
        },
      )
      by_due todo o1 s1 pc1 st1 n1 fs1 d cd ge t1 h1 ih false eb =
          turned_after c (m.At pc1 st1 n1) end base below (run (source.turn g due k todo) w o1 s1)
          (comes_on ops rel w code cd (goes ops rel w code
          (ge ∙ ap (λ b. if b then Stops m.Pauses (m.At pc1 st1 n1) else Goes (m.At pc1 st1 n1)) (sym eb)))) ih

      go : (r : WorkOutcome Action × Store) → Made ex c (After ex end base below) r
          → ((todo : List Item) (pc : ℕ) (st : List Entry) (fs : List FramePair) (o : LocalState) (s : Store) (n : M)
          → rel.Agrees fs o s n → F ex end base below pc st fs todo
          → Turned (m.At pc st n) end base below (run (source.turn g due k todo) w o s))
          → Turned c end base below (then_run (source.rest_of_turn g due (source.turn g due k)) w r)
      go (Computed (Stepped todo) o1, s1) (m.At to st1 n1, comes, q) ih =
          turned_after c (m.At to st1 n1) end base below
          (run (source.turn g due k todo) w o1 s1) comes (ih todo to st1 q.frames o1 s1 n1 q.stand q.follows)
      go (Computed (Ticked todo) o1, s1) (last, comes, q) ih =
          by_due todo o1 s1 q.pc q.stack q.memory q.frames last comes
          (q.ticks ∙ ap (λ b. if b then (if ops.due q.memory then Stops m.Pauses (m.At q.pc q.stack q.memory) else
          Goes (m.At q.pc q.stack q.memory)) else Goes (m.At q.pc q.stack q.memory))
          (outside_follows ex end base below q.pc q.stack q.frames todo q.follows ∙ ob)) q.stand q.follows
          (ih todo q.pc q.stack q.frames o1 s1 q.memory q.stand q.follows) (due o1) (law.due_same q.stand)
      go (Computed (Opened todo) o1, s1) q ih = q
      go (Computed (Forked bs todo) o1, s1) q ih = q
      go (Computed (Offered ch x cg todo) o1, s1) q ih = q
      go (Computed Ended o1, s1) q ih = q
      go (EndsInFault f, s1) q ih = q
      go (IllFormed, s1) q ih = q
      go (OutOfFuel, s1) q ih = q
