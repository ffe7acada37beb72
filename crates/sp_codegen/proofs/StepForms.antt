-- The forms of what is proved of the steps of statements, and a test on top of the stack.
use Rattle.std.proofs.Common.{◌≡◌, ℕ, ◌+◌, ℤ, List, ◌∷◌, Some, Bool, true, false, if◌then◌else◌, refl, sym, ap, ◌∙◌}
use Rattle.std.proofs.Common.{subst}
use Rattle.std.specs.Prelude.{pos, int_le, slice_get, not}
use Rattle.sp_tree.specs.Plain.{Program, Stmt}
use Rattle.sp_tree.specs.Uses.{Use}
use Rattle.sp_meaning.specs.LocalWork.{Address, LocalState, Item, Work, bind, give, local_state}
use Rattle.sp_meaning.specs.Eval.{AtAddress, Calls, address_of}
use Rattle.sp_meaning.specs.Actions.{Action, Stepped}
use Rattle.sp_meaning.specs.Run.{Store, run}
use Rattle.sp_meaning.proofs.Run.{then_run, run_bind}
use Rattle.sp_code.specs.declared.instr.Instr.TheVariants as i
use Rattle.sp_code.specs.Machine.{Entry, Config, Goes, next_step}
use Rattle.sp_code.specs.Machine as m
use Rattle.sp_code.specs.Turns.{RunsTo}
use Rattle.sp_code.specs.Scopes.{Scope}
use Rattle.sp_code.specs.CodeOfTree.{CodeAt, HasFork, HasWords, StatementAt}
use Rattle.sp_codegen.specs.FramePairs.{FramePair}
use Rattle.sp_codegen.specs.Executions.{Execution}
use Rattle.sp_codegen.proofs.Runs.{Realizes, HasKnownValue, goes, run_assoc}
use Rattle.sp_codegen.proofs.Values.{CallsMeet}
use Rattle.sp_codegen.proofs.Follows.{CodeFollows, Makes, Made, makes_after}
use Rattle.sp_codegen.proofs.ValueForms.{P, at_one}

module _ {M : Type 0} (ex : Execution M) where
  open ex use {
    run_input as g,
    code,
    moves,
    shares,
    IsCallableInFunctions as callable,
    who as w,
    operations as ops,
    relation as rel,
    free,
  }

  abbrev p : Program
  p = g.program

  abbrev pub C : Config M → Config M → Type 0
  C c d = RunsTo ops code c d

  abbrev pub G : {A E : Type 0} → List FramePair → Config M → LocalState → Store → ℕ → (A → E → List Entry)
      → (A → E → Type 0)
      → Work A → Type 0
  G fs c o s pc st F h = Realizes ops rel w code fs c o s pc st F h

  abbrev pub K : Config M → LocalState → Store → (List Item → List FramePair → ℕ → List Entry → Type 0) → Work Action
      → Type 0
  K c o s Q h = Makes ex c o s Q h

  abbrev pub After : ℕ → List Entry → List FramePair → List Item → List FramePair → ℕ → List Entry → Type 0
  After end base below todo fs pc st = CodeFollows ex end base below pc st fs todo

  abbrev pub S : Bool → List Scope → ℕ → Stmt → Type 0
  S free sc q d = StatementAt p moves shares (CodeAt code) (HasFork code) (HasWords code) callable free sc q d

  abbrev pub Pl : List Scope → List FramePair → (Use → Type 0) → Type 0
  Pl sc js Here = P ex sc js Here

  abbrev pub Oks : Calls → Type 0
  Oks call = CallsMeet ex call

  pub went_if : (b : Bool) (x y : List Item)
      → give (Stepped (if b then x else y)) ≡ (if b then give (Stepped x) else give (Stepped y))
  went_if true x y = refl
  went_if false x y = refl

  -- a test on top of the stack
  pub branch : (Q : List Item → List FramePair → ℕ → List Entry → Type 0) (v : ℤ) (t to : ℕ) (stack : List Entry)
      (o : LocalState)
      (s : Store) (n : M) (x y : Work Action) → slice_get code.instrs t ≡ Some (i.Jumpf to)
      → K (m.At to stack n) o s Q x
      → K (m.At (t + 1) stack n) o s Q y
      → K (m.At t (m.Number v ∷ stack) n) o s Q (if int_le v (pos 0) then x else y)
  branch Q v t to stack o s n x y h kx ky = go (int_le v (pos 0)) (at_one ex t (m.Number v ∷ stack) n h)
    where
      go : (b : Bool) → next_step ops code (m.At t (m.Number v ∷ stack) n)
          ≡ (if not b then Goes (m.At (t + 1) stack n) else Goes (m.At to stack n))
          → K (m.At t (m.Number v ∷ stack) n) o s Q (if b then x else y)
      go true e = makes_after ex (goes ops rel w code e) kx
      go false e = makes_after ex (goes ops rel w code e) ky

  -- binds the other way round
  pub makes_assoc : {A B : Type 0} {c : Config M} {o : LocalState} {s : Store}
      {Q : List Item → List FramePair → ℕ → List Entry → Type 0} (h : Work A) (gg : A → Work B) (k : B → Work Action)
      → K c o s Q (bind h (λ a. bind (gg a) k)) → K c o s Q (bind (bind h gg) k)
  makes_assoc {A} {B} {c} {o} {s} {Q} h gg k x =
      record {
        proof = subst (Made ex c Q) (run_bind h (λ a. bind (gg a) k) w o s ∙ run_assoc gg k w (run h w o s)
            ∙ ap (then_run k w) (sym (run_bind h gg w o s)) ∙ sym (run_bind (bind h gg) k w o s)) x.proof;
      }

  pub address_known : {o : LocalState} {s : Store} (a : Address)
      → HasKnownValue ops rel w code o s (address_of g (AtAddress a)) a
  address_known a = record { proof = refl }

  pub mine_known : {o : LocalState} {s : Store} → HasKnownValue ops rel w code o s local_state o
  mine_known = record { proof = refl }
