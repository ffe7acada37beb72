-- The forms of what is proved of values and places, and what is known of the parts of a computation.
use Rattle.std.proofs.Common.{◌≡◌, ℕ, ℤ, List, [], ◌∷◌, Option, Some, Bool, true, false, drop, length, refl, sym}
use Rattle.std.proofs.Common.{ap, ◌∙◌, subst}
use Rattle.std.specs.Prelude.{slice_get}
use Rattle.sp_tree.specs.declared.checked.KindOf.{KindOf}
use Rattle.sp_tree.specs.declared.checked.Role.TheVariants as role
use Rattle.sp_tree.specs.Plain.{Entire, Selectors, Program, Variable}
use Rattle.sp_tree.specs.Uses.{Use, Target, Seen}
use Rattle.sp_tree.specs.Cells.{first_or}
use Rattle.sp_cell.specs.declared.spot.Address.{Address as Ptr}
use Rattle.sp_meaning.specs.Model.{Channel}
use Rattle.sp_meaning.specs.Values.{Value, Ordinal, Chan, get_at}
use Rattle.sp_meaning.specs.LocalWork.{RunInput, Loc, Input, Address, Home, LocalState, Work, or_ill_formed}
use Rattle.sp_meaning.specs.LocalWork.{visible_frame, fetch, seek}
use Rattle.sp_meaning.specs.LocalWork.{top_frame, value_in, position_in}
use Rattle.sp_meaning.specs.Rights.{location_of}
use Rattle.sp_meaning.specs.Eval.{Place, AtAddress, Fixed, ordinal, channel, kind_at, input_left}
use Rattle.sp_meaning.specs.Run.{Store, run}
use Rattle.sp_meaning.proofs.Within.{part}
use Rattle.sp_code.specs.declared.instr.Instr.{Instr}
use Rattle.sp_code.specs.Machine.{Entry, Config, instruction, next_step}
use Rattle.sp_code.specs.Machine as m
use Rattle.sp_code.specs.Scopes.{Sort, Ordinals, Channels, Many, NoSort, Scope, sort, level}
use Rattle.sp_code.specs.Scopes as places
use Rattle.sp_code.specs.CodeOfTree.{CodeAt, HasFork, HasWords, NoIndex, IsTarget}
use Rattle.sp_codegen.specs.FramePairs.{FramePair, sources, up_at}
use Rattle.sp_codegen.specs.Executions.{Execution}
use Rattle.sp_codegen.specs.Relation.{Placed, StackHolds}
use Rattle.sp_codegen.proofs.Runs.{Realizes, HasKnownValue}

-- entries on the stack, the last one on top
abbrev pub pushed : List Entry → List Entry → List Entry
pushed [] stack = stack
pushed (e ∷ es) stack = pushed es (e ∷ stack)

abbrev pub NotNone : Sort → Type 0
NotNone Many = Unit {0}
NotNone Ordinals = Unit {0}
NotNone Channels = Unit {0}
NotNone NoSort = ⊥

abbrev pub IsMany : Sort → Type 0
IsMany Many = Unit {0}
IsMany Ordinals = ⊥
IsMany Channels = ⊥
IsMany NoSort = ⊥

abbrev pub IsTrue : Bool → Type 0
IsTrue true = ⊥
IsTrue false = Unit {0}

pub same_some : {A : Type 0} {o : Option A} (a b : A) → o ≡ Some a → o ≡ Some b → a ≡ b
same_some a b h k = ap (first_or a) (sym h ∙ k)

-- a part of what stands here
pub within : {g : RunInput} {W R : Loc → Type 0} {J : ℕ → Type 0} {sc : List Scope} {js : List FramePair}
    {Here Above : Use → Type 0} → ((u : Use) → Here u → Above u) → Placed g W R J sc js Above
    → Placed g W R J sc js Here
within f pl = record {
  chain = pl.chain;
  linked = pl.linked;
  sound = part f pl.sound;
  formed = λ u h. pl.formed u (f u h);
  indexes = λ x up h. pl.indexes x up (f (Seen x) h);
}

module _ {M : Type 0} (ex : Execution M) where
  open ex use {
    run_input as g,
    code,
    moves,
    shares,
    IsCallableInFunctions as callable,
    who as w,
    Writes as W,
    IsReadable as R,
    Indexes as J,
    operations as ops,
    relation as rel,
    laws as law,
    reads_written as reads,
  }

  abbrev p : Program
  p = g.program

  -- the forms of the statements
  abbrev pub G : {A E : Type 0} → List FramePair → Config M → LocalState → Store → ℕ → (A → E → List Entry)
      → (A → E → Type 0)
      → Work A
      → Type 0
  G js c o s pc st F h = Realizes ops rel w code js c o s pc st F h

  abbrev pub P : List Scope → List FramePair → (Use → Type 0) → Type 0
  P sc js Here = Placed g W R J sc js Here

  -- an instruction that stands at q
  pub at_one : (q : ℕ) {instr : Instr} (stack : List Entry) (n : M) → slice_get code.instrs q ≡ Some instr
      → next_step ops code (m.At q stack n) ≡ instruction ops code (Some instr) q stack n
  at_one q stack n h = ap (λ o. instruction ops code o q stack n) h

  -- the value on top of the stack
  abbrev pub Top : List Entry → Value → Entry → List Entry
  Top stack v e = e ∷ stack

  abbrev pub St : ℕ → Value → Entry → Type 0
  St k v e = StackHolds rel p (sort p k) k v e

  -- an ordinal on top of the stack
  abbrev pub NumberTop : List Entry → ℤ → Unit {0} → List Entry
  NumberTop stack v u = m.Number v ∷ stack

  abbrev pub Nothing_more : ℤ → Unit {0} → Type 0
  Nothing_more v u = Unit {0}

  pub ordinal_known : {o : LocalState} {s : Store} (z : ℤ) → HasKnownValue ops rel w code o s (ordinal (Ordinal z)) z
  ordinal_known z = record { proof = refl }

  pub channel_known : {o : LocalState} {s : Store} (z : Channel) → HasKnownValue ops rel w code o s (channel (Chan z)) z
  channel_known z = record { proof = refl }

  -- what is left of the input
  abbrev pub rest_of : Store → List ℕ
  rest_of s = drop (position_in (s Input)) g.input

  pub left_known : {o : LocalState} {s : Store} → HasKnownValue ops rel w code o s (input_left g) (rest_of s)
  left_known = record { proof = refl }

  abbrev pub PlaceTop : List Entry → Place → Ptr → List Entry
  PlaceTop stack pl t = m.Pointer t ∷ stack

  abbrev pub PlaceIs : List FramePair → (x k : ℕ) → Place → Ptr → Type 0
  PlaceIs js x k (AtAddress a) t = (a.kind ≡ k) × rel.Points js a t × R a.spot
      × (location_of p (sources js) x ≡ Some a.spot)
  PlaceIs js x k (Fixed v) t = (sort p k ≡ Ordinals) × rel.Fixes js v t
      × ((i : Variable) × (slice_get p.variables x ≡ Some i) × (i.role ≡ role.Index))

  -- variable x may be read here
  pub record MayRead (sc : List Scope) (js : List FramePair) (x : ℕ) : Type 0 where
    pub location : (l : Loc) → location_of p (sources js) x ≡ Some l → R l
    pub index : (v : Variable) → slice_get p.variables x ≡ Some v → v.role ≡ role.Index → (up : ℕ)
        → level (places.is_index x) sc ≡ Some up → (j : FramePair) (rest : List FramePair) → up_at up js ≡ j ∷ rest
        → J (length rest)

  pub may_see : {Here : Use → Type 0} (sc : List Scope) (js : List FramePair) (x : ℕ) → P sc js Here → Here (Seen x)
      → MayRead sc js x
  may_see sc js x pl h = record {
    location = λ l e. pl.sound.allowed [] (Seen x) h x l (refl, e);
    index = λ v ev er up lv j rest e. pl.indexes x up h lv j rest e;
  }

  pub may_aim : {Here : Use → Type 0} (sc : List Scope) (js : List FramePair) (x : ℕ) (ss : Selectors) → P sc js Here
      → Here (Target x) → IsTarget p moves shares (CodeAt code) (HasFork code) (HasWords code) callable (Entire x ss)
      → MayRead sc js x
  may_aim sc js x ss pl h ta = record {
    location = λ l e. reads l (pl.sound.allowed [] (Target x) h x l (refl, e));
    index = λ v ev er up lv j rest e. let d = same_some ta.0 v ta.1 ev in
        absurd (subst NoIndex (ap (λ (y : Variable). y.role) d ∙ er) ta.2);
  }

  pub visible_known : {js : List FramePair} {o : LocalState} {s : Store} {n : M} → rel.Agrees js o s n
      → (test : Home → Bool) (j : FramePair) (rest : List FramePair)
      → seek test (length (sources js)) (sources js) ≡ sources (j ∷ rest)
      → HasKnownValue ops rel w code o s (visible_frame test) j.source
  visible_known {js} {o} {s} {n} t test j rest e =
      record {
        proof = ap (λ fr. run (or_ill_formed (top_frame (seek test (length fr) fr))) w o s) (law.frames t)
            ∙ ap (λ z. run (or_ill_formed (top_frame z)) w o s) e;
      }

  pub or_known : {A : Type 0} {o : LocalState} {s : Store} (z : Option A) (a : A) → z ≡ Some a
      → HasKnownValue ops rel w code o s (or_ill_formed z) a
  or_known {A} {o} {s} z a e = record { proof = ap (λ y. run (or_ill_formed y) w o s) e }

  pub kind_known : {o : LocalState} {s : Store} (k j : ℕ) (ty : KindOf) → k ≡ j → slice_get p.kinds j ≡ Some ty
      → HasKnownValue ops rel w code o s (kind_at g k) ty
  kind_known k j ty e h = or_known (slice_get p.kinds k) ty (ap (λ y. slice_get p.kinds y) e ∙ h)

  pub fetch_known : {o : LocalState} {s : Store} (a : Address)
      → HasKnownValue ops rel w code o s (fetch a) (get_at a.path (value_in (s a.spot)))
  fetch_known a = record { proof = refl }
