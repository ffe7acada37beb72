-- Some of this belongs to what the program promises (docs/promise.txt).
-- What the control of the kernel and the system of all processes have in common, after the same notes. The kernel's
-- invariant and the laws of histories rest on it: both tell of each process the same phase.
use Rattle.std.specs.Prelude.{◌≡◌, ◌≢◌, ◌⊎◌, ℕ, ◌≤◌, ◌<◌, List, [], ◌∷◌, length, Option, Some, None}
use Rattle.sp_journal.specs.declared.entry.Way.{Way}
use Rattle.sp_journal.specs.declared.entry.Way.TheVariants as way
use Rattle.sp_journal.specs.declared.entry.Birth.{Birth}
use Rattle.sp_journal.specs.declared.entry.Note.{Note}
use Rattle.sp_code.specs.Memory.{CodeRun, Stores}
use Rattle.sp_code.specs.Machine.{Stop, Sends, Receives}
use Rattle.sp_code.specs.Control.{Control, Doing, Unborn, Ready, Out, Sending, Receiving, Joining, Laid, Ended}
use Rattle.sp_code.specs.Control.{after_give, after_note, standing, Running as Going}
use Rattle.sp_code.specs.System.{System, Condition, Absent, Working, Waits, Joins, Laid as IsLaid, Gone as HasGone}
use Rattle.sp_code.specs.System.{Over, GiveIsLegal, GetIsLegal}

-- what both tell of a process
pub data Phase : Type 0 where
  Never : Phase
  Running : Phase
  ToSend : (channel : ℕ) → Phase
  ToReceive : (channel : ℕ) → Phase
  ToJoin : (left : ℕ) → Phase
  Down : Phase
  Finished : Phase
  Odd : Phase

-- one that an abandoning worker had goes on running in the system
abbrev pub phase : Doing → Phase
phase Unborn = Never
phase (Sending c) = ToSend c
phase (Receiving c) = ToReceive c
phase (Joining n) = ToJoin n
phase Laid = Down
phase Ended = Finished
phase _ = Running

-- what a stop is to wait for
abbrev pub waiting_phase : Stop → Phase
waiting_phase (Sends c k cs) = ToSend c
waiting_phase (Receives c k a) = ToReceive c
waiting_phase _ = Odd

-- what the system tells
abbrev pub phase_in : {S : Type 0} → Condition S → Phase
phase_in Absent = Never
phase_in (Working c) = Running
phase_in (Waits stop c) = waiting_phase stop
phase_in (Joins n c) = ToJoin n
phase_in (IsLaid c) = Down
phase_in HasGone = Finished
phase_in (Over c) = Finished

-- ---- lists of numbers

-- so for each number
abbrev pub EachNumber : (ℕ → Type 0) → List ℕ → Type 0
EachNumber P [] = Unit {0}
EachNumber P (x ∷ xs) = P x × EachNumber P xs

-- no number comes twice
abbrev pub Differ : List ℕ → Type 0
Differ [] = Unit {0}
Differ (x ∷ xs) = EachNumber (λ y. y ≢ x) xs × Differ xs

-- one of the numbers
abbrev pub Among : ℕ → List ℕ → Type 0
Among q [] = ⊥
Among q (x ∷ xs) = (q ≡ x) ⊎ Among q xs

-- ---- the control alone

-- to wait for an offer
abbrev pub waits_by : Way → ℕ → Doing
waits_by way.Send c = Sending c
waits_by way.Receive c = Receiving c

-- the queue has exactly the ready processes, each once
pub record IsQueue (doing : ℕ → Doing) (ready : List ℕ) : Type 0 where
  pub queued : EachNumber (λ q. doing q ≡ Ready) ready
  pub distinct : Differ ready
  pub all : (q : ℕ) → doing q ≡ Ready → Among q ready

-- a process is there before it does anything; who offers waits; and a parent is older than its children
pub record IsOrderly (k : Control) : Type 0 where
  pub queue : IsQueue k.doing k.ready
  pub unborn : (q : ℕ) → k.births.processes ≤ q → k.doing q ≡ Unborn
  pub pending : (c z : ℕ) (w : Way) → k.pending c ≡ Some (w, z) → k.doing z ≡ waits_by w c
  pub parents : (q : ℕ) (b : Birth) → k.births.birth q ≡ Some b → b.parent < q

-- the offer that is pending on a channel is that of one process
abbrev pub SamePending : Option (Way × ℕ) → Option ℕ → Type 0
SamePending None None = Unit {0}
SamePending None (Some z) = ⊥
SamePending (Some o) None = ⊥
SamePending (Some o) (Some z) = o.1 ≡ z

pub record AgreesWithSystem {S : Type 0} (k : Control) (s : System S) : Type 0 where
  pub each : (q : ℕ) → phase (k.doing q) ≡ phase_in (s.condition q)
  pub births : k.births ≡ s.births
  pub faulted : k.faulted ≡ s.faulted
  pub pending : (c : ℕ) → SamePending (k.pending c) (s.pending c)

-- ---- who is out

abbrev pub IsOut : Doing → Type 0
IsOut d = (w : ℕ) × (d ≡ Out w)

-- these are out, each once, and no other; so the control counts them
pub record HasOuts (k : Control) : Type 0 where
  pub outs : List ℕ
  pub count : length outs ≡ k.out
  pub distinct : Differ outs
  pub each : EachNumber (λ q. IsOut (k.doing q)) outs
  pub all : (q : ℕ) → IsOut (k.doing q) → Among q outs

-- the run has come to its end, and nothing is out
abbrev pub IsOver : Control → Type 0
IsOver k = (standing k ≢ Going) × (k.out ≡ 0)

-- a process got is the first that is ready
abbrev pub IsGot : Control → Option ℕ → Type 0
IsGot k None = Unit {0}
IsGot k (Some q) = ((rest : List ℕ) × (k.ready ≡ q ∷ rest)) × (k.doing q ≡ Ready)

-- ---- histories

module _ {S : Type 0} (stores : Stores S) (g : CodeRun) where
  -- one note: what was given made its event, and what was got was the front of the queue
  pub record NoteLeads (k : Control) (s : System S) (n : Note) (t : System S) : Type 0 where
    pub gives : GiveIsLegal stores g k s n.worker n.given n.event n.got t
    pub gets : GetIsLegal stores g (after_give n.given n.event n.got k) n.event n.got

  -- the notes lead from s, where the control is k, to t
  abbrev pub Reaches : Control → System S → List Note → System S → Type 0
  Reaches k s [] t = s ≡ t
  Reaches k s (n ∷ ns) t = (u : System S) × NoteLeads k s n u × Reaches (after_note n k) u ns t

-- none of the notes is one of worker w
abbrev pub NoneBy : ℕ → List Note → Type 0
NoneBy w [] = Unit {0}
NoneBy w (n ∷ ns) = (n.worker ≢ w) × NoneBy w ns
