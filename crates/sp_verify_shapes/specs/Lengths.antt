-- None of this belongs to what the program promises: it is for contracts between crates.
-- The lengths of messages, by the shapes with which sends and receives are reached, and the lengths of each type in a
-- table.
use Rattle.std.specs.Prelude.{◌≡◌, ◌≢◌, ◌⊎◌, ℕ, ◌<◌, ◌≤◌, ◌==◌, List, Option, Some, None, Bool, false, cond, nat_lt}
use Rattle.std.specs.Ordering.{nat_cmp}
use Rattle.std.specs.BTreeMap.{BTreeMap, get}
use Rattle.sp_code.specs.declared.instr.Instr.{Instr}
use Rattle.sp_code.specs.declared.instr.Instr.TheVariants as i
use Rattle.sp_code.specs.declared.code.Parts.{Parts}
use Rattle.sp_verify_rules.specs.Areas.{on_option, instr_at}
use Rattle.sp_verify_rules.specs.Shapes.{Shape}
use Rattle.sp_verify_rules.specs.InstructionFacts.{message_cells, cells_left}
use Rattle.sp_verify_shapes.specs.declared.shapes.Shapes.{Shapes}
use Rattle.sp_verify_shapes.specs.declared.messages.Message.{Message}
use Rattle.sp_verify_shapes.specs.ReachRules.{shapes_at}

-- ---- messages

abbrev pub of_kind : ℕ → Option ℕ → Option Message
of_kind k None = None
of_kind k (Some n) = Some (record { kind = k; cells = n })

-- what an instruction sends, with these operands; and what it can receive, by the cells that are left
abbrev pub sent_by : Parts → Option Instr → List Shape → Option Message
sent_by c (Some (i.Send k)) ss = of_kind k (message_cells c ss)
sent_by c o ss = None

abbrev pub received_by : Parts → Option Instr → List Shape → Option Message
received_by c (Some (i.Receive k)) ss = of_kind k (cells_left c ss)
received_by c o ss = None

-- with those that it is reached with
abbrev pub sent_at : Parts → Shapes → ℕ → Option Message
sent_at c s p = on_option None (shapes_at s p) (λ ss. sent_by c (instr_at c p) ss)

abbrev pub received_at : Parts → Shapes → ℕ → Option Message
received_at c s p = on_option None (shapes_at s p) (λ ss. received_by c (instr_at c p) ss)

-- a message has another length than one of its type that is sent earlier
pub record Differs (c : Parts) (s : Shapes) (p : ℕ) : Type 0 where
  pub first : Message
  pub sent : sent_at c s p ≡ Some first
  pub earlier : ℕ
  pub before : earlier < p
  pub second : Message
  pub too : sent_at c s earlier ≡ Some second
  pub kind : second.kind ≡ first.kind
  pub apart : second.cells ≢ first.cells

-- there is no room for a message that is sent somewhere
pub record LacksRoom (c : Parts) (s : Shapes) (p : ℕ) : Type 0 where
  pub room : Message
  pub received : received_at c s p ≡ Some room
  pub place : ℕ
  pub message : Message
  pub sent : sent_at c s place ≡ Some message
  pub kind : message.kind ≡ room.kind
  pub longer : room.cells < message.cells

-- ---- tables

-- the length under a type
abbrev pub length_of : BTreeMap ℕ ℕ → ℕ → Option ℕ
length_of m k = get nat_cmp m k

-- the message's length stands under its type; all others are as before
abbrev pub PutsLength : BTreeMap ℕ ℕ → BTreeMap ℕ ℕ → Message → Type 0
PutsLength old new w = (k : ℕ) → length_of new k ≡ cond (w.kind == k) (Some w.cells) (length_of old k)

-- the same, unless a length that is no less stands there
abbrev pub PutsGreatest : BTreeMap ℕ ℕ → BTreeMap ℕ ℕ → Message → Type 0
PutsGreatest old new w = ((x : ℕ) × (length_of old w.kind ≡ Some x) × (w.cells ≤ x) × (new ≡ old))
    ⊎ (PutsLength old new w × ((x : ℕ) → length_of old w.kind ≡ Some x → x ≤ w.cells))

-- the table has a length for each type of which one of the first n instructions sends a message, to which all of these
-- are so
pub record AreLengths (R : ℕ → ℕ → Type 0) (c : Parts) (s : Shapes) (n : ℕ) (m : BTreeMap ℕ ℕ) : Type 0 where
  pub each : (q : ℕ) (w : Message) → q < n → sent_at c s q ≡ Some w
      → (x : ℕ) × (length_of m w.kind ≡ Some x) × R w.cells x
  pub some : (k x : ℕ) → length_of m k ≡ Some x → (q : ℕ) × (q < n)
      × (sent_at c s q ≡ Some (record { kind = k; cells = x }))

-- a message of which the table has a greater length
abbrev pub is_longer : BTreeMap ℕ ℕ → Option Message → Bool
is_longer m None = false
is_longer m (Some w) = on_option false (length_of m w.kind) (λ x. nat_lt w.cells x)
