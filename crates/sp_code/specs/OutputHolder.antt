-- Some of this belongs to what the program promises (docs/promise.txt).
-- Which process holds the output of a run. The kernel's end reads the output by the law that there is one such
-- process; what each process has of it is a share, followed along births and ends.
use Rattle.std.specs.Prelude.{◌≡◌, ◌≢◌, ℕ, List, Option, Some}
use Rattle.std.specs.FinMap as map
use Rattle.sp_cell.specs.declared.spot.Address.{Address}
use Rattle.sp_cell.specs.Map.{Away, Plain, IsOutput, IsOwn, output_spot}
use Rattle.sp_cell.specs.Spots.{In}
use Rattle.sp_journal.specs.declared.entry.Birth.{Birth}
use Rattle.sp_code.specs.Memory.{Memory}
use Rattle.sp_code.specs.PlainStore.{plain}
use Rattle.sp_code.specs.System.{System, Condition, Waits, store_in}
use Rattle.sp_code.specs.Agreement.{EachNumber}
use Rattle.sp_code.specs.Channels.{AimsAt}

-- a process holds the output; or it has lent it to a child, which may have lent it on; or it has nothing of it
pub data Share : Type 0 where
  HoldsIt : Share
  LendsIt : Share
  LacksIt : Share

-- none of its own frames is the program's
abbrev pub HasOtherFrames : List ℕ → Type 0
HasOtherFrames ns = EachNumber (λ n. n ≢ 0) ns

-- what a process with this share has in its store
abbrev pub StoreIs : Share → Plain → Type 0
StoreIs HoldsIt p = IsOutput (map.get p.map output_spot) × HasOtherFrames p.own
StoreIs LendsIt p = (map.get p.map output_spot ≡ Some Away) × HasOtherFrames p.own
StoreIs LacksIt p = IsOutput (map.get p.map output_spot) → ⊥

-- it has the output, or one of those to which it lent it has
abbrev pub IsPart : Share → Type 0
IsPart HoldsIt = Unit {0}
IsPart LendsIt = Unit {0}
IsPart LacksIt = ⊥

-- an address in a piece of the process's own
abbrev pub Owned : ℕ → Address → Memory Plain → Type 0
Owned k a n = IsOwn (map.get n.store.map a.spot)

-- who waits for a message has a piece of its own for it
abbrev pub AimsIn : Condition Plain → Type 0
AimsIn (Waits stop c) = AimsAt Owned stop c
AimsIn _ = Unit {0}

-- the processes with these shares: one holds the output, and no other; a child that is part of it had it from its
-- parent, which lends it, and there is one such child at most; another child was not handed it by one that is part
pub record IsShared (share : ℕ → Share) (holder : ℕ) (condition : ℕ → Condition Plain) (birth : ℕ → Option Birth) : Type
    0 where
  pub holds : share holder ≡ HoldsIt
  pub only : (q : ℕ) → share q ≡ HoldsIt → q ≡ holder
  pub here : (p : Plain) × (store_in (condition holder) ≡ Some p)
  pub stores : (q : ℕ) (p : Plain) → store_in (condition q) ≡ Some p → StoreIs (share q) p
  pub up : (q : ℕ) (b : Birth) → birth q ≡ Some b → IsPart (share q) → share b.parent ≡ LendsIt
  pub siblings : (q r : ℕ) (b d : Birth) → birth q ≡ Some b → birth r ≡ Some d → b.parent ≡ d.parent → IsPart (share q)
      → IsPart (share r) → q ≡ r
  pub had : (q : ℕ) (b : Birth) (p : Plain) → birth q ≡ Some b → store_in (condition q) ≡ Some p → IsPart (share q)
      → In output_spot p.moved
  pub not_had : (q : ℕ) (b : Birth) (p : Plain) → birth q ≡ Some b → store_in (condition q) ≡ Some p
      → (IsPart (share q) → ⊥) → IsPart (share b.parent) → In output_spot p.moved → ⊥
  pub aims : (q : ℕ) → AimsIn (condition q)

-- the output of a system is held by one process
pub record HasHolder (s : System Plain) : Type 0 where
  pub share : ℕ → Share
  pub holder : ℕ
  pub shared : IsShared share holder s.condition s.births.birth

-- a process holds the output, and its text is that of the system: no other holds one
pub record IsOutputOf (s : System Plain) (q : ℕ) (bs : List ℕ) : Type 0 where
  pub store : Plain
  pub store_is : store_in (s.condition q) ≡ Some store
  pub output : plain.output store ≡ Some bs
  pub only : (r : ℕ) (p : Plain) (cs : List ℕ) → store_in (s.condition r) ≡ Some p → plain.output p ≡ Some cs → r ≡ q
