-- When entries with their steps are those of a run along a journal: local steps that are not due, and then one that is
-- due, or the step of the entry.
use Rattle.std.proofs.Common.{◌≡◌, ◌⊎◌, ℕ, ◌+◌, Bool, true, false, cond, ◌&&◌, nat_le, List, [], ◌∷◌, Some}
use Rattle.sp_meaning.specs.Model.{Name, same_name, Language, Moves}
use Rattle.sp_meaning.specs.Steps.{Advances}
use Rattle.sp_meaning.specs.LocalWork.{RunInput, Process}
use Rattle.sp_meaning.specs.SuperPascal.{superpascal}
use Rattle.sp_meaning.specs.Entries.{Happening, Opened, Forked, Offered, Faulted, Laid, Paused}
use Rattle.sp_journal.specs.Names as happenings
use Rattle.sp_meaning.specs.Runs.{happening_of}
use Rattle.sp_witness.proofs.IndependentSteps.{Tag, Block}
use Rattle.sp_witness.proofs.Ticks.{ticks_by}

module _ (g : RunInput) (turn : ℕ) where
  abbrev L : Language
  L = superpascal g

  -- a local step after which its process is due, or is not
  pub record IsMove (since : ℕ) (x : Tag g) (is_due : Bool) (ticks : ℕ) : Type 0 where
    pub to : Process
    pub writes : List (L.Loc × L.Value)
    pub move_is : x.act ≡ Moves to writes
    pub due_is : x.pauses && nat_le (since + turn) to.own.ticks ≡ is_due
    pub ticks_are : ticks ≡ to.own.ticks

  -- a local step that is not due
  abbrev pub IsLocalNotDue : ℕ → Tag g → Type 0
  IsLocalNotDue since x = (n : ℕ) × IsMove since x false n

  abbrev pub AllSilent : ℕ → List (Tag g) → Type 0
  AllSilent since [] = Unit {0}
  AllSilent since (x ∷ xs) = IsLocalNotDue since x × AllSilent since xs

  -- the step of an entry
  abbrev pub IsStepOfEntry : Tag g → Happening → ℕ → Type 0
  IsStepOfEntry x what ticks = (happening_of {L = L} x.act (Advances []) ≡ Some what) × (ticks ≡ ticks_by g x.act)

  -- the last step of an entry
  abbrev pub IsLast : ℕ → Happening → Tag g → ℕ → Type 0
  IsLast since Paused x ticks = IsMove since x true ticks
  IsLast since (Forked n) x ticks = IsStepOfEntry x (Forked n) ticks
  IsLast since Opened x ticks = IsStepOfEntry x Opened ticks
  IsLast since (Offered w c) x ticks = IsStepOfEntry x (Offered w c) ticks
  IsLast since happenings.Ended x ticks = IsStepOfEntry x happenings.Ended ticks
  IsLast since (Faulted f) x ticks = ⊥
  IsLast since Laid x ticks = ⊥

  -- the steps of an entry
  abbrev pub Valid : ℕ → Happening → List (Tag g) → ℕ → Type 0
  Valid since what [] ticks = ⊥
  Valid since what (x ∷ xs) ticks =
      (IsLocalNotDue since x × Valid since what xs ticks) ⊎ ((xs ≡ []) × IsLast since what x ticks)

  -- the ticks of each process at its last entry, after one more
  abbrev pub since_after : (Name → ℕ) → Block g → Name → ℕ
  since_after since b r = cond (same_name b.head.who r) b.ticks (since r)

  abbrev pub since_all : (Name → ℕ) → List (Block g) → Name → ℕ
  since_all since [] = since
  since_all since (b ∷ bs) = since_all (since_after since b) bs

  abbrev pub AllValid : (Name → ℕ) → List (Block g) → Type 0
  AllValid since [] = Unit {0}
  AllValid since (b ∷ bs) = Valid (since b.head.who) b.head.what b.tags b.ticks × AllValid (since_after since b) bs
