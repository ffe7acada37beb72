-- None of this belongs to what the program promises: it is for contracts between crates.
-- The activations of a process, one above another: each is of a block that the one below it calls. It says what a
-- process may stop at while a block with a result is being called.
use Rattle.std.specs.Prelude.{◌≡◌, ◌⊎◌, ℕ, List, [], ◌∷◌, Some, true, false}
use Rattle.sp_base.specs.declared.limits.Limits.{Limits}
use Rattle.sp_cell.specs.Map.{Plain}
use Rattle.sp_journal.specs.declared.entry.Entry.{Entry as JournalEntry}
use Rattle.sp_code.specs.declared.code.Layout.{Layout}
use Rattle.sp_code.specs.declared.code.Parts.{Parts}
use Rattle.sp_code.specs.Machine.{Config, At, Entry, layout_of}
use Rattle.sp_code.specs.Memory.{Memory, memory}
use Rattle.sp_code.specs.PlainStore.{plain}
use Rattle.sp_code.specs.Sound.{AreLimits, run_of}
use Rattle.sp_code.specs.System.{System, Working, IsSystem}
use Rattle.sp_code.specs.Turns.{RunsTo}
use Rattle.sp_verify_rules.specs.Areas.{Area, Body, instr_at}
use Rattle.sp_verify_rules.specs.Changes.{areas}
use Rattle.sp_verify_rules.specs.Effects.{IsCalled}
use Rattle.sp_verify_rules.specs.Shapes.{Shape}
use Rattle.sp_verify_rules.specs.InstructionFacts.{ProcessAt}
use Rattle.sp_verify_rules.specs.Verdict.{is_stop}

module _ (c : Parts) where
  -- a block's area that the other one calls
  abbrev pub IsCallee : Area → Area → Type 0
  IsCallee d a = (f p up : ℕ) × (ss : List Shape) × (l : Layout) × (a ≡ Body f) × IsCalled c d p f up ss l

  -- each activation is of a block that the one below it calls
  abbrev pub Linked : List Area → Type 0
  Linked [] = Unit {0}
  Linked (a ∷ []) = Unit {0}
  Linked (a ∷ d ∷ us) = IsCallee d a × Linked (d ∷ us)

  abbrev pub IsAreaAmong : Area → List Area → Type 0
  IsAreaAmong a [] = ⊥
  IsAreaAmong a (d ∷ us) = (a ≡ d) ⊎ IsAreaAmong a us

  -- along every journal, wherever a turn comes to an instruction that stops, no activation is of a block that answers
  abbrev pub AnswersWithoutStop : Type 0
  AnswersWithoutStop =
      (input : List ℕ) (lim : Limits) → AreLimits lim → (es : List JournalEntry) (s : System Plain)
      → IsSystem plain (run_of c input lim) es s → (q : ℕ) (d : Config (Memory Plain)) → s.condition q ≡ Working d
      → (p : ℕ) (st : List Entry) (m : Memory Plain) → RunsTo (memory plain (run_of c input lim)) c d (At p st m)
      → is_stop (instr_at c p) ≡ true
      → (t : ProcessAt c p st m.frames)
      × ((f : ℕ) (l : Layout) → IsAreaAmong (Body f) (areas t) → layout_of c.layouts f ≡ Some l → l.answer ≡ false)
