-- What is told of an entry that forks, opens, sends or receives is a statement of the text of its kind.
use Rattle.std.proofs.Common.{◌≡◌, ℕ, List, Option, Some, None, Bool, true, false, subst, sym, inl, inr}
use Rattle.std.specs.Prelude.{slice_get, if◌then◌else◌}
use Rattle.sp_base.specs.declared.fault.Fault.{Fault}
use Rattle.sp_tree.specs.PlainChecked.{Program}
use Rattle.sp_tree.specs.Plain as plain
use Rattle.sp_tree.specs.Bare.{without_places}
use Rattle.sp_cell.specs.Map.{Plain}
use Rattle.sp_journal.specs.declared.entry.Event.{Event}
use Rattle.sp_journal.specs.declared.entry.Event.TheVariants as event
use Rattle.sp_code.specs.declared.instr.Instr.{Instr}
use Rattle.sp_code.specs.declared.instr.Instr.TheVariants as i
use Rattle.sp_code.specs.declared.code.Parts.{Parts}
use Rattle.sp_code.specs.TreeCode.{program_code}
use Rattle.sp_code.specs.Machine.{Stop, Forks, Opens, Sends, Receives, Ends, Pauses, Config}
use Rattle.sp_code.specs.Memory.{CodeRun, Memory, memory}
use Rattle.sp_code.specs.PlainStore.{plain as plain_store}
use Rattle.sp_code.specs.System.{System, event_at, event_or, fault_of}
use Rattle.sp_code.specs.Turns.{Turn, Stopped, Faulted, IsTurn, frames_fit}
use Rattle.sp_lines.specs.declared.mark.Mark.{Mark}
use Rattle.sp_lines.specs.Marks.{marks}
use Rattle.sp_lines.specs.AtTurn.{at_turn, StopStands}
use Rattle.sp_lines.specs.Kinds.{IsOf, IsOfProgram, HasStatement}
use Rattle.sp_lines.specs.declared.entry_place.Told.{Told}
use Rattle.sp_lines.specs.EntryPlaces.{EntryTells}
use Rattle.sp_lines.proofs.StopInstructions.{turn_stands}
use Rattle.sp_lines.proofs.StopMarks.{marked}

module _ (p : Program) (moves shares : plain.Stmt → List ℕ) where
  abbrev pub code : Parts
  code = program_code (without_places p) moves shares

  pub at_mark : (q : ℕ) (o : Instr) → slice_get code.instrs q ≡ Some o
      → (m : Mark) × (slice_get (marks p) q ≡ Some m) × IsOf (IsOfProgram p) m o
  at_mark q o f = marked (IsOfProgram p) (without_places p) p.blocks (λ g b x u h. (g, b, x, h)) q o f

  pub by_stop : (z : Stop) (q : ℕ) → StopStands code z q → HasStatement p (event_at z) q
  by_stop (Forks t v n) q (inl h) = let r = at_mark q (i.Fork t) h in (r.0, r.1, inl r.2)
  by_stop (Forks t v n) q (inr h) = let r = at_mark q (i.Forall t) h in (r.0, r.1, inr r.2)
  by_stop (Opens a) q h = at_mark q i.Open h
  by_stop (Sends c k cs) q h = at_mark q (i.Send k) h
  by_stop (Receives c k a) q h = at_mark q (i.Receive k) h
  by_stop Ends q h = tt
  by_stop Pauses q h = tt

  -- a turn that stops stands at its instruction
  abbrev pub Stands : Turn (Memory Plain) → Type 0
  Stands (Stopped z c) = StopStands code z (at_turn (Stopped z c))
  Stands (Faulted f c) = Unit {0}

  by_event : (b : Bool) (x : Option Fault) (turn : Turn (Memory Plain)) → Stands turn
      → HasStatement p (if b then event.Laid else event_or x turn) (at_turn turn)
  by_event true x turn h = tt
  by_event false (Some f) turn h = tt
  by_event false None (Faulted f c) h = tt
  by_event false None (Stopped z c) h = by_stop z (at_turn (Stopped z c)) h

  pub stands : (g : CodeRun) → g.code ≡ code → (c : Config (Memory Plain)) (turn : Turn (Memory Plain))
      → IsTurn (memory plain_store g) g.code c turn → Stands turn
  stands g same c (Faulted f d) h = tt
  stands g same c (Stopped z d) h = subst (λ (k : Parts). StopStands k z (at_turn (Stopped z d))) same
      (turn_stands (memory plain_store g) g.code c z d (frames_fit (memory plain_store g) g.code c) h)

  pub shown : (g : CodeRun) → g.code ≡ code → (s t : System Plain) (q : ℕ) (e : Event) (w : Told)
      → EntryTells g s q e w t → HasStatement p e w.instruction
  shown g same s t q e w (c, works, turn, is, happens, after, told) =
      subst (λ (x : Told). HasStatement p e x.instruction) (sym told)
      (subst (λ (x : Event). HasStatement p x (at_turn turn)) happens
      (by_event s.faulted (fault_of g.limits s turn) turn (stands g same c turn is)))
