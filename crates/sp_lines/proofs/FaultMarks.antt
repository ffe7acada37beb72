-- An instruction that faults has a mark.
use Rattle.std.proofs.Common.{◌≡◌, ℕ, List, Option, Some, None, Bool, true, false, refl, sym, subst}
use Rattle.std.specs.Prelude.{slice_get}
use Rattle.sp_base.specs.declared.fault.Fault.{Fault}
use Rattle.sp_tree.specs.PlainChecked.{Program}
use Rattle.sp_tree.specs.Plain as plain
use Rattle.sp_tree.specs.Bare.{without_places}
use Rattle.sp_code.specs.declared.instr.Instr.{Instr}
use Rattle.sp_code.specs.declared.code.Parts.{Parts}
use Rattle.sp_code.specs.TreeCode.{program_code}
use Rattle.sp_code.specs.Machine.{Entry, Ops, Config, At, Fails, instruction, next_step}
use Rattle.sp_code.specs.Turns.{Faulted, BeginsOrFaults, Runs, IsTurn, frames_fit}
use Rattle.sp_lines.specs.declared.mark.Mark.{Mark}
use Rattle.sp_lines.specs.Marks.{marks}
use Rattle.sp_lines.specs.AtTurn.{next_of}
use Rattle.sp_lines.proofs.EntryStatements.{at_mark}

module _ (p : Program) (moves shares : plain.Stmt → List ℕ) {M : Type 0} (ops : Ops M) where
  abbrev code : Parts
  code = program_code (without_places p) moves shares

  by_instruction : (x : Option Instr) (pc : ℕ) (st : List Entry) (n : M) (f : Fault) → slice_get code.instrs pc ≡ x
      → instruction ops code x pc st n ≡ Fails f → (m : Mark) × (slice_get (marks p) pc ≡ Some m)
  by_instruction None pc st n f e h = absurd cc
  by_instruction (Some o) pc st n f e h = let r = at_mark p moves shares pc o e in (r.0, r.1)

  by_step : (d : Config M) (f : Fault) → next_step ops code d ≡ Fails f
      → (m : Mark) × (slice_get (marks p) (next_of d) ≡ Some m)
  by_step (At pc st n) f h = by_instruction (slice_get code.instrs pc) pc st n f refl h

  by_begin : (b : Bool) (c : Config M) (f : Fault) (d : Config M)
      → BeginsOrFaults b c (Faulted f d) (Runs ops code c (Faulted f d)) → b ≡ true
      → (m : Mark) × (slice_get (marks p) (next_of d) ≡ Some m)
  by_begin false c f d h e = absurd cc
  by_begin true c f d (last, _, (fails, same)) e =
      subst (λ (x : Config M). (m : Mark) × (slice_get (marks p) (next_of x) ≡ Some m))
      (sym same) (by_step last f fails)

  pub fault_marked : (c : Config M) (f : Fault) (d : Config M) → IsTurn ops code c (Faulted f d)
      → frames_fit ops code c ≡ true → (m : Mark) × (slice_get (marks p) (next_of d) ≡ Some m)
  fault_marked c f d h e = by_begin (frames_fit ops code c) c f d h e
