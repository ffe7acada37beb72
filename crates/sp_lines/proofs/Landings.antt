-- Jumps lead to an instruction that has a mark.
use Rattle.std.proofs.Common.{◌≡◌, ℕ, zero, suc, List, Option, Some, None, true, refl, ap, subst, length}
use Rattle.std.specs.Prelude.{slice_get}
use Rattle.std.proofs.lemmas.Option.{same_Some}
use Rattle.sp_tree.specs.PlainChecked.{Program}
use Rattle.sp_tree.specs.Plain as plain
use Rattle.sp_tree.specs.Bare.{without_places}
use Rattle.sp_code.specs.declared.instr.Instr.{Instr}
use Rattle.sp_code.specs.declared.instr.Instr.TheVariants as i
use Rattle.sp_code.specs.declared.code.Parts.{Parts}
use Rattle.sp_code.specs.TreeCode.{program_code}
use Rattle.sp_code.specs.Machine.{Entry, Ops, Config, At, Goes, Stuck, instruction, next_step}
use Rattle.sp_code.specs.Turns.{RunsTo, IsSafe, frames_fit}
use Rattle.sp_lines.specs.declared.mark.Mark.{Mark}
use Rattle.sp_lines.specs.Marks.{marks}
use Rattle.sp_lines.specs.AtTurn.{next_of}
use Rattle.sp_lines.proofs.EntryStatements.{at_mark}
use Rattle.sp_lines.specs.JumpTargets.{jump_at, jump_of, landing, landing_within, led}

is_jump : (o : Instr) (q : ℕ) → jump_of o ≡ Some q → o ≡ i.Jump q
is_jump (i.Jump to) q e = ap i.Jump (same_Some to q e)
is_jump _ _ e = absurd (cc e)

module _ (p : Program) (moves shares : plain.Stmt → List ℕ) {M : Type 0} (ops : Ops M) where
  abbrev code : Parts
  code = program_code (without_places p) moves shares

  abbrev HasMark : ℕ → Type 0
  HasMark q = (m : Mark) × (slice_get (marks p) q ≡ Some m)

  -- no instruction from here on lacks what it needs
  abbrev NeverStuck : Config M → Type 0
  NeverStuck c = (d : Config M) → RunsTo ops code c d → next_step ops code d ≡ Stuck → ⊥

  here : (x : Option Instr) (q : ℕ) (st : List Entry) (n : M) → slice_get code.instrs q ≡ x
      → (instruction ops code x q st n ≡ Stuck → ⊥) → HasMark q
  here None q st n e fine = absurd (fine refl)
  here (Some o) q st n e fine = let r = at_mark p moves shares q o e in (r.0, r.1)

  stands : (q : ℕ) (st : List Entry) (n : M) → NeverStuck (At q st n) → HasMark q
  stands q st n fine = here (slice_get code.instrs q) q st n refl
      (λ s. fine (At q st n) (record { steps = 0; proof = refl }) s)

  -- a jump is one step
  jumps : (q to : ℕ) (st : List Entry) (n : M) → slice_get code.instrs q ≡ Some (i.Jump to)
      → next_step ops code (At q st n) ≡ Goes (At to st n)
  jumps q to st n e = ap (λ (x : Option Instr). instruction ops code x q st n) e

  on : (q to : ℕ) (st : List Entry) (n : M) → slice_get code.instrs q ≡ Some (i.Jump to) → NeverStuck (At q st n)
      → NeverStuck (At to st n)
  on q to st n e fine d r = fine d (record { steps = suc r.steps; proof = (At to st n, jumps q to st n e, r.proof) })

  -- from each instruction on, k jumps lead to one with a mark
  abbrev Lands : ℕ → Type 0
  Lands k = (q : ℕ) (st : List Entry) (n : M) → NeverStuck (At q st n) → HasMark (landing_within k code.instrs q)

  lands_at : (k : ℕ) → Lands k → (q : ℕ) (st : List Entry) (n : M) → NeverStuck (At q st n) → (o : Instr)
      → slice_get code.instrs q ≡ Some o → (y : Option ℕ) → jump_of o ≡ y
      → HasMark (led (landing_within k code.instrs) q y)
  lands_at k lands q st n fine o e None f = stands q st n fine
  lands_at k lands q st n fine o e (Some to) f =
      let is : slice_get code.instrs q ≡ Some (i.Jump to) =
      subst (λ (x : Instr). slice_get code.instrs q ≡ Some x) (is_jump o to f) e in
      lands to st n (on q to st n is fine)

  lands_by : (k : ℕ) → Lands k → (q : ℕ) (st : List Entry) (n : M) → NeverStuck (At q st n) → (x : Option Instr)
      → slice_get code.instrs q ≡ x → HasMark (led (landing_within k code.instrs) q (jump_at x))
  lands_by k lands q st n fine None e = stands q st n fine
  lands_by k lands q st n fine (Some o) e = lands_at k lands q st n fine o e (jump_of o) refl

  lands : (k : ℕ) → Lands k
  lands zero q st n fine = stands q st n fine
  lands (suc k) q st n fine = lands_by k (lands k) q st n fine (slice_get code.instrs q) refl

  pub landing_marked : (c : Config M) → IsSafe ops code c → frames_fit ops code c ≡ true
      → HasMark (landing code.instrs (next_of c))
  landing_marked (At q st n) safe fits = lands (length code.instrs) q st n (λ d r s. safe fits d r s)
