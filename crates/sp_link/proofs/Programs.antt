-- The theorem for programs: the code of a program that is ready, along each journal that can be named, is the program's
-- meaning along that journal, both ways, and no turn of it lacks what it needs.
use Rattle.std.proofs.Common.{◌≡◌, ℕ, ◌<◌, List, false, refl, ap}
use Rattle.sp_journal.specs.declared.entry.Entry.{Entry}
use Rattle.sp_journal.specs.Births.{Births, channel, first_births, births_from, occurrences_from, NameableFrom}
use Rattle.sp_journal.specs.Names.{Channel}
use Rattle.sp_journal.proofs.BirthLaws.{Lawful}
use Rattle.sp_journal.proofs.BirthLaws.{lawful as lawful_births}
use Rattle.sp_tree.specs.Plain.{Stmt}
use Rattle.sp_cell.specs.Map.{Plain}
use Rattle.sp_meaning.specs.LocalWork.{RunInput}
use Rattle.sp_meaning.specs.Runs.{StateOf, output_of}
use Rattle.sp_meaning.specs.Ends.{IsDone, IsIdle}
use Rattle.sp_meaning.specs.Along.{IsAlong}
use Rattle.sp_code.specs.declared.code.Parts.{Parts as Code}
use Rattle.sp_code.specs.TreeCode.{program_code}
use Rattle.sp_code.specs.NeverStops.{NeverStops}
use Rattle.sp_code.specs.CodeOfTree.{BlocksAt}
use Rattle.sp_code.specs.Machine.{Config}
use Rattle.sp_code.specs.Turns.{IsSafe}
use Rattle.sp_code.specs.Memory.{Memory, memory}
use Rattle.sp_code.specs.PlainStore.{plain}
use Rattle.sp_code.specs.System.{System, Working, Over, IsSystem, OutputIs}
use Rattle.sp_code.proofs.Blocks.{blocks_stand, layout_found}
use Rattle.sp_codegen.specs.TurnAgrees.{code_run}
use Rattle.sp_codegen.proofs.FirstTurn.{laid_of}
use Rattle.sp_link.specs.Premises.{IsReady}
use Rattle.sp_link.proofs.Relation.{RunContext}
use Rattle.sp_link.proofs.Theorem.{meaning_of_system, turns_safe, system_of_meaning, output_same, done_means, done_runs}
use Rattle.sp_link.proofs.Theorem.{idle_means}

-- no two channels have one name
pub one_channel : (b : Births) → Lawful b → (c d : ℕ) → c < b.channels → d < b.channels → channel b c ≡ channel b d
    → c ≡ d
one_channel b w c d lc ld e =
    let owners : (b.opening c).owner ≡ (b.opening d).owner =
    w.one_name (b.opening c).owner (b.opening d).owner (w.owned c lc) (w.owned d ld)
    (ap (λ (y : Channel). y.owner) e) in
    let nths : (b.opening c).nth ≡ (b.opening d).nth = ap (λ (y : Channel). y.nth) e in
    w.one_opening c d lc ld (λ i. record { owner = owners i; nth = nths i })

module _ (g : RunInput) (moves shares : Stmt → List ℕ) (pause : ℕ) (ready : IsReady g moves shares) (es : List Entry)
    (named : NameableFrom first_births es) where
  abbrev pub code : Code
  code = program_code g.program moves shares

  pub blocks : BlocksAt g.program moves shares code (NeverStops g.program)
  blocks = blocks_stand g.program moves shares (NeverStops g.program) ready.fine

  pub lawful : Lawful (births_from first_births es)
  lawful = lawful_births es named

  abbrev pub ground : RunContext
  ground = record {
    g = g;
    code = code;
    moves = moves;
    shares = shares;
    callable = NeverStops g.program;
    pause = pause;
    births = births_from first_births es;
    opened = 0;
    formed = ready.formed;
    small = ready.small;
    laid = laid_of g.program code moves shares (NeverStops g.program) blocks (λ f l e. layout_found g.program f l e);
    free = ready.free;
    pure = ready.pure;
    values = ready.values;
    finds = λ f l e. layout_found g.program f l e;
    blocks = blocks;
    sets = ready.sets;
    limits = ready.limits;
    one_name = λ a b la lb e. lawful.one_name a b la lb e;
    one_channel = λ c d lc ld e. one_channel (births_from first_births es) lawful c d lc ld e;
  }

  pub program_means : (t : System Plain) → IsSystem plain (code_run g code pause) es t → (n : ℕ) × (s : StateOf g)
      × IsAlong g pause (occurrences_from first_births es) n s
  program_means t h = meaning_of_system ground ready.main ready.first es named refl t h

  pub program_runs : (n : ℕ) (s : StateOf g) → IsAlong g pause (occurrences_from first_births es) n s
      → (t : System Plain)
      × IsSystem plain (code_run g code pause) es t
  program_runs n s h = system_of_meaning ground ready.main ready.first es named refl n s h

  pub program_safe : (t : System Plain) → IsSystem plain (code_run g code pause) es t
      → (i : ℕ) (d : Config (Memory Plain)) → t.condition i ≡ Working d
      → IsSafe (memory plain (code_run g code pause)) code d
  program_safe t h i d at = turns_safe ground ready.main ready.first es named refl t h i d at

  pub program_output : (t : System Plain) → IsSystem plain (code_run g code pause) es t → (n : ℕ) (s : StateOf g)
      → IsAlong g pause (occurrences_from first_births es) n s
      → OutputIs plain (code_run g code pause) t (output_of g s)
  program_output t h n s k = output_same ground ready.main ready.first es named refl t h n s k

  pub program_done : (t : System Plain) → IsSystem plain (code_run g code pause) es t → (n : ℕ) (s : StateOf g)
      → IsAlong g pause (occurrences_from first_births es) n s → (d : Config (Memory Plain)) → t.condition 0 ≡ Over d
      → IsDone g s
  program_done t h n s k d e = done_means ground ready.main ready.first es named refl t h n s k d e

  pub program_over : (t : System Plain) → IsSystem plain (code_run g code pause) es t → (n : ℕ) (s : StateOf g)
      → IsAlong g pause (occurrences_from first_births es) n s → IsDone g s → (d : Config (Memory Plain))
      × (t.condition 0 ≡ Over d)
  program_over t h n s k e = done_runs ground ready.main ready.first es named refl t h n s k e

  pub program_idle : (t : System Plain) → IsSystem plain (code_run g code pause) es t → (n : ℕ) (s : StateOf g)
      → IsAlong g pause (occurrences_from first_births es) n s → t.faulted ≡ false
      → ((i : ℕ) (d : Config (Memory Plain)) → t.condition i ≡ Working d → ⊥) → IsIdle g s
  program_idle t h n s k no_fault none = idle_means ground ready.main ready.first es named refl t h n s k no_fault none
