-- The code of a program that is ready is sound (`program_sound`): each way back in it passes a tick or a call, and all
-- is well with every turn and every event along each journal of its system.
use Rattle.std.specs.Prelude.{ℕ, List, refl}
use Rattle.sp_base.specs.declared.limits.Limits.{Limits}
use Rattle.sp_base.specs.declared.limits.TheConstants.{TURN_TICKS}
use Rattle.sp_tree.specs.Plain.{Stmt}
use Rattle.sp_journal.specs.declared.entry.Entry.{Entry}
use Rattle.sp_journal.specs.Births.{first_births, NameableFrom}
use Rattle.sp_cell.specs.Map.{Plain}
use Rattle.sp_meaning.specs.LocalWork.{RunInput}
use Rattle.sp_meaning.specs.Runs.{StateOf}
use Rattle.sp_meaning.specs.Along.{JournalState}
use Rattle.sp_code.specs.PlainStore.{plain}
use Rattle.sp_code.specs.TreeCode.{program_code}
use Rattle.sp_code.specs.Memory as machine
use Rattle.sp_code.specs.Sound.{AreLimits, IsSound, IsSafeSystem}
use Rattle.sp_code.specs.System.{System, IsSystem}
use Rattle.sp_code.specs.Ranks.{IsRanked}
use Rattle.sp_code.proofs.Blocks.{distinct_blocks}
use Rattle.sp_code.proofs.Falls.{ranked_along}
use Rattle.sp_codegen.specs.TurnAgrees.{code_run}
use Rattle.sp_code.proofs.NameableRuns.{system_nameable}
use Rattle.sp_link.specs.Premises.{IsReady}
use Rattle.sp_link.proofs.Formals.{have_formals}
use Rattle.sp_link.proofs.Programs.{ground}
use Rattle.sp_link.proofs.Ranks.{program_ranked}
use Rattle.sp_link.proofs.Relation.{RunContext, RightsOfAll, Linked, at_open, run_is, ops}
use Rattle.sp_link.proofs.SafeSteps.{can_split, can_join, put_by_send, put_by_receive}
use Rattle.sp_link.proofs.Theorem.{linked_along}
use Rattle.sp_link.proofs.TurnsSafe.{turn_safe}
use Rattle.sp_link.proofs.Relation.{stop_of}

-- of a system that is linked
system_well : (G : RunContext) (lv : RightsOfAll G) (c : JournalState) (s : StateOf G.g) (u : System Plain)
    → IsRanked G.code.instrs
    → Linked G lv c s u → IsSafeSystem (run_is G) u
system_well G lv c s u ranked l = record {
  turns = λ q d at. turn_safe (stop_of G lv c s u l q d at);
  ranks = λ q d at. ranked_along (ops G) G.code ranked d;
  forks = λ q tb n val d st. can_split G lv c s u l st.no_fault q st.configuration st.runs tb val n d st.turn;
  ends = λ q left b d e st born joins. can_join G lv c s u l st.no_fault q st.configuration st.runs b born left e
      joins d
      st.turn;
  sends = λ q w ch k j a cells d e st p waits. put_by_send G lv c s u l st.no_fault q w ch k j a cells d e st p waits;
  receives = λ q w ch k j a cells d e st p waits. put_by_receive G lv c s u l st.no_fault q w ch k j a cells d e st p
      waits;
}

module _ (g : RunInput) (moves shares : Stmt → List ℕ) (pause : ℕ) (ready : IsReady g moves shares) where
  abbrev run : machine.CodeRun
  run = code_run g (program_code g.program moves shares) pause

  -- a journal that the system keeps can be named
  pub names_on : (es : List Entry) (s : System Plain) → IsSystem plain run es s → NameableFrom first_births es
  names_on es s h = system_nameable run ready.limits es s h

  pub program_well : (es : List Entry) (s : System Plain) → IsSystem plain run es s → IsSafeSystem run s
  program_well es s h =
      let z = linked_along (ground g moves shares pause ready es (names_on es s h)) ready.main ready.first es
      (names_on es s h) refl s h in
      system_well (at_open (ground g moves shares pause ready es (names_on es s h)) s.births.channels) z.lives z.course
      z.state s (program_ranked g.program moves shares) z.linked

-- with any input and limits
at_run : (g : RunInput) (moves shares : Stmt → List ℕ) → IsReady g moves shares → (input : List ℕ) (lim : Limits)
    → AreLimits lim → IsReady (record g { input = input; limits = lim }) moves shares
at_run g moves shares r input lim l = record {
  main = r.main;
  first = r.first;
  formed = r.formed;
  small = r.small;
  free = r.free;
  pure = r.pure;
  values = r.values;
  fine = r.fine;
  sets = r.sets;
  limits = l;
}

pub program_sound : (g : RunInput) (moves shares : Stmt → List ℕ) → IsReady g moves shares
    → IsSound (program_code g.program moves shares)
program_sound g moves shares r = record {
  blocks = distinct_blocks g.program 0 0 g.program.blocks;
  formals = have_formals g.program r.formed moves shares;
  safe = λ input lim l es s h. program_well (record g { input = input; limits = lim }) moves shares TURN_TICKS
      (at_run g moves shares r input lim l) es s h;
}
