-- The step at a stop: what it is in the meaning (`kernel_next`, `kernel_says`). A fork, an offer and an end write
-- nothing but cells of frames that are gone, which the meaning leaves out; a process stands without them
-- (`stand_dead`).
use Rattle.std.proofs.Common.{◌≡◌, ◌⊎◌, ⊎_elim, ℕ, suc, ◌≤◌, List, length, Some, ap, ◌∙◌, arith}
use Rattle.sp_cell.specs.Map.{Plain}
use Rattle.sp_meaning.specs.Model.{Name}
use Rattle.sp_meaning.specs.EffectTree.{run_tree, tree_writes}
use Rattle.sp_meaning.specs.Steps.{ActOf, step_outcome, result_of, step_with}
use Rattle.sp_meaning.specs.LocalWork.{RunInput, Loc, Cell, Input, Output, LocalState, Identity, Process, WorkOutcome}
use Rattle.sp_meaning.specs.LocalWork.{same_loc}
use Rattle.sp_meaning.specs.Actions.{Action}
use Rattle.sp_meaning.specs.SuperPascal.{superpascal, act_tree, action_of, act_of}
use Rattle.sp_meaning.specs.Run.{Store}
use Rattle.sp_meaning.specs.Runs.{StateOf, total_limits, running_process, next_state, happening_at, happening_of}
use Rattle.sp_meaning.proofs.SilentActions.{IsDead}
use Rattle.sp_meaning.proofs.StepLaws.{next_is}
use Rattle.sp_code.specs.Memory.{Memory}
use Rattle.sp_codegen.specs.FramePairs.{FramePair}
use Rattle.sp_codegen.proofs.FramePairs.{from_length}
use Rattle.sp_link.proofs.Relation.{RunContext, BirthRights, St}

module _ (g : RunInput) (q : Name) (s : StateOf g) (pr : Process) (runs : running_process g s q ≡ Some pr)
    (r : WorkOutcome Action × Store)
    (does : ◌≡◌ {A = WorkOutcome Action × Store} (run_tree same_loc (action_of g pr) s.store) r) where
  abbrev pub act : ActOf (superpascal g)
  act = act_of pr.who r.0 (tree_writes same_loc (act_tree g pr) s.store)

  act_is : (superpascal g).next pr s.store ≡ act
  act_is = next_is g pr s.store ∙ ap (λ (x : WorkOutcome Action × Store). act_of pr.who x.0
      (tree_writes same_loc (act_tree g pr) s.store)) does

  pub kernel_next : next_state g s q ≡ Some (result_of s q (step_outcome (total_limits g) s q act))
  kernel_next = ap (step_with (total_limits g) s q) runs
      ∙ ap (λ (a : ActOf (superpascal g)). Some (result_of s q (step_outcome (total_limits g) s q a))) act_is

  pub kernel_says : happening_at g s q pr ≡ happening_of act (step_outcome (total_limits g) s q act)
  kernel_says = ap (λ (a : ActOf (superpascal g)). happening_of a (step_outcome (total_limits g) s q a)) act_is

module _ (G : RunContext) (lf : BirthRights) (kids : ℕ → ℕ → BirthRights) (q : Name) where
  -- so it stands without them
  pub stand_dead : {w : Identity} {since : ℕ} {js : List FramePair} {o : LocalState} {s : Store} {n : Memory Plain}
      → St G lf kids q w since js o s n → (s1 : Store) → ((l : Loc) → (s1 l ≡ s l) ⊎ IsDead (length js) l)
      → St G lf kids q w since js o s1 n
  stand_dead {js = js} t s1 same = record {
    frames = t.frames;
    ticks = t.ticks;
    since_is = t.since_is;
    moved_is = t.moved_is;
    known = t.known;
    unaway = t.unaway;
    held = λ r h x l m. (let z = t.held r h x l m in
        record {
          tree = z.tree;
          tree_is = ⊎_elim (λ e. e)
              (λ (d : length js ≤ h). (let a = (from_length (suc h) js l.joint l.rest l.frame_at).1 in
              absurd (omega (arith, a, d)))) (same (Cell r h x)) ∙ z.tree_is;
          cells = z.cells;
          piece = z.piece;
          flat = z.flat;
        });
    indexes = t.indexes;
    position = λ m. (let z = t.position m in (z.0, ⊎_elim (λ e. e) (λ d. absurd d) (same Input) ∙ z.1, z.2));
    output = λ m. (let z = t.output m in (z.0, ⊎_elim (λ e. e) (λ d. absurd d) (same Output) ∙ z.1, z.2));
  }
