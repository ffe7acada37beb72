-- A local step of the model is the run of the process's own step on the store.
use Rattle.std.proofs.Common.{◌≡◌, List, Some, refl, ap, ◌∙◌}
use Rattle.sp_meaning.specs.Maps.{at_key}
use Rattle.sp_meaning.specs.Model.{Name, Language, Moves, Works, same_name, State, WritesLocation, Becomes, with_change}
use Rattle.sp_meaning.specs.Model.{with_changes}
use Rattle.sp_meaning.specs.EffectTree.{EffectTree, Leaf, ReadThen, WriteThen, run_tree, tree_writes}
use Rattle.sp_meaning.specs.Steps.{ActOf, write_changes, step_outcome, result_of, step_with}
use Rattle.sp_meaning.specs.LocalWork.{RunInput, Loc, LocationContent, LocalState, Item, Process, WorkOutcome, Computed}
use Rattle.sp_meaning.specs.LocalWork.{same_loc}
use Rattle.sp_meaning.specs.Actions.{Action, Stepped, Ticked}
use Rattle.sp_meaning.specs.SuperPascal.{superpascal, act_tree, action_of, act_of, with_todo}
use Rattle.sp_meaning.specs.Run.{Store}
use Rattle.sp_meaning.proofs.EffectTree.{answer_then}
use Rattle.sp_meaning.proofs.Instance.{loc_test}
use Rattle.sp_meaning.specs.Runs.{StateOf, total_limits, running_process, next_state}

-- the writes of a tree, made one after another, give the store that its run leaves
pub stored : (L : Language) {A : Type 0} (t : EffectTree L.Loc L.Value A) (s : State L)
    → with_changes (write_changes {L = L} (tree_writes L.same_loc t s.store)) s
    ≡ record s { store = (run_tree L.same_loc t s.store).1 }
stored L (Leaf a) s = refl
stored L (ReadThen l more) s = stored L (more (s.store l)) s
stored L (WriteThen l v more) s = stored L more (with_change (WritesLocation l v) s)

module _ (g : RunInput) where
  abbrev L : Language
  L = superpascal g

  -- the state where q's own part and the store are these
  abbrev pub moved : StateOf g → Name → Process → Store → StateOf g
  moved s q pr m = record s { condition = at_key same_name q (Works pr) s.condition; store = m }

  abbrev writes_of : StateOf g → Process → List (Loc × LocationContent)
  writes_of s pr = tree_writes same_loc (act_tree g pr) s.store

  -- what act a tree's answer is
  pub answered : (s : StateOf g) (pr : Process) (r : WorkOutcome Action) (m : Store)
      → ◌≡◌ {A = WorkOutcome Action × Store} (run_tree same_loc (action_of g pr) s.store) (r, m)
      → run_tree same_loc (act_tree g pr) s.store ≡ (act_of pr.who r, m)
  answered s pr r m e = answer_then loc_test (action_of g pr) (λ x. Leaf (act_of pr.who x)) s.store
      ∙ ap (λ (x : WorkOutcome Action × Store). run_tree same_loc (Leaf (act_of pr.who x.0)) x.1) e

  move : (s : StateOf g) (q : Name) (pr : Process) (to : Process) (ws : List (Loc × LocationContent))
      → L.next pr s.store ≡ Moves to ws → running_process g s q ≡ Some pr
      → next_state g s q ≡ Some (with_changes (write_changes {L = L} ws) (with_change (Becomes q (Works to)) s))
  move s q pr to ws e run =
      ap (step_with (total_limits g) s q) run
      ∙ ap (λ (a : ActOf L). Some (result_of s q (step_outcome (total_limits g) s q a))) e

  -- a local step, by the run of the process's own step
  pub local_step : (s : StateOf g) (q : Name) (pr : Process) (todo : List Item) (o : LocalState) (m : Store)
      → running_process g s q ≡ Some pr
      → ◌≡◌ {A = WorkOutcome Action × Store} (run_tree same_loc (action_of g pr) s.store)
      (Computed (Stepped todo) o, m)
      → next_state g s q ≡ Some (moved s q (with_todo todo pr.who o) m)
  local_step s q pr todo o m run e =
      let a = answered s pr (Computed (Stepped todo) o) m e in
      move s q pr (with_todo todo pr.who o) (writes_of s pr)
      (ap (λ (x : (List (Loc × LocationContent) → ActOf L) × Store). x.0 (writes_of s pr)) a) run
      ∙ ap (λ z. Some z) (stored L (act_tree g pr) (with_change (Becomes q (Works (with_todo todo pr.who o))) s)
      ∙ ap (λ (x : (List (Loc × LocationContent) → ActOf L) × Store). moved s q (with_todo todo pr.who o) x.1) a)

  pub pausing_step : (s : StateOf g) (q : Name) (pr : Process) (todo : List Item) (o : LocalState) (m : Store)
      → running_process g s q ≡ Some pr
      → ◌≡◌ {A = WorkOutcome Action × Store} (run_tree same_loc (action_of g pr) s.store)
      (Computed (Ticked todo) o, m)
      → next_state g s q ≡ Some (moved s q (with_todo todo pr.who o) m)
  pausing_step s q pr todo o m run e =
      let a = answered s pr (Computed (Ticked todo) o) m e in
      move s q pr (with_todo todo pr.who o) (writes_of s pr)
      (ap (λ (x : (List (Loc × LocationContent) → ActOf L) × Store). x.0 (writes_of s pr)) a) run
      ∙ ap (λ z. Some z) (stored L (act_tree g pr) (with_change (Becomes q (Works (with_todo todo pr.who o))) s)
      ∙ ap (λ (x : (List (Loc × LocationContent) → ActOf L) × Store). moved s q (with_todo todo pr.who o) x.1) a)
