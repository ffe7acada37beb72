-- What is reached by paths of calls is what stands here, and what is reached from a block that is called here. So a
-- closure over the calls computes the sets.
use Rattle.std.proofs.Common.{inl, inr, ℕ, List, [], ◌∷◌}
use Rattle.sp_tree.specs.Plain.{Program, Block}
use Rattle.sp_tree.specs.Uses.{Use, Target, Seen, CallOf}
use Rattle.sp_tree.specs.Sets.{CallStep, Reach, IsTarget, IsUsed}

module _ (p : Program) where
  abbrev pub IsReached : (Use → Type 0) → Use → Type 0
  IsReached Here u = (bs : List ℕ) × Reach p Here bs u

  -- the same step from other uses, where the call is one of them
  pub called_in : {Here Above : Use → Type 0} {b : ℕ} {u : Use} {Rest : Block → Type 0}
      (step : CallStep p Here b u Rest) → Above (CallOf b step.actuals) → CallStep p Above b u Rest
  called_in step is_called = record {
    actuals = step.actuals;
    is_called = is_called;
    block = step.block;
    is_block = step.is_block;
    is_of_callers = step.is_of_callers;
    rest = step.rest;
  }

  -- what is reached from a part is reached from the whole
  pub reach_part : {Here Above : Use → Type 0} → ((u : Use) → Here u → Above u) → (bs : List ℕ) (u : Use)
      → Reach p Here bs u → Reach p Above bs u
  reach_part i [] u r = i u r
  reach_part i (b ∷ bs) u step = called_in step (i (CallOf b step.actuals) step.is_called)

  pub target_part : {Here Above : Use → Type 0} → ((u : Use) → Here u → Above u) → (x : ℕ) → IsTarget p Here x
      → IsTarget p Above x
  target_part i x (bs, r) = (bs, reach_part i bs (Target x) r)

  pub used_part : {Here Above : Use → Type 0} → ((u : Use) → Here u → Above u) → (x : ℕ) → IsUsed p Here x
      → IsUsed p Above x
  used_part i x (inl (bs, r)) = inl (bs, reach_part i bs (Target x) r)
  used_part i x (inr (bs, r)) = inr (bs, reach_part i bs (Seen x) r)
