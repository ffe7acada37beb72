use Rattle.std.proofs.Common.{◌≡◌, ℕ, ◌<◌, false}
use Rattle.sp_verify_rules.specs.Rules.{call_fits}
use Rattle.sp_verify_shapes.specs.ReachRules.{fails_at}
use Rattle.sp_verify_shapes.specs.Seen.{AreSeen}
use Rattle.sp_verify_shapes.proofs.calls.first_misfit.Given as goal

-- those so far fit, and so does what is kept of them
abbrev pub invariant-loop-p : goal.invariant-loop-p
invariant-loop-p l = ((k : ℕ) → k < l.p → fails_at (call_fits l.code) l.code l.shapes k ≡ false)
    × AreSeen l.code.layouts l.shapes.stacks l.seen
