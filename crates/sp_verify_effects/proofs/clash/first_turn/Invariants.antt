use Rattle.sp_verify_areas.specs.LeastPlaces.{IsLeast, Upto}
use Rattle.sp_verify_effects.specs.Turns.{LayoutTurns}
use Rattle.sp_verify_effects.proofs.clash.first_turn.Given as goal

-- of the layouts so far
abbrev pub invariant-loop-place : goal.invariant-loop-place
invariant-loop-place l = IsLeast (Upto (LayoutTurns l.effects l.flags l.g.code.now.layouts) l.place) l.first
