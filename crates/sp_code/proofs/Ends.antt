-- A turn along which the ranks fall ends.
use Rattle.std.proofs.Common.{◌≡◌, suc, refl}
use Rattle.sp_code.specs.Machine.{Config}
use Rattle.sp_code.specs.Turns.{Turn, TurnProgress, Ended, Lacks, GoesOn, IsTurn, IsSafe, turn_within}
use Rattle.sp_code.specs.Memory.{CodeRun, Stores, Memory, memory}
use Rattle.sp_code.specs.Ranks.{IsRankedAlong}
use Rattle.sp_code.specs.Budgets.{IsOver, ticks_left, most_steps}
use Rattle.sp_code.proofs.OneTurn.{within_ended, within_lacks}
use Rattle.sp_code.proofs.Falls.{turn_over}
use Rattle.sp_code.proofs.TickCounts.{spends}

module _ {S : Type 0} (stores : Stores S) (g : CodeRun) where
  pub ranked_over : (c : Config (Memory S)) → IsRankedAlong (memory stores g) g.code c
      → IsOver (turn_within (memory stores g) g.code (suc (most_steps g c)) c)
  ranked_over c ranked = turn_over (memory stores g) g.code (ticks_left g) (spends stores g) c ranked

  pub safe_turn : (c : Config (Memory S)) → IsRankedAlong (memory stores g) g.code c → IsSafe (memory stores g) g.code c
      → (t : Turn (Memory S)) × IsTurn (memory stores g) g.code c t
  safe_turn c ranked safe = go (turn_within (memory stores g) g.code (suc (most_steps g c)) c) refl
      (ranked_over c ranked)
    where
      go : (r : TurnProgress (Memory S)) → turn_within (memory stores g) g.code (suc (most_steps g c)) c ≡ r → IsOver r
          → (t : Turn (Memory S)) × IsTurn (memory stores g) g.code c t
      go (Ended t) e o = (t, within_ended (memory stores g) g.code (suc (most_steps g c)) c t e)
      go (Lacks d) e o = let h = within_lacks (memory stores g) g.code (suc (most_steps g c)) c d e in
          absurd (safe h.0 d h.1 h.2)
      go (GoesOn d) e o = absurd o
