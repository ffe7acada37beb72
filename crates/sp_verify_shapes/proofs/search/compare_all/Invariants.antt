use Rattle.std.proofs.Common.{◌≡◌, ◌+◌, length}
use Rattle.sp_code.specs.declared.code.Parts.{Parts}
use Rattle.sp_verify_shapes.specs.Search.{AreCompared, KeepsV1, room}
use Rattle.sp_verify_shapes.proofs.search.compare_all.Given as goal

-- what is kept stays true, and each instruction that is new waits
abbrev pub invariant-arrivals : goal.invariant-arrivals
invariant-arrivals l = record {
  keeps : (c : Parts) → KeepsV1 c → AreCompared c l.fn.search → AreCompared c l.search;
  room : room l.search + length l.search.frontier ≡ room l.fn.search + length l.fn.search.frontier;
}

abbrev pub decreases-arrivals : goal.decreases-arrivals
decreases-arrivals l = length l.search.arrivals
