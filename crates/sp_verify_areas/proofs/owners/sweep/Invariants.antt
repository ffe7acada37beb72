use Rattle.std.proofs.Common.{length}
use Rattle.sp_verify_areas.specs.Owners.{AreBegun, EachFirst, IsSpread, IsSpreadBy, Propagates}
use Rattle.sp_verify_areas.proofs.owners.sweep.Given as goal

-- the blocks, and the instructions so far, have handed on theirs
abbrev pub invariant-loop-p : goal.invariant-loop-p
invariant-loop-p l = Propagates l.code l.fn.owners l.owners
    (λ os. AreBegun l.code (length l.code.layouts) os × EachFirst (IsSpread l.code) l.p os) l.changed

-- and the tables so far
abbrev pub invariant-loop-t : goal.invariant-loop-t
invariant-loop-t l = Propagates l.code l.fn.owners l.owners
    (λ os. (AreBegun l.code (length l.code.layouts) os × EachFirst (IsSpread l.code) (length l.code.instrs) os)
    × EachFirst (IsSpreadBy l.code) l.t os) l.changed
