use Rattle.std.proofs.Common.{◌≡◌, drop}
use Rattle.sp_code.specs.Scopes.{index_among}
use Rattle.sp_generate.proofs.frames.index_among.Given as goal

abbrev pub invariant-loop-y : goal.invariant-loop-y
invariant-loop-y l = index_among l.x l.n (drop l.y-index l.ys) ≡ index_among l.x l.fn.n l.ys
