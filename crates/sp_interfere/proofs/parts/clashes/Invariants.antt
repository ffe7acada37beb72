use Rattle.std.proofs.Common.{◌≡◌, map, drop}
use Rattle.std.specs.List.{list_any}
use Rattle.sp_tree.specs.CheckedOf.{statements, statement_of}
use Rattle.sp_interfere.specs.Tests.{clash}
use Rattle.sp_interfere.specs.Rules.{numbers_of}
use Rattle.sp_interfere.proofs.parts.clashes.Given as goal

abbrev pub invariant-loop-t : goal.invariant-loop-t
invariant-loop-t l = list_any (λ m. clash l.s m l.n)
    (numbers_of (statements (map statement_of (drop l.t-index l.earlier))))
    ≡ list_any (λ m. clash l.s m l.n) (numbers_of (statements (map statement_of l.earlier)))
