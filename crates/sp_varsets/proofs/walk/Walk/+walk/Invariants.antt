use Rattle.std.proofs.Common.{map, drop}
use Rattle.sp_tree.specs.CheckedOf.{statement_of, statements, arm_of, arms}
use Rattle.sp_varsets.specs.declared.uses.Uses.{Uses}
use Rattle.sp_varsets.specs.declared.walk.Walk.{Walk}
use Rattle.sp_varsets.specs.Walks.{WalksStatements, WalksArms}
use Rattle.sp_varsets.proofs.walk.Walk.+walk.Given as goal

abbrev pub invariant-choices-loop-arm : goal.invariant-choices-loop-arm
invariant-choices-loop-arm l = (v : Walk) (z : Uses)
    → WalksArms l.self v l.into z (arms (map arm_of (drop l.arm-index l.choices)))
    → WalksArms l.fn.self v l.fn.into z (arms (map arm_of l.choices))

abbrev pub invariant-statements-loop-s : goal.invariant-statements-loop-s
invariant-statements-loop-s l = (v : Walk) (z : Uses)
    → WalksStatements l.self v l.into z (statements (map statement_of (drop l.s-index l.ss)))
    → WalksStatements l.fn.self v l.fn.into z (statements (map statement_of l.ss))
