use Rattle.std.proofs.Common.{◌≡◌, ◌++◌, length, map, drop}
use Rattle.sp_tree.specs.CheckedOf.{statements, statement_of, arms, arm_of}
use Rattle.sp_tree.specs.Bare.{bare_arms}
use Rattle.sp_base.specs.Adds.{Keeps}
use Rattle.sp_generate.specs.Views.{plain_program}
use Rattle.sp_generate.specs.CodeBuffers.{starts_of, ends_of}
use Rattle.sp_generate.specs.BuffersAfter.{with_all, with_children, with_arms, children_of}
use Rattle.sp_generate.proofs.statements.+statement.Given as goal

abbrev pub invariant-put_sequence-loop-s : goal.invariant-put_sequence-loop-s
invariant-put_sequence-loop-s l = Keeps l.fn.d.instrs l.d.instrs
    (with_all l.context l.d (statements (map statement_of (drop l.s-index l.ss)))
    ≡ with_all l.context l.fn.d (statements (map statement_of l.ss)))

abbrev pub invariant-put_children-loop-s : goal.invariant-put_children-loop-s
invariant-put_children-loop-s l = Keeps l.fn.d.instrs l.d.instrs
    ((with_children l.context l.d (statements (map statement_of (drop l.s-index l.ss)))
    ≡ with_children l.context l.fn.d (statements (map statement_of l.ss))) ×
    (l.lines ++ children_of l.context (length l.d.instrs.items.items)
    (statements (map statement_of (drop l.s-index l.ss)))
    ≡ children_of l.context (length l.fn.d.instrs.items.items) (statements (map statement_of l.ss))))

abbrev pub invariant-put_arms-loop-a : goal.invariant-put_arms-loop-a
invariant-put_arms-loop-a l = Keeps l.fn.d.instrs l.d.instrs
    ((with_arms l.context l.d (arms (map arm_of (drop l.a-index l.xs))) 0
    ≡ with_arms l.context l.fn.d (arms (map arm_of l.xs)) 0) ×
    (l.starts ++ starts_of (plain_program l.context.program.now) (length l.d.instrs.items.items)
    (bare_arms (arms (map arm_of (drop l.a-index l.xs))))
    ≡ starts_of (plain_program l.context.program.now) (length l.fn.d.instrs.items.items)
    (bare_arms (arms (map arm_of l.xs)))) ×
    (l.ends ++ ends_of (plain_program l.context.program.now) (length l.d.instrs.items.items)
    (bare_arms (arms (map arm_of (drop l.a-index l.xs))))
    ≡ ends_of (plain_program l.context.program.now) (length l.fn.d.instrs.items.items)
    (bare_arms (arms (map arm_of l.xs)))))
