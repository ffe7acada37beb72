use Rattle.std.proofs.Common.{◌≡◌, ◌++◌, map, false}
use Rattle.std.specs.Vec.Iter.{into_iter_items}
use Rattle.sp_tree.specs.CheckedOf as checked
use Rattle.sp_types.specs.CheckedTree.{numbered_statements}
use Rattle.sp_types.proofs.performs.numbered.Given as goal

abbrev pub invariant-loop-form : goal.invariant-loop-form
invariant-loop-form l =
    (goal.iterator-loop-form).can_next l.form-iterator ×
    (goal.iterator-loop-form).is_finite l.form-iterator ×
    (l.walk.is_lost ≡ false → (l.fn.walk.is_lost ≡ false) × (l.walk.first ≡ l.fn.walk.first) ×
    (map checked.statement_of l.out.items ++ numbered_statements l.n l.at
    (map checked.statement_form_of (into_iter_items l.form-iterator))
    ≡ numbered_statements l.fn.n l.at (map checked.statement_form_of l.fn.forms)))
