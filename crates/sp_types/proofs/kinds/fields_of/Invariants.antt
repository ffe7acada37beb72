use Rattle.std.proofs.Common.{◌≡◌, ◌++◌, ℕ, List, map, false}
use Rattle.std.specs.Vec.Iter.{into_iter_items}
use Rattle.sp_types.specs.Tables.{type_number}
use Rattle.sp_types.proofs.kinds.fields_of.Given as goal

abbrev pub invariant-loop-f : goal.invariant-loop-f
invariant-loop-f l =
    (goal.iterator-loop-f).can_next l.f-iterator ×
    (goal.iterator-loop-f).is_finite l.f-iterator ×
    (l.walk.is_lost ≡ false → (l.fn.walk.is_lost ≡ false) × (l.walk.first ≡ l.fn.walk.first) ×
    (l.out.items ++ map (λ (f : List ℕ × ℕ). (f.0, type_number l.numbers f.1)) (into_iter_items l.f-iterator)
    ≡ map (λ (f : List ℕ × ℕ). (f.0, type_number l.numbers f.1)) l.fn.fields))
