use Rattle.std.proofs.Common.{◌+◌, ◌*◌, ◌-◌, drop, map}
use Rattle.std.specs.Prelude.{replicate, take}
use Rattle.sp_where.specs.Shorts.{CoversForm, forms}
use Rattle.sp_where.specs.Values.{field_in, form_in, parts_from}
use Rattle.sp_where.proofs.values.+form.Given as goal

-- what was put, and what the elements from here on come to
abbrev pub invariant-put_elements-elements : goal.invariant-put_elements-elements
invariant-put_elements-elements l =
    CoversForm l.shown l.fn.out l.fn.cells l.out l.left
    (parts_from l.i (replicate (l.count - l.i) (form_in (take l.bound (forms l.shown)) l.element)))
    (parts_from 0 (replicate l.count (form_in (take l.bound (forms l.shown)) l.element)))

-- what was put, and what the fields from here on come to
abbrev pub invariant-put_fields-fields : goal.invariant-put_fields-fields
invariant-put_fields-fields l =
    CoversForm l.shown l.fn.out l.fn.cells l.out l.left
    (parts_from l.i (map (field_in (take l.bound (forms l.shown))) (drop l.i l.fields)))
    (parts_from 0 (map (field_in (take l.bound (forms l.shown))) l.fields))

abbrev pub decreases-put_form : goal.decreases-put_form
decreases-put_form l = 3 * l.kind + 2

abbrev pub decreases-put_before : goal.decreases-put_before
decreases-put_before l = 3 * l.bound

abbrev pub decreases-put_elements : goal.decreases-put_elements
decreases-put_elements l = 3 * l.bound + 1

abbrev pub decreases-put_fields : goal.decreases-put_fields
decreases-put_fields l = 3 * l.bound + 1
