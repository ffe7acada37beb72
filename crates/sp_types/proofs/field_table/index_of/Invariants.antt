use Rattle.std.proofs.Common.{◌≡◌, ℕ, List, drop}
use Rattle.std.specs.Option.{option_or}
use Rattle.sp_types.specs.FieldTable.{field_under, field_from}
use Rattle.sp_types.proofs.field_table.index_of.Given as goal

-- a name that is not in the table is looked for among the fields that are left
abbrev pub invariant-loop-f : goal.invariant-loop-f
invariant-loop-f l = (l.n ≡ l.f-index) × ((name : List ℕ)
    → option_or (field_under l.index name) (field_from l.n name (drop l.f-index l.fields)) ≡ field_from 0 name l.fields)
