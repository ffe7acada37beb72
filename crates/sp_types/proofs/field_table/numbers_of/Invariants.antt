use Rattle.std.proofs.Common.{◌≡◌, ◌||◌, ℕ, drop, nat_eq}
use Rattle.std.specs.List.{list_any}
use Rattle.std.specs.Ordering.{nat_cmp, is_eq}
use Rattle.sp_types.proofs.field_table.numbers_of.Given as goal

-- a number is in the set or among those that are left
abbrev pub invariant-loop-k : goal.invariant-loop-k
invariant-loop-k l = (k : ℕ) → list_any (λ j. is_eq (nat_cmp k j)) l.numbers.keys
    || list_any (nat_eq k) (drop l.k-index l.kinds) ≡ list_any (nat_eq k) l.kinds
