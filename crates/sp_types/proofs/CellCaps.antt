-- What is lost where cells are counted up to just above the limit is never asked for.
use Rattle.std.proofs.Common.{◌≡◌, refl, ap, sym as back_of, ◌∙◌, ℕ, zero, suc, ◌+◌, ◌*◌, ◌≤◌, List, [], ◌∷◌, ◌++◌, map}
use Rattle.std.proofs.Common.{Option, Some, None, inl, inr, arith}
use Rattle.std.specs.Prelude.{option_map, min, sum, slice_get, nat_lt, nat_eq, if◌then◌else◌, Bool, true, false}
use Rattle.std.proofs.Math.Nat.{mul-le-mul_right, mul_comm, le_of_lt}
use Rattle.std.proofs.lemmas.Option.{slice_get-map}
use Rattle.std.proofs.lemmas.List.{map-append}
use Rattle.std.proofs.lemmas.Bool.Decides.{leb_tells, nat_tests}
use Rattle.sp_base.specs.declared.place.Place.{Place}
use Rattle.sp_tree.specs.declared.checked.KindOf.{KindOf}
use Rattle.sp_tree.specs.declared.checked.KindOf.TheVariants as kind
use Rattle.sp_tree.specs.declared.checked.Role.{Role}
use Rattle.sp_tree.specs.declared.checked.Role.TheVariants as role
use Rattle.sp_tree.specs.declared.checked.Variable as checked
use Rattle.sp_base.specs.declared.rule.Rule.TheVariants as rule
use Rattle.sp_base.proofs.Facts.{sum_on, sum_capped}
use Rattle.sp_tree.specs.PhaseResults.{FirstRefusal, earlier_refusal, refusal_if}
use Rattle.sp_tree.specs.Cells.{count, first_or, size_by, cells_by, table, sizes}
use Rattle.sp_types.specs.Tables.{type_number}
use Rattle.sp_types.specs.TypeRules.{most_cells, cells_rule, frame_cells, frame_rule}
use Rattle.sp_types.specs.CellCaps.{capped_count, capped_by, capped_sizes}
use Rattle.sp_types.specs.DeclarationFirsts.{cells_first}

-- a product of a count up to m
low : (m n s : ℕ) → n ≤ m → min (min n m * s) m ≡ min (n * s) m
low m n s h = let e : min n m ≡ n = omega arith in rw e refl

high : (m n s : ℕ) → m ≤ n → min (min n m * s) m ≡ min (n * s) m
high m n zero h = omega arith
high m n (suc s) h =
    let e : min n m ≡ m = omega arith in
    let a : m * suc s ≤ n * suc s = mul-le-mul_right (suc s) h in
    rw e (omega (arith, a))

pub product_capped : (m n s : ℕ) → min (min n m * s) m ≡ min (n * s) m
product_capped m n s = elim (leb_tells n m) as (λ _. min (min n m * s) m ≡ min (n * s) m)
    [ inl x ↦ low m n s x.1 | inr x ↦ high m n s (le_of_lt x.1) ]

pub counted : (n s : ℕ) → capped_count (capped_count n * s) ≡ capped_count (n * s)
counted n s = product_capped (most_cells + 1) n s

counted_right : (n s : ℕ) → capped_count (n * capped_count s) ≡ capped_count (n * s)
counted_right n s = ap capped_count (mul_comm n (capped_count s)) ∙ counted s n ∙ ap capped_count (mul_comm s n)

pub summed : (a x s : ℕ) → capped_count (capped_count (a + x) + s) ≡ capped_count (a + (x + s))
summed a x s = sum_capped (most_cells + 1) a x s

added_by : (m a b c d : ℕ) → min a m ≡ min c m → min b m ≡ min d m → min (a + b) m ≡ min (c + d) m
added_by m a b c d e f = omega arith

added : (a b c d : ℕ) → capped_count a ≡ capped_count c → capped_count b ≡ capped_count d
    → capped_count (a + b) ≡ capped_count (c + d)
added a b c d e f = added_by (most_cells + 1) a b c d e f

twice_by : (m a : ℕ) → min (min a m) m ≡ min a m
twice_by m a = omega arith

twice : (a : ℕ) → capped_count (capped_count a) ≡ capped_count a
twice a = twice_by (most_cells + 1) a

-- a type's cells by those of the types before it
first_capped : (o : Option ℕ) → capped_count (first_or 0 (option_map capped_count o)) ≡ capped_count (first_or 0 o)
first_capped None = refl
first_capped (Some n) = twice n

at_capped : (known : List ℕ) (k : ℕ) → capped_count (first_or 0 (slice_get (map capped_count known) k))
    ≡ capped_count (first_or 0 (slice_get known k))
at_capped known k = ap (λ (o : Option ℕ). capped_count (first_or 0 o)) (slice_get-map capped_count known k)
    ∙ first_capped (slice_get known k)

abbrev field_cells : List ℕ → List ℕ × ℕ → ℕ
field_cells known f = first_or 0 (slice_get known f.1)

fields_capped : (known : List ℕ) (fs : List (List ℕ × ℕ))
    → capped_count (sum (map (field_cells (map capped_count known)) fs))
    ≡ capped_count (sum (map (field_cells known) fs))
fields_capped known [] = refl
fields_capped known (f ∷ fs) =
    ap capped_count (sum_on (field_cells (map capped_count known)) f fs) ∙
    added _ _ _ _ (at_capped known f.1) (fields_capped known fs) ∙
    back_of (ap capped_count (sum_on (field_cells known) f fs))

array_capped : (known : List ℕ) (n e : ℕ) → capped_count (n * first_or 0 (slice_get (map capped_count known) e))
    ≡ capped_count (n * first_or 0 (slice_get known e))
array_capped known n e =
    back_of (counted_right n (first_or 0 (slice_get (map capped_count known) e)))
    ∙ ap (λ (s : ℕ). capped_count (n * s)) (at_capped known e) ∙ counted_right n (first_or 0 (slice_get known e))

size_capped : (known : List ℕ) (k : KindOf) → capped_by (map capped_count known) k ≡ capped_count (size_by known k)
size_capped known (kind.Array low high index element) = array_capped known (count low high) element
size_capped known (kind.Fields fs) = fields_capped known fs
size_capped _ _ = refl

one_more : (known : List ℕ) (n : ℕ) → map capped_count known ++ capped_count n ∷ [] ≡ map capped_count (known ++ n ∷ [])
one_more known n = back_of (map-append capped_count known (n ∷ []))

table_capped : (known : List ℕ) (kinds : List KindOf)
    → table capped_by (map capped_count known) kinds ≡ map capped_count (table size_by known kinds)
table_capped known [] = refl
table_capped known (k ∷ ks) =
    ap (λ (c : ℕ). table capped_by (map capped_count known ++ c ∷ []) ks) (size_capped known k) ∙
    ap (λ (m : List ℕ). table capped_by m ks) (one_more known (size_by known k)) ∙
    table_capped (known ++ size_by known k ∷ []) ks

-- the table of counts up to just above the limit has those of the true table
pub sizes_capped : (kinds : List KindOf) → capped_sizes kinds ≡ map capped_count (sizes kinds)
sizes_capped kinds = table_capped [] kinds

-- whether a count is above the limit
above : (m n : ℕ) → nat_lt m (min n (m + 1)) ≡ nat_lt m n
above m n = grind (arith, nat_tests)

cells_rule_same : (at : Place) (n : ℕ) → cells_rule at (capped_count n) ≡ cells_rule at n
cells_rule_same at n = ap (λ (b : Bool). refusal_if rule.L3 at b) (above most_cells n)

pub frame_rule_same : (at : Place) (n : ℕ) → frame_rule at (capped_count n) ≡ frame_rule at n
frame_rule_same at n = ap (λ (b : Bool). refusal_if rule.L6 at b) (above most_cells n)

pub cells_same : (places : List Place) (cells : List ℕ) (given : FirstRefusal)
    → cells_first places (map capped_count cells) given ≡ cells_first places cells given
cells_same [] cells given = refl
cells_same (at ∷ places) [] given = refl
cells_same (at ∷ places) (n ∷ cells) given =
    ap (λ (r : FirstRefusal). cells_first places (map capped_count cells) (earlier_refusal given r))
    (cells_rule_same at n)
    ∙ cells_same places cells (earlier_refusal given (cells_rule at n))

-- the cells of one variable
variable_capped : (cells : List ℕ) (r : Role) (k : ℕ)
    → capped_count (cells_by (map capped_count cells) r k) ≡ capped_count (cells_by cells r k)
variable_capped cells role.Console k = refl
variable_capped cells role.Local k = at_capped cells k
variable_capped cells role.Value k = at_capped cells k
variable_capped cells role.Reference k = refl
variable_capped cells role.Index k = refl
variable_capped cells role.Answer k = at_capped cells k

chosen_capped : (b : Bool) (x y : ℕ) → capped_count x ≡ capped_count y → capped_count (if b then x else 0)
    ≡ capped_count (if b then y else 0)
chosen_capped true x y e = e
chosen_capped false x y e = refl

frame_capped : (numbers cells : List ℕ) (b : ℕ) (xs : List checked.Variable)
    → capped_count (frame_cells numbers (map capped_count cells) b xs) ≡ capped_count (frame_cells numbers cells b xs)
frame_capped numbers cells b [] = refl
frame_capped numbers cells b (x ∷ xs) =
    added _ _ _ _ (chosen_capped (nat_eq x.block b) _ _ (variable_capped cells x.role (type_number numbers x.kind)))
    (frame_capped numbers cells b xs)

pub frame_same : (at : Place) (numbers cells : List ℕ) (b : ℕ) (xs : List checked.Variable)
    → frame_rule at (frame_cells numbers (map capped_count cells) b xs) ≡ frame_rule at (frame_cells numbers cells b xs)
frame_same at numbers cells b xs =
    back_of (frame_rule_same at (frame_cells numbers (map capped_count cells) b xs))
    ∙ ap (frame_rule at) (frame_capped numbers cells b xs) ∙ frame_rule_same at (frame_cells numbers cells b xs)
