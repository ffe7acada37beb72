-- A table of fields by name grows with the fields, and a set of numbers with the numbers.
use Rattle.std.proofs.Common.{◌≡◌, refl, ap, sym, ◌∙◌, rules, ℕ, nat_eq, Bool, true, false, cond, ◌||◌}
use Rattle.std.proofs.Common.{if◌then◌else◌, List, ◌∷◌, Option, Some, None}
use Rattle.std.specs.List.{list_any}
use Rattle.std.specs.Option.{option_or, is_some}
use Rattle.std.specs.Str.{bytes_eq}
use Rattle.std.specs.Ordering.{nat_cmp, is_eq}
use Rattle.std.specs.Cmp.Lexicographic.{slice_cmp}
use Rattle.std.proofs.lemmas.Map.Text.{is_eq-slice_cmp}
use Rattle.std.proofs.lemmas.Slice.Eq.{bytes_eq-Decides}
use Rattle.std.proofs.lemmas.Bool.{true≢false}
use Rattle.sp_base.proofs.Facts.{tie_is_equal, same_if_bytes_eq}
use Rattle.sp_types.specs.FieldTable.{Index, field_under, AddsField}

swapped : (name other : List ℕ) → bytes_eq name other ≡ bytes_eq other name
swapped name other = search (rules, bytes_eq-Decides)

-- a field whose name is not there is put there
pub put : (old new : Index) (n : ℕ) (f : List ℕ × ℕ) → is_some (field_under old f.0) ≡ false
    → ((q : List ℕ) → field_under new q ≡ cond (is_eq (slice_cmp nat_cmp f.0 q)) (Some (n, f.1)) (field_under old q))
    → AddsField old new n f
put old new n f h up name =
    up name ∙ ap (λ b. cond b (Some (n, f.1)) (field_under old name)) (is_eq-slice_cmp f.0 name ∙ swapped f.0 name)
    ∙ by (field_under old name) (bytes_eq name f.0) refl refl
  where
    by : (u : Option (ℕ × ℕ)) (b : Bool) → field_under old name ≡ u → bytes_eq name f.0 ≡ b
        → cond b (Some (n, f.1)) u ≡ option_or u (if b then Some (n, f.1) else None)
    by None true e k = refl
    by None false e k = refl
    by (Some x) false e k = refl
    by (Some x) true e k = absurd (true≢false
        (sym (ap is_some e) ∙ ap (λ x. is_some (field_under old x)) (same_if_bytes_eq name f.0 k) ∙ h))

abbrev pub has : List ℕ → ℕ → Bool
has numbers k = list_any (λ j. is_eq (nat_cmp k j)) numbers

or_test : (a b c : Bool) → cond a true b || c ≡ b || (a || c)
or_test true true c = refl
or_test true false c = refl
or_test false b c = refl

-- a number that is put in the set is no longer ahead
pub counted : (old new : List ℕ) (j : ℕ) (rest : List ℕ)
    → ((k : ℕ) → has new k ≡ cond (is_eq (nat_cmp j k)) true (has old k)) → (k : ℕ)
    → has new k || list_any (nat_eq k) rest ≡ has old k || list_any (nat_eq k) (j ∷ rest)
counted old new j rest h k =
    ap (λ b. b || list_any (nat_eq k) rest) (h k ∙ ap (λ b. cond b true (has old k)) (tie_is_equal j k))
    ∙ or_test (nat_eq k j) (has old k) (list_any (nat_eq k) rest)
