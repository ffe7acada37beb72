-- All of this belongs to what the program promises (docs/promise.txt).
-- The order of broken rules: by place, and at one place by the row of the rule table. The first of all that are
-- broken. The definition of the program's refusal cites it, and each phase's answer is a first one in this order.
use Rattle.std.specs.Prelude.{◌≡◌, ℕ, suc, List, [], ◌∷◌, Bool, false, if◌then◌else◌, codes}
use Rattle.std.specs.Str.{bytes_eq}
use Rattle.std.specs.Ordering.{nat_cmp, on, then_cmp, is_lt}
use Rattle.std.specs.declared.cmp.Ordering.{Ordering}
use Rattle.sp_base.specs.declared.place.Place.{Place}
use Rattle.sp_base.specs.declared.halt.Refusal.{Refusal}
use Rattle.sp_base.specs.declared.rule.Rule.{Rule}
use Rattle.sp_base.specs.Rules.{rule_name}

-- the names of the rules in the order of the rule table
abbrev pub rule_table : List (List ℕ)
rule_table =
    codes "L1" ∷ codes "S1" ∷ codes "S2" ∷ codes "S3" ∷ codes "S4" ∷ codes "S5" ∷ codes "U1" ∷ codes "U2" ∷
    codes "G1" ∷ codes "L2" ∷ codes "G2" ∷ codes "N1" ∷ codes "N2" ∷ codes "N3" ∷ codes "N4" ∷ codes "N5" ∷
    codes "N6" ∷ codes "N7" ∷ codes "N8" ∷ codes "L4" ∷ codes "Y1" ∷ codes "Y2" ∷ codes "Y3" ∷ codes "Y4" ∷
    codes "Y5" ∷ codes "Y6" ∷ codes "Y7" ∷ codes "Y8" ∷ codes "Y9" ∷ codes "Y10" ∷ codes "Y11" ∷ codes "Y12" ∷
    codes "Y13" ∷ codes "Y14" ∷ codes "L3" ∷ codes "L6" ∷ codes "I1" ∷ codes "I2" ∷ codes "I3" ∷ codes "I4" ∷
    codes "I5" ∷ codes "I6" ∷ codes "I7" ∷ codes "I8" ∷ codes "I9" ∷ codes "L5" ∷ []

-- how many of these names stand before one
abbrev pub names_before : List (List ℕ) → List ℕ → ℕ
names_before [] name = 0
names_before (n ∷ ns) name = if bytes_eq n name then 0 else suc (names_before ns name)

-- the row of the rule table
abbrev pub row : Rule → ℕ
row r = names_before rule_table (rule_name r)

-- by place, and then by row
abbrev pub refusal_cmp : Refusal → Refusal → Ordering
refusal_cmp = then_cmp (on (λ r. r.at.line) nat_cmp)
    (then_cmp (on (λ r. r.at.column) nat_cmp) (on (λ r. row r.rule) nat_cmp))

-- the first comes before the second
abbrev pub refusal_before : Refusal → Refusal → Bool
refusal_before a b = is_lt (refusal_cmp a b)

-- Of the rules that Breaks says are broken, with their places, this is the first.
pub record IsFirst (Breaks : Rule → Place → Type 0) (r : Refusal) : Type 0 where
  pub breaks : Breaks r.rule r.at
  pub first : (other : Refusal) → Breaks other.rule other.at → refusal_before other r ≡ false
