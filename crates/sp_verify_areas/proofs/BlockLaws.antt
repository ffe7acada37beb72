-- What a table of layouts finds is the layout of the block.
use Rattle.std.proofs.Common.{◌≡◌, ◌∙◌, ap, refl, ℕ, zero, suc, ◌+◌, ◌==◌, Bool, true, false, if◌then◌else◌, List, []}
use Rattle.std.proofs.Common.{◌∷◌, Some, None, arith}
use Rattle.std.specs.Prelude.{slice_get}
use Rattle.std.specs.Option.{is_some}
use Rattle.std.proofs.lemmas.Option.{same_Some}
use Rattle.sp_code.specs.declared.code.Layout.{Layout}
use Rattle.sp_code.specs.Machine.{layout_of}
use Rattle.sp_verify_areas.specs.Blocks.{number_from}
use Rattle.sp_verify_rules.specs.NameRules as named

-- a block has a place where it has a layout
pub has_layout : (n : ℕ) (ls : List Layout) (b : ℕ) → is_some (number_from n ls b) ≡ named.is_some (layout_of ls b)
has_layout n [] b = refl
has_layout n (l ∷ ls) b = go (l.block == b) (has_layout (n + 1) ls b)
  where
    go : (t : Bool) → is_some (number_from (n + 1) ls b) ≡ named.is_some (layout_of ls b)
        → is_some (if t then Some n else number_from (n + 1) ls b) ≡ named.is_some
        (if t then Some l else layout_of ls b)
    go true e = refl
    go false e = e

pub place_none : (n : ℕ) (ls : List Layout) (b : ℕ) → number_from n ls b ≡ None → layout_of ls b ≡ None
place_none n [] b e = refl
place_none n (l ∷ ls) b e = go (l.block == b) e (place_none (n + 1) ls b)
  where
    go : (t : Bool) → (if t then Some n else number_from (n + 1) ls b) ≡ None
        → (number_from (n + 1) ls b ≡ None → layout_of ls b ≡ None) → (if t then Some l else layout_of ls b) ≡ None
    go true e on = absurd (cc e)
    go false e on = on e

-- where it has one, that is where its layout stands
place_from : (n : ℕ) (ls : List Layout) (b k : ℕ) → number_from n ls b ≡ Some k → (j : ℕ) × (k ≡ n + j)
    × (slice_get ls j ≡ layout_of ls b)
place_from n [] b k e = absurd (cc e)
place_from n (l ∷ ls) b k e = go (l.block == b) e (place_from (n + 1) ls b k)
  where
    start : n ≡ k → k ≡ n + 0
    start e = omega (arith, e)

    later : (j : ℕ) → k ≡ n + 1 + j → k ≡ n + suc j
    later j e = omega (arith, e)

    go : (t : Bool) → (if t then Some n else number_from (n + 1) ls b) ≡ Some k
        → (number_from (n + 1) ls b ≡ Some k → (j : ℕ) × (k ≡ n + 1 + j) × (slice_get ls j ≡ layout_of ls b))
        → (j : ℕ) × (k ≡ n + j) × (slice_get (l ∷ ls) j ≡ (if t then Some l else layout_of ls b))
    go true e on = (zero, start (same_Some n k e), refl)
    go false e on = let r = on e in (suc r.0, later r.0 r.1, r.2)

pub place_some : (ls : List Layout) (b k : ℕ) → number_from 0 ls b ≡ Some k → slice_get ls k ≡ layout_of ls b
place_some ls b k e = let r = place_from 0 ls b k e in let s : k ≡ r.0 = (let z = r.1 in omega (arith, z)) in ap
    (slice_get ls) s ∙ r.2
