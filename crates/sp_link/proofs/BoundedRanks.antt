-- Ranks that are bounded: where no rank passes a bound, longer ways have no other ranks.
use Rattle.std.proofs.Common.{◌≡◌, ⊎_elim, ℕ, zero, suc, ◌<◌, ◌≤◌, List, [], ◌∷◌, length, Bool, true, false}
use Rattle.std.proofs.Common.{if◌then◌else◌, refl, ap, ◌∙◌, arith}
use Rattle.std.specs.Prelude.{slice_get, nat_lt}
use Rattle.std.proofs.lemmas.Bool.{cases_lt}
use Rattle.sp_code.specs.declared.instr.Instr.{Instr}
use Rattle.sp_code.specs.Ranks.{ways, larger_of, maximum_of, rank, AllBelow, IsRanked}
use Rattle.sp_code.proofs.Falls.{larger_max}

larger_left : (a b : ℕ) → a ≤ larger_of a b
larger_left a b = go (nat_lt a b) refl
  where
    less : nat_lt a b ≡ true → a ≤ b
    less e = Prim.grind (arith, e)

    go : (t : Bool) → nat_lt a b ≡ t → a ≤ (if t then b else a)
    go true e = less e
    go false e = omega arith

larger_right : (a b : ℕ) → b ≤ larger_of a b
larger_right a b = go (nat_lt a b) refl
  where
    less : nat_lt a b ≡ false → b ≤ a
    less e = Prim.grind (arith, e)

    go : (t : Bool) → nat_lt a b ≡ t → b ≤ (if t then b else a)
    go true e = omega arith
    go false e = less e

-- f is at most b at each of these
abbrev pub AllMost : (ℕ → ℕ) → ℕ → List ℕ → Type 0
AllMost f b [] = Unit {0}
AllMost f b (p ∷ ps) = (f p ≤ b) × AllMost f b ps

pub most_max : (f : ℕ → ℕ) (b : ℕ) (ps : List ℕ) → AllMost f b ps → maximum_of f ps ≤ b
most_max f b [] h = omega arith
most_max f b (p ∷ ps) h = larger_max (f p) (maximum_of f ps) b h.0 (most_max f b ps h.1)

-- f and g agree where f stays below a bound
most_same : (f g : ℕ → ℕ) (b : ℕ) → ((p : ℕ) → f p < b → g p ≡ f p) → (ps : List ℕ) → maximum_of f ps < b
    → maximum_of g ps ≡ maximum_of f ps
most_same f g b h [] l = refl
most_same f g b h (p ∷ ps) l =
    let x = larger_left (f p) (maximum_of f ps) in
    let y = larger_right (f p) (maximum_of f ps) in
    ap (λ z. larger_of z (maximum_of g ps)) (h p (omega (arith, x, l)))
    ∙ ap (λ z. larger_of (f p) z) (most_same f g b h ps (omega (arith, y, l)))

-- a rank that is below its bound does not change with it
rank_stays : (all : List Instr) (n p : ℕ) → rank n all p < n → rank (suc n) all p ≡ rank n all p
unfolding rank
rank_stays all zero p l = absurd (omega (arith, l))
rank_stays all (suc n) p l = ap suc (most_same (rank n all) (rank (suc n) all) n (λ q k. rank_stays all n q k)
    (ways p (slice_get all p)) (omega (arith, l)))

below_most : (f g : ℕ → ℕ) (m : ℕ) (ps : List ℕ) → ((q : ℕ) → f q ≤ g q) → maximum_of g ps ≤ m → AllBelow f (suc m) ps
below_most f g m [] h l = tt
below_most f g m (p ∷ ps) h l =
    let x = larger_left (g p) (maximum_of g ps) in
    let y = larger_right (g p) (maximum_of g ps) in
    let z = h p in
    (omega (arith, x, z, l), below_most f g m ps h (omega (arith, y, l)))

-- where no rank passes the length of the code, the code is ranked
pub bounded_ranked : (all : List Instr) → ((n p : ℕ) → rank n all p ≤ length all) → IsRanked all
unfolding rank IsRanked
bounded_ranked all h p = below_most (rank (suc (length all)) all) (rank (length all) all)
    (maximum_of (rank (length all) all) (ways p (slice_get all p))) (ways p (slice_get all p)) no_more (omega arith)
  where
    no_more : (q : ℕ) → rank (suc (length all)) all q ≤ rank (length all) all q
    no_more q = ⊎_elim
        (λ (l : rank (length all) all q < length all). (let e = rank_stays all (length all) q l in omega (arith, e)))
        (λ (l : length all ≤ rank (length all) all q). (let e = h (suc (length all)) q in omega (arith, e, l)))
        (cases_lt (rank (length all) all q) (length all))
