-- In which order a fork takes spots makes no difference.
use Rattle.std.proofs.Common.{◌≡◌, ◌∙◌, sym, subst, ℕ, suc, ◌<◌, List, [], ◌∷◌, length, get_or, arith, inl, inr}
use Rattle.std.proofs.Common.{◌++◌}
use Rattle.std.specs.List.Sorted.{IsPermutation}
use Rattle.std.proofs.lemmas.List.Elements.{Contains-from_at, at_from_Contains, Contains-get_or}
use Rattle.std.proofs.lemmas.List.Sorted.{Contains-permutation, IsPermutation-sym}
use Rattle.std.specs.FinMap as map
use Rattle.sp_cell.specs.declared.spot.Spot.{Spot}
use Rattle.sp_cell.specs.declared.spot.Handing.{Handing}
use Rattle.sp_cell.specs.Map.{Map, IsPiece}
use Rattle.sp_cell.specs.Fork.{with_shared, with_away, shared_of}
use Rattle.sp_cell.specs.Spots.{In, NotIn, PieceAtEach}
use Rattle.sp_cell.proofs.Laws.{same_map}
use Rattle.sp_cell.proofs.Plan.{in_or, in_of_at, not_both, get_away_in, get_away_out, get_lent_in, get_lent_out}
use Rattle.sp_cell.proofs.Plan.{in_either, at_each, each_shared}

at_in : (q : Spot) (ss : List Spot) → In q ss → (k : ℕ) × (k < length ss) × ((d : Spot) → get_or ss k d ≡ q)
at_in q [] i = absurd i
at_in q (s ∷ ss) (inl e) = (0, omega arith, λ d. sym e)
at_in q (s ∷ ss) (inr i) = let r = at_in q ss i in let b = r.1 in (suc r.0, omega (arith, b), r.2)

in_permuted : (xs ys : List Spot) (q : Spot) → IsPermutation xs ys → In q xs → In q ys
in_permuted xs ys q p i = in_of_at q ys
    (at_from_Contains ys q (Contains-permutation xs ys q p (Contains-from_at xs q (at_in q xs i))))

out_permuted : (xs ys : List Spot) (q : Spot) → IsPermutation xs ys → NotIn q xs → NotIn q ys
out_permuted xs ys q p o = elim (in_or q ys) [
  | inl i ↦ absurd (not_both q xs (in_permuted ys xs q (IsPermutation-sym xs ys p) i) o)
  | inr n ↦ n
]

pub away_permuted : (m : Map) (xs ys : List Spot) → IsPermutation xs ys → with_away m ys ≡ with_away m xs
away_permuted m xs ys p = same_map (with_away m ys) (with_away m xs) (λ q. elim (in_or q xs) [
  | inl i ↦ get_away_in m ys q (in_permuted xs ys q p i) ∙ sym (get_away_in m xs q i)
  | inr o ↦ get_away_out m ys q (out_permuted xs ys q p o) ∙ sym (get_away_out m xs q o)
])

pub lent_permuted : (m : Map) (xs ys : List Spot) (c : Map) → IsPermutation xs ys
    → with_shared m ys c ≡ with_shared m xs c
lent_permuted m xs ys c p = same_map (with_shared m ys c) (with_shared m xs c) (λ q. elim (in_or q xs) [
  | inl i ↦ get_lent_in m ys c q (in_permuted xs ys q p i) ∙ sym (get_lent_in m xs c q i)
  | inr o ↦ get_lent_out m ys c q (out_permuted xs ys q p o) ∙ sym (get_lent_out m xs c q o)
])

pub pieces_permuted : (m : Map) (xs ys : List Spot) → IsPermutation xs ys → PieceAtEach m xs → PieceAtEach m ys
pieces_permuted m xs ys p h k d b =
    let s : Spot = get_or ys k d in
    let r = at_from_Contains xs s
    (Contains-permutation ys xs s (IsPermutation-sym xs ys p) (Contains-get_or ys k d b)) in
    subst (λ (t : Spot). IsPiece (map.get m t)) (r.2 s) (h r.0 s r.1)

-- ---- spots of a whole plan

-- spots of the plan and those that one more child shares are spots of the plan
pub more_of_plan : (hs : List Handing) (i : ℕ) (h : Handing) → i < length hs → h ≡ get_or hs i h → (ss : List Spot)
    → ((q : Spot) → In q ss → In q (shared_of hs)) → (q : Spot) → In q (ss ++ h.shared) → In q (shared_of hs)
more_of_plan hs i h b is ss before q at = elim (in_either q ss h.shared at) [
  | inl j ↦ before q j
  | inr j ↦ at_each (λ s. In s (shared_of hs)) h.shared (each_shared (λ s. In s (shared_of hs)) hs i h b is (λ s k. k))
      q j
]

pub permuted_of_plan : (hs : List Handing) (xs ys : List Spot) → IsPermutation xs ys
    → ((q : Spot) → In q xs → In q (shared_of hs)) → (q : Spot) → In q ys → In q (shared_of hs)
permuted_of_plan hs xs ys p before q i = before q (in_permuted ys xs q (IsPermutation-sym xs ys p) i)
