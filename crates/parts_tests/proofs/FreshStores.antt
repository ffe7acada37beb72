-- What the tests know of a store that was just made.
use Rattle.std.proofs.Common.{◌≡◌, ◌≢◌, ◌≤◌, ◌<◌, ◌⊎◌, ℕ, zero, suc, Bool, true, false, refl, List, [], ◌∷◌}
use Rattle.std.proofs.Common.{replicate, Option, None, Some, IsSome, sym, ap, subst, ◌∙◌, arith, inl, inr}
use mathlib.Core.Bool.{false≢true}
use Rattle.std.specs.FinMap as map
use Rattle.sp_cell.specs.declared.spot.Spot.{Spot}
use Rattle.sp_cell.specs.declared.spot.Handing.{Handing}
use Rattle.sp_cell.specs.Fork.{moved_of, shared_of, HasIndex}
use Rattle.sp_cell.specs.Frame.{next_frame, root_map, without_spots_of}
use Rattle.sp_cell.proofs.FrameLaws.{above_known, known_pieces, without_here, without_other}
use Rattle.sp_cell.proofs.Laws.{get_here, get_other, same_or, pieces_not_away}
use Rattle.sp_cell.specs.Map.{Map, Content, Output, Away, Plain, spot_cmp}
use Rattle.sp_cell.specs.Spots.{In}
use Rattle.std.proofs.lemmas.Bool.{cases_eq}

-- a spot known after an insert is that one, or was known
known_of : (m : Map) (s : Spot) (h : Content) (q : Spot) → IsSome (map.get (map.insert m s h) q) → (q ≡ s)
    ⊎ IsSome (map.get m q)
known_of m s h q k = elim (same_or q s) [ inl e ↦ inl e | inr d ↦ inr (rw (← get_other m s h q d) k) ]

in_frame : (m : Map) (v : ℕ) (h : Content) → ((q : Spot) → IsSome (map.get m q) → q.frame < 1) → (q : Spot)
    → IsSome (map.get (map.insert m (record { frame = 0; variable = v }) h) q) → q.frame < 1
in_frame m v h f q k = elim (known_of m (record { frame = 0; variable = v }) h q k)
    [ inl e ↦ let z : q.frame ≡ 0 = ap (λ (s : Spot). s.frame) e in omega (arith, z) | inr p ↦ f q p ]

-- a new root gives its first frame a number of at most 1
pub next_root : (p : Plain) (sizes : List ℕ) → p ≡ record { map = root_map sizes; own = []; moved = [] }
    → next_frame p ≤ 1
next_root p sizes e = subst (λ (x : Plain). next_frame x ≤ 1) (sym e)
    (omega (arith, above_known (root_map sizes) 1 known))
  where
    known : (q : Spot) → IsSome (map.get (root_map sizes) q) → q.frame < 1
    known q k = elim (known_pieces _ 0 2 sizes q k) [
      | inl h ↦ in_frame _ 1 (Output []) (in_frame map.empty 0 _
          (λ r n. absurd (false≢true (rw (map.get-empty spot_cmp r) at n)))) q h
      | inr z ↦ omega (arith, z)
    ]

-- ---- nothing is away

none_insert : (m : Map) (s : Spot) (h : Content) → (Some h ≢ Some Away) → ((q : Spot) → map.get m q ≢ Some Away)
    → (q : Spot) → map.get (map.insert m s h) q ≢ Some Away
none_insert m s h n f q e = elim (same_or q s) [
  | inl p ↦ n (sym (get_here m s h) ∙ ap (λ t. map.get (map.insert m s h) t) (sym p) ∙ e)
  | inr d ↦ f q
      (sym (get_other m s h q d) ∙ e)
]

none_here : (o : Option Content) → o ≡ None → o ≢ Some Away
none_here o e f = let z = sym e ∙ f in absurd (false≢true (ap is_some_of z))
  where
    is_some_of : Option Content → Bool
    is_some_of None = false
    is_some_of (Some x) = true

pub none_without : (m : Map) (n : ℕ) → ((q : Spot) → map.get m q ≢ Some Away) → (q : Spot)
    → map.get (without_spots_of m n) q ≢ Some Away
none_without m n f q = elim (cases_eq q.frame n)
    [ inl e ↦ none_here _ (without_here m n q e) | inr d ↦ rw (without_other m n q d) (f q) ]

pub none_root : (p : Plain) (sizes : List ℕ) → p ≡ record { map = root_map sizes; own = []; moved = [] } → (q : Spot)
    → map.get p.map q ≢ Some Away
none_root p sizes e = subst (λ (x : Plain). (q : Spot) → map.get x.map q ≢ Some Away) (sym e)
    (pieces_not_away _ 0 2 sizes (none_insert _ _ (Output []) (λ f. cc)
    (none_insert map.empty _ _ (λ f. cc) (λ q. none_here _ (map.get-empty spot_cmp q)))))

-- ---- many children that share one spot

abbrev pub sharer : Spot → Handing
sharer s = record { moved = []; shared = s ∷ []; index = None }

pub none_moved : (s : Spot) (n : ℕ) → moved_of (replicate n (sharer s)) ≡ []
none_moved s zero = refl
none_moved s (suc n) = none_moved s n

pub all_share : (s : Spot) (n : ℕ) (q : Spot) → In q (shared_of (replicate n (sharer s))) → q ≡ s
all_share s zero q i = absurd i
all_share s (suc n) q (inl e) = e
all_share s (suc n) q (inr i) = all_share s n q i

pub no_index : (s : Spot) (n : ℕ) → HasIndex (replicate n (sharer s)) → ⊥
no_index s zero i = i
no_index s (suc n) (inl e) = false≢true e
no_index s (suc n) (inr i) = no_index s n i
