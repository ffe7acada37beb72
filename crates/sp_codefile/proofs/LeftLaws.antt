-- Reading a row of items off a text: what has been read, and that the rest is the text of the others.
use Rattle.std.proofs.Common.{◌≡◌, ◌≢◌, ℕ, List, [], ◌∷◌, ◌++◌, refl, sym, ap, ◌∙◌, append_assoc, append-nil, All}
use Rattle.std.specs.List.{flat_map}
use Rattle.std.proofs.lemmas.List.Elements.{All-head, All-tail}

-- where the whole is the text of items, those read are the first of them, and the rest is the text of the others
abbrev pub LeavesRest : {X : Type 0} → (X → List ℕ) → (X → Type 0) → List ℕ → List X → List ℕ → Type 0
LeavesRest {X} text Fits whole done rest = (xs : List X) → All Fits xs → whole ≡ flat_map text xs → (more : List X)
    × (xs ≡ done ++ more) × (rest ≡ flat_map text more) × All Fits more

pub left_start : {X : Type 0} (text : X → List ℕ) (Fits : X → Type 0) (whole : List ℕ)
    → LeavesRest text Fits whole [] whole
left_start text Fits whole xs a e = (xs, refl, e, a)

pub left_next : {X : Type 0} (text : X → List ℕ) (Fits : X
    → Type 0) (whole : List ℕ) (done : List X) (rest : List ℕ) (x : X) (after : List ℕ) → rest ≢ []
    → ((y : X) (more : List X) → Fits y → All Fits more → rest ≡ text y ++ flat_map text more → (x ≡ y)
    × (after ≡ flat_map text more))
    → LeavesRest text Fits whole done rest → LeavesRest text Fits whole (done ++ x ∷ []) after
left_next {X} text Fits whole done rest x after some one left xs a e =
    let (others, whole_is, rest_is, others_fit) = left xs a e in by others whole_is rest_is others_fit
  where
    by : (more : List X) → xs ≡ done ++ more → rest ≡ flat_map text more → All Fits more → (ms : List X)
        × (xs ≡ (done ++ x ∷ []) ++ ms) × (after ≡ flat_map text ms) × All Fits ms
    by [] f g h = absurd (some g)
    by (y ∷ ms) f g h =
        let k = one y ms (All-head Fits y ms h) (All-tail Fits y ms h) g in (
          ms,
          f ∙ ap (λ (z : X). done ++ z ∷ ms) (sym k.0)
              ∙ sym (append_assoc done (x ∷ []) ms),
          k.1,
          All-tail Fits y ms h,
        )

pub left_end : {X : Type 0} (text : X → List ℕ) (Fits : X → Type 0) (whole : List ℕ) (done : List X) (rest : List ℕ)
    → rest ≡ []
    → ((y : X) (more : List ℕ) → text y ++ more ≢ []) → LeavesRest text Fits whole done rest → (xs : List X)
    → All Fits xs
    → whole ≡ flat_map text xs → done ≡ xs
left_end {X} text Fits whole done rest none some left xs a e = by (left xs a e).0 (left xs a e).1 (left xs a e).2
  where
    by : (more : List X) → xs ≡ done ++ more → rest ≡ flat_map text more → done ≡ xs
    by [] f g = sym (f ∙ append-nil done)
    by (y ∷ ms) f g = absurd (some y (flat_map text ms) (sym g ∙ none))
