-- Each child gets its store, the last one first.
use Rattle.std.proofs.Common.{◌≡◌, ◌≢◌, ℕ, zero, suc, ◌+◌, ◌≤◌, ◌<◌, List, [], ◌∷◌, ◌++◌, length, take, get_or, refl}
use Rattle.std.proofs.Common.{sym, ap, ◌∙◌, subst, arith, inl, inr}
use Rattle.std.proofs.lemmas.Bool.{cases_lt}
use Rattle.std.proofs.lemmas.List.{length-append, take-append-le, take_all, get_or-take}
use Rattle.std.proofs.Math.Seq.{get_or-append_seam}
use Rattle.sp_cell.specs.Map.{Plain}
use Rattle.sp_machine.specs.declared.state.State.{State}

take_fewer : (n k : ℕ) (xs : List Plain) → n ≤ k → take n (take k xs) ≡ take n xs
take_fewer zero k xs h = refl
take_fewer (suc n) zero xs h = absurd (omega (arith, h))
take_fewer (suc n) (suc k) [] h = refl
take_fewer (suc n) (suc k) (x ∷ xs) h = ap (λ (ys : List Plain). x ∷ ys) (take_fewer n k xs (omega (arith, h)))

pub one_fewer : (some less : List Plain) (x : Plain) → some ≡ less ++ x ∷ [] → length some ≡ length less + 1
one_fewer some less x p = ap length p ∙ length-append less (x ∷ [])

-- what is left once the last one was taken
pub rest_popped : (all some less : List Plain) (x : Plain) → some ≡ take (length some) all → some ≡ less ++ x ∷ []
    → less ≡ take (length less) all
rest_popped all some less x e p =
    let size : length some ≡ length less + 1 = one_fewer some less x p in
    let within : length less ≤ length less = omega arith in
    let fewer : length less ≤ length some = omega (arith, size) in
    sym (take_all (length less) less within) ∙ sym (take-append-le (length less) less (x ∷ []) within)
    ∙ ap (take (length less)) (sym p ∙ e) ∙ take_fewer (length less) (length some) all fewer

pub last_is : (all some less : List Plain) (x s : Plain) → some ≡ take (length some) all → some ≡ less ++ x ∷ []
    → get_or all (length less) s ≡ x
last_is all some less x s e p =
    let size : length some ≡ length less + 1 = one_fewer some less x p in
    let inside : length less < length some = omega (arith, size) in
    sym (get_or-take (length some) all (length less) s inside)
    ∙ ap (λ (ys : List Plain). get_or ys (length less) s) (sym e ∙ p) ∙ get_or-append_seam less x [] s

-- those from a place on have their stores, and now the one at the place too
pub done_more : (first old new : List State) (all : List Plain) (place n : ℕ) (x : Plain)
    → ((k : ℕ) (d : State) (s : Plain) → n ≤ k → k < length first
    → get_or old k d ≡ record (get_or first k d) { store = get_or all k s })
    → ((k : ℕ) (d : State) → k < n → get_or old k d ≡ get_or first k d)
    → ((d : State) → get_or new place d ≡ record (get_or old place d) { store = x })
    → ((k : ℕ) (d : State) → k ≢ place → get_or new k d ≡ get_or old k d)
    → ((s : Plain) → get_or all place s ≡ x) → n ≡ place + 1
    → (k : ℕ) (d : State) (s : Plain) → place ≤ k → k < length first
    → get_or new k d ≡ record (get_or first k d) { store = get_or all k s }
done_more first old new all place n x done left here others is more k d s h l = elim (cases_lt place k) [
  | inl w ↦ let apart : k ≢ place = λ e. absurd (omega (arith, w, e)) in
      others k d apart ∙ done k d s (omega (arith, w, more)) l
  | inr w ↦
      let same : place ≡ k = omega (arith, w, h) in
      subst (λ j. get_or new j d ≡ record (get_or first j d) { store = get_or all j s }) same
      (here d ∙ ap (λ (p : State). record p { store = x }) (left place d (omega (arith, more)))
      ∙ ap (λ (y : Plain). record (get_or first place d) { store = y }) (sym (is s)))
]

pub left_more : (first old new : List State) (place n : ℕ)
    → ((k : ℕ) (d : State) → k < n → get_or old k d ≡ get_or first k d)
    → ((k : ℕ) (d : State) → k ≢ place → get_or new k d ≡ get_or old k d) → n ≡ place + 1
    → (k : ℕ) (d : State) → k < place → get_or new k d ≡ get_or first k d
left_more first old new place n left others more k d h = let apart : k ≢ place = λ e. absurd (omega (arith, h, e)) in
    others k d apart ∙ left k d (omega (arith, h, more))
