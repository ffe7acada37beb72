-- Bits of words, as the members of a set stand in them.
use Rattle.std.proofs.Common.{◌≡◌, ◌≢◌, ◌⊎◌, ℕ, ◌+◌, ◌-◌, ◌*◌, ◌/◌, ◌%◌, ◌^◌, ◌<◌, ◌≤◌, max, Bool, true, false, not}
use Rattle.std.proofs.Common.{◌||◌, ◌&&◌, List, [], length, get_or, replicate, slice_get, Some, None, refl, sym, ap}
use Rattle.std.proofs.Common.{subst, ◌∙◌, arith, inl, inr, eqb-true, eq-eqb, nat_eq, bit_and, bit_or, w64}
use Rattle.std.specs.Int.{bit_at, trailing_zeros}
use Rattle.std.proofs.lemmas.List.{get_or_past, get_or-replicate, length-replicate}
use Rattle.std.proofs.lemmas.Bool.{cases_lt, cases_eq, false_from_ne_true, or_cases}
use Rattle.std.proofs.lemmas.Nat.{and_le_l, shr-shr, shr_le}
use Rattle.std.proofs.lemmas.Nat.Bits.{bit_at_or, bit_at_and, bit_at-zero, shr_and_one, bit_at-lt}
use Rattle.std.proofs.lemmas.Nat.Bits.{bit_at-trailing_zeros, bit_at_above}
use Rattle.std.proofs.lemmas.Option.{slice_get_cases}
use Rattle.sp_base.proofs.Facts.{or_from_either, same_if_both_follow}
use Rattle.sp_varsets.specs.Members.{in_words}
use Rattle.sp_varsets.proofs.Items.{read_or, none_or}

-- from a bit to a member and back
pub to_bit : (words : List ℕ) (x : ℕ) → in_words words x ≡ true → bit_at (get_or words (x / 64) 0) (x % 64) ≡ 1
unfolding in_words
to_bit words x h = eqb-true _ 1 h

pub from_bit : (words : List ℕ) (x : ℕ) → bit_at (get_or words (x / 64) 0) (x % 64) ≡ 1 → in_words words x ≡ true
unfolding in_words
from_bit words x h = eq-eqb _ 1 h

pub none_hidden : (b c : Bool) → c ≡ false → b && not c ≡ b
none_hidden true c h = ap not h
none_hidden false c h = refl

pub in_none : (x : ℕ) → in_words [] x ≡ false
in_none x = false_from_ne_true _ (λ h. let b = to_bit [] x h in let z = bit_at-zero (x % 64) in omega arith)

pub in_word_zero : (words : List ℕ) (x : ℕ) → get_or words (x / 64) 0 ≡ 0 → in_words words x ≡ true → ⊥
in_word_zero words x e h =
    let b : bit_at 0 (x % 64) ≡ 1 = subst (λ w. bit_at w (x % 64) ≡ 1) e (to_bit words x h) in
    let z = bit_at-zero (x % 64) in omega arith

pub below_words : (words : List ℕ) (x : ℕ) → in_words words x ≡ true → x < 64 * length words
below_words words x h =
    elim (cases_lt (x / 64) (length words)) [
      | inl less ↦ omega arith
      | inr past ↦ absurd (in_word_zero words x (get_or_past words (x / 64) 0 past) h)
    ]

-- the test that the code makes
pub test_is : (words : List ℕ) (x w : ℕ) → slice_get words (x / 64) ≡ Some w
    → nat_eq (bit_and (w / 2 ^ (x % 64)) 1) 1 ≡ in_words words x
unfolding in_words
test_is words x w e = rw (shr_and_one w (x % 64))
    (ap (λ v. nat_eq (bit_at v (x % 64)) 1) (sym (read_or words (x / 64) w 0 e)))

pub past_is : (words : List ℕ) (x : ℕ) → slice_get words (x / 64) ≡ None → false ≡ in_words words x
past_is words x e = sym (false_from_ne_true _ (λ h. in_word_zero words x (none_or words (x / 64) 0 e) h))

-- a word that is not 0 has a bit
pub some_bit : (w : ℕ) → w < 2 ^ 64 → w ≢ 0 → (i : ℕ) × (i < 64) × (bit_at w i ≡ 1)
some_bit w small other = let t = bit_at-trailing_zeros w64 w (omega arith) small in (trailing_zeros w64 w, t.0, t.1)

-- its bits are members
pub in_word : (words : List ℕ) (k i x : ℕ) → i < 64 → x ≡ 64 * k + i → bit_at (get_or words k 0) i ≡ 1
    → in_words words x ≡ true
in_word words k i x small e b =
    let d : x / 64 ≡ k = omega arith in
    let m : x % 64 ≡ i = omega arith in
    from_bit words x (rw (d, m) b)

pub member_of_word : (words : List ℕ) (k : ℕ) → get_or words k 0 < 2 ^ 64 → get_or words k 0 ≢ 0 → (x : ℕ)
    × (in_words words x ≡ true)
member_of_word words k small other = let b = some_bit (get_or words k 0) small other in
    (64 * k + b.0, in_word words k b.0 (64 * k + b.0) b.1 refl b.2)

-- both words have a bit in common
pub common : (a b i : ℕ) → bit_at (bit_and a b) i ≡ 1 → (bit_at a i ≡ 1) × (bit_at b i ≡ 1)
common a b i h =
    let m = bit_at_and a b i in
    let p = bit_at-lt a i in
    let q = bit_at-lt b i in
    (omega arith, omega arith)

pub met_at : (a b : List ℕ) (first k : ℕ) → get_or a k 0 < 2 ^ 64 → bit_and (get_or a k 0) (get_or b (first + k) 0) ≢ 0
    → (x : ℕ) × (64 * first + 64 * k ≤ x) × (x < 64 * first + 64 * k + 64) × (in_words a (x - 64 * first) ≡ true)
    × (in_words b x ≡ true)
met_at a b first k small other =
    let le = and_le_l (get_or a k 0) (get_or b (first + k) 0) in
    let t = some_bit (bit_and (get_or a k 0) (get_or b (first + k) 0)) (omega arith) other in
    let both = common (get_or a k 0) (get_or b (first + k) 0) t.0 t.2 in
    let s = t.1 in (
      64 * first + 64 * k + t.0,
      omega arith,
      omega arith,
      in_word a k t.0 (64 * first + 64 * k + t.0 - 64 * first) s (omega arith) both.0,
      in_word b (first + k) t.0 (64 * first + 64 * k + t.0) s (omega arith) both.1,
    )

pub not_met : (a b : List ℕ) (first n : ℕ) → ((j : ℕ) → j < n → bit_and (get_or a j 0) (get_or b (first + j) 0) ≡ 0)
    → (x : ℕ) → 64 * first ≤ x → x / 64 < first + n → in_words a (x - 64 * first) ≡ true → in_words b x ≡ true → ⊥
not_met a b first n none x low high p q =
    let j : ℕ = x / 64 - first in
    let d : (x - 64 * first) / 64 ≡ j = omega arith in
    let m : (x - 64 * first) % 64 ≡ x % 64 = omega arith in
    let e : first + j ≡ x / 64 = omega arith in
    let pa : bit_at (get_or a j 0) (x % 64) ≡ 1 = rw (d, m) at (to_bit a (x - 64 * first) p) in
    let qa : bit_at (get_or b (first + j) 0) (x % 64) ≡ 1 = rw e (to_bit b x q) in
    let both = bit_at_and (get_or a j 0) (get_or b (first + j) 0) (x % 64) in
    let z : bit_at (bit_and (get_or a j 0) (get_or b (first + j) 0)) (x % 64) ≡ bit_at 0 (x % 64) =
    ap (λ w. bit_at w (x % 64)) (none j (omega arith)) in
    let o = bit_at-zero (x % 64) in
    omega arith

-- words put together, from a word of one of them on
pub joined_words : (old new others : List ℕ) (first n : ℕ)
    → ((j : ℕ) → j < n → get_or new j 0 ≡ bit_or (get_or old j 0) (get_or others (first + j) 0))
    → ((j : ℕ) → n ≤ j → get_or new j 0 ≡ get_or old j 0)
    → (x : ℕ) → 64 * first ≤ x → (x / 64 < first + n) ⊎ (length others ≤ x / 64)
    → in_words new (x - 64 * first) ≡ in_words old (x - 64 * first) || in_words others x
joined_words old new others first n changed kept x low where_it_is =
    let j : ℕ = x / 64 - first in
    let d : (x - 64 * first) / 64 ≡ j = omega arith in
    let m : (x - 64 * first) % 64 ≡ x % 64 = omega arith in
    let e : first + j ≡ x / 64 = omega arith in
    elim (cases_lt j n) [
      | inl inside ↦
          let w : get_or new j 0 ≡ bit_or (get_or old j 0) (get_or others (x / 64) 0) = changed j inside
          ∙ ap (λ z. bit_or (get_or old j 0) (get_or others z 0)) e in
          let b : bit_at (get_or new j 0) (x % 64)
          ≡ max (bit_at (get_or old j 0) (x % 64)) (bit_at (get_or others (x / 64) 0) (x % 64)) =
          ap (λ z. bit_at z (x % 64)) w ∙ bit_at_or _ _ (x % 64) in
          let p = bit_at-lt (get_or old j 0) (x % 64) in
          let q = bit_at-lt (get_or others (x / 64) 0) (x % 64) in
          same_if_both_follow _ _
          (λ h.
          let one : bit_at (get_or new j 0) (x % 64) ≡ 1 = rw (d, m) at (to_bit new (x - 64 * first) h) in
          elim (cases_eq (bit_at (get_or old j 0) (x % 64)) 1) [
            | inl is ↦ or_from_either _ _ (inl (from_bit old (x - 64 * first) (rw (d, m) is)))
            | inr isnt ↦ or_from_either _ _ (inr (from_bit others x (omega arith)))
          ])
          (λ h. from_bit new (x - 64 * first) (rw (d, m) (elim (or_cases _ _ h) [
            | inl o ↦ let one : bit_at (get_or old j 0) (x % 64) ≡ 1 = rw (d, m) at (to_bit old (x - 64 * first) o) in
                omega arith
            | inr o ↦ let one = to_bit others x o in omega arith
          ])))
      | inr outside ↦
          let w : get_or new j 0 ≡ get_or old j 0 = kept j outside in
          let past : length others ≤ x / 64 = elim where_it_is [ inl h ↦ absurd (omega arith) | inr h ↦ h ] in
          same_if_both_follow _ _
          (λ h. or_from_either _ _ (inl (from_bit old (x - 64 * first)
          (rw (d, m) (rw (sym w) (rw (d, m) at (to_bit new (x - 64 * first) h)))))))
          (λ h. elim (or_cases _ _ h) [
            | inl o ↦ from_bit new (x - 64 * first) (rw (d, m) (rw w (rw (d, m) at (to_bit old (x - 64 * first) o))))
            | inr o ↦ absurd (in_word_zero others x (get_or_past others (x / 64) 0 past) o)
          ])
    ]

pub nowhere : (words : List ℕ) (n : ℕ) → length words ≤ n → ((j : ℕ) → j < n → get_or words j 0 ≡ 0) → (x : ℕ)
    → in_words words x ≡ false
nowhere words n all none x = false_from_ne_true _
    (λ h. let b = below_words words x h in in_word_zero words x (none (x / 64) (omega arith)) h)

pub all_zero : (n x : ℕ) → in_words (replicate n 0) x ≡ false
all_zero n x = nowhere (replicate n 0) n (omega (arith, length-replicate {A = ℕ} n 0))
    (λ j h. get_or-replicate n j 0 0 h) x

-- bits of what is left of a word
rest_bit : (w s j : ℕ) → bit_at (w / 2 ^ s) j ≡ bit_at w (s + j)
rest_bit w s j = ap (λ x. x % 2) (shr-shr w s j)

-- the least member from here on, where it stands in the same word
pub next_here : (words : List ℕ) (from w : ℕ) → slice_get words (from / 64) ≡ Some w → w < 2 ^ 64
    → w / 2 ^ (from % 64) ≢ 0
    → (from + trailing_zeros w64 (w / 2 ^ (from % 64)) < 64 * (from / 64) + 64)
    × (in_words words (from + trailing_zeros w64 (w / 2 ^ (from % 64))) ≡ true)
    × ((x : ℕ) → from ≤ x → x < from + trailing_zeros w64 (w / 2 ^ (from % 64)) → in_words words x ≡ false)
next_here words from w e small other =
    let rest : ℕ = w / 2 ^ (from % 64) in
    let le : rest ≤ w = shr_le w (from % 64) in
    let t = bit_at-trailing_zeros w64 rest (omega arith) (omega arith) in
    let i : ℕ = trailing_zeros w64 rest in
    let g : get_or words (from / 64) 0 ≡ w = read_or words (from / 64) w 0 e in
    let one : bit_at w (from % 64 + i) ≡ 1 = sym (rest_bit w (from % 64) i) ∙ t.1 in
    let within : from % 64 + i < 64 = elim (cases_lt (from % 64 + i) 64)
    [ inl h ↦ h | inr h ↦ let z = bit_at_above w 64 (from % 64 + i) small h in absurd (omega arith) ] in (
      omega arith,
      in_word words (from / 64) (from % 64 + i) (from + i) within (omega arith) (rw g one),
      λ x low high. false_from_ne_true _ (λ m.
          let d : x / 64 ≡ from / 64 = omega arith in
          let j : ℕ = x - from in
          let s : x % 64 ≡ from % 64 + j = omega arith in
          let b : bit_at w (x % 64) ≡ 1 = rw (d, g) at (to_bit words x m) in
          let z : bit_at rest j ≡ 0 = t.2 j (omega arith) in
          let y : bit_at rest j ≡ bit_at w (x % 64) = rest_bit w (from % 64) j ∙ ap (λ k. bit_at w k) (sym s) in
          omega arith),
    )

pub none_here : (words : List ℕ) (from w : ℕ) → slice_get words (from / 64) ≡ Some w → w / 2 ^ (from % 64) ≡ 0 → (x : ℕ)
    → from ≤ x → x < 64 * (from / 64) + 64 → in_words words x ≡ false
none_here words from w e none x low high = false_from_ne_true _ (λ m.
    let d : x / 64 ≡ from / 64 = omega arith in
    let g : get_or words (from / 64) 0 ≡ w = read_or words (from / 64) w 0 e in
    let j : ℕ = x - from in
    let s : x % 64 ≡ from % 64 + j = omega arith in
    let b : bit_at w (x % 64) ≡ 1 = rw (d, g) at (to_bit words x m) in
    let z : bit_at 0 j ≡ bit_at w (x % 64) = ap (λ k. bit_at k j) (sym none)
    ∙ (rest_bit w (from % 64) j ∙ ap (λ k. bit_at w k) (sym s)) in
    let o = bit_at-zero j in
    omega arith)

pub none_past : (words : List ℕ) (at : ℕ) → slice_get words at ≡ None → (x : ℕ) → 64 * at ≤ x → in_words words x ≡ false
none_past words at e x low = false_from_ne_true _ (λ m.
    let b = below_words words x m in
    let p = slice_get_cases words at in
    elim p.1 [
      | inl i ↦ absurd (let f : Some i.0 ≡ None = sym i.2 ∙ e in cc)
      | inr o ↦ let past = o.0 in omega arith
    ])

-- the least member that stands in a later word
pub next_later : (words : List ℕ) (at k : ℕ) → at < k → get_or words k 0 < 2 ^ 64 → get_or words k 0 ≢ 0
    → ((j : ℕ) → at < j → j < k → get_or words j 0 ≡ 0)
    → (64 * at + 64 ≤ k * 64 + trailing_zeros w64 (get_or words k 0))
    × (in_words words (k * 64 + trailing_zeros w64 (get_or words k 0)) ≡ true)
    × ((x : ℕ) → 64 * at + 64 ≤ x → x < k * 64 + trailing_zeros w64 (get_or words k 0) → in_words words x ≡ false)
next_later words at k later small other none =
    let t = bit_at-trailing_zeros w64 (get_or words k 0) (omega arith) small in
    let i : ℕ = trailing_zeros w64 (get_or words k 0) in
    let f = t.0 in (
      omega arith,
      in_word words k i (k * 64 + i) f (omega arith) t.1,
      λ x low high. false_from_ne_true _ (λ m.
          elim (cases_lt (x / 64) k) [
            | inl before ↦ in_word_zero words x (none (x / 64) (omega arith) before) m
            | inr here ↦
                let d : x / 64 ≡ k = omega arith in
                let b : bit_at (get_or words k 0) (x % 64) ≡ 1 = rw d at (to_bit words x m) in
                let z = t.2 (x % 64) (omega arith) in
                omega arith
          ]),
    )
