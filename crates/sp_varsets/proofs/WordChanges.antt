-- What a change of a word does to the members.
use Rattle.std.proofs.Common.{◌≡◌, ◌≢◌, ℕ, zero, suc, ◌+◌, ◌-◌, ◌*◌, ◌/◌, ◌%◌, ◌^◌, ◌<◌, ◌≤◌, max, min, Bool, true}
use Rattle.std.proofs.Common.{false, not, ◌==◌, ◌||◌, ◌&&◌, List, [], ◌∷◌, ◌++◌, length, get_or, set, refl, sym, ap}
use Rattle.std.proofs.Common.{◌∙◌, arith, inl, inr, eqb-true, eq-eqb, bit_and, bit_or, w64}
use Rattle.std.specs.Int.{bit_at, bit_not}
use Rattle.std.proofs.lemmas.List.{get_or-set_same, get_or-set_other}
use Rattle.std.proofs.lemmas.Bool.{cases_lt, cases_eq, and_from, and_parts, false_from_ne_true, not-false, or_cases}
use Rattle.std.proofs.lemmas.Nat.{and_le_r}
use Rattle.std.proofs.lemmas.Nat.Bits.{bit_at_or, bit_at_and, bit_at_not, bit_at-zero, bit_at-lt, bit_at_set_same}
use Rattle.std.proofs.lemmas.Nat.Bits.{bit_at_set_other, bit_at_clear_same, bit_at_clear_other}
use Rattle.sp_base.proofs.Facts.{first_false, not_refutes, or_from_either, same_if_both_follow, second_false}
use Rattle.sp_varsets.specs.Members.{in_words}
use Rattle.sp_varsets.proofs.Words.{to_bit, from_bit, some_bit, in_word, below_words}

push_default : (ws : List ℕ) (i : ℕ) → get_or (ws ++ 0 ∷ []) i 0 ≡ get_or ws i 0
push_default [] zero = refl
push_default [] (suc i) = refl
push_default (w ∷ ws) zero = refl
push_default (w ∷ ws) (suc i) = push_default ws i

pub in_more : (ws : List ℕ) (x : ℕ) → in_words (ws ++ 0 ∷ []) x ≡ in_words ws x
in_more ws x = same_if_both_follow _ _
    (λ h. from_bit ws x (rw (sym (push_default ws (x / 64))) (to_bit (ws ++ 0 ∷ []) x h)))
    (λ h. from_bit (ws ++ 0 ∷ []) x (rw (push_default ws (x / 64)) (to_bit ws x h)))

not_in : (b : Bool) → (b ≡ true → ⊥) → not b ≡ true
not_in true f = absurd (f refl)
not_in false f = refl

-- one bit is set
pub put_bit : (ws : List ℕ) (at i v x : ℕ) → at < length ws → i < 64 → v ≡ 64 * at + i
    → in_words (set ws at (bit_or (get_or ws at 0) (1 * 2 ^ i % 2 ^ 64))) x ≡ (v == x) || in_words ws x
put_bit ws at i v x within small e =
    let put : ℕ = bit_or (get_or ws at 0) (1 * 2 ^ i % 2 ^ 64) in
    elim (cases_eq (x / 64) at) [
      | inl here ↦
          let g : get_or (set ws at put) (x / 64) 0 ≡ put = rw here (get_or-set_same ws at put 0 within) in
          let old : get_or ws (x / 64) 0 ≡ get_or ws at 0 = ap (λ k. get_or ws k 0) here in
          elim (cases_eq (x % 64) i) [
            | inl it ↦
                let is : v ≡ x = omega arith in
                same_if_both_follow _ _ (λ h. or_from_either _ _ (inl (eq-eqb v x is)))
                (λ h. from_bit (set ws at put) x (rw (g, it) (bit_at_set_same w64 (get_or ws at 0) i small)))
            | inr other ↦
                let b : bit_at put (x % 64) ≡ bit_at (get_or ws at 0) (x % 64) =
                bit_at_set_other w64 (get_or ws at 0) i small (x % 64) other in
                let n : v ≢ x = λ same. other (omega arith) in
                same_if_both_follow _ _
                (λ h. or_from_either _ _ (inr
                (from_bit ws x (rw old (sym b ∙ (rw g at (to_bit (set ws at put) x h)))))))
                (λ h. elim (or_cases _ _ h) [
                  | inl is ↦ absurd (n (eqb-true v x is))
                  | inr m ↦ from_bit (set ws at put) x (rw g (b ∙ (rw old at (to_bit ws x m))))
                ])
          ]
      | inr away ↦
          let g : get_or (set ws at put) (x / 64) 0 ≡ get_or ws (x / 64) 0 =
          get_or-set_other ws at (x / 64) put 0 away in
          let n : v ≢ x = λ same. away (omega arith) in
          same_if_both_follow _ _
          (λ h. or_from_either _ _ (inr (from_bit ws x (rw (sym g) (to_bit (set ws at put) x h)))))
          (λ h. elim (or_cases _ _ h) [
            | inl is ↦ absurd (n (eqb-true v x is))
            | inr m ↦ from_bit (set ws at put) x (rw g (to_bit ws x m))
          ])
    ]

-- one bit is cleared
pub clear_bit : (ws : List ℕ) (at i v x : ℕ) → at < length ws → i < 64 → v ≡ 64 * at + i
    → in_words (set ws at (bit_and (get_or ws at 0) (bit_not w64 (1 * 2 ^ i % 2 ^ 64)))) x ≡ in_words ws x
    && not (v == x)
clear_bit ws at i v x within small e =
    let put : ℕ = bit_and (get_or ws at 0) (bit_not w64 (1 * 2 ^ i % 2 ^ 64)) in
    elim (cases_eq (x / 64) at) [
      | inl here ↦
          let g : get_or (set ws at put) (x / 64) 0 ≡ put = rw here (get_or-set_same ws at put 0 within) in
          let old : get_or ws (x / 64) 0 ≡ get_or ws at 0 = ap (λ k. get_or ws k 0) here in
          elim (cases_eq (x % 64) i) [
            | inl it ↦
                let is : v ≡ x = omega arith in
                let gone : bit_at put i ≡ 0 = bit_at_clear_same w64 (get_or ws at 0) i small in
                same_if_both_follow _ _
                (λ h. absurd (let one : bit_at put i ≡ 1 = rw (g, it) at (to_bit (set ws at put) x h) in omega arith))
                (λ h. absurd (not_refutes _ (and_parts _ _ h).1 (eq-eqb v x is)))
            | inr other ↦
                let b : bit_at put (x % 64) ≡ bit_at (get_or ws at 0) (x % 64) =
                bit_at_clear_other w64 (get_or ws at 0) i small (x % 64) (omega arith) other in
                let n : v ≢ x = λ same. other (omega arith) in
                same_if_both_follow _ _
                (λ h. and_from _ _ (from_bit ws x (rw old (sym b ∙ (rw g at (to_bit (set ws at put) x h)))))
                (not_in _ (λ is. n (eqb-true v x is))))
                (λ h. from_bit (set ws at put) x (rw g (b ∙ (rw old at (to_bit ws x (and_parts _ _ h).0)))))
          ]
      | inr away ↦
          let g : get_or (set ws at put) (x / 64) 0 ≡ get_or ws (x / 64) 0 =
          get_or-set_other ws at (x / 64) put 0 away in
          let n : v ≢ x = λ same. away (omega arith) in
          same_if_both_follow _ _
          (λ h. and_from _ _ (from_bit ws x (rw (sym g) (to_bit (set ws at put) x h)))
          (not_in _ (λ is. n (eqb-true v x is))))
          (λ h. from_bit (set ws at put) x (rw g (to_bit ws x (and_parts _ _ h).0)))
    ]

pub cleared_past : (ws : List ℕ) (v x : ℕ) → length ws ≤ v / 64 → in_words ws x ≡ in_words ws x && not (v == x)
cleared_past ws v x past = same_if_both_follow _ _
    (λ h. and_from _ _ h (not_in _ (λ is. let same = eqb-true v x is in let b = below_words ws x h in omega arith)))
    (λ h. (and_parts _ _ h).0)

-- a bit of what is new in a word
pub more_bit : (w o h i : ℕ) → w < 2 ^ 64 → h < 2 ^ 64 → i < 64
    → bit_at (bit_and (bit_and o (bit_not w64 h)) (bit_not w64 w)) i
    ≡ min (min (bit_at o i) (1 - bit_at h i)) (1 - bit_at w i)
more_bit w o h i sw sh small =
    bit_at_and (bit_and o (bit_not w64 h)) (bit_not w64 w) i
    ∙ (ap (λ z. min z (bit_at (bit_not w64 w) i))
    (bit_at_and o (bit_not w64 h) i ∙ ap (λ z. min (bit_at o i) z) (bit_at_not w64 h i sh small))
    ∙ ap (λ z. min (min (bit_at o i) (1 - bit_at h i)) z) (bit_at_not w64 w i sw small))

pub sum_bit : (w o h i : ℕ) → w < 2 ^ 64 → h < 2 ^ 64 → i < 64
    → bit_at (bit_or w (bit_and (bit_and o (bit_not w64 h)) (bit_not w64 w))) i
    ≡ max (bit_at w i) (min (bit_at o i) (1 - bit_at h i))
sum_bit w o h i sw sh small =
    let b = bit_at_or w (bit_and (bit_and o (bit_not w64 h)) (bit_not w64 w)) i in
    let m = more_bit w o h i sw sh small in
    let p = bit_at-lt w i in
    let q = bit_at-lt o i in
    let r = bit_at-lt h i in
    omega arith

-- the words after adding those of others but for hidden ones, bit by bit
pub record Added (old new others hidden : List ℕ) (n : ℕ) : Type 0 where
  pub bits : (j i : ℕ) → j < n → i < 64 → bit_at (get_or new j 0) i
      ≡ max (bit_at (get_or old j 0) i) (min (bit_at (get_or others j 0) i) (1 - bit_at (get_or hidden j 0) i))
  pub kept : (j : ℕ) → n ≤ j → get_or new j 0 ≡ get_or old j 0

pub added_more : (old new others hidden : List ℕ) (n w : ℕ) → Added old new others hidden n → n < length new
    → ((i : ℕ) → i < 64 → bit_at w i ≡ max (bit_at (get_or old n 0) i)
    (min (bit_at (get_or others n 0) i) (1 - bit_at (get_or hidden n 0) i)))
    → Added old (set new n w) others hidden (n + 1)
added_more old new others hidden n w a within b = record {
  bits = λ j i low small. elim (cases_eq j n) [
    | inl here ↦ rw here (rw (get_or-set_same new n w 0 within) (b i small))
    | inr away ↦ rw (get_or-set_other new n j w 0 away) (a.bits j i (omega arith) small)
  ];
  kept = λ j low. let away : j ≢ n = omega arith in get_or-set_other new n j w 0 away ∙ a.kept j (omega arith);
}

pub added_is : (old new others hidden : List ℕ) (n : ℕ) → Added old new others hidden n → length others ≤ n
    → (x : ℕ) → in_words new x ≡ in_words old x || (in_words others x && not (in_words hidden x))
added_is old new others hidden n a all x =
    elim (cases_lt (x / 64) n) [
      | inl inside ↦
          let b = a.bits (x / 64) (x % 64) inside (omega arith) in
          let p = bit_at-lt (get_or old (x / 64) 0) (x % 64) in
          let q = bit_at-lt (get_or others (x / 64) 0) (x % 64) in
          let r = bit_at-lt (get_or hidden (x / 64) 0) (x % 64) in
          same_if_both_follow _ _
          (λ h.
          let one = to_bit new x h in
          elim (cases_eq (bit_at (get_or old (x / 64) 0) (x % 64)) 1) [
            | inl is ↦ or_from_either _ _ (inl (from_bit old x is))
            | inr isnt ↦ or_from_either _ _ (inr
                (and_from _ _ (from_bit others x (omega arith))
                (not_in _ (λ m. let two = to_bit hidden x m in omega arith))))
          ])
          (λ h. from_bit new x (elim (or_cases _ _ h) [
            | inl o ↦ let one = to_bit old x o in omega arith
            | inr o ↦
                let both = and_parts _ _ o in
                let one = to_bit others x both.0 in
                let zero_there : bit_at (get_or hidden (x / 64) 0) (x % 64) ≢ 1 =
                λ is. not_refutes _ both.1 (from_bit hidden x is) in
                omega arith
          ]))
      | inr outside ↦
          let g = a.kept (x / 64) outside in
          same_if_both_follow _ _
          (λ h. or_from_either _ _ (inl (from_bit old x (rw (sym g) (to_bit new x h)))))
          (λ h. from_bit new x (elim (or_cases (in_words old x) (in_words others x && not (in_words hidden x)) h) [
            | inl o ↦ rw g (to_bit old x o)
            | inr o ↦ absurd (past o outside)
          ]))
    ]
  where
    past : in_words others x && not (in_words hidden x) ≡ true → n ≤ x / 64 → ⊥
    past o outside = let b = below_words others x (and_parts _ _ o).0 in omega arith

is_zero : (k : ℕ) → not (k == 0) ≡ false → k ≡ 0
is_zero k h = elim (cases_eq k 0) [
  | inl e ↦ e
  | inr n ↦ absurd
      (let b : k == 0 ≡ true = not-false (k == 0) h in n (eqb-true k 0 b))
]

-- whether one of them is new
pub record IsNewsOf (old new : List ℕ) (n : ℕ) (changed : Bool) : Type 0 where
  pub none : changed ≡ false → (j i : ℕ) → j < n → i < 64 → bit_at (get_or new j 0) i ≡ bit_at (get_or old j 0) i
  pub some : changed ≡ true → (j : ℕ) × (j < n) × (i : ℕ) × (i < 64) × (bit_at (get_or new j 0) i ≡ 1)
      × (bit_at (get_or old j 0) i ≡ 0)

pub news_start : (old : List ℕ) → IsNewsOf old old 0 false
news_start old = record { none = λ e j i low small. refl; some = λ e. absurd (let no : false ≡ true = e in cc) }

pub news_more : (old new others hidden : List ℕ) (n : ℕ) (changed : Bool) → IsNewsOf old new n changed → n < length new
    → get_or new n 0 ≡ get_or old n 0
    → get_or old n 0 < 2 ^ 64 → get_or hidden n 0 < 2 ^ 64
    → let more = bit_and (bit_and (get_or others n 0) (bit_not w64 (get_or hidden n 0)))
    (bit_not w64 (get_or old n 0)) in
    IsNewsOf old (set new n (bit_or (get_or old n 0) more)) (n + 1) (changed || not (more == 0))
news_more old new others hidden n changed h within same sw sh = record {
  none = λ e j i low small. elim (cases_eq j n) [
    | inl here ↦
        let m : more ≡ 0 = is_zero more (second_false changed (not (more == 0)) e) in
        let b = bit_at_or (get_or old n 0) more i in
        let z : bit_at more i ≡ 0 = ap (λ k. bit_at k i) m ∙ bit_at-zero i in
        rw here (rw (get_or-set_same new n (bit_or (get_or old n 0) more) 0 within) (omega arith))
    | inr away ↦ rw (get_or-set_other new n j (bit_or (get_or old n 0) more) 0 away)
        (h.none (first_false changed (not (more == 0)) e) j i (omega arith) small)
  ];
  some = λ e. elim (or_cases _ _ e) [
    | inl before ↦
        let (j, low, i, small, is_one, was_zero) = h.some before in
        let away : j ≢ n = omega (arith, low) in (
          j,
          omega (arith, low),
          i,
          small,
          rw (get_or-set_other new n j (bit_or (get_or old n 0) more) 0 away) is_one,
          was_zero,
        )
    | inr now ↦
        let le = and_le_r (bit_and (get_or others n 0) (bit_not w64 (get_or hidden n 0)))
        (bit_not w64 (get_or old n 0)) in
        let small : more < 2 ^ 64 = omega arith in
        let t = some_bit more small (λ z. not_refutes _ now (eq-eqb more 0 z)) in
        let b = bit_at_or (get_or old n 0) more t.0 in
        let m = more_bit (get_or old n 0) (get_or others n 0) (get_or hidden n 0) t.0 sw sh t.1 in
        let one = t.2 in
        let p = bit_at-lt (get_or old n 0) t.0 in (
          n,
          omega arith,
          t.0,
          t.1,
          rw (get_or-set_same new n (bit_or (get_or old n 0) more) 0 within) (omega arith),
          omega arith,
        )
  ];
}
  where
    more : ℕ
    more = bit_and (bit_and (get_or others n 0) (bit_not w64 (get_or hidden n 0))) (bit_not w64 (get_or old n 0))

pub nothing_new : (old new : List ℕ) (n : ℕ) (changed : Bool) → IsNewsOf old new n changed
    → ((j : ℕ) → n ≤ j → get_or new j 0 ≡ get_or old j 0) → changed ≡ false → (x : ℕ) → in_words new x ≡ in_words old x
nothing_new old new n changed h kept e x =
    let b : bit_at (get_or new (x / 64) 0) (x % 64) ≡ bit_at (get_or old (x / 64) 0) (x % 64) =
    elim (cases_lt (x / 64) n) [
      | inl inside ↦ h.none e (x / 64) (x % 64) inside (omega arith)
      | inr outside ↦ ap
          (λ w. bit_at w (x % 64)) (kept (x / 64) outside)
    ] in
    same_if_both_follow _ _ (λ m. from_bit old x (sym b ∙ to_bit new x m)) (λ m. from_bit new x (b ∙ to_bit old x m))

pub one_new : (old new : List ℕ) (n : ℕ) (changed : Bool) → IsNewsOf old new n changed → changed ≡ true → (x : ℕ)
    × (in_words new x ≡ true) × (in_words old x ≡ false)
one_new old new n changed h e =
    let (j, _, i, small, is_one, was_zero) = h.some e in
    let x : ℕ = 64 * j + i in
    let d : x / 64 ≡ j = omega (arith, small) in
    let m : x % 64 ≡ i = omega (arith, small) in (
      x,
      in_word new j i x small refl is_one,
      false_from_ne_true _ (λ h. let one : bit_at (get_or old j 0) i ≡ 1 = rw (d, m) at (to_bit old x h) in
          omega (arith, one, was_zero)),
    )

-- a set within another, bit by bit
pub lacks : (words others : List ℕ) (k : ℕ) → get_or words k 0 < 2 ^ 64
    → bit_and (get_or others k 0) (bit_not w64 (get_or words k 0)) ≢ 0 → (x : ℕ) × (in_words others x ≡ true)
    × (in_words words x ≡ false)
lacks words others k small other =
    let le = and_le_r (get_or others k 0) (bit_not w64 (get_or words k 0)) in
    let t = some_bit (bit_and (get_or others k 0) (bit_not w64 (get_or words k 0))) (omega arith) other in
    let f = t.1 in
    let b = bit_at_and (get_or others k 0) (bit_not w64 (get_or words k 0)) t.0 in
    let n = bit_at_not w64 (get_or words k 0) t.0 small f in
    let one = t.2 in
    let p = bit_at-lt (get_or others k 0) t.0 in
    let q = bit_at-lt (get_or words k 0) t.0 in
    let x : ℕ = 64 * k + t.0 in
    let d : x / 64 ≡ k = omega arith in
    let m : x % 64 ≡ t.0 = omega arith in
    let is : bit_at (get_or others k 0) t.0 ≡ 1 = omega arith in (
      x,
      in_word others k t.0 x f refl is,
      false_from_ne_true _
          (λ h. let yes : bit_at (get_or words k 0) t.0 ≡ 1 = rw (d, m) at (to_bit words x h) in omega arith),
    )

pub covers : (words others : List ℕ) (n : ℕ) → length others ≤ n
    → ((j i : ℕ) → j < n → i < 64 → bit_at (get_or others j 0) i ≡ 1 → bit_at (get_or words j 0) i ≡ 1)
    → (x : ℕ) → in_words others x ≡ true → in_words words x ≡ true
covers words others n all each x h = let b = below_words others x h in
    from_bit words x (each (x / 64) (x % 64) (omega arith) (omega arith) (to_bit others x h))

pub word_covers : (w o i : ℕ) → w < 2 ^ 64 → i < 64 → bit_and o (bit_not w64 w) ≡ 0 → bit_at o i ≡ 1 → bit_at w i ≡ 1
word_covers w o i small f none one =
    let b : bit_at 0 i ≡ min (bit_at o i) (bit_at (bit_not w64 w) i) = ap (λ k. bit_at k i) (sym none)
    ∙ bit_at_and o (bit_not w64 w) i in
    let z = bit_at-zero i in
    let n = bit_at_not w64 w i small f in
    let q = bit_at-lt w i in
    omega arith
