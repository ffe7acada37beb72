-- The entries of a stack: those of functions that are being called, and those of a call.
use Rattle.std.proofs.Common.{◌≡◌, ◌≢◌, ℕ, zero, suc, ◌+◌, ◌-◌, ◌≤◌, ◌<◌, List, [], ◌∷◌, ◌++◌, length, take, drop, true}
use Rattle.std.proofs.Common.{false, refl, sym, ap, ◌∙◌, subst, arith, get_or}
use Rattle.std.specs.Prelude.{reverse}
use Rattle.std.proofs.lemmas.List.{length-reverse, length-drop, reverse-append, reverse-reverse, take-append-drop}
use Rattle.std.proofs.lemmas.List.{take-append-le, take_all}
use Rattle.sp_code.specs.Machine.{is_in_no_function}
use Rattle.sp_machine.specs.declared.stack.Operand.{Operand}
use Rattle.sp_machine.specs.declared.stack.Operand.TheVariants as operand
use Rattle.sp_machine.specs.StackEntries.{entries_of, one_if_reply, replies}

counted_few : (o : Operand) → one_if_reply o ≤ 1
counted_few (operand.Number n) = omega arith
counted_few _ = omega arith

within : (os : List Operand) → replies os ≤ length os
within [] = omega arith
within (o ∷ os) = omega (arith, counted_few o, within os)

pub replies_few : (os : List Operand) → replies (reverse os) ≤ length os
replies_few os = subst (λ n. replies (reverse os) ≤ n) (length-reverse os) (within (reverse os))

pub outside_yes : (os : List Operand) → replies os ≡ 0 → is_in_no_function (entries_of os) ≡ true
outside_yes [] h = refl
outside_yes (operand.Number n ∷ os) h = outside_yes os (omega (arith, h))
outside_yes (operand.Channel c ∷ os) h = outside_yes os (omega (arith, h))
outside_yes (operand.Pointer a ∷ os) h = outside_yes os (omega (arith, h))
outside_yes (operand.Cells cs ∷ os) h = outside_yes os (omega (arith, h))
outside_yes (operand.Link r ∷ os) h = outside_yes os (omega (arith, h))
outside_yes (operand.Reply r ∷ os) h = absurd (omega (arith, h))

pub outside_no : (os : List Operand) → replies os ≢ 0 → is_in_no_function (entries_of os) ≡ false
outside_no [] h = absurd (h refl)
outside_no (operand.Number n ∷ os) h = outside_no os (omega (arith, h))
outside_no (operand.Channel c ∷ os) h = outside_no os (omega (arith, h))
outside_no (operand.Pointer a ∷ os) h = outside_no os (omega (arith, h))
outside_no (operand.Cells cs ∷ os) h = outside_no os (omega (arith, h))
outside_no (operand.Link r ∷ os) h = outside_no os (omega (arith, h))
outside_no (operand.Reply r ∷ os) h = refl

-- the entries that were put last
top_is : (xs : List Operand) (k : ℕ) → k ≤ length xs → drop (length xs - k) xs ≡ reverse (take k (reverse xs))
top_is xs k h =
    let size : length (drop (length xs - k) xs) ≡ length xs - (length xs - k) = length-drop (length xs - k) xs in
    let front : length (reverse (drop (length xs - k) xs)) ≡ length (drop (length xs - k) xs) =
    length-reverse (drop (length xs - k) xs) in
    let both : reverse xs ≡ reverse (drop (length xs - k) xs)
    ++ reverse (take (length xs - k) xs) = ap reverse (sym (take-append-drop (length xs - k) xs))
    ∙ reverse-append (take (length xs - k) xs) (drop (length xs - k) xs) in
    let enough : k ≤ length (reverse (drop (length xs - k) xs)) = omega (arith, h, size, front) in
    let most : length (reverse (drop (length xs - k) xs)) ≤ k = omega (arith, h, size, front) in
    sym (ap (λ ys. reverse (take k ys)) both
    ∙ ap reverse (take-append-le k (reverse (drop (length xs - k) xs)) (reverse (take (length xs - k) xs)) enough
    ∙ take_all k (reverse (drop (length xs - k) xs)) most)
    ∙ reverse-reverse (drop (length xs - k) xs))

pub top_part : (xs : List Operand) (k : ℕ) → k ≤ length (reverse xs)
    → take (length xs - (length xs - k)) (drop (length xs - k) xs) ≡ reverse (take k (reverse xs))
top_part xs k h =
    let enough : k ≤ length xs = subst (λ n. k ≤ n) (length-reverse xs) h in
    let size : length (drop (length xs - k) xs) ≡ length xs - (length xs - k) = length-drop (length xs - k) xs in
    take_all (length xs - (length xs - k)) (drop (length xs - k) xs) (omega (arith, size)) ∙ top_is xs k enough

pub drop_more : (xs ys : List Operand) (i : ℕ) (o : Operand) → drop i xs ≡ o ∷ ys → drop (i + 1) xs ≡ ys
drop_more [] ys zero o e = absurd cc
drop_more [] ys (suc i) o e = absurd cc
drop_more (x ∷ xs) ys zero o e = ap (λ (zs : List Operand). drop 1 zs) e
drop_more (x ∷ xs) ys (suc i) o e = let one : suc i + 1 ≡ suc (i + 1) = omega arith in
    ap (λ n. drop n (x ∷ xs)) one ∙ drop_more xs ys i o e

pub some_left : (xs : List Operand) (i : ℕ) → i < length xs → drop i xs ≢ []
some_left xs i h e = let size : length (drop i xs) ≡ length xs - i = length-drop i xs in
    let none : length (drop i xs) ≡ 0 = ap length e in absurd (omega (arith, h, size, none))

-- the entry on top is the last in memory
ends : (xs : List Operand) (n : ℕ) (d : Operand) → length xs ≡ suc n → xs ≡ take n xs ++ get_or xs n d ∷ []
ends [] n d h = absurd (omega (arith, h))
ends (x ∷ []) zero d h = refl
ends (x ∷ []) (suc n) d h = absurd (omega (arith, h))
ends (x ∷ y ∷ xs) zero d h = absurd (omega (arith, h))
ends (x ∷ y ∷ xs) (suc n) d h = ap (λ (zs : List Operand). x ∷ zs) (ends (y ∷ xs) n d (omega (arith, h)))

pub top_last : (xs : List Operand) (d : Operand) → 0 < length xs
    → reverse xs ≡ get_or xs (length xs - 1) d ∷ reverse (take (length xs - 1) xs)
top_last xs d h =
    let one : length xs ≡ suc (length xs - 1) = omega (arith, h) in
    ap reverse (ends xs (length xs - 1) d one)
    ∙ reverse-append (take (length xs - 1) xs) (get_or xs (length xs - 1) d ∷ [])
