-- Lists to which items are added at the end and taken off again.
use Rattle.std.proofs.Common.{◌≡◌, ℕ, zero, suc, ◌+◌, ◌-◌, List, [], ◌∷◌, ◌++◌, append_assoc, length, length-append}
use Rattle.std.proofs.Common.{take, Option, Some, None, ap, refl, sym, ◌∙◌, arith}
use Rattle.std.specs.Prelude.{MatchOption}
use mathlib.Core.List.{append-nil}
use Rattle.sp_journal.specs.Queue.{numbers}
use Rattle.sp_journal.proofs.Facts.{numbers_last}
use Rattle.sp_code.proofs.Queues.{numbers_length}
use Rattle.sp_kernel.specs.ListEnds.{without_last, repeat}

pub last_gone : {A : Type 0} (xs : List A) (y : A) → without_last (xs ++ y ∷ []) ≡ xs
last_gone [] y = refl
last_gone (x ∷ []) y = refl
last_gone (x ∷ z ∷ xs) y = ap (λ l. x ∷ l) (last_gone (z ∷ xs) y)

pub none_more : {A : Type 0} (xs : List A) → xs ++ [] ≡ xs
none_more xs = append-nil xs

pub numbers_more : (xs : List ℕ) (a n : ℕ) → xs ++ numbers a (n + 1) ≡ (xs ++ numbers a n) ++ (a + n) ∷ []
numbers_more xs a n = let e : n + 1 ≡ suc n = omega arith in
    ap (λ i. xs ++ numbers a i) e ∙ ap (λ l. xs ++ l) (numbers_last a n)
    ∙ sym (append_assoc xs (numbers a n) ((a + n) ∷ []))

repeat_last : {A : Type 0} (n : ℕ) (v : A) → repeat (suc n) v ≡ repeat n v ++ v ∷ []
repeat_last zero v = refl
repeat_last (suc n) v = ap (λ l. v ∷ l) (repeat_last n v)

pub repeat_more : {A : Type 0} (xs : List A) (v : A) (n : ℕ) → xs ++ repeat (n + 1) v ≡ (xs ++ repeat n v) ++ v ∷ []
repeat_more xs v n = let e : n + 1 ≡ suc n = omega arith in
    ap (λ i. xs ++ repeat i v) e ∙ ap (λ l. xs ++ l) (repeat_last n v) ∙ sym (append_assoc xs (repeat n v) (v ∷ []))

pub front_only : {A : Type 0} (xs ys : List A) → take (length xs) (xs ++ ys) ≡ xs
front_only [] ys = refl
front_only (x ∷ xs) ys = ap (λ l. x ∷ l) (front_only xs ys)

pub numbers_gone : (xs : List ℕ) (a n : ℕ) → take (length (xs ++ numbers a n) - n) (xs ++ numbers a n) ≡ xs
numbers_gone xs a n = let e : length (xs ++ numbers a n) - n ≡ length xs =
    omega (arith, length-append xs (numbers a n), numbers_length a n) in
    ap (λ i. take i (xs ++ numbers a n)) e ∙ front_only xs (numbers a n)

-- what a pop leaves
pub popped : {A : Type 0} (o : Option A) (old new : List A)
    → MatchOption o ((old ≡ []) × (new ≡ [])) (λ x. old ≡ new ++ x ∷ []) → new ≡ without_last old
popped None old new h = h.1 ∙ ap without_last (sym h.0)
popped (Some x) old new h = sym (last_gone new x) ∙ ap without_last (sym h)
