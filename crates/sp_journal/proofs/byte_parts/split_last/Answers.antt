use Rattle.std.proofs.Common.{◌≡◌, ◌≢◌, suc, add-one, ◌+◌, ◌-◌, ◌<◌, ◌∙◌, ◌++◌, ◌∷◌, length, length-drop, get_or, take}
use Rattle.std.proofs.Common.{drop, List, ℕ, Some, None, sym, ap, refl, arith}
use Rattle.std.proofs.lemmas.List.{take-append-drop, take_all}
use Rattle.std.proofs.Math.Seq.{drop-cons}
use Rattle.std.proofs.lemmas.Bool.{ne_eqb}
use Rattle.sp_journal.specs.Splits.{last_split}
use Rattle.sp_journal.proofs.SplitLaws.{last_after_none}
use Rattle.sp_journal.proofs.byte_parts.split_last.Goals as goal

-- none behind i, and c at i
found_at : (c i j : ℕ) (xs : List ℕ) → j ≡ i + 1 → i < length xs → get_or xs i 0 ≡ c → last_split c (drop j xs) ≡ None
    → last_split c xs ≡ Some (take i xs, drop j xs)
found_at c i j xs e l h n =
    let parts : xs ≡ take i xs ++ c ∷ drop j xs = sym (take-append-drop i xs)
    ∙ ap (λ (y : List ℕ). take i xs ++ y)
    (rw e (rw add-one (drop-cons xs i 0 l ∙ ap (λ (x : ℕ). x ∷ drop (suc i) xs) h))) in
    ap (last_split c) parts ∙ last_after_none c (take i xs) (drop j xs) n

not_at : (c i j : ℕ) (xs : List ℕ) → j ≡ i + 1 → i < length xs → get_or xs i 0 ≢ c → last_split c (drop j xs) ≡ None
    → last_split c (drop i xs) ≡ None
not_at c i j xs e l h n =
    let parts : drop i xs ≡ get_or xs i 0 ∷ drop j xs = rw e (rw add-one (drop-cons xs i 0 l)) in
    ap (last_split c) parts ∙ none_first (get_or xs i 0) (drop j xs) h n
  where
    none_first : (x : ℕ) (ys : List ℕ) → x ≢ c → last_split c ys ≡ None → last_split c (x ∷ ys) ≡ None
    none_first x ys h n = rw n (rw (ne_eqb x c h) refl)

pub returns-then-text-at : goal.returns-then-text-at
returns-then-text-at c =
    let xs = c.args.text.now in
    let t = c.loop-at-test.true in
    let a = c.loop-at.auto.at in
    let i : ℕ = c.loop-at.at - 1 in
    let e = found_at c.args.mark i c.loop-at.at xs (omega arith) (omega arith) c.if-text-at.true c.loop-at.invariant in
    let j : i + 1 ≡ c.loop-at.at = omega arith in
    let whole : take (length xs - (i + 1)) (drop (i + 1) xs) ≡ drop c.loop-at.at xs =
    take_all (length xs - (i + 1)) (drop (i + 1) xs) (let f = length-drop (i + 1) xs in omega arith)
    ∙ ap (λ k. drop k xs) j in
    (λ k. Some (take i xs, whole k)) ∙ sym e

pub loop-at-preserved : goal.loop-at-preserved
loop-at-preserved c = not_at c.args.mark (c.loop-at.at - 1) c.loop-at.at c.args.text.now
    (let t = c.loop-at-test.true in omega arith)
    (let t = c.loop-at-test.true in let a = c.loop-at.auto.at in omega arith) c.if-text-at.false c.loop-at.invariant

pub returns : goal.returns
returns c =
    let t = c.loop-at-test.false in
    let z : 0 ≡ c.loop-at.at = omega arith in
    sym (ap (λ i. last_split c.args.mark (drop i c.args.text.now)) z ∙ c.loop-at.invariant)
