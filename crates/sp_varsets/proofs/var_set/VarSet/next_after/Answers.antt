use Rattle.std.proofs.Common.{◌≡◌, false, true, ℕ, ◌+◌, ◌*◌, ◌/◌, ◌<◌, ◌≤◌, length, get_or, arith, rules, ap, subst}
use Rattle.std.proofs.Common.{◌^◌, w64}
use Rattle.std.specs.Int.{trailing_zeros}
use Rattle.std.proofs.lemmas.Bool.{false_from_ne_true}
use Rattle.sp_varsets.specs.Members.{in_words}
use Rattle.sp_varsets.proofs.Words.{next_later, below_words, in_word_zero}
use Rattle.sp_varsets.proofs.var_set.VarSet.next_after.Goals as goal

pub returns-then-k-ge-MOST_WORDS : goal.returns-then-k-ge-MOST_WORDS
returns-then-k-ge-MOST_WORDS c x low high =
    false_from_ne_true _ (λ m.
    let large = c.if-k-ge-MOST_WORDS.true in
    let z = subst (λ ws. get_or ws (x / 64) 0 ≡ 0) c.items-words.ensures
    (c.words.invariant (x / 64) (omega arith) (omega arith)) in
    in_word_zero c.args.self.now.words x z m)

pub returns-then-words-k-ne0 : goal.returns-then-words-k-ne0
returns-then-words-k-ne0 c =
    let small : get_or c.items-words.result.now c.words.k 0 < 2 ^ 64 = search rules in
    let n = next_later c.items-words.result.now c.args.at c.words.k (omega arith) small c.if-words-k-ne0.true
    c.words.invariant in
    subst (λ ws. (64 * c.args.at + 64 ≤ c.words.k * 64
    + trailing_zeros w64 (get_or c.items-words.result.now c.words.k 0))
    × (in_words ws (c.words.k * 64 + trailing_zeros w64 (get_or c.items-words.result.now c.words.k 0)) ≡ true)
    × ((x : ℕ) → 64 * c.args.at + 64 ≤ x
    → x < c.words.k * 64 + trailing_zeros w64 (get_or c.items-words.result.now c.words.k 0)
    → in_words ws x ≡ false)) c.items-words.ensures n

pub returns : goal.returns
returns c x low high =
    false_from_ne_true _ (λ m.
    let b = below_words c.args.self.now.words x m in
    let e : length c.items-words.result.now ≡ length c.args.self.now.words = ap length c.items-words.ensures in
    let z = subst (λ ws. get_or ws (x / 64) 0 ≡ 0) c.items-words.ensures
    (c.words.invariant (x / 64) (omega arith) (omega arith)) in
    in_word_zero c.args.self.now.words x z m)
