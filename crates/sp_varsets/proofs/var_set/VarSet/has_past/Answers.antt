use Rattle.std.proofs.Common.{◌≡◌, ◌+◌, ◌*◌, ◌/◌, ◌<◌, ◌^◌, true, length, get_or, arith, rules, refl, subst, ap}
use Rattle.sp_varsets.specs.Members.{in_words}
use Rattle.sp_varsets.proofs.Words.{some_bit, in_word, below_words, in_word_zero}
use Rattle.sp_varsets.proofs.var_set.VarSet.has_past.Goals as goal

pub returns-then-words-k-ne0 : goal.returns-then-words-k-ne0
returns-then-words-k-ne0 c =
    let small : get_or c.items-words.result.now c.words.k 0 < 2 ^ 64 = search rules in
    let b = some_bit (get_or c.items-words.result.now c.words.k 0) small c.if-words-k-ne0.true in
    let m = in_word c.items-words.result.now c.words.k b.0 (64 * c.words.k + b.0) b.1 refl b.2 in (
      λ h. (
        64 * c.words.k + b.0,
        omega arith,
        subst (λ ws. in_words ws (64 * c.words.k + b.0) ≡ true) c.items-words.ensures m,
      ),
      λ h. refl,
    )

pub returns : goal.returns
returns c = (
  λ h. absurd (cc h),
  λ (x, low, m). absurd (
      let b = below_words c.args.self.now.words x m in
      let e : length c.items-words.result.now ≡ length c.args.self.now.words = ap length c.items-words.ensures in
      let z = subst (λ ws. get_or ws (x / 64) 0 ≡ 0) c.items-words.ensures
      (c.words.invariant (x / 64) (omega arith) (omega arith)) in
      in_word_zero c.args.self.now.words x z m
      ),
)
