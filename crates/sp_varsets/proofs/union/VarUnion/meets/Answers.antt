use Rattle.std.proofs.Common.{◌≡◌, false, true, ◌+◌, ◌*◌, ◌<◌, ◌≤◌, length, get_or, arith, rules, bit_and, ap, ◌∙◌}
use Rattle.std.proofs.Common.{subst, refl, ◌^◌, ◌≢◌, sym}
use Rattle.sp_varsets.specs.Members.{union_has}
use Rattle.sp_varsets.proofs.Words.{met_at, not_met, below_words}
use Rattle.sp_varsets.proofs.union.VarUnion.meets.Goals as goal

pub returns-then-self-k-ne0 : goal.returns-then-self-k-ne0
unfolding union_has
returns-then-self-k-ne0 c =
    let words : get_or c.args.self.now.words c.words.k 0 < 2 ^ 64 = search rules in
    let some : bit_and (get_or c.args.self.now.words c.words.k 0)
    (get_or c.args.set.now.words (c.args.self.now.first + c.words.k) 0) ≢ 0 =
    subst (λ z. bit_and (get_or c.args.self.now.words c.words.k 0) (get_or z (c.args.self.now.first + c.words.k) 0) ≢ 0)
    c.items-others.ensures c.if-self-k-ne0.true in
    let (x, from, to, in_self, in_set) = met_at c.args.self.now.words c.args.set.now.words c.args.self.now.first
    c.words.k words some in
    (λ h. (x, (omega (arith, from), omega (arith, to)), in_self, in_set), λ h. refl)

pub returns : goal.returns
unfolding union_has
returns c = (
  λ h. absurd (let no : false ≡ true = h in cc),
  λ (x, w, p, q).
      let low : 64 * c.args.self.now.first ≤ x = w.0 in
      let high : x < 64 * c.args.self.now.first + 8256 = w.1 in
      let others : length c.items-others.result.now ≡ length c.args.set.now.words = ap length c.items-others.ensures in
      let b = below_words c.args.set.now.words x q in
      absurd (not_met c.args.self.now.words c.args.set.now.words c.args.self.now.first c.words.k
      (λ j h. ap (λ z. bit_and (get_or c.args.self.now.words j 0) (get_or z (c.args.self.now.first + j) 0))
      (sym c.items-others.ensures) ∙ c.words.invariant j h)
      x low (omega arith) p q),
)
