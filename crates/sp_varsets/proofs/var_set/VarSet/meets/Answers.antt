use Rattle.std.proofs.Common.{◌≡◌, false, true, ◌+◌, ◌*◌, ◌<◌, ◌-◌, length, get_or, arith, rules, bit_and, ap, subst}
use Rattle.std.proofs.Common.{refl, ◌^◌, ◌≢◌, sym}
use Rattle.sp_varsets.specs.Members.{in_words}
use Rattle.sp_varsets.proofs.Words.{met_at, not_met, below_words}
use Rattle.sp_varsets.proofs.var_set.VarSet.meets.Goals as goal

pub returns-then-words-k-ne0 : goal.returns-then-words-k-ne0
returns-then-words-k-ne0 c =
    let a = c.args.self.now.words in
    let b = c.args.other.now.words in
    let small : get_or c.items-words.result.now c.words.k 0 < 2 ^ 64 = search rules in
    let ea = c.items-words.ensures in
    let eb = c.items-others.ensures in
    let some : bit_and (get_or c.args.self.now.words c.words.k 0) (get_or c.args.other.now.words (0 + c.words.k) 0)
    ≢ 0 = rw (Rattle.std.proofs.Common.zero-add c.words.k) (rw (sym ea, sym eb) c.if-words-k-ne0.true) in
    let (x, _, _, in_self, in_other) = met_at c.args.self.now.words c.args.other.now.words 0 c.words.k
    (rw (sym ea) small) some in
    let x0 : x - 64 * 0 ≡ x = omega arith in
    (λ h. (x, subst (λ z. in_words c.args.self.now.words z ≡ true) x0 in_self, in_other), λ h. refl)

pub returns : goal.returns
returns c = (
  λ h. absurd (let no : false ≡ true = h in cc),
  λ (x, p, q).
      let ea : length c.items-words.result.now ≡ length c.args.self.now.words = ap length c.items-words.ensures in
      let eb : length c.items-others.result.now ≡ length c.args.other.now.words = ap length c.items-others.ensures in
      let b = below_words c.args.self.now.words x p in
      let d = below_words c.args.other.now.words x q in
      let x0 : x ≡ x - 64 * 0 = omega arith in
      absurd (not_met c.args.self.now.words c.args.other.now.words 0 c.words.k
      (λ j h. rw (Rattle.std.proofs.Common.zero-add j)
      (rw (sym c.items-words.ensures, sym c.items-others.ensures) (c.words.invariant j h)))
      x (omega arith) (omega arith) (subst (λ z. in_words c.args.self.now.words z ≡ true) x0 p) q),
)
