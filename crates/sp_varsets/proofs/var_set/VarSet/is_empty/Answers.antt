use Rattle.std.proofs.Common.{◌≡◌, false, true, ◌<◌, get_or, arith, rules, subst, refl, ◌^◌}
use Rattle.sp_varsets.specs.Members.{in_words}
use Rattle.sp_varsets.proofs.Words.{member_of_word, nowhere}
use Rattle.sp_varsets.proofs.var_set.VarSet.is_empty.Goals as goal

pub returns-then-words-k-ne0 : goal.returns-then-words-k-ne0
returns-then-words-k-ne0 c =
    let small : get_or c.items-words.result.now c.words.k 0 < 2 ^ 64 = search rules in
    let m = member_of_word c.items-words.result.now c.words.k small c.if-words-k-ne0.true in
    let e = c.items-words.ensures in (
      λ h. absurd (let no : false ≡ true = h in cc),
      λ h. absurd (let yes : in_words c.items-words.result.now m.0 ≡ true = m.1 in
          let no : in_words c.args.self.now.words m.0 ≡ false = h m.0 in
          let both = subst (λ z. in_words z m.0 ≡ true) e yes in cc),
    )

pub returns : goal.returns
returns c = (
  λ h x. subst (λ z. in_words z x ≡ false) c.items-words.ensures
      (nowhere c.items-words.result.now c.words.k (omega arith) c.words.invariant x),
  λ h. refl,
)
