use Rattle.std.proofs.Common.{◌≡◌, ◌≢◌, ◌∙◌, ◌<◌, ◌^◌, get_or, arith, refl, sym, subst, inl, inr, true, false, bit_and}
use Rattle.std.proofs.Common.{w64}
use Rattle.std.specs.Int.{bit_not}
use Rattle.std.proofs.lemmas.Bool.{cases_eq}
use Rattle.sp_varsets.specs.Members.{in_words}
use Rattle.sp_varsets.proofs.WordChanges.{lacks, covers, word_covers}
use Rattle.sp_varsets.proofs.var_set.VarSet.includes.Goals as goal

pub words-preserved : goal.words-preserved
words-preserved c j i low small one =
    let fits : get_or c.args.self.now.words c.words.k 0 < 2 ^ 64 =
    subst (λ z. z < 2 ^ 64) c.word.ensures c.word.type_inv in
    let none : bit_and (get_or c.items-others.result.now c.words.k 0)
    (bit_not w64 (get_or c.args.self.now.words c.words.k 0)) ≡ 0 = rw c.word.ensures at c.if-others-k-ne0.false in
    elim (cases_eq j c.words.k) [
      | inl here ↦ rw here (word_covers (get_or c.args.self.now.words c.words.k 0)
          (get_or c.items-others.result.now c.words.k 0) i fits small none (rw here at one))
      | inr away ↦ c.words.invariant j i (omega arith) small one
    ]

pub returns-then-others-k-ne0 : goal.returns-then-others-k-ne0
returns-then-others-k-ne0 c =
    let fits : get_or c.args.self.now.words c.words.k 0 < 2 ^ 64 =
    subst (λ z. z < 2 ^ 64) c.word.ensures c.word.type_inv in
    let some : bit_and (get_or c.items-others.result.now c.words.k 0)
    (bit_not w64 (get_or c.args.self.now.words c.words.k 0)) ≢ 0 = rw c.word.ensures at c.if-others-k-ne0.true in
    let l = lacks c.args.self.now.words c.items-others.result.now c.words.k fits some in
    let m : in_words c.args.other.now.words l.0 ≡ true =
    subst (λ z. in_words z l.0 ≡ true) c.items-others.ensures l.1 in (
      λ h. absurd (let no : false ≡ true = h in cc),
      λ h. absurd (let yes = h l.0 m in let no = l.2 in let both : false ≡ true = sym no ∙ yes in cc),
    )

pub returns : goal.returns
returns c = (
  λ h x m. covers c.args.self.now.words c.items-others.result.now c.words.k (omega arith) c.words.invariant x
      (subst (λ z. in_words z x ≡ true) (sym c.items-others.ensures) m),
  λ h. refl,
)
