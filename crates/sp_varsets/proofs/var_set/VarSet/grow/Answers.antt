use Rattle.std.proofs.Common.{◌≡◌, ◌∙◌, ◌+◌, ◌∷◌, [], length, length-append, arith, ap}
use Rattle.sp_varsets.specs.Members.{in_words}
use Rattle.sp_varsets.proofs.WordChanges.{in_more}
use Rattle.sp_varsets.proofs.var_set.VarSet.grow.Goals as goal

pub words-preserved : goal.words-preserved
words-preserved c =
    let e = c.in_ok-push.ensures.ok in
    let n : length c.push.new.self ≡ length c.words.self.words + 1 = ap length e
    ∙ length-append c.words.self.words (0 ∷ []) in
    let same = c.words.invariant.0 in
    (omega arith, λ x. ap (λ ws. in_words ws x) e ∙ (in_more c.words.self.words x ∙ c.words.invariant.1 x))
