use Rattle.std.proofs.Common.{◌≡◌, ℕ, ◌+◌, ◌*◌, ◌/◌, ◌<◌, ◌≤◌, ◌-◌, ◌⊎◌, ◌||◌, length, get_or, arith, inl, inr, bit_or}
use Rattle.std.proofs.Common.{ap, ◌∙◌, subst}
use Rattle.std.proofs.lemmas.Bool.{cases_lt}
use Rattle.sp_varsets.specs.Members.{union_has, in_words}
use Rattle.sp_varsets.proofs.Words.{joined_words}
use Rattle.sp_varsets.proofs.union.VarUnion.add.Goals as goal

pub returns-clause-first : goal.returns-clause-first
returns-clause-first c = c.words.invariant.0

pub returns-clause-added : goal.returns-clause-added
unfolding union_has
returns-clause-added c x w =
    let first : ℕ = c.args.self.now.first in
    let n : ℕ = c.min-count.result in
    let low : 64 * first ≤ x = w.0 in
    let high : x < 64 * first + 8256 = w.1 in
    let same : c.words.k ≡ n = omega arith in
    let others : length c.items-others.result.now ≡ length c.args.set.now.words = ap length c.items-others.ensures in
    let place : (x / 64 < first + c.words.k) ⊎ (length c.args.set.now.words ≤ x / 64) =
    elim (cases_lt (x / 64) (first + c.words.k)) [ inl h ↦ inl h | inr h ↦ inr (omega arith) ] in
    let (same_first, _, more, kept) = c.words.invariant in
    let all = joined_words c.args.self.now.words c.words.self.words c.args.set.now.words first c.words.k
    (λ j h. more j h ∙ ap (λ z. bit_or (get_or c.args.self.now.words j 0) (get_or z (first + j) 0))
    c.items-others.ensures)
    kept x low place in
    subst (λ f. in_words c.words.self.words (x - 64 * f) ≡ in_words c.args.self.now.words (x - 64 * first)
    || in_words c.args.set.now.words x) (Rattle.std.proofs.Common.sym same_first) all
