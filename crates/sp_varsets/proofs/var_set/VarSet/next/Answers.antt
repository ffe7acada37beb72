use Rattle.std.proofs.Common.{◌≡◌, false, ℕ, ◌+◌, ◌*◌, ◌/◌, ◌<◌, ◌≤◌, arith, rules, ◌^◌, inl, inr, slice_get, Option}
use Rattle.std.proofs.Common.{Some, None, MatchOption}
use Rattle.std.proofs.lemmas.Bool.{cases_lt}
use Rattle.sp_varsets.specs.declared.var_set.VarSet.{VarSet}
use Rattle.sp_varsets.specs.Members.{has, in_words, IsNextMember}
use Rattle.sp_varsets.proofs.Words.{next_here, none_here, none_past}
use Rattle.sp_varsets.proofs.var_set.VarSet.next.Goals as goal
use Rattle.sp_varsets.proofs.var_set.VarSet.next.Goals.{in-Some+else-rest-ne0, in_default}

pub overflow_add-result : goal.overflow_add-result
overflow_add-result c =
    let e : slice_get c.args.self.now.words (c.args.from / 64) ≡ Some c.in-Some.word.now = search rules in
    let small : c.in-Some.word.now < 2 ^ 64 = search rules in
    let n = next_here c.args.self.now.words c.args.from c.in-Some.word.now e small c.if-rest-ne0.true in
    let low = n.0 in
    let fits : c.args.from < 2 ^ 32 = search rules in
    omega arith

pub returns-then-rest-ne0 : goal.returns-then-rest-ne0
returns-then-rest-ne0 c =
    let e : slice_get c.args.self.now.words (c.args.from / 64) ≡ Some c.in-Some.word.now = search rules in
    let small : c.in-Some.word.now < 2 ^ 64 = search rules in
    let n = next_here c.args.self.now.words c.args.from c.in-Some.word.now e small c.if-rest-ne0.true in
    (omega arith, n.1, n.2)

-- where no member stands in the first word, the next one is that of the words after it
later : (s : VarSet) (from : ℕ) (o : Option ℕ)
    → ((x : ℕ) → from ≤ x → x < 64 * (from / 64) + 64 → in_words s.words x ≡ false)
    → MatchOption o ((x : ℕ) → 64 * (from / 64) + 64 ≤ x → x < 2 ^ 32 → has s x ≡ false)
    (λ y. IsNextMember s (64 * (from / 64) + 64) y)
    → MatchOption o ((x : ℕ) → from ≤ x → x < 2 ^ 32 → has s x ≡ false) (λ y. IsNextMember s from y)
later s from None first rest = λ x low high. elim (cases_lt x (64 * (from / 64) + 64))
    [ inl h ↦ first x low h | inr h ↦ rest x h high ]
later s from (Some y) first rest = let r = rest.0 in (
  omega arith,
  rest.1,
  λ x low high. elim (cases_lt x (64 * (from / 64) + 64))
      [ inl h ↦ first x low h | inr h ↦ rest.2 x h high ],
)

pub returns : goal.returns
returns c = later c.args.self.now c.args.from c.next_after.result first c.next_after.ensures
  where
    first : (x : ℕ) → c.args.from ≤ x → x < 64 * (c.args.from / 64) + 64 → in_words c.args.self.now.words x ≡ false
    first = elim c.match-get.branch [
      | in-Some+else-rest-ne0 w ↦
          let e : slice_get c.args.self.now.words (c.args.from / 64) ≡ Some w.in-Some.word.now = search rules in
          none_here c.args.self.now.words c.args.from w.in-Some.word.now e w.if-rest-ne0.false
      | in_default w ↦
          let e : slice_get c.args.self.now.words (c.args.from / 64) ≡ None = search rules in
          λ x low high. none_past c.args.self.now.words (c.args.from / 64) e x (omega arith)
    ]
