use Rattle.std.proofs.Common.{rules, ◌≡◌, ◌∙◌, ℕ, ◌<◌, true, nat_lt, ap, arith}
use Rattle.std.proofs.lemmas.Bool.Decides.{nat_tests}
use Rattle.std.proofs.lemmas.Map.Made.{filter_same_pairs}
use Rattle.sp_race.specs.Clocks.{number_at}
use Rattle.sp_race.proofs.ClockLaws.{count_in, kept_count}
use Rattle.sp_race.proofs.clock.Clock.forget.Goals as goal

asked_test : (a b : ℕ) → a < b → nat_lt a b ≡ true
asked_test a b l = grind (arith, nat_tests)

pub returns : goal.returns
returns c q asked =
    ap (λ es. count_in es q) (filter_same_pairs _ (λ e. nat_lt c.args.now (number_at c.args.until.now e.0)) _
    (λ k v b w f t. search rules) _ _ c.retain.ensures.filtered)
    ∙ kept_count (λ e. nat_lt c.args.now (number_at c.args.until.now e.0)) q
    (λ v. asked_test c.args.now (number_at c.args.until.now q) asked) c.args.self.now.counts.entries
