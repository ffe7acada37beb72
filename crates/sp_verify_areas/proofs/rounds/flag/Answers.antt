use Rattle.std.proofs.Common.{◌≡◌, ℕ, Option, sym, ◌∙◌, subst}
use Rattle.sp_verify_areas.specs.Rounds.{with_flag}
use Rattle.sp_verify_areas.proofs.CycleFreedom.{set_old}
use Rattle.sp_verify_areas.proofs.rounds.flag.Goals as goal

pub returns-then-flag_at : goal.returns-then-flag_at
returns-then-flag_at c =
    let fs = c.args.flags.now in
    subst (λ (to : Option ℕ). fs ≡ with_flag fs to) (sym c.in-Some.is) (set_old fs c.in-Some.q
    (sym c.flag_at.ensures ∙ c.if-flag_at.true))
