use Rattle.std.proofs.Common.{sym, ◌∙◌}
use Rattle.sp_verify_areas.proofs.CycleFreedom.{broken_is, no_round, not_broken}
use Rattle.sp_verify_areas.proofs.rounds.breaks.Goals as goal

pub returns-then-not-has_owner : goal.returns-then-not-has_owner
returns-then-not-has_owner c = (
  λ t. absurd (cc t),
  λ b. let no = sym c.has_owner.ensures ∙ c.if-not-has_owner.true in
      absurd (not_broken c.args.code.now c.args.owners.now c.requires.owners c.args.p no b),
)

pub returns-then-falls_from : goal.returns-then-falls_from
returns-then-falls_from c = (
  λ t. absurd (cc t),
  λ b. absurd (no_round c.args.code.now c.args.numbers.now c.requires.numbers c.args.p
      (c.falls_from.ensures c.if-falls_from.true) b),
)

pub returns : goal.returns
returns c =
    broken_is c.args.code.now c.args.owners.now c.requires.owners c.args.p c.in-Ok.value c.flag_at.result
    (sym c.has_owner.ensures ∙ c.if-not-has_owner.false)
    c.in-Ok.ensures.0 c.in-Ok.ensures.1 c.flag_at.ensures
