use Rattle.std.proofs.Common.{◌||◌, ◌∙◌, ap}
use Rattle.sp_varsets.specs.Members.{has, union_has}
use Rattle.sp_varsets.specs.AreSets.{targets_of, expressions_of}
use Rattle.sp_interfere.specs.Tests.{is_target, is_used}
use Rattle.sp_interfere.proofs.Clashes.{joins_more, added_both}
use Rattle.sp_interfere.proofs.parts.add_part.Goals as goal

pub returns-clause-targets : goal.returns-clause-targets
returns-clause-targets c = λ numbers j.
    joins_more c.args.targets.now c.add.new.self (is_target c.args.s.now) numbers c.args.n j c.add.ensures.first
    (λ x i. c.add.ensures.added x i ∙ ap (λ a. union_has c.args.targets.now x || has a x) c.targets.ensures)

pub returns-clause-used : goal.returns-clause-used
returns-clause-used c = λ numbers j.
    joins_more c.args.used.now c.add-3.new.self (is_used c.args.s.now) numbers c.args.n j
    (c.add-3.ensures.first ∙ c.add-2.ensures.first)
    (added_both c.args.used.now c.add-2.new.self c.add-3.new.self (has (targets_of c.args.s.now c.args.n))
    (has (expressions_of c.args.s.now c.args.n)) c.add-2.ensures.first c.add-3.ensures.first
    (λ x i. c.add-2.ensures.added x i ∙ ap (λ a. union_has c.args.used.now x || has a x) c.targets-2.ensures)
    (λ x i. c.add-3.ensures.added x i ∙ ap (λ a. union_has c.add-2.new.self x || has a x) c.expressions.ensures))
