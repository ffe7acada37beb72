use Rattle.std.proofs.Common.{sym, ap, ◌∙◌}
use Rattle.sp_verify_shapes.specs.Stacks.{number_at}
use Rattle.sp_verify_shapes.proofs.ListNumbers.{list_known}
use Rattle.sp_verify_shapes.proofs.stacks.Stacks.push.Goals as goal

pub returns-in-Some-clause-pushed : goal.returns-in-Some-clause-pushed
returns-in-Some-clause-pushed c =
    list_known c.args.self.now c.requires.stacks c.args.shape c.args.below c.in-Some.n c.key_of-key.ensures.small
    c.requires.below
    (ap (number_at c.args.self.now) (sym c.key_of-key.ensures.key) ∙ sym c.get.ensures.value ∙ sym c.copied.ensures
    ∙ c.in-Some.is)
