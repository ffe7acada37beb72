use Rattle.std.proofs.Common.{◌≡◌, Some, subst, true}
use Rattle.std.proofs.lemmas.Option.{same_Some}
use Rattle.sp_verify_rules.specs.Rules.{fits_formal}
use Rattle.sp_verify_shapes.specs.Stacks.{list_of, shape_of}
use Rattle.sp_verify_shapes.proofs.ListNumbers.{jump_one, jump_both}
use Rattle.sp_verify_shapes.proofs.stacks.Stacks.jump_over.Goals as goal

pub returns-then-near-lt1000000000 : goal.returns-then-near-lt1000000000
returns-then-near-lt1000000000 c =
    jump_both c.args.self.now (shape_of c.args.shape) (list_of c.args.self.now c.args.below) c.jump_of-near.result
    c.jump_of-next.result c.formal_of.result c.lesser-both.result c.lesser.result c.jump_of-near.ensures
    c.jump_of-next.ensures c.formal_of.ensures c.lesser-both.ensures c.lesser.ensures

pub returns-else-near-gt0 : goal.returns-else-near-gt0
returns-else-near-gt0 c =
    let g = c.formal_of.result in
    jump_one c.args.self.now c.args.below (shape_of c.args.shape) (Some g) c.requires.there
    (λ f e. subst (λ h. fits_formal h (shape_of c.args.shape) ≡ true) (same_Some g f e) c.formal_of.ensures)
