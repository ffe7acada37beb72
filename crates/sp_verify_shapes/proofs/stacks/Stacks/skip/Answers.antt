use Rattle.std.proofs.Common.{None, sym, subst, arith, ◌<◌}
use Rattle.std.proofs.lemmas.Option.{none-some}
use Rattle.sp_verify_shapes.specs.Stacks.{IsJump, shape_of}
use Rattle.sp_verify_shapes.proofs.ListNumbers.{jump_one}
use Rattle.sp_verify_shapes.proofs.stacks.Stacks.skip.Goals as goal

pub returns-else-jump-gt0 : goal.returns-else-jump-gt0
returns-else-jump-gt0 c =
    let st = c.args.self.now in
    let below = c.in-Some.below in
    let some : 0 < c.args.left = c.requires.some in (
      omega arith,
      omega (arith, some),
      subst (λ ss. IsJump st ss (record { to = below; far = 1; fits = None })) (sym c.in-Some.ensures.0)
          (jump_one st below (shape_of c.in-Some._shape) None c.in-Some.ensures.1 (λ f e. absurd (none-some f e))),
    )
