use Rattle.std.proofs.Common.{◌≡◌, sym, subst, ◌+◌, ◌-◌, arith}
use Rattle.sp_verify_shapes.specs.Stacks.{IsJump, list_of}
use Rattle.sp_verify_shapes.proofs.stacks.Stacks.jump_of.Goals as goal

pub returns-in-Some : goal.returns-in-Some
returns-in-Some c =
    let some : c.args.n ≡ 0 → ⊥ = c.if-n-eq0.false in
    let e : c.args.n - 1 + 1 ≡ c.args.n = omega (arith, some) in
    let cell = c.in-Some.cell.now in
    subst (λ n. IsJump c.args.self.now (list_of c.args.self.now n) cell.jump) e
    (c.requires.stacks.jumps (c.args.n - 1) cell (sym c.in-Some.ensures))
