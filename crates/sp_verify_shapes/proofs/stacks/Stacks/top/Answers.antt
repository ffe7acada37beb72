use Rattle.std.proofs.Common.{◌≡◌, sym, ◌+◌, ◌-◌, arith}
use Rattle.sp_verify_shapes.proofs.ListNumbers.{list_of_cell}
use Rattle.sp_verify_shapes.proofs.stacks.Stacks.top.Goals as goal

pub returns-in-Some : goal.returns-in-Some
returns-in-Some c =
    let some : c.args.n ≡ 0 → ⊥ = c.if-n-eq0.false in
    let e : c.args.n ≡ c.args.n - 1 + 1 = omega (arith, some) in
    let r = list_of_cell c.args.self.now c.requires.stacks (c.args.n - 1) c.in-Some.cell.now (sym c.in-Some.ensures)
    c.args.n e in
    (r.0, r.1)
