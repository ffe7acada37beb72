use Rattle.std.proofs.Common.{◌≡◌, sym, subst, ◌+◌, ◌-◌, arith}
use Rattle.sp_verify_shapes.specs.Asks.{IsAsk}
use Rattle.sp_verify_shapes.proofs.asks.ask_at.Goals as goal

pub returns-in-Some : goal.returns-in-Some
returns-in-Some c = λ fs are.
    let some : c.args.k ≡ 0 → ⊥ = c.if-k-eq0.false in
    let e : c.args.k - 1 + 1 ≡ c.args.k = omega (arith, some) in
    let ask = c.in-Some.ask.now in
    subst (λ k. IsAsk fs k ask) e (are (c.args.k - 1) ask (sym c.in-Some.ensures))
