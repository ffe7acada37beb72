use Rattle.std.proofs.Common.{◌≡◌, length, ap, ◌∙◌, subst, arith}
use Rattle.sp_code.specs.declared.code.Parts.{Parts}
use Rattle.sp_verify_areas.specs.LeastPlaces.{IsLeast, Upto}
use Rattle.sp_verify_areas.specs.Unknown.{UnknownBy}
use Rattle.sp_verify_areas.proofs.KnownVariables.{all_unknown}
use Rattle.sp_verify_areas.proofs.unknown.first_unknown.Goals as goal

pub returns : goal.returns
returns c =
    let code = c.args.code.now in
    let m : c.len-count.result ≡ length code.instrs = c.len-count.ensures
    ∙ ap (λ (z : Parts). length z.instrs) c.parts.ensures.same in
    let e : c.loop-q.q ≡ length code.instrs = omega (arith, m) in
    all_unknown code c.loop-q.first (subst (λ n. IsLeast (Upto (UnknownBy code) n) c.loop-q.first) e c.loop-q.invariant)
