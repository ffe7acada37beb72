use Rattle.std.proofs.Common.{◌≡◌, subst, ℕ, Some, arith}
use Rattle.std.specs.Prelude.{cond}
use Rattle.std.specs.Ordering.{nat_cmp}
use Rattle.std.specs.BTreeMap.{get, is_at}
use Rattle.sp_verify_effects.proofs.WalkLaws.{walk_put}
use Rattle.sp_verify_effects.proofs.walks.put.Goals as goal

pub returns-in-Ok : goal.returns-in-Ok
returns-in-Ok c = λ st P h none.
    let old = c.args.walks.now in
    let new = c.insert.new.self in
    walk_put st P old new c.args.entry c.args.list c.args.count (let r = c.ranges.entry.fits in omega (arith, r))
    (let r = c.ranges.list.fits in omega (arith, r))
    (subst (λ z. (q : ℕ) → get nat_cmp new q ≡ cond (is_at (nat_cmp z) q) (Some c.args.count) (get nat_cmp old q))
    c.walk_key-key.ensures c.in-Ok.ensures.updates.0) h none
