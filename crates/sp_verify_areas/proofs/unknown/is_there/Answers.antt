use Rattle.std.proofs.Common.{◌≡◌, true, subst}
use Rattle.sp_code.specs.declared.code.Parts.{Parts}
use Rattle.sp_verify_rules.specs.Areas.{homes}
use Rattle.sp_verify_rules.specs.NameRules.{has_variable}
use Rattle.sp_verify_areas.specs.Tree.{IsFrame, home_of}
use Rattle.sp_verify_areas.proofs.KnownVariables.{near_has}
use Rattle.sp_verify_areas.proofs.unknown.is_there.Goals as goal

pub returns-in-Some : goal.returns-in-Some
returns-in-Some c = λ a l t.
    let code = c.args.code.now in
    let f = c.in-Some.frame in
    near_has code.layouts c.args.x (homes code a) _ f
    (c.in-Some.ensures code a c.requires.homes c.requires.there l)
    (λ i. subst (λ (z : Parts). IsFrame z.layouts f → c.has_at.result ≡ true
    → has_variable z.layouts c.args.x (home_of f) ≡ true) c.parts.ensures.same c.has_at.ensures i t)
