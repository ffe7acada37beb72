use Rattle.std.proofs.Common.{◌≡◌, ◌≤◌, length, true, false, sym, subst, arith}
use Rattle.sp_code.specs.declared.code.Parts.{Parts}
use Rattle.sp_verify_rules.specs.Areas.{homes}
use Rattle.sp_verify_rules.specs.NameRules.{has_variable}
use Rattle.sp_verify_areas.specs.Tree.{IsFrame, home_of}
use Rattle.sp_base.proofs.Facts.{get_none}
use Rattle.sp_verify_areas.proofs.KnownVariables.{around_here, around_next, around_none, homes_short}
use Rattle.sp_verify_areas.proofs.unknown.is_around.Goals as goal

pub returns : goal.returns
returns c = λ a l.
    let code = c.args.code.now in
    let short = homes_short code c.args.homes.now c.args.q a c.requires.homes c.requires.there l in
    let long : length (homes code a) ≤ c.loop-up.up = omega (arith, short) in
    around_none code.layouts c.args.x (homes code a) c.loop-up.up long (c.loop-up.invariant a l)

pub returns-in-None : goal.returns-in-None
returns-in-None c = λ a l.
    let code = c.args.code.now in
    let found = c.in-None.ensures code a c.requires.homes c.requires.there l in
    around_none code.layouts c.args.x (homes code a) c.loop-up.up
    (get_none (homes code a) c.loop-up.up (sym found.home_is))
    (c.loop-up.invariant a l)

pub returns-then-has_variable : goal.returns-then-has_variable
returns-then-has_variable c = λ a l.
    let code = c.args.code.now in
    let f = c.in-Some.frame in
    around_here code.layouts c.args.x (homes code a) c.loop-up.up f
    (c.in-Some.ensures code a c.requires.homes c.requires.there l)
    (subst (λ (z : Parts). IsFrame z.layouts f
    → true ≡ has_variable z.layouts c.args.x (home_of f)) c.parts.ensures.same c.if-has_variable.ensures)

pub loop-up-preserved : goal.loop-up-preserved
loop-up-preserved c = λ a l.
    let code = c.args.code.now in
    let f = c.in-Some.frame in
    around_next code.layouts c.args.x (homes code a) c.loop-up.up f
    (c.in-Some.ensures code a c.requires.homes c.requires.there l) (c.loop-up.invariant a l)
    (subst (λ (z : Parts). IsFrame z.layouts f
    → false ≡ has_variable z.layouts c.args.x (home_of f)) c.parts.ensures.same c.if-has_variable.ensures)
