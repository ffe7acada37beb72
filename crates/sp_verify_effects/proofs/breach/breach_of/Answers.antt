use Rattle.std.proofs.Common.{◌≡◌, ap, sym, ◌∙◌, subst, ℕ, true}
use Rattle.std.specs.Prelude.{slice_get}
use Rattle.std.proofs.lemmas.Option.{none-some}
use Rattle.sp_code.specs.declared.code.Parts.{Parts}
use Rattle.sp_verify_rules.specs.Areas.{child_of}
use Rattle.sp_verify_rules.specs.NameRules.{IsChild}
use Rattle.sp_verify_rules.specs.Verdict.{BreaksV6}
use Rattle.sp_verify_areas.specs.LeastPlaces.{IsLeast}
use Rattle.sp_verify_effects.proofs.Beyond.{child_breaks}
use Rattle.sp_verify_effects.proofs.breach.breach_of.Goals as goal

pub returns-in-None : goal.returns-in-None
returns-in-None c = λ p e. absurd (none-some p e)

pub returns-in-Ok : goal.returns-in-Ok
returns-in-Ok c = λ p e.
    let g = c.args.g.now in
    let code = g.code.now in
    let known = c.requires.known in
    let ch = c.in-Some.child.now in
    let is : IsChild code c.args.t c.args.k ch = ap (λ (z : Parts). child_of (slice_get z.forks c.args.t) c.args.k)
    (sym c.parts-parts.ensures.same) ∙ sym c.in-Some.ensures in
    let ((begins, fails), _) = subst (IsLeast (λ (q : ℕ). (ch.entry ≡ q) × (c.in-Ok.value ≡ true))) e
    c.place_if.ensures in
    subst (BreaksV6 code) begins
    (child_breaks code known.kept g.owners.now known.owners c.args.t c.args.k ch is c.args.fact c.requires.done
    c.if-child-fact.true (sym c.in-Ok.ensures ∙ fails))

pub returns-else-child-fact : goal.returns-else-child-fact
returns-else-child-fact c = λ p e. absurd (none-some p e)
