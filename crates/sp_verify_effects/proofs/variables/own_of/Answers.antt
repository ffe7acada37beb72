use Rattle.std.proofs.Common.{◌≡◌, ◌∙◌, List, ℕ, length, refl, ap, subst, arith}
use Rattle.std.proofs.lemmas.Option.{slice_get_read}
use Rattle.sp_code.specs.declared.code.Parts.{Parts}
use Rattle.sp_verify_effects.specs.Variables.{AddsPairs, IsOwnOf}
use Rattle.sp_verify_effects.proofs.FactEdges.{first_all, first_more, none_first}
use Rattle.sp_verify_effects.proofs.variables.own_of.Goals as goal

pub loop-j-init : goal.loop-j-init
loop-j-init c = none_first c.items-layouts.result.now c.new-own.result.keys c.new-own.ensures.empty

pub loop-j-preserved : goal.loop-j-preserved
loop-j-preserved c =
    let ls = c.items-layouts.result.now in
    let j = c.loop-j.j in
    let l = c.index-layouts-j.result in
    let a = c.loop-j.own.keys in
    let b = c.put_own.new.own.keys in
    first_more ls j l a b (slice_get_read ls (length ls) j l refl c.loop-j-test.true c.index-layouts-j.is)
    c.loop-j.invariant
    (subst (λ (xs : List ℕ). AddsPairs a b (IsOwnOf l.entry xs)) c.items.ensures c.in-Ok.ensures)

pub returns : goal.returns
returns c =
    let code = c.args.code.now in
    let ls = c.items-layouts.result.now in
    let same : ls ≡ code.layouts = c.items-layouts.ensures ∙ ap (λ (z : Parts). z.layouts) c.parts.ensures.same in
    let e : c.loop-j.j ≡ length ls = omega arith in
    first_all code ls c.loop-j.j c.loop-j.own.keys same e c.loop-j.invariant
