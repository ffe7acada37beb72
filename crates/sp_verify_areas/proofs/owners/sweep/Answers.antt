use Rattle.std.proofs.Common.{◌≡◌, ◌∙◌, List, length, ap, subst, arith}
use Rattle.sp_code.specs.declared.code.Parts.{Parts}
use Rattle.sp_verify_areas.specs.declared.owners.Owner.{Owner}
use Rattle.sp_verify_areas.specs.Owners.{AreBegun, EachFirst, IsAllSpread, IsSpread, IsSpreadBy, Propagates}
use Rattle.sp_verify_areas.proofs.OwnerLaws.{spreads_as}
use Rattle.sp_verify_areas.proofs.OwnerSteps.{each_more, each_none}
use Rattle.sp_verify_areas.proofs.owners.sweep.Goals as goal

pub loop-p-init : goal.loop-p-init
loop-p-init c =
    let code = c.args.code.now in
    each_none code (AreBegun code (length code.layouts)) (IsSpread code) c.args.owners.now
    c.begin-changed.new.owners c.begin-changed.result c.begin-changed.ensures

pub visit-changed-requires-clause-just : goal.visit-changed-requires-clause-just
visit-changed-requires-clause-just c = c.loop-p.invariant.just

pub loop-p-preserved : goal.loop-p-preserved
loop-p-preserved c =
    let code = c.args.code.now in
    each_more code (AreBegun code (length code.layouts)) (IsSpread code) c.args.owners.now c.loop-p.owners
    c.visit-changed.new.owners c.loop-p.p c.loop-p.changed c.visit-changed.result c.loop-p.invariant
    c.visit-changed.ensures

pub loop-t-init : goal.loop-t-init
loop-t-init c =
    let code = c.args.code.now in
    let begun = AreBegun code (length code.layouts) in
    let m : c.len-p-end.result ≡ length code.instrs = c.len-p-end.ensures
    ∙ ap (λ (z : Parts). length z.instrs) c.parts-parts.ensures.same in
    let e : c.loop-p.p ≡ length code.instrs = omega (arith, m) in
    each_none code (λ (os : List Owner). begun os × EachFirst (IsSpread code) (length code.instrs) os)
    (IsSpreadBy code) c.args.owners.now c.loop-p.owners c.loop-p.changed
    (subst (λ n. Propagates code c.args.owners.now c.loop-p.owners
    (λ (os : List Owner). begun os × EachFirst (IsSpread code) n os) c.loop-p.changed) e c.loop-p.invariant)

pub visit_table-changed-requires-clause-just : goal.visit_table-changed-requires-clause-just
visit_table-changed-requires-clause-just c = c.loop-t.invariant.just

pub loop-t-preserved : goal.loop-t-preserved
loop-t-preserved c =
    let code = c.args.code.now in
    each_more code (λ (os : List Owner). AreBegun code (length code.layouts) os
    × EachFirst (IsSpread code) (length code.instrs) os) (IsSpreadBy code) c.args.owners.now c.loop-t.owners
    c.visit_table-changed.new.owners c.loop-t.t c.loop-t.changed c.visit_table-changed.result c.loop-t.invariant
    c.visit_table-changed.ensures

pub returns : goal.returns
returns c =
    let code = c.args.code.now in
    let m : c.len-t-end.result ≡ length code.forks = c.len-t-end.ensures
    ∙ ap (λ (z : Parts). length z.forks) c.parts-parts.ensures.same in
    let e : c.loop-t.t ≡ length code.forks = omega (arith, m) in
    spreads_as code c.args.owners.now c.loop-t.owners (λ (os : List Owner). (AreBegun code (length code.layouts) os
    × EachFirst (IsSpread code) (length code.instrs) os) × EachFirst (IsSpreadBy code) c.loop-t.t os)
    (IsAllSpread code) c.loop-t.changed (λ same ((begun, spread), tables). record {
      begun = begun;
      spread = spread;
      tables = subst (λ n. EachFirst (IsSpreadBy code) n c.loop-t.owners) e tables;
    }) c.loop-t.invariant
