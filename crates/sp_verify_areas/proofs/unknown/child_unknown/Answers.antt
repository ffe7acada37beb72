use Rattle.std.proofs.Common.{ℕ, List, subst}
use Rattle.sp_verify_rules.specs.Areas.{homes}
use Rattle.sp_verify_areas.specs.WrongNames.{Decides}
use Rattle.sp_verify_areas.specs.Unknown.{HasUnknown}
use Rattle.sp_verify_areas.proofs.KnownVariables.{unknown_first, unknown_second}
use Rattle.sp_verify_areas.proofs.unknown.child_unknown.Goals as goal

pub returns-then-has_unknown : goal.returns-then-has_unknown
returns-then-has_unknown c = λ a l.
    let code = c.args.code.now in
    let ch = c.args.child.now in
    let first = subst (λ (xs : List ℕ). Decides c.has_unknown.result
    (HasUnknown code.layouts xs (homes code a))) c.items.ensures (c.has_unknown.ensures a l) in
    unknown_first code.layouts ch.moved ch.shared (homes code a) c.has_unknown.result first c.if-has_unknown.true

pub returns : goal.returns
returns c = λ a l.
    let code = c.args.code.now in
    let ch = c.args.child.now in
    let first = subst (λ (xs : List ℕ). Decides c.has_unknown.result
    (HasUnknown code.layouts xs (homes code a))) c.items.ensures (c.has_unknown.ensures a l) in
    let second = subst (λ (xs : List ℕ). Decides c.has_unknown-2.result
    (HasUnknown code.layouts xs (homes code a))) c.items-2.ensures (c.has_unknown-2.ensures a l) in
    unknown_second code.layouts ch.moved ch.shared
    (homes code a) c.has_unknown.result c.has_unknown-2.result first c.if-has_unknown.false second
