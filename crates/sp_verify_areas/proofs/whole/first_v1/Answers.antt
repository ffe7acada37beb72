use Rattle.std.proofs.Common.{◌≡◌, sym, subst}
use Rattle.sp_verify_rules.specs.NameRules.{BreaksV1}
use Rattle.sp_verify_areas.specs.LeastPlaces.{IsLeast, earlier_of}
use Rattle.sp_verify_areas.proofs.RuleSums.{least_of_all}
use Rattle.sp_verify_areas.proofs.whole.first_v1.Goals as goal

pub returns : goal.returns
returns c =
    let alone = c.in-Ok.value in
    let twice = c.in-Ok-first_twice.value in
    let unnamed = c.in-Ok-first_unnamed.value in
    let unknown = c.in-Ok-first_unknown.value in
    let range = c.first_out_of_range-range.result in
    let misplaced = c.first_misplaced-misplaced.result in
    let r = c.requires in
    let whole : c.least-5.result
    ≡ earlier_of (earlier_of (earlier_of alone c.args.orphan_block) (earlier_of twice unnamed))
    (earlier_of (earlier_of unknown range) misplaced) = cc in
    subst (IsLeast (BreaksV1 c.args.code.now)) (sym whole)
    (least_of_all c.args.code.now c.args.owners.now r.owners alone c.args.orphan_block twice unnamed unknown range
    misplaced c.in-Ok.ensures r.orphan_block c.in-Ok-first_twice.ensures c.in-Ok-first_unnamed.ensures
    c.in-Ok-first_unknown.ensures c.first_out_of_range-range.ensures c.first_misplaced-misplaced.ensures)
