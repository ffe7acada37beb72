use Rattle.std.proofs.Common.{ℕ, ◌≤◌, subst, ◌∙◌}
use Rattle.sp_tree.specs.CheckedOf.{program_of}
use Rattle.sp_tree.specs.Bare.{without_places}
use Rattle.sp_code.specs.Places.{tree_length}
use Rattle.sp_generate.specs.CappedLength.{capped_length}
use Rattle.sp_generate.proofs.Limits.{not_long, told_within}
use Rattle.sp_generate.proofs.StatementCode.{is_code}
use Rattle.sp_generate.proofs.program.generate.Goals as goal

pub returns-in-Ok : goal.returns-in-Ok
returns-in-Ok c =
    let tree = program_of c.args.checked.now in
    let few = not_long c.is_too_long.result c.length-n.result c.is_too_long.ensures c.if-is_too_long.false in
    let low : capped_length (tree_length (without_places tree)) ≤ 1048576 =
    subst (λ (n : ℕ). n ≤ 1048576) c.length-n.ensures few in
    let code = is_code tree c.args.sets.now c.requires in
    (told_within (tree_length (without_places tree)) low, (code.0, c.in-Ok.ensures ∙ code.1))
