use Rattle.std.proofs.Common.{Ok, Err}
use Rattle.sp_tree.specs.CheckedOf.{program_of}
use Rattle.sp_front.proofs.Ending.{same_sets, same_answer, made, stopped}
use Rattle.sp_front.proofs.to_code.compiled.Goals as goal

pub generate-requires : goal.generate-requires
generate-requires c =
    let a = c.in_ok-accepted.accepted in
    same_sets c.checked.result.now a.checked c.sets.result.now a.sets c.checked.ensures c.sets.ensures
    c.in_ok-accepted.ensures.compiles.1

pub returns-in-Ok : goal.returns-in-Ok
returns-in-Ok c =
    let a = c.in_ok-accepted.accepted in
    let h = c.in_ok-accepted.ensures.compiles in
    made c.args.text.now a c.in-Ok.code h.0 h.1
    (same_answer c.checked.result.now a.checked (Ok c.in-Ok.code) c.checked.ensures c.in-Ok.ensures)

pub returns-in-Err : goal.returns-in-Err
returns-in-Err c =
    let a = c.in_ok-accepted.accepted in
    stopped c.args.text.now (program_of a.checked) c.in-Err.error c.halt_of.result c.in_ok-accepted.ensures.compiles.0
    (same_answer c.checked.result.now a.checked (Err c.in-Err.error) c.checked.ensures c.in-Err.ensures)
    c.halt_of.ensures
