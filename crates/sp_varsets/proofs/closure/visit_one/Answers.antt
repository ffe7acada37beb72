use Rattle.std.proofs.Common.{◌^◌, length, arith, refl}
use Rattle.std.proofs.lemmas.Option.{slice_get_read}
use Rattle.sp_varsets.proofs.Paths.{follows_visit}
use Rattle.sp_varsets.proofs.closure.visit_one.Goals as goal

pub returns : goal.returns
returns c =
    let inside = c.if-b-len.false in
    let r = c.requires.calls in
    let h = c.requires.hidden in
    let er = slice_get_read c.args.calls.now (length c.args.calls.now) c.args.b c.index-calls-b.result refl
    (omega arith)
    c.index-calls-b.is in
    let eh = slice_get_read c.args.hidden.now (length c.args.hidden.now) c.args.b c.index-hidden-b.result refl
    (omega arith) c.index-hidden-b.is in
    follows_visit c.args.calls.now c.args.hidden.now c.args.rows.now c.visit.new.rows c.args.b (2 ^ 32)
    c.index-calls-b.result c.index-hidden-b.result c.in-Ok.value er eh c.in-Ok.ensures
