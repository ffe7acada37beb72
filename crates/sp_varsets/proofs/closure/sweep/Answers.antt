use Rattle.std.proofs.Common.{length, arith, refl, []}
use Rattle.std.proofs.lemmas.Option.{slice_get_read}
use Rattle.sp_varsets.proofs.Paths.{pass_up_to_more}
use Rattle.sp_varsets.proofs.closure.sweep.Goals as goal

pub rows-preserved : goal.rows-preserved
rows-preserved c =
    let inside = c.rows-test.true in
    let r = c.requires.calls in
    let h = c.requires.hidden in
    let er = slice_get_read c.args.calls.now (length c.args.calls.now) c.rows.b c.index-calls-b.result refl
    (omega arith)
    c.index-calls-b.is in
    let eh = slice_get_read c.args.hidden.now (length c.args.hidden.now) c.rows.b c.index-hidden-b.result refl
    (omega arith) c.index-hidden-b.is in
    pass_up_to_more c.args.calls.now c.args.hidden.now c.args.rows.now c.rows.rows c.visit.new.rows c.rows.b
    c.index-calls-b.result c.index-hidden-b.result c.rows.changed c.in_ok-changed.field-0 er eh c.requires.small
    c.rows.invariant c.in_ok-changed.ensures

pub rows-init : goal.rows-init
rows-init c = record {
  follows = record { rows = refl; kept = λ b x h. h; led = λ b x h. ([], h) };
  none = λ e b x. refl;
  full = λ e b d x h. absurd (omega arith);
  some = λ e. cc;
}
