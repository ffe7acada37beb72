use Rattle.std.proofs.Common.{◌≡◌, ◌∙◌, List, ap, sym, false, subst}
use Rattle.sp_journal.specs.declared.entry.Entry.{Entry}
use Rattle.sp_code.specs.declared.code.Parts.{Parts}
use Rattle.sp_code.specs.Sound.{run_of}
use Rattle.sp_machine.specs.FirstFrames.{first_fits}
use Rattle.sp_replay.specs.Replays.{Replays}
use Rattle.sp_replay.proofs.replayer.replay.Goals as goal

pub returns : goal.returns
returns c =
    let large : first_fits c.args.code.value c.args.limits.now ≡ false =
    ap (λ (p : Parts). first_fits p c.args.limits.now) (sym c.deref.ensures) ∙ sym c.first_fits.ensures
    ∙ c.if-first_fits.false in
    subst (λ (es : List Entry). Replays (run_of c.args.code.value c.args.input.value c.args.limits.now) es
    c.follow_too_large.result) c.items.ensures
    (c.follow_too_large.ensures c.args.code.value c.args.input.value c.args.limits.now large)
