use Rattle.std.proofs.Common.{◌∙◌, ◌++◌, ℕ, ap, refl}
use Rattle.sp_kernel.specs.Kernels.{system_of}
use Rattle.sp_replay.specs.TraceAnswers.{last_in}
use Rattle.sp_base.proofs.Additions.{joined}
use Rattle.sp_where.specs.KnownOf.{known_of}
use Rattle.sp_where.specs.States.{first_line, lines_below}
use Rattle.sp_where.proofs.state.put_named.Goals as goal

pub returns-in-Some : goal.returns-in-Some
returns-in-Some c = λ kept.
    let w = known_of c.args.known.now in
    let old = c.args.out.now.items.items in
    let x = (system_of c.args.state.now.kernel).condition c.args.process in
    let line : ℕ → _ = λ (l : ℕ). first_line w c.args.fault c.args.name.now c.args.process l x in
    let two = c.put_below.ensures x c.in-Some.ensures kept in
    let one = c.put_first_line.ensures x c.in-Some.ensures two.0 in (
      one.0,
      joined old (line (last_in c.args.lasts.now c.args.process)) (lines_below w c.args.process x)
          (one.1 ∙ ap (λ (l : ℕ). old ++ line l) c.last_in-last.ensures) two.1 refl,
    )
