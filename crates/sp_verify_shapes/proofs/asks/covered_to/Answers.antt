use Rattle.std.proofs.Common.{arith, get_or, ◌-◌}
use Rattle.std.proofs.lemmas.Option.{slice_get-get_or}
use Rattle.sp_code.specs.declared.code.Formal.TheVariants as formal
use Rattle.sp_verify_shapes.proofs.Asking.{covers_kept, covers_one}
use Rattle.sp_verify_shapes.proofs.asks.covered_to.Goals as goal

pub returns-then-covers : goal.returns-then-covers
returns-then-covers c =
    let fs = c.args.formals.now in (
      c.if-ask-k.true,
      covers_kept c.args.most c.in-Some.all fs c.args.k c.ask_at-ask.result (c.ask_at-ask.ensures fs c.requires.asks)
          c.in-Some.is (c.covers.ensures c.if-covers.true),
    )

pub returns-then-covers-2 : goal.returns-then-covers-2
returns-then-covers-2 c =
    let fs = c.args.formals.now in
    let some = c.requires.some in
    let within = c.requires.within in
    let d = formal.Value 0 in (
      omega (arith, some),
      covers_one c.args.most (get_or fs (c.args.k - 1) d) fs c.args.k some
          (slice_get-get_or fs (c.args.k - 1) d (omega (arith, some, within)))
          (c.covers-else-from-ask.ensures c.if-covers-2.true),
    )
