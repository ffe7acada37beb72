use Rattle.std.proofs.Common.{◌++◌, refl, codes}
use Rattle.sp_journal.specs.Births.{births}
use Rattle.sp_base.proofs.Additions.{joined}
use Rattle.sp_where.specs.States.{line_start}
use Rattle.sp_where.specs.Values.{cell_channel_text}
use Rattle.sp_where.proofs.state.put_waiting.Goals as goal

pub returns : goal.returns
returns c = λ kept.
    let two = c.put_offer.ensures kept in
    let one = c.put_start.ensures two.0 in (
      one.0,
      joined c.args.out.now.items.items (line_start c.args.name.now c.args.at)
          (c.args.word.now ++ cell_channel_text (births c.args.known.now.ledger.now.journal.entries) c.args.channel
          ++ codes "\n") one.1 two.1 refl,
    )
