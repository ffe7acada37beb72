use Rattle.sp_words.specs.Options.{shows}
use Rattle.sp_words.proofs.Readings.{none_named}
use Rattle.sp_words.proofs.arguments.show_named.Goals as goal

pub returns-in_default : goal.returns-in_default
returns-in_default c = none_named shows c.args.text.now (
  c.in_default.not-end,
  (
    c.in_default.not-timeline,
    (
      c.in_default.not-census,
      (
        c.in_default.not-tree,
        (c.in_default.not-waiting, (c.in_default.not-all, (c.in_default.not-journal, tt))),
      ),
    ),
  ),
)
