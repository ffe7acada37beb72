use Rattle.sp_words.specs.Words.{command_names}
use Rattle.sp_words.proofs.Readings.{none_named}
use Rattle.sp_words.proofs.reader.command_named.Goals as goal

pub returns-in_default : goal.returns-in_default
returns-in_default c = none_named command_names c.args.word.now (
  c.in_default.not-check,
  (
    c.in_default.not-run,
    (
      c.in_default.not-code,
      (
        c.in_default.not-sets,
        (
          c.in_default.not-format,
          (
            c.in_default.not-gen,
            (
              c.in_default.not-replay,
              (
                c.in_default.not-witness,
                (
                  c.in_default.not-build,
                  (c.in_default.not-exec, (c.in_default.not-trace, (c.in_default.not-where₀, tt))),
                ),
              ),
            ),
          ),
        ),
      ),
    ),
  ),
)
