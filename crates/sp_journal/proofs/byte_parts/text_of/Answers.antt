use Rattle.std.proofs.lemmas.Str.{IsUtf8-from_ascii}
use Rattle.sp_journal.proofs.byte_parts.text_of.Goals as goal

pub returns-in-Err : goal.returns-in-Err
returns-in-Err c = λ h. absurd (c.in-Err.ensures.cases.0 (IsUtf8-from_ascii c.args.bytes.now h))
