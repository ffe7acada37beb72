use Rattle.std.proofs.Common.{rules}
use Rattle.sp_types.proofs.FieldTables.{put}
use Rattle.sp_types.proofs.field_table.note.Goals as goal

pub returns-in_ok-insert : goal.returns-in_ok-insert
returns-in_ok-insert c = put c.args.index.now c.insert.new.self c.args.n c.args.field.now (search rules) (search rules)
