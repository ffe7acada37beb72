-- None of this belongs to what the program promises: it is for contracts between crates.
-- What reading gives, as it is kept in memory. The contracts of items and of the machine's input cite it.
use Rattle.sp_machine.specs.declared.items.ReadResult.{ReadResult}
use Rattle.sp_machine.specs.declared.items.ReadResult.TheVariants as read_result
use Rattle.sp_tree.specs.Items as i

abbrev pub read_result_of : ReadResult → i.ReadResult
read_result_of (read_result.ReadItem n bytes) = i.ReadItem n bytes
read_result_of (read_result.ReadFault f) = i.ReadFault f
