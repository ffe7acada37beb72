use Rattle.std.proofs.Common.{◌≡◌, drop}
use Rattle.sp_outside.specs.Files.{bytes_under}
use Rattle.sp_outside.proofs.memory_library.find.Given as goal

abbrev pub invariant-loop-file : goal.invariant-loop-file
invariant-loop-file l = bytes_under (drop l.file-index l.files) l.name ≡ bytes_under l.files l.name
