use Rattle.promise_rows.proofs.FileRows.{sound_files_are_run}
use Rattle.promise_rows.proofs.code_files.sound_files_are_run.Goals as goal

pub returns : goal.returns
returns c = λ x out notes bytes code o q held text short verified. sound_files_are_run o q bytes code held text short
    verified
