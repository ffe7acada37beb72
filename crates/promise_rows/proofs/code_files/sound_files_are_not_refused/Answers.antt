use Rattle.promise_rows.proofs.FileRows.{never_a_text, sound_files_are_not_refused}
use Rattle.promise_rows.proofs.code_files.sound_files_are_not_refused.Goals as goal

pub returns-clause-file : goal.returns-clause-file
returns-clause-file c = λ x input out notes bytes code o held text short verified e. sound_files_are_not_refused o
    c.a_text_is_of_one_code.ensures bytes code held text short verified e

pub returns-clause-text : goal.returns-clause-text
returns-clause-text c = λ x input out notes bytes o held e. never_a_text o bytes held e
