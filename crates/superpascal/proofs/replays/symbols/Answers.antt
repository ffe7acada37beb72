use Rattle.sp_tree.specs.CheckedOf.{program_of}
use Rattle.superpascal.proofs.MarkFacts.{marked_code, marked_symbols}
use Rattle.superpascal.proofs.replays.symbols.Goals as goal

pub returns-clause-symbols : goal.returns-clause-symbols
returns-clause-symbols g c =
    let h = c.in_ok-marked.ensures.prepared in
    let m = c.in_ok-marked.marked in (h.0, h.1, program_of m.checked, marked_code h.0 m h.2, marked_symbols h.0 m h.2)
