use Rattle.sp_witness.proofs.laws.runs_are_ordered_alike.Goals as goal

pub returns : goal.returns
returns c = λ g turn es n t e v turn2 es2 n2 t2 e2 v2 free along ends sure h along2 ends2 sure2 h2 is.
    (c.ordered_runs_never_contend.ensures g turn2 es2 n2 t2 e2 v2 free along2 ends2 sure2 h2).1
    ((c.ordered_runs_never_contend.ensures g turn es n t e v free along ends sure h).0 is)
