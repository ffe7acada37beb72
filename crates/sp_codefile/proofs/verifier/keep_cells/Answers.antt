use Rattle.sp_codefile.proofs.verifier.keep_cells.Goals as goal

pub first_unfit-requires-clause-repeats : goal.first_unfit-requires-clause-repeats
first_unfit-requires-clause-repeats c = (c.args.g.now.owners.now, c.requires.known.repeats)
