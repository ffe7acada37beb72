use Rattle.sp_codefile.proofs.verifier.keep_handed.Goals as goal

pub keep-requires-clause-first : goal.keep-requires-clause-first
keep-requires-clause-first c = c.in-Ok.ensures c.in-Some.p c.in-Some.is
