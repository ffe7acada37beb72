use Rattle.std.proofs.Common.{arith}
use Rattle.sp_codefile.proofs.KeptRules.{no_v2, no_v3, no_v4, no_v5}
use Rattle.sp_codefile.proofs.verifier.keep_effects.Goals as goal

pub first_clash-requires-clause-v2 : goal.first_clash-requires-clause-v2
first_clash-requires-clause-v2 c = no_v2 c.args.g.now.code.now 6 (omega arith) c.requires.kept

pub first_clash-requires-clause-v3 : goal.first_clash-requires-clause-v3
first_clash-requires-clause-v3 c = no_v3 c.args.g.now.code.now 6 (omega arith) c.requires.kept

pub first_clash-requires-clause-v4 : goal.first_clash-requires-clause-v4
first_clash-requires-clause-v4 c = no_v4 c.args.g.now.code.now 6 (omega arith) c.requires.kept

pub first_clash-requires-clause-v5 : goal.first_clash-requires-clause-v5
first_clash-requires-clause-v5 c = no_v5 c.args.g.now.code.now 6 (omega arith) c.requires.kept
