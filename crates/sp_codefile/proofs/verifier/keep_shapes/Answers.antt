use Rattle.std.proofs.Common.{arith}
use Rattle.sp_codefile.proofs.KeptRules.{no_v1, refused, shaped}
use Rattle.sp_codefile.proofs.verifier.keep_shapes.Goals as goal

pub shapes_of-requires-clause-kept : goal.shapes_of-requires-clause-kept
shapes_of-requires-clause-kept c = no_v1 c.args.code.now 2 (omega arith) c.requires.kept

pub returns-in-Broken-clause-err : goal.returns-in-Broken-clause-err
returns-in-Broken-clause-err c =
    refused c.args.code.now c.requires.kept c.in-Ok.value c.in-Broken.p c.in-Broken.is c.in-Ok.ensures

pub returns-in-Kept-clause-ok : goal.returns-in-Kept-clause-ok
returns-in-Kept-clause-ok c =
    shaped c.args.code.now c.requires.kept c.in-Ok.value c.in-Kept.shapes c.in-Kept.is c.in-Ok.ensures
