use Rattle.std.proofs.Common.{arith}
use Rattle.sp_codefile.proofs.KeptRules.{no_v1}
use Rattle.sp_codefile.proofs.verifier.keep_between.Goals as goal

pub keep_shaped-requires-clause-known : goal.keep_shaped-requires-clause-known
keep_shaped-requires-clause-known c = record {
  kept = no_v1 c.args.code.now 2 (omega arith) c.requires.kept;
  blocks = c.requires.blocks;
  owners = c.requires.owners;
  homes = c.requires.homes;
  shapes = c.in_ok-shapes.ensures.ok.1;
  repeats = c.in-Ok.ensures;
}
