use Rattle.std.proofs.Common.{arith, length, ap}
use Rattle.sp_tree.proofs.TokenOrder.{run_length}
use Rattle.sp_scan.proofs.Tokens.{longest_name}
use Rattle.sp_scan.proofs.token.name.Goals as goal

pub slice_bounds-word_of-count : goal.slice_bounds-word_of-count
slice_bounds-word_of-count c = omega (arith, run_length c.after_name-after.ensures.run, ap length c.requires.starts)

pub returns : goal.returns
returns c = longest_name c.args.bytes.now c.args.rest.now c.after_name-after.result.now c.args.first c.word_of.result
    c.requires.starts c.requires.letter c.after_name-after.ensures c.word_of.ensures
