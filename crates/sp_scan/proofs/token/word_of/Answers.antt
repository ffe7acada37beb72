use Rattle.std.proofs.Common.{arith, map}
use Rattle.sp_tree.specs.Characters.{lower_case_letter}
use Rattle.sp_tree.specs.Lexemes.{words}
use Rattle.sp_scan.proofs.Tokens.{word_more, word_none, no_truth}
use Rattle.sp_scan.proofs.token.word_of.Goals as goal

pub loop-n-preserved : goal.loop-n-preserved
loop-n-preserved c = word_more words c.loop-n.n (map lower_case_letter c.args.spelled.now) c.word_text.result.now
    c.loop-n.invariant
    c.word_text.ensures (λ h. no_truth (c.if-is_spelled.ensures.1 h))

pub returns : goal.returns
returns c = word_none words c.loop-n.n (map lower_case_letter c.args.spelled.now) (omega arith) c.loop-n.invariant
