use Rattle.std.proofs.Common.{arith, map}
use Rattle.sp_tree.specs.Characters.{lower_case_letter}
use Rattle.sp_tree.specs.Lexemes.{refused_words}
use Rattle.sp_scan.proofs.Tokens.{word_more, word_none, no_truth}
use Rattle.sp_scan.proofs.rules.is_refused.Goals as goal

pub loop-n-preserved : goal.loop-n-preserved
loop-n-preserved c = word_more refused_words c.loop-n.n (map lower_case_letter c.args.spelled.now)
    c.refused_text.result.now
    c.loop-n.invariant c.refused_text.ensures (λ h. no_truth (c.if-is_spelled.ensures.1 h))

pub returns : goal.returns
returns c = word_none refused_words c.loop-n.n (map lower_case_letter c.args.spelled.now) (omega arith)
    c.loop-n.invariant
