use Rattle.std.proofs.Common.{◌+◌, ◌*◌, ◌-◌, [], ◌∷◌, length}
use Rattle.sp_tree.specs.PlainSyntax.{Pass, AndArgument}
use Rattle.sp_tree.specs.SyntaxOf.{expression_of}
use Rattle.sp_tree.specs.Symbols.{ASimple, MoreTerms, MoreFactors, Selectors}
use Rattle.sp_parse.specs.Reads.{Pending}
use Rattle.sp_parse.specs.ExpressionProductions.{term, indices, arguments}
use Rattle.sp_parse.specs.Trees.{and_selectors, and_arguments}
use Rattle.sp_parse.proofs.expressions.+expression.Given as goal

abbrev pub decreases-expression : goal.decreases-expression
decreases-expression l = 8 * (201 - l.depth)

abbrev pub decreases-simple : goal.decreases-simple
decreases-simple l = 8 * (201 - l.depth) + 7

abbrev pub decreases-first_term : goal.decreases-first_term
decreases-first_term l = 8 * (201 - l.depth) + 6

abbrev pub decreases-term : goal.decreases-term
decreases-term l = 8 * (201 - l.depth) + 5

abbrev pub decreases-factor : goal.decreases-factor
decreases-factor l = 8 * (201 - l.depth) + 4

abbrev pub decreases-negation : goal.decreases-negation
decreases-negation l = 8 * (201 - l.depth) + 3

abbrev pub decreases-reference : goal.decreases-reference
decreases-reference l = 8 * (201 - l.depth) + 3

abbrev pub decreases-selectors : goal.decreases-selectors
decreases-selectors l = 8 * (201 - l.depth) + 2

abbrev pub decreases-indices : goal.decreases-indices
decreases-indices l = 8 * (201 - l.depth) + 1

abbrev pub decreases-arguments : goal.decreases-arguments
decreases-arguments l = 8 * (201 - l.depth) + 2

abbrev pub decreases-width : goal.decreases-width
decreases-width l = 8 * (201 - l.depth) + 1

abbrev pub invariant-simple-more : goal.invariant-simple-more
invariant-simple-more l = Pending l.source (ASimple l.depth ∷ []) (λ vs. vs.0) (MoreTerms l.depth ∷ [])
    (λ vs. vs.0 (expression_of l.sum)) l.fn.tokens l.tokens

abbrev pub decreases-simple-more : goal.decreases-simple-more
decreases-simple-more l = length l.tokens.rest.now

abbrev pub invariant-term-more : goal.invariant-term-more
invariant-term-more l = Pending l.source (term l.depth).symbols (term l.depth).makes (MoreFactors l.depth ∷ [])
    (λ vs. vs.0 (expression_of l.product)) l.fn.tokens l.tokens

abbrev pub decreases-term-more : goal.decreases-term-more
decreases-term-more l = length l.tokens.rest.now

abbrev pub invariant-selectors-more : goal.invariant-selectors-more
invariant-selectors-more l = Pending l.source (Selectors l.depth ∷ []) (λ vs. vs.0) (Selectors l.depth ∷ [])
    (λ vs. and_selectors l.all vs.0) l.fn.tokens l.tokens

abbrev pub decreases-selectors-more : goal.decreases-selectors-more
decreases-selectors-more l = length l.tokens.rest.now

abbrev pub invariant-indices-more : goal.invariant-indices-more
invariant-indices-more l = Pending l.source (indices l.depth l.fn.all).symbols (indices l.depth l.fn.all).makes
    (indices l.depth l.fn.all).symbols (indices l.depth l.all).makes l.fn.tokens l.tokens

abbrev pub decreases-indices-more : goal.decreases-indices-more
decreases-indices-more l = length l.tokens.rest.now

abbrev pub invariant-arguments-more : goal.invariant-arguments-more
invariant-arguments-more l = Pending l.source (arguments l.depth).symbols (arguments l.depth).makes
    (arguments l.depth).symbols
    (λ (value, (width, (more, _))). and_arguments l.all (AndArgument (Pass value width) more)) l.fn.tokens l.tokens

abbrev pub decreases-arguments-more : goal.decreases-arguments-more
decreases-arguments-more l = length l.tokens.rest.now
