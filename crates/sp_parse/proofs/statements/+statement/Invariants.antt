use Rattle.std.proofs.Common.{◌+◌, ◌*◌, ◌-◌, ◌∷◌, length}
use Rattle.sp_tree.specs.PlainSyntax.{AndThen, On, Or, Beside, Does, Parallel}
use Rattle.sp_parse.specs.Reads.{Pending}
use Rattle.sp_parse.specs.StatementProductions.{sequence, arms, parallel_statement}
use Rattle.sp_parse.specs.Trees.{and_statements, and_arms, and_branches}
use Rattle.sp_parse.proofs.statements.+statement.Given as goal

abbrev pub decreases-statement : goal.decreases-statement
decreases-statement l = 8 * (201 - l.depth) + 1

abbrev pub decreases-compound : goal.decreases-compound
decreases-compound l = 8 * (201 - l.depth) + 3

abbrev pub decreases-statements : goal.decreases-statements
decreases-statements l = 8 * (201 - l.depth) + 2

abbrev pub decreases-choice : goal.decreases-choice
decreases-choice l = 8 * (201 - l.depth) + 3

abbrev pub decreases-otherwise : goal.decreases-otherwise
decreases-otherwise l = 8 * (201 - l.depth) + 2

abbrev pub decreases-while_loop : goal.decreases-while_loop
decreases-while_loop l = 8 * (201 - l.depth) + 3

abbrev pub decreases-repeat_loop : goal.decreases-repeat_loop
decreases-repeat_loop l = 8 * (201 - l.depth) + 3

abbrev pub decreases-for_loop : goal.decreases-for_loop
decreases-for_loop l = 8 * (201 - l.depth) + 3

abbrev pub decreases-forall : goal.decreases-forall
decreases-forall l = 8 * (201 - l.depth) + 3

abbrev pub decreases-case_choice : goal.decreases-case_choice
decreases-case_choice l = 8 * (201 - l.depth) + 3

abbrev pub decreases-arms : goal.decreases-arms
decreases-arms l = 8 * (201 - l.depth) + 2

abbrev pub decreases-parallel : goal.decreases-parallel
decreases-parallel l = 8 * (201 - l.depth) + 3

abbrev pub invariant-statements-more : goal.invariant-statements-more
invariant-statements-more l = Pending l.source (sequence l.depth).symbols (sequence l.depth).makes
    (sequence l.depth).symbols (λ (first, (more, _)). and_statements l.all (AndThen first more)) l.fn.tokens l.tokens

abbrev pub decreases-statements-more : goal.decreases-statements-more
decreases-statements-more l = length l.tokens.rest.now

abbrev pub invariant-arms-more : goal.invariant-arms-more
invariant-arms-more l = Pending l.source (arms l.depth).symbols (arms l.depth).makes (arms l.depth).symbols
    (λ (label, (labels, (body, (more, _)))). and_arms l.all (Or (On (label ∷ labels) body) more)) l.fn.tokens l.tokens

abbrev pub decreases-arms-more : goal.decreases-arms-more
decreases-arms-more l = length l.tokens.rest.now

abbrev pub invariant-parallel-more : goal.invariant-parallel-more
invariant-parallel-more l = Pending l.source (parallel_statement l.depth l.at).symbols
    (parallel_statement l.depth l.at).makes (parallel_statement l.depth l.at).symbols
    (λ (first, (statements, (more, _))). Does l.at
    (Parallel (and_branches l.all (Beside (AndThen first statements) more)))) l.fn.tokens l.tokens

abbrev pub decreases-parallel-more : goal.decreases-parallel-more
decreases-parallel-more l = length l.tokens.rest.now
