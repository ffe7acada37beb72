use Rattle.std.proofs.Common.{◌-◌, ◌*◌, ◌++◌, length, sym, ◌∙◌}
use Rattle.sp_varsets.specs.Members.{has}
use Rattle.sp_varsets.proofs.Words.{below_words}
use Rattle.sp_generate.specs.Handings.{fitting_numbers}
use Rattle.sp_generate.proofs.FittingNumbers.{next_fits, none_fits, none_from, listed}
use Rattle.sp_generate.proofs.handings.members.Goals as goal

pub loop-x-preserved : goal.loop-x-preserved
loop-x-preserved c k =
    let set = c.args.set.now in
    let next = c.in-Some.ensures in
    let put = c.put.ensures k in
    (λ i. put.1 i ++ fitting_numbers (has set) (c.in_ok-from.ensures i)
    (64 * length set.words - c.in_ok-from.ensures i))
    ∙ next_fits (has set) c.loop-x.out.items.items (64 * length set.words) c.loop-x.from c.in-Some.x next.0 next.1
    next.2 (below_words set.words c.in-Some.x next.1)
    ∙ c.loop-x.invariant put.0

pub returns : goal.returns
returns c =
    let set = c.args.set.now in
    listed c.list_of.result c.list_of.ensures (λ k.
    sym (none_fits (has set) c.loop-x.out.items.items (64 * length set.words) c.loop-x.from
    (none_from (has set) c.words.result c.loop-x.from c.if-words-gt-MOST_WORDS.false c.words.ensures
    c.in_default.ensures))
    ∙ c.loop-x.invariant k)
