use Rattle.std.proofs.Common.{◌<◌, max, slice_set, ◌∙◌, ap, sym, subst}
use Rattle.std.proofs.lemmas.Result.{on_ok_weaker}
use Rattle.std.proofs.lemmas.List.{length-set}
use Rattle.sp_race.specs.Clocks.{count_of}
use Rattle.sp_race.proofs.TableLaws.{nothing_learned, learned, clock_is}
use Rattle.sp_race.proofs.table.learn.Goals as goal

pub returns-then-is_empty-clause-clocks : goal.returns-then-is_empty-clause-clocks
returns-then-is_empty-clause-clocks c =
    let cs = c.args.clocks.now.items in
    nothing_learned cs c.args.learner c.args.teacher (λ q.
    sym (ap (λ x. count_of x q) c.index.ensures ∙ clock_is cs c.args.teacher c.index.result.now q c.requires.teacher)
    ∙ c.is_empty.ensures c.if-is_empty.true q)

pub returns-clause-clocks : goal.returns-clause-clocks
returns-clause-clocks c =
    let cs = c.args.clocks.now.items in
    let none = c.replace-clock.new.dest in
    on_ok_weaker c.merge-merged.result (λ h p q. learned cs c.args.learner c.args.teacher none c.merge-merged.new.self
    c.requires.learner
    (λ r. ap (λ x. count_of x r) c.replace-clock.ensures.after ∙ c.new.ensures r)
    (λ r. h r ∙ (λ i. max
    ((ap (λ x. count_of x r) (c.replace-clock.ensures.value ∙ c.index_mut.ensures.value)
    ∙ clock_is cs c.args.learner c.index_mut.result.now r c.requires.learner) i)
    ((ap (λ x. count_of x r) c.index-2.ensures
    ∙ clock_is (slice_set cs c.args.learner none) c.args.teacher c.index-2.result.now r
    (subst (λ n. c.args.teacher < n) (sym (length-set cs c.args.learner none)) c.requires.teacher)) i)))
    p q) c.merge-merged.ensures.ok
