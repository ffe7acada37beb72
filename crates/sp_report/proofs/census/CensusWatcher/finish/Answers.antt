use Rattle.std.proofs.Common.{◌∙◌, ◌++◌, ℕ, List, ap, codes}
use Rattle.std.proofs.lemmas.Result.{on_ok_weaker}
use Rattle.std.specs.List.{flat_map}
use Rattle.sp_report.specs.Census.{census_text, count_line, kinds}
use Rattle.sp_report.proofs.census.CensusWatcher.finish.Goals as goal

pub returns-clause-ok : goal.returns-clause-ok
returns-clause-ok c = on_ok_weaker c.put_text.result (λ h.
    let lines = c.put_kinds.ensures h.0 in
    let title = c.extend.ensures lines.0 in
    h.1 ∙ ap (λ (t : List ℕ). c.args.out.now.items ++ t)
    (lines.1
    ∙ ap (λ (t : List ℕ). t ++ flat_map (count_line c.items.result.now) kinds)
    (title.1 ∙ ap (λ (t : List ℕ). t ++ codes "census\n") c.new-text.ensures.items)
    ∙ ap census_text c.items.ensures))
    c.put_text.ensures.ok
