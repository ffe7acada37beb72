use Rattle.std.proofs.Common.{◌∙◌, ◌++◌, ℕ, List, ap, ap₂, codes, drop, true}
use Rattle.std.proofs.lemmas.Result.{on_ok_weaker}
use Rattle.sp_journal.specs.Births.{first_births}
use Rattle.sp_report.specs.Timeline.{numbered_lines}
use Rattle.sp_report.proofs.LineLemmas.{numbered_entries, whole_rest}
use Rattle.sp_report.proofs.timeline.TimelineWatcher.finish.Goals as goal

pub returns-clause-ok : goal.returns-clause-ok
returns-clause-ok c = on_ok_weaker c.put_text.result (λ h.
    let lines = c.put_numbered.ensures h.0 in
    let title = c.extend.ensures lines.0 in
    h.1 ∙ ap (λ (t : List ℕ). c.args.out.now.items ++ t)
    (lines.1
    ∙ ap₂ (λ (a b : List ℕ). a ++ numbered_lines true 0 b)
    (title.1 ∙ ap (λ (xs : List ℕ). xs ++ codes "timeline\n") c.new-text.ensures.items)
    (whole_rest 22 c.as_slice.result.now ∙ ap (λ (xs : List ℕ). drop 22 xs)
    (c.as_slice.ensures.value ∙ c.in-Ok.ensures))
    ∙ ap (λ (ys : List ℕ). codes "timeline\n" ++ ys)
    (numbered_entries 0 first_births c.args.self.now.journal.entries)))
    c.put_text.ensures.ok
