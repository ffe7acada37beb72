use Rattle.std.proofs.Common.{◌≡◌, ◌∙◌, ◌++◌, ◌∷◌, [], List, ℕ, append_assoc, ap, sym}
use Rattle.sp_base.specs.declared.writer.Writer.{Writer}
use Rattle.sp_report.proofs.Prefixes.{text_added, text_kept}
use Rattle.sp_report.specs.WatcherReports.{is_chosen}
use Rattle.sp_report.proofs.telling.tell.Goals as goal
use Rattle.sp_report.proofs.telling.tell.Goals.{then-is_chosen, else-is_chosen}

pub loop-watcher-preserved : goal.loop-watcher-preserved
loop-watcher-preserved g c =
    let title : is_chosen c.args.show ((goal.Watcher-dyn g (c.in-Some.watcher.vtable, c.in-Some.watcher.value)).title
    c.in-Some.watcher.value) ≡ c.is_chosen.result =
    ap (λ x. is_chosen c.args.show ((goal.Watcher-dyn g x).title x.1)) (sym c.deref_box-1.ensures.1)
    ∙ ap (is_chosen c.args.show) (sym c.name.ensures) ∙ sym c.is_chosen.ensures in (
      c.loop-watcher.invariant.0 ∙ ap (λ (ws : List _). c.loop-watcher.yielded ++ ws) c.in-Some.ensures.steps.0
          ∙ sym (append_assoc c.loop-watcher.yielded (c.in-Some.watcher ∷ []) c.next.new.self.rest.items),
      elim c.if-is_chosen.branch [
        | then-is_chosen w ↦ λ kept.
            let added = w.tell_one.ensures (sym (ap (λ (v : Writer ℕ). v.is_lost) w.out-is) ∙ kept) in
            text_added _ _ c.loop-watcher.yielded c.in-Some.watcher c.loop-watcher.out.items.items
            c.if-is_chosen.out.items.items (c.loop-watcher.invariant.1 added.0) (title ∙ w.if-is_chosen.true)
            (ap (λ (v : Writer ℕ). v.items.items) w.out-is ∙ added.1
            ∙ ap (λ x. c.loop-watcher.out.items.items
            ++ (goal.Watcher-dyn g x).text x.1 c.args.journal.now.entries)
            w.deref_box_mut-1.ensures.value.1)
        | else-is_chosen w ↦ λ kept.
            text_kept _ _ c.loop-watcher.yielded c.in-Some.watcher c.loop-watcher.out.items.items
            c.if-is_chosen.out.items.items
            (c.loop-watcher.invariant.1 (sym (ap (λ (v : Writer ℕ). v.is_lost) w.out-is) ∙ kept))
            (title ∙ w.if-is_chosen.false) (ap (λ (v : Writer ℕ). v.items.items) w.out-is)
      ],
    )
