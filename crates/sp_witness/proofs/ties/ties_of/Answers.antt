use Rattle.std.proofs.Common.{◌+◌, get_or, sym, ap, ◌∙◌, subst}
use Rattle.sp_journal.proofs.Walk.{any_entry, still_nameable}
use Rattle.sp_witness.specs.Flags.{lines_after, partner_of}
use Rattle.sp_witness.specs.Passes.{AreFirstPartners}
use Rattle.sp_witness.proofs.Backwards.{more_lines, more_partners}
use Rattle.sp_witness.proofs.Forwards.{more_processes}
use Rattle.sp_witness.proofs.ties.ties_of.Goals as goal

pub loop-entry-preserved : goal.loop-entry-preserved
loop-entry-preserved c =
    let es = c.args.front.now in
    let at = c.loop-entry.entry-index in
    let e = get_or es at any_entry in
    let h = c.loop-entry.invariant in
    let inside = c.loop-entry-test.true in
    record {
      nameable = still_nameable es at any_entry inside h.nameable;
      partners =
          subst (AreFirstPartners (at + 1) es) (sym c.in_ok-push.ensures.items)
          (more_partners es at inside c.loop-entry.partners.items c.in_ok-partner.partner h.partners
          (c.in_ok-partner.ensures.partner ∙ (λ j. partner_of (λ q. h.waiting q j) e.event)));
      processes = more_processes es at inside c.loop-entry.processes c.children-processes.result h.processes
          c.children-processes.ensures.value;
      waiting = λ q.
          c.in_ok-partner.ensures.after q ∙ (λ j. lines_after (λ r. h.waiting r j) e.process e.event q)
          ∙ ap (λ f. f q) (sym (more_lines es at any_entry inside));
    }
