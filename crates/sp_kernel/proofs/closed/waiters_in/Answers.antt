use Rattle.std.proofs.Common.{◌≡◌, ◌+◌, ◌++◌, [], ℕ, length, refl, sym, ap, ◌∙◌, arith}
use Rattle.std.proofs.lemmas.Option.{slice_get_read}
use Rattle.sp_journal.specs.Births.{Births, births}
use Rattle.sp_kernel.specs.Closes.{with_waiter}
use Rattle.sp_kernel.proofs.SortedWaiters.{waiters_more}
use Rattle.sp_kernel.proofs.closed.waiters_in.Goals as goal

pub loop-number-preserved : goal.loop-number-preserved
loop-number-preserved c =
    let b : Births = births c.args.ledger.now.journal.entries in
    let q : ℕ = c.loop-number.number in
    let x = c.index-slots-number.result in
    let at : 0 + q ≡ q = omega arith in
    c.in-Ok.ensures ∙ ap (λ l. l ++ with_waiter b q x []) c.loop-number.invariant
    ∙ ap (λ (i : ℕ). Rattle.sp_kernel.specs.Closes.waiters_from b 0
    (Rattle.std.proofs.Common.take q c.args.slots.now) ++ with_waiter b i x []) (sym at)
    ∙ sym (waiters_more b 0 c.args.slots.now q x
    (slice_get_read c.args.slots.now (length c.args.slots.now) q x refl c.loop-number-test.true
    c.index-slots-number.is))
