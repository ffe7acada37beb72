use Rattle.std.proofs.Common.{◌≡◌, ◌∙◌, ap, ◌+◌, ◌++◌, ◌∷◌, [], length, ℕ, List, ◌≤◌, ◌<◌, take, sym, subst, arith}
use Rattle.std.proofs.Common.{slice_index_or}
use Rattle.std.proofs.lemmas.List.{take_more}
use Rattle.sp_journal.specs.Births.{births}
use Rattle.sp_report.specs.GuessedOrder.{AreForked}
use Rattle.sp_report.proofs.NameOrder.{names_more, forked_more, names_front}
use Rattle.sp_report.proofs.preorder.names_of.Goals as goal

pub loop-process-preserved : goal.loop-process-preserved
loop-process-preserved c =
    let s = births c.args.ledger.now.journal.entries in
    let qs : List ℕ = c.args.order.now in
    let i = c.loop-process.process-index in
    let items : List ℕ = c.items-process-items.result.now in
    let q = slice_index_or items i 0 in
    let same : items ≡ qs = c.items-process-items.ensures in
    let inside : i < length qs = subst (λ xs. i < length xs) same c.loop-process-test.true in
    let whole : take (i + 1) qs ≡ take i qs ++ q ∷ [] = take_more qs i 0 inside
    ∙ ap (λ xs. take i qs ++ slice_index_or xs i 0 ∷ []) (sym same) in
    let zero = c.if-process-eq0.false in
    let far = c.if-from-count.false in
    let from = c.from.ensures in
    let count = c.processes-count.ensures.value in
    let some : 1 ≤ q = grind (arith, zero) in
    let few : q < s.processes = grind (arith, far, from, count) in
    record {
      names = names_more s (take i qs) (take (i + 1) qs) q c.loop-process.names c.push.new.self c.in-Ok.value whole
          c.loop-process.invariant.names c.in-Ok.ensures c.in-Ok-push.ensures.ok;
      forked = subst (AreForked s) (sym whole)
          (forked_more s (take i qs) q c.loop-process.invariant.forked some few);
    }

pub name_of-requires-clause-names : goal.name_of-requires-clause-names
name_of-requires-clause-names c =
    names_front (births c.args.ledger.now.journal.entries) c.loop-process.process-index c.args.order.now
    c.loop-process.names
    (subst (λ xs. c.loop-process.process-index < length xs) c.items-process-items.ensures c.loop-process-test.true)
    c.loop-process.invariant.names
