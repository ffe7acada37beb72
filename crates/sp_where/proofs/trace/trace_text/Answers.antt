use Rattle.std.proofs.Common.{◌<◌, ◌++◌, ◌+◌, ℕ, List, Vec, Global, ap, sym, ◌∙◌, append-nil, arith, drop, get_or}
use Rattle.std.proofs.Common.{length, take}
use Rattle.sp_journal.specs.declared.entry.Entry.{Entry}
use Rattle.sp_journal.specs.Births.{births}
use Rattle.sp_journal.proofs.Walk.{any_entry, kept_whole, still_nameable}
use Rattle.sp_where.specs.Traces.{trace_line, trace_lines, trace_text}
use Rattle.sp_where.proofs.EntryWalk.{finished, lines_more, lines_over, put_one}
use Rattle.sp_where.proofs.trace.trace_text.Goals as goal

pub entries-preserved : goal.entries-preserved
entries-preserved c =
    let es = c.items-entries.result.now in
    let ws = c.args.tolds.now in
    let i = c.entries.i in
    let (_, journal_is, nameable, lines) = c.entries.invariant in
    let kinds = c.args.symbols.now.checked.kinds in
    let constants = c.args.symbols.now.constants in
    let marks = c.args.symbols.now.marks in
    let told = c.index-tolds-i.result in
    let entry = get_or es i any_entry in
    let l : i < length es = omega (arith, c.entries-test.true, c.min-i-end.ensures) in
    let m : i < length ws = omega (arith, c.entries-test.true, c.min-i-end.ensures) in
    let rest =
    trace_lines kinds constants marks (i + 1) (births (take (i + 1) es)) (drop (i + 1) es) (drop (i + 1) ws) in
    let line = trace_line kinds constants marks i (births (take i es)) entry told in (
      c.in_ok-add.ensures.ledger,
      kept_whole es i l c.entries.ledger.journal.entries c.add.new.self.journal.entries journal_is
          c.in_ok-add.ensures.added,
      still_nameable es i any_entry l nameable,
      λ kept.
          let p = c.put_line.ensures kept in
          put_one c.entries.out.items.items c.put_line.new.out.items.items
          (trace_lines kinds constants marks i (births (take i es)) (drop i es) (drop i ws)) line rest
          (trace_text kinds constants marks es ws)
          (p.1 ∙ ap (λ (xs : List Entry). c.entries.out.items.items
          ++ trace_line kinds constants marks i (births xs) entry told) journal_is) (lines p.0)
          (lines_more kinds constants marks es ws i any_entry told l m
          ∙ ap (λ w. trace_line kinds constants marks i (births (take i es)) entry w ++ rest)
          (sym c.index-tolds-i.is)),
    )

pub returns : goal.returns
returns c =
    let es = c.items-entries.result.now in
    let ws = c.args.tolds.now in
    let i = c.entries.i in
    let (_, _, _, lines) = c.entries.invariant in
    let kinds = c.args.symbols.now.checked.kinds in
    let constants = c.args.symbols.now.constants in
    let marks = c.args.symbols.now.marks in
    finished _ _ _ c.finish.result c.finish.ensures.kept c.finish.ensures.items
    (λ kept text e. ap (λ (v : Vec ℕ Global). v.items) e ∙ sym (append-nil c.entries.out.items.items)
    ∙ ap (λ (xs : List ℕ). c.entries.out.items.items ++ xs)
    (sym (lines_over kinds constants marks es ws i (births (take i es))
    (omega (arith, c.entries-test.false, c.min-i-end.ensures))))
    ∙ lines kept ∙ ap (λ (xs : List Entry). trace_text kinds constants marks xs ws) c.items-entries.ensures)
