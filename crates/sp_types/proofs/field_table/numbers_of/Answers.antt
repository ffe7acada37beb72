use Rattle.std.proofs.Common.{◌∙◌, ap, sym, ◌||◌, ◌+◌, ℕ, List, drop, get_or, nat_eq}
use Rattle.std.specs.List.{list_any}
use Rattle.sp_types.proofs.DeclarationRules.{drop_head}
use Rattle.sp_types.proofs.FieldTables.{counted, has}
use Rattle.sp_types.proofs.field_table.numbers_of.Goals as goal

pub loop-k-preserved : goal.loop-k-preserved
loop-k-preserved c = λ k.
    counted c.loop-k.numbers.keys c.insert.new.self.keys (get_or c.args.kinds.now c.loop-k.k-index 0)
    (drop (c.loop-k.k-index + 1) c.args.kinds.now) c.in-Ok.ensures.updates.0 k ∙
    ap (λ (ks : List ℕ). has c.loop-k.numbers.keys k || list_any (nat_eq k) ks)
    (sym (drop_head c.args.kinds.now c.loop-k.k-index 0 c.loop-k-test.true)) ∙
    c.loop-k.invariant k
