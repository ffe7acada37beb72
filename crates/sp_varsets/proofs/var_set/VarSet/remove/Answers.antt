use Rattle.std.proofs.Common.{◌≡◌, ◌∙◌, ◌*◌, ◌/◌, ◌%◌, ◌^◌, get_or, set, bit_and, arith, ap, w64}
use Rattle.std.specs.Int.{bit_not}
use Rattle.sp_varsets.specs.Members.{in_words}
use Rattle.sp_varsets.proofs.WordChanges.{clear_bit, cleared_past}
use Rattle.sp_varsets.proofs.var_set.VarSet.remove.Goals as goal

pub returns-then-at-len : goal.returns-then-at-len
returns-then-at-len c x =
    let e : c.replace-old.new.self ≡ set c.args.self.now.words (c.args.variable / 64)
    (bit_and (get_or c.args.self.now.words (c.args.variable / 64) 0)
    (bit_not w64 (1 * 2 ^ (c.args.variable % 64) % 2 ^ 64))) = rw c.items.ensures at c.replace-old.ensures.list in
    ap (λ z. in_words z x) e ∙ clear_bit c.args.self.now.words (c.args.variable / 64) (c.args.variable % 64)
    c.args.variable x (omega arith) (omega arith) (omega arith)

pub returns-else-at-len : goal.returns-else-at-len
returns-else-at-len c x = cleared_past c.args.self.now.words c.args.variable x (omega arith)
