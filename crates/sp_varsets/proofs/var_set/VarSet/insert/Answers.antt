use Rattle.std.proofs.Common.{◌≡◌, ◌∙◌, ◌*◌, ◌/◌, ◌%◌, ◌^◌, ◌||◌, ◌==◌, get_or, set, bit_or, arith, ap}
use Rattle.sp_varsets.specs.Members.{in_words}
use Rattle.sp_varsets.proofs.WordChanges.{put_bit}
use Rattle.sp_varsets.proofs.var_set.VarSet.insert.Goals as goal

pub returns : goal.returns
returns c x =
    let ws = c.grow.new.self.words in
    let room = c.in_ok-grow.ensures.words in
    let e : c.replace-old.new.self ≡ set c.grow.new.self.words (c.args.variable / 64)
    (bit_or (get_or c.grow.new.self.words (c.args.variable / 64) 0) (1 * 2 ^ (c.args.variable % 64) % 2 ^ 64)) =
    rw c.items.ensures at c.replace-old.ensures.list in
    ap (λ z. in_words z x) e
    ∙ (put_bit c.grow.new.self.words (c.args.variable / 64) (c.args.variable % 64) c.args.variable x (omega arith)
    (omega arith) (omega arith)
    ∙ ap (λ b. (c.args.variable == x) || b) (c.in_ok-grow.ensures.same x))
