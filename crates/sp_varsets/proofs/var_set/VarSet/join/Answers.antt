use Rattle.std.proofs.Common.{◌∙◌, ◌||◌, ap}
use Rattle.sp_varsets.specs.Members.{has}
use Rattle.sp_varsets.proofs.Words.{none_hidden}
use Rattle.sp_varsets.proofs.var_set.VarSet.join.Goals as goal

pub returns : goal.returns
returns c x = c.in_ok-_grew.ensures.added x ∙ ap (λ b. has c.args.self.now x || b)
    (none_hidden (has c.args.other.now x) (has c.new-nothing.result x) (c.new-nothing.ensures x))
