use Rattle.std.proofs.Common.{ℕ, List, slice_get, ap, ◌∙◌}
use Rattle.sp_tree.specs.Cells.{first_or}
use Rattle.sp_generate.specs.Views.{plain_program}
use Rattle.sp_generate.proofs.Tables.{slot_or}
use Rattle.sp_generate.proofs.single.slot.Goals as goal

pub returns : goal.returns
returns c = c.number_at.ensures ∙ ap (λ (xs : List ℕ). first_or 0 (slice_get xs c.args.x)) c.args.g.now.placed
    ∙ slot_or (plain_program c.args.g.now) c.args.x
