use Rattle.std.proofs.Common.{◌≡◌, Some, sym, true, subst}
use Rattle.std.specs.Prelude.{slice_get}
use Rattle.sp_code.specs.declared.code.Parts.{Parts}
use Rattle.sp_code.specs.Memory.{memory}
use Rattle.sp_code.specs.PlainStore.{plain as plain_store}
use Rattle.sp_code.specs.Turns.{IsSafe, frames_fit}
use Rattle.sp_lines.specs.AtTurn.{next_of}
use Rattle.sp_lines.specs.declared.mark.Mark.{Mark}
use Rattle.sp_lines.specs.Marks.{marks}
use Rattle.sp_lines.specs.JumpTargets.{landing}
use Rattle.sp_lines.proofs.Landings.{landing_marked}
use Rattle.sp_lines.proofs.landing_laws.landings_have_marks.Goals as goal

pub returns : goal.returns
returns f = λ p moves shares g c same.
    subst (λ (k : Parts). IsSafe (memory plain_store g) k c → frames_fit (memory plain_store g) k c ≡ true
    → (m : Mark) × (slice_get (marks p) (landing k.instrs (next_of c)) ≡ Some m))
    (sym same) (landing_marked p moves shares (memory plain_store g) c)
