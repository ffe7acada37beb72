use Rattle.std.proofs.Common.{◌∷◌, ◌++◌, ap, ◌∙◌, ℕ}
use Rattle.sp_code.specs.declared.instr.Instr.TheVariants as i
use Rattle.sp_generate.proofs.Patches.{patched}
use Rattle.sp_generate.proofs.code_buffer.mend_jump.Goals as goal

pub returns : goal.returns
returns c k =
    let (good, (same, end_is)) = c.place-end.ensures k in (
      good,
      λ a b x h m. c.set.ensures ∙ patched a b c.place-end.new.code.items.items x _ c.args.at (same ∙ h) m
          ∙ ap (λ (n : ℕ). a ++ i.Jump n ∷ b) end_is,
    )
