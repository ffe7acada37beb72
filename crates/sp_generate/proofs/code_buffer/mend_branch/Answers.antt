use Rattle.std.proofs.Common.{◌∷◌, ◌++◌, ◌+◌, ap, ◌∙◌, ℕ}
use Rattle.sp_code.specs.declared.instr.Instr.TheVariants as i
use Rattle.sp_generate.proofs.Patches.{patched}
use Rattle.sp_generate.proofs.code_buffer.mend_branch.Goals as goal

pub returns : goal.returns
returns c k =
    let (target_good, (target_same, target_is)) = c.number-to.ensures _ c.sum.ensures k in
    let (end_good, (end_same, end_is)) = c.place-end.ensures target_good in (
      end_good,
      λ a b x h m. c.set.ensures ∙ patched a b c.number-to.new.self.items.items x _ c.args.at
          (target_same ∙ end_same ∙ h) m
          ∙ ap (λ (n : ℕ). a ++ i.Jumpf n ∷ b) (target_is ∙ ap (λ (n : ℕ). n + c.args.beyond) end_is),
    )
