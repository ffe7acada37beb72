use Rattle.std.proofs.Common.{◌∷◌, ◌++◌, [], None, refl, ap, ◌∙◌}
use Rattle.sp_code.specs.Sound.{run_of}
use Rattle.sp_kernel.specs.declared.slot.Slot.TheVariants as slot
use Rattle.sp_kernel.specs.declared.slot.State.TheVariants as st
use Rattle.sp_kernel.proofs.FreshKernels.{IsFresh, opened}
use Rattle.sp_kernel.proofs.kernel.Kernel.new.Goals as goal

pub returns : goal.returns
returns c =
    let fresh : IsFresh _ c.args.root = record {
      slots = c.in_ok-push.ensures.ok ∙ ap (λ l. l ++ slot.Here c.args.root st.Ready ∷ []) c.new.ensures;
      parents = c.in-Ok.ensures.ok ∙ ap (λ l. l ++ None ∷ []) c.new-2.ensures;
      ready = c.in-Ok-push.ensures.ok ∙ ap (λ l. l ++ 0 ∷ []) c.new-3.ensures;
      out = refl;
      channels = c.new-4.ensures;
      journal = c.new-5.ensures;
      entries = refl;
      faulted = refl;
      abandons = refl;
      root = c.of-first.ensures;
    } in
    record {
      opening = opened _ c.args.root fresh c.requires.root.0 c.requires.root.1 c.requires.limits c.requires.sound;
      code_run = λ i. run_of c.args.code.value (c.of-first.ensures i).input.value c.args.limits;
    }
