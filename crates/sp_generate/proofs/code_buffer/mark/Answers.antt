use Rattle.std.proofs.Common.{[], ◌∷◌, ◌++◌, ◌∙◌}
use Rattle.sp_generate.proofs.code_buffer.mark.Goals as goal

pub returns : goal.returns
returns c k =
    let (good, (same, places_are)) = c.push_to.ensures _ c.narrow-n.ensures k in
    (good, (same, places_are ∙ (λ j. c.args.places.now ++ c.count.ensures j ∷ [])))
