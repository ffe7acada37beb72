use Rattle.std.proofs.Common.{◌≡◌, ℕ, List, [], ◌∷◌, ◌++◌, length, Option, Some, None, sym, ap, refl, ◌∙◌, arith, ◌+◌}
use Rattle.std.specs.Prelude.{option_to_list, MatchOption}
use Rattle.sp_kernel.specs.ListEnds.{without_last}
use Rattle.sp_kernel.proofs.ListEnds.{last_gone}
use Rattle.sp_kernel.proofs.ready_queue.ReadyQueue.untake.Goals as goal

untaken : (r : Option ℕ) (xs ys : List ℕ) (n m : ℕ) → xs ≡ ys ++ option_to_list r → n ≡ length xs
    → MatchOption r ((n ≡ 0) × (m ≡ 0)) (λ _. m + 1 ≡ n) → ys ≡ without_last xs
untaken None [] [] n m e l h = refl
untaken None [] (y ∷ ys) n m e l h = absurd (cc e)
untaken None (x ∷ xs) ys n m e l h = absurd (omega (arith, l, h.0))
untaken (Some z) xs ys n m e l h = sym (ap without_last e ∙ last_gone ys z)

pub returns : goal.returns
returns c = untaken c.pop_back.result _ _ _ _ c.pop_back.ensures.items c.self.inside.ring.ok.0 c.pop_back.ensures.cases
    ∙ ap without_last c.self.view_is
