use Rattle.std.proofs.Common.{◌≡◌, ◌∙◌, ◌++◌, ◌-◌, ◌∷◌, [], ℕ, suc, List, Option, Some, None, length, slice_get, codes}
use Rattle.std.proofs.Common.{decimal, ap, subst, arith}
use Rattle.sp_base.specs.declared.name.Pair.{Pair}
use Rattle.sp_report.specs.Tree.{last_pair}
use Rattle.sp_base.specs.Adds.{Adds}
use Rattle.sp_report.proofs.tree.put_last.Goals as goal

some_is : (x y : Pair) → ◌≡◌ {A = Option Pair} (Some x) (Some y) → x ≡ y
some_is x y e = cc

no_last : (x : Pair) → ◌≡◌ {A = Option Pair} (Some x) None → ⊥
no_last x e = cc

last_is : (ps : List Pair) (x : Pair) → Some x ≡ slice_get ps (length ps - 1)
    → decimal x.fork ++ codes "." ++ decimal x.child ≡ last_pair ps
last_is [] x e = absurd (no_last x e)
last_is (p ∷ []) x e = ap (λ (y : Pair). decimal y.fork ++ codes "." ++ decimal y.child) (some_is x p e)
last_is (p ∷ (q ∷ ps)) x e =
    let f : length (p ∷ (q ∷ ps)) - 1 ≡ suc (length (q ∷ ps) - 1) = omega arith in
    last_is (q ∷ ps) x (e ∙ ap (slice_get (p ∷ (q ∷ ps))) f)

pub returns-in-Some : goal.returns-in-Some
returns-in-Some c =
    subst (λ (xs : List ℕ). Adds c.args.out.now c.put_pair.new.out xs)
    (last_is c.args.pairs.now c.in-Some.pair.now c.in-Some.ensures.value) c.put_pair.ensures
