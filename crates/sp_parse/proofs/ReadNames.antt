-- What was made.
use Rattle.std.proofs.Common.{◌≡◌, Result, Ok, subst}
use Rattle.sp_parse.specs.Trees.{MakesTree}

-- what was made stands for what it was to stand for
pub is_made : {X V E : Type 0} (plain : X → V) (v : V) {found : Result X E} {x : X} → found ≡ Ok x
    → MakesTree plain v found → plain x ≡ v
is_made plain v p h = subst (MakesTree plain v) p h
