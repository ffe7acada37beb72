-- The phase of types from its parts.
use Rattle.std.proofs.Common.{◌≡◌, refl, ap, ◌∙◌, ℕ, ◌+◌, List, [], ◌∷◌, map}
use Rattle.sp_tree.specs.declared.checked.Variable as checked
use Rattle.sp_tree.specs.PhaseResults.{FirstRefusal, earlier_refusal}
use Rattle.sp_tree.specs.PlainNamed as n
use Rattle.sp_types.specs.CellCaps.{capped_count}
use Rattle.sp_types.specs.Tables.{Env}
use Rattle.sp_types.specs.TypeWalk.{with_first_number, statement_after}
use Rattle.sp_types.specs.Firsts.{statement_first}
use Rattle.sp_types.specs.DeclarationFirsts.{answer_first, block_first, blocks_first}
use Rattle.sp_types.proofs.CellCaps.{frame_same}

-- frames counted up to just above the limit break the same rules
pub blocks_same : (numbers cells : List ℕ) (variables : List checked.Variable) (b : ℕ) (env : Env) (starts : List ℕ)
    (bs : List n.Block) (given : FirstRefusal) →
    blocks_first numbers (map capped_count cells) variables b env starts bs given
    ≡ blocks_first numbers cells variables b env starts bs given
blocks_same numbers cells variables b env starts [] given = refl
blocks_same numbers cells variables b env [] (x ∷ xs) given = refl
blocks_same numbers cells variables b env (k ∷ starts) (x ∷ xs) given =
    ap (λ (r : FirstRefusal). blocks_first numbers (map capped_count cells) variables (b + 1)
    (statement_after (with_first_number env k) x.body) starts xs
    (statement_first (with_first_number env k) x.body
    (answer_first (with_first_number env k) x.answer (earlier_refusal given r))))
    (frame_same x.at numbers cells b variables) ∙
    blocks_same numbers cells variables (b + 1) (statement_after (with_first_number env k) x.body) starts xs
    (block_first numbers cells variables b (with_first_number env k) x given)
