-- The tables of what parts declare, put together one behind the other.
use Rattle.std.proofs.Common.{◌≡◌, refl, ap, ◌∙◌, List, [], ◌∷◌, ◌++◌}
use Rattle.std.proofs.lemmas.List.{append-nil}
use Rattle.sp_tree.specs.PlainNamed as n
use Rattle.sp_tree.specs.NamedTree.{appended_tables, nothing_named}

behind_behind : {A : Type 0} (xs ys zs : List A) → (xs ++ ys) ++ zs ≡ xs ++ (ys ++ zs)
behind_behind [] ys zs = refl
behind_behind (x ∷ xs) ys zs = ap (λ l. x ∷ l) (behind_behind xs ys zs)

pub beside_nothing : (a : n.Program) → appended_tables a nothing_named ≡ a
beside_nothing a =
    ap (λ l. record { constants = l; kinds = a.kinds ++ []; variables = a.variables ++ []; blocks = a.blocks ++ [] })
    (append-nil a.constants)
    ∙ ap (λ l. record { constants = a.constants; kinds = l; variables = a.variables ++ []; blocks = a.blocks ++ [] })
    (append-nil a.kinds)
    ∙ ap (λ l. record { constants = a.constants; kinds = a.kinds; variables = l; blocks = a.blocks ++ [] })
    (append-nil a.variables)
    ∙ ap (λ l. record { constants = a.constants; kinds = a.kinds; variables = a.variables; blocks = l })
    (append-nil a.blocks)

pub beside_beside : (a b c : n.Program) → appended_tables (appended_tables a b) c
    ≡ appended_tables a (appended_tables b c)
beside_beside a b c =
    ap (λ l. record {
      constants = l;
      kinds = (a.kinds ++ b.kinds) ++ c.kinds;
      variables = (a.variables ++ b.variables)
          ++ c.variables;
      blocks = (a.blocks ++ b.blocks) ++ c.blocks;
    })
    (behind_behind a.constants b.constants c.constants)
    ∙ ap (λ l. record {
      constants = a.constants ++ (b.constants ++ c.constants);
      kinds = l;
      variables = (a.variables ++ b.variables) ++ c.variables;
      blocks = (a.blocks ++ b.blocks) ++ c.blocks;
    })
    (behind_behind a.kinds b.kinds c.kinds)
    ∙ ap (λ l. record {
      constants = a.constants ++ (b.constants ++ c.constants);
      kinds = a.kinds
          ++ (b.kinds ++ c.kinds);
      variables = l;
      blocks = (a.blocks ++ b.blocks) ++ c.blocks;
    })
    (behind_behind a.variables b.variables c.variables)
    ∙ ap (λ l. record {
      constants = a.constants ++ (b.constants ++ c.constants);
      kinds = a.kinds
          ++ (b.kinds ++ c.kinds);
      variables = a.variables ++ (b.variables ++ c.variables);
      blocks = l;
    })
    (behind_behind a.blocks b.blocks c.blocks)
