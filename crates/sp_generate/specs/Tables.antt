-- None of this belongs to what the program promises: it is for contracts between crates.
-- The fork tables of a tree with numbers, where the variables of a process statement are told by its number. Written
-- code is said by it, since the tree in memory has numbers and no sets.
use Rattle.std.specs.Prelude.{ℕ, ◌+◌, List, [], ◌∷◌, ◌++◌, Option, Some, None}
use Rattle.sp_tree.specs.PlainChecked.{Statement, Does, Form, Sequence, If, While, Repeat, For}
use Rattle.sp_tree.specs.PlainChecked.{Case, Parallel, Forall}
use Rattle.sp_tree.specs.PlainChecked.{NoElse, Else, Statements, NoStatement, AndThen}
use Rattle.sp_tree.specs.PlainChecked.{On, Arms, NoArm, Or, Block}
use Rattle.sp_tree.specs.Bare.{bare_expression, bare_statement, bare_arms, bare_block}
use Rattle.sp_tree.specs.Plain.{Program}
use Rattle.sp_code.specs.declared.code.ChildTable.{ChildTable}
use Rattle.sp_code.specs.declared.code.ForkTable.{ForkTable}
use Rattle.sp_code.specs.TreeCode.{but_index}
use Rattle.sp_code.specs.Places.{after_value, after_tests, after_statement, after_block}

module _ (p : Program) (moved shared : ℕ → List ℕ) where
  abbrev pub child : ℕ → Option ℕ → Statement → ChildTable
  child q index (Does n at form) = record {
    entry = q;
    moved = moved n;
    shared = but_index index (shared n);
    index = index;
  }

  abbrev pub children : ℕ → Statements → List ChildTable
  children q NoStatement = []
  children q (AndThen s rest) = child q None s ∷ children (after_statement p q (bare_statement s) + 1) rest

  abbrev mutual
    pub tables : ℕ → Statement → List ForkTable
    tables q (Does n at form) = form_tables q form

    -- the fork tables of a statement that stands at q, in order: a table before those inside
    pub form_tables : ℕ → Form → List ForkTable
    form_tables q (Sequence ss) = tables_all q ss
    form_tables q (If e s NoElse) = tables (after_value q (bare_expression e) + 1) s
    form_tables q (If e s (Else t)) =
        tables (after_value q (bare_expression e) + 1) s
        ++ tables (after_statement p (after_value q (bare_expression e) + 1) (bare_statement s) + 1) t
    form_tables q (While e s) = tables (after_value q (bare_expression e) + 1 + 1) s
    form_tables q (Repeat s e) = tables (q + 1) s
    form_tables q (For x at from down to s) =
        tables (after_value (after_value q (bare_expression from)) (bare_expression to) + 1 + 1) s
    form_tables q (Case e arms) = tables_arms (after_tests (after_value q (bare_expression e)) (bare_arms arms) + 1)
        arms
    form_tables q (Parallel ss) = record { children = children (q + 1 + 1) ss } ∷ tables_children (q + 1 + 1) ss
    form_tables q (Forall x from to s) =
        let b = after_value (after_value q (bare_expression from)) (bare_expression to) in
        record { children = child (b + 1 + 1) (Some x) s ∷ [] } ∷ tables (b + 1 + 1) s
    form_tables _ _ = []

    pub tables_all : ℕ → Statements → List ForkTable
    tables_all q NoStatement = []
    tables_all q (AndThen s rest) = tables q s ++ tables_all (after_statement p q (bare_statement s)) rest

    pub tables_children : ℕ → Statements → List ForkTable
    tables_children q NoStatement = []
    tables_children q (AndThen s rest) = tables q s ++ tables_children (after_statement p q (bare_statement s) + 1) rest

    pub tables_arms : ℕ → Arms → List ForkTable
    tables_arms q NoArm = []
    tables_arms q (Or (On ms s) rest) = tables q s ++ tables_arms (after_statement p q (bare_statement s) + 1) rest

  abbrev pub tables_blocks : ℕ → List Block → List ForkTable
  tables_blocks q [] = []
  tables_blocks q (k ∷ ks) = tables q k.body ++ tables_blocks (after_block p q (bare_block k)) ks
