-- None of this belongs to what the program promises: it is for contracts between crates.
-- Code as far as it is written: what it is once the code of a part was put behind it. The contracts of statements and
-- choices say what they add, so that no code is moved after it was written.
use Rattle.std.specs.Prelude.{ℕ, ◌+◌, ℤ, List, [], ◌∷◌, ◌++◌, Some, length, map, slice_set}
use Rattle.sp_tree.specs.PlainChecked as c
use Rattle.sp_tree.specs.Bare.{bare_expression, bare_statement, bare_statement_form, bare_statements, bare_arms}
use Rattle.sp_tree.specs.Bare.{bare_variable, bare_block}
use Rattle.sp_tree.specs.Around.{Scope, OfIndex, scopes_of}
use Rattle.sp_tree.specs.Plain as b
use Rattle.sp_code.specs.declared.instr.Instr.{Instr}
use Rattle.sp_code.specs.declared.instr.Instr.TheVariants as i
use Rattle.sp_code.specs.declared.code.ForkTable.{ForkTable}
use Rattle.sp_code.specs.Scopes.{sort, size, kind_of, type_of}
use Rattle.sp_code.specs.Places.{after_statement, after_tests, after_arms}
use Rattle.sp_code.specs.TreeCode.{value_code, var_code, right_code, assign_instr, code, code_all, code_children}
use Rattle.sp_code.specs.TreeCode.{code_arms, test_code, tests_code, texts_of, texts_of_all, texts_of_arms, end_instr}
use Rattle.sp_code.specs.TreeCode.{blocks_code, blocks_texts}
use Rattle.sp_generate.specs.Tables.{child, tables, form_tables, tables_all, tables_children, tables_arms}
use Rattle.sp_generate.specs.Tables.{tables_blocks}

-- instructions, fork tables and texts that are written
pub record WrittenCode : Type 0 where
  pub instrs : List Instr
  pub forks : List ForkTable
  pub texts : List (List ℕ)

-- an assignment
abbrev pub assign_code : b.Program → List Scope → b.Var → b.Expr → List Instr
assign_code p sc v (b.Typed k form) = var_code p sc v
    ++ (right_code p sc k (sort p k) form ++ assign_instr (sort p k) (size p k) ∷ [])

abbrev pub right_side : b.Program → List Scope → b.Expr → List Instr
right_side p sc (b.Typed k form) = right_code p sc k (sort p k) form

-- these parts
abbrev pub buffer_of : List Instr → List ForkTable → List (List ℕ) → WrittenCode
buffer_of xs fs ts = record { instrs = xs; forks = fs; texts = ts }

-- instructions alone
abbrev pub with_code : WrittenCode → List Instr → WrittenCode
with_code d xs = record { instrs = d.instrs ++ xs; forks = d.forks; texts = d.texts }

module _ (p : b.Program) (moved shared : ℕ → List ℕ) where
  unfoldable pub buffer_after : WrittenCode → List Scope → c.Statement → WrittenCode
  buffer_after d sc s = record {
    instrs = d.instrs ++ code p sc (length d.forks) (length d.texts) (length d.instrs) (bare_statement s);
    forks = d.forks ++ tables p moved shared (length d.instrs) s;
    texts = d.texts ++ texts_of (bare_statement s);
  }

  unfoldable pub buffer_after_form : WrittenCode → List Scope → c.Form → WrittenCode
  buffer_after_form d sc form = record {
    instrs = d.instrs ++ code p sc (length d.forks) (length d.texts) (length d.instrs) (bare_statement_form form);
    forks = d.forks ++ form_tables p moved shared (length d.instrs) form;
    texts = d.texts ++ texts_of (bare_statement_form form);
  }

  unfoldable pub buffer_after_all : WrittenCode → List Scope → c.Statements → WrittenCode
  buffer_after_all d sc ss = record {
    instrs = d.instrs ++ code_all p sc (length d.forks) (length d.texts) (length d.instrs) (bare_statements ss);
    forks = d.forks ++ tables_all p moved shared (length d.instrs) ss;
    texts = d.texts ++ texts_of_all (bare_statements ss);
  }

  -- the processes of a `parallel`, with an `end` behind each
  unfoldable pub buffer_after_children : WrittenCode → List Scope → c.Statements → WrittenCode
  buffer_after_children d sc ss = record {
    instrs = d.instrs ++ code_children p sc (length d.forks) (length d.texts) (length d.instrs) (bare_statements ss);
    forks = d.forks ++ tables_children p moved shared (length d.instrs) ss;
    texts = d.texts ++ texts_of_all (bare_statements ss);
  }

  -- the statements of a `case`, with a jump behind each
  unfoldable pub buffer_after_arms : WrittenCode → List Scope → c.Arms → (end : ℕ) → WrittenCode
  buffer_after_arms d sc arms end = record {
    instrs = d.instrs ++ code_arms p sc (length d.forks) (length d.texts) (length d.instrs) (bare_arms arms) end;
    forks = d.forks ++ tables_arms p moved shared (length d.instrs) arms;
    texts = d.texts ++ texts_of_arms (bare_arms arms);
  }

  -- a statement that is left out where the condition is false: the jump goes so many instructions beyond it
  unfoldable pub buffer_after_branch : WrittenCode → List Scope → c.Statement → (beyond : ℕ) → WrittenCode
  buffer_after_branch d sc s beyond =
      let q = length d.instrs in
      record {
        instrs = d.instrs ++ (i.Jumpf (after_statement p (q + 1) (bare_statement s) + beyond)
            ∷ code p sc (length d.forks) (length d.texts) (q + 1) (bare_statement s));
        forks = d.forks ++ tables p moved shared (q + 1) s;
        texts = d.texts ++ texts_of (bare_statement s);
      }

  -- a statement that is passed over by a jump
  unfoldable pub buffer_after_passed : WrittenCode → List Scope → c.Statement → WrittenCode
  buffer_after_passed d sc s =
      let q = length d.instrs in
      record {
        instrs = d.instrs ++ (i.Jump (after_statement p (q + 1) (bare_statement s))
            ∷ code p sc (length d.forks) (length d.texts) (q + 1) (bare_statement s));
        forks = d.forks ++ tables p moved shared (q + 1) s;
        texts = d.texts ++ texts_of (bare_statement s);
      }

  -- a loop's first instruction, which leaves to behind the last, then a tick and the statement, then the loop's last
  -- instruction
  unfoldable pub buffer_after_loop : WrittenCode → List Scope → c.Statement → (ℕ → Instr) → Instr → WrittenCode
  buffer_after_loop d sc s leave again =
      let q = length d.instrs in
      record {
        instrs = d.instrs ++ (leave (after_statement p (q + 1 + 1) (bare_statement s) + 1) ∷ i.Tick
            ∷ (code p sc (length d.forks) (length d.texts) (q + 1 + 1) (bare_statement s) ++ again ∷ []));
        forks = d.forks ++ tables p moved shared (q + 1 + 1) s;
        texts = d.texts ++ texts_of (bare_statement s);
      }

  -- a forall behind its limits
  unfoldable pub buffer_after_forall : WrittenCode → List Scope → (index : ℕ) → c.Statement → WrittenCode
  buffer_after_forall d sc x s =
      let q = length d.instrs in
      let t = length d.forks in
      record {
        instrs = d.instrs ++ (i.Forall t ∷ i.Jump (after_statement p (q + 1 + 1) (bare_statement s) + 1)
            ∷ (code p (OfIndex x ∷ sc) (t + 1) (length d.texts) (q + 1 + 1) (bare_statement s) ++ i.End ∷ []));
        forks = d.forks ++ (record { children = child p moved shared (q + 1 + 1) (Some x) s ∷ [] }
            ∷ tables p moved shared (q + 1 + 1) s);
        texts = d.texts ++ texts_of (bare_statement s);
      }

  -- a `case` behind its selector
  unfoldable pub buffer_after_case : WrittenCode → List Scope → c.Arms → WrittenCode
  buffer_after_case d sc arms =
      let b = after_tests (length d.instrs) (bare_arms arms) in
      record {
        instrs = d.instrs ++ (tests_code p (bare_arms arms) (b + 1)
            ++ (i.Nocase ∷ code_arms p sc (length d.forks) (length d.texts) (b + 1) (bare_arms arms)
            (after_arms p (b + 1) (bare_arms arms))));
        forks = d.forks ++ tables_arms p moved shared (b + 1) arms;
        texts = d.texts ++ texts_of_arms (bare_arms arms);
      }

  -- a block in its own scopes, with its end behind it
  unfoldable pub written_block : WrittenCode → ℕ → c.Block → WrittenCode
  written_block d b k = record {
    instrs = d.instrs ++ (code p (scopes_of p b) (length d.forks) (length d.texts) (length d.instrs)
        (bare_statement k.body) ++ end_instr b ∷ []);
    forks = d.forks ++ tables p moved shared (length d.instrs) k.body;
    texts = d.texts ++ texts_of (bare_statement k.body);
  }

  -- the blocks in order, from block b on
  unfoldable pub written_blocks : WrittenCode → ℕ → List c.Block → WrittenCode
  written_blocks d b ks = record {
    instrs = d.instrs ++ blocks_code p b (length d.forks) (length d.texts) (length d.instrs) (map bare_block ks);
    forks = d.forks ++ tables_blocks p moved shared (length d.instrs) ks;
    texts = d.texts ++ blocks_texts (map bare_block ks);
  }

module _ (p : b.Program) where
  -- where each statement of a `case` begins, and where the jump behind it stands
  abbrev pub starts_of : ℕ → b.Arms → List ℕ
  starts_of q b.NoArm = []
  starts_of q (b.Or (b.On ms s) rest) = q ∷ starts_of (after_statement p q s + 1) rest

  abbrev pub ends_of : ℕ → b.Arms → List ℕ
  ends_of q b.NoArm = []
  ends_of q (b.Or (b.On ms s) rest) = after_statement p q s ∷ ends_of (after_statement p q s + 1) rest

-- the tests of a `case` before it is known where they lead
abbrev pub blank_tests : b.Arms → List Instr
blank_tests b.NoArm = []
blank_tests (b.Or (b.On ms s) rest) = test_code ms 0 ++ blank_tests rest

-- jumps to the end at each of these places
abbrev pub filled_ends : List Instr → List ℕ → (end : ℕ) → List Instr
filled_ends xs [] end = xs
filled_ends xs (n ∷ ns) end = filled_ends (slice_set xs n (i.Jump end)) ns end

-- tests from place k on, which lead to one statement; and to a statement for each choice
abbrev pub filled_test : List Instr → (k : ℕ) → List ℤ → (to : ℕ) → List Instr
filled_test xs k [] to = xs
filled_test xs k (m ∷ ms) to = filled_test (slice_set xs k (i.Casej m to)) (k + 1) ms to

abbrev pub filled_tests : List Instr → (k : ℕ) → b.Arms → List ℕ → List Instr
filled_tests xs k b.NoArm starts = xs
filled_tests xs k (b.Or a rest) [] = xs
filled_tests xs k (b.Or (b.On ms s) rest) (to ∷ starts) =
    filled_tests (filled_test xs k ms to) (k + length ms) rest starts

-- several values, or variables, on one channel
abbrev pub sends_code : b.Program → List Scope → b.Expr → List c.Expression → List Instr
sends_code p sc channel [] = []
sends_code p sc channel (e ∷ es) = (value_code p sc channel
    ++ (value_code p sc (bare_expression e) ++ i.Send (kind_of (bare_expression e)) ∷ [])) ++ sends_code p sc channel es

abbrev pub receives_code : b.Program → List Scope → b.Expr → List c.Variable → List Instr
receives_code p sc channel [] = []
receives_code p sc channel (v ∷ vs) = (value_code p sc channel
    ++ (var_code p sc (bare_variable v) ++ i.Receive (type_of p (bare_variable v)) ∷ []))
    ++ receives_code p sc channel vs
