-- A tree has one text of its sets.
use Rattle.std.proofs.Common.{◌≡◌, ℕ, zero, suc, ◌<◌, Bool, true, List, [], ◌∷◌, ◌++◌, length, Some, None, inl, inr}
use Rattle.std.proofs.Common.{slice_get, refl, sym, ap, ◌∙◌, subst}
use Rattle.std.specs.Prelude.{◌↔◌, codes}
use Rattle.std.specs.List.{All, flat_map}
use Rattle.std.specs.Cmp.{both_ways}
use Rattle.std.proofs.lemmas.List.Elements.{All-nil, All-cons, All-append, All-get_or}
use Rattle.std.proofs.lemmas.List.Sorted.{All-permutation}
use Rattle.std.proofs.lemmas.Option.{get_or_from_slice_get}
use Rattle.sp_base.specs.declared.place.Place.{Place}
use Rattle.sp_tree.specs.PlainChecked.{Statement, Does, Form, Empty, Assign, Call, Sequence, If, While, Repeat, For}
use Rattle.sp_tree.specs.PlainChecked.{Case, Parallel, Forall, Assume, ReadValue, ReadLine, WriteValue, WriteText}
use Rattle.sp_tree.specs.PlainChecked.{WriteLine, Open, Send, Receive, ElsePart, NoElse, Else, Statements, NoStatement}
use Rattle.sp_tree.specs.PlainChecked.{AndThen, On, Arms, NoArm, Or, Block, Program}
use Rattle.sp_tree.specs.declared.checked.Variable as checked
use Rattle.sp_varsets.specs.AreSets.{AreSets, targets_of, expressions_of}
use Rattle.sp_varsets.specs.Members.{has}
use Rattle.sp_varsets.specs.Parts.{number_of, IsPart, IsInForm, IsInOther, IsInStatements, IsInArms}
use Rattle.sp_varsets.specs.declared.sets.Sets.{Sets}
use Rattle.sp_varsets.specs.declared.var_set.VarSet.{VarSet}
use Rattle.sp_varsets.specs.declared.sets_line.SetsLine.{SetsLine}
use Rattle.sp_varsets.specs.LineForks.{process_lines, statement_lines, form_lines, other_lines}
use Rattle.sp_varsets.specs.LineForks.{statements_lines, arms_lines}
use Rattle.sp_varsets.specs.LineForks.{blocks_lines, tree_lines}
use Rattle.sp_varsets.specs.TextOrders.{IsInOrder, line_cmp, variable_cmp}
use Rattle.sp_varsets.specs.SetsText.{IsBoth, IsLineAt, IsOfBlock, IsSetsText, IsVariables, Joined, head_by, members}
use Rattle.sp_varsets.specs.SetsText.{name_text}
use Rattle.sp_varsets.proofs.TextJoins.{joined_once}
use Rattle.sp_varsets.proofs.Members.{same_members}
use Rattle.sp_varsets.proofs.LineOrders.{line_total, one_order, same_line, same_variable, variable_total}

-- ---- the statements of lines stand in the tree

module _ (P : ℕ → Type 0) where
  abbrev StatementHolds : SetsLine → Type 0
  StatementHolds l = P l.statement

  abbrev Numbers : List SetsLine → Type 0
  Numbers = All StatementHolds

  process_numbers : (at : Place) (k : ℕ) (ss : Statements) → ((t : Statement) → IsInStatements t ss → P (number_of t))
      → Numbers (process_lines at k ss)
  process_numbers at k NoStatement h = All-nil StatementHolds
  process_numbers at k (AndThen (Does n here form) rest) h =
      All-cons StatementHolds (record { at = at; part = Some k; statement = n }) (process_lines at (suc k) rest)
      (h (Does n here form) (inl (inl refl))) (process_numbers at (suc k) rest (λ t i. h t (inr i)))

  mutual
    statement_numbers : (s : Statement) → ((t : Statement) → IsPart t s → P (number_of t)) → Numbers (statement_lines s)
    statement_numbers (Does n at form) h = form_numbers at form (λ t i. h t (inr i))

    form_numbers : (at : Place) (form : Form) → ((t : Statement) → IsInForm t form → P (number_of t))
        → Numbers (form_lines at form)
    form_numbers at Empty h = All-nil StatementHolds
    form_numbers at (Assign v e) h = All-nil StatementHolds
    form_numbers at (Call f args) h = All-nil StatementHolds
    form_numbers at (Sequence ss) h = statements_numbers ss h
    form_numbers at (If e s other) h = All-append StatementHolds (statement_lines s) (other_lines other)
        (statement_numbers s (λ t i. h t (inl i))) (other_numbers other (λ t i. h t (inr i)))
    form_numbers at (While e s) h = statement_numbers s h
    form_numbers at (Repeat s e) h = statement_numbers s h
    form_numbers at (For x name from down to s) h = statement_numbers s h
    form_numbers at (Case e choices) h = arms_numbers choices h
    form_numbers at (Parallel ss) h = All-append StatementHolds (process_lines at 0 ss) (statements_lines ss)
        (process_numbers at 0 ss h) (statements_numbers ss h)
    form_numbers at (Forall x from to (Does n here form)) h =
        All-cons StatementHolds (record { at = at; part = None; statement = n }) (statement_lines (Does n here form))
        (h (Does n here form) (inl refl)) (statement_numbers (Does n here form) h)
    form_numbers at (Assume e) h = All-nil StatementHolds
    form_numbers at (ReadValue v) h = All-nil StatementHolds
    form_numbers at ReadLine h = All-nil StatementHolds
    form_numbers at (WriteValue e w) h = All-nil StatementHolds
    form_numbers at (WriteText t w) h = All-nil StatementHolds
    form_numbers at WriteLine h = All-nil StatementHolds
    form_numbers at (Open v) h = All-nil StatementHolds
    form_numbers at (Send c e) h = All-nil StatementHolds
    form_numbers at (Receive c v) h = All-nil StatementHolds

    other_numbers : (o : ElsePart) → ((t : Statement) → IsInOther t o → P (number_of t)) → Numbers (other_lines o)
    other_numbers NoElse h = All-nil StatementHolds
    other_numbers (Else s) h = statement_numbers s h

    statements_numbers : (ss : Statements) → ((t : Statement) → IsInStatements t ss → P (number_of t))
        → Numbers (statements_lines ss)
    statements_numbers NoStatement h = All-nil StatementHolds
    statements_numbers (AndThen s rest) h = All-append StatementHolds (statement_lines s) (statements_lines rest)
        (statement_numbers s (λ t i. h t (inl i))) (statements_numbers rest (λ t i. h t (inr i)))

    arms_numbers : (xs : Arms) → ((t : Statement) → IsInArms t xs → P (number_of t)) → Numbers (arms_lines xs)
    arms_numbers NoArm h = All-nil StatementHolds
    arms_numbers (Or (On cs s) rest) h = All-append StatementHolds (statement_lines s) (arms_lines rest)
        (statement_numbers s (λ t i. h t (inl i))) (arms_numbers rest (λ t i. h t (inr i)))

  pub blocks_numbers : (ks : List Block) → ((b : ℕ) (k : Block) → slice_get ks b ≡ Some k → (t : Statement)
      → IsPart t k.body → P (number_of t)) → Numbers (blocks_lines ks)
  blocks_numbers [] h = All-nil StatementHolds
  blocks_numbers (k ∷ ks) h = All-append StatementHolds (statement_lines k.body) (blocks_lines ks)
      (statement_numbers k.body (λ t i. h 0 k refl t i)) (blocks_numbers ks (λ b m e t i. h (suc b) m e t i))

-- ---- one text

same_bool : (a b : Bool) (P : Type 0) → (a ≡ true) ↔ P → (b ≡ true) ↔ P → a ≡ b
same_bool a b P h k = both_ways a b (λ e. k.1 (h.0 e)) (λ e. h.1 (k.0 e))

module _ (vs : List checked.Variable) where
  variables_once : (v w : VarSet) → ((x : ℕ) → has v x ≡ has w x) → (a b : List ℕ) → IsVariables vs v a
      → IsVariables vs w b → a ≡ b
  variables_once v w same a b (xs, up, e) (ys, vp, f) =
      e ∙ (ap (flat_map (name_text vs)) (one_order (variable_cmp vs) (variable_total vs) (same_variable vs)
      (members w (length vs)) xs ys (subst (λ zs. IsInOrder (variable_cmp vs) zs xs)
      (same_members v w same (length vs)) up) vp) ∙ sym f)

  both_once : (v w v' w' : VarSet) → ((x : ℕ) → has v x ≡ has v' x) → ((x : ℕ) → has w x ≡ has w' x) → (a b : List ℕ)
      → IsBoth vs v w a → IsBoth vs v' w' b → a ≡ b
  both_once v w v' w' same also a b (p, q, hp, hq, e) (r, t, kr, kt, f) =
      e ∙ (ap (λ z. codes " targets" ++ z ++ codes " expressions" ++ q ++ codes "\n")
      (variables_once v v' same p r hp kr)
      ∙ (ap (λ z. codes " targets" ++ r ++ codes " expressions" ++ z ++ codes "\n") (variables_once w w' also q t hq kt)
      ∙ sym f))

module _ (p : Program) (s t : Sets) (first : AreSets p s) (second : AreSets p t) where
  -- both sets of a statement are the same in both
  abbrev SetsAgree : ℕ → Type 0
  SetsAgree n = ((x : ℕ) → has (targets_of s n) x ≡ has (targets_of t n) x)
      × ((x : ℕ) → has (expressions_of s n) x ≡ has (expressions_of t n) x)

  agree : (b : ℕ) (k : Block) → slice_get p.blocks b ≡ Some k → (u : Statement) → IsPart u k.body
      → SetsAgree (number_of u)
  agree b k e u i =
      let h = first.statements b k e u i in
      let g = second.statements b k e u i in
      (λ x. same_bool _ _ _ (h.targets x) (g.targets x), λ x. same_bool _ _ _ (h.expressions x) (g.expressions x))

  agree_lines : (ls : List SetsLine) → IsInOrder line_cmp (tree_lines p) ls
      → All (λ (l : SetsLine). SetsAgree l.statement) ls
  agree_lines ls (moved, up) = All-permutation (λ (l : SetsLine). SetsAgree l.statement) (tree_lines p) ls moved
      (blocks_numbers SetsAgree p.blocks agree)

  line_once : (ls : List SetsLine) → All (λ (l : SetsLine). SetsAgree l.statement) ls → (i : ℕ) (a b : List ℕ)
      → i < length ls
      → IsLineAt p.variables s ls i a → IsLineAt p.variables t ls i b → a ≡ b
  line_once ls all i a b low (l, at, (c, h, e)) (m, here, (d, k, f)) = go m same f k
    where
      same : l ≡ m
      same = let x : Some l ≡ Some m = sym at ∙ here in cc x

      agrees : SetsAgree l.statement
      agrees = subst (λ (z : SetsLine). SetsAgree z.statement) (get_or_from_slice_get ls i l l at)
          (All-get_or (λ (z : SetsLine). SetsAgree z.statement) ls i l low all)

      go : (m : SetsLine) → l ≡ m → b ≡ head_by m.at m.part ++ d
          → IsBoth p.variables (targets_of t m.statement) (expressions_of t m.statement) d → a ≡ b
      go m x f k =
          let one = both_once p.variables _ _ _ _ agrees.0 agrees.1 c d h
          (subst (λ (z : SetsLine). IsBoth p.variables (targets_of t z.statement) (expressions_of t z.statement) d)
          (sym x) k) in
          e ∙ (ap (λ z. head_by l.at l.part ++ z) one ∙ (ap (λ (z : SetsLine). head_by z.at z.part ++ d) x ∙ sym f))

  block_once : (b : ℕ) (u v : List ℕ) → b < length p.blocks → IsOfBlock p.variables s p.blocks b u
      → IsOfBlock p.variables t p.blocks b v → u ≡ v
  block_once zero u v low h k = h ∙ sym k
  block_once (suc b) u v low (l, at, (c, h, e)) (m, here, (d, k, f)) =
      let same : l ≡ m = (let x : Some l ≡ Some m = sym at ∙ here in cc x) in
      let x = first.blocks (suc b) l at in
      let y = second.blocks (suc b) l at in
      let one = both_once p.variables _ _ _ _ (λ z. same_bool _ _ _ (x.targets z) (y.targets z))
      (λ z. same_bool _ _ _ (x.expressions z) (y.expressions z)) c d h k in
      e ∙ (ap (λ z. codes "implicit " ++ l.name ++ z) one
      ∙ (ap (λ (z : Block). codes "implicit " ++ z.name ++ d) same ∙ sym f))

  pub one_text : (a b : List ℕ) → IsSetsText p s a → IsSetsText p t b → a ≡ b
  one_text a b (ls, up, x, y, hx, hy, e) (ms, vp, u, v, ku, kv, f) =
      let same = one_order line_cmp line_total same_line (tree_lines p) ls ms up vp in
      let front = joined_once _ _ (length p.blocks) block_once x u hx ku in
      let back = joined_once _ _ (length ls) (line_once ls (agree_lines ls up)) y v hy
      (subst (λ zs. Joined (IsLineAt p.variables t zs) (length zs) v) (sym same) kv) in
      e ∙ (ap (λ z. z ++ y) front ∙ (ap (λ z. u ++ z) back ∙ sym f))
