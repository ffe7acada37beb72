-- The code that is written by numbers of statements is the code of the program.
use Rattle.std.proofs.Common.{◌≡◌, ◌⊎◌, inl, inr, ℕ, zero, suc, ◌+◌, ◌*◌, ◌≤◌, ◌<◌, Bool, true, false, not, List, []}
use Rattle.std.proofs.Common.{◌∷◌, ◌++◌, length, map, slice_get, Option, Some, None, refl, sym, ap, ◌∙◌, arith}
use Rattle.std.proofs.Common.{true≢false}
use Rattle.std.specs.List.{filter}
use Rattle.std.proofs.lemmas.Bool.{false_from_ne_true}
use Rattle.sp_base.proofs.Facts.{not_refutes, same_if_both_follow}
use Rattle.sp_tree.specs.PlainChecked as c
use Rattle.sp_tree.specs.Bare.{without_places, bare_block, bare_expression, bare_statement, bare_statement_form}
use Rattle.sp_tree.specs.Bare.{bare_statements}
use Rattle.sp_tree.specs.Bare.{bare_arms}
use Rattle.sp_tree.specs.Plain.{Program, Stmt}
use Rattle.sp_tree.specs.Uses.{In_stmt}
use Rattle.sp_tree.specs.Sets.{IsUsed}
use Rattle.sp_tree.specs.Interference.{IsMember}
use Rattle.sp_code.specs.Places.{after_value, after_statement, after_block}
use Rattle.sp_code.specs.TreeCode as e
use Rattle.sp_code.specs.Shares.{SetsAre}
use Rattle.sp_varsets.specs.declared.sets.Sets.{Sets}
use Rattle.sp_varsets.specs.AreSets.{AreSets, OfStatement, targets_of, expressions_of}
use Rattle.sp_varsets.specs.Parts.{number_of, IsPart, IsInForm, IsInStatements, IsInArms}
use Rattle.sp_varsets.specs.Members.{has}
use Rattle.sp_varsets.proofs.Words.{below_words}
use Rattle.sp_generate.specs.Handings.{IsInOrder, fitting_numbers, moved_of, shared_of}
use Rattle.sp_generate.specs.Tables.{child, children, tables, form_tables, tables_all, tables_children, tables_arms}
use Rattle.sp_generate.specs.Tables.{tables_blocks}
use Rattle.sp_generate.specs.NumberedCode.{numbered_code}
use Rattle.sp_generate.specs.GeneratorAnswers.{Handing, IsCodeOf}
use Rattle.sp_generate.proofs.SetTests.{is_target, is_seen, limit_of, target_below, seen_below, target_told}
use Rattle.sp_generate.proofs.SetTests.{target_tells, seen_told, seen_tells, has_fitting, of_fitting, fitting_in_order}
use Rattle.sp_generate.proofs.SetTests.{same_fitting, has_filter, of_filter, filter_in_order, each_once}

-- ---- fork tables by numbers, and by statements

module _ (p : Program) (mv sh : ℕ → List ℕ) (moves shares : Stmt → List ℕ) where
  -- what the number of a statement tells is what the statement tells
  abbrev Tells : c.Statement → Type 0
  Tells t = (mv (number_of t) ≡ moves (bare_statement t)) × (sh (number_of t) ≡ shares (bare_statement t))

  line : (q : ℕ) (index : Option ℕ) (s : c.Statement) → Tells s
      → child p mv sh q index s ≡ e.child_table p moves shares q index (bare_statement s)
  line q index (c.Does n at form) h = λ i. record {
    entry = q;
    moved = h.0 i;
    shared = e.but_index index (h.1 i);
    index = index;
  }

  itself : (s : c.Statement) → ((t : c.Statement) → IsPart t s → Tells t) → Tells s
  itself (c.Does n at form) h = h (c.Does n at form) (inl refl)

  lines : (q : ℕ) (ss : c.Statements) → ((t : c.Statement) → IsInStatements t ss → Tells t)
      → children p mv sh q ss ≡ e.children_tables p moves shares q (bare_statements ss)
  lines q c.NoStatement h = refl
  lines q (c.AndThen s rest) h =
      let first = line q None s (itself s (λ t k. h t (inl k))) in
      let others = lines (after_statement p q (bare_statement s) + 1) rest (λ t k. h t (inr k)) in
      λ i. first i ∷ others i

  mutual
    one_way : (q : ℕ) (s : c.Statement) → ((t : c.Statement) → IsPart t s → Tells t)
        → tables p mv sh q s ≡ e.tables p moves shares q (bare_statement s)
    one_way q (c.Does n at form) h = form_way q form (λ t k. h t (inr k))

    form_way : (q : ℕ) (form : c.Form) → ((t : c.Statement) → IsInForm t form → Tells t)
        → form_tables p mv sh q form ≡ e.tables p moves shares q (bare_statement_form form)
    form_way q c.Empty h = refl
    form_way q (c.Assign v x) h = refl
    form_way q (c.Call f args) h = refl
    form_way q (c.Sequence ss) h = all_way q ss h
    form_way q (c.If x s c.NoElse) h = one_way _ s (λ t k. h t (inl k))
    form_way q (c.If x s (c.Else o)) h =
        let first = one_way (after_value q (bare_expression x) + 1) s (λ t k. h t (inl k)) in
        let second = one_way (after_statement p (after_value q (bare_expression x) + 1) (bare_statement s) + 1) o
        (λ t k. h t (inr k)) in
        λ i. first i ++ second i
    form_way q (c.While x s) h = one_way _ s h
    form_way q (c.Repeat s x) h = one_way _ s h
    form_way q (c.For x at from down to s) h = one_way _ s h
    form_way q (c.Case x arms) h = arms_way _ arms h
    form_way q (c.Parallel ss) h =
        let first = lines (q + 1 + 1) ss h in
        let others = children_way (q + 1 + 1) ss h in
        λ i. record { children = first i } ∷ others i
    form_way q (c.Forall x from to s) h =
        let b = after_value (after_value q (bare_expression from)) (bare_expression to) in
        let first = line (b + 1 + 1) (Some x) s (itself s h) in
        let others = one_way (b + 1 + 1) s h in
        λ i. record { children = first i ∷ [] } ∷ others i
    form_way q (c.Assume x) h = refl
    form_way q (c.ReadValue v) h = refl
    form_way q c.ReadLine h = refl
    form_way q (c.WriteValue x w) h = refl
    form_way q (c.WriteText t w) h = refl
    form_way q c.WriteLine h = refl
    form_way q (c.Open v) h = refl
    form_way q (c.Send x y) h = refl
    form_way q (c.Receive x v) h = refl

    all_way : (q : ℕ) (ss : c.Statements) → ((t : c.Statement) → IsInStatements t ss → Tells t)
        → tables_all p mv sh q ss ≡ e.tables_all p moves shares q (bare_statements ss)
    all_way q c.NoStatement h = refl
    all_way q (c.AndThen s rest) h =
        let first = one_way q s (λ t k. h t (inl k)) in
        let others = all_way (after_statement p q (bare_statement s)) rest (λ t k. h t (inr k)) in
        λ i. first i ++ others i

    children_way : (q : ℕ) (ss : c.Statements) → ((t : c.Statement) → IsInStatements t ss → Tells t)
        → tables_children p mv sh q ss ≡ e.tables_children p moves shares q (bare_statements ss)
    children_way q c.NoStatement h = refl
    children_way q (c.AndThen s rest) h =
        let first = one_way q s (λ t k. h t (inl k)) in
        let others = children_way (after_statement p q (bare_statement s) + 1) rest (λ t k. h t (inr k)) in
        λ i. first i ++ others i

    arms_way : (q : ℕ) (arms : c.Arms) → ((t : c.Statement) → IsInArms t arms → Tells t)
        → tables_arms p mv sh q arms ≡ e.tables_arms p moves shares q (bare_arms arms)
    arms_way q c.NoArm h = refl
    arms_way q (c.Or (c.On ms s) rest) h =
        let first = one_way q s (λ t k. h t (inl k)) in
        let others = arms_way (after_statement p q (bare_statement s) + 1) rest (λ t k. h t (inr k)) in
        λ i. first i ++ others i

  blocks_way : (q : ℕ) (ks : List c.Block) → ((b : ℕ) (k : c.Block) → slice_get ks b ≡ Some k → (t : c.Statement)
      → IsPart t k.body → Tells t)
      → tables_blocks p mv sh q ks ≡ e.blocks_tables p moves shares q (map bare_block ks)
  blocks_way q [] h = refl
  blocks_way q (k ∷ ks) h =
      let first = one_way q k.body (λ t i. h zero k refl t i) in
      let others = blocks_way (after_block p q (bare_block k)) ks (λ b m i. h (suc b) m i) in
      λ i. first i ++ others i

-- ---- what is moved and shared, of any statement

from_none : (n y : ℕ) → 0 + n ≤ y → n ≤ y
from_none n y h = omega (arith, h)

module _ (tree : c.Program) (sets : Sets) (are : AreSets tree sets) where
  moves : Stmt → List ℕ
  moves s = fitting_numbers (is_target tree sets s) 0 (limit_of tree sets s)

  spared : Stmt → ℕ → Bool
  spared s x = not (is_target tree sets s x)

  shares : Stmt → List ℕ
  shares s = filter (spared s) (fitting_numbers (is_seen tree sets s) 0 (limit_of tree sets s))

  low : (s : Stmt) (x : ℕ) (f : ℕ → Bool) → ((y : ℕ) → limit_of tree sets s ≤ y → f y ≡ false) → f x ≡ true
      → x < 0 + limit_of tree sets s
  low s x f none h = below x (limit_of tree sets s) (λ past. absurd (true≢false (sym h ∙ none x past)))
    where
      below : (x n : ℕ) → (n ≤ x → ⊥) → x < 0 + n
      below x n past = omega (arith, past)

  moved_has : (s : Stmt) (x : ℕ) → is_target tree sets s x ≡ true → IsMember x (moves s)
  unfolding moves
  moved_has s x h = has_fitting (is_target tree sets s) 0 (limit_of tree sets s) x (omega arith)
      (low s x (is_target tree sets s) (target_below tree sets s) h) h

  moved_is : (s : Stmt) (x : ℕ) → IsMember x (moves s) → is_target tree sets s x ≡ true
  unfolding moves
  moved_is s x m = (of_fitting (is_target tree sets s) 0 (limit_of tree sets s) x m).1

  shared_has : (s : Stmt) (x : ℕ) → is_seen tree sets s x ≡ true → is_target tree sets s x ≡ false
      → IsMember x (shares s)
  unfolding shares spared
  shared_has s x h k =
      has_filter (spared s) (fitting_numbers (is_seen tree sets s) 0 (limit_of tree sets s)) x
      (has_fitting (is_seen tree sets s) 0 (limit_of tree sets s) x (omega arith)
      (low s x (is_seen tree sets s) (seen_below tree sets s) h) h) (ap not k)

  shared_is : (s : Stmt) (x : ℕ) → IsMember x (shares s) → (is_seen tree sets s x ≡ true)
      × (not (is_target tree sets s x) ≡ true)
  unfolding shares spared
  shared_is s x m =
      let r = of_filter (spared s) (fitting_numbers (is_seen tree sets s) 0 (limit_of tree sets s)) x m in
      ((of_fitting (is_seen tree sets s) 0 (limit_of tree sets s) x r.0).1, r.1)

  moves_order : (s : Stmt) → IsInOrder (moves s)
  unfolding moves
  moves_order s = fitting_in_order (is_target tree sets s) 0 (limit_of tree sets s)

  shares_order : (s : Stmt) → IsInOrder (shares s)
  unfolding shares
  shares_order s = filter_in_order (spared s) (fitting_numbers (is_seen tree sets s) 0 (limit_of tree sets s))
      (fitting_in_order (is_seen tree sets s) 0 (limit_of tree sets s))

  used : (s : Stmt) (x : ℕ) → IsUsed (without_places tree) (In_stmt s) x → IsMember x (moves s) ⊎ IsMember x (shares s)
  used s x (inl h) = inl (moved_has s x (target_tells tree sets are s x h))
  used s x (inr h) = go (is_target tree sets s x) refl
    where
      go : (b : Bool) → is_target tree sets s x ≡ b → IsMember x (moves s) ⊎ IsMember x (shares s)
      go true e = inl (moved_has s x e)
      go false e = inr (shared_has s x (seen_tells tree sets are s x h) e)

  sets_are : SetsAre (without_places tree) moves shares
  sets_are = record {
    moved = λ s x h. moved_has s x (target_tells tree sets are s x h);
    moved_only = λ s x m. target_told tree sets are s x (moved_is s x m);
    shared = used;
    shared_only = λ s x m. inr (seen_told tree sets are s x (shared_is s x m).0);
    apart = λ s x m k. not_refutes (is_target tree sets s x) (shared_is s x k).1 (moved_is s x m);
    moved_once = λ s. each_once (moves s) (moves_order s);
    shared_once = λ s. each_once (shares s) (shares_order s);
  }

  handing : Handing (without_places tree)
  handing = record {
    moves = moves;
    shares = shares;
    are = sets_are;
    moves_in_order = moves_order;
    shares_in_order = shares_order;
  }

  -- ---- what a statement of the tree tells by its number

  has_below : (n : ℕ) → (x : ℕ) → 0 + 64 * length (targets_of sets n).words ≤ x → has (targets_of sets n) x ≡ false
  has_below n x h = false_from_ne_true (has (targets_of sets n) x)
      (λ k. let l = below_words (targets_of sets n).words x k in omega (arith, l, h))

  seen_has_below : (n : ℕ) → (x : ℕ) → 0 + 64 * length (expressions_of sets n).words ≤ x
      → has (expressions_of sets n) x ≡ false
  seen_has_below n x h = false_from_ne_true (has (expressions_of sets n) x)
      (λ k. let l = below_words (expressions_of sets n).words x k in omega (arith, l, h))

  module _ (t : c.Statement) (of : OfStatement (without_places tree) sets t) where
    target_test : (x : ℕ) → has (targets_of sets (number_of t)) x ≡ is_target tree sets (bare_statement t) x
    target_test x =
        same_if_both_follow _ _ (λ h. target_tells tree sets are (bare_statement t) x ((of.targets x).0 h))
        (λ h. (of.targets x).1 (target_told tree sets are (bare_statement t) x h))

    seen_test : (x : ℕ) → has (expressions_of sets (number_of t)) x ≡ is_seen tree sets (bare_statement t) x
    seen_test x =
        same_if_both_follow _ _ (λ h. seen_tells tree sets are (bare_statement t) x ((of.expressions x).0 h))
        (λ h. (of.expressions x).1 (seen_told tree sets are (bare_statement t) x h))

    moves_told : moved_of sets (number_of t) ≡ moves (bare_statement t)
    unfolding moves
    moves_told =
        let s = bare_statement t in
        let set = targets_of sets (number_of t) in
        same_fitting (has set) 0 (64 * length set.words) (limit_of tree sets s) (has_below (number_of t))
        (λ y h. target_test y ∙ target_below tree sets s y (from_none (limit_of tree sets s) y h))
        ∙ (λ i. fitting_numbers (λ y. target_test y i) 0 (limit_of tree sets s))

    shares_told : shared_of sets (number_of t) ≡ shares (bare_statement t)
    unfolding shares spared
    shares_told =
        let s = bare_statement t in
        let set = expressions_of sets (number_of t) in
        let all = same_fitting (has set) 0 (64 * length set.words) (limit_of tree sets s) (seen_has_below (number_of t))
        (λ y h. seen_test y ∙ seen_below tree sets s y (from_none (limit_of tree sets s) y h))
        ∙ (λ i. fitting_numbers (λ y. seen_test y i) 0 (limit_of tree sets s)) in
        λ i. filter (λ y. not (target_test y i)) (all i)

  pub is_code : IsCodeOf (without_places tree) (numbered_code tree sets)
  unfolding handing
  is_code =
      let same = blocks_way (without_places tree) (moved_of sets) (shared_of sets) moves shares 0 tree.blocks
      (λ b k h t i. (moves_told t (are.statements b k h t i), shares_told t (are.statements b k h t i))) in (
        handing,
        λ i. record {
          instrs = e.blocks_code (without_places tree) 0 0 0 0 (without_places tree).blocks;
          layouts = e.layouts_from (without_places tree) 0 0 (without_places tree).blocks;
          forks = same i;
          texts = e.blocks_texts (without_places tree).blocks;
        },
      )
