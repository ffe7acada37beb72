-- A use in the list of a statement's uses stands in the statement.
use Rattle.std.proofs.Common.{◌≡◌, ◌≢◌, ◌⊎◌, inl, inr, ℕ, Bool, true, false, cond, not, ◌==◌, List, [], ◌∷◌, ◌++◌}
use Rattle.std.proofs.Common.{Option, Some, None, refl, sym, ap, ◌∙◌, true≢false, eq-eqb}
use Rattle.sp_tree.specs.Plain.{Expr, Typed, ExprForm, Number, Read, Unary, Binary, Apply, Standard, AtInput, Var}
use Rattle.sp_tree.specs.Plain.{Entire, Index, Field, Selectors, Whole, Select, ByValue, ByReference, Actuals, Nothing}
use Rattle.sp_tree.specs.Plain.{Pass, Stmt, Empty, Assign, Call, Sequence, If, IfElse, While, Repeat, For, Case}
use Rattle.sp_tree.specs.Plain.{Parallel, Forall, Assume, ReadValue, ReadLine, WriteValue, WriteText, WriteLine, Open}
use Rattle.sp_tree.specs.Plain.{Send, Receive, Stmts, No, And, On, Arms, NoArm, Or}
use Rattle.sp_tree.specs.Uses.{Use, Target, Seen, In_expr, In_form, In_read}
use Rattle.sp_tree.specs.Uses.{In_target, In_selectors, In_actuals, In_width, IsOther, In_stmt, In_stmts, In_arms}
use Rattle.sp_tree.proofs.UsesOf.{Among, expr_uses, form_uses, read_uses, target_uses, selectors_uses, actuals_uses}
use Rattle.sp_tree.proofs.UsesOf.{width_uses, is_other, others, stmt_uses, stmts_uses, arms_uses}

-- in one list or in the other
apart : (u : Use) (xs ys : List Use) {A B : Type 0} → (Among u xs → A) → (Among u ys → B) → Among u (xs ++ ys) → A ⊎ B
apart u [] ys f g h = inr (g h)
apart u (x ∷ xs) ys f g (inl e) = inl (f (inl e))
apart u (x ∷ xs) ys f g (inr h) = apart u xs ys (λ k. f (inr k)) g h

-- one more case behind
one_more : {A B C : Type 0} → A ⊎ B → A ⊎ (B ⊎ C)
one_more (inl a) = inl a
one_more (inr b) = inr (inl b)

two_more : {A B C D : Type 0} → A ⊎ (B ⊎ C) → A ⊎ (B ⊎ (C ⊎ D))
two_more (inl a) = inl a
two_more (inr h) = inr (one_more h)

mutual
  pub expr_inside : (e : Expr) (u : Use) → Among u (expr_uses e) → In_expr e u
  expr_inside (Typed k form) u h = form_inside form u h

  form_inside : (e : ExprForm) (u : Use) → Among u (form_uses e) → In_form e u
  form_inside (Number n) u h = h
  form_inside (Read v) u h = read_inside v u h
  form_inside (Unary op a) u h = expr_inside a u h
  form_inside (Binary op a b) u h = apart u (expr_uses a) (expr_uses b) (expr_inside a u) (expr_inside b u) h
  form_inside (Apply f args) u (inl e) = inl e
  form_inside (Apply f args) u (inr h) = inr (actuals_inside args u h)
  form_inside (Standard f a) u h = expr_inside a u h
  form_inside (AtInput f) u (inl e) = e
  form_inside (AtInput f) u (inr h) = absurd h

  read_inside : (v : Var) (u : Use) → Among u (read_uses v) → In_read v u
  read_inside (Entire x ss) u (inl e) = inl e
  read_inside (Entire x ss) u (inr h) = inr (selectors_inside ss u h)

  target_inside : (v : Var) (u : Use) → Among u (target_uses v) → In_target v u
  target_inside (Entire x ss) u (inl e) = inl e
  target_inside (Entire x ss) u (inr h) = inr (selectors_inside ss u h)

  selectors_inside : (ss : Selectors) (u : Use) → Among u (selectors_uses ss) → In_selectors ss u
  selectors_inside Whole u h = h
  selectors_inside (Select (Index e) rest) u h =
      apart u (expr_uses e) (selectors_uses rest) (expr_inside e u) (selectors_inside rest u) h
  selectors_inside (Select (Field f) rest) u h = selectors_inside rest u h

  actuals_inside : (args : Actuals) (u : Use) → Among u (actuals_uses args) → In_actuals args u
  actuals_inside Nothing u h = h
  actuals_inside (Pass (ByValue e) rest) u h =
      apart u (expr_uses e) (actuals_uses rest) (expr_inside e u) (actuals_inside rest u) h
  actuals_inside (Pass (ByReference v) rest) u h =
      apart u (target_uses v) (actuals_uses rest) (target_inside v u) (actuals_inside rest u) h

width_inside : (w : Option Expr) (u : Use) → Among u (width_uses w) → In_width w u
width_inside None u h = h
width_inside (Some e) u h = expr_inside e u h

not_equal : (x y : ℕ) → not (x == y) ≡ true → x ≢ y
not_equal x y h e = absurd (true≢false (sym h ∙ ap not (eq-eqb x y e)))

other_of : (x : ℕ) (u : Use) → is_other x u ≡ true → IsOther x u
other_of x (Target y) h = not_equal x y h
other_of x (Seen y) h = not_equal x y h
other_of _ _ _ = tt

others_inside : (x : ℕ) (us : List Use) (u : Use) → Among u (others x us) → Among u us × IsOther x u
others_inside x [] u h = absurd h
others_inside x (v ∷ vs) u h = go (is_other x v) refl (λ k. others_inside x vs u k) h
  where
    go : (b : Bool) → is_other x v ≡ b → (Among u (others x vs) → Among u vs × IsOther x u)
        → Among u (cond b (v ∷ others x vs) (others x vs)) → Among u (v ∷ vs) × IsOther x u
    go true e later (inl i) = (inl i, other_of x u (ap (is_other x) i ∙ e))
    go true e later (inr k) = let r = later k in (inr r.0, r.1)
    go false e later k = let r = later k in (inr r.0, r.1)

mutual
  pub stmt_inside : (s : Stmt) (u : Use) → Among u (stmt_uses s) → In_stmt s u
  stmt_inside Empty u h = h
  stmt_inside (Assign v e) u h = apart u (target_uses v) (expr_uses e) (target_inside v u) (expr_inside e u) h
  stmt_inside (Call f args) u (inl e) = inl e
  stmt_inside (Call f args) u (inr h) = inr (actuals_inside args u h)
  stmt_inside (Sequence ss) u h = stmts_inside ss u h
  stmt_inside (If e a) u h = apart u (expr_uses e) (stmt_uses a) (expr_inside e u) (stmt_inside a u) h
  stmt_inside (IfElse e a b) u h = apart u (expr_uses e) (stmt_uses a ++ stmt_uses b) (expr_inside e u)
      (apart u (stmt_uses a) (stmt_uses b) (stmt_inside a u) (stmt_inside b u)) h
  stmt_inside (While e s) u h = apart u (expr_uses e) (stmt_uses s) (expr_inside e u) (stmt_inside s u) h
  stmt_inside (Repeat s e) u h = apart u (expr_uses e) (stmt_uses s) (expr_inside e u) (stmt_inside s u) h
  stmt_inside (For x from down to s) u (inl e) = inl e
  stmt_inside (For x from down to s) u (inr h) =
      inr (apart u (expr_uses from) (expr_uses to ++ stmt_uses s) (expr_inside from u)
      (apart u (expr_uses to) (stmt_uses s) (expr_inside to u) (stmt_inside s u)) h)
  stmt_inside (Case e arms) u h = apart u (expr_uses e) (arms_uses arms) (expr_inside e u) (arms_inside arms u) h
  stmt_inside (Parallel ss) u (inl e) = inl e
  stmt_inside (Parallel ss) u (inr (inl e)) = inr (inr e)
  stmt_inside (Parallel ss) u (inr (inr h)) = inr (inl (stmts_inside ss u h))
  stmt_inside (Forall x from to s) u (inl e) = inl e
  stmt_inside (Forall x from to s) u (inr (inl e)) = inr (inr (inr (inr e)))
  stmt_inside (Forall x from to s) u (inr (inr h)) =
      inr (two_more (apart u (expr_uses from) (expr_uses to ++ others x (stmt_uses s)) (expr_inside from u)
      (apart u (expr_uses to) (others x (stmt_uses s)) (expr_inside to u)
      (λ k. (stmt_inside s u (others_inside x (stmt_uses s) u k).0, (others_inside x (stmt_uses s) u k).1))) h))
  stmt_inside (Assume e) u h = expr_inside e u h
  stmt_inside (ReadValue v) u (inl e) = inl e
  stmt_inside (ReadValue v) u (inr (inl e)) = inr (inr e)
  stmt_inside (ReadValue v) u (inr (inr h)) = inr (inl (target_inside v u h))
  stmt_inside ReadLine u (inl e) = inl e
  stmt_inside ReadLine u (inr (inl e)) = inr e
  stmt_inside ReadLine u (inr (inr h)) = absurd h
  stmt_inside (WriteValue e w) u (inl i) = inl i
  stmt_inside (WriteValue e w) u (inr (inl i)) = inr (inr (inr i))
  stmt_inside (WriteValue e w) u (inr (inr h)) =
      inr (one_more (apart u (expr_uses e) (width_uses w) (expr_inside e u) (width_inside w u) h))
  stmt_inside (WriteText t w) u (inl e) = inl e
  stmt_inside (WriteText t w) u (inr (inl e)) = inr (inr e)
  stmt_inside (WriteText t w) u (inr (inr h)) = inr (inl (width_inside w u h))
  stmt_inside WriteLine u (inl e) = inl e
  stmt_inside WriteLine u (inr (inl e)) = inr e
  stmt_inside WriteLine u (inr (inr h)) = absurd h
  stmt_inside (Open v) u (inl e) = inr e
  stmt_inside (Open v) u (inr h) = inl (target_inside v u h)
  stmt_inside (Send c e) u (inl i) = inr (inr i)
  stmt_inside (Send c e) u (inr h) = one_more
      (apart u (expr_uses c) (expr_uses e) (expr_inside c u) (expr_inside e u) h)
  stmt_inside (Receive c v) u (inl i) = inr (inr i)
  stmt_inside (Receive c v) u (inr h) = one_more
      (apart u (expr_uses c) (target_uses v) (expr_inside c u) (target_inside v u) h)

  pub stmts_inside : (ss : Stmts) (u : Use) → Among u (stmts_uses ss) → In_stmts ss u
  stmts_inside No u h = h
  stmts_inside (And s rest) u h = apart u (stmt_uses s) (stmts_uses rest) (stmt_inside s u) (stmts_inside rest u) h

  arms_inside : (arms : Arms) (u : Use) → Among u (arms_uses arms) → In_arms arms u
  arms_inside NoArm u h = h
  arms_inside (Or (On ms s) rest) u h = apart u (stmt_uses s) (arms_uses rest) (stmt_inside s u) (arms_inside rest u) h
