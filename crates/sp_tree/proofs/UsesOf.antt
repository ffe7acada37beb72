-- The uses in a statement as a list.
use Rattle.std.proofs.Common.{◌≡◌, ◌≢◌, ◌⊎◌, inl, inr, ℕ, Bool, true, false, cond, not, ◌==◌, List, [], ◌∷◌, ◌++◌}
use Rattle.std.proofs.Common.{Option, Some, None, refl, eqb-true}
use Rattle.sp_tree.specs.Plain.{Expr, Typed, ExprForm, Number, Read, Unary, Binary, Apply, Standard, AtInput, Var}
use Rattle.sp_tree.specs.Plain.{Entire, Index, Field, Selectors, Whole, Select, ByValue, ByReference, Actuals, Nothing}
use Rattle.sp_tree.specs.Plain.{Pass, Stmt, Empty, Assign, Call, Sequence, If, IfElse, While, Repeat, For, Case}
use Rattle.sp_tree.specs.Plain.{Parallel, Forall, Assume, ReadValue, ReadLine, WriteValue, WriteText, WriteLine, Open}
use Rattle.sp_tree.specs.Plain.{Send, Receive, Stmts, No, And, On, Arms, NoArm, Or}
use Rattle.sp_tree.specs.Uses.{Use, Target, Seen, CallOf, ParallelOf, ForallOf, Stop, In_expr, In_form, In_read}
use Rattle.sp_tree.specs.Uses.{In_target, In_selectors, In_actuals, In_width, IsOther, In_stmt, In_stmts, In_arms}

abbrev pub Among : Use → List Use → Type 0
Among u [] = ⊥
Among u (v ∷ vs) = (u ≡ v) ⊎ Among u vs

pub among_left : (u : Use) (xs ys : List Use) → Among u xs → Among u (xs ++ ys)
among_left u [] ys h = absurd h
among_left u (x ∷ xs) ys (inl e) = inl e
among_left u (x ∷ xs) ys (inr h) = inr (among_left u xs ys h)

pub among_right : (u : Use) (xs ys : List Use) → Among u ys → Among u (xs ++ ys)
among_right u [] ys h = h
among_right u (x ∷ xs) ys h = inr (among_right u xs ys h)

abbrev mutual
  pub expr_uses : Expr → List Use
  expr_uses (Typed k form) = form_uses form

  pub form_uses : ExprForm → List Use
  form_uses (Number n) = []
  form_uses (Read v) = read_uses v
  form_uses (Unary op a) = expr_uses a
  form_uses (Binary op a b) = expr_uses a ++ expr_uses b
  form_uses (Apply f args) = CallOf f args ∷ actuals_uses args
  form_uses (Standard f a) = expr_uses a
  form_uses (AtInput f) = Seen 0 ∷ []

  pub read_uses : Var → List Use
  read_uses (Entire x ss) = Seen x ∷ selectors_uses ss

  pub target_uses : Var → List Use
  target_uses (Entire x ss) = Target x ∷ selectors_uses ss

  pub selectors_uses : Selectors → List Use
  selectors_uses Whole = []
  selectors_uses (Select (Index e) rest) = expr_uses e ++ selectors_uses rest
  selectors_uses (Select (Field f) rest) = selectors_uses rest

  pub actuals_uses : Actuals → List Use
  actuals_uses Nothing = []
  actuals_uses (Pass (ByValue e) rest) = expr_uses e ++ actuals_uses rest
  actuals_uses (Pass (ByReference v) rest) = target_uses v ++ actuals_uses rest

abbrev pub width_uses : Option Expr → List Use
width_uses None = []
width_uses (Some e) = expr_uses e

-- it is no position of this forall's index
abbrev pub is_other : ℕ → Use → Bool
is_other x (Target y) = not (x == y)
is_other x (Seen y) = not (x == y)
is_other _ _ = true

abbrev pub others : ℕ → List Use → List Use
others x [] = []
others x (u ∷ us) = cond (is_other x u) (u ∷ others x us) (others x us)

abbrev mutual
  pub stmt_uses : Stmt → List Use
  stmt_uses Empty = []
  stmt_uses (Assign v e) = target_uses v ++ expr_uses e
  stmt_uses (Call f args) = CallOf f args ∷ actuals_uses args
  stmt_uses (Sequence ss) = stmts_uses ss
  stmt_uses (If e a) = expr_uses e ++ stmt_uses a
  stmt_uses (IfElse e a b) = expr_uses e ++ (stmt_uses a ++ stmt_uses b)
  stmt_uses (While e s) = expr_uses e ++ stmt_uses s
  stmt_uses (Repeat s e) = expr_uses e ++ stmt_uses s
  stmt_uses (For x from down to s) = Target x ∷ (expr_uses from ++ (expr_uses to ++ stmt_uses s))
  stmt_uses (Case e arms) = expr_uses e ++ arms_uses arms
  stmt_uses (Parallel ss) = ParallelOf ss ∷ Stop ∷ stmts_uses ss
  stmt_uses (Forall x from to s) = ForallOf x s ∷ Stop ∷ (expr_uses from ++ (expr_uses to ++ others x (stmt_uses s)))
  stmt_uses (Assume e) = expr_uses e
  stmt_uses (ReadValue v) = Target 0 ∷ Stop ∷ target_uses v
  stmt_uses ReadLine = Target 0 ∷ Stop ∷ []
  stmt_uses (WriteValue e w) = Target 1 ∷ Stop ∷ (expr_uses e ++ width_uses w)
  stmt_uses (WriteText t w) = Target 1 ∷ Stop ∷ width_uses w
  stmt_uses WriteLine = Target 1 ∷ Stop ∷ []
  stmt_uses (Open v) = Stop ∷ target_uses v
  stmt_uses (Send c e) = Stop ∷ (expr_uses c ++ expr_uses e)
  stmt_uses (Receive c v) = Stop ∷ (expr_uses c ++ target_uses v)

  pub stmts_uses : Stmts → List Use
  stmts_uses No = []
  stmts_uses (And s rest) = stmt_uses s ++ stmts_uses rest

  pub arms_uses : Arms → List Use
  arms_uses NoArm = []
  arms_uses (Or (On ms s) rest) = stmt_uses s ++ arms_uses rest

-- each use is in the list

either : (u : Use) (xs ys : List Use) {A B : Type 0} → (A → Among u xs) → (B → Among u ys) → A ⊎ B → Among u (xs ++ ys)
either u xs ys f g (inl a) = among_left u xs ys (f a)
either u xs ys f g (inr b) = among_right u xs ys (g b)

mutual
  pub expr_among : (e : Expr) (u : Use) → In_expr e u → Among u (expr_uses e)
  expr_among (Typed k form) u h = form_among form u h

  form_among : (e : ExprForm) (u : Use) → In_form e u → Among u (form_uses e)
  form_among (Number n) u h = h
  form_among (Read v) u h = read_among v u h
  form_among (Unary op a) u h = expr_among a u h
  form_among (Binary op a b) u h = either u (expr_uses a) (expr_uses b) (expr_among a u) (expr_among b u) h
  form_among (Apply f args) u (inl e) = inl e
  form_among (Apply f args) u (inr h) = inr (actuals_among args u h)
  form_among (Standard f a) u h = expr_among a u h
  form_among (AtInput f) u h = inl h

  read_among : (v : Var) (u : Use) → In_read v u → Among u (read_uses v)
  read_among (Entire x ss) u (inl e) = inl e
  read_among (Entire x ss) u (inr h) = inr (selectors_among ss u h)

  target_among : (v : Var) (u : Use) → In_target v u → Among u (target_uses v)
  target_among (Entire x ss) u (inl e) = inl e
  target_among (Entire x ss) u (inr h) = inr (selectors_among ss u h)

  selectors_among : (ss : Selectors) (u : Use) → In_selectors ss u → Among u (selectors_uses ss)
  selectors_among Whole u h = h
  selectors_among (Select (Index e) rest) u h =
      either u (expr_uses e) (selectors_uses rest) (expr_among e u) (selectors_among rest u) h
  selectors_among (Select (Field f) rest) u h = selectors_among rest u h

  actuals_among : (args : Actuals) (u : Use) → In_actuals args u → Among u (actuals_uses args)
  actuals_among Nothing u h = h
  actuals_among (Pass (ByValue e) rest) u h =
      either u (expr_uses e) (actuals_uses rest) (expr_among e u) (actuals_among rest u) h
  actuals_among (Pass (ByReference v) rest) u h =
      either u (target_uses v) (actuals_uses rest) (target_among v u) (actuals_among rest u) h

width_among : (w : Option Expr) (u : Use) → In_width w u → Among u (width_uses w)
width_among None u h = h
width_among (Some e) u h = expr_among e u h

not_equal : (x y : ℕ) → x ≢ y → not (x == y) ≡ true
not_equal x y n = go (x == y) refl
  where
    go : (b : Bool) → x == y ≡ b → not b ≡ true
    go true e = absurd (n (eqb-true x y e))
    go false e = refl

other_is : (x : ℕ) (u : Use) → IsOther x u → is_other x u ≡ true
other_is x (Target y) n = not_equal x y n
other_is x (Seen y) n = not_equal x y n
other_is _ _ _ = refl

other_among : (x : ℕ) (us : List Use) (u : Use) → Among u us → IsOther x u → Among u (others x us)
other_among x [] u h o = h
other_among x (v ∷ vs) u (inl i) o = same (is_other x v) refl
  where
    subst_is : is_other x v ≡ false → is_other x u ≡ false
    subst_is e = cc (i, e)

    true_false : is_other x u ≡ true → is_other x u ≡ false → ⊥
    true_false t f = cc (t, f)

    same : (b : Bool) → is_other x v ≡ b → Among u (cond b (v ∷ others x vs) (others x vs))
    same true e = inl i
    same false e = absurd (true_false (other_is x u o) (subst_is e))
other_among x (v ∷ vs) u (inr a) o = keep (is_other x v) (other_among x vs u a o)
  where
    keep : (b : Bool) → Among u (others x vs) → Among u (cond b (v ∷ others x vs) (others x vs))
    keep true a = inr a
    keep false a = a

mutual
  pub stmt_among : (s : Stmt) (u : Use) → In_stmt s u → Among u (stmt_uses s)
  stmt_among Empty u h = h
  stmt_among (Assign v e) u h = either u (target_uses v) (expr_uses e) (target_among v u) (expr_among e u) h
  stmt_among (Call f args) u (inl e) = inl e
  stmt_among (Call f args) u (inr h) = inr (actuals_among args u h)
  stmt_among (Sequence ss) u h = stmts_among ss u h
  stmt_among (If e a) u h = either u (expr_uses e) (stmt_uses a) (expr_among e u) (stmt_among a u) h
  stmt_among (IfElse e a b) u h = either u (expr_uses e) (stmt_uses a ++ stmt_uses b) (expr_among e u)
      (either u (stmt_uses a) (stmt_uses b) (stmt_among a u) (stmt_among b u)) h
  stmt_among (While e s) u h = either u (expr_uses e) (stmt_uses s) (expr_among e u) (stmt_among s u) h
  stmt_among (Repeat s e) u h = either u (expr_uses e) (stmt_uses s) (expr_among e u) (stmt_among s u) h
  stmt_among (For x from down to s) u (inl e) = inl e
  stmt_among (For x from down to s) u (inr h) =
      inr (either u (expr_uses from) (expr_uses to ++ stmt_uses s) (expr_among from u)
      (either u (expr_uses to) (stmt_uses s) (expr_among to u) (stmt_among s u)) h)
  stmt_among (Case e arms) u h = either u (expr_uses e) (arms_uses arms) (expr_among e u) (arms_among arms u) h
  stmt_among (Parallel ss) u (inl e) = inl e
  stmt_among (Parallel ss) u (inr (inl h)) = inr (inr (stmts_among ss u h))
  stmt_among (Parallel ss) u (inr (inr e)) = inr (inl e)
  stmt_among (Forall x from to s) u (inl e) = inl e
  stmt_among (Forall x from to s) u (inr (inl h)) = inr (inr (among_left u (expr_uses from) _ (expr_among from u h)))
  stmt_among (Forall x from to s) u (inr (inr (inl h))) =
      inr (inr (among_right u (expr_uses from) _ (among_left u (expr_uses to) _ (expr_among to u h))))
  stmt_among (Forall x from to s) u (inr (inr (inr (inl h)))) =
      inr (inr (among_right u (expr_uses from) _
      (among_right u (expr_uses to) _ (other_among x (stmt_uses s) u (stmt_among s u h.0) h.1))))
  stmt_among (Forall x from to s) u (inr (inr (inr (inr e)))) = inr (inl e)
  stmt_among (Assume e) u h = expr_among e u h
  stmt_among (ReadValue v) u (inl e) = inl e
  stmt_among (ReadValue v) u (inr (inl h)) = inr (inr (target_among v u h))
  stmt_among (ReadValue v) u (inr (inr e)) = inr (inl e)
  stmt_among ReadLine u (inl e) = inl e
  stmt_among ReadLine u (inr e) = inr (inl e)
  stmt_among (WriteValue e w) u (inl i) = inl i
  stmt_among (WriteValue e w) u (inr (inl h)) = inr (inr (among_left u (expr_uses e) _ (expr_among e u h)))
  stmt_among (WriteValue e w) u (inr (inr (inl h))) = inr (inr (among_right u (expr_uses e) _ (width_among w u h)))
  stmt_among (WriteValue e w) u (inr (inr (inr i))) = inr (inl i)
  stmt_among (WriteText t w) u (inl e) = inl e
  stmt_among (WriteText t w) u (inr (inl h)) = inr (inr (width_among w u h))
  stmt_among (WriteText t w) u (inr (inr e)) = inr (inl e)
  stmt_among WriteLine u (inl e) = inl e
  stmt_among WriteLine u (inr e) = inr (inl e)
  stmt_among (Open v) u (inl h) = inr (target_among v u h)
  stmt_among (Open v) u (inr e) = inl e
  stmt_among (Send c e) u (inl h) = inr (among_left u (expr_uses c) _ (expr_among c u h))
  stmt_among (Send c e) u (inr (inl h)) = inr (among_right u (expr_uses c) _ (expr_among e u h))
  stmt_among (Send c e) u (inr (inr i)) = inl i
  stmt_among (Receive c v) u (inl h) = inr (among_left u (expr_uses c) _ (expr_among c u h))
  stmt_among (Receive c v) u (inr (inl h)) = inr (among_right u (expr_uses c) _ (target_among v u h))
  stmt_among (Receive c v) u (inr (inr i)) = inl i

  pub stmts_among : (ss : Stmts) (u : Use) → In_stmts ss u → Among u (stmts_uses ss)
  stmts_among No u h = h
  stmts_among (And s rest) u h = either u (stmt_uses s) (stmts_uses rest) (stmt_among s u) (stmts_among rest u) h

  arms_among : (arms : Arms) (u : Use) → In_arms arms u → Among u (arms_uses arms)
  arms_among NoArm u h = h
  arms_among (Or (On ms s) rest) u h = either u (stmt_uses s) (arms_uses rest) (stmt_among s u) (arms_among rest u) h
