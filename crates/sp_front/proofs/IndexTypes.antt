-- The index of a forall has in the tree the type of its first limit: no other statement gives it one.
use Rattle.std.proofs.Common.{◌≡◌, ◌⊎◌, inl, inr, refl, ap, sym, ◌∙◌, subst, ℕ, suc, ◌<◌, ◌≤◌, List, [], ◌∷◌, Option}
use Rattle.std.proofs.Common.{Some, Bool, true, false, length, slice_get, slice_set, arith}
use Rattle.std.specs.Prelude.{nat_le}
use Rattle.std.proofs.lemmas.Bool.{leb-false, leb-true}
use Rattle.std.proofs.lemmas.List.{length-set}
use Rattle.std.proofs.lemmas.Option.{same_Some}
use Rattle.sp_tree.specs.declared.checked.Role.TheVariants as role
use Rattle.sp_tree.specs.Plain.{Program, Variable}
use Rattle.sp_tree.specs.PlainNamed as n
use Rattle.sp_tree.specs.PlainNamed.{Statement, Does, Form, Empty, Assign, Call, Perform, Sequence, If, While, Repeat}
use Rattle.sp_tree.specs.PlainNamed.{Case, For, Parallel, Forall, Assume, NoElse, Else, Statements, NoStatement}
use Rattle.sp_tree.specs.PlainNamed.{AndThen, On, Arms, NoArm, Or, Branches, NoBranch, Beside}
use Rattle.sp_types.specs.Tables.{Env, with_next_number, with_index_type}
use Rattle.sp_types.specs.Kinds.{expression_kind}
use Rattle.sp_types.specs.TypeWalk.{with_first_number, blocks_after, statement_after, statements_after, arms_after}
use Rattle.sp_types.specs.TypeWalk.{branches_after, form_after}
use Rattle.sp_types.specs.CheckedTree.{or_zero}
use Rattle.sp_front.specs.MatchingTables.{IsTyped, IsTypedForm, AreTyped, AreTypedArms, AreTypedBranches}
use Rattle.sp_code.specs.CodeOfTree.{NoIndex}
use Rattle.sp_front.specs.TypedBlocks.{AreBlocksTyped}
use Rattle.sp_front.specs.IndexNumbers.{index_after, index_after_form, index_after_all, index_after_arms}
use Rattle.sp_front.specs.IndexNumbers.{index_after_branches, IsNumbered, IsNumberedForm}
use Rattle.sp_front.specs.IndexNumbers.{AreNumbered, AreNumberedArms, AreNumberedBranches}
use Rattle.sp_front.proofs.Statements.{get_set, get_other}
use Rattle.sp_front.proofs.Tree.{statement_length, statements_length}

-- ---- the numbers of a statement are not before its first

mutual
  pub ends_after : (k : ℕ) (s : Statement) → k ≤ index_after k s
  ends_after k (Does at form) = form_ends k form

  form_ends : (k : ℕ) (form : Form) → k ≤ index_after_form k form
  form_ends k Empty = omega arith
  form_ends k (Assign v e) = omega arith
  form_ends k (Call f args) = omega arith
  form_ends k (Perform f args) = omega arith
  form_ends k (Sequence ss) = all_ends k ss
  form_ends k (If e a NoElse) = ends_after k a
  form_ends k (If e a (Else b)) = let x = ends_after k a in let y = ends_after (index_after k a) b in
      omega (arith, x, y)
  form_ends k (While e a) = ends_after k a
  form_ends k (Repeat ss e) = all_ends k ss
  form_ends k (Case e arms) = arms_ends k arms
  form_ends k (For x at from down to a) = ends_after k a
  form_ends k (Parallel bs) = branches_ends k bs
  form_ends k (Forall x from to a) = let y = ends_after (suc k) a in omega (arith, y)
  form_ends k (Assume e) = omega arith

  all_ends : (k : ℕ) (ss : Statements) → k ≤ index_after_all k ss
  all_ends k NoStatement = omega arith
  all_ends k (AndThen a rest) = let x = ends_after k a in let y = all_ends (index_after k a) rest in omega (arith, x, y)

  arms_ends : (k : ℕ) (arms : Arms) → k ≤ index_after_arms k arms
  arms_ends k NoArm = omega arith
  arms_ends k (Or (On cs a) rest) = let x = ends_after k a in let y = arms_ends (index_after k a) rest in
      omega (arith, x, y)

  branches_ends : (k : ℕ) (bs : Branches) → k ≤ index_after_branches k bs
  branches_ends k NoBranch = omega arith
  branches_ends k (Beside ss rest) = let x = all_ends k ss in let y = branches_ends (index_after_all k ss) rest in
      omega (arith, x, y)

-- ---- the types of other variables stay

-- a number that is none of these
abbrev pub Outside : ℕ → ℕ → ℕ → Type 0
Outside k e y = (y < k) ⊎ (e ≤ y)

left : (k mid e y : ℕ) → mid ≤ e → Outside k e y → Outside k mid y
left k mid e y l (inl h) = inl h
left k mid e y l (inr h) = inr (omega (arith, l, h))

right : (k mid e y : ℕ) → k ≤ mid → Outside k e y → Outside mid e y
right k mid e y l (inl h) = inl (omega (arith, l, h))
right k mid e y l (inr h) = inr h

abbrev pub SameVariableType : ℕ → Env → Env → Type 0
SameVariableType y a b = slice_get b.variables y ≡ slice_get a.variables y

mutual
  pub stays : (k : ℕ) (env : Env) (s : Statement) (y : ℕ) → IsNumbered k s → Outside k (index_after k s) y
      → SameVariableType y env (statement_after env s)
  stays k env (Does at form) y h o = form_stays k (with_next_number env) form y h o

  form_stays : (k : ℕ) (env : Env) (form : Form) (y : ℕ) → IsNumberedForm k form → Outside k (index_after_form k form) y
      → SameVariableType y env (form_after env form)
  form_stays k env Empty y h o = refl
  form_stays k env (Assign v e) y h o = refl
  form_stays k env (Call f args) y h o = refl
  form_stays k env (Perform f args) y h o = refl
  form_stays k env (Sequence ss) y h o = all_stay k env ss y h o
  form_stays k env (If e a NoElse) y h o = stays k env a y h.0 o
  form_stays k env (If e a (Else b)) y h o =
      stays (index_after k a) (statement_after env a) b y h.1
      (right k (index_after k a) (index_after (index_after k a) b) y (ends_after k a) o)
      ∙ stays k env a y h.0 (left k (index_after k a) (index_after (index_after k a) b) y
      (ends_after (index_after k a) b) o)
  form_stays k env (While e a) y h o = stays k env a y h o
  form_stays k env (Repeat ss e) y h o = all_stay k (with_next_number env) ss y h o
  form_stays k env (Case e arms) y h o = arms_stay k env arms y h o
  form_stays k env (For x at from down to a) y h o = stays k env a y h o
  form_stays k env (Parallel bs) y h o = branches_stay k env bs y h o
  form_stays k env (Forall x from to a) y h o =
      stays (suc k) (with_index_type env x (expression_kind env from)) a y h.1
      (right k (suc k) (index_after (suc k) a) y (omega arith) o)
      ∙ get_other env.variables x y (expression_kind env from) (λ e. inside o (ends_after (suc k) a) (e ∙ h.0))
    where
      inside : Outside k (index_after (suc k) a) y → suc k ≤ index_after (suc k) a → y ≡ k → ⊥
      inside (inl h) l e = omega (arith, h, e)
      inside (inr h) l e = omega (arith, h, l, e)
  form_stays k env (Assume e) y h o = refl

  all_stay : (k : ℕ) (env : Env) (ss : Statements) (y : ℕ) → AreNumbered k ss → Outside k (index_after_all k ss) y
      → SameVariableType y env (statements_after env ss)
  all_stay k env NoStatement y h o = refl
  all_stay k env (AndThen a rest) y h o = all_stay (index_after k a) (statement_after env a) rest y h.1
      (right k (index_after k a) (index_after_all (index_after k a) rest) y (ends_after k a) o)
      ∙ stays k env a y h.0 (left k (index_after k a) (index_after_all (index_after k a) rest) y
      (all_ends (index_after k a) rest) o)

  arms_stay : (k : ℕ) (env : Env) (arms : Arms) (y : ℕ) → AreNumberedArms k arms → Outside k (index_after_arms k arms) y
      → SameVariableType y env (arms_after env arms)
  arms_stay k env NoArm y h o = refl
  arms_stay k env (Or (On cs a) rest) y h o =
      arms_stay (index_after k a) (statement_after env a) rest y h.1
      (right k (index_after k a) (index_after_arms (index_after k a) rest) y (ends_after k a) o)
      ∙ stays k env a y h.0 (left k (index_after k a) (index_after_arms (index_after k a) rest) y
      (arms_ends (index_after k a) rest) o)

  branches_stay : (k : ℕ) (env : Env) (bs : Branches) (y : ℕ) → AreNumberedBranches k bs
      → Outside k (index_after_branches k bs) y → SameVariableType y env (branches_after env bs)
  branches_stay k env NoBranch y h o = refl
  branches_stay k env (Beside ss rest) y h o =
      branches_stay (index_after_all k ss) (statements_after (with_next_number env) ss) rest y h.1
      (right k (index_after_all k ss) (index_after_branches (index_after_all k ss) rest) y (all_ends k ss) o)
      ∙ all_stay k (with_next_number env) ss y h.0
      (left k (index_after_all k ss) (index_after_branches (index_after_all k ss) rest) y
      (branches_ends (index_after_all k ss) rest) o)

-- ---- the types at the end are those of the statement

-- last: the types at the end; the tree has these
module _ (p : Program) (last : List (Option ℕ))
    (has : (x : ℕ) (v : Variable) (o : Option ℕ) → slice_get p.variables x ≡ Some v → slice_get last x ≡ Some o
    → v.kind ≡ or_zero o) (n : ℕ) (room : (x : ℕ) (v : Variable) → slice_get p.variables x ≡ Some v → suc x ≤ n) where
  -- those of these numbers are known here
  abbrev pub LaterTypesAgree : ℕ → ℕ → Env → Type 0
  LaterTypesAgree k e later = (y : ℕ) → k ≤ y → suc y ≤ e → slice_get last y ≡ slice_get later.variables y

  mutual
    pub typed : (k : ℕ) (env : Env) (s : Statement) → length env.variables ≡ n → IsNumbered k s
        → LaterTypesAgree k (index_after k s) (statement_after env s) → IsTyped p env s
    typed k env (Does at form) l h a = form_typed k (with_next_number env) form l h a

    form_typed : (k : ℕ) (env : Env) (form : Form) → length env.variables ≡ n → IsNumberedForm k form
        → LaterTypesAgree k (index_after_form k form) (form_after env form) → IsTypedForm p env form
    form_typed k env Empty l h a = tt
    form_typed k env (Assign v e) l h a = tt
    form_typed k env (Call f args) l h a = tt
    form_typed k env (Perform f args) l h a = tt
    form_typed k env (Sequence ss) l h a = all_typed k env ss l h a
    form_typed k env (If e s NoElse) l h a = (typed k env s l h.0 a, tt)
    form_typed k env (If e s (Else b)) l h a =
        let x = ends_after k s in
        let y = ends_after (index_after k s) b in (
          typed k env s l h.0 (λ z m r. a z m (omega (arith, r, y))
              ∙ stays (index_after k s) (statement_after env s) b z h.1 (inl (omega (arith, r)))),
          typed (index_after k s) (statement_after env s) b (statement_length env s ∙ l) h.1
              (λ z m r. a z (omega (arith, m, x)) r),
        )
    form_typed k env (While e s) l h a = typed k env s l h a
    form_typed k env (Repeat ss e) l h a = all_typed k (with_next_number env) ss l h a
    form_typed k env (Case e arms) l h a = arms_typed k env arms l h a
    form_typed k env (For x at from down to s) l h a = typed k env s l h a
    form_typed k env (Parallel bs) l h a = branches_typed k env bs l h a
    form_typed k env (Forall x from to s) l h a =
        let inner = with_index_type env x (expression_kind env from) in
        let y = ends_after (suc k) s in (
          (λ v at kk ke. (let r = room x v at in let r2 : suc x ≤ length env.variables = omega (arith, r, l) in
              has x v (expression_kind env from) at
              (subst (λ z. slice_get last z ≡ Some (expression_kind env from)) (sym h.0)
              (a k (omega arith) (omega (arith, y)) ∙ stays (suc k) inner s k h.1 (inl (omega arith))
              ∙ subst (λ z. slice_get (slice_set env.variables x (expression_kind env from)) z
              ≡ Some (expression_kind env from)) h.0 (get_set env.variables x (expression_kind env from) r2)))
              ∙ ap or_zero ke)),
          typed (suc k) inner s (length-set env.variables x (expression_kind env from) ∙ l) h.1
              (λ z m r. a z (omega (arith, m)) r),
        )
    form_typed k env (Assume e) l h a = tt

    all_typed : (k : ℕ) (env : Env) (ss : Statements) → length env.variables ≡ n → AreNumbered k ss
        → LaterTypesAgree k (index_after_all k ss) (statements_after env ss) → AreTyped p env ss
    all_typed k env NoStatement l h a = tt
    all_typed k env (AndThen s rest) l h a =
        let x = ends_after k s in
        let y = all_ends (index_after k s) rest in (
          typed k env s l h.0 (λ z m r. a z m (omega (arith, r, y))
              ∙ all_stay (index_after k s) (statement_after env s) rest z h.1 (inl (omega (arith, r)))),
          all_typed (index_after k s) (statement_after env s) rest (statement_length env s ∙ l) h.1
              (λ z m r. a z (omega (arith, m, x)) r),
        )

    arms_typed : (k : ℕ) (env : Env) (arms : Arms) → length env.variables ≡ n → AreNumberedArms k arms
        → LaterTypesAgree k (index_after_arms k arms) (arms_after env arms) → AreTypedArms p env arms
    arms_typed k env NoArm l h a = tt
    arms_typed k env (Or (On cs s) rest) l h a =
        let x = ends_after k s in
        let y = arms_ends (index_after k s) rest in (
          typed k env s l h.0 (λ z m r. a z m (omega (arith, r, y))
              ∙ arms_stay (index_after k s) (statement_after env s) rest z h.1 (inl (omega (arith, r)))),
          arms_typed (index_after k s) (statement_after env s) rest (statement_length env s ∙ l) h.1
              (λ z m r. a z (omega (arith, m, x)) r),
        )

    branches_typed : (k : ℕ) (env : Env) (bs : Branches) → length env.variables ≡ n → AreNumberedBranches k bs
        → LaterTypesAgree k (index_after_branches k bs) (branches_after env bs) → AreTypedBranches p env bs
    branches_typed k env NoBranch l h a = tt
    branches_typed k env (Beside ss rest) l h a =
        let x = all_ends k ss in
        let y = branches_ends (index_after_all k ss) rest in (
          all_typed k (with_next_number env) ss l h.0
              (λ z m r. a z m (omega (arith, r, y))
              ∙ branches_stay (index_after_all k ss) (statements_after (with_next_number env) ss) rest z h.1
              (inl (omega (arith, r)))),
          branches_typed (index_after_all k ss) (statements_after (with_next_number env) ss) rest
              (statements_length (with_next_number env) ss ∙ l) h.1 (λ z m r. a z (omega (arith, m, x)) r),
        )

-- ---- over the blocks

-- the foralls of each block have one number after the other, and these are of indices of the block
abbrev pub AreSpans : Program → ℕ → List n.Block → Type 0
AreSpans p k [] = Unit {0}
AreSpans p k (b ∷ bs) = ((lo : ℕ) × IsNumbered lo b.body
    × ((y : ℕ) → lo ≤ y → suc y ≤ index_after lo b.body → (v : Variable) × (slice_get p.variables y ≡ Some v)
    × (v.block ≡ k)
    × (v.role ≡ role.Index))) × AreSpans p (suc k) bs

-- a variable of an earlier block keeps its type
later_stays : (p : Program) (k : ℕ) (env : Env) (starts : List ℕ) (bs : List n.Block) (y : ℕ) (v : Variable)
    → slice_get p.variables y ≡ Some v → suc v.block ≤ k → AreSpans p k bs
    → SameVariableType y env (blocks_after env starts bs)
later_stays p k env starts [] y v at l h = refl
later_stays p k env [] (b ∷ bs) y v at l h = refl
later_stays p k env (z ∷ starts) (b ∷ bs) y v at l ((lo, num, own), h) =
    later_stays p (suc k) (statement_after (with_first_number env z) b.body) starts bs y v at (omega (arith, l)) h
    ∙ stays lo (with_first_number env z) b.body y num (where_is (dec lo (index_after lo b.body) y))
  where
    dec : (lo e y : ℕ) → (lo ≤ y) × (suc y ≤ e) ⊎ Outside lo e y
    dec lo e y = go (nat_le lo y) (nat_le (suc y) e) refl refl
      where
        go : (a b : Bool) → nat_le lo y ≡ a → nat_le (suc y) e ≡ b → (lo ≤ y) × (suc y ≤ e) ⊎ Outside lo e y
        go true true x z = inl (leb-true lo y x, leb-true (suc y) e z)
        go true false x z = let w = leb-false (suc y) e z in inr (inr (omega (arith, w)))
        go false b x z = inr (inl (leb-false lo y x))

    where_is : (lo ≤ y) × (suc y ≤ index_after lo b.body) ⊎ Outside lo (index_after lo b.body) y
        → Outside lo (index_after lo b.body) y
    where_is (inr o) = o
    where_is (inl i) = let u = own y i.0 i.1 in
        let s = ap (λ (w : Variable). w.block) (same_Some v u.0 (sym at ∙ u.1)) ∙ u.2 in absurd (omega (arith, l, s))

-- a variable that is no index keeps its type
pub others_stay : (p : Program) (k : ℕ) (env : Env) (starts : List ℕ) (bs : List n.Block) (y : ℕ) (v : Variable)
    → slice_get p.variables y ≡ Some v → NoIndex v.role → AreSpans p k bs
    → SameVariableType y env (blocks_after env starts bs)
others_stay p k env starts [] y v at l h = refl
others_stay p k env [] (b ∷ bs) y v at l h = refl
others_stay p k env (z ∷ starts) (b ∷ bs) y v at l ((lo, num, own), h) =
    others_stay p (suc k) (statement_after (with_first_number env z) b.body) starts bs y v at l h
    ∙ stays lo (with_first_number env z) b.body y num (where_is (dec lo (index_after lo b.body) y))
  where
    dec : (lo e y : ℕ) → (lo ≤ y) × (suc y ≤ e) ⊎ Outside lo e y
    dec lo e y = go (nat_le lo y) (nat_le (suc y) e) refl refl
      where
        go : (a b : Bool) → nat_le lo y ≡ a → nat_le (suc y) e ≡ b → (lo ≤ y) × (suc y ≤ e) ⊎ Outside lo e y
        go true true x z = inl (leb-true lo y x, leb-true (suc y) e z)
        go true false x z = let w = leb-false (suc y) e z in inr (inr (omega (arith, w)))
        go false b x z = inr (inl (leb-false lo y x))

    where_is : (lo ≤ y) × (suc y ≤ index_after lo b.body) ⊎ Outside lo (index_after lo b.body) y
        → Outside lo (index_after lo b.body) y
    where_is (inr o) = o
    where_is (inl i) = let (u, u_at, _, role_is) = own y i.0 i.1 in
        absurd (subst NoIndex (ap (λ (w : Variable). w.role) (same_Some v u (sym at ∙ u_at)) ∙ role_is) l)

module _ (p : Program) (last : List (Option ℕ))
    (has : (x : ℕ) (v : Variable) (o : Option ℕ) → slice_get p.variables x ≡ Some v → slice_get last x ≡ Some o
    → v.kind ≡ or_zero o) (n_ : ℕ) (room : (x : ℕ) (v : Variable) → slice_get p.variables x ≡ Some v → suc x ≤ n_) where
  pub blocks_typed : (k : ℕ) (env : Env) (starts : List ℕ) (bs : List n.Block) → length env.variables ≡ n_
      → AreSpans p k bs → last ≡ (blocks_after env starts bs).variables → AreBlocksTyped p env starts bs
  blocks_typed k env starts [] l h e = tt
  blocks_typed k env [] (b ∷ bs) l h e = tt
  blocks_typed k env (z ∷ starts) (b ∷ bs) l ((lo, num, own), h) e =
      let next = statement_after (with_first_number env z) b.body in (
        typed p last has n_ room lo (with_first_number env z) b.body l num
            (λ y x r. (let u = own y x r in let s = u.2 in
            ap (λ zs. slice_get zs y) e ∙ later_stays p (suc k) next starts bs y u.0 u.1 (omega (arith, s)) h)),
        blocks_typed (suc k) next starts bs (statement_length (with_first_number env z) b.body ∙ l) h e,
      )
