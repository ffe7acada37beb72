-- The rules of interference by a test: sets that are closed under calls are given, and hold all that paths reach.
use Rattle.std.proofs.Common.{◌≡◌, ◌⊎◌, inl, inr, ℕ, zero, suc, ◌+◌, ◌<◌, Bool, true, false, not, ◌&&◌, ◌||◌, ◌==◌}
use Rattle.std.proofs.Common.{List, [], ◌∷◌, ◌++◌, length, slice_get, nat_lt, Option, Some, None, refl, sym, ap, ◌∙◌}
use Rattle.std.proofs.Common.{subst, arith, eqb-true, eq-eqb}
use Rattle.std.proofs.Common.{zero-add}
use Rattle.std.proofs.lemmas.Bool.{ltb-true, or_cases, or_left, or_right}
use Rattle.std.proofs.lemmas.Option.{same_Some}
use Rattle.sp_base.proofs.Facts.{first_true, is_plus_none, next_goes_right, not_refutes, second_true}
use Rattle.sp_tree.specs.declared.checked.Role.{Role}
use Rattle.sp_tree.specs.declared.checked.Role.TheVariants as role
use Rattle.sp_tree.specs.Plain.{Actuals, Program, Variable, Block, Stmts, No, And}
use Rattle.sp_tree.specs.Uses.{Use, Target, Seen, CallOf, ParallelOf, ForallOf, Stop, In_stmt, In_stmts}
use Rattle.sp_tree.specs.Sets.{IsBelow, IsFree, Reach, IsTarget, IsSeen, IsUsed, Implicit}
use Rattle.sp_tree.specs.TreeShape.{is_answer}
use Rattle.sp_tree.specs.Interference.{refs, IsMember, AllDifferent, KeepsI1, IsFreeUse, IsFreeOfInterference}
use Rattle.sp_tree.proofs.UsesOf.{Among, stmt_uses, stmts_uses, stmt_among, stmts_among}

abbrev pub has : List ℕ → ℕ → Bool
has [] x = false
has (y ∷ ys) x = (x == y) || has ys x

abbrev pub each : (ℕ → Bool) → List ℕ → Bool
each f [] = true
each f (x ∷ xs) = f x && each f xs

pub each_has : (f : ℕ → Bool) (xs : List ℕ) (x : ℕ) → each f xs ≡ true → has xs x ≡ true → f x ≡ true
each_has f [] x h e = absurd (cc e)
each_has f (y ∷ ys) x h e = go (or_cases (x == y) (has ys x) e)
    (λ k. each_has f ys x (second_true (f y) (each f ys) h) k)
  where
    go : (x == y ≡ true) ⊎ (has ys x ≡ true) → (has ys x ≡ true → f x ≡ true) → f x ≡ true
    go (inl k) ih = subst (λ z. f z ≡ true) (sym (eqb-true x y k)) (first_true (f y) (each f ys) h)
    go (inr k) ih = ih k

pub member_has : (x : ℕ) (xs : List ℕ) → IsMember x xs → has xs x ≡ true
member_has x [] h = absurd h
member_has x (y ∷ ys) (inl e) = or_left (x == y) (has ys x) (eq-eqb x y e)
member_has x (y ∷ ys) (inr h) = or_right (x == y) (has ys x) (member_has x ys h)

-- what a block is said to reach: targets and expression variables that are not its own
pub record Claim : Type 0 where
  pub targets : List ℕ
  pub seen : List ℕ

abbrev pub claimed : List Claim → ℕ → Claim
claimed [] b = record { targets = []; seen = [] }
claimed (c ∷ cs) zero = c
claimed (c ∷ cs) (suc b) = claimed cs b

abbrev pub by_parent : (ℕ → Bool) → Option ℕ → Bool
by_parent f None = false
by_parent f (Some q) = f q

abbrev pub by_block : (ℕ → Bool) → Option Block → Bool
by_block f None = false
by_block f (Some k) = by_parent f k.parent

abbrev pub by_variable : (Variable → Bool) → Option Variable → Bool
by_variable f None = false
by_variable f (Some i) = f i

abbrev pub is_console : Role → Bool
is_console role.Console = true
is_console _ = false

abbrev pub is_index : Role → Bool
is_index role.Index = true
is_index _ = false

console_is : (r : Role) → is_console r ≡ true → r ≡ role.Console
console_is role.Console h = refl
console_is _ h = absurd (cc h)

index_is : (r : Role) → is_index r ≡ true → r ≡ role.Index
index_is role.Index h = refl
index_is _ h = absurd (cc h)

pub answer_is : (r : Role) → is_answer r ≡ true → r ≡ role.Answer
answer_is role.Answer h = refl
answer_is _ h = absurd (cc h)

variable_is : (f : Variable → Bool) (o : Option Variable) → by_variable f o ≡ true → (i : Variable) × (o ≡ Some i)
    × (f i ≡ true)
variable_is f None h = absurd (cc h)
variable_is f (Some i) h = (i, refl, h)

-- all the uses pass the test
abbrev pub all_uses : (Use → Bool) → List Use → Bool
all_uses f [] = true
all_uses f (u ∷ us) = f u && all_uses f us

pub use_passes : (f : Use → Bool) (us : List Use) (u : Use) → all_uses f us ≡ true → Among u us → f u ≡ true
use_passes f [] u h a = absurd a
use_passes f (v ∷ vs) u h (inl e) = subst (λ z. f z ≡ true) (sym e) (first_true (f v) (all_uses f vs) h)
use_passes f (v ∷ vs) u h (inr a) = use_passes f vs u (second_true (f v) (all_uses f vs) h) a

abbrev pub no_common : List ℕ → List ℕ → Bool
no_common xs ys = each (λ x. not (has ys x)) xs

common_not : (xs ys : List ℕ) (x : ℕ) → no_common xs ys ≡ true → has xs x ≡ true → has ys x ≡ true → ⊥
common_not xs ys x h a b = not_refutes (has ys x) (each_has (λ x. not (has ys x)) xs x h a) b

abbrev pub all_different : List ℕ → Bool
all_different [] = true
all_different (x ∷ xs) = not (has xs x) && all_different xs

are_different : (xs : List ℕ) → all_different xs ≡ true → AllDifferent xs
are_different [] h = tt
are_different (x ∷ xs) h = (
  λ m. not_refutes (has xs x) (first_true (not (has xs x)) (all_different xs) h)
      (member_has x xs m),
  are_different xs (second_true (not (has xs x)) (all_different xs) h),
)

has_left : (xs ys : List ℕ) (x : ℕ) → has xs x ≡ true → has (xs ++ ys) x ≡ true
has_left [] ys x h = absurd (cc h)
has_left (z ∷ zs) ys x h = go (or_cases (x == z) (has zs x) h) (λ k. has_left zs ys x k)
  where
    go : (x == z ≡ true) ⊎ (has zs x ≡ true) → (has zs x ≡ true → has (zs ++ ys) x ≡ true)
        → ((x == z) || has (zs ++ ys) x) ≡ true
    go (inl e) later = or_left (x == z) (has (zs ++ ys) x) e
    go (inr k) later = or_right (x == z) (has (zs ++ ys) x) (later k)

has_right : (xs ys : List ℕ) (x : ℕ) → has ys x ≡ true → has (xs ++ ys) x ≡ true
has_right [] ys x h = h
has_right (z ∷ zs) ys x h = or_right (x == z) (has (zs ++ ys) x) (has_right zs ys x h)

has_self : (x : ℕ) (xs : List ℕ) → has (x ∷ xs) x ≡ true
has_self x xs = or_left (x == x) (has xs x) (eq-eqb x x refl)

module _ (p : Program) (claims : List Claim) where
  abbrev pub below_in : ℕ → ℕ → ℕ → Bool
  below_in zero c b = c == b
  below_in (suc n) c b = (c == b) || by_block (λ q. below_in n q b) (slice_get p.blocks c)

  is_below : (n c b : ℕ) → below_in n c b ≡ true → (m : ℕ) × IsBelow p m c b
  is_below zero c b h = (zero, eqb-true c b h)
  is_below (suc n) c b h = go (or_cases (c == b) (by_block (λ q. below_in n q b) (slice_get p.blocks c)) h)
      (λ q. is_below n q b)
    where
      go : (c == b ≡ true) ⊎ (by_block (λ q. below_in n q b) (slice_get p.blocks c) ≡ true)
          → ((q : ℕ) → below_in n q b ≡ true → (m : ℕ) × IsBelow p m q b) → (m : ℕ) × IsBelow p m c b
      go (inl e) ih = (zero, eqb-true c b e)
      go (inr k) ih = at (slice_get p.blocks c) refl k
        where
          up : (block : Block) → slice_get p.blocks c ≡ Some block → (o : Option ℕ) → block.parent ≡ o
              → by_parent (λ q. below_in n q b) o ≡ true → (m : ℕ) × IsBelow p m c b
          up block e None f k = absurd (cc k)
          up block e (Some q) f k = let r = ih q k in (suc r.0, (block, e, q, f, r.1))

          at : (o : Option Block) → slice_get p.blocks c ≡ o → by_block (λ q. below_in n q b) o ≡ true → (m : ℕ)
              × IsBelow p m c b
          at None e k = absurd (cc k)
          at (Some block) e k = up block e block.parent refl k

  -- the variable is declared in the block or in one inside it
  abbrev pub declares : ℕ → ℕ → Bool
  declares b x = by_variable (λ i. below_in (length p.blocks) i.block b) (slice_get p.variables x)

  pub not_free : (b x : ℕ) → declares b x ≡ true → IsFree p b x → ⊥
  not_free b x h f = let i = variable_is (λ i. below_in (length p.blocks) i.block b) (slice_get p.variables x) h in
      let r = is_below (length p.blocks) i.0.block b i.2 in f i.0 i.1 r.0 r.1

  abbrev pub T : ℕ → List ℕ
  T b = (claimed claims b).targets

  abbrev pub S : ℕ → List ℕ
  S b = (claimed claims b).seen

  abbrev pub covers : ℕ → List ℕ → ℕ → Bool
  covers b xs x = declares b x || has xs x

  -- what the body uses is the block's own, or claimed
  abbrev pub is_closed : ℕ → Use → Bool
  is_closed b (Target x) = covers b (T b) x
  is_closed b (Seen x) = covers b (S b) x
  is_closed b (CallOf c args) = each (covers b (T b)) (T c) && each (covers b (S b)) (S c)
  is_closed b (ParallelOf ss) = true
  is_closed b (ForallOf x s) = true
  is_closed b Stop = true

  covered : (b x : ℕ) (xs : List ℕ) → covers b xs x ≡ true → IsFree p b x → has xs x ≡ true
  covered b x xs h f = go (or_cases (declares b x) (has xs x) h)
    where
      go : (declares b x ≡ true) ⊎ (has xs x ≡ true) → has xs x ≡ true
      go (inl d) = absurd (not_free b x d f)
      go (inr k) = k

  -- the rules at a use

  abbrev pub aims_of : List Use → List ℕ
  aims_of [] = []
  aims_of (Target x ∷ us) = x ∷ aims_of us
  aims_of (Seen x ∷ us) = aims_of us
  aims_of (CallOf c args ∷ us) = T c ++ aims_of us
  aims_of (ParallelOf ss ∷ us) = aims_of us
  aims_of (ForallOf x s ∷ us) = aims_of us
  aims_of (Stop ∷ us) = aims_of us

  abbrev pub sees_of : List Use → List ℕ
  sees_of [] = []
  sees_of (Target x ∷ us) = sees_of us
  sees_of (Seen x ∷ us) = x ∷ sees_of us
  sees_of (CallOf c args ∷ us) = S c ++ sees_of us
  sees_of (ParallelOf ss ∷ us) = sees_of us
  sees_of (ForallOf x s ∷ us) = sees_of us
  sees_of (Stop ∷ us) = sees_of us

  abbrev pub keeps_I1 : Stmts → Bool
  keeps_I1 No = true
  keeps_I1 (And s rest) =
      ((no_common (aims_of (stmt_uses s)) (aims_of (stmts_uses rest))
      && no_common (aims_of (stmt_uses s)) (sees_of (stmts_uses rest)))
      && no_common (aims_of (stmts_uses rest)) (sees_of (stmt_uses s)))
      && keeps_I1 rest

  abbrev pub keeps : Use → Bool
  keeps (Target x) = true
  keeps (Seen x) = true
  keeps (CallOf c args) = all_different (refs args) && (no_common (refs args) (T c) && no_common (refs args) (S c))
  keeps (ParallelOf ss) = keeps_I1 ss
  keeps (ForallOf x s) = by_variable (λ i. is_index i.role) (slice_get p.variables x)
      && each (λ y. false) (aims_of (stmt_uses s))
  keeps Stop = true

  abbrev pub bodies : ℕ → List Block → Bool
  bodies b [] = true
  bodies b (k ∷ ks) = (all_uses (is_closed b) (stmt_uses k.body) && all_uses keeps (stmt_uses k.body))
      && bodies (suc b) ks

  body_at : (b : ℕ) (ks : List Block) (n : ℕ) (k : Block) → bodies b ks ≡ true → slice_get ks n ≡ Some k
      → all_uses (is_closed (b + n)) (stmt_uses k.body) && all_uses keeps (stmt_uses k.body) ≡ true
  body_at b [] n k h e = absurd (cc e)
  body_at b (x ∷ ks) zero k h e =
      let is : x ≡ k = same_Some x k e in
      let first : all_uses (is_closed b) (stmt_uses x.body)
      && all_uses keeps (stmt_uses x.body) ≡ true = first_true _ (bodies (suc b) ks) h in
      subst (λ (z : ℕ × Block). all_uses (is_closed z.0) (stmt_uses z.1.body)
      && all_uses keeps (stmt_uses z.1.body) ≡ true) (λ i. (is_plus_none b i, is i)) first
  body_at b (x ∷ ks) (suc n) k h e = subst (λ z. all_uses (is_closed z) (stmt_uses k.body)
      && all_uses keeps (stmt_uses k.body) ≡ true) (next_goes_right b n)
      (body_at (suc b) ks n k (second_true _ (bodies (suc b) ks) h) e)

  module _ (all : bodies 0 p.blocks ≡ true) where
    body_of : (b : ℕ) (k : Block) → slice_get p.blocks b ≡ Some k
        → all_uses (is_closed b) (stmt_uses k.body) && all_uses keeps (stmt_uses k.body) ≡ true
    body_of b k e = subst (λ z. all_uses (is_closed z) (stmt_uses k.body) && all_uses keeps (stmt_uses k.body) ≡ true)
        (zero-add b) (body_at 0 p.blocks b k all e)

    closed_use : (b : ℕ) (k : Block) → slice_get p.blocks b ≡ Some k → (u : Use) → In_stmt k.body u
        → is_closed b u ≡ true
    closed_use b k e u h = use_passes (is_closed b) (stmt_uses k.body) u
        (first_true _ (all_uses keeps (stmt_uses k.body)) (body_of b k e)) (stmt_among k.body u h)

    -- what paths reach was claimed
    pub reached_target : (bs : List ℕ) (x b : ℕ) (k : Block) → slice_get p.blocks b ≡ Some k
        → Reach p (In_stmt k.body) bs (Target x) → IsFree p b x → has (T b) x ≡ true
    reached_target [] x b k e r f = covered b x (T b) (closed_use b k e (Target x) r) f
    reached_target (c ∷ bs) x b k e step f =
        let inner : has (T c) x ≡ true =
        reached_target bs x c step.block step.is_block step.rest step.is_of_callers in
        covered b x (T b) (each_has (covers b (T b)) (T c) x
        (first_true _ (each (covers b (S b)) (S c)) (closed_use b k e (CallOf c step.actuals) step.is_called)) inner) f

    pub reached_seen : (bs : List ℕ) (x b : ℕ) (k : Block) → slice_get p.blocks b ≡ Some k
        → Reach p (In_stmt k.body) bs (Seen x) → IsFree p b x → has (S b) x ≡ true
    reached_seen [] x b k e r f = covered b x (S b) (closed_use b k e (Seen x) r) f
    reached_seen (c ∷ bs) x b k e step f =
        let inner : has (S c) x ≡ true = reached_seen bs x c step.block step.is_block step.rest step.is_of_callers in
        covered b x (S b) (each_has (covers b (S b)) (S c) x
        (second_true (each (covers b (T b)) (T c)) _ (closed_use b k e (CallOf c step.actuals) step.is_called)) inner) f

    aimed_here : (us : List Use) (x : ℕ) → Among (Target x) us → has (aims_of us) x ≡ true
    aimed_here [] x a = absurd a
    aimed_here (Target y ∷ us) x (inl e) = let i : x ≡ y = cc e in
        subst (λ z. has (y ∷ aims_of us) z ≡ true) (sym i) (has_self y (aims_of us))
    aimed_here (Target y ∷ us) x (inr a) = or_right (x == y) (has (aims_of us) x) (aimed_here us x a)
    aimed_here (Seen y ∷ us) x (inl e) = absurd (cc e)
    aimed_here (Seen y ∷ us) x (inr a) = aimed_here us x a
    aimed_here (CallOf c args ∷ us) x (inl e) = absurd (cc e)
    aimed_here (CallOf c args ∷ us) x (inr a) = has_right (T c) (aims_of us) x (aimed_here us x a)
    aimed_here (ParallelOf ss ∷ us) x (inl e) = absurd (cc e)
    aimed_here (ParallelOf ss ∷ us) x (inr a) = aimed_here us x a
    aimed_here (ForallOf y s ∷ us) x (inl e) = absurd (cc e)
    aimed_here (ForallOf y s ∷ us) x (inr a) = aimed_here us x a
    aimed_here (Stop ∷ us) x (inl e) = absurd (cc e)
    aimed_here (Stop ∷ us) x (inr a) = aimed_here us x a

    seen_here : (us : List Use) (x : ℕ) → Among (Seen x) us → has (sees_of us) x ≡ true
    seen_here [] x a = absurd a
    seen_here (Target y ∷ us) x (inl e) = absurd (cc e)
    seen_here (Target y ∷ us) x (inr a) = seen_here us x a
    seen_here (Seen y ∷ us) x (inl e) = let i : x ≡ y = cc e in
        subst (λ z. has (y ∷ sees_of us) z ≡ true) (sym i) (has_self y (sees_of us))
    seen_here (Seen y ∷ us) x (inr a) = or_right (x == y) (has (sees_of us) x) (seen_here us x a)
    seen_here (CallOf c args ∷ us) x (inl e) = absurd (cc e)
    seen_here (CallOf c args ∷ us) x (inr a) = has_right (S c) (sees_of us) x (seen_here us x a)
    seen_here (ParallelOf ss ∷ us) x (inl e) = absurd (cc e)
    seen_here (ParallelOf ss ∷ us) x (inr a) = seen_here us x a
    seen_here (ForallOf y s ∷ us) x (inl e) = absurd (cc e)
    seen_here (ForallOf y s ∷ us) x (inr a) = seen_here us x a
    seen_here (Stop ∷ us) x (inl e) = absurd (cc e)
    seen_here (Stop ∷ us) x (inr a) = seen_here us x a

    aimed_called : (us : List Use) (x c : ℕ) (args : Actuals) → Among (CallOf c args) us → has (T c) x ≡ true
        → has (aims_of us) x ≡ true
    aimed_called [] x c args a h = absurd a
    aimed_called (CallOf d as_are ∷ us) x c args (inl e) h = let i : c ≡ d = cc e in
        has_left (T d) (aims_of us) x (subst (λ z. has (T z) x ≡ true) i h)
    aimed_called (CallOf d as_are ∷ us) x c args (inr a) h =
        has_right (T d) (aims_of us) x (aimed_called us x c args a h)
    aimed_called (Target y ∷ us) x c args (inl e) h = absurd (cc e)
    aimed_called (Target y ∷ us) x c args (inr a) h =
        or_right (x == y) (has (aims_of us) x) (aimed_called us x c args a h)
    aimed_called (Seen y ∷ us) x c args (inl e) h = absurd (cc e)
    aimed_called (Seen y ∷ us) x c args (inr a) h = aimed_called us x c args a h
    aimed_called (ParallelOf ss ∷ us) x c args (inl e) h = absurd (cc e)
    aimed_called (ParallelOf ss ∷ us) x c args (inr a) h = aimed_called us x c args a h
    aimed_called (ForallOf y s ∷ us) x c args (inl e) h = absurd (cc e)
    aimed_called (ForallOf y s ∷ us) x c args (inr a) h = aimed_called us x c args a h
    aimed_called (Stop ∷ us) x c args (inl e) h = absurd (cc e)
    aimed_called (Stop ∷ us) x c args (inr a) h = aimed_called us x c args a h

    seen_called : (us : List Use) (x c : ℕ) (args : Actuals) → Among (CallOf c args) us → has (S c) x ≡ true
        → has (sees_of us) x ≡ true
    seen_called [] x c args a h = absurd a
    seen_called (CallOf d as_are ∷ us) x c args (inl e) h = let i : c ≡ d = cc e in
        has_left (S d) (sees_of us) x (subst (λ z. has (S z) x ≡ true) i h)
    seen_called (CallOf d as_are ∷ us) x c args (inr a) h = has_right (S d) (sees_of us) x (seen_called us x c args a h)
    seen_called (Target y ∷ us) x c args (inl e) h = absurd (cc e)
    seen_called (Target y ∷ us) x c args (inr a) h = seen_called us x c args a h
    seen_called (Seen y ∷ us) x c args (inl e) h = absurd (cc e)
    seen_called (Seen y ∷ us) x c args (inr a) h = or_right (x == y) (has (sees_of us) x) (seen_called us x c args a h)
    seen_called (ParallelOf ss ∷ us) x c args (inl e) h = absurd (cc e)
    seen_called (ParallelOf ss ∷ us) x c args (inr a) h = seen_called us x c args a h
    seen_called (ForallOf y s ∷ us) x c args (inl e) h = absurd (cc e)
    seen_called (ForallOf y s ∷ us) x c args (inr a) h = seen_called us x c args a h
    seen_called (Stop ∷ us) x c args (inl e) h = absurd (cc e)
    seen_called (Stop ∷ us) x c args (inr a) h = seen_called us x c args a h

    pub target_has : (Here : Use → Type 0) (us : List Use) → ((u : Use) → Here u → Among u us) → (x : ℕ)
        → IsTarget p Here x → has (aims_of us) x ≡ true
    target_has Here us m x ([], r) = aimed_here us x (m (Target x) r)
    target_has Here us m x (c ∷ bs, step) =
        aimed_called us x c step.actuals (m (CallOf c step.actuals) step.is_called)
        (reached_target bs x c step.block step.is_block step.rest step.is_of_callers)

    seen_has : (Here : Use → Type 0) (us : List Use) → ((u : Use) → Here u → Among u us) → (x : ℕ) → IsSeen p Here x
        → has (sees_of us) x ≡ true
    seen_has Here us m x ([], r) = seen_here us x (m (Seen x) r)
    seen_has Here us m x (c ∷ bs, step) =
        seen_called us x c step.actuals (m (CallOf c step.actuals) step.is_called)
        (reached_seen bs x c step.block step.is_block step.rest step.is_of_callers)

    I1_kept : (ss : Stmts) → keeps_I1 ss ≡ true → KeepsI1 p ss
    I1_kept No h = tt
    I1_kept (And s rest) h = (one, other, I1_kept rest (second_true _ (keeps_I1 rest) h))
      where
        both : (no_common (aims_of (stmt_uses s)) (aims_of (stmts_uses rest))
            && no_common (aims_of (stmt_uses s)) (sees_of (stmts_uses rest)))
            && no_common (aims_of (stmts_uses rest)) (sees_of (stmt_uses s)) ≡ true
        both = first_true _ (keeps_I1 rest) h

        writes : no_common (aims_of (stmt_uses s)) (aims_of (stmts_uses rest))
            && no_common (aims_of (stmt_uses s)) (sees_of (stmts_uses rest)) ≡ true
        writes = first_true _ (no_common (aims_of (stmts_uses rest)) (sees_of (stmt_uses s))) both

        one : (x : ℕ) → IsTarget p (In_stmt s) x → IsUsed p (In_stmts rest) x → ⊥
        one x t (inl u) = common_not (aims_of (stmt_uses s)) (aims_of (stmts_uses rest)) x
            (first_true _ (no_common (aims_of (stmt_uses s)) (sees_of (stmts_uses rest))) writes)
            (target_has (In_stmt s) (stmt_uses s) (stmt_among s) x t)
            (target_has (In_stmts rest) (stmts_uses rest) (stmts_among rest) x u)
        one x t (inr u) = common_not (aims_of (stmt_uses s)) (sees_of (stmts_uses rest)) x
            (second_true (no_common (aims_of (stmt_uses s)) (aims_of (stmts_uses rest))) _ writes)
            (target_has (In_stmt s) (stmt_uses s) (stmt_among s) x t)
            (seen_has (In_stmts rest) (stmts_uses rest) (stmts_among rest) x u)

        other : (x : ℕ) → IsUsed p (In_stmt s) x → IsTarget p (In_stmts rest) x → ⊥
        other x (inl u) t = one x u (inl t)
        other x (inr u) t = common_not (aims_of (stmts_uses rest)) (sees_of (stmt_uses s)) x
            (second_true (no_common (aims_of (stmt_uses s)) (aims_of (stmts_uses rest))
            && no_common (aims_of (stmt_uses s)) (sees_of (stmts_uses rest))) _ both)
            (target_has (In_stmts rest) (stmts_uses rest) (stmts_among rest) x t)
            (seen_has (In_stmt s) (stmt_uses s) (stmt_among s) x u)

    none_here : (xs : List ℕ) (x : ℕ) → each (λ y. false) xs ≡ true → has xs x ≡ true → ⊥
    none_here xs x h a = let e = each_has (λ y. false) xs x h a in absurd (cc e)

    pub use_kept : (u : Use) → keeps u ≡ true → IsFreeUse p u
    use_kept (Target x) h = tt
    use_kept (Seen x) h = tt
    use_kept (CallOf c args) h =
        let clear : no_common (refs args) (T c)
        && no_common (refs args) (S c) ≡ true = second_true (all_different (refs args)) _ h in (
          are_different (refs args) (first_true _ (no_common (refs args) (T c) && no_common (refs args) (S c)) h),
          λ x m i. apart x m i clear,
        )
      where
        apart : (x : ℕ) → IsMember x (refs args) → Implicit p c x
            → no_common (refs args) (T c) && no_common (refs args) (S c) ≡ true → ⊥
        apart x m (k, e, f, inl t) clear = common_not (refs args) (T c) x
            (first_true _ (no_common (refs args) (S c)) clear) (member_has x (refs args) m)
            (reached_target t.0 x c k e t.1 f)
        apart x m (k, e, f, inr t) clear = common_not (refs args) (S c) x
            (second_true (no_common (refs args) (T c)) _ clear) (member_has x (refs args) m)
            (reached_seen t.0 x c k e t.1 f)
    use_kept (ParallelOf ss) h = I1_kept ss h
    use_kept (ForallOf x s) h =
        let i = variable_is (λ i. is_index i.role) (slice_get p.variables x)
        (first_true _ (each (λ y. false) (aims_of (stmt_uses s))) h) in (
          (i.0, i.1, index_is i.0.role i.2),
          λ y t. none_here (aims_of (stmt_uses s)) y
              (second_true (by_variable (λ i. is_index i.role) (slice_get p.variables x)) _ h)
              (target_has (In_stmt s) (stmt_uses s) (stmt_among s) y t),
        )
    use_kept Stop h = tt

    pub blocks_kept : (b : ℕ) (k : Block) → slice_get p.blocks b ≡ Some k → (u : Use) → In_stmt k.body u
        → IsFreeUse p u
    blocks_kept b k e u h = use_kept u (use_passes keeps (stmt_uses k.body) u
        (second_true (all_uses (is_closed b) (stmt_uses k.body)) _ (body_of b k e)) (stmt_among k.body u h))

-- the facts that names and types give

abbrev pub parent_before : ℕ → Option ℕ → Bool
parent_before b None = true
parent_before b (Some q) = nat_lt q b

abbrev pub parents_in : ℕ → List Block → Bool
parents_in b [] = true
parents_in b (k ∷ ks) = parent_before b k.parent && parents_in (suc b) ks

parent_at : (b : ℕ) (ks : List Block) (n q : ℕ) (k : Block) → parents_in b ks ≡ true → slice_get ks n ≡ Some k
    → k.parent ≡ Some q → q < b + n
parent_at b [] n q k h e d = absurd (cc e)
parent_at b (x ∷ ks) zero q k h e d =
    let is : x ≡ k = same_Some x k e in
    let lt : nat_lt q b ≡ true = subst (λ o. parent_before b o ≡ true) (ap (λ (z : Block). z.parent) is ∙ d)
    (first_true _ (parents_in (suc b) ks) h) in
    let less = ltb-true q b lt in omega (arith, less)
parent_at b (x ∷ ks) (suc n) q k h e d = let less =
    parent_at (suc b) ks n q k (second_true _ (parents_in (suc b) ks) h) e d in omega (arith, less)

abbrev pub consoles_in : ℕ → List Variable → Bool
consoles_in x [] = true
consoles_in x (i ∷ is) = (not (is_console i.role) || ((i.block == 0) && nat_lt x 2)) && consoles_in (suc x) is

console_at : (x : ℕ) (is : List Variable) (n : ℕ) (i : Variable) → consoles_in x is ≡ true → slice_get is n ≡ Some i
    → i.role ≡ role.Console → (i.block ≡ 0) × (x + n < 2)
console_at x [] n i h e d = absurd (cc e)
console_at x (j ∷ is) zero i h e d =
    let same : j ≡ i = same_Some j i e in
    let test : (not (is_console i.role) || ((i.block == 0) && nat_lt x 2)) ≡ true =
    subst (λ (z : Variable). (not (is_console z.role) || ((z.block == 0) && nat_lt x 2)) ≡ true) same
    (first_true _ (consoles_in (suc x) is) h) in
    let both : (i.block == 0) && nat_lt x 2 ≡ true =
    subst (λ r. (not (is_console r) || ((i.block == 0) && nat_lt x 2)) ≡ true) d test in
    let less = ltb-true x 2 (second_true (i.block == 0) _ both) in
    (eqb-true i.block 0 (first_true _ (nat_lt x 2) both), omega (arith, less))
console_at x (j ∷ is) (suc n) i h e d = let r =
    console_at (suc x) is n i (second_true _ (consoles_in (suc x) is) h) e d in let less = r.1 in
    (r.0, omega (arith, less))

abbrev pub answer_in : List Variable → ℕ → Option ℕ → Bool
answer_in is b None = true
answer_in is b (Some x) = by_variable (λ i. is_answer i.role && (i.block == b)) (slice_get is x)

abbrev pub answers_in : List Variable → ℕ → List Block → Bool
answers_in is b [] = true
answers_in is b (k ∷ ks) = answer_in is b k.answer && answers_in is (suc b) ks

answer_at : (is : List Variable) (b : ℕ) (ks : List Block) (n x : ℕ) (k : Block) → answers_in is b ks ≡ true
    → slice_get ks n ≡ Some k → k.answer ≡ Some x → (i : Variable) × (slice_get is x ≡ Some i) × (i.role ≡ role.Answer)
    × (i.block ≡ b + n)
answer_at is b [] n x k h e d = absurd (cc e)
answer_at is b (j ∷ ks) zero x k h e d =
    let same : j ≡ k = same_Some j k e in
    let test : answer_in is b (Some x) ≡ true =
    subst (λ o. answer_in is b o ≡ true) (ap (λ (z : Block). z.answer) same ∙ d)
    (first_true _ (answers_in is (suc b) ks) h) in
    let i = variable_is (λ i. is_answer i.role && (i.block == b)) (slice_get is x) test in (
      i.0,
      i.1,
      answer_is i.0.role (first_true _ (i.0.block == b) i.2),
      eqb-true i.0.block b (second_true (is_answer i.0.role) _ i.2) ∙ is_plus_none b,
    )
answer_at is b (j ∷ ks) (suc n) x k h e d = let (variable, found, role, block) =
    answer_at is (suc b) ks n x k (second_true _ (answers_in is (suc b) ks) h) e d in
    (variable, found, role, block ∙ next_goes_right b n)

-- with these claims the program keeps the rules
abbrev pub keeps_rules : Program → List Claim → Bool
keeps_rules p claims =
    (bodies p claims 0 p.blocks && parents_in 0 p.blocks)
    && ((consoles_in 0 p.variables && answers_in p.variables 0 p.blocks)
    && (by_variable (λ i. is_console i.role) (slice_get p.variables 0)
    && by_variable (λ i. is_console i.role) (slice_get p.variables 1)))

pub certified : (p : Program) (claims : List Claim) → keeps_rules p claims ≡ true → IsFreeOfInterference p
certified p claims h = record {
  blocks = blocks_kept p claims (first_true (bodies p claims 0 p.blocks) (parents_in 0 p.blocks) one);
  parents = λ b k q e d. let less = parent_at 0 p.blocks b q k
      (second_true (bodies p claims 0 p.blocks) (parents_in 0 p.blocks) one) e d in omega (arith, less);
  consoles = λ x i e d. let r = console_at 0 p.variables x i
      (first_true (consoles_in 0 p.variables) (answers_in p.variables 0 p.blocks) three) e d in let less = r.1 in
      (r.0, omega (arith, less));
  answers = λ b k x e d. let (variable, found, role, block) = answer_at p.variables 0 p.blocks b x k
      (second_true (consoles_in 0 p.variables) (answers_in p.variables 0 p.blocks) three) e d in
      (variable, found, role, block ∙ zero-add b);
  input = let i = variable_is (λ i. is_console i.role) (slice_get p.variables 0)
      (first_true (by_variable (λ i. is_console i.role) (slice_get p.variables 0))
      (by_variable (λ i. is_console i.role) (slice_get p.variables 1)) four) in (i.0, i.1, console_is i.0.role i.2);
  output = let i = variable_is (λ i. is_console i.role) (slice_get p.variables 1)
      (second_true (by_variable (λ i. is_console i.role) (slice_get p.variables 0))
      (by_variable (λ i. is_console i.role) (slice_get p.variables 1)) four) in (i.0, i.1, console_is i.0.role i.2);
}
  where
    one : bodies p claims 0 p.blocks && parents_in 0 p.blocks ≡ true
    one = first_true _ ((consoles_in 0 p.variables && answers_in p.variables 0 p.blocks)
        && (by_variable (λ i. is_console i.role) (slice_get p.variables 0)
        && by_variable (λ i. is_console i.role) (slice_get p.variables 1))) h

    two : (consoles_in 0 p.variables && answers_in p.variables 0 p.blocks)
        && (by_variable (λ i. is_console i.role) (slice_get p.variables 0)
        && by_variable (λ i. is_console i.role) (slice_get p.variables 1)) ≡ true
    two = second_true (bodies p claims 0 p.blocks && parents_in 0 p.blocks) _ h

    three : consoles_in 0 p.variables && answers_in p.variables 0 p.blocks ≡ true
    three = first_true _ (by_variable (λ i. is_console i.role) (slice_get p.variables 0)
        && by_variable (λ i. is_console i.role) (slice_get p.variables 1)) two

    four : by_variable (λ i. is_console i.role) (slice_get p.variables 0)
        && by_variable (λ i. is_console i.role) (slice_get p.variables 1) ≡ true
    four = second_true (consoles_in 0 p.variables && answers_in p.variables 0 p.blocks) _ two
