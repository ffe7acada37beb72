-- Tests that tell the targets and the expression variables of any statement, from the sets of a tree's blocks; and
-- lists of those that pass.
use Rattle.std.proofs.Common.{◌≡◌, inl, inr, ℕ, zero, suc, ◌+◌, ◌*◌, ◌<◌, ◌≤◌, Bool, true, false, cond, ◌&&◌, ◌||◌}
use Rattle.std.proofs.Common.{◌==◌, if◌then◌else◌, List, [], ◌∷◌, length, slice_get, Option, Some, None, refl, sym, ap}
use Rattle.std.proofs.Common.{◌∙◌, subst, arith, true≢false, eq-eqb, ne_eqb, eqb-true}
use Rattle.std.specs.Prelude.{option_map}
use Rattle.std.specs.List.{filter}
use Rattle.std.proofs.lemmas.Option.{slice_get-map}
use Rattle.std.proofs.lemmas.Bool.{and_parts, false_from_ne_true}
use Rattle.sp_base.proofs.Facts.{or_with_true}
use Rattle.sp_tree.specs.PlainChecked as c
use Rattle.sp_tree.specs.Bare.{without_places, bare_block}
use Rattle.sp_tree.specs.Plain.{Block, Stmt}
use Rattle.sp_tree.specs.Uses.{Use, Target, Seen, CallOf, ParallelOf, ForallOf, Stop, In_stmt}
use Rattle.sp_tree.specs.Sets.{IsTarget, IsSeen}
use Rattle.sp_tree.specs.Interference.{IsMember, AllDifferent}
use Rattle.sp_tree.proofs.UsesOf.{Among, stmt_uses, stmt_among}
use Rattle.sp_tree.proofs.CallClosure.{from_call}
use Rattle.sp_code.specs.Scopes.{is_given}
use Rattle.sp_varsets.specs.declared.sets.Sets.{Sets}
use Rattle.sp_varsets.specs.AreSets.{AreSets, implicit_targets_of, implicit_expressions_of}
use Rattle.sp_varsets.specs.Members.{has}
use Rattle.sp_varsets.proofs.Words.{below_words}
use Rattle.sp_generate.specs.Handings.{IsInOrder, fitting_numbers}
use Rattle.sp_generate.proofs.Inside.{stmt_inside}

-- ---- tests of uses

some_use : (Use → Bool) → List Use → Bool
some_use f [] = false
some_use f (u ∷ us) = f u || some_use f us

use_found : (f : Use → Bool) (us : List Use) → some_use f us ≡ true → (u : Use) × Among u us × (f u ≡ true)
unfolding some_use
use_found f [] h = absurd (true≢false (sym h))
use_found f (u ∷ us) h = go (f u) refl h (λ k. use_found f us k)
  where
    go : (b : Bool) → f u ≡ b → b || some_use f us ≡ true
        → (some_use f us ≡ true → (v : Use) × Among v us × (f v ≡ true)) → (v : Use) × Among v (u ∷ us) × (f v ≡ true)
    go true e k later = (u, inl refl, e)
    go false e k later = let r = later k in (r.0, inr r.1, r.2)

use_finds : (f : Use → Bool) (us : List Use) (u : Use) → Among u us → f u ≡ true → some_use f us ≡ true
unfolding some_use
use_finds f [] u a h = absurd a
use_finds f (v ∷ vs) u (inl e) h = ap (λ (b : Bool). b || some_use f vs) (ap f (sym e) ∙ h)
use_finds f (v ∷ vs) u (inr a) h = ap (λ (b : Bool). f v || b) (use_finds f vs u a h) ∙ or_with_true (f v)

no_use : (f : Use → Bool) (us : List Use) → ((u : Use) → Among u us → f u ≡ false) → some_use f us ≡ false
unfolding some_use
no_use f [] h = refl
no_use f (u ∷ us) h = ap (λ (b : Bool). b || some_use f us) (h u (inl refl)) ∙ no_use f us (λ v a. h v (inr a))

-- a sum that is above each
total : (Use → ℕ) → List Use → ℕ
total n [] = 0
total n (u ∷ us) = n u + total n us

above_each : (n : Use → ℕ) (us : List Use) (u : Use) → Among u us → n u ≤ total n us
unfolding total
above_each n [] u a = absurd a
above_each n (v ∷ vs) u (inl e) = omega (arith, ap n e)
above_each n (v ∷ vs) u (inr a) = omega (arith, above_each n vs u a)

-- ---- the tests of a tree with its sets

block_given : (tree : c.Program) (b : ℕ) → is_given (slice_get tree.blocks b) ≡ true → (k : c.Block)
    × (slice_get tree.blocks b ≡ Some k)
block_given tree b h = go (slice_get tree.blocks b) refl
  where
    go : (o : Option c.Block) → slice_get tree.blocks b ≡ o → (k : c.Block) × (slice_get tree.blocks b ≡ Some k)
    go None e = absurd (true≢false (sym h ∙ ap is_given e))
    go (Some k) e = (k, e)

given_block : (tree : c.Program) (b : ℕ) (k : Block) → slice_get (without_places tree).blocks b ≡ Some k → (m : c.Block)
    × (slice_get tree.blocks b ≡ Some m)
given_block tree b k h = go (slice_get tree.blocks b) refl
  where
    go : (o : Option c.Block) → slice_get tree.blocks b ≡ o → (m : c.Block) × (slice_get tree.blocks b ≡ Some m)
    go None e = let n : None ≡ Some k = sym (slice_get-map bare_block tree.blocks b ∙ ap (option_map bare_block) e)
        ∙ h in absurd (cc n)
    go (Some m) e = (m, e)

module _ (tree : c.Program) (sets : Sets) where
  -- a use makes the variable a target, itself or by the block that it calls
  use_targets : ℕ → Use → Bool
  use_targets x (Target y) = x == y
  use_targets x (CallOf b args) = is_given (slice_get tree.blocks b) && has (implicit_targets_of sets b) x
  use_targets _ _ = false

  use_reads : ℕ → Use → Bool
  use_reads x (Seen y) = x == y
  use_reads x (CallOf b args) = is_given (slice_get tree.blocks b) && has (implicit_expressions_of sets b) x
  use_reads _ _ = false

  pub is_target : Stmt → ℕ → Bool
  is_target s x = some_use (use_targets x) (stmt_uses s)

  pub is_seen : Stmt → ℕ → Bool
  is_seen s x = some_use (use_reads x) (stmt_uses s)

  -- where all variables of a use are below
  limit : Use → ℕ
  limit (Target y) = y + 1
  limit (Seen y) = y + 1
  limit (CallOf b args) = 64 * length (implicit_targets_of sets b).words
      + 64 * length (implicit_expressions_of sets b).words
  limit (ParallelOf ss) = 0
  limit (ForallOf y s) = 0
  limit Stop = 0

  pub limit_of : Stmt → ℕ
  limit_of s = total limit (stmt_uses s)

  use_targets_below : (x : ℕ) (u : Use) → limit u ≤ x → use_targets x u ≡ false
  unfolding use_targets limit
  use_targets_below x (Target y) h = ne_eqb x y (λ e. omega (arith, e, h))
  use_targets_below x (Seen y) h = refl
  use_targets_below x (CallOf b args) h =
      false_from_ne_true _ (λ k. let low = below_words (implicit_targets_of sets b).words x
      (and_parts (is_given (slice_get tree.blocks b)) (has (implicit_targets_of sets b) x) k).1 in
      omega (arith, low, h))
  use_targets_below x (ParallelOf ss) h = refl
  use_targets_below x (ForallOf y s) h = refl
  use_targets_below x Stop h = refl

  use_reads_below : (x : ℕ) (u : Use) → limit u ≤ x → use_reads x u ≡ false
  unfolding use_reads limit
  use_reads_below x (Target y) h = refl
  use_reads_below x (Seen y) h = ne_eqb x y (λ e. omega (arith, e, h))
  use_reads_below x (CallOf b args) h =
      false_from_ne_true _ (λ k. let low = below_words (implicit_expressions_of sets b).words x
      (and_parts (is_given (slice_get tree.blocks b)) (has (implicit_expressions_of sets b) x) k).1 in
      omega (arith, low, h))
  use_reads_below x (ParallelOf ss) h = refl
  use_reads_below x (ForallOf y s) h = refl
  use_reads_below x Stop h = refl

  over : (s : Stmt) (x : ℕ) (u : Use) → limit_of s ≤ x → Among u (stmt_uses s) → limit u ≤ x
  unfolding limit_of
  over s x u h a = omega (arith, h, above_each limit (stmt_uses s) u a)

  pub target_below : (s : Stmt) (x : ℕ) → limit_of s ≤ x → is_target s x ≡ false
  unfolding is_target
  target_below s x h = no_use (use_targets x) (stmt_uses s) (λ u a. use_targets_below x u (over s x u h a))

  pub seen_below : (s : Stmt) (x : ℕ) → limit_of s ≤ x → is_seen s x ≡ false
  unfolding is_seen
  seen_below s x h = no_use (use_reads x) (stmt_uses s) (λ u a. use_reads_below x u (over s x u h a))

  module _ (are : AreSets tree sets) where
    use_targets_is : (s : Stmt) (x : ℕ) (u : Use) → In_stmt s u → use_targets x u ≡ true
        → IsTarget (without_places tree) (In_stmt s) x
    unfolding use_targets
    use_targets_is s x (Target y) h e = ([], subst (λ (z : ℕ). In_stmt s (Target z)) (sym (eqb-true x y e)) h)
    use_targets_is s x (Seen y) h e = absurd (true≢false (sym e))
    use_targets_is s x (CallOf b args) h e =
        let two = and_parts (is_given (slice_get tree.blocks b)) (has (implicit_targets_of sets b) x) e in
        let k = block_given tree b two.0 in
        from_call (without_places tree) (In_stmt s) b args (Target x) h (((are.blocks b k.0 k.1).targets x).0 two.1)
    use_targets_is s x (ParallelOf ss) h e = absurd (true≢false (sym e))
    use_targets_is s x (ForallOf y t) h e = absurd (true≢false (sym e))
    use_targets_is s x Stop h e = absurd (true≢false (sym e))

    pub target_told : (s : Stmt) (x : ℕ) → is_target s x ≡ true → IsTarget (without_places tree) (In_stmt s) x
    unfolding is_target
    target_told s x h = let r = use_found (use_targets x) (stmt_uses s) h in use_targets_is s x r.0
        (stmt_inside s r.0 r.1) r.2

    pub target_tells : (s : Stmt) (x : ℕ) → IsTarget (without_places tree) (In_stmt s) x → is_target s x ≡ true
    unfolding is_target use_targets
    target_tells s x ([], h) = use_finds (use_targets x) (stmt_uses s) (Target x) (stmt_among s (Target x) h)
        (eq-eqb x x refl)
    target_tells s x (b ∷ bs, step) =
        let m = given_block tree b step.block step.is_block in
        use_finds (use_targets x) (stmt_uses s) (CallOf b step.actuals)
        (stmt_among s (CallOf b step.actuals) step.is_called)
        (ap (λ (g : Bool). g && has (implicit_targets_of sets b) x) (ap is_given m.1)
        ∙ ((are.blocks b m.0 m.1).targets x).1 (step.block, step.is_block, step.is_of_callers, (bs, step.rest)))

    use_reads_is : (s : Stmt) (x : ℕ) (u : Use) → In_stmt s u → use_reads x u ≡ true → IsSeen (without_places tree)
        (In_stmt s) x
    unfolding use_reads
    use_reads_is s x (Target y) h e = absurd (true≢false (sym e))
    use_reads_is s x (Seen y) h e = ([], subst (λ (z : ℕ). In_stmt s (Seen z)) (sym (eqb-true x y e)) h)
    use_reads_is s x (CallOf b args) h e =
        let two = and_parts (is_given (slice_get tree.blocks b)) (has (implicit_expressions_of sets b) x) e in
        let k = block_given tree b two.0 in
        from_call (without_places tree) (In_stmt s) b args (Seen x) h (((are.blocks b k.0 k.1).expressions x).0 two.1)
    use_reads_is s x (ParallelOf ss) h e = absurd (true≢false (sym e))
    use_reads_is s x (ForallOf y t) h e = absurd (true≢false (sym e))
    use_reads_is s x Stop h e = absurd (true≢false (sym e))

    pub seen_told : (s : Stmt) (x : ℕ) → is_seen s x ≡ true → IsSeen (without_places tree) (In_stmt s) x
    unfolding is_seen
    seen_told s x h = let r = use_found (use_reads x) (stmt_uses s) h in use_reads_is s x r.0
        (stmt_inside s r.0 r.1) r.2

    pub seen_tells : (s : Stmt) (x : ℕ) → IsSeen (without_places tree) (In_stmt s) x → is_seen s x ≡ true
    unfolding is_seen use_reads
    seen_tells s x ([], h) = use_finds (use_reads x) (stmt_uses s) (Seen x) (stmt_among s (Seen x) h) (eq-eqb x x refl)
    seen_tells s x (b ∷ bs, step) =
        let m = given_block tree b step.block step.is_block in
        use_finds (use_reads x) (stmt_uses s) (CallOf b step.actuals)
        (stmt_among s (CallOf b step.actuals) step.is_called)
        (ap (λ (g : Bool). g && has (implicit_expressions_of sets b) x) (ap is_given m.1)
        ∙ ((are.blocks b m.0 m.1).expressions x).1 (step.block, step.is_block, step.is_of_callers, (bs, step.rest)))

-- ---- lists of the numbers that fit

pub has_fitting : (f : ℕ → Bool) (x n y : ℕ) → x ≤ y → y < x + n → f y ≡ true → IsMember y (fitting_numbers f x n)
has_fitting f x zero y low h e = absurd (omega (arith, low, h))
has_fitting f x (suc n) y low h e = go (x == y) refl (λ up. has_fitting f (suc x) n y up (omega (arith, h)) e)
  where
    here : (b : Bool) → f x ≡ b → x ≡ y
        → IsMember y (if b then x ∷ fitting_numbers f (suc x) n else fitting_numbers f (suc x) n)
    here true i same = inl (sym same)
    here false i same = absurd (true≢false (sym e ∙ ap f (sym same) ∙ i))

    later : (b : Bool) → IsMember y (fitting_numbers f (suc x) n)
        → IsMember y (if b then x ∷ fitting_numbers f (suc x) n else fitting_numbers f (suc x) n)
    later true m = inr m
    later false m = m

    go : (b : Bool) → x == y ≡ b → (suc x ≤ y → IsMember y (fitting_numbers f (suc x) n))
        → IsMember y (fitting_numbers f x (suc n))
    go true s more = here (f x) refl (eqb-true x y s)
    go false s more =
        let other : x ≡ y → ⊥ = λ same. true≢false (sym (eq-eqb x y same) ∙ s) in
        let up : suc x ≤ y = omega (arith, low, other) in
        later (f x) (more up)

pub of_fitting : (f : ℕ → Bool) (x n y : ℕ) → IsMember y (fitting_numbers f x n) → (x ≤ y) × (f y ≡ true)
of_fitting f x zero y m = absurd m
of_fitting f x (suc n) y m = go (f x) refl (λ k. of_fitting f (suc x) n y k) m
  where
    go : (b : Bool) → f x ≡ b → (IsMember y (fitting_numbers f (suc x) n) → (suc x ≤ y) × (f y ≡ true))
        → IsMember y (if b then x ∷ fitting_numbers f (suc x) n else fitting_numbers f (suc x) n) → (x ≤ y)
        × (f y ≡ true)
    go true e later (inl same) = (omega (arith, same), ap f same ∙ e)
    go true e later (inr k) = let r = later k in (omega (arith, r.0), r.1)
    go false e later k = let r = later k in (omega (arith, r.0), r.1)

pub fitting_in_order : (f : ℕ → Bool) (x n : ℕ) → IsInOrder (fitting_numbers f x n)
fitting_in_order f x zero = tt
fitting_in_order f x (suc n) = go (f x) (fitting_in_order f (suc x) n)
  where
    go : (b : Bool) → IsInOrder (fitting_numbers f (suc x) n)
        → IsInOrder (if b then x ∷ fitting_numbers f (suc x) n else fitting_numbers f (suc x) n)
    go true rest = ((λ y m. let r = of_fitting f (suc x) n y m in omega (arith, r.0)), rest)
    go false rest = rest

-- none fits beyond both
pub same_fitting : (f : ℕ → Bool) (x n m : ℕ) → ((y : ℕ) → x + n ≤ y → f y ≡ false)
    → ((y : ℕ) → x + m ≤ y → f y ≡ false) → fitting_numbers f x n ≡ fitting_numbers f x m
same_fitting f x zero zero a b = refl
same_fitting f x zero (suc m) a b =
    same_fitting f (suc x) zero m (λ y h. a y (omega (arith, h))) (λ y h. b y (omega (arith, h)))
    ∙ ap (λ (t : Bool). if t then x ∷ fitting_numbers f (suc x) m else fitting_numbers f (suc x) m)
    (sym (a x (omega arith)))
same_fitting f x (suc n) zero a b =
    ap (λ (t : Bool). if t then x ∷ fitting_numbers f (suc x) n else fitting_numbers f (suc x) n) (b x (omega arith))
    ∙ same_fitting f (suc x) n zero (λ y h. a y (omega (arith, h))) (λ y h. b y (omega (arith, h)))
same_fitting f x (suc n) (suc m) a b =
    ap (λ (ys : List ℕ). if f x then x ∷ ys else ys)
    (same_fitting f (suc x) n m (λ y h. a y (omega (arith, h))) (λ y h. b y (omega (arith, h))))

-- ---- lists without some numbers

pub has_filter : (f : ℕ → Bool) (xs : List ℕ) (y : ℕ) → IsMember y xs → f y ≡ true → IsMember y (filter f xs)
has_filter f [] y m e = absurd m
has_filter f (x ∷ xs) y (inl same) e = here (f x) refl
  where
    here : (b : Bool) → f x ≡ b → IsMember y (cond b (x ∷ filter f xs) (filter f xs))
    here true i = inl same
    here false i = absurd (true≢false (sym e ∙ ap f same ∙ i))
has_filter f (x ∷ xs) y (inr m) e = later (f x) (has_filter f xs y m e)
  where
    later : (b : Bool) → IsMember y (filter f xs) → IsMember y (cond b (x ∷ filter f xs) (filter f xs))
    later true k = inr k
    later false k = k

pub of_filter : (f : ℕ → Bool) (xs : List ℕ) (y : ℕ) → IsMember y (filter f xs) → IsMember y xs × (f y ≡ true)
of_filter f [] y m = absurd m
of_filter f (x ∷ xs) y m = go (f x) refl (λ k. of_filter f xs y k) m
  where
    go : (b : Bool) → f x ≡ b → (IsMember y (filter f xs) → IsMember y xs × (f y ≡ true))
        → IsMember y (cond b (x ∷ filter f xs) (filter f xs)) → IsMember y (x ∷ xs) × (f y ≡ true)
    go true e later (inl same) = (inl same, ap f same ∙ e)
    go true e later (inr k) = let r = later k in (inr r.0, r.1)
    go false e later k = let r = later k in (inr r.0, r.1)

pub filter_in_order : (f : ℕ → Bool) (xs : List ℕ) → IsInOrder xs → IsInOrder (filter f xs)
filter_in_order f [] h = tt
filter_in_order f (x ∷ xs) h = go (f x) (filter_in_order f xs h.1)
  where
    go : (b : Bool) → IsInOrder (filter f xs) → IsInOrder (cond b (x ∷ filter f xs) (filter f xs))
    go true rest = ((λ y m. h.0 y (of_filter f xs y m).0), rest)
    go false rest = rest

-- in order, each stands once
pub each_once : (xs : List ℕ) → IsInOrder xs → AllDifferent xs
each_once [] h = tt
each_once (x ∷ xs) h = ((λ m. let low = h.0 x m in omega (arith, low)), each_once xs h.1)
