-- That a tree breaks no rule of interference, by a test over claims of what its blocks reach.
use Rattle.std.proofs.Common.{◌≡◌, ◌⊎◌, inl, inr, ℕ, zero, suc, ◌+◌, ◌≤◌, Bool, true, false, not, ◌&&◌, ◌||◌, ◌==◌}
use Rattle.std.proofs.Common.{List, [], ◌∷◌, Option, Some, None, slice_get, nat_lt, refl, sym, ap, ◌∙◌, subst, arith}
use Rattle.std.proofs.Common.{eq-eqb}
use Rattle.std.proofs.Common.{zero-add}
use Rattle.std.proofs.lemmas.Bool.{or_cases, or_left, or_right}
use Rattle.std.proofs.lemmas.Option.{same_Some}
use Rattle.sp_base.specs.declared.place.Place.{Place}
use Rattle.sp_base.specs.declared.rule.Rule.TheVariants as rule
use Rattle.sp_base.proofs.Facts.{first_true, is_plus_none, next_goes_right, not_refutes, second_true}
use Rattle.sp_tree.specs.declared.checked.Role.{Role}
use Rattle.sp_tree.specs.declared.checked.Role.TheVariants as role
use Rattle.sp_tree.specs.declared.checked.Variable as ast_x
use Rattle.sp_tree.specs.PlainChecked as p
use Rattle.sp_tree.specs.Plain.{Program, Block, Actuals}
use Rattle.sp_tree.specs.Bare.{bare_statement, bare_statements, bare_actuals, bare_block, without_places}
use Rattle.sp_tree.specs.Uses.{Use, Target, Seen, CallOf, ParallelOf, ForallOf, Stop, In_stmt, In_stmts}
use Rattle.sp_tree.specs.Sets.{IsBelow, IsTarget, IsUsed, ImplicitTarget, Implicit}
use Rattle.sp_tree.specs.Interference.{refs, IsMember, AllDifferent, KeepsI1, KeepsI5, IsCalledInside, IsFunction}
use Rattle.sp_tree.specs.Sites.{Site, SplitsAt, SpreadsAt, LoopsAt, CallsAt, StopsAt, statement_sites}
use Rattle.sp_tree.specs.Interferes.{IsSite, ClashesIn, SplitBreaks, Repeats, CallRepeats, PassesImplicit, SiteBreaks}
use Rattle.sp_tree.specs.Interferes.{SiteStops, Interferes}
use Rattle.sp_tree.proofs.UsesOf.{Among, stmt_uses, stmt_among}
use Rattle.sp_tree.proofs.SetCertificates.{Claim, has, each, each_has, all_uses, use_passes, member_has, T, S}
use Rattle.sp_tree.proofs.SetCertificates.{aims_of, keeps}
use Rattle.sp_tree.proofs.SetCertificates.{bodies, reached_target, reached_seen, target_has, use_kept}
use Rattle.sp_tree.proofs.Closure.{target_part, used_part}
use Rattle.sp_tree.proofs.CallClosure.{IsClosedUnderCalls, complete}
use Rattle.sp_tree.proofs.NoBreach.{block_at}

abbrev pub is_reference : Role → Bool
is_reference role.Reference = true
is_reference _ = false

reference_not : (r : Role) → not (is_reference r) ≡ true → r ≡ role.Reference → ⊥
reference_not role.Reference h e = cc h
reference_not _ _ e = cc e

abbrev pub by_role : (Role → Bool) → Option ast_x.Variable → Bool
by_role f None = true
by_role f (Some i) = f i.role

abbrev pub is_none : Option ℕ → Bool
is_none None = true
is_none (Some q) = false

none_not : (o : Option ℕ) (q : ℕ) → is_none o ≡ true → o ≡ Some q → ⊥
none_not None q h e = cc e
none_not (Some r) q h e = cc h

abbrev pub all_sites : (Site → Bool) → List Site → Bool
all_sites f [] = true
all_sites f (s ∷ ss) = f s && all_sites f ss

site_passes : (f : Site → Bool) (ss : List Site) (s : Site) → all_sites f ss ≡ true → IsSite s ss → f s ≡ true
site_passes f [] s h i = absurd i
site_passes f (t ∷ ts) s h (inl e) = subst (λ z. f z ≡ true) (sym e) (first_true (f t) (all_sites f ts) h)
site_passes f (t ∷ ts) s h (inr i) = site_passes f ts s (second_true (f t) (all_sites f ts) h) i

-- the blocks that are called
abbrev pub runs_of : List Use → List ℕ
runs_of [] = []
runs_of (Target x ∷ us) = runs_of us
runs_of (Seen x ∷ us) = runs_of us
runs_of (CallOf f args ∷ us) = f ∷ runs_of us
runs_of (ParallelOf ss ∷ us) = runs_of us
runs_of (ForallOf x s ∷ us) = runs_of us
runs_of (Stop ∷ us) = runs_of us

run_has : (us : List Use) (f : ℕ) (args : Actuals) → Among (CallOf f args) us → has (runs_of us) f ≡ true
run_has [] f args a = absurd a
run_has (Target x ∷ us) f args (inl e) = absurd (cc e)
run_has (Target x ∷ us) f args (inr a) = run_has us f args a
run_has (Seen x ∷ us) f args (inl e) = absurd (cc e)
run_has (Seen x ∷ us) f args (inr a) = run_has us f args a
run_has (CallOf d passed ∷ us) f args (inl e) = let i : f ≡ d = cc e in
    or_left (f == d) (has (runs_of us) f) (eq-eqb f d i)
run_has (CallOf d passed ∷ us) f args (inr a) = or_right (f == d) (has (runs_of us) f) (run_has us f args a)
run_has (ParallelOf ss ∷ us) f args (inl e) = absurd (cc e)
run_has (ParallelOf ss ∷ us) f args (inr a) = run_has us f args a
run_has (ForallOf x s ∷ us) f args (inl e) = absurd (cc e)
run_has (ForallOf x s ∷ us) f args (inr a) = run_has us f args a
run_has (Stop ∷ us) f args (inl e) = absurd (cc e)
run_has (Stop ∷ us) f args (inr a) = run_has us f args a

-- where a site keeps the rules, no place breaks them
module _ (g : Program) where
  -- what is reached from a statement is reached from the list in which it stands
  in_list : (s : p.Statement) (rest : p.Statements) (u : Use) → In_stmt (bare_statement s) u
      → In_stmts (bare_statements (p.AndThen s rest)) u
  in_list s rest u h = inl h

  in_longer : (s : p.Statement) (rest : p.Statements) (u : Use) → In_stmts (bare_statements rest) u
      → In_stmts (bare_statements (p.AndThen s rest)) u
  in_longer s rest u h = inr h

  no_clash : (s : p.Statement) (rest : p.Statements) (at : Place)
      → ((x : ℕ) → IsTarget g (In_stmt (bare_statement s)) x → IsUsed g (In_stmts (bare_statements rest)) x → ⊥)
      → ((x : ℕ) → IsUsed g (In_stmt (bare_statement s)) x → IsTarget g (In_stmts (bare_statements rest)) x → ⊥)
      → ClashesIn g s rest at → ⊥
  no_clash s p.NoStatement at one other h = h
  no_clash s (p.AndThen t rest) at one other (inl (e, (x, inl (a, u)))) = one x a (used_part g (in_list t rest) x u)
  no_clash s (p.AndThen t rest) at one other (inl (e, (x, inr (u, a)))) =
      other x u (target_part g (in_list t rest) x a)
  no_clash s (p.AndThen t rest) at one other (inr h) =
      no_clash s rest at (λ x a u. one x a (used_part g (in_longer t rest) x u))
      (λ x u a. other x u (target_part g (in_longer t rest) x a)) h

  no_split : (ss : p.Statements) (at : Place) → KeepsI1 g (bare_statements ss) → SplitBreaks g ss at → ⊥
  no_split p.NoStatement at k h = h
  no_split (p.AndThen s rest) at k (inl h) = no_clash s rest at k.0 k.1 h
  no_split (p.AndThen s rest) at k (inr h) = no_split rest at k.2 h

  repeated : (x : ℕ) (args : p.Actuals) (at : Place) → Repeats g x args at → IsMember x (refs (bare_actuals args))
  repeated x p.Nothing at h = h
  repeated x (p.Pass (p.ByValue e) rest) at h = repeated x rest at h
  repeated x (p.Pass (p.ByReference (p.Entire y here ss)) rest) at (inl h) = inl h.0
  repeated x (p.Pass (p.ByReference (p.Entire y here ss)) rest) at (inr h) = inr (repeated x rest at h)

  no_repeat : (args : p.Actuals) (at : Place) → AllDifferent (refs (bare_actuals args)) → CallRepeats g args at → ⊥
  no_repeat p.Nothing at k h = h
  no_repeat (p.Pass (p.ByValue e) rest) at k h = no_repeat rest at k h
  no_repeat (p.Pass (p.ByReference (p.Entire y here ss)) rest) at k (inl h) = k.0 (repeated y rest at h)
  no_repeat (p.Pass (p.ByReference (p.Entire y here ss)) rest) at k (inr h) = no_repeat rest at k.1 h

  no_implicit : (f : ℕ) (args : p.Actuals) (at : Place) → KeepsI5 g f (bare_actuals args) → PassesImplicit g f args at
      → ⊥
  no_implicit f p.Nothing at k h = h
  no_implicit f (p.Pass (p.ByValue e) rest) at k h = no_implicit f rest at k h
  no_implicit f (p.Pass (p.ByReference (p.Entire y here ss)) rest) at k (inl h) = k y (inl refl) h.1
  no_implicit f (p.Pass (p.ByReference (p.Entire y here ss)) rest) at k (inr h) =
      no_implicit f rest at (λ x m i. k x (inr m) i) h

pub record BreaksNone (c : p.Program) : Type 0 where
  pub I1 : (at : Place) → Interferes c rule.I1 at → ⊥
  pub I2 : (at : Place) → Interferes c rule.I2 at → ⊥
  pub I3 : (at : Place) → Interferes c rule.I3 at → ⊥
  pub I4 : (at : Place) → Interferes c rule.I4 at → ⊥
  pub I5 : (at : Place) → Interferes c rule.I5 at → ⊥
  pub I6 : (at : Place) → Interferes c rule.I6 at → ⊥
  pub I7 : (at : Place) → Interferes c rule.I7 at → ⊥
  pub I8 : (at : Place) → Interferes c rule.I8 at → ⊥
  pub I9 : (at : Place) → Interferes c rule.I9 at → ⊥

-- the test: by what each block is said to reach, and by the blocks from which a statement is said to be reached that a
-- function may not have
module _ (c : p.Program) (claims : List Claim) (stopping : List ℕ) where
  abbrev pub site_test : Site → Bool
  site_test (SplitsAt parts) = keeps (without_places c) claims (ParallelOf (bare_statements parts))
  site_test (SpreadsAt at x s) = keeps (without_places c) claims (ForallOf x (bare_statement s))
  site_test (LoopsAt x at s) = not (has (aims_of (without_places c) claims (stmt_uses (bare_statement s))) x)
  site_test (CallsAt f at args) = keeps (without_places c) claims (CallOf f (bare_actuals args))
  site_test (StopsAt at) = true

  abbrev pub silent_test : Site → Bool
  silent_test (SplitsAt parts) = true
  silent_test (SpreadsAt at x s) = true
  silent_test (LoopsAt x at s) = true
  silent_test (CallsAt f at args) = not (has stopping f)
  silent_test (StopsAt at) = false

  abbrev pub function_test : ℕ → p.Block → Option ℕ → Bool
  function_test b k None = true
  function_test b k (Some x) = each (λ y. by_role (λ r. not (is_reference r)) (slice_get c.variables y)) k.formals
      && (each (λ y. false) (T (without_places c) claims b) && all_sites silent_test (statement_sites k.body))

  -- it is called only by blocks that stand in none, and not by itself
  abbrev pub outer_calls : ℕ → ℕ → List p.Block → Bool
  outer_calls b n [] = true
  outer_calls b n (k ∷ ks) = (not (has (runs_of (stmt_uses (bare_statement k.body))) b)
      || (is_none k.parent && not (n == b))) && outer_calls b (suc n) ks

  abbrev pub recursion_test : ℕ → Bool
  recursion_test b = (each (λ x. nat_lt x 2) (T (without_places c) claims b) && each
      (λ x. nat_lt x 2) (S (without_places c) claims b))
      || outer_calls b 0 c.blocks

  abbrev pub stop_test : ℕ → Use → Bool
  stop_test b (CallOf f args) = not (has stopping f) || has stopping b
  stop_test b Stop = has stopping b
  stop_test _ _ = true

  abbrev pub block_test : ℕ → p.Block → Bool
  block_test b k = (all_sites site_test (statement_sites k.body) && function_test b k k.answer)
      && (recursion_test b && all_uses (stop_test b) (stmt_uses (bare_statement k.body)))

  abbrev pub blocks_test : ℕ → List p.Block → Bool
  blocks_test b [] = true
  blocks_test b (k ∷ ks) = block_test b k && blocks_test (suc b) ks

  abbrev pub unbroken : Bool
  unbroken = bodies (without_places c) claims 0 (without_places c).blocks && blocks_test 0 c.blocks

  block_passes : (b : ℕ) (ks : List p.Block) (n : ℕ) (k : p.Block) → blocks_test b ks ≡ true → slice_get ks n ≡ Some k
      → block_test (b + n) k ≡ true
  block_passes b [] n k h e = absurd (cc e)
  block_passes b (x ∷ ks) zero k h e =
      let is : x ≡ k = cc e in
      subst (λ (z : ℕ × p.Block). block_test z.0 z.1 ≡ true) (λ i. (is_plus_none b i, is i))
      (first_true (block_test b x) (blocks_test (suc b) ks) h)
  block_passes b (x ∷ ks) (suc n) k h e = subst (λ z. block_test z k ≡ true) (next_goes_right b n)
      (block_passes (suc b) ks n k (second_true (block_test b x) (blocks_test (suc b) ks) h) e)

  caller : (b m : ℕ) (ks : List p.Block) (n : ℕ) (k : p.Block) → outer_calls b m ks ≡ true → slice_get ks n ≡ Some k
      → has (runs_of (stmt_uses (bare_statement k.body))) b ≡ true → (is_none k.parent ≡ true) × (m + n ≡ b → ⊥)
  caller b m [] n k h e r = absurd (cc e)
  caller b m (x ∷ ks) zero k h e r =
      let is : x ≡ k = cc e in
      let test : not (has (runs_of (stmt_uses (bare_statement k.body))) b)
      || (is_none k.parent && not (m == b)) ≡ true =
      subst (λ (z : p.Block). not (has (runs_of (stmt_uses (bare_statement z.body))) b)
      || (is_none z.parent && not (m == b)) ≡ true) is (first_true _ (outer_calls b (suc m) ks) h) in
      go (or_cases (not (has (runs_of (stmt_uses (bare_statement k.body))) b)) (is_none k.parent && not (m == b)) test)
    where
      go : (not (has (runs_of (stmt_uses (bare_statement k.body))) b) ≡ true)
          ⊎ (is_none k.parent && not (m == b) ≡ true) → (is_none k.parent ≡ true) × (m + 0 ≡ b → ⊥)
      go (inl z) = absurd (not_refutes (has (runs_of (stmt_uses (bare_statement k.body))) b) z r)
      go (inr z) = (
        first_true (is_none k.parent) (not (m == b)) z,
        λ q. let same : m ≡ b = omega (arith, q) in
            not_refutes (m == b) (second_true (is_none k.parent) (not (m == b)) z) (eq-eqb m b same),
      )
  caller b m (x ∷ ks) (suc n) k h e r = let z =
      caller b (suc m) ks n k (second_true _ (outer_calls b (suc m) ks) h) e r in
      (z.0, λ q. let same : suc m + n ≡ b = omega (arith, q) in z.1 same)

  module _ (passes : unbroken ≡ true) where
    all : bodies (without_places c) claims 0 (without_places c).blocks ≡ true
    all = first_true (bodies (without_places c) claims 0 (without_places c).blocks) (blocks_test 0 c.blocks) passes

    tested : (b : ℕ) (k : p.Block) → slice_get c.blocks b ≡ Some k → block_test b k ≡ true
    tested b k e = subst (λ z. block_test z k ≡ true) (zero-add b)
        (block_passes 0 c.blocks b k (second_true (bodies (without_places c) claims 0 (without_places c).blocks)
        (blocks_test 0 c.blocks)
        passes) e)

    site_passed : (b : ℕ) (k : p.Block) (site : Site) → slice_get c.blocks b ≡ Some k
        → IsSite site (statement_sites k.body) → site_test site ≡ true
    site_passed b k site e i = site_passes site_test (statement_sites k.body) site
        (first_true (all_sites site_test (statement_sites k.body)) (function_test b k k.answer)
        (first_true (all_sites site_test (statement_sites k.body) && function_test b k k.answer) _ (tested b k e))) i

    function_passed : (b : ℕ) (k : p.Block) (x : ℕ) → slice_get c.blocks b ≡ Some k → k.answer ≡ Some x
        → function_test b k (Some x) ≡ true
    function_passed b k x e a = subst (λ o. function_test b k o ≡ true) a
        (second_true (all_sites site_test (statement_sites k.body)) (function_test b k k.answer)
        (first_true (all_sites site_test (statement_sites k.body) && function_test b k k.answer) _ (tested b k e)))

    other_passed : (b : ℕ) (k : p.Block) → slice_get c.blocks b ≡ Some k
        → recursion_test b && all_uses (stop_test b) (stmt_uses (bare_statement k.body)) ≡ true
    other_passed b k e = second_true (all_sites site_test (statement_sites k.body) && function_test b k k.answer)
        (recursion_test b && all_uses (stop_test b) (stmt_uses (bare_statement k.body))) (tested b k e)

    is_answered : (b : ℕ) (k : p.Block) → slice_get c.blocks b ≡ Some k → IsFunction (without_places c) b → (x : ℕ)
        × (k.answer ≡ Some x)
    is_answered b k e (m, x, at, a) =
        let r = block_at c.blocks b m at in
        let same : r.0 ≡ k = same_Some r.0 k (sym r.1 ∙ e) in
        (x, ap (λ (z : p.Block). z.answer) (sym same) ∙ ap (λ (z : Block). z.answer) r.2 ∙ a)

    none_broken_at_site : (site : Site) → site_test site ≡ true → (at : Place)
        → (SiteBreaks (without_places c) site rule.I1 at → ⊥)
        × (SiteBreaks (without_places c) site rule.I2 at → ⊥) × (SiteBreaks (without_places c) site rule.I3 at → ⊥)
        × (SiteBreaks (without_places c) site rule.I4 at → ⊥) × (SiteBreaks (without_places c) site rule.I5 at → ⊥)
    none_broken_at_site (SplitsAt parts) h at = (
      no_split (without_places c) parts at
          (use_kept (without_places c) claims all (ParallelOf (bare_statements parts)) h),
      λ k. k,
      λ k. k,
      λ k. k,
      λ k. k,
    )
    none_broken_at_site (SpreadsAt here x s) h at = (
      λ k. k,
      λ k. (use_kept (without_places c) claims all (ForallOf x (bare_statement s)) h).1 k.1 k.2,
      λ k. k,
      λ k. k,
      λ k. k,
    )
    none_broken_at_site (LoopsAt x here s) h at = (
      λ k. k,
      λ k. k,
      λ k. not_refutes _ h (target_has (without_places c) claims all (In_stmt (bare_statement s))
          (stmt_uses (bare_statement s))
          (stmt_among (bare_statement s)) x k.1),
      λ k. k,
      λ k. k,
    )
    none_broken_at_site (CallsAt f here args) h at =
        let kept = use_kept (without_places c) claims all (CallOf f (bare_actuals args)) h in (
          λ k. k,
          λ k. k,
          λ k. k,
          no_repeat (without_places c) args at kept.0,
          no_implicit (without_places c) f args at
              kept.1,
        )
    none_broken_at_site (StopsAt here) h at = (λ k. k, λ k. k, λ k. k, λ k. k, λ k. k)

    none_broken_at : (b : ℕ) (k : p.Block) (site : Site) → slice_get c.blocks b ≡ Some k
        → IsSite site (statement_sites k.body)
        → (at : Place) → (SiteBreaks (without_places c) site rule.I1 at → ⊥)
        × (SiteBreaks (without_places c) site rule.I2 at → ⊥)
        × (SiteBreaks (without_places c) site rule.I3 at → ⊥) × (SiteBreaks (without_places c) site rule.I4 at → ⊥)
        × (SiteBreaks (without_places c) site rule.I5 at → ⊥)
    none_broken_at b k site e i at = none_broken_at_site site (site_passed b k site e i) at

    implicit_has : (b x : ℕ) → Implicit (without_places c) b x → (has (T (without_places c) claims b) x ≡ true)
        ⊎ (has (S (without_places c) claims b) x ≡ true)
    implicit_has b x (k, e, f, inl (bs, r)) = inl (reached_target (without_places c) claims all bs x b k e r f)
    implicit_has b x (k, e, f, inr (bs, r)) = inr (reached_seen (without_places c) claims all bs x b k e r f)

    no_recursion : (b x : ℕ) → recursion_test b ≡ true → IsCalledInside (without_places c) b
        → Implicit (without_places c) b x → 2 ≤ x → ⊥
    no_recursion b x t (n, d, below, m, at, args, runs) i l =
        go (or_cases (each (λ x. nat_lt x 2) (T (without_places c) claims b) && each
        (λ x. nat_lt x 2) (S (without_places c) claims b))
        (outer_calls b 0 c.blocks) t)
      where
        small : nat_lt x 2 ≡ true → ⊥
        small h = grind (arith, h, l)

        listed : each (λ x. nat_lt x 2) (T (without_places c) claims b) && each
            (λ x. nat_lt x 2) (S (without_places c) claims b) ≡ true
            → (has (T (without_places c) claims b) x ≡ true) ⊎ (has (S (without_places c) claims b) x ≡ true) → ⊥
        listed h (inl a) = small (each_has (λ x. nat_lt x 2) (T (without_places c) claims b) x
            (first_true (each (λ x. nat_lt x 2) (T (without_places c) claims b))
            (each (λ x. nat_lt x 2) (S (without_places c) claims b)) h)
            a)
        listed h (inr a) = small (each_has (λ x. nat_lt x 2) (S (without_places c) claims b) x
            (second_true (each (λ x. nat_lt x 2) (T (without_places c) claims b))
            (each (λ x. nat_lt x 2) (S (without_places c) claims b))
            h) a)

        outside : (n : ℕ) → IsBelow (without_places c) n d b → outer_calls b 0 c.blocks ≡ true → ⊥
        outside n below h = by n below
          where
            r : (k : p.Block) × (slice_get c.blocks d ≡ Some k) × (bare_block k ≡ m)
            r = block_at c.blocks d m at

            called : has (runs_of (stmt_uses (bare_statement r.0.body))) b ≡ true
            called = run_has (stmt_uses (bare_statement r.0.body)) b args
                (stmt_among (bare_statement r.0.body) (CallOf b args)
                (subst (λ (z : Block). In_stmt z.body (CallOf b args)) (sym r.2) runs))

            z : (is_none r.0.parent ≡ true) × (0 + d ≡ b → ⊥)
            z = caller b 0 c.blocks d r.0 h r.1 called

            by : (n : ℕ) → IsBelow (without_places c) n d b → ⊥
            by zero e = let same : d ≡ b = e in z.1 (omega (arith, same))
            by (suc n) (k, e, q, o, rest) =
                let same : m ≡ k = cc (at, e) in
                none_not r.0.parent q z.0 (ap (λ (y : Block). y.parent) r.2 ∙ ap (λ (y : Block). y.parent) same ∙ o)

        go : (each (λ x. nat_lt x 2) (T (without_places c) claims b) && each
            (λ x. nat_lt x 2) (S (without_places c) claims b) ≡ true)
            ⊎ (outer_calls b 0 c.blocks ≡ true) → ⊥
        go (inl h) = listed h (implicit_has b x i)
        go (inr h) = outside n below h

    -- a block from which such a statement is reached is listed
    abbrev Listed : ℕ → Use → Type 0
    Listed b u = u ≡ Stop → has stopping b ≡ true

    closed : IsClosedUnderCalls (without_places c) Listed
    closed b m at u passed = (
      λ h s. use_passes (stop_test b) (stmt_uses m.body) Stop test
          (subst (λ v. Among v (stmt_uses m.body)) s (stmt_among m.body u h)),
      λ d args h listed s. called d args (use_passes (stop_test b) (stmt_uses m.body) (CallOf d args) test
          (stmt_among m.body (CallOf d args) h)) (listed s),
    )
      where
        test : all_uses (stop_test b) (stmt_uses m.body) ≡ true
        test =
            let r = block_at c.blocks b m at in
            subst (λ (z : Block). all_uses (stop_test b) (stmt_uses z.body) ≡ true) r.2
            (second_true (recursion_test b) _ (other_passed b r.0 r.1))

        called : (d : ℕ) (args : Actuals) → not (has stopping d) || has stopping b ≡ true → has stopping d ≡ true
            → has stopping b ≡ true
        called d args h k = go (or_cases (not (has stopping d)) (has stopping b) h)
          where
            go : (not (has stopping d) ≡ true) ⊎ (has stopping b ≡ true) → has stopping b ≡ true
            go (inl n) = absurd (not_refutes (has stopping d) n k)
            go (inr y) = y

    no_stop : (site : Site) (at : Place) → silent_test site ≡ true → SiteStops (without_places c) site at → ⊥
    no_stop (SplitsAt parts) at h s = s
    no_stop (SpreadsAt here x t) at h s = s
    no_stop (LoopsAt x here t) at h s = s
    no_stop (CallsAt f here args) at h (e, (k, found, bs, r)) =
        not_refutes (has stopping f) h (complete (without_places c) Listed closed bs f k Stop found tt r refl)
    no_stop (StopsAt here) at h s = cc h

    no_reference : (b : ℕ) (k : p.Block) (y : ℕ) (i : ast_x.Variable) → slice_get c.blocks b ≡ Some k
        → IsFunction (without_places c) b → IsMember y k.formals → slice_get c.variables y ≡ Some i
        → i.role ≡ role.Reference → ⊥
    no_reference b k y i e f m at is =
        let a = is_answered b k e f in
        let test = first_true (each (λ y. by_role (λ r. not (is_reference r)) (slice_get c.variables y)) k.formals) _
        (function_passed b k a.0 e a.1) in
        let one : by_role (λ r. not (is_reference r)) (slice_get c.variables y) ≡ true =
        each_has (λ y. by_role (λ r. not (is_reference r)) (slice_get c.variables y)) k.formals y test
        (member_has y k.formals m) in
        reference_not i.role (subst (λ o. by_role (λ r. not (is_reference r)) o ≡ true) at one) is

    rest_passed : (b : ℕ) (k : p.Block) → slice_get c.blocks b ≡ Some k → IsFunction (without_places c) b
        → each (λ y. false) (T (without_places c) claims b) && all_sites silent_test (statement_sites k.body) ≡ true
    rest_passed b k e f = let a = is_answered b k e f in
        second_true (each (λ y. by_role (λ r. not (is_reference r)) (slice_get c.variables y)) k.formals) _
        (function_passed b k a.0 e a.1)

    no_target : (b : ℕ) (k : p.Block) (x : ℕ) → slice_get c.blocks b ≡ Some k → IsFunction (without_places c) b
        → ImplicitTarget (without_places c) b x → ⊥
    no_target b k x e f (m, at, free, (bs, r)) =
        let found : false ≡ true = each_has (λ y. false) (T (without_places c) claims b) x
        (first_true (each (λ y. false) (T (without_places c) claims b)) (all_sites silent_test (statement_sites k.body))
        (rest_passed b k e f)) (reached_target (without_places c) claims all bs x b m at r free) in
        cc found

    -- no rule of interference is broken, at no place
    pub breaks_none : BreaksNone c
    breaks_none = record {
      I1 = λ at (b, k, e, site, i, h). let (none, _, _, _, _) = none_broken_at b k site e i at in none h;
      I2 = λ at (b, k, e, site, i, h). let (_, none, _, _, _) = none_broken_at b k site e i at in none h;
      I3 = λ at (b, k, e, site, i, h). let (_, _, none, _, _) = none_broken_at b k site e i at in none h;
      I4 = λ at (b, k, e, site, i, h). let (_, _, _, none, _) = none_broken_at b k site e i at in none h;
      I5 = λ at (b, k, e, site, i, h). let (_, _, _, _, none) = none_broken_at b k site e i at in none h;
      I6 = λ at (b, k, e, here, inside, x, i, l). no_recursion b x
          (first_true (recursion_test b) _ (other_passed b k e)) inside i l;
      I7 = λ at (b, k, e, f, x, m, i, found, is, here). no_reference b k x i e f m found is;
      I8 = λ at (b, k, e, here, f, x, t). no_target b k x e f t;
      I9 = λ at (b, k, e, f, site, i, s). no_stop site at
          (site_passes silent_test (statement_sites k.body) site
          (second_true (each (λ y. false) (T (without_places c) claims b))
          (all_sites silent_test (statement_sites k.body))
          (rest_passed b k e f)) i) s;
    }
