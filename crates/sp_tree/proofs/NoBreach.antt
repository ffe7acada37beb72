-- A tree that breaks no rule of interference keeps them at every use in it.
use Rattle.std.proofs.Common.{◌≡◌, ◌⊎◌, inl, inr, ℕ, zero, suc, List, [], ◌∷◌, map, Some, slice_get, refl, sym, subst}
use Rattle.std.proofs.lemmas.Option.{same_Some}
use Rattle.sp_base.specs.declared.place.Place.{Place}
use Rattle.sp_base.specs.declared.rule.Rule.{Rule}
use Rattle.sp_base.specs.declared.rule.Rule.TheVariants as rule
use Rattle.sp_tree.specs.PlainChecked as p
use Rattle.sp_tree.specs.Plain.{Program, Block}
use Rattle.sp_tree.specs.Bare.{bare_statement, bare_statements, bare_actuals, bare_block, without_places}
use Rattle.sp_tree.specs.Uses.{Use, Target, Seen, CallOf, In_stmt, In_stmts}
use Rattle.sp_tree.specs.Sets.{Reach, IsTarget, IsUsed, Implicit}
use Rattle.sp_tree.specs.Interference.{refs, IsMember, AllDifferent, KeepsI1, KeepsI5, IsIndexOf, IsFreeUse}
use Rattle.sp_tree.specs.Sites.{Site, SplitsAt, SpreadsAt, LoopsAt, CallsAt, StopsAt, statement_sites}
use Rattle.sp_tree.specs.Interferes.{IsSite, place_of, ClashesIn, SplitBreaks, Repeats, CallRepeats, PassesImplicit}
use Rattle.sp_tree.specs.Interferes.{Interferes}
use Rattle.sp_tree.proofs.Closure.{called_in}
use Rattle.sp_tree.proofs.UseSites.{KeepsSite, AllKeep, statement_kept}

module _ (g : Program) where
  -- what is reached from a list of statements is reached from one of them
  clash : (s : p.Statement) (ss : p.Statements) → ((at : Place) → ClashesIn g s ss at → ⊥) → (x : ℕ)
      → (IsTarget g (In_stmt (bare_statement s)) x → IsUsed g (In_stmts (bare_statements ss)) x → ⊥)
      × (IsUsed g (In_stmt (bare_statement s)) x → IsTarget g (In_stmts (bare_statements ss)) x → ⊥)
  clash s p.NoStatement calm x = (λ t u. none u, λ u t. none (inl t))
    where
      none : IsUsed g (In_stmts (bare_statements p.NoStatement)) x → ⊥
      none (inl ([], r)) = r
      none (inl (b ∷ bs, step)) = step.is_called
      none (inr ([], r)) = r
      none (inr (b ∷ bs, step)) = step.is_called
  clash s (p.AndThen t rest) calm x = let later = clash s rest (λ at c. calm at (inr c)) x in
      (one later.0, other later.1)
    where
      one_of : (u : Use) (bs : List ℕ) → Reach g (In_stmts (bare_statements (p.AndThen t rest))) bs u
          → Reach g (In_stmt (bare_statement t)) bs u ⊎ Reach g (In_stmts (bare_statements rest)) bs u
      one_of u [] (inl h) = inl h
      one_of u [] (inr h) = inr h
      one_of u (b ∷ bs) step = go step.is_called
        where
          go : In_stmt (bare_statement t) (CallOf b step.actuals)
              ⊎ In_stmts (bare_statements rest) (CallOf b step.actuals)
              → Reach g (In_stmt (bare_statement t)) (b ∷ bs) u ⊎ Reach g (In_stmts (bare_statements rest)) (b ∷ bs) u
          go (inl h) = inl (called_in g step h)
          go (inr h) = inr (called_in g step h)

      aimed : (r : IsTarget g (In_stmts (bare_statements (p.AndThen t rest))) x)
          → IsTarget g (In_stmt (bare_statement t)) x ⊎ IsTarget g (In_stmts (bare_statements rest)) x
      aimed (bs, r) = go (one_of (Target x) bs r)
        where
          go : Reach g (In_stmt (bare_statement t)) bs (Target x)
              ⊎ Reach g (In_stmts (bare_statements rest)) bs (Target x) → IsTarget g (In_stmt (bare_statement t)) x
              ⊎ IsTarget g (In_stmts (bare_statements rest)) x
          go (inl h) = inl (bs, h)
          go (inr h) = inr (bs, h)

      used : IsUsed g (In_stmts (bare_statements (p.AndThen t rest))) x → IsUsed g (In_stmt (bare_statement t)) x
          ⊎ IsUsed g (In_stmts (bare_statements rest)) x
      used (inl r) = go (aimed r)
        where
          go : IsTarget g (In_stmt (bare_statement t)) x ⊎ IsTarget g (In_stmts (bare_statements rest)) x
              → IsUsed g (In_stmt (bare_statement t)) x ⊎ IsUsed g (In_stmts (bare_statements rest)) x
          go (inl h) = inl (inl h)
          go (inr h) = inr (inl h)
      used (inr (bs, r)) = go (one_of (Seen x) bs r)
        where
          go : Reach g (In_stmt (bare_statement t)) bs (Seen x) ⊎ Reach g (In_stmts (bare_statements rest)) bs (Seen x)
              → IsUsed g (In_stmt (bare_statement t)) x ⊎ IsUsed g (In_stmts (bare_statements rest)) x
          go (inl h) = inl (inr (bs, h))
          go (inr h) = inr (inr (bs, h))

      one : (IsTarget g (In_stmt (bare_statement s)) x → IsUsed g (In_stmts (bare_statements rest)) x → ⊥)
          → IsTarget g (In_stmt (bare_statement s)) x → IsUsed g (In_stmts (bare_statements (p.AndThen t rest))) x → ⊥
      one later a u = go (used u)
        where
          go : IsUsed g (In_stmt (bare_statement t)) x ⊎ IsUsed g (In_stmts (bare_statements rest)) x → ⊥
          go (inl h) = calm (place_of t) (inl (refl, (x, inl (a, h))))
          go (inr h) = later a h

      other : (IsUsed g (In_stmt (bare_statement s)) x → IsTarget g (In_stmts (bare_statements rest)) x → ⊥)
          → IsUsed g (In_stmt (bare_statement s)) x → IsTarget g (In_stmts (bare_statements (p.AndThen t rest))) x → ⊥
      other later u a = go (aimed a)
        where
          go : IsTarget g (In_stmt (bare_statement t)) x ⊎ IsTarget g (In_stmts (bare_statements rest)) x → ⊥
          go (inl h) = calm (place_of t) (inl (refl, (x, inr (u, h))))
          go (inr h) = later u h

  pub split_kept : (ss : p.Statements) → ((at : Place) → SplitBreaks g ss at → ⊥) → KeepsI1 g (bare_statements ss)
  split_kept p.NoStatement calm = tt
  split_kept (p.AndThen s rest) calm = (
    λ x. (clash s rest (λ at c. calm at (inl c)) x).0,
    λ x. (clash s rest (λ at c. calm at (inl c)) x).1,
    split_kept rest (λ at c. calm at (inr c)),
  )

  repeats : (x : ℕ) (args : p.Actuals) → IsMember x (refs (bare_actuals args)) → (at : Place) × Repeats g x args at
  repeats x p.Nothing m = absurd m
  repeats x (p.Pass (p.ByValue e) rest) m = repeats x rest m
  repeats x (p.Pass (p.ByReference (p.Entire y here ss)) rest) (inl e) = (here, inl (e, refl))
  repeats x (p.Pass (p.ByReference (p.Entire y here ss)) rest) (inr m) = let r = repeats x rest m in (r.0, inr r.1)

  pub different : (args : p.Actuals) → ((at : Place) → CallRepeats g args at → ⊥)
      → AllDifferent (refs (bare_actuals args))
  different p.Nothing calm = tt
  different (p.Pass (p.ByValue e) rest) calm = different rest calm
  different (p.Pass (p.ByReference (p.Entire y here ss)) rest) calm =
      (λ m. let r = repeats y rest m in calm r.0 (inl r.1), different rest (λ at c. calm at (inr c)))

  pub not_implicit : (f : ℕ) (args : p.Actuals) → ((at : Place) → PassesImplicit g f args at → ⊥)
      → KeepsI5 g f (bare_actuals args)
  not_implicit f p.Nothing calm x m i = m
  not_implicit f (p.Pass (p.ByValue e) rest) calm x m i = not_implicit f rest calm x m i
  not_implicit f (p.Pass (p.ByReference (p.Entire y here ss)) rest) calm x (inl e) i =
      calm here (inl (refl, subst (Implicit g f) e i))
  not_implicit f (p.Pass (p.ByReference (p.Entire y here ss)) rest) calm x (inr m) i =
      not_implicit f rest (λ at c. calm at (inr c)) x m i

  -- an index of a forall has this role; that is what names give
  abbrev pub HasIndex : Site → Type 0
  HasIndex (SpreadsAt at x s) = IsIndexOf g x
  HasIndex site = Unit

-- a block without places is that of one with places
pub block_at : (ks : List p.Block) (b : ℕ) (k : Block) → slice_get (map bare_block ks) b ≡ Some k → (m : p.Block)
    × (slice_get ks b ≡ Some m) × (bare_block m ≡ k)
block_at [] b k e = absurd (cc e)
block_at (m ∷ ms) zero k e = (m, refl, same_Some (bare_block m) k e)
block_at (m ∷ ms) (suc b) k e = block_at ms b k e

module _ (c : p.Program) (calm : (r : Rule) (at : Place) → Interferes c r at → ⊥) where
  pub site_kept : (b : ℕ) (k : p.Block) → slice_get c.blocks b ≡ Some k → (site : Site)
      → IsSite site (statement_sites k.body) → HasIndex (without_places c) site → KeepsSite (without_places c) site
  site_kept b k e (SplitsAt parts) i x = split_kept (without_places c) parts
      (λ at h. calm rule.I1 at (b, k, e, SplitsAt parts, i, h))
  site_kept b k e (SpreadsAt here y s) i x =
      (x, λ z t. calm rule.I2 here (b, k, e, SpreadsAt here y s, i, (refl, z, t)))
  site_kept b k e (LoopsAt y here s) i x = tt
  site_kept b k e (CallsAt f here args) i x = (
    different (without_places c) args (λ at h. calm rule.I4 at (b, k, e, CallsAt f here args, i, h)),
    not_implicit (without_places c) f args (λ at h. calm rule.I5 at (b, k, e, CallsAt f here args, i, h)),
  )
  site_kept b k e (StopsAt here) i x = tt

  all_kept : (sites : List Site) → ((site : Site) → IsSite site sites → KeepsSite (without_places c) site)
      → AllKeep (without_places c) sites
  all_kept [] h = tt
  all_kept (s ∷ ss) h = (h s (inl refl), all_kept ss (λ t m. h t (inr m)))

  -- every use in every block keeps the rules on which disjointness rests
  pub blocks_kept : ((b : ℕ) (k : p.Block) → slice_get c.blocks b ≡ Some k → (site : Site)
      → IsSite site (statement_sites k.body) → HasIndex (without_places c) site)
      → (b : ℕ) (k : Block) → slice_get (without_places c).blocks b ≡ Some k → (u : Use) → In_stmt k.body u
      → IsFreeUse (without_places c) u
  blocks_kept indices b k e u i =
      let m = block_at c.blocks b k e in
      statement_kept (without_places c) m.0.body u (all_kept (statement_sites m.0.body)
      (λ site s. site_kept b m.0 m.1 site s (indices b m.0 m.1 site s)))
      (subst (λ (z : Block). In_stmt z.body u) (sym m.2) i)
