-- A tree that breaks no rule of interference keeps them at every use, and a call of a function leads to no statement
-- that it may not have.
use Rattle.std.proofs.Common.{◌≡◌, refl, sym, subst, ℕ, [], ◌∷◌, Some, length, slice_get}
use Rattle.sp_base.specs.declared.place.Place.{Place}
use Rattle.sp_base.specs.declared.rule.Rule.TheVariants as rule
use Rattle.sp_tree.specs.PlainChecked as c
use Rattle.sp_tree.specs.PlainNamed as n
use Rattle.sp_tree.specs.PlainSyntax as syntax
use Rattle.sp_tree.specs.Plain as plain
use Rattle.sp_tree.specs.NamedTree.{program_named}
use Rattle.sp_tree.specs.NameFirst.{broken_name_rules}
use Rattle.sp_tree.specs.Bare.{bare_statement, without_places}
use Rattle.sp_tree.specs.Uses.{Use, CallOf, Stop, In_stmt}
use Rattle.sp_tree.specs.Sets.{LeadsToStop}
use Rattle.sp_tree.specs.Interference.{IsIndexOf, IsFunction, IsFreeOfInterference}
use Rattle.sp_tree.specs.Sites.{Site, statement_sites}
use Rattle.sp_tree.specs.Interferes.{SiteStops}
use Rattle.sp_tree.proofs.NoBreach.{HasIndex, block_at, blocks_kept}
use Rattle.sp_types.specs.Tables.{env_of}
use Rattle.sp_types.specs.TypeWalk.{starts_of}
use Rattle.sp_types.specs.CheckedTree.{program_checked}
use Rattle.sp_front.specs.ForkWalk.{AnyBranches}
use Rattle.sp_front.specs.ForEach.{HoldsOfEach}
use Rattle.sp_code.specs.NeverStops.{NeverStops}
use Rattle.sp_front.specs.AcceptedTree.{KeepsInterference}
use Rattle.sp_front.proofs.Sites.{fit_at, fit_each, blocks_fit}
use Rattle.sp_front.proofs.UsesFit.{statement_kept}
use Rattle.sp_front.proofs.IndexRoles.{blocks_have}
use Rattle.sp_front.proofs.Homes.{consoles}
use Rattle.sp_front.proofs.Program.{parents, results, input, output, scoped}

module _ (g : c.Program) (calm : KeepsInterference g) where
  -- nothing at this site is what a function may not have
  abbrev IsSilent : Site → Type 0
  IsSilent site = (at : Place) → SiteStops (without_places g) site at → ⊥

  -- nor is this use
  abbrev IsSilentUse : Use → Type 0
  IsSilentUse (CallOf f args) = LeadsToStop (without_places g) f → ⊥
  IsSilentUse Stop = ⊥
  IsSilentUse _ = Unit {0}

  silent_use : (f : ℕ) (k : c.Block) → slice_get g.blocks f ≡ Some k → IsFunction (without_places g) f → (u : Use)
      → In_stmt (bare_statement k.body) u → IsSilentUse u
  silent_use f k at function u i =
      statement_kept IsSilent IsSilentUse (λ x. tt) (λ x. tt) (λ b here args h leads. h here (refl, leads)) (λ ss h. tt)
      (λ here x s h. tt) (λ here h. h here refl) k.body u
      (fit_each IsSilent (statement_sites k.body) (λ site s here h. calm rule.I9 here (f, k, at, function, site, s, h)))
      i

  -- a function leads to no statement that it may not have
  pub function_is_silent : (f x : ℕ) (b : plain.Block) → slice_get (without_places g).blocks f ≡ Some b
      → b.answer ≡ Some x
      → NeverStops (without_places g) f
  function_is_silent f x b at ans (k, kat, [], r) =
      let m = block_at g.blocks f k kat in
      silent_use f m.0 m.1 (b, x, at, ans) Stop (subst (λ (z : plain.Block). In_stmt z.body Stop) (sym m.2) r)
  function_is_silent f x b at ans (k, kat, d ∷ ds, step) =
      let m = block_at g.blocks f k kat in
      silent_use f m.0 m.1 (b, x, at, ans) (CallOf d step.actuals)
      (subst (λ (z : plain.Block). In_stmt z.body (CallOf d step.actuals)) (sym m.2) step.is_called)
      (step.block, step.is_block, ds, step.rest)

module _ (s : syntax.Program) (calm : broken_name_rules s ≡ [])
    (kept : KeepsInterference (program_checked (program_named s))) where
  abbrev g_ : c.Program
  g_ = program_checked (program_named s)

  abbrev n_ : n.Program
  n_ = program_named s

  indices_fit : (f : ℕ) (b : c.Block) → slice_get g_.blocks f ≡ Some b
      → HoldsOfEach (HasIndex (without_places g_)) (statement_sites b.body)
  indices_fit f b at = blocks_fit (HasIndex (without_places g_)) (λ f at args. tt) (λ x at s. tt)
      (λ at. tt) (IsIndexOf (without_places g_))
      AnyBranches (λ at x s h. h) (λ env at bs h. tt) (env_of n_) (starts_of n_.blocks) n_.blocks
      (blocks_have (without_places g_) (length n_.constants) 0 n_.blocks (scoped s calm)) f b at

  pub program_free : IsFreeOfInterference (without_places g_)
  program_free = record {
    blocks = blocks_kept g_ kept (λ b k at site i. fit_at (HasIndex (without_places g_)) (statement_sites k.body) site
        (indices_fit b k at) i);
    parents = λ b k q at e. parents s calm b q k at e;
    consoles = consoles s calm;
    answers = λ b k x at e. results s calm b k x at e;
    input = input s calm;
    output = output s calm;
  }
