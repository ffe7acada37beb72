-- The tree of a text that breaks no rule is formed.
use Rattle.std.proofs.Common.{◌≡◌, refl, sym, subst, ℕ, zero, suc, ◌≤◌, List, [], ◌∷◌, Option, Some, None, true, length}
use Rattle.std.proofs.Common.{slice_get, arith}
use Rattle.sp_base.specs.declared.place.Place.{Place}
use Rattle.sp_tree.specs.declared.checked.KindOf.{KindOf}
use Rattle.sp_tree.specs.declared.checked.KindOf.TheVariants as kind
use Rattle.sp_tree.specs.declared.checked.Role.{Role}
use Rattle.sp_tree.specs.declared.checked.Role.TheVariants as role
use Rattle.sp_tree.specs.declared.checked.Variable as checked
use Rattle.sp_tree.specs.PlainSyntax as syntax
use Rattle.sp_tree.specs.PlainNamed as n
use Rattle.sp_tree.specs.PlainChecked as c
use Rattle.sp_tree.specs.Plain as plain
use Rattle.sp_tree.specs.Plain.{No}
use Rattle.sp_tree.specs.NameFirst.{broken_name_rules}
use Rattle.sp_tree.specs.NamedTree.{program_named}
use Rattle.sp_tree.specs.Bare.{bare_statements}
use Rattle.sp_tree.specs.Uses.{Use, Target, Seen, CallOf, ParallelOf, ForallOf, Stop, In_stmt}
use Rattle.sp_tree.specs.CheckedOf as of_
use Rattle.sp_tree.specs.Sites.{SplitsAt}
use Rattle.sp_tree.specs.TreeShape.{AreBefore, IsFormedUse, IsFormed}
use Rattle.sp_tree.proofs.NoBreach.{block_at}
use Rattle.sp_types.specs.declared.tables.Ordinal.{Ordinal}
use Rattle.sp_types.specs.Tables.{Env, table_entry, constant_kind, ordinal_kind, env_of, numbers_of, constants_of}
use Rattle.sp_types.specs.Tables.{type_of}
use Rattle.sp_types.specs.Tables.{type_number, types_of}
use Rattle.sp_types.specs.TypeRules.{is_ordinal}
use Rattle.sp_types.specs.TypeFirst.{types_broken}
use Rattle.sp_types.specs.TypeWalk.{starts_of, blocks_after}
use Rattle.sp_types.specs.CheckedTree.{checked_branches, program_checked}
use Rattle.sp_code.specs.Scopes.{scopes_of}
use Rattle.sp_code.specs.CodeOfTree.{IsSoundBlock}
use Rattle.sp_front.specs.Earlier.{HaveTypes}
use Rattle.sp_code.specs.NeverStops.{NeverStops}
use Rattle.sp_front.specs.ConstantsDeclared.{HasOrdinalConstants}
use Rattle.sp_front.specs.NonEmptyRecords.{AreNonEmptyKinds}
use Rattle.sp_front.specs.ForkWalk.{BlocksSatisfy, AnyIndex, IsSplit, HasPart}
use Rattle.sp_front.specs.TableTypes.{IsThere, AreThere, Tabled}
use Rattle.sp_front.proofs.Sites.{blocks_fit}
use Rattle.sp_front.proofs.UsesFit.{statement_kept}
use Rattle.sp_front.proofs.UsesFormed.{IsGoodUse, stands_uses}
use Rattle.sp_front.proofs.Homes.{homes, program_block}
use Rattle.sp_front.proofs.TypesFormed.{number_there}
use Rattle.sp_front.proofs.TablesKnow.{within, known, formed}
use Rattle.sp_front.proofs.DeclarationOrder.{program_typed}
use Rattle.sp_front.proofs.Grammatical.{record_filled}
use Rattle.sp_front.proofs.TypesThere.{blocks_tabled, variable_there}
use Rattle.sp_front.proofs.Enumerations.{program_given}
use Rattle.sp_front.proofs.Program.{tree, formals, answers, input, output}

-- an ordinal type is one that there is
ordinal_there : (kinds : List KindOf) (k : ℕ) → is_ordinal (slice_get kinds k) ≡ true → suc k ≤ length kinds
ordinal_there kinds k h = go (slice_get kinds k) refl h
  where
    go : (o : Option KindOf) → slice_get kinds k ≡ o → is_ordinal o ≡ true → suc k ≤ length kinds
    go None e h = absurd (cc h)
    go (Some t) e h = within kinds k t e

before_more : (j k : ℕ) (fs : List (List ℕ × ℕ)) → j ≤ k → AreBefore j fs → AreBefore k fs
before_more j k [] l h = tt
before_more j k (f ∷ fs) l h = ((let b = h.0 in omega (arith, b, l)), before_more j k fs l h.1)

module _ (s : syntax.Program) (calm : broken_name_rules s ≡ []) (no_types : types_broken (program_named s) ≡ []) where
  abbrev p_ : plain.Program
  p_ = tree s calm

  abbrev n_ : n.Program
  n_ = program_named s

  abbrev env_ : Env
  env_ = env_of n_

  given : HasOrdinalConstants n_
  given = program_given s calm

  constants_there : (i : ℕ) → IsThere (length p_.kinds) (constant_kind env_ i)
  constants_there i = go (constants_of n_) i (λ j l. (known s calm no_types given).0 j l)
    where
      go : (cs : List (Option Ordinal)) (i : ℕ)
          → ((j : ℕ) → suc j ≤ length cs → (o : Ordinal) × (slice_get cs j ≡ Some (Some o))
          × (is_ordinal (slice_get p_.kinds o.kind) ≡ true))
          → IsThere (length p_.kinds) (ordinal_kind (table_entry (slice_get cs i)))
      go [] i h = tt
      go (x ∷ cs) zero h = let r = h 0 (omega arith) in
          subst (λ o. IsThere (length p_.kinds) (ordinal_kind (table_entry o))) (sym r.1)
          (ordinal_there p_.kinds r.0.kind r.2)
      go (x ∷ cs) (suc i) h = go cs i (λ j l. h (suc j) (omega (arith, l)))

  variables_there : (us : List checked.Variable) → HaveTypes (length n_.kinds) us
      → AreThere (length p_.kinds) (types_of (numbers_of n_) us)
  variables_there [] h = tt
  variables_there (u ∷ us) h = (by u.role, variables_there us h.1)
    where
      there : suc (type_number (numbers_of n_) u.kind) ≤ length p_.kinds
      there = number_there s calm u.kind h.0

      by : (r : Role) → IsThere (length p_.kinds) (type_of (numbers_of n_) r u.kind)
      by role.Index = tt
      by _ = there

  standard_there : 3 ≤ length p_.kinds
  standard_there = within p_.kinds 2 kind.Char refl

  tabled : Tabled (length p_.kinds) env_
  tabled = record {
    standard = standard_there;
    constants = constants_there;
    variables = variables_there n_.variables (program_typed s calm);
    elements = λ k low high index element e.
        (let a = (formed s calm no_types given k (kind.Array low high index element) e).0 in
        let b = within p_.kinds k (kind.Array low high index element) e in omega (arith, a, b));
    fields = λ k fs e. (let b = within p_.kinds k (kind.Fields fs) e in
        before_more k (length p_.kinds) fs (omega (arith, b)) (formed s calm no_types given k (kind.Fields fs) e));
  }

  kinds : (x : ℕ) (v : plain.Variable) → slice_get p_.variables x ≡ Some v → suc v.kind ≤ length p_.kinds
  kinds x v at = variable_there (length p_.kinds) (blocks_after env_ (starts_of n_.blocks) n_.blocks).variables
      n_.variables x v standard_there (blocks_tabled (length p_.kinds) env_ (starts_of n_.blocks) n_.blocks
      tabled).variables at

  module _ (filled : AreNonEmptyKinds n_.kinds) (split : BlocksSatisfy AnyIndex IsSplit n_.blocks)
      (fine : (f : ℕ) (b : plain.Block) → slice_get p_.blocks f ≡ Some b
      → IsSoundBlock p_ (λ s. []) (λ s. []) (NeverStops p_) f 0 b) where
    -- a parallel statement has a process statement
    abbrev HasProcess : Use → Type 0
    HasProcess (ParallelOf ss) = ss ≡ No → ⊥
    HasProcess _ = Unit {0}

    process : (ss : c.Statements) → HasPart (SplitsAt ss) → bare_statements ss ≡ No → ⊥
    process c.NoStatement h e = h
    process (c.AndThen s rest) h e = cc e

    branch : (env : Env) (at : Place) (bs : n.Branches) → IsSplit bs
        → HasPart (SplitsAt (of_.statements (checked_branches env at bs)))
    branch env at n.NoBranch h = h
    branch env at (n.Beside ss rest) h = tt

    has_process : (f : ℕ) (b : plain.Block) → slice_get p_.blocks f ≡ Some b → (u : Use) → In_stmt b.body u
        → HasProcess u
    has_process f b at u i =
        let m = block_at (program_checked n_).blocks f b at in
        statement_kept HasPart HasProcess (λ x. tt) (λ x. tt) (λ g here args h. tt) process (λ here x s h. tt)
        (λ here h. tt) m.0.body u
        (blocks_fit HasPart (λ g here args. tt) (λ x here s. tt) (λ here. tt) AnyIndex IsSplit (λ here x s h. tt) branch
        env_ (starts_of n_.blocks) n_.blocks split f m.0 m.1)
        (subst (λ (z : plain.Block). In_stmt z.body u) (sym m.2) i)

    both : (u : Use) → IsGoodUse p_ (input s calm) (output s calm) (λ s. []) (λ s. []) (NeverStops p_) u → HasProcess u
        → IsFormedUse p_ u
    both (Target x) h k = h
    both (Seen x) h k = h
    both (CallOf f args) h k = tt
    both (ParallelOf ss) h k = k
    both (ForallOf x s) h k = tt
    both Stop h k = tt

    uses : (f : ℕ) (b : plain.Block) → slice_get p_.blocks f ≡ Some b → (u : Use) → In_stmt b.body u → IsFormedUse p_ u
    uses f b at u i = both u (stands_uses p_ (input s calm) (output s calm) (λ s. []) (λ s. []) (NeverStops p_)
        (scopes_of p_ f) 0 b.body ((fine f b at).body true tt) u i) (has_process f b at u i)

    pub program_formed : IsFormed p_
    program_formed = record {
      arrays = λ k low high index element e. formed s calm no_types given k (kind.Array low high index element) e;
      fields = λ k fs e. (
        formed s calm no_types given k (kind.Fields fs) e,
        record_filled (numbers_of n_) (constants_of n_) n_.kinds filled k fs e,
      );
      formals = formals s calm;
      answers = answers s calm;
      kinds = kinds;
      homes = homes s calm;
      program = program_block s calm;
      uses = uses;
    }
