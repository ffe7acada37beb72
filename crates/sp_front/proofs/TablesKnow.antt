-- The tables of the phase of types say what the tree is.
use Rattle.std.proofs.Common.{◌≡◌, inl, inr, refl, ap, sym, ◌∙◌, subst, ℕ, zero, suc, ◌+◌, ◌≤◌, ◌==◌, List, [], ◌∷◌}
use Rattle.std.proofs.Common.{Option, Some, Bool, true, false, if◌then◌else◌, length, slice_get, arith}
use Rattle.std.specs.Prelude.{map}
use Rattle.std.proofs.lemmas.Option.{same_Some}
use Rattle.sp_tree.specs.declared.checked.KindOf.{KindOf}
use Rattle.sp_tree.specs.declared.checked.KindOf.TheVariants as kind
use Rattle.sp_tree.specs.declared.checked.Role.{Role}
use Rattle.sp_tree.specs.declared.checked.Role.TheVariants as role
use Rattle.sp_tree.specs.declared.checked.Variable as checked
use Rattle.sp_tree.specs.Cells.{variables_of}
use Rattle.sp_tree.specs.NameFirst.{broken_name_rules, both_lists}
use Rattle.sp_tree.specs.Plain as plain
use Rattle.sp_tree.specs.PlainNamed as n
use Rattle.sp_tree.specs.Bare.{bare_block, variable_of}
use Rattle.sp_tree.specs.PlainSyntax as syntax
use Rattle.sp_types.specs.Tables.{Env, table_entry, env_of, types_of, type_of, type_number, roles_of, signatures}
use Rattle.sp_types.specs.Tables.{numbers_of}
use Rattle.sp_types.specs.Tables.{constants_of, variable_kind}
use Rattle.sp_types.specs.TypeRules.{is_ordinal}
use Rattle.sp_types.specs.TypeFirst.{types_broken}
use Rattle.sp_types.specs.TypeWalk.{with_first_number, starts_of, statement_after, blocks_after}
use Rattle.sp_types.specs.CheckedTree.{checked_variables, checked_blocks, checked_block, or_zero}
use Rattle.sp_tree.specs.TreeShape.{AreBefore, is_parameter, numbers_with_role}
use Rattle.sp_front.specs.Earlier.{HaveTypes, IsFormedKind, AreFormedKinds}
use Rattle.sp_front.specs.MatchingTables.{IsKind, AreFormals, TablesMatch}
use Rattle.sp_code.specs.CodeOfTree.{NoIndex}
use Rattle.sp_front.specs.ConstantsDeclared.{HasOrdinalConstants, AreBoundsBehind}
use Rattle.sp_tree.specs.PhaseResults.{refusal_list}
use Rattle.sp_tree.specs.Cells.{sizes}
use Rattle.sp_types.specs.TypeWalk as w
use Rattle.sp_front.proofs.NoBreachInParts.{none_in_parts}
use Rattle.sp_front.proofs.ConstantValues.{AreKnownOrdinals, constants_known, bounds_known, index_ordinal}
use Rattle.sp_front.proofs.IndexTypes.{others_stay}
use Rattle.sp_front.proofs.TypesFormed.{formed_at, program_formed, number_there}
use Rattle.sp_front.proofs.DeclarationOrder.{program_behind, program_typed}
use Rattle.sp_front.proofs.Program.{named, tree, formals, results}
use Rattle.sp_front.proofs.BlockIndices.{spans, has_, room_}
use Rattle.sp_front.proofs.Tree.{types_length}

roles_at : (ks : List (Option ℕ)) (us : List checked.Variable) (x : ℕ) (v : plain.Variable)
    → slice_get (map variable_of (checked_variables ks us)) x ≡ Some v → slice_get (roles_of us) x ≡ Some v.role
roles_at ks [] x v e = absurd (cc e)
roles_at [] (u ∷ us) x v e = absurd (cc e)
roles_at (k ∷ ks) (u ∷ us) zero v e = ap (λ (z : plain.Variable). Some z.role)
    (same_Some (variable_of (record u { kind = or_zero k })) v e)
roles_at (k ∷ ks) (u ∷ us) (suc x) v e = roles_at ks us x v e

-- a variable of the tree is one of the tree with numbers for names
pub variable_from : (ks : List (Option ℕ)) (us : List checked.Variable) (x : ℕ) (v : plain.Variable)
    → slice_get (map variable_of (checked_variables ks us)) x ≡ Some v → (u : checked.Variable)
    × (slice_get us x ≡ Some u) × (v.role ≡ u.role) × (v.block ≡ u.block)
variable_from ks [] x v e = absurd (cc e)
variable_from [] (u ∷ us) x v e = absurd (cc e)
variable_from (k ∷ ks) (u ∷ us) zero v e = let s = same_Some (variable_of (record u { kind = or_zero k })) v e in
    (u, refl, ap (λ (z : plain.Variable). z.role) (sym s), ap (λ (z : plain.Variable). z.block) (sym s))
variable_from (k ∷ ks) (u ∷ us) (suc x) v e = variable_from ks us x v e

types_at : (ns : List ℕ) (us : List checked.Variable) (x : ℕ) (u : checked.Variable) → slice_get us x ≡ Some u
    → slice_get (types_of ns us) x ≡ Some (type_of ns u.role u.kind)
types_at ns [] x u e = absurd (cc e)
types_at ns (w ∷ us) zero u e = ap (λ (z : checked.Variable). Some (type_of ns z.role z.kind)) (same_Some w u e)
types_at ns (w ∷ us) (suc x) u e = types_at ns us x u e

type_is : (ns : List ℕ) (r : Role) (k : ℕ) → NoIndex r → type_of ns r k ≡ Some (type_number ns k)
type_is ns role.Index k d = absurd d
type_is _ _ _ _ = refl

signatures_at : (env : Env) (starts : List ℕ) (bs : List n.Block) (f : ℕ) (b : plain.Block)
    → slice_get (map bare_block (checked_blocks env starts bs)) f ≡ Some b
    → slice_get (signatures bs) f ≡ Some (record { formals = b.formals; answer = b.answer })
signatures_at env starts [] f b e = absurd (cc e)
signatures_at env [] (c ∷ bs) f b e = absurd (cc e)
signatures_at env (z ∷ starts) (c ∷ bs) zero b e =
    ap (λ (y : plain.Block). Some (record { formals = y.formals; answer = y.answer }))
    (same_Some (bare_block (checked_block (with_first_number env z) c)) b e)
signatures_at env (z ∷ starts) (c ∷ bs) (suc f) b e =
    signatures_at (statement_after (with_first_number env z) c.body) starts bs f b e

-- members of a block's parameters
among_formals : (p : plain.Program) (f k : ℕ) (vs : List plain.Variable)
    → ((i : ℕ) → slice_get p.variables (k + i) ≡ slice_get vs i)
    → AreFormals p (numbers_with_role is_parameter (variables_of f k vs))
among_formals p f k [] h = tt
among_formals p f k (v ∷ vs) h = go (v.block == f)
    (among_formals p f (suc k) vs (λ i. subst (λ j. slice_get p.variables j ≡ slice_get vs i)
    (let j : k + suc i ≡ suc k + i = omega arith in j) (h (suc i))))
  where
    at : slice_get p.variables k ≡ Some v
    at = subst (λ j. slice_get p.variables j ≡ Some v) (let j : k + 0 ≡ k = omega arith in j) (h 0)

    one : (r : Role) → v.role ≡ r → AreFormals p (numbers_with_role is_parameter (variables_of f (suc k) vs))
        → AreFormals p (if is_parameter r then k ∷ numbers_with_role is_parameter (variables_of f (suc k) vs) else
        numbers_with_role is_parameter (variables_of f (suc k) vs))
    one role.Value e r = ((v, at, inl e), r)
    one role.Reference e r = ((v, at, inr e), r)
    one _ _ r = r

    go : (b : Bool) → AreFormals p (numbers_with_role is_parameter (variables_of f (suc k) vs))
        → AreFormals p (numbers_with_role is_parameter (if b then (k, v) ∷ variables_of f (suc k) vs else
        variables_of f (suc k) vs))
    go true r = one v.role refl r
    go false r = r

pub within : (ts : List KindOf) (k : ℕ) (t : KindOf) → slice_get ts k ≡ Some t → suc k ≤ length ts
within [] k t e = absurd (cc e)
within (u ∷ ts) zero t e = omega arith
within (u ∷ ts) (suc k) t e = let l = within ts k t e in omega (arith, l)

pub there : (ts : List KindOf) (k : ℕ) → suc k ≤ length ts → (t : KindOf) × (slice_get ts k ≡ Some t)
there [] k l = absurd (omega (arith, l))
there (u ∷ ts) zero l = (u, refl)
there (u ∷ ts) (suc k) l = there ts k (omega (arith, l))

before_at : (k : ℕ) (fs : List (List ℕ × ℕ)) (f : ℕ) (x : List ℕ × ℕ) → AreBefore k fs → slice_get fs f ≡ Some x
    → suc x.1 ≤ k
before_at k [] f x h e = absurd (cc e)
before_at k (g ∷ fs) zero x h e = subst (λ (z : List ℕ × ℕ). suc z.1 ≤ k) (same_Some g x e) h.0
before_at k (g ∷ fs) (suc f) x h e = before_at k fs f x h.1 e

pub kind_low : (k : ℕ) (us : List checked.Variable) (x : ℕ) (u : checked.Variable) → HaveTypes k us
    → slice_get us x ≡ Some u → suc u.kind ≤ k
kind_low k [] x u h e = absurd (cc e)
kind_low k (w ∷ us) zero u h e = subst (λ (z : checked.Variable). suc z.kind ≤ k) (same_Some w u e) h.0
kind_low k (w ∷ us) (suc x) u h e = kind_low k us x u h.1 e

-- a variable that is no index has in the tree the type that it is declared with
variable_type : (s : syntax.Program) (calm : broken_name_rules s ≡ []) (x : ℕ) (v : plain.Variable)
    → slice_get (tree s calm).variables x ≡ Some v → NoIndex v.role
    → (u : checked.Variable) × (slice_get (named s calm).variables x ≡ Some u)
    × (slice_get (env_of (named s calm)).variables x ≡ Some (Some (type_number (numbers_of (named s calm)) u.kind)))
    × (v.kind ≡ type_number (numbers_of (named s calm)) u.kind)
variable_type s calm x v at d =
    let n_ = named s calm in
    let last = (blocks_after (env_of n_) (starts_of n_.blocks) n_.blocks).variables in
    let u = variable_from last n_.variables x v at in
    let t = types_at (numbers_of n_) n_.variables x u.0 u.1
    ∙ ap Some (type_is (numbers_of n_) u.0.role u.0.kind (subst NoIndex u.2 d)) in
    let stays = others_stay (tree s calm) 0 (env_of n_) (starts_of n_.blocks) n_.blocks x v at d (spans s calm) in
    (u.0, u.1, t, has_ s calm last n_.variables x v (Some (type_number (numbers_of n_) u.0.kind)) at (stays ∙ t))

pub variable_is_of : (s : syntax.Program) (calm : broken_name_rules s ≡ []) (x : ℕ) (v : plain.Variable)
    → slice_get (tree s calm).variables x ≡ Some v → NoIndex v.role
    → variable_kind (env_of (named s calm)) x ≡ Some v.kind
variable_is_of s calm x v at d =
    let (_, _, typed_as, kind_is) = variable_type s calm x v at d in ap table_entry typed_as ∙ ap Some (sym kind_is)

module _ (s : syntax.Program) (calm : broken_name_rules s ≡ []) (no_types : types_broken (named s calm) ≡ [])
    (given : HasOrdinalConstants (named s calm)) where
  abbrev p_ : plain.Program
  p_ = tree s calm

  abbrev n_ : n.Program
  n_ = named s calm

  abbrev last : List (Option ℕ)
  last = (blocks_after (env_of n_) (starts_of n_.blocks) n_.blocks).variables

  none_in_tables : (w.constants_sites [] both_lists refusal_list (constants_of n_) n_.constants ≡ [])
      × (w.kinds_sites [] both_lists refusal_list (constants_of n_) n_.kinds ≡ [])
  none_in_tables =
      let rest = w.blocks_sites [] both_lists refusal_list (numbers_of n_) (sizes (env_of n_).kinds) n_.variables 0
      (env_of n_)
      (starts_of n_.blocks) n_.blocks in
      let cells = w.cells_sites [] both_lists refusal_list (w.places_of n_.kinds) (sizes (env_of n_).kinds) in
      let kinds = w.kinds_sites [] both_lists refusal_list (constants_of n_) n_.kinds in
      let one = none_in_parts (w.constants_sites [] both_lists refusal_list (constants_of n_) n_.constants)
      (both_lists kinds (both_lists cells rest)) no_types in
      (one.0, (none_in_parts kinds (both_lists cells rest) one.1).0)

  pub known : AreKnownOrdinals p_.kinds refl refl (constants_of n_)
      × (length (constants_of n_) ≡ 0 + length n_.constants)
  known = constants_known p_.kinds refl refl (numbers_of n_) (constants_of n_) [] n_.constants
      (λ i l. absurd (none i l)) (program_behind s calm given).0 none_in_tables.0
    where
      none : (i : ℕ) → suc i ≤ 0 → ⊥
      none i l = omega (arith, l)

  few : length n_.constants ≡ length (constants_of n_)
  few = let e = known.1 in omega (arith, e)

  bounds : AreBoundsBehind (length (constants_of n_)) n_.kinds
  bounds = subst (λ z. AreBoundsBehind z n_.kinds) few (program_behind s calm given).1

  pub kinds_are_formed : AreFormedKinds 0 p_.kinds
  kinds_are_formed = program_formed s calm no_types
      (bounds_known p_.kinds refl refl (constants_of n_) n_.kinds known.0 bounds none_in_tables.1)

  pub formed : (k : ℕ) (t : KindOf) → slice_get p_.kinds k ≡ Some t → IsFormedKind k t
  formed k t e = subst (λ z. IsFormedKind z t) (let z : 0 + k ≡ k = omega arith in z)
      (formed_at 0 k p_.kinds t (program_formed s calm no_types
      (bounds_known p_.kinds refl refl (constants_of n_) n_.kinds known.0 bounds none_in_tables.1)) e)

  lower : (k j : ℕ) (t : KindOf) → slice_get p_.kinds k ≡ Some t → suc j ≤ k → IsKind p_ j
  lower k j t e l = let r = within p_.kinds k t e in there p_.kinds j (omega (arith, l, r))

  variable_is : (x : ℕ) (v : plain.Variable) → slice_get p_.variables x ≡ Some v → NoIndex v.role
      → (variable_kind (env_of n_) x ≡ Some v.kind) × IsKind p_ v.kind
  variable_is x v at d =
      let (u, u_at, typed_as, kind_is) = variable_type s calm x v at d in (
        ap table_entry typed_as ∙ ap Some (sym kind_is),
        subst (IsKind p_) (sym kind_is)
            (there p_.kinds (type_number (numbers_of n_) u.kind)
            (number_there s calm u.kind (kind_low (length n_.kinds) n_.variables x u (program_typed s calm) u_at))),
      )

  pub knows : (answers_ : (f : ℕ) (b : plain.Block) (x : ℕ) (v : plain.Variable)
      → slice_get (tree s calm).blocks f ≡ Some b → b.answer ≡ Some x → slice_get (tree s calm).variables x ≡ Some v
      → is_ordinal (slice_get (tree s calm).kinds v.kind) ≡ true) → TablesMatch p_ (length n_.constants) (env_of n_)
  knows answers_ = record {
    kinds = refl;
    integer = refl;
    boolean = refl;
    char = refl;
    given = λ k l. known.0 k (subst (λ z. suc k ≤ z) few l);
    variables = variable_is;
    room = λ x v at. (let l = room_ s calm last n_.variables x v at in
        let z = types_length (numbers_of n_) n_.variables in omega (arith, l, z));
    roles = λ x v at. roles_at last n_.variables x v at;
    blocks = λ f b at. signatures_at (env_of n_) (starts_of n_.blocks) n_.blocks f b at;
    formals = λ f b at. subst (AreFormals p_) (sym (formals s calm f b at))
        (among_formals p_ f 0 p_.variables (λ i. ap (slice_get p_.variables) (let z : 0 + i ≡ i = omega arith in z)));
    answers = λ f b x at ans. (let (v, v_at, role_is, block_is) = results s calm f b x at ans in
        (v, v_at, role_is, block_is, answers_ f b x v at ans v_at));
    elements = λ k low high index element e. (
      lower k element (kind.Array low high index element) e (formed k (kind.Array low high index element) e).0,
      index_ordinal p_.kinds refl refl (numbers_of n_) (constants_of n_) n_.kinds known.0 bounds none_in_tables.1 k low
          high index element e,
    );
    fields = λ k fs f name t e h. lower k t (kind.Fields fs) e
        (before_at k fs f (name, t) (formed k (kind.Fields fs) e) h);
  }
