-- The constants and types in scope have been declared, and so has each constant or type that is used.
use Rattle.std.proofs.Common.{◌≡◌, ap, ℕ, suc, ◌+◌, ◌≤◌, List, [], ◌∷◌, ◌++◌, Option, Some, None, Bool, true, false}
use Rattle.std.proofs.Common.{if◌then◌else◌, length, arith}
use Rattle.std.specs.Prelude.{nat_le}
use Rattle.std.specs.Str.{bytes_eq}
use Rattle.sp_base.specs.declared.place.Place.{Place}
use Rattle.sp_base.specs.declared.rule.Rule.TheVariants as rule
use Rattle.sp_tree.specs.declared.checked.Role.{Role}
use Rattle.sp_tree.specs.declared.meaning.Meaning.{Meaning}
use Rattle.sp_tree.specs.declared.meaning.Meaning.TheVariants as meaning
use Rattle.sp_tree.specs.declared.syntax.Name.{Name}
use Rattle.sp_tree.specs.PhaseResults.{FirstRefusal, refusal_at}
use Rattle.sp_tree.specs.NameFirst.{both_lists, all_at}
use Rattle.sp_tree.specs.Scopes as names
use Rattle.sp_tree.specs.Scopes.{Env, look, find, find_in, or_else}
use Rattle.sp_tree.specs.NameWalk as w
use Rattle.sp_tree.specs.NameWalk.{role_of}
use Rattle.sp_front.proofs.NoBreachInParts.{none_in_parts, none_at_site}
use Rattle.sp_tree.specs.declared.meaning.Sort.{Sort}
use Rattle.sp_tree.specs.declared.meaning.Sort.TheVariants as sort
use Rattle.sp_tree.specs.NameRules.{Declares}
use Rattle.sp_tree.specs.Scopes.{Local, inner_env, with_declaration, declaration_limit, variable}
use Rattle.sp_front.proofs.DeclarationNumbers.{room_at}
use Rattle.sp_tree.specs.declared.meaning.Counts.{Counts}
use Rattle.sp_tree.specs.declared.syntax.SynFormal.{SynFormal}
use Rattle.sp_tree.specs.declared.syntax.SynKind.{SynKind}
use Rattle.sp_tree.specs.declared.syntax.SynKind.TheVariants as kinds
use Rattle.sp_tree.specs.NameRules.{Uses, AsKind}
use Rattle.sp_tree.specs.Scopes.{put, next_constant, next_kind}
use Rattle.sp_tree.specs.NameWalk.{names_local, formals_local, answer_local}
use Rattle.sp_tree.specs.NameWalk.{constants_local, kind_local, block_meaning}
use Rattle.sp_tree.specs.NamedTree.{kind_number, enumeration_constants, constants_named}
use Rattle.sp_front.proofs.DeclarationNumbers.{declared_counts}
use Rattle.sp_tree.specs.declared.syntax.SynGroup.{SynGroup}
use Rattle.sp_tree.specs.NameRules.{UsesIn, own_rule, use_rule}
use Rattle.sp_tree.specs.NamedTree.{kind_named, groups_named, fields_named}
use Rattle.sp_tree.specs.TreeShape.{AreBefore}
use Rattle.sp_tree.specs.declared.syntax.SynValue.{SynValue}
use Rattle.sp_tree.specs.declared.syntax.SynValue.TheVariants as value
use Rattle.sp_tree.specs.NameRules.{AsConstant}
use Rattle.sp_tree.specs.NamedTree.{constant_number, named_value}
use Rattle.sp_front.specs.ConstantsDeclared.{IsBehind, IsBoundBehind}
use Rattle.sp_front.specs.Earlier.{IsEarlier}

-- ---- the constants and types in scope have been declared

abbrev pub Bound : Counts → Meaning → Type 0
Bound c (meaning.Constant k) = suc k ≤ next_constant c
Bound c (meaning.Kind k) = suc k ≤ next_kind c
Bound _ _ = Unit {0}

abbrev pub AllBound : Counts → names.Scope → Type 0
AllBound c [] = Unit {0}
AllBound c (e ∷ es) = Bound c e.1 × AllBound c es

abbrev pub EachBound : Counts → List names.Scope → Type 0
EachBound c [] = Unit {0}
EachBound c (b ∷ bs) = AllBound c b × EachBound c bs

abbrev pub FoundBound : Counts → Option Meaning → Type 0
FoundBound c None = Unit {0}
FoundBound c (Some y) = Bound c y

-- no fewer constants and types
abbrev pub UpTo : Counts → Counts → Type 0
UpTo c d = (next_constant c ≤ next_constant d) × (next_kind c ≤ next_kind d)

bound_more : (c d : Counts) (y : Meaning) → UpTo c d → Bound c y → Bound d y
bound_more c d (meaning.Constant k) l h = let a = l.0 in omega (arith, a, h)
bound_more c d (meaning.Kind k) l h = let a = l.1 in omega (arith, a, h)
bound_more _ _ _ _ _ = tt

pub all_bound_more : (c d : Counts) (b : names.Scope) → UpTo c d → AllBound c b → AllBound d b
all_bound_more c d [] l h = tt
all_bound_more c d (e ∷ es) l h = (bound_more c d e.1 l h.0, all_bound_more c d es l h.1)

pub each_bound_more : (c d : Counts) (bs : List names.Scope) → UpTo c d → EachBound c bs → EachBound d bs
each_bound_more c d [] l h = tt
each_bound_more c d (b ∷ bs) l h = (all_bound_more c d b l h.0, each_bound_more c d bs l h.1)

pub each_behind : (c : Counts) (bs : List names.Scope) (b : names.Scope) → EachBound c bs → AllBound c b
    → EachBound c (bs ++ (b ∷ []))
each_behind c [] b h x = (x, tt)
each_behind c (d ∷ bs) b h x = (h.0, each_behind c bs b h.1 x)

look_bound : (c : Counts) (b : names.Scope) (name : List ℕ) → AllBound c b → FoundBound c (look b name)
look_bound c [] name h = tt
look_bound c (e ∷ es) name h = go (bytes_eq name e.0) (look_bound c es name h.1)
  where
    go : (z : Bool) → FoundBound c (look es name) → FoundBound c (if z then Some e.1 else look es name)
    go true r = h.0
    go false r = r

or_bound : (c : Counts) (a b : Option Meaning) → FoundBound c a → FoundBound c b → FoundBound c (or_else a b)
or_bound c None b x y = y
or_bound c (Some z) b x y = x

in_bound : (c : Counts) (bs : List names.Scope) (name : List ℕ) (o : Option Meaning) → EachBound c bs → FoundBound c o
    → FoundBound c (find_in bs name o)
in_bound c [] name o h x = x
in_bound c (b ∷ bs) name o h x = in_bound c bs name (or_else (look b name) o) h.1
    (or_bound c (look b name) o (look_bound c b name h.0) x)

put_bound : (c : Counts) (b : names.Scope) (name : List ℕ) (y : Meaning) → AllBound c b → Bound c y
    → AllBound c (put b name y)
put_bound c [] name y h v = (v, tt)
put_bound c (e ∷ es) name y h v = go (bytes_eq name e.0) (put_bound c es name y h.1 v)
  where
    go : (z : Bool) → AllBound c (put es name y) → AllBound c (if z then (e.0, y) ∷ es else e ∷ put es name y)
    go true r = (v, h.1)
    go false r = (h.0, r)

-- a declaration, where the number is bounded behind it
pub declared_bound : (c : Counts) (l : Local) (name : List ℕ) (s : Sort) (y : Meaning) → AllBound c l.here → Bound c y
    → AllBound c (with_declaration l name s y).here
declared_bound c l name s y h v = go (nat_le declaration_limit (names.count s l.counts))
  where
    go : (b : Bool) → AllBound c (if b then l else
        record {
          here = put l.here name y;
          block = l.block;
          answer = l.answer;
          counts =
              names.with_one_more s l.counts;
        }).here
    go true = h
    go false = put_bound c l.here name y h v

pub names_bound : (c : Counts) (r : Role) (l : Local) (xs : List Name) → AllBound c l.here
    → AllBound c (names_local r l xs).here
names_bound c r l [] h = h
names_bound c r l (x ∷ xs) h = names_bound c r (with_declaration l x.text sort.Variable (variable l r)) xs
    (declared_bound c l x.text sort.Variable (variable l r) h tt)

pub formals_bound : (c : Counts) (l : Local) (fs : List SynFormal) → AllBound c l.here
    → AllBound c (formals_local l fs).here
formals_bound c l [] h = h
formals_bound c l (f ∷ fs) h = formals_bound c (names_local (role_of f.by_reference) l f.names) fs
    (names_bound c (role_of f.by_reference) l f.names h)

pub answer_bound : (c : Counts) (l : Local) (answer : Option Name) → AllBound c l.here
    → AllBound c (answer_local l answer).here
answer_bound c l None h = h
answer_bound c l (Some t) h = h

constants_bound : (around : List names.Scope) (c : Counts) (l : Local) (xs : List Name)
    → w.enumerated_sites [] both_lists all_at around l xs ≡ [] → (j i : ℕ)
    → next_constant l.counts + length (enumeration_constants j i xs) ≤ next_constant c → AllBound c l.here
    → AllBound c (constants_local l xs).here
constants_bound around c l [] calm j i few h = h
constants_bound around c l (x ∷ xs) calm j i few h =
    let y = meaning.Constant (next_constant l.counts) in
    let next = with_declaration l x.text sort.Constant y in
    let two = none_in_parts (all_at (inner_env around l) (Declares x sort.Constant))
    (w.enumerated_sites [] both_lists all_at around next xs) calm in
    let e = ap next_constant (declared_counts l x.text sort.Constant y
    (room_at (inner_env around l) x sort.Constant two.0)) in
    constants_bound around c next xs two.1 j (suc i) (omega (arith, few, e))
    (declared_bound c l x.text sort.Constant y h (omega (arith, few)))

pub kind_bound : (around : List names.Scope) (c : Counts) (l : Local) (d : SynKind)
    → w.kind_constants_sites [] both_lists all_at around l d ≡ [] → (j : ℕ)
    → next_constant l.counts + length (constants_named j d) ≤ next_constant c → AllBound c l.here
    → AllBound c (kind_local l d).here
kind_bound around c l (kinds.Enumeration xs) calm j few h = constants_bound around c l xs calm j 0 few h
kind_bound _ _ _ _ _ _ _ h = h

pub block_bound : (c : Counts) (l : Local) (fs : List SynFormal) (answer : Option Name)
    → Bound c (block_meaning l fs answer)
block_bound c l fs None = tt
block_bound c l fs (Some t) = tt

-- ---- a name of a constant or type that is used

constant_found : (c : Counts) (at : Place) (o : Option Meaning) → FoundBound c o → use_rule AsConstant at o ≡ None
    → suc (constant_number o) ≤ next_constant c
constant_found c at None h e = absurd (cc e)
constant_found c at (Some (meaning.Constant k)) h e = h
constant_found c at (Some (meaning.Kind k)) h e = absurd (cc e)
constant_found c at (Some (meaning.Variable x b r)) h e = absurd (cc e)
constant_found c at (Some (meaning.Procedure f fs)) h e = absurd (cc e)
constant_found c at (Some (meaning.Function f fs)) h e = absurd (cc e)
constant_found c at (Some (meaning.StandardFunction f)) h e = absurd (cc e)
constant_found c at (Some (meaning.StandardProcedure f)) h e = absurd (cc e)

kind_found : (c : Counts) (at : Place) (o : Option Meaning) → FoundBound c o → use_rule AsKind at o ≡ None
    → suc (kind_number o) ≤ next_kind c
kind_found c at None h e = absurd (cc e)
kind_found c at (Some (meaning.Constant k)) h e = absurd (cc e)
kind_found c at (Some (meaning.Kind k)) h e = h
kind_found c at (Some (meaning.Variable x b r)) h e = absurd (cc e)
kind_found c at (Some (meaning.Procedure f fs)) h e = absurd (cc e)
kind_found c at (Some (meaning.Function f fs)) h e = absurd (cc e)
kind_found c at (Some (meaning.StandardFunction f)) h e = absurd (cc e)
kind_found c at (Some (meaning.StandardProcedure f)) h e = absurd (cc e)

none_by_own_rule : (own_ x : Name) (f : FirstRefusal) → own_rule own_ x f ≡ None → f ≡ None
none_by_own_rule own_ x f e = go (bytes_eq own_.text x.text) e
  where
    go : (b : Bool) → (if b then refusal_at rule.N4 x.at else f) ≡ None → f ≡ None
    go true e = absurd (cc e)
    go false e = e

module _ (c : Counts) (env : Env) (around : EachBound c env.around) (here : AllBound c env.local.here) where
  find_bound : (name : List ℕ) → FoundBound c (find env name)
  find_bound name = or_bound c (look env.local.here name) (find_in env.around name None)
      (look_bound c env.local.here name here) (in_bound c env.around name None around tt)

  -- ---- constants in declarations

  pub value_behind : (v : SynValue) → w.value_sites [] both_lists all_at env v ≡ []
      → IsBehind (next_constant c) (named_value env v)
  value_behind (value.Number k) calm = tt
  value_behind (value.Quoted t) calm = tt
  value_behind (value.Named x) calm = constant_found c x.at (find env x.text) (find_bound x.text)
      (none_at_site (use_rule AsConstant x.at (find env x.text)) calm)

  bound_behind : (own_ : Name) (v : SynValue) → w.bound_sites [] both_lists all_at env own_ v ≡ []
      → IsBehind (next_constant c) (named_value env v)
  bound_behind own_ (value.Number k) calm = tt
  bound_behind own_ (value.Quoted t) calm = tt
  bound_behind own_ (value.Named x) calm = constant_found c x.at (find env x.text) (find_bound x.text)
      (none_by_own_rule own_ x (use_rule AsConstant x.at (find env x.text))
      (none_at_site (own_rule own_ x (use_rule AsConstant x.at (find env x.text))) calm))

  -- ---- the definition of a type

  type_bound : (own_ t : Name) → all_at env (UsesIn own_ t AsKind) ≡ []
      → suc (kind_number (find env t.text)) ≤ next_kind c
  type_bound own_ t calm = kind_found c t.at (find env t.text) (find_bound t.text)
      (none_by_own_rule own_ t (use_rule AsKind t.at (find env t.text))
      (none_at_site (own_rule own_ t (use_rule AsKind t.at (find env t.text))) calm))

  before_join : (k : ℕ) (fs gs : List (List ℕ × ℕ)) → AreBefore k fs → AreBefore k gs → AreBefore k (fs ++ gs)
  before_join k [] gs x y = y
  before_join k (f ∷ fs) gs x y = (x.0, before_join k fs gs x.1 y)

  fields_before : (k j : ℕ) (xs : List Name) → suc j ≤ k → AreBefore k (fields_named j xs)
  fields_before k j [] l = tt
  fields_before k j (x ∷ xs) l = (l, fields_before k j xs l)

  groups_before : (own_ : Name) (before : List (List ℕ)) (gs : List SynGroup)
      → w.groups_sites [] both_lists all_at env own_ before gs ≡ [] → AreBefore (next_kind c) (groups_named env gs)
  groups_before own_ before [] calm = tt
  groups_before own_ before (g ∷ gs) calm =
      let later = w.groups_sites [] both_lists all_at env own_ (w.names_with_fields before g.names) gs in
      let one = none_in_parts (w.fields_sites [] both_lists all_at env before g.names)
      (both_lists (all_at env (UsesIn own_ g.kind AsKind)) later) calm in
      let two = none_in_parts (all_at env (UsesIn own_ g.kind AsKind)) later one.1 in
      let k = kind_number (find env g.kind.text) in
      before_join (next_kind c) (fields_named k g.names) (groups_named env gs)
      (fields_before (next_kind c) k g.names (type_bound own_ g.kind two.0))
      (groups_before own_ (w.names_with_fields before g.names) gs two.1)

  -- of earlier types, with bounds of earlier constants
  pub kind_behind : (own_ : Name) (d : SynKind) → w.kind_sites [] both_lists all_at env own_ d ≡ []
      → IsEarlier (next_kind c) (kind_named env d) × IsBoundBehind (next_constant c) (kind_named env d)
  kind_behind own_ (kinds.Alias t) calm = (type_bound own_ t calm, tt)
  kind_behind own_ (kinds.Enumeration xs) calm = (tt, tt)
  kind_behind own_ (kinds.Array lo hi t) calm =
      let one = none_in_parts (w.bound_sites [] both_lists all_at env own_ lo.value)
      (both_lists (w.bound_sites [] both_lists all_at env own_ hi.value) (all_at env (UsesIn own_ t AsKind))) calm in
      let two = none_in_parts (w.bound_sites [] both_lists all_at env own_ hi.value) (all_at env (UsesIn own_ t AsKind))
      one.1 in
      (type_bound own_ t two.1, (bound_behind own_ lo.value one.0, bound_behind own_ hi.value two.0))
  kind_behind own_ (kinds.Record gs) calm = (groups_before own_ [] gs calm, tt)
  kind_behind own_ (kinds.Channel ts) calm = (tt, tt)

  pub used_kind : (t : Name) → all_at env (Uses t AsKind) ≡ [] → suc (kind_number (find env t.text)) ≤ next_kind c
  used_kind t calm = kind_found c t.at (find env t.text) (find_bound t.text)
      (none_at_site (use_rule AsKind t.at (find env t.text)) calm)
