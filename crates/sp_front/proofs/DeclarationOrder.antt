-- What a program declares is of what it has declared before: constants are named behind their declarations, types and
-- variables are of types that have been declared.
use Rattle.std.proofs.Common.{◌≡◌, ap, subst, ℕ, suc, ◌+◌, ◌≤◌, List, [], ◌∷◌, ◌++◌, Option, Some, None, length, arith}
use Rattle.sp_tree.specs.declared.checked.Role.{Role}
use Rattle.sp_tree.specs.declared.checked.Role.TheVariants as role
use Rattle.sp_tree.specs.declared.meaning.Meaning.TheVariants as meaning
use Rattle.sp_tree.specs.declared.syntax.Name.{Name}
use Rattle.sp_tree.specs.NameFirst.{both_lists, all_at}
use Rattle.sp_tree.specs.Scopes as names
use Rattle.sp_tree.specs.Scopes.{Env, find}
use Rattle.sp_tree.specs.NameWalk as w
use Rattle.sp_tree.specs.NameWalk.{role_of}
use Rattle.sp_tree.specs.PlainNamed as n
use Rattle.sp_tree.specs.PlainSyntax.{Number, Quoted}
use Rattle.sp_tree.specs.PlainSyntax.{Variable}
use Rattle.sp_front.proofs.NoBreachInParts.{none_in_parts}
use Rattle.sp_tree.specs.declared.checked.Variable as checked
use Rattle.sp_tree.specs.declared.meaning.Sort.TheVariants as sort
use Rattle.sp_tree.specs.NameRules.{Declares}
use Rattle.sp_tree.specs.Scopes.{Local, inner_env, local_of_inner}
use Rattle.sp_tree.specs.NameWalk.{blocks_around}
use Rattle.sp_tree.specs.NamedTree.{indices}
use Rattle.sp_tree.specs.PlainSyntax.{Statement}
use Rattle.sp_front.proofs.DeclarationNumbers.{room_at, statement_adds}
use Rattle.sp_tree.specs.declared.meaning.Counts.{Counts}
use Rattle.sp_tree.specs.declared.syntax.SynFormal.{SynFormal}
use Rattle.sp_tree.specs.declared.syntax.SynKind.{SynKind}
use Rattle.sp_tree.specs.declared.syntax.SynKind.TheVariants as kinds
use Rattle.sp_tree.specs.NameRules.{Uses, AsKind}
use Rattle.sp_tree.specs.Scopes.{next_constant, next_kind, next_block}
use Rattle.sp_tree.specs.NameWalk.{formals_local, title_local, heading_local}
use Rattle.sp_tree.specs.NameWalk.{type_local, parts_local, part_local, block_meaning}
use Rattle.sp_tree.specs.NamedTree.{kind_number, variables_named, formals_named, answer_named, enumeration_constants}
use Rattle.sp_tree.specs.NamedTree.{constants_named, parts_named, part_named}
use Rattle.sp_tree.specs.PlainSyntax.{Part, Const, Kind, Var, Proc, Parts, NoPart, Declare}
use Rattle.sp_front.proofs.DeclarationNumbers.{declared_counts, answer_adds, parts_move, part_moves}
use Rattle.sp_tree.specs.NamedTree.{program_named}
use Rattle.sp_front.proofs.Blocks.{none_in_pieces, title_moves, formals_move}
use Rattle.sp_tree.specs.declared.named.NamedKind.{NamedKind}
use Rattle.sp_tree.specs.declared.named.NamedKindForm.{NamedKindForm}
use Rattle.sp_tree.specs.declared.named.NamedKindForm.TheVariants as form
use Rattle.sp_tree.specs.declared.named.NamedValue.{NamedValue}
use Rattle.sp_tree.specs.declared.named.NamedValue.TheVariants as given
use Rattle.sp_tree.specs.NameFirst.{broken_name_rules}
use Rattle.sp_tree.specs.Scopes.{empty_local, standard_scope}
use Rattle.sp_tree.specs.PlainSyntax as syntax
use Rattle.sp_tree.specs.NamedTree.{kind_named}
use Rattle.sp_tree.specs.declared.named.NamedConstant.{NamedConstant}
use Rattle.sp_tree.specs.declared.named.NamedConstant.TheVariants as constant
use Rattle.sp_front.specs.ConstantsDeclared.{IsBehind, IsBoundBehind, AreBoundsBehind, AreValuesBehind, AreBehind}
use Rattle.sp_front.specs.ConstantsDeclared.{AreEnumerated}
use Rattle.sp_front.specs.ConstantsDeclared.{HasOrdinalConstants}
use Rattle.sp_tree.specs.declared.checked.KindOf.{KindOf}
use Rattle.sp_types.specs.Tables.{env_of, numbers_of}
use Rattle.sp_front.specs.Earlier.{HaveTypes, AreEarlier}
use Rattle.sp_front.proofs.Variables.{each_join, names_each, indices_each}
use Rattle.sp_front.proofs.InScope.{AllBound, EachBound, UpTo, all_bound_more, answer_bound, block_bound}
use Rattle.sp_front.proofs.InScope.{declared_bound, each_behind, each_bound_more, formals_bound, kind_behind}
use Rattle.sp_front.proofs.InScope.{kind_bound, names_bound, used_kind, value_behind}

-- ---- lists of declarations

behind_join : (k : ℕ) (xs ys : List NamedConstant) → AreValuesBehind k xs → AreValuesBehind (k + length xs) ys
    → AreValuesBehind k (xs ++ ys)
behind_join k [] ys x y = subst (λ z. AreValuesBehind z ys) (let z : k + 0 ≡ k = omega arith in z) y
behind_join k (constant.Value c ∷ xs) ys x y = (
  x.0,
  behind_join (suc k) xs ys x.1 (subst (λ z. AreValuesBehind z ys)
      (let z : k + suc (length xs) ≡ suc k + length xs = omega arith in z) y),
)
behind_join k (constant.Enumerated j i ∷ xs) ys x y =
    behind_join (suc k) xs ys x (subst (λ z. AreValuesBehind z ys)
    (let z : k + suc (length xs) ≡ suc k + length xs = omega arith in z) y)

earlier_join : (k : ℕ) (xs ys : List NamedKind) → AreEarlier k xs → AreEarlier (k + length xs) ys
    → AreEarlier k (xs ++ ys)
earlier_join k [] ys x y = subst (λ z. AreEarlier z ys) (let z : k + 0 ≡ k = omega arith in z) y
earlier_join k (b ∷ xs) ys x y = (
  x.0,
  earlier_join (suc k) xs ys x.1
      (subst (λ z. AreEarlier z ys) (let z : k + suc (length xs) ≡ suc k + length xs = omega arith in z) y),
)

enumerated_behind : (k j i : ℕ) (xs : List Name) → AreValuesBehind k (enumeration_constants j i xs)
enumerated_behind k j i [] = tt
enumerated_behind k j i (x ∷ xs) = enumerated_behind (suc k) j (suc i) xs

constants_behind : (k j : ℕ) (d : SynKind) → AreValuesBehind k (constants_named j d)
constants_behind k j (kinds.Enumeration xs) = enumerated_behind k j 0 xs
constants_behind _ _ _ = tt

behind_more : (k j : ℕ) (v : NamedValue) → k ≤ j → IsBehind k v → IsBehind j v
behind_more k j (given.Number c) l h = tt
behind_more k j (given.Quoted t) l h = tt
behind_more k j (given.Constant c) l h = omega (arith, l, h)

bounds_more : (k j : ℕ) (ks : List NamedKind) → k ≤ j → AreBoundsBehind k ks → AreBoundsBehind j ks
bounds_more k j [] l h = tt
bounds_more k j (d ∷ ks) l h = (one d.form h.0, bounds_more k j ks l h.1)
  where
    one : (f : NamedKindForm) → IsBoundBehind k f → IsBoundBehind j f
    one form.Integer h = tt
    one form.Boolean h = tt
    one form.Char h = tt
    one (form.Alias i) h = tt
    one (form.Enumeration i) h = tt
    one (form.Array a b e) h = (behind_more k j a.value l h.0, behind_more k j b.value l h.1)
    one (form.Fields fs) h = tt
    one (form.Channel cs) h = tt

bounds_join : (k : ℕ) (xs ys : List NamedKind) → AreBoundsBehind k xs → AreBoundsBehind k ys
    → AreBoundsBehind k (xs ++ ys)
bounds_join k [] ys x y = y
bounds_join k (d ∷ xs) ys x y = (x.0, bounds_join k xs ys x.1 y)

typed_more : (k j : ℕ) (us : List checked.Variable) → k ≤ j → HaveTypes k us → HaveTypes j us
typed_more k j [] l h = tt
typed_more k j (u ∷ us) l h = (let x = h.0 in omega (arith, l, x), typed_more k j us l h.1)

typed_join : (k : ℕ) (us vs : List checked.Variable) → HaveTypes k us → HaveTypes k vs → HaveTypes k (us ++ vs)
typed_join k us vs x y = each_join (λ (u : checked.Variable). suc u.kind ≤ k) us vs x y

names_typed : (k b j : ℕ) (r : Role) (xs : List Name) → suc j ≤ k → HaveTypes k (variables_named b r j xs)
names_typed k b j r xs l = names_each (λ (u : checked.Variable). suc u.kind ≤ k) b r j xs (λ x. l)

indices_typed : (k : ℕ) → 1 ≤ k → (block : ℕ) (s : Statement) → HaveTypes k (indices block s)
indices_typed k some block s = indices_each (λ (u : checked.Variable). suc u.kind ≤ k) block (λ x. some) s

module _ (c : Counts) (env : Env) (out : EachBound c env.around) (here : AllBound c env.local.here) (b : ℕ) where
  formals_typed : (fs : List SynFormal) → w.heading_sites [] both_lists all_at env fs ≡ []
      → HaveTypes (next_kind c) (formals_named env b fs)
  formals_typed [] calm = tt
  formals_typed (f ∷ fs) calm =
      let two = none_in_parts (all_at env (Uses f.kind AsKind)) (w.heading_sites [] both_lists all_at env fs) calm in
      let k = kind_number (find env f.kind.text) in
      typed_join (next_kind c) (variables_named b (role_of f.by_reference) k f.names) (formals_named env b fs)
      (names_typed (next_kind c) b k (role_of f.by_reference) f.names (used_kind c env out here f.kind two.0))
      (formals_typed fs two.1)

  answer_typed : (x : Name) (answer : Option Name) → w.answer_sites [] both_lists all_at env answer ≡ []
      → HaveTypes (next_kind c) (answer_named env b x answer)
  answer_typed x None calm = tt
  answer_typed x (Some t) calm = (used_kind c env out here t calm, tt)

-- ---- parts

-- what is declared here, between these counts, and what is in scope behind it
record Behind (from : Counts) (l : Local) (p : n.Program) : Type 0 where
  scope : AllBound l.counts l.here
  values : AreValuesBehind (next_constant from) p.constants
  bounds : AreBoundsBehind (next_constant l.counts) p.kinds
  types : AreEarlier (next_kind from) p.kinds
  variables : HaveTypes (next_kind l.counts) p.variables

mutual
  parts_declare : (around : List names.Scope) (l : Local) (ps : Parts) → EachBound l.counts around
      → AllBound l.counts l.here → w.parts_sites [] both_lists all_at around l ps ≡ []
      → Behind l.counts (parts_local l ps) (parts_named around l ps)
  parts_declare around l NoPart out here calm =
      record { scope = here; values = tt; bounds = tt; types = tt; variables = tt }
  parts_declare around l (Declare q rest) out here calm =
      let next = part_local l q in
      let last = parts_local next rest in
      let two = none_in_parts (w.part_sites [] both_lists all_at around l q)
      (w.parts_sites [] both_lists all_at around next rest) calm in
      let a = part_named around l q in
      let b = parts_named around next rest in
      let m1 = part_moves around l q two.0 in
      let m2 = parts_move around next rest two.1 in
      let c1 = m1.constants_are in
      let k1 = m1.kinds_are in
      let c2 = m2.constants_are in
      let k2 = m2.kinds_are in
      let r = part_declares around l q out here two.0 in
      let t = parts_declare around next rest
      (each_bound_more l.counts next.counts around (omega (arith, c1), omega (arith, k1)) out) r.scope two.1 in
      record {
        scope = t.scope;
        values = behind_join (next_constant l.counts) a.constants b.constants r.values
            (subst (λ z. AreValuesBehind z b.constants) c1 t.values);
        bounds = bounds_join (next_constant last.counts) a.kinds b.kinds
            (bounds_more (next_constant next.counts) (next_constant last.counts) a.kinds (omega (arith, c2)) r.bounds)
            t.bounds;
        types = earlier_join (next_kind l.counts) a.kinds b.kinds r.types
            (subst (λ z. AreEarlier z b.kinds) k1 t.types);
        variables = typed_join (next_kind last.counts) a.variables b.variables
            (typed_more (next_kind next.counts) (next_kind last.counts) a.variables (omega (arith, k2)) r.variables)
            t.variables;
      }

  part_declares : (around : List names.Scope) (l : Local) (q : Part) → EachBound l.counts around
      → AllBound l.counts l.here → w.part_sites [] both_lists all_at around l q ≡ []
      → Behind l.counts (part_local l q) (part_named around l q)
  part_declares around l (Const x c) out here calm =
      let next = (part_local l (Const x c)).counts in
      let moved = part_moves around l (Const x c) calm in
      let c1 = moved.constants_are in
      let k1 = moved.kinds_are in
      let two = none_in_parts (all_at (inner_env around l) (Declares x sort.Constant))
      (w.value_sites [] both_lists all_at (inner_env around l) c.value) calm in
      record {
        scope = declared_bound next l x.text sort.Constant (meaning.Constant (next_constant l.counts))
            (all_bound_more l.counts next l.here (omega (arith, c1), omega (arith, k1)) here) (omega (arith, c1));
        values = (value_behind l.counts (inner_env around l) out here c.value two.1, tt);
        bounds = tt;
        types = tt;
        variables = tt;
      }
  part_declares around l (Kind x d) out here calm =
      let y = meaning.Kind (next_kind l.counts) in
      let next = (part_local l (Kind x d)).counts in
      let moved = part_moves around l (Kind x d) calm in
      let c1 = moved.constants_are in
      let k1 = moved.kinds_are in
      let one = none_in_parts (all_at (inner_env around l) (Declares x sort.Kind))
      (both_lists (w.kind_sites [] both_lists all_at (inner_env around l) x d)
      (w.kind_constants_sites [] both_lists all_at around (type_local l x) d)) calm in
      let two = none_in_parts (w.kind_sites [] both_lists all_at (inner_env around l) x d)
      (w.kind_constants_sites [] both_lists all_at around (type_local l x) d) one.1 in
      let te : next_constant (type_local l x).counts ≡ next_constant l.counts =
      ap next_constant (declared_counts l x.text sort.Kind y (room_at (inner_env around l) x sort.Kind one.0)) in
      let few : next_constant (type_local l x).counts + length (constants_named (next_kind l.counts) d)
      ≤ next_constant next = omega (arith, c1, te) in
      let of_kind = kind_behind l.counts (inner_env around l) out here x d two.0 in
      record {
        scope = kind_bound around next (type_local l x) d two.1 (next_kind l.counts) few
            (declared_bound next l x.text sort.Kind y
            (all_bound_more l.counts next l.here (omega (arith, c1), omega (arith, k1)) here) (omega (arith, k1)));
        values = constants_behind (next_constant l.counts) (next_kind l.counts) d;
        bounds = bounds_more (next_constant l.counts) (next_constant next)
            (record { at = x.at; form = kind_named (inner_env around l) d } ∷ []) (omega (arith, c1)) (of_kind.1, tt);
        types = (of_kind.0, tt);
        variables = tt;
      }
  part_declares around l (Var xs t) out here calm =
      let next = (part_local l (Var xs t)).counts in
      let moved = part_moves around l (Var xs t) calm in
      let c1 = moved.constants_are in
      let k1 = moved.kinds_are in
      let two = none_in_parts (all_at (inner_env around l) (Uses t AsKind))
      (w.names_sites [] both_lists all_at around role.Local l xs) calm in
      let u = used_kind l.counts (inner_env around l) out here t two.0 in
      record {
        scope = names_bound next role.Local l xs
            (all_bound_more l.counts next l.here (omega (arith, c1), omega (arith, k1)) here);
        values = tt;
        bounds = tt;
        types = tt;
        variables = names_typed (next_kind next) l.block (kind_number (find (inner_env around l) t.text)) role.Local xs
            (omega (arith, k1, u));
      }
  part_declares around l (Proc x fs answer parts body) out here calm =
      let next = (part_local l (Proc x fs answer parts body)).counts in
      let moved = part_moves around l (Proc x fs answer parts body) calm in
      let c1 = moved.constants_are in
      let k1 = moved.kinds_are in
      let f = next_block l.counts in
      let env = inner_env around l in
      let title = title_local l x fs answer in
      let in_ = blocks_around around title in
      let head = heading_local l x fs answer in
      let formals = formals_local (local_of_inner f 0 title) fs in
      let (_, _, parts_calm, body_calm) = none_in_pieces around l x fs answer parts body calm in
      let m1 = title_moves around l x fs answer parts body calm in
      let m2 = formals_move around l x fs answer parts body calm in
      let m3 = answer_adds formals env f x answer in
      let m4 = statement_adds head.block in_ (parts_local head parts) body body_calm in
      let t0 = m1.constants_are in
      let f0 = m2.constants_are in
      let a0 = m3.constants_are in
      let p0 = m4.constants_are in
      let t1 = m1.kinds_are in
      let f1 = m2.kinds_are in
      let a1 = m3.kinds_are in
      let p1 = m4.kinds_are in
      let constants_at : next_constant head.counts ≡ next_constant l.counts = omega (arith, t0, f0, a0) in
      let kinds_at : next_kind head.counts ≡ next_kind l.counts = omega (arith, t1, f1, a1) in
      let same : UpTo l.counts head.counts = (omega (arith, constants_at), omega (arith, kinds_at)) in
      let up : UpTo l.counts next = (omega (arith, c1), omega (arith, k1)) in
      let titled = λ (z : Counts) (le : UpTo l.counts z). declared_bound z l x.text sort.Block
      (block_meaning l fs answer) (all_bound_more l.counts z l.here le here) (block_bound z l fs answer) in
      let inner = parts_declare in_ head parts
      (each_behind head.counts around title.here (each_bound_more l.counts head.counts around same out)
      (titled head.counts same)) (answer_bound head.counts formals answer
      (formals_bound head.counts (local_of_inner f 0 title) fs tt)) parts_calm in
      let one = none_in_parts (w.title_sites [] both_lists all_at env x fs answer)
      (both_lists (w.formals_sites [] both_lists all_at in_ (local_of_inner f 0 title) fs)
      (both_lists (w.parts_sites [] both_lists all_at in_ head parts)
      (w.statement_sites [] both_lists all_at in_ (parts_local head parts) body))) calm in
      let two = none_in_parts (all_at env (Declares x sort.Block))
      (both_lists (w.heading_sites [] both_lists all_at env fs) (w.answer_sites [] both_lists all_at env answer))
      one.0 in
      let three = none_in_parts (w.heading_sites [] both_lists all_at env fs)
      (w.answer_sites [] both_lists all_at env answer)
      two.1 in
      let k = next_kind next in
      let last = (parts_local head parts).counts in
      let av = formals_named env f fs in
      let bv = answer_named env f x answer in
      let iv = (parts_named in_ head parts).variables in
      let dv = indices head.block body in
      record {
        scope = titled next up;
        values = subst (λ z. AreValuesBehind z (parts_named in_ head parts).constants) constants_at inner.values;
        bounds = bounds_more (next_constant last) (next_constant next) (parts_named in_ head parts).kinds
            (omega (arith, p0)) inner.bounds;
        types = subst (λ z. AreEarlier z (parts_named in_ head parts).kinds) kinds_at inner.types;
        variables = typed_join k av (bv ++ (iv ++ dv))
            (typed_more (next_kind l.counts) k av up.1 (formals_typed l.counts env out here f fs three.0))
            (typed_join k bv (iv ++ dv) (typed_more (next_kind l.counts) k bv up.1
            (answer_typed l.counts env out here f x answer three.1))
            (typed_join k iv dv (typed_more (next_kind last) k iv (omega (arith, p1)) inner.variables)
            (indices_typed k (omega arith) head.block body)));
      }

-- ---- the program

both_behind : (kinds2 : List KindOf) (ns : List ℕ) (j : ℕ) (cs : List NamedConstant) → AreValuesBehind j cs
    → AreEnumerated kinds2 ns cs → AreBehind kinds2 ns j cs
both_behind kinds2 ns j [] v e = tt
both_behind kinds2 ns j (constant.Value c ∷ cs) v e = (v.0, both_behind kinds2 ns (suc j) cs v.1 e)
both_behind kinds2 ns j (constant.Enumerated k i ∷ cs) v e = (e.0, both_behind kinds2 ns (suc j) cs v e.1)

module _ (s : syntax.Program) (calm : broken_name_rules s ≡ []) where
  abbrev n_ : n.Program
  n_ = program_named s

  abbrev inner_ : n.Program
  inner_ = parts_named (standard_scope ∷ []) empty_local s.block.parts

  abbrev last_ : Counts
  last_ = (parts_local empty_local s.block.parts).counts

  none_in_block : w.parts_sites [] both_lists all_at (standard_scope ∷ []) empty_local s.block.parts ≡ []
  none_in_block =
      let parts = w.parts_sites [] both_lists all_at (standard_scope ∷ []) empty_local s.block.parts in
      let body = w.statement_sites [] both_lists all_at (standard_scope ∷ []) (parts_local empty_local s.block.parts)
      s.block.body in
      (none_in_parts parts body (none_in_parts (w.files_sites [] both_lists all_at [] s.heading) (both_lists parts body)
      calm).1).0

  standard_bound : AllBound empty_local.counts standard_scope
  standard_bound = (
    omega arith,
    (
      omega arith,
      (
        omega arith,
        (
          omega arith,
          (
            omega arith,
            (
              omega arith,
              (
                tt,
                (
                  tt,
                  (
                    tt,
                    (
                      tt,
                      (
                        tt,
                        (tt, (tt, (tt, (tt, (tt, (tt, (tt, (tt, (tt, (tt, (tt, tt))))))))))),
                      ),
                    ),
                  ),
                ),
              ),
            ),
          ),
        ),
      ),
    ),
  )

  declares : Behind empty_local.counts (parts_local empty_local s.block.parts) inner_
  declares = parts_declare (standard_scope ∷ []) empty_local s.block.parts (standard_bound, tt) tt none_in_block

  -- types are of earlier types
  pub program_earlier : AreEarlier 0 n_.kinds
  program_earlier = (tt, (tt, (tt, declares.types)))

  -- constants are named behind their declarations
  pub program_behind : HasOrdinalConstants n_ → AreBehind (env_of n_).kinds (numbers_of n_) 0 n_.constants
      × AreBoundsBehind (length n_.constants) n_.kinds
  program_behind given_ =
      let e = (parts_move (standard_scope ∷ []) empty_local s.block.parts none_in_block).constants_are in (
        both_behind (env_of n_).kinds (numbers_of n_) 0 n_.constants (tt, declares.values) given_,
        (
          tt,
          (
            tt,
            (
              tt,
              bounds_more (next_constant last_) (length n_.constants) inner_.kinds (omega (arith, e))
                  declares.bounds,
            ),
          ),
        ),
      )

  -- variables are of declared types
  pub program_typed : HaveTypes (length n_.kinds) n_.variables
  program_typed =
      let e = (parts_move (standard_scope ∷ []) empty_local s.block.parts none_in_block).kinds_are in
      let k = length n_.kinds in (
        omega arith,
        (
          omega arith,
          typed_join k inner_.variables (indices 0 s.block.body)
              (typed_more (next_kind last_) k inner_.variables (omega (arith, e)) declares.variables)
              (indices_typed k (omega arith) 0 s.block.body),
        ),
      )
