-- Where no rule of types is broken, and each name is of a visible declaration, an expression is fine.
use Rattle.std.proofs.Common.{◌≡◌, ◌⊎◌, inl, inr, refl, ap, sym, ◌∙◌, subst, ℕ, suc, ◌+◌, List, [], ◌∷◌, Option, Some}
use Rattle.std.proofs.Common.{None, Bool, true, false, if◌then◌else◌, length, slice_get, arith}
use Rattle.std.specs.Prelude.{ℤ, pos, not, nat_eq, ◌||◌}
use Rattle.std.specs.Str.{bytes_eq}
use Rattle.std.proofs.lemmas.Bool.{not-false, or_parts}
use Rattle.std.proofs.lemmas.Option.{same_Some}
use Rattle.sp_base.specs.declared.place.Place.{Place}
use Rattle.sp_base.specs.declared.rule.Rule.TheVariants as rule
use Rattle.sp_tree.specs.declared.checked.KindOf.{KindOf}
use Rattle.sp_tree.specs.declared.checked.KindOf.TheVariants as kind
use Rattle.sp_tree.specs.declared.checked.Role.{Role}
use Rattle.sp_tree.specs.declared.checked.Role.TheVariants as role
use Rattle.sp_tree.specs.declared.operators.UnaryOp.{UnaryOp}
use Rattle.sp_tree.specs.declared.operators.UnaryOp.TheVariants as unary
use Rattle.sp_tree.specs.declared.operators.BinaryOp.{BinaryOp}
use Rattle.sp_tree.specs.declared.operators.BinaryOp.TheVariants as binary
use Rattle.sp_tree.specs.declared.operators.StandardFn.{StandardFn}
use Rattle.sp_tree.specs.declared.operators.StandardFn.TheVariants as fn
use Rattle.sp_tree.specs.PhaseResults.{refusal_if, refusal_list}
use Rattle.sp_tree.specs.NameFirst.{both_lists}
use Rattle.sp_tree.specs.NameRules.{function_takes}
use Rattle.sp_tree.specs.Plain.{Program, Variable, Block, Stmt, Expr, ExprForm, Actuals}
use Rattle.sp_tree.specs.Plain as plain
use Rattle.sp_tree.specs.PlainNamed as n
use Rattle.sp_code.specs.Scopes.{Sort, Ordinals, Channels, Many, NoSort, kind_of, Scope, sort, sort_by}
use Rattle.sp_code.specs.Places.{after_value, after_var, after_actuals}
use Rattle.sp_types.specs.FieldTable.{field_from}
use Rattle.sp_types.specs.Tables.{Env, table_entry, variable_kind, formals_of, formals_in, answer_in, answer_kind}
use Rattle.sp_types.specs.Tables.{kind_of_variable, ordinal_kind, number_or, char_of}
use Rattle.sp_types.specs.TypeRules.{is_ordinal, is_channel, ordinal, channel, unless, differ, unary_takes}
use Rattle.sp_types.specs.TypeRules.{binary_takes, binary_gives, unary_rule, left_rule, right_rule, index_rule}
use Rattle.sp_types.specs.TypeRules.{index_kind_rule, index_of_rule, field_rule, field_found, field_in, actual_rule}
use Rattle.sp_types.specs.TypeRules.{standard_takes, standard_rule, text_rule}
use Rattle.sp_types.specs.Kinds.{expression_kind, form_kind, selected, selected_kind, selection, element, element_in}
use Rattle.sp_types.specs.Kinds.{element_of, field, field_kind, standard_gives, if_ordinal, parameter_kind}
use Rattle.sp_types.specs.TypeWalk.{expression_sites, form_sites, variable_sites, selectors_sites, actuals_sites}
use Rattle.sp_types.specs.TypeWalk.{standard_sites, place, is_variable, count}
use Rattle.sp_types.specs.CheckedTree.{or_zero, checked_expression, checked_form, checked_variable, checked_selectors}
use Rattle.sp_types.specs.CheckedTree.{checked_actuals, checked_arguments, numbered_field, field_number}
use Rattle.sp_types.specs.CheckedTree.{actual_for_role}
use Rattle.sp_types.specs.CheckedTree.{variable_actual}
use Rattle.sp_tree.specs.PlainChecked as c
use Rattle.sp_tree.specs.CheckedOf as of_
use Rattle.sp_tree.specs.Bare.{bare_expression, bare_form, bare_variable, bare_selectors, bare_actuals}
use Rattle.sp_front.specs.MatchingTables.{IsKind, AreFormals, TablesMatch, HasIndices}
use Rattle.sp_code.specs.CodeOfTree.{ValueAt, FormAt, PlaceAt, VarAt, VarRole, SelectedAt, ActualsAt, ReadAt, UnaryAt}
use Rattle.sp_code.specs.CodeOfTree.{Operands, NoIndex, IsTarget, CallAt, Around, AnyInstr, AnyTable, AnyText}
use Rattle.sp_front.specs.ScopeFacts.{SeenIn, SeenRole, AimedExpression, CallIn, AroundIn, InExpression, InForm}
use Rattle.sp_front.specs.ScopeFacts.{InVariable}
use Rattle.sp_front.specs.ScopeFacts.{InSelectors, InActuals, InArguments}
use Rattle.sp_front.proofs.NoBreachInParts.{none_in_parts, none_at_site, none_with_site, none_of_earlier, not_if_none}
use Rattle.sp_front.proofs.NoBreachInParts.{takes_if_none, same_if_none}
use Rattle.sp_front.proofs.NoBreachInParts.{nat_eq_is}

pub ordinal_sort : (o : Option KindOf) → is_ordinal o ≡ true → sort_by o ≡ Ordinals
ordinal_sort None e = absurd (cc e)
ordinal_sort (Some kind.Integer) e = refl
ordinal_sort (Some kind.Boolean) e = refl
ordinal_sort (Some kind.Char) e = refl
ordinal_sort (Some (kind.Enumeration m)) e = refl
ordinal_sort (Some (kind.Array low high index element)) e = absurd (cc e)
ordinal_sort (Some (kind.Fields fs)) e = absurd (cc e)
ordinal_sort (Some (kind.Channel ks)) e = absurd (cc e)

pub channel_sort : (o : Option KindOf) → is_channel o ≡ true → sort_by o ≡ Channels
channel_sort None e = absurd (cc e)
channel_sort (Some kind.Integer) e = absurd (cc e)
channel_sort (Some kind.Boolean) e = absurd (cc e)
channel_sort (Some kind.Char) e = absurd (cc e)
channel_sort (Some (kind.Enumeration m)) e = absurd (cc e)
channel_sort (Some (kind.Array low high index element)) e = absurd (cc e)
channel_sort (Some (kind.Fields fs)) e = absurd (cc e)
channel_sort (Some (kind.Channel ks)) e = refl

pub ordinal_there : (o : Option KindOf) → is_ordinal o ≡ true → (t : KindOf) × (o ≡ Some t)
ordinal_there None e = absurd (cc e)
ordinal_there (Some t) e = (t, refl)

module _ (p : Program) (m : ℕ) (moves shares : Stmt → List ℕ) (callable : ℕ → Type 0) (env : Env)
    (knows : TablesMatch p m env)
    (sc : List Scope) (indices : HasIndices p env sc) where
  -- nothing is said of the code
  abbrev Value : ℕ → Expr → Type 0
  Value q e = ValueAt p moves shares AnyInstr AnyTable AnyText callable sc q e

  abbrev Forms : ℕ → ℕ → ExprForm → Type 0
  Forms q k form = FormAt p moves shares AnyInstr AnyTable AnyText callable sc q k form

  abbrev Selects : ℕ → plain.Selectors → ℕ → ℕ → Type 0
  Selects q ss k1 k2 = SelectedAt p moves shares AnyInstr AnyTable AnyText callable sc q ss k1 k2

  abbrev ActualsInScope : ℕ → Actuals → List ℕ → Type 0
  ActualsInScope q args xs = ActualsAt p moves shares AnyInstr AnyTable AnyText callable sc q args xs

  abbrev Place_ : ℕ → plain.Var → ℕ → Type 0
  Place_ q v k = PlaceAt p moves shares AnyInstr AnyTable AnyText callable sc q v k

  -- a type, and what is said of a form of it at every place
  abbrev pub FormIs : Option ℕ → ExprForm → Type 0
  FormIs o form = (k : ℕ) × (o ≡ Some k) × IsKind p k × ((q : ℕ) → Forms q k form)

  abbrev pub ValueIs : Option ℕ → Expr → Type 0
  ValueIs o e = (k : ℕ) × (o ≡ Some k) × IsKind p k × (kind_of e ≡ k) × ((q : ℕ) → Value q e)

  kind_same : (k : ℕ) → slice_get env.kinds k ≡ slice_get p.kinds k
  kind_same k = ap (λ ks. slice_get ks k) knows.kinds

  pub ordinal_is : (k : ℕ) → ordinal env k ≡ true → sort p k ≡ Ordinals
  ordinal_is k e = ordinal_sort (slice_get p.kinds k) (subst (λ o. is_ordinal o ≡ true) (kind_same k) e)

  pub channel_is : (k : ℕ) → channel env k ≡ true → sort p k ≡ Channels
  channel_is k e = channel_sort (slice_get p.kinds k) (subst (λ o. is_channel o ≡ true) (kind_same k) e)

  pub integer_is : (k : ℕ) → k ≡ 0 → sort p k ≡ Ordinals
  integer_is k e = ap sort_by (ap (slice_get p.kinds) e ∙ knows.integer)

  pub boolean_is : (k : ℕ) → k ≡ 1 → sort p k ≡ Ordinals
  boolean_is k e = ap sort_by (ap (slice_get p.kinds) e ∙ knows.boolean)

  -- a variable is read
  read_at : (q k : ℕ) (t : KindOf) → slice_get p.kinds k ≡ Some t
      → ReadAt p moves shares AnyInstr AnyTable AnyText callable q k (sort p k)
  read_at q k t e = go (sort p k) (no_sort (slice_get p.kinds k) e)
    where
      no_sort : (o : Option KindOf) → o ≡ Some t → sort_by o ≡ NoSort → ⊥
      no_sort None e s = cc e
      no_sort (Some kind.Integer) e s = cc s
      no_sort (Some kind.Boolean) e s = cc s
      no_sort (Some kind.Char) e s = cc s
      no_sort (Some (kind.Enumeration m)) e s = cc s
      no_sort (Some (kind.Array low high index element)) e s = cc s
      no_sort (Some (kind.Fields fs)) e s = cc s
      no_sort (Some (kind.Channel ks)) e s = cc s

      go : (s : Sort) → (s ≡ NoSort → ⊥) → ReadAt p moves shares AnyInstr AnyTable AnyText callable q k s
      go Ordinals d = tt
      go Channels d = tt
      go Many d = tt
      go NoSort d = d refl

  unary_sort : (op : UnaryOp) → sort p (unary_takes op) ≡ Ordinals
  unary_sort unary.Plus = integer_is 0 refl
  unary_sort unary.Minus = integer_is 0 refl
  unary_sort unary.Not = boolean_is 1 refl

  unary_kind : (op : UnaryOp) → IsKind p (unary_takes op)
  unary_kind unary.Plus = (kind.Integer, knows.integer)
  unary_kind unary.Minus = (kind.Integer, knows.integer)
  unary_kind unary.Not = (kind.Boolean, knows.boolean)

  unary_at : (q : ℕ) (op : UnaryOp) → UnaryAt p moves shares AnyInstr AnyTable AnyText callable q op
  unary_at q unary.Plus = tt
  unary_at q unary.Minus = tt
  unary_at q unary.Not = tt

  binary_sort : (op : BinaryOp) → (sort p (binary_gives op) ≡ Ordinals) × IsKind p (binary_gives op)
  binary_sort binary.Add = (integer_is 0 refl, (kind.Integer, knows.integer))
  binary_sort binary.Sub = (integer_is 0 refl, (kind.Integer, knows.integer))
  binary_sort binary.Mul = (integer_is 0 refl, (kind.Integer, knows.integer))
  binary_sort binary.Div = (integer_is 0 refl, (kind.Integer, knows.integer))
  binary_sort binary.Mod = (integer_is 0 refl, (kind.Integer, knows.integer))
  binary_sort _ = (boolean_is 1 refl, (kind.Boolean, knows.boolean))

  operands : (op : BinaryOp) (k : ℕ) → binary_takes env op k ≡ true → Operands op (sort p k) (sort p k)
  operands binary.Eq k e = either (ordinal env k) refl
    where
      either : (b : Bool) → ordinal env k ≡ b → Operands binary.Eq (sort p k) (sort p k)
      either true o = subst (λ s. Operands binary.Eq s s) (sym (ordinal_is k o)) tt
      either false o = subst (λ s. Operands binary.Eq s s)
          (sym (channel_is k (subst (λ b. (b || channel env k) ≡ true) o e))) tt
  operands binary.Ne k e = either (ordinal env k) refl
    where
      either : (b : Bool) → ordinal env k ≡ b → Operands binary.Ne (sort p k) (sort p k)
      either true o = subst (λ s. Operands binary.Ne s s) (sym (ordinal_is k o)) tt
      either false o = subst (λ s. Operands binary.Ne s s)
          (sym (channel_is k (subst (λ b. (b || channel env k) ≡ true) o e))) tt
  operands binary.Lt k e = subst (λ s. Operands binary.Lt s s) (sym (ordinal_is k e)) tt
  operands binary.Le k e = subst (λ s. Operands binary.Le s s) (sym (ordinal_is k e)) tt
  operands binary.Gt k e = subst (λ s. Operands binary.Gt s s) (sym (ordinal_is k e)) tt
  operands binary.Ge k e = subst (λ s. Operands binary.Ge s s) (sym (ordinal_is k e)) tt
  operands binary.Add k e = subst (λ s. Operands binary.Add s s) (sym (integer_is k (nat_eq_is k 0 e))) tt
  operands binary.Sub k e = subst (λ s. Operands binary.Sub s s) (sym (integer_is k (nat_eq_is k 0 e))) tt
  operands binary.Or k e = subst (λ s. Operands binary.Or s s) (sym (boolean_is k (nat_eq_is k 1 e))) tt
  operands binary.Mul k e = subst (λ s. Operands binary.Mul s s) (sym (integer_is k (nat_eq_is k 0 e))) tt
  operands binary.Div k e = subst (λ s. Operands binary.Div s s) (sym (integer_is k (nat_eq_is k 0 e))) tt
  operands binary.Mod k e = subst (λ s. Operands binary.Mod s s) (sym (integer_is k (nat_eq_is k 0 e))) tt
  operands binary.And k e = subst (λ s. Operands binary.And s s) (sym (boolean_is k (nat_eq_is k 1 e))) tt

  -- an entire variable: its type is known, and it stands where it is seen
  abbrev pub EntireIs : ℕ → Type 0
  EntireIs x = (k : ℕ) × (variable_kind env x ≡ Some k) × IsKind p k
      × ((q : ℕ) → VarAt p moves shares AnyInstr AnyTable AnyText callable sc q x k)

  pub entire_fine : (x : ℕ) → SeenIn p m sc x → EntireIs x
  entire_fine x (v, at, seen) = go v.role refl seen
    where
      known : (r : Role) → v.role ≡ r → NoIndex r
          → ((q : ℕ) → VarRole p moves shares AnyInstr AnyTable AnyText callable sc q x v r) → EntireIs x
      known r e d h = let w = knows.variables x v at (subst NoIndex (sym e) d) in (
        v.kind,
        w.0,
        w.1,
        λ q. (
          v,
          at,
          refl,
          subst (λ r. VarRole p moves shares AnyInstr AnyTable AnyText callable sc q x v r) (sym e) (h q),
        ),
      )

      go : (r : Role) → v.role ≡ r → SeenRole p m sc x v r → EntireIs x
      go role.Console e s = absurd s
      go role.Local e (up, l) = known role.Local e tt (λ q. (up, l, tt))
      go role.Value e (up, l) = known role.Value e tt (λ q. (up, l, tt))
      go role.Reference e (up, l) = known role.Reference e tt (λ q. (up, l, tt))
      go role.Answer e (up, l) = known role.Answer e tt (λ q. (up, l, tt))
      go role.Index e (up, l) = let w = indices x up v l at in (
        v.kind,
        w.0,
        ordinal_there (slice_get p.kinds v.kind) w.1,
        λ q. (
          v,
          at,
          refl,
          subst (λ r. VarRole p moves shares AnyInstr AnyTable AnyText callable sc q x v r) (sym e)
              (up, l, tt, ordinal_sort (slice_get p.kinds v.kind) w.1),
        ),
      )

  around_at : (f up : ℕ) (o : Option ℕ) → AroundIn p m sc f o up
      → Around p moves shares AnyInstr AnyTable AnyText callable sc f o up
  around_at f up None a = a
  around_at f up (Some b) a = a

  pub call_at : (f : ℕ) (b : Block) → CallIn p m sc f b → (q : ℕ)
      → CallAt p moves shares AnyInstr AnyTable AnyText callable sc q f b
  call_at f b (up, at, around) q = (up, at, around_at f up b.parent around, tt)

  -- a field under its name stands at its number
  field_at : (m : ℕ) (name : List ℕ) (fs : List (List ℕ × ℕ)) (f : ℕ × ℕ) → field_from m name fs ≡ Some f → (j : ℕ)
      × (f.0 ≡ m + j) × ((x : List ℕ) × (slice_get fs j ≡ Some (x, f.1)))
  field_at m name [] f e = absurd (cc e)
  field_at m name (g ∷ fs) f e = go (field_at (m + 1) name fs f) (bytes_eq name g.0) e
    where
      go : (field_from (m + 1) name fs ≡ Some f → (j : ℕ) × (f.0 ≡ (m + 1) + j)
          × ((x : List ℕ) × (slice_get fs j ≡ Some (x, f.1)))) → (b : Bool)
          → (if b then Some (m, g.1) else field_from (m + 1) name fs) ≡ Some f
          → (j : ℕ) × (f.0 ≡ m + j) × ((x : List ℕ) × (slice_get (g ∷ fs) j ≡ Some (x, f.1)))
      go next true e = let s = same_Some (m, g.1) f e in (
        0,
        subst (λ (z : ℕ × ℕ). z.0 ≡ m + 0) s (let z : m ≡ m + 0 = omega arith in z),
        (g.0, subst (λ (z : ℕ × ℕ). Some g ≡ Some (g.0, z.1)) s refl),
      )
      go next false e = let r = next e in (suc r.0, (let w = r.1 in omega (arith, w)), r.2)

  -- what a standard function gives
  standard_one : (f : StandardFn) (ka : ℕ) (o : Option ℕ) (a : Expr) → o ≡ Some ka → IsKind p ka
      → standard_takes env f ka ≡ true → kind_of a ≡ ka → ((q : ℕ) → Value q a)
      → FormIs (standard_gives env f o) (plain.Standard f a)
  standard_one fn.Abs ka o a oe ik takes ke h = (
    0,
    refl,
    (kind.Integer, knows.integer),
    λ q. (
      kind.Integer,
      knows.integer,
      h q,
      integer_is (kind_of a) (ke ∙ nat_eq_is ka 0 takes),
      integer_is 0 refl,
      tt,
    ),
  )
  standard_one fn.Sqr ka o a oe ik takes ke h = (
    0,
    refl,
    (kind.Integer, knows.integer),
    λ q. (
      kind.Integer,
      knows.integer,
      h q,
      integer_is (kind_of a) (ke ∙ nat_eq_is ka 0 takes),
      integer_is 0 refl,
      tt,
    ),
  )
  standard_one fn.Odd ka o a oe ik takes ke h = (
    1,
    refl,
    (kind.Boolean, knows.boolean),
    λ q. (
      kind.Boolean,
      knows.boolean,
      h q,
      integer_is (kind_of a) (ke ∙ nat_eq_is ka 0 takes),
      boolean_is 1 refl,
      tt,
    ),
  )
  standard_one fn.Chr ka o a oe ik takes ke h = (
    2,
    refl,
    (kind.Char, knows.char),
    λ q.
        (kind.Char, knows.char, h q, integer_is (kind_of a) (ke ∙ nat_eq_is ka 0 takes), ap sort_by knows.char, tt),
  )
  standard_one fn.Ord ka o a oe ik takes ke h = (
    0,
    refl,
    (kind.Integer, knows.integer),
    λ q. (kind.Integer, knows.integer, h q, ap (sort p) ke ∙ ordinal_is ka takes, integer_is 0 refl, tt),
  )
  standard_one fn.Succ ka o a oe ik takes ke h = (
    ka,
    ap (if_ordinal env) oe ∙ ap (λ b. if b then Some ka else None) takes,
    ik,
    λ q. (ik.0, ik.1, h q, ap (sort p) ke ∙ ordinal_is ka takes, ordinal_is ka takes, tt),
  )
  standard_one fn.Pred ka o a oe ik takes ke h = (
    ka,
    ap (if_ordinal env) oe ∙ ap (λ b. if b then Some ka else None) takes,
    ik,
    λ q. (ik.0, ik.1, h q, ap (sort p) ke ∙ ordinal_is ka takes, ordinal_is ka takes, tt),
  )
  standard_one fn.Eof ka o a oe ik takes ke h = absurd (cc takes)
  standard_one fn.Eoln ka o a oe ik takes ke h = absurd (cc takes)

  no_argument : (f : StandardFn) → function_takes f 0 ≡ true → FormIs (standard_gives env f None) (plain.AtInput f)
  no_argument fn.Eof e = (1, refl, (kind.Boolean, knows.boolean), λ q. (tt, boolean_is 1 refl))
  no_argument fn.Eoln e = (1, refl, (kind.Boolean, knows.boolean), λ q. (tt, boolean_is 1 refl))
  no_argument _ e = absurd (cc e)

  too_many : (f : StandardFn) (m : ℕ) → function_takes f (suc (suc m)) ≡ true → ⊥
  too_many fn.Eof m e = let w = nat_eq_is 0 (suc (suc m)) e in omega (arith, w)
  too_many fn.Eoln m e = let w = nat_eq_is 0 (suc (suc m)) e in omega (arith, w)
  too_many _ m e = let w = nat_eq_is 1 (suc (suc m)) e in omega (arith, w)

  -- a text in an expression is a char
  quoted : (at : Place) (t : List ℕ) → text_rule at t ≡ None
      → FormIs (ordinal_kind (char_of t)) (plain.Number (number_or (pos 0) (char_of t)))
  quoted at [] e = absurd (cc e)
  quoted at (c ∷ []) e = (2, refl, (kind.Char, knows.char), λ q. (tt, ap sort_by knows.char))
  quoted at (c ∷ d ∷ t) e = let w = nat_eq_is (suc (suc (length t))) 1
      (not-false (nat_eq (suc (suc (length t))) 1)
      (not_if_none rule.Y14 at (not (nat_eq (suc (suc (length t))) 1)) e)) in
      absurd (omega (arith, w))

  abbrev pub SelectsIs : ℕ → Option ℕ → plain.Selectors → Type 0
  SelectsIs k o ss = (k2 : ℕ) × (o ≡ Some k2) × IsKind p k2 × ((q : ℕ) → Selects q ss k k2)

  -- an index: its array, and what the rest of the selectors gives
  index_one : (at ia : Place) (o i : Option ℕ) (k ki : ℕ) → o ≡ Some k → i ≡ Some ki → IsKind p k
      → index_rule env at o ia i ≡ None
      → (low high : ℤ) × (el : ℕ) × (slice_get p.kinds k ≡ Some (kind.Array low high ki el))
      × (element env o i ≡ Some el)
  index_one at ia None i k ki oe ie ik calm = absurd (cc oe)
  index_one at ia (Some j) None k ki oe ie ik calm = absurd (cc ie)
  index_one at ia (Some j) (Some i) k ki oe ie (t, at_k) calm =
      let jk = same_Some j k oe in
      let ek : slice_get env.kinds j ≡ Some t = ap (slice_get env.kinds) jk ∙ kind_same k ∙ at_k in
      go t (same_Some i ki ie) at_k (subst (λ z. index_kind_rule at ia (Some i) z ≡ None) ek calm)
      (λ z e. subst (λ w. element_in (Some i) w ≡ z) (sym ek) e)
    where
      go : (t : KindOf) → i ≡ ki → slice_get p.kinds k ≡ Some t → index_of_rule at ia (Some i) t ≡ None
          → ((z : Option ℕ) → element_of (Some i) t ≡ z → element env (Some j) (Some i) ≡ z)
          → (low high : ℤ) × (el : ℕ) × (slice_get p.kinds k ≡ Some (kind.Array low high ki el))
          × (element env (Some j) (Some i) ≡ Some el)
      go kind.Integer e a c w = absurd (cc c)
      go kind.Boolean e a c w = absurd (cc c)
      go kind.Char e a c w = absurd (cc c)
      go (kind.Enumeration m) e a c w = absurd (cc c)
      go (kind.Array low high index el) e a c w =
          let same = not_if_none rule.Y2 ia (not (nat_eq index i)) c in
          let ii = nat_eq_is index i (not-false (nat_eq index i) same) in (
            low,
            high,
            el,
            subst (λ z. slice_get p.kinds k ≡ Some (kind.Array low high z el)) (ii ∙ e) a,
            w (Some el) (ap (λ b. if b then None else Some el) same),
          )
      go (kind.Fields fs) e a c w = absurd (cc c)
      go (kind.Channel ks) e a c w = absurd (cc c)

  -- a field
  field_one : (at : Place) (name : List ℕ) (o : Option ℕ) (k : ℕ) → o ≡ Some k → IsKind p k
      → field_rule env at o name ≡ None
      → (fs : List (List ℕ × ℕ)) × (x : List ℕ) × (t : ℕ) × (slice_get p.kinds k ≡ Some (kind.Fields fs))
      × (slice_get fs (numbered_field env o name) ≡ Some (x, t)) × (field env o name ≡ Some t)
  field_one at name None k oe ik calm = absurd (cc oe)
  field_one at name (Some j) k oe (t, at_k) calm =
      let ek : slice_get env.kinds j ≡ Some t = ap (slice_get env.kinds) (same_Some j k oe) ∙ kind_same k ∙ at_k in
      go t at_k ek (subst (λ z. field_found at (field_in name z) ≡ None) ek calm)
    where
      found : (fs : List (List ℕ × ℕ)) → slice_get p.kinds k ≡ Some (kind.Fields fs)
          → slice_get env.kinds j ≡ Some (kind.Fields fs) → (r : Option (ℕ × ℕ)) → field_from 0 name fs ≡ r
          → field_found at r ≡ None
          → (fs : List (List ℕ × ℕ)) × (x : List ℕ) × (t : ℕ) × (slice_get p.kinds k ≡ Some (kind.Fields fs))
          × (slice_get fs (field_number (field_in name (slice_get env.kinds j))) ≡ Some (x, t))
          × (field_kind (field_in name (slice_get env.kinds j)) ≡ Some t)
      found fs a ek None fe c = absurd (cc c)
      found fs a ek (Some f) fe c =
          let (i, i_is, (x, x_at)) = field_at 0 name fs f fe in
          let same : field_in name (slice_get env.kinds j) ≡ Some f = ap (field_in name) ek ∙ fe in
          let num : i ≡ field_number (field_in name (slice_get env.kinds j)) =
          (let y : i ≡ f.0 = omega (arith, i_is) in y ∙ sym (ap field_number same)) in
          (fs, x, f.1, a, subst (λ z. slice_get fs z ≡ Some (x, f.1)) num x_at, ap field_kind same)

      go : (t : KindOf) → slice_get p.kinds k ≡ Some t → slice_get env.kinds j ≡ Some t
          → field_found at (field_in name (Some t)) ≡ None
          → (fs : List (List ℕ × ℕ)) × (x : List ℕ) × (t : ℕ) × (slice_get p.kinds k ≡ Some (kind.Fields fs))
          × (slice_get fs (field_number (field_in name (slice_get env.kinds j))) ≡ Some (x, t))
          × (field_kind (field_in name (slice_get env.kinds j)) ≡ Some t)
      go (kind.Fields fs) a ek c = found fs a ek (field_from 0 name fs) refl c
      go _ _ _ c = absurd (cc c)

  -- an argument, by the role of its parameter
  abbrev pub ReferenceIs : n.Expression → Type 0
  ReferenceIs e = (v : c.Variable) × (variable_actual (checked_expression env e) ≡ c.ByReference v) × (k : ℕ)
      × (expression_kind env e ≡ Some k) × ((q : ℕ) → Place_ q (bare_variable v) k)
      × IsTarget p moves shares AnyInstr AnyTable AnyText callable (bare_variable v)

  argument_one : (x : ℕ) (xs : List ℕ) (e : n.Expression) (rest : c.Actuals) (v : Variable) (o : Option Role)
      → slice_get p.variables x ≡ Some v → o ≡ Some v.role → (v.role ≡ role.Value) ⊎ (v.role ≡ role.Reference)
      → actual_rule o (place e) (is_variable e) (variable_kind env x) (expression_kind env e) ≡ None
      → ValueIs (expression_kind env e) (bare_expression (checked_expression env e))
      → (v.role ≡ role.Reference → is_variable e ≡ true → ReferenceIs e)
      → ((q : ℕ) → ActualsInScope q (bare_actuals rest) xs)
      → (q : ℕ) → ActualsInScope q (bare_actuals (c.Pass (actual_for_role o (checked_expression env e)) rest)) (x ∷ xs)
  argument_one x xs e rest v o vat oe (inl r) calm (k, ke, ik, kk, h) ref more q =
      let known = (knows.variables x v vat (subst NoIndex (sym r) tt)).0 in
      let or : o ≡ Some role.Value = oe ∙ ap Some r in
      let same = same_if_none (variable_kind env x) (expression_kind env e) v.kind k known ke
      (not_if_none rule.Y6 (place e) (differ (variable_kind env x) (expression_kind env e))
      (subst (λ z. actual_rule z (place e) (is_variable e) (variable_kind env x) (expression_kind env e) ≡ None) or
      calm)) in
      subst (λ z. ActualsInScope q (bare_actuals (c.Pass (actual_for_role z (checked_expression env e)) rest)) (x ∷ xs))
      (sym or)
      (h q, (v, vat, same ∙ sym kk, r), more (after_value q (bare_expression (checked_expression env e))))
  argument_one x xs e rest v o vat oe (inr r) calm val ref more q =
      let known = (knows.variables x v vat (subst NoIndex (sym r) tt)).0 in
      let or : o ≡ Some role.Reference = oe ∙ ap Some r in
      let rules = or_parts (not (is_variable e)) (differ (variable_kind env x) (expression_kind env e))
      (not_if_none rule.Y7 (place e) (not (is_variable e) || differ (variable_kind env x) (expression_kind env e))
      (subst (λ z. actual_rule z (place e) (is_variable e) (variable_kind env x) (expression_kind env e) ≡ None) or
      calm)) in
      let (target, by_reference, number, gives, place_at, is_target) = ref r (not-false (is_variable e) rules.0) in
      let same = same_if_none (variable_kind env x) (expression_kind env e) v.kind number known gives rules.1 in
      subst (λ z. ActualsInScope q (bare_actuals (c.Pass (actual_for_role z (checked_expression env e)) rest)) (x ∷ xs))
      (sym or)
      (subst (λ z. ActualsInScope q (bare_actuals (c.Pass z rest)) (x ∷ xs)) (sym by_reference)
      (number, place_at q, is_target, (v, vat, same, r), more (after_var q (bare_variable target))))

  mutual
    pub expression_fine : (e : n.Expression) → expression_sites [] both_lists refusal_list env e ≡ []
        → InExpression p m sc e
        → ValueIs (expression_kind env e) (bare_expression (checked_expression env e))
    expression_fine (n.ExpressionAt at form) calm here =
        let (number, gives, is_kind, form_at) = form_fine at form calm here in (
          number,
          gives,
          is_kind,
          ap or_zero gives,
          λ q. subst (λ o. Forms q (or_zero o) (bare_form (checked_form env form)))
              (sym gives) (form_at q),
        )

    pub form_fine : (at : Place) (form : n.ExpressionForm) → form_sites [] both_lists refusal_list env at form ≡ []
        → InForm p m sc form → FormIs (form_kind env form) (bare_form (checked_form env form))
    form_fine at (n.Number m) calm here = (0, refl, (kind.Integer, knows.integer), λ q. (tt, integer_is 0 refl))
    form_fine at (n.Quoted t) calm here = quoted at t (none_at_site (text_rule at t) calm)
    form_fine at (n.Constant k) calm here = let w = knows.given k here in (
      w.0.kind,
      ap (λ z. ordinal_kind (table_entry z)) w.1,
      ordinal_there (slice_get p.kinds w.0.kind) w.2,
      λ q. (tt, ordinal_sort (slice_get p.kinds w.0.kind) w.2),
    )
    form_fine at (n.Read v) calm here =
        let (number, gives, (meaning, meaning_at), place_at) = variable_fine v calm here in
        let read = λ (q : ℕ). read_at (after_var q (bare_variable (checked_variable env v))) number meaning meaning_at
        in
        (number, gives, (meaning, meaning_at), λ q. (place_at q, read q))
    form_fine at (n.Apply f name args) calm (b, call, (x, ans), acts) =
        let sig = knows.blocks f b call.1 in
        let formals : formals_of env f ≡ b.formals = ap formals_in sig in
        let passes = actuals_fine b.formals args
        (subst (λ z. actuals_sites [] both_lists refusal_list env z args ≡ []) formals calm) (knows.formals f b call.1)
        acts in
        let (result, result_at, role_is, _, ordinal) = knows.answers f b x call.1 ans in
        let kv = (knows.variables x result result_at (subst NoIndex (sym role_is) tt)).0 in
        let gives : answer_kind env f ≡ Some result.kind = ap (answer_in env) sig ∙ ap (kind_of_variable env) ans ∙ kv
        in (
          result.kind,
          gives,
          ordinal_there (slice_get p.kinds result.kind) ordinal,
          λ q. (
            b,
            subst (λ z. ActualsInScope q (bare_actuals (of_.actuals (checked_actuals env z args))) b.formals)
                (sym formals) (passes q),
            call_at f b call
                (after_actuals q (bare_actuals (of_.actuals (checked_actuals env (formals_of env f) args)))),
            (x, ans),
            ordinal_sort (slice_get p.kinds result.kind) ordinal,
          ),
        )
    form_fine at (n.Standard f args) calm here = standard_fine f args calm here.0 here.1
    form_fine at (n.Unary op a) calm here =
        let parts = none_with_site (expression_sites [] both_lists refusal_list env a)
        (unary_rule op (place a) (expression_kind env a)) calm in
        let (number, gives, _, own_kind, value_at) = expression_fine a parts.0 here in
        let takes = nat_eq_is (unary_takes op) number
        (takes_if_none rule.Y1 (place a) (nat_eq (unary_takes op)) (expression_kind env a) number gives parts.1) in (
          unary_takes op,
          refl,
          unary_kind op,
          λ q. (
            value_at q,
            ap (sort p) (own_kind ∙ sym takes) ∙ unary_sort op,
            unary_sort op,
            unary_at (after_value q (bare_expression (checked_expression env a))) op,
          ),
        )
    form_fine at (n.Binary op a b) calm here =
        let halves = none_in_parts (both_lists (expression_sites [] both_lists refusal_list env a)
        (refusal_list (left_rule env op (place a) (expression_kind env a))))
        (both_lists (expression_sites [] both_lists refusal_list env b)
        (refusal_list (right_rule env op (place b) (expression_kind env a) (expression_kind env b)))) calm in
        let left = none_with_site (expression_sites [] both_lists refusal_list env a)
        (left_rule env op (place a) (expression_kind env a)) halves.0 in
        let right = none_with_site (expression_sites [] both_lists refusal_list env b)
        (right_rule env op (place b) (expression_kind env a) (expression_kind env b)) halves.1 in
        let (number, gives, _, own_kind, value_at) = expression_fine a left.0 here.0 in
        let (number_b, gives_b, _, own_kind_b, value_at_b) = expression_fine b right.0 here.1 in
        let both = none_of_earlier (unless rule.Y1 (place b) (binary_takes env op) (expression_kind env b))
        (refusal_if rule.Y1 (place b) (differ (expression_kind env a) (expression_kind env b))) right.1 in
        let takes = takes_if_none rule.Y1 (place a) (binary_takes env op) (expression_kind env a) number gives left.1 in
        let same = same_if_none (expression_kind env a) (expression_kind env b) number number_b gives gives_b
        (not_if_none rule.Y1 (place b) (differ (expression_kind env a) (expression_kind env b)) both.1) in
        let w = binary_sort op in (
          binary_gives op,
          refl,
          w.1,
          λ q. (
            value_at q,
            value_at_b (after_value q (bare_expression (checked_expression env a))),
            tt,
            subst (λ z. Operands op (sort p z) (sort p (kind_of (bare_expression (checked_expression env b)))))
                (sym own_kind) (subst (λ z. Operands op (sort p number) (sort p z)) (same ∙ sym own_kind_b)
                (operands op number takes)),
            w.0,
          ),
        )

    pub variable_fine : (v : n.Variable) → variable_sites [] both_lists refusal_list env v ≡ [] → InVariable p m sc v
        → (k : ℕ)
        × (selected env v ≡ Some k) × IsKind p k × ((q : ℕ) → Place_ q (bare_variable (checked_variable env v)) k)
    variable_fine (n.Entire x at ss) calm here =
        let (entire, entire_gives, entire_is, entire_at) = entire_fine x here.0 in
        let (number, gives, is_kind, selects_at) = selectors_fine at (variable_kind env x) entire ss entire_gives
        entire_is calm here.1 in
        (number, gives, is_kind, λ q. (entire, entire_at q, selects_at (q + 1)))

    pub selectors_fine : (at : Place) (o : Option ℕ) (k : ℕ) (ss : n.Selectors) → o ≡ Some k → IsKind p k
        → selectors_sites [] both_lists refusal_list env at o ss ≡ [] → InSelectors p m sc ss
        → SelectsIs k (selected_kind env o ss) (bare_selectors (of_.selectors (checked_selectors env o ss)))
    selectors_fine at o k n.Whole oe ik calm here = (k, oe, ik, λ q. refl)
    selectors_fine at o k (n.Select (n.Index e) rest) oe ik calm here =
        let parts = none_in_parts (both_lists (expression_sites [] both_lists refusal_list env e)
        (refusal_list (index_rule env at o (place e) (expression_kind env e))))
        (selectors_sites [] both_lists refusal_list env at (selection env o (n.Index e)) rest) calm in
        let one = none_with_site (expression_sites [] both_lists refusal_list env e)
        (index_rule env at o (place e) (expression_kind env e)) parts.0 in
        let (number, gives, _, own_kind, value_at) = expression_fine e one.0 here.0 in
        let (low, high, element, array_at, element_is) = index_one at (place e) o (expression_kind env e) k number oe
        gives ik one.1 in
        let known = knows.elements k low high number element array_at in
        let (last, last_gives, last_is, selects_at) = selectors_fine at (selection env o (n.Index e)) element rest
        element_is known.0 parts.1 here.1 in (
          last,
          last_gives,
          last_is,
          λ q. (
            low,
            high,
            number,
            element,
            array_at,
            value_at q,
            ap (sort p) own_kind
                ∙ ordinal_sort (slice_get p.kinds number) known.1,
            tt,
            selects_at (after_value q (bare_expression (checked_expression env e)) + 1),
          ),
        )
    selectors_fine at o k (n.Select (n.Field name) rest) oe ik calm here =
        let parts = none_in_parts (refusal_list (field_rule env at o name))
        (selectors_sites [] both_lists refusal_list env at (selection env o (n.Field name)) rest) calm in
        let (fields, spelled, element, record_at, field_at, element_is) = field_one at name o k oe ik
        (none_at_site (field_rule env at o name) parts.0) in
        let (last, last_gives, last_is, selects_at) = selectors_fine at (selection env o (n.Field name)) element rest
        element_is
        (knows.fields k fields (numbered_field env o name) spelled element record_at field_at) parts.1 here in
        (last, last_gives, last_is, λ q. (fields, spelled, element, record_at, field_at, tt, selects_at (q + 1)))

    pub actuals_fine : (xs : List ℕ) (args : n.Arguments) → actuals_sites [] both_lists refusal_list env xs args ≡ []
        → AreFormals p xs → InActuals p m sc xs args
        → (q : ℕ) → ActualsInScope q (bare_actuals (of_.actuals (checked_actuals env xs args))) xs
    actuals_fine [] n.NoArgument calm formals here q = tt
    actuals_fine (x ∷ xs) n.NoArgument calm formals here q = absurd here
    actuals_fine [] (n.AndArgument a rest) calm formals here q = absurd here
    actuals_fine (x ∷ xs) (n.AndArgument (n.Pass e w) rest) calm ((v, vat, roles), more) (in_e, aimed, in_rest) q =
        let parts = none_in_parts (both_lists (expression_sites [] both_lists refusal_list env e)
        (refusal_list (actual_rule (slice_get env.roles x) (place e) (is_variable e) (variable_kind env x)
        (expression_kind env e)))) (actuals_sites [] both_lists refusal_list env xs rest) calm in
        let one = none_with_site (expression_sites [] both_lists refusal_list env e)
        (actual_rule (slice_get env.roles x) (place e) (is_variable e) (variable_kind env x)
        (expression_kind env e)) parts.0 in
        argument_one x xs e (of_.actuals (checked_actuals env xs rest)) v (slice_get env.roles x) vat
        (knows.roles x v vat) roles one.1 (expression_fine e one.0 in_e)
        (λ r i. reference_fine e one.0 in_e i (aimed v vat r i)) (actuals_fine xs rest parts.1 more in_rest) q

    pub reference_fine : (e : n.Expression) → expression_sites [] both_lists refusal_list env e ≡ []
        → InExpression p m sc e
        → is_variable e ≡ true → AimedExpression p m e → ReferenceIs e
    reference_fine (n.ExpressionAt at (n.Read (n.Entire x name ss))) calm here i aimed =
        let (number, gives, _, place_at) = variable_fine (n.Entire x name ss) calm here in
        (checked_variable env (n.Entire x name ss), refl, number, gives, place_at, aimed)
    reference_fine (n.ExpressionAt at (n.Number m)) calm here i aimed = absurd (cc i)
    reference_fine (n.ExpressionAt at (n.Quoted t)) calm here i aimed = absurd (cc i)
    reference_fine (n.ExpressionAt at (n.Constant k)) calm here i aimed = absurd (cc i)
    reference_fine (n.ExpressionAt at (n.Apply f name args)) calm here i aimed = absurd (cc i)
    reference_fine (n.ExpressionAt at (n.Standard f args)) calm here i aimed = absurd (cc i)
    reference_fine (n.ExpressionAt at (n.Unary op a)) calm here i aimed = absurd (cc i)
    reference_fine (n.ExpressionAt at (n.Binary op a b)) calm here i aimed = absurd (cc i)

    pub standard_fine : (f : StandardFn) (args : n.Arguments)
        → standard_sites [] both_lists refusal_list env f args ≡ []
        → function_takes f (count args) ≡ true → InArguments p m sc args
        → FormIs (standard_gives env f (parameter_kind env None args))
        (bare_form (c.Standard f (of_.expressions (checked_arguments env args))))
    standard_fine f n.NoArgument calm fits here = no_argument f fits
    standard_fine f (n.AndArgument (n.Pass e w) n.NoArgument) calm fits here =
        let parts = none_in_parts (both_lists (expression_sites [] both_lists refusal_list env e)
        (refusal_list (standard_rule env f (place e) (expression_kind env e)))) [] calm in
        let one = none_with_site (expression_sites [] both_lists refusal_list env e)
        (standard_rule env f (place e) (expression_kind env e)) parts.0 in
        let (number, gives, is_kind, own_kind, value_at) = expression_fine e one.0 here.0 in
        standard_one f number (expression_kind env e) (bare_expression (checked_expression env e)) gives is_kind
        (takes_if_none rule.Y8 (place e) (standard_takes env f) (expression_kind env e) number gives one.1) own_kind
        value_at
    standard_fine f (n.AndArgument a (n.AndArgument b rest)) calm fits here = absurd (too_many f (count rest) fits)
