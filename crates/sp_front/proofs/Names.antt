-- Where no rule of names is broken, each name in an expression is of a visible declaration.
use Rattle.std.proofs.Common.{◌≡◌, ◌⊎◌, inl, inr, refl, ap, sym, ◌∙◌, subst, ℕ, suc, ◌==◌, List, [], ◌∷◌, Option, Some}
use Rattle.std.proofs.Common.{None, Bool, true, false, if◌then◌else◌, length, slice_get, arith, eq-eqb}
use Rattle.std.specs.Prelude.{not, nat_eq, ◌&&◌, drop}
use Rattle.std.specs.Str.{bytes_eq}
use Rattle.std.proofs.lemmas.Bool.{not-false, true≢false}
use Rattle.std.proofs.lemmas.Option.{same_Some}
use Rattle.sp_base.specs.declared.place.Place.{Place}
use Rattle.sp_base.specs.declared.rule.Rule.TheVariants as rule
use Rattle.sp_tree.specs.declared.checked.Role.{Role}
use Rattle.sp_tree.specs.declared.checked.Role.TheVariants as role
use Rattle.sp_tree.specs.declared.meaning.Meaning.{Meaning}
use Rattle.sp_tree.specs.declared.meaning.Meaning.TheVariants as meaning
use Rattle.sp_tree.specs.declared.meaning.Passing.{Passing}
use Rattle.sp_tree.specs.declared.syntax.Name.{Name}
use Rattle.sp_tree.specs.NameFirst.{both_lists, all_at}
use Rattle.sp_tree.specs.NameRules.{Operand, Targets, Computes, Bare, Widens, operand_rule, function_rule}
use Rattle.sp_tree.specs.NameRules.{function_takes, target_rule, variable_rule, next_passing, flags_left, references_of}
use Rattle.sp_tree.specs.NameRules.{rest_of, needs_variable, same_place}
use Rattle.sp_tree.specs.Scopes as names
use Rattle.sp_tree.specs.Scopes.{Env, look, find, find_in, or_else}
use Rattle.sp_tree.specs.NameWalk as w
use Rattle.sp_tree.specs.NameWalk.{role_of}
use Rattle.sp_tree.specs.NamedOf as of_
use Rattle.sp_tree.specs.PlainNamed as n
use Rattle.sp_tree.specs.NamedTree.{variable_number, operand_named, function_named, named_expression, named_form}
use Rattle.sp_tree.specs.NamedTree.{named_selectors, named_arguments, named_width}
use Rattle.sp_tree.specs.PlainSyntax.{Expression, ExpressionAt, ExpressionForm, Number, Quoted, Read, Apply, Unary}
use Rattle.sp_tree.specs.PlainSyntax.{Binary}
use Rattle.sp_tree.specs.PlainSyntax.{Entire, Index, Field, Selectors, Whole, Select, Pass, Width, NoWidth, WithWidth}
use Rattle.sp_tree.specs.PlainSyntax.{Arguments, NoArgument, AndArgument}
use Rattle.sp_tree.specs.Plain as plain
use Rattle.sp_code.specs.Scopes.{Scope, OfBlock, OfIndex, is_block, is_index, level, one_more, scopes_of}
use Rattle.sp_types.specs.TypeWalk.{count, is_variable}
use Rattle.sp_code.specs.CodeOfTree.{NoIndex}
use Rattle.sp_front.specs.ScopeFacts.{SeenIn, SeenRole, AimedIn, AimedExpression, CallIn, AroundIn, InExpression}
use Rattle.sp_front.specs.ScopeFacts.{InForm}
use Rattle.sp_front.specs.ScopeFacts.{InSelectors, InActuals, InArguments, InWidth}
use Rattle.sp_front.specs.Visible.{IsScope, AreFlags, IsAround, IsBlockIn, IsValid, AreValid, AllValid, IsVisible}
use Rattle.sp_front.specs.Visible.{IsChain}
use Rattle.sp_front.proofs.NoBreachInParts.{none_in_parts, none_at_site, none_with_site, not_if_none, nat_eq_is}

-- ---- scopes of the code

pub level_block : (b : ℕ) (sc : List Scope) → IsScope (OfBlock b) sc → (up : ℕ) × (level (is_block b) sc ≡ Some up)
level_block b [] h = absurd h
level_block b (t ∷ sc) (inl e) = (
  0,
  ap (λ (z : Bool). if z then Some 0 else one_more (level (is_block b) sc))
      (subst (λ s. is_block b s ≡ true) e (eq-eqb b b refl)),
)
level_block b (t ∷ sc) (inr h) = go (is_block b t) (level_block b sc h)
  where
    go : (z : Bool) → (up : ℕ) × (level (is_block b) sc ≡ Some up) → (up : ℕ)
        × ((if z then Some 0 else one_more (level (is_block b) sc)) ≡ Some up)
    go true r = (0, refl)
    go false r = (suc r.0, ap one_more r.1)

pub level_index : (x : ℕ) (sc : List Scope) → IsScope (OfIndex x) sc → (up : ℕ) × (level (is_index x) sc ≡ Some up)
level_index x [] h = absurd h
level_index x (t ∷ sc) (inl e) = (
  0,
  ap (λ (z : Bool). if z then Some 0 else one_more (level (is_index x) sc))
      (subst (λ s. is_index x s ≡ true) e (eq-eqb x x refl)),
)
level_index x (t ∷ sc) (inr h) = go (is_index x t) (level_index x sc h)
  where
    go : (z : Bool) → (up : ℕ) × (level (is_index x) sc ≡ Some up) → (up : ℕ)
        × ((if z then Some 0 else one_more (level (is_index x) sc)) ≡ Some up)
    go true r = (0, refl)
    go false r = (suc r.0, ap one_more r.1)

module _ (p : plain.Program) (m : ℕ) where
  -- the scopes behind a block's are those around it
  pub chain_at : (b : ℕ) (sc : List Scope) → IsChain p m sc → IsScope (OfBlock b) sc → (up : ℕ)
      × (level (is_block b) sc ≡ Some up) × (drop up sc ≡ scopes_of p b)
  chain_at b [] c h = absurd h
  chain_at b (OfIndex x ∷ sc) c (inl e) = absurd (cc e)
  chain_at b (OfIndex x ∷ sc) c (inr h) = let r = chain_at b sc c h in (suc r.0, ap one_more r.1, r.2)
  chain_at b (OfBlock d ∷ sc) (e, c) h = go (b == d) refl (λ other. chain_at b sc c other) h
    where
      same : (b == d) ≡ true → b ≡ d
      same t = Prim.grind (arith, t)

      go : (z : Bool) → (b == d) ≡ z → (IsScope (OfBlock b) sc → (up : ℕ) × (level (is_block b) sc ≡ Some up)
          × (drop up sc ≡ scopes_of p b)) → (OfBlock b ≡ OfBlock d) ⊎ IsScope (OfBlock b) sc
          → (up : ℕ) × (level (is_block b) (OfBlock d ∷ sc) ≡ Some up) × (drop up (OfBlock d ∷ sc) ≡ scopes_of p b)
      go true t next h = (
        0,
        ap (λ (z : Bool). if z then Some 0 else one_more (level (is_block b) sc)) t,
        sym e
            ∙ ap (scopes_of p) (sym (same t)),
      )
      go false t next (inl x) = absurd (true≢false (sym (eq-eqb b d (block_is b d x)) ∙ t))
        where
          block_is : (b d : ℕ) → OfBlock b ≡ OfBlock d → b ≡ d
          block_is b d e = cc e
      go false t next (inr h) = let r = next h in
          (suc r.0, ap (λ (z : Bool). if z then Some 0 else one_more (level (is_block b) sc)) t ∙ ap one_more r.1, r.2)

  -- ---- what is found is valid

  abbrev pub IsValidMeaning : List Scope → Option Meaning → Type 0
  IsValidMeaning sc None = Unit {0}
  IsValidMeaning sc (Some x) = IsValid p m sc x

  look_valid : (sc : List Scope) (b : names.Scope) (name : List ℕ) → AreValid p m sc b → IsValidMeaning sc (look b name)
  look_valid sc [] name h = tt
  look_valid sc (e ∷ es) name h = go (bytes_eq name e.0) (look_valid sc es name h.1)
    where
      go : (z : Bool) → IsValidMeaning sc (look es name) → IsValidMeaning sc (if z then Some e.1 else look es name)
      go true r = h.0
      go false r = r

  or_valid : (sc : List Scope) (a b : Option Meaning) → IsValidMeaning sc a → IsValidMeaning sc b
      → IsValidMeaning sc (or_else a b)
  or_valid sc None b x y = y
  or_valid sc (Some z) b x y = x

  in_valid : (sc : List Scope) (bs : List names.Scope) (name : List ℕ) (o : Option Meaning) → AllValid p m sc bs
      → IsValidMeaning sc o → IsValidMeaning sc (find_in bs name o)
  in_valid sc [] name o h x = x
  in_valid sc (b ∷ bs) name o h x = in_valid sc bs name (or_else (look b name) o) h.1
      (or_valid sc (look b name) o (look_valid sc b name h.0) x)

  pub find_valid : (sc : List Scope) (env : Env) (name : List ℕ) → IsVisible p m sc env
      → IsValidMeaning sc (find env name)
  find_valid sc env name h = or_valid sc (look env.local.here name) (find_in env.around name None)
      (look_valid sc env.local.here name h.1) (in_valid sc env.around name None h.0 tt)

  -- ---- variables and blocks that are found

  pub seen : (sc : List Scope) (x b : ℕ) (r : Role) → IsValid p m sc (meaning.Variable x b r) → SeenIn p m sc x
  seen sc x b r (v, at, vr, vb, around) = (v, at, subst (SeenRole p m sc x v) (sym vr) (go r around))
    where
      block : IsScope (OfBlock b) sc → (up : ℕ) × (level (is_block v.block) sc ≡ Some up)
      block h = level_block v.block sc (subst (λ z. IsScope (OfBlock z) sc) (sym vb) h)

      go : (r : Role) → IsAround p m sc x b r → SeenRole p m sc x v r
      go role.Console h = h
      go role.Index h = level_index x sc h
      go _ h = block h

  pub aimed : (sc : List Scope) (x b : ℕ) (r : Role) (at : Place) → IsValid p m sc (meaning.Variable x b r)
      → variable_rule at r ≡ None → AimedIn p m x
  aimed sc x b r at (v, vat, vr, vb, around) e = (v, vat, subst NoIndex (sym vr) (go r e))
    where
      go : (r : Role) → variable_rule at r ≡ None → NoIndex r
      go role.Console e = tt
      go role.Local e = tt
      go role.Value e = tt
      go role.Reference e = tt
      go role.Index e = absurd (cc e)
      go role.Answer e = tt

  -- a visible block may be called: the code of the scopes around it is known
  -- steps: the scopes of a block are it and those around it
  module _ (steps : (f q : ℕ) (b : plain.Block) → slice_get p.blocks f ≡ Some b → b.parent ≡ Some q
      → scopes_of p f ≡ OfBlock f ∷ scopes_of p q) (sc : List Scope) (chain : IsChain p m sc) where
    pub called : (f : ℕ) (fs : List Bool) (b : plain.Block) → IsBlockIn p m sc f fs b → CallIn p m sc f b
    called f fs b (at, flags, (q, parent, around)) =
        let r = chain_at q sc chain around in (
          r.0,
          at,
          subst (λ o. AroundIn p m sc f o r.0) (sym parent)
              (r.1, steps f q b at parent ∙ ap (λ z. OfBlock f ∷ z) (sym r.2)),
        )

    module _ (env : Env) (visible : IsVisible p m sc env) where
      pub operand_in : (x : Name) (whole : Bool) (o : Option Meaning) (ss : n.Selectors) → IsValidMeaning sc o
          → operand_rule x.at whole o ≡ None → InSelectors p m sc ss → InForm p m sc (operand_named o x ss)
      operand_in x true None ss f e h = absurd (cc e)
      operand_in x false None ss f e h = absurd (cc e)
      operand_in x whole (Some (meaning.Constant k)) ss f e h = f
      operand_in x whole (Some (meaning.Variable y b r)) ss f e h = (seen sc y b r f, h)
      operand_in x true (Some (meaning.Kind k)) ss f e h = absurd (cc e)
      operand_in x false (Some (meaning.Kind k)) ss f e h = absurd (cc e)
      operand_in x true (Some (meaning.Procedure b fs)) ss f e h = absurd (cc e)
      operand_in x false (Some (meaning.Procedure b fs)) ss f e h = absurd (cc e)
      operand_in x true (Some (meaning.StandardProcedure b)) ss f e h = absurd (cc e)
      operand_in x false (Some (meaning.StandardProcedure b)) ss f e h = absurd (cc e)
      operand_in x true (Some (meaning.Function g fs)) ss (b, is, ans) e h =
          let none = nat_eq_is (length fs) 0
          (not-false (nat_eq (length fs) 0) (not_if_none rule.N6 x.at (not (nat_eq (length fs) 0)) e)) in
          (b, called g fs b is, ans, go fs b.formals none is.1)
        where
          go : (fs : List Bool) (xs : List ℕ) → length fs ≡ 0 → AreFlags p m fs xs → InActuals p m sc xs n.NoArgument
          go [] [] l a = tt
          go [] (y ∷ ys) l a = a
          go (g ∷ fs) xs l a = absurd (omega (arith, l))
      operand_in x false (Some (meaning.Function g fs)) ss f e h = absurd (cc e)
      operand_in x true (Some (meaning.StandardFunction g)) ss f e h =
          (not-false (function_takes g 0) (not_if_none rule.N6 x.at (not (function_takes g 0)) e), tt)
      operand_in x false (Some (meaning.StandardFunction g)) ss f e h = absurd (cc e)

      pub target_in : (x : Name) (o : Option Meaning) (ss : n.Selectors) → IsValidMeaning sc o
          → target_rule x.at o ≡ None
          → SeenIn p m sc (variable_number o) × AimedIn p m (variable_number o)
          × (operand_named o x ss ≡ n.Read (n.Entire (variable_number o) x.at ss))
      target_in x None ss f e = absurd (cc e)
      target_in x (Some (meaning.Constant k)) ss f e = absurd (cc e)
      target_in x (Some (meaning.Kind k)) ss f e = absurd (cc e)
      target_in x (Some (meaning.Variable y b r)) ss f e = (seen sc y b r f, aimed sc y b r x.at f e, refl)
      target_in x (Some (meaning.Procedure b fs)) ss f e = absurd (cc e)
      target_in x (Some (meaning.Function b fs)) ss f e = absurd (cc e)
      target_in x (Some (meaning.StandardFunction g)) ss f e = absurd (cc e)
      target_in x (Some (meaning.StandardProcedure g)) ss f e = absurd (cc e)

      -- what is not written as a variable is none
      not_variable : (at : Place) (x : Name) (o : Option Meaning) (ss : n.Selectors) → same_place at x.at ≡ false
          → is_variable (n.ExpressionAt at (operand_named o x ss)) ≡ true
          → AimedExpression p m (n.ExpressionAt at (operand_named o x ss))
      not_variable at x None ss d i = absurd (cc (d, i))
      not_variable at x (Some (meaning.Constant k)) ss d i = tt
      not_variable at x (Some (meaning.Kind k)) ss d i = absurd (cc (d, i))
      not_variable at x (Some (meaning.Variable y b r)) ss d i = absurd (cc (d, i))
      not_variable at x (Some (meaning.Procedure b fs)) ss d i = absurd (cc (d, i))
      not_variable at x (Some (meaning.Function b fs)) ss d i = tt
      not_variable at x (Some (meaning.StandardFunction g)) ss d i = tt
      not_variable at x (Some (meaning.StandardProcedure g)) ss d i = absurd (cc (d, i))

      pub counts : (args : Arguments) → count (of_.arguments (named_arguments env args)) ≡ w.count args
      counts NoArgument = refl
      counts (AndArgument a rest) = ap suc (counts rest)

      -- an argument, and that it may be changed where a variable is wanted and it is written as one
      abbrev pub ArgumentIs : Passing → Expression → Type 0
      ArgumentIs pass e = InExpression p m sc (named_expression env e)
          × (needs_variable pass ≡ true → is_variable (named_expression env e) ≡ true
          → AimedExpression p m (named_expression env e))

      passed_name : (pass : Passing) (at : Place) (x : Name) (whole : Bool) (ss : n.Selectors)
          → w.passed_name_sites [] both_lists all_at env pass at x whole ≡ [] → InSelectors p m sc ss
          → InForm p m sc (operand_named (find env x.text) x ss)
          × (needs_variable pass ≡ true → is_variable (n.ExpressionAt at (operand_named (find env x.text) x ss)) ≡ true
          → AimedExpression p m (n.ExpressionAt at (operand_named (find env x.text) x ss)))
      passed_name pass at x whole ss calm h = go (needs_variable pass) (same_place at x.at) refl refl calm
        where
          valid : IsValidMeaning sc (find env x.text)
          valid = find_valid sc env x.text visible

          other : both_lists (all_at env (Bare at pass)) (all_at env (Operand x whole)) ≡ []
              → InForm p m sc (operand_named (find env x.text) x ss)
          other calm = operand_in x whole (find env x.text) ss valid
              (none_with_site (all_at env (Bare at pass)) (operand_rule x.at whole (find env x.text)) calm).1 h

          go : (a s : Bool) → needs_variable pass ≡ a → same_place at x.at ≡ s
              → (if a && s then all_at env (Targets x) else
              both_lists (all_at env (Bare at pass)) (all_at env (Operand x whole))) ≡ []
              → InForm p m sc (operand_named (find env x.text) x ss)
              × (needs_variable pass ≡ true
              → is_variable (n.ExpressionAt at (operand_named (find env x.text) x ss)) ≡ true
              → AimedExpression p m (n.ExpressionAt at (operand_named (find env x.text) x ss)))
          go true true ae se calm =
              let t = target_in x (find env x.text) ss valid
              (none_at_site (target_rule x.at (find env x.text)) calm) in (
                subst (InForm p m sc) (sym t.2) (t.0, h),
                λ a i. subst (λ z. AimedExpression p m (n.ExpressionAt at z)) (sym t.2) t.1,
              )
          go true false ae se calm = (other calm, λ a i. not_variable at x (find env x.text) ss se i)
          go false s ae se calm = (other calm, λ a i. absurd (cc (ae, a)))

      -- calls
      function_in : (g : Name) (o : Option Meaning) (k : ℕ) (args : n.Arguments) → IsValidMeaning sc o → count args ≡ k
          → function_rule g.at k o ≡ None → InArguments p m sc args
          → ((fs : List Bool) (xs : List ℕ) → references_of o ≡ fs → length fs ≡ k → AreFlags p m fs xs
          → InActuals p m sc xs args) → InForm p m sc (function_named o g args)
      function_in g None k args f c e a h = absurd (cc e)
      function_in g (Some (meaning.Constant j)) k args f c e a h = absurd (cc e)
      function_in g (Some (meaning.Kind j)) k args f c e a h = absurd (cc e)
      function_in g (Some (meaning.Variable y b r)) k args f c e a h = absurd (cc e)
      function_in g (Some (meaning.Procedure b fs)) k args f c e a h = absurd (cc e)
      function_in g (Some (meaning.StandardProcedure s)) k args f c e a h = absurd (cc e)
      function_in g (Some (meaning.Function j fs)) k args (b, is, ans) c e a h = (
        b,
        called j fs b is,
        ans,
        h fs b.formals refl
            (nat_eq_is (length fs) k (not-false (nat_eq (length fs) k)
            (not_if_none rule.N6 g.at (not (nat_eq (length fs) k)) e))) is.1,
      )
      function_in g (Some (meaning.StandardFunction s)) k args f c e a h = (
        subst (λ z. function_takes s z ≡ true) (sym c)
            (not-false (function_takes s k) (not_if_none rule.N6 g.at (not (function_takes s k)) e)),
        a,
      )

      call_is_none : (at : Place) (f : Name) (o : Option Meaning) (args : n.Arguments)
          → is_variable (n.ExpressionAt at (function_named o f args)) ≡ true
          → AimedExpression p m (n.ExpressionAt at (function_named o f args))
      call_is_none at f None args i = tt
      call_is_none at f (Some (meaning.Constant j)) args i = tt
      call_is_none at f (Some (meaning.Kind j)) args i = tt
      call_is_none at f (Some (meaning.Variable y b r)) args i = tt
      call_is_none at f (Some (meaning.Procedure b fs)) args i = tt
      call_is_none at f (Some (meaning.Function b fs)) args i = tt
      call_is_none at f (Some (meaning.StandardFunction g)) args i = tt
      call_is_none at f (Some (meaning.StandardProcedure g)) args i = tt

      aims_reference : (f : Bool) (fs : List Bool) (rest : Passing) (x : ℕ) → (v : plain.Variable)
          × (slice_get p.variables x ≡ Some v) × (v.role ≡ role_of f) → (v : plain.Variable)
          → slice_get p.variables x ≡ Some v → v.role ≡ role.Reference
          → needs_variable (next_passing (f ∷ fs) rest) ≡ true
      aims_reference true fs rest x flag v at is = refl
      aims_reference false fs rest x (u, uat, ur) v at is =
          absurd (no (sym ur ∙ ap (λ (z : plain.Variable). z.role) (same_Some u v (sym uat ∙ at)) ∙ is))
        where
          no : role.Value ≡ role.Reference → ⊥
          no e = cc e

      mutual
        pub expression_in : (e : Expression) → w.expression_sites [] both_lists all_at env e ≡ []
            → InExpression p m sc (named_expression env e)
        expression_in (ExpressionAt at form) calm = form_in form calm

        pub form_in : (form : ExpressionForm) → w.expression_form_sites [] both_lists all_at env form ≡ []
            → InForm p m sc (named_form env form)
        form_in (Number k) calm = tt
        form_in (Quoted t) calm = tt
        form_in (Read (Entire x ss)) calm =
            let two = none_in_parts (all_at env (Operand x (w.is_whole ss)))
            (w.selectors_sites [] both_lists all_at env ss)
            calm in
            operand_in x (w.is_whole ss) (find env x.text) (of_.selectors (named_selectors env ss))
            (find_valid sc env x.text visible)
            (none_at_site (operand_rule x.at (w.is_whole ss) (find env x.text)) two.0) (selectors_in ss two.1)
        form_in (Apply f args) calm =
            let two = none_in_parts (all_at env (Computes f (w.count args)))
            (w.arguments_sites [] both_lists all_at env (references_of (find env f.text)) (rest_of (find env f.text))
            args) calm in
            function_in f (find env f.text) (w.count args) (of_.arguments (named_arguments env args))
            (find_valid sc env f.text visible) (counts args)
            (none_at_site (function_rule f.at (w.count args) (find env f.text)) two.0)
            (arguments_in (references_of (find env f.text)) (rest_of (find env f.text)) args two.1)
            (λ fs xs e l flags. actuals_in fs xs (rest_of (find env f.text)) args flags l
            (subst (λ z. w.arguments_sites [] both_lists all_at env z (rest_of (find env f.text)) args ≡ []) e two.1))
        form_in (Unary op a) calm = expression_in a calm
        form_in (Binary op a b) calm = let two =
            none_in_parts (w.expression_sites [] both_lists all_at env a)
            (w.expression_sites [] both_lists all_at env b)
            calm in (expression_in a two.0, expression_in b two.1)

        pub selectors_in : (ss : Selectors) → w.selectors_sites [] both_lists all_at env ss ≡ []
            → InSelectors p m sc (of_.selectors (named_selectors env ss))
        selectors_in Whole calm = tt
        selectors_in (Select (Index e) rest) calm = let two =
            none_in_parts (w.expression_sites [] both_lists all_at env e)
            (w.selectors_sites [] both_lists all_at env rest)
            calm in (expression_in e two.0, selectors_in rest two.1)
        selectors_in (Select (Field f) rest) calm = selectors_in rest calm

        pub passed_in : (pass : Passing) (e : Expression) → w.passed_sites [] both_lists all_at env pass e ≡ []
            → ArgumentIs pass e
        passed_in pass (ExpressionAt at (Read (Entire x ss))) calm =
            let two = none_in_parts (w.passed_name_sites [] both_lists all_at env pass at x (w.is_whole ss))
            (w.selectors_sites [] both_lists all_at env ss) calm in
            passed_name pass at x (w.is_whole ss) (of_.selectors (named_selectors env ss)) two.0 (selectors_in ss two.1)
        passed_in pass (ExpressionAt at (Number k)) calm = (tt, λ a i. tt)
        passed_in pass (ExpressionAt at (Quoted t)) calm = (tt, λ a i. tt)
        passed_in pass (ExpressionAt at (Apply f args)) calm = (
          form_in (Apply f args) (none_in_parts (all_at env (Bare at pass))
              (w.expression_form_sites [] both_lists all_at env (Apply f args)) calm).1,
          λ a i. call_is_none at f (find env f.text) (of_.arguments (named_arguments env args)) i,
        )
        passed_in pass (ExpressionAt at (Unary op a)) calm = (
          form_in (Unary op a) (none_in_parts (all_at env (Bare at pass))
              (w.expression_form_sites [] both_lists all_at env (Unary op a)) calm).1,
          λ a i. tt,
        )
        passed_in pass (ExpressionAt at (Binary op a b)) calm = (
          form_in (Binary op a b) (none_in_parts (all_at env (Bare at pass))
              (w.expression_form_sites [] both_lists all_at env (Binary op a b)) calm).1,
          λ a i. tt,
        )

        pub actuals_in : (fs : List Bool) (xs : List ℕ) (rest : Passing) (args : Arguments) → AreFlags p m fs xs
            → length fs ≡ w.count args → w.arguments_sites [] both_lists all_at env fs rest args ≡ []
            → InActuals p m sc xs (of_.arguments (named_arguments env args))
        actuals_in [] [] rest NoArgument flags l calm = tt
        actuals_in [] [] rest (AndArgument a more) flags l calm = absurd (omega (arith, l))
        actuals_in [] (x ∷ xs) rest args flags l calm = absurd flags
        actuals_in (f ∷ fs) [] rest args flags l calm = absurd flags
        actuals_in (f ∷ fs) (x ∷ xs) rest NoArgument flags l calm = absurd (omega (arith, l))
        actuals_in (f ∷ fs) (x ∷ xs) rest (AndArgument (Pass e wd) more) (flag, flags) l calm =
            let two = none_in_parts (both_lists (w.width_sites [] both_lists all_at env (next_passing (f ∷ fs) rest)
            (w.place e) wd) (w.passed_sites [] both_lists all_at env (next_passing (f ∷ fs) rest) e))
            (w.arguments_sites [] both_lists all_at env fs rest more) calm in
            let one = none_in_parts (w.width_sites [] both_lists all_at env (next_passing (f ∷ fs) rest) (w.place e) wd)
            (w.passed_sites [] both_lists all_at env (next_passing (f ∷ fs) rest) e) two.0 in
            let r = passed_in (next_passing (f ∷ fs) rest) e one.1 in (
              r.0,
              (λ v at is i. r.1 (aims_reference f fs rest x flag v at is) i),
              actuals_in fs xs rest more flags (omega (arith, l)) two.1,
            )

        pub arguments_in : (fs : List Bool) (rest : Passing) (args : Arguments)
            → w.arguments_sites [] both_lists all_at env fs rest args ≡ []
            → InArguments p m sc (of_.arguments (named_arguments env args))
        arguments_in fs rest NoArgument calm = tt
        arguments_in fs rest (AndArgument (Pass e wd) more) calm =
            let two = none_in_parts
            (both_lists (w.width_sites [] both_lists all_at env (next_passing fs rest) (w.place e) wd)
            (w.passed_sites [] both_lists all_at env (next_passing fs rest) e))
            (w.arguments_sites [] both_lists all_at env (flags_left fs) rest more) calm in
            let one = none_in_parts (w.width_sites [] both_lists all_at env (next_passing fs rest) (w.place e) wd)
            (w.passed_sites [] both_lists all_at env (next_passing fs rest) e) two.0 in (
              (passed_in (next_passing fs rest) e one.1).0,
              width_in (next_passing fs rest) (w.place e) wd one.0,
              arguments_in (flags_left fs) rest more two.1,
            )

        pub width_in : (pass : Passing) (at : Place) (wd : Width)
            → w.width_sites [] both_lists all_at env pass at wd ≡ []
            → InWidth p m sc (named_width env wd)
        width_in pass at NoWidth calm = tt
        width_in pass at (WithWidth e) calm = expression_in e
            (none_in_parts (all_at env (Widens at pass)) (w.expression_sites [] both_lists all_at env e) calm).1
