-- Where no rule of names is broken, each name in a statement is of a visible declaration.
use Rattle.std.proofs.Common.{◌≡◌, ◌⊎◌, inl, inr, refl, ap, sym, ◌∙◌, subst, ℕ, suc, ◌+◌, List, [], ◌∷◌, ◌++◌, Option}
use Rattle.std.proofs.Common.{Some, None, Bool, true, false, if◌then◌else◌, length, slice_get, arith}
use Rattle.std.specs.Prelude.{not, nat_eq}
use Rattle.std.proofs.lemmas.Bool.{not-false}
use Rattle.sp_base.specs.declared.rule.Rule.TheVariants as rule
use Rattle.sp_tree.specs.declared.checked.Role.{Role}
use Rattle.sp_tree.specs.declared.checked.Role.TheVariants as role
use Rattle.sp_tree.specs.declared.meaning.Meaning.{Meaning}
use Rattle.sp_tree.specs.declared.meaning.Meaning.TheVariants as meaning
use Rattle.sp_tree.specs.declared.meaning.Passing.TheVariants as passing
use Rattle.sp_tree.specs.declared.syntax.Name.{Name}
use Rattle.sp_tree.specs.PhaseResults.{refusal_if}
use Rattle.sp_tree.specs.NameFirst.{both_lists, all_at}
use Rattle.sp_tree.specs.NameRules.{Operand, Targets, Bare, target_rule, references_of, rest_of, same_place}
use Rattle.sp_tree.specs.Scopes as names
use Rattle.sp_tree.specs.Scopes.{Env, find}
use Rattle.sp_tree.specs.NameWalk as w
use Rattle.sp_tree.specs.NamedOf as of_
use Rattle.sp_tree.specs.PlainNamed as n
use Rattle.sp_tree.specs.NamedTree.{variable_number, operand_named, named_expression, named_selectors, named_arguments}
use Rattle.sp_tree.specs.NamedTree.{named_width}
use Rattle.sp_tree.specs.PlainSyntax.{Expression, ExpressionAt, Number, Quoted, Read, Apply, Unary, Binary, Entire}
use Rattle.sp_tree.specs.PlainSyntax.{Pass}
use Rattle.sp_tree.specs.PlainSyntax.{Arguments, NoArgument, AndArgument}
use Rattle.sp_tree.specs.Plain as plain
use Rattle.sp_code.specs.Scopes.{Scope, OfBlock, OfIndex, is_block, level, scopes_of}
use Rattle.sp_code.specs.CodeOfTree.{NoIndex}
use Rattle.sp_front.specs.ScopeFacts.{SeenIn, SeenRole, AimedIn}
use Rattle.sp_front.specs.Visible.{IsScope, IsAround, IsValid, AreValid, AllValid, IsVisible, IsChain}
use Rattle.sp_front.proofs.NoBreachInParts.{none_in_parts, none_at_site, none_of_earlier, not_if_none, nat_eq_is}
use Rattle.sp_tree.specs.declared.checked.Variable as checked
use Rattle.sp_tree.specs.declared.meaning.StandardProcedure.{StandardProcedure}
use Rattle.sp_tree.specs.declared.meaning.StandardProcedure.TheVariants as procedure
use Rattle.sp_tree.specs.declared.meaning.Sort.TheVariants as sort
use Rattle.sp_tree.specs.NameRules.{Declares, Assigns, Loops, Calls, procedure_rule, procedure_takes, assign_rule}
use Rattle.sp_tree.specs.NameRules.{loop_rule, is_local}
use Rattle.sp_tree.specs.Scopes.{Local, inner_env, local_of_inner, next_variable}
use Rattle.sp_tree.specs.NameWalk.{statement_local, statements_local, arms_local}
use Rattle.sp_tree.specs.NameWalk.{branches_local, form_local, local_of_index, blocks_around}
use Rattle.sp_tree.specs.NamedTree.{assigned_number, procedure_named, named_statement, named_statement_form}
use Rattle.sp_tree.specs.NamedTree.{named_other, named_statements, named_arms, named_branches, indices, form_indices}
use Rattle.sp_tree.specs.NamedTree.{other_indices, statements_indices, arms_indices, branches_indices}
use Rattle.sp_tree.specs.PlainSyntax.{Statement, Does, Form, Empty, Assign, Call, Sequence, If, While, Repeat, Case}
use Rattle.sp_tree.specs.PlainSyntax.{For, Parallel, Forall, Assume, ElsePart, NoElse, Else, Statements, NoStatement}
use Rattle.sp_tree.specs.PlainSyntax.{AndThen, On, Arms, NoArm, Or, Branches, NoBranch, Beside}
use Rattle.sp_front.specs.ScopeFacts.{IsInForall, ForIn, AreAimed, AreAimedLater, AimsOf, InStatement, InStatementForm}
use Rattle.sp_front.specs.ScopeFacts.{InOther, InStatements, InArms, InBranches}
use Rattle.sp_front.proofs.Names.{level_block, IsValidMeaning, find_valid, seen, aimed, called, target_in}
use Rattle.sp_front.proofs.Names.{expression_in}
use Rattle.sp_front.proofs.Names.{selectors_in, arguments_in, actuals_in, counts}
use Rattle.sp_front.proofs.DeclarationNumbers.{room_at, statement_adds, statements_adds}

-- ---- a statement leaves the block's own declarations as they are

abbrev pub IsKept : Local → Local → Type 0
IsKept l k = (k.here ≡ l.here) × (k.block ≡ l.block) × (k.answer ≡ l.answer)

kept_on : (a b c : Local) → IsKept a b → IsKept b c → IsKept a c
kept_on a b c x y = (y.0 ∙ x.0, y.1 ∙ x.1, y.2 ∙ x.2)

kept : (l : Local) → IsKept l l
kept l = (refl, refl, refl)

mutual
  pub statement_keeps : (l : Local) (s : Statement) → IsKept l (statement_local l s)
  statement_keeps l (Does at form) = form_keeps l form

  form_keeps : (l : Local) (form : Form) → IsKept l (form_local l form)
  form_keeps l Empty = kept l
  form_keeps l (Assign v e) = kept l
  form_keeps l (Call f args) = kept l
  form_keeps l (Sequence ss) = statements_keep l ss
  form_keeps l (If e a NoElse) = statement_keeps l a
  form_keeps l (If e a (Else b)) = kept_on l (statement_local l a) (statement_local (statement_local l a) b)
      (statement_keeps l a) (statement_keeps (statement_local l a) b)
  form_keeps l (While e a) = statement_keeps l a
  form_keeps l (Repeat ss e) = statements_keep l ss
  form_keeps l (Case e choices) = arms_keep l choices
  form_keeps l (For x from down to a) = statement_keeps l a
  form_keeps l (Parallel bs) = branches_keep l bs
  form_keeps l (Forall x from to a) = kept l
  form_keeps l (Assume e) = kept l

  pub statements_keep : (l : Local) (ss : Statements) → IsKept l (statements_local l ss)
  statements_keep l NoStatement = kept l
  statements_keep l (AndThen a rest) = kept_on l (statement_local l a) (statements_local (statement_local l a) rest)
      (statement_keeps l a) (statements_keep (statement_local l a) rest)

  arms_keep : (l : Local) (arms : Arms) → IsKept l (arms_local l arms)
  arms_keep l NoArm = kept l
  arms_keep l (Or (On cs a) rest) = kept_on l (statement_local l a) (arms_local (statement_local l a) rest)
      (statement_keeps l a) (arms_keep (statement_local l a) rest)

  branches_keep : (l : Local) (bs : Branches) → IsKept l (branches_local l bs)
  branches_keep l NoBranch = kept l
  branches_keep l (Beside ss rest) = kept_on l (statements_local l ss) (branches_local (statements_local l ss) rest)
      (statements_keep l ss) (branches_keep (statements_local l ss) rest)

module _ (p : plain.Program) (m : ℕ) where
  -- these variables stand in the program from a number on
  abbrev pub HoldsVariables : ℕ → List checked.Variable → Type 0
  HoldsVariables k [] = Unit {0}
  HoldsVariables k (u ∷ us) = ((v : plain.Variable) × (slice_get p.variables k ≡ Some v) × (v.role ≡ u.role)
      × (v.block ≡ u.block)) × HoldsVariables (suc k) us

  pub holds_parts : (k : ℕ) (us vs : List checked.Variable) → HoldsVariables k (us ++ vs) → HoldsVariables k us
      × HoldsVariables (k + length us) vs
  holds_parts k [] vs h = (tt, subst (λ z. HoldsVariables z vs) (let z : k ≡ k + 0 = omega arith in z) h)
  holds_parts k (u ∷ us) vs h = let r = holds_parts (suc k) us vs h.1 in (
    (h.0, r.0),
    subst (λ z. HoldsVariables z vs) (let z : suc k + length us ≡ k + suc (length us) = omega arith in
        z) r.1,
  )

  all_more : (s : Scope) (sc : List Scope) (bs : List names.Scope) → AllValid p m sc bs → AllValid p m (s ∷ sc) bs
  all_more s sc [] h = tt
  all_more s sc (b ∷ bs) h = (valid_more s sc b h.0, all_more s sc bs h.1)
    where
      around_more : (x b : ℕ) (r : Role) → IsAround p m sc x b r → IsAround p m (s ∷ sc) x b r
      around_more x b role.Console h = h
      around_more x b role.Local h = inr h
      around_more x b role.Value h = inr h
      around_more x b role.Reference h = inr h
      around_more x b role.Index h = inr h
      around_more x b role.Answer h = inr h

      one : (y : Meaning) → IsValid p m sc y → IsValid p m (s ∷ sc) y
      one (meaning.Variable x b r) (v, at, vr, vb, h) = (v, at, vr, vb, around_more x b r h)
      one (meaning.Procedure f fs) (b, (at, flags, (q, e, h)), none) = (b, (at, flags, (q, e, inr h)), none)
      one (meaning.Function f fs) (b, (at, flags, (q, e, h)), ans) = (b, (at, flags, (q, e, inr h)), ans)
      one _ h = h

      valid_more : (s2 : Scope) (sc2 : List Scope) (b : names.Scope) → AreValid p m sc b → AreValid p m (s ∷ sc) b
      valid_more s2 sc2 [] h = tt
      valid_more s2 sc2 (e ∷ es) h = (one e.1 h.0, valid_more s2 sc2 es h.1)

  pub more_valid : (s : Scope) (sc : List Scope) (b : names.Scope) → AreValid p m sc b → AreValid p m (s ∷ sc) b
  more_valid s sc b h = (all_more s sc (b ∷ []) (h, tt)).0

  pub more_all : (s : Scope) (sc : List Scope) (bs : List names.Scope) → AllValid p m sc bs → AllValid p m (s ∷ sc) bs
  more_all s sc bs h = all_more s sc bs h

  pub all_behind : (sc : List Scope) (bs : List names.Scope) (b : names.Scope) → AllValid p m sc bs → AreValid p m sc b
      → AllValid p m sc (bs ++ (b ∷ []))
  all_behind sc [] b h x = (x, tt)
  all_behind sc (c ∷ bs) b h x = (h.0, all_behind sc bs b h.1 x)

  -- what stands around a statement of a block: what is visible, and that the block's own scope is the innermost but for
  -- foralls
  pub record IsPlace (sc : List Scope) (block : ℕ) (around : List names.Scope) (l : Local) : Type 0 where
    pub visible : IsVisible p m sc (inner_env around l)
    pub own : l.block ≡ block
    pub home : IsScope (OfBlock block) sc
    pub near : (level (is_block block) sc ≡ Some 0) ⊎ IsInForall sc
    pub answer : (b : plain.Block) (x : ℕ) → slice_get p.blocks block ≡ Some b → b.answer ≡ Some x → l.answer ≡ x

  pub place_after : (sc : List Scope) (block : ℕ) (around : List names.Scope) (l k : Local) → IsKept l k
      → IsPlace sc block around l → IsPlace sc block around k
  place_after sc block around l k e h = record {
    visible = (h.visible.0, subst (AreValid p m sc) (sym e.0) h.visible.1);
    own = e.1 ∙ h.own;
    home = h.home;
    near = h.near;
    answer = λ b x at ans. e.2 ∙ h.answer b x at ans;
  }

  -- steps: scopes; results: the result of a function is a variable of its own
  module _ (steps : (f q : ℕ) (b : plain.Block) → slice_get p.blocks f ≡ Some b → b.parent ≡ Some q
      → scopes_of p f ≡ OfBlock f ∷ scopes_of p q)
      (results : (f : ℕ) (b : plain.Block) (x : ℕ) → slice_get p.blocks f ≡ Some b → b.answer ≡ Some x
      → (v : plain.Variable) × (slice_get p.variables x ≡ Some v) × (v.role ≡ role.Answer) × (v.block ≡ f))
      (block : ℕ) where
    -- the left side of an assignment
    assign_in : (sc : List Scope) (around : List names.Scope) (l : Local) → IsPlace sc block around l
        → (x : Name) (whole : Bool) (o : Option Meaning) → IsValidMeaning p m sc o
        → assign_rule l.block x.at whole o ≡ None
        → SeenIn p m sc (assigned_number l.answer o) × AimedIn p m (assigned_number l.answer o)
    assign_in sc around l h x true None f e = absurd (cc e)
    assign_in sc around l h x false None f e = absurd (cc e)
    assign_in sc around l h x true (Some (meaning.Constant k)) f e = absurd (cc e)
    assign_in sc around l h x false (Some (meaning.Constant k)) f e = absurd (cc e)
    assign_in sc around l h x true (Some (meaning.Kind k)) f e = absurd (cc e)
    assign_in sc around l h x false (Some (meaning.Kind k)) f e = absurd (cc e)
    assign_in sc around l h x true (Some (meaning.Variable y b r)) f e =
        (seen p m sc y b r f, aimed p m sc y b r x.at f e)
    assign_in sc around l h x false (Some (meaning.Variable y b r)) f e =
        (seen p m sc y b r f, aimed p m sc y b r x.at f e)
    assign_in sc around l h x true (Some (meaning.Procedure b fs)) f e = absurd (cc e)
    assign_in sc around l h x false (Some (meaning.Procedure b fs)) f e = absurd (cc e)
    assign_in sc around l h x true (Some (meaning.StandardFunction g)) f e = absurd (cc e)
    assign_in sc around l h x false (Some (meaning.StandardFunction g)) f e = absurd (cc e)
    assign_in sc around l h x true (Some (meaning.StandardProcedure g)) f e = absurd (cc e)
    assign_in sc around l h x false (Some (meaning.StandardProcedure g)) f e = absurd (cc e)
    assign_in sc around l h x false (Some (meaning.Function b fs)) f e = absurd (cc e)
    assign_in sc around l h x true (Some (meaning.Function b fs)) (k, is, (y, ans)) e =
        let own : b ≡ block = nat_eq_is b l.block
        (not-false (nat_eq b l.block) (not_if_none rule.N7 x.at (not (nat_eq b l.block)) e)) ∙ h.own in
        let at = subst (λ z. slice_get p.blocks z ≡ Some k) own is.0 in
        let same = h.answer k y at ans in
        let (v, v_at, role_is, block_is) = results block k y at ans in
        let up = level_block v.block sc (subst (λ z. IsScope (OfBlock z) sc) (sym block_is) h.home) in (
          subst (SeenIn p m sc) (sym same) (v, v_at, subst (SeenRole p m sc y v) (sym role_is) up),
          subst (AimedIn p m) (sym same) (v, v_at, subst NoIndex (sym role_is) tt),
        )

    -- the variable of a `for`
    loop_in : (sc : List Scope) (around : List names.Scope) (l : Local) → IsPlace sc block around l
        → (x : Name) (o : Option Meaning) → IsValidMeaning p m sc o → loop_rule l.block x.at o ≡ None
        → ForIn p m sc (variable_number o)
    loop_in sc around l h x o f e =
        let two = none_of_earlier (target_rule x.at o) (refusal_if rule.N8 x.at (not (is_local l.block o))) e in
        go o f (not-false (is_local l.block o) (not_if_none rule.N8 x.at (not (is_local l.block o)) two.1))
      where
        local : (y b : ℕ) → IsValid p m sc (meaning.Variable y b role.Local) → nat_eq b l.block ≡ true → ForIn p m sc y
        local y b (v, at, vr, vb, around_) t =
            let own : v.block ≡ block = vb ∙ nat_eq_is b l.block t ∙ h.own in
            (v, at, vr, subst (λ z. (level (is_block z) sc ≡ Some 0) ⊎ IsInForall sc) (sym own) h.near)

        go : (o : Option Meaning) → IsValidMeaning p m sc o → is_local l.block o ≡ true
            → ForIn p m sc (variable_number o)
        go None f t = absurd (cc t)
        go (Some (meaning.Constant k)) f t = absurd (cc t)
        go (Some (meaning.Kind k)) f t = absurd (cc t)
        go (Some (meaning.Variable y b role.Console)) f t = absurd (cc t)
        go (Some (meaning.Variable y b role.Local)) f t = local y b f t
        go (Some (meaning.Variable y b role.Value)) f t = absurd (cc t)
        go (Some (meaning.Variable y b role.Reference)) f t = absurd (cc t)
        go (Some (meaning.Variable y b role.Index)) f t = absurd (cc t)
        go (Some (meaning.Variable y b role.Answer)) f t = absurd (cc t)
        go (Some (meaning.Procedure b fs)) f t = absurd (cc t)
        go (Some (meaning.Function b fs)) f t = absurd (cc t)
        go (Some (meaning.StandardFunction g)) f t = absurd (cc t)
        go (Some (meaning.StandardProcedure g)) f t = absurd (cc t)

    -- what a standard procedure assigns is written as a variable
    module _ (sc : List Scope) (chain : IsChain p m sc) (env : Env) (visible : IsVisible p m sc env) where
      target_passed : (e : Expression) → w.passed_sites [] both_lists all_at env passing.Target e ≡ []
          → (wd : n.Width) (rest : n.Arguments) → AreAimed p m rest
          → AreAimed p m (n.AndArgument (n.Pass (named_expression env e) wd) rest)
      target_passed (ExpressionAt at (Read (Entire x ss))) calm wd rest h =
          go (same_place at x.at) (none_in_parts
          (w.passed_name_sites [] both_lists all_at env passing.Target at x (w.is_whole ss))
          (w.selectors_sites [] both_lists all_at env ss) calm).0
        where
          go : (s : Bool) → (if s then all_at env (Targets x) else
              both_lists (all_at env (Bare at passing.Target)) (all_at env (Operand x (w.is_whole ss)))) ≡ []
              → AreAimed p m (n.AndArgument (n.Pass
              (n.ExpressionAt at (operand_named (find env x.text) x (of_.selectors (named_selectors env ss)))) wd) rest)
          go true c = let t = target_in p m steps sc chain env visible x (find env x.text)
              (of_.selectors (named_selectors env ss)) (find_valid p m sc env x.text visible)
              (none_at_site (target_rule x.at (find env x.text)) c) in
              subst (λ z. AreAimed p m (n.AndArgument (n.Pass (n.ExpressionAt at z) wd) rest)) (sym t.2) (t.1, h)
          go false c = absurd (cc c)
      target_passed (ExpressionAt at (Number k)) calm wd rest h = absurd (cc calm)
      target_passed (ExpressionAt at (Quoted t)) calm wd rest h = absurd (cc calm)
      target_passed (ExpressionAt at (Apply f args)) calm wd rest h = absurd (cc calm)
      target_passed (ExpressionAt at (Unary op a)) calm wd rest h = absurd (cc calm)
      target_passed (ExpressionAt at (Binary op a b)) calm wd rest h = absurd (cc calm)

      targets_in : (args : Arguments) → w.arguments_sites [] both_lists all_at env [] passing.Target args ≡ []
          → AreAimed p m (of_.arguments (named_arguments env args))
      targets_in NoArgument calm = tt
      targets_in (AndArgument (Pass e wd) more) calm =
          let two = none_in_parts (both_lists (w.width_sites [] both_lists all_at env passing.Target (w.place e) wd)
          (w.passed_sites [] both_lists all_at env passing.Target e))
          (w.arguments_sites [] both_lists all_at env [] passing.Target more) calm in
          let one = none_in_parts (w.width_sites [] both_lists all_at env passing.Target (w.place e) wd)
          (w.passed_sites [] both_lists all_at env passing.Target e) two.0 in
          target_passed e one.1 (named_width env wd) (of_.arguments (named_arguments env more)) (targets_in more two.1)

      later_in : (args : Arguments) → w.arguments_sites [] both_lists all_at env (false ∷ []) passing.Target args ≡ []
          → AreAimedLater p m (of_.arguments (named_arguments env args))
      later_in NoArgument calm = tt
      later_in (AndArgument (Pass e wd) more) calm =
          targets_in more (none_in_parts
          (both_lists (w.width_sites [] both_lists all_at env passing.Value (w.place e) wd)
          (w.passed_sites [] both_lists all_at env passing.Value e))
          (w.arguments_sites [] both_lists all_at env [] passing.Target more) calm).1

      -- a call as a statement
      pub call_in : (f : Name) (args : Arguments) → w.call_sites [] both_lists all_at env f args ≡ []
          → InStatementForm p m sc (procedure_named (find env f.text) (of_.arguments (named_arguments env args)))
      call_in f args calm = go (find env f.text) (find_valid p m sc env f.text visible)
          (none_at_site (procedure_rule f.at (w.count args) (find env f.text)) two.0) two.1
        where
          two : (all_at env (Calls f (w.count args)) ≡ [])
              × (w.arguments_sites [] both_lists all_at env (references_of (find env f.text))
              (rest_of (find env f.text))
              args ≡ [])
          two = none_in_parts (all_at env (Calls f (w.count args)))
              (w.arguments_sites [] both_lists all_at env (references_of (find env f.text)) (rest_of (find env f.text))
              args) calm

          aims_in : (g : StandardProcedure) → w.arguments_sites [] both_lists all_at env
              (references_of (Some (meaning.StandardProcedure g))) (rest_of (Some (meaning.StandardProcedure g))) args
              ≡ [] → AimsOf p m g (of_.arguments (named_arguments env args))
          aims_in procedure.Read c = targets_in args c
          aims_in procedure.Readln c = targets_in args c
          aims_in procedure.Write c = tt
          aims_in procedure.Writeln c = tt
          aims_in procedure.Open c = targets_in args c
          aims_in procedure.Send c = tt
          aims_in procedure.Receive c = later_in args c

          go : (o : Option Meaning) → IsValidMeaning p m sc o → procedure_rule f.at (w.count args) o ≡ None
              → w.arguments_sites [] both_lists all_at env (references_of o) (rest_of o) args ≡ []
              → InStatementForm p m sc (procedure_named o (of_.arguments (named_arguments env args)))
          go None h e c = absurd (cc e)
          go (Some (meaning.Constant k)) h e c = absurd (cc e)
          go (Some (meaning.Kind k)) h e c = absurd (cc e)
          go (Some (meaning.Variable y b r)) h e c = absurd (cc e)
          go (Some (meaning.Function b fs)) h e c = absurd (cc e)
          go (Some (meaning.StandardFunction g)) h e c = absurd (cc e)
          go (Some (meaning.Procedure g fs)) (b, is, none) e c =
              let l = nat_eq_is (length fs) (w.count args)
              (not-false (nat_eq (length fs) (w.count args))
              (not_if_none rule.N6 f.at (not (nat_eq (length fs) (w.count args))) e)) in (
                b,
                called p m steps sc chain g fs b is,
                none,
                actuals_in p m steps sc chain env visible fs b.formals passing.Value args is.1 l c,
              )
          go (Some (meaning.StandardProcedure g)) h e c = (
            subst (λ z. procedure_takes g z ≡ true) (sym (counts p m steps sc chain env visible args))
                (not-false (procedure_takes g (w.count args))
                (not_if_none rule.N6 f.at (not (procedure_takes g (w.count args))) e)),
            aims_in g c,
            arguments_in p m steps sc chain env visible (references_of (Some (meaning.StandardProcedure g)))
                (rest_of (Some (meaning.StandardProcedure g))) args c,
          )

    mutual
      pub statement_in : (sc : List Scope) (around : List names.Scope) (l : Local) (s : Statement) → IsChain p m sc
          → IsPlace sc block around l → w.statement_sites [] both_lists all_at around l s ≡ []
          → HoldsVariables (next_variable l.counts) (indices block s) → InStatement p m sc (named_statement around l s)
      statement_in sc around l (Does at form) chain place calm holds = form_in_ sc around l form chain place calm holds

      form_in_ : (sc : List Scope) (around : List names.Scope) (l : Local) (form : Form) → IsChain p m sc
          → IsPlace sc block around l → w.form_sites [] both_lists all_at around l form ≡ []
          → HoldsVariables (next_variable l.counts) (form_indices block form)
          → InStatementForm p m sc (named_statement_form around l form)
      form_in_ sc around l Empty chain place calm holds = tt
      form_in_ sc around l (Assign (Entire x ss) e) chain place calm holds =
          let env = inner_env around l in
          let two = none_in_parts (w.assigned_sites [] both_lists all_at env (Entire x ss))
          (w.expression_sites [] both_lists all_at env e) calm in
          let one = none_in_parts (all_at env (Assigns x (w.is_whole ss)))
          (w.selectors_sites [] both_lists all_at env ss)
          two.0 in
          let a = assign_in sc around l place x (w.is_whole ss) (find env x.text)
          (find_valid p m sc env x.text place.visible)
          (none_at_site (assign_rule l.block x.at (w.is_whole ss) (find env x.text)) one.0) in (
            a.0,
            a.1,
            selectors_in p m steps sc chain env place.visible ss one.1,
            expression_in p m steps sc chain env place.visible e two.1,
          )
      form_in_ sc around l (Call f args) chain place calm holds =
          call_in sc chain (inner_env around l) place.visible f args calm
      form_in_ sc around l (Sequence ss) chain place calm holds = statements_in sc around l ss chain place calm holds
      form_in_ sc around l (If e a o) chain place calm holds =
          let env = inner_env around l in
          let one = none_in_parts (w.expression_sites [] both_lists all_at env e)
          (both_lists (w.statement_sites [] both_lists all_at around l a)
          (w.other_sites [] both_lists all_at around (statement_local l a) o)) calm in
          let two = none_in_parts (w.statement_sites [] both_lists all_at around l a)
          (w.other_sites [] both_lists all_at around (statement_local l a) o) one.1 in
          let h = holds_parts (next_variable l.counts) (indices block a) (other_indices block o) holds in
          let later = subst (λ z. HoldsVariables z (other_indices block o))
          (sym (statement_adds block around l a two.0).variables_are)
          h.1 in (
            expression_in p m steps sc chain env place.visible e one.0,
            statement_in sc around l a chain place two.0 h.0,
            other_in sc around (statement_local l a) o chain
                (place_after sc block around l (statement_local l a) (statement_keeps l a) place) two.1 later,
          )
      form_in_ sc around l (While e a) chain place calm holds =
          let two = none_in_parts (w.expression_sites [] both_lists all_at (inner_env around l) e)
          (w.statement_sites [] both_lists all_at around l a) calm in (
            expression_in p m steps sc chain (inner_env around l) place.visible e two.0,
            statement_in sc around l a chain place two.1 holds,
          )
      form_in_ sc around l (Repeat ss e) chain place calm holds =
          let next = statements_local l ss in
          let two = none_in_parts (w.statements_sites [] both_lists all_at around l ss)
          (w.expression_sites [] both_lists all_at (inner_env around next) e) calm in (
            statements_in sc around l ss chain place two.0 holds,
            expression_in p m steps sc chain (inner_env around next)
                (place_after sc block around l next (statements_keep l ss) place).visible e two.1,
          )
      form_in_ sc around l (Case e choices) chain place calm holds =
          let two = none_in_parts (w.expression_sites [] both_lists all_at (inner_env around l) e)
          (w.arms_sites [] both_lists all_at around l choices) calm in (
            expression_in p m steps sc chain (inner_env around l) place.visible e two.0,
            arms_in sc around l choices chain place two.1 holds,
          )
      form_in_ sc around l (For x from down to a) chain place calm holds =
          let env = inner_env around l in
          let one = none_in_parts (all_at env (Loops x))
          (both_lists (w.expression_sites [] both_lists all_at env from)
          (both_lists (w.expression_sites [] both_lists all_at env to)
          (w.statement_sites [] both_lists all_at around l a))) calm in
          let two = none_in_parts (w.expression_sites [] both_lists all_at env from)
          (both_lists (w.expression_sites [] both_lists all_at env to)
          (w.statement_sites [] both_lists all_at around l a)) one.1 in
          let three = none_in_parts (w.expression_sites [] both_lists all_at env to)
          (w.statement_sites [] both_lists all_at around l a) two.1 in (
            loop_in sc around l place x (find env x.text) (find_valid p m sc env x.text place.visible)
                (none_at_site (loop_rule l.block x.at (find env x.text)) one.0),
            expression_in p m steps sc chain env place.visible from two.0,
            expression_in p m steps sc chain env place.visible to three.0,
            statement_in sc around l a chain place three.1 holds,
          )
      form_in_ sc around l (Parallel bs) chain place calm holds = branches_in sc around l bs chain place calm holds
      form_in_ sc around l (Forall x from to a) chain place calm ((v, vat, vr, vb), holds) =
          let env = inner_env around l in
          let next = local_of_inner l.block l.answer l in
          let index = all_at (inner_env (blocks_around around l) next) (Declares x sort.Variable) in
          let one = none_in_parts (w.expression_sites [] both_lists all_at env from)
          (both_lists (w.expression_sites [] both_lists all_at env to)
          (both_lists index (w.statement_sites [] both_lists all_at (blocks_around around l) (local_of_index l x) a)))
          calm in
          let two = none_in_parts (w.expression_sites [] both_lists all_at env to)
          (both_lists index (w.statement_sites [] both_lists all_at (blocks_around around l) (local_of_index l x) a))
          one.1 in
          let three = none_in_parts index (w.statement_sites [] both_lists all_at (blocks_around around l)
          (local_of_index l x) a) two.1 in
          let room = room_at (inner_env (blocks_around around l) next) x sort.Variable three.0 in
          let k = next_variable l.counts in
          let entry = meaning.Variable k l.block role.Index in
          let is : local_of_index l x ≡ record {
            here = (x.text, entry) ∷ [];
            block = l.block;
            answer = l.answer;
            counts = names.with_one_more sort.Variable l.counts;
          } =
          ap (λ (b : Bool). (if b then next else
          record {
            here = (x.text, entry) ∷ [];
            block = l.block;
            answer = l.answer;
            counts = names.with_one_more sort.Variable l.counts;
          })) room in
          let number : next_variable (local_of_index l x).counts ≡ suc k = ap (λ (z : Local). next_variable z.counts) is
          ∙ (let y : (l.counts.variables + 1) + l.counts.results + 2
          ≡ suc (l.counts.variables + l.counts.results + 2) = omega arith in y) in
          let inner : IsPlace (OfIndex k ∷ sc) block (blocks_around around l) (local_of_index l x) = record {
            visible = (
              all_behind (OfIndex k ∷ sc) around l.here (more_all (OfIndex k) sc around place.visible.0)
                  (more_valid (OfIndex k) sc l.here place.visible.1),
              subst (λ (z : Local). AreValid p m (OfIndex k ∷ sc) z.here) (sym is)
                  ((v, vat, vr, vb ∙ sym place.own, inl refl), tt),
            );
            own = ap (λ (z : Local). z.block) is ∙ place.own;
            home = inr place.home;
            near = inr tt;
            answer = λ b y at ans. ap (λ (z : Local). z.answer) is ∙ place.answer b y at ans;
          } in (
            (v, vat, vr),
            expression_in p m steps sc chain env place.visible from one.0,
            expression_in p m steps sc chain env place.visible to two.0,
            statement_in (OfIndex k ∷ sc) (blocks_around around l) (local_of_index l x) a chain inner three.1
                (subst (λ z. HoldsVariables z (indices block a)) (sym number) holds),
          )
      form_in_ sc around l (Assume e) chain place calm holds =
          expression_in p m steps sc chain (inner_env around l) place.visible e calm

      other_in : (sc : List Scope) (around : List names.Scope) (l : Local) (o : ElsePart) → IsChain p m sc
          → IsPlace sc block around l → w.other_sites [] both_lists all_at around l o ≡ []
          → HoldsVariables (next_variable l.counts) (other_indices block o) → InOther p m sc (named_other around l o)
      other_in sc around l NoElse chain place calm holds = tt
      other_in sc around l (Else a) chain place calm holds = statement_in sc around l a chain place calm holds

      pub statements_in : (sc : List Scope) (around : List names.Scope) (l : Local) (ss : Statements) → IsChain p m sc
          → IsPlace sc block around l → w.statements_sites [] both_lists all_at around l ss ≡ []
          → HoldsVariables (next_variable l.counts) (statements_indices block ss)
          → InStatements p m sc (of_.statements (named_statements around l ss))
      statements_in sc around l NoStatement chain place calm holds = tt
      statements_in sc around l (AndThen a rest) chain place calm holds =
          let two = none_in_parts (w.statement_sites [] both_lists all_at around l a)
          (w.statements_sites [] both_lists all_at around (statement_local l a) rest) calm in
          let h = holds_parts (next_variable l.counts) (indices block a) (statements_indices block rest) holds in (
            statement_in sc around l a chain place two.0 h.0,
            statements_in sc around (statement_local l a) rest chain
                (place_after sc block around l (statement_local l a) (statement_keeps l a) place) two.1
                (subst (λ z. HoldsVariables z (statements_indices block rest))
                (sym (statement_adds block around l a two.0).variables_are)
                h.1),
          )

      arms_in : (sc : List Scope) (around : List names.Scope) (l : Local) (arms : Arms) → IsChain p m sc
          → IsPlace sc block around l → w.arms_sites [] both_lists all_at around l arms ≡ []
          → HoldsVariables (next_variable l.counts) (arms_indices block arms)
          → InArms p m sc (of_.arms (named_arms around l arms))
      arms_in sc around l NoArm chain place calm holds = tt
      arms_in sc around l (Or (On cs a) rest) chain place calm holds =
          let two = none_in_parts (both_lists (w.constants_sites [] both_lists all_at (inner_env around l) cs)
          (w.statement_sites [] both_lists all_at around l a))
          (w.arms_sites [] both_lists all_at around (statement_local l a) rest) calm in
          let one = none_in_parts (w.constants_sites [] both_lists all_at (inner_env around l) cs)
          (w.statement_sites [] both_lists all_at around l a) two.0 in
          let h = holds_parts (next_variable l.counts) (indices block a) (arms_indices block rest) holds in (
            statement_in sc around l a chain place one.1 h.0,
            arms_in sc around (statement_local l a) rest chain
                (place_after sc block around l (statement_local l a) (statement_keeps l a) place) two.1
                (subst (λ z. HoldsVariables z (arms_indices block rest))
                (sym (statement_adds block around l a one.1).variables_are) h.1),
          )

      branches_in : (sc : List Scope) (around : List names.Scope) (l : Local) (bs : Branches) → IsChain p m sc
          → IsPlace sc block around l → w.branches_sites [] both_lists all_at around l bs ≡ []
          → HoldsVariables (next_variable l.counts) (branches_indices block bs)
          → InBranches p m sc (of_.branches (named_branches around l bs))
      branches_in sc around l NoBranch chain place calm holds = tt
      branches_in sc around l (Beside ss rest) chain place calm holds =
          let two = none_in_parts (w.statements_sites [] both_lists all_at around l ss)
          (w.branches_sites [] both_lists all_at around (statements_local l ss) rest) calm in
          let h = holds_parts (next_variable l.counts) (statements_indices block ss) (branches_indices block rest)
          holds in (
            statements_in sc around l ss chain place two.0 h.0,
            branches_in sc around (statements_local l ss) rest chain
                (place_after sc block around l (statements_local l ss) (statements_keep l ss) place) two.1
                (subst (λ z. HoldsVariables z (branches_indices block rest))
                (sym (statements_adds block around l ss two.0).variables_are)
                h.1),
          )
