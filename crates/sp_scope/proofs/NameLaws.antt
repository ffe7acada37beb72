-- What the code finds is the first of all broken rules of names of a program.
use Rattle.std.proofs.Common.{◌≡◌, refl, sym, ℕ, List, [], ◌∷◌, Option, Some, None, Bool, true, false}
use Rattle.std.proofs.Common.{if◌then◌else◌, ◌&&◌}
use Rattle.sp_base.specs.declared.place.Place.{Place}
use Rattle.sp_tree.specs.declared.checked.Role.{Role}
use Rattle.sp_tree.specs.declared.meaning.Passing.{Passing}
use Rattle.sp_tree.specs.declared.syntax.Name.{Name}
use Rattle.sp_tree.specs.declared.syntax.SynConst.{SynConst}
use Rattle.sp_tree.specs.declared.syntax.SynValue.{SynValue}
use Rattle.sp_tree.specs.declared.syntax.SynValue.TheVariants as value
use Rattle.sp_tree.specs.declared.syntax.SynKind.{SynKind}
use Rattle.sp_tree.specs.declared.syntax.SynKind.TheVariants as kinds
use Rattle.sp_tree.specs.declared.syntax.SynFormal.{SynFormal}
use Rattle.sp_tree.specs.declared.syntax.SynGroup.{SynGroup}
use Rattle.sp_tree.specs.PhaseResults.{FirstRefusal, earlier_refusal, refusal_list, first_of_refusals}
use Rattle.sp_tree.specs.Scopes.{Scope, Env, Local, with_declaration, variable, next_constant}
use Rattle.sp_tree.specs.declared.meaning.Meaning.TheVariants as meaning
use Rattle.sp_tree.specs.declared.meaning.Sort.TheVariants as sort
use Rattle.sp_tree.specs.NameRules.{Site, broken_rule, needs_variable, same_place}
use Rattle.sp_tree.specs.NameWalk as w
use Rattle.sp_tree.specs.NameFirst.{none_more, then_rest, at_site, both_lists, all_at, names_first, broken_name_rules}
use Rattle.sp_tree.specs.PlainSyntax.{Expression, ExpressionAt, ExpressionForm, Number, Quoted, Read, Apply, Unary}
use Rattle.sp_tree.specs.PlainSyntax.{Binary}
use Rattle.sp_tree.specs.PlainSyntax.{Variable, Entire, Selector, Index, Field, Selectors, Whole, Select, Argument}
use Rattle.sp_tree.specs.PlainSyntax.{Pass, Width, NoWidth, WithWidth, Arguments, NoArgument, AndArgument, Statement}
use Rattle.sp_tree.specs.PlainSyntax.{Does}
use Rattle.sp_tree.specs.PlainSyntax.{Form, Empty, Assign, Call, Sequence, If, While, Repeat, Case, For, Parallel}
use Rattle.sp_tree.specs.PlainSyntax.{Forall, Assume, ElsePart, NoElse, Else, Statements, NoStatement, AndThen, Arm, On}
use Rattle.sp_tree.specs.PlainSyntax.{Arms, NoArm, Or, Branches, NoBranch, Beside, Part, Const, Kind, Var, Proc, Parts}
use Rattle.sp_tree.specs.PlainSyntax.{NoPart, Declare, Program}
use Rattle.sp_tree.proofs.BreachLists.{lesser_none, Leads, no_more, follows}

-- what holds of two ways to gather, at nothing, at a site and of two parts, holds of them at each tree
module _ {M N : Type 0} (none : M) (join : M → M → M) (site : Env → Site → M) (none2 : N) (join2 : N → N → N)
    (site2 : Env → Site → N) (R : M → N → Type 0) (nothing : R none none2)
    (and : (a c : M) (b d : N) → R a b → R c d → R (join a c) (join2 b d))
    (at : (env : Env) (s : Site) → R (site env s) (site2 env s)) where
  chosen : (b : Bool) (a c : M) (a2 c2 : N) → R a a2 → R c c2 → R (if b then a else c) (if b then a2 else c2)
  chosen true a c a2 c2 p q = p
  chosen false a c a2 c2 p q = q

  module _ (env : Env) where
    passed_name_leads : (p : Passing) (pl : Place) (x : Name) (whole : Bool)
        → R (w.passed_name_sites none join site env p pl x whole)
        (w.passed_name_sites none2 join2 site2 env p pl x whole)
    passed_name_leads p pl x whole = chosen (needs_variable p && same_place pl x.at) _ _ _ _ (at env _)
        (and _ _ _ _ (at env _) (at env _))

    mutual
      expression_leads : (e : Expression) → R (w.expression_sites none join site env e)
          (w.expression_sites none2 join2 site2 env e)
      expression_leads (ExpressionAt pl form) = form_leads form

      form_leads : (e : ExpressionForm) → R (w.expression_form_sites none join site env e)
          (w.expression_form_sites none2 join2 site2 env e)
      form_leads (Number n) = nothing
      form_leads (Quoted t) = nothing
      form_leads (Read v) = operand_leads v
      form_leads (Apply f args) = and _ _ _ _ (at env _) (arguments_leads _ _ args)
      form_leads (Unary op a) = expression_leads a
      form_leads (Binary op a b) = and _ _ _ _ (expression_leads a) (expression_leads b)

      operand_leads : (v : Variable) → R (w.operand_sites none join site env v)
          (w.operand_sites none2 join2 site2 env v)
      operand_leads (Entire x ss) = and _ _ _ _ (at env _) (selectors_leads ss)

      selector_leads : (s : Selector) → R (w.selector_sites none join site env s)
          (w.selector_sites none2 join2 site2 env s)
      selector_leads (Index e) = expression_leads e
      selector_leads (Field f) = nothing

      selectors_leads : (ss : Selectors) → R (w.selectors_sites none join site env ss)
          (w.selectors_sites none2 join2 site2 env ss)
      selectors_leads Whole = nothing
      selectors_leads (Select s rest) = and _ _ _ _ (selector_leads s) (selectors_leads rest)

      arguments_leads : (flags : List Bool) (rest : Passing) (args : Arguments)
          → R (w.arguments_sites none join site env flags rest args)
          (w.arguments_sites none2 join2 site2 env flags rest args)
      arguments_leads flags rest NoArgument = nothing
      arguments_leads flags rest (AndArgument a args) = and _ _ _ _ (argument_leads _ a) (arguments_leads _ rest args)

      argument_leads : (p : Passing) (a : Argument)
          → R (w.argument_sites none join site env p a) (w.argument_sites none2 join2 site2 env p a)
      argument_leads p (Pass e width) = and _ _ _ _ (width_leads p _ width) (passed_leads p e)

      width_leads : (p : Passing) (pl : Place) (width : Width)
          → R (w.width_sites none join site env p pl width) (w.width_sites none2 join2 site2 env p pl width)
      width_leads p pl NoWidth = nothing
      width_leads p pl (WithWidth e) = and _ _ _ _ (at env _) (expression_leads e)

      passed_leads : (p : Passing) (e : Expression)
          → R (w.passed_sites none join site env p e) (w.passed_sites none2 join2 site2 env p e)
      passed_leads p (ExpressionAt pl (Number n)) = and _ _ _ _ (at env _) nothing
      passed_leads p (ExpressionAt pl (Quoted t)) = and _ _ _ _ (at env _) nothing
      passed_leads p (ExpressionAt pl (Read (Entire x ss))) =
          and _ _ _ _ (passed_name_leads p pl x _) (selectors_leads ss)
      passed_leads p (ExpressionAt pl (Apply f args)) =
          and _ _ _ _ (at env _) (and _ _ _ _ (at env _) (arguments_leads _ _ args))
      passed_leads p (ExpressionAt pl (Unary op a)) = and _ _ _ _ (at env _) (expression_leads a)
      passed_leads p (ExpressionAt pl (Binary op a b)) =
          and _ _ _ _ (at env _) (and _ _ _ _ (expression_leads a) (expression_leads b))

  value_leads : (env : Env) (v : SynValue) → R (w.value_sites none join site env v)
      (w.value_sites none2 join2 site2 env v)
  value_leads env (value.Number n) = nothing
  value_leads env (value.Quoted t) = nothing
  value_leads env (value.Named x) = at env _

  constants_leads : (env : Env) (cs : List SynConst)
      → R (w.constants_sites none join site env cs) (w.constants_sites none2 join2 site2 env cs)
  constants_leads env [] = nothing
  constants_leads env (c ∷ cs) = and _ _ _ _ (value_leads env _) (constants_leads env cs)

  assigned_leads : (env : Env) (v : Variable)
      → R (w.assigned_sites none join site env v) (w.assigned_sites none2 join2 site2 env v)
  assigned_leads env (Entire x ss) = and _ _ _ _ (at env _) (selectors_leads env ss)

  call_leads : (env : Env) (f : Name) (args : Arguments)
      → R (w.call_sites none join site env f args) (w.call_sites none2 join2 site2 env f args)
  call_leads env f args = and _ _ _ _ (at env _) (arguments_leads env _ _ args)

  mutual
    statement_leads : (around : List Scope) (l : Local) (s : Statement)
        → R (w.statement_sites none join site around l s) (w.statement_sites none2 join2 site2 around l s)
    statement_leads around l (Does pl form) = statement_form_leads around l form

    statement_form_leads : (around : List Scope) (l : Local) (f : Form)
        → R (w.form_sites none join site around l f) (w.form_sites none2 join2 site2 around l f)
    statement_form_leads around l Empty = nothing
    statement_form_leads around l (Assign v e) = and _ _ _ _ (assigned_leads _ v) (expression_leads _ e)
    statement_form_leads around l (Call f args) = call_leads _ f args
    statement_form_leads around l (Sequence ss) = statements_leads around l ss
    statement_form_leads around l (If e s o) =
        and _ _ _ _ (expression_leads _ e) (and _ _ _ _ (statement_leads around l s) (other_leads around _ o))
    statement_form_leads around l (While e s) = and _ _ _ _ (expression_leads _ e) (statement_leads around l s)
    statement_form_leads around l (Repeat ss e) = and _ _ _ _ (statements_leads around l ss) (expression_leads _ e)
    statement_form_leads around l (Case e choices) = and _ _ _ _ (expression_leads _ e) (arms_leads around l choices)
    statement_form_leads around l (For x from down to s) =
        and _ _ _ _ (at _ _) (and _ _ _ _ (expression_leads _ from)
        (and _ _ _ _ (expression_leads _ to) (statement_leads around l s)))
    statement_form_leads around l (Parallel bs) = branches_leads around l bs
    statement_form_leads around l (Forall x from to s) =
        and _ _ _ _ (expression_leads _ from)
        (and _ _ _ _ (expression_leads _ to) (and _ _ _ _ (at _ _) (statement_leads _ _ s)))
    statement_form_leads around l (Assume e) = expression_leads _ e

    other_leads : (around : List Scope) (l : Local) (o : ElsePart)
        → R (w.other_sites none join site around l o) (w.other_sites none2 join2 site2 around l o)
    other_leads around l NoElse = nothing
    other_leads around l (Else s) = statement_leads around l s

    statements_leads : (around : List Scope) (l : Local) (ss : Statements)
        → R (w.statements_sites none join site around l ss) (w.statements_sites none2 join2 site2 around l ss)
    statements_leads around l NoStatement = nothing
    statements_leads around l (AndThen s rest) =
        and _ _ _ _ (statement_leads around l s) (statements_leads around (w.statement_local l s) rest)

    arms_leads : (around : List Scope) (l : Local) (choices : Arms)
        → R (w.arms_sites none join site around l choices) (w.arms_sites none2 join2 site2 around l choices)
    arms_leads around l NoArm = nothing
    arms_leads around l (Or a rest) = and _ _ _ _ (arm_leads around l a) (arms_leads around (w.arm_local l a) rest)

    arm_leads : (around : List Scope) (l : Local) (a : Arm)
        → R (w.arm_sites none join site around l a) (w.arm_sites none2 join2 site2 around l a)
    arm_leads around l (On cs s) = and _ _ _ _ (constants_leads _ cs) (statement_leads around l s)

    branches_leads : (around : List Scope) (l : Local) (bs : Branches)
        → R (w.branches_sites none join site around l bs) (w.branches_sites none2 join2 site2 around l bs)
    branches_leads around l NoBranch = nothing
    branches_leads around l (Beside ss rest) =
        and _ _ _ _ (statements_leads around l ss) (branches_leads around (w.statements_local l ss) rest)

  names_leads : (around : List Scope) (r : Role) (l : Local) (xs : List Name)
      → R (w.names_sites none join site around r l xs) (w.names_sites none2 join2 site2 around r l xs)
  names_leads around r l [] = nothing
  names_leads around r l (x ∷ xs) = and _ _ _ _ (at _ _)
      (names_leads around r (with_declaration l x.text sort.Variable (variable l r)) xs)

  heading_leads : (env : Env) (fs : List SynFormal)
      → R (w.heading_sites none join site env fs) (w.heading_sites none2 join2 site2 env fs)
  heading_leads env [] = nothing
  heading_leads env (f ∷ fs) = and _ _ _ _ (at env _) (heading_leads env fs)

  answer_leads : (env : Env) (r : Option Name)
      → R (w.answer_sites none join site env r) (w.answer_sites none2 join2 site2 env r)
  answer_leads env None = nothing
  answer_leads env (Some t) = at env _

  formals_leads : (around : List Scope) (l : Local) (fs : List SynFormal)
      → R (w.formals_sites none join site around l fs) (w.formals_sites none2 join2 site2 around l fs)
  formals_leads around l [] = nothing
  formals_leads around l (f ∷ fs) = and _ _ _ _ (names_leads around _ l _)
      (formals_leads around (w.names_local (w.role_of f.by_reference) l f.names) fs)

  bound_leads : (env : Env) (own : Name) (v : SynValue)
      → R (w.bound_sites none join site env own v) (w.bound_sites none2 join2 site2 env own v)
  bound_leads env own (value.Number n) = nothing
  bound_leads env own (value.Quoted t) = nothing
  bound_leads env own (value.Named x) = at env _

  fields_leads : (env : Env) (before : List (List ℕ)) (xs : List Name)
      → R (w.fields_sites none join site env before xs) (w.fields_sites none2 join2 site2 env before xs)
  fields_leads env before [] = nothing
  fields_leads env before (x ∷ xs) = and _ _ _ _ (at env _) (fields_leads env (x.text ∷ before) xs)

  groups_leads : (env : Env) (own : Name) (before : List (List ℕ)) (gs : List SynGroup)
      → R (w.groups_sites none join site env own before gs) (w.groups_sites none2 join2 site2 env own before gs)
  groups_leads env own before [] = nothing
  groups_leads env own before (g ∷ gs) = and _ _ _ _ (fields_leads env before _)
      (and _ _ _ _ (at env _) (groups_leads env own (w.names_with_fields before g.names) gs))

  messages_leads : (env : Env) (own : Name) (ts : List Name)
      → R (w.messages_sites none join site env own ts) (w.messages_sites none2 join2 site2 env own ts)
  messages_leads env own [] = nothing
  messages_leads env own (t ∷ ts) = and _ _ _ _ (at env _) (messages_leads env own ts)

  enumerated_leads : (around : List Scope) (l : Local) (xs : List Name)
      → R (w.enumerated_sites none join site around l xs) (w.enumerated_sites none2 join2 site2 around l xs)
  enumerated_leads around l [] = nothing
  enumerated_leads around l (x ∷ xs) = and _ _ _ _ (at _ _)
      (enumerated_leads around (with_declaration l x.text sort.Constant (meaning.Constant (next_constant l.counts))) xs)

  kind_leads : (env : Env) (own : Name) (k : SynKind)
      → R (w.kind_sites none join site env own k) (w.kind_sites none2 join2 site2 env own k)
  kind_leads env own (kinds.Alias t) = at env _
  kind_leads env own (kinds.Enumeration xs) = nothing
  kind_leads env own (kinds.Array a b t) = and _ _ _ _ (bound_leads env own _)
      (and _ _ _ _ (bound_leads env own _) (at env _))
  kind_leads env own (kinds.Record gs) = groups_leads env own [] gs
  kind_leads env own (kinds.Channel ts) = messages_leads env own ts

  kind_constants_leads : (around : List Scope) (l : Local) (k : SynKind)
      → R (w.kind_constants_sites none join site around l k) (w.kind_constants_sites none2 join2 site2 around l k)
  kind_constants_leads around l (kinds.Enumeration xs) = enumerated_leads around l xs
  kind_constants_leads _ _ _ = nothing

  title_leads : (env : Env) (x : Name) (fs : List SynFormal) (r : Option Name)
      → R (w.title_sites none join site env x fs r) (w.title_sites none2 join2 site2 env x fs r)
  title_leads env x fs r = and _ _ _ _ (at env _) (and _ _ _ _ (heading_leads env fs) (answer_leads env r))

  mutual
    parts_leads : (around : List Scope) (l : Local) (ps : Parts)
        → R (w.parts_sites none join site around l ps) (w.parts_sites none2 join2 site2 around l ps)
    parts_leads around l NoPart = nothing
    parts_leads around l (Declare p rest) = and _ _ _ _ (part_leads around l p)
        (parts_leads around (w.part_local l p) rest)

    part_leads : (around : List Scope) (l : Local) (p : Part)
        → R (w.part_sites none join site around l p) (w.part_sites none2 join2 site2 around l p)
    part_leads around l (Const x c) = and _ _ _ _ (at _ _) (value_leads _ _)
    part_leads around l (Kind x k) = and _ _ _ _ (at _ _)
        (and _ _ _ _ (kind_leads _ x k) (kind_constants_leads around _ k))
    part_leads around l (Var xs t) = and _ _ _ _ (at _ _) (names_leads around _ l xs)
    part_leads around l (Proc x fs answer parts body) =
        and _ _ _ _ (title_leads _ x fs answer)
        (and _ _ _ _ (formals_leads _ _ fs) (and _ _ _ _ (parts_leads _ _ parts) (statement_leads _ _ body)))

  files_leads : (before : List (List ℕ)) (xs : List Name)
      → R (w.files_sites none join site before xs) (w.files_sites none2 join2 site2 before xs)
  files_leads before [] = nothing
  files_leads before (x ∷ xs) = and _ _ _ _ (at _ _) (files_leads (x.text ∷ before) xs)

  program_leads : (p : Program) → R (w.program_sites none join site p) (w.program_sites none2 join2 site2 p)
  program_leads p = and _ _ _ _ (files_leads [] p.heading)
      (and _ _ _ _ (parts_leads _ _ p.block.parts) (statement_leads _ _ p.block.body))

taken_listed : (f given : FirstRefusal) → first_of_refusals (refusal_list f) given ≡ earlier_refusal given f
taken_listed None given = lesser_none given
taken_listed (Some r) given = refl

at_one : (env : Env) (s : Site) → Leads (all_at env s) (at_site env s)
at_one env s given = taken_listed (broken_rule env s) given

-- the first broken rule is the first of all
pub first_of_all : (p : Program) → names_first p ≡ first_of_refusals (broken_name_rules p) None
first_of_all p = sym (program_leads [] both_lists all_at none_more then_rest at_site Leads no_more follows at_one
    p None)
