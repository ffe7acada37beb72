-- None of this belongs to what the program promises: it is for contracts between crates.
-- The first broken rule in each part of a tree, from what was found before it: the walk of sp_tree's NameWalk, with
-- `earlier_refusal` at each site. The contracts of all walks of this crate cite these, one for each part.
use Rattle.std.specs.Prelude.{◌≡◌, ℕ, List, [], ◌∷◌, ◌++◌, Option, Bool}
use Rattle.sp_base.specs.declared.place.Place.{Place}
use Rattle.sp_tree.specs.declared.syntax.Name.{Name}
use Rattle.sp_tree.specs.declared.syntax.SynConst.{SynConst}
use Rattle.sp_tree.specs.declared.syntax.SynValue.{SynValue}
use Rattle.sp_tree.specs.declared.syntax.SynKind.{SynKind}
use Rattle.sp_tree.specs.declared.syntax.SynFormal.{SynFormal}
use Rattle.sp_tree.specs.declared.syntax.SynGroup.{SynGroup}
use Rattle.sp_tree.specs.declared.checked.Role.{Role}
use Rattle.sp_tree.specs.NamedTree.{Inside, inside_named}
use Rattle.sp_tree.specs.declared.meaning.Sort.TheVariants as sort
use Rattle.sp_tree.specs.NameRules.{Declares}
use Rattle.sp_tree.specs.declared.meaning.Passing.{Passing}
use Rattle.sp_tree.specs.Scopes.{Scope, Env, Local, inner_env, local_of_inner, local_of_outer}
use Rattle.sp_tree.specs.NameFirst.{Onward, none_more, then_rest, at_site}
use Rattle.sp_tree.specs.NameWalk as w
use Rattle.sp_tree.specs.PlainSyntax as p

abbrev pub expression_first : Env → p.Expression → Onward
expression_first = w.expression_sites none_more then_rest at_site

abbrev pub form_first : Env → p.ExpressionForm → Onward
form_first = w.expression_form_sites none_more then_rest at_site

abbrev pub operand_first : Env → p.Variable → Onward
operand_first = w.operand_sites none_more then_rest at_site

abbrev pub selector_first : Env → p.Selector → Onward
selector_first = w.selector_sites none_more then_rest at_site

abbrev pub selectors_first : Env → p.Selectors → Onward
selectors_first = w.selectors_sites none_more then_rest at_site

abbrev pub arguments_first : Env → List Bool → Passing → p.Arguments → Onward
arguments_first = w.arguments_sites none_more then_rest at_site

abbrev pub argument_first : Env → Passing → p.Argument → Onward
argument_first = w.argument_sites none_more then_rest at_site

abbrev pub passed_first : Env → Passing → p.Expression → Onward
passed_first = w.passed_sites none_more then_rest at_site

abbrev pub passed_name_first : Env → Passing → Place → Name → Bool → Onward
passed_name_first = w.passed_name_sites none_more then_rest at_site

abbrev pub width_first : Env → Passing → Place → p.Width → Onward
width_first = w.width_sites none_more then_rest at_site

abbrev pub value_first : Env → SynValue → Onward
value_first = w.value_sites none_more then_rest at_site

abbrev pub constants_first : Env → List SynConst → Onward
constants_first = w.constants_sites none_more then_rest at_site

abbrev pub assigned_first : Env → p.Variable → Onward
assigned_first = w.assigned_sites none_more then_rest at_site

abbrev pub call_first : Env → Name → p.Arguments → Onward
call_first = w.call_sites none_more then_rest at_site

abbrev pub statement_first : List Scope → Local → p.Statement → Onward
statement_first = w.statement_sites none_more then_rest at_site

abbrev pub statement_form_first : List Scope → Local → p.Form → Onward
statement_form_first = w.form_sites none_more then_rest at_site

abbrev pub other_first : List Scope → Local → p.ElsePart → Onward
other_first = w.other_sites none_more then_rest at_site

abbrev pub statements_first : List Scope → Local → p.Statements → Onward
statements_first = w.statements_sites none_more then_rest at_site

abbrev pub arms_first : List Scope → Local → p.Arms → Onward
arms_first = w.arms_sites none_more then_rest at_site

abbrev pub arm_first : List Scope → Local → p.Arm → Onward
arm_first = w.arm_sites none_more then_rest at_site

abbrev pub branches_first : List Scope → Local → p.Branches → Onward
branches_first = w.branches_sites none_more then_rest at_site

-- the index of a forall and its element statement, in the block of the index
abbrev pub indexed_first : List Scope → Local → Name → p.Statement → Onward
indexed_first around l x s given = statement_first around (w.index_local l x) s
    (at_site (inner_env around l) (Declares x sort.Variable) given)

-- the same from the block around it
abbrev pub element_first : List Scope → Local → Name → p.Statement → Onward
element_first around l x s = indexed_first (w.blocks_around around l) (local_of_inner l.block l.answer l) x s

-- from a block that was opened back to the one around it, which is that of a procedure and has a result
abbrev pub Leaves : ℕ → ℕ → Env → Env → Type 0
Leaves block answer old new =
    (rest : List Scope) (b : Scope) → old.around ≡ rest ++ (b ∷ [])
    → new ≡ inner_env rest (record { here = b; block = block; answer = answer; counts = old.local.counts })

abbrev pub bound_first : Env → Name → SynValue → Onward
bound_first = w.bound_sites none_more then_rest at_site

abbrev pub names_first : List Scope → Role → Local → List Name → Onward
names_first = w.names_sites none_more then_rest at_site

abbrev pub heading_first : Env → List SynFormal → Onward
heading_first = w.heading_sites none_more then_rest at_site

abbrev pub answer_first : Env → Option Name → Onward
answer_first = w.answer_sites none_more then_rest at_site

abbrev pub formals_first : List Scope → Local → List SynFormal → Onward
formals_first = w.formals_sites none_more then_rest at_site

abbrev pub fields_first : Env → List (List ℕ) → List Name → Onward
fields_first = w.fields_sites none_more then_rest at_site

abbrev pub groups_first : Env → Name → List (List ℕ) → List SynGroup → Onward
groups_first = w.groups_sites none_more then_rest at_site

abbrev pub messages_first : Env → Name → List Name → Onward
messages_first = w.messages_sites none_more then_rest at_site

abbrev pub enumerated_first : List Scope → Local → List Name → Onward
enumerated_first = w.enumerated_sites none_more then_rest at_site

abbrev pub kind_first : Env → Name → SynKind → Onward
kind_first = w.kind_sites none_more then_rest at_site

abbrev pub kind_constants_first : List Scope → Local → SynKind → Onward
kind_constants_first = w.kind_constants_sites none_more then_rest at_site

abbrev pub title_first : Env → Name → List SynFormal → Option Name → Onward
title_first = w.title_sites none_more then_rest at_site

abbrev pub parts_first : List Scope → Local → p.Parts → Onward
parts_first = w.parts_sites none_more then_rest at_site

abbrev pub part_first : List Scope → Local → p.Part → Onward
part_first = w.part_sites none_more then_rest at_site

abbrev pub files_first : List (List ℕ) → List Name → Onward
files_first = w.files_sites none_more then_rest at_site

-- a block's parts and statement part
abbrev pub block_first : List Scope → Local → p.Parts → p.Statement → Onward
block_first around l parts body given = statement_first around (w.parts_local l parts) body
    (parts_first around l parts given)

abbrev pub block_local : Local → p.Parts → p.Statement → Local
block_local l parts body = w.statement_local (w.parts_local l parts) body

-- a procedure's parameters and block, in its own block
abbrev pub inner_first : List Scope → Local → List SynFormal → Option Name → p.Parts → p.Statement → Onward
inner_first around l fs answer parts body given =
    block_first around (w.answer_local (w.formals_local l fs) answer) parts body (formals_first around l fs given)

abbrev pub inner_local : Local → List SynFormal → Option Name → p.Parts → p.Statement → Local
inner_local l fs answer parts body = block_local (w.answer_local (w.formals_local l fs) answer) parts body

-- the same from the block around it, in which its name is declared
abbrev pub opened_first : ℕ → List Scope → Local → List SynFormal → Option Name → p.Parts → p.Statement → Onward
opened_first block around l fs answer parts body =
    inner_first (w.blocks_around around l) (local_of_inner block 0 l) fs answer parts body

abbrev pub opened_local : ℕ → Local → List SynFormal → Option Name → p.Parts → p.Statement → Local
opened_local block l fs answer parts body =
    local_of_outer l (inner_local (local_of_inner block 0 l) fs answer parts body)

abbrev pub inner_named : List Scope → Local → List SynFormal → Option Name → p.Parts → p.Statement → Inside
inner_named around l fs answer parts body = inside_named around (w.answer_local (w.formals_local l fs) answer) parts
    body

abbrev pub opened_named : ℕ → List Scope → Local → List SynFormal → Option Name → p.Parts → p.Statement → Inside
opened_named block around l fs answer parts body =
    inner_named (w.blocks_around around l) (local_of_inner block 0 l) fs answer parts body
