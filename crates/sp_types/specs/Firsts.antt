-- None of this belongs to what the program promises: it is for contracts between crates.
-- The first broken rule of types in each part of a tree, from what was found before it: the walk of TypeWalk.antt with
-- `earlier_refusal` at each node. The contracts of all walks of this crate cite these, one for each part.
use Rattle.std.specs.Prelude.{ℕ, List, Option}
use Rattle.sp_base.specs.declared.place.Place.{Place}
use Rattle.sp_tree.specs.declared.operators.StandardFn.{StandardFn}
use Rattle.sp_tree.specs.declared.meaning.StandardProcedure.{StandardProcedure}
use Rattle.sp_tree.specs.declared.named.NamedConst.{NamedConst}
use Rattle.sp_types.specs.declared.tables.Ordinal.{Ordinal}
use Rattle.sp_tree.specs.NameFirst.{Onward, none_more, then_rest}
use Rattle.sp_tree.specs.PlainNamed as n
use Rattle.sp_types.specs.Tables.{Env}
use Rattle.sp_types.specs.TypeFirst.{at_node}
use Rattle.sp_types.specs.TypeWalk as w

abbrev pub expression_first : Env → n.Expression → Onward
expression_first = w.expression_sites none_more then_rest at_node

abbrev pub form_first : Env → Place → n.ExpressionForm → Onward
form_first = w.form_sites none_more then_rest at_node

abbrev pub variable_first : Env → n.Variable → Onward
variable_first = w.variable_sites none_more then_rest at_node

abbrev pub selectors_first : Env → Place → Option ℕ → n.Selectors → Onward
selectors_first = w.selectors_sites none_more then_rest at_node

abbrev pub selector_first : Env → Place → Option ℕ → n.Selector → Onward
selector_first = w.selector_sites none_more then_rest at_node

abbrev pub actuals_first : Env → List ℕ → n.Arguments → Onward
actuals_first = w.actuals_sites none_more then_rest at_node

abbrev pub actual_first : Env → Option ℕ → n.Argument → Onward
actual_first = w.actual_sites none_more then_rest at_node

abbrev pub standard_first : Env → StandardFn → n.Arguments → Onward
standard_first = w.standard_sites none_more then_rest at_node

abbrev pub parameter_first : Env → StandardFn → n.Argument → Onward
parameter_first = w.parameter_sites none_more then_rest at_node

abbrev pub read_first : Env → n.Argument → Onward
read_first = w.read_sites none_more then_rest at_node

abbrev pub written_first : Env → n.Expression → Onward
written_first = w.written_sites none_more then_rest at_node

abbrev pub width_first : Env → Place → n.Width → Onward
width_first = w.width_sites none_more then_rest at_node

abbrev pub write_first : Env → n.Argument → Onward
write_first = w.write_sites none_more then_rest at_node

abbrev pub channel_first : Env → n.Argument → Onward
channel_first = w.channel_sites none_more then_rest at_node

abbrev pub message_first : Env → Option ℕ → n.Argument → Onward
message_first = w.message_sites none_more then_rest at_node

abbrev pub each_first : Env → (n.Argument → Onward) → n.Arguments → Onward
each_first = w.each_sites none_more then_rest at_node

abbrev pub messages_first : Env → n.Arguments → Onward
messages_first = w.messages_sites none_more then_rest at_node

abbrev pub perform_first : Env → StandardProcedure → n.Arguments → Onward
perform_first = w.perform_sites none_more then_rest at_node

abbrev pub choice_first : Env → Option ℕ → List Ordinal → NamedConst → Onward
choice_first = w.choice_sites none_more then_rest at_node

abbrev pub choices_first : Env → Option ℕ → List Ordinal → List NamedConst → Onward
choices_first = w.choices_sites none_more then_rest at_node

abbrev pub lists_first : Env → Option ℕ → List Ordinal → List (List NamedConst) → Onward
lists_first = w.lists_sites none_more then_rest at_node

abbrev pub statement_first : Env → n.Statement → Onward
statement_first = w.statement_sites none_more then_rest at_node

abbrev pub statement_form_first : Env → n.Form → Onward
statement_form_first = w.statement_form_sites none_more then_rest at_node

abbrev pub other_first : Env → n.ElsePart → Onward
other_first = w.other_sites none_more then_rest at_node

abbrev pub statements_first : Env → n.Statements → Onward
statements_first = w.statements_sites none_more then_rest at_node

abbrev pub arms_first : Env → n.Arms → Onward
arms_first = w.arms_sites none_more then_rest at_node

abbrev pub arm_first : Env → n.Arm → Onward
arm_first = w.arm_sites none_more then_rest at_node

abbrev pub branches_first : Env → n.Branches → Onward
branches_first = w.branches_sites none_more then_rest at_node
