-- None of this belongs to what the program promises: it is for contracts between crates.
-- What a place asks of an expression, with the rule at it: one name for thirteen rules of TypeRules.antt.
-- What is read, written or opened: one name for three lists of CheckedTree.antt.
use Rattle.std.specs.Prelude.{ℕ, nat_eq, not, Bool, ◌||◌, false, List, Option, Some, None}
use Rattle.std.specs.List.{list_any}
use Rattle.sp_base.specs.declared.place.Place.{Place}
use Rattle.sp_base.specs.declared.rule.Rule.{Rule}
use Rattle.sp_base.specs.declared.rule.Rule.TheVariants as rule
use Rattle.sp_tree.specs.PhaseResults.{FirstRefusal}
use Rattle.sp_tree.specs.NameFirst.{Onward}
use Rattle.sp_tree.specs.PlainNamed.{Argument, Arguments}
use Rattle.sp_tree.specs.PlainChecked as c
use Rattle.sp_types.specs.declared.calls.Part.{Part}
use Rattle.sp_types.specs.declared.calls.Part.TheVariants as part
use Rattle.sp_types.specs.declared.rules.Wanted.{Wanted}
use Rattle.sp_types.specs.declared.rules.Wanted.TheVariants as wanted
use Rattle.sp_types.specs.Tables.{Env}
use Rattle.sp_types.specs.TypeRules.{boolean, is_readable, is_writable, ordinal, channel, differ, messages}
use Rattle.sp_types.specs.TypeRules.{condition_rule}
use Rattle.sp_types.specs.TypeRules.{assign_rule, read_rule, write_rule, channel_rule, message_rule, range_rule}
use Rattle.sp_types.specs.TypeRules.{limit_rule, selector_rule, unary_rule, unary_takes, left_rule, right_rule}
use Rattle.sp_types.specs.TypeRules.{binary_takes, standard_rule, standard_takes}
use Rattle.sp_types.specs.Firsts.{read_first, write_first, channel_first}
use Rattle.sp_types.specs.CheckedTree.{argument_variable, write_form, reads, writes, opens}

-- the rule at an expression, by what its place asks for
abbrev pub wanted_rule : Env → Wanted → Place → Option ℕ → FirstRefusal
wanted_rule env wanted.Condition at k = condition_rule at k
wanted_rule env (wanted.Assigned v) at k = assign_rule at v k
wanted_rule env wanted.Read at k = read_rule at k
wanted_rule env wanted.Written at k = write_rule at k
wanted_rule env wanted.Channel at k = channel_rule env at k
wanted_rule env (wanted.Message c) at k = message_rule env at c k
wanted_rule env wanted.Range at k = range_rule env at k
wanted_rule env (wanted.Limit v) at k = limit_rule at v k
wanted_rule env wanted.Selector at k = selector_rule env at k
wanted_rule env (wanted.Operand op) at k = unary_rule op at k
wanted_rule env (wanted.Left op) at k = left_rule env op at k
wanted_rule env (wanted.Right op left) at k = right_rule env op at left k
wanted_rule env (wanted.Parameter f) at k = standard_rule env f at k

-- the row of that rule
abbrev pub wanted_row : Wanted → Rule
wanted_row wanted.Condition = rule.Y4
wanted_row (wanted.Assigned v) = rule.Y5
wanted_row (wanted.Message c) = rule.Y9
wanted_row wanted.Range = rule.Y10
wanted_row (wanted.Limit v) = rule.Y10
wanted_row wanted.Selector = rule.Y11
wanted_row (wanted.Operand op) = rule.Y1
wanted_row (wanted.Left op) = rule.Y1
wanted_row (wanted.Right op left) = rule.Y1
wanted_row _ = rule.Y8

-- a type that is not among the message types of a channel
abbrev pub refuses : Option (List ℕ) → ℕ → Bool
refuses None k = false
refuses (Some ks) k = not (list_any (nat_eq k) ks)

-- a type that is none that the place asks for
abbrev pub misfits : Env → Wanted → ℕ → Bool
misfits env wanted.Condition k = not (nat_eq boolean k)
misfits env (wanted.Assigned v) k = differ v (Some k)
misfits env wanted.Read k = not (is_readable k)
misfits env wanted.Written k = not (is_writable k)
misfits env wanted.Channel k = not (channel env k)
misfits env (wanted.Message c) k = refuses (messages env c) k
misfits env wanted.Range k = not (ordinal env k)
misfits env (wanted.Limit v) k = differ v (Some k)
misfits env wanted.Selector k = not (ordinal env k)
misfits env (wanted.Operand op) k = not (nat_eq (unary_takes op) k)
misfits env (wanted.Left op) k = not (binary_takes env op k)
misfits env (wanted.Right op left) k = not (binary_takes env op k) || differ left (Some k)
misfits env (wanted.Parameter f) k = not (standard_takes env f k)

-- what is read, written or opened as one statement, of one argument and of all
abbrev pub part_form : Env → Part → Argument → c.Form
part_form env part.Read a = c.ReadValue (argument_variable env a)
part_form env part.Write a = write_form env a
part_form env part.Open a = c.Open (argument_variable env a)

abbrev pub part_forms : Env → Part → Arguments → List c.Form
part_forms env part.Read args = reads env args
part_forms env part.Write args = writes env args
part_forms env part.Open args = opens env args

-- the first broken rule there
abbrev pub part_first : Env → Part → Argument → Onward
part_first env part.Read = read_first env
part_first env part.Write = write_first env
part_first env part.Open = channel_first env
