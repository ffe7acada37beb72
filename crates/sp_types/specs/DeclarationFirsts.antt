-- None of this belongs to what the program promises: it is for contracts between crates.
-- The first broken rule of types at declarations and blocks, from what was found before it: the walk of TypeWalk.antt
-- with `earlier_refusal` at each node. The contracts of `declarations`, `blocks` and `program` cite it.
use Rattle.std.specs.Prelude.{ℕ, List, Option}
use Rattle.sp_base.specs.declared.place.Place.{Place}
use Rattle.sp_tree.specs.declared.checked.Variable as checked
use Rattle.sp_tree.specs.declared.named.NamedAnswer.{NamedAnswer}
use Rattle.sp_tree.specs.declared.named.NamedConstant.{NamedConstant}
use Rattle.sp_tree.specs.declared.named.NamedKind.{NamedKind}
use Rattle.sp_tree.specs.declared.named.NamedKindForm.{NamedKindForm}
use Rattle.sp_tree.specs.NameFirst.{Onward, none_more, then_rest}
use Rattle.sp_tree.specs.PlainNamed as n
use Rattle.sp_types.specs.declared.tables.Ordinal.{Ordinal}
use Rattle.sp_types.specs.Tables.{Env}
use Rattle.sp_types.specs.TypeFirst.{at_node}
use Rattle.sp_types.specs.TypeWalk as w

abbrev pub constants_first : List (Option Ordinal) → List NamedConstant → Onward
constants_first = w.constants_sites none_more then_rest at_node

abbrev pub bounds_first : List (Option Ordinal) → NamedKindForm → Onward
bounds_first = w.bounds_sites none_more then_rest at_node

abbrev pub kinds_first : List (Option Ordinal) → List NamedKind → Onward
kinds_first = w.kinds_sites none_more then_rest at_node

abbrev pub cells_first : List Place → List ℕ → Onward
cells_first = w.cells_sites none_more then_rest at_node

abbrev pub answer_first : Env → Option NamedAnswer → Onward
answer_first = w.answer_sites none_more then_rest at_node

abbrev pub block_first : List ℕ → List ℕ → List checked.Variable → ℕ → Env → n.Block → Onward
block_first = w.block_sites none_more then_rest at_node

abbrev pub blocks_first : List ℕ → List ℕ → List checked.Variable → ℕ → Env → List ℕ → List n.Block → Onward
blocks_first = w.blocks_sites none_more then_rest at_node
