-- None of this belongs to what the program promises: it is for contracts between crates.
-- The tables of a program before its blocks, and the first numbers of these. The contracts of `program_tables` and
-- `blocks` cite it.
use Rattle.std.specs.Prelude.{ℕ, List, Option}
use Rattle.sp_base.specs.declared.place.Place.{Place}
use Rattle.sp_tree.specs.declared.checked.KindOf.{KindOf}
use Rattle.sp_tree.specs.declared.checked.Variable as checked
use Rattle.sp_tree.specs.PlainNamed as n
use Rattle.sp_types.specs.declared.tables.Ordinal.{Ordinal}
use Rattle.sp_types.specs.Tables.{Env, types_of, roles_of, signatures}
use Rattle.sp_types.specs.TypeWalk.{bodies, starts_from}

-- the first numbers of some of the blocks whose bodies are these
abbrev pub starts_in : List (Place × ℕ) → List n.Block → List ℕ
starts_in all bs = starts_from all (bodies bs)

-- the tables of a program, by the types that its names stand for, its constants and its types
abbrev pub tables_by_names : List ℕ → List (Option Ordinal) → List KindOf → List checked.Variable → List n.Block → Env
tables_by_names numbers known kinds variables blocks = record {
  constants = known;
  kinds = kinds;
  variables = types_of numbers variables;
  roles = roles_of variables;
  blocks = signatures blocks;
  next = 0;
}
