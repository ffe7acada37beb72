-- None of this belongs to what the program promises: it is for contracts between crates.
-- What a part of the walk answers: its tree as the plain one, with the first broken rule up to its end. The contracts
-- of all walks of this crate cite it.
use Rattle.std.specs.Prelude.{List, [], ◌∷◌, ◌++◌, Option, Some}
use Rattle.std.specs.HashMap.{HashMap}
use Rattle.std.specs.Option.{option_map}
pub use Rattle.sp_tree.specs.PhaseResults.{PassesTo}
use Rattle.sp_tree.specs.declared.syntax.Name.{Name}
use Rattle.sp_tree.specs.declared.syntax.SynFormal.{SynFormal}
use Rattle.sp_tree.specs.PlainNamed as n
use Rattle.sp_base.specs.declared.place.Place.{Place}
use Rattle.sp_tree.specs.declared.named.NamedExpr.{NamedExpr}
use Rattle.sp_tree.specs.NamedOf.{expression_of, statement_of, program_of, width}
use Rattle.sp_tree.specs.NamedTree.{Inside, program_block, formals_named, answer_named, numbers, answer_of}
use Rattle.sp_tree.specs.NamedTree.{standard_constants, standard_kinds, consoles}
use Rattle.sp_tree.specs.Scopes.{Env, next_block, next_variable}
use Rattle.sp_scope.specs.declared.block_parts.BlockParts.{BlockParts}
use Rattle.sp_scope.specs.declared.block_parts.Heading.{Heading}

-- the declarations that a table in memory holds
abbrev pub entries_of : {K V S : Type 0} → HashMap K V S → List (K × V)
entries_of table = table.entries

-- the width of an argument, if it has one
abbrev pub width_of : Option NamedExpr → n.Width
width_of e = width (option_map expression_of e)

-- a part that is plain already
abbrev pub itself : {A : Type 0} → A → A
itself x = x

-- what stands in a block, as the plain record
abbrev pub seen_block : BlockParts → Inside
seen_block b = record { answer = b.answer; body = statement_of b.body; indices = b.indices; parts = program_of b.parts }

-- what a heading gives, by the declarations around it
abbrev pub heading_named : Env → Name → List SynFormal → Option Name → Heading
heading_named env x fs answer = record {
  block = next_block env.local.counts;
  parent = env.local.block;
  formals = formals_named env (next_block env.local.counts) fs;
  numbers = numbers (next_variable env.local.counts) (formals_named env (next_block env.local.counts) fs);
  results = answer_named env (next_block env.local.counts) x answer;
}

-- what a procedure declares, by its heading and block
abbrev pub declared_by : Heading → Name → Option Name → Inside → n.Program
declared_by h x answer i = record {
  constants = i.parts.constants;
  kinds = i.parts.kinds;
  variables = h.formals ++ (h.results ++ (i.parts.variables ++ i.indices));
  blocks = record {
    name = x.text;
    parent = Some h.parent;
    formals = h.numbers;
    answer = answer_of i.answer answer;
    body = i.body;
    at = x.at;
  } ∷ i.parts.blocks;
}

-- the standard declarations, as tables of their own
abbrev pub standard_tables : Place → n.Program
standard_tables at = record {
  constants = standard_constants at;
  kinds = standard_kinds at;
  variables = consoles at;
  blocks = [];
}

-- what a program declares itself, and its own block
abbrev pub own_tables : Name → Inside → n.Program
own_tables x i = record {
  constants = i.parts.constants;
  kinds = i.parts.kinds;
  variables = i.parts.variables ++ i.indices;
  blocks = program_block x i.body ∷ i.parts.blocks;
}
