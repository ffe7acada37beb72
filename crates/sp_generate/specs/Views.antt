-- None of this belongs to what the program promises: it is for contracts between crates.
-- How the generator's data is seen: the plain program, and the scopes. All contracts of the generator's walks cite it.
use Rattle.std.specs.Prelude.{ℕ, List, [], ◌∷◌, ◌++◌, map, slice_get}
use Rattle.sp_tree.specs.Plain.{Program, Actuals}
use Rattle.sp_code.specs.declared.instr.Instr.{Instr}
use Rattle.sp_code.specs.TreeCode.{actuals_code, call_instr, cells_of, formal_by}
use Rattle.sp_code.specs.declared.code.Formal.{Formal}
use Rattle.sp_tree.specs.CheckedOf.{program_of}
use Rattle.sp_tree.specs.Bare.{without_places}
use Rattle.sp_tree.specs.Around as around
use Rattle.sp_generate.specs.declared.code_context.CodeContext.{CodeContext}
use Rattle.sp_generate.specs.declared.levels.Scope.{Scope}
use Rattle.sp_generate.specs.declared.levels.Scope.TheVariants as scope

-- the plain program whose code is made
abbrev pub plain_program : CodeContext → Program
plain_program g = without_places (program_of g.checked.now)

abbrev pub scope_of : Scope → around.Scope
scope_of (scope.Block b) = around.OfBlock b
scope_of (scope.Index x) = around.OfIndex x

abbrev pub scopes : List Scope → List around.Scope
scopes sc = map scope_of sc

-- a call: its parameters in order, and then the call
abbrev pub call_code : Program → List around.Scope → ℕ → Actuals → List Instr
call_code p sc f args = actuals_code p sc args ++ call_instr sc f (slice_get p.blocks f) ∷ []

-- the cells of variables, and how a block takes them
abbrev pub cells_in : Program → List ℕ → List ℕ
cells_in p xs = map (λ x. cells_of p (slice_get p.variables x)) xs

abbrev pub formals_in : Program → List ℕ → List Formal
formals_in p xs = map (λ x. formal_by p (slice_get p.variables x)) xs
