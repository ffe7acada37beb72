-- The standard names stand as they are declared.
use Rattle.std.proofs.Common.{◌≡◌, refl, []}
use Rattle.sp_tree.specs.Scopes.{standard_scope}
use Rattle.sp_scope.specs.Standard.{with_types, with_functions, with_procedures}

pub standard_is : with_procedures (with_functions (with_types [])) ≡ standard_scope
standard_is = refl
