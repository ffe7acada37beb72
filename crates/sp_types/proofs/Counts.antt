-- Arguments in memory are as many as in the plain tree.
use Rattle.std.proofs.Common.{◌≡◌, refl, ap, suc, ◌-◌, List, [], ◌∷◌, map, length}
use native.Mathlib.Numerals.{unary_clauses}
use Rattle.sp_tree.specs.declared.named.NamedArg.{NamedArg}
use Rattle.sp_tree.specs.NamedOf.{arguments, argument_of}
use Rattle.sp_types.specs.TypeWalk.{count, arguments_behind}

pub count_is : (xs : List NamedArg) → length xs ≡ count (arguments (map argument_of xs))
count_is [] = refl
count_is (x ∷ xs) = ap suc (count_is xs)

pub count_behind_is : (xs : List NamedArg) → length xs - 1 ≡ count (arguments_behind (arguments (map argument_of xs)))
count_behind_is [] = refl
count_behind_is (x ∷ xs) = simp unary_clauses (count_is xs)
