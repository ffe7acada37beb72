-- None of this belongs to what the program promises: it is for contracts between crates.
-- Tests on the sets of statements and blocks: what the rules ask of them. The contracts of `asked` and of the process
-- statements cite it.
use Rattle.std.specs.Prelude.{◌≡◌, ◌<◌, ℕ, zero, suc, ◌*◌, ◌||◌, ◌&&◌, List, length, Bool, true, false}
use Rattle.std.specs.List.{list_any}
use Rattle.sp_varsets.specs.declared.sets.Sets.{Sets}
use Rattle.sp_varsets.specs.declared.var_set.VarSet.{VarSet}
use Rattle.sp_varsets.specs.declared.union.VarUnion.{VarUnion}
use Rattle.sp_varsets.specs.Members.{has, union_has}
use Rattle.sp_varsets.specs.AreSets.{targets_of, expressions_of, implicit_targets_of, implicit_expressions_of}

-- a number below n passes the test
unfoldable pub some_below : ℕ → (ℕ → Bool) → Bool
some_below zero test = false
some_below (suc n) test = test n || some_below n test

-- a variable of the set passes the test
abbrev pub some_in : VarSet → (ℕ → Bool) → Bool
some_in a test = some_below (64 * length a.words) (λ x. has a x && test x)

-- every variable
abbrev pub is_any : ℕ → Bool
is_any x = true

-- neither the input nor the output
abbrev pub is_declared : ℕ → Bool
is_declared zero = false
is_declared (suc zero) = false
is_declared (suc (suc x)) = true

-- two sets have a variable in common
abbrev pub meets : VarSet → VarSet → Bool
meets a b = some_in a (has b)

module _ (s : Sets) where
  -- of two statements, a target of one is a target or an expression variable of the other
  abbrev pub clash : ℕ → ℕ → Bool
  clash m n = meets (targets_of s n) (targets_of s m)
      || (meets (targets_of s n) (expressions_of s m) || meets (expressions_of s n) (targets_of s m))

  -- the statement clashes with one of these
  abbrev pub clashes : List ℕ → ℕ → Bool
  clashes earlier n = list_any (λ m. clash m n) earlier

  -- the statement has the variable as a target
  abbrev pub is_target : ℕ → ℕ → Bool
  is_target m x = has (targets_of s m) x

  -- the statement uses the variable
  abbrev pub is_used : ℕ → ℕ → Bool
  is_used m x = has (targets_of s m) x || has (expressions_of s m) x

  -- the variable is an implicit one of the block
  abbrev pub has_implicit : ℕ → ℕ → Bool
  has_implicit b x = has (implicit_targets_of s b) x || has (implicit_expressions_of s b) x

  -- the block has an implicit variable other than the input and the output
  abbrev pub has_declared : ℕ → Bool
  has_declared b = some_in (implicit_targets_of s b) is_declared || some_in (implicit_expressions_of s b) is_declared

-- the union, of the first 8,256 variables, holds those that one of these statements has
pub record Joins (u : VarUnion) (in_one : ℕ → ℕ → Bool) (numbers : List ℕ) : Type 0 where
  pub from : u.first ≡ 0
  pub all : (x : ℕ) → x < 8256 → union_has u x ≡ list_any (λ m. in_one m x) numbers
