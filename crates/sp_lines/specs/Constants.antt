-- Some of this belongs to what the program promises (docs/promise.txt).
-- The names of the constants of enumerations. The trees behind the grammar have only how many there are: the k-th
-- enumeration among a program's types is the k-th one that the text declares.
use Rattle.std.specs.Prelude.{ℕ, List, [], ◌∷◌, ◌++◌, Option, Some, None, slice_get}
use Rattle.sp_tree.specs.declared.checked.KindOf.{KindOf}
use Rattle.sp_tree.specs.declared.checked.KindOf.TheVariants as kind
use Rattle.sp_tree.specs.declared.syntax.Name.{Name}
use Rattle.sp_tree.specs.declared.syntax.SynKind.{SynKind}
use Rattle.sp_tree.specs.declared.syntax.SynKind.TheVariants as kinds
use Rattle.sp_tree.specs.PlainSyntax.{Part, Const, Kind, Var, Proc, Parts, NoPart, Declare, Program}

abbrev pub names : List Name → List (List ℕ)
names [] = []
names (x ∷ xs) = x.text ∷ names xs

-- of the definition of a type: one list of names, if it is an enumeration
abbrev pub kind_constants : SynKind → List (List (List ℕ))
kind_constants (kinds.Enumeration xs) = names xs ∷ []
kind_constants _ = []

-- of declarations, with those inside procedures and functions
abbrev mutual
  pub parts_constants : Parts → List (List (List ℕ))
  parts_constants NoPart = []
  parts_constants (Declare p rest) = part_constants p ++ parts_constants rest

  pub part_constants : Part → List (List (List ℕ))
  part_constants (Const x c) = []
  part_constants (Kind x k) = kind_constants k
  part_constants (Var xs t) = []
  part_constants (Proc x fs answer parts body) = parts_constants parts

-- the names of the constants of each enumeration that a text declares, in order of the text
abbrev pub constants_of : Program → List (List (List ℕ))
constants_of p = parts_constants p.block.parts

-- the first of some lists of names, and the others
abbrev pub first_of : List (List (List ℕ)) → List (List ℕ)
first_of [] = []
first_of (c ∷ cs) = c

abbrev pub rest_of : List (List (List ℕ)) → List (List (List ℕ))
rest_of [] = []
rest_of (c ∷ cs) = cs

-- the names of the constants of a type: those that are next, if it is an enumeration
abbrev pub kind_names : KindOf → List (List (List ℕ)) → List (List ℕ)
kind_names (kind.Enumeration n) cs = first_of cs
kind_names _ _ = []

-- those that are next behind it
abbrev pub rest_behind : KindOf → List (List (List ℕ)) → List (List (List ℕ))
rest_behind (kind.Enumeration n) cs = rest_of cs
rest_behind _ cs = cs

-- the names of the constants of each type, where those of the enumerations among them are these, in order
abbrev pub by_kind : List KindOf → List (List (List ℕ)) → List (List (List ℕ))
by_kind [] cs = []
by_kind (k ∷ ks) cs = kind_names k cs ∷ by_kind ks (rest_behind k cs)

abbrev pub or_no_names : Option (List (List ℕ)) → List (List ℕ)
or_no_names None = []
or_no_names (Some xs) = xs

-- those of the type with a number
abbrev pub constants_at : List (List (List ℕ)) → ℕ → List (List ℕ)
constants_at table k = or_no_names (slice_get table k)
