-- None of this belongs to what the program promises: it is for contracts between crates.
-- The rules of interference at each place where one could be broken, and the first that is broken: of what was found
-- before and what is broken here. The contracts of this crate follow it; it asks the sets that were computed, where
-- sp_tree's Interferes asks paths.
use Rattle.std.specs.Prelude.{ℕ, zero, suc, ◌==◌, ◌||◌, ◌&&◌, List, [], ◌∷◌, ◌++◌, length, Bool, true, false, Option}
use Rattle.std.specs.Prelude.{Some, None, slice_get}
use Rattle.std.specs.List.{list_any}
use Rattle.sp_base.specs.declared.place.Place.{Place}
use Rattle.sp_base.specs.declared.rule.Rule.TheVariants as rule
use Rattle.sp_tree.specs.declared.checked.Role.{Role}
use Rattle.sp_tree.specs.declared.checked.Role.TheVariants as role
use Rattle.sp_tree.specs.declared.checked.Variable as declared
use Rattle.sp_tree.specs.PhaseResults.{FirstRefusal, refusal_if, earlier_refusal}
use Rattle.sp_tree.specs.PlainChecked.{Actuals, Nothing, Pass, ByValue, ByReference, Entire}
use Rattle.sp_tree.specs.PlainChecked.{Statements, NoStatement, AndThen, Block, Program}
use Rattle.sp_tree.specs.Sites.{Site, SplitsAt, SpreadsAt, LoopsAt, CallsAt, StopsAt}
use Rattle.sp_tree.specs.Interferes.{place_of}
use Rattle.sp_varsets.specs.declared.sets.Sets.{Sets}
use Rattle.sp_varsets.specs.Members.{has}
use Rattle.sp_varsets.specs.Parts.{number_of}
use Rattle.sp_varsets.specs.AreSets.{targets_of, implicit_targets_of, stops_of}
use Rattle.sp_interfere.specs.Walk.{statement_first}
use Rattle.sp_interfere.specs.Tests.{some_in, is_any, clashes, has_implicit, has_declared}

abbrev pub is_reference : Role → Bool
is_reference role.Reference = true
is_reference _ = false

abbrev pub is_function : Option ℕ → Bool
is_function None = false
is_function (Some x) = true

-- the block around a block
abbrev pub parent_of : Option Block → Option ℕ
parent_of None = None
parent_of (Some k) = k.parent

-- this block is block f, or stands in it; of the blocks around it, so many are looked at
abbrev pub stands_in : List Block → ℕ → Option ℕ → ℕ → Bool
stands_in blocks zero d f = false
stands_in blocks (suc n) None f = false
stands_in blocks (suc n) (Some d) f = (d == f) || stands_in blocks n (parent_of (slice_get blocks d)) f

-- the numbers of some statements
abbrev pub numbers_of : Statements → List ℕ
numbers_of NoStatement = []
numbers_of (AndThen t rest) = number_of t ∷ numbers_of rest

-- the entire variables of the variable parameters
abbrev pub references : Actuals → List ℕ
references Nothing = []
references (Pass (ByValue e) rest) = references rest
references (Pass (ByReference (Entire y at ss)) rest) = y ∷ references rest

-- the variable is one of these
abbrev pub is_among : ℕ → List ℕ → Bool
is_among y xs = list_any (λ x. y == x) xs

module _ (s : Sets) where
  -- I1 at each process statement behind earlier ones
  abbrev pub parts_first : List ℕ → Statements → FirstRefusal → FirstRefusal
  parts_first earlier NoStatement given = given
  parts_first earlier (AndThen t rest) given =
      parts_first (earlier ++ number_of t ∷ []) rest
      (earlier_refusal given (refusal_if rule.I1 (place_of t) (clashes s earlier (number_of t))))

  -- I4 at each variable parameter of a call, behind earlier ones
  abbrev pub repeats_first : List ℕ → Actuals → FirstRefusal → FirstRefusal
  repeats_first earlier Nothing given = given
  repeats_first earlier (Pass (ByValue e) rest) given = repeats_first earlier rest given
  repeats_first earlier (Pass (ByReference (Entire y at ss)) rest) given =
      repeats_first (earlier ++ y ∷ []) rest (earlier_refusal given (refusal_if rule.I4 at (is_among y earlier)))

  -- I5 at each variable parameter of a call of block f
  abbrev pub passed_first : ℕ → Actuals → FirstRefusal → FirstRefusal
  passed_first f Nothing given = given
  passed_first f (Pass (ByValue e) rest) given = passed_first f rest given
  passed_first f (Pass (ByReference (Entire y at ss)) rest) given =
      passed_first f rest (earlier_refusal given (refusal_if rule.I5 at (has_implicit s f y)))

module _ (s : Sets) (c : Program) where
  -- I6 at the heading of block f, which is called in block d
  abbrev pub inside_rule : ℕ → ℕ → Place → FirstRefusal
  inside_rule d f at = refusal_if rule.I6 at (stands_in c.blocks (length c.blocks) (Some d) f && has_declared s f)

  -- I5, I6 and I9 at a call in block d
  abbrev pub called_first : Bool → ℕ → ℕ → Place → Actuals → Option Block → FirstRefusal → FirstRefusal
  called_first in_function d f at args None given = given
  called_first in_function d f at args (Some k) given =
      earlier_refusal (earlier_refusal (passed_first s f args given) (inside_rule d f k.at))
      (refusal_if rule.I9 at (in_function && stops_of s f))

  -- at a site in block d, which is a function or not
  abbrev pub site_first : Bool → ℕ → Site → FirstRefusal → FirstRefusal
  site_first in_function d (SplitsAt parts) given = parts_first s [] parts given
  site_first in_function d (SpreadsAt at x t) given =
      earlier_refusal given (refusal_if rule.I2 at (some_in (targets_of s (number_of t)) is_any))
  site_first in_function d (LoopsAt x at t) given =
      earlier_refusal given (refusal_if rule.I3 at (has (targets_of s (number_of t)) x))
  site_first in_function d (CallsAt f at args) given =
      called_first in_function d f at args (slice_get c.blocks f) (repeats_first s [] args given)
  site_first in_function d (StopsAt at) given = earlier_refusal given (refusal_if rule.I9 at in_function)

  -- I7 at a parameter of a function
  abbrev pub formal_rule : Option declared.Variable → FirstRefusal
  formal_rule None = None
  formal_rule (Some i) = refusal_if rule.I7 i.at (is_reference i.role)

  -- I7 at each parameter
  abbrev pub formals_first : List ℕ → FirstRefusal → FirstRefusal
  formals_first [] given = given
  formals_first (x ∷ xs) given = formals_first xs (earlier_refusal given (formal_rule (slice_get c.variables x)))

  -- I7 and I8 at the heading of a function
  abbrev pub heading_first : Option ℕ → ℕ → Block → FirstRefusal → FirstRefusal
  heading_first None b k given = given
  heading_first (Some x) b k given = earlier_refusal (formals_first k.formals given)
      (refusal_if rule.I8 k.at (some_in (implicit_targets_of s b) is_any))

  -- the blocks from a number on
  abbrev pub blocks_first : ℕ → List Block → FirstRefusal → FirstRefusal
  blocks_first b [] given = given
  blocks_first b (k ∷ ks) given = blocks_first (suc b) ks
      (statement_first (site_first (is_function k.answer) b) k.body (heading_first k.answer b k given))

  -- the first broken rule of interference of a program
  abbrev pub rules_first : FirstRefusal
  rules_first = blocks_first 0 c.blocks None
