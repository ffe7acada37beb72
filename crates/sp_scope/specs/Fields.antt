-- None of this belongs to what the program promises: it is for contracts between crates.
-- The fields of a record, with the names before them in their order. The contracts of `kinds` cite it: a set of names
-- in order stands for the list that the rule speaks of, so that many fields stay quick.
use Rattle.std.specs.Prelude.{ℕ, List, [], ◌∷◌, Bool}
use Rattle.std.specs.List.{list_any}
use Rattle.std.specs.Ordering.{nat_cmp}
use Rattle.std.specs.BTreeMap.{is_at}
use Rattle.std.specs.Cmp.Lexicographic.{slice_cmp}
use Rattle.std.specs.BTreeSet.{insert_key}
use Rattle.sp_base.specs.declared.rule.Rule.TheVariants as rule
use Rattle.sp_tree.specs.declared.syntax.Name.{Name}
use Rattle.sp_tree.specs.declared.syntax.SynGroup.{SynGroup}
use Rattle.sp_tree.specs.PhaseResults.{earlier_refusal, refusal_if}
use Rattle.sp_tree.specs.Scopes.{Env}
use Rattle.sp_tree.specs.NameRules.{AsKind, UsesIn, broken_rule}
use Rattle.sp_tree.specs.NameFirst.{Onward}

-- the name is among these
abbrev pub names_contain : List (List ℕ) → List ℕ → Bool
names_contain names x = list_any (is_at (slice_cmp nat_cmp x)) names

-- the names with those of some fields
abbrev pub names_behind : List (List ℕ) → List Name → List (List ℕ)
names_behind names [] = names
names_behind names (x ∷ xs) = names_behind (insert_key (slice_cmp nat_cmp) names x.text) xs

-- N2 at each of these names, where the name stands before it
abbrev pub fields_held : List (List ℕ) → List Name → Onward
fields_held names [] given = given
fields_held names (x ∷ xs) given = fields_held (insert_key (slice_cmp nat_cmp) names x.text) xs
    (earlier_refusal given (refusal_if rule.N2 x.at (names_contain names x.text)))

-- N2 at each name of the fields, and what is broken at their types
abbrev pub groups_held : Env → Name → List (List ℕ) → List SynGroup → Onward
groups_held env own names [] given = given
groups_held env own names (g ∷ gs) given =
    groups_held env own (names_behind names g.names) gs
    (earlier_refusal (fields_held names g.names given) (broken_rule env (UsesIn own g.kind AsKind)))
