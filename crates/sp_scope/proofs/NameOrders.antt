-- Names in their order are among those before as names in the order of the text are.
use Rattle.std.proofs.Common.{◌≡◌, refl, ap, sym, ◌∙◌, ℕ, List, [], ◌∷◌, Bool, true, false, ◌||◌}
use Rattle.std.specs.List.{list_any}
use Rattle.std.specs.Str.{bytes_eq}
use Rattle.std.specs.Ordering.{nat_cmp, match_ordering}
use Rattle.std.specs.declared.cmp.Ordering.{Ordering}
use Rattle.std.specs.declared.cmp.Ordering.TheVariants.{Less, Equal, Greater}
use Rattle.std.specs.Cmp.Lexicographic.{slice_cmp}
use Rattle.std.specs.BTreeMap.{is_at}
use Rattle.std.specs.BTreeSet.{insert_key}
use Rattle.std.specs.FinMap.{slice_cmp-IsAntisymmetric, nat_cmp-IsAntisymmetric}
use Rattle.std.proofs.lemmas.Map.Text.{is_eq-slice_cmp}
use Rattle.sp_tree.specs.declared.syntax.Name.{Name}
use Rattle.sp_tree.specs.declared.syntax.SynGroup.{SynGroup}
use Rattle.sp_tree.specs.PhaseResults.{FirstRefusal, earlier_refusal, refusal_if}
use Rattle.sp_tree.specs.Scopes.{Env}
use Rattle.sp_tree.specs.NameRules.{is_listed_name, broken_rule, UsesIn, AsKind}
use Rattle.sp_tree.specs.NameWalk.{names_with_fields}
use Rattle.sp_base.specs.declared.rule.Rule.TheVariants as rule
use Rattle.sp_scope.specs.Fields.{names_contain, names_behind, fields_held, groups_held}
use Rattle.sp_scope.specs.Firsts.{fields_first, groups_first}

abbrev cmp : List ℕ → List ℕ → Ordering
cmp = slice_cmp nat_cmp

twice : (a b : Bool) → a || b ≡ a || (a || b)
twice true b = refl
twice false b = refl

swap : (a b c : Bool) → a || (b || c) ≡ b || (a || c)
swap true true c = refl
swap true false c = refl
swap false b c = refl

-- a name that is put among others is among them
held_insert : (names : List (List ℕ)) (y x : List ℕ) → names_contain (insert_key cmp names y) x
    ≡ is_at (cmp x) y || names_contain names x
held_insert [] y x = refl
held_insert (k ∷ ks) y x = by (cmp y k) refl (held_insert ks y x)
  where
    by : (r : Ordering) → cmp y k ≡ r → names_contain (insert_key cmp ks y) x ≡ is_at (cmp x) y || names_contain ks x
        → list_any (is_at (cmp x)) (match_ordering r (y ∷ k ∷ ks) (k ∷ ks) (k ∷ insert_key cmp ks y)) ≡ is_at (cmp x) y
        || (is_at (cmp x) k || names_contain ks x)
    by Less e ih = refl
    by Equal e ih = twice (is_at (cmp x) k) (names_contain ks x)
        ∙ ap (λ z. is_at (cmp x) z || (is_at (cmp x) k || names_contain ks x))
        (sym (slice_cmp-IsAntisymmetric nat_cmp-IsAntisymmetric y k e))
    by Greater e ih = ap (λ b. is_at (cmp x) k || b) ih ∙ swap (is_at (cmp x) k) (is_at (cmp x) y) (names_contain ks x)

-- the same names
abbrev SameNames : List (List ℕ) → List (List ℕ) → Type 0
SameNames names before = (x : List ℕ) → names_contain names x ≡ is_listed_name x before

one_more : (names before : List (List ℕ)) (y : List ℕ) → SameNames names before
    → SameNames (insert_key cmp names y) (y ∷ before)
one_more names before y a x = held_insert names y x ∙ ap (λ b. b || names_contain names x) (is_eq-slice_cmp x y)
    ∙ ap (λ b. bytes_eq x y || b) (a x)

behind_agrees : (xs : List Name) (names before : List (List ℕ)) → SameNames names before
    → SameNames (names_behind names xs) (names_with_fields before xs)
behind_agrees [] names before a = a
behind_agrees (x ∷ xs) names before a = behind_agrees xs (insert_key cmp names x.text) (x.text ∷ before)
    (one_more names before x.text a)

fields_are : (env : Env) (xs : List Name) (names before : List (List ℕ)) → SameNames names before
    → (given : FirstRefusal)
    → fields_held names xs given ≡ fields_first env before xs given
fields_are env [] names before a given = refl
fields_are env (x ∷ xs) names before a given =
    ap (λ b. fields_held (insert_key cmp names x.text) xs (earlier_refusal given (refusal_if rule.N2 x.at b)))
    (a x.text)
    ∙ fields_are env xs (insert_key cmp names x.text) (x.text ∷ before) (one_more names before x.text a)
    (earlier_refusal given (refusal_if rule.N2 x.at (is_listed_name x.text before)))

groups_agree : (env : Env) (own : Name) (gs : List SynGroup) (names before : List (List ℕ)) → SameNames names before
    → (given : FirstRefusal) → groups_held env own names gs given ≡ groups_first env own before gs given
groups_agree env own [] names before a given = refl
groups_agree env own (g ∷ gs) names before a given =
    ap (λ f. groups_held env own (names_behind names g.names) gs
    (earlier_refusal f (broken_rule env (UsesIn own g.kind AsKind))))
    (fields_are env g.names names before a given)
    ∙ groups_agree env own gs (names_behind names g.names) (names_with_fields before g.names)
    (behind_agrees g.names names before a)
    (earlier_refusal (fields_first env before g.names given) (broken_rule env (UsesIn own g.kind AsKind)))

-- a record's fields are checked with the names before in either order
pub groups_are : (env : Env) (own : Name) (gs : List SynGroup) (given : FirstRefusal)
    → groups_held env own [] gs given ≡ groups_first env own [] gs given
groups_are env own gs given = groups_agree env own gs [] [] (λ x. refl) given
