-- All of this belongs to what the program promises (docs/promise.txt).
-- Which watchers are told, by the option `--show`, and what they tell together: the contract of `tell` promises it, and
-- the output of the top call is said by it. What a watcher is, its trait says: what it was told, its text over every
-- list of entries, and its title. The definitions take these as functions, so that contracts name the texts of a whole
-- list of watchers in one word.
use Rattle.std.specs.Prelude.{◌≡◌, ℕ, Bool, true, false, List, [], All, codes, filter}
use Rattle.std.specs.List.{flat_map}
use Rattle.std.specs.Str.{bytes_eq}
use Rattle.sp_base.specs.declared.limits.Show.{Show}
use Rattle.sp_base.specs.declared.limits.Show.TheVariants as show

-- the watchers of this name are chosen
abbrev pub is_chosen : Show → List ℕ → Bool
is_chosen show.End name = false
is_chosen show.Timeline name = bytes_eq name (codes "timeline")
is_chosen show.Census name = bytes_eq name (codes "census")
is_chosen show.Tree name = bytes_eq name (codes "tree")
is_chosen show.Waiting name = bytes_eq name (codes "waiting")
is_chosen show.All name = true
is_chosen show.Journal name = false

-- no watcher was told anything yet
abbrev pub AreFresh : {W E : Type 0} → (W → List E) → List W → Type 0
AreFresh told watchers = All (λ w. told w ≡ []) watchers

-- the texts of the chosen watchers over a list of entries, in the order in which they stand
abbrev pub reports : {W E : Type 0} → (W → List E → List ℕ) → (W → List ℕ) → List W → Show → List E → List ℕ
reports text title watchers show entries = flat_map (λ w. text w entries)
    (filter (λ w. is_chosen show (title w)) watchers)
