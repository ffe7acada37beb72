-- None of this belongs to what the program promises: it is for contracts between crates.
-- Rule V6 as a verifier tests it: of each child what it is handed, held against its effects and against what the
-- children before it in its table are handed.
use Rattle.std.specs.Prelude.{◌≡◌, ◌⊎◌, ◌<◌, ℕ, ◌==◌, List, [], ◌∷◌, Option, Some, None, Bool, false, ◌&&◌, ◌||◌, not}
use Rattle.std.specs.Prelude.{slice_get, length}
use Rattle.std.specs.List.{list_any}
use Rattle.std.specs.Option.{is_some}
use Rattle.sp_tree.specs.Interference.{IsMember}
use Rattle.sp_code.specs.declared.code.ChildTable.{ChildTable}
use Rattle.sp_code.specs.declared.code.ForkTable.{ForkTable}
use Rattle.sp_verify_rules.specs.Effects.{CountsAsEffect, Loaded, handed_to}
use Rattle.sp_verify_rules.specs.Forks.{Clash, IsIllHanded}
use Rattle.sp_verify_areas.specs.LeastPlaces.{Upto}
use Rattle.sp_verify_effects.specs.declared.effects.EffectRow.{EffectRow}
use Rattle.sp_verify_effects.specs.declared.effects.Effects.{Effects}
use Rattle.sp_verify_effects.specs.declared.facts.Effect.{Effect}
use Rattle.sp_verify_effects.specs.declared.facts.Effect.TheVariants as effect
use Rattle.sp_verify_effects.specs.Sets.{with_all, with_index, all_new, meets, goes_beyond}

-- ---- a child alone

-- it shares the output, or has an index and moves something
abbrev pub is_loose : ChildTable → Bool
is_loose t = list_any (λ y. y == 1) t.shared || (is_some t.index && not (length t.moved == 0))

-- the variables that are moved to it; and those that are shared; and its index
abbrev pub moved_keys : ChildTable → List ℕ
moved_keys t = with_all [] t.moved

abbrev pub handed_keys : ChildTable → List ℕ
handed_keys t = with_all (moved_keys t) t.shared

abbrev pub known_keys : ChildTable → List ℕ
known_keys t = with_index (handed_keys t) t.index

-- it stores, or loads, more than it is handed, or is handed something wrongly
abbrev pub fails_alone : (stored loaded : List ℕ) → ChildTable → Bool
fails_alone stored loaded t =
    goes_beyond (moved_keys t) stored
    || (goes_beyond (known_keys t) loaded
    || (not (all_new [] t.moved) || (not (all_new (moved_keys t) t.shared) || is_loose t)))

-- the same, as the rule says it
abbrev pub StoresBeyond : List ℕ → ChildTable → Type 0
StoresBeyond stored t = (x : ℕ) × IsMember x stored × (IsMember x t.moved → ⊥)

abbrev pub LoadsBeyond : List ℕ → ChildTable → Type 0
LoadsBeyond loaded t = (x : ℕ) × IsMember x loaded × CountsAsEffect Loaded t.index x × (IsMember x (handed_to t) → ⊥)

abbrev pub FailsAlone : (stored loaded : List ℕ) → ChildTable → Type 0
FailsAlone stored loaded t = StoresBeyond stored t ⊎ (LoadsBeyond loaded t ⊎ IsIllHanded t)

-- what it stores if it does this, and what it loads
abbrev pub stored_of : Effect → List ℕ
stored_of (effect.Stores x) = x ∷ []
stored_of d = []

abbrev pub loaded_of : Effect → List ℕ
loaded_of (effect.Loads x) = x ∷ []
loaded_of d = []

-- ---- beside the children before it

-- where those before it are moved these, and are handed these, it clashes with one of them
abbrev pub clashes : (moved handed : List ℕ) → ChildTable → Bool
clashes moved handed t = meets handed t.moved || meets moved t.shared

-- one of the first so many children has a variable
pub record SomeHas (of : ChildTable → List ℕ) (ts : List ChildTable) (n x : ℕ) : Type 0 where
  pub child : ℕ
  pub table : ChildTable
  pub before : child < n
  pub table_is : slice_get ts child ≡ Some table
  pub has : IsMember x (of table)

abbrev pub moved_to : ChildTable → List ℕ
moved_to t = t.moved

-- it clashes with one of the first so many children
abbrev pub ClashesBefore : List ChildTable → ℕ → ChildTable → Type 0
ClashesBefore ts n t = (j : ℕ) × (s : ChildTable) × (j < n) × (slice_get ts j ≡ Some s) × Clash s t

-- ---- children and tables

-- a child that does this, where those before it are moved and handed these, fails
abbrev pub fails_by : Option EffectRow → (moved handed : List ℕ) → ChildTable → Bool
fails_by None moved handed t = false
fails_by (Some d) moved handed t = fails_alone d.stored d.loaded t || clashes moved handed t

-- a child that does this fails, behind so many others
abbrev pub FailsAs : Option EffectRow → List ChildTable → ℕ → ChildTable → Type 0
FailsAs None ts n t = ⊥
FailsAs (Some d) ts n t = FailsAlone d.stored d.loaded t ⊎ ClashesBefore ts n t

-- a child of these fails, with its first instruction there
abbrev pub ChildFails : Effects → List ChildTable → ℕ → ℕ → Type 0
ChildFails e ts k p = (t : ChildTable) × (slice_get ts k ≡ Some t) × (t.entry ≡ p)
    × FailsAs (slice_get e.rows t.entry) ts k t

-- one of a table does
abbrev pub TableFails : Effects → List ForkTable → ℕ → ℕ → Type 0
TableFails e fs t p = (tb : ForkTable) × (slice_get fs t ≡ Some tb)
    × Upto (ChildFails e tb.children) (length tb.children) p
