-- None of this belongs to what the program promises: it is for contracts between crates.
-- Facts about areas of code, in the order in which they are found: an area, by its first instruction, stores a
-- variable, loads one, or comes to a stop.
use Rattle.std.specs.Prelude.{◌≡◌, ◌⊎◌, ℕ, ◌==◌, ◌&&◌, ◌++◌, List, [], ◌∷◌, Option, Some, None, Bool, true, false}
use Rattle.std.specs.Prelude.{slice_get, if◌then◌else◌}
use Rattle.std.specs.List.{list_any}
use Rattle.std.specs.declared.cmp.Ordering.{Ordering}
use Rattle.std.specs.Ordering.{nat_cmp, ordering_then, is_eq}
use Rattle.sp_verify_effects.specs.declared.facts.Fact.{Fact}
use Rattle.sp_verify_effects.specs.declared.facts.Sets.{Sets}
use Rattle.sp_verify_effects.specs.declared.facts.Index.{Index}
use Rattle.sp_verify_rules.specs.Areas.{on_option}
use Rattle.sp_verify_effects.specs.declared.facts.Effect.{Effect}
use Rattle.sp_verify_effects.specs.declared.facts.Effect.TheVariants as effect

abbrev pub same_effect : Effect → Effect → Bool
same_effect (effect.Stores x) (effect.Stores y) = x == y
same_effect (effect.Loads x) (effect.Loads y) = x == y
same_effect effect.Stops effect.Stops = true
same_effect d e = false

abbrev pub same_fact : Fact → Fact → Bool
same_fact f g = (f.area == g.area) && same_effect f.effect g.effect

-- the variable that is stored or loaded
abbrev pub touched : Effect → Option ℕ
touched (effect.Stores x) = Some x
touched (effect.Loads x) = Some x
touched effect.Stops = None

-- the fact is among these
abbrev pub has_fact : List Fact → Fact → Bool
has_fact fs f = list_any (same_fact f) fs

abbrev pub fact : ℕ → Effect → Fact
fact p d = record { area = p; effect = d }

-- with one more, unless it is there
abbrev pub with_fact : List Fact → Fact → List Fact
with_fact fs f = if has_fact fs f then fs else fs ++ f ∷ []

-- by area and variable
abbrev pub pair_cmp : ℕ × ℕ → ℕ × ℕ → Ordering
pair_cmp p q = ordering_then (nat_cmp p.0 q.0) (nat_cmp p.1 q.1)

abbrev pub has_pair : List (ℕ × ℕ) → ℕ × ℕ → Bool
has_pair ks q = list_any (λ (k : ℕ × ℕ). is_eq (pair_cmp q k)) ks

abbrev pub has_number : List ℕ → ℕ → Bool
has_number ks q = list_any (λ k. is_eq (nat_cmp q k)) ks

-- sets of variables say so
abbrev pub in_sets : Sets → Effect → Bool
in_sets s (effect.Stores x) = has_number s.stored.keys x
in_sets s (effect.Loads x) = has_number s.loaded.keys x
in_sets s effect.Stops = s.stops

-- those of an area do
abbrev pub sets_have : List Sets → ℕ → Effect → Bool
sets_have areas p d = on_option false (slice_get areas p) (λ s. in_sets s d)

abbrev pub index_has : Index → ℕ → Effect → Bool
index_has it p d = sets_have it.areas p d

-- the sets have the same facts
abbrev pub AreIndexed : List Fact → Index → Type 0
AreIndexed fs it = (f : Fact) → index_has it f.area f.effect ≡ has_fact fs f

-- these facts are added, and no others; each that was there stays at its place
pub record Tells (old new : List Fact) (W : Fact → Type 0) : Type 0 where
  pub extends : (i : ℕ) (f : Fact) → slice_get old i ≡ Some f → slice_get new i ≡ Some f
  pub has : (f : Fact) → W f → has_fact new f ≡ true
  pub only : (f : Fact) → has_fact new f ≡ true → (has_fact old f ≡ true) ⊎ W f
