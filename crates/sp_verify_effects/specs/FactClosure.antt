-- None of this belongs to what the program promises: it is for contracts between crates.
-- What goes on from fact to fact along edges, until nothing is new.
use Rattle.std.specs.Prelude.{◌≡◌, ◌↔◌, ℕ, zero, suc, ◌==◌, ◌<◌, List, Option, Some, None, Bool, true, false}
use Rattle.std.specs.Prelude.{if◌then◌else◌, slice_get}
use Rattle.sp_code.specs.declared.code.Parts.{Parts}
use Rattle.sp_verify_rules.specs.Areas.{Area, entry}
use Rattle.sp_verify_rules.specs.Reach.{IsArea}
use Rattle.sp_verify_rules.specs.Effects.{Stored, Loaded, Does, IsEffect}
use Rattle.sp_verify_effects.specs.declared.allowance.Allowance.{Allowance}
use Rattle.sp_verify_effects.specs.declared.asked_areas.Asked.{Asked}
use Rattle.sp_verify_effects.specs.declared.edges.Edge.{Edge}
use Rattle.sp_verify_effects.specs.declared.edges.Edge.TheVariants as edge
use Rattle.sp_verify_effects.specs.declared.facts.Fact.{Fact}
use Rattle.sp_verify_effects.specs.declared.facts.Effect.{Effect}
use Rattle.sp_verify_effects.specs.declared.facts.Effect.TheVariants as effect
use Rattle.sp_verify_effects.specs.Allowances.{allows_some}
use Rattle.sp_verify_effects.specs.AskedAreas.{is_asked}
use Rattle.sp_verify_effects.specs.Facts.{fact, has_fact}
use Rattle.sp_verify_effects.specs.Edges.{HasEdge, InRow}
use Rattle.sp_verify_effects.specs.Effects.{ComesToStop}
use Rattle.sp_verify_effects.specs.Variables.{owns}

-- it is done to a variable of the area's own
abbrev pub is_own : List (ℕ × ℕ) → ℕ → Effect → Bool
is_own ks m (effect.Stores x) = owns ks m x
is_own ks m (effect.Loads x) = owns ks m x
is_own ks m effect.Stops = false

-- ---- along an edge

abbrev pub is_index : Option ℕ → ℕ → Bool
is_index None x = false
is_index (Some y) x = x == y

-- what is done becomes this on the edge, if it goes along it; own says whether it is done to a variable of the area's
-- own
abbrev pub fact_along : Edge → Bool → Effect → Option Fact
fact_along (edge.Started to index) own (effect.Stores x) = Some (fact to (effect.Stores x))
fact_along (edge.Started to index) own (effect.Loads x) =
    if is_index index x then None else Some (fact to (effect.Loads x))
fact_along (edge.Started to index) own effect.Stops = Some (fact to effect.Stops)
fact_along (edge.Called to) own (effect.Stores x) = if own then None else Some (fact to (effect.Stores x))
fact_along (edge.Called to) own (effect.Loads x) = if own then None else Some (fact to (effect.Loads x))
fact_along (edge.Called to) own effect.Stops = Some (fact to effect.Stops)
fact_along (edge.Passed to y x) own (effect.Stores z) = if z == y then Some (fact to (effect.Stores x)) else None
fact_along (edge.Passed to y x) own (effect.Loads z) = if z == y then Some (fact to (effect.Loads x)) else None
fact_along (edge.Passed to y x) own effect.Stops = None

-- it does, to an area that is asked about it
abbrev pub GoesAlong : Asked → Edge → Bool → Effect → Fact → Type 0
GoesAlong k e own d g = (fact_along e own d ≡ Some g) × (is_asked k g.area g.effect ≡ true)

-- what the one allows, the other allows, as it goes along an edge
abbrev pub Passes : Option Allowance → Option Allowance → Edge → Type 0
Passes o u e = (own : Bool) (d : Effect) (g : Fact) → fact_along e own d ≡ Some g → allows_some o d ≡ true
    → allows_some u g.effect ≡ true

-- what becomes on an edge from an area something that is asked about is asked about
abbrev pub IsFollowed : Asked → ℕ → Edge → Type 0
IsFollowed k m e = (own : Bool) (d : Effect) (g : Fact) → fact_along e own d ≡ Some g
    → is_asked k g.area g.effect ≡ true → is_asked k m d ≡ true

-- so for each edge of a row, and of all rows
abbrev pub FollowsRow : Asked → ℕ → List Edge → Type 0
FollowsRow k m r = (e : Edge) → InRow r e → IsFollowed k m e

abbrev pub FollowsEdges : List (List Edge) → Asked → Type 0
FollowsEdges rows k = (m : ℕ) (e : Edge) → HasEdge rows m e → IsFollowed k m e

-- along one of these edges
abbrev pub AlongOne : Asked → List Edge → Bool → Effect → ℕ → Fact → Type 0
AlongOne a row own d n g = (k : ℕ) × (e : Edge) × (k < n) × (slice_get row k ≡ Some e) × GoesAlong a e own d g

module _ (asked : Asked) (rows : List (List Edge)) (own : List (ℕ × ℕ)) where
  -- one fact leads to another
  abbrev pub FactLeads : Fact → Fact → Type 0
  FactLeads f g = (e : Edge) × HasEdge rows f.area e × GoesAlong asked e (is_own own f.area f.effect) f.effect g

  -- in so many steps from these
  abbrev pub FollowsBy : List Fact → ℕ → Fact → Type 0
  FollowsBy old zero g = has_fact old g ≡ true
  FollowsBy old (suc n) g = (f : Fact) × FollowsBy old n f × FactLeads f g

  abbrev pub FollowsFrom : List Fact → Fact → Type 0
  FollowsFrom old g = (n : ℕ) × FollowsBy old n g

  -- those that the first so many lead to are there, and all follow from the old ones
  pub record ClosesTo (old new : List Fact) (n : ℕ) : Type 0 where
    pub kept : (f : Fact) → has_fact old f ≡ true → has_fact new f ≡ true
    pub done : (j : ℕ) (f g : Fact) → j < n → slice_get new j ≡ Some f → FactLeads f g → has_fact new g ≡ true
    pub only : (g : Fact) → has_fact new g ≡ true → FollowsFrom old g

  -- nothing is left to which they lead
  pub record Closes (old new : List Fact) : Type 0 where
    pub kept : (f : Fact) → has_fact old f ≡ true → has_fact new f ≡ true
    pub closed : (f g : Fact) → has_fact new f ≡ true → FactLeads f g → has_fact new g ≡ true
    pub only : (g : Fact) → has_fact new g ≡ true → FollowsFrom old g

-- ---- of areas

module _ (c : Parts) where
  -- the area does it, with what it starts and calls
  abbrev pub IsEffectOf : Area → Effect → Type 0
  IsEffectOf a (effect.Stores x) = IsEffect c (Does c) Stored a x
  IsEffectOf a (effect.Loads x) = IsEffect c (Does c) Loaded a x
  IsEffectOf a effect.Stops = ComesToStop c a

  -- an area that is there does it; so for all of these
  abbrev pub IsDone : Fact → Type 0
  IsDone f = (a : Area) × IsArea c a × (f.area ≡ entry c a) × IsEffectOf a f.effect

  abbrev pub AreDone : List Fact → Type 0
  AreDone fs = (f : Fact) → has_fact fs f ≡ true → IsDone f

  -- the facts are those of the areas that are there and asked about
  abbrev pub AreFacts : Asked → List Fact → Type 0
  AreFacts k fs = (a : Area) (d : Effect) → IsArea c a → is_asked k (entry c a) d ≡ true
      → (has_fact fs (fact (entry c a) d) ≡ true) ↔ IsEffectOf a d
