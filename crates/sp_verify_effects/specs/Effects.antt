-- None of this belongs to what the program promises: it is for contracts between crates.
-- What areas of code do, in a table: the variables that each stores and loads, and whether it comes to a stop. An area
-- stands in the table under its first instruction, which is that of no other area.
use Rattle.std.specs.Prelude.{◌≡◌, ◌⊎◌, ◌↔◌, ℕ, ◌<◌, ◌||◌, Bool, true, List, IsTrue, Some, length, slice_get}
use Rattle.sp_tree.specs.Interference.{IsMember}
use Rattle.sp_code.specs.declared.code.Parts.{Parts}
use Rattle.sp_verify_rules.specs.Areas.{Area, entry}
use Rattle.sp_verify_rules.specs.Reach.{IsArea}
use Rattle.sp_verify_rules.specs.Effects.{Stored, Loaded, Does, IsEffect, HasEffect, StopsBy}
use Rattle.sp_verify_rules.specs.Verdict.{HasStop}
use Rattle.sp_verify_effects.specs.declared.asked_areas.Asked.{Asked}
use Rattle.sp_verify_effects.specs.declared.effects.EffectRow.{EffectRow}
use Rattle.sp_verify_effects.specs.declared.effects.Effects.{Effects}
use Rattle.sp_verify_effects.specs.declared.facts.Fact.{Fact}
use Rattle.sp_verify_effects.specs.declared.facts.Effect.{Effect}
use Rattle.sp_verify_effects.specs.declared.facts.Effect.TheVariants as effect
use Rattle.sp_verify_effects.specs.AskedAreas.{Asks, is_asked}
use Rattle.sp_verify_effects.specs.Facts.{has_fact, fact}
use Rattle.sp_verify_effects.specs.Variables.{AreOwn}

-- a row says so
abbrev pub InRow : EffectRow → Effect → Type 0
InRow r (effect.Stores x) = IsMember x r.stored
InRow r (effect.Loads x) = IsMember x r.loaded
InRow r effect.Stops = r.stops ≡ true

-- the row of an area does
abbrev pub RowsHave : List EffectRow → ℕ → Effect → Type 0
RowsHave rows m d = (r : EffectRow) × (slice_get rows m ≡ Some r) × InRow r d

-- one effect more
abbrev pub AddsEffect : EffectRow → EffectRow → Effect → Type 0
AddsEffect old new e = (d : Effect) → InRow new d ↔ (InRow old d ⊎ (d ≡ e))

pub record WritesFact (old new : List EffectRow) (f : Fact) : Type 0 where
  pub size : length new ≡ length old
  pub kept : (m : ℕ) (d : Effect) → RowsHave old m d → RowsHave new m d
  pub has : f.area < length old → RowsHave new f.area f.effect
  pub only : (m : ℕ) (d : Effect) → RowsHave new m d → RowsHave old m d ⊎ ((m ≡ f.area) × (d ≡ f.effect))

-- so many rows say what the first facts say, and nothing else
pub record AreRows (fs : List Fact) (i n : ℕ) (rows : List EffectRow) : Type 0 where
  pub size : length rows ≡ n
  pub has : (j : ℕ) (f : Fact) → j < i → slice_get fs j ≡ Some f → f.area < n → RowsHave rows f.area f.effect
  pub only : (m : ℕ) (d : Effect) → RowsHave rows m d → has_fact fs (fact m d) ≡ true

-- the area with this first instruction stores or loads the variable
abbrev pub touches : Effects → ℕ → ℕ → Bool
touches e p x = has_fact e.facts (fact p (effect.Stores x)) || has_fact e.facts (fact p (effect.Loads x))

module _ (c : Parts) where
  -- code of the area, or that it starts or calls, comes to a stop other than a fault
  abbrev pub ComesToStop : Area → Type 0
  ComesToStop a = (bs : List Area) × StopsBy c (Does c) (HasStop c) bs a

  -- these are the effects of an area that are asked about, and whether it comes to a stop
  pub record IsRowOf (k : Asked) (a : Area) (d : EffectRow) : Type 0 where
    pub stored : (x : ℕ) → is_asked k (entry c a) (effect.Stores x) ≡ true
        → IsMember x d.stored ↔ IsEffect c (Does c) Stored a x
    pub loaded : (x : ℕ) → is_asked k (entry c a) (effect.Loads x) ≡ true
        → IsMember x d.loaded ↔ IsEffect c (Does c) Loaded a x
    pub stops : is_asked k (entry c a) effect.Stops ≡ true → IsTrue d.stops ↔ ComesToStop a

  -- each area stands under its first instruction; a variable is touched if it is one of its effects, where both of its
  -- kinds are asked about; the own ones are those of the blocks
  pub record AreFound (e : Effects) : Type 0 where
    pub rows : (a : Area) → IsArea c a
        → (d : EffectRow) × (slice_get e.rows (entry c a) ≡ Some d) × IsRowOf e.asked a d
    pub touched : (a : Area) (x : ℕ) → IsArea c a → is_asked e.asked (entry c a) (effect.Stores x) ≡ true
        → is_asked e.asked (entry c a) (effect.Loads x) ≡ true
        → IsTrue (touches e (entry c a) x) ↔ HasEffect c (Does c) a x
    pub own : AreOwn c e.own.keys

  -- so it is, and all that the rules ask about is asked about
  pub record AreEffects (e : Effects) : Type 0 where
    pub asks : Asks c e.asked
    pub found : AreFound e
