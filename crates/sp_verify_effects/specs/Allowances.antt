-- None of this belongs to what the program promises: it is for contracts between crates.
-- What an area may do without being asked about it: what all children are handed that come to it, and the own variables
-- of all blocks that rules ask about and that come to it.
use Rattle.std.specs.Prelude.{◌≡◌, ℕ, List, Option, Some, None, Bool, true, false, ◌||◌, not, if◌then◌else◌}
use Rattle.sp_tree.specs.Interference.{IsMember}
use Rattle.sp_code.specs.declared.code.ChildTable.{ChildTable}
use Rattle.sp_code.specs.declared.code.Layout.{Layout}
use Rattle.sp_verify_rules.specs.Effects.{handed_to}
use Rattle.sp_verify_effects.specs.declared.allowance.Allowance.{Allowance}
use Rattle.sp_verify_effects.specs.declared.facts.Effect.{Effect}
use Rattle.sp_verify_effects.specs.declared.facts.Effect.TheVariants as effect
use Rattle.sp_verify_effects.specs.Sets.{has}

-- keys have a variable, or their complement has it
abbrev pub is_let : Bool → List ℕ → ℕ → Bool
is_let complement ks x = if complement then not (has ks x) else has ks x

-- all that the one lets, the other one lets
abbrev pub LetsAll : Bool → List ℕ → Bool → List ℕ → Type 0
LetsAll p ks q ls = (x : ℕ) → is_let p ks x ≡ true → is_let q ls x ≡ true

-- it may do this
abbrev pub allows : Allowance → Effect → Bool
allows w (effect.Stores x) = is_let w.complement w.stored.keys x
allows w (effect.Loads x) = is_let w.complement w.loaded.keys x
allows w effect.Stops = w.stops

-- by its allowance, if it has one
abbrev pub allows_some : Option Allowance → Effect → Bool
allows_some None d = false
allows_some (Some w) d = allows w d

-- a child is handed what it needs for this
abbrev pub IsGiven : ChildTable → Effect → Type 0
IsGiven t (effect.Stores x) = IsMember x t.moved
IsGiven t (effect.Loads x) = IsMember x (handed_to t)
IsGiven t effect.Stops = Unit {0}

-- it is handed all that the allowance has
abbrev pub Fits : Option Allowance → ChildTable → Type 0
Fits o t = (d : Effect) → allows_some o d ≡ true → IsGiven t d

-- it is done to a variable that the block has itself
abbrev pub IsOwnEffect : Layout → Effect → Type 0
IsOwnEffect l (effect.Stores x) = IsMember x l.variables
IsOwnEffect l (effect.Loads x) = IsMember x l.variables
IsOwnEffect l effect.Stops = ⊥

-- the allowance has nothing else
abbrev pub FitsBlock : Option Allowance → Layout → Type 0
FitsBlock o l = (d : Effect) → allows_some o d ≡ true → IsOwnEffect l d

-- one allowance is within another
abbrev pub IsWithin : Allowance → Allowance → Type 0
IsWithin w v = (d : Effect) → allows w d ≡ true → allows v d ≡ true

-- the other one allows stops if the one does
abbrev pub stops_within : Allowance → Allowance → Bool
stops_within w v = not w.stops || v.stops

-- the other one allows a store of the actual variable if the one allows that of the formal; the same for loads
abbrev pub stores_within : Allowance → Allowance → ℕ → ℕ → Bool
stores_within w v y x = not (is_let w.complement w.stored.keys y) || is_let v.complement v.stored.keys x

abbrev pub loads_within : Allowance → Allowance → ℕ → ℕ → Bool
loads_within w v y x = not (is_let w.complement w.loaded.keys y) || is_let v.complement v.loaded.keys x
