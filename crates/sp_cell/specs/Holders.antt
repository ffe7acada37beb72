-- None of this belongs to what the program promises: it is for contracts between crates.
-- What *held* says of all stores of a run side by side: each variable is own in one store at most, or shared alike.
-- The contracts of the laws of `Store` keep it at forks and joins; the stores are seen with what their frames mean in
-- the run, since each numbers its own.
use Rattle.std.specs.Prelude.{◌≡◌, ◌≢◌, ◌⊎◌, ℕ, ◌+◌, ◌==◌, if◌then◌else◌, List, [], ◌∷◌, ◌++◌, Option, None, Some}
use Rattle.std.specs.Prelude.{IsSome}
use Rattle.std.specs.List.{AllByRecursion}
use Rattle.std.specs.FinMap as map
use Rattle.sp_cell.specs.declared.spot.Spot.{Spot}
use Rattle.sp_cell.specs.declared.spot.Handing.{Handing}
use Rattle.sp_cell.specs.Map.{Map, Content, Shared, Away, Plain}
use Rattle.sp_cell.specs.Fork.{index_frame}

-- the map of a store, and which frame of the run each of its frame numbers means
pub record View : Type 0 where
  pub map : Map
  pub means : ℕ → ℕ

-- the variable of the run that a spot means
abbrev pub variable_of : View → Spot → Spot
variable_of w s = record { frame = w.means s.frame; variable = s.variable }

-- nothing is held: the spot is unknown, or its variable is away
abbrev pub IsNotHeld : Option Content → Type 0
IsNotHeld None = Unit {0}
IsNotHeld (Some Away) = Unit {0}
IsNotHeld _ = ⊥

-- both are shared, with equal cells
abbrev pub ShareAlike : Option Content → Option Content → Type 0
ShareAlike (Some (Shared cs)) (Some (Shared ds)) = cs ≡ ds
ShareAlike _ _ = ⊥

-- what two stores may have of one variable: at most one holds it, or both share it with equal cells
abbrev pub ContentsAgree : Option Content → Option Content → Type 0
ContentsAgree a b = IsNotHeld a ⊎ (IsNotHeld b ⊎ ShareAlike a b)

-- a variable that the store knows stands at one spot
abbrev pub HasUniqueSpots : View → Type 0
HasUniqueSpots w = (p q : Spot) → IsSome (map.get w.map p) → IsSome (map.get w.map q)
    → variable_of w p ≡ variable_of w q
    → p ≡ q

-- two stores agree on each variable that both know
abbrev pub AgreeOnAll : View → View → Type 0
AgreeOnAll w u = (p q : Spot) → variable_of w p ≡ variable_of u q → ContentsAgree (map.get w.map p) (map.get u.map q)

-- held, of all stores of a run: each variable is own in one store at most; where it is shared, all that share it have
-- equal cells and none owns it; every other store that knows it has it away
abbrev pub IsPartition : List View → Type 0
IsPartition [] = Unit {0}
IsPartition (w ∷ ws) = HasUniqueSpots w × AllByRecursion (AgreeOnAll w) ws × IsPartition ws

-- ---- a fork

-- a child's frames mean what they mean to its parent, and the frame of its index is a new one
abbrev pub child_means : (ℕ → ℕ) → Handing → ℕ → ℕ → ℕ
child_means f h v n = if n == index_frame h then v else f n

-- the children of a plan, with a new frame for each
abbrev pub child_views : (ℕ → ℕ) → (ℕ → ℕ) → List Handing → List Plain → List View
child_views f new [] cs = []
child_views f new (h ∷ hs) [] = []
child_views f new (h ∷ hs) (c ∷ cs) = record { map = c.map; means = child_means f h (new 0) }
    ∷ child_views f (λ k. new (k + 1)) hs cs

-- no spot of the store means the frame
abbrev pub IsFresh : ℕ → View → Type 0
IsFresh v w = (q : Spot) → IsSome (map.get w.map q) → w.means q.frame ≢ v

-- frames that no store knows, each another
abbrev pub AreFresh : (ℕ → ℕ) → List View → Type 0
AreFresh new ws = ((i j : ℕ) → new i ≡ new j → i ≡ j) × ((k : ℕ) → AllByRecursion (IsFresh (new k)) ws)

-- a fork keeps the partition: the parent's map was m and is n, and the children are cs
pub record KeepsPartition (m n : Map) (hs : List Handing) (cs : List Plain) : Type 0 where
  pub keeps : (f new : ℕ → ℕ) (ws : List View) → IsPartition (record { map = m; means = f } ∷ ws)
      → AreFresh new (record { map = m; means = f } ∷ ws)
      → IsPartition (record { map = n; means = f } ∷ (child_views f new hs cs ++ ws))

-- a join keeps it: the parent's map was m and is n, and the child is gone
pub record RejoinsPartition (m n : Map) (c : Plain) : Type 0 where
  pub keeps : (f g : ℕ → ℕ) (ws : List View)
      → IsPartition (record { map = m; means = f } ∷ record { map = c.map; means = g } ∷ ws)
      → AllByRecursion (λ s. f s.frame ≡ g s.frame) c.moved → IsPartition (record { map = n; means = f } ∷ ws)
