-- None of this belongs to what the program promises: it is for contracts between crates.
-- What a process of verified code holds: the effects of each activation's area stand at spots that its store holds, no
-- two at one spot. It is what the rules on effects and forks are for.
use Rattle.std.specs.Prelude.{◌≡◌, ◌≢◌, ◌⊎◌, ℕ, zero, suc, ◌+◌, ◌<◌, ◌≤◌, List, [], ◌∷◌, ◌++◌, length, Some, IsSome}
use Rattle.std.specs.FinMap as map
use Rattle.sp_cell.specs.declared.cell.Cell.{Cell}
use Rattle.sp_cell.specs.declared.spot.Spot.{Spot}
use Rattle.sp_cell.specs.Map.{Map, Plain, Away, IsOutput, IsHeld, output_spot}
use Rattle.sp_cell.specs.Spots.{In}
use Rattle.sp_code.specs.declared.code.Layout.{Layout}
use Rattle.sp_code.specs.Memory.{Home, Frame, position_in, position_at}
use Rattle.sp_code.specs.PlainStore.{piece_of}
use Rattle.sp_code.specs.System.{spot_of}
use Rattle.sp_tree.specs.Interference.{IsMember}
use Rattle.sp_verify_rules.specs.Chains.{Chain}
use Rattle.sp_verify_rules.specs.Extents.{extent, size_in}

-- the input's position
abbrev pub input_spot : Spot
input_spot = position_at.spot

-- what is held of variable x, which stands at s: the input's position, the output, or a piece that has all its cells,
-- in the newest frame with its number
abbrev pub HoldsVariable : List Layout → List Frame → Map → ℕ → Spot → Type 0
HoldsVariable ls fs m zero s = (n : ℕ) × (position_in (piece_of (map.get m s)) ≡ Some n)
HoldsVariable ls fs m (suc zero) s = IsOutput (map.get m s)
HoldsVariable ls fs m (suc (suc x)) s = (cs : List Cell) × (piece_of (map.get m s) ≡ Some cs)
    × (extent ls fs (suc (suc x)) ≡ Some (length cs)) × (size_in ls fs s ≡ Some (length cs))

-- E: the effects of an activation, which has these frames; n is above the frames of the spots; K: the process has the
-- input or the output
pub record Allowed (ls : List Layout) (K : Type 0) (E : ℕ → Type 0) (n : ℕ) (fs : List Frame) (m : Map) : Type 0 where
  pub held : (x : ℕ) → E x → (s : Spot) × (spot_of ls fs x ≡ Some s) × (s.frame < n) × HoldsVariable ls fs m x s
  pub apart : (x y : ℕ) (s : Spot) → E x → E y → spot_of ls fs x ≡ Some s → spot_of ls fs y ≡ Some s → x ≡ y
  pub console : E 0 ⊎ E 1 → K
  pub clear : K → (x : ℕ) (s : Spot) → 2 ≤ x → E x → spot_of ls fs x ≡ Some s → (s ≢ input_spot) × (s ≢ output_spot)

-- H: the blocks and indices around an area; E: what an activation of an area may touch
module _ (ls : List Layout) {Area : Type 0} (H : Area → List Home) (E : Area → ℕ → Type 0) where
  -- all activations, the newest first, each with its frame on those below; the last one has the frames with which the
  -- process began
  abbrev pub AllAllowed : (K : Type 0) → ℕ → List Area → List Frame → Map → Type 0
  AllAllowed K n [] fs m = ⊥
  AllAllowed K n (a ∷ []) fs m = Chain (H a) fs × Allowed ls K (E a) n fs m
  AllAllowed K n (a ∷ b ∷ us) [] m = ⊥
  AllAllowed K n (a ∷ b ∷ us) (f ∷ fs) m = Chain (H a) (f ∷ fs) × Allowed ls K (E a) n (f ∷ fs) m × (f.number < n)
      × AllAllowed K f.number (b ∷ us) fs m

  -- the numbers of the frames that the process made, the newest last: each is no greater than the depth at which it was
  -- made
  abbrev pub AreOwn : (base : ℕ) → List Area → List Frame → List ℕ → Type 0
  AreOwn base [] fs ns = ⊥
  AreOwn base (a ∷ []) fs ns = ns ≡ []
  AreOwn base (a ∷ b ∷ us) [] ns = ⊥
  AreOwn base (a ∷ b ∷ us) (f ∷ fs) ns = (ms : List ℕ) × (ns ≡ ms ++ f.number ∷ []) × (f.number ≤ base + length ns)
      × AreOwn base (b ∷ us) fs ms

  -- a process that runs, or waits with an offer: nothing of it is away, and what moved to it is there. It began at
  -- depth base, and knows only frames that it made, and those with numbers up to that
  pub record Holding (K : Type 0) (us : List Area) (fs : List Frame) (depth : ℕ) (p : Plain) : Type 0 where
    pub bound : ℕ
    pub allowed : AllAllowed K bound us fs p.map
    pub base : ℕ
    pub own : AreOwn base us fs p.own
    pub deep : depth ≡ base + length p.own
    pub known : (q : Spot) → IsSome (map.get p.map q) → IsMember q.frame p.own ⊎ (q.frame ≤ base)
    pub none_away : (q : Spot) → map.get p.map q ≢ Some Away
    pub moved : (q : Spot) → In q p.moved → IsHeld (map.get p.map q)
    pub old : (q : Spot) → In q p.moved → IsMember q.frame p.own → ⊥
    pub console : K → (IsMember 0 p.own → ⊥) × (IsSome (map.get p.map input_spot) ⊎ IsSome (map.get p.map output_spot))
