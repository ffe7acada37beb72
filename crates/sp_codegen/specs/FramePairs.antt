-- None of this belongs to what the program promises: it is for contracts between crates.
-- The live frames of a process in pairs: that of the meaning, and that of the machine. The relation of memories and
-- the laws of turns go by them, since links count frames alike on both sides.
use Rattle.std.specs.Prelude.{◌≡◌, ℕ, zero, suc, ◌==◌, List, [], ◌∷◌, if◌then◌else◌, length}
use Rattle.sp_meaning.specs.LocalWork as own
use Rattle.sp_code.specs.Memory as m
use Rattle.sp_code.specs.Scopes.{Scope}
use Rattle.sp_code.specs.Scopes as s

-- a frame of each
pub record FramePair : Type 0 where
  pub source : own.Frame
  pub machine : m.Frame

-- the frames of the meaning
abbrev pub sources : List FramePair → List own.Frame
sources [] = []
sources (j ∷ js) = j.source ∷ sources js

-- the frames of the machine
abbrev pub machines : List FramePair → List m.Frame
machines [] = []
machines (j ∷ js) = j.machine ∷ machines js

-- the end of the list that is so long
abbrev pub pairs_from : ℕ → List FramePair → List FramePair
pairs_from n [] = []
pairs_from n (j ∷ js) = if length (j ∷ js) == n then j ∷ js else pairs_from n js

-- so many static levels outward
abbrev pub up_at : ℕ → List FramePair → List FramePair
up_at zero js = js
up_at (suc k) [] = []
up_at (suc k) (j ∷ js) = up_at k (pairs_from j.source.link js)

-- a scope, and what its frame is for
abbrev pub HomeIs : Scope → own.Home → Type 0
HomeIs (s.OfBlock b) (own.OfBlock c) = b ≡ c
HomeIs (s.OfBlock b) (own.OfIndex x v) = ⊥
HomeIs (s.OfIndex x) (own.OfBlock c) = ⊥
HomeIs (s.OfIndex x) (own.OfIndex y v) = x ≡ y

-- the static chain is that of the scopes
abbrev pub Chain : List Scope → List FramePair → Type 0
Chain [] js = Unit {0}
Chain (s ∷ sc) js = (j : FramePair) × (rest : List FramePair) × (js ≡ j ∷ rest) × HomeIs s j.source.home
    × Chain sc (pairs_from j.source.link rest)
