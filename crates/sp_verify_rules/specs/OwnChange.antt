-- None of this belongs to what the program promises: it is for contracts between crates.
-- What a turn of a process may change in its store: frames that it made, and what was moved to it. Elsewhere it changes
-- nothing on which another store would not agree as before.
use Rattle.std.specs.Prelude.{◌≡◌, ◌⊎◌, ℕ, List, Option, IsSome}
use Rattle.std.specs.FinMap as map
use Rattle.sp_cell.specs.declared.spot.Spot.{Spot}
use Rattle.sp_cell.specs.Holders.{ContentsAgree}
use Rattle.sp_cell.specs.Map.{Content, Plain}
use Rattle.sp_cell.specs.Spots.{In}
use Rattle.sp_code.specs.Memory.{Frame}
use Rattle.sp_code.specs.Sound.{identity, means}

-- whatever agreed with the one agrees with the other
abbrev pub AgreesOn : Option Content → Option Content → Type 0
AgreesOn a b = (o : Option Content) → ContentsAgree a o → ContentsAgree b o

-- process r had these frames and this store, and has those
pub record OwnChange (r : ℕ) (fs : List Frame) (p : Plain) (gs : List Frame) (q : Plain) : Type 0 where
  pub moved : q.moved ≡ p.moved
  pub meaning : (s : Spot) → In s p.moved → means gs s.frame ≡ means fs s.frame
  pub known : (s : Spot) → IsSome (map.get q.map s) → (means gs s.frame ≡ identity r s.frame)
      ⊎ (IsSome (map.get p.map s) × (means gs s.frame ≡ means fs s.frame)
      × (AgreesOn (map.get p.map s) (map.get q.map s) ⊎ In s p.moved))
