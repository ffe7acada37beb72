-- None of this belongs to what the program promises: it is for contracts between crates.
-- The least number at which something holds: the answer of each pass that looks for the first instruction at which code
-- is broken.
use Rattle.std.specs.Prelude.{ℕ, ◌<◌, Option, Some, None, if◌then◌else◌, nat_lt}

-- it holds nowhere; or it holds there, and nowhere before
abbrev pub IsLeast : (ℕ → Type 0) → Option ℕ → Type 0
IsLeast P None = (p : ℕ) → P p → ⊥
IsLeast P (Some n) = P n × ((p : ℕ) → p < n → P p → ⊥)

-- of two answers the one that comes first
abbrev pub earlier_of : Option ℕ → Option ℕ → Option ℕ
earlier_of None o = o
earlier_of (Some m) None = Some m
earlier_of (Some m) (Some n) = Some (if nat_lt n m then n else m)

-- one of the first n items holds there
pub record Upto (R : ℕ → ℕ → Type 0) (n p : ℕ) : Type 0 where
  pub item : ℕ
  pub below : item < n
  pub holds : R item p
