-- None of this belongs to what the program promises: it is for contracts between crates.
-- Ways back with no tick and no call, as a verifier finds them: numbers that fall along each way show where none is,
-- and a search from an instruction shows where one is.
use Rattle.std.specs.Prelude.{◌≡◌, ◌⊎◌, ℕ, suc, ◌≤◌, ◌<◌, List, Option, Some, None, Bool, true, false, not, slice_get}
use Rattle.std.specs.Prelude.{slice_set, length, sum_by}
use Rattle.sp_code.specs.declared.code.Parts.{Parts}
use Rattle.sp_verify_areas.specs.declared.owners.Owner.{Owner}
use Rattle.sp_verify_areas.specs.declared.owners.Owner.TheVariants as owner
use Rattle.sp_verify_rules.specs.Areas.{Area, on_option, instr_at}
use Rattle.sp_verify_rules.specs.NameRules.{LiesIn}
use Rattle.sp_verify_rules.specs.Reach.{IsMember}
use Rattle.sp_verify_rules.specs.Rules.{free_nexts, IsFreePath}
use Rattle.sp_verify_areas.specs.Alone.{flag_at}
use Rattle.sp_verify_areas.specs.Owners.{is_same}

-- an instruction has an owner
abbrev pub has_owner : List Owner → ℕ → Bool
has_owner os p = on_option false (slice_get os p) (λ o. not (is_same o owner.Nobody))

-- ---- numbers

-- the number of an instruction: 0 where there is none
abbrev pub number_at : List ℕ → ℕ → ℕ
number_at ns p = on_option 0 (slice_get ns p) (λ n. n)

-- from an instruction to another it stays or falls; it falls from those before the limit
abbrev pub Falls : List ℕ → ℕ → ℕ → ℕ → Type 0
Falls ns limit p q = (number_at ns q ≤ number_at ns p) × (p < limit → number_at ns q < number_at ns p)

-- so it does along the ways of an instruction that pass no tick and no call
abbrev pub FallsFrom : Parts → List ℕ → ℕ → ℕ → Type 0
FallsFrom c ns limit p = (q : ℕ) → IsMember q (free_nexts p (instr_at c p)) → Falls ns limit p q

-- the numbers rise on no way in the code of an area
abbrev pub RiseNowhere : Parts → List ℕ → Type 0
RiseNowhere c ns = (p : ℕ) (a : Area) → LiesIn c p a → FallsFrom c ns 0 p

-- ---- a search from one instruction, with a flag for each instruction that it comes to

-- one or more steps lead there with no tick and no call
abbrev pub HasFreePath : Parts → ℕ → ℕ → Type 0
HasFreePath c s q = (n : ℕ) × IsFreePath c (suc n) s q

-- how many have no flag yet
abbrev pub gap : Bool → ℕ
gap true = 0
gap false = 1

abbrev pub gaps : List Bool → ℕ
gaps fs = sum_by gap fs

-- a flag set at the end of a way, if there is one
abbrev pub with_flag : List Bool → Option ℕ → List Bool
with_flag fs None = fs
with_flag fs (Some q) = slice_set fs q true

-- where there is a flag, a way leads
pub record AreFlagsReached (c : Parts) (s : ℕ) (fs : List Bool) : Type 0 where
  pub size : length fs ≡ length c.instrs
  pub each : (q : ℕ) → flag_at fs q ≡ true → HasFreePath c s q

-- a step of the search, which takes no flag away
pub record Widens (c : Parts) (s : ℕ) (old new : List Bool) : Type 0 where
  pub led : AreFlagsReached c s new
  pub fewer : gaps new ≤ gaps old

-- where the ways of an instruction lead there is a flag
abbrev pub AreFlagged : Parts → List Bool → ℕ → Type 0
AreFlagged c fs p = (q : ℕ) → IsMember q (free_nexts p (instr_at c p)) → q < length fs → flag_at fs q ≡ true

-- the search is at an instruction: at the first one, or where there is a flag
abbrev pub IsAt : ℕ → List Bool → ℕ → Type 0
IsAt s fs p = (p ≡ s) ⊎ (flag_at fs p ≡ true)

-- it has gone on from each
abbrev pub HasGoneOn : Parts → ℕ → List Bool → Type 0
HasGoneOn c s fs = (p : ℕ) → IsAt s fs p → AreFlagged c fs p
