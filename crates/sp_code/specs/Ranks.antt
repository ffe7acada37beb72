-- None of this belongs to what the program promises: it is for contracts between crates.
-- Each way back to an instruction passes a tick or a call. This is why a turn ends. Sound code is required to have
-- such ranks along what each turn comes to, and generated code is proved to have them at each instruction.
use Rattle.std.specs.Prelude.{ℕ, zero, suc, ◌+◌, ◌<◌, List, [], ◌∷◌, length, Option, Some, None, nat_lt, if◌then◌else◌}
use Rattle.std.specs.Prelude.{slice_get}
use Rattle.sp_code.specs.declared.instr.Instr.{Instr}
use Rattle.sp_code.specs.declared.instr.Instr.TheVariants as i
use Rattle.sp_code.specs.declared.code.Parts.{Parts}
use Rattle.sp_code.specs.Machine.{Ops, Config, At}
use Rattle.sp_code.specs.Turns.{RunsTo}

-- the instructions to which one leads with no tick, no call and no return
abbrev pub ways : ℕ → Option Instr → List ℕ
ways p None = []
ways p (Some (i.Jump to)) = to ∷ []
ways p (Some (i.Jumpf to)) = to ∷ (p + 1) ∷ []
ways p (Some (i.Casej v to)) = to ∷ (p + 1) ∷ []
ways p (Some i.Nocase) = []
ways p (Some i.Tick) = []
ways p (Some (i.Forup var to)) = to ∷ (p + 1) ∷ []
ways p (Some (i.Fordown var to)) = to ∷ (p + 1) ∷ []
ways p (Some (i.Nextup var to)) = to ∷ (p + 1) ∷ []
ways p (Some (i.Nextdown var to)) = to ∷ (p + 1) ∷ []
ways p (Some (i.Call b up)) = []
ways p (Some i.Return) = []
ways p (Some i.Open) = []
ways p (Some (i.Send k)) = []
ways p (Some (i.Receive k)) = []
ways p (Some (i.Fork t)) = []
ways p (Some i.End) = []
ways p (Some _) = (p + 1) ∷ []

-- the larger of two
abbrev pub larger_of : ℕ → ℕ → ℕ
larger_of a b = if nat_lt a b then b else a

abbrev pub maximum_of : (ℕ → ℕ) → List ℕ → ℕ
maximum_of f [] = 0
maximum_of f (p ∷ ps) = larger_of (f p) (maximum_of f ps)

-- the length of the longest way from an instruction, up to n
unfoldable pub rank : ℕ → List Instr → ℕ → ℕ
rank zero code p = 0
rank (suc n) code p = suc (maximum_of (rank n code) (ways p (slice_get code p)))

-- each is below a bound
abbrev pub AllBelow : (ℕ → ℕ) → ℕ → List ℕ → Type 0
AllBelow f n [] = Unit {0}
AllBelow f n (p ∷ ps) = (f p < n) × AllBelow f n ps

-- each way makes the rank fall, so none leads back
unfoldable pub IsRanked : List Instr → Type 0
IsRanked code = (p : ℕ) → AllBelow (rank (suc (length code)) code) (rank (suc (length code)) code p)
    (ways p (slice_get code p))

-- each way on from where a process stands makes the rank fall
abbrev pub RanksFall : {M : Type 0} → Parts → Config M → Type 0
RanksFall code (At pc st n) = AllBelow (rank (suc (length code.instrs)) code.instrs)
    (rank (suc (length code.instrs)) code.instrs pc) (ways pc (slice_get code.instrs pc))

-- so does each from what the turn of a process comes to; nothing is asked of instructions to which nothing comes
abbrev pub IsRankedAlong : {M : Type 0} → Ops M → Parts → Config M → Type 0
IsRankedAlong {M} ops code c = (d : Config M) → RunsTo ops code c d → RanksFall code d
