-- None of this belongs to what the program promises: it is for contracts between crates.
-- Cutting a text at a byte, for the parts of readers. They are recursive, so that proofs go by the bytes of a line.
use Rattle.std.specs.Prelude.{ℕ, cond, ◌==◌, List, [], ◌∷◌, Option, Some, None, find}
use Rattle.std.specs.Borrow.{Bor}
use Rattle.std.specs.Option.{option_map}
use Rattle.std.specs.Str.{bytes_eq}
use Rattle.sp_base.specs.declared.fault.Fault.{Fault}
use Rattle.sp_base.specs.declared.fault.Fault.TheVariants as fault
use Rattle.sp_base.specs.Faults.{fault_name}

-- the parts that references give to read, if there are any
abbrev pub parts_in : Option (Bor (List ℕ) × Bor (List ℕ)) → Option (List ℕ × List ℕ)
parts_in parts = option_map (λ p. (p.0.now, p.1.now)) parts

-- the parts, the first of which begins with x besides
abbrev pub with_first : ℕ → Option (List ℕ × List ℕ) → Option (List ℕ × List ℕ)
with_first x None = None
with_first x (Some p) = Some (x ∷ p.0, p.1)

-- what stands before and after the first c
abbrev pub first_split : ℕ → List ℕ → Option (List ℕ × List ℕ)
first_split c [] = None
first_split c (x ∷ xs) = cond (x == c) (Some ([], xs)) (with_first x (first_split c xs))

-- what stands before and after the last c
abbrev pub last_split : ℕ → List ℕ → Option (List ℕ × List ℕ)
last_split c [] = None
last_split c (x ∷ xs) = or_here (last_split c xs)
  where
    or_here : Option (List ℕ × List ℕ) → Option (List ℕ × List ℕ)
    or_here None = cond (x == c) (Some ([], xs)) None
    or_here (Some p) = Some (x ∷ p.0, p.1)

-- each fault once
abbrev pub all_faults : List Fault
all_faults = fault.F1 ∷ fault.F2 ∷ fault.F3 ∷ fault.F4 ∷ fault.F5 ∷ fault.F6 ∷ fault.F7 ∷ fault.F8 ∷ fault.F9
    ∷ fault.F10 ∷ fault.F11 ∷ fault.F12 ∷ fault.F13 ∷ fault.F14 ∷ fault.F15 ∷ fault.F16 ∷ fault.F17 ∷ fault.F18 ∷ []

-- the fault of this name
abbrev pub fault_of_name : List ℕ → Option Fault
fault_of_name text = find (λ f. bytes_eq (fault_name f) text) all_faults
