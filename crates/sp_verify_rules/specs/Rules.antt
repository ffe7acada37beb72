-- All of this belongs to what the program promises (docs/promise.txt).
-- Rules V2, V3, V4, V5 and V9 of code files: at which instruction each is broken.
use Rattle.std.specs.Prelude.{◌≡◌, ◌≢◌, ℕ, zero, suc, ◌<◌, ◌==◌, List, [], ◌∷◌, Option, Some, Bool, true, false, ◌&&◌}
use Rattle.std.specs.Prelude.{◌||◌, length, nat_le}
use Rattle.sp_tree.specs.Interference.{IsMember}
use Rattle.sp_code.specs.declared.instr.Instr.{Instr}
use Rattle.sp_code.specs.declared.instr.Instr.TheVariants as i
use Rattle.sp_code.specs.declared.code.Formal.{Formal}
use Rattle.sp_code.specs.declared.code.Formal.TheVariants as formal
use Rattle.sp_code.specs.declared.code.Layout.{Layout}
use Rattle.sp_code.specs.declared.code.Parts.{Parts}
use Rattle.sp_code.specs.Machine.{layout_of}
use Rattle.sp_verify_rules.specs.Areas.{Area, on_option, instr_at}
use Rattle.sp_verify_rules.specs.Shapes.{Shape, O, C, L, A, Wrong, instr_shapes, stays_within}
use Rattle.sp_verify_rules.specs.Reach.{IsArea, Reaches, Arrives, nexts}
use Rattle.sp_verify_rules.specs.InstructionFacts.{message_cells, cells_left}
use Rattle.sp_verify_rules.specs.NameRules.{IsLayout, LiesIn}

-- an operand fits a formal
abbrev pub fits_formal : Formal → Shape → Bool
fits_formal (formal.Value n) O = n == 1
fits_formal (formal.Value n) C = n == 1
fits_formal (formal.Value n) (L k) = k == n
fits_formal (formal.Reference n) (A x k) = nat_le n k
fits_formal _ _ = false

-- operands, the lowest first, fit formals
abbrev pub fit_formals : List Formal → List Shape → Bool
fit_formals [] [] = true
fit_formals [] (s ∷ ss) = false
fit_formals (f ∷ fs) [] = false
fit_formals (f ∷ fs) (s ∷ ss) = fits_formal f s && fit_formals fs ss

-- the n topmost, the lowest first, before others
abbrev pub lowest_first : ℕ → List Shape → List Shape → List Shape
lowest_first zero ss ts = ts
lowest_first (suc n) [] ts = ts
lowest_first (suc n) (s ∷ ss) ts = lowest_first n ss (s ∷ ts)

abbrev pub is_by_reference : Formal → Bool
is_by_reference (formal.Value n) = false
is_by_reference (formal.Reference n) = true

abbrev pub some_reference : List Formal → Bool
some_reference [] = false
some_reference (f ∷ fs) = is_by_reference f || some_reference fs

-- the instructions to which one goes with no tick and no call
abbrev pub free_nexts : ℕ → Option Instr → List ℕ
free_nexts p (Some i.Tick) = []
free_nexts p (Some (i.Call b up)) = []
free_nexts p o = nexts p o

module _ (c : Parts) where
  -- the operands of a call fit the formals of its block
  abbrev pub call_fits : Option Instr → List Shape → Bool
  call_fits (Some (i.Call b up)) ss = on_option false (layout_of c.layouts b)
      (λ l. fit_formals l.formals (lowest_first (length l.formals) ss []))
  call_fits o ss = true

  -- in an area that is there, a way brings these shapes to p
  abbrev pub ComesTo : Area → ℕ → List Shape → Type 0
  ComesTo a p ss = IsArea c a × Reaches c a p ss

  -- in an area that is there, a way of at most n instructions brings these shapes to p
  abbrev pub ArrivesAt : Area → ℕ → ℕ → List Shape → Type 0
  ArrivesAt a n p ss = IsArea c a × Arrives c a n p ss

  -- V2: an operand is missing, of the wrong shape or left over; two ways bring different shapes. Ways count in the
  -- order of their length, and none goes on from an instruction that is found broken
  pub data BreaksV2 (p : ℕ) : Type 0 where
    LacksOperand : (a : Area) (n : ℕ) (ss : List Shape) → ArrivesAt a n p ss → instr_shapes c a (instr_at c p) p ss
        ≡ Wrong
        → BreaksV2 p
    Differs : (a : Area) (n : ℕ) (ss ts : List Shape) → ArrivesAt a n p ss → ArrivesAt a n p ts → ss ≢ ts → BreaksV2 p

  -- V3: cells left are passed
  pub data BreaksV3 (p : ℕ) : Type 0 where
    PassesLeft : (a : Area) (ss : List Shape) → ComesTo a p ss → stays_within (instr_at c p) ss ≡ false → BreaksV3 p

  -- the instruction at p sends so many cells, or receives where so many are left
  abbrev pub SendsAt : ℕ → ℕ → ℕ → Type 0
  SendsAt p k n = (a : Area) × (ss : List Shape) × ComesTo a p ss × (instr_at c p ≡ Some (i.Send k))
      × (message_cells c ss ≡ Some n)

  abbrev pub ReceivesAt : ℕ → ℕ → ℕ → Type 0
  ReceivesAt p k n = (a : Area) × (ss : List Shape) × ComesTo a p ss × (instr_at c p ≡ Some (i.Receive k))
      × (cells_left c ss ≡ Some n)

  -- V4: another length than at an earlier send; too few cells where it is received
  pub data BreaksV4 (p : ℕ) : Type 0 where
    OtherLength : (k n q m : ℕ) → SendsAt p k n → q < p → SendsAt q k m → m ≢ n → BreaksV4 p
    NoRoom : (k n q m : ℕ) → ReceivesAt p k n → SendsAt q k m → n < m → BreaksV4 p

  -- V5: operands do not fit, or an answering block has a reference formal
  pub data BreaksV5 (p : ℕ) : Type 0 where
    NoFit : (a : Area) (ss : List Shape) → ComesTo a p ss → call_fits (instr_at c p) ss ≡ false → BreaksV5 p
    AnswersByReference : (l : Layout) → IsLayout c l → l.entry ≡ p → l.answer ≡ true → some_reference l.formals ≡ true
        → BreaksV5 p

  -- n steps lead from one instruction to another, with no tick and no call at those passed
  abbrev pub IsFreePath : ℕ → ℕ → ℕ → Type 0
  IsFreePath zero p q = p ≡ q
  IsFreePath (suc n) p q = (r : ℕ) × IsMember r (free_nexts p (instr_at c p)) × IsFreePath n r q

  -- V9: a way back to itself
  pub data BreaksV9 (p : ℕ) : Type 0 where
    ComesBack : (a : Area) (n : ℕ) → LiesIn c p a → IsFreePath (suc n) p p → BreaksV9 p
