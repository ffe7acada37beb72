-- All of this belongs to what the program promises (docs/promise.txt).
-- Numbers read from the input, and items as they are written. The meaning and the machine's definition share it, so
-- that both read and write the same bytes; `sp_machine` promises it.
use Rattle.std.specs.Prelude.{ℕ, suc, ◌+◌, ◌-◌, ◌*◌, ◌==◌, nat_abs, ℤ, pos, neg_ℤ, List, [], ◌∷◌, ◌++◌, Bool, true}
use Rattle.std.specs.Prelude.{false, ◌||◌, if◌then◌else◌, int_le, length, take, drop, replicate, codes}
use Rattle.sp_base.specs.declared.fault.Fault.{Fault}
use Rattle.sp_base.specs.declared.fault.Fault.TheVariants as fault
pub use Rattle.sp_tree.specs.Characters.{is_blank, is_digit}
use Rattle.sp_tree.specs.Operators.{is_integer, modulo}

-- how many blanks stand first
abbrev pub blanks : List ℕ → ℕ
blanks [] = 0
blanks (b ∷ bs) = if is_blank b then suc (blanks bs) else 0

-- how many digits stand first
abbrev pub digits : List ℕ → ℕ
digits [] = 0
digits (b ∷ bs) = if is_digit b then suc (digits bs) else 0

-- the number that digits spell, after n
abbrev pub number_from : ℕ → List ℕ → ℕ
number_from n [] = n
number_from n (d ∷ ds) = number_from (n * 10 + (d - 48)) ds

-- whether a minus sign stands first, and how many bytes a sign takes
abbrev pub is_minus : List ℕ → Bool
is_minus [] = false
is_minus (b ∷ bs) = b == 45

-- how many bytes a sign takes
abbrev pub sign_length : List ℕ → ℕ
sign_length [] = 0
sign_length (b ∷ bs) = if (b == 45) || (b == 43) then 1 else 0

abbrev pub signed_integer : Bool → ℕ → ℤ
signed_integer minus n = if minus then neg_ℤ (pos n) else pos n

-- what reading gives: a value and how many bytes it took, or a fault
pub data ReadResult : Type 0 where
  ReadItem : (n : ℤ) (bytes : ℕ) → ReadResult
  ReadFault : (fault : Fault) → ReadResult

-- the number of the digits that stand first, after so many bytes: F17 without a digit, F2 outside the integers
abbrev pub digits_after : ℕ → Bool → List ℕ → ReadResult
digits_after before minus bs =
    if digits bs == 0 then ReadFault fault.F17
    else (if is_integer (signed_integer minus (number_from 0 (take (digits bs) bs))) then
    ReadItem (signed_integer minus (number_from 0 (take (digits bs) bs))) (before + digits bs) else ReadFault fault.F2)

-- a number after so many blanks, F18 where nothing is left
abbrev pub number_after : ℕ → List ℕ → ReadResult
number_after before [] = ReadFault fault.F18
number_after before (b ∷ bs) = digits_after (before + sign_length (b ∷ bs)) (is_minus (b ∷ bs))
    (drop (sign_length (b ∷ bs)) (b ∷ bs))

-- an integer: blanks, a sign, and as many digits as there are
abbrev pub number_in : List ℕ → ReadResult
number_in bs = number_after (blanks bs) (drop (blanks bs) bs)

-- a char: the next byte, a space for a line feed, F18 where nothing is left
abbrev pub char_in : List ℕ → ReadResult
char_in [] = ReadFault fault.F18
char_in (b ∷ bs) = ReadItem (pos (if b == 10 then 32 else b)) 1

-- how many bytes a line has yet, with its line feed
abbrev pub line_length : List ℕ → ℕ
line_length [] = 0
line_length (b ∷ bs) = if b == 10 then 1 else suc (line_length bs)

-- nothing is left of the line
abbrev pub at_line_end : List ℕ → Bool
at_line_end [] = true
at_line_end (b ∷ bs) = b == 10

-- right in m places
abbrev pub right_justified : ℕ → List ℕ → List ℕ
right_justified m t = replicate (m - length t) 32 ++ t

abbrev pub truth_text : ℤ → List ℕ
truth_text n = if int_le n (pos 0) then codes "false" else codes "true"

-- the byte of a char, which is its ordinal modulo 256, as `mod` has it: that of -1 is 255. Only code from a file can
-- have an ordinal below 0 or above 255 there
abbrev pub byte : ℤ → ℕ
byte n = nat_abs (modulo n (pos 256))
