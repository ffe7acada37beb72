-- All of this belongs to what the program promises (docs/promise.txt).
-- The bytes of a text: letters, digits, blanks. The definitions of tokens and of items that are read cite it, and the
-- tests on bytes promise it.
use Rattle.std.specs.Prelude.{ℕ, ◌+◌, Bool, ◌||◌, ◌&&◌, nat_le, ◌==◌, cond}

-- space, tab, form feed, carriage return, line feed
abbrev pub is_blank : ℕ → Bool
is_blank b = b == 32 || (b == 9 || (b == 12 || (b == 13 || b == 10)))

-- 0 to 9
abbrev pub is_digit : ℕ → Bool
is_digit b = nat_le 48 b && nat_le b 57

-- A to Z
abbrev pub is_upper : ℕ → Bool
is_upper b = nat_le 65 b && nat_le b 90

-- a letter of ASCII
abbrev pub is_letter : ℕ → Bool
is_letter b = (nat_le 97 b && nat_le b 122) || is_upper b

-- what a name goes on with: a letter, a digit or an underscore
abbrev pub is_name_byte : ℕ → Bool
is_name_byte b = is_letter b || (is_digit b || b == 95)

-- the lower case of a letter, and any other byte itself
abbrev pub lower_case_letter : ℕ → ℕ
lower_case_letter b = cond (is_upper b) (b + 32) b
