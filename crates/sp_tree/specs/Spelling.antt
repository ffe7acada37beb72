-- All of this belongs to what the program promises (docs/promise.txt).
-- What a token of a text says: the number of digits, the text between quotes, the letters of a name. The grammar gives
-- trees these values, and the scanner and the parser promise them.
use Rattle.std.specs.Prelude.{ℕ, ◌+◌, ◌-◌, ◌*◌, ◌==◌, cond, List, [], ◌∷◌, map, take, drop}
use Rattle.sp_tree.specs.declared.token.Token.{Token}
use Rattle.sp_tree.specs.declared.syntax.Name.{Name}
use Rattle.sp_tree.specs.Characters.{lower_case_letter}

-- the bytes of a token
abbrev pub spelling : List ℕ → Token → List ℕ
spelling text t = take (t.to - t.from) (drop t.from text)

-- a name in lower case, with its place
abbrev pub name_of : List ℕ → Token → Name
name_of text t = record { text = map lower_case_letter (spelling text t); at = t.at }

-- the number that digits write, after others that write n
abbrev pub digits_value : ℕ → List ℕ → ℕ
digits_value n [] = n
digits_value n (b ∷ bs) = digits_value (10 * n + (b - 48)) bs

-- the number of a token of digits
abbrev pub number_of : List ℕ → Token → ℕ
number_of text t = digits_value 0 (spelling text t)

-- the bytes of a text behind its first quote: up to the quote that ends it, where two quotes stand for one
abbrev pub within_quotes : List ℕ → List ℕ
within_quotes [] = []
within_quotes (b ∷ []) = []
within_quotes (b ∷ c ∷ bs) = cond (b == 39) (39 ∷ within_quotes bs) (b ∷ within_quotes (c ∷ bs))

-- the text of a token between quotes
abbrev pub quoted_of : List ℕ → Token → List ℕ
quoted_of text t = within_quotes (drop 1 (spelling text t))
