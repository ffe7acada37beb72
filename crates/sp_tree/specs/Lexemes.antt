-- All of this belongs to what the program promises (docs/promise.txt).
-- The spellings of tokens, and comments. The bytes begin with a spelling, and what is left is the second list. The
-- scanner's contracts and the definition of a scanned text cite it: relations on bytes, of which the longest is taken.
use Rattle.std.specs.Prelude.{◌≡◌, ◌≢◌, ℕ, ◌-◌, ◌≤◌, Bool, true, false, ◌||◌, ◌&&◌, ◌==◌, List, [], ◌∷◌, ◌++◌, length}
use Rattle.std.specs.Prelude.{map, take, codes, Some, slice_get}
use Rattle.sp_tree.specs.declared.token.Kind.{Kind}
use Rattle.sp_tree.specs.declared.token.Kind.TheVariants as kind
use Rattle.sp_tree.specs.Characters.{is_letter, is_digit, is_name_byte, lower_case_letter}

-- the reserved words, in the order of the alphabet
abbrev pub words : List (List ℕ)
words = codes "and" ∷ codes "array" ∷ codes "assume" ∷ codes "begin" ∷ codes "case" ∷ codes "const" ∷ codes "div"
    ∷ codes "do" ∷ codes "downto" ∷ codes "else" ∷ codes "end" ∷ codes "for" ∷ codes "forall" ∷ codes "function"
    ∷ codes "if" ∷ codes "mod" ∷ codes "not" ∷ codes "of" ∷ codes "or" ∷ codes "parallel" ∷ codes "procedure"
    ∷ codes "program" ∷ codes "record" ∷ codes "repeat" ∷ codes "then" ∷ codes "to" ∷ codes "type" ∷ codes "until"
    ∷ codes "var" ∷ codes "while" ∷ []

-- the words of the language that the profile refuses
abbrev pub refused_words : List (List ℕ)
refused_words = codes "file" ∷ codes "forward" ∷ codes "goto" ∷ codes "in" ∷ codes "label" ∷ codes "nil"
    ∷ codes "packed" ∷ codes "set" ∷ codes "sic" ∷ codes "with" ∷ []

-- the signs, by their numbers
abbrev pub signs : List (List ℕ)
signs = codes "+" ∷ codes "-" ∷ codes "*" ∷ codes "=" ∷ codes "<>" ∷ codes "<" ∷ codes "<=" ∷ codes ">" ∷ codes ">="
    ∷ codes "(" ∷ codes ")" ∷ codes "[" ∷ codes "]" ∷ codes ":=" ∷ codes "." ∷ codes "," ∷ codes ";" ∷ codes ":"
    ∷ codes ".." ∷ codes "|" ∷ []

-- bytes that pass a test, none or more
pub data Run (p : ℕ → Bool) : List ℕ → List ℕ → Type 0 where
  run_ends : {r : List ℕ} → Run p r r
  run_goes_on : {bs r : List ℕ} → (b : ℕ) → p b ≡ true → Run p bs r → Run p (b ∷ bs) r

-- the bytes do not begin with this one
abbrev pub Lacks : ℕ → List ℕ → Type 0
Lacks c [] = Unit {0}
Lacks c (b ∷ bs) = b ≢ c

-- the bytes of a text behind its first quote, up to and with its last; two quotes stand for one
pub data TextBody : List ℕ → List ℕ → Type 0 where
  text_ends : {r : List ℕ} → (q : ℕ) → q ≡ 39 → Lacks 39 r → TextBody (q ∷ r) r
  two_quotes : {bs r : List ℕ} → (q u : ℕ) → q ≡ 39 → u ≡ 39 → TextBody bs r → TextBody (q ∷ u ∷ bs) r
  text_byte : {bs r : List ℕ} → (b : ℕ) → b ≢ 39 → b ≢ 10 → b ≢ 13 → TextBody bs r → TextBody (b ∷ bs) r

-- the bytes of a comment behind its brace, up to and with the next closing one
pub data BraceBody : List ℕ → List ℕ → Type 0 where
  brace_ends : {r : List ℕ} → (c : ℕ) → c ≡ 125 → BraceBody (c ∷ r) r
  brace_byte : {bs r : List ℕ} → (b : ℕ) → b ≢ 125 → BraceBody bs r → BraceBody (b ∷ bs) r

-- the bytes of a comment behind its parenthesis and star, up to and with the next star and parenthesis
pub data StarBody : List ℕ → List ℕ → Type 0 where
  star_ends : {r : List ℕ} → (a b : ℕ) → a ≡ 42 → b ≡ 41 → StarBody (a ∷ b ∷ r) r
  star_byte : {bs r : List ℕ} → (b : ℕ) → (b ≡ 42 → Lacks 41 bs) → StarBody bs r → StarBody (b ∷ bs) r

-- a comment, in braces or in parentheses with stars
pub data Comment : List ℕ → List ℕ → Type 0 where
  brace_comment : {bs r : List ℕ} → (b : ℕ) → b ≡ 123 → BraceBody bs r → Comment (b ∷ bs) r
  star_comment : {bs r : List ℕ} → (a b : ℕ) → a ≡ 40 → b ≡ 42 → StarBody bs r → Comment (a ∷ b ∷ bs) r

-- whether a comment is opened here
abbrev pub opens_comment : List ℕ → Bool
opens_comment [] = false
opens_comment (b ∷ []) = b == 123
opens_comment (b ∷ c ∷ bs) = b == 123 || (b == 40 && c == 42)

-- the bytes in front of the rest, in lower case
abbrev pub lower_case_prefix : List ℕ → List ℕ → List ℕ
lower_case_prefix bs r = map lower_case_letter (take (length bs - length r) bs)

-- the spelling of a token of this kind
pub data Lexeme : Kind → List ℕ → List ℕ → Type 0 where
  name : {bs r : List ℕ} → (b : ℕ) → is_letter b ≡ true → Run is_name_byte bs r
      → ((n : ℕ) → slice_get words n ≢ Some (lower_case_prefix (b ∷ bs) r)) → Lexeme kind.Name (b ∷ bs) r
  word : {bs r : List ℕ} → (n b : ℕ) → is_letter b ≡ true → Run is_name_byte bs r
      → slice_get words n ≡ Some (lower_case_prefix (b ∷ bs) r) → Lexeme (kind.Word n) (b ∷ bs) r
  number : {bs r : List ℕ} → (b : ℕ) → is_digit b ≡ true → Run is_digit bs r → Lexeme kind.Number (b ∷ bs) r
  text : {bs r : List ℕ} → (q : ℕ) → q ≡ 39 → TextBody bs r → Lexeme kind.Text (q ∷ bs) r
  sign : {bs r : List ℕ} → (n : ℕ) (s : List ℕ) → slice_get signs n ≡ Some s → bs ≡ s ++ r → Lexeme (kind.Sign n) bs r

-- The bytes begin with a token of this kind, and with none that is longer.
pub record Longest (k : Kind) (bs r : List ℕ) : Type 0 where
  pub spelled : Lexeme k bs r
  pub longest : (j : Kind) (other : List ℕ) → Lexeme j bs other → length r ≤ length other
