-- All of this belongs to what the program promises (docs/promise.txt).
-- A text as blanks, comments and tokens, and the rules that it breaks so. The scanner's contract promises it, and the
-- front's definition of a refused text begins with it.
use Rattle.std.specs.Prelude.{◌≡◌, ◌≢◌, ℕ, ◌-◌, ◌<◌, Bool, true, false, ◌||◌, ◌&&◌, ◌==◌, List, [], ◌∷◌, length, Some}
use Rattle.std.specs.Prelude.{slice_get, ◌⊎◌}
use Rattle.sp_base.specs.declared.place.Place.{Place}
use Rattle.sp_base.specs.declared.rule.Rule.{Rule}
use Rattle.sp_base.specs.declared.rule.Rule.TheVariants as rule
use Rattle.sp_tree.specs.declared.token.Token.{Token}
use Rattle.sp_tree.specs.declared.token.Kind.{Kind}
use Rattle.sp_tree.specs.declared.token.Kind.TheVariants as kind
use Rattle.sp_tree.specs.Characters.{is_blank, is_digit}
use Rattle.sp_tree.specs.Places.{start, place_at}
use Rattle.sp_tree.specs.Spelling.{digits_value}
use Rattle.sp_tree.specs.Lexemes.{Lexeme, Longest, Comment, TextBody, opens_comment, refused_words, lower_case_prefix}

-- how many bytes of the text stand in front of these
abbrev pub offset : List ℕ → List ℕ → ℕ
offset text bs = length text - length bs

-- the token that is spelled from these bytes up to those
abbrev pub token_from : List ℕ → Kind → List ℕ → List ℕ → Token
token_from text k bs r =
    record { kind = k; from = offset text bs; to = offset text r; at = place_at text (offset text bs) }

-- In a text: from these bytes to those there are these tokens, each the longest at its place.
pub data Scans (text : List ℕ) : List ℕ → List ℕ → List Token → Type 0 where
  nothing : {r : List ℕ} → Scans text r r []
  blank : {bs r : List ℕ} {ts : List Token} → (b : ℕ) → is_blank b ≡ true → Scans text bs r ts
      → Scans text (b ∷ bs) r ts
  comment : {bs u r : List ℕ} {ts : List Token} → Comment bs u → Scans text u r ts → Scans text bs r ts
  token : {bs u r : List ℕ} {ts : List Token} → (k : Kind) → opens_comment bs ≡ false → Longest k bs u
      → Scans text u r ts → Scans text bs r (token_from text k bs u ∷ ts)

-- no token begins here
abbrev pub NoToken : List ℕ → Type 0
NoToken bs = (k : Kind) (r : List ℕ) → Lexeme k bs r → ⊥

-- a digit, or an optional sign and a digit
abbrev pub begins_digit : List ℕ → Bool
begins_digit [] = false
begins_digit (b ∷ bs) = is_digit b

abbrev pub begins_signed : List ℕ → Bool
begins_signed [] = false
begins_signed (b ∷ bs) = is_digit b || ((b == 43 || b == 45) && begins_digit bs)

-- behind a number: "." and a digit, or "e" or "E", an optional sign and a digit
abbrev pub goes_on_real : List ℕ → Bool
goes_on_real [] = false
goes_on_real (b ∷ bs) = (b == 46 && begins_digit bs) || ((b == 101 || b == 69) && begins_signed bs)

-- a comment has no end
pub record OpenComment (bs : List ℕ) : Type 0 where
  pub opens : opens_comment bs ≡ true
  pub open_end : (r : List ℕ) → Comment bs r → ⊥

-- a text meets a line feed, a carriage return or the end before its quote
pub data OpenText : List ℕ → Type 0 where
  open_text : {bs : List ℕ} → (q : ℕ) → q ≡ 39 → ((r : List ℕ) → TextBody bs r → ⊥) → OpenText (q ∷ bs)

-- a number above the greatest integer
pub record LargeNumber (bs : List ℕ) : Type 0 where
  pub rest : List ℕ
  pub number : Longest kind.Number bs rest
  pub above : 9223372036854775807 < digits_value 0 (lower_case_prefix bs rest)

-- a name of more than 127 bytes
pub record LongName (bs : List ℕ) : Type 0 where
  pub rest : List ℕ
  pub name : Longest kind.Name bs rest
  pub above : 127 < length bs - length rest

-- a refused word
pub record RefusedWord (bs : List ℕ) : Type 0 where
  pub rest : List ℕ
  pub name : Longest kind.Name bs rest
  pub number : ℕ
  pub refused : slice_get refused_words number ≡ Some (lower_case_prefix bs rest)

-- one of two bytes, or one
pub data Byte (b c : ℕ) : List ℕ → Type 0 where
  first : {bs : List ℕ} → (x : ℕ) → x ≡ b → Byte b c (x ∷ bs)
  second : {bs : List ℕ} → (x : ℕ) → x ≡ c → Byte b c (x ∷ bs)

-- a real number
pub record RealNumber (bs : List ℕ) : Type 0 where
  pub rest : List ℕ
  pub number : Longest kind.Number bs rest
  pub real : goes_on_real rest ≡ true

-- a byte that is no blank, opens no comment and begins no token, and breaks none of the rules S2, S3, U1 and U2
pub data StrayByte : List ℕ → Type 0 where
  stray : {bs : List ℕ} → (b : ℕ) → is_blank b ≡ false → opens_comment (b ∷ bs) ≡ false → b ≢ 39 → b ≢ 94 → b ≢ 64
      → b ≢ 47 → NoToken (b ∷ bs) → StrayByte (b ∷ bs)

-- The rule is broken at these bytes.
abbrev pub BreaksHere : Rule → List ℕ → Type 0
BreaksHere rule.S1 bs = StrayByte bs
BreaksHere rule.S2 bs = OpenComment bs
BreaksHere rule.S3 bs = OpenText bs
BreaksHere rule.S4 bs = LargeNumber bs
BreaksHere rule.S5 bs = LongName bs
BreaksHere rule.U1 bs = RefusedWord bs ⊎ Byte 94 64 bs
BreaksHere rule.U2 bs = RealNumber bs ⊎ Byte 47 47 bs
BreaksHere r bs = ⊥

-- The rule is broken at bytes outside comments and texts, up to which the text is blanks, comments and tokens.
pub record BreaksAlong (text : List ℕ) (r : Rule) (at : Place) : Type 0 where
  pub rest : List ℕ
  pub tokens : List Token
  pub along : Scans text text rest tokens
  pub here : BreaksHere r rest
  pub place : at ≡ place_at text (offset text rest)

-- the text has more than 1,048,576 bytes
pub record LongText (text : List ℕ) (at : Place) : Type 0 where
  pub above : 1048576 < length text
  pub place : at ≡ start

-- The rule is broken by the characters of the text.
abbrev pub BreaksLexis : List ℕ → Rule → Place → Type 0
BreaksLexis text rule.L1 at = LongText text at
BreaksLexis text r at = BreaksAlong text r at

-- The tokens of a text that breaks no rule of characters.
pub record IsTokens (text : List ℕ) (ts : List Token) : Type 0 where
  pub scans : Scans text text [] ts
  pub kept : (r : Rule) (at : Place) → BreaksLexis text r at → ⊥
