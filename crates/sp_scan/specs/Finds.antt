-- None of this belongs to what the program promises: it is for contracts between crates.
-- What the parts of the scanner answer: cuts, runs, comments and tokens, each as the longest one that begins here. The
-- contracts of the scanner's files cite it, and the formatter's, which scans with comments.
use Rattle.std.specs.Prelude.{◌≡◌, ◌≢◌, ℕ, ◌<◌, ◌≤◌, Bool, true, false, List, [], ◌∷◌, ◌++◌, length, Option, Some, None}
use Rattle.std.specs.Prelude.{Result, Ok, Err, slice_get, take, ◌-◌}
use Rattle.std.specs.Borrow.{Bor}
use Rattle.sp_tree.specs.declared.token.Kind.{Kind}
use Rattle.sp_tree.specs.declared.token.Kind.TheVariants as kind
use Rattle.sp_base.specs.declared.place.Place.{Place}
use Rattle.sp_base.specs.declared.rule.Rule.{Rule}
use Rattle.sp_base.specs.declared.halt.Refusal.{Refusal}
use Rattle.sp_base.specs.declared.halt.Halt.{Halt}
use Rattle.sp_base.specs.declared.halt.Halt.TheVariants as halt
use Rattle.sp_tree.specs.declared.token.Token.{Token}
use Rattle.sp_tree.specs.Characters.{is_blank}
use Rattle.sp_tree.specs.Lexemes.{Lacks, Run, Comment, Longest, opens_comment, words, refused_words, signs}
use Rattle.sp_tree.specs.Scans.{NoToken, BreaksHere, BreaksLexis, IsTokens}
use Rattle.sp_tree.specs.First.{row, IsFirst}
use Rattle.sp_tree.specs.Places.{place_behind}

-- the first byte and the others, or none
abbrev pub CutsByte : List ℕ → Option (ℕ × Bor (List ℕ)) → Type 0
CutsByte bs None = bs ≡ []
CutsByte bs (Some x) = bs ≡ x.0 ∷ x.1.now

-- the bytes behind this one, or none
abbrev pub PassesByte : List ℕ → ℕ → Option (Bor (List ℕ)) → Type 0
PassesByte bs b None = Lacks b bs
PassesByte bs b (Some r) = bs ≡ b ∷ r.now

-- the bytes behind these, or none
abbrev pub Strips : List ℕ → List ℕ → Option (Bor (List ℕ)) → Type 0
Strips bs front None = (r : List ℕ) → bs ≢ front ++ r
Strips bs front (Some r) = bs ≡ front ++ r.now

-- the longest run of bytes that pass a test
pub record EndsRun (p : ℕ → Bool) (bs r : List ℕ) : Type 0 where
  pub run : Run p bs r
  pub longest : (other : List ℕ) → Run p bs other → length r ≤ length other

-- what is behind, or that nothing is
abbrev pub EndsBody : (List ℕ → List ℕ → Type 0) → List ℕ → Option (Bor (List ℕ)) → Type 0
EndsBody Body bs None = (r : List ℕ) → Body bs r → ⊥
EndsBody Body bs (Some r) = Body bs r.now

-- the kind of a name, or of a word
abbrev pub IsWordOf : List ℕ → Kind → Type 0
IsWordOf w kind.Name = (n : ℕ) → slice_get words n ≢ Some w
IsWordOf w (kind.Word n) = slice_get words n ≡ Some w
IsWordOf w k = ⊥

-- a sign stands first
pub record HasSign (bs : List ℕ) (n : ℕ) (r : List ℕ) : Type 0 where
  pub text : List ℕ
  pub sign_is : slice_get signs n ≡ Some text
  pub all : bs ≡ text ++ r

-- the longest of the first k signs that stands first
abbrev pub FindsSign : ℕ → List ℕ → Option (ℕ × Bor (List ℕ)) → Type 0
FindsSign k bs None = (n : ℕ) (r : List ℕ) → n < k → HasSign bs n r → ⊥
FindsSign k bs (Some x) = HasSign bs x.0 x.1.now
    × ((n : ℕ) (r : List ℕ) → n < k → HasSign bs n r → length x.1.now ≤ length r)

-- the longest token at the front, or none
abbrev pub Finds : List ℕ → Option (Kind × Bor (List ℕ)) → Type 0
Finds bs None = NoToken bs
Finds bs (Some x) = Longest x.0 bs x.1.now

-- whether a word is refused
abbrev pub IsRefusedWord : List ℕ → Bool → Type 0
IsRefusedWord w true = (n : ℕ) × (slice_get refused_words n ≡ Some w)
IsRefusedWord w false = (n : ℕ) → slice_get refused_words n ≢ Some w

-- the rule is broken here, and none of an earlier row
pub record FirstHere (r : Rule) (bs : List ℕ) : Type 0 where
  pub broken : BreaksHere r bs
  pub first : (s : Rule) → BreaksHere s bs → row r ≤ row s

abbrev pub IsBreach : List ℕ → Option Rule → Type 0
IsBreach bs None = (r : Rule) → BreaksHere r bs → ⊥
IsBreach bs (Some r) = FirstHere r bs

-- a blank or a comment stands first
pub data IsGap : List ℕ → List ℕ → Type 0 where
  blank_gap : {r : List ℕ} → (b : ℕ) → is_blank b ≡ true → IsGap (b ∷ r) r
  comment_gap : {bs r : List ℕ} → Comment bs r → IsGap bs r

-- what stands first, and what is behind it
abbrev pub FrontItem : List ℕ → Option Kind → List ℕ → Type 0
FrontItem bs None r = IsGap bs r
FrontItem bs (Some k) r = (opens_comment bs ≡ false) × Longest k bs r

-- an item that breaks no rule, or the first rule that is broken here
abbrev pub ItemAt : List ℕ → Result (Option Kind × Bor (List ℕ)) Rule → Type 0
ItemAt bs (Ok x) = FrontItem bs x.0 x.1.now × ((r : Rule) → BreaksHere r bs → ⊥)
ItemAt bs (Err r) = FirstHere r bs

-- the same, with the place behind the item, where its own place is `at`
abbrev pub PassesItem : Place → List ℕ → Result (Option Kind × Bor (List ℕ) × Place) Rule → Type 0
PassesItem at bs (Ok (o, r, behind)) = FrontItem bs o r.now × ((s : Rule) → BreaksHere s bs → ⊥)
    × (behind ≡ place_behind at (take (length bs - length r.now) bs))
PassesItem at bs (Err r) = FirstHere r bs

-- The tokens of a text, or the first rule of its characters that it breaks.
abbrev pub Scanned : List ℕ → Result (List Token) Halt → Type 0
Scanned text (Ok ts) = IsTokens text ts
Scanned text (Err (halt.Refused r)) = IsFirst (BreaksLexis text) r
Scanned text (Err halt.Memory) = Unit {0}

-- The text has tokens, or this is the first rule of its characters that it breaks.
abbrev pub FirstBreachOf : List ℕ → Option Refusal → Type 0
FirstBreachOf text None = (ts : List Token) × IsTokens text ts
FirstBreachOf text (Some r) = IsFirst (BreaksLexis text) r
