-- All of this belongs to what the program promises (docs/promise.txt).
-- The items of a text: its tokens and its comments, in their order. The canonical text is made of them, and the law
-- that it spells the same tree goes by them.
use Rattle.std.specs.Prelude.{◌≡◌, ℕ, ◌-◌, true, false, List, [], ◌∷◌, length, map, take, Option, Some, None}
use Rattle.sp_tree.specs.declared.token.Kind.{Kind}
use Rattle.sp_tree.specs.declared.token.Kind.TheVariants as kind
use Rattle.sp_tree.specs.Characters.{is_blank, lower_case_letter}
use Rattle.sp_tree.specs.Lexemes.{Comment, Longest, opens_comment}

-- a token of this kind, or a comment; and how it is spelled
pub record Item : Type 0 where
  pub kind : Option Kind
  pub bytes : List ℕ

-- an item of a kind and a spelling
abbrev pub item : Option Kind → List ℕ → Item
item k bs = record { kind = k; bytes = bs }

-- names and words are spelled in lower case, every other item as it stands
abbrev pub canonical_spelling : Option Kind → List ℕ → List ℕ
canonical_spelling (Some kind.Name) bs = map lower_case_letter bs
canonical_spelling (Some (kind.Word n)) bs = map lower_case_letter bs
canonical_spelling k bs = bs

-- the bytes in front of the rest
abbrev pub front : List ℕ → List ℕ → List ℕ
front bs r = take (length bs - length r) bs

-- the item of this kind that stands in front of the rest
abbrev pub item_from : Option Kind → List ℕ → List ℕ → Item
item_from k bs r = item k (canonical_spelling k (front bs r))

-- The bytes have these items, with blanks between them or none. Each token is the longest at its place.
pub data HasItems : List ℕ → List Item → Type 0 where
  no_item : HasItems [] []
  blank : {bs : List ℕ} {is : List Item} → (b : ℕ) → is_blank b ≡ true → HasItems bs is → HasItems (b ∷ bs) is
  comment : {bs u : List ℕ} {is : List Item} → Comment bs u → HasItems u is → HasItems bs (item_from None bs u ∷ is)
  token : {bs u : List ℕ} {is : List Item} → (k : Kind) → opens_comment bs ≡ false → Longest k bs u → HasItems u is
      → HasItems bs (item_from (Some k) bs u ∷ is)
