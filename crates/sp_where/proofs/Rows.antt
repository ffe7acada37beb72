-- Values written as texts, by computing.
use Rattle.std.proofs.Common.{◌≡◌, ℕ, List, [], ◌∷◌, refl}
use Rattle.std.specs.Prelude.{codes, pos}
use Rattle.sp_tree.specs.declared.checked.KindOf.{KindOf}
use Rattle.sp_tree.specs.declared.checked.KindOf.TheVariants as kind
use Rattle.sp_meaning.specs.Values.{End, Ordinal, Parts, Then, Undefined, Value}
use Rattle.sp_where.specs.Lines.{shown_text}

-- a char, a record of two of them, an array of two records, and an enumeration with the constants `red` and `blue`
abbrev kinds : List KindOf
kinds = kind.Char ∷ kind.Fields ((codes "a", 0) ∷ (codes "b", 0) ∷ []) ∷ kind.Array (pos 1) (pos 2) 0 1
    ∷ kind.Enumeration 2 ∷ []

abbrev constants : List (List (List ℕ))
constants = [] ∷ [] ∷ [] ∷ (codes "red" ∷ codes "blue" ∷ []) ∷ []

abbrev char : ℕ → Value
char n = Ordinal (pos n)

abbrev pair : Value → Value → Value
pair v w = Parts (Then v (Then w End))

one_char : shown_text kinds constants 0 (char 120) ≡ codes "'x'"
one_char = refl

nothing : shown_text kinds constants 0 Undefined ≡ codes "undefined"
nothing = refl

constant : shown_text kinds constants 3 (Ordinal (pos 1)) ≡ codes "blue"
constant = refl

records : shown_text kinds constants 2 (pair (pair (char 120) Undefined) (pair (char 121) (char 122)))
    ≡ codes "[(a: 'x', b: undefined), (a: 'y', b: 'z')]"
records = refl
