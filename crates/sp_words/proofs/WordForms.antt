-- How the parser of command lines sees the forms of words.
use Rattle.std.proofs.Common.{◌≡◌, ◌==◌, ◌&&◌, ℕ, Bool, true, false, refl, ap, ap₂, ◌∙◌, ◌⊎◌, inl, inr, List, [], ◌∷◌}
use Rattle.std.proofs.Common.{Option, Some, None, eqb-true, cond}
use Rattle.std.specs.List.{after_first, list_any}
use Rattle.std.specs.Option.{option_map_or}
use Rattle.std.specs.Str.{bytes_eq}
use Rattle.clap.specs.Lexer.{long_of, short_of}
use Rattle.sp_words.specs.Dashes.{Text, after_dash, contains, form_of, form_of_option, form_of_text, name_and_value}
use Rattle.sp_words.specs.Dashes.{name_of, value_of}
use Rattle.sp_words.specs.declared.form.Form.{Form}
use Rattle.sp_words.specs.declared.form.Form.TheVariants.{Plain, End, Whole, Open, Stray}

abbrev pub dashes : Text
dashes = 45 ∷ 45 ∷ []

-- the word is no flag
pub record IsPlainWord (word : Text) : Type 0 where
  pub not_end : bytes_eq word dashes ≡ false
  pub no_long : long_of word ≡ None
  pub no_short : short_of word ≡ None

-- the word is `--name`, or `--name=value`
pub record IsLongWord (options : List Text) (word : Text) (value : Option Text) : Type 0 where
  pub not_end : bytes_eq word dashes ≡ false
  pub long : long_of word ≡ Some (name_of word, value)
  pub known : contains options (name_of word) ≡ true

abbrev pub ReadsWord : List Text → Text → Form → Type 0
ReadsWord options word Plain = IsPlainWord word
ReadsWord options word End = word ≡ dashes
ReadsWord options word Whole = IsLongWord options word (Some (value_of word))
ReadsWord options word Open = IsLongWord options word None
ReadsWord options word Stray = Unit {0}

some≢none : {X : Type 0} (x : X) → Some x ≡ None → ⊥
some≢none x e = cc

no_dash : (x : ℕ) (xs : Text) → (x == 45) ≡ false → IsPlainWord (x ∷ xs)
no_dash x xs e = record { not_end = rw e refl; no_long = rw e refl; no_short = rw e refl }

pub plain_word_of : (word : Text) → after_dash word ≡ None → IsPlainWord word
plain_word_of [] e = record { not_end = refl; no_long = refl; no_short = refl }
plain_word_of (x ∷ xs) e = go (x == 45) refl
  where
    go : (b : Bool) → (x == 45) ≡ b → IsPlainWord (x ∷ xs)
    go false d = no_dash x xs d
    go true d = let told : Some xs ≡ None = rw d at e in absurd (some≢none xs told)

not_end_of : (x y z : ℕ) (zs : Text) → bytes_eq (x ∷ y ∷ z ∷ zs) dashes ≡ false
not_end_of x y z zs = go (x == 45) (y == 45)
  where
    go : (a b : Bool) → (a && (b && false)) ≡ false
    go true true = refl
    go true false = refl
    go false b = refl

long_word_of : (x y z : ℕ) (zs : Text) → (x == 45) ≡ true → (y == 45) ≡ true
    → long_of (x ∷ y ∷ z ∷ zs) ≡ Some (name_and_value (z ∷ zs))
long_word_of x y z zs d e = rw (d, e) refl

by_value : (options : List Text) (word : Text) (value : Option Text) → bytes_eq word dashes ≡ false
    → long_of word ≡ Some (name_of word, value)
    → (value ≡ None) ⊎ (value ≡ Some (value_of word)) → contains options (name_of word) ≡ true
    → ReadsWord options word (option_map_or (λ v. Whole) value Open)
by_value options word None not_end long cases known = record { not_end = not_end; long = long; known = known }
by_value options word (Some v) not_end long cases known = elim cases [
  | inl none ↦ absurd (some≢none v none)
  | inr same ↦ record {
    not_end = not_end;
    long = long
        ∙ ap (λ (o : Option Text). Some (name_of word, o)) same;
    known = known;
  }
]

value_cases : (b : Bool) (v : Text) → (cond b (Some v) None ≡ None) ⊎ (cond b (Some v) None ≡ Some v)
value_cases true v = inr refl
value_cases false v = inl refl

by_name : (options : List Text) (x y z : ℕ) (zs : Text) → (x == 45) ≡ true → (y == 45) ≡ true
    → ReadsWord options (x ∷ y ∷ z ∷ zs) (form_of_option options (name_and_value (z ∷ zs)))
by_name options x y z zs d e = go (contains options (name_and_value (z ∷ zs)).0) refl
  where
    go : (b : Bool) → contains options (name_and_value (z ∷ zs)).0 ≡ b
        → ReadsWord options (x ∷ y ∷ z ∷ zs)
        (cond b (option_map_or (λ v. Whole) (name_and_value (z ∷ zs)).1 Open) Stray)
    go false k = tt
    go true k = by_value options (x ∷ y ∷ z ∷ zs) (name_and_value (z ∷ zs)).1 (not_end_of x y z zs)
        (long_word_of x y z zs d e)
        (value_cases (list_any (λ b. b == 61) (z ∷ zs)) (after_first (λ b. b == 61) (z ∷ zs))) k

two_dashes : (options : List Text) (x y : ℕ) (ys : Text) → (x == 45) ≡ true → (y == 45) ≡ true
    → ReadsWord options (x ∷ y ∷ ys) (form_of_text options ys)
two_dashes options x y [] d e = ap₂ (λ a b. a ∷ b ∷ []) (eqb-true _ _ d) (eqb-true _ _ e)
two_dashes options x y (z ∷ zs) d e = by_name options x y z zs d e

one_dash : (options : List Text) (x : ℕ) (xs : Text) → (x == 45) ≡ true
    → ReadsWord options (x ∷ xs) (option_map_or (form_of_text options) (after_dash xs) Stray)
one_dash options x [] d = tt
one_dash options x (y ∷ ys) d = go (y == 45) refl
  where
    go : (b : Bool) → (y == 45) ≡ b
        → ReadsWord options (x ∷ y ∷ ys) (option_map_or (form_of_text options) (cond b (Some ys) None) Stray)
    go false e = tt
    go true e = two_dashes options x y ys d e

-- what the form of a word says of it
pub reads_by_form : (options : List Text) (word : Text) → ReadsWord options word (form_of options word)
reads_by_form options [] = plain_word_of [] refl
reads_by_form options (x ∷ xs) = go (x == 45) refl
  where
    go : (b : Bool) → (x == 45) ≡ b
        → ReadsWord options (x ∷ xs) (option_map_or
        (λ tail. option_map_or (form_of_text options) (after_dash tail) Stray)
        (cond b (Some xs) None)
        Plain)
    go false d = no_dash x xs d
    go true d = one_dash options x xs d
