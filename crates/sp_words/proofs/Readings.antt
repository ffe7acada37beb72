-- How numbers and names are read from texts.
use Rattle.std.proofs.Common.{◌≡◌, ◌^◌, ◌&&◌, ℕ, Bool, cond, true, false, refl, sym, ap, ◌∙◌, List, [], ◌∷◌, length}
use Rattle.std.proofs.Common.{Some, None, option_map, Result, Ok, Err}
use Rattle.std.proofs.lemmas.Bool.{ltb-true, lt-ltb, and_parts}
use Rattle.std.proofs.lemmas.Slice.Eq.{bytes_eq-Decides}
use Rattle.std.specs.Prelude.{nat_lt, unwrap_or}
use Rattle.std.specs.List.{find, list_all}
use Rattle.std.specs.Result.{result_ok, result_unwrap_or}
use Rattle.std.specs.Char.{digit_value}
use Rattle.std.specs.Str.{bytes_eq}
use Rattle.std.specs.Str.Parse.{AllDigits, IsNumeral, ParsesUnsigned, digits_value, without_leading_plus}
use Rattle.sp_words.specs.Dashes.{Text}
use Rattle.sp_words.specs.Options.{is_numeral, number_below, number_or}

digits_from : (ds : Text) → list_all (λ d. nat_lt (digit_value d) 10) ds ≡ true → AllDigits 10 ds
digits_from [] e = tt
digits_from (d ∷ ds) e =
    let parts = and_parts _ _ e in
    (ltb-true _ _ parts.0, digits_from ds parts.1)

digits_back : (ds : Text) → AllDigits 10 ds → list_all (λ d. nat_lt (digit_value d) 10) ds ≡ true
digits_back [] h = refl
digits_back (d ∷ ds) h = rw (lt-ltb (digit_value d) 10 h.0) (digits_back ds h.1)

numeral_from : (ds : Text) → is_numeral ds ≡ true → IsNumeral 10 ds
numeral_from ds e =
    let parts = and_parts (nat_lt 0 (length ds)) (list_all (λ d. nat_lt (digit_value d) 10) ds) e in
    (ltb-true _ _ parts.0, digits_from ds parts.1)

numeral_back : (ds : Text) → IsNumeral 10 ds → is_numeral ds ≡ true
numeral_back ds h = rw (lt-ltb 0 (length ds) h.0) (digits_back ds h.1)

missing : (test : Bool) (n default : ℕ) → (test ≡ true → ⊥) → default ≡ unwrap_or (cond test (Some n) None) default
missing true n default never = absurd (never refl)
missing false n default never = refl

-- what `parse` reads is the number below the bound of the type
pub number_read : {E : Type 0} (k : ℕ) (text : Text) (r : Result ℕ E) (default : ℕ) → ParsesUnsigned k 10 text r
    → result_unwrap_or r default ≡ number_or (2 ^ k) default (Some text)
number_read k text (Ok n) default ((numeral, small), same) =
    let digits = without_leading_plus text in
    let tested : (is_numeral digits && nat_lt (digits_value 10 digits) (2 ^ k)) ≡ true =
    rw (numeral_back digits numeral, lt-ltb (digits_value 10 digits) (2 ^ k) small) refl in
    same ∙ ap (λ (t : Bool). unwrap_or (cond t (Some (digits_value 10 digits)) None) default) (sym tested)
number_read k text (Err e) default h =
    let digits = without_leading_plus text in
    missing (is_numeral digits && nat_lt (digits_value 10 digits) (2 ^ k)) (digits_value 10 digits) default (λ tested.
    let parts = and_parts (is_numeral digits) (nat_lt (digits_value 10 digits) (2 ^ k)) tested in
    h (numeral_from digits parts.0, ltb-true _ _ parts.1))

unwritten : (test : Bool) (n : ℕ) → (test ≡ true → ⊥) → None ≡ cond test (Some n) None
unwritten true n never = absurd (never refl)
unwritten false n never = refl

-- what `parse` reads is the number below the bound of the type, where there is one
pub number_parsed : {E : Type 0} (k : ℕ) (text : Text) (r : Result ℕ E) → ParsesUnsigned k 10 text r
    → result_ok r ≡ number_below (2 ^ k) text
number_parsed k text (Ok n) ((numeral, small), same) =
    let digits = without_leading_plus text in
    let tested : (is_numeral digits && nat_lt (digits_value 10 digits) (2 ^ k)) ≡ true =
    rw (numeral_back digits numeral, lt-ltb (digits_value 10 digits) (2 ^ k) small) refl in
    ap Some same ∙ ap (λ (t : Bool). cond t (Some (digits_value 10 digits)) None) (sym tested)
number_parsed k text (Err e) h =
    let digits = without_leading_plus text in
    unwritten (is_numeral digits && nat_lt (digits_value 10 digits) (2 ^ k)) (digits_value 10 digits) (λ tested.
    let parts = and_parts (is_numeral digits) (nat_lt (digits_value 10 digits) (2 ^ k)) tested in
    h (numeral_from digits parts.0, ltb-true _ _ parts.1))

-- ---- names

abbrev pub HoldsOfEach : {A : Type 0} → (A → Type 0) → List A → Type 0
HoldsOfEach P [] = Unit {0}
HoldsOfEach P (x ∷ xs) = P x × HoldsOfEach P xs

differs : (a b : Text) → (b ≡ a → ⊥) → bytes_eq a b ≡ false
differs a b never = go (bytes_eq a b) refl
  where
    go : (t : Bool) → bytes_eq a b ≡ t → t ≡ false
    go false e = refl
    go true e = absurd (never (sym ((bytes_eq-Decides a b).0 e)))

-- a text that is none of the names finds nothing
pub none_named : {A : Type 0} (xs : List (Text × A)) (text : Text) → HoldsOfEach (λ p. text ≡ p.0 → ⊥) xs
    → None ≡ option_map (λ p. p.1) (find (λ p. bytes_eq p.0 text) xs)
none_named [] text h = refl
none_named (x ∷ xs) text h = rw (differs x.0 text h.0) (none_named xs text h.1)
