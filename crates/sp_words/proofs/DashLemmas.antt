-- What the pass of the dash rule comes to.
use Rattle.std.proofs.Common.{◌≡◌, ◌==◌, ◌<◌, ◌≤◌, suc, drop, drop-cons, drop_of_length-le, ℕ, Bool, true, false, refl}
use Rattle.std.proofs.Common.{sym, ap, ◌∙◌, List, [], ◌∷◌, length, Option, Some, None, map, option_map, is_some}
use Rattle.std.proofs.Common.{true≢false, cond, not}
use Rattle.std.specs.Borrow.{Bor}
use Rattle.std.specs.List.{list_any, slice_index_or}
use Rattle.std.specs.Option.{option_map_or}
use Rattle.std.specs.Str.{bytes_eq}
use Rattle.clap.proofs.WalkLemmas.{list_any-map}
use Rattle.sp_words.specs.Dashes.{WordItem, Text, after_dash, by_form, contains, first_item, form_of, given}
use Rattle.sp_words.specs.Dashes.{form_of_option, form_of_text, items, name_and_value, name_of}
use Rattle.sp_words.specs.declared.form.Form.{Form}
use Rattle.sp_words.specs.declared.form.Form.TheVariants.{Plain, End, Whole, Open, Stray}

-- a text that is not empty reads as an option
pub text_form : (options : List Text) (text : Text) (f : Form) → (length text == 0) ≡ false
    → f ≡ form_of_option options (name_and_value text)
    → f ≡ form_of_text options text
text_form options [] f e h = absurd (true≢false e)
text_form options (x ∷ xs) f e h = h

-- the same pass, with no items
abbrev pub pass_by : Form → (Bool → Bool) → Bool
pass_by Plain rest = rest false
pass_by End rest = true
pass_by Whole rest = rest false
pass_by Open rest = rest true
pass_by Stray rest = false

abbrev pub pass_value : Option Text → Bool → Bool
pass_value (Some tail) rest = false
pass_value None rest = rest

abbrev pub passes : List Text → Bool → List Text → Bool
passes options false [] = true
passes options true [] = false
passes options true (word ∷ words) = pass_value (after_dash word) (passes options false words)
passes options false (word ∷ words) = pass_by (form_of options word) (λ waits. passes options waits words)

some_first : (item : WordItem) (rest : Option (List WordItem)) → is_some (first_item item rest) ≡ is_some rest
some_first item None = refl
some_first item (Some is) = refl

value_pass : (name word : Text) (r : Option Text) (rest : Option (List WordItem)) (passed : Bool)
    → is_some rest ≡ passed
    → is_some (cond (is_some r) None (first_item (given name word) rest)) ≡ pass_value r passed
value_pass name word (Some tail) rest passed e = refl
value_pass name word None rest passed e = some_first _ rest ∙ e

form_pass : (f : Form) (word : Text) (words : List Text) (rest : Option Text → Option (List WordItem)) (passed : Bool
    → Bool)
    → ((w : Option Text) → is_some (rest w) ≡ passed (is_some w))
    → is_some (by_form f word words rest) ≡ pass_by f passed
form_pass Plain word words rest passed e = some_first _ (rest None) ∙ e None
form_pass End word words rest passed e = refl
form_pass Whole word words rest passed e = some_first _ (rest None) ∙ e None
form_pass Open word words rest passed e = e (Some (name_of word))
form_pass Stray word words rest passed e = refl

pub items_pass : (options : List Text) (waiting : Option Text) (words : List Text)
    → is_some (items options waiting words) ≡ passes options (is_some waiting) words
items_pass options None [] = refl
items_pass options (Some name) [] = refl
items_pass options (Some name) (word ∷ words) = value_pass name word (after_dash word) _ _
    (items_pass options None words)
items_pass options None (word ∷ words) =
    form_pass (form_of options word) word words _ (λ waits. passes options waits words)
    (λ w. items_pass options w words)

-- the pass at the word where the loop stands
pub pass_here : {X : Type 0} (f : X → Text) (options : List Text) (waits : Bool) (words : List X) (i : ℕ) (word : X)
    → i < length words → word ≡ slice_index_or words i word
    → passes options waits (map f (drop i words)) ≡ passes options waits (f word ∷ map f (drop (suc i) words))
pass_here f options waits words i word lt is =
    ap (λ (ws : List _). passes options waits (map f ws)) (drop-cons words i word lt
    ∙ ap (λ x. x ∷ drop (suc i) words) (sym is))

pub stops_waiting : (options : List Text) (word : Text) (words : List Text) → is_some (after_dash word) ≡ true
    → passes options true (word ∷ words) ≡ false
stops_waiting options word words e = go (after_dash word) e
  where
    go : (r : Option Text) → is_some r ≡ true → pass_value r (passes options false words) ≡ false
    go (Some tail) e = refl
    go None e = absurd (true≢false (sym e))

-- the loop came to an end at this word, with this answer
pub pass_answer : {X : Type 0} (f : X
    → Text) (options : List Text) (waits answer : Bool) (words : List X) (i : ℕ) (word : X) → i < length words
    → word ≡ slice_index_or words i word
    → passes options waits (map f (drop i words)) ≡ passes options false (map f words)
    → passes options waits (f word ∷ map f (drop (suc i) words)) ≡ answer
    → answer ≡ is_some (items options None (map f words))
pass_answer f options waits answer words i word lt is inv e =
    sym e ∙ sym (pass_here f options waits words i word lt is) ∙ inv ∙ sym (items_pass options None (map f words))

-- no word is left
pub pass_end : {X : Type 0} (f : X → Text) (options : List Text) (waits : Bool) (words : List X) (i : ℕ)
    → length words ≤ i
    → passes options waits (map f (drop i words)) ≡ passes options false (map f words)
    → not waits ≡ is_some (items options None (map f words))
pass_end f options waits words i past inv =
    go waits ∙ ap (λ (ws : List _). passes options waits (map f ws)) (sym (drop_of_length-le words past)) ∙ inv
    ∙ sym (items_pass options None (map f words))
  where
    go : (b : Bool) → not b ≡ passes options b []
    go true = refl
    go false = refl

pub waits_on : (options : List Text) (waits : Bool) (word : Text) (words : List Text) (r : Option (Bor Text)) (t : Text)
    → waits ≡ true → t ≡ word
    → option_map (λ s. s.now) r ≡ after_dash t → is_some r ≡ true → passes options waits (word ∷ words) ≡ false
waits_on options waits word words r t w same e some =
    ap (λ b. passes options b (word ∷ words)) w
    ∙ stops_waiting options word words (sym (ap is_some (e ∙ ap after_dash same)) ∙ mapped r ∙ some)
  where
    mapped : (o : Option (Bor Text)) → is_some (option_map (λ s. s.now) o) ≡ is_some o
    mapped None = refl
    mapped (Some x) = refl

pub form_answer : (options : List Text) (waits : Bool) (word t : Text) (words : List Text) (f r : Form) → waits ≡ false
    → t ≡ word → r ≡ f → r ≡ form_of options t
    → passes options waits (word ∷ words) ≡ pass_by f (λ b. passes options b words)
form_answer options waits word t words f r w same is e =
    ap (λ b. passes options b (word ∷ words)) w
    ∙ ap (λ (g : Form). pass_by g (λ b. passes options b words)) (sym (ap (form_of options) same) ∙ sym e ∙ is)

-- the texts of a list of references
pub contains-map : (xs : List (Bor Text)) (name : Text)
    → list_any (λ x. bytes_eq x.now name) xs ≡ contains (map (λ s. s.now) xs) name
contains-map xs name = list_any-map (λ t. bytes_eq t name) (λ s. s.now) xs

pub form_missing : (options : List Text) (read : Text × Option Text) → contains options read.0 ≡ false
    → Stray ≡ form_of_option options read
form_missing options read e = rw e refl

pub form_named : (options : List Text) (read : Text × Option Text) (f : Form) → contains options read.0 ≡ true
    → f ≡ option_map_or (λ v. Whole) read.1 Open → f ≡ form_of_option options read
form_named options read f e h = rw e h
