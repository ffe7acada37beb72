-- Some of this belongs to what the program promises (docs/promise.txt).
-- How the words after the command are read from left to right: which of them are options, which is their value, and
-- where a word breaks the dash rule. `command_of` and the contracts of `form` cite it. The rule stands apart from the
-- kit's parser, since `read_words` decides it before it calls the parser.
use Rattle.std.specs.Prelude.{◌==◌, ℕ, Bool, List, [], ◌∷◌, Option, Some, None, drop, if◌then◌else◌, is_some, map}
use Rattle.std.specs.Prelude.{option_map}
use Rattle.std.specs.Borrow.{Bor}
use Rattle.std.specs.List.{after_first, before_first, list_any}
use Rattle.std.specs.Option.{option_map_or}
use Rattle.std.specs.Str.{bytes_eq}
use Rattle.sp_words.specs.declared.form.Form.{Form}
use Rattle.sp_words.specs.declared.form.Form.TheVariants.{Plain, End, Whole, Open, Stray}

-- a word or a part of one, as its bytes
abbrev pub Text : Type 0
Text = List ℕ

-- the texts that references give to read
abbrev pub texts_of : List (Bor Text) → List Text
texts_of words = map (λ w. w.now) words

-- the text that a reference gives to read, if there is one
abbrev pub text_in : Option (Bor Text) → Option Text
text_in word = option_map (λ w. w.now) word

-- the text is one of these
abbrev pub contains : List Text → Text → Bool
contains texts text = list_any (λ t. bytes_eq t text) texts

-- what follows a first dash (45)
abbrev pub after_dash : Text → Option Text
after_dash [] = None
after_dash (x ∷ xs) = if x == 45 then Some xs else None

-- what stands before the first `=` (61), and what stands after it if there is one
abbrev pub name_and_value : Text → Text × Option Text
name_and_value text = (
  before_first (λ b. b == 61) text,
  if list_any (λ b. b == 61) text then Some (after_first (λ b. b == 61) text) else None,
)

-- the word names an option of the command: `name=value` has its value, and `name` wants it
abbrev pub form_of_option : List Text → Text × Option Text → Form
form_of_option options read = if contains options read.0 then option_map_or (λ value. Whole) read.1 Open else Stray

-- the text after two dashes
abbrev pub form_of_text : List Text → Text → Form
form_of_text options [] = End
form_of_text options (x ∷ xs) = form_of_option options (name_and_value (x ∷ xs))

-- how a word before `--` reads: behind a first dash and no second one it names no option
abbrev pub form_of : List Text → Text → Form
form_of options word =
    option_map_or (λ tail. option_map_or (form_of_text options) (after_dash tail) Stray) (after_dash word) Plain

-- the name in `--name` and in `--name=value`
abbrev pub name_of : Text → Text
name_of word = (name_and_value (drop 2 word)).0

-- the value in `--name=value`
abbrev pub value_of : Text → Text
value_of word = after_first (λ b. b == 61) (drop 2 word)

-- what the words give: a FILE, a JOURNAL, or an option by its name with its value
pub data WordItem : Type 0 where
  file : Text → WordItem
  journal : Text → WordItem
  given : Text → Text → WordItem

-- the item first, where the words after it can be read
abbrev pub first_item : WordItem → Option (List WordItem) → Option (List WordItem)
first_item item rest = option_map (λ items. item ∷ items) rest

-- what a word gives by its form; `rest` reads the words after it, with the option that waits for its value
abbrev pub by_form : Form → Text → List Text → (Option Text → Option (List WordItem)) → Option (List WordItem)
by_form Plain word words rest = first_item (file word) (rest None)
by_form End word words rest = Some (map file words)
by_form Whole word words rest = first_item (given (name_of word) (value_of word)) (rest None)
by_form Open word words rest = rest (Some (name_of word))
by_form Stray word words rest = None

-- the items of the words, where they keep the dash rule; an option may wait for its value, which begins with no dash
abbrev pub items : List Text → Option Text → List Text → Option (List WordItem)
items options None [] = Some []
items options (Some name) [] = None
items options (Some name) (word ∷ words) =
    if is_some (after_dash word) then None else first_item (given name word) (items options None words)
items options None (word ∷ words) = by_form (form_of options word) word words (λ waiting. items options waiting words)
