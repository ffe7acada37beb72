-- The whole command line: the command and then its level.
use Rattle.std.proofs.Common.{◌≡◌, ◌^◌, ◌&&◌, ℕ, Bool, cond, true, false, refl, sym, ap, ap₂, ◌∙◌, List, [], ◌∷◌, ◌++◌}
use Rattle.std.proofs.Common.{map, Option, Some, None, option_map, is_some, true≢false, append_assoc, append-nil, inl}
use Rattle.std.proofs.Common.{inr}
use Rattle.std.specs.List.{find, fold, list_all}
use Rattle.std.specs.Option.{option_map_or}
use Rattle.std.specs.Prelude.{codes, nat_le, nat_lt, option_and_then}
use Rattle.std.specs.Str.{bytes_eq}
use Rattle.std.proofs.lemmas.Slice.Eq.{bytes_eq-Decides}
use Rattle.std.specs.Str.Parse.{digits_value, without_leading_plus}
use Rattle.std.proofs.lemmas.Option.{none-some, same_Some}
use Rattle.sp_base.proofs.Facts.{and_with_false, first_true, value_if_some}
use Rattle.clap.specs.Walk.{Names, Row, Rule, Walk, answers_to, finished, first_of, nothing_held, settled, stop_after}
use Rattle.clap.specs.Walk.{walk, walk_from, walked}
use Rattle.clap.specs.Walk.{rows_after as matched_rows}
use Rattle.clap.specs.Simple.{App, Shape, entered, is_simple, label_of, names_of, new_shape, rows_at}
use Rattle.clap.specs.Simple.{subcommand_of}
use Rattle.clap.specs.Kinds.{Kinds, or_else}
use Rattle.clap.specs.Faults.{built_fault, check_fault, defaults_fault, entered_fault, fault_of, settle_fault}
use Rattle.clap.specs.Faults.{is_simple_and_free, level_fault, turn_fault, walk_fault}
use Rattle.clap.specs.ValueTests.{accepts}
use Rattle.clap.proofs.FaultLemmas.{stopped_fault}
use Rattle.clap.proofs.WalkLemmas.{first_value-rows}
use Rattle.clap.specs.Matches.{first_value}
use Rattle.clap.specs.Walk.{rows_of}
use Rattle.clap.specs.Values.{kind_of}
use Rattle.clap.specs.Kinds.{HasKind, IsAmong}
use Rattle.clap.specs.declared.parser.matches.Found.{Found}
use Rattle.clap.specs.declared.error.Error.{Error}
use Rattle.clap.specs.declared.error.kind.ErrorKind.{ErrorKind}
use Rattle.clap.specs.declared.error.kind.ErrorKind.TheVariants.{OutOfMemory}
use Rattle.clap.specs.declared.builder.value_parser.ValueParser.{ValueParser}
use Rattle.clap.specs.declared.builder.value_parser.ValueParser.TheVariants as vp
use Rattle.sp_words.specs.Dashes.{WordItem, Text, items}
use Rattle.sp_words.specs.Options.{Choice, is_number_in, is_numeral, limit_options, option_names, options_of}
use Rattle.sp_words.specs.Options.{show_named}
use Rattle.sp_words.specs.Parsers.{IsShowParser, app_with, gen_parsers, limit_parsers, run_parsers, worker_parsers}
use Rattle.sp_words.specs.Words.{command_from, command_named, command_names, command_of, command_of_items, command_read}
use Rattle.sp_words.specs.Words.{command_with, each_once, has_journal, is_accepted, lookup, with_journal}
use Rattle.sp_words.specs.declared.command.Command.{Command}
use Rattle.sp_words.specs.declared.command.CommandName.{CommandName}
use Rattle.sp_words.specs.declared.command.CommandName.TheVariants.{Check, Run, Code, Sets, Format, Gen, Replay}
use Rattle.sp_words.specs.declared.command.CommandName.TheVariants.{Witness, Build, Exec, Trace, Where}
use Rattle.sp_words.proofs.Readings.{HoldsOfEach}
use Rattle.sp_words.proofs.Rules.{Options, Parsers, clear, file_id, journal_id, level, rules}
use Rattle.sp_words.proofs.WalkStates.{good, or_else-nil}
use Rattle.sp_words.proofs.Levels.{IsFree, names}
use Rattle.sp_words.proofs.LevelEnds.{ParsersMatch, good_agrees, is_complete, level_reads, names_agree}

-- ---- the first word

abbrev pub word_for : CommandName → Text
word_for Check = codes "check"
word_for Run = codes "run"
word_for Code = codes "code"
word_for Sets = codes "sets"
word_for Format = codes "format"
word_for Gen = codes "gen"
word_for Replay = codes "replay"
word_for Witness = codes "witness"
word_for Build = codes "build"
word_for Exec = codes "exec"
word_for Trace = codes "trace"
word_for Where = codes "where"

found_step : (x : Text × CommandName) (word : Text) (command : CommandName) (found : Option (Text × CommandName))
    (b : Bool) → x.0 ≡ word_for x.1 → bytes_eq x.0 word ≡ b
    → (option_map (λ p. p.1) found ≡ Some command → word ≡ word_for command)
    → option_map (λ p. p.1) (cond b (Some x) found) ≡ Some command → word ≡ word_for command
found_step x word command found true is d rest f = sym ((bytes_eq-Decides x.0 word).0 d) ∙ is
    ∙ ap word_for (same_Some _ _ f)
found_step x word command found false is d rest f = rest f

word_found : (xs : List (Text × CommandName)) (word : Text) (command : CommandName)
    → HoldsOfEach (λ p. p.0 ≡ word_for p.1) xs
    → option_map (λ p. p.1) (find (λ p. bytes_eq p.0 word) xs) ≡ Some command → word ≡ word_for command
word_found [] word command each e = absurd (none-some command e)
word_found (x ∷ xs) word command each e = found_step x word command (find (λ p. bytes_eq p.0 word) xs)
    (bytes_eq x.0 word) each.0 refl (word_found xs word command each.1) e

-- the word that names a command
pub word_of_command : (word : Text) (command : CommandName) → command_named word ≡ Some command
    → word ≡ word_for command
word_of_command word command e = word_found command_names word command
    (refl, (refl, (refl, (refl, (refl, (refl, (refl, (refl, (refl, (refl, (refl, (refl, tt)))))))))))) e

-- ---- the walk past the command

abbrev stopped : Text × List Text → Walk
stopped p = record (walk_from nothing_held) { stopped = Some p }

stays_stopped : (c : List Rule) (ns : Names) (words : List Text) (p : Text × List Text)
    → fold (walked c ns) (stopped p) words ≡ stopped (p.0, p.1 ++ words)
unfolding walked
stays_stopped c ns [] p = ap (λ (ws : List Text). stopped (p.0, ws)) (sym (append-nil p.1))
stays_stopped c ns (word ∷ words) p =
    stays_stopped c ns words (p.0, p.1 ++ word ∷ [])
    ∙ ap (λ (ws : List Text). stopped (p.0, ws)) (append_assoc p.1 (word ∷ []) words)

abbrev pub top_shape : Shape
top_shape = record (new_shape (codes "superpascal")) {
  is_leaf = false;
  no_binary_name = true;
  disable_help_flag = true;
  disable_help_subcommand = true;
  disable_version_flag = true;
  subcommand_required = true;
  is_built = true;
}

abbrev pub app : List Shape → App
app subs = record { top = top_shape; subs = subs }

-- what is left of the parse where the first word names the shape s
pub record EntersLevel (subs : List Shape) (word : Text) (s : Shape) (words : List Text) : Type 0 where
  pub fault : built_fault (app subs) nothing_held (word ∷ words) ≡ level_fault s [] nothing_held words false []
  pub rows : entered (app subs) (stop_after [] (names_of (app subs)) (word ∷ words)) ≡ Some (rows_at s words)

-- the word names the shape s, among the commands
abbrev IsMet : List Shape → Text → Type 0
IsMet subs word = option_map (λ x. x.0) (find (answers_to word) (map label_of subs)) ≡ Some word

first_walk : (subs : List Shape) (word : Text) → IsMet subs word
    → walked [] (names_of (app subs)) (walk_from nothing_held) word ≡ stopped (word, [])
unfolding walked
first_walk subs word met = rw met refl

first_turn : (subs : List Shape) (word : Text) → IsMet subs word
    → turn_fault top_shape (names_of (app subs)) (walk_from nothing_held) word ≡ []
first_turn subs word met = rw met (rw (and_with_false (bytes_eq word (codes "help"))) refl)

end_walk : (subs : List Shape) (word : Text) (words : List Text) → IsMet subs word
    → walk [] (names_of (app subs)) nothing_held (word ∷ words) ≡ stopped (word, words)
end_walk subs word words met =
    ap (λ (w : Walk). fold (walked [] (names_of (app subs))) w words) (first_walk subs word met)
    ∙ stays_stopped [] (names_of (app subs)) words (word, [])

walk_clear : (subs : List Shape) (word : Text) (words : List Text) → IsMet subs word
    → walk_fault top_shape (names_of (app subs)) (walk_from nothing_held) (word ∷ words) ≡ []
unfolding walk_fault
walk_clear subs word words met =
    ap₂ or_else (first_turn subs word met)
    (ap (λ (w : Walk). walk_fault top_shape (names_of (app subs)) w words) (first_walk subs word met)
    ∙ stopped_fault top_shape (names_of (app subs)) (walk_from nothing_held) (word, []) words)

-- the parse of the top level, where its walk ends so
abbrev fault_at : List Shape → Kinds → Walk → Kinds
fault_at subs walked_kinds end = or_else walked_kinds
    (or_else (entered_fault (app subs) end.stopped) (or_else (settle_fault [] false end.held)
    (or_else (defaults_fault (settled [] end.held).rows [])
    (check_fault top_shape (finished [] end.held) (is_some (entered (app subs) end.stopped))))))

end_fault : (subs : List Shape) (word : Text) (s : Shape) (words : List Text)
    → find (λ x. answers_to word (label_of x)) subs ≡ Some s
    → fault_at subs [] (stopped (word, words)) ≡ level_fault s [] nothing_held words false []
unfolding defaults_fault
end_fault subs word s words sub = rw sub (or_else-nil (level_fault s [] nothing_held words false []))

enters : (subs : List Shape) (word : Text) (s : Shape) (words : List Text) → IsMet subs word
    → find (λ x. answers_to word (label_of x)) subs ≡ Some s → EntersLevel subs word s words
enters subs word s words met sub = record {
  fault = ap₂ (λ k w. fault_at subs k w) (walk_clear subs word words met) (end_walk subs word words met)
      ∙ end_fault subs word s words sub;
  rows = ap (λ (w : Walk). entered (app subs) w.stopped) (end_walk subs word words met)
      ∙ ap (option_map (λ x. rows_at x words)) sub;
}

-- ---- the command line of superpascal

abbrev pub option_parsers : ValueParser → CommandName → Options
option_parsers q Run = run_parsers q
option_parsers q Gen = gen_parsers
option_parsers q Replay = limit_parsers
option_parsers q Witness = worker_parsers
option_parsers q Exec = worker_parsers
option_parsers q Trace = limit_parsers
option_parsers q Where = limit_parsers
option_parsers _ _ = []

abbrev pub parsers_for : ValueParser → CommandName → Parsers
parsers_for q command = (has_journal command, option_parsers q command)

-- the level of a command
abbrev pub level_for : ValueParser → CommandName → Shape
level_for q command = level (word_for command) (parsers_for q command)

abbrev pub shapes : ValueParser → List Shape
shapes q = map (level_for q)
    (Check ∷ Run ∷ Code ∷ Sets ∷ Format ∷ Gen ∷ Replay ∷ Witness ∷ Build ∷ Exec ∷ Trace ∷ Where ∷ [])

pub free : (q : ValueParser) → is_simple_and_free (app_with q) ≡ true
free q = refl

simple : (q : ValueParser) → is_simple (app_with q) ≡ true
simple q = refl

enters_command : (q : ValueParser) (command : CommandName) (words : List Text)
    → EntersLevel (shapes q) (word_for command) (level_for q command) words
enters_command q Check words = enters (shapes q) (word_for Check) (level_for q Check) words refl refl
enters_command q Run words = enters (shapes q) (word_for Run) (level_for q Run) words refl refl
enters_command q Code words = enters (shapes q) (word_for Code) (level_for q Code) words refl refl
enters_command q Sets words = enters (shapes q) (word_for Sets) (level_for q Sets) words refl refl
enters_command q Format words = enters (shapes q) (word_for Format) (level_for q Format) words refl refl
enters_command q Gen words = enters (shapes q) (word_for Gen) (level_for q Gen) words refl refl
enters_command q Replay words = enters (shapes q) (word_for Replay) (level_for q Replay) words refl refl
enters_command q Witness words = enters (shapes q) (word_for Witness) (level_for q Witness) words refl refl
enters_command q Build words = enters (shapes q) (word_for Build) (level_for q Build) words refl refl
enters_command q Exec words = enters (shapes q) (word_for Exec) (level_for q Exec) words refl refl
enters_command q Trace words = enters (shapes q) (word_for Trace) (level_for q Trace) words refl refl
enters_command q Where words = enters (shapes q) (word_for Where) (level_for q Where) words refl refl

number_test : (a b : Bool) (n : ℕ) (f : ℕ → Bool)
    → (a && (b && f n)) ≡ option_map_or f (cond (a && b) (Some n) None) false
number_test true true n f = refl
number_test true false n f = refl
number_test false b n f = refl

-- a parser of numbers takes the numbers in its range
takes_number : (least most : ℕ) (text : Text)
    → accepts false (vp.Unsigned least most) text ≡ is_number_in least most text
takes_number least most text =
    let digits = without_leading_plus text in
    number_test (is_numeral digits) (nat_lt (digits_value 10 digits) (2 ^ 64)) (digits_value 10 digits)
    (λ n. nat_le least n && nat_le n most)

-- the options of the limits, and more
limits_agree : (os : Options) (cs : List Choice) → ParsersMatch os cs
    → ParsersMatch (limit_parsers ++ os) (limit_options ++ cs)
limits_agree os cs more = (
  refl,
  takes_number 1 1000000000,
  (
    refl,
    takes_number 1 10000,
    (
      refl,
      takes_number 1 67108864,
      (
        refl,
        takes_number 1 1000000,
        (
          refl,
          takes_number 1 1000000,
          (refl, takes_number 1 10000000, (refl, takes_number 1 268435456, more)),
        ),
      ),
    ),
  ),
)

agrees : (q : ValueParser) (command : CommandName) → IsShowParser q
    → ParsersMatch (option_parsers q command) (options_of command)
agrees q Check show = tt
agrees q Run show = (
  refl,
  takes_number 1 64,
  limits_agree ((codes "show", q) ∷ [])
      ((codes "show", λ text. is_some (show_named text)) ∷ []) (refl, show, tt),
)
agrees q Code show = tt
agrees q Sets show = tt
agrees q Format show = tt
agrees q Gen show = (refl, takes_number 1 64, tt)
agrees q Replay show = limits_agree [] [] tt
agrees q Witness show = (refl, takes_number 1 64, limits_agree [] [] tt)
agrees q Build show = tt
agrees q Exec show = (refl, takes_number 1 64, limits_agree [] [] tt)
agrees q Trace show = limits_agree [] [] tt
agrees q Where show = limits_agree [] [] tt

is_free : (q : ValueParser) (command : CommandName) → IsFree (parsers_for q command)
is_free q Check = (refl, refl)
is_free _ _ = (refl, refl)

-- ---- the words

abbrev pub line : ValueParser → Text → List Text → Kinds
line q word words = fault_of (app_with q) (word ∷ words)

-- what the parse of the words says of the command that they ask for
pub record ReadsLine (q : ValueParser) (word : Text) (words : List Text) (command : CommandName) : Type 0 where
  pub refused : clear (line q word words) ≡ false → command_of (word ∷ words) ≡ None
  pub rows : List Row
  pub entered_rows : option_map (λ p. p.1) (subcommand_of (app_with q) (word ∷ words)) ≡ Some rows
  pub found : clear (line q word words) ≡ true
      → command_with command (λ id. first_of id rows) ≡ command_of (word ∷ words)

reads_as : (word : Text) (words : List Text) (command : CommandName) (is : List WordItem)
    → command_named word ≡ Some command → items (option_names command) None words ≡ Some is
    → command_of (word ∷ words) ≡ command_of_items command is
reads_as word words command is e i = ap (option_and_then (command_read words)) e
    ∙ ap (option_and_then (command_of_items command)) i

-- without a FILE there is no command
without_file : (command : CommandName) (value : Text → Option Text) (found : Option Text) (b : Bool)
    → (is_some found && b) ≡ false
    → ((word : Text) → b ≡ false → command_from command value word ≡ None)
    → option_and_then (command_from command value) found ≡ None
without_file command value None b e without = refl
without_file command value (Some word) b e without = without word e

-- nor without a JOURNAL where it has one
without_journal : (found : Option Text) (f : Text → Command) → is_some found ≡ false → option_map f found ≡ None
without_journal None f e = refl
without_journal (Some text) f e = absurd (true≢false e)

incomplete : (command : CommandName) (is : List WordItem) → is_complete (has_journal command) is ≡ false
    → command_with command (lookup is) ≡ None
incomplete command is e = without_file command (lookup is) (lookup is file_id) _ e (without command)
  where
    without : (c : CommandName) (word : Text) → cond (has_journal c) (is_some (lookup is journal_id)) true ≡ false
        → command_from c (lookup is) word ≡ None
    without Check word d = absurd (true≢false d)
    without Run word d = absurd (true≢false d)
    without Code word d = absurd (true≢false d)
    without Sets word d = absurd (true≢false d)
    without Format word d = absurd (true≢false d)
    without Gen word d = absurd (true≢false d)
    without Replay word d = without_journal (lookup is journal_id) _ d
    without Witness word d = absurd (true≢false d)
    without Build word d = absurd (true≢false d)
    without Exec word d = absurd (true≢false d)
    without Trace word d = without_journal (lookup is journal_id) _ d
    without Where word d = without_journal (lookup is journal_id) _ d

-- items that the parse refuses are no command
left_out : (g : Bool) (command : CommandName) (is : List WordItem) → (g && is_complete (has_journal command) is) ≡ false
    → cond g (command_with command (lookup is)) None ≡ None
left_out false command is e = refl
left_out true command is e = incomplete command is e

taken : (g b : Bool) (found : Option Command) → (g && b) ≡ true → found ≡ cond g found None
taken false b found e = absurd (true≢false (sym e))
taken true b found e = refl

pub line_reads : (q : ValueParser) (word : Text) (words : List Text) (command : CommandName) (is : List WordItem)
    → IsShowParser q
    → command_named word ≡ Some command → items (option_names command) None words ≡ Some is
    → ReadsLine q word words command
line_reads q word words command is show e i =
    let w : word ≡ word_for command = word_of_command word command e in
    let os = parsers_for q command in
    let agree = agrees q command show in
    let js = with_journal (has_journal command) is in
    let read : items (names os) None words ≡ Some is = ap (λ (ns : List Text). items ns None words)
    (names_agree os.1 (options_of command) agree) ∙ i in
    let l = level_reads (word_for command) os words is (is_free q command) read in
    let in_level = enters_command q command words in
    let test = good_agrees os (options_of command) js [] [] agree (λ n. refl) in
    let all = each_once [] js && list_all (is_accepted (options_of command)) js in
    let whole = is_complete (has_journal command) js in
    let fault : clear (line q word words) ≡ (good os [] js && whole) =
    ap (λ (x : Text). clear (line q x words)) w ∙ ap clear in_level.fault ∙ l.fault in
    let named = reads_as word words command is e i in
    record {
      refused = λ c. named ∙ left_out all command js (ap (λ g. g && whole) (sym test) ∙ sym fault ∙ c);
      rows = matched_rows (rules os) [] words;
      entered_rows = ap (λ (x : Text). option_map (λ (p : Text
          × List Row). p.1) (subcommand_of (app_with q) (x ∷ words))) w ∙ ap (option_map (λ p. p.1)) in_level.rows;
      found = λ c.
          let both : (good os [] js && whole) ≡ true = sym fault ∙ c in
          ap (command_with command) (λ j id. l.found (first_true (good os [] js) whole both) id j)
          ∙ taken all whole (command_with command (lookup js)) (ap (λ g. g && whole) (sym test) ∙ both)
          ∙ sym named;
    }

-- the words are a command, and others that keep its dash rule
pub words_read : (q : ValueParser) (word : Text) (words : List Text) (command : CommandName) (ns : List Text)
    → IsShowParser q
    → command_named word ≡ Some command → ns ≡ option_names command → is_some (items ns None words) ≡ true
    → ReadsLine q word words command
words_read q word words command ns show e same some =
    let there = value_if_some (items ns None words) some in
    line_reads q word words command there.0 show e (ap (λ (xs : List Text). items xs None words) (sym same) ∙ there.1)

-- the parse succeeded, and found the values f at the level of the command
pub given_command : (a : App) (q : ValueParser) (word : Text) (words all : List Text) (command : CommandName)
    (f : Found) (sub : Option (Text × List Row))
    → a ≡ app_with q → all ≡ word ∷ words → ReadsLine q word words command
    → (is_simple_and_free a ≡ true → fault_of a all ≡ []) → (is_simple a ≡ true → sub ≡ subcommand_of a all)
    → Some (rows_of f) ≡ option_map (λ p. p.1) sub
    → command_with command (λ id. first_value f id) ≡ command_of all
given_command a q word words all command f sub is_app is_all line_is faults subs rows =
    let clean : fault_of a all ≡ [] = faults (ap is_simple_and_free is_app ∙ free q) in
    let sub_is : sub ≡ subcommand_of a all = subs (ap is_simple is_app ∙ simple q) in
    let same : rows_of f ≡ line_is.rows = same_Some _ _ (rows
    ∙ ap (option_map (λ (p : Text × List Row). p.1)) (sub_is ∙ ap₂ subcommand_of is_app is_all)
    ∙ line_is.entered_rows) in
    ap (command_with command) (λ j id. first_value-rows f id j)
    ∙ ap (λ (r : List Row). command_with command (λ id. first_of id r)) same
    ∙ line_is.found (ap clear (sym (ap₂ fault_of is_app is_all) ∙ clean))
    ∙ ap command_of (sym is_all)

not_clear : (kinds : Kinds) (k : ErrorKind) → IsAmong k kinds → clear kinds ≡ false
not_clear [] k h = absurd h
not_clear (x ∷ xs) k h = refl

-- the parse failed, and not for want of memory
pub refused_command : (a : App) (q : ValueParser) (word : Text) (words all : List Text) (command : CommandName)
    (e : Error)
    → a ≡ app_with q → all ≡ word ∷ words → ReadsLine q word words command
    → (is_simple_and_free a ≡ true → HasKind (fault_of a all) e) → (kind_of e ≡ OutOfMemory → ⊥)
    → command_of all ≡ None
refused_command a q word words all command e is_app is_all line_is faults other =
    let kinds : HasKind (fault_of a all) e = faults (ap is_simple_and_free is_app ∙ free q) in
    let some : clear (fault_of a all) ≡ false = elim kinds [
      | inl memory ↦ absurd (other memory)
      | inr one ↦ not_clear
          (fault_of a all) (kind_of e) one
    ] in
    ap command_of is_all ∙ line_is.refused (ap clear (sym (ap₂ fault_of is_app is_all)) ∙ some)
