-- The arguments of one level of the command line, once it is built, and what one use of them comes to.
use Rattle.std.proofs.Common.{◌≡◌, ◌&&◌, ◌||◌, ℕ, Bool, cond, true, false, not, refl, sym, ap, ◌∙◌, List, [], ◌∷◌, ◌++◌}
use Rattle.std.proofs.Common.{map, Option, Some, None, option_map, append-nil, true≢false}
use Rattle.std.specs.List.{find}
use Rattle.std.specs.Str.{bytes_eq}
use Rattle.std.specs.Prelude.{codes}
use Rattle.std.proofs.lemmas.Slice.Eq.{bytes_eq-Decides}
use Rattle.std.proofs.lemmas.Bool.{or_parts}
use Rattle.clap.specs.Walk.{Row, Rule, arg_by_id, arg_by_index, arg_by_long, at_row, has_row, more_values, used}
use Rattle.clap.specs.Walk.{with_values}
use Rattle.clap.specs.Simple.{Shape, new_shape}
use Rattle.clap.specs.ValueTests.{accepts}
use Rattle.clap.specs.Values.{reading_of, refused_kind}
use Rattle.clap.specs.Kinds.{Kinds, or_else}
use Rattle.clap.specs.Faults.{use_fault}
use Rattle.clap.specs.declared.builder.action.ArgAction.TheVariants.{Set}
use Rattle.clap.specs.declared.builder.value_parser.ValueParser.{ValueParser}
use Rattle.clap.specs.declared.builder.value_parser.ValueParser.TheVariants as vp
use Rattle.clap.specs.declared.builder.value_parser.Reading.{Reading}
use Rattle.clap.specs.declared.parser.matches.ValueSource.TheVariants.{CommandLine}
use Rattle.clap.specs.declared.error.kind.ErrorKind.{ErrorKind}
use Rattle.clap.specs.declared.error.kind.ErrorKind.TheVariants as kind
use Rattle.sp_words.specs.Dashes.{Text, contains}

-- options with the parsers of their values
abbrev pub Options : Type 0
Options = List (Text × ValueParser)

-- whether there is a JOURNAL, and the options
abbrev pub Parsers : Type 0
Parsers = Bool × Options

-- an argument that is set once, by one value
abbrev pub single : Text → Option Text → Option ℕ → ValueParser → Bool → Rule
single id long index parser required = record {
  id = id;
  long = long;
  aliases = [];
  short = None;
  short_aliases = [];
  index = index;
  action = Some Set;
  range = Some (record { start_inclusive = 1; end_inclusive = 1 });
  value_names = 0;
  defaults = [];
  missing = [];
  trailing_var_arg = false;
  parser = Some parser;
  ignore_case = false;
  required = required;
  is_simple = true;
  is_free = true;
}

abbrev pub file_id : Text
file_id = codes "FILE"

abbrev pub built_file : Rule
built_file = single file_id None (Some 1) vp.String true

abbrev pub journal_id : Text
journal_id = codes "JOURNAL"

abbrev pub built_journal : Rule
built_journal = single journal_id None (Some 2) vp.String true

abbrev pub built_option : Text → ValueParser → Rule
built_option name parser = single name (Some name) None parser false

abbrev pub options : Options → List Rule
options os = map (λ o. built_option o.0 o.1) os

-- JOURNAL, where there is one, and what is behind it
abbrev pub behind_file : Bool → List Rule → List Rule
behind_file true rest = built_journal ∷ rest
behind_file false rest = rest

abbrev pub rules : Parsers → List Rule
rules os = built_file ∷ behind_file os.0 (options os.1)

abbrev pub level : Text → Parsers → Shape
level name os = record (new_shape name) {
  rules = rules os;
  no_binary_name = true;
  disable_help_flag = true;
  disable_help_subcommand = true;
  disable_version_flag = true;
  is_built = true;
}

-- ---- kinds of faults

abbrev pub clear : Kinds → Bool
clear [] = true
clear (k ∷ ks) = false

pub clear-or_else : (a b : Kinds) → clear (or_else a b) ≡ (clear a && clear b)
clear-or_else [] b = refl
clear-or_else (k ∷ ks) b = refl

-- ---- one use

abbrev pub new_row : Text → Reading → Text → Row
new_row id how value = record { id = id; values = value ∷ []; count = None; source = Some CommandLine; reading = how }

pub fault_of_use : (id : Text) (long : Option Text) (index : Option ℕ) (p : ValueParser) (required : Bool)
    (value : Text) (rows : List Row)
    → clear (use_fault false (single id long index p required) (value ∷ []) rows) ≡ (not (has_row id rows)
    && accepts false p value)
fault_of_use id long index p required value rows = go (has_row id rows) (accepts false p value) (refused_kind p)
  where
    go : (h b : Bool) (k : ErrorKind)
        → clear (or_else (cond (h && true) (kind.ArgumentConflict ∷ []) []) (or_else (cond b [] (k ∷ [])) [])) ≡ (not h
        && b)
    go true true k = refl
    go true false k = refl
    go false true k = refl
    go false false k = refl

pub at_no_row : (id : Text) (change : Row → List Row) (missing rows : List Row) → has_row id rows ≡ false
    → at_row id change missing rows ≡ rows ++ missing
at_no_row id change missing [] e = refl
at_no_row id change missing (r ∷ rs) e =
    let parts = or_parts (bytes_eq r.id id) (has_row id rs) e in
    let here : bytes_eq r.id id ≡ false = parts.0 in
    rw here (ap (λ xs. r ∷ xs) (at_no_row id change missing rs parts.1))

pub rows_of_use : (id : Text) (long : Option Text) (index : Option ℕ) (p : ValueParser) (required : Bool) (value : Text)
    (rows : List Row)
    → has_row id rows ≡ false → used (single id long index p required) (value ∷ []) rows ≡ rows
    ++ new_row id (reading_of p) value ∷ []
rows_of_use id long index p required value rows e =
    ap (with_values id (reading_of p) CommandLine (value ∷ [])) (at_no_row id (λ _. []) [] rows e ∙ append-nil rows)
    ∙ at_no_row id (more_values CommandLine (value ∷ [])) (new_row id (reading_of p) value ∷ []) rows e

-- ---- which argument a name finds

abbrev pub named : Text → Text × ValueParser → Bool
named n o = bytes_eq o.0 n

pub record IsOption (os : Parsers) (n : Text) : Type 0 where
  pub parser : ValueParser
  pub found : option_map (λ o. o.1) (find (named n) os.1) ≡ Some parser
  pub by_id : arg_by_id (rules os) n ≡ Some (built_option n parser)
  pub by_long : arg_by_long (rules os) n ≡ Some (built_option n parser)
  pub no_file : bytes_eq n file_id ≡ false
  pub itself : bytes_eq n n ≡ true

record IsListedOption (os : Options) (n : Text) : Type 0 where
  parser : ValueParser
  found : option_map (λ o. o.1) (find (named n) os) ≡ Some parser
  by_id : arg_by_id (options os) n ≡ Some (built_option n parser)
  by_long : arg_by_long (options os) n ≡ Some (built_option n parser)

same_name : (a b : Text) → bytes_eq a b ≡ true → a ≡ b
same_name a b = (bytes_eq-Decides a b).0

itself_of : (a : Text) → bytes_eq a a ≡ true
itself_of a = (bytes_eq-Decides a a).1 refl

among : (os : Options) (n : Text) → contains (map (λ o. o.0) os) n ≡ true → IsListedOption os n
among [] n e = absurd (true≢false (sym e))
among (o ∷ os) n e = go (bytes_eq o.0 n) refl e (among os n)
  where
    go : (b : Bool) → bytes_eq o.0 n ≡ b → (b || contains (map (λ o. o.0) os) n) ≡ true
        → (contains (map (λ o. o.0) os) n ≡ true → IsListedOption os n) → IsListedOption (o ∷ os) n
    go true d k ih =
        let is : o.0 ≡ n = same_name o.0 n d in
        record {
          parser = o.1;
          found = rw d refl;
          by_id = rw d (ap (λ (name : Text). Some (built_option name o.1)) is);
          by_long = rw d (ap (λ (name : Text). Some (built_option name o.1)) is);
        }
    go false d k ih =
        let rest = ih k in
        record {
          parser = rest.parser;
          found = rw d rest.found;
          by_id = rw d rest.by_id;
          by_long = rw d rest.by_long;
        }

not_same : (a b : Text) → bytes_eq b a ≡ false → bytes_eq a b ≡ false
not_same a b e = go (bytes_eq a b) refl
  where
    go : (t : Bool) → bytes_eq a b ≡ t → t ≡ false
    go false d = refl
    go true d = absurd (true≢false (sym (itself_of a) ∙ ap (λ (c : Text). bytes_eq c a) (same_name a b d) ∙ e))

-- the name of an option is not one that no option has
apart : (ns : List Text) (n id : Text) → contains ns id ≡ false → contains ns n ≡ true → bytes_eq n id ≡ false
apart ns n id none e = go (bytes_eq n id) refl
  where
    go : (b : Bool) → bytes_eq n id ≡ b → bytes_eq n id ≡ false
    go false d = d
    go true d = absurd (true≢false (sym e ∙ ap (contains ns) (same_name n id d) ∙ none))

id_behind : (there : Bool) (rest : List Rule) (n : Text) → bytes_eq journal_id n ≡ false
    → arg_by_id (behind_file there rest) n ≡ arg_by_id rest n
id_behind true rest n e = rw e refl
id_behind false rest n e = refl

long_behind : (there : Bool) (rest : List Rule) (n : Text) → arg_by_long (behind_file there rest) n ≡ arg_by_long rest n
long_behind true rest n = refl
long_behind false rest n = refl

-- the name of an option is neither that of FILE nor that of JOURNAL
pub option_of : (os : Parsers) (n : Text) → contains (map (λ o. o.0) os.1) file_id ≡ false
    → contains (map (λ o. o.0) os.1) journal_id ≡ false
    → contains (map (λ o. o.0) os.1) n ≡ true → IsOption os n
option_of os n no_file no_journal e =
    let a = among os.1 n e in
    let file_apart : bytes_eq n file_id ≡ false = apart (map (λ o. o.0) os.1) n file_id no_file e in
    let journal_apart : bytes_eq n journal_id ≡ false = apart (map (λ o. o.0) os.1) n journal_id no_journal e in
    let f : bytes_eq file_id n ≡ false = not_same file_id n file_apart in
    record {
      parser = a.parser;
      found = a.found;
      by_id = rw f (id_behind os.0 (options os.1) n (not_same journal_id n journal_apart) ∙ a.by_id);
      by_long = long_behind os.0 (options os.1) n ∙ a.by_long;
      no_file = file_apart;
      itself = itself_of n;
    }

pub no_option_at : (os : Options) (k : ℕ) → arg_by_index (options os) k ≡ None
no_option_at [] k = refl
no_option_at (o ∷ os) k = no_option_at os k
