-- What the parser of command lines knows of the names of the reports, and how its steps follow one another.
use Rattle.std.proofs.Common.{◌≡◌, ◌∙◌, Bool, true, false, cond, refl, ap, List, [], ◌∷◌, Option, Some, Result, Ok, Err}
use Rattle.std.proofs.Common.{IfOk, codes, map, option_map, is_some, subst, sym, ◌||◌}
use Rattle.std.proofs.lemmas.Result.{IfOk-weaker}
use Rattle.std.specs.Borrow.{Bor}
use Rattle.std.specs.List.{find, list_any}
use Rattle.std.specs.Str.{bytes_eq}
use Rattle.clap.proofs.WalkLemmas.{list_any-map}
use Rattle.clap.specs.Simple.{App, Shape, app_of, shape_of, with_rule, with_subcommand}
use Rattle.clap.specs.Walk.{Rule}
use Rattle.clap.specs.Words.{AddsSubcommand}
use Rattle.clap.specs.declared.builder.command.Command.{Command}
use Rattle.clap.specs.declared.builder.value_parser.ValueParser.{ValueParser}
use Rattle.sp_words.specs.Dashes.{Text}
use Rattle.sp_words.specs.Options.{show_named, shows}
use Rattle.sp_words.specs.Parsers.{ChangesApp, AddsCommand, IsLocal, IsShowParser, option_rule}
use Rattle.sp_base.specs.declared.limits.Show.{Show}

found_step : (b : Bool) (s : Text × Show) (rest : Bool) (found : Option (Text × Show))
    → rest ≡ is_some (option_map (λ p. p.1) found)
    → (b || rest) ≡ is_some (option_map (λ p. p.1) (cond b (Some s) found))
found_step true s rest found e = refl
found_step false s rest found e = e

listed : (xs : List (Text × Show)) (text : Text)
    → list_any (λ t. bytes_eq t text) (map (λ s. s.0) xs) ≡ is_some
    (option_map (λ p. p.1) (find (λ s. bytes_eq s.0 text) xs))
listed [] text = refl
listed (s ∷ xs) text = found_step (bytes_eq s.0 text) s _ (find (λ s. bytes_eq s.0 text) xs) (listed xs text)

-- a text is among the names exactly where it names a report
pub show_listed : (names : List (Bor Text)) (text : Text) → map (λ n. n.now) names ≡ map (λ s. s.0) shows
    → list_any (λ n. bytes_eq n.now text) names ≡ is_some (show_named text)
show_listed names text e = list_any-map (λ t. bytes_eq t text) (λ n. n.now) names
    ∙ ap (list_any (λ t. bytes_eq t text)) e ∙ listed shows text

-- ---- the steps, one after the other

-- what was known of the command that was given
pub added : {E : Type 0} (f : App → App) (a : App) (r s : Result Command E) → ChangesApp f r s
    → IfOk r (λ c. app_of c ≡ a)
    → IfOk s (λ c. app_of c ≡ f a)
added f a r (Err e) p h = tt {0}
added f a (Err e) (Ok c) p h = absurd p
added f a (Ok b) (Ok c) p h = p ∙ ap f h

-- the same, where the parser of `--show` is among it
pub added_with : {E : Type 0} (f : App → App) (a : ValueParser → App) (r s : Result Command E) → ChangesApp f r s
    → IfOk r (λ c. (q : ValueParser) × (app_of c ≡ a q) × IsShowParser q)
    → IfOk s (λ c. (q : ValueParser) × (app_of c ≡ f (a q)) × IsShowParser q)
added_with f a r (Err e) p h = tt {0}
added_with f a (Err e) (Ok c) p h = absurd p
added_with f a (Ok b) (Ok c) p h = (h.0, p ∙ ap f h.1, h.2)

-- two steps are one
pub in_turn : {E : Type 0} (g f : App → App) (r s t : Result Command E) → ChangesApp g s t → ChangesApp f r s
    → ChangesApp (λ a. g (f a)) r t
in_turn g f r s (Err e) q p = tt {0}
in_turn g f r (Err e) (Ok d) q p = absurd q
in_turn g f (Err e) (Ok c) (Ok d) q p = absurd p
in_turn g f (Ok b) (Ok c) (Ok d) q p = q ∙ ap g p

-- what a step that adds a command says, where both are there
pub adds_command : {E : Type 0} (l sub : Command) (line command made : Result Command E) → line ≡ Ok l
    → command ≡ Ok sub → IfOk made (λ c. AddsSubcommand l sub c) → AddsCommand line command made
adds_command l sub line command made e f h =
    subst (λ x. AddsCommand x command made) (sym e)
    (subst (λ y. AddsCommand (Ok l) y made) (sym f) (IfOk-weaker made _ _ (λ c a. a.shape) h))

-- a command of a known shape
pub shaped : {E : Type 0} (sub : Shape) (line command made : Result Command E) → AddsCommand line command made
    → IfOk command IsLocal → IfOk command (λ c. shape_of c ≡ sub)
    → ChangesApp (λ a. with_subcommand a sub) line made
shaped sub line command (Err e) p l h = tt {0}
shaped sub line (Err e) (Ok c) p l h = absurd p
shaped sub (Err e) (Ok b) (Ok c) p l h = absurd p
shaped sub (Ok a) (Ok b) (Ok c) p l h = p l ∙ ap (with_subcommand (app_of a)) h

-- a command whose shape has the parser of `--show`
pub shaped_with : {E : Type 0} (a : App) (sub : ValueParser → Shape) (line command made : Result Command E)
    → AddsCommand line command made → IfOk command IsLocal
    → IfOk command (λ c. (q : ValueParser) × (shape_of c ≡ sub q) × IsShowParser q) → IfOk line (λ c. app_of c ≡ a)
    → IfOk made (λ c. (q : ValueParser) × (app_of c ≡ with_subcommand a (sub q)) × IsShowParser q)
shaped_with a sub line command (Err e) p l h k = tt {0}
shaped_with a sub line (Err e) (Ok c) p l h k = absurd p
shaped_with a sub (Err e) (Ok b) (Ok c) p l h k = absurd p
shaped_with a sub (Ok x) (Ok b) (Ok c) p l h k = (
  h.0,
  p l ∙ ap (with_subcommand (app_of x)) h.1
      ∙ ap (λ y. with_subcommand y (sub h.0)) k,
  h.2,
)

-- an argument whose rule is known
pub ruled : {E : Type 0} (x : Rule) (a : App) (y : Rule) (r s : Result Command E) → ChangesApp (λ b. with_rule b y) r s
    → y ≡ x → IfOk r (λ c. app_of c ≡ a) → IfOk s (λ c. app_of c ≡ with_rule a x)
ruled x a y r s p e h = subst (λ z. IfOk s (λ c. app_of c ≡ with_rule a z)) e (added (λ b. with_rule b y) a r s p h)

-- the option `--show`
pub shown : {E : Type 0} (a : App) (y : Rule) (r s : Result Command E) → ChangesApp (λ b. with_rule b y) r s
    → (q : ValueParser) × (y ≡ option_rule (codes "show", q)) × IsShowParser q
    → IfOk r (λ c. app_of c ≡ a)
    → IfOk s (λ c. (q : ValueParser) × (app_of c ≡ with_rule a (option_rule (codes "show", q))) × IsShowParser q)
shown a y r s p o h = IfOk-weaker s _ _ (λ c e. (o.0, e, o.2)) (ruled (option_rule (codes "show", o.0)) a y r s p o.1 h)

-- of what is known of a command, its shape
pub top_of : {E : Type 0} (a : App) (r : Result Command E) → IfOk r (λ c. app_of c ≡ a)
    → IfOk r (λ c. shape_of c ≡ a.top)
top_of a (Err e) h = tt {0}
top_of a (Ok c) h = ap (λ (x : App). x.top) h

pub top_with : {E : Type 0} (a : ValueParser → App) (r : Result Command E)
    → IfOk r (λ c. (q : ValueParser) × (app_of c ≡ a q) × IsShowParser q)
    → IfOk r (λ c. (q : ValueParser) × (shape_of c ≡ (a q).top) × IsShowParser q)
top_with a (Err e) h = tt {0}
top_with a (Ok c) h = (h.0, ap (λ (x : App). x.top) h.1, h.2)
