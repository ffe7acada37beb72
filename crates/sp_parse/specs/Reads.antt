-- None of this belongs to what the program promises: it is for contracts between crates.
-- What a part of the parser answers, for the contracts of all functions that read tokens off the front.
-- An answer has two sides. What was read is said by the table of the grammar, unless the reading failed: the symbols of
-- a production are derived by the tokens that are gone, and the tree is what the production makes of them. Where it
-- stops is said by the grammar's machine: a reader stands in the middle of a text, and which token is wrong depends on
-- what may follow, so each relation holds for any symbols `q` that are pending behind. So the contracts compose, and at
-- the top, with nothing pending, they give the first broken rule. Every one that reads promises that the tokens do not
-- grow, by which loops end.
use Rattle.std.specs.Prelude.{◌≡◌, ℕ, ◌<◌, ◌≤◌, Bool, true, false, List, [], ◌∷◌, ◌++◌, length, Option, Some, None}
use Rattle.sp_base.specs.declared.halt.Halt.{Halt}
use Rattle.sp_base.specs.declared.halt.Halt.TheVariants as halt
use Rattle.sp_base.specs.declared.halt.Refusal.{Refusal}
use Rattle.sp_tree.specs.declared.token.Token.{Token}
use Rattle.sp_tree.specs.declared.token.Kind.{Kind}
use Rattle.sp_tree.specs.declared.token.Kind.TheVariants as kind
use Rattle.sp_tree.specs.Places.{place_at}
use Rattle.sp_tree.specs.Spelling.{number_of}
use Rattle.sp_tree.specs.Breaches.{nesting}
use Rattle.sp_tree.specs.Symbols.{Symbol, Value, Values, AToken}
use Rattle.sp_tree.specs.Table.{kind_is}
use Rattle.sp_tree.specs.SymbolMachine.{RunEnd, Done, StuckAt, run}
use Rattle.sp_tree.specs.Derives.{DerivesAll}
use Rattle.sp_tree.specs.Stops.{refusal_of}
use Rattle.sp_parse.specs.declared.source.Source.{Source}
use Rattle.sp_parse.specs.declared.source.Tokens.{Tokens}
use Rattle.sp_parse.specs.Productions.{Production}

-- a token lies in the text, and a number is no greater than the greatest integer of the language
pub record TokenFits (text : List ℕ) (t : Token) : Type 0 where
  pub order : t.from ≤ t.to
  pub within : t.to ≤ length text
  pub number : t.kind ≡ kind.Number → number_of text t ≤ 9223372036854775807

-- so do all of them
abbrev pub TokensFit : List ℕ → List Token → Type 0
TokensFit text [] = Unit {0}
TokensFit text (t ∷ ts) = TokenFits text t × TokensFit text ts

-- The tokens are some of the text, whose end is known.
pub record HasTokens (source : Source) (ts : List Token) : Type 0 where
  pub end : source.end ≡ place_at source.text.now (length source.text.now)
  pub fit : TokensFit source.text.now ts

-- a part lies inside fewer parts than the limit, whatever its tokens
abbrev pub IsNestable : ℕ → List Token → Type 0
IsNestable d ts = d < nesting

-- the rule that is broken where the machine gets stuck, if it does
abbrev pub refused_by : List ℕ → RunEnd → Option Refusal
refused_by text Done = None
refused_by text (StuckAt w ts) = Some (refusal_of text w ts)

-- the rule that is broken where the machine gets stuck on these tokens with this stack; it opens by name alone, since
-- proofs go by what the symbols do and seldom by a run
unfoldable pub breaks : Source → List Token → List Symbol → Option Refusal
breaks source ts stack = refused_by source.text.now (run (Some nesting) ts stack)

-- The rule that is broken in the end, with these symbols pending: the one by which the reading failed, else the one
-- that the machine finds in the tokens that are left. If memory was refused, nothing is said.
abbrev pub EndsBy : Source → Option Halt → List Token → List Symbol → Option Refusal → Type 0
EndsBy source None ts q r = breaks source ts q ≡ r
EndsBy source (Some halt.Memory) ts q r = ⊥
EndsBy source (Some (halt.Refused f)) ts q r = Some f ≡ r

abbrev pub Ends : Source → Tokens → List Symbol → Option Refusal → Type 0
Ends source tokens q r = EndsBy source tokens.failed tokens.rest.now q r

-- Some symbols are read up to these, which are pending. Unless the reading failed, what completes the pending ones
-- completes the whole, and the machine agrees in either case, whatever is pending behind them.
pub record Pending {V : Type 0} (source : Source) (l : List Symbol) (of : Values l → V) (p : List Symbol)
    (gives : Values p → V) (old new : Tokens) : Type 0 where
  pub derives : new.failed ≡ None → (old.failed ≡ None) × ((r : List Token) (vs : Values p)
      → DerivesAll source.text.now IsNestable p new.rest.now r vs → (ws : Values l)
      × DerivesAll source.text.now IsNestable l old.rest.now r ws × (gives vs ≡ of ws))
  pub leads : (q : List Symbol) (r : Option Refusal) → Ends source new (p ++ q) r → Ends source old (l ++ q) r
  pub shorter : length new.rest.now ≤ length old.rest.now
  pub ready : HasTokens source new.rest.now

-- a production is read, and the answer stands for what it makes
abbrev pub Parses : {X V : Type 0} → Source → Production V → (X → V) → Tokens → Tokens → X → Type 0
Parses source p plain old new x = Pending source p.symbols p.makes [] (λ _. plain x) old new

-- the first symbols of a production are read, and this one is pending
abbrev pub ParsesSoFar : {X V : Type 0} → Source → Production V → (s : Symbol) → (X → Value s → V) → Tokens → Tokens → X
    → Type 0
ParsesSoFar source p s gives old new x = Pending source p.symbols p.makes (s ∷ []) (λ vs. gives x vs.0) old new

-- a token of no kind, which stands for the first one where none is left
abbrev pub no_kind : Kind
no_kind = kind.Sign 255

-- The first token is looked at. If none is left, the reading fails, as it does for any symbol.
pub record Looks (source : Source) (old new : Tokens) (t : Token) : Type 0 where
  pub same : new.failed ≡ None → (old.failed ≡ None) × (new.rest.now ≡ old.rest.now)
      × ((u : List Token) × (new.rest.now ≡ t ∷ u))
  pub leads : (s : Symbol) (q : List Symbol) (r : Option Refusal) → Ends source new (s ∷ q) r
      → Ends source old (s ∷ q) r
  pub some : 1 ≤ length new.rest.now → (new.failed ≡ old.failed) × (new.rest.now ≡ old.rest.now)
      × ((u : List Token) × (new.rest.now ≡ t ∷ u))
  pub none : length new.rest.now < 1 → t.kind ≡ no_kind
  pub fits : TokenFits source.text.now t
  pub shorter : length new.rest.now ≤ length old.rest.now
  pub ready : HasTokens source new.rest.now

-- the tokens behind the first one
abbrev pub behind : List Token → List Token
behind [] = []
behind (t ∷ ts) = ts

-- The first token is passed, if there is one.
pub record Skips (source : Source) (old new : Tokens) : Type 0 where
  pub failed : new.failed ≡ old.failed
  pub rest : new.rest.now ≡ behind old.rest.now
  pub shorter : length new.rest.now ≤ length old.rest.now
  pub ready : HasTokens source new.rest.now

-- why a reading failed first
abbrev pub first_failure : Option Halt → Halt → Option Halt
first_failure None why = Some why
first_failure (Some e) why = Some e

-- The reading fails for this reason, unless it has failed before.
pub record Fails (source : Source) (why : Halt) (old new : Tokens) : Type 0 where
  pub failed : new.failed ≡ first_failure old.failed why
  pub none : new.rest.now ≡ []
  pub shorter : length new.rest.now ≤ length old.rest.now
  pub ready : HasTokens source new.rest.now

-- A token is passed.
pub record Takes (source : Source) (t : Token) (old new : Tokens) : Type 0 where
  pub failed : new.failed ≡ old.failed
  pub all : old.rest.now ≡ t ∷ new.rest.now
  pub less : length new.rest.now < length old.rest.now
  pub ready : HasTokens source new.rest.now

-- Another token stands first, or the reading failed.
pub record Differs (source : Source) (k : Kind) (old new : Tokens) : Type 0 where
  pub token : Token
  pub looks : Looks source old new token
  pub differs : new.failed ≡ None → kind_is k token.kind ≡ false

-- whether a token of this kind stood first, which is passed then
abbrev pub Passes : Source → Kind → Tokens → Tokens → Bool → Type 0
Passes source k old new true = (t : Token) × (t.kind ≡ k) × Takes source t old new
Passes source k old new false = Differs source k old new

-- A token of this kind is passed, or the reading fails.
pub record Expects (source : Source) (k : Kind) (old new : Tokens) (t : Token) : Type 0 where
  pub ends : new.failed ≡ None → (old.failed ≡ None) × (t.kind ≡ k) × (old.rest.now ≡ t ∷ new.rest.now)
  pub leads : (q : List Symbol) (r : Option Refusal) → Ends source new q r → Ends source old (AToken k ∷ q) r
  pub fits : TokenFits source.text.now t
  pub shorter : length new.rest.now ≤ length old.rest.now
  pub less : 1 ≤ length new.rest.now → length new.rest.now < length old.rest.now
  pub ready : HasTokens source new.rest.now

-- A list ends with this token, since another one does not stand first; or the reading fails.
pub record Closes (source : Source) (separator end : Kind) (old new : Tokens) : Type 0 where
  pub differs : Tokens
  pub passes : Differs source separator old differs
  pub token : Token
  pub expects : Expects source end differs new token

-- whether a list goes on, by the token that stands between its items, or ends
abbrev pub GoesOn : Source → Kind → Kind → Tokens → Tokens → Bool → Type 0
GoesOn source k end old new true = (t : Token) × (t.kind ≡ k) × Takes source t old new
GoesOn source k end old new false = Closes source k end old new

-- Nothing is read, and this holds; or the reading failed.
pub record Keeps (source : Source) (P : Type 0) (old new : Tokens) : Type 0 where
  pub holds : new.failed ≡ None → (old.failed ≡ None) × (new.rest.now ≡ old.rest.now) × P
  pub leads : (q : List Symbol) (r : Option Refusal) → Ends source new q r → Ends source old q r
  pub shorter : length new.rest.now ≤ length old.rest.now
  pub ready : HasTokens source new.rest.now

-- No token is left behind a program; or the reading failed, and why is what the machine says.
pub record Finishes (source : Source) (old new : Tokens) : Type 0 where
  pub done : new.failed ≡ None → (old.failed ≡ None) × (old.rest.now ≡ [])
  pub leads : (f : Refusal) → new.failed ≡ Some (halt.Refused f) → Ends source old [] (Some f)
