-- What the machine takes is in the grammar, and each stack can be completed.
use Rattle.std.proofs.Common.{◌≡◌, ℕ, suc, ◌≤◌, Bool, true, false, List, [], ◌∷◌, ◌++◌, length, Option, Some, None}
use Rattle.std.proofs.Common.{refl, sym as back_of, subst, length-append, arith}
use Rattle.sp_tree.specs.declared.token.Token.{Token}
use Rattle.sp_tree.specs.declared.token.Kind.{Kind}
use Rattle.sp_tree.specs.declared.token.Kind.TheVariants as kind
use Rattle.sp_tree.specs.Words as w
use Rattle.sp_tree.specs.Places.{start}
use Rattle.sp_tree.specs.Spelling.{name_of}
use Rattle.sp_tree.specs.PlainSyntax as tree
use Rattle.sp_tree.specs.Grammar as g
use Rattle.sp_tree.specs.Symbols.{Symbol, AToken, AName, AProgram, AHeading, MoreNames, AConstant, AValue, AType}
use Rattle.sp_tree.specs.Symbols.{MoreFields, FieldOrEnd, AFormal, MoreFormals, Formals, ABlock, Parts}
use Rattle.sp_tree.specs.Symbols.{MoreConstants, MoreTypes, MoreVariables, AStatement, AfterName, AnElse}
use Rattle.sp_tree.specs.Symbols.{MoreStatements, MoreBranches, MoreLabels, MoreArms, ArmOrEnd, ADirection}
use Rattle.sp_tree.specs.Symbols.{AnExpression, ARelation, ASimple, MoreTerms, ATerm, MoreFactors, AFactor, ANegated}
use Rattle.sp_tree.specs.Symbols.{AReference, Selectors, MoreIndices, MoreArguments, AWidth, Value, Values, part}
use Rattle.sp_tree.specs.Table.{RowEntry, Row, rows, look, gap}
use Rattle.sp_tree.specs.SymbolMachine.{allows, acts, next_of_act, NextStack, On, next_behind}
use Rattle.sp_tree.specs.Derives.{PartMayBegin}
use Rattle.sp_tree.specs.Means.{Means, MeansAll}
use Rattle.sp_tree.specs.Means as m
use Rattle.sp_tree.proofs.FromTable.{found, good, passed, AtGap}

-- the tokens of a symbol, whatever it stands for
abbrev pub TokensOf : List ℕ → (ℕ → List Token → Type 0) → Symbol → List Token → List Token → Type 0
TokensOf text Ok s ts r = (v : Value s) × Means text Ok s ts r v

-- the tokens of several, in order
pub data TokensOfAll (text : List ℕ) (Ok : ℕ → List Token → Type 0) : List Symbol → List Token → List Token
    → Type 0 where
  none : {r : List Token} → TokensOfAll text Ok [] r r
  and : {s : Symbol} {l : List Symbol} {ts u r : List Token} → TokensOf text Ok s ts u → TokensOfAll text Ok l u r
      → TokensOfAll text Ok (s ∷ l) ts r

-- where Ok holds of each part that the machine lets begin
module _ (text : List ℕ) (Ok : ℕ → List Token → Type 0) (reach : Option ℕ)
    (fits : (d : ℕ) (t : Token) (ts : List Token) → allows reach (Some d) ≡ true → Ok d (t ∷ ts)) where
  split_goes : (l l' : List Symbol) (ts r : List Token) → TokensOfAll text Ok (l ++ l') ts r → (u : List Token)
      × TokensOfAll text Ok l ts u × TokensOfAll text Ok l' u r
  split_goes [] l' ts r h = (_, none, h)
  split_goes (s ∷ l) l' ts r (and x h) = let i = split_goes l l' _ r h in (i.0, and x i.1, i.2)

  valued : {l : List Symbol} {ts r : List Token} → TokensOfAll text Ok l ts r → (vs : Values l)
      × MeansAll text Ok l ts r vs
  valued none = (tt, m.none)
  valued (and x h) = let i = valued h in ((x.0, i.0), m.and x.1 i.1)

  begins : (p : Option ℕ) (t : Token) (ts : List Token) → allows reach p ≡ true → PartMayBegin Ok p (t ∷ ts)
  begins None t ts h = tt
  begins (Some d) t ts h = fits d t ts h

  gap_goes : (s : Symbol) (t : Token) (r : List Token) (v : Value s) → look (rows s) t.kind ≡ None → gap s t ≡ Some v
      → TokensOf text Ok s (t ∷ r) (t ∷ r)
  gap_goes s t r v q e = (v, subst (AtGap text Ok (Means text Ok s (t ∷ r) (t ∷ r))) e (passed text Ok s t r q))

  back_by : (s : Symbol) (stack : List Symbol) (t : Token) (stack' : List Symbol) (ts r : List Token)
      (o : Option (RowEntry (Row s))) (b : Bool) (v : Option (Value s)) (n : NextStack) → look (rows s) t.kind ≡ o
      → allows reach (part s) ≡ b → gap s t ≡ v → next_of_act (acts b o v) stack n ≡ On stack'
      → (n ≡ On stack' → TokensOfAll text Ok stack (t ∷ ts) r) → TokensOfAll text Ok stack' ts r
      → TokensOfAll text Ok (s ∷ stack) (t ∷ ts) r
  back_by s stack t stack' ts r (Some e) true v n q p i h go a =
      let same : e.left ++ stack ≡ stack' = cc in
      let x = split_goes e.left stack ts r (subst (λ k. TokensOfAll text Ok k ts r) (back_of same) a) in
      let y = valued x.1 in
      and (_, good text Ok e.row t (found (rows s) t.kind e q) (begins (part s) t ts p) y.1) x.2
  back_by s stack t stack' ts r (Some e) false v n q p i h go a = absurd cc
  back_by s stack t stack' ts r None b (Some v) n q p i h go a = and (gap_goes s t _ v q i) (go h)
  back_by s stack t stack' ts r None b None n q p i h go a = absurd cc

  -- a token that the machine takes
  pub back : (stack : List Symbol) (t : Token) (stack' : List Symbol) → next_behind reach stack t ≡ On stack'
      → (ts r : List Token) → TokensOfAll text Ok stack' ts r → TokensOfAll text Ok stack (t ∷ ts) r
  back [] t stack' e ts r h = absurd cc
  back (s ∷ stack) t stack' e ts r h = back_by s stack t stack' ts r (look (rows s) t.kind) (allows reach (part s))
      (gap s t) (next_behind reach stack t) refl refl refl e (λ q. back stack t stack' q ts r h) h

-- each stack can be completed
abbrev tok : Kind → Token
tok k = record { kind = k; from = 0; to = 0; at = start }

abbrev empty_body : List Token
empty_body = tok w.Begin ∷ tok w.End ∷ []

-- the tokens that complete a symbol
abbrev finish : Symbol → List Token
finish (AToken k) = tok k ∷ []
finish AName = tok kind.Name ∷ []
finish AProgram = tok w.Program ∷ tok kind.Name ∷ tok w.Semicolon ∷ tok w.Begin ∷ tok w.End ∷ tok w.Dot ∷ []
finish AConstant = tok kind.Number ∷ []
finish AValue = tok kind.Number ∷ []
finish AType = tok kind.Name ∷ []
finish MoreFields = tok w.End ∷ []
finish FieldOrEnd = tok w.End ∷ []
finish AFormal = tok kind.Name ∷ tok w.Colon ∷ tok kind.Name ∷ []
finish MoreFormals = tok w.Close ∷ []
finish (ABlock d) = empty_body
finish (Parts d) = empty_body
finish (MoreConstants d) = empty_body
finish (MoreTypes d) = empty_body
finish (MoreVariables d) = empty_body
finish (AStatement d) = empty_body
finish (AnElse d) = tok w.Else ∷ empty_body
finish (MoreBranches d) = tok w.End ∷ []
finish MoreLabels = tok w.Colon ∷ []
finish (MoreArms d) = tok w.End ∷ []
finish (ArmOrEnd d) = tok w.End ∷ []
finish ADirection = tok w.To ∷ []
finish (AnExpression d) = tok kind.Number ∷ []
finish (ASimple d) = tok kind.Number ∷ []
finish (ATerm d) = tok kind.Number ∷ []
finish (AFactor d) = tok kind.Number ∷ []
finish (ANegated d) = tok kind.Number ∷ []
finish (MoreIndices d) = tok w.CloseIndex ∷ []
finish (MoreArguments d) = tok w.Close ∷ []
finish s = []

abbrev pub finish_all : List Symbol → List Token
finish_all [] = []
finish_all (s ∷ stack) = finish s ++ finish_all stack

module _ (text : List ℕ) (Ok : ℕ → List Token → Type 0) where
  is : (k : Kind) {r : List Token} → g.Is k (tok k ∷ r) r
  is k = g.it_is (tok k) refl

  named : {r : List Token} → g.IsName text (tok kind.Name ∷ r) r (name_of text (tok kind.Name))
  named = g.name (tok kind.Name) refl

  body : (d : ℕ) (r : List Token) → (b : tree.Block) × g.IsParts text Ok d (tok w.Begin ∷ tok w.End ∷ r) r b
  body d r = (_, g.body (g.compound (is w.Begin) (g.sequence (g.empty (tok w.End)) g.statements_end) (is w.End)))

  statement : (d : ℕ) (r : List Token) → Ok d (tok w.Begin ∷ tok w.End ∷ r)
      → TokensOf text Ok (AStatement d) (tok w.Begin ∷ tok w.End ∷ r) r
  statement d r ok = (
    _,
    g.statement (tok w.Begin) ok
        (g.compound_form (g.compound (is w.Begin) (g.sequence (g.empty (tok w.End)) g.statements_end) (is w.End))),
  )

  -- where Ok holds of each part that begins in the completion
  completed : (s : Symbol) (r : List Token) → ((d : ℕ) (us : List Token) → length us ≤ length (finish s ++ r) → Ok d us)
      → TokensOf text Ok s (finish s ++ r) r
  completed (AToken k) r ok = (tt, is k)
  completed AName r ok = (_, named)
  completed AProgram r ok = (
    _,
    g.program (is w.Program) named g.no_heading (is w.Semicolon)
        (g.block (ok 0 _ (omega arith)) (body 1 _).1) (is w.Dot),
  )
  completed AHeading r ok = (_, g.no_heading)
  completed MoreNames r ok = (_, g.names_end)
  completed AConstant r ok = (_, g.unsigned (g.number_value (tok kind.Number) refl))
  completed AValue r ok = (_, g.number_value (tok kind.Number) refl)
  completed AType r ok = (_, g.alias named)
  completed MoreFields r ok = (_, g.fields_end (is w.End))
  completed FieldOrEnd r ok = (_, λ us i. g.last_field i (is w.End))
  completed AFormal r ok = (_, g.by_value (g.group (g.names named g.names_end) (is w.Colon) named))
  completed MoreFormals r ok = (_, g.formals_end (is w.Close))
  completed Formals r ok = (_, g.no_formals)
  completed (ABlock d) r ok = (_, g.block (ok d _ (omega arith)) (body (suc d) r).1)
  completed (Parts d) r ok = body d r
  completed (MoreConstants d) r ok = (_, g.constants_end (body d r).1)
  completed (MoreTypes d) r ok = (_, g.types_end (body d r).1)
  completed (MoreVariables d) r ok = (_, g.variables_end (body d r).1)
  completed (AStatement d) r ok = statement d r (ok d _ (omega arith))
  completed (AfterName d) r ok = (λ n. tree.Call n tree.NoArgument, λ us n i. g.plain_call i)
  completed (AnElse d) r ok = (_, g.other (is w.Else) (statement d r (ok d _ (omega arith))).1)
  completed (MoreStatements d) r ok = (_, g.statements_end)
  completed (MoreBranches d) r ok = (_, g.branches_end (is w.End))
  completed MoreLabels r ok = (_, g.labels_end (is w.Colon))
  completed (MoreArms d) r ok = (_, g.arms_end (is w.End))
  completed (ArmOrEnd d) r ok = (_, λ us i. g.last_arm i (is w.End))
  completed ADirection r ok = (_, g.upward (is w.To))
  completed (AnExpression d) r ok = (
    _,
    g.expression (ok d _ (omega arith))
        (g.simple (g.term (g.number (tok kind.Number) refl) g.factors_end) g.terms_end) g.no_relation,
  )
  completed (ARelation d) r ok = (λ a. a, λ a. g.no_relation)
  completed (ASimple d) r ok = (_, g.simple (g.term (g.number (tok kind.Number) refl) g.factors_end) g.terms_end)
  completed (MoreTerms d) r ok = (λ a. a, λ a. g.terms_end)
  completed (ATerm d) r ok = (_, g.term (g.number (tok kind.Number) refl) g.factors_end)
  completed (MoreFactors d) r ok = (λ a. a, λ a. g.factors_end)
  completed (AFactor d) r ok = (_, g.number (tok kind.Number) refl)
  completed (ANegated d) r ok = (_, (ok d _ (omega arith), g.number (tok kind.Number) refl))
  completed (AReference d) r ok = (
    λ n. tree.Read (tree.Entire n tree.Whole),
    λ t us n i. g.variable_factor (g.variable i g.selectors_end),
  )
  completed (Selectors d) r ok = (_, g.selectors_end)
  completed (MoreIndices d) r ok = (_, g.indices_end (is w.CloseIndex) g.selectors_end)
  completed (MoreArguments d) r ok = (_, g.arguments_end (is w.Close))
  completed (AWidth d) r ok = (_, g.no_width)

  pub complete : (stack : List Symbol) → ((d : ℕ) (us : List Token) → length us ≤ length (finish_all stack) → Ok d us)
      → TokensOfAll text Ok stack (finish_all stack) []
  complete [] ok = none
  complete (s ∷ stack) ok = and (completed s (finish_all stack) ok)
      (complete stack (λ d us h. ok d us (omega (arith, length-append (finish s) (finish_all stack)))))
