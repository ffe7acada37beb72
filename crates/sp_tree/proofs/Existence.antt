-- Tokens that the machine takes whole spell a program; and the tokens of a text spell one and break no rule, or one
-- rule is the first that they break.
use Rattle.std.proofs.Common.{◌≡◌, ℕ, true, List, [], ◌∷◌, Option, Some, ◌⊎◌, inl, inr, refl}
use borrow.Author.Tests.{ltb-true}
use Rattle.sp_base.specs.declared.halt.Refusal.{Refusal}
use Rattle.sp_tree.specs.declared.token.Token.{Token}
use Rattle.sp_tree.specs.PlainSyntax.{Program}
use Rattle.sp_tree.specs.Grammar.{IsProgram}
use Rattle.sp_tree.specs.Viable.{Shallow}
use Rattle.sp_tree.specs.Scans.{IsTokens}
use Rattle.sp_tree.specs.Breaches.{nesting, IsFirstBroken, IsTree}
use Rattle.sp_tree.specs.Symbols.{Symbol, AProgram}
use Rattle.sp_tree.specs.SymbolMachine.{allows, NextStack, On, No, next_behind, end_from, RunEnd, Done, StuckAt, run}
use Rattle.sp_tree.specs.Stops.{refusal_of}
use Rattle.sp_tree.proofs.Completes.{TokensOfAll, none, and, back}
use Rattle.sp_tree.proofs.Firsts.{spells, none_broken, first_broken}

module _ (text : List ℕ) (Ok : ℕ → List Token → Type 0) (reach : Option ℕ)
    (fits : (d : ℕ) (t : Token) (ts : List Token) → allows reach (Some d) ≡ true → Ok d (t ∷ ts)) where
  accepts_by : (t : Token) (ts : List Token) (stack : List Symbol) (n : NextStack) → next_behind reach stack t ≡ n
      → end_from n (t ∷ ts) (run reach ts) ≡ Done
      → ((stack' : List Symbol) → run reach ts stack' ≡ Done → TokensOfAll text Ok stack' ts [])
      → TokensOfAll text Ok stack (t ∷ ts) []
  accepts_by t ts stack (On stack') e h go = back text Ok reach fits stack t stack' e ts [] (go stack' h)
  accepts_by t ts stack (No why) e h go = absurd cc

  accepts : (ts : List Token) (stack : List Symbol) → run reach ts stack ≡ Done → TokensOfAll text Ok stack ts []
  accepts [] [] e = none
  accepts [] (s ∷ stack) e = absurd cc
  accepts (t ∷ ts) stack e = accepts_by t ts stack (next_behind reach stack t) refl e (λ stack' h. accepts ts stack' h)

  whole : (ts : List Token) → TokensOfAll text Ok (AProgram ∷ []) ts [] → (p : Program) × IsProgram text Ok ts [] p
  whole ts (and p none) = p

  pub spelled : (ts : List Token) → run reach ts (AProgram ∷ []) ≡ Done → (p : Program) × IsProgram text Ok ts [] p
  spelled ts e = whole ts (accepts ts (AProgram ∷ []) e)

module _ (text : List ℕ) (ts : List Token) (are : IsTokens text ts) where
  fits : (d : ℕ) (t : Token) (us : List Token) → allows (Some nesting) (Some d) ≡ true → Shallow nesting 0 d (t ∷ us)
  fits d t us h = λ g. ltb-true d nesting h

  by : (e : RunEnd) → run (Some nesting) ts (AProgram ∷ []) ≡ e → ((p : Program) × IsTree text p)
      ⊎ ((r : Refusal) × IsFirstBroken text r)
  by Done q =
      let x = spelled text (Shallow nesting 0) (Some nesting) fits ts q in
      inl (
        x.0,
        record {
          tokens = ts;
          are_tokens = are;
          spells = spells text ts x.0 x.1;
          kept = none_broken text ts x.0 x.1;
        },
      )
  by (StuckAt w rest) q = inr (
    refusal_of text w rest,
    inr (
      ts,
      are,
      first_broken text ts are.scans (refusal_of text w rest)
          (record { why = w; rest = rest; proof = q; refusal_is = refl }),
    ),
  )

  pub tree_or_broken : ((p : Program) × IsTree text p) ⊎ ((r : Refusal) × IsFirstBroken text r)
  tree_or_broken = by (run (Some nesting) ts (AProgram ∷ [])) refl
