-- A symbol takes at most one list of tokens, and stands for one thing.
use Rattle.std.proofs.Common.{◌≡◌, ℕ, List, ◌∷◌, refl, subst}
use Rattle.sp_base.proofs.Facts.{one_value, some_is_not_none}
use Rattle.sp_tree.specs.declared.token.Token.{Token}
use Rattle.sp_tree.specs.PlainSyntax.{Program}
use Rattle.sp_tree.specs.Viable.{Any, Spells}
use Rattle.sp_tree.proofs.ToTable.{program}
use Rattle.sp_tree.specs.Symbols.{Symbol, Value, Values}
use Rattle.sp_tree.specs.Table.{RowEntry, Row, rows, look, gap, build}
use Rattle.sp_tree.specs.Derives.{Derives, takes, skips, DerivesAll, none, and}

-- the same rest and the same value
pub data Both (X : Type 0) : List Token → X → List Token → X → Type 0 where
  both : {r : List Token} {x : X} → Both X r x r x

module _ (text : List ℕ) (Ok : ℕ → List Token → Type 0) where
  built : (s : Symbol) (t : Token) (e : RowEntry (Row s)) {r r' : List Token} {vs vs' : Values e.left}
      → Both (Values e.left) r vs r' vs' → Both (Value s) r (build text e.row t vs) r' (build text e.row t vs')
  built s t e both = both

  -- the rows are the same, and so is what they leave
  taken : (s : Symbol) (t : Token) (ts r r' : List Token) (e : RowEntry (Row s)) (vs : Values e.left)
      (e' : RowEntry (Row s))
      → e ≡ e' → (vs' : Values e'.left) → ((vs'' : Values e.left) → DerivesAll text Ok e.left ts r' vs''
      → Both (Values e.left) r vs r' vs'') → DerivesAll text Ok e'.left ts r' vs'
      → Both (Value s) r (build text e.row t vs) r' (build text e'.row t vs')
  taken s t ts r r' e vs e' q = subst (λ e'. (vs' : Values e'.left)
      → ((vs'' : Values e.left) → DerivesAll text Ok e.left ts r' vs'' → Both (Values e.left) r vs r' vs'')
      → DerivesAll text Ok e'.left ts r' vs' → Both (Value s) r (build text e.row t vs) r' (build text e'.row t vs')) q
      (λ vs' f a. built s t e (f vs' a))

  after_first : (s : Symbol) (l : List Symbol) (v : Value s) {r r' : List Token} {vs vs' : Values l}
      → Both (Values l) r vs r' vs' → Both (Values (s ∷ l)) r (v, vs) r' (v, vs')
  after_first s l v both = both

  pair : (s : Symbol) (l : List Symbol) {m m' r r' : List Token} {v v' : Value s} {vs vs' : Values l}
      → Both (Value s) m v m' v' → (DerivesAll text Ok l m r' vs' → Both (Values l) r vs r' vs')
      → DerivesAll text Ok l m' r' vs' → Both (Values (s ∷ l)) r (v, vs) r' (v', vs')
  pair s l {v = v} both f y = after_first s l v (f y)

  same_gap : (s : Symbol) (ts : List Token) (v v' : Value s) → v ≡ v' → Both (Value s) ts v ts v'
  same_gap s ts v v' q = subst (λ v'. Both (Value s) ts v ts v') q both

  mutual
    pub unique : {s : Symbol} {ts r r' : List Token} {v v' : Value s} → Derives text Ok s ts r v
        → Derives text Ok s ts r' v' → Both (Value s) r v r' v'
    unique {s} (takes t e q g a) (takes t' e' q' g' a') =
        taken s t _ _ _ e _ e' (one_value (look (rows s) t.kind) q q') _ (λ vs'' a''. unique_all a a'') a'
    unique {s} (takes t e q g a) (skips t' q' h') = some_is_not_none (look (rows s) t.kind) q q'
    unique {s} (skips t q h) (takes t' e' q' g' a') = some_is_not_none (look (rows s) t.kind) q' q
    unique {s} (skips t {v = v} q h) (skips t' {v = v'} q' h') = same_gap s _ v v' (one_value (gap s t) h h')

    pub unique_all : {l : List Symbol} {ts r r' : List Token} {vs vs' : Values l} → DerivesAll text Ok l ts r vs
        → DerivesAll text Ok l ts r' vs' → Both (Values l) r vs r' vs'
    unique_all none none = both
    unique_all {l = s ∷ l} (and x a) (and x' a') = pair s l (unique x x') (λ a'. unique_all a a') a'

-- what two have in common
pub same_value : {X : Type 0} {r : List Token} {x x' : X} {r' : List Token} → Both X r x r' x' → x ≡ x'
same_value both = refl

-- Tokens spell one program.
pub one_program : (text : List ℕ) (ts : List Token) (p q : Program) → Spells text ts p → Spells text ts q → p ≡ q
one_program text ts p q x y = same_value (unique text Any (program text Any x) (program text Any y))
