-- The machine follows what each symbol derives by the table.
use Rattle.std.proofs.Common.{◌≡◌, ℕ, ◌<◌, Bool, true, false, List, ◌∷◌, ◌++◌, length, Option, Some, None, ◌⊎◌, inl}
use Rattle.std.proofs.Common.{inr, refl, ap, ◌∙◌}
use Rattle.sp_tree.specs.declared.token.Token.{Token}
use Rattle.sp_tree.specs.Symbols.{Symbol, Value, Values, part}
use Rattle.sp_tree.specs.Table.{RowEntry, Row, rows, look, gap}
use Rattle.sp_tree.specs.SymbolMachine.{Why, Deep, Act, Take, Skip, Fail, allows, takes_if, skips_if, acts, act}
use Rattle.sp_tree.specs.SymbolMachine.{next_of_act}
use Rattle.sp_tree.specs.SymbolMachine.{next_behind, end_from, RunEnd, StuckAt, run, RunContinues}
use Rattle.sp_tree.specs.Derives.{PartMayBegin, Derives, takes, skips, DerivesAll, none, and}

-- what is no part may begin anywhere
pub allows_none : (reach : Option ℕ) → allows reach None ≡ true
allows_none None = refl
allows_none (Some limit) = refl

-- one step
pub at_act : (reach : Option ℕ) (s : Symbol) (t : Token) (ts : List Token) (q : List Symbol) (a : Act)
    → act reach s t ≡ a → run reach (t ∷ ts) (s ∷ q) ≡ end_from (next_of_act a q (next_behind reach q t)) (t ∷ ts)
    (run reach ts)
at_act reach s t ts q a e = ap (λ a. end_from (next_of_act a q (next_behind reach q t)) (t ∷ ts) (run reach ts)) e

pub act_takes : (reach : Option ℕ) (s : Symbol) (t : Token) (e : RowEntry (Row s)) (b : Bool)
    → look (rows s) t.kind ≡ Some e → allows reach (part s) ≡ b → act reach s t ≡ takes_if b e.left
act_takes reach s t e b q p = ap (λ o. acts (allows reach (part s)) o (gap s t)) q ∙ ap (λ b. takes_if b e.left) p

pub act_skips : (reach : Option ℕ) (s : Symbol) (t : Token) (v : Value s) → look (rows s) t.kind ≡ None
    → gap s t ≡ Some v → act reach s t ≡ Skip
act_skips reach s t v q p = ap (λ o. acts (allows reach (part s)) o (gap s t)) q ∙ ap skips_if p

module _ (text : List ℕ) (Ok : ℕ → List Token → Type 0) (reach : Option ℕ) (k : ℕ)
    (reaches : (d : ℕ) (ts : List Token) → Ok d ts → (allows reach (Some d) ≡ true) ⊎ (length ts < k)) where
  abbrev L : List Token → List Symbol → List Token → List Symbol → Type 0
  L ts j r l = RunContinues reach k ts j r l

  join : (x y z : RunEnd) → (x ≡ y) ⊎ ((w : Why) × (us : List Token) × (length us < k) × (x ≡ StuckAt w us)) → (y ≡ z)
      ⊎ ((w : Why) × (us : List Token) × (length us < k) × (y ≡ StuckAt w us)) → (x ≡ z)
      ⊎ ((w : Why) × (us : List Token) × (length us < k) × (x ≡ StuckAt w us))
  join x y z (inl p) (inl q) = inl (p ∙ q)
  join x y z (inl p) (inr (w, n, h, q)) = inr (w, n, h, p ∙ q)
  join x y z (inr p) q = inr p

  infixl 10 ◌⨾◌
  ◌⨾◌ : {a b c : List Token} {i j l : List Symbol} → L a i b j → L b j c l → L a i c l
  ◌⨾◌ {a} {b} {c} {i} {j} {l} p q = record {
    proof = join (run reach a i) (run reach b j)
        (run reach c l) p.proof q.proof;
  }

  may_begin : (p : Option ℕ) (ts : List Token) → PartMayBegin Ok p ts → (allows reach p ≡ true) ⊎ (length ts < k)
  may_begin None ts h = inl (allows_none reach)
  may_begin (Some d) ts h = reaches d ts h

  step : (s : Symbol) (t : Token) (ts : List Token) (q : List Symbol) (e : RowEntry (Row s))
      → look (rows s) t.kind ≡ Some e → (b : Bool) → allows reach (part s) ≡ b → (allows reach (part s) ≡ true)
      ⊎ (length (t ∷ ts) < k) → L (t ∷ ts) (s ∷ q) ts (e.left ++ q)
  step s t ts q e h true p o = record {
    proof =
        inl (at_act reach s t ts q (Take e.left) (act_takes reach s t e true h p));
  }
  step s t ts q e h false p (inl o) = absurd cc
  step s t ts q e h false p (inr o) = record {
    proof =
        inr (Deep, t ∷ ts, o, at_act reach s t ts q (Fail Deep) (act_takes reach s t e false h p));
  }

  mutual
    pub leads : {s : Symbol} {ts r : List Token} {v : Value s} → Derives text Ok s ts r v → (q : List Symbol)
        → L ts (s ∷ q) r q
    leads {s} (takes t e h g x) q = step s t _ q e h (allows reach (part s)) refl (may_begin (part s) _ g) ⨾ leads_all x
        q
    leads {s} (skips t {v} h g) q = record { proof = inl (at_act reach s t _ q Skip (act_skips reach s t v h g)) }

    pub leads_all : {l : List Symbol} {ts r : List Token} {vs : Values l} → DerivesAll text Ok l ts r vs
        → (q : List Symbol) → L ts (l ++ q) r q
    leads_all none q = record { proof = inl refl }
    leads_all {l = s ∷ l} (and x xs) q = leads x (l ++ q) ⨾ leads_all xs q
