-- Single steps of the machine, and what a part that is read says of it.
use Rattle.std.proofs.Common.{◌≡◌, ℕ, ◌<◌, ◌≤◌, Bool, true, false, cond, List, [], ◌∷◌, ◌++◌, length, Some}
use Rattle.std.proofs.Common.{None, ◌⊎◌, inl, inr, refl, sym as back_of, ap, ◌∙◌, arith, eq-eqb}
use Rattle.std.proofs.lemmas.Bool.Decides.{nat_tests}
use Rattle.sp_base.specs.declared.rule.Rule.TheVariants as rule
use Rattle.sp_tree.specs.declared.token.Token.{Token}
use Rattle.sp_tree.specs.declared.token.Kind.{Kind}
use Rattle.sp_tree.specs.declared.token.Kind.TheVariants as kind
use Rattle.sp_tree.specs.Places.{place_at}
use Rattle.sp_tree.specs.Breaches.{nesting}
use Rattle.sp_tree.specs.Symbols.{Symbol, Value, Values, part, AToken}
use Rattle.sp_tree.specs.Table.{RowEntry, Row, row_entry, rows, look, gap, build, kind_is, token}
use Rattle.sp_tree.specs.SymbolMachine.{Why, Bad, Deep, Take, Skip, Fail, allows, skips_if, acts, act, RunEnd, StuckAt}
use Rattle.sp_tree.specs.SymbolMachine.{run}
use Rattle.sp_tree.specs.Derives.{PartMayBegin as MayBegin, Derives, takes, skips, DerivesAll, none, and}
use Rattle.sp_tree.proofs.MachineRuns.{at_act, act_takes, act_skips, leads_all}
use Rattle.sp_tree.proofs.FromTable.{kind_is-true}
use Rattle.sp_parse.specs.declared.source.Source.{Source}
use Rattle.sp_parse.specs.Reads.{IsNestable, breaks, refused_by}

-- a part inside fewer than 200 others is allowed
pub below : (a b : ℕ) → a < b → (allows (Some b) (Some a) ≡ true)
below a b h = grind (arith, nat_tests)

pub above : (a b : ℕ) → b ≤ a → (allows (Some b) (Some a) ≡ false)
above a b h = grind (arith, nat_tests)

reaches : (d : ℕ) (ts : List Token) → IsNestable d ts → (allows (Some nesting) (Some d) ≡ true) ⊎ (length ts < 0)
reaches d ts h = inl (below d nesting h)

same_end : (x y : RunEnd) → (x ≡ y) ⊎ ((w : Why) × (us : List Token) × (length us < 0) × (x ≡ StuckAt w us)) → x ≡ y
same_end x y (inl p) = p
same_end x y (inr (w, us, h, p)) = absurd (omega (arith, h))

-- the machine follows what is derived
pub follows : (source : Source) {l : List Symbol} {ts r : List Token} {vs : Values l}
    → DerivesAll source.text.now IsNestable l ts r vs → (q : List Symbol) → breaks source ts (l ++ q)
    ≡ breaks source r q
unfolding breaks
follows source {l} {ts} {r} d q = ap (refused_by source.text.now)
    (same_end (run (Some nesting) ts (l ++ q)) (run (Some nesting) r q)
    (leads_all source.text.now IsNestable (Some nesting) 0 reaches d q).proof)

mutual
  shorter_one : {text : List ℕ} {s : Symbol} {ts r : List Token} {v : Value s} → Derives text IsNestable s ts r v
      → length r ≤ length ts
  shorter_one (takes t e h o x) = omega (arith, shorter_all x)
  shorter_one (skips t h g) = omega arith

  shorter_all : {text : List ℕ} {l : List Symbol} {ts r : List Token} {vs : Values l}
      → DerivesAll text IsNestable l ts r vs
      → length r ≤ length ts
  shorter_all none = omega arith
  shorter_all (and x xs) = omega (arith, shorter_one x, shorter_all xs)

-- a symbol takes this token by this row
pub take : {text : List ℕ} {s : Symbol} (e : RowEntry (Row s)) → look (rows s) e.key ≡ Some e → (t : Token)
    → t.kind ≡ e.key → {ts r : List Token} {vs : Values e.left} → MayBegin IsNestable (part s) (t ∷ ts)
    → DerivesAll text IsNestable e.left ts r vs → Derives text IsNestable s (t ∷ ts) r (build text e.row t vs)
take {s = s} e h t p o x = takes t e (ap (look (rows s)) p ∙ h) o x

-- the steps of the machine
pub step_takes : (source : Source) (s : Symbol) (t : Token) (ts : List Token) (e : RowEntry (Row s))
    → look (rows s) t.kind ≡ Some e → allows (Some nesting) (part s) ≡ true → (q : List Symbol)
    → breaks source (t ∷ ts) (s ∷ q) ≡ breaks source ts (e.left ++ q)
unfolding breaks
step_takes source s t ts e h b q = ap (refused_by source.text.now)
    (at_act (Some nesting) s t ts q (Take e.left) (act_takes (Some nesting) s t e true h b))

pub step_skips : (source : Source) (s : Symbol) (t : Token) (ts : List Token) (v : Value s)
    → look (rows s) t.kind ≡ None → gap s t ≡ Some v → (q : List Symbol)
    → breaks source (t ∷ ts) (s ∷ q) ≡ breaks source (t ∷ ts) q
unfolding breaks
step_skips source s t ts v h g q = ap (refused_by source.text.now)
    (at_act (Some nesting) s t ts q Skip (act_skips (Some nesting) s t v h g))

act_fails : (s : Symbol) (t : Token) → look (rows s) t.kind ≡ None → gap s t ≡ None → act (Some nesting) s t ≡ Fail Bad
act_fails s t h g = ap (λ o. acts (allows (Some nesting) (part s)) o (gap s t)) h ∙ ap skips_if g

pub step_fails : (source : Source) (s : Symbol) (t : Token) (ts : List Token) → look (rows s) t.kind ≡ None
    → gap s t ≡ None → (q : List Symbol) → breaks source (t ∷ ts) (s ∷ q) ≡ Some (record { rule = rule.G1; at = t.at })
unfolding breaks
step_fails source s t ts h g q = ap (refused_by source.text.now)
    (at_act (Some nesting) s t ts q (Fail Bad) (act_fails s t h g))

pub step_deep : (source : Source) (s : Symbol) (t : Token) (ts : List Token) (e : RowEntry (Row s))
    → look (rows s) t.kind ≡ Some e → allows (Some nesting) (part s) ≡ false → (q : List Symbol)
    → breaks source (t ∷ ts) (s ∷ q) ≡ Some (record { rule = rule.L2; at = t.at })
unfolding breaks
step_deep source s t ts e h b q = ap (refused_by source.text.now)
    (at_act (Some nesting) s t ts q (Fail Deep) (act_takes (Some nesting) s t e false h b))

pub step_ends : (source : Source) (s : Symbol) (q : List Symbol)
    → breaks source [] (s ∷ q) ≡ Some (record
    { rule = rule.G2; at = place_at source.text.now (length source.text.now) })
unfolding breaks
step_ends source s q = refl

pub kind_is-same : (k : Kind) → kind_is k k ≡ true
kind_is-same kind.Name = refl
kind_is-same kind.Number = refl
kind_is-same kind.Text = refl
kind_is-same (kind.Word a) = eq-eqb a a refl
kind_is-same (kind.Sign a) = eq-eqb a a refl

pub kind_is-other : (a b : Kind) (x : Bool) → kind_is a b ≡ x → (b ≡ a → ⊥) → kind_is a b ≡ false
kind_is-other a b true h n = absurd (n (back_of (kind_is-true a b h)))
kind_is-other a b false h n = h

-- one token
pub look_token : (k j : Kind) (b : Bool) → kind_is k j ≡ b
    → look (rows (AToken k)) j ≡ cond b (Some (row_entry k [] token)) None
look_token k j b h = ap (λ b. cond b (Some (row_entry k [] token)) None) h
