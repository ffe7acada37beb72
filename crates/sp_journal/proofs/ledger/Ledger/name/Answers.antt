use Rattle.std.proofs.Common.{◌≡◌, ◌++◌, ◌∷◌, [], List, sym, ap, ◌∙◌, arith, append_assoc, reverse}
use Rattle.std.proofs.lemmas.List.{reverse-append}
use Rattle.sp_base.specs.declared.name.Pair.{Pair}
use Rattle.sp_journal.specs.Births.{births}
use Rattle.sp_journal.specs.Names.{Name, pairs_of}
use Rattle.sp_journal.proofs.BirthLaws.{lawful, parent_older, name_by_birth, name_of_root}
use Rattle.sp_journal.proofs.ledger.Ledger.name.Goals as goal

pub loop-birth-smaller : goal.loop-birth-smaller
loop-birth-smaller c =
    parent_older (births c.args.self.now.journal.entries) (lawful _ c.requires.ledger.nameable) c.loop-birth.at
    c.loop-birth.invariant.0 c.in-Some.birth c.in-Some.ensures

one_before : (xs ys zs : List Pair) (p q : Name) (a : Pair) → pairs_of p ≡ pairs_of q ++ a ∷ []
    → xs ≡ pairs_of p ++ reverse ys → zs ≡ ys ++ a ∷ [] → xs ≡ pairs_of q ++ reverse zs
one_before xs ys zs p q a e f g =
    f ∙ ap (λ (x : List Pair). x ++ reverse ys) e ∙ append_assoc (pairs_of q) (a ∷ []) (reverse ys)
    ∙ ap (λ (x : List Pair). pairs_of q ++ x) (sym (reverse-append ys (a ∷ [])))
    ∙ ap (λ (x : List Pair). pairs_of q ++ reverse x) (sym g)

pub loop-birth-preserved : goal.loop-birth-preserved
loop-birth-preserved c =
    let s = births c.args.self.now.journal.entries in
    let o = parent_older s (lawful _ c.requires.ledger.nameable) c.loop-birth.at c.loop-birth.invariant.0
    c.in-Some.birth c.in-Some.ensures in
    let n = name_by_birth s (lawful _ c.requires.ledger.nameable) c.loop-birth.at c.loop-birth.invariant.0
    c.in-Some.birth c.in-Some.ensures in
    let l = c.loop-birth.invariant.0 in (
      omega arith,
      one_before _ c.loop-birth.pairs.items _ (s.name c.loop-birth.at) (s.name c.in-Some.birth.parent) _
          (ap pairs_of n) c.loop-birth.invariant.1 c.in_ok-push.ensures.items,
    )

pub returns : goal.returns
returns c =
    let s = births c.args.self.now.journal.entries in
    let n = name_of_root s (lawful _ c.requires.ledger.nameable) c.loop-birth.at c.loop-birth.invariant.0
    c.in_default.ensures in
    let e : c.of.result ≡ pairs_of (s.name c.args.process) = c.of.ensures ∙ c.reverse.ensures.items
    ∙ sym (c.loop-birth.invariant.1 ∙ ap (λ (x : Name). pairs_of x ++ reverse c.loop-birth.pairs.items) n) in
    λ i. record { pairs = e i }
