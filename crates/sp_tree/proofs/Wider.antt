-- What holds of all parts may be weakened, and a prefix of what is viable is viable.
use Rattle.std.proofs.Common.{ℕ, List, [], ◌++◌, length, subst, append_assoc, length-append, arith, Option, Some, None}
use Rattle.sp_tree.specs.declared.token.Token.{Token}
use Rattle.sp_tree.specs.PlainSyntax.{Program}
use Rattle.sp_tree.specs.Grammar.{IsProgram}
use Rattle.sp_tree.specs.Viable.{Any, Shallow, Spells, IsViable, IsShallow}
use Rattle.sp_tree.specs.Symbols.{Symbol, Value, Values, part}
use Rattle.sp_tree.specs.Derives.{PartMayBegin, Derives, takes, skips, DerivesAll, none, and}
use Rattle.sp_tree.proofs.FromTable.{from}
use Rattle.sp_tree.proofs.ToTable.{program}

module _ (text : List ℕ) (Ok More : ℕ → List Token → Type 0)
    (more : (d : ℕ) (ts : List Token) → Ok d ts → More d ts) where
  may_begin : (p : Option ℕ) (ts : List Token) → PartMayBegin Ok p ts → PartMayBegin More p ts
  may_begin None ts h = h
  may_begin (Some d) ts h = more d ts h

  mutual
    pub wider : {s : Symbol} {ts r : List Token} {v : Value s} → Derives text Ok s ts r v → Derives text More s ts r v
    wider {s} (takes t e q o x) = takes t e q (may_begin (part s) _ o) (wider_all x)
    wider (skips t q h) = skips t q h

    wider_all : {l : List Symbol} {ts r : List Token} {vs : Values l} → DerivesAll text Ok l ts r vs
        → DerivesAll text More l ts r vs
    wider_all none = none
    wider_all (and x xs) = and (wider x) (wider_all xs)

  pub wider_program : {ts r : List Token} {p : Program} → IsProgram text Ok ts r p → IsProgram text More ts r p
  wider_program x = from text More (wider (program text Ok x))

module _ (text : List ℕ) where
  pub viable_prefix : (front mid : List Token) → IsViable text (front ++ mid) → IsViable text front
  viable_prefix front mid (rest, p, x) = (mid ++ rest, p, subst (λ l. Spells text l p) (append_assoc front mid rest) x)

  pub shallow_prefix : (limit : ℕ) (front mid : List Token) → IsShallow text limit (front ++ mid)
      → IsShallow text limit front
  shallow_prefix limit front mid (rest, p, x) = (
    mid ++ rest,
    p,
    wider_program text (Shallow limit (length rest)) (Shallow limit (length (mid ++ rest)))
        (λ d ts h g. h (omega (arith, length-append mid rest, g)))
        (subst (λ l. IsProgram text (Shallow limit (length rest)) l [] p) (append_assoc front mid rest) x),
  )

  pub shallow_viable : (limit : ℕ) (ts : List Token) → IsShallow text limit ts → IsViable text ts
  shallow_viable limit ts (rest, p, x) = (
    rest,
    p,
    wider_program text (Shallow limit (length rest)) Any (λ d ts h. tt) x,
  )
