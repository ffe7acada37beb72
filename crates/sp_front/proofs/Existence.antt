-- Each text has a checked tree or a first broken rule.
use Rattle.std.proofs.Common.{◌≡◌, ℕ, List, Option, Some, None, Result, Ok, Err, ◌⊎◌, inl, inr, refl}
use Rattle.sp_base.specs.declared.halt.Refusal.{Refusal}
use Rattle.sp_tree.specs.declared.token.Token.{Token}
use Rattle.sp_tree.specs.PlainSyntax as s
use Rattle.sp_tree.specs.PlainNamed as n
use Rattle.sp_tree.specs.PlainChecked as c
use Rattle.sp_tree.specs.Plain as m
use Rattle.sp_tree.specs.Bare.{without_places}
use Rattle.sp_tree.specs.Scans.{IsTokens}
use Rattle.sp_tree.specs.Breaches.{IsTree, IsFirstBroken}
use Rattle.sp_tree.specs.NameFirst.{name_resolution}
use Rattle.sp_types.specs.TypeFirst.{types_outcome}
use Rattle.sp_scan.specs.Finds.{FirstBreachOf}
use Rattle.sp_front.specs.Checks.{HasNamedTree, IsChecked, IsProgramOf, FirstBrokenUpToTypes, AcceptedUpToTypes}

-- by characters and grammar
abbrev pub Begun : List ℕ → Type 0
Begun text = ((p : s.Program) × IsTree text p) ⊎ ((r : Refusal) × IsFirstBroken text r)

module _ (text : List ℕ) where
  abbrev pub Answered : Type 0
  Answered = ((p : c.Program) × IsChecked text p) ⊎ ((r : Refusal) × FirstBrokenUpToTypes text r)

  by_types : (named : n.Program) → HasNamedTree text named → (d : Result c.Program Refusal) → types_outcome named ≡ d
      → Answered
  by_types named h (Ok p) e = inl (p, (named, h, e))
  by_types named h (Err r) e = inr (r, inr (inr (named, h, e)))

  by_names : (tree : s.Program) → IsTree text tree → (d : Result n.Program Refusal) → name_resolution tree ≡ d
      → Answered
  by_names tree h (Ok named) e = by_types named (tree, h, e) (types_outcome named) refl
  by_names tree h (Err r) e = inr (r, inr (inl (tree, h, e)))

  by_grammar : Begun text → Answered
  by_grammar (inl (tree, h)) = by_names tree h (name_resolution tree) refl
  by_grammar (inr (r, h)) = inr (r, inl h)

  pub answered : ((text : List ℕ) (ts : List Token) → IsTokens text ts → Begun text) → (found : Option Refusal)
      → FirstBreachOf text found → Answered
  answered some None (ts, h) = by_grammar (some text ts h)
  answered some (Some r) h = inr (r, inl (inl h))

  pub program : Answered → AcceptedUpToTypes text → (p : m.Program) × IsProgramOf text p
  program (inl (tree, h)) k = (without_places tree, (tree, h, refl))
  program (inr (r, b)) k = absurd (k r b)
