-- A program breaks no rule of interference, if its bodies have no sites but those at which a function may not stand.
use Rattle.std.proofs.Common.{◌≡◌, inl, inr, ℕ, List, [], ◌∷◌, Some, subst}
use Rattle.std.specs.Prelude.{slice_get}
use Rattle.sp_base.specs.declared.place.Place.{Place}
use Rattle.sp_base.specs.declared.rule.Rule.{Rule}
use Rattle.sp_base.specs.declared.rule.Rule.TheVariants as rule
use Rattle.sp_tree.specs.Bare.{without_places}
use Rattle.sp_tree.specs.Interferes.{Interferes, IsSite, SiteBreaks}
use Rattle.sp_tree.specs.PlainChecked as p
use Rattle.sp_tree.specs.Sites.{Site, SplitsAt, SpreadsAt, LoopsAt, CallsAt, StopsAt, statement_sites}
use Rattle.sp_tree.proofs.Unbroken.{BreaksNone}

abbrev pub OnlyStops : List Site → Type 0
OnlyStops [] = Unit {0}
OnlyStops (StopsAt here ∷ ss) = OnlyStops ss
OnlyStops (_ ∷ ss) = ⊥

module _ (c : p.Program) (calm : BreaksNone c)
    (stops : (b : ℕ) (k : p.Block) → slice_get c.blocks b ≡ Some k → OnlyStops (statement_sites k.body)) where
  module _ (r : Rule) (at : Place)
      (quiet : (here : Place) → SiteBreaks (without_places c) (StopsAt here) r at → ⊥) where
    no_site : (ss : List Site) → OnlyStops ss → (site : Site) → IsSite site ss → SiteBreaks (without_places c) site r at
        → ⊥
    no_site [] o site i x = i
    no_site (StopsAt here ∷ ss) o site (inl e) x =
        quiet here (subst (λ s. SiteBreaks (without_places c) s r at) e x)
    no_site (StopsAt here ∷ ss) o site (inr i) x = no_site ss o site i x
    no_site (SplitsAt parts ∷ ss) o site i x = o
    no_site (SpreadsAt here y s ∷ ss) o site i x = o
    no_site (LoopsAt y here s ∷ ss) o site i x = o
    no_site (CallsAt f here args ∷ ss) o site i x = o

    no_block : (b : ℕ) (k : p.Block) → slice_get c.blocks b ≡ Some k → (site : Site)
        → IsSite site (statement_sites k.body) → SiteBreaks (without_places c) site r at → ⊥
    no_block b k e site i x = no_site (statement_sites k.body) (stops b k e) site i x

  pub kept : (r : Rule) (at : Place) → Interferes c r at → ⊥
  kept rule.L1 at (b, k, e, site, i, x) = no_block rule.L1 at (λ here y. y) b k e site i x
  kept rule.S1 at (b, k, e, site, i, x) = no_block rule.S1 at (λ here y. y) b k e site i x
  kept rule.S2 at (b, k, e, site, i, x) = no_block rule.S2 at (λ here y. y) b k e site i x
  kept rule.S3 at (b, k, e, site, i, x) = no_block rule.S3 at (λ here y. y) b k e site i x
  kept rule.S4 at (b, k, e, site, i, x) = no_block rule.S4 at (λ here y. y) b k e site i x
  kept rule.S5 at (b, k, e, site, i, x) = no_block rule.S5 at (λ here y. y) b k e site i x
  kept rule.U1 at (b, k, e, site, i, x) = no_block rule.U1 at (λ here y. y) b k e site i x
  kept rule.U2 at (b, k, e, site, i, x) = no_block rule.U2 at (λ here y. y) b k e site i x
  kept rule.G1 at (b, k, e, site, i, x) = no_block rule.G1 at (λ here y. y) b k e site i x
  kept rule.L2 at (b, k, e, site, i, x) = no_block rule.L2 at (λ here y. y) b k e site i x
  kept rule.G2 at (b, k, e, site, i, x) = no_block rule.G2 at (λ here y. y) b k e site i x
  kept rule.N1 at (b, k, e, site, i, x) = no_block rule.N1 at (λ here y. y) b k e site i x
  kept rule.N2 at (b, k, e, site, i, x) = no_block rule.N2 at (λ here y. y) b k e site i x
  kept rule.N3 at (b, k, e, site, i, x) = no_block rule.N3 at (λ here y. y) b k e site i x
  kept rule.N4 at (b, k, e, site, i, x) = no_block rule.N4 at (λ here y. y) b k e site i x
  kept rule.N5 at (b, k, e, site, i, x) = no_block rule.N5 at (λ here y. y) b k e site i x
  kept rule.N6 at (b, k, e, site, i, x) = no_block rule.N6 at (λ here y. y) b k e site i x
  kept rule.N7 at (b, k, e, site, i, x) = no_block rule.N7 at (λ here y. y) b k e site i x
  kept rule.N8 at (b, k, e, site, i, x) = no_block rule.N8 at (λ here y. y) b k e site i x
  kept rule.L4 at (b, k, e, site, i, x) = no_block rule.L4 at (λ here y. y) b k e site i x
  kept rule.Y1 at (b, k, e, site, i, x) = no_block rule.Y1 at (λ here y. y) b k e site i x
  kept rule.Y2 at (b, k, e, site, i, x) = no_block rule.Y2 at (λ here y. y) b k e site i x
  kept rule.Y3 at (b, k, e, site, i, x) = no_block rule.Y3 at (λ here y. y) b k e site i x
  kept rule.Y4 at (b, k, e, site, i, x) = no_block rule.Y4 at (λ here y. y) b k e site i x
  kept rule.Y5 at (b, k, e, site, i, x) = no_block rule.Y5 at (λ here y. y) b k e site i x
  kept rule.Y6 at (b, k, e, site, i, x) = no_block rule.Y6 at (λ here y. y) b k e site i x
  kept rule.Y7 at (b, k, e, site, i, x) = no_block rule.Y7 at (λ here y. y) b k e site i x
  kept rule.Y8 at (b, k, e, site, i, x) = no_block rule.Y8 at (λ here y. y) b k e site i x
  kept rule.Y9 at (b, k, e, site, i, x) = no_block rule.Y9 at (λ here y. y) b k e site i x
  kept rule.Y10 at (b, k, e, site, i, x) = no_block rule.Y10 at (λ here y. y) b k e site i x
  kept rule.Y11 at (b, k, e, site, i, x) = no_block rule.Y11 at (λ here y. y) b k e site i x
  kept rule.Y12 at (b, k, e, site, i, x) = no_block rule.Y12 at (λ here y. y) b k e site i x
  kept rule.Y13 at (b, k, e, site, i, x) = no_block rule.Y13 at (λ here y. y) b k e site i x
  kept rule.Y14 at (b, k, e, site, i, x) = no_block rule.Y14 at (λ here y. y) b k e site i x
  kept rule.L3 at (b, k, e, site, i, x) = no_block rule.L3 at (λ here y. y) b k e site i x
  kept rule.L6 at (b, k, e, site, i, x) = no_block rule.L6 at (λ here y. y) b k e site i x
  kept rule.I1 at (b, k, e, site, i, x) = no_block rule.I1 at (λ here y. y) b k e site i x
  kept rule.I2 at (b, k, e, site, i, x) = no_block rule.I2 at (λ here y. y) b k e site i x
  kept rule.I3 at (b, k, e, site, i, x) = no_block rule.I3 at (λ here y. y) b k e site i x
  kept rule.I4 at (b, k, e, site, i, x) = no_block rule.I4 at (λ here y. y) b k e site i x
  kept rule.I5 at (b, k, e, site, i, x) = no_block rule.I5 at (λ here y. y) b k e site i x
  kept rule.I6 at h = calm.I6 at h
  kept rule.I7 at h = calm.I7 at h
  kept rule.I8 at h = calm.I8 at h
  kept rule.I9 at h = calm.I9 at h
  kept rule.L5 at (b, k, e, site, i, x) = no_block rule.L5 at (λ here y. y) b k e site i x
