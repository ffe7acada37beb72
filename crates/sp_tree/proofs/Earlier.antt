-- Places of a text, one before another.
use Rattle.std.proofs.Common.{◌≡◌, ◌<◌, ◌⊎◌, arith, inl, inr, ◌∙◌}
use Rattle.sp_base.specs.declared.place.Place.{Place}

-- one place stands before another
abbrev pub Earlier : Place → Place → Type 0
Earlier p q = (p.line < q.line) ⊎ ((p.line ≡ q.line) × (p.column < q.column))

pub earlier_then : (p q r : Place) → Earlier p q → Earlier q r → Earlier p r
earlier_then p q r (inl a) (inl b) = inl (omega (arith, a, b))
earlier_then p q r (inl a) (inr b) = inl (omega (arith, a, b.0))
earlier_then p q r (inr a) (inl b) = inl (omega (arith, a.0, b))
earlier_then p q r (inr a) (inr b) = inr (a.0 ∙ b.0, omega (arith, a.1, b.1))

-- no place stands before itself
pub not_earlier : (p : Place) → Earlier p p → ⊥
not_earlier p (inl a) = absurd (omega (arith, a))
not_earlier p (inr a) = absurd (omega (arith, a.1))
