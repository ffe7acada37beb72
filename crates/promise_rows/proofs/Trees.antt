-- The texts of the rows: which break a rule, and which tree the others have.
use Rattle.std.proofs.Common.{◌≡◌, inl, inr, ℕ, zero, suc, ◌≤◌, List, [], ◌∷◌, Option, Some, None, Err, refl, subst}
use Rattle.std.proofs.Common.{arith}
use Rattle.sp_base.specs.declared.halt.Refusal.{Refusal}
use Rattle.sp_base.specs.declared.rule.Rule.TheVariants as rule
use Rattle.sp_code.specs.Places.{tree_length}
use Rattle.sp_front.specs.Checks.{IsChecked}
use Rattle.sp_front.specs.Compiles.{IsAccepted}
use Rattle.sp_tree.specs.Bare.{without_places}
use Rattle.sp_tree.specs.Breaches.{IsTree}
use Rattle.sp_base.specs.declared.place.Place.{Place}
use Rattle.sp_base.specs.declared.rule.Rule.{Rule}
use Rattle.std.specs.Prelude.{slice_get}
use Rattle.sp_tree.specs.Interferes.{Interferes}
use Rattle.sp_tree.specs.PlainChecked as c
use Rattle.sp_tree.specs.Sites.{statement_sites}
use Rattle.sp_tree.proofs.Unbroken.{breaks_none}
use Rattle.sp_tree.specs.NameFirst.{name_resolution}
use Rattle.superpascal.specs.Texts.{FirstBroken, IsAcceptedText}
use Rattle.promise_rows.specs.Programs.{at, calls_unknown, checked, waits, writes_42}
use Rattle.promise_rows.proofs.Calm.{OnlyStops, kept}

-- the body of a block has only places at which a function may not stand
abbrev In : Option c.Block → Type 0
In None = Unit {0}
In (Some k) = OnlyStops (statement_sites k.body)

-- N1 at the name
abbrev pub unknown_name : Refusal
unknown_name = record { rule = rule.N1; at = at 18 }

unknown : name_resolution calls_unknown ≡ Err unknown_name
unknown = refl

pub breaks_names : (text : List ℕ) → IsTree text calls_unknown → FirstBroken text unknown_name
breaks_names text t = inl (inl (inr (inl (calls_unknown, t, unknown))))

pub is_checked : (text : List ℕ) → IsTree text writes_42 → IsChecked text (checked writes_42)
is_checked text t = (_, (writes_42, t, refl), refl)

writes_stops : (b : ℕ) (k : c.Block) → slice_get (checked writes_42).blocks b ≡ Some k
    → OnlyStops (statement_sites k.body)
writes_stops zero k e = subst (λ (o : Option c.Block). In o) e tt
writes_stops (suc b) k e = absurd (cc e)

pub writes_keeps : (r : Rule) (at : Place) → Interferes (checked writes_42) r at → ⊥
writes_keeps = kept (checked writes_42) (breaks_none (checked writes_42) [] (0 ∷ []) refl) writes_stops

pub is_accepted : (text : List ℕ) → IsTree text writes_42 → IsAccepted text (checked writes_42)
is_accepted text t = (is_checked text t, writes_keeps)

short : tree_length (without_places (checked writes_42)) ≤ 1048576
short = omega (arith)

pub is_accepted_text : (text : List ℕ) → IsTree text writes_42 → IsAcceptedText text
is_accepted_text text t = (checked writes_42, is_accepted text t, short)

-- the same of the program that waits
waits_stops : (b : ℕ) (k : c.Block) → slice_get (checked waits).blocks b ≡ Some k → OnlyStops (statement_sites k.body)
waits_stops zero k e = subst (λ (o : Option c.Block). In o) e tt
waits_stops (suc b) k e = absurd (cc e)

waits_short : tree_length (without_places (checked waits)) ≤ 1048576
waits_short = omega (arith)

pub waits_accepted : (text : List ℕ) → IsTree text waits → IsAcceptedText text
waits_accepted text t = (
  checked waits,
  ((_, (waits, t, refl), refl), kept (checked waits) (breaks_none (checked waits) [] (0 ∷ []) refl) waits_stops),
  waits_short,
)
