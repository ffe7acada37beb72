-- What a walk gathers in a list leads to the same first broken rule as the walk that keeps the first alone.
use Rattle.std.proofs.Common.{◌≡◌, List, Some, refl, ◌++◌, ◌∷◌, None, ap, ◌∙◌, []}
use Rattle.sp_base.specs.declared.halt.Refusal.{Refusal}
use Rattle.sp_tree.specs.PhaseResults.{FirstRefusal, earlier_refusal, first_of_refusals}
use Rattle.sp_tree.specs.NameFirst.{Onward, none_more, then_rest, both_lists}

pub taken_append : (xs ys : List Refusal) (given : FirstRefusal) → first_of_refusals (xs ++ ys) given
    ≡ first_of_refusals ys (first_of_refusals xs given)
taken_append [] ys given = refl
taken_append (x ∷ xs) ys given = taken_append xs ys (earlier_refusal given (Some x))

pub lesser_none : (a : FirstRefusal) → a ≡ earlier_refusal a None
lesser_none None = refl
lesser_none (Some x) = refl

-- a list leads to what goes on from it
abbrev pub Leads : List Refusal → Onward → Type 0
Leads rs f = (given : FirstRefusal) → first_of_refusals rs given ≡ f given

pub no_more : Leads [] none_more
no_more given = refl

pub follows : (xs ys : List Refusal) (f g : Onward) → Leads xs f → Leads ys g → Leads (both_lists xs ys) (then_rest f g)
follows xs ys f g p q given = taken_append xs ys given ∙ q (first_of_refusals xs given) ∙ ap g (p given)
