-- The rule at an expression by what its place asks for, where its type is known and where it is not. What is read,
-- written or opened, argument by argument.
use Rattle.std.proofs.Common.{◌≡◌, refl, ℕ, Bool, true, false, not, ◌||◌, if◌then◌else◌}
use Rattle.std.proofs.Common.{List, [], ◌∷◌, Option, Some, None}
use Rattle.sp_base.specs.declared.place.Place.{Place}
use Rattle.sp_base.specs.declared.rule.Rule.{Rule}
use Rattle.sp_base.specs.declared.rule.Rule.TheVariants as rule
use Rattle.sp_tree.specs.PhaseResults.{refusal_if, earlier_refusal}
use Rattle.sp_tree.specs.PlainNamed.{Argument, Arguments, NoArgument, AndArgument}
use Rattle.sp_types.specs.declared.calls.Part.{Part}
use Rattle.sp_types.specs.declared.calls.Part.TheVariants as part
use Rattle.sp_types.specs.declared.rules.Wanted.{Wanted}
use Rattle.sp_types.specs.declared.rules.Wanted.TheVariants as wanted
use Rattle.sp_types.specs.Tables.{Env}
use Rattle.sp_types.specs.TypeRules.{differ, binary_takes, messages, message_in_rule}
use Rattle.sp_types.specs.Expectations.{wanted_rule, wanted_row, refuses, misfits, part_form, part_forms}

of_none : (r : Rule) (at : Place) (v : Option ℕ) → refusal_if r at (differ v None) ≡ None
of_none r at None = refl
of_none r at (Some j) = refl

message_of_none : (at : Place) (ks : Option (List ℕ)) → message_in_rule at ks None ≡ None
message_of_none at None = refl
message_of_none at (Some ks) = refl

message_of : (at : Place) (ks : Option (List ℕ)) (k : ℕ) →
    message_in_rule at ks (Some k) ≡ refusal_if rule.Y9 at (refuses ks k)
message_of at None k = refl
message_of at (Some ks) k = refl

-- the two rules at a right operand are one
same_if : {A : Type 0} (b : Bool) (x : A) → (if b then x else x) ≡ x
same_if true x = refl
same_if false x = refl

right_of : (at : Place) (takes other : Bool) →
    earlier_refusal (refusal_if rule.Y1 at (not takes)) (refusal_if rule.Y1 at other)
    ≡ refusal_if rule.Y1 at (not takes || other)
right_of at true other = refl
right_of at false true = same_if _ _
right_of at false false = refl

pub unknown : (env : Env) (w : Wanted) (at : Place) → wanted_rule env w at None ≡ None
unknown env (wanted.Assigned v) at = of_none rule.Y5 at v
unknown env (wanted.Message c) at = message_of_none at (messages env c)
unknown env (wanted.Limit v) at = of_none rule.Y10 at v
unknown env (wanted.Right op left) at = of_none rule.Y1 at left
unknown _ _ _ = refl

pub known : (env : Env) (w : Wanted) (at : Place) (k : ℕ) →
    wanted_rule env w at (Some k) ≡ refusal_if (wanted_row w) at (misfits env w k)
known env (wanted.Message c) at k = message_of at (messages env c) k
known env (wanted.Right op left) at k = right_of at (binary_takes env op k) (differ left (Some k))
known _ _ _ _ = refl

pub no_part : (env : Env) (p : Part) → part_forms env p NoArgument ≡ []
no_part env part.Read = refl
no_part env part.Write = refl
no_part env part.Open = refl

pub one_part : (env : Env) (p : Part) (a : Argument) (rest : Arguments) →
    part_forms env p (AndArgument a rest) ≡ part_form env p a ∷ part_forms env p rest
one_part env part.Read a rest = refl
one_part env part.Write a rest = refl
one_part env part.Open a rest = refl
