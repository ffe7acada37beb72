-- Worked texts through both phases, names and types, by computing.
use Rattle.std.proofs.Common.{◌≡◌, ℕ, List, [], ◌∷◌, Some, None, true, refl}
use Rattle.std.specs.Prelude.{codes, Ok, Err, Result}
use Rattle.sp_base.specs.declared.halt.Refusal.{Refusal}
use Rattle.sp_base.specs.declared.rule.Rule.TheVariants as rule
use Rattle.sp_tree.specs.declared.syntax.Name.{Name}
use Rattle.sp_tree.specs.declared.syntax.SynConst.{SynConst}
use Rattle.sp_tree.specs.declared.syntax.SynValue.TheVariants as value
use Rattle.sp_tree.specs.declared.syntax.SynKind.TheVariants as kinds
use Rattle.sp_tree.specs.NameFirst.{name_resolution}
use Rattle.sp_tree.specs.PlainNamed as n
use Rattle.sp_tree.specs.PlainSyntax as p
use Rattle.sp_tree.specs.PlainChecked as c
use Rattle.sp_types.specs.TypeFirst.{types_outcome}
use Rattle.sp_tree.specs.PhaseResults.{FirstRefusal, refusal_at}
use Rattle.sp_types.proofs.Rows.{col}

-- names, and then types
abbrev then_typed : Result n.Program Refusal → Result c.Program Refusal
then_typed (Ok t) = types_outcome t
then_typed (Err r) = Err r

-- the first broken rule of both
abbrev first_of : Result c.Program Refusal → FirstRefusal
first_of (Ok t) = None
first_of (Err r) = Some r

abbrev first : p.Program → FirstRefusal
first t = first_of (then_typed (name_resolution t))

abbrev name : ℕ → List ℕ → Name
name at t = record { text = t; at = col at }

-- program g; DECLARATIONS begin STATEMENT end.
abbrev program : p.Parts → ℕ → p.Statement → p.Program
program parts at s = record {
  name = name 9 (codes "g");
  heading = [];
  block = record { parts = parts; body = p.Does (col at) (p.Sequence (p.AndThen s p.NoStatement)) };
}

abbrev number : ℕ → ℕ → SynConst
number at n = record { at = col at; negative = None; value = value.Number n }

-- program g; begin case 1 of 1: ; 1: end end.
abbrev twice : ℕ → p.Program
twice n = program p.NoPart 12 (p.Does (col 18) (p.Case (p.ExpressionAt (col 23) (p.Number 1))
    (p.Or (p.On (number 28 1 ∷ []) (p.Does (col 31) p.Empty))
    (p.Or (p.On (number 33 n ∷ []) (p.Does (col 36) p.Empty)) p.NoArm))))

repeated : first (twice 1) ≡ refusal_at rule.Y12 (col 33)
repeated = refl

not_repeated : first (twice 2) ≡ None
not_repeated = refl

-- program g; type a = array [1..1048577] of integer; begin end.
abbrev with_type : SynConst → SynConst → p.Program
with_type low high = program (p.Declare (p.Kind (name 17 (codes "a"))
    (kinds.Array low high (name 43 (codes "integer")))) p.NoPart) 52 (p.Does (col 58) p.Empty)

too_large : first (with_type (number 28 1) (number 31 1048577)) ≡ refusal_at rule.L3 (col 17)
too_large = refl

large : first (with_type (number 28 1) (number 31 1048576)) ≡ None
large = refl

-- program h; type t = array [0..maxint] of char; begin end.
both_ends : first (with_type (number 28 0) (record
    { at = col 31; negative = None; value = value.Named (name 31 (codes "maxint")) })) ≡ refusal_at rule.L3 (col 17)
both_ends = refl

all_integers : first (with_type (record {
  at = col 28;
  negative = Some true;
  value = value.Named (name 29 (codes "maxint"));
})
    (record { at = col 37; negative = None; value = value.Named (name 37 (codes "maxint")) }))
    ≡ refusal_at rule.L3 (col 17)
all_integers = refl
