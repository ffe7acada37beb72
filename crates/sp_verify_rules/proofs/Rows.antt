-- Worked codes: the code of `x := 6; write(x * 7)` keeps V2, V3 and V5, and neighbours of it break V1, V2 or V9, by
-- computing.
use Rattle.std.proofs.Common.{◌≡◌, ◌∙◌, inl, inr, ℕ, zero, suc, List, [], ◌∷◌, Option, Some, None, Bool, true, false}
use Rattle.std.proofs.Common.{◌==◌, if◌then◌else◌, refl, sym, ap, eqb-true, arith}
use Rattle.std.specs.Prelude.{pos}
use Rattle.sp_base.proofs.Facts.{not_true_and_false}
use Rattle.sp_code.specs.declared.instr.Instr.{Instr}
use Rattle.sp_code.specs.declared.instr.Instr.TheVariants as i
use Rattle.sp_code.specs.declared.code.Layout.{Layout}
use Rattle.sp_code.specs.declared.code.Parts.{Parts}
use Rattle.sp_verify_rules.specs.Areas.{Area, Body, Child, instr_at, child_of, table_at, table_named}
use Rattle.sp_verify_rules.specs.Shapes.{Shape, O, A, Wrong, instr_shapes, stays_within}
use Rattle.sp_verify_rules.specs.Reach.{IsArea, IsInCodeOf, Reaches, Arrives}
use Rattle.sp_verify_rules.specs.NameRules.{BreaksV1, OutOfRange}
use Rattle.sp_verify_rules.specs.Rules.{BreaksV2, LacksOperand, BreaksV3, PassesLeft, BreaksV5, NoFit}
use Rattle.sp_verify_rules.specs.Rules.{AnswersByReference}
use Rattle.sp_verify_rules.specs.Rules.{BreaksV9}
use Rattle.sp_verify_rules.specs.Rules.{ComesBack, call_fits}
use Rattle.sp_verify_rules.proofs.ShapeTables.{is_closed, never_wrong, reached_passes, one_shape}

-- the program's frame has one variable of one cell
abbrev pub main : Layout
main = record { block = 0; entry = 0; parent = None; answer = false; sizes = 1 ∷ []; variables = 2 ∷ []; formals = [] }

abbrev pub code_of : List Instr → Parts
code_of is = record { instrs = is; layouts = main ∷ []; forks = []; texts = [] }

-- x := 6; write(x * 7)
abbrev pub product_as_int : Parts
product_as_int = code_of (i.Addr 0 2 ∷ i.Const (pos 6) ∷ i.Store ∷ i.Addr 0 2 ∷ i.Load ∷ i.Const
    (pos 7) ∷ i.Mul ∷ i.WriteInt ∷ i.End ∷ [])

at_start : (c : Parts) → c.layouts ≡ main ∷ [] → IsInCodeOf c (Body 0) 0
at_start c e = record {
  steps = 0;
  way = ap
      (λ ls. Rattle.sp_verify_rules.specs.Areas.entry_of_layout (Rattle.sp_code.specs.Machine.layout_of ls 0)) e;
}

-- `0 addr 0 3` in its place: there is no such variable. V1 at 0
abbrev no_variable : Parts
no_variable = code_of (i.Addr 0 3 ∷ i.Const (pos 6) ∷ i.Store ∷ i.Addr 0 2 ∷ i.Load ∷ i.Const
    (pos 7) ∷ i.Mul ∷ i.WriteInt ∷ i.End ∷ [])

breaks_v1 : BreaksV1 no_variable 0
breaks_v1 = OutOfRange (Body 0, ((main, refl), at_start no_variable refl), refl)

-- `1 neg` in the place of `1 const 6`: it takes an ordinal and finds an address. V2 at 1
abbrev no_ordinal : Parts
no_ordinal = code_of (i.Addr 0 2 ∷ i.Neg ∷ i.Store ∷ i.Addr 0 2 ∷ i.Load ∷ i.Const
    (pos 7) ∷ i.Mul ∷ i.WriteInt ∷ i.End ∷ [])

breaks_v2 : BreaksV2 no_ordinal 1
breaks_v2 = LacksOperand (Body 0) 1 (A 2 1 ∷ []) (
  (main, refl),
  inr (
    0,
    [],
    (refl, refl),
    (
      λ ss ts s t. s.1
          ∙ sym t.1,
      λ ss s e. takes ss s.1 e,
    ),
    inl (refl, refl),
  ),
) refl
  where
    takes : (ss : List Shape) → ss ≡ [] → instr_shapes no_ordinal (Body 0) (instr_at no_ordinal 0) 0 ss ≡ Wrong → ⊥
    takes ss s e = cc (ap (λ z. instr_shapes no_ordinal (Body 0) (instr_at no_ordinal 0) 0 z) (sym s) ∙ e)

-- `jump 0` and `end`: V9 at 0
abbrev no_tick : Parts
no_tick = code_of (i.Jump 0 ∷ i.End ∷ [])

breaks_v9 : BreaksV9 no_tick 0
breaks_v9 = ComesBack (Body 0) 0 ((main, refl), at_start no_tick refl) (0, inl refl, refl)

-- ---- the first one breaks none of V2, V3, V5

shapes : List (ℕ × List Shape)
shapes = (0, []) ∷ (1, A 2 1 ∷ []) ∷ (2, O ∷ A 2 1 ∷ []) ∷ (3, []) ∷ (4, A 2 1 ∷ []) ∷ (5, O ∷ []) ∷ (6, O ∷ O ∷ []) ∷
    (7, O ∷ []) ∷ (8, []) ∷ []

closed : is_closed product_as_int (Body 0) shapes ≡ true
unfolding shapes
closed = refl

-- the program is its only area
pub only : (P : Area → Type 0) → P (Body 0) → (a : Area) → IsArea product_as_int a → P a
only P h (Body zero) i = h
only P h (Body (suc b)) i = absurd (go (0 == suc b) refl i.1)
  where
    go : (t : Bool) → (0 == suc b) ≡ t → (if t then Some main else None) ≡ Some i.0 → ⊥
    go true e s = absurd (omega (arith, eqb-true 0 (suc b) e))
    go false e s = cc s
only P h (Child a p k) (_, _, (t, there)) = absurd (none (table_named (instr_at product_as_int p)) there)
  where
    none : (o : Option ℕ) → child_of (table_at [] o) k ≡ Some t → ⊥
    none None e = cc e
    none (Some n) e = cc e

-- what arrives is reached
pub arrived : (c : Parts) (a : Area) (n p : ℕ) (ss : List Shape) → Arrives c a n p ss → Reaches c a p ss
arrived c a zero p ss h = record { steps = 0; way = h }
arrived c a (suc n) q ts (inl h) = arrived c a n q ts h
arrived c a (suc n) q ts (inr (p, ss, before, _, leads)) = let r = arrived c a n p ss before in
    record { steps = suc r.steps; way = (p, ss, r.way, leads) }

pub keeps_v2 : (p : ℕ) → BreaksV2 product_as_int p → ⊥
unfolding shapes
keeps_v2 p (LacksOperand a n ss r e) =
    only (λ a. Reaches product_as_int a p ss → instr_shapes product_as_int a (instr_at product_as_int p) p ss ≡ Wrong
    → ⊥) (λ r e. never_wrong product_as_int (Body 0) shapes closed p ss r e) a r.0
    (arrived product_as_int a n p ss r.1) e
keeps_v2 p (Rattle.sp_verify_rules.specs.Rules.Differs a n ss ts r s e) = e (only (λ a. Reaches product_as_int a p ss
    → Reaches product_as_int a p ts → ss ≡ ts)
    (λ r s. one_shape product_as_int (Body 0) shapes closed refl p ss ts r s) a r.0
    (arrived product_as_int a n p ss r.1) (arrived product_as_int a n p ts s.1))

pub keeps_v3 : (p : ℕ) → BreaksV3 product_as_int p → ⊥
unfolding shapes
keeps_v3 p (PassesLeft a ss r e) = not_true_and_false (stays_within (instr_at product_as_int p) ss)
    (only (λ a. Reaches product_as_int a p ss
    → stays_within (instr_at product_as_int p) ss ≡ true)
    (λ r. reached_passes product_as_int (Body 0) shapes closed
    (λ p ss. stays_within (instr_at product_as_int p) ss) refl p ss r) a r.0 r.1) e

pub keeps_v5 : (p : ℕ) → BreaksV5 product_as_int p → ⊥
unfolding shapes
keeps_v5 p (NoFit a ss r e) = not_true_and_false (call_fits product_as_int (instr_at product_as_int p) ss)
    (only (λ a. Reaches product_as_int a p ss
    → call_fits product_as_int (instr_at product_as_int p) ss ≡ true)
    (λ r. reached_passes product_as_int (Body 0) shapes closed
    (λ p ss. call_fits product_as_int (instr_at product_as_int p) ss) refl p ss r) a r.0 r.1) e
keeps_v5 p (AnswersByReference l (zero, e) at an r) = cc
    (ap (λ (z : Option Layout). Rattle.sp_verify_rules.specs.Areas.on_option false z (λ m. m.answer)) e)
keeps_v5 p (AnswersByReference l (suc j, e) at an r) = cc e
