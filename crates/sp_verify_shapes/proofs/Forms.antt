-- Each instruction does to shapes what its form does, and goes on where its form goes.
use Rattle.std.proofs.Common.{◌≡◌, inl, inr, refl, ap, sym, subst, ℕ, zero, suc, ◌+◌, List, [], ◌∷◌, Option}
use Rattle.std.proofs.Common.{Some, None, Bool, true, false}
use Rattle.sp_code.specs.declared.instr.Instr.{Instr}
use Rattle.sp_code.specs.declared.instr.Instr.TheVariants as i
use Rattle.sp_code.specs.declared.code.Layout.{Layout}
use Rattle.sp_code.specs.declared.code.Parts.{Parts}
use Rattle.sp_code.specs.Machine.{layout_of}
use Rattle.sp_verify_rules.specs.Areas.{Area, VariableInfo, on_option, variable_at}
use Rattle.sp_verify_rules.specs.Shapes.{Shape, O, C, L, A, Shaped, Wrong, To, to_one, take_o, take_c, take_all}
use Rattle.sp_verify_rules.specs.Shapes.{take_none}
use Rattle.sp_verify_rules.specs.Shapes.{instr_shapes}
use Rattle.sp_verify_rules.specs.Shapes.{with_answer}
use Rattle.sp_verify_rules.specs.Reach.{IsMember, LeadsWith, nexts}
use Rattle.sp_verify_shapes.specs.declared.plans.OperandKind.{OperandKind}
use Rattle.sp_verify_shapes.specs.declared.plans.OperandKind.TheVariants as kind
use Rattle.sp_verify_shapes.specs.declared.plans.Takes.{Takes}
use Rattle.sp_verify_shapes.specs.declared.plans.Takes.TheVariants as takes
use Rattle.sp_verify_shapes.specs.declared.plans.Successor.{Successor}
use Rattle.sp_verify_shapes.specs.declared.plans.Successor.TheVariants as goes
use Rattle.sp_verify_shapes.specs.declared.plans.Plan.{Plan}
use Rattle.sp_verify_shapes.specs.Plans.{plain_plan, plan_at, address_plan, call_plan, take_one, take_last, take, go_on}
use Rattle.sp_verify_shapes.specs.Plans.{goes_to}
use Rattle.sp_verify_shapes.specs.Plans.{goes_with, by_plan}

-- ---- each instruction by its form

nothing : (ss : List Shape) → take_none ss ≡ take_last ss (λ ts. To [])
nothing [] = refl
nothing (s ∷ ss) = refl

module _ (c : Parts) (a : Area) (p : ℕ) (ss : List Shape) where
  by_name : (o : Option VariableInfo) → on_option Wrong o (λ f. to_one (p + 1) (A f.number f.cells ∷ ss))
      ≡ on_option Wrong (address_plan o) (λ pl. by_plan pl p ss)
  by_name None = refl
  by_name (Some f) = refl

  by_answer : (n : ℕ) (t : Bool) → take_all n ss (λ s1. to_one (p + 1) (with_answer t s1))
      ≡ take_all n ss (λ s1. to_one (p + 1)
      (Rattle.sp_verify_shapes.specs.Plans.with_top
      (Rattle.sp_verify_shapes.specs.Plans.left
      (Rattle.std.proofs.Common.if◌then◌else◌ t
      (Rattle.sp_verify_shapes.specs.declared.plans.Leaves.TheVariants.One
      Rattle.sp_verify_shapes.specs.declared.stacks.Shape.TheVariants.Ordinal)
      Rattle.sp_verify_shapes.specs.declared.plans.Leaves.TheVariants.Nothing) 0 0) s1))
  by_answer n true = refl
  by_answer n false = refl

  by_call : (o : Option Layout)
      → on_option Wrong o (λ l. take_all (Rattle.std.proofs.Common.length l.formals) ss
      (λ s1. to_one (p + 1) (with_answer l.answer s1))) ≡ on_option Wrong (call_plan o) (λ pl. by_plan pl p ss)
  by_call None = refl
  by_call (Some l) = by_answer (Rattle.std.proofs.Common.length l.formals) l.answer

  pub by_form : (o : Instr) → instr_shapes c a (Some o) p ss ≡ on_option Wrong (plan_at c a o) (λ pl. by_plan pl p ss)
  by_form (i.Addr up var) = by_name (variable_at c a up var)
  by_form (i.Deref up var) = by_name (variable_at c a up var)
  by_form (i.Call b up) = by_call (layout_of c.layouts b)
  by_form i.Return = nothing ss
  by_form i.End = nothing ss
  by_form _ = refl

-- ---- and where it goes

pub goes_there : (c : Parts) (a : Area) (p : ℕ) (o : Instr) (pl : Plan) → plan_at c a o ≡ Some pl
    → nexts p (Some o) ≡ goes_to pl.goes p
goes_there c a p (i.Addr up var) pl e = go (variable_at c a up var) e
  where
    go : (o : Option VariableInfo) → address_plan o ≡ Some pl → (p + 1) ∷ [] ≡ goes_to pl.goes p
    go None e = absurd (cc e)
    go (Some f) e = ap (λ (z : Option Plan). on_option [] z (λ (y : Plan). goes_to y.goes p)) e
goes_there c a p (i.Deref up var) pl e = go (variable_at c a up var) e
  where
    go : (o : Option VariableInfo) → address_plan o ≡ Some pl → (p + 1) ∷ [] ≡ goes_to pl.goes p
    go None e = absurd (cc e)
    go (Some f) e = ap (λ (z : Option Plan). on_option [] z (λ (y : Plan). goes_to y.goes p)) e
goes_there c a p (i.Call b up) pl e = go (layout_of c.layouts b) e
  where
    go : (o : Option Layout) → call_plan o ≡ Some pl → (p + 1) ∷ [] ≡ goes_to pl.goes p
    go None e = absurd (cc e)
    go (Some l) e = ap (λ (z : Option Plan). on_option [] z (λ (y : Plan). goes_to y.goes p)) e
goes_there _ _ p _ _ e = ap (λ (z : Option Plan). on_option [] z (λ (y : Plan). goes_to y.goes p)) e

-- an instruction that names no variable and calls no block
pub plain_at : (c : Parts) (a : Area) (o : Instr) → ((up var : ℕ) → o ≡ i.Addr up var → ⊥)
    → ((up var : ℕ) → o ≡ i.Deref up var → ⊥) → ((b up : ℕ) → o ≡ i.Call b up → ⊥) → Some (plain_plan o) ≡ plan_at c a o
plain_at c a (i.Addr up var) h j k = absurd (h up var refl)
plain_at c a (i.Deref up var) h j k = absurd (j up var refl)
plain_at c a (i.Call b up) h j k = absurd (k b up refl)
plain_at c a _ h j k = refl

-- ---- what leads on

abbrev Led : ℕ → List Shape → (List Shape → Shaped) → Type 0
Led q ts go = (rs : List Shape) × LeadsWith (go rs) q ts

module _ (q : ℕ) (ts : List Shape) where
  led_o : (ss : List Shape) (go : List Shape → Shaped) → LeadsWith (take_o ss go) q ts → Led q ts go
  led_o [] go h = absurd h
  led_o (O ∷ ss) go h = (ss, h)
  led_o (C ∷ ss) go h = absurd h
  led_o (L n ∷ ss) go h = absurd h
  led_o (A x n ∷ ss) go h = absurd h

  led_c : (ss : List Shape) (go : List Shape → Shaped) → LeadsWith (take_c ss go) q ts → Led q ts go
  led_c [] go h = absurd h
  led_c (O ∷ ss) go h = absurd h
  led_c (C ∷ ss) go h = (ss, h)
  led_c (L n ∷ ss) go h = absurd h
  led_c (A x n ∷ ss) go h = absurd h

  led_all : (n : ℕ) (ss : List Shape) (go : List Shape → Shaped) → LeadsWith (take_all n ss go) q ts → Led q ts go
  led_all zero ss go h = (ss, h)
  led_all (suc n) [] go h = absurd h
  led_all (suc n) (s ∷ ss) go h = led_all n ss go h

  abbrev LedWith : (ℕ → ℕ → List Shape → Shaped) → Type 0
  LedWith go = (x n : ℕ) × (rs : List Shape) × LeadsWith (go x n rs) q ts

  plainly : (go : ℕ → ℕ → List Shape → Shaped) → Led q ts (go 0 0) → LedWith go
  plainly go h = (0, 0, h.0, h.1)

  led_one : (k : OperandKind) (ss : List Shape) (go : ℕ → ℕ → List Shape → Shaped) → LeadsWith (take_one k ss go) q ts
      → LedWith go
  led_one kind.Ordinal ss go h = plainly go (led_o ss (go 0 0) h)
  led_one kind.Channel ss go h = plainly go (led_c ss (go 0 0) h)
  led_one kind.Address [] go h = absurd h
  led_one kind.Address (O ∷ ss) go h = absurd h
  led_one kind.Address (C ∷ ss) go h = absurd h
  led_one kind.Address (L n ∷ ss) go h = absurd h
  led_one kind.Address (A x n ∷ ss) go h = (x, n, ss, h)
  led_one kind.Value [] go h = absurd h
  led_one kind.Value (O ∷ ss) go h = (0, 0, ss, h)
  led_one kind.Value (C ∷ ss) go h = (0, 0, ss, h)
  led_one kind.Value (L n ∷ ss) go h = absurd h
  led_one kind.Value (A x n ∷ ss) go h = absurd h
  led_one kind.Message [] go h = absurd h
  led_one kind.Message (O ∷ ss) go h = (0, 0, ss, h)
  led_one kind.Message (C ∷ ss) go h = (0, 0, ss, h)
  led_one kind.Message (L n ∷ ss) go h = (0, 0, ss, h)
  led_one kind.Message (A x n ∷ ss) go h = absurd h

  led_by : (t : Takes) (ss : List Shape) (go : ℕ → ℕ → List Shape → Shaped) → LeadsWith (take t ss go) q ts → LedWith go
  led_by takes.Nothing ss go h = (0, 0, ss, h)
  led_by (takes.One k) ss go h = led_one k ss go h
  led_by (takes.Two k j) ss go h = let (_, _, left, leads) = led_one k ss (λ x n s1. take_one j s1 go) h in
      led_one j left go leads
  led_by takes.Same [] go h = absurd h
  led_by takes.Same (O ∷ ss) go h = plainly go (led_o ss (go 0 0) h)
  led_by takes.Same (C ∷ ss) go h = plainly go (led_c ss (go 0 0) h)
  led_by takes.Same (L n ∷ ss) go h = absurd h
  led_by takes.Same (A x n ∷ ss) go h = absurd h
  led_by (takes.Many n) ss go h = plainly go (led_all n ss (go 0 0) h)
  led_by takes.Last [] go h = (0, 0, [], h)
  led_by takes.Last (s ∷ ss) go h = absurd h

  led_to : (g : Successor) (p : ℕ) (us vs : List Shape) → LeadsWith (go_on g p us vs) q ts → IsMember q (goes_to g p)
  led_to goes.Nowhere p us vs h = absurd h
  led_to goes.FallThrough p us vs (inl e) = inl e.0
  led_to goes.FallThrough p us vs (inr h) = absurd h
  led_to (goes.There to) p us vs (inl e) = inl e.0
  led_to (goes.There to) p us vs (inr h) = absurd h
  led_to (goes.Either to) p us vs (inl e) = inl e.0
  led_to (goes.Either to) p us vs (inr (inl e)) = inr (inl e.0)
  led_to (goes.Either to) p us vs (inr (inr h)) = absurd h
  led_to (goes.Past to) p us vs (inl e) = inl e.0
  led_to (goes.Past to) p us vs (inr (inl e)) = inr (inl e.0)
  led_to (goes.Past to) p us vs (inr (inr h)) = absurd h
  led_to (goes.Back to) p us vs (inl e) = inl e.0
  led_to (goes.Back to) p us vs (inr (inl e)) = inr (inl e.0)
  led_to (goes.Back to) p us vs (inr (inr h)) = absurd h

-- an instruction leads only to the next ones
pub leads_in : (c : Parts) (a : Area) (p : ℕ) (ss : List Shape) (q : ℕ) (ts : List Shape) (o : Option Instr)
    → LeadsWith (instr_shapes c a o p ss) q ts → IsMember q (nexts p o)
leads_in c a p ss q ts None h = absurd h
leads_in c a p ss q ts (Some i) h = go (plan_at c a i) refl
    (subst (λ (z : Shaped). LeadsWith z q ts) (by_form c a p ss i) h)
  where
    go : (o : Option Plan) → plan_at c a i ≡ o → LeadsWith (on_option Wrong o (λ pl. by_plan pl p ss)) q ts
        → IsMember q (nexts p (Some i))
    go None e k = absurd k
    go (Some pl) e k =
        let (_, _, left, leads) = led_by q ts pl.takes ss (goes_with pl p) k in
        subst (IsMember q) (sym (goes_there c a p i pl e)) (led_to q ts pl.goes p _ left leads)
