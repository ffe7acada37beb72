-- Small codes that break V6 or V7, by computing.
use Rattle.std.proofs.Common.{inl, inr, [], ◌∷◌, Some, None, refl, arith}
use Rattle.sp_code.specs.declared.code.ChildTable.{ChildTable}
use Rattle.sp_code.specs.declared.code.Layout.{Layout}
use Rattle.sp_verify_rules.specs.Areas.{Area, Body, Child}
use Rattle.sp_verify_rules.specs.EffectRows.{clashing_children, doubled_actuals, distant_store}
use Rattle.sp_verify_rules.specs.Effects.{Stored, Does, IsEffect, IsCalled}
use Rattle.sp_verify_rules.specs.Forks.{BreaksV6, BreaksV7}
use Rattle.sp_verify_rules.specs.Reach.{Reaches}
use Rattle.sp_verify_rules.specs.Shapes.{O, A}

abbrev NoStops : Area → Type 0
NoStops a = ⊥

abbrev first_child : ChildTable
first_child = record { entry = 2; moved = []; shared = []; index = None }

-- what moves to one child moves to the other
pub clashing_breaks : BreaksV6 clashing_children (Does clashing_children) NoStops (Body 0) 0 1
    (record { entry = 3; moved = 2 ∷ []; shared = []; index = None })
clashing_breaks = inr (inr (inr (
  0,
  record { entry = 2; moved = 2 ∷ []; shared = []; index = None },
  omega arith,
  refl,
  (2, inl (inl refl, inl refl)),
)))

-- two reference operands have one variable
abbrev swapper : Layout
swapper = record {
  block = 1;
  entry = 4;
  parent = Some 0;
  answer = Rattle.std.proofs.Common.false;
  sizes = 1 ∷ 1 ∷ [];
  variables = 3 ∷ 4 ∷ [];
  formals = Rattle.sp_code.specs.declared.code.Formal.TheVariants.Reference 1 ∷
      Rattle.sp_code.specs.declared.code.Formal.TheVariants.Reference 1 ∷ [];
}

both_operands : Reaches doubled_actuals (Body 0) 2 (A 2 1 ∷ A 2 1 ∷ [])
both_operands = record { steps = 2; way = (1, A 2 1 ∷ [], (0, [], (refl, refl), inl (refl, refl)), inl (refl, refl)) }

pub doubled_called : IsCalled doubled_actuals (Body 0) 2 1 0 (A 2 1 ∷ A 2 1 ∷ []) swapper
doubled_called = record { reached = both_operands; call = refl; layout = refl }

pub doubled_breaks : BreaksV7 doubled_actuals (Does doubled_actuals) NoStops swapper 1 (A 2 1 ∷ A 2 1 ∷ [])
doubled_breaks = inl (0, 1, 2, (λ e. omega (arith, e)), (1, 1, refl, refl), (1, 1, refl, refl))

-- the effect of a called procedure is one of the child that calls it
abbrev plain_one : Layout
plain_one = record {
  block = 1;
  entry = 4;
  parent = Some 0;
  answer = Rattle.std.proofs.Common.false;
  sizes = [];
  variables = [];
  formals = [];
}

called : IsCalled distant_store (Child (Body 0) 0 0) 2 1 0 [] plain_one
called = record { reached = record { steps = 0; way = (refl, refl) }; call = refl; layout = refl }

stores : Reaches distant_store (Body 1) 6 (O ∷ A 2 1 ∷ [])
stores = record { steps = 2; way = (5, A 2 1 ∷ [], (4, [], (refl, refl), inl (refl, refl)), inl (refl, refl)) }

pub distant_effect : IsEffect distant_store (Does distant_store) Stored (Child (Body 0) 0 0) 2
distant_effect = record {
  areas = Body 1 ∷ [];
  proof = inr
      (2, 1, 0, [], plain_one, refl, called, (2, inl (6, O ∷ A 2 1 ∷ [], stores, inl refl), inl (refl, λ m. m)));
}

pub distant_breaks : BreaksV6 distant_store (Does distant_store) NoStops (Body 0) 0 0 first_child
distant_breaks = inl (2, distant_effect, λ m. m)
