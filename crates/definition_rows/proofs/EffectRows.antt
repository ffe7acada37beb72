-- Procedures that are called inside themselves, which breaks V7 if they have effects outside besides the input and the
-- output; and a function that stores outside itself, which breaks V8.
use Rattle.std.proofs.Common.{◌≡◌, ◌∙◌, inl, inr, ℕ, zero, suc, ◌<◌, List, [], ◌∷◌, Some, None, true, false}
use Rattle.std.proofs.Common.{refl, sym, subst, ap, arith, Bool}
use Rattle.std.proofs.lemmas.Option.{same_Some}
use Rattle.std.specs.Prelude.{pos, slice_get}
use Rattle.sp_tree.specs.Interference.{IsMember}
use Rattle.sp_code.specs.declared.instr.Instr.{Instr}
use Rattle.sp_code.specs.declared.instr.Instr.TheVariants as i
use Rattle.sp_code.specs.declared.code.Layout.{Layout}
use Rattle.sp_code.specs.declared.code.Parts.{Parts}
use Rattle.sp_code.specs.Machine.{layout_of}
use Rattle.sp_verify_rules.specs.Areas.{Area, Body, instr_at, child_at}
use Rattle.sp_verify_rules.specs.Shapes.{Shape, O, A}
use Rattle.sp_verify_rules.specs.Reach.{Reaches}
use Rattle.sp_verify_rules.specs.Effects.{EffectKind, Stored, Loaded, Does, does_at, EffectBy, IsEffect, HasEffect}
use Rattle.sp_verify_rules.specs.Effects.{IsCalled}
use Rattle.sp_verify_rules.specs.Effects.{Becomes}
use Rattle.sp_verify_rules.specs.Forks.{BreaksV7Inside}
use Rattle.sp_verify_rules.specs.Verdict.{HasStop, Inside, BreaksV7, BreaksV8}

-- the program's variable is number 2
abbrev main : Layout
main = record { block = 0; entry = 0; parent = None; answer = false; sizes = 1 ∷ []; variables = 2 ∷ []; formals = [] }

-- a block without variables, by its number, where its code begins, and the block around it
abbrev block_at : ℕ → ℕ → ℕ → Bool → Layout
block_at b q around answers = record {
  block = b;
  entry = q;
  parent = Some around;
  answer = answers;
  sizes = [];
  variables = [];
  formals = [];
}

abbrev with_blocks : List Layout → List Instr → Parts
with_blocks ls is = record { instrs = i.End ∷ is; layouts = main ∷ ls; forks = []; texts = [] }

-- ---- V7: the procedure stores variable 2 and calls itself

abbrev storing : Parts
storing = with_blocks (block_at 1 1 0 false ∷ []) (i.Addr 1 2 ∷ i.Const (pos 7) ∷ i.Store ∷ i.Call 1 1 ∷ i.Return ∷ [])

stores : Reaches storing (Body 1) 3 (O ∷ A 2 1 ∷ [])
stores = record { steps = 2; way = (2, A 2 1 ∷ [], (1, [], (refl, refl), inl (refl, refl)), inl (refl, refl)) }

goes_on : Reaches storing (Body 1) 4 []
goes_on = record {
  steps = 3;
  way = (
    3,
    O ∷ A 2 1 ∷ [],
    (2, A 2 1 ∷ [], (1, [], (refl, refl), inl (refl, refl)), inl (refl, refl)),
    inl (refl, refl),
  );
}

stored : IsEffect storing (Does storing) Stored (Body 1) 2
stored = record { areas = []; proof = inl (3, O ∷ A 2 1 ∷ [], stores, inl refl) }

itself : IsCalled storing (Body 1) 4 1 1 [] (block_at 1 1 0 false)
itself = record { reached = goes_on; call = refl; layout = refl }

calls_itself : BreaksV7 storing 1
calls_itself = inr (
  block_at 1 1 0 false,
  (1, refl),
  refl,
  (
    (Body 1, 4, 1, [], block_at 1 1 0 false, (block_at 1 1 0 false, refl), itself, (0, refl)),
    (2, (inl stored, λ m. m), omega arith),
  ),
)

-- a block inside it calls it
abbrev nested : Parts
nested = with_blocks (block_at 1 1 0 false ∷ block_at 2 5 1 false ∷ [])
    (i.Addr 1 2 ∷ i.Const (pos 7) ∷ i.Store ∷ i.Return ∷ i.Call 1 2 ∷ i.Return ∷ [])

from_inside : IsCalled nested (Body 2) 5 1 2 [] (block_at 1 1 0 false)
from_inside = record { reached = record { steps = 0; way = (refl, refl) }; call = refl; layout = refl }

stores_too : Reaches nested (Body 1) 3 (O ∷ A 2 1 ∷ [])
stores_too = record { steps = 2; way = (2, A 2 1 ∷ [], (1, [], (refl, refl), inl (refl, refl)), inl (refl, refl)) }

is_called_inside : BreaksV7 nested 1
is_called_inside = inr (
  block_at 1 1 0 false,
  (1, refl),
  refl,
  (
    (Body 2, 5, 2, [], block_at 1 1 0 false, (block_at 2 5 1 false, refl), from_inside, (1, refl)),
    (2, (inl (record { areas = []; proof = inl (3, O ∷ A 2 1 ∷ [], stores_too, inl refl) }), λ m. m), omega arith),
  ),
)

-- ---- it writes and calls itself: its only effect is the output

abbrev writing : Parts
writing = with_blocks (block_at 1 1 0 false ∷ []) (i.Writeln ∷ i.Call 1 1 ∷ i.Return ∷ [])

called_at : (p f up : ℕ) → instr_at writing p ≡ Some (i.Call f up) → f ≡ 1
called_at zero f up e = absurd (cc e)
called_at (suc zero) f up e = absurd (cc e)
called_at (suc (suc zero)) f up e = let z : 1 ≡ f = cc e in sym z
called_at (suc (suc (suc zero))) f up e = absurd (cc e)
called_at (suc (suc (suc (suc p)))) f up e = absurd (cc e)

done_at : (e : EffectKind) (p : ℕ) (ss : List Shape) (x : ℕ) → IsMember x (does_at writing e (Body 1) p ss) → x ≡ 1
done_at Stored zero ss x h = absurd h
done_at Stored (suc zero) ss x (inl h) = h
done_at Stored (suc zero) ss x (inr h) = absurd h
done_at Stored (suc (suc zero)) ss x h = absurd h
done_at Stored (suc (suc (suc zero))) ss x h = absurd h
done_at Stored (suc (suc (suc (suc p)))) ss x h = absurd h
done_at Loaded zero ss x h = absurd h
done_at Loaded (suc zero) ss x h = absurd h
done_at Loaded (suc (suc zero)) ss x h = absurd h
done_at Loaded (suc (suc (suc zero))) ss x h = absurd h
done_at Loaded (suc (suc (suc (suc p)))) ss x h = absurd h

no_child : (p k : ℕ) → child_at writing p k ≡ None
no_child zero k = refl
no_child (suc zero) k = refl
no_child (suc (suc zero)) k = refl
no_child (suc (suc (suc zero))) k = refl
no_child (suc (suc (suc (suc p)))) k = refl

-- what an effect of the block on itself is to itself, by the layout that it has
becomes_output : (l : Layout) (ss : List Shape) (y x : ℕ) → block_at 1 1 0 false ≡ l → y ≡ 1 → Becomes l ss y x → x ≡ 1
becomes_output l ss y x is h (inl z) = z.0 ∙ h
becomes_output l ss y x is h (inr z) = absurd (none z.0 (subst (λ w. slice_get w.variables z.0 ≡ Some y) (sym is) z.1))
  where
    none : (k : ℕ) → slice_get (block_at 1 1 0 false).variables k ≡ Some y → ⊥
    none zero e = cc e
    none (suc k) e = cc e

only_output : (bs : List Area) (e : EffectKind) (x : ℕ) → EffectBy writing (Does writing) bs e (Body 1) x → x ≡ 1
only_output [] e x (inl (p, ss, _, touches)) = done_at e p ss x touches
only_output [] e x (inr (p, k, _, (_, some), _)) = let none = no_child p k in absurd (cc (none, some))
only_output (b ∷ bs) e x (inl (p, k, _, _, (_, some), _, _)) = let none = no_child p k in absurd (cc (none, some))
only_output (b ∷ bs) e x (inr (p, f, up, ss, l, is_body, call, (y, by_body, becomes))) =
    let one = called_at p f up call.call in
    let found = ap (λ z. layout_of writing.layouts z) (sym one) ∙ call.layout in
    becomes_output l ss y x (same_Some _ _ found)
    (only_output bs e y (subst (λ a. EffectBy writing (Does writing) bs e a y) (is_body ∙ ap Body one) by_body)) becomes

writes_alone : BreaksV7Inside writing (Does writing) (HasStop writing) (Inside writing) (block_at 1 1 0 false) 1 → ⊥
writes_alone (called, (x, outer, more)) = by x outer.0 more
  where
    by : (y : ℕ) → HasEffect writing (Does writing) (Body 1) y → 1 < y → ⊥
    by y (inl h) l = let e = only_output h.areas Stored y h.proof in omega (arith, e, l)
    by y (inr h) l = let e = only_output h.areas Loaded y h.proof in omega (arith, e, l)

-- ---- V8: a function stores variable 2, which the program has

abbrev answering : Parts
answering = with_blocks (block_at 1 1 0 true ∷ []) (i.Addr 1 2 ∷ i.Const (pos 7) ∷ i.Store ∷ i.Return ∷ [])

its_store : Reaches answering (Body 1) 3 (O ∷ A 2 1 ∷ [])
its_store = record { steps = 2; way = (2, A 2 1 ∷ [], (1, [], (refl, refl), inl (refl, refl)), inl (refl, refl)) }

stores_outside : BreaksV8 answering 1
stores_outside = (
  block_at 1 1 0 true,
  (1, refl),
  refl,
  (
    refl,
    inl (2, record { areas = []; proof = inl (3, O ∷ A 2 1 ∷ [], its_store, inl refl) }, λ m. m),
  ),
)
