-- Small codes that break V1, V5 or V8 in ways that no law needs: by a variable that is not there, by a function with a
-- variable parameter, and by each kind of stop in a function; and a function without a stop.
use Rattle.std.proofs.Common.{◌≡◌, ◌⊎◌, inl, inr, ℕ, zero, suc, List, [], ◌∷◌, Some, None, true, false, refl}
use Rattle.std.proofs.Common.{subst, ap}
use Rattle.sp_base.proofs.Facts.{not_true_and_false}
use Rattle.sp_code.specs.declared.instr.Instr.{Instr}
use Rattle.sp_code.specs.declared.instr.Instr.TheVariants as i
use Rattle.sp_code.specs.declared.code.Formal.{Formal}
use Rattle.sp_code.specs.declared.code.Formal.TheVariants as formal
use Rattle.sp_code.specs.declared.code.Layout.{Layout}
use Rattle.sp_code.specs.declared.code.Parts.{Parts}
use Rattle.sp_verify_rules.specs.Areas.{Body, instr_at}
use Rattle.sp_verify_rules.specs.Shapes.{Shape, instr_shapes}
use Rattle.sp_verify_rules.specs.Reach.{BringsShapes, LeadsWith}
use Rattle.sp_verify_rules.specs.NameRules.{BreaksV1, OutOfRange, in_range}
use Rattle.sp_verify_rules.specs.Rules.{BreaksV5, AnswersByReference}
use Rattle.sp_verify_rules.specs.Verdict.{is_stop, HasStop, BreaksV8}

-- the program's frame has one variable, number 2 there: 0 and 1 are the input and the output
abbrev main : Layout
main = record { block = 0; entry = 0; parent = None; answer = false; sizes = 1 ∷ []; variables = 2 ∷ []; formals = [] }

-- ---- V1: variables that are not there

abbrev program : List Instr → Parts
program is = record { instrs = is; layouts = main ∷ []; forks = []; texts = [] }

no_variable : (s : Instr) → in_range (program (s ∷ [])) (Body 0) (Some s) ≡ false → BreaksV1 (program (s ∷ [])) 0
no_variable s h = OutOfRange (Body 0, ((main, refl), record { steps = 0; way = refl }), h)

no_address : BreaksV1 (program (i.Addr 0 3 ∷ [])) 0
no_address = no_variable (i.Addr 0 3) refl

no_level : BreaksV1 (program (i.Addr 1 2 ∷ [])) 0
no_level = no_variable (i.Addr 1 2) refl

no_reference : BreaksV1 (program (i.Deref 0 3 ∷ [])) 0
no_reference = no_variable (i.Deref 0 3) refl

no_first_up : BreaksV1 (program (i.Forup 3 0 ∷ [])) 0
no_first_up = no_variable (i.Forup 3 0) refl

no_first_down : BreaksV1 (program (i.Fordown 3 0 ∷ [])) 0
no_first_down = no_variable (i.Fordown 3 0) refl

no_next_up : BreaksV1 (program (i.Nextup 3 0 ∷ [])) 0
no_next_up = no_variable (i.Nextup 3 0) refl

no_next_down : BreaksV1 (program (i.Nextdown 3 0 ∷ [])) 0
no_next_down = no_variable (i.Nextdown 3 0) refl

-- the last variable is there
last_variable : in_range (program []) (Body 0) (Some (i.Addr 0 2)) ≡ true
last_variable = refl

-- ---- functions, whose code is at 1

abbrev function : List ℕ → List Formal → Layout
function xs fs = record {
  block = 1;
  entry = 1;
  parent = Some 0;
  answer = true;
  sizes = [];
  variables = xs;
  formals = fs;
}

abbrev with_function : List Formal → List Instr → Parts
with_function fs is = record {
  instrs = i.End ∷ is;
  layouts = main ∷ function [] fs ∷ [];
  forks = [];
  texts = [];
}

-- V5: one of the parameters is a variable
by_reference : BreaksV5 (with_function (formal.Value 1 ∷ formal.Reference 1 ∷ []) (i.Return ∷ [])) 1
by_reference = AnswersByReference (function [] (formal.Value 1 ∷ formal.Reference 1 ∷ [])) (1, refl) refl refl refl

-- V8: the first instruction is a stop
stops : (s : Instr) → is_stop (Some s) ≡ true → BreaksV8 (with_function [] (s ∷ [])) 1
stops s h = (function [] [], (1, refl), refl, (refl, inr ([], (1, [], record { steps = 0; way = (refl, refl) }, h))))

open_breaks : BreaksV8 (with_function [] (i.Open ∷ [])) 1
open_breaks = stops i.Open refl

send_breaks : BreaksV8 (with_function [] (i.Send 1 ∷ [])) 1
send_breaks = stops (i.Send 1) refl

receive_breaks : BreaksV8 (with_function [] (i.Receive 1 ∷ [])) 1
receive_breaks = stops (i.Receive 1) refl

fork_breaks : BreaksV8 (with_function [] (i.Fork 0 ∷ [])) 1
fork_breaks = stops (i.Fork 0) refl

forall_breaks : BreaksV8 (with_function [] (i.Forall 0 ∷ [])) 1
forall_breaks = stops (i.Forall 0) refl

end_breaks : BreaksV8 (with_function [] (i.End ∷ [])) 1
end_breaks = stops i.End refl

-- a tick and a return are none
abbrev ticking : Parts
ticking = with_function [] (i.Tick ∷ i.Return ∷ [])

abbrev Leads : List Shape → ℕ → List Shape → ℕ → Type 0
Leads ts p ss q = LeadsWith (instr_shapes ticking (Body 1) (instr_at ticking q) q ts) p ss

after_return : (ts : List Shape) (p : ℕ) (ss : List Shape) → Leads ts p ss 2 → ⊥
after_return [] p ss l = l
after_return (t ∷ ts) p ss l = l

after_tick : (ts : List Shape) (p : ℕ) (ss : List Shape) → Leads ts p ss 1 → p ≡ 2
after_tick ts p ss (inl l) = l.0
after_tick ts p ss (inr l) = absurd l

comes_to : (n p : ℕ) (ss : List Shape) → BringsShapes ticking (Body 1) n p ss → (p ≡ 1) ⊎ (p ≡ 2)
comes_to zero p ss h = inl h.0
comes_to (suc n) p ss (q, ts, before, leads) = by (comes_to n q ts before)
  where
    by : (q ≡ 1) ⊎ (q ≡ 2) → (p ≡ 1) ⊎ (p ≡ 2)
    by (inl e) = inr (after_tick ts p ss (subst (λ z. Leads ts p ss z) e leads))
    by (inr e) = absurd (after_return ts p ss (subst (λ z. Leads ts p ss z) e leads))

no_stop : HasStop ticking (Body 1) → ⊥
no_stop (p, ss, r, t) = by (comes_to r.steps p ss r.way)
  where
    by : (p ≡ 1) ⊎ (p ≡ 2) → ⊥
    by (inl e) = not_true_and_false (is_stop (instr_at ticking p)) t (ap (λ z. is_stop (instr_at ticking z)) e)
    by (inr e) = not_true_and_false (is_stop (instr_at ticking p)) t (ap (λ z. is_stop (instr_at ticking z)) e)
