-- A call that repeats an earlier one fails a test where that one does.
use Rattle.std.proofs.Common.{◌≡◌, ◌⊎◌, inl, inr, ⊎_elim, refl, sym, ◌∙◌, ap, subst, ℕ, zero, suc, ◌+◌, ◌<◌}
use Rattle.std.proofs.Common.{List, [], ◌∷◌, ◌++◌, length, Option, Some, None, Bool, true, false, ◌&&◌}
use Rattle.std.specs.Prelude.{not}
use Rattle.std.proofs.lemmas.Option.{none-some, same_Some}
use Rattle.sp_base.proofs.Facts.{below_or_last}
use Rattle.sp_code.specs.declared.instr.Instr.{Instr}
use Rattle.sp_code.specs.declared.instr.Instr.TheVariants as i
use Rattle.sp_code.specs.declared.code.Parts.{Parts}
use Rattle.sp_verify_rules.specs.Areas.{on_option, instr_at}
use Rattle.sp_verify_rules.specs.Rules.{call_fits}
use Rattle.sp_verify_areas.specs.declared.owners.Owner.{Owner}
use Rattle.sp_verify_areas.specs.Alone.{flag_at}
use Rattle.sp_verify_shapes.specs.declared.shapes.Shapes.{Shapes}
use Rattle.sp_verify_shapes.specs.Stacks.{list_of}
use Rattle.sp_verify_shapes.specs.ReachRules.{reached_at, fails_at}
use Rattle.sp_verify_shapes.specs.Repeats.{called_block, Repeats, AreRepeats}

pub called_is : (o : Option Instr) (f : ℕ) → called_block o ≡ Some f → (up : ℕ) × (o ≡ Some (i.Call f up))
called_is None f e = absurd (none-some f e)
called_is (Some (i.Call b up)) f e = (up, ap (λ z. Some (i.Call z up)) (same_Some b f e))
called_is (Some o) f e = absurd (none-some f e)

-- ---- flags

flag_pushed : (fs : List Bool) (b : Bool) (n : ℕ) → flag_at (fs ++ b ∷ []) n ≡ true → (flag_at fs n ≡ true)
    ⊎ ((n ≡ length fs) × (b ≡ true))
flag_pushed [] b zero e = inr (refl, e)
flag_pushed [] b (suc n) e = absurd (cc e)
flag_pushed (f ∷ fs) b zero e = inl e
flag_pushed (f ∷ fs) b (suc n) e = ⊎_elim (λ h. inl h) (λ h. inr (ap suc h.0, h.1)) (flag_pushed fs b n e)

-- the flags of one instruction more
pub more_repeats : (c : Parts) (os : List Owner) (s : Shapes) (fs : List Bool) (b : Bool) (p : ℕ) → length fs ≡ p
    → (b ≡ true → (q : ℕ) × Repeats c os s p q) → AreRepeats c os s fs → AreRepeats c os s (fs ++ b ∷ [])
more_repeats c os s fs b p size new h n e =
    ⊎_elim (h n) (λ (w : (n ≡ length fs) × (b ≡ true)).
    subst (λ m. (q : ℕ) × Repeats c os s m q) (sym (w.0 ∙ size)) (new w.1))
    (flag_pushed fs b n e)

-- ---- a call that repeats an earlier one

module _ (c : Parts) (s : Shapes) where
  -- a call fails by its block and its list
  fails_is : (p b n : ℕ) → called_block (instr_at c p) ≡ Some b → reached_at s p ≡ Some n
      → fails_at (call_fits c) c s p ≡ not (call_fits c (Some (i.Call b 0)) (list_of s.stacks n))
  fails_is p b n e r =
      ap (λ o. on_option false (on_option None o (λ m. Some (list_of s.stacks m)))
      (λ ss. not (call_fits c (instr_at c p) ss))) r
      ∙ ap (λ o. not (call_fits c o (list_of s.stacks n))) (called_is (instr_at c p) b e).1

  pub fails_again : (os : List Owner) (p q : ℕ) → Repeats c os s p q
      → fails_at (call_fits c) c s p ≡ fails_at (call_fits c) c s q
  fails_again os p q h = fails_is p h.block h.list h.calls h.comes ∙ sym (fails_is q h.block h.list h.called h.came)

-- what fails at no earlier instruction, and not at one that repeats none, does not fail there
pub not_here : (P : ℕ → Bool) (flag : Bool) (p : ℕ) → (flag ≡ true → (q : ℕ) × (q < p) × (P p ≡ P q))
    → ((k : ℕ) → k < p → P k ≡ false) → (not flag && P p) ≡ false → P p ≡ false
not_here P true p again none e = let r = again refl in r.2 ∙ none r.0 r.1
not_here P false p again none e = e

pub none_more : (P : ℕ → Bool) (p : ℕ) → P p ≡ false → ((k : ℕ) → k < p → P k ≡ false) → (k : ℕ) → k < p + 1
    → P k ≡ false
none_more P p e none k l = ⊎_elim (none k) (λ s. ap P s ∙ e) (below_or_last k p l)
