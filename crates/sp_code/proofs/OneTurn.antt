-- One turn is a function, and what is computed of it is so.
use Rattle.std.proofs.Common.{◌≡◌, ℕ, zero, suc, Bool, true, false, refl, sym, ap, ◌∙◌, subst}
use Rattle.sp_base.specs.declared.fault.Fault.TheVariants as fault
use Rattle.sp_code.specs.declared.code.Parts.{Parts}
use Rattle.sp_code.specs.Machine.{Config, StepResult, Goes, Stops, Fails, Stuck, Ops, next_step}
use Rattle.sp_code.specs.Turns.{Turn, Stopped, Faulted, TurnProgress, Ended, Lacks, BeginsOrFaults, RunsIn, RunsTo}
use Rattle.sp_code.specs.Turns.{EndsSo, Runs}
use Rattle.sp_code.specs.Turns.{frames_fit}
use Rattle.sp_code.specs.Turns.{IsTurn, run_after_step, run_within, run_if_begun, turn_within}

module _ {M : Type 0} (ops : Ops M) (code : Parts) where
  -- an instruction ends a turn in one way, or goes on
  ends_same : (c : Config M) (t u : Turn M) → EndsSo ops code c t → EndsSo ops code c u → t ≡ u
  ends_same c (Stopped s d) (Stopped r e) h k = cc
  ends_same c (Stopped s d) (Faulted f e) h k = let w = k.0 in cc
  ends_same c (Faulted f d) (Stopped s e) h k = let w = h.0 in cc
  ends_same c (Faulted f d) (Faulted g e) h k = let w = h.0 in let x = k.0 in let y = h.1 in let z = k.1 in cc

  goes_not : (c d : Config M) (t : Turn M) → next_step ops code c ≡ Goes d → EndsSo ops code c t → ⊥
  goes_not c d (Stopped s e) h k = cc
  goes_not c d (Faulted f e) h k = let w = k.0 in cc

  pub same_config : (c d e : Config M) → next_step ops code c ≡ Goes d → next_step ops code c ≡ Goes e → d ≡ e
  same_config c d e h k = cc

  same_end : (m n : ℕ) (c d e : Config M) (t u : Turn M) → RunsIn ops code m c d → EndsSo ops code d t
      → RunsIn ops code n c e → EndsSo ops code e u → t ≡ u
  same_end zero zero c d e t u h x k y = ends_same c t u (subst (λ (b : Config M). EndsSo ops code b t) (sym h) x)
      (subst (λ (b : Config M). EndsSo ops code b u) (sym k) y)
  same_end zero (suc n) c d e t u h x k y = absurd
      (goes_not c k.0 t k.1 (subst (λ (b : Config M). EndsSo ops code b t) (sym h) x))
  same_end (suc m) zero c d e t u h x k y = absurd
      (goes_not c h.0 u h.1 (subst (λ (b : Config M). EndsSo ops code b u) (sym k) y))
  same_end (suc m) (suc n) c d e t u h x k y =
      same_end m n h.0 d e t u h.2 x (subst (λ (b : Config M). RunsIn ops code n b e) (same_config c k.0 h.0 k.1 h.1)
      k.2) y

  pub turn_same : (c : Config M) (t u : Turn M) → IsTurn ops code c t → IsTurn ops code c u → t ≡ u
  turn_same c t u = go (frames_fit ops code c)
    where
      go : (b : Bool) → BeginsOrFaults b c t (Runs ops code c t) → BeginsOrFaults b c u (Runs ops code c u) → t ≡ u
      go true h k = same_end h.1.steps k.1.steps c h.0 k.0 t u h.1.proof h.2 k.1.proof k.2
      go false h k = h ∙ sym k

  -- what is computed

  ended_is : (t u : Turn M) → ◌≡◌ {A = TurnProgress M} (Ended t) (Ended u) → t ≡ u
  ended_is t u e = cc

  further : (c d e : Config M) → next_step ops code c ≡ Goes d → RunsTo ops code d e → RunsTo ops code c e
  further c d e h k = record { steps = suc k.steps; proof = (d, h, k.proof) }

  pub ran_ended : (n : ℕ) (c : Config M) (t : Turn M) → run_within ops code n c ≡ Ended t → Runs ops code c t
  ran_ended zero c t e = absurd cc
  ran_ended (suc n) c t e = go (λ d k. ran_ended n d t k) (next_step ops code c) refl e
    where
      go : ((d : Config M) → run_within ops code n d ≡ Ended t → Runs ops code d t) → (o : StepResult M)
          → next_step ops code c ≡ o
          → run_after_step ops code (run_within ops code n) c o ≡ Ended t → Runs ops code c t
      go on (Goes d) h k = let r : Runs ops code d t = on d k in (r.0, further c d r.0 h r.1, r.2)
      go on (Stops s d) h k = (
        c,
        record { steps = 0; proof = refl },
        subst (EndsSo ops code c) (ended_is (Stopped s d) t k) h,
      )
      go on (Fails f) h k = (
        c,
        record { steps = 0; proof = refl },
        subst (EndsSo ops code c) (ended_is (Faulted f c) t k) (h, refl),
      )
      go on Stuck h k = absurd cc

  pub ran_lacks : (n : ℕ) (c d : Config M) → run_within ops code n c ≡ Lacks d → RunsTo ops code c d
      × (next_step ops code d ≡ Stuck)
  ran_lacks zero c d e = absurd cc
  ran_lacks (suc n) c d e = go (λ b k. ran_lacks n b d k) (next_step ops code c) refl e
    where
      go : ((b : Config M) → run_within ops code n b ≡ Lacks d → RunsTo ops code b d × (next_step ops code d ≡ Stuck))
          → (o : StepResult M)
          → next_step ops code c ≡ o → run_after_step ops code (run_within ops code n) c o ≡ Lacks d
          → RunsTo ops code c d
          × (next_step ops code d ≡ Stuck)
      go on (Goes b) h k = let r : RunsTo ops code b d × (next_step ops code d ≡ Stuck) = on b k in
          (further c b d h r.0, r.1)
      go on (Stops s b) h k = absurd cc
      go on (Fails f) h k = absurd cc
      go on Stuck h k = let w : c ≡ d = cc in (record { steps = 0; proof = w }, ap (next_step ops code) (sym w) ∙ h)

  pub within_ended : (n : ℕ) (c : Config M) (t : Turn M) → turn_within ops code n c ≡ Ended t → IsTurn ops code c t
  within_ended n c t = go (frames_fit ops code c)
    where
      go : (b : Bool) → run_if_begun ops code n b c ≡ Ended t → BeginsOrFaults b c t (Runs ops code c t)
      go true e = ran_ended n c t e
      go false e = sym (ended_is (Faulted fault.F12 c) t e)

  pub within_lacks : (n : ℕ) (c d : Config M) → turn_within ops code n c ≡ Lacks d → (frames_fit ops code c ≡ true)
      × RunsTo ops code c d × (next_step ops code d ≡ Stuck)
  within_lacks n c d = go (frames_fit ops code c) refl
    where
      go : (b : Bool) → frames_fit ops code c ≡ b → run_if_begun ops code n b c ≡ Lacks d
          → (frames_fit ops code c ≡ true)
          × RunsTo ops code c d × (next_step ops code d ≡ Stuck)
      go true w e = let r = ran_lacks n c d e in (w, r.0, r.1)
      go false w e = absurd cc
