-- What is seen of a process in the state behind a journal, and where its last turn ended.
use Rattle.std.proofs.Common.{◌≡◌, ℕ, ◌==◌, zero, suc, ◌+◌, ◌<◌, ◌≤◌, List, [], ◌∷◌, drop, get_or, length, Option, Some}
use Rattle.std.proofs.Common.{None, refl, sym, ap, ap₂, ◌∙◌, subst, arith, slice_get, slice_set}
use Rattle.std.proofs.Math.Path.{fun_ext}
use Rattle.std.proofs.lemmas.List.{drop_all}
use Rattle.std.proofs.lemmas.Option.{same_Some}
use Rattle.std.specs.Prelude.{MatchOption}
use Rattle.sp_cell.specs.Map.{Plain}
use Rattle.sp_journal.specs.declared.entry.Entry.{Entry}
use Rattle.sp_journal.specs.Maps.{at_key}
use Rattle.sp_code.specs.System.{Condition, Absent, Working, Gone}
use Rattle.sp_code.specs.Agreement.{phase_in, Running}
use Rattle.sp_kernel.proofs.Tables.{table_set}
use Rattle.sp_kernel.specs.Views.{IsUnseen}
use Rattle.sp_lines.specs.declared.entry_place.Told.{Told}
use Rattle.sp_lines.specs.EntryPlaces.{lasts_after}
use Rattle.sp_replay.specs.TraceAnswers.{IsNowhere, last_in, never, or_zero}

-- who is not seen in the kernel and does not run is nowhere
pub nowhere : (x : Condition Plain) → IsUnseen x → (phase_in x ≡ Running → ⊥) → IsNowhere x
nowhere Absent u n = tt {0}
nowhere (Working c) u n = n refl
nowhere Gone u n = tt {0}
nowhere _ u _ = u

-- of what is none, something else may be said
pub on_none : {X : Type 0} (o : Option X) (P Q : Type 0) (R : X → Type 0) → (P → Q) → MatchOption o P R
    → MatchOption o Q R
on_none None P Q R f h = f h
on_none (Some x) P Q R f h = h

-- another number in a place
pub last_set : (ls : List ℕ) (p at : ℕ) → p < length ls → (q : ℕ)
    → last_in (slice_set ls p at) q ≡ at_key ◌==◌ p at (last_in ls) q
last_set ls p at l q = ap (λ (f : ℕ → ℕ). f q) (table_set or_zero ls p at l)

-- ---- the last turn of each process

drop_at : {A : Type 0} (xs : List A) (n : ℕ) (x : A) → slice_get xs n ≡ Some x → drop n xs ≡ x ∷ drop (suc n) xs
drop_at [] n x e = absurd (cc e)
drop_at (y ∷ ys) zero x e = ap (λ z. z ∷ ys) (same_Some y x e)
drop_at (y ∷ ys) (suc n) x e = drop_at ys n x e

pub told_at : (ws : List Told) (n : ℕ) (w : Told) → n < length ws → w ≡ get_or ws n w → slice_get ws n ≡ Some w
told_at [] n w l e = absurd (omega (arith, l))
told_at (x ∷ ws) zero w l e = ap Some (sym e)
told_at (x ∷ ws) (suc n) w l e = told_at ws n w (omega (arith, l)) e

-- what is left of the entries leads from these numbers to those of all
abbrev pub LastsFrom : List Entry → List Told → ℕ → List ℕ → Type 0
LastsFrom es ws n ls = (q : ℕ) → lasts_after (drop n es) (drop n ws) (last_in ls) q ≡ lasts_after es ws never q

no_more_told : (es : List Entry) (at : ℕ → ℕ) (q : ℕ) → lasts_after es [] at q ≡ at q
no_more_told [] at q = refl
no_more_told (e ∷ es) at q = refl

pub lasts_told : (es : List Entry) (ws : List Told) (n : ℕ) (ls : List ℕ) → LastsFrom es ws n ls → length ws ≤ n
    → (q : ℕ) → last_in ls q ≡ lasts_after es ws never q
lasts_told es ws n ls from l q =
    sym (ap (λ (rest : List Told). lasts_after (drop n es) rest (last_in ls) q) (drop_all n ws l)
    ∙ no_more_told (drop n es) (last_in ls) q) ∙ from q

one_last : (es : List Entry) (ws : List Told) (n : ℕ) (e : Entry) (w : Told) (ls new : List ℕ)
    → slice_get es n ≡ Some e → slice_get ws n ≡ Some w
    → ((q : ℕ) → last_in new q ≡ at_key ◌==◌ e.process w.instruction (last_in ls) q) → LastsFrom es ws n ls
    → LastsFrom es ws (suc n) new
one_last es ws n e w ls new a b put from q =
    ap (λ (f : ℕ → ℕ). lasts_after (drop (suc n) es) (drop (suc n) ws) f q) (fun_ext put)
    ∙ sym (ap₂ (λ (x : List Entry) (y : List Told). lasts_after x y (last_in ls) q) (drop_at es n e a)
    (drop_at ws n w b))
    ∙ from q

pub lasts_more : (es : List Entry) (ws : List Told) (n : ℕ) (e : Entry) (w : Told) (ls new : List ℕ)
    → slice_get es n ≡ Some e → slice_get ws n ≡ Some w
    → ((q : ℕ) → last_in new q ≡ at_key ◌==◌ e.process w.instruction (last_in ls) q) → LastsFrom es ws n ls
    → LastsFrom es ws (n + 1) new
lasts_more es ws n e w ls new a b put from =
    let next : suc n ≡ n + 1 = omega arith in
    subst (λ (k : ℕ). LastsFrom es ws k new) next (one_last es ws n e w ls new a b put from)
