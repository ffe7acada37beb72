-- The states after births: the children of a fork, and everybody else.
use Rattle.std.proofs.Common.{◌≡◌, ℕ, zero, suc, ◌+◌, ◌<◌, List, [], ◌∷◌, length, Some, Bool, true, false, refl, sym}
use Rattle.std.proofs.Common.{ap, ◌∙◌, subst, arith, add-zero}
use Rattle.std.specs.Prelude.{◌≢◌, slice_get}
use Rattle.sp_base.proofs.Facts.{is_plus_none, next_goes_right, same_head}
use Rattle.sp_meaning.specs.Maps.{at_key as put_at}
use Rattle.sp_meaning.specs.Model.{Name, same_name, Works, Becomes, with_change, with_changes as After}
use Rattle.sp_meaning.specs.Steps.{birth_changes}
use Rattle.sp_meaning.specs.LocalWork.{RunInput, LocalState, Identity, Process}
use Rattle.sp_meaning.specs.Actions.{Birth, new_process, new_processes}
use Rattle.sp_meaning.specs.SuperPascal.{superpascal}
use Rattle.sp_meaning.specs.Runs.{StateOf}
use Rattle.sp_meaning.proofs.Keys.{name_test}
use Rattle.sp_meaning.proofs.Maps.{at_same, at_other}
use Rattle.sp_meaning.proofs.RightsInvariant.{after_births}
use Rattle.sp_meaning.proofs.StepLaws.{Conditions}
use Rattle.sp_link.proofs.Relation.{BirthRights}

abbrev pub cons : ℕ × ℕ → Name → Name
cons a w = a ∷ w

-- births change conditions alone
pub born_is : (g : RunInput) (p : Name) (k i : ℕ) (os : List Process) (s : StateOf g)
    → After {L = superpascal g} (birth_changes {L = superpascal g} p k i os) s
    ≡ record s { condition = after_births g.program p k i os s.condition }
born_is g p k i [] s = refl
born_is g p k i (o ∷ os) s =
    born_is g p k (suc i) os (with_change {L = superpascal g} (Becomes ((k, i) ∷ p) (Works o)) s)

module _ (g : RunInput) (p : Name) (k : ℕ) where
  -- who is none of the children is as before
  pub born_else : (i : ℕ) (os : List Process) (m : Conditions) (r : Name)
      → ((j : ℕ) → j < length os → r ≢ (k, i + j) ∷ p)
      → after_births g.program p k i os m r ≡ m r
  born_else i [] m r ne = refl
  born_else i (o ∷ os) m r ne =
      born_else (suc i) os (put_at same_name ((k, i) ∷ p) (Works o) m) r
      (λ j lt e. ne (suc j) (omega (arith, lt)) (subst (λ a. r ≡ (k, a) ∷ p) (next_goes_right i j) e))
      ∙ at_other name_test m ((k, i) ∷ p) r (Works o)
      (λ e. ne 0 (omega arith) (sym e ∙ ap (λ a. cons (k, a) p) (is_plus_none i)))

  -- and each child works
  pub born_at : (i : ℕ) (os : List Process) (m : Conditions) (j : ℕ) (o : Process) → slice_get os j ≡ Some o
      → after_births g.program p k i os m ((k, i + j) ∷ p) ≡ Works o
  born_at i [] m j o e = absurd (cc e)
  born_at i (a ∷ os) m zero o e =
      let same : a ≡ o = cc e in
      ap (λ b. after_births g.program p k (suc i) os (put_at same_name ((k, i) ∷ p) (Works a) m) ((k, b) ∷ p))
      (add-zero i)
      ∙ born_else (suc i) os (put_at same_name ((k, i) ∷ p) (Works a) m) ((k, i) ∷ p)
      (λ j lt f. (let h : i ≡ suc i + j = ap (λ (z : ℕ × ℕ). z.1) (same_head f) in
      omega (arith, h)))
      ∙ at_same name_test m ((k, i) ∷ p) (Works a) ∙ ap Works same
  born_at i (a ∷ os) m (suc j) o e = subst (λ b. after_births g.program p k (suc i) os
      (put_at same_name ((k, i) ∷ p) (Works a) m) ((k, b) ∷ p) ≡ Works o) (next_goes_right i j)
      (born_at (suc i) os (put_at same_name ((k, i) ∷ p) (Works a) m) j o e)

-- each birth has its newborn
pub newborns_at : (w : Identity) (o : LocalState) (i : ℕ) (bs : List Birth) (j : ℕ) (b : Birth)
    → slice_get bs j ≡ Some b
    → slice_get (new_processes w o i bs) j ≡ Some (new_process w o (i + j) b)
newborns_at w o i [] j b e = absurd (cc e)
newborns_at w o i (a ∷ bs) zero b e = let same : a ≡ b = cc e in
    ap (λ z. Some (new_process w o i z)) same ∙ ap (λ z. Some (new_process w o z b)) (is_plus_none i)
newborns_at w o i (a ∷ bs) (suc j) b e = newborns_at w o (suc i) bs j b e
    ∙ ap (λ z. Some (new_process w o z b)) (next_goes_right i j)

pub newborns_length : (w : Identity) (o : LocalState) (i : ℕ) (bs : List Birth) → length (new_processes w o i bs)
    ≡ length bs
newborns_length w o i [] = refl
newborns_length w o i (b ∷ bs) = ap suc (newborns_length w o (suc i) bs)

-- one life or the other
abbrev pub pick : Bool → BirthRights → BirthRights → BirthRights
pick true a b = a
pick false a b = b
