-- Items of lists, or what stands for one that is not there.
use Rattle.std.proofs.Common.{◌≡◌, ◌≢◌, ℕ, zero, suc, ◌-◌, refl, subst, arith, List, get_or, slice_get, Some, None, ap}
use Rattle.std.proofs.Common.{◌∙◌, sym}
use Rattle.std.proofs.lemmas.Option.{get_or_from_slice_get, unwrap_or-slice_get}
use Rattle.std.specs.Option.{unwrap_or}
use Rattle.sp_varsets.specs.declared.var_set.VarSet.{VarSet}
use Rattle.sp_varsets.specs.AreSets.{set_of_index}

pub read_or : {X : Type 0} (xs : List X) (i : ℕ) (x d : X) → slice_get xs i ≡ Some x → get_or xs i d ≡ x
read_or xs i x d e = get_or_from_slice_get xs i x d e

pub none_or : {X : Type 0} (xs : List X) (i : ℕ) (d : X) → slice_get xs i ≡ None → get_or xs i d ≡ d
none_or xs i d e = sym (unwrap_or-slice_get xs i d) ∙ ap (λ o. unwrap_or o d) e

pub chosen_none : (pool : List VarSet) (nothing : VarSet) (i : ℕ) → i ≡ 0 → nothing ≡ set_of_index pool nothing i
chosen_none pool nothing i e = ap (λ n. set_of_index pool nothing n) (sym e)

pub chosen_first : (pool : List VarSet) (nothing : VarSet) (i : ℕ) (s : VarSet) → i ≢ 0
    → slice_get pool (i - 1) ≡ Some s → s ≡ set_of_index pool nothing i
chosen_first pool nothing zero s n e = absurd (n refl)
chosen_first pool nothing (suc i) s n e = sym
    (read_or pool i s nothing (subst (λ j. slice_get pool j ≡ Some s) (less i) e))
  where
    less : (i : ℕ) → suc i - 1 ≡ i
    less i = omega arith

pub chosen_past : (pool : List VarSet) (nothing : VarSet) (i : ℕ) → i ≢ 0 → slice_get pool (i - 1) ≡ None
    → nothing ≡ set_of_index pool nothing i
chosen_past pool nothing zero n e = absurd (n refl)
chosen_past pool nothing (suc i) n e = sym (none_or pool i nothing (subst (λ j. slice_get pool j ≡ None) (less i) e))
  where
    less : (i : ℕ) → suc i - 1 ≡ i
    less i = omega arith
