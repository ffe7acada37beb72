-- What an instruction names by what is around it: by the tests of its one area, none of the points on that is broken.
use Rattle.std.proofs.Common.{◌≡◌, inl, inr, ⊎_elim, refl, ap, sym, ◌∙◌, ℕ, ◌<◌, length, Option, Some, None}
use Rattle.std.proofs.Common.{Bool, true, false, ◌&&◌}
use Rattle.std.specs.Prelude.{not}
use Rattle.std.proofs.lemmas.Option.{slice_get_within}
use Rattle.std.proofs.lemmas.Bool.{and_cases, and_left, and_right, not-true, not_from_false}
use Rattle.sp_base.proofs.Facts.{not_true_and_false}
use Rattle.sp_code.specs.declared.instr.Instr.{Instr}
use Rattle.sp_code.specs.declared.instr.Instr.TheVariants as i
use Rattle.sp_code.specs.declared.code.Parts.{Parts}
use Rattle.sp_verify_rules.specs.Areas.{Area, Body, Child, VariableInfo, on_option, instr_at, variable_at}
use Rattle.sp_verify_rules.specs.NameRules.{is_some, is_loop_variable, is_plain, is_reference, level_fits, in_range}
use Rattle.sp_verify_rules.specs.NameRules.{names_well}
use Rattle.sp_verify_rules.specs.NameRules.{loops_well}
use Rattle.sp_verify_areas.specs.declared.owners.Owner.{Owner}
use Rattle.sp_verify_areas.specs.declared.owners.Owner.TheVariants as owner
use Rattle.sp_verify_areas.specs.WrongNames.{MisnamesOnly, fits, Decides}
use Rattle.sp_verify_areas.specs.Only.{LiesOnlyIn}
use Rattle.sp_verify_areas.specs.Owners.{owner_of, IsOnly, Owns}
use Rattle.sp_verify_areas.proofs.Surroundings.{owner_is}

nothing : (o : Option VariableInfo) → is_some o ≡ false → o ≡ None
nothing None e = refl
nothing (Some f) e = absurd (cc e)

module _ (c : Parts) where
  -- a variable that is not there may not be named
  no_plain : (o : Option VariableInfo) → is_some o ≡ false → on_option false o (λ f. is_plain f.naming) ≡ false
  no_plain o e = ap (λ (u : Option VariableInfo). on_option false u (λ f. is_plain f.naming)) (nothing o e)

  no_reference : (o : Option VariableInfo) → is_some o ≡ false → on_option false o (λ f. is_reference f.naming) ≡ false
  no_reference o e = ap (λ (u : Option VariableInfo). on_option false u (λ f. is_reference f.naming)) (nothing o e)

  no_loop : (o : Option VariableInfo) → is_some o ≡ false → is_loop_variable o ≡ false
  no_loop o e = ap is_loop_variable (nothing o e)

  ranged : (a : Area) (o : Option Instr) → in_range c a o ≡ false → (names_well c a o && loops_well c a o) ≡ false
  ranged a (Some (i.Addr up var)) e = and_left (names_well c a (Some (i.Addr up var))) true
      (no_plain (variable_at c a up var) e)
  ranged a (Some (i.Deref up var)) e = and_left (names_well c a (Some (i.Deref up var))) true
      (no_reference (variable_at c a up var) e)
  ranged a (Some (i.Forup var to)) e = no_loop (variable_at c a 0 var) e
  ranged a (Some (i.Fordown var to)) e = no_loop (variable_at c a 0 var) e
  ranged a (Some (i.Nextup var to)) e = no_loop (variable_at c a 0 var) e
  ranged a (Some (i.Nextdown var to)) e = no_loop (variable_at c a 0 var) e
  ranged a o e = absurd (cc e)

  pub misnames_yes : (a : Area) (p : ℕ) → LiesOnlyIn c p a → fits c a (instr_at c p) ≡ false → MisnamesOnly c p
  misnames_yes a p l e =
      ⊎_elim (λ h. inl (a, l, h)) (λ h. ⊎_elim (λ h. inr (inr (inl (a, l, h)))) (λ h. inr (inr (inr (a, l, h))))
      (and_cases (names_well c a (instr_at c p)) (loops_well c a (instr_at c p)) h))
      (and_cases (level_fits c a (instr_at c p)) (names_well c a (instr_at c p) && loops_well c a (instr_at c p)) e)

  unfit : (p : ℕ) → MisnamesOnly c p → (a : Area) × LiesOnlyIn c p a × (fits c a (instr_at c p) ≡ false)
  unfit p (inl (a, l, h)) = (
    a,
    l,
    and_left (level_fits c a (instr_at c p)) (names_well c a (instr_at c p)
        && loops_well c a (instr_at c p)) h,
  )
  unfit p (inr (inl (a, l, h))) = (
    a,
    l,
    and_right (level_fits c a (instr_at c p)) (names_well c a (instr_at c p)
        && loops_well c a (instr_at c p)) (ranged a (instr_at c p) h),
  )
  unfit p (inr (inr (inl (a, l, h)))) = (
    a,
    l,
    and_right (level_fits c a (instr_at c p)) (names_well c a (instr_at c p)
        && loops_well c a (instr_at c p))
        (and_left (names_well c a (instr_at c p)) (loops_well c a (instr_at c p)) h),
  )
  unfit p (inr (inr (inr (a, l, h)))) = (
    a,
    l,
    and_right (level_fits c a (instr_at c p)) (names_well c a (instr_at c p)
        && loops_well c a (instr_at c p))
        (and_right (names_well c a (instr_at c p)) (loops_well c a (instr_at c p)) h),
  )

  -- a test by the one area decides it; where there is no one area, it is not broken
  pub decides_one : (p : ℕ) (t : Bool) (o : Owner) → IsOnly c p o
      → ((a : Area) → LiesOnlyIn c p a → t ≡ fits c a (instr_at c p)) → Decides (not t) (MisnamesOnly c p)
  decides_one p t o h test = record { yes = yes; no = no }
    where
      one : LiesOnlyIn c p h.area
      one = (h.lies, h.only)

      yes : not t ≡ true → MisnamesOnly c p
      yes e = misnames_yes h.area p one (sym (test h.area one) ∙ not-true t e)

      no : not t ≡ false → MisnamesOnly c p → ⊥
      no e m = let u = unfit p m in not_true_and_false (not t) (not_from_false t (test u.0 u.1 ∙ u.2)) e

  pub decides_nobody : (p : ℕ) → Owns c p owner.Nobody → Decides false (MisnamesOnly c p)
  decides_nobody p h = record { yes = λ e. absurd (cc e); no = λ e m. let (a, (lies, _), _) = unfit p m in h a lies }

  pub decides_several : (p : ℕ) → Owns c p owner.Several → Decides false (MisnamesOnly c p)
  decides_several p h = record {
    yes = λ e. absurd (cc e);
    no = λ e m. apart (unfit p m).0
        (owner_is c p owner.Several (unfit p m).0 h (unfit p m).1);
  }
    where
      apart : (a : Area) → owner.Several ≡ owner_of a → ⊥
      apart (Body b) e = cc e
      apart (Child a q k) e = cc e

  pub misnames_within : (p : ℕ) → MisnamesOnly c p → p < length c.instrs
  misnames_within p m = go (instr_at c p) refl (unfit p m).2
    where
      go : (o : Option Instr) → instr_at c p ≡ o → fits c (unfit p m).0 (instr_at c p) ≡ false → p < length c.instrs
      go None e f = absurd (let s = sym (ap (fits c (unfit p m).0) e) ∙ f in cc (s))
      go (Some i) e f = slice_get_within c.instrs p i e
