-- Where no rule of types is broken, each constant has a value of an ordinal type.
use Rattle.std.proofs.Common.{◌≡◌, refl, ap, sym, ◌∙◌, subst, ℕ, zero, suc, ◌+◌, ◌≤◌, List, [], ◌∷◌, ◌++◌, Option, Some}
use Rattle.std.proofs.Common.{None, Bool, true, false, if◌then◌else◌, length, slice_get, arith}
use Rattle.std.specs.Prelude.{ℤ, pos, neg_ℤ, nat_eq, ◌||◌}
use Rattle.std.proofs.lemmas.List.{length-append}
use Rattle.std.proofs.lemmas.Bool.{not-false, or_parts}
use Rattle.sp_base.specs.declared.rule.Rule.TheVariants as rule
use Rattle.sp_tree.specs.declared.checked.KindOf.{KindOf}
use Rattle.sp_tree.specs.declared.checked.KindOf.TheVariants as kind
use Rattle.sp_tree.specs.declared.named.NamedConstant.{NamedConstant}
use Rattle.sp_tree.specs.declared.named.NamedConstant.TheVariants as constant
use Rattle.sp_tree.specs.declared.named.NamedConst.{NamedConst}
use Rattle.sp_tree.specs.declared.named.NamedValue.{NamedValue}
use Rattle.sp_tree.specs.declared.named.NamedValue.TheVariants as given
use Rattle.sp_tree.specs.declared.named.NamedKind.{NamedKind}
use Rattle.sp_tree.specs.declared.named.NamedKindForm.{NamedKindForm}
use Rattle.sp_tree.specs.declared.named.NamedKindForm.TheVariants as form
use Rattle.sp_tree.specs.PhaseResults.{refusal_list}
use Rattle.sp_tree.specs.NameFirst.{both_lists}
use Rattle.sp_types.specs.declared.tables.Ordinal.{Ordinal}
use Rattle.sp_types.specs.Tables.{table_entry, value_by, signed_value, const_value, constant_by, constants_from}
use Rattle.sp_types.specs.Tables.{is_long}
use Rattle.sp_types.specs.Tables.{has_wrong_sign, type_number, type_or, number_or, are_bounds, kinds_by, kinds_from}
use Rattle.sp_types.specs.TypeRules.{is_ordinal, const_rule, bounds_rule}
use Rattle.sp_types.specs.TypeWalk as w
use Rattle.sp_front.specs.Earlier.{HaveValues, AllHaveValues}
use Rattle.sp_front.specs.ConstantsDeclared.{IsBehind, AreBehind, IsBoundBehind, AreBoundsBehind}
use Rattle.sp_front.proofs.NoBreachInParts.{none_in_parts, none_at_site, not_if_none, nat_eq_is}

module _ (kinds : List KindOf) (integer : is_ordinal (slice_get kinds 0) ≡ true)
    (char : is_ordinal (slice_get kinds 2) ≡ true) where
  abbrev pub AreKnownOrdinals : List (Option Ordinal) → Type 0
  AreKnownOrdinals known = (i : ℕ) → suc i ≤ length known → (o : Ordinal) × (slice_get known i ≡ Some (Some o))
      × (is_ordinal (slice_get kinds o.kind) ≡ true)

  value_some : (known : List (Option Ordinal)) (v : NamedValue) → AreKnownOrdinals known → IsBehind (length known) v
      → is_long v ≡ false → (o : Ordinal) × (value_by known v ≡ Some o) × (is_ordinal (slice_get kinds o.kind) ≡ true)
  value_some known (given.Number k) h b l = (record { kind = 0; number = pos k }, refl, integer)
  value_some known (given.Quoted []) h b l = absurd (cc l)
  value_some known (given.Quoted (c ∷ [])) h b l = (record { kind = 2; number = pos c }, refl, char)
  value_some known (given.Quoted (c ∷ d ∷ t)) h b l = let e =
      nat_eq_is (suc (suc (length t))) 1 (not-false (nat_eq (suc (suc (length t))) 1) l) in absurd (omega (arith, e))
  value_some known (given.Constant k) h b l = let r = h k b in (r.0, ap table_entry r.1, r.2)

  signed_some : (sign : Option Bool) (o : Ordinal) → (u : Ordinal) × (signed_value sign (Some o) ≡ Some u)
      × (u.kind ≡ o.kind)
  signed_some None o = (o, refl, refl)
  signed_some (Some true) o = (
    record { kind = o.kind; number = if nat_eq o.kind 0 then neg_ℤ o.number else o.number },
    refl,
    refl,
  )
  signed_some (Some false) o = (o, refl, refl)

  -- a constant that is not too long
  const_some : (known : List (Option Ordinal)) (c : NamedConst) → AreKnownOrdinals known
      → IsBehind (length known) c.value
      → is_long c.value ≡ false → (o : Ordinal) × (const_value known c ≡ Some o)
      × (is_ordinal (slice_get kinds o.kind) ≡ true)
  const_some known c h b l =
      let r = value_some known c.value h b l in
      let t = signed_some c.negative r.0 in
      (t.0, ap (signed_value c.negative) r.1 ∙ t.1, subst (λ z. is_ordinal (slice_get kinds z) ≡ true) (sym t.2) r.2)

  not_long : (all : List (Option Ordinal)) (c : NamedConst) → const_rule all c ≡ None → is_long c.value ≡ false
  not_long all c e = (or_parts (is_long c.value) (has_wrong_sign c.negative (value_by all c.value))
      (not_if_none rule.Y14 c.at (is_long c.value || has_wrong_sign c.negative (value_by all c.value)) e)).0

  known_more : (known : List (Option Ordinal)) (o : Ordinal) → AreKnownOrdinals known
      → is_ordinal (slice_get kinds o.kind) ≡ true → AreKnownOrdinals (known ++ Some o ∷ [])
  known_more [] o h d zero l = (o, refl, d)
  known_more [] o h d (suc i) l = absurd (omega (arith, l))
  known_more (k ∷ known) o h d zero l = h 0 (omega arith)
  known_more (k ∷ known) o h d (suc i) l = known_more known o (λ j m. h (suc j) (omega (arith, m))) d i
      (omega (arith, l))

  pub constants_known : (numbers : List ℕ) (all known : List (Option Ordinal)) (cs : List NamedConstant)
      → AreKnownOrdinals known
      → AreBehind kinds numbers (length known) cs → w.constants_sites [] both_lists refusal_list all cs ≡ []
      → AreKnownOrdinals (constants_from numbers known cs)
      × (length (constants_from numbers known cs) ≡ length known + length cs)
  constants_known numbers all known [] h b calm = (h, omega arith)
  constants_known numbers all known (constant.Value c ∷ cs) h (b, bs) calm =
      let two = none_in_parts (refusal_list (const_rule all c)) (w.constants_sites [] both_lists refusal_list all cs)
      calm in
      let r = const_some known c h b (not_long all c (none_at_site (const_rule all c) two.0)) in
      let l = length-append known (const_value known c ∷ []) in
      let t = constants_known numbers all (known ++ const_value known c ∷ []) cs
      (subst (λ z. AreKnownOrdinals (known ++ z ∷ [])) (sym r.1) (known_more known r.0 h r.2))
      (subst (λ z. AreBehind kinds numbers z cs)
      (let z : suc (length known) ≡ length (known ++ const_value known c ∷ []) = omega (arith, l) in z) bs) two.1 in
      (t.0, (let e = t.1 in omega (arith, l, e)))
  constants_known numbers all known (constant.Enumerated k i ∷ cs) h (b, bs) calm =
      let l = length-append known (constant_by numbers known (constant.Enumerated k i) ∷ []) in
      let t = constants_known numbers all (known ++ constant_by numbers known (constant.Enumerated k i) ∷ []) cs
      (known_more known (record { kind = type_number numbers k; number = pos i }) h b)
      (subst (λ z. AreBehind kinds numbers z cs)
      (let z : suc (length known) ≡ length (known ++ constant_by numbers known (constant.Enumerated k i) ∷ []) =
      omega (arith, l) in z) bs) calm in
      (t.0, (let e = t.1 in omega (arith, l, e)))

  -- the bounds of arrays
  pub bounds_known : (all : List (Option Ordinal)) (ks : List NamedKind) → AreKnownOrdinals all
      → AreBoundsBehind (length all) ks
      → w.kinds_sites [] both_lists refusal_list all ks ≡ [] → AllHaveValues all ks
  bounds_known all [] h b calm = tt
  bounds_known all (k ∷ ks) h (b, bs) calm =
      let two = none_in_parts (w.bounds_sites [] both_lists refusal_list all k.form)
      (w.kinds_sites [] both_lists refusal_list all ks)
      calm in
      (one k.form b two.0, bounds_known all ks h bs two.1)
    where
      one : (f : NamedKindForm) → IsBoundBehind (length all) f → w.bounds_sites [] both_lists refusal_list all f ≡ []
          → HaveValues all f
      one form.Integer b c = tt
      one form.Boolean b c = tt
      one form.Char b c = tt
      one (form.Alias j) b c = tt
      one (form.Enumeration m) b c = tt
      one (form.Fields fs) b c = tt
      one (form.Channel cs) b c = tt
      one (form.Array lo hi e) b c =
          let x = none_in_parts (refusal_list (const_rule all lo))
          (both_lists (refusal_list (const_rule all hi))
          (refusal_list (bounds_rule hi.at (const_value all lo) (const_value all hi)))) c in
          let y = none_in_parts (refusal_list (const_rule all hi))
          (refusal_list (bounds_rule hi.at (const_value all lo) (const_value all hi))) x.1 in
          let u = const_some all lo h b.0 (not_long all lo (none_at_site (const_rule all lo) x.0)) in
          let v = const_some all hi h b.1 (not_long all hi (none_at_site (const_rule all hi) y.0)) in
          ((u.0, u.1), (v.0, v.1))

  -- the index of an array is of an ordinal type
  pub index_ordinal : (numbers : List ℕ) (all : List (Option Ordinal)) (ks : List NamedKind) → AreKnownOrdinals all
      → AreBoundsBehind (length all) ks → w.kinds_sites [] both_lists refusal_list all ks ≡ []
      → (k : ℕ) (low high : ℤ) (index element : ℕ)
      → slice_get (kinds_from numbers all ks) k ≡ Some (kind.Array low high index element)
      → is_ordinal (slice_get kinds index) ≡ true
  index_ordinal numbers all [] h b calm k low high index element e = absurd (cc e)
  index_ordinal numbers all (d ∷ ks) h (b, bs) calm k low high index element e =
      let two = none_in_parts (w.bounds_sites [] both_lists refusal_list all d.form)
      (w.kinds_sites [] both_lists refusal_list all ks)
      calm in
      go d.form b two.0 k e (λ j e2. index_ordinal numbers all ks h bs two.1 j low high index element e2)
    where
      index_is : (a c : ℤ) (i el : ℕ) (a2 c2 : ℤ) (i2 el2 : ℕ)
          → Some (kind.Array a c i el) ≡ Some (kind.Array a2 c2 i2 el2) → i ≡ i2
      index_is a c i el a2 c2 i2 el2 e = cc e

      go : (f : NamedKindForm) → IsBoundBehind (length all) f → w.bounds_sites [] both_lists refusal_list all f ≡ []
          → (k : ℕ)
          → slice_get (kinds_by numbers all f ++ kinds_from numbers all ks) k ≡ Some (kind.Array low high index element)
          → ((j : ℕ) → slice_get (kinds_from numbers all ks) j ≡ Some (kind.Array low high index element)
          → is_ordinal (slice_get kinds index) ≡ true) → is_ordinal (slice_get kinds index) ≡ true
      go form.Integer b c zero e next = absurd (cc e)
      go form.Integer b c (suc k) e next = next k e
      go form.Boolean b c zero e next = absurd (cc e)
      go form.Boolean b c (suc k) e next = next k e
      go form.Char b c zero e next = absurd (cc e)
      go form.Char b c (suc k) e next = next k e
      go (form.Alias j) b c k e next = next k e
      go (form.Enumeration m) b c zero e next = absurd (cc e)
      go (form.Enumeration m) b c (suc k) e next = next k e
      go (form.Fields fs) b c zero e next = absurd (cc e)
      go (form.Fields fs) b c (suc k) e next = next k e
      go (form.Channel cs) b c zero e next = absurd (cc e)
      go (form.Channel cs) b c (suc k) e next = next k e
      go (form.Array lo hi el) b c (suc k) e next = next k e
      go (form.Array lo hi el) b c zero e next =
          let x = none_in_parts (refusal_list (const_rule all lo))
          (both_lists (refusal_list (const_rule all hi))
          (refusal_list (bounds_rule hi.at (const_value all lo) (const_value all hi)))) c in
          let u = const_some all lo h b.0 (not_long all lo (none_at_site (const_rule all lo) x.0)) in
          let is = by (are_bounds all lo hi) e in
          subst (λ z. is_ordinal (slice_get kinds z) ≡ true) (sym (ap (type_or 0) u.1) ∙ is) u.2
        where
          by : (z : Bool) → Some (if z then kind.Array (number_or (pos 1) (const_value all lo))
              (number_or (pos 0) (const_value all hi)) (type_or 0 (const_value all lo)) (type_number numbers el) else
              kind.Array (pos 1) (pos 0) (type_or 0 (const_value all lo)) (type_number numbers el))
              ≡ Some (kind.Array low high index element) → type_or 0 (const_value all lo) ≡ index
          by true e = index_is (number_or (pos 1) (const_value all lo)) (number_or (pos 0) (const_value all hi))
              (type_or 0 (const_value all lo)) (type_number numbers el) low high index element e
          by false e = index_is (pos 1) (pos 0) (type_or 0 (const_value all lo)) (type_number numbers el) low high index
              element e
