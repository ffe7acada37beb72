-- Where no rule of types is broken, an array or record is of earlier types, and an array is not empty.
use Rattle.std.proofs.Common.{◌≡◌, refl, ap, sym, subst, ℕ, zero, suc, ◌+◌, ◌≤◌, List, [], ◌∷◌, ◌++◌, Option, Some}
use Rattle.std.proofs.Common.{Bool, true, false, if◌then◌else◌, ◌&&◌, length, slice_get, arith}
use Rattle.std.specs.Prelude.{pos, int_le, not, nat_eq, map, ◌||◌}
use Rattle.std.proofs.lemmas.List.{length-append}
use Rattle.std.proofs.lemmas.Bool.{not-false, or_parts}
use Rattle.std.proofs.lemmas.Option.{same_Some}
use Rattle.sp_base.specs.declared.rule.Rule.TheVariants as rule
use Rattle.sp_base.proofs.Facts.{get_in_front, second_true}
use Rattle.sp_tree.specs.declared.checked.KindOf.{KindOf}
use Rattle.sp_tree.specs.declared.checked.KindOf.TheVariants as kind
use Rattle.sp_tree.specs.declared.named.NamedConst.{NamedConst}
use Rattle.sp_tree.specs.declared.named.NamedKind.{NamedKind}
use Rattle.sp_tree.specs.declared.named.NamedKindForm.{NamedKindForm}
use Rattle.sp_tree.specs.declared.named.NamedKindForm.TheVariants as form
use Rattle.sp_tree.specs.Cells.{first_or, sizes}
use Rattle.sp_tree.specs.PlainSyntax as syntax
use Rattle.sp_tree.specs.NamedTree.{program_named}
use Rattle.sp_tree.specs.NameFirst.{broken_name_rules}
use Rattle.sp_types.specs.TypeFirst.{types_broken}
use Rattle.sp_front.proofs.DeclarationOrder.{program_earlier}
use Rattle.sp_tree.specs.PhaseResults.{refusal_list}
use Rattle.sp_tree.specs.NameFirst.{both_lists}
use Rattle.sp_types.specs.declared.tables.Ordinal.{Ordinal}
use Rattle.sp_types.specs.Tables.{constants_of, numbers_of, env_of, number_by, next_by, numbers_from, type_number}
use Rattle.sp_types.specs.Tables.{const_value, value_by, has_wrong_sign, is_long, are_wrong, number_or, type_or}
use Rattle.sp_types.specs.Tables.{array_of, kinds_by, kinds_from}
use Rattle.sp_types.specs.TypeRules.{const_rule, bounds_rule}
use Rattle.sp_types.specs.TypeWalk as w
use Rattle.sp_tree.specs.TreeShape.{AreBefore}
use Rattle.sp_front.specs.Earlier.{IsEarlier, AreEarlier, HasValue, HaveValues, AllHaveValues, IsFormedKind}
use Rattle.sp_front.specs.Earlier.{AreFormedKinds}
use Rattle.sp_front.proofs.NoBreachInParts.{none_in_parts, none_at_site, not_if_none}

abbrev Below : ℕ → List ℕ → Type 0
Below next xs = (i x : ℕ) → slice_get xs i ≡ Some x → suc x ≤ next

get_within : (xs : List ℕ) (i : ℕ) → suc i ≤ length xs → (x : ℕ) × (slice_get xs i ≡ Some x)
get_within [] i l = absurd (omega (arith, l))
get_within (y ∷ xs) zero l = (y, refl)
get_within (y ∷ xs) (suc i) l = get_within xs i (omega (arith, l))

below_more : (next more y : ℕ) (xs : List ℕ) → Below next xs → next ≤ more → suc y ≤ more → Below more (xs ++ y ∷ [])
below_more next more y [] h l r zero x e = subst (λ z. suc z ≤ more) (same_Some y x e) r
below_more next more y [] h l r (suc i) x e = absurd (cc e)
below_more next more y (z ∷ xs) h l r zero x e = let b = h 0 x e in omega (arith, b, l)
below_more next more y (z ∷ xs) h l r (suc i) x e = below_more next more y xs (λ i x e. h (suc i) x e) l r i x e

pub keeps : (known : List ℕ) (next : ℕ) (ks : List NamedKind) (i x : ℕ) → slice_get known i ≡ Some x
    → slice_get (numbers_from known next ks) i ≡ Some x
keeps known next [] i x e = e
keeps known next (k ∷ ks) i x e = keeps (known ++ number_by known next k.form ∷ []) (next_by next k.form) ks i x
    (get_in_front known (number_by known next k.form ∷ []) i x e)

-- the bounds of an array
array_formed : (known : List (Option Ordinal)) (a b : NamedConst) (e el i : ℕ)
    → w.bounds_sites [] both_lists refusal_list known (form.Array a b e) ≡ [] → HasValue known a → HasValue known b
    → suc el ≤ i
    → IsFormedKind i (array_of known a b el)
array_formed known a b e el i calm (oa, va) (ob, vb) l =
    let one = none_in_parts (refusal_list (const_rule known a))
    (both_lists (refusal_list (const_rule known b))
    (refusal_list (bounds_rule b.at (const_value known a) (const_value known b))))
    calm in
    let two = none_in_parts (refusal_list (const_rule known b))
    (refusal_list (bounds_rule b.at (const_value known a) (const_value known b))) one.1 in
    let ra = or_parts (is_long a.value) (has_wrong_sign a.negative (value_by known a.value))
    (not_if_none rule.Y14 a.at (is_long a.value || has_wrong_sign a.negative (value_by known a.value))
    (none_at_site (const_rule known a) one.0)) in
    let rb = or_parts (is_long b.value) (has_wrong_sign b.negative (value_by known b.value))
    (not_if_none rule.Y14 b.at (is_long b.value || has_wrong_sign b.negative (value_by known b.value))
    (none_at_site (const_rule known b) two.0)) in
    let wrong = not_if_none rule.Y13 b.at (are_wrong (const_value known a) (const_value known b))
    (none_at_site (bounds_rule b.at (const_value known a) (const_value known b)) two.1) in
    let le = second_true (nat_eq oa.kind ob.kind) (int_le oa.number ob.number)
    (not-false (nat_eq oa.kind ob.kind && int_le oa.number ob.number)
    (subst (λ z. are_wrong (Some oa) z ≡ false) vb
    (subst (λ z. are_wrong z (const_value known b) ≡ false) va wrong))) in
    let right = all_false (is_long a.value) (is_long b.value) (has_wrong_sign a.negative (value_by known a.value))
    (has_wrong_sign b.negative (value_by known b.value)) (are_wrong (const_value known a) (const_value known b))
    ra.0 rb.0 ra.1 rb.1 wrong in
    subst (λ (z : Bool). IsFormedKind i (if z then
    kind.Array (number_or (pos 1) (const_value known a)) (number_or (pos 0) (const_value known b))
    (type_or 0 (const_value known a)) el else kind.Array (pos 1) (pos 0) (type_or 0 (const_value known a)) el))
    (sym right) (
      l,
      subst (λ z. int_le z (number_or (pos 0) (const_value known b)) ≡ true) (sym (ap (number_or (pos 1)) va))
          (subst (λ z. int_le oa.number z ≡ true) (sym (ap (number_or (pos 0)) vb)) le),
    )
  where
    all_false : (a b c d e : Bool) → a ≡ false → b ≡ false → c ≡ false → d ≡ false → e ≡ false
        → (not a && (not b && (not c && (not d && not e)))) ≡ true
    all_false false false false false false p q r s t = refl
    all_false true b c d e p q r s t = absurd (cc p)
    all_false false true c d e p q r s t = absurd (cc q)
    all_false false false true d e p q r s t = absurd (cc r)
    all_false false false false true e p q r s t = absurd (cc s)
    all_false false false false false true p q r s t = absurd (cc t)

pub kinds_formed : (consts : List (Option Ordinal)) (known : List ℕ) (next : ℕ) (ks : List NamedKind) (ns : List ℕ)
    → ns ≡ numbers_from known next ks → Below next known → AreEarlier (length known) ks → AllHaveValues consts ks
    → w.kinds_sites [] both_lists refusal_list consts ks ≡ [] → AreFormedKinds next (kinds_from ns consts ks)
kinds_formed consts known next [] ns e below early values calm = tt
kinds_formed consts known next (k ∷ ks) ns e below (early, more) (value, values) calm =
    go k.form refl (kinds_formed consts (known ++ number_by known next k.form ∷ []) (next_by next k.form) ks ns e)
  where
    two : (w.bounds_sites [] both_lists refusal_list consts k.form ≡ [])
        × (w.kinds_sites [] both_lists refusal_list consts ks ≡ [])
    two = none_in_parts (w.bounds_sites [] both_lists refusal_list consts k.form)
        (w.kinds_sites [] both_lists refusal_list consts ks) calm

    longer : (y : ℕ) → suc (length known) ≡ length (known ++ y ∷ [])
    longer y = let l = length-append known (y ∷ []) in omega (arith, l)

    -- an earlier type's number
    number : (j : ℕ) → suc j ≤ length known → (x : ℕ) × (slice_get known j ≡ Some x) × (type_number ns j ≡ x)
    number j l = let r = get_within known j l in (
      r.0,
      r.1,
      ap (first_or 0) (subst (λ z. slice_get z j ≡ Some r.0) (sym e)
          (keeps known next (k ∷ ks) j r.0 r.1)),
    )

    number_below : (j : ℕ) → suc j ≤ length known → suc (type_number ns j) ≤ next
    number_below j l = let r = number j l in subst (λ z. suc z ≤ next) (sym r.2) (below j r.0 r.1)

    fields_below : (fs : List (List ℕ × ℕ)) → AreBefore (length known) fs
        → AreBefore next (map (λ f. (f.0, type_number ns f.1)) fs)
    fields_below [] h = tt
    fields_below (f ∷ fs) h = (number_below f.1 h.0, fields_below fs h.1)

    go : (f : NamedKindForm) → f ≡ k.form
        → (Below (next_by next k.form) (known ++ number_by known next k.form ∷ [])
        → AreEarlier (length (known ++ number_by known next k.form ∷ [])) ks → AllHaveValues consts ks
        → w.kinds_sites [] both_lists refusal_list consts ks ≡ []
        → AreFormedKinds (next_by next k.form) (kinds_from ns consts ks))
        → AreFormedKinds next (kinds_by ns consts k.form ++ kinds_from ns consts ks)
    go f fe rest = subst (λ f. (Below (next_by next f) (known ++ number_by known next f ∷ [])
        → AreEarlier (length (known ++ number_by known next f ∷ [])) ks → AllHaveValues consts ks
        → w.kinds_sites [] both_lists refusal_list consts ks ≡ []
        → AreFormedKinds (next_by next f) (kinds_from ns consts ks))
        → AreFormedKinds next (kinds_by ns consts f ++ kinds_from ns consts ks)) fe
        (by f (subst (λ f. IsEarlier (length known) f) (sym fe) early)
        (subst (λ f. HaveValues consts f) (sym fe) value)
        (subst (λ f. w.bounds_sites [] both_lists refusal_list consts f ≡ []) (sym fe) two.0)) rest
      where
        later : (y : ℕ) → AreEarlier (length (known ++ y ∷ [])) ks
        later y = subst (λ z. AreEarlier z ks) (longer y) more

        fresh : Below (next + 1) (known ++ next ∷ [])
        fresh = below_more next (next + 1) next known below (omega arith) (omega arith)

        at_next : AreFormedKinds (next + 1) (kinds_from ns consts ks)
            → AreFormedKinds (suc next) (kinds_from ns consts ks)
        at_next h = subst (λ z. AreFormedKinds z (kinds_from ns consts ks))
            (let z : next + 1 ≡ suc next = omega arith in z) h

        by : (f : NamedKindForm) → IsEarlier (length known) f → HaveValues consts f
            → w.bounds_sites [] both_lists refusal_list consts f ≡ []
            → (Below (next_by next f) (known ++ number_by known next f ∷ [])
            → AreEarlier (length (known ++ number_by known next f ∷ [])) ks → AllHaveValues consts ks
            → w.kinds_sites [] both_lists refusal_list consts ks ≡ []
            → AreFormedKinds (next_by next f) (kinds_from ns consts ks))
            → AreFormedKinds next (kinds_by ns consts f ++ kinds_from ns consts ks)
        by (form.Alias j) i v c rest =
            let r = number j i in
            let y = first_or 0 (slice_get known j) in
            let ye : y ≡ r.0 = ap (first_or 0) r.1 in
            let l = below j r.0 r.1 in
            rest (below_more next next y known below (omega arith) (subst (λ z. suc z ≤ next) (sym ye) l)) (later y)
            values two.1
        by (form.Array a b e) i v c rest = (
          array_formed consts a b e (type_number ns e) next c v.0 v.1
              (number_below e i),
          at_next (rest fresh (later next) values two.1),
        )
        by (form.Fields fs) i v c rest = (fields_below fs i, at_next (rest fresh (later next) values two.1))
        by _ _ _ _ rest = (tt, at_next (rest fresh (later next) values two.1))

-- all numbers of types are of types that there are
pub numbers_below : (consts : List (Option Ordinal)) (ns : List ℕ) (known : List ℕ) (next : ℕ) (ks : List NamedKind)
    → Below next known → AreEarlier (length known) ks
    → Below (next + length (kinds_from ns consts ks)) (numbers_from known next ks)
    × (length (numbers_from known next ks) ≡ length known + length ks)
numbers_below consts ns known next [] below early = ((λ i x e. (let l = below i x e in omega (arith, l))), omega arith)
numbers_below consts ns known next (k ∷ ks) below (early, more) =
    let y = number_by known next k.form in
    let l = length-append known (y ∷ []) in
    let r = numbers_below consts ns (known ++ y ∷ []) (next_by next k.form) ks (grown k.form early)
    (subst (λ z. AreEarlier z ks) (let z : suc (length known) ≡ length (known ++ y ∷ []) = omega (arith, l) in z)
    more) in
    let e = r.1 in (
      subst (λ z. Below z (numbers_from (known ++ y ∷ []) (next_by next k.form) ks)) (counted k.form) r.0,
      omega (arith, l, e),
    )
  where
    grown : (f : NamedKindForm) → IsEarlier (length known) f
        → Below (next_by next f) (known ++ number_by known next f ∷ [])
    grown form.Integer i = below_more next (next + 1) next known below (omega arith) (omega arith)
    grown form.Boolean i = below_more next (next + 1) next known below (omega arith) (omega arith)
    grown form.Char i = below_more next (next + 1) next known below (omega arith) (omega arith)
    grown (form.Enumeration m) i = below_more next (next + 1) next known below (omega arith) (omega arith)
    grown (form.Array a b e) i = below_more next (next + 1) next known below (omega arith) (omega arith)
    grown (form.Fields fs) i = below_more next (next + 1) next known below (omega arith) (omega arith)
    grown (form.Channel cs) i = below_more next (next + 1) next known below (omega arith) (omega arith)
    grown (form.Alias j) i = let r = get_within known j i in let l = below j r.0 r.1 in
        below_more next next (first_or 0 (slice_get known j)) known below (omega arith)
        (subst (λ z. suc z ≤ next) (sym (ap (first_or 0) r.1)) l)

    one : (next r : ℕ) → (next + 1) + r ≡ next + suc r
    one next r = omega arith

    counted : (f : NamedKindForm) → next_by next f + length (kinds_from ns consts ks) ≡ next
        + length (kinds_by ns consts f ++ kinds_from ns consts ks)
    counted (form.Alias j) = refl
    counted _ = one next (length (kinds_from ns consts ks))

-- by the number of a type
pub formed_at : (i k : ℕ) (ts : List KindOf) (t : KindOf) → AreFormedKinds i ts → slice_get ts k ≡ Some t
    → IsFormedKind (i + k) t
formed_at i k [] t h e = absurd (cc e)
formed_at i zero (u ∷ ts) t h e = subst (λ z. IsFormedKind z t) (let z : i ≡ i + 0 = omega arith in z)
    (subst (IsFormedKind i) (same_Some u t e) h.0)
formed_at i (suc k) (u ∷ ts) t h e = subst (λ z. IsFormedKind z t) (let z : suc i + k ≡ i + suc k = omega arith in z)
    (formed_at (suc i) k ts t h.1 e)

-- of a program
pub program_formed : (s : syntax.Program) → broken_name_rules s ≡ [] → types_broken (program_named s) ≡ []
    → AllHaveValues (constants_of (program_named s)) (program_named s).kinds
    → AreFormedKinds 0 (env_of (program_named s)).kinds
program_formed s calm types values = let n_ = program_named s in
    let rest = w.blocks_sites [] both_lists refusal_list (numbers_of n_) (sizes (env_of n_).kinds) n_.variables 0
    (env_of n_)
    (w.starts_of n_.blocks) n_.blocks in
    let cells = w.cells_sites [] both_lists refusal_list (w.places_of n_.kinds) (sizes (env_of n_).kinds) in
    let kinds = w.kinds_sites [] both_lists refusal_list (constants_of n_) n_.kinds in
    kinds_formed (constants_of n_) [] 0 n_.kinds (numbers_of n_) refl (λ i x e. absurd (none i x e))
    (program_earlier s calm) values (none_in_parts kinds (both_lists cells rest)
    (none_in_parts (w.constants_sites [] both_lists refusal_list (constants_of n_) n_.constants)
    (both_lists kinds (both_lists cells rest)) types).1).0
  where
    none : (i x : ℕ) → slice_get [] i ≡ Some x → ⊥
    none i x e = cc e

-- a type's number is that of a type that there is
pub number_there : (s : syntax.Program) → broken_name_rules s ≡ [] → (k : ℕ) → suc k ≤ length (program_named s).kinds
    → suc (type_number (numbers_of (program_named s)) k) ≤ length (env_of (program_named s)).kinds
number_there s calm k l =
    let n_ = program_named s in
    let r = numbers_below (constants_of n_) (numbers_of n_) [] 0 n_.kinds (λ i x e. absurd (none i x e))
    (program_earlier s calm) in
    let e = r.1 in
    let g = get_within (numbers_of n_) k (omega (arith, l, e)) in
    let b = r.0 k g.0 g.1 in
    let same : type_number (numbers_of n_) k ≡ g.0 = ap (first_or 0) g.1 in
    omega (arith, b, same)
  where
    none : (i x : ℕ) → slice_get [] i ≡ Some x → ⊥
    none i x e = cc e
