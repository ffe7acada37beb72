-- The variables of a layout: which number in the frame has the variable at a place, and what its parameters are.
use Rattle.std.proofs.Common.{◌≡◌, ◌⊎◌, inl, inr, ⊎_elim, ℕ, zero, suc, ◌+◌, ◌≤◌, ◌==◌, List, [], ◌∷◌, ◌++◌, Some, None}
use Rattle.std.proofs.Common.{Bool, true, false, if◌then◌else◌, length, map, refl, sym, ap, ◌∙◌, subst, arith}
use Rattle.std.proofs.Common.{eqb-true, eq-eqb, slice_get}
use Rattle.std.proofs.lemmas.List.{append_assoc}
use Rattle.std.proofs.lemmas.Option.{same_Some}
use Rattle.sp_base.proofs.Facts.{get_of_map}
use Rattle.sp_tree.proofs.Members.{member_at, member_either}
use Rattle.sp_tree.specs.declared.checked.Role.{Role}
use Rattle.sp_tree.specs.declared.checked.Role.TheVariants as role
use Rattle.sp_tree.specs.Cells.{variables_of}
use Rattle.sp_tree.specs.TreeShape.{IsFormed, is_answer, is_parameter, numbers_with_role}
use Rattle.sp_tree.specs.Interference.{IsMember}
use Rattle.sp_tree.specs.Plain.{Program, Variable, Block}
use Rattle.sp_cell.proofs.FrameLaws.{is_other}
use Rattle.sp_code.specs.declared.code.Formal.{Formal}
use Rattle.sp_code.specs.TreeCode.{formal_by, formal_of}
use Rattle.sp_code.specs.Memory as m
use Rattle.sp_code.specs.Memory.{cell_at}
use Rattle.sp_code.specs.Scopes.{frame_of, index_among, is_local, size, slot, slot_in}
use Rattle.sp_codegen.proofs.Numbers.{frame_is}
use Rattle.sp_codegen.proofs.Slots.{slot_is}
use Rattle.sp_codegen.specs.Relation.{Owns}
use Rattle.sp_where.specs.StateVariables.{address_by}

-- ---- lists of numbers

-- no number twice
abbrev Distinct : List ℕ → Type 0
Distinct [] = Unit {0}
Distinct (x ∷ xs) = (IsMember x xs → ⊥) × Distinct xs

distinct_join : (xs ys : List ℕ) → Distinct xs → Distinct ys → ((z : ℕ) → IsMember z xs → IsMember z ys → ⊥)
    → Distinct (xs ++ ys)
distinct_join [] ys d e apart = e
distinct_join (x ∷ xs) ys d e apart = (
  λ i. ⊎_elim (λ (k : IsMember x xs). d.0 k) (λ (k : IsMember x ys). apart x (inl refl) k) (member_either x xs ys i),
  distinct_join xs ys d.1 e (λ z i j. apart z (inr i) j),
)

-- the first place of a number is the one where it is
first_place : (x n i : ℕ) (xs : List ℕ) → Distinct xs → slice_get xs i ≡ Some x → index_among x n xs ≡ n + i
first_place x n i [] d e = absurd (cc e)
first_place x n zero (z ∷ xs) d e =
    let same : z ≡ x = same_Some z x e in
    let here : n ≡ n + 0 = omega arith in
    ap (λ b. if b then n else index_among x (suc n) xs) (eq-eqb x z (sym same)) ∙ here
first_place x n (suc i) (z ∷ xs) d e =
    let other : x ≡ z → ⊥ = λ s. d.0 (subst (λ y. IsMember y xs) s (member_at xs i x e)) in
    let on : suc n + i ≡ n + suc i = omega arith in
    ap (λ b. if b then n else index_among x (suc n) xs) (is_other x z other) ∙ first_place x (suc n) i xs d.1 e ∙ on

-- a place in a list of two parts
in_parts : (xs ys : List ℕ) (i x : ℕ) → slice_get (xs ++ ys) i ≡ Some x
    → (slice_get xs i ≡ Some x) ⊎ ((length xs ≤ i) × IsMember x ys)
in_parts [] ys i x e = inr (omega arith, member_at ys i x e)
in_parts (z ∷ xs) ys zero x e = inl e
in_parts (z ∷ xs) ys (suc i) x e = ⊎_elim (λ (k : slice_get xs i ≡ Some x). inl k)
    (λ (k : (length xs ≤ i) × IsMember x ys). inr ((let l = k.0 in omega (arith, l)), k.1)) (in_parts xs ys i x e)

map_past : {A B : Type 0} (f : A → B) (xs : List A) (i : ℕ) → length xs ≤ i → slice_get (map f xs) i ≡ None
map_past f [] i l = refl
map_past f (z ∷ xs) zero l = absurd (omega (arith, l))
map_past f (z ∷ xs) (suc i) l = map_past f xs i (omega (arith, l))

-- ---- the variables of a block with some roles

-- one of them
record IsOfBlock (fits : Role → Bool) (b x0 : ℕ) (vs : List Variable) (x : ℕ) : Type 0 where
  pub place : ℕ
  pub variable : Variable
  pub place_is : x ≡ x0 + place
  pub known : slice_get vs place ≡ Some variable
  pub block : variable.block ≡ b
  pub fitting : fits variable.role ≡ true

one_later : (fits : Role → Bool) (b x0 : ℕ) (v : Variable) (vs : List Variable) (x : ℕ)
    → IsOfBlock fits b (suc x0) vs x → IsOfBlock fits b x0 (v ∷ vs) x
one_later fits b x0 v vs x h = record {
  place = suc h.place;
  variable = h.variable;
  place_is = (let e = h.place_is in omega (arith, e));
  known = h.known;
  block = h.block;
  fitting = h.fitting;
}

of_block : (fits : Role → Bool) (b x0 : ℕ) (vs : List Variable) (x : ℕ)
    → IsMember x (numbers_with_role fits (variables_of b x0 vs)) → IsOfBlock fits b x0 vs x
of_block fits b x0 [] x h = absurd h
of_block fits b x0 (v ∷ vs) x h = go (v.block == b) refl (λ i. of_block fits b (suc x0) vs x i) h
  where
    inner : v.block ≡ b → (c : Bool) → fits v.role ≡ c
        → (IsMember x (numbers_with_role fits (variables_of b (suc x0) vs)) → IsOfBlock fits b (suc x0) vs x)
        → IsMember x (if c then x0 ∷ numbers_with_role fits (variables_of b (suc x0) vs) else
        numbers_with_role fits (variables_of b (suc x0) vs)) → IsOfBlock fits b x0 (v ∷ vs) x
    inner e true f ih (inl i) = record {
      place = 0;
      variable = v;
      place_is = (omega (arith, i));
      known = refl;
      block = e;
      fitting = f;
    }
    inner e true f ih (inr i) = one_later fits b x0 v vs x (ih i)
    inner e false f ih i = one_later fits b x0 v vs x (ih i)

    go : (t : Bool) → v.block == b ≡ t
        → (IsMember x (numbers_with_role fits (variables_of b (suc x0) vs)) → IsOfBlock fits b (suc x0) vs x)
        → IsMember x (numbers_with_role fits (if t then (x0, v) ∷ variables_of b (suc x0) vs else variables_of b
        (suc x0) vs)) → IsOfBlock fits b x0 (v ∷ vs) x
    go true t ih i = inner (eqb-true v.block b t) (fits v.role) refl ih i
    go false t ih i = one_later fits b x0 v vs x (ih i)

-- none of them stands there twice
distinct_block : (fits : Role → Bool) (b x0 : ℕ) (vs : List Variable)
    → Distinct (numbers_with_role fits (variables_of b x0 vs))
distinct_block fits b x0 [] = tt
distinct_block fits b x0 (v ∷ vs) = go (v.block == b) (distinct_block fits b (suc x0) vs)
  where
    inner : (c : Bool) → Distinct (numbers_with_role fits (variables_of b (suc x0) vs))
        → Distinct (if c then x0 ∷ numbers_with_role fits (variables_of b (suc x0) vs) else numbers_with_role fits
        (variables_of b (suc x0) vs))
    inner true ih = (
      λ i. (let e = (of_block fits b (suc x0) vs x0 i).place_is in absurd (omega (arith, e))),
      ih,
    )
    inner false ih = ih

    go : (t : Bool) → Distinct (numbers_with_role fits (variables_of b (suc x0) vs))
        → Distinct (numbers_with_role fits (if t then (x0, v) ∷ variables_of b (suc x0) vs else variables_of b
        (suc x0) vs))
    go true ih = inner (fits v.role) ih
    go false ih = ih

-- no role is of two sorts
parameter_or_answer : (r : Role) → is_parameter r ≡ true → is_answer r ≡ true → ⊥
parameter_or_answer role.Console h k = absurd (cc h)
parameter_or_answer role.Local h k = absurd (cc h)
parameter_or_answer role.Value h k = absurd (cc k)
parameter_or_answer role.Reference h k = absurd (cc k)
parameter_or_answer role.Index h k = absurd (cc h)
parameter_or_answer role.Answer h k = absurd (cc h)

parameter_or_local : (r : Role) → is_parameter r ≡ true → is_local r ≡ true → ⊥
parameter_or_local role.Console h k = absurd (cc h)
parameter_or_local role.Local h k = absurd (cc h)
parameter_or_local role.Value h k = absurd (cc k)
parameter_or_local role.Reference h k = absurd (cc k)
parameter_or_local role.Index h k = absurd (cc h)
parameter_or_local role.Answer h k = absurd (cc h)

answer_or_local : (r : Role) → is_answer r ≡ true → is_local r ≡ true → ⊥
answer_or_local role.Console h k = absurd (cc h)
answer_or_local role.Local h k = absurd (cc h)
answer_or_local role.Value h k = absurd (cc h)
answer_or_local role.Reference h k = absurd (cc h)
answer_or_local role.Index h k = absurd (cc h)
answer_or_local role.Answer h k = absurd (cc k)

-- what is owned, or stands for something else
owned_answer : (r : Role) → is_answer r ≡ true → Owns r
owned_answer role.Console h = absurd (cc h)
owned_answer role.Local h = tt
owned_answer role.Value h = tt
owned_answer role.Reference h = absurd (cc h)
owned_answer role.Index h = absurd (cc h)
owned_answer role.Answer h = tt

owned_local : (r : Role) → is_local r ≡ true → Owns r
owned_local role.Console h = absurd (cc h)
owned_local role.Local h = tt
owned_local role.Value h = tt
owned_local role.Reference h = absurd (cc h)
owned_local role.Index h = absurd (cc h)
owned_local role.Answer h = tt

-- how the machine finds number n of a frame, which is this variable; fs: the parameters of the layout
pub data HowFound (fs : List Formal) (n : ℕ) (v : Variable) : Type 0 where
  InFrame : (owns : Owns v.role) (found : (f : m.Frame) → address_by f n (slice_get fs n) ≡ Some (cell_at f.number n))
      → HowFound fs n v
  ByReference : (refers : v.role ≡ role.Reference)
      (found : (f : m.Frame) → address_by f n (slice_get fs n) ≡ m.reference_target n f.references) → HowFound fs n v

-- ---- the frame of a block

-- the program's frame has its variables from number 2 on
abbrev start : Bool → ℕ
start t = if t then 2 else 0

module _ (p : Program) (formed : IsFormed p) (b : ℕ) (k : Block) (eb : slice_get p.blocks b ≡ Some k) where
  abbrev some : (Role → Bool) → List ℕ
  some fits = numbers_with_role fits (variables_of b 0 p.variables)

  abbrev first : ℕ
  first = start (b == 0)

  frame_parts : frame_of p b ≡ k.formals ++ (some is_answer ++ some is_local)
  frame_parts = frame_is p formed b k eb
      ∙ ap (λ z. (k.formals ++ z) ++ some is_local) (formed.answers b k eb)
      ∙ append_assoc k.formals (some is_answer) (some is_local)

  apart : (f g : Role → Bool) → ((r : Role) → f r ≡ true → g r ≡ true → ⊥) → (z : ℕ) → IsMember z (some f)
      → IsMember z (some g) → ⊥
  apart f g none z i j =
      let a = of_block f b 0 p.variables z i in
      let c = of_block g b 0 p.variables z j in
      let pa = a.place_is in
      let pc = c.place_is in
      let same : a.place ≡ c.place = omega (arith, pa, pc) in
      let one : a.variable ≡ c.variable = same_Some a.variable c.variable
      (sym a.known ∙ ap (slice_get p.variables) same ∙ c.known) in
      none a.variable.role a.fitting (ap (λ (v : Variable). g v.role) one ∙ c.fitting)

  frame_distinct : Distinct (frame_of p b)
  frame_distinct = subst Distinct (sym (frame_parts ∙ ap (λ z. z ++ (some is_answer ++ some is_local))
      (formed.formals b k eb)))
      (distinct_join (some is_parameter) (some is_answer ++ some is_local)
      (distinct_block is_parameter b 0 p.variables)
      (distinct_join (some is_answer) (some is_local) (distinct_block is_answer b 0 p.variables)
      (distinct_block is_local b 0 p.variables) (apart is_answer is_local answer_or_local))
      (λ z i j. ⊎_elim (λ (a : IsMember z (some is_answer)). apart is_parameter is_answer parameter_or_answer z i a)
      (λ (a : IsMember z (some is_local)). apart is_parameter is_local parameter_or_local z i a)
      (member_either z (some is_answer) (some is_local) j)))

  -- what stands at a place of the frame
  pub record IsVariableAt (i x : ℕ) : Type 0 where
    pub variable : Variable
    pub known : slice_get p.variables x ≡ Some variable
    pub block : variable.block ≡ b
    pub slot_is : slot p x ≡ first + i
    pub found : HowFound (map (λ y. formal_by p (slice_get p.variables y)) k.formals) (first + i) variable

  -- a block with parameters is not the program's
  no_program : (z : ℕ) → IsMember z k.formals → first ≡ 0
  no_program z i = go (b == 0) refl
    where
      go : (t : Bool) → b == 0 ≡ t → start t ≡ 0
      go false t = refl
      go true t = absurd (subst (λ y. IsMember z y) (formed.program k
          (ap (λ y. slice_get p.blocks y) (sym (eqb-true b 0 t)) ∙ eb)).1 i)

  -- the place of what is no parameter has none
  past : (i : ℕ) → length k.formals ≤ i
      → slice_get (map (λ y. formal_by p (slice_get p.variables y)) k.formals) (first + i) ≡ None
  past i l = map_past (λ y. formal_by p (slice_get p.variables y)) k.formals (first + i)
      (let n : i ≤ first + i = omega arith in omega (arith, l, n))

  by_role : (n : ℕ) (v : Variable) → is_parameter v.role ≡ true → (fs : List Formal)
      → slice_get fs n ≡ Some (formal_of v.role (size p v.kind)) → HowFound fs n v
  by_role n v h fs e = go v.role refl h
    where
      go : (r : Role) → v.role ≡ r → is_parameter r ≡ true → HowFound fs n v
      go role.Console d h = absurd (cc h)
      go role.Local d h = absurd (cc h)
      go role.Value d h = InFrame (subst Owns (sym d) tt)
          (λ f. ap (address_by f n) (e ∙ ap (λ y. Some (formal_of y (size p v.kind))) d))
      go role.Reference d h = ByReference d
          (λ f. ap (address_by f n) (e ∙ ap (λ y. Some (formal_of y (size p v.kind))) d))
      go role.Index d h = absurd (cc h)
      go role.Answer d h = absurd (cc h)

  pub variable_at : (i x : ℕ) → slice_get (frame_of p b) i ≡ Some x → IsVariableAt i x
  variable_at i x e = ⊎_elim parameter other
      (in_parts k.formals (some is_answer ++ some is_local) i x (ap (λ z. slice_get z i) (sym frame_parts) ∙ e))
    where
      number : (v : Variable) → slice_get p.variables x ≡ Some v → v.block ≡ b → slot p x ≡ first + i
      number v known block = slot_is p formed x v known ∙ ap (λ z. slot_in p z x) block
          ∙ first_place x first i (frame_of p b) frame_distinct e

      -- where it is found among those with a role
      of : (fits : Role → Bool) → IsMember x (some fits) → (v : Variable) × (slice_get p.variables x ≡ Some v)
          × (v.block ≡ b) × (fits v.role ≡ true)
      of fits j =
          let a = of_block fits b 0 p.variables x j in
          let pa = a.place_is in
          let same : x ≡ a.place = omega (arith, pa) in
          (a.variable, ap (slice_get p.variables) same ∙ a.known, a.block, a.fitting)

      parameter : slice_get k.formals i ≡ Some x → IsVariableAt i x
      parameter h =
          let among = member_at k.formals i x h in
          let (variable, known, of_block, fits) = of is_parameter
          (subst (λ z. IsMember x z) (formed.formals b k eb) among) in
          let none = no_program x among in
          let at : first + i ≡ i = omega (arith, none) in
          record {
            variable = variable;
            known = known;
            block = of_block;
            slot_is = number variable known of_block;
            found = by_role (first + i) variable fits (map (λ y. formal_by p (slice_get p.variables y)) k.formals)
                (ap (slice_get (map (λ y. formal_by p (slice_get p.variables y)) k.formals)) at
                ∙ get_of_map (λ y. formal_by p (slice_get p.variables y)) k.formals i x h
                ∙ ap (λ y. Some (formal_by p y)) known);
          }

      in_frame : length k.formals ≤ i → (v : Variable) × (slice_get p.variables x ≡ Some v) × (v.block ≡ b)
          × Owns v.role → IsVariableAt i x
      in_frame l (variable, known, of_block, owns) = record {
        variable = variable;
        known = known;
        block = of_block;
        slot_is = number variable known of_block;
        found = InFrame owns (λ f. ap (address_by f (first + i)) (past i l));
      }

      other : (length k.formals ≤ i) × IsMember x (some is_answer ++ some is_local) → IsVariableAt i x
      other h = in_frame h.0 (⊎_elim
          (λ (j : IsMember x (some is_answer)). (let (variable, known, of_block, fits) = of is_answer j in
          (variable, known, of_block, owned_answer variable.role fits)))
          (λ (j : IsMember x (some is_local)). (let (variable, known, of_block, fits) = of is_local j in
          (variable, known, of_block, owned_local variable.role fits)))
          (member_either x (some is_answer) (some is_local) h.1))
