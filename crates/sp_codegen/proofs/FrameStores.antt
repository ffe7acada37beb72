-- A new frame in a store of the machine and in a store of the meaning.
use Rattle.sp_tree.specs.Interference.{IsMember}
use Rattle.std.proofs.Common.{◌≡◌, ◌⊎◌, inl, inr, ⊎_elim, ℕ, suc, ◌+◌, ◌<◌, ◌≤◌, ◌==◌, List, [], ◌∷◌, ◌++◌}
use Rattle.std.proofs.Common.{Option, Some, None, Bool, true, false, cond, if◌then◌else◌, length, refl, sym, ap, ◌∙◌}
use Rattle.std.proofs.Common.{subst, arith, eqb-true, eq-eqb}
use Rattle.std.proofs.Common.{add-one, zero-add}
use Rattle.std.specs.Prelude.{◌≢◌, slice_get}
use Rattle.std.proofs.lemmas.List.{append_assoc, length-append}
use Rattle.sp_tree.specs.declared.checked.Role.{Role}
use Rattle.sp_tree.specs.declared.checked.Role.TheVariants as role
use Rattle.sp_tree.specs.Cells.{variables_of, first_or}
use Rattle.sp_tree.specs.Plain.{Program, Variable, Block}
use Rattle.sp_meaning.specs.Maps.{at_key}
use Rattle.sp_meaning.specs.Values.{Value, Undefined, initials, initial_by}
use Rattle.sp_meaning.specs.LocalWork.{RunInput, Loc, Cell, Tree, LocalState, Identity, WorkOutcome, Computed, same_loc}
use Rattle.sp_meaning.specs.Actions.{first_value_by, lay_one, lay}
use Rattle.sp_meaning.specs.Run.{Store, run}
use Rattle.sp_meaning.proofs.Run.{then_run, run_bind}
use Rattle.sp_meaning.proofs.Instance.{loc_test}
use Rattle.sp_code.specs.Scopes.{index_among, frame_of, slot, slot_in}
use Rattle.sp_codegen.specs.Shapes.{initial_value}
use Rattle.sp_tree.specs.TreeShape.{IsFormed, numbers_with_role}
use Rattle.sp_codegen.specs.Relation.{Owns}
use Rattle.sp_codegen.proofs.Slots.{HasVar, slot_is}
use Rattle.sp_codegen.proofs.Types.{there_is, by_table}
use Rattle.sp_codegen.proofs.Numbers.{AreKnown}
use Rattle.sp_codegen.proofs.Returns.{index_behind}

-- ---- numbers in a frame

pub index_at : (x n : ℕ) (xs : List ℕ) → IsMember x xs → (k : ℕ) × (index_among x n xs ≡ n + k)
    × (slice_get xs k ≡ Some x)
index_at x n [] h = absurd h
index_at x n (z ∷ xs) h = go (x == z) refl (index_at x (suc n) xs)
  where
    go : (b : Bool) → x == z ≡ b → (IsMember x xs → (k : ℕ) × (index_among x (suc n) xs ≡ suc n + k)
        × (slice_get xs k ≡ Some x)) → (k : ℕ) × ((if b then n else index_among x (suc n) xs) ≡ n + k)
        × (slice_get (z ∷ xs) k ≡ Some x)
    go true e ih = (0, omega arith, ap Some (sym (eqb-true x z e)))
    go false e ih = let r = ih (tail h) in (suc r.0, (let y = r.1 in omega (arith, y)), r.2)
      where
        tail : (x ≡ z) ⊎ IsMember x xs → IsMember x xs
        tail (inl i) = let w : false ≡ true = sym e ∙ eq-eqb x z i in absurd (cc w)
        tail (inr i) = i

-- numbers that rise
abbrev pub Rises : List ℕ → Type 0
Rises [] = Unit {0}
Rises (x ∷ xs) = ((y : ℕ) → IsMember y xs → x < y) × Rises xs

among_low : (fits : Role → Bool) (b x0 : ℕ) (vs : List Variable) (y : ℕ)
    → IsMember y (numbers_with_role fits (variables_of b x0 vs)) → x0 ≤ y
among_low fits b x0 [] y h = absurd h
among_low fits b x0 (v ∷ vs) y h = go (v.block == b) (fits v.role) (among_low fits b (suc x0) vs y) h
  where
    inner : (c : Bool) → (IsMember y (numbers_with_role fits (variables_of b (suc x0) vs)) → suc x0 ≤ y)
        → IsMember y (if c then x0 ∷ numbers_with_role fits (variables_of b (suc x0) vs) else
        numbers_with_role fits (variables_of b (suc x0) vs)) → x0 ≤ y
    inner true ih (inl e) = omega (arith, e)
    inner true ih (inr h) = let z = ih h in omega (arith, z)
    inner false ih h = let z = ih h in omega (arith, z)

    go : (t c : Bool) → (IsMember y (numbers_with_role fits (variables_of b (suc x0) vs)) → suc x0 ≤ y)
        → IsMember y (numbers_with_role fits (if t then (x0, v) ∷ variables_of b (suc x0) vs else variables_of b
        (suc x0) vs))
        → x0 ≤ y
    go true c ih h = inner (fits v.role) ih h
    go false c ih h = let z = ih h in omega (arith, z)

pub among_rises : (fits : Role → Bool) (b x0 : ℕ) (vs : List Variable)
    → Rises (numbers_with_role fits (variables_of b x0 vs))
among_rises fits b x0 [] = tt
among_rises fits b x0 (v ∷ vs) = go (v.block == b) (among_rises fits b (suc x0) vs)
  where
    inner : (c : Bool) → Rises (numbers_with_role fits (variables_of b (suc x0) vs))
        → Rises (if c then x0 ∷ numbers_with_role fits (variables_of b (suc x0) vs) else numbers_with_role fits
        (variables_of b (suc x0) vs))
    inner true ih = (λ y h. (let z = among_low fits b (suc x0) vs y h in omega (arith, z)), ih)
    inner false ih = ih

    go : (t : Bool) → Rises (numbers_with_role fits (variables_of b (suc x0) vs))
        → Rises (numbers_with_role fits (if t then (x0, v) ∷ variables_of b (suc x0) vs else variables_of b
        (suc x0) vs))
    go true ih = inner (fits v.role) ih
    go false ih = ih

module _ (p : Program) (formed : IsFormed p) where
  -- each parameter's number is its place
  abbrev pub Numbered : ℕ → List ℕ → Type 0
  Numbered k [] = Unit {0}
  Numbered k (x ∷ xs) = (slot p x ≡ k) × Numbered (suc k) xs

  pub numbered_low : (k : ℕ) (xs : List ℕ) (x : ℕ) → Numbered k xs → IsMember x xs → k ≤ slot p x
  numbered_low k [] x n h = absurd h
  numbered_low k (y ∷ xs) x n (inl e) = let a = n.0 in let b = ap (λ z. slot p z) e in omega (arith, a, b)
  numbered_low k (y ∷ xs) x n (inr h) = let z = numbered_low (suc k) xs x n.1 h in omega (arith, z)

  pub numbered_in : (f : ℕ) (whole : List ℕ) → frame_of p f ≡ whole → ((x : ℕ) → slot p x ≡ slot p x)
      → (pre xs rest : List ℕ) → whole ≡ pre ++ (xs ++ rest)
      → ((x : ℕ) → IsMember x xs → slot p x ≡ index_among x 0 (frame_of p f))
      → ((y : ℕ) → IsMember y pre → (z : ℕ) → IsMember z xs → y < z) → Rises xs → Numbered (length pre) xs
  numbered_in f whole e u pre [] rest d s a r = tt
  numbered_in f whole e u pre (x ∷ xs) rest d s a r = (
    s x (inl refl) ∙ ap (λ z. index_among x 0 z) (e ∙ d)
        ∙ index_behind x 0 pre (xs ++ rest) (λ i. let z = a x i x (inl refl) in absurd (omega (arith, z)))
        ∙ zero-add (length pre),
    subst (λ n. Numbered n xs) (length-append pre (x ∷ []) ∙ add-one (length pre))
        (numbered_in f whole e u (pre ++ x ∷ []) xs rest (d ∙ sym (append_assoc pre (x ∷ []) (xs ++ rest)))
        (λ y i. s y (inr i)) more r.1),
  )
    where
      last : (y : ℕ) (ys : List ℕ) → IsMember y (ys ++ x ∷ []) → IsMember y ys ⊎ (y ≡ x)
      last y [] (inl i) = inr i
      last y [] (inr i) = absurd i
      last y (k ∷ ys) (inl i) = inl (inl i)
      last y (k ∷ ys) (inr i) = ⊎_elim (λ (z : IsMember y ys). inl (inr z)) (λ (z : y ≡ x). inr z) (last y ys i)

      more : (y : ℕ) → IsMember y (pre ++ x ∷ []) → (z : ℕ) → IsMember z xs → y < z
      more y i z j = ⊎_elim (λ (k : IsMember y pre). a y k z (inr j))
          (λ (k : y ≡ x). (let l = r.0 z j in omega (arith, k, l))) (last y pre i)

  -- a block other than the program's has its variables from number 0 on
  pub slot_from_zero : (f : ℕ) (b : Block) (q x : ℕ) (v : Variable) → slice_get p.blocks f ≡ Some b → b.parent ≡ Some q
      → slice_get p.variables x ≡ Some v → v.block ≡ f → slot p x ≡ index_among x 0 (frame_of p f)
  slot_from_zero f b q x v eb ep ev bf = slot_is p formed x v ev ∙ ap (λ z. slot_in p z x) bf
      ∙ ap (λ n. index_among x n (frame_of p f)) (go (f == 0) refl)
    where
      start : Bool → ℕ
      start b = if b then 2 else 0

      go : (t : Bool) → f == 0 ≡ t → start t ≡ 0
      go true t = let z = (formed.program b (ap (λ y. slice_get p.blocks y) (sym (eqb-true f 0 t)) ∙ eb)).0 in
          let y : None ≡ Some q = sym z ∙ ep in absurd (cc y)
      go false t = refl

-- ---- the variables of a new frame in the meaning

module _ (g : RunInput) (w : Identity) where
  abbrev lay_put : ℕ → ℕ × Variable → Option Value → Store → Store
  lay_put n x None s = s
  lay_put n x (Some v) s = at_key same_loc (Cell w.name n x.0) (Tree v) s

  abbrev pub laid : ℕ → List (ℕ × Variable) → Store → Store
  laid n [] s = s
  laid n (x ∷ xs) s = laid n xs (lay_put n x (first_value_by (initials g.program.kinds) x.1.role x.1.kind) s)

  pub run_lay : (n : ℕ) (xs : List (ℕ × Variable)) (o : LocalState) (s : Store)
      → ◌≡◌ {A = WorkOutcome (Unit {0}) × Store} (run (lay g n xs) w o s) (Computed tt o, laid n xs s)
  run_lay n [] o s = refl
  run_lay n (x ∷ xs) o s =
      run_bind (lay_one g n x (first_value_by (initials g.program.kinds) x.1.role x.1.kind)) (λ u. lay g n xs) w o s
      ∙ go (first_value_by (initials g.program.kinds) x.1.role x.1.kind) (λ s1. run_lay n xs o s1)
    where
      go : (v : Option Value) → ((s1 : Store)
          → ◌≡◌ {A = WorkOutcome (Unit {0}) × Store} (run (lay g n xs) w o s1) (Computed tt o, laid n xs s1))
          → ◌≡◌ {A = WorkOutcome (Unit {0}) × Store} (then_run (λ u. lay g n xs) w (run (lay_one g n x v) w o s))
          (Computed tt o, laid n xs (lay_put n x v s))
      go None ih = ih s
      go (Some v) ih = ih (at_key same_loc (Cell w.name n x.0) (Tree v) s)

  -- another location is as it was
  pub laid_other : (n : ℕ) (xs : List (ℕ × Variable)) (s : Store) (l : Loc) → ((x : ℕ) → Cell w.name n x ≢ l)
      → laid n xs s l ≡ s l
  laid_other n [] s l d = refl
  laid_other n (x ∷ xs) s l d =
      laid_other n xs (lay_put n x (first_value_by (initials g.program.kinds) x.1.role x.1.kind) s) l
      d ∙ go (first_value_by (initials g.program.kinds) x.1.role x.1.kind)
    where
      go : (v : Option Value) → lay_put n x v s l ≡ s l
      go None = refl
      go (Some v) = by_test (same_loc (Cell w.name n x.0) l) refl
        where
          by_test : (b : Bool) → same_loc (Cell w.name n x.0) l ≡ b → cond b (Tree v) (s l) ≡ s l
          by_test true e = absurd (d x.0 ((loc_test (Cell w.name n x.0) l).0 e))
          by_test false e = refl

  module _ (formed : IsFormed g.program) where
    pub begins_is : (v : Variable) → Owns v.role → v.kind < length g.program.kinds
        → first_value_by (initials g.program.kinds) v.role v.kind ≡ Some (initial_value g.program v.kind)
    begins_is v o l = go v.role o
      where
        value : slice_get (initials g.program.kinds) v.kind ≡ Some (initial_value g.program v.kind)
        value = let t = there_is g.program formed g.program.kinds v.kind l in
            there (slice_get (initials g.program.kinds) v.kind) (by_table g.program formed initial_by v.kind t.0 t.1)
          where
            there : {x : Value} (o : Option Value) → o ≡ Some x → o ≡ Some (first_or Undefined o)
            there None e = absurd (cc e)
            there (Some y) e = refl

        go : (r : Role) → Owns r → first_value_by (initials g.program.kinds) r v.kind
            ≡ Some (initial_value g.program v.kind)
        go role.Console o = absurd o
        go role.Local o = value
        go role.Value o = value
        go role.Reference o = absurd o
        go role.Index o = absurd o
        go role.Answer o = value

    -- a variable of the frame has its first value
    pub laid_at : (n x : ℕ) (v : Variable) → slice_get g.program.variables x ≡ Some v → Owns v.role
        → (xs : List (ℕ × Variable)) → AreKnown g.program formed xs → (s : Store) → HasVar x v xs
        ⊎ (s (Cell w.name n x) ≡ Tree (initial_value g.program v.kind))
        → laid n xs s (Cell w.name n x) ≡ Tree (initial_value g.program v.kind)
    laid_at n x v ev o [] k s (inl h) = absurd h
    laid_at n x v ev o [] k s (inr e) = e
    laid_at n x v ev o (y ∷ ys) k s h = laid_at n x v ev o ys k.1 s1
        (next h (same_loc (Cell w.name n y.0) (Cell w.name n x)) refl)
      where
        s1 : Store
        s1 = lay_put n y (first_value_by (initials g.program.kinds) y.1.role y.1.kind) s

        here : y.0 ≡ x → s1 (Cell w.name n x) ≡ Tree (initial_value g.program v.kind)
        here i =
            let a : Some y.1 ≡ Some v = sym k.0 ∙ ap (λ z. slice_get g.program.variables z) i ∙ ev in
            let same : y.1 ≡ v = cc a in
            let b = begins_is v o (formed.kinds x v ev) in
            ap (λ (z : Variable). lay_put n y (first_value_by (initials g.program.kinds) z.role z.kind) s
            (Cell w.name n x))
            same ∙ ap (λ z. lay_put n y z s (Cell w.name n x)) b
            ∙ ap (λ t. cond t (Tree (initial_value g.program v.kind)) (s (Cell w.name n x)))
            ((loc_test (Cell w.name n y.0) (Cell w.name n x)).1 (ap (λ z. Cell w.name n z) i))

        there : same_loc (Cell w.name n y.0) (Cell w.name n x) ≡ false → s1 (Cell w.name n x) ≡ s (Cell w.name n x)
        there e = go (first_value_by (initials g.program.kinds) y.1.role y.1.kind)
          where
            go : (z : Option Value) → lay_put n y z s (Cell w.name n x) ≡ s (Cell w.name n x)
            go None = refl
            go (Some z) = ap (λ t. cond t (Tree z) (s (Cell w.name n x))) e

        next : HasVar x v (y ∷ ys) ⊎ (s (Cell w.name n x) ≡ Tree (initial_value g.program v.kind)) → (b : Bool)
            → same_loc (Cell w.name n y.0) (Cell w.name n x) ≡ b → HasVar x v ys
            ⊎ (s1 (Cell w.name n x) ≡ Tree (initial_value g.program v.kind))
        next (inl (inl i)) b e = inr (here (sym i.0))
        next (inl (inr i)) b e = inl i
        next (inr i) true e = let d : Cell w.name n y.0 ≡ Cell w.name n x =
            (loc_test (Cell w.name n y.0) (Cell w.name n x)).0 e in inr (here (cc d))
        next (inr i) false e = inr (there e ∙ i)
