-- A table of shapes: where it has the entry, and is closed under what its instructions lead to, it has all that ways
-- bring. So what a test says of each row holds of all code that is reached. A verifier makes such a table; the rows of
-- small codes go by one.
use Rattle.std.proofs.Common.{◌≡◌, ◌≢◌, ◌∙◌, inl, inr, ℕ, zero, suc, ◌==◌, List, [], ◌∷◌, Bool, true, false, ◌&&◌, ◌||◌}
use Rattle.std.proofs.Common.{if◌then◌else◌, refl, sym, ap, subst, eqb-true}
use Rattle.std.proofs.lemmas.Bool.{eq-eqb, and_parts}
use Rattle.sp_base.proofs.Facts.{not_true_and_false}
use Rattle.sp_code.specs.declared.code.Parts.{Parts}
use Rattle.sp_verify_rules.specs.Areas.{Area, instr_at, entry}
use Rattle.sp_verify_rules.specs.Shapes.{Shape, O, C, L, A, Shaped, Wrong, To, instr_shapes}
use Rattle.sp_verify_rules.specs.Reach.{IsBrought, LeadsWith, BringsShapes, Reaches}

abbrev pub same_shape : Shape → Shape → Bool
same_shape O O = true
same_shape C C = true
same_shape (L n) (L m) = n == m
same_shape (A x n) (A y m) = (x == y) && (n == m)
same_shape s t = false

abbrev pub same_shapes : List Shape → List Shape → Bool
same_shapes [] [] = true
same_shapes [] (t ∷ ts) = false
same_shapes (s ∷ ss) [] = false
same_shapes (s ∷ ss) (t ∷ ts) = same_shape s t && same_shapes ss ts

shape_is : (s t : Shape) → same_shape s t ≡ true → s ≡ t
shape_is O O e = refl
shape_is C C e = refl
shape_is (L n) (L m) e = ap L (eqb-true n m e)
shape_is (A x n) (A y m) e = let b = and_parts (x == y) (n == m) e in let p = eqb-true x y b.0 in
    let q = eqb-true n m b.1 in λ z. A (p z) (q z)
shape_is s t e = absurd (cc e)

pub shapes_are : (ss ts : List Shape) → same_shapes ss ts ≡ true → ss ≡ ts
shapes_are [] [] e = refl
shapes_are [] (t ∷ ts) e = absurd (cc e)
shapes_are (s ∷ ss) [] e = absurd (cc e)
shapes_are (s ∷ ss) (t ∷ ts) e = let b = and_parts (same_shape s t) (same_shapes ss ts) e in let p = shape_is s t b.0 in
    let q = shapes_are ss ts b.1 in λ z. p z ∷ q z

pub same_itself : (ss : List Shape) → same_shapes ss ss ≡ true
same_itself [] = refl
same_itself (O ∷ ss) = same_itself ss
same_itself (C ∷ ss) = same_itself ss
same_itself (L n ∷ ss) = ap (λ b. b && same_shapes ss ss) (eq-eqb n n refl) ∙ same_itself ss
same_itself (A x n ∷ ss) = ap (λ b. (b && (n == n)) && same_shapes ss ss) (eq-eqb x x refl)
    ∙ (ap (λ b. b && same_shapes ss ss) (eq-eqb n n refl) ∙ same_itself ss)

-- two lists that are not different are equal
pub not_different : (ss ts : List Shape) → (ss ≢ ts → ⊥) → ss ≡ ts
not_different ss ts h = go (same_shapes ss ts) refl
  where
    go : (b : Bool) → same_shapes ss ts ≡ b → ss ≡ ts
    go true e = shapes_are ss ts e
    go false e = absurd (h (λ z. not_true_and_false (same_shapes ss ts)
        (subst (λ w. same_shapes ss w ≡ true) z (same_itself ss)) e))

-- a row is in a table
abbrev pub has_row : ℕ → List Shape → List (ℕ × List Shape) → Bool
has_row p ss [] = false
has_row p ss (w ∷ ws) = ((p == w.0) && same_shapes ss w.1) || has_row p ss ws

row_in : (p : ℕ) (ss : List Shape) (ws : List (ℕ × List Shape)) → has_row p ss ws ≡ true → IsBrought p ss ws
row_in p ss [] e = absurd (cc e)
row_in p ss (w ∷ ws) e = go ((p == w.0) && same_shapes ss w.1) refl e (λ h. row_in p ss ws h)
  where
    go : (b : Bool) → ((p == w.0) && same_shapes ss w.1) ≡ b → (b || has_row p ss ws) ≡ true
        → (has_row p ss ws ≡ true → IsBrought p ss ws) → IsBrought p ss (w ∷ ws)
    go true h e on = let b = and_parts (p == w.0) (same_shapes ss w.1) h in inl
        (eqb-true p w.0 b.0, shapes_are ss w.1 b.1)
    go false h e on = inr (on e)

-- all that these lead to is in a table
abbrev pub all_rows : List (ℕ × List Shape) → List (ℕ × List Shape) → Bool
all_rows [] t = true
all_rows (w ∷ ws) t = has_row w.0 w.1 t && all_rows ws t

abbrev pub leads_into : Shaped → List (ℕ × List Shape) → Bool
leads_into Wrong t = false
leads_into (To ws) t = all_rows ws t

-- each row passes a test
abbrev pub each_row : (ℕ → List Shape → Bool) → List (ℕ × List Shape) → Bool
each_row f [] = true
each_row f (w ∷ ws) = f w.0 w.1 && each_row f ws

pub row_passes : (f : ℕ → List Shape → Bool) (ws : List (ℕ × List Shape)) (p : ℕ) (ss : List Shape)
    → each_row f ws ≡ true → IsBrought p ss ws → f p ss ≡ true
row_passes f [] p ss e i = absurd i
row_passes f (w ∷ ws) p ss e (inl i) = let x = i.0 in let y = i.1 in subst (λ q. f q ss ≡ true) (sym x)
    (subst (λ z. f w.0 z ≡ true) (sym y) (and_parts (f w.0 w.1) (each_row f ws) e).0)
row_passes f (w ∷ ws) p ss e (inr i) = row_passes f ws p ss (and_parts (f w.0 w.1) (each_row f ws) e).1 i

-- one row of an instruction alone
abbrev pub agrees : ℕ → List Shape → List (ℕ × List Shape) → Bool
agrees p ss [] = true
agrees p ss (w ∷ ws) = (if p == w.0 then same_shapes ss w.1 else true) && agrees p ss ws

agree_is : (p : ℕ) (ss ts : List Shape) (ws : List (ℕ × List Shape)) → agrees p ss ws ≡ true → IsBrought p ts ws
    → ss ≡ ts
agree_is p ss ts [] e i = absurd i
agree_is p ss ts (w ∷ ws) e (inl i) =
    let b = and_parts (if p == w.0 then same_shapes ss w.1 else true) (agrees p ss ws) e in
    shapes_are ss w.1 (subst (λ (t : Bool). (if t then same_shapes ss w.1 else true) ≡ true)
    (Rattle.std.proofs.lemmas.Bool.eq-eqb p w.0 i.0) b.0) ∙ sym i.1
agree_is p ss ts (w ∷ ws) e (inr i) = agree_is p ss ts ws
    (and_parts (if p == w.0 then same_shapes ss w.1 else true) (agrees p ss ws) e).1 i

module _ (c : Parts) (a : Area) (t : List (ℕ × List Shape)) where
  -- the table has the entry, and is closed: so no instruction of it is wrong
  abbrev pub is_closed : Bool
  is_closed = has_row (entry c a) [] t && each_row (λ p ss. leads_into (instr_shapes c a (instr_at c p) p ss) t) t

  into : (o : Shaped) (q : ℕ) (ts : List Shape) → leads_into o t ≡ true → LeadsWith o q ts → IsBrought q ts t
  into Wrong q ts e h = absurd h
  into (To ws) q ts e h = go ws e h
    where
      go : (ws : List (ℕ × List Shape)) → all_rows ws t ≡ true → IsBrought q ts ws → IsBrought q ts t
      go [] e h = absurd h
      go (w ∷ ws) e (inl i) =
          let r = row_in w.0 w.1 t (and_parts (has_row w.0 w.1 t) (all_rows ws t) e).0 in
          subst (λ z. IsBrought z ts t) (sym i.0) (subst (λ z. IsBrought w.0 z t) (sym i.1) r)
      go (w ∷ ws) e (inr i) = go ws (and_parts (has_row w.0 w.1 t) (all_rows ws t) e).1 i

  module _ (closed : is_closed ≡ true) where
    brought : (n p : ℕ) (ss : List Shape) → BringsShapes c a n p ss → IsBrought p ss t
    brought zero p ss b = subst (λ z. IsBrought z ss t) (sym b.0)
        (subst (λ z. IsBrought (entry c a) z t) (sym b.1)
        (row_in (entry c a) [] t (and_parts (has_row (entry c a) [] t)
        (each_row (λ p ss. leads_into (instr_shapes c a (instr_at c p) p ss) t) t) closed).0))
    brought (suc n) p ss (q, ts, before, leads) =
        into (instr_shapes c a (instr_at c q) q ts) p ss
        (row_passes (λ p ss. leads_into (instr_shapes c a (instr_at c p) p ss) t) t q ts
        (and_parts (has_row (entry c a) [] t)
        (each_row (λ p ss. leads_into (instr_shapes c a (instr_at c p) p ss) t) t) closed).1
        (brought n q ts before)) leads

    -- the table has all that is reached
    pub reached_in : (p : ℕ) (ss : List Shape) → Reaches c a p ss → IsBrought p ss t
    reached_in p ss r = brought r.steps p ss r.way

    -- so no operand is missing or of the wrong shape
    pub never_wrong : (p : ℕ) (ss : List Shape) → Reaches c a p ss → instr_shapes c a (instr_at c p) p ss ≡ Wrong → ⊥
    never_wrong p ss r e =
        let w = row_passes (λ p ss. leads_into (instr_shapes c a (instr_at c p) p ss) t) t p ss
        (and_parts (has_row (entry c a) [] t)
        (each_row (λ p ss. leads_into (instr_shapes c a (instr_at c p) p ss) t) t) closed).1 (reached_in p ss r) in
        cc (subst (λ o. leads_into o t ≡ true) e w)

    -- a test of each row holds of all that is reached
    pub reached_passes : (f : ℕ → List Shape → Bool) → each_row f t ≡ true → (p : ℕ) (ss : List Shape)
        → Reaches c a p ss → f p ss ≡ true
    reached_passes f e p ss r = row_passes f t p ss e (reached_in p ss r)

    -- and where each instruction has one row, no two ways bring different shapes
    pub one_shape : each_row (λ p ss. agrees p ss t) t ≡ true → (p : ℕ) (ss ts : List Shape) → Reaches c a p ss
        → Reaches c a p ts → ss ≡ ts
    one_shape e p ss ts r s = agree_is p ss ts t (row_passes (λ p ss. agrees p ss t) t p ss e (reached_in p ss r))
        (reached_in p ts s)
