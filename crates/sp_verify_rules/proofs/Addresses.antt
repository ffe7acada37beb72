-- Each address among the shapes of operands is in a variable around the area, which is neither the input nor the
-- output.
use Rattle.std.proofs.Common.{◌≡◌, ◌⊎◌, inl, inr, ⊎_elim, ℕ, zero, suc, ◌+◌, ◌-◌, ◌≤◌, ◌==◌, List, [], ◌∷◌, length}
use Rattle.std.proofs.Common.{Option, Some, None, Bool, true, false, if◌then◌else◌, refl, sym, ap, ◌∙◌, subst}
use Rattle.std.specs.Prelude.{slice_get, nat_lt}
use Rattle.std.proofs.lemmas.Option.{same_Some}
use Rattle.sp_tree.specs.Interference.{IsMember}
use Rattle.sp_tree.proofs.Members.{member_front, member_back, member_at}
use Rattle.sp_code.specs.declared.code.Formal.{Formal}
use Rattle.sp_code.specs.declared.code.Formal.TheVariants as formal
use Rattle.sp_code.specs.declared.code.Layout.{Layout}
use Rattle.sp_code.specs.declared.code.Parts.{Parts}
use Rattle.sp_code.specs.declared.instr.Instr.{Instr}
use Rattle.sp_code.specs.declared.instr.Instr.TheVariants as i
use Rattle.sp_code.specs.Machine.{layout_of}
use Rattle.sp_code.specs.Memory.{Home, OfBlock, OfIndex}
use Rattle.sp_verify_rules.specs.Areas.{Area, VariableInfo, Plainly, Never, on_option, found_by, found_in, found_of}
use Rattle.sp_verify_rules.specs.Areas.{found_at}
use Rattle.sp_verify_rules.specs.Areas.{variable_at, homes, instr_at}
use Rattle.sp_verify_rules.specs.Chains.{variables_of, variables_in, all_variables}
use Rattle.sp_verify_rules.specs.KeepsCodeRules.{KeepsCodeRules}
use Rattle.sp_verify_rules.specs.NameRules.{is_plain, is_reference, names_well, InLayout, OfChild}
use Rattle.sp_verify_rules.specs.Reach.{IsArea, IsBrought, LeadsWith, BringsShapes, Reaches, IsInCodeOf}
use Rattle.sp_verify_rules.specs.Shapes.{Shape, O, C, L, A, Shaped, Wrong, To, instr_shapes, with_answer, take_o}
use Rattle.sp_verify_rules.specs.Shapes.{take_c}
use Rattle.sp_verify_rules.specs.Shapes.{take_a}
use Rattle.sp_verify_rules.specs.Shapes.{take_value, take_same, take_cells, take_all, take_none, two_to_one, one_to_one}
use Rattle.sp_verify_rules.specs.Shapes.{one_gone, two_gone, read_shapes, fill_shapes, loop_start_shapes}
use Rattle.sp_verify_rules.specs.Shapes.{loop_end_shapes}
use Rattle.sp_verify_rules.specs.Shapes.{address_shapes}
use Rattle.sp_verify_rules.proofs.FrameScopes.{layout_variable, declared_here, member_home, index_declared, index_in}
use Rattle.sp_verify_rules.proofs.ShapePaths.{passes}

module _ (P : ℕ → Type 0) where
  -- each address is in a variable of P
  abbrev pub AllP : List Shape → Type 0
  AllP [] = Unit {0}
  AllP (O ∷ ss) = AllP ss
  AllP (C ∷ ss) = AllP ss
  AllP (L n ∷ ss) = AllP ss
  AllP (A x n ∷ ss) = P x × AllP ss

  abbrev pub EachP : List (ℕ × List Shape) → Type 0
  EachP [] = Unit {0}
  EachP (w ∷ ws) = AllP w.1 × EachP ws

  abbrev pub GoesP : Shaped → Type 0
  GoesP Wrong = Unit {0}
  GoesP (To ws) = EachP ws

  by_o : (ss : List Shape) (k : List Shape → Shaped) → AllP ss → ((s1 : List Shape) → AllP s1 → GoesP (k s1))
      → GoesP (take_o ss k)
  by_o [] k h f = tt
  by_o (O ∷ ss) k h f = f ss h
  by_o (C ∷ ss) k h f = tt
  by_o (L n ∷ ss) k h f = tt
  by_o (A x n ∷ ss) k h f = tt

  by_c : (ss : List Shape) (k : List Shape → Shaped) → AllP ss → ((s1 : List Shape) → AllP s1 → GoesP (k s1))
      → GoesP (take_c ss k)
  by_c [] k h f = tt
  by_c (O ∷ ss) k h f = tt
  by_c (C ∷ ss) k h f = f ss h
  by_c (L n ∷ ss) k h f = tt
  by_c (A x n ∷ ss) k h f = tt

  by_a : (ss : List Shape) (k : ℕ → ℕ → List Shape → Shaped) → AllP ss
      → ((x n : ℕ) (s1 : List Shape) → P x → AllP s1 → GoesP (k x n s1)) → GoesP (take_a ss k)
  by_a [] k h f = tt
  by_a (O ∷ ss) k h f = tt
  by_a (C ∷ ss) k h f = tt
  by_a (L n ∷ ss) k h f = tt
  by_a (A x n ∷ ss) k h f = f x n ss h.0 h.1

  by_value : (ss : List Shape) (k : List Shape → Shaped) → AllP ss → ((s1 : List Shape) → AllP s1 → GoesP (k s1))
      → GoesP (take_value ss k)
  by_value [] k h f = tt
  by_value (O ∷ ss) k h f = f ss h
  by_value (C ∷ ss) k h f = f ss h
  by_value (L n ∷ ss) k h f = tt
  by_value (A x n ∷ ss) k h f = tt

  by_same : (ss : List Shape) (k : List Shape → Shaped) → AllP ss → ((s1 : List Shape) → AllP s1 → GoesP (k s1))
      → GoesP (take_same ss k)
  by_same [] k h f = tt
  by_same (O ∷ ss) k h f = by_o ss k h f
  by_same (C ∷ ss) k h f = by_c ss k h f
  by_same (L n ∷ ss) k h f = tt
  by_same (A x n ∷ ss) k h f = tt

  by_cells : (ss : List Shape) (k : ℕ → List Shape → Shaped) → AllP ss
      → ((n : ℕ) (s1 : List Shape) → AllP s1 → GoesP (k n s1)) → GoesP (take_cells ss k)
  by_cells [] k h f = tt
  by_cells (O ∷ ss) k h f = f 1 ss h
  by_cells (C ∷ ss) k h f = f 1 ss h
  by_cells (L n ∷ ss) k h f = f n ss h
  by_cells (A x n ∷ ss) k h f = tt

  rest_p : (s : Shape) (ss : List Shape) → AllP (s ∷ ss) → AllP ss
  rest_p O ss h = h
  rest_p C ss h = h
  rest_p (L n) ss h = h
  rest_p (A x n) ss h = h.1

  by_all : (n : ℕ) (ss : List Shape) (k : List Shape → Shaped) → AllP ss → ((s1 : List Shape) → AllP s1 → GoesP (k s1))
      → GoesP (take_all n ss k)
  by_all zero ss k h f = f ss h
  by_all (suc n) [] k h f = tt
  by_all (suc n) (s ∷ ss) k h f = by_all n ss k (rest_p s ss h) f

  by_none : (ss : List Shape) → GoesP (take_none ss)
  by_none [] = tt
  by_none (s ∷ ss) = tt

  two : (p : ℕ) (ss : List Shape) → AllP ss → GoesP (two_to_one p ss)
  two p ss h = by_o ss _ h (λ s1 h1. by_o s1 _ h1 (λ s2 h2. (h2, tt)))

  one : (p : ℕ) (ss : List Shape) → AllP ss → GoesP (one_to_one p ss)
  one p ss h = by_o ss _ h (λ s1 h1. (h1, tt))

  gone : (p : ℕ) (ss : List Shape) → AllP ss → GoesP (one_gone p ss)
  gone p ss h = by_o ss _ h (λ s1 h1. (h1, tt))

  both_gone : (p : ℕ) (ss : List Shape) → AllP ss → GoesP (two_gone p ss)
  both_gone p ss h = by_o ss _ h (λ s1 h1. by_o s1 _ h1 (λ s2 h2. (h2, tt)))

  read_o : (p : ℕ) (ss : List Shape) → AllP ss → GoesP (read_shapes O p ss)
  read_o p ss h = by_a ss _ h (λ x n s1 a h1. (h1, tt))

  read_c : (p : ℕ) (ss : List Shape) → AllP ss → GoesP (read_shapes C p ss)
  read_c p ss h = by_a ss _ h (λ x n s1 a h1. (h1, tt))

  read_l : (k p : ℕ) (ss : List Shape) → AllP ss → GoesP (read_shapes (L k) p ss)
  read_l k p ss h = by_a ss _ h (λ x n s1 a h1. (h1, tt))

  fills : (p : ℕ) (ss : List Shape) → AllP ss → GoesP (fill_shapes p ss)
  fills p ss h = by_a ss _ h (λ x n s1 a h1. (h1, tt))

  begin : (p to : ℕ) (ss : List Shape) → AllP ss → GoesP (loop_start_shapes p to ss)
  begin p to ss h = by_o ss _ h (λ s1 h1. by_o s1 _ h1 (λ s2 h2. (h2, (h2, tt))))

  round : (p to : ℕ) (ss : List Shape) → AllP ss → GoesP (loop_end_shapes p to ss)
  round p to ss h = by_o ss _ h (λ s1 h1. (h1, (h1, tt)))

  answer_p : (b : Bool) (ss : List Shape) → AllP ss → AllP (with_answer b ss)
  answer_p true ss h = h
  answer_p false ss h = h

  module _ (c : Parts) (a : Area) (found : (up var : ℕ) (f : VariableInfo) → variable_at c a up var ≡ Some f
      → (is_plain f.naming ≡ true) ⊎ (is_reference f.naming ≡ true)
      → P f.number) (p : ℕ) (ss : List Shape) (h : AllP ss) where
    plain : (up var : ℕ) (o : Option VariableInfo) → variable_at c a up var ≡ o
        → on_option false o (λ f. is_plain f.naming) ≡ true
        → GoesP (on_option Wrong o (λ f. address_shapes p ss f.number f.cells))
    plain up var None e w = tt
    plain up var (Some f) e w = ((found up var f e (inl w), h), tt)

    by_reference : (up var : ℕ) (o : Option VariableInfo) → variable_at c a up var ≡ o
        → on_option false o (λ f. is_reference f.naming) ≡ true
        → GoesP (on_option Wrong o (λ f. address_shapes p ss f.number f.cells))
    by_reference up var None e w = tt
    by_reference up var (Some f) e w = ((found up var f e (inr w), h), tt)

    called : (o : Option Layout)
        → GoesP (on_option Wrong o
        (λ l. take_all (length l.formals) ss (λ s1. To ((p + 1, with_answer l.answer s1) ∷ []))))
    called None = tt
    called (Some l) = by_all (length l.formals) ss _ h (λ s1 h1. (answer_p l.answer s1 h1, tt))

    step : (o : Option Instr) → names_well c a o ≡ true → GoesP (instr_shapes c a o p ss)
    step None w = tt
    step (Some (i.Const v)) w = (h, tt)
    step (Some (i.Addr up var)) w = plain up var (variable_at c a up var) refl w
    step (Some (i.Deref up var)) w = by_reference up var (variable_at c a up var) refl w
    step (Some (i.Index low high size)) w = by_o ss _ h (λ s1 h1. by_a s1 _ h1 (λ x n s2 e h2. ((e, h2), tt)))
    step (Some (i.Field k)) w = by_a ss _ h (λ x n s1 e h1. ((e, h1), tt))
    step (Some i.Load) w = read_o p ss h
    step (Some i.Loadc) w = read_c p ss h
    step (Some i.Store) w = by_value ss _ h (λ s1 h1. fills p s1 h1)
    step (Some (i.Copy k)) w = by_a ss _ h (λ x n s1 e h1. fills p s1 h1)
    step (Some i.Add) w = two p ss h
    step (Some i.Sub) w = two p ss h
    step (Some i.Mul) w = two p ss h
    step (Some i.Div) w = two p ss h
    step (Some i.Mod) w = two p ss h
    step (Some i.Neg) w = one p ss h
    step (Some i.Abs) w = one p ss h
    step (Some i.Sqr) w = one p ss h
    step (Some i.Odd) w = one p ss h
    step (Some i.And) w = two p ss h
    step (Some i.Or) w = two p ss h
    step (Some i.Not) w = one p ss h
    step (Some i.Eq) w = by_same ss _ h (λ s1 h1. (h1, tt))
    step (Some i.Ne) w = by_same ss _ h (λ s1 h1. (h1, tt))
    step (Some i.Lt) w = two p ss h
    step (Some i.Le) w = two p ss h
    step (Some i.Gt) w = two p ss h
    step (Some i.Ge) w = two p ss h
    step (Some (i.Range low high)) w = one p ss h
    step (Some (i.Succ high)) w = one p ss h
    step (Some (i.Pred low)) w = one p ss h
    step (Some (i.Jump to)) w = (h, tt)
    step (Some (i.Jumpf to)) w = by_o ss _ h (λ s1 h1. (h1, (h1, tt)))
    step (Some (i.Casej v to)) w = by_o ss _ h (λ s1 h1. (h1, (h1, tt)))
    step (Some i.Tick) w = (h, tt)
    step (Some (i.Forup var to)) w = begin p to ss h
    step (Some (i.Fordown var to)) w = begin p to ss h
    step (Some (i.Nextup var to)) w = round p to ss h
    step (Some (i.Nextdown var to)) w = round p to ss h
    step (Some (i.Call b up)) w = called (layout_of c.layouts b)
    step (Some i.Return) w = by_none ss
    step (Some i.ReadInt) w = fills p ss h
    step (Some i.ReadChar) w = fills p ss h
    step (Some i.Readln) w = (h, tt)
    step (Some i.Eof) w = (h, tt)
    step (Some i.Eoln) w = (h, tt)
    step (Some (i.WriteText k)) w = (h, tt)
    step (Some i.WritewInt) w = both_gone p ss h
    step (Some i.WritewChar) w = both_gone p ss h
    step (Some i.WritewBool) w = both_gone p ss h
    step (Some i.Writeln) w = (h, tt)
    step (Some (i.Pack k)) w = read_l k p ss h
    step (Some i.Open) w = fills p ss h
    step (Some (i.Send k)) w = by_cells ss _ h (λ n s1 h1. by_c s1 _ h1 (λ s2 h2. (h2, tt)))
    step (Some (i.Receive k)) w = by_a ss _ h (λ x n s1 e h1. by_c s1 _ h1 (λ s2 h2. (h2, tt)))
    step (Some (i.Fork t)) w = (h, tt)
    step (Some (i.Forall t)) w = both_gone p ss h
    step (Some i.End) w = by_none ss
    step (Some _) w = gone p ss h

  brought : (q : ℕ) (ts : List Shape) (ws : List (ℕ × List Shape)) → EachP ws → IsBrought q ts ws → AllP ts
  brought q ts [] e h = absurd h
  brought q ts (w ∷ ws) e h = ⊎_elim (λ z. subst AllP (sym z.1) e.0) (λ z. brought q ts ws e.1 z) h

  leads : (o : Shaped) (q : ℕ) (ts : List Shape) → GoesP o → LeadsWith o q ts → AllP ts
  leads Wrong q ts g l = absurd l
  leads (To ws) q ts g l = brought q ts ws g l

  pub brings_p : (c : Parts) (a : Area)
      → ((up var : ℕ) (f : VariableInfo) → variable_at c a up var ≡ Some f → (is_plain f.naming ≡ true)
      ⊎ (is_reference f.naming ≡ true) → P f.number)
      → ((p : ℕ) → IsInCodeOf c a p → names_well c a (instr_at c p) ≡ true)
      → (n p : ℕ) (ss : List Shape) → BringsShapes c a n p ss → AllP ss
  brings_p c a found names zero p ss b = subst AllP (sym b.1) tt
  brings_p c a found names (suc n) p ss (q, ts, before, leads_there) =
      leads (instr_shapes c a (instr_at c q) q ts) p ss
      (step c a found q ts (brings_p c a found names n q ts before) (instr_at c q)
      (names q (passes c a q ts (record { steps = n; way = before })))) leads_there

module _ (c : Parts) (k : KeepsCodeRules c) where
  -- a variable around an area is neither the input nor the output
  pub around_real : (a : Area) (x : ℕ) → IsArea c a → IsMember x (all_variables c.layouts (homes c a)) → 2 ≤ x
  around_real a x area m = go (member_home c k x (homes c a) m)
    where
      go : (up : ℕ) × (h : Home) × (slice_get (homes c a) up ≡ Some h) × IsMember x (variables_in c.layouts h) → 2 ≤ x
      go (up, OfBlock b, at, n) =
          let (l, _, (j, place, l_there, x_there)) = layout_variable c k b x n in
          k.real (InLayout j place) x l.entry (declared_here c k j place x l l_there x_there)
      go (up, OfIndex y, at, inl e) =
          let (_, p, j, _, index_is, _) = index_in c k a up x area (at ∙ ap (λ z. Some (OfIndex z)) (sym e)) in
          let (t, _, (child_entry, declared)) = index_declared c k p j x index_is in
          k.real (OfChild t j) x child_entry declared
      go (up, OfIndex y, at, inr z) = absurd z

  -- where a variable is found by level and number, it is around
  module _ (a : Area) where
    at_home : (hs : List Home) (up x : ℕ) (h : Home) → slice_get hs up ≡ Some h → IsMember x (variables_in c.layouts h)
        → IsMember x (all_variables c.layouts hs)
    at_home [] up x h e m = absurd (cc e)
    at_home (g ∷ hs) zero x h e m = member_front x (variables_in c.layouts g) (all_variables c.layouts hs)
        (subst (λ z. IsMember x (variables_in c.layouts z)) (sym (same_Some _ _ e)) m)
    at_home (g ∷ hs) (suc up) x h e m = member_back x (variables_in c.layouts g) (all_variables c.layouts hs)
        (at_home hs up x h e m)

    number_is : (x : ℕ) (o : Option Formal) (s : Option ℕ) (f : VariableInfo) → found_by x o s ≡ Some f → f.number ≡ x
    number_is x None None f e = absurd (cc e)
    number_is x None (Some n) f e = sym (ap (λ (z : VariableInfo). z.number) (same_Some _ _ e))
    number_is x (Some (formal.Value m)) None f e = absurd (cc e)
    number_is x (Some (formal.Value m)) (Some n) f e = sym (ap (λ (z : VariableInfo). z.number) (same_Some _ _ e))
    number_is x (Some (formal.Reference m)) s f e = sym (ap (λ (z : VariableInfo). z.number) (same_Some _ _ e))

    in_layout : (l : Layout) (n : ℕ) (f : VariableInfo) → found_in l n ≡ Some f → IsMember f.number l.variables
    in_layout l n f e = go (slice_get l.variables n) refl e
      where
        go : (o : Option ℕ) → slice_get l.variables n ≡ o
            → on_option None o (λ x. found_by x (slice_get l.formals n) (slice_get l.sizes n)) ≡ Some f
            → IsMember f.number l.variables
        go None is e = absurd (cc e)
        go (Some x) is e = member_at l.variables n f.number (is
            ∙ ap Some (sym (number_is x (slice_get l.formals n) (slice_get l.sizes n) f e)))

    in_home : (h : Home) (var : ℕ) (f : VariableInfo) → found_at c.layouts h var ≡ Some f → (is_plain f.naming ≡ true)
        ⊎ (is_reference f.naming ≡ true) → IsMember f.number (variables_in c.layouts h)
    in_home (OfBlock b) var f e w = go (layout_of c.layouts b) e
      where
        never : (v : ℕ) → Some (record { number = v; cells = 1; naming = Never }) ≡ Some f → ⊥
        never v e = ⊎_elim
            (λ z. (let n : is_plain Never ≡ true = ap (λ (z : VariableInfo). is_plain z.naming) (same_Some _ _ e)
            ∙ z in cc n))
            (λ z. (let n : is_reference Never ≡ true =
            ap (λ (z : VariableInfo). is_reference z.naming) (same_Some _ _ e)
            ∙ z in cc n)) w

        by : (l : Layout) (t : Bool)
            → (if t then (if nat_lt var 2 then Some (record { number = var; cells = 1; naming = Never }) else found_in l
            (var - 2)) else found_in l var) ≡ Some f → IsMember f.number l.variables
        by l false e = in_layout l var f e
        by l true e = small (nat_lt var 2) e
          where
            small : (t : Bool) → (if t then Some (record { number = var; cells = 1; naming = Never }) else found_in l
                (var - 2)) ≡ Some f → IsMember f.number l.variables
            small true e = absurd (never var e)
            small false e = in_layout l (var - 2) f e

        go : (o : Option Layout) → found_of o var ≡ Some f → IsMember f.number (variables_of o)
        go None e = absurd (cc e)
        go (Some l) e = by l (l.block == 0) e
    in_home (OfIndex x) var f e w = go (var == 0) e
      where
        go : (t : Bool) → (if t then Some (record { number = x; cells = 1; naming = Plainly }) else None) ≡ Some f
            → IsMember f.number (x ∷ [])
        go true e = inl (sym (ap (λ (z : VariableInfo). z.number) (same_Some _ _ e)))
        go false e = absurd (cc e)

    pub found_around : (up var : ℕ) (f : VariableInfo) → variable_at c a up var ≡ Some f → (is_plain f.naming ≡ true)
        ⊎ (is_reference f.naming ≡ true) → IsMember f.number (all_variables c.layouts (homes c a))
    found_around up var f e w = go (slice_get (homes c a) up) refl e
      where
        go : (o : Option Home) → slice_get (homes c a) up ≡ o → on_option None o (λ h. found_at c.layouts h var)
            ≡ Some f
            → IsMember f.number (all_variables c.layouts (homes c a))
        go None is e = absurd (cc e)
        go (Some h) is e = at_home (homes c a) up f.number h is (in_home h var f e w)

    -- so is each address
    pub addresses_around : IsArea c a → (p : ℕ) (ss : List Shape) → Reaches c a p ss
        → AllP (λ x. IsMember x (all_variables c.layouts (homes c a))) ss
    addresses_around area p ss r = brings_p (λ x. IsMember x (all_variables c.layouts (homes c a))) c a found_around
        (λ q w. k.names a q (area, w)) r.steps p ss r.way
