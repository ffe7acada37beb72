-- The effects of an area are variables around it, and an activation of the area may touch them.
use Rattle.std.proofs.Common.{◌≡◌, ◌⊎◌, inl, inr, ⊎_elim, ℕ, zero, suc, ◌-◌, ◌<◌, ◌≤◌, ◌==◌, ◌||◌, List, [], ◌∷◌}
use Rattle.std.proofs.Common.{length, drop, Option, Some, None, Bool, true, false, refl, sym, ap, ◌∙◌, subst}
use Rattle.std.proofs.Common.{arith}
use Rattle.std.specs.Prelude.{slice_get, IsSome}
use Rattle.std.proofs.lemmas.Bool.{eqb-true, true_from_ne_false}
use Rattle.sp_base.proofs.Facts.{below_two_or_not, first_true}
use Rattle.sp_tree.specs.Interference.{IsMember}
use Rattle.sp_tree.proofs.Members.{member_front, member_back, member_either}
use Rattle.sp_code.specs.declared.code.Layout.{Layout}
use Rattle.sp_code.specs.declared.code.ChildTable.{ChildTable}
use Rattle.sp_code.specs.declared.code.Parts.{Parts}
use Rattle.sp_code.specs.declared.instr.Instr.{Instr}
use Rattle.sp_code.specs.declared.instr.Instr.TheVariants as i
use Rattle.sp_code.specs.Machine.{layout_of}
use Rattle.sp_code.specs.Memory.{Home, OfBlock, OfIndex}
use Rattle.sp_cell.proofs.FrameLaws.{is_same}
use Rattle.sp_verify_rules.specs.Areas.{Area, Body, Child, VariableInfo, on_option, variable_at, homes, with_home}
use Rattle.sp_verify_rules.specs.Areas.{instr_at, child_at, child_of, table_at, table_named, index_of_child}
use Rattle.sp_verify_rules.specs.Chains.{variables_of, variables_in, all_variables}
use Rattle.sp_verify_rules.specs.Effects.{EffectKind, Stored, Loaded, CountsAsEffect, Becomes, IsStarted, IsCalled}
use Rattle.sp_verify_rules.specs.Effects.{EffectBy, IsEffect, HasEffect, handed_to, does_at, handed_as, Does, Granted}
use Rattle.sp_verify_rules.specs.Effects.{May}
use Rattle.sp_verify_rules.specs.Forks.{KeepsEffects}
use Rattle.sp_verify_rules.specs.KeepsCodeRules.{KeepsCodeRules}
use Rattle.sp_verify_rules.specs.NameRules.{Names, IsChild, Unknown, is_block, is_in, is_loop_variable, is_plain}
use Rattle.sp_verify_rules.specs.NameRules.{has_variable, some_has, level_fits, loops_well}
use Rattle.sp_verify_rules.specs.Reach.{IsArea}
use Rattle.sp_verify_rules.specs.Shapes.{Shape, O, C, L, A, below_topmost}
use Rattle.sp_verify_rules.specs.Touches.{stored_by, loaded_by, topmost_variable, addresses, number_list}
use Rattle.sp_verify_rules.proofs.Addresses.{AllP, addresses_around, found_around}
use Rattle.sp_verify_rules.proofs.FrameScopes.{found_layout, area_drop, homes_step, is_block_of, inner}
use Rattle.sp_verify_rules.proofs.ShapePaths.{passes}

-- ---- what an instruction touches, where each address is in a variable of P

module _ (P : ℕ → Type 0) where
  pub topmost_has : (ss : List Shape) (x : ℕ) → AllP P ss → IsMember x (topmost_variable ss) → P x
  topmost_has [] x h i = absurd i
  topmost_has (O ∷ ss) x h i = absurd i
  topmost_has (C ∷ ss) x h i = absurd i
  topmost_has (L n ∷ ss) x h i = absurd i
  topmost_has (A y n ∷ ss) x h (inl e) = subst P (sym e) h.0
  topmost_has (A y n ∷ ss) x h (inr i) = absurd i

  pub rest_have : (ss : List Shape) → AllP P ss → AllP P (below_topmost ss)
  rest_have [] h = tt
  rest_have (O ∷ ss) h = h
  rest_have (C ∷ ss) h = h
  rest_have (L n ∷ ss) h = h
  rest_have (A y n ∷ ss) h = h.1

  addresses_have : (n : ℕ) (ss : List Shape) (x : ℕ) → AllP P ss → IsMember x (addresses n ss) → P x
  addresses_have zero ss x h i = absurd i
  addresses_have (suc n) [] x h i = absurd i
  addresses_have (suc n) (O ∷ ss) x h i = addresses_have n ss x h i
  addresses_have (suc n) (C ∷ ss) x h i = addresses_have n ss x h i
  addresses_have (suc n) (L m ∷ ss) x h i = addresses_have n ss x h i
  addresses_have (suc n) (A y m ∷ ss) x h (inl e) = subst P (sym e) h.0
  addresses_have (suc n) (A y m ∷ ss) x h (inr i) = addresses_have n ss x h.1 i

  pub operand_has : (ss : List Shape) (j x n : ℕ) → AllP P ss → slice_get ss j ≡ Some (A x n) → P x
  operand_has [] j x n h e = absurd (cc e)
  operand_has (O ∷ ss) zero x n h e = absurd (cc e)
  operand_has (C ∷ ss) zero x n h e = absurd (cc e)
  operand_has (L m ∷ ss) zero x n h e = absurd (cc e)
  operand_has (A y m ∷ ss) zero x n h e = let s : y ≡ x = cc e in subst P s h.0
  operand_has (O ∷ ss) (suc j) x n h e = operand_has ss j x n h e
  operand_has (C ∷ ss) (suc j) x n h e = operand_has ss j x n h e
  operand_has (L m ∷ ss) (suc j) x n h e = operand_has ss j x n h e
  operand_has (A y m ∷ ss) (suc j) x n h e = operand_has ss j x n h.1 e

  abbrev Small : ℕ → Type 0
  Small x = (x < 2) ⊎ P x

  or_input : (x : ℕ) (ys : List ℕ) → (IsMember x ys → Small x) → IsMember x (0 ∷ ys) → Small x
  or_input x ys h (inl e) = inl (omega (arith, e))
  or_input x ys h (inr i) = h i

  is_output : (x : ℕ) → IsMember x (1 ∷ []) → Small x
  is_output x (inl e) = inl (omega (arith, e))
  is_output x (inr i) = absurd i

  module _ (c : Parts) (a : Area) (found : (var : ℕ) (f : VariableInfo) → variable_at c a 0 var ≡ Some f
      → is_loop_variable (Some f) ≡ true → P f.number) (ss : List Shape) (h : AllP P ss) (x : ℕ) where
    loop : (var : ℕ) (o : Option VariableInfo) → variable_at c a 0 var ≡ o → is_loop_variable o ≡ true
        → IsMember x (number_list o)
        → Small x
    loop var None e w i = absurd i
    loop var (Some f) e w (inl s) = inr (subst P (sym s) (found var f e w))
    loop var (Some f) e w (inr i) = absurd i

    called : (o : Option Layout) → IsMember x (on_option [] o (λ l. addresses (length l.formals) ss)) → Small x
    called None i = absurd i
    called (Some l) i = inr (addresses_have (length l.formals) ss x h i)

    stored_have : (o : Option Instr) → loops_well c a o ≡ true → IsMember x (stored_by c a o ss) → Small x
    stored_have (Some i.Store) w m = inr (topmost_has (below_topmost ss) x (rest_have ss h) m)
    stored_have (Some (i.Copy k)) w m = inr (topmost_has (below_topmost ss) x (rest_have ss h) m)
    stored_have (Some (i.Forup var to)) w m = loop var (variable_at c a 0 var) refl w m
    stored_have (Some (i.Fordown var to)) w m = loop var (variable_at c a 0 var) refl w m
    stored_have (Some (i.Nextup var to)) w m = loop var (variable_at c a 0 var) refl w m
    stored_have (Some (i.Nextdown var to)) w m = loop var (variable_at c a 0 var) refl w m
    stored_have (Some (i.Call b up)) w m = called (layout_of c.layouts b) m
    stored_have (Some i.ReadInt) w m = or_input x (topmost_variable ss) (λ j. inr (topmost_has ss x h j)) m
    stored_have (Some i.ReadChar) w m = or_input x (topmost_variable ss) (λ j. inr (topmost_has ss x h j)) m
    stored_have (Some i.Readln) w m = or_input x [] (λ j. absurd j) m
    stored_have (Some i.WriteInt) w m = is_output x m
    stored_have (Some i.WriteChar) w m = is_output x m
    stored_have (Some i.WriteBool) w m = is_output x m
    stored_have (Some (i.WriteText k)) w m = is_output x m
    stored_have (Some i.WritewInt) w m = is_output x m
    stored_have (Some i.WritewChar) w m = is_output x m
    stored_have (Some i.WritewBool) w m = is_output x m
    stored_have (Some (i.WritewText k)) w m = is_output x m
    stored_have (Some i.Writeln) w m = is_output x m
    stored_have (Some i.Open) w m = inr (topmost_has ss x h m)
    stored_have (Some (i.Receive k)) w m = inr (topmost_has ss x h m)
    stored_have _ w m = absurd m

    loaded_have : (o : Option Instr) → IsMember x (loaded_by c a o ss) → Small x
    loaded_have (Some i.Load) m = inr (topmost_has ss x h m)
    loaded_have (Some i.Loadc) m = inr (topmost_has ss x h m)
    loaded_have (Some (i.Pack k)) m = inr (topmost_has ss x h m)
    loaded_have (Some (i.Copy k)) m = inr (topmost_has ss x h m)
    loaded_have (Some i.Eof) m = or_input x [] (λ j. absurd j) m
    loaded_have (Some i.Eoln) m = or_input x [] (λ j. absurd j) m
    loaded_have _ m = absurd m

module _ (c : Parts) (k : KeepsCodeRules c) (e : KeepsEffects c (Does c)) (known : (p : ℕ) → Unknown c p → ⊥) where
  abbrev Around : Area → ℕ → Type 0
  Around a x = IsMember x (all_variables c.layouts (homes c a))

  abbrev AroundWith : Option ℕ → Area → ℕ → Type 0
  AroundWith index a x = IsMember x (all_variables c.layouts (with_home index (homes c a)))

  -- ---- tables

  -- an instruction names the table of its child
  record TableOfChild (p j : ℕ) (t : ChildTable) : Type 0 where
    table : ℕ
    names_table : Names c table p
    is_child : IsChild c table j t

  table_of_child : (p j : ℕ) (t : ChildTable) → child_at c p j ≡ Some t → TableOfChild p j t
  table_of_child p j t s = of_name (table_named (instr_at c p)) refl s
    where
      of_name : (o : Option ℕ) → table_named (instr_at c p) ≡ o → child_of (table_at c.forks o) j ≡ Some t
          → TableOfChild p j t
      of_name None w s = absurd (cc s)
      of_name (Some n) w s = record { table = n; names_table = w; is_child = s }

  has_member : (x : ℕ) (ys : List ℕ) → is_in x ys ≡ true → IsMember x ys
  has_member x [] h = absurd (cc h)
  has_member x (y ∷ ys) h = here_or_later (x == y) refl h (λ w. has_member x ys w)
    where
      here_or_later : (t : Bool) → (x == y) ≡ t → (t || is_in x ys) ≡ true → (is_in x ys ≡ true → IsMember x ys)
          → IsMember x (y ∷ ys)
      here_or_later true w h later = inl (eqb-true x y w)
      here_or_later false w h later = inr (later h)

  has_home : (x : ℕ) (h : Home) → has_variable c.layouts x h ≡ true → IsMember x (variables_in c.layouts h)
  has_home x (OfBlock b) w = of_layout (layout_of c.layouts b) w
    where
      of_layout : (o : Option Layout) → on_option false o (λ l. is_in x l.variables) ≡ true
          → IsMember x (variables_of o)
      of_layout None w = absurd (cc w)
      of_layout (Some l) w = has_member x l.variables w
  has_home x (OfIndex y) w = inl (eqb-true x y w)

  has_homes : (x : ℕ) (hs : List Home) → some_has c.layouts x hs ≡ true → IsMember x (all_variables c.layouts hs)
  has_homes x [] w = absurd (cc w)
  has_homes x (h ∷ hs) w = here_or_outer (has_variable c.layouts x h) refl w (λ v. has_homes x hs v)
    where
      here_or_outer : (t : Bool) → has_variable c.layouts x h ≡ t → (t || some_has c.layouts x hs) ≡ true
          → (some_has c.layouts x hs ≡ true → IsMember x (all_variables c.layouts hs))
          → IsMember x (all_variables c.layouts (h ∷ hs))
      here_or_outer true s w outer =
          member_front x (variables_in c.layouts h) (all_variables c.layouts hs) (has_home x h s)
      here_or_outer false s w outer =
          member_back x (variables_in c.layouts h) (all_variables c.layouts hs) (outer w)

  -- what is handed to a child is around
  pub handed_around : (a : Area) (p j x : ℕ) (t : ChildTable) → IsArea c a → IsStarted c a p j t
      → IsMember x (handed_to t) → 2 ≤ x → Around a x
  handed_around a p j x t area (lies, there) handed real =
      has_homes x (homes c a) (true_from_ne_false (some_has c.layouts x (homes c a)) (λ n. known t.entry (absent n)))
    where
      named : TableOfChild p j t
      named = table_of_child p j t there

      absent : some_has c.layouts x (homes c a) ≡ false → Unknown c t.entry
      absent n = record {
        instruction = p;
        area = a;
        table = named.table;
        number = j;
        child = t;
        variable = x;
        names_table = named.names_table;
        lies_there = (area, lies);
        is_child = named.is_child;
        begins = refl;
        is_handed = handed;
        is_real = real;
        is_absent = n;
      }

  -- ---- calls

  -- the homes of a called block
  pub called_homes : (a : Area) (p f up : ℕ) (ss : List Shape) (l : Layout) → IsArea c a → IsCalled c a p f up ss l
      → (homes c (Body f) ≡ OfBlock f ∷ drop up (homes c a)) × ((l.block ≡ f) × ((f == 0) ≡ false))
  called_homes a p f up ss l area call = (
    homes_step c k f w.0 l call.layout nz w.1
        ∙ ap (λ hs. OfBlock f ∷ hs) (sym (area_drop c k a up w.0 area w.2)),
    ((found_layout c.layouts f l call.layout).0, nz),
  )
    where
      level : is_block l.parent (slice_get (homes c a) up) ≡ true
      level =
          ap (λ o. on_option false o (λ (m : Layout). is_block m.parent (slice_get (homes c a) up))) (sym call.layout)
          ∙ ap (λ o. level_fits c a o) (sym call.call)
          ∙ k.levels a p (area, passes c a p ss call.reached)

      w : (d : ℕ) × (l.parent ≡ Some d) × (slice_get (homes c a) up ≡ Some (OfBlock d))
      w = is_block_of c k l.parent (slice_get (homes c a) up) level

      nz : (f == 0) ≡ false
      nz = inner c k f l (slice_get (homes c a) up) call.layout level

  in_outer : (up x : ℕ) (hs : List Home) → IsMember x (all_variables c.layouts (drop up hs))
      → IsMember x (all_variables c.layouts hs)
  in_outer zero x hs m = m
  in_outer (suc up) x [] m = m
  in_outer (suc up) x (h ∷ hs) m = member_back x (variables_in c.layouts h) (all_variables c.layouts hs)
      (in_outer up x hs m)

  -- ---- effects are around

  does_around : (u : EffectKind) (a : Area) (x : ℕ) → IsArea c a → Does c u a x → (x < 2) ⊎ Around a x
  does_around u a x area (inl (p, ss, reached, touches)) = of_kind u touches
    where
      all : AllP (Around a) ss
      all = addresses_around c k a area p ss reached

      loops : loops_well c a (instr_at c p) ≡ true
      loops = k.loops a p (area, passes c a p ss reached)

      found : (var : ℕ) (f : VariableInfo) → variable_at c a 0 var ≡ Some f → is_loop_variable (Some f) ≡ true
          → Around a f.number
      found var f s w = found_around c k a 0 var f s (inl (first_true (is_plain f.naming) (f.cells == 1) w))

      of_kind : (v : EffectKind) → IsMember x (does_at c v a p ss) → (x < 2) ⊎ Around a x
      of_kind Stored m = stored_have (Around a) c a found ss all x (instr_at c p) loops m
      of_kind Loaded m = loaded_have (Around a) c a found ss all x (instr_at c p) m
  does_around u a x area (inr (p, j, t, started, is_handed)) = ⊎_elim (λ (l : x < 2). inl l)
      (λ (r : 2 ≤ x). inr (handed_around a p j x t area started (handed u is_handed) r)) (below_two_or_not x)
    where
      handed : (v : EffectKind) → IsMember x (handed_as c v t) → IsMember x (handed_to t)
      handed Stored m = member_front x t.moved t.shared m
      handed Loaded m = member_back x t.moved t.shared m

  area_of_child : (a : Area) (p j : ℕ) (t : ChildTable) → IsArea c a → IsStarted c a p j t → IsArea c (Child a p j)
  area_of_child a p j t area s = (area, s.0, (t, s.1))

  -- an effect of a child that is none of its index
  not_index : (u : EffectKind) (a : Area) (p j x y : ℕ) (t : ChildTable) → IsArea c (Child a p j)
      → child_at c p j ≡ Some t
      → t.index ≡ Some y → CountsAsEffect u t.index x → IsEffect c (Does c) u (Child a p j) x → x ≡ y → ⊥
  not_index Stored a p j x y t area at is o f s = nothing
      (subst (IsMember x) (e.no_moves a p j t area at (subst (λ z. IsSome z) (sym is) refl))
      (e.stored a p j x t area at f))
    where
      nothing : IsMember x [] → ⊥
      nothing m = m
  not_index Loaded a p j x y t area at is o f s = subst (λ z. CountsAsEffect Loaded z x) is o s

  pub around : (bs : List Area) (u : EffectKind) (a : Area) (x : ℕ) → IsArea c a → EffectBy c (Does c) bs u a x
      → (x < 2)
      ⊎ Around a x
  around [] u a x area d = does_around u a x area d
  around (b ∷ bs) u a x area (inl (p, j, t, is_child, started, counts, by_child)) = ⊎_elim (λ (l : x < 2). inl l)
      (λ m. inr (outside (index_of_child (child_at c p j)) refl (subst (λ z. Around z x) is_child m)))
      (around bs u b x (subst (IsArea c) (sym is_child) child) by_child)
    where
      child : IsArea c (Child a p j)
      child = area_of_child a p j t area started

      effect : IsEffect c (Does c) u (Child a p j) x
      effect = record { areas = bs; proof = subst (λ z. EffectBy c (Does c) bs u z x) is_child by_child }

      other : (y : ℕ) → index_of_child (child_at c p j) ≡ Some y → x ≡ y → ⊥
      other y is = not_index u a p j x y t child started.1 (sym (ap index_of_child started.1) ∙ is) counts effect

      outside : (o : Option ℕ) → index_of_child (child_at c p j) ≡ o → Around (Child a p j) x → Around a x
      outside None is m = subst (λ z. AroundWith z a x) is m
      outside (Some y) is m = ⊎_elim (λ s. absurd (other y is s)) (λ r. r) (subst (λ z. AroundWith z a x) is m)
  around (b ∷ bs) u a x area (inr (p, f, up, ss, lay, is_body, call, (y, by_body, as_caller))) = becomes
      (around bs u b y (subst (IsArea c) (sym is_body) (lay, call.layout)) by_body) as_caller
    where
      called : (homes c (Body f) ≡ OfBlock f ∷ drop up (homes c a)) × ((lay.block ≡ f) × ((f == 0) ≡ false))
      called = called_homes a p f up ss lay area call

      variables : variables_in c.layouts (OfBlock f) ≡ lay.variables
      variables = ap variables_of call.layout

      outer : (IsMember y lay.variables → ⊥) → Around b y → Around a y
      outer n m =
          let there : IsMember y (all_variables c.layouts (OfBlock f ∷ drop up (homes c a))) =
          subst (λ hs. IsMember y (all_variables c.layouts hs)) called.0 (subst (λ z. Around z y) is_body m) in
          ⊎_elim (λ z. absurd (n (subst (IsMember y) variables z))) (λ z. in_outer up y (homes c a) z)
          (member_either y (variables_in c.layouts (OfBlock f)) (all_variables c.layouts (drop up (homes c a))) there)

      becomes : (y < 2) ⊎ Around b y → Becomes lay ss y x → (x < 2) ⊎ Around a x
      becomes inside (inl (same, absent)) =
          let of_caller : (y < 2) ⊎ Around a y = ⊎_elim (λ (l : y < 2). inl l) (λ m. inr (outer absent m)) inside in
          subst (λ z. (z < 2) ⊎ Around a z) (sym same) of_caller
      becomes inside (inr (j, _, (_, left, _, operand_is))) =
          let all = addresses_around c k a area p ss call.reached in
          inr (operand_has (Around a) ss (length lay.formals - 1 - j) x left all operand_is)

  pub effects_around : (a : Area) (x : ℕ) → IsArea c a → HasEffect c (Does c) a x → (x < 2) ⊎ Around a x
  effects_around a x area (inl h) = around h.areas Stored a x area h.proof
  effects_around a x area (inr h) = around h.areas Loaded a x area h.proof

  -- ---- what an activation may touch

  pub may_effect : (a : Area) (x : ℕ) → IsArea c a → HasEffect c (Does c) a x → May c a x
  may_effect (Body b) x area h = inl h
  may_effect (Child a p j) x area h = granted (child_at c p j) refl h
    where
      granted : (o : Option ChildTable) → child_at c p j ≡ o → HasEffect c (Does c) (Child a p j) x → Granted c o x
      granted None s h = let (_, _, (_, there)) = area in absurd (cc (sym s ∙ there))
      granted (Some t) s (inl f) = inl (member_front x t.moved t.shared (e.stored a p j x t area s f))
      granted (Some t) s (inr f) = index (t.index) refl
        where
          index : (o : Option ℕ) → t.index ≡ o → IsMember x (handed_to t) ⊎ (t.index ≡ Some x)
          index None is = inl (e.loaded a p j x t area s f (subst (λ z. CountsAsEffect Loaded z x) (sym is) tt))
          index (Some y) is = own (x == y) refl
            where
              own : (b : Bool) → (x == y) ≡ b → IsMember x (handed_to t) ⊎ (t.index ≡ Some x)
              own true w = inr (is ∙ ap Some (sym (eqb-true x y w)))
              own false w = inl (e.loaded a p j x t area s f
                  (subst (λ z. CountsAsEffect Loaded z x) (sym is) (λ q. cc (sym w
                  ∙ is_same x y q))))
