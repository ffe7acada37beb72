-- What the rules give at a call that is reached, and at a fork: the premises under which activations hold what they may
-- touch.
use Rattle.std.proofs.Common.{◌≡◌, ◌⊎◌, inl, inr, ⊎_elim, ℕ, zero, suc, ◌+◌, ◌-◌, ◌<◌, ◌==◌, ℤ, List, [], ◌∷◌}
use Rattle.std.proofs.Common.{◌++◌, length, drop, Option, Some, None, true, false, refl, sym, ap, ◌∙◌, subst}
use Rattle.std.proofs.Common.{arith}
use Rattle.std.specs.Prelude.{slice_get, IsSome}
use Rattle.std.proofs.lemmas.Bool.{eqb-true, and_parts}
use Rattle.std.proofs.lemmas.Option.{same_Some, slice_get_within}
use Rattle.sp_base.proofs.Facts.{is_none_plus, is_plus_none, item_there, next_goes_left}
use Rattle.sp_tree.specs.Interference.{IsMember, AllDifferent}
use Rattle.sp_tree.proofs.Members.{member_front, member_either}
use Rattle.sp_cell.specs.Map.{Plain}
use Rattle.sp_code.specs.declared.code.Formal.{Formal}
use Rattle.sp_code.specs.declared.code.Formal.TheVariants as formal
use Rattle.sp_code.specs.declared.code.Layout.{Layout}
use Rattle.sp_code.specs.declared.code.ChildTable.{ChildTable}
use Rattle.sp_code.specs.declared.code.ForkTable.{ForkTable}
use Rattle.sp_code.specs.declared.code.Parts.{Parts}
use Rattle.sp_code.specs.declared.instr.Instr.TheVariants as i
use Rattle.sp_code.specs.Machine.{layout_of, Config}
use Rattle.sp_code.specs.Memory.{OfBlock, OfIndex, CodeRun, Memory}
use Rattle.sp_code.specs.PlainStore.{plain}
use Rattle.sp_code.specs.System.{child_process, child_or, table_or}
use Rattle.sp_verify_rules.specs.Areas.{Area, Body, Child, instr_at, homes, with_home, child_at, child_of}
use Rattle.sp_verify_rules.specs.Areas.{index_of_child}
use Rattle.sp_verify_rules.specs.Chains.{variables_of, variables_in, all_variables}
use Rattle.sp_verify_rules.specs.Effects.{EffectKind, Stored, Loaded, IsActual, IsStarted, IsCalled, IsEffect}
use Rattle.sp_verify_rules.specs.Effects.{HasEffect}
use Rattle.sp_verify_rules.specs.Effects.{handed_to}
use Rattle.sp_verify_rules.specs.Effects.{does_at, Does, Granted, May}
use Rattle.sp_verify_rules.specs.Forks.{KeepsEffects}
use Rattle.sp_verify_rules.specs.KeepsCodeRules.{KeepsCodeRules}
use Rattle.sp_verify_rules.specs.NameRules.{Unknown, begins_with, formals_cells, answer_cells}
use Rattle.sp_verify_rules.specs.Reach.{IsArea, IsInCodeOf, Reaches}
use Rattle.sp_verify_rules.specs.ProcessLife.{IsChild, ForkInvariant, table_of}
use Rattle.sp_verify_rules.specs.Shapes.{Shape, O, C, L, A}
use Rattle.sp_verify_rules.specs.InstructionFacts.{ForksAt}
use Rattle.sp_verify_rules.specs.Touches.{addresses, stored_by}
use Rattle.sp_verify_rules.proofs.Addresses.{addresses_around, around_real}
use Rattle.sp_verify_rules.proofs.Effects.{effects_around, may_effect, called_homes, handed_around, operand_has}
use Rattle.sp_code.specs.Tables.{child_at as table_child, child_by, first_index}
use Rattle.sp_verify_rules.proofs.Pieces.{HaveRoom}
use Rattle.sp_verify_rules.proofs.Pushes.{KeepsCalls}
use Rattle.sp_verify_rules.proofs.FrameScopes.{found_layout, area_different}

-- ---- lists

in_addresses : (n j : ℕ) (ss : List Shape) (x m : ℕ) → j < n → slice_get ss j ≡ Some (A x m)
    → IsMember x (addresses n ss)
in_addresses zero j ss x m l e = absurd (omega (arith, l))
in_addresses (suc n) j [] x m l e = absurd (cc e)
in_addresses (suc n) zero (O ∷ ss) x m l e = absurd (cc e)
in_addresses (suc n) zero (C ∷ ss) x m l e = absurd (cc e)
in_addresses (suc n) zero (L k ∷ ss) x m l e = absurd (cc e)
in_addresses (suc n) zero (A y k ∷ ss) x m l e = let s : x ≡ y = cc e in inl s
in_addresses (suc n) (suc j) (O ∷ ss) x m l e = in_addresses n j ss x m (omega (arith, l)) e
in_addresses (suc n) (suc j) (C ∷ ss) x m l e = in_addresses n j ss x m (omega (arith, l)) e
in_addresses (suc n) (suc j) (L k ∷ ss) x m l e = in_addresses n j ss x m (omega (arith, l)) e
in_addresses (suc n) (suc j) (A y k ∷ ss) x m l e = inr (in_addresses n j ss x m (omega (arith, l)) e)

-- sizes that begin with those of the formals have room for what goes into them
room_for : (k : ℕ) (fs : List Formal) (ys zs : List ℕ) (size : ℕ → Option ℕ)
    → begins_with (formals_cells fs ++ ys) zs ≡ true → ((j : ℕ) → slice_get zs j ≡ size (k + j)) → HaveRoom k fs size
room_for k [] ys zs size b h = tt
room_for k (formal.Value n ∷ fs) ys [] size b h = absurd (cc b)
room_for k (formal.Value n ∷ fs) ys (z ∷ zs) size b h =
    let w = and_parts (n == z) (begins_with (formals_cells fs ++ ys) zs) b in (
      ap size (is_plus_none k) ∙ sym (h 0)
          ∙ ap Some (sym (eqb-true n z w.0)),
      room_for (suc k) fs ys zs size w.1 (λ j. h (suc j) ∙ ap size (next_goes_left k j)),
    )
room_for k (formal.Reference n ∷ fs) ys [] size b h = absurd (cc b)
room_for k (formal.Reference n ∷ fs) ys (z ∷ zs) size b h =
    let w = and_parts (1 == z) (begins_with (formals_cells fs ++ ys) zs) b in
    room_for (suc k) fs ys zs size w.1 (λ j. h (suc j) ∙ ap size (next_goes_left k j))

module _ (c : Parts) (k : KeepsCodeRules c) (e : KeepsEffects c (Does c)) (known : (p : ℕ) → Unknown c p → ⊥) where
  -- what an instruction that is reached stores, loads or selects the activation may touch
  pub may_do : (u : EffectKind) (a : Area) (p x : ℕ) (ss : List Shape) → IsArea c a → Reaches c a p ss
      → IsMember x (does_at c u a p ss) → May c a x
  may_do Stored a p x ss area r m = may_effect c k e known a x area
      (inl (record { areas = []; proof = inl (p, ss, r, m) }))
  may_do Loaded a p x ss area r m = may_effect c k e known a x area
      (inr (record { areas = []; proof = inl (p, ss, r, m) }))

  -- ---- a call

  module _ (a : Area) (p b up : ℕ) (ss : List Shape) (l : Layout) (area : IsArea c a)
      (call : IsCalled c a p b up ss l) where
    homes_are : (homes c (Body b) ≡ OfBlock b ∷ drop up (homes c a)) × ((l.block ≡ b) × ((b == 0) ≡ false))
    homes_are = called_homes c k e known a p b up ss l area call

    same_block : l.block ≡ b
    same_block = let (_, (block_is, _)) = homes_are in block_is

    not_program : (l.block == 0) ≡ false
    not_program = let (_, (block_is, inner)) = homes_are in ap (λ z. z == 0) block_is ∙ inner

    block : IsArea c (Body b)
    block = (l, call.layout)

    variables : variables_in c.layouts (OfBlock b) ≡ l.variables
    variables = ap variables_of call.layout

    all_there : all_variables c.layouts (homes c (Body b)) ≡ l.variables
        ++ all_variables c.layouts (drop up (homes c a))
    all_there = ap (λ hs. all_variables c.layouts hs) homes_are.0
        ∙ ap (λ xs. xs ++ all_variables c.layouts (drop up (homes c a))) variables

    own : (y : ℕ) → IsMember y (variables_of (layout_of c.layouts b)) → IsMember y l.variables
    own y m = subst (λ o. IsMember y (variables_of o)) call.layout m

    pub actual_stored : (j x : ℕ) → IsActual l ss j x → IsEffect c (Does c) Stored a x
    actual_stored j x (cells, left, formal_is, operand_is) =
        record { areas = []; proof = inl (p, ss, call.reached, stored) }
      where
        there : IsMember x (addresses (length l.formals) ss)
        there = let b = slice_get_within l.formals j (formal.Reference cells) formal_is in in_addresses
            (length l.formals) (length l.formals - 1 - j) ss x left (omega (arith, b)) operand_is

        stored : IsMember x (does_at c Stored a p ss)
        stored = subst (λ o. IsMember x (stored_by c a o ss)) (sym call.call)
            (subst (λ o. IsMember x (Rattle.sp_verify_rules.specs.Areas.on_option [] o
            (λ (m : Layout). addresses (length m.formals) ss))) (sym call.layout) there)

    pub outer_effect : (u : EffectKind) (y : ℕ) → IsEffect c (Does c) u (Body b) y → (IsMember y l.variables → ⊥)
        → IsEffect c (Does c) u a y
    outer_effect u y f n = record {
      areas = Body b ∷ f.areas;
      proof = inr
          (p, b, up, ss, l, refl, call, (y, f.proof, inl (refl, n)));
    }

    sizes_are : (length l.sizes ≡ length l.variables)
        × (begins_with (formals_cells l.formals ++ answer_cells l.answer) l.sizes ≡ true)
    sizes_are =
        let w = and_parts (length l.sizes == length l.variables) (begins_with (formals_cells l.formals
        ++ answer_cells l.answer) l.sizes) (k.sizes l (found_layout c.layouts b l call.layout).1) in
        (eqb-true (length l.sizes) (length l.variables) w.0, w.1)

    pub keeps_calls : KeepsCalls c.layouts (homes c a) up l (May c a) (May c (Body b)) (IsActual l ss)
    keeps_calls = record {
      different = area_different c k a area;
      lay = ap (layout_of c.layouts) same_block ∙ call.layout;
      inner = not_program;
      distinct = subst AllDifferent all_there (area_different c k (Body b) block);
      around = λ y d. ⊎_elim
          (λ f. ⊎_elim (λ (s : y < 2). inl s) (λ m. inr (subst (IsMember y) all_there m))
          (effects_around c k e known (Body b) y block f))
          (λ m. inr (member_front y l.variables (all_variables c.layouts (drop up (homes c a))) (own y m))) d;
      real = λ y m. around_real c k (Body b) y block
          (subst (IsMember y) (sym all_there)
          (member_front y l.variables (all_variables c.layouts (drop up (homes c a))) m));
      outer = λ y d n. ⊎_elim
          (λ f. may_effect c k e known a y area
          (⊎_elim (λ g. inl (outer_effect Stored y g n)) (λ g. inr (outer_effect Loaded y g n)) f))
          (λ m. absurd (n (own y m))) d;
      passed = λ j x w. let (_, left, _, operand_is) = w in (
        may_effect c k e known a x area (inl (actual_stored j x w)),
        around_real c k a x area
            (operand_has (λ z. IsMember z (all_variables c.layouts (homes c a))) ss (length l.formals - 1 - j) x left
            (addresses_around c k a area p ss call.reached) operand_is),
      );
      once = λ j m x u v. e.actual_once a p b up ss l area call j m x u v;
      none = λ j x u d. ⊎_elim (λ f. e.actual_none a p b up ss l area call j x u f) (λ m. own x m) d;
      sizes = λ j y s. item_there l.sizes j (let b = slice_get_within l.variables j y s in
          omega (arith, b, sizes_are.0));
      room = room_for 0 l.formals (answer_cells l.answer) l.sizes (slice_get l.sizes) sizes_are.1
          (λ j. ap (slice_get l.sizes) (is_none_plus j));
    }

-- ---- a fork

module _ (g : CodeRun) (k : KeepsCodeRules g.code) (e : KeepsEffects g.code (Does g.code)) (known : (p : ℕ)
    → Unknown g.code p
    → ⊥) (T : List Area → Config (Memory Plain) → Type 0) where
  pub is_child : (a : Area) (p j : ℕ) (t : ChildTable) → IsArea g.code a → IsStarted g.code a p j t
      → IsChild g (homes g.code) (May g.code) T a (Child a p j) t
  is_child a p j t area s = record {
    homes = ap (λ o. with_home (index_of_child o) (homes g.code a)) s.1;
    rights = λ x m. subst (λ o. Granted g.code o x) s.1 m;
    given = λ x m. subst (λ o. Granted g.code o x) (sym s.1) m;
    effect = λ x m. may_effect g.code k e known a x area (effect x (member_either x t.moved t.shared m));
    around = λ x m r. handed_around g.code k e known a p j x t area s m r;
    once = e.once a p j t child s.1;
    no_output = e.no_output a p j t child s.1;
    index = λ x is. (
      around_real g.code k (Child a p j) x child
          (subst (λ hs. IsMember x (all_variables g.code.layouts hs)) (sym (home x is)) (inl refl)),
      (subst (λ hs. AllDifferent (all_variables g.code.layouts hs)) (home x is)
          (area_different g.code k (Child a p j) child)).0,
    );
  }
    where
      child : IsArea g.code (Child a p j)
      child = (area, s.0, (t, s.1))

      home : (x : ℕ) → t.index ≡ Some x → homes g.code (Child a p j) ≡ OfIndex x ∷ homes g.code a
      home x is = ap (λ o. with_home (index_of_child o) (homes g.code a)) s.1
          ∙ ap (λ o. with_home o (homes g.code a)) is

      effect : (x : ℕ) → IsMember x t.moved ⊎ IsMember x t.shared → HasEffect g.code (Does g.code) a x
      effect x (inl m) = inl (record { areas = []; proof = inr (p, j, t, s, m) })
      effect x (inr m) = inr (record { areas = []; proof = inr (p, j, t, s, m) })

  module _ (a : Area) (p t n : ℕ) (value : ℤ) (d : Config (Memory Plain)) (area : IsArea g.code a)
      (pass : IsInCodeOf g.code a p) (at : ForksAt g.code p t n)
      (stands : (j q : ℕ) (ch : ChildTable) → child_at g.code p j ≡ Some ch → (m : ℕ)
      → T (Child a p j ∷ []) (child_process plain g d value q m ch)) where
    pub forks_well : ForkInvariant g (homes g.code) (May g.code) T a t value n d
    forks_well = go at
      where
        of_forall : instr_at g.code p ≡ Some (i.Forall t) → (tb : ForkTable) × (ch : ChildTable) × (x : ℕ)
            × (slice_get g.code.forks t ≡ Some tb) × (tb.children ≡ ch ∷ []) × (ch.index ≡ Some x)
            → ForkInvariant g (homes g.code) (May g.code) T a t value n d
        of_forall w (tb, child, x, tb_there, children_are, index_is) = record {
          area = λ j. Child a p 0;
          children = λ j lt. (let c = forall_child j lt in subst
              (λ (z : ChildTable). IsChild g (homes g.code) (May g.code) T a (Child a p 0) z) (sym c.2)
              (is_child a p 0 c.0 area (pass, c.1)));
          clear = λ j m x lj lm apart u v.
              (let c = forall_child j lj in none x
              (subst (IsMember x) (empty c.0 c.1) (subst (λ (q : ChildTable). IsMember x q.moved) c.2 u)));
          stands = λ j q lt. (let c = forall_child j lt in subst
              (λ (z : ChildTable). T (Child a p 0 ∷ []) (child_process plain g d value q j z)) (sym c.2)
              (stands 0 q c.0 c.1 j));
        }
          where
            there : child_at g.code p 0 ≡ Some child
            there = ap (λ o. child_of (Rattle.sp_verify_rules.specs.Areas.table_at g.code.forks
                (Rattle.sp_verify_rules.specs.Areas.table_named o)) 0) w
                ∙ (ap (λ o. child_of o 0) tb_there ∙ ap (λ cs. slice_get cs 0) children_are)

            forall_child : (j : ℕ) → j < n → (ch : ChildTable) × (child_at g.code p 0 ≡ Some ch)
                × (table_of g (homes g.code) (May g.code) T t j ≡ ch)
            forall_child j lt = (
              child,
              there,
              ap (λ o. child_or (table_child (table_or o) j)) tb_there
                  ∙ (ap (λ cs. child_or (child_by cs (first_index cs) j)) children_are
                  ∙ ap (λ o. child_or (child_by (child ∷ []) o j)) index_is),
            )

            has_index : (ch : ChildTable) → child_at g.code p 0 ≡ Some ch → IsSome ch.index
            has_index ch is =
                let same : child ≡ ch = same_Some _ _ (sym there ∙ is) in
                subst (λ (z : ChildTable). IsSome z.index) same (subst (λ o. IsSome o) (sym index_is) refl)

            empty : (ch : ChildTable) → child_at g.code p 0 ≡ Some ch → ch.moved ≡ []
            empty ch is = e.no_moves a p 0 ch (area, pass, (ch, is)) is (has_index ch is)

            none : (x : ℕ) → IsMember x [] → ⊥
            none x m = m

        go : ForksAt g.code p t n → ForkInvariant g (homes g.code) (May g.code) T a t value n d
        go (inl (tb, is_fork, tb_there, count_is)) = record {
          area = λ j. Child a p j;
          children = λ j lt. (let c = fork_child j lt in subst
              (λ (z : ChildTable). IsChild g (homes g.code) (May g.code) T a (Child a p j) z) (sym c.2)
              (is_child a p j c.0 area (pass, c.1)));
          clear = λ j m x lj lm apart u v. (let y = fork_child j lj in let z = fork_child m lm in
              e.clear a p j m x y.0 z.0 (area, pass, (y.0, y.1)) (area, pass, (z.0, z.1)) y.1 z.1 apart
              (subst (λ (q : ChildTable). IsMember x q.moved) y.2 u)
              (subst (λ (q : ChildTable). IsMember x (handed_to q)) z.2 v));
          stands = λ j q lt. (let c = fork_child j lt in subst
              (λ (z : ChildTable). T (Child a p j ∷ []) (child_process plain g d value q j z)) (sym c.2)
              (stands j q c.0 c.1 j));
        }
          where
            no_index : (cs : List ChildTable) → ((ch : ChildTable) → slice_get cs 0 ≡ Some ch → ch.index ≡ None)
                → first_index cs ≡ None
            no_index [] h = refl
            no_index (ch ∷ cs) h = h ch refl

            -- child j of a fork has the number j
            fork_child : (j : ℕ) → j < n → (ch : ChildTable) × (child_at g.code p j ≡ Some ch)
                × (table_of g (homes g.code) (May g.code) T t j ≡ ch)
            fork_child j lt =
                let ch = item_there tb.children j (omega (arith, lt, count_is)) in (
                  ch.0,
                  ap (λ o. child_of (Rattle.sp_verify_rules.specs.Areas.table_at g.code.forks
                      (Rattle.sp_verify_rules.specs.Areas.table_named o)) j) is_fork
                      ∙ (ap (λ o. child_of o j) tb_there ∙ ch.1),
                  ap (λ o. child_or (table_child (table_or o) j)) tb_there
                      ∙ (ap (λ o. child_or (child_by tb.children o j))
                      (no_index tb.children (λ ch s. k.forks p t 0 ch is_fork (ap (λ o. child_of o 0) tb_there ∙ s)))
                      ∙ ap child_or ch.1),
                )
        go (inr w) = of_forall w (k.foralls p t w)
