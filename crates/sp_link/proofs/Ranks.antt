-- The code of a program is ranked: no way of ticks and calls is longer than the code (`program_ranked`). Each part is
-- straight, or its ways back lead to a tick; so the rank at its beginning is no higher than that behind it and the
-- part's length.
use Rattle.std.proofs.Common.{◌≡◌, ⊎_elim, ℕ, zero, suc, ◌+◌, ◌<◌, ◌≤◌, ◌==◌, ℤ, List, [], ◌∷◌, ◌++◌, length}
use Rattle.std.proofs.Common.{Option, Some, None, Bool, true, false, if◌then◌else◌, refl, ap, subst, arith}
use Rattle.std.specs.Prelude.{slice_get}
use Rattle.sp_base.proofs.Facts.{within_or_past}
use Rattle.sp_tree.specs.declared.checked.KindOf.{KindOf}
use Rattle.sp_tree.specs.declared.checked.KindOf.TheVariants as kind
use Rattle.sp_tree.specs.Plain.{Expr, Typed, ExprForm, Number, Read, Unary, Binary, Apply, Standard, AtInput, Var}
use Rattle.sp_tree.specs.Plain.{Entire, Index, Field, Selectors, Whole, Select, ByValue, ByReference, Actuals, Nothing}
use Rattle.sp_tree.specs.Plain.{Pass, Program, Block, Stmt, Empty, Assign, Call, Sequence, If, IfElse, While, Repeat}
use Rattle.sp_tree.specs.Plain.{For, Case, Parallel, Forall, Assume, ReadValue, ReadLine, WriteValue, WriteText}
use Rattle.sp_tree.specs.Plain.{WriteLine, Open, Send, Receive, Stmts, No, And, On, Arms, NoArm, Or}
use Rattle.sp_code.specs.declared.instr.Instr.{Instr}
use Rattle.sp_code.specs.declared.instr.Instr.TheVariants as i
use Rattle.sp_code.specs.TreeCode.{unary_code, binary_instr, standard_code, read_instr, index_instr, field_instr}
use Rattle.sp_code.specs.TreeCode.{write_instr, reading_instr, assign_instr, call_instr, test_code, tables_in, texts_in}
use Rattle.sp_code.specs.TreeCode.{end_instr, value_code, form_code, var_code, selectors_code, actuals_code, width_code}
use Rattle.sp_code.specs.TreeCode.{right_code, tests_code, code, code_all, code_children, code_arms, block_code}
use Rattle.sp_code.specs.TreeCode.{blocks_code, program_code}
use Rattle.sp_code.specs.Lengths.{value_length, stmt_length, all_length, children_length, arms_length, tests_length}
use Rattle.sp_code.specs.Lengths.{blocks_length}
use Rattle.sp_code.specs.Places.{after_value, after_test, after_tests, after_statement, after_all, after_children}
use Rattle.sp_code.specs.Places.{after_arms}
use Rattle.sp_code.specs.Places.{after_block}
use Rattle.sp_code.specs.Ranks.{ways, maximum_of, rank, IsRanked}
use Rattle.sp_code.specs.Scopes.{Sort, Ordinals, Channels, Many, NoSort, Scope, OfIndex, is_given, kind_of, kind_at}
use Rattle.sp_code.specs.Scopes.{sort, size, slot, element_type, field_type, type_by, type_of, scopes_of}
use Rattle.sp_code.specs.CodeOfTree.{HasAt}
use Rattle.sp_code.proofs.Blocks.{has_self}
use Rattle.sp_code.proofs.Counts.{value_count, value_after, test_after, tests_after, tests_count, stmt_after, all_after}
use Rattle.sp_code.proofs.Counts.{arms_after, code_count, last_count, blocks_count}
use Rattle.sp_code.proofs.CodePositions.{has_front, has_back}
use Rattle.sp_link.proofs.BoundedRanks.{AllMost, bounded_ranked, most_max}
use Rattle.sp_link.proofs.StraightCode.{AllStraight, IsStraight, addr_straight, assign_straight, binary_straight, both}
use Rattle.sp_link.proofs.StraightCode.{call_straight, index_straight, input_straight, last, read_straight}
use Rattle.sp_link.proofs.StraightCode.{reading_straight, standard_straight, text_straight, unary_straight}
use Rattle.sp_link.proofs.StraightCode.{write_straight}

-- ---- the places of a part

module _ (all : List Instr) where
  -- the rank at a place is never above b
  abbrev Below : ℕ → ℕ → Type 0
  Below q b = (n : ℕ) → rank n all q ≤ b

  -- that of each place from q to r
  abbrev Span : ℕ → ℕ → ℕ → Type 0
  Span q r b = (x : ℕ) → q ≤ x → x ≤ r → Below x b

  raise : (q b c : ℕ) → b ≤ c → Below q b → Below q c
  raise q b c l h n = let x = h n in omega (arith, l, x)

  step : (q : ℕ) (x : Instr) (b : ℕ) → slice_get all q ≡ Some x → ((n : ℕ) → AllMost (rank n all) b (ways q (Some x)))
      → Below q (b + 1)
  unfolding rank
  step q x b e h zero = omega arith
  step q x b e h (suc n) =
      let m = most_max (rank n all) b (ways q (Some x)) (h n) in
      let w = ap (λ y. maximum_of (rank n all) (ways q y)) e in
      omega (arith, m, w)

  -- nothing stands there, or what leads nowhere
  none_there : (q : ℕ) → slice_get all q ≡ None → Below q 1
  unfolding rank
  none_there q e zero = omega arith
  none_there q e (suc n) = let w = ap (λ y. maximum_of (rank n all) (ways q y)) e in omega (arith, w)

  join : (q u v r c d e : ℕ) → v ≤ u + 1 → c ≤ e → d ≤ e → Span q u c → Span v r d → Span q r e
  join q u v r c d e g lc ld f h x lx rx = ⊎_elim (λ (l : x ≤ u). raise x c e lc (f x lx l))
      (λ (l : u < x). raise x d e ld (h x (omega (arith, l, g)) rx)) (within_or_past x u)

  one_place : (q c : ℕ) → Below q c → Span q q c
  one_place q c h x l r = let e : q ≡ x = omega (arith, l, r) in subst (λ y. Below y c) e h

  straight : (xs : List Instr) (q r b : ℕ) → HasAt all q xs → AllStraight xs → q + length xs ≡ r → Below r b
      → Span q r (b + length xs)
  straight [] q r b h k e d x l m = let w : r ≡ x = omega (arith, e, l, m) in
      raise x b (b + 0) (omega arith) (subst (λ y. Below y b) w d)
  straight (y ∷ xs) q r b h k e d x l m = by (straight xs (q + 1) r b h.1 k.1 (omega (arith, e)) d)
    where
      by : Span (q + 1) r (b + length xs) → Below x (b + suc (length xs))
      by ih = ⊎_elim
          (λ (g : x ≤ q). (let w : q ≡ x = omega (arith, g, l) in
          subst (λ z. Below z (b + suc (length xs))) w
          (raise q (b + length xs + 1) (b + suc (length xs)) (omega arith)
          (step q y (b + length xs) h.0 (λ n. k.0 (rank n all) q (b + length xs)
          (ih (q + 1) (omega arith) (omega (arith, e)) n))))))
          (λ (g : q < x). raise x (b + length xs) (b + suc (length xs)) (omega arith) (ih x (omega (arith, g)) m))
          (within_or_past x q)

  -- the same by a length that is known
  straight_by : (xs : List Instr) (q r b L : ℕ) → HasAt all q xs → AllStraight xs → length xs ≡ L → r ≡ q + L
      → Below r b → Span q r (b + L)
  straight_by xs q r b L h k e g d = subst (λ y. Span q r (b + y)) e (straight xs q r b h k (omega (arith, e, g)) d)

  -- ---- the parts of a program

  module _ (p : Program) where
    abbrev Here : ℕ → List Instr → Type 0
    Here q xs = HasAt all q xs

    field_straight : (g : ℕ) (t : Option KindOf) → IsStraight (field_instr p g t)
    field_straight g None = λ f q b h. tt
    field_straight g (Some kind.Integer) = λ f q b h. tt
    field_straight g (Some kind.Boolean) = λ f q b h. tt
    field_straight g (Some kind.Char) = λ f q b h. tt
    field_straight g (Some (kind.Enumeration n)) = λ f q b h. tt
    field_straight g (Some (kind.Array low high index element)) = λ f q b h. tt
    field_straight g (Some (kind.Fields gs)) = λ f q b h. (h, tt)
    field_straight g (Some (kind.Channel ks)) = λ f q b h. tt

    mutual
      vs : (sc : List Scope) (e : Expr) → AllStraight (value_code p sc e)
      vs sc (Typed k form) = fs sc k form

      fs : (sc : List Scope) (k : ℕ) (form : ExprForm) → AllStraight (form_code p sc k form)
      fs sc k (Number n) = (λ f q b h. (h, tt), tt)
      fs sc k (Read v) = last (var_code p sc v) (read_instr (sort p k) (size p k)) (vars sc v)
          (read_straight (sort p k) (size p k))
      fs sc k (Unary op a) = both (value_code p sc a) (unary_code op) (vs sc a) (unary_straight op)
      fs sc k (Binary op a b) = both (value_code p sc a) (value_code p sc b ++ binary_instr op ∷ []) (vs sc a)
          (last (value_code p sc b) (binary_instr op) (vs sc b) (binary_straight op))
      fs sc k (Apply g args) = last (actuals_code p sc args) (call_instr sc g (slice_get p.blocks g)) (acts sc args)
          (call_straight sc g (slice_get p.blocks g))
      fs sc k (Standard g a) = both (value_code p sc a) (standard_code g (kind_at p k)) (vs sc a)
          (standard_straight g (kind_at p k))
      fs sc k (AtInput g) = (input_straight g, tt)

      vars : (sc : List Scope) (v : Var) → AllStraight (var_code p sc v)
      vars sc (Entire x ss) = (
        addr_straight sc x (slot p x) (slice_get p.variables x),
        sels sc (type_by (slice_get p.variables x)) ss,
      )

      sels : (sc : List Scope) (k : ℕ) (ss : Selectors) → AllStraight (selectors_code p sc k ss)
      sels sc k Whole = tt
      sels sc k (Select (Index e) rest) = both (value_code p sc e)
          (index_instr (kind_at p k) (size p (element_type k (kind_at p k)))
          ∷ selectors_code p sc (element_type k (kind_at p k)) rest) (vs sc e) (
            index_straight (kind_at p k) (size p (element_type k (kind_at p k))),
            sels sc (element_type k (kind_at p k)) rest,
          )
      sels sc k (Select (Field g) rest) = (field_straight g (kind_at p k), sels sc (field_type k (kind_at p k) g) rest)

      acts : (sc : List Scope) (args : Actuals) → AllStraight (actuals_code p sc args)
      acts sc Nothing = tt
      acts sc (Pass (ByValue e) rest) = both (value_code p sc e) (actuals_code p sc rest) (vs sc e) (acts sc rest)
      acts sc (Pass (ByReference v) rest) = both (var_code p sc v) (actuals_code p sc rest) (vars sc v) (acts sc rest)

    widths : (sc : List Scope) (w : Option Expr) → AllStraight (width_code p sc w)
    widths sc None = tt
    widths sc (Some e) = vs sc e

    rights : (sc : List Scope) (k : ℕ) (z : Sort) (form : ExprForm) → AllStraight (right_code p sc k z form)
    rights sc k Ordinals form = fs sc k form
    rights sc k Channels form = fs sc k form
    rights sc k Many (Read v) = vars sc v
    rights sc k Many (Number n) = fs sc k (Number n)
    rights sc k Many (Unary op a) = fs sc k (Unary op a)
    rights sc k Many (Binary op a b) = fs sc k (Binary op a b)
    rights sc k Many (Apply g args) = fs sc k (Apply g args)
    rights sc k Many (Standard g a) = fs sc k (Standard g a)
    rights sc k Many (AtInput g) = fs sc k (AtInput g)
    rights sc k NoSort form = fs sc k form

    value : (sc : List Scope) (q b : ℕ) (e : Expr) → Here q (value_code p sc e) → Below (after_value q e) b
        → Span q (after_value q e) (b + value_length e)
    value sc q b e h d = straight_by (value_code p sc e) q (after_value q e) b (value_length e) h (vs sc e)
        (value_count p sc e) (value_after q e) d

    -- the statement's instructions are straight
    plain : (sc : List Scope) (t n q b : ℕ) (s : Stmt) → Here q (code p sc t n q s) → AllStraight (code p sc t n q s)
        → Below (after_statement p q s) b → Span q (after_statement p q s) (b + stmt_length p s)
    plain sc t n q b s h k d = straight_by (code p sc t n q s) q (after_statement p q s) b (stmt_length p s) h k
        (code_count p sc t n q s) (stmt_after p q s) d

    loop_begins : (down : Bool) (x to q b : ℕ) → Below to b → (n : ℕ) → Below (q + 1) b
        → AllMost (rank n all) b (ways q (Some (if down then i.Fordown x to else i.Forup x to)))
    loop_begins true x to q b h n k = (h n, (k n, tt))
    loop_begins false x to q b h n k = (h n, (k n, tt))

    loop_ends : (down : Bool) (x to q b : ℕ) → Below to b → (n : ℕ) → Below (q + 1) b
        → AllMost (rank n all) b (ways q (Some (if down then i.Nextdown x to else i.Nextup x to)))
    loop_ends true x to q b h n k = (h n, (k n, tt))
    loop_ends false x to q b h n k = (h n, (k n, tt))

    -- tests lead to the statements, which stand from m to r
    tests_one : (ms : List ℤ) (q m b : ℕ) → Here q (test_code ms m) → Below m b → Below (q + length ms) b
        → Span q (q + length ms) (b + length ms)
    tests_one [] q m b h l d = λ x a c. (let w : q + 0 ≡ x = omega (arith, a, c) in
        raise x b (b + 0) (omega arith) (subst (λ y. Below y b) w d))
    tests_one (k ∷ ms) q m b h l d = by (tests_one ms (q + 1) m b h.1 l
        (subst (λ y. Below y b) (shift q (length ms)) d))
      where
        shift : (q n : ℕ) → q + suc n ≡ q + 1 + n
        shift q n = omega arith

        by : Span (q + 1) (q + 1 + length ms) (b + length ms) → Span q (q + suc (length ms)) (b + suc (length ms))
        by ih = join q q (q + 1) (q + suc (length ms)) (b + length ms + 1) (b + length ms) (b + suc (length ms))
            (omega arith) (omega arith) (omega arith)
            (one_place q (b + length ms + 1)
            (step q (i.Casej k m) (b + length ms) h.0
            (λ n. (raise m b (b + length ms) (omega arith) l n, (ih (q + 1) (omega arith) (omega arith) n, tt)))))
            (λ x a c. ih x a (omega (arith, c)))

    -- a loop: what comes before its body, a tick, its body, and what is behind it
    loop : (q u j c e b T : ℕ) → 1 ≤ T → c ≤ T → e ≤ T → b ≤ T → Span q u c → Below (u + 1) (0 + 1)
        → Span (u + 1 + 1) j e → Below (j + 1) b → Span q (j + 1) T
    loop q u j c e b T l0 l1 l2 l3 f tick g d = join q u (u + 1) (j + 1) c T T (omega arith) l1 (omega arith) f
        (join (u + 1) (u + 1) (u + 1 + 1) (j + 1) (0 + 1) T T (omega arith) (omega (arith, l0)) (omega arith)
        (one_place (u + 1) (0 + 1) tick)
        (join (u + 1 + 1) j (j + 1) (j + 1) e b T (omega arith) l2 l3 g (one_place (j + 1) b d)))

    vstop : (sc : List Scope) (q : ℕ) (e : Expr) → q + length (value_code p sc e) ≡ after_value q e
    vstop sc q e = omega (arith, value_count p sc e, value_after q e)

    cstop : (sc : List Scope) (t n q : ℕ) (s : Stmt) → q + length (code p sc t n q s) ≡ after_statement p q s
    cstop sc t n q s = omega (arith, code_count p sc t n q s, stmt_after p q s)

    test_stop : (ms : List ℤ) (q m : ℕ) → q + length (test_code ms m) ≡ after_test q ms
    test_stop [] q m = omega arith
    test_stop (k ∷ ms) q m = let z = test_stop ms (q + 1) m in omega (arith, z)

    tests : (arms : Arms) (q m b : ℕ) → Here q (tests_code p arms m) → Span m (after_arms p m arms) b
        → Below (after_tests q arms) b → Span q (after_tests q arms) (b + tests_length arms)
    tests NoArm q m b h g d = one_place q (b + 0) (raise q b (b + 0) (omega arith) d)
    tests (Or (On ms s) rest) q m b h g d =
        let v = after_test q ms in
        let a = after_statement p m s in
        let lt = tests_length rest in
        let rv = test_after q ms in
        let rt = tests_after v rest in
        let rs = stmt_after p m s in
        let ra = arms_after p (a + 1) rest in
        let ih = tests rest v (a + 1) b (has_back all q v (test_code ms m) (tests_code p rest (a + 1))
        (test_stop ms q m) h) (λ x l r. g x (omega (arith, l, rs)) r) d in
        let one = tests_one ms q m (b + lt) (has_front all q (test_code ms m) (tests_code p rest (a + 1)) h)
        (raise m b (b + lt) (omega arith) (g m (omega arith) (omega (arith, rs, ra))))
        (subst (λ y. Below y (b + lt)) rv (ih v (omega arith) (omega (arith, rt)))) in
        join q (q + length ms) v (after_tests v rest) (b + lt + length ms) (b + lt) (b + (length ms + lt))
        (omega (arith, rv)) (omega arith) (omega arith) one ih

    mutual
      stmt : (sc : List Scope) (t n q b : ℕ) (s : Stmt) → Here q (code p sc t n q s) → Below (after_statement p q s) b
          → Span q (after_statement p q s) (b + stmt_length p s)
      stmt sc t n q b Empty h d = plain sc t n q b Empty h tt d
      stmt sc t n q b (Assign v (Typed k form)) h d = plain sc t n q b (Assign v (Typed k form)) h
          (both (var_code p sc v) (right_code p sc k (sort p k) form ++ assign_instr (sort p k) (size p k) ∷ [])
          (vars sc v) (last (right_code p sc k (sort p k) form) (assign_instr (sort p k) (size p k))
          (rights sc k (sort p k) form) (assign_straight (sort p k) (size p k)))) d
      stmt sc t n q b (Call g args) h d = plain sc t n q b (Call g args) h
          (last (actuals_code p sc args) (call_instr sc g (slice_get p.blocks g)) (acts sc args)
          (call_straight sc g (slice_get p.blocks g))) d
      stmt sc t n q b (Sequence ss) h d = seq sc t n q b ss h d
      stmt sc t n q b (If e a) h d =
          let u = after_value q e in
          let r = after_statement p (u + 1) a in
          let la = stmt_length p a in
          let le = value_length e in
          let ra = stmt_after p (u + 1) a in
          let back = has_back all q u (value_code p sc e) (i.Jumpf r ∷ code p sc t n (u + 1) a) (vstop sc q e) h in
          let f = stmt sc t n (u + 1) b a back.1 d in
          let j = step u (i.Jumpf r) (b + la) back.0
          (λ k. (raise r b (b + la) (omega arith) d k, (f (u + 1) (omega arith) (omega (arith, ra)) k, tt))) in
          let g = value sc q (b + la + 1) e (has_front all q (value_code p sc e) (i.Jumpf r ∷ code p sc t n (u + 1) a)
          h) j in
          join q u (u + 1) r (b + la + 1 + le) (b + la) (b + (le + la + 1)) (omega arith) (omega arith) (omega arith) g
          f
      stmt sc t n q b (IfElse e a c) h d =
          let u = after_value q e in
          let j = after_statement p (u + 1) a in
          let r = after_statement p (j + 1) c in
          let la = stmt_length p a in
          let lc = stmt_length p c in
          let le = value_length e in
          let ra = stmt_after p (u + 1) a in
          let rc = stmt_after p (j + 1) c in
          let last_part = i.Jump r ∷ code p sc (t + tables_in a) (n + texts_in a) (j + 1) c in
          let back = has_back all q u (value_code p sc e) (i.Jumpf (j + 1) ∷ (code p sc t n (u + 1) a ++ last_part))
          (vstop sc q e) h in
          let front = has_front all q (value_code p sc e) (i.Jumpf (j + 1) ∷ (code p sc t n (u + 1) a ++ last_part))
          h in
          let ba = has_back all (u + 1) j (code p sc t n (u + 1) a) last_part (cstop sc t n (u + 1) a) back.1 in
          let gc = stmt sc (t + tables_in a) (n + texts_in a) (j + 1) b c ba.1 d in
          let jj = step j (i.Jump r) b ba.0 (λ k. (d k, tt)) in
          let ga = stmt sc t n (u + 1) (b + 1) a (has_front all (u + 1) (code p sc t n (u + 1) a) last_part back.1)
          jj in
          let ju = step u (i.Jumpf (j + 1)) (b + la + lc + 1) back.0
          (λ k. (
            raise (j + 1) (b + lc) (b + la + lc + 1) (omega arith)
                (gc (j + 1) (omega arith) (omega (arith, rc))) k,
            (
              raise (u + 1) (b + 1 + la) (b + la + lc + 1) (omega arith) (ga (u + 1) (omega arith) (omega (arith, ra)))
                  k,
              tt,
            ),
          )) in
          let gv = value sc q (b + la + lc + 1 + 1) e front ju in
          join q u (u + 1) r (b + la + lc + 1 + 1 + le) (b + (le + la + lc + 2)) (b + (le + la + lc + 2)) (omega arith)
          (omega arith) (omega arith) gv
          (join (u + 1) j (j + 1) r (b + 1 + la) (b + lc) (b + (le + la + lc + 2)) (omega arith) (omega arith)
          (omega arith) ga gc)
      stmt sc t n q b (While e s) h d =
          let u = after_value q e in
          let j = after_statement p (u + 1 + 1) s in
          let ls = stmt_length p s in
          let le = value_length e in
          let rv = value_after q e in
          let tail = code p sc t n (u + 1 + 1) s ++ i.Jump q ∷ [] in
          let back = has_back all q u (value_code p sc e) (i.Jumpf (j + 1) ∷ i.Tick ∷ tail) (vstop sc q e) h in
          let body_has = back.1 in
          let front = has_front all q (value_code p sc e) (i.Jumpf (j + 1) ∷ i.Tick ∷ tail) h in
          let bs = has_back all (u + 1 + 1) j (code p sc t n (u + 1 + 1) s) (i.Jump q ∷ []) (cstop sc t n (u + 1 + 1) s)
          body_has.1 in
          let tick = step (u + 1) i.Tick 0 body_has.0 (λ k. tt) in
          let ju = step u (i.Jumpf (j + 1)) (b + 1) back.0
          (λ k. (
            raise (j + 1) b (b + 1) (omega arith) d k,
            (raise (u + 1) (0 + 1) (b + 1) (omega arith) tick k, tt),
          )) in
          let gv = value sc q (b + 1 + 1) e front ju in
          let jj = step j (i.Jump q) (b + 1 + 1 + le) bs.0 (λ k. (gv q (omega arith) (omega (arith, rv)) k, tt)) in
          let gs = stmt sc t n (u + 1 + 1) (b + 1 + 1 + le + 1) s
          (has_front all (u + 1 + 1) (code p sc t n (u + 1 + 1) s) (i.Jump q ∷ []) body_has.1) jj in
          loop q u j (b + 1 + 1 + le) (b + 1 + 1 + le + 1 + ls) b (b + (le + ls + 3)) (omega arith) (omega arith)
          (omega arith) (omega arith) gv tick gs d
      stmt sc t n q b (Repeat s e) h d =
          let j = after_statement p (q + 1) s in
          let w = after_value j e in
          let ls = stmt_length p s in
          let le = value_length e in
          let rv = value_after j e in
          let tail = value_code p sc e ++ i.Jumpf q ∷ [] in
          let bs = has_back all (q + 1) j (code p sc t n (q + 1) s) tail (cstop sc t n (q + 1) s) h.1 in
          let bv = has_back all j w (value_code p sc e) (i.Jumpf q ∷ []) (vstop sc j e) bs in
          let tick = step q i.Tick 0 h.0 (λ k. tt) in
          let jw = step w (i.Jumpf q) (b + 1) bv.0
          (λ k. (raise q (0 + 1) (b + 1) (omega arith) tick k, (raise (w + 1) b (b + 1) (omega arith) d k, tt))) in
          let gv = value sc j (b + 1 + 1) e (has_front all j (value_code p sc e) (i.Jumpf q ∷ []) bs) jw in
          let gs = stmt sc t n (q + 1) (b + 1 + 1 + le) s (has_front all (q + 1) (code p sc t n (q + 1) s) tail h.1)
          (gv j (omega arith) (omega (arith, rv))) in
          join q q (q + 1) (w + 1) (0 + 1) (b + (ls + le + 2)) (b + (ls + le + 2)) (omega arith) (omega arith)
          (omega arith) (one_place q (0 + 1) tick)
          (join (q + 1) w (w + 1) (w + 1) (b + (ls + le + 2)) b (b + (ls + le + 2)) (omega arith) (omega arith)
          (omega arith)
          (join (q + 1) j j w (b + 1 + 1 + le + ls) (b + 1 + 1 + le) (b + (ls + le + 2)) (omega arith) (omega arith)
          (omega arith) gs gv) (one_place (w + 1) b d))
      stmt sc t n q b (For x from down to s) h d =
          let m = after_value q from in
          let u = after_value m to in
          let j = after_statement p (u + 1 + 1) s in
          let ls = stmt_length p s in
          let lf = value_length from in
          let lt = value_length to in
          let rt = value_after m to in
          let up = if down then i.Fordown (slot p x) (j + 1) else i.Forup (slot p x) (j + 1) in
          let nx = if down then i.Nextdown (slot p x) (u + 1) else i.Nextup (slot p x) (u + 1) in
          let turns = up ∷ i.Tick ∷ (code p sc t n (u + 1 + 1) s ++ nx ∷ []) in
          let back1 = has_back all q m (value_code p sc from) (value_code p sc to ++ turns) (vstop sc q from) h in
          let back = has_back all m u (value_code p sc to) turns (vstop sc m to) back1 in
          let body_has = back.1 in
          let bs = has_back all (u + 1 + 1) j (code p sc t n (u + 1 + 1) s) (nx ∷ []) (cstop sc t n (u + 1 + 1) s)
          body_has.1 in
          let tick = step (u + 1) i.Tick 0 body_has.0 (λ k. tt) in
          let tick1 = raise (u + 1) (0 + 1) (b + 1) (omega arith) tick in
          let d1 = raise (j + 1) b (b + 1) (omega arith) d in
          let jj = step j nx (b + 1) bs.0 (λ k. loop_ends down (slot p x) (u + 1) j (b + 1) tick1 k d1) in
          let gs = stmt sc t n (u + 1 + 1) (b + 1 + 1) s
          (has_front all (u + 1 + 1) (code p sc t n (u + 1 + 1) s) (nx ∷ []) body_has.1) jj in
          let ju = step u up (b + 1) back.0 (λ k. loop_begins down (slot p x) (j + 1) u (b + 1) d1 k tick1) in
          let gt = value sc m (b + 1 + 1) to (has_front all m (value_code p sc to) turns back1) ju in
          let gf = value sc q (b + 1 + 1 + lt) from
          (has_front all q (value_code p sc from) (value_code p sc to ++ turns) h)
          (gt m (omega arith) (omega (arith, rt))) in
          loop q u j (b + (lf + lt + ls + 3)) (b + 1 + 1 + ls) b (b + (lf + lt + ls + 3)) (omega arith) (omega arith)
          (omega arith) (omega arith)
          (join q m m u (b + 1 + 1 + lt + lf) (b + 1 + 1 + lt) (b + (lf + lt + ls + 3)) (omega arith) (omega arith)
          (omega arith) gf gt) tick gs d
      stmt sc t n q b (Case e arms) h d =
          let v = after_value q e in
          let m = after_tests v arms in
          let r = after_arms p (m + 1) arms in
          let le = value_length e in
          let lt = tests_length arms in
          let la = arms_length p arms in
          let rt = tests_after v arms in
          let tail = i.Nocase ∷ code_arms p sc t n (m + 1) arms r in
          let back1 = has_back all q v (value_code p sc e) (tests_code p arms (m + 1) ++ tail) (vstop sc q e) h in
          let bt = has_back all v m (tests_code p arms (m + 1)) tail (omega (arith, tests_count p arms (m + 1), rt))
          back1 in
          let ga = each sc t n (m + 1) b arms r bt.1 d d in
          let nc = step m i.Nocase 0 bt.0 (λ k. tt) in
          let gt = tests arms v (m + 1) (b + la + 1) (has_front all v (tests_code p arms (m + 1)) tail back1)
          (λ x l c. raise x (b + la) (b + la + 1) (omega arith) (ga x l c))
          (raise m (0 + 1) (b + la + 1) (omega arith) nc) in
          let gv = value sc q (b + la + 1 + lt) e
          (has_front all q (value_code p sc e) (tests_code p arms (m + 1) ++ tail) h)
          (gt v (omega arith) (omega (arith, rt))) in
          join q m (m + 1) r (b + (le + lt + la + 1)) (b + la) (b + (le + lt + la + 1)) (omega arith) (omega arith)
          (omega arith)
          (join q v v m (b + la + 1 + lt + le) (b + la + 1 + lt) (b + (le + lt + la + 1)) (omega arith) (omega arith)
          (omega arith) gv gt) ga
      stmt sc t n q b (Parallel ss) (forks, (jumps, parts)) d =
          let r = after_children p (q + 1 + 1) ss in
          let lc = children_length p ss in
          let f = step q (i.Fork t) 0 forks (λ k. tt) in
          let j = step (q + 1) (i.Jump r) b jumps (λ k. (d k, tt)) in
          let gc = kids sc (t + 1) n (q + 1 + 1) b ss parts d in
          join q q (q + 1) r (0 + 1) (b + (lc + 2)) (b + (lc + 2)) (omega arith) (omega arith) (omega arith)
          (one_place q (0 + 1) f)
          (join (q + 1) (q + 1) (q + 1 + 1) r (b + 1) (b + lc) (b + (lc + 2)) (omega arith) (omega arith) (omega arith)
          (one_place (q + 1) (b + 1) j) gc)
      stmt sc t n q b (Forall x from to s) h d =
          let m = after_value q from in
          let u = after_value m to in
          let j = after_statement p (u + 1 + 1) s in
          let ls = stmt_length p s in
          let lf = value_length from in
          let lt = value_length to in
          let rt = value_after m to in
          let body = code p (OfIndex x ∷ sc) (t + 1) n (u + 1 + 1) s in
          let tail = i.Forall t ∷ i.Jump (j + 1) ∷ (body ++ i.End ∷ []) in
          let back1 = has_back all q m (value_code p sc from) (value_code p sc to ++ tail) (vstop sc q from) h in
          let back = has_back all m u (value_code p sc to) tail (vstop sc m to) back1 in
          let body_has = back.1 in
          let bs = has_back all (u + 1 + 1) j body (i.End ∷ []) (cstop (OfIndex x ∷ sc) (t + 1) n (u + 1 + 1) s)
          body_has.1 in
          let e = step j i.End 0 bs.0 (λ k. tt) in
          let gs = stmt (OfIndex x ∷ sc) (t + 1) n (u + 1 + 1) (0 + 1) s
          (has_front all (u + 1 + 1) body (i.End ∷ []) body_has.1) e in
          let jump = step (u + 1) (i.Jump (j + 1)) b body_has.0 (λ k. (d k, tt)) in
          let ju = step u (i.Forall t) (b + 1) back.0 (λ k. (jump k, tt)) in
          let gt = value sc m (b + 1 + 1) to (has_front all m (value_code p sc to) tail back1) ju in
          let gf = value sc q (b + 1 + 1 + lt) from
          (has_front all q (value_code p sc from) (value_code p sc to ++ tail) h)
          (gt m (omega arith) (omega (arith, rt))) in
          let T = b + (lf + lt + ls + 3) in
          join q u (u + 1) (j + 1) T T T (omega arith) (omega arith) (omega arith)
          (join q m m u (b + 1 + 1 + lt + lf) (b + 1 + 1 + lt) T (omega arith) (omega arith) (omega arith) gf gt)
          (join (u + 1) (u + 1) (u + 1 + 1) (j + 1) (b + 1) T T (omega arith) (omega arith) (omega arith)
          (one_place (u + 1) (b + 1) jump)
          (join (u + 1 + 1) j (j + 1) (j + 1) (0 + 1 + ls) b T (omega arith) (omega arith) (omega arith) gs
          (one_place (j + 1) b d)))
      stmt sc t n q b (Assume e) h d = plain sc t n q b (Assume e) h
          (last (value_code p sc e) i.Assume (vs sc e) (λ f q b h. (h, tt))) d
      stmt sc t n q b (ReadValue v) h d = plain sc t n q b (ReadValue v) h
          (last (var_code p sc v) (reading_instr (kind_at p (type_of p v))) (vars sc v)
          (reading_straight (kind_at p (type_of p v)))) d
      stmt sc t n q b ReadLine h d = plain sc t n q b ReadLine h (λ f q b h. (h, tt), tt) d
      stmt sc t n q b (WriteValue e w) h d = plain sc t n q b (WriteValue e w) h
          (both (value_code p sc e) (width_code p sc w ++ write_instr (kind_at p (kind_of e)) (is_given w) ∷ [])
          (vs sc e) (last (width_code p sc w) (write_instr (kind_at p (kind_of e)) (is_given w)) (widths sc w)
          (write_straight (kind_at p (kind_of e)) (is_given w)))) d
      stmt sc t n q b (WriteText s w) h d = plain sc t n q b (WriteText s w) h
          (last (width_code p sc w) (if is_given w then i.WritewText n else i.WriteText n) (widths sc w)
          (text_straight (is_given w) n)) d
      stmt sc t n q b WriteLine h d = plain sc t n q b WriteLine h (λ f q b h. (h, tt), tt) d
      stmt sc t n q b (Open v) h d = plain sc t n q b (Open v) h
          (last (var_code p sc v) i.Open (vars sc v) (λ f q b h. tt)) d
      stmt sc t n q b (Send c e) h d = plain sc t n q b (Send c e) h
          (both (value_code p sc c) (value_code p sc e ++ i.Send (kind_of e) ∷ []) (vs sc c)
          (last (value_code p sc e) (i.Send (kind_of e)) (vs sc e) (λ f q b h. tt))) d
      stmt sc t n q b (Receive c v) h d = plain sc t n q b (Receive c v) h
          (both (value_code p sc c) (var_code p sc v ++ i.Receive (type_of p v) ∷ []) (vs sc c)
          (last (var_code p sc v) (i.Receive (type_of p v)) (vars sc v) (λ f q b h. tt))) d

      seq : (sc : List Scope) (t n q b : ℕ) (ss : Stmts) → Here q (code_all p sc t n q ss) → Below (after_all p q ss) b
          → Span q (after_all p q ss) (b + all_length p ss)
      seq sc t n q b No h d = one_place q (b + 0) (raise q b (b + 0) (omega arith) d)
      seq sc t n q b (And s rest) h d =
          let a = after_statement p q s in
          let ls = stmt_length p s in
          let lr = all_length p rest in
          let rr = all_after p a rest in
          let more = code_all p sc (t + tables_in s) (n + texts_in s) a rest in
          let gr = seq sc (t + tables_in s) (n + texts_in s) a b rest
          (has_back all q a (code p sc t n q s) more (cstop sc t n q s) h) d in
          let gs = stmt sc t n q (b + lr) s (has_front all q (code p sc t n q s) more h)
          (gr a (omega arith) (omega (arith, rr))) in
          join q a a (after_all p a rest) (b + lr + ls) (b + lr) (b + (ls + lr)) (omega arith) (omega arith)
          (omega arith) gs gr

      kids : (sc : List Scope) (t n q b : ℕ) (ss : Stmts) → Here q (code_children p sc t n q ss)
          → Below (after_children p q ss) b → Span q (after_children p q ss) (b + children_length p ss)
      kids sc t n q b No h d = one_place q (b + 0) (raise q b (b + 0) (omega arith) d)
      kids sc t n q b (And s rest) h d =
          let a = after_statement p q s in
          let ls = stmt_length p s in
          let lr = children_length p rest in
          let more = i.End ∷ code_children p sc (t + tables_in s) (n + texts_in s) (a + 1) rest in
          let bs = has_back all q a (code p sc t n q s) more (cstop sc t n q s) h in
          let e = step a i.End 0 bs.0 (λ k. tt) in
          let gs = stmt sc t n q (0 + 1) s (has_front all q (code p sc t n q s) more h) e in
          let gr = kids sc (t + tables_in s) (n + texts_in s) (a + 1) b rest bs.1 d in
          join q a (a + 1) (after_children p (a + 1) rest) (0 + 1 + ls) (b + lr) (b + (ls + 1 + lr)) (omega arith)
          (omega arith) (omega arith) gs gr

      each : (sc : List Scope) (t n q b : ℕ) (arms : Arms) (end : ℕ) → Here q (code_arms p sc t n q arms end)
          → Below end b → Below (after_arms p q arms) b → Span q (after_arms p q arms) (b + arms_length p arms)
      each sc t n q b NoArm end h de d = one_place q (b + 0) (raise q b (b + 0) (omega arith) d)
      each sc t n q b (Or (On ms s) rest) end h de d =
          let a = after_statement p q s in
          let ls = stmt_length p s in
          let lr = arms_length p rest in
          let more = i.Jump end ∷ code_arms p sc (t + tables_in s) (n + texts_in s) (a + 1) rest end in
          let bs = has_back all q a (code p sc t n q s) more (cstop sc t n q s) h in
          let ja = step a (i.Jump end) b bs.0 (λ k. (de k, tt)) in
          let gs = stmt sc t n q (b + 1) s (has_front all q (code p sc t n q s) more h) ja in
          let gr = each sc (t + tables_in s) (n + texts_in s) (a + 1) b rest end bs.1 de d in
          join q a (a + 1) (after_arms p (a + 1) rest) (b + 1 + ls) (b + lr) (b + (ls + 1 + lr)) (omega arith)
          (omega arith) (omega arith) gs gr

    end_ways : (f : ℕ → ℕ) (k q : ℕ) → AllMost f 0 (ways q (Some (end_instr k)))
    end_ways f k q = by (k == 0)
      where
        by : (b : Bool) → AllMost f 0 (ways q (Some (if b then i.End else i.Return)))
        by true = tt
        by false = tt

    -- the places of all blocks
    blocks : (k t n q : ℕ) (ks : List Block) → Here q (blocks_code p k t n q ks) → (x : ℕ) → q ≤ x
        → x < q + blocks_length p ks → Below x (blocks_length p ks)
    blocks k t n q [] h x l r = absurd (omega (arith, l, r))
    blocks k t n q (b ∷ ks) h x l r =
        let sc = scopes_of p k in
        let a = after_statement p q b.body in
        let lb = stmt_length p b.body in
        let lr = blocks_length p ks in
        let ra = stmt_after p q b.body in
        let more = blocks_code p (suc k) (t + tables_in b.body) (n + texts_in b.body) (after_block p q b) ks in
        let front = has_front all q (block_code p k t n q b) more h in
        let stop : q + length (block_code p k t n q b) ≡ a + 1 =
        (let c = last_count (code p sc t n q b.body) (end_instr k) lb (code_count p sc t n q b.body) in
        omega (arith, c, ra)) in
        let back = has_back all q (a + 1) (block_code p k t n q b) more stop h in
        let be = has_back all q a (code p sc t n q b.body) (end_instr k ∷ []) (cstop sc t n q b.body) front in
        let e = step a (end_instr k) 0 be.0 (λ m. end_ways (rank m all) k a) in
        let gs = stmt sc t n q (0 + 1) b.body (has_front all q (code p sc t n q b.body) (end_instr k ∷ []) front) e in
        let ih = blocks (suc k) (t + tables_in b.body) (n + texts_in b.body) (a + 1) ks back x in
        ⊎_elim (λ (c : x ≤ a). raise x (0 + 1 + lb) (lb + 1 + lr) (omega arith) (gs x l c))
        (λ (c : a < x). raise x lr (lb + 1 + lr) (omega arith) (ih (omega (arith, c)) (omega (arith, r, ra))))
        (within_or_past x a)

-- nothing stands behind a list
beyond : (xs : List Instr) (k : ℕ) → length xs ≤ k → slice_get xs k ≡ None
beyond [] k h = refl
beyond (x ∷ xs) zero h = absurd (omega (arith, h))
beyond (x ∷ xs) (suc k) h = beyond xs k (omega (arith, h))

-- where no rank of a place in the code passes its length
ranked_by : (all : List Instr) → ((p : ℕ) → p < length all → (n : ℕ) → rank n all p ≤ length all) → IsRanked all
unfolding rank IsRanked
ranked_by [] h = λ p. tt
ranked_by (x ∷ xs) h = bounded_ranked (x ∷ xs)
    (λ n p. ⊎_elim (λ (l : length (x ∷ xs) ≤ p).
    (let m = none_there (x ∷ xs) p (beyond (x ∷ xs) p l) n in omega (arith, m))) (λ (l : p < length (x ∷ xs)). h p l n)
    (within_or_past (length (x ∷ xs)) p))

pub program_ranked : (p : Program) (moves shares : Stmt → List ℕ) → IsRanked (program_code p moves shares).instrs
program_ranked p moves shares =
    let all = (program_code p moves shares).instrs in
    let c = blocks_count p 0 0 0 0 p.blocks in
    ranked_by all (λ x l n. (let h = blocks all p 0 0 0 0 p.blocks (has_self all) x (omega arith) (omega (arith, l, c))
    n in omega (arith, h, c)))
