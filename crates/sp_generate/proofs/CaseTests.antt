-- The tests of a `case` and the jumps behind its statements, as they are once all are mended.
use Rattle.std.proofs.Common.{◌≡◌, ℕ, suc, ◌+◌, ℤ, List, [], ◌∷◌, ◌++◌, length, refl, sym, ap, ◌∙◌, arith, append_assoc}
use Rattle.std.proofs.Common.{length-append}
use Rattle.std.specs.Prelude.{slice_set}
use Rattle.std.proofs.Math.Seq.{set-append_seam}
use Rattle.sp_tree.specs.PlainChecked as c
use Rattle.sp_tree.specs.Bare.{bare_arms}
use Rattle.sp_tree.specs.Around.{Scope}
use Rattle.sp_tree.specs.Plain.{Program, Stmt, On, Arms, NoArm, Or}
use Rattle.sp_code.specs.declared.instr.Instr.{Instr}
use Rattle.sp_code.specs.declared.instr.Instr.TheVariants as i
use Rattle.sp_code.specs.Places.{after_statement}
use Rattle.sp_code.specs.TreeCode.{code, code_arms, test_code, tests_code, tables_in, texts_in}
use Rattle.sp_code.proofs.Counts.{stmt_after, code_count}
use Rattle.sp_generate.specs.CodeBuffers.{blank_tests, filled_ends, filled_test, filled_tests, starts_of, ends_of}

pub blank_step : (base : List Instr) (ms : List ℤ) (s : c.Statement) (rest : c.Arms)
    → (base ++ test_code ms 0) ++ blank_tests (bare_arms rest) ≡ base ++ blank_tests (bare_arms (c.Or (c.On ms s) rest))
blank_step base ms s rest = append_assoc base (test_code ms 0) (blank_tests (bare_arms rest))

pub fill_step : (xs : List Instr) (k : ℕ) (ms : List ℤ) (s : c.Statement) (rest : c.Arms) (to : ℕ) (starts : List ℕ)
    → filled_tests (filled_test xs k ms to) (k + length ms) (bare_arms rest) starts
    ≡ filled_tests xs k (bare_arms (c.Or (c.On ms s) rest)) (to ∷ starts)
fill_step xs k ms s rest to starts = refl

pub fill_none : (xs : List Instr) (k : ℕ) (arms : Arms) → filled_tests xs k arms [] ≡ xs
fill_none xs k NoArm = refl
fill_none xs k (Or a rest) = refl

-- one instruction is changed
changed : (a b : List Instr) (x y : Instr) (n : ℕ) → n ≡ length a → slice_set (a ++ x ∷ b) n y ≡ a ++ y ∷ b
changed a b x y n e = ap (λ k. slice_set (a ++ x ∷ b) k y) e ∙ set-append_seam a x b y

module _ (p : Program) (sc : List Scope) where
  -- behind the code of a statement and one more instruction
  place : (base : List Instr) (t n q : ℕ) (s : Stmt) (x : Instr) → q ≡ length base
      → after_statement p q s + 1 ≡ length ((base ++ code p sc t n q s) ++ x ∷ [])
  place base t n q s x e = omega (
    arith,
    e,
    stmt_after p q s,
    code_count p sc t n q s,
    length-append (base ++ code p sc t n q s) (x ∷ []),
    length-append base (code p sc t n q s),
  )

  pub ends_filled : (base : List Instr) (t n q : ℕ) (arms : Arms) (end : ℕ) → q ≡ length base
      → filled_ends (base ++ code_arms p sc t n q arms 0) (ends_of p q arms) end ≡ base ++ code_arms p sc t n q arms end
  ends_filled base t n q NoArm end e = refl
  ends_filled base t n q (Or (On ms s) rest) end e =
      let cs = code p sc t n q s in
      let others = λ (m : ℕ). code_arms p sc (t + tables_in s) (n + texts_in s) (after_statement p q s + 1) rest m in
      let there : after_statement p q s ≡ length (base ++ cs) =
      omega (arith, e, stmt_after p q s, code_count p sc t n q s, length-append base cs) in
      let first : slice_set (base ++ (cs ++ (i.Jump 0 ∷ others 0))) (after_statement p q s) (i.Jump end)
      ≡ ((base ++ cs) ++ i.Jump end ∷ []) ++ others 0 =
      ap (λ xs. slice_set xs (after_statement p q s) (i.Jump end)) (sym (append_assoc base cs (i.Jump 0 ∷ others 0)))
      ∙ changed (base ++ cs) (others 0) (i.Jump 0) (i.Jump end) (after_statement p q s) there
      ∙ sym (append_assoc (base ++ cs) (i.Jump end ∷ []) (others 0)) in
      ap (λ xs. filled_ends xs (ends_of p (after_statement p q s + 1) rest) end) first
      ∙ ends_filled ((base ++ cs) ++ i.Jump end ∷ []) (t + tables_in s) (n + texts_in s) (after_statement p q s + 1)
      rest end
      (place base t n q s (i.Jump end) e)
      ∙ append_assoc (base ++ cs) (i.Jump end ∷ []) (others end)
      ∙ append_assoc base cs (i.Jump end ∷ others end)

test_filled : (base rest : List Instr) (k : ℕ) (ms : List ℤ) (to : ℕ) → k ≡ length base
    → filled_test (base ++ (test_code ms 0 ++ rest)) k ms to ≡ base ++ (test_code ms to ++ rest)
test_filled base rest k [] to e = refl
test_filled base rest k (m ∷ ms) to e =
    ap (λ xs. filled_test xs (k + 1) ms to) (changed base (test_code ms 0 ++ rest) (i.Casej m 0) (i.Casej m to) k e
    ∙ sym (append_assoc base (i.Casej m to ∷ []) (test_code ms 0 ++ rest)))
    ∙ test_filled (base ++ i.Casej m to ∷ []) rest (k + 1) ms to
    (omega (arith, e, length-append base (i.Casej m to ∷ [])))
    ∙ append_assoc base (i.Casej m to ∷ []) (test_code ms to ++ rest)

test_length : (ms : List ℤ) (to : ℕ) → length (test_code ms to) ≡ length ms
test_length [] to = refl
test_length (m ∷ ms) to = ap suc (test_length ms to)

pub tests_filled : (p : Program) (base rest : List Instr) (k q : ℕ) (arms : Arms) → k ≡ length base
    → filled_tests (base ++ (blank_tests arms ++ rest)) k arms (starts_of p q arms) ≡ base
    ++ (tests_code p arms q ++ rest)
tests_filled p base rest k q NoArm e = refl
tests_filled p base rest k q (Or (On ms s) others) e =
    ap (λ xs. filled_tests (filled_test xs k ms q) (k + length ms) others
    (starts_of p (after_statement p q s + 1) others))
    (ap (λ ys. base ++ ys) (append_assoc (test_code ms 0) (blank_tests others) rest))
    ∙ ap (λ xs. filled_tests xs (k + length ms) others (starts_of p (after_statement p q s + 1) others))
    (test_filled base (blank_tests others ++ rest) k ms q e
    ∙ sym (append_assoc base (test_code ms q) (blank_tests others ++ rest)))
    ∙ tests_filled p (base ++ test_code ms q) rest (k + length ms) (after_statement p q s + 1) others
    (omega (arith, e, length-append base (test_code ms q), test_length ms q))
    ∙ append_assoc base (test_code ms q) (tests_code p others (after_statement p q s + 1) ++ rest)
    ∙ ap (λ ys. base ++ ys) (sym (append_assoc (test_code ms q) (tests_code p others (after_statement p q s + 1)) rest))

pub blank_length : (p : Program) (arms : Arms) (b : ℕ) → length (blank_tests arms) ≡ length (tests_code p arms b)
blank_length p NoArm b = refl
blank_length p (Or (On ms s) rest) b =
    omega (
      arith,
      length-append (test_code ms 0) (blank_tests rest),
      length-append (test_code ms b) (tests_code p rest (after_statement p b s + 1)),
      test_length ms 0,
      test_length ms b,
      blank_length p rest (after_statement p b s + 1),
    )
