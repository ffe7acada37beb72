-- A told length is the same whatever part of it was told before.
use Rattle.std.proofs.Common.{◌≡◌, ℕ, ◌+◌, true, false, refl, sym, ap, arith, true≢false}
use Rattle.std.specs.Prelude.{min}
use Rattle.sp_base.proofs.Facts.{sum_capped}
use Rattle.sp_tree.specs.Plain.{Program, ExprForm, Selector, Index, Field, Selectors, Select, Whole, Actual, ByValue}
use Rattle.sp_tree.specs.Plain.{ByReference, Actuals, Pass, Nothing}
use Rattle.sp_code.specs.Scopes.{Sort, Ordinals, Channels, Many, NoSort}
use Rattle.sp_code.specs.Lengths.{form_length, right_length, selectors_length, actuals_length, blocks_length}
use Rattle.sp_code.specs.Places.{tree_length}
use Rattle.sp_code.proofs.Counts.{tree_after}
use Rattle.sp_generate.specs.CappedLength.{capped_length}
use Rattle.sp_generate.specs.TreeLengths.{is_many}

pub summed : (a x s : ℕ) → capped_length (capped_length (a + x) + s) ≡ capped_length (a + (x + s))
summed a x s = sum_capped 4294967295 a x s

split : (m q a b c : ℕ) → a ≡ b + c → min (min (q + b) m + c) m ≡ min (q + a) m
split m q a b c e = omega (arith, e)

first_of : (q a b c : ℕ) → a ≡ b + c → capped_length (capped_length (q + b) + c) ≡ capped_length (q + a)
first_of q a b c e = split 4294967295 q a b c e

-- the first of several parts, and the rest
select_rest : (s : Selector) (rest : Selectors)
    → selectors_length (Select s rest) ≡ selectors_length (Select s Whole) + selectors_length rest
select_rest (Index e) rest = omega arith
select_rest (Field f) rest = omega arith

pub selected : (q : ℕ) (s : Selector) (rest : Selectors)
    → capped_length (capped_length (q + selectors_length (Select s Whole)) + selectors_length rest)
    ≡ capped_length (q + selectors_length (Select s rest))
selected q s rest = first_of q _ _ _ (select_rest s rest)

pass_rest : (a : Actual) (rest : Actuals) → actuals_length (Pass a rest) ≡ actuals_length (Pass a Nothing)
    + actuals_length rest
pass_rest (ByValue e) rest = omega arith
pass_rest (ByReference v) rest = omega arith

pub passed : (q : ℕ) (a : Actual) (rest : Actuals)
    → capped_length (capped_length (q + actuals_length (Pass a Nothing)) + actuals_length rest)
    ≡ capped_length (q + actuals_length (Pass a rest))
passed q a rest = first_of q _ _ _ (pass_rest a rest)

-- the right side of an assignment, of one cell and of many
pub one_cell : (q : ℕ) (s : Sort) (form : ExprForm) → is_many s ≡ false
    → capped_length (q + form_length form) ≡ capped_length (q + right_length s form)
one_cell q Ordinals form e = refl
one_cell q Channels form e = refl
one_cell q Many form e = absurd (true≢false e)
one_cell q NoSort form e = refl

pub many_cells : (q : ℕ) (s : Sort) (form : ExprForm) → is_many s ≡ true
    → capped_length (q + right_length Many form) ≡ capped_length (q + right_length s form)
many_cells q Ordinals form e = absurd (true≢false (sym e))
many_cells q Channels form e = absurd (true≢false (sym e))
many_cells q Many form e = refl
many_cells q NoSort form e = absurd (true≢false (sym e))

split_each : (m q b c r : ℕ) → min (min (min (q + min (1 + b) m) m + c) m + r) m ≡ min (q + (b + c + 1 + r)) m
split_each m q b c r = omega arith

-- one of several values on one channel, whose length is told once
pub each : (q b c r : ℕ) → capped_length (capped_length (capped_length (q + capped_length (1 + b)) + c) + r)
    ≡ capped_length (q + (b + c + 1 + r))
each q b c r = split_each 4294967295 q b c r

-- the sum over all blocks is the tree's length
pub whole : (p : Program) → capped_length (0 + blocks_length p p.blocks) ≡ capped_length (tree_length p)
whole p =
    let same : 0 + blocks_length p p.blocks ≡ tree_length p = omega (arith, tree_after p) in
    ap capped_length same
