-- Lists of shapes whose jumps pass alike shapes.
use Rattle.std.proofs.Common.{◌≡◌, refl, sym, ◌∙◌, ap, subst, ℕ, zero, suc, ◌+◌, ◌-◌, ◌<◌, ◌≤◌, List, [], ◌∷◌, ◌++◌}
use Rattle.std.proofs.Common.{◌==◌, length, Option, Some, None, true, arith, get_or, eqb-true, eq-eqb}
use Rattle.std.specs.Prelude.{MatchOption, nat_le, slice_get}
use Rattle.std.proofs.lemmas.Bool.{and_parts}
use Rattle.std.proofs.lemmas.List.{length-append}
use Rattle.std.proofs.lemmas.Option.{slice_get-get_or}
use Rattle.sp_base.proofs.Facts.{same_if_both_follow}
use Rattle.sp_code.specs.declared.code.Formal.{Formal}
use Rattle.sp_code.specs.declared.code.Formal.TheVariants as formal
use Rattle.sp_verify_rules.specs.Areas.{on_option}
use Rattle.sp_verify_rules.specs.Rules.{fits_formal}
use Rattle.sp_verify_rules.specs.Shapes.{Shape}
use Rattle.sp_verify_shapes.specs.declared.stacks.Shape.{Shape as Kept}
use Rattle.sp_verify_shapes.specs.declared.stacks.Shape.TheVariants as kept
use Rattle.sp_verify_shapes.specs.declared.stacks.Cell.{Cell}
use Rattle.sp_verify_shapes.specs.declared.stacks.Stacks.{Stacks}
use Rattle.sp_verify_shapes.specs.Fits.{first_fit}
use Rattle.sp_verify_shapes.specs.Names.{AreLike, AreNames, IsCell, IsLike, PassAlike, far_of, kind_of}
use Rattle.sp_verify_shapes.specs.Stacks.{HasBefore, IsJump, IsListNumber, IsSmall, IsStacks, list_of, shape_of}
use Rattle.sp_verify_shapes.proofs.Asking.{each_with_one}
use Rattle.sp_verify_shapes.proofs.Formals.{all_fit, one_formal}
use Rattle.sp_verify_shapes.proofs.ListNumbers.{cell_at, list_of_cell}

-- ---- shapes

same_back : (m n : ℕ) → (m == n) ≡ (n == m)
same_back m n =
    same_if_both_follow (m == n) (n == m) (λ e. eq-eqb n m (sym (eqb-true m n e)))
    (λ e. eq-eqb m n (sym (eqb-true n m e)))

-- a value of one cell
turn : (m n : ℕ) → n ≡ 1 → (m == 1) ≡ (n == m)
turn m n e = ap (λ i. m == i) (sym e) ∙ same_back m n

-- of one kind
pub like_kinds : (s t : Kept) → IsSmall s → IsSmall t → kind_of s ≡ kind_of t → IsLike (shape_of s) (shape_of t)
like_kinds kept.Ordinal kept.Ordinal h g e f = refl
like_kinds kept.Ordinal kept.Channel h g e (formal.Value m) = refl
like_kinds kept.Ordinal kept.Channel h g e (formal.Reference m) = refl
like_kinds kept.Ordinal (kept.Cells n) h g e (formal.Value m) = turn m n (sym e)
like_kinds kept.Ordinal (kept.Cells n) h g e (formal.Reference m) = refl
like_kinds kept.Ordinal (kept.Address x n) h g e f = absurd (omega (arith, e))
like_kinds kept.Channel kept.Ordinal h g e (formal.Value m) = refl
like_kinds kept.Channel kept.Ordinal h g e (formal.Reference m) = refl
like_kinds kept.Channel kept.Channel h g e f = refl
like_kinds kept.Channel (kept.Cells n) h g e (formal.Value m) = turn m n (sym e)
like_kinds kept.Channel (kept.Cells n) h g e (formal.Reference m) = refl
like_kinds kept.Channel (kept.Address x n) h g e f = absurd (omega (arith, e))
like_kinds (kept.Cells k) kept.Ordinal h g e (formal.Value m) = sym (turn m k e)
like_kinds (kept.Cells k) kept.Ordinal h g e (formal.Reference m) = refl
like_kinds (kept.Cells k) kept.Channel h g e (formal.Value m) = sym (turn m k e)
like_kinds (kept.Cells k) kept.Channel h g e (formal.Reference m) = refl
like_kinds (kept.Cells k) (kept.Cells n) h g e f = ap (λ i. fits_formal f (shape_of (kept.Cells i))) e
like_kinds (kept.Cells k) (kept.Address x n) h g e f = absurd (omega (arith, e, h))
like_kinds (kept.Address y k) kept.Ordinal h g e f = absurd (omega (arith, e))
like_kinds (kept.Address y k) kept.Channel h g e f = absurd (omega (arith, e))
like_kinds (kept.Address y k) (kept.Cells n) h g e f = absurd (omega (arith, e, g))
like_kinds (kept.Address y k) (kept.Address x n) h g e (formal.Value m) = refl
like_kinds (kept.Address y k) (kept.Address x n) h g e (formal.Reference m) =
    let s : k ≡ n = omega (arith, e) in
    ap (λ i. nat_le m i) s

-- ---- lists of shapes

pub like_same : (k : ℕ) (ss ts : List Shape) → HasBefore k ss ts → AreLike k ss ss
like_same k ss ts h = subst (λ us. AreLike k us us) (sym h.whole) (go k h.before h.many)
  where
    go : (k : ℕ) (bs : List Shape) → length bs ≡ k → AreLike k (bs ++ ts) (bs ++ ts)
    go zero bs e = tt
    go (suc k) [] e = absurd (omega (arith, e))
    go (suc k) (b ∷ bs) e = (λ f. refl, go k bs (omega (arith, e)))

pub like_back : (k : ℕ) (ss ts : List Shape) → AreLike k ss ts → AreLike k ts ss
like_back zero ss ts h = tt
like_back (suc k) [] ts h = absurd h
like_back (suc k) (s ∷ ss) [] h = absurd h
like_back (suc k) (s ∷ ss) (t ∷ ts) h = (λ f. sym (h.0 f), like_back k ss ts h.1)

pub like_through : (k : ℕ) (ss ts us : List Shape) → AreLike k ss ts → AreLike k ts us → AreLike k ss us
like_through zero ss ts us h g = tt
like_through (suc k) [] ts us h g = absurd h
like_through (suc k) (s ∷ ss) [] us h g = absurd h
like_through (suc k) (s ∷ ss) (t ∷ ts) [] h g = absurd g
like_through (suc k) (s ∷ ss) (t ∷ ts) (u ∷ us) h g = (λ f. h.0 f ∙ g.0 f, like_through k ss ts us h.1 g.1)

-- and those behind them
pub like_both : (j k : ℕ) (ss ts vs ws : List Shape) → AreLike j ss ts → HasBefore j ss vs → HasBefore j ts ws
    → AreLike k vs ws → AreLike (j + k) ss ts
like_both j k ss ts vs ws h a b g =
    subst (λ xs. AreLike (j + k) xs ts) (sym a.whole) (subst (λ ys. AreLike (j + k) (a.before ++ vs) ys) (sym b.whole)
    (go j a.before b.before a.many b.many
    (subst (λ xs. AreLike j xs (b.before ++ ws)) a.whole (subst (λ ys. AreLike j ss ys) b.whole h))))
  where
    go : (j : ℕ) (xs ys : List Shape) → length xs ≡ j → length ys ≡ j → AreLike j (xs ++ vs) (ys ++ ws)
        → AreLike (j + k) (xs ++ vs) (ys ++ ws)
    go zero [] [] m n e = let s : k ≡ 0 + k = omega arith in subst (λ i. AreLike i vs ws) s g
    go zero (x ∷ xs) bs m n e = absurd (omega (arith, m))
    go zero [] (y ∷ ys) m n e = absurd (omega (arith, n))
    go (suc j) [] ys m n e = absurd (omega (arith, m))
    go (suc j) (x ∷ xs) [] m n e = absurd (omega (arith, n))
    go (suc j) (x ∷ xs) (y ∷ ys) m n e =
        let s : suc (j + k) ≡ suc j + k = omega arith in
        subst (λ i. AreLike i (x ∷ (xs ++ vs)) (y ∷ (ys ++ ws))) s
        (e.0, go j xs ys (omega (arith, m)) (omega (arith, n)) e.1)

-- ---- numbers of lists

pub far_at : (st : Stacks) (n : ℕ) (c : Cell) → IsCell st n c → far_of st n ≡ c.jump.far
far_at st n c h =
    let number = h.1 in
    let e : n - 1 ≡ h.0 = omega (arith, number) in
    ap (λ i. on_option 0 (slice_get st.cells i) (λ d. d.jump.far)) e ∙ ap (λ o. on_option 0 o (λ d. d.jump.far)) h.2

-- what is known of a cell
pub jump_at : (st : Stacks) (n : ℕ) (c : Cell) → IsStacks st → IsCell st n c → IsJump st (list_of st n) c.jump
jump_at st n c s h = subst (λ i. IsJump st (list_of st i) c.jump) (sym h.1) (s.jumps h.0 c h.2)

pub alike_back : (st : Stacks) (m n : ℕ) → PassAlike st m n → PassAlike st n m
alike_back st m n h = (
  sym h.0,
  subst (λ k. AreLike k (list_of st n) (list_of st m)) (sym h.0)
      (like_back (far_of st n) (list_of st m) (list_of st n) h.1),
)

pub alike_through : (st : Stacks) (l m n : ℕ) → PassAlike st l m → PassAlike st m n → PassAlike st l n
alike_through st l m n h g = (
  h.0 ∙ g.0,
  like_through (far_of st n) (list_of st l) (list_of st m) (list_of st n)
      (subst (λ k. AreLike k (list_of st l) (list_of st m)) g.0 h.1) g.1,
)

-- a list and itself
pub alike_same : (st : Stacks) (n : ℕ) → IsStacks st → 0 < n → IsListNumber st n → PassAlike st n n
alike_same st n h some there =
    let d = cell_at st.cells (n - 1) (omega (arith, some, there)) in
    let number : n ≡ n - 1 + 1 = omega (arith, some) in
    let c : IsCell st n d.0 = (n - 1, number, d.1) in
    let j = jump_at st n d.0 h c in (
      refl,
      subst (λ k. AreLike k (list_of st n) (list_of st n)) (sym (far_at st n d.0 c))
          (like_same d.0.jump.far (list_of st n) (list_of st d.0.jump.to) j.lands),
    )

-- two lists by one shape each, and what is below it
pub alike_cells : (st : Stacks) (m n : ℕ) (c d : Cell) → IsStacks st → IsCell st m c → IsCell st n d
    → c.jump.far ≡ d.jump.far → IsLike (shape_of c.shape) (shape_of d.shape)
    → 0 < c.jump.far → AreLike (c.jump.far - 1) (list_of st c.below) (list_of st d.below)
    → PassAlike st m n
alike_cells st m n c d h a b far like some below =
    let x = (list_of_cell st h a.0 c a.2 m a.1).0 in
    let y = (list_of_cell st h b.0 d b.2 n b.1).0 in
    let k = c.jump.far - 1 in
    let e : suc k ≡ c.jump.far = omega (arith, some) in (
      far_at st m c a ∙ far ∙ sym (far_at st n d b),
      subst (λ i. AreLike i (list_of st m) (list_of st n)) (e ∙ far ∙ sym (far_at st n d b))
          (subst (λ ss. AreLike (suc k) ss (list_of st n)) (sym x)
          (subst (λ ts. AreLike (suc k) (shape_of c.shape ∷ list_of st c.below) ts) (sym y) (like, below))),
    )

-- two jumps behind one another
pub alike_below : (st : Stacks) (m n : ℕ) (a b e : Cell) (k : ℕ) → IsStacks st → IsCell st m a → IsCell st n b
    → IsCell st a.jump.to e → PassAlike st m n → PassAlike st a.jump.to b.jump.to
    → k ≡ 1 + a.jump.far + e.jump.far
    → AreLike (k - 1) (list_of st m) (list_of st n)
alike_below st m n a b e k h x y z first next far =
    let i = jump_at st m a h x in
    let j = jump_at st n b h y in
    let fa : far_of st n ≡ a.jump.far = sym first.0 ∙ far_at st m a x in
    let fb : b.jump.far ≡ a.jump.far = sym (far_at st n b y) ∙ fa in
    let fe : far_of st b.jump.to ≡ e.jump.far = sym next.0 ∙ far_at st a.jump.to e z in
    let s : a.jump.far + e.jump.far ≡ k - 1 = omega (arith, far) in
    subst (λ q. AreLike q (list_of st m) (list_of st n)) s
    (like_both a.jump.far e.jump.far (list_of st m) (list_of st n) (list_of st a.jump.to) (list_of st b.jump.to)
    (subst (λ q. AreLike q (list_of st m) (list_of st n)) fa first.1)
    i.lands (subst (λ q. HasBefore q (list_of st n) (list_of st b.jump.to)) fb j.lands)
    (subst (λ q. AreLike q (list_of st a.jump.to) (list_of st b.jump.to)) fe next.1))

-- ---- names

-- two lists with one name
pub alike_names : (st : Stacks) (names : List ℕ) (m n q r : ℕ) → AreNames st names → 0 < m → 0 < n
    → slice_get names (m - 1) ≡ Some q → slice_get names (n - 1) ≡ Some r → q ≡ r → PassAlike st m n
alike_names st names m n q r h some more a b e =
    let i : m - 1 + 1 ≡ m = omega (arith, some) in
    let j : n - 1 + 1 ≡ n = omega (arith, more) in
    alike_through st m r n (subst (λ k. PassAlike st k r) i (subst (PassAlike st (m - 1 + 1)) e (h (m - 1) q a)))
    (alike_back st n r (subst (λ k. PassAlike st k r) j (h (n - 1) r b)))

-- a name that is there
pub named : (st : Stacks) (names : List ℕ) (n : ℕ) (o : Option ℕ) → AreNames st names → 0 < n
    → o ≡ slice_get names (n - 1)
    → MatchOption o (Unit {0}) (PassAlike st n)
named st names n None h some e = tt
named st names n (Some r) h some e =
    let i : n - 1 + 1 ≡ n = omega (arith, some) in
    subst (λ k. PassAlike st k r) i (h (n - 1) r (sym e))

-- one more
pub names_more : (st : Stacks) (old new : List ℕ) (r k : ℕ) → AreNames st old → length old ≡ k
    → PassAlike st (k + 1) r → new ≡ old ++ r ∷ [] → AreNames st new
names_more st old new r k h size one e = subst (AreNames st) (sym e)
    (each_with_one (λ i x. PassAlike st (i + 1) x) old r h (subst (λ j. PassAlike st (j + 1) r) (sym size) one))

pub length_after : (old new : List ℕ) (r k : ℕ) → length old ≡ k → new ≡ old ++ r ∷ [] → length new ≡ k + 1
length_after old new r k size e =
    ap (λ (xs : List ℕ). length xs) e ∙ length-append old (r ∷ []) ∙ ap (λ n. n + 1) size

-- ---- operands that are like those that fit

pub like_fit : (fs : List Formal) (c k : ℕ) (ss ts us : List Shape) → c ≤ length fs → k ≤ c → HasBefore k ss us
    → AreLike k ss ts → first_fit fs c ts ≡ true → first_fit fs c ss ≡ first_fit fs (c - k) us
like_fit fs c k ss ts us within far h like fit =
    ap (first_fit fs c) h.whole ∙ go c k h.before ts within far h.many
    (subst (λ xs. AreLike k xs ts) h.whole like) fit
  where
    go : (c k : ℕ) (bs ts : List Shape) → c ≤ length fs → k ≤ c → length bs ≡ k → AreLike k (bs ++ us) ts
        → first_fit fs c ts ≡ true → first_fit fs c (bs ++ us) ≡ first_fit fs (c - k) us
    go c zero [] ts w l m a f = let e : c ≡ c - 0 = omega arith in ap (λ n. first_fit fs n us) e
    go c zero (b ∷ bs) ts w l m a f = absurd (omega (arith, m))
    go c (suc k) [] ts w l m a f = absurd (omega (arith, m))
    go zero (suc k) (b ∷ bs) ts w l m a f = absurd (omega (arith, l))
    go (suc c) (suc k) (b ∷ bs) [] w l m a f = absurd a
    go (suc c) (suc k) (b ∷ bs) (t ∷ ts) w l m a f =
        let d = formal.Value 0 in
        let g = get_or fs c d in
        let at = slice_get-get_or fs c d (omega (arith, w)) in
        let p = and_parts (first_fit fs c ts) (fits_formal g t) (sym (one_formal fs c g t ts at) ∙ f) in
        let n : c - k ≡ suc c - suc k = omega arith in
        one_formal fs c g b (bs ++ us) at
        ∙ all_fit (first_fit fs c (bs ++ us)) (fits_formal g b) (a.0 g ∙ p.1)
        ∙ go c k bs ts (omega (arith, w)) (omega (arith, l)) (omega (arith, m)) a.1 p.0
        ∙ ap (λ i. first_fit fs i us) n
