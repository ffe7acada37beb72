-- Each list of shapes has one number, and keeps it.
use Rattle.std.proofs.Common.{◌≡◌, ⊎_elim, refl, sym, ◌∙◌, ap, subst, ℕ, zero, suc, ◌+◌, ◌*◌, ◌<◌, ◌≤◌}
use Rattle.std.proofs.Common.{◌==◌, List, [], ◌∷◌, ◌++◌, length, Option, Some, None, Bool, true, false, arith, eqb-true}
use Rattle.std.proofs.Common.{append_assoc, eq-eqb}
use Rattle.std.specs.Prelude.{slice_get, cond, take, MatchOption}
use Rattle.std.specs.Ordering.{nat_cmp}
use Rattle.std.specs.BTreeMap.{is_at}
use Rattle.std.specs.Map.{lookup}
use Rattle.std.specs.Cmp.{unsigned_tied}
use Rattle.std.proofs.lemmas.Option.{slice_get_within, slice_get_cases, none-some, same_Some}
use Rattle.std.proofs.lemmas.List.{length-append}
use Rattle.sp_code.specs.declared.code.Formal.{Formal}
use Rattle.sp_verify_rules.specs.Areas.{on_option}
use Rattle.sp_verify_rules.specs.Rules.{fits_formal}
use Rattle.sp_verify_rules.specs.Shapes.{Shape}
use Rattle.sp_verify_shapes.specs.declared.stacks.Shape.{Shape as Kept}
use Rattle.sp_verify_shapes.specs.declared.stacks.Shape.TheVariants as kept
use Rattle.sp_verify_shapes.specs.declared.stacks.Cell.{Cell}
use Rattle.sp_verify_shapes.specs.declared.stacks.Jump.{Jump}
use Rattle.sp_verify_shapes.specs.declared.stacks.Stacks.{Stacks}
use Rattle.sp_verify_shapes.specs.Stacks.{shape_of, shapes_from, list_of, IsListNumber, Extends, shape_key, key_of}
use Rattle.sp_verify_shapes.specs.Stacks.{number_at}
use Rattle.sp_verify_shapes.specs.Stacks.{HasBefore, IsJump, IsSmall, IsStacks, JumpsIn}
use Rattle.sp_verify_shapes.specs.Asks.{IsCovering}
use Rattle.sp_verify_shapes.proofs.Asking.{all_fit_three, each_with_one}

-- the rest of each list comes before it
abbrev pub AreEarlier : List Cell → Type 0
AreEarlier cs = (i : ℕ) (c : Cell) → slice_get cs i ≡ Some c → c.below ≤ i

-- ---- the first ones of a list, and one more

pub kept_at : (cs : List Cell) (x : Cell) (i : ℕ) → i < length cs → slice_get (cs ++ x ∷ []) i ≡ slice_get cs i
kept_at [] x i l = absurd (omega (arith, l))
kept_at (c ∷ cs) x zero l = refl
kept_at (c ∷ cs) x (suc i) l = kept_at cs x i (omega (arith, l))

pub new_at : (cs : List Cell) (x : Cell) → slice_get (cs ++ x ∷ []) (length cs) ≡ Some x
new_at [] x = refl
new_at (c ∷ cs) x = new_at cs x

-- ---- lists by numbers

-- one cell more changes no list that was there
pub same_from : (cs : List Cell) (x : Cell) → AreEarlier cs → (k n : ℕ) → n ≤ length cs
    → shapes_from (cs ++ x ∷ []) k n ≡ shapes_from cs k n
same_from cs x early zero n l = refl
same_from cs x early (suc k) zero l = refl
same_from cs x early (suc k) (suc i) l = rw (kept_at cs x i (omega (arith, l)))
    (go (slice_get cs i) refl (λ m h. same_from cs x early k m (omega (arith, h, l))))
  where
    go : (o : Option Cell) → slice_get cs i ≡ o
        → ((m : ℕ) → m ≤ i → shapes_from (cs ++ x ∷ []) k m ≡ shapes_from cs k m)
        → on_option [] o (λ c. shape_of c.shape ∷ shapes_from (cs ++ x ∷ []) k c.below)
        ≡ on_option [] o (λ c. shape_of c.shape ∷ shapes_from cs k c.below)
    go None e on = refl
    go (Some c) e on = ap (λ ss. shape_of c.shape ∷ ss) (on c.below (early i c e))

-- so many shapes are enough
pub enough : (cs : List Cell) → AreEarlier cs → (k j n : ℕ) → n ≤ k → n ≤ j → shapes_from cs k n ≡ shapes_from cs j n
enough cs early zero zero n h g = refl
enough cs early zero (suc j) zero h g = refl
enough cs early zero (suc j) (suc i) h g = absurd (omega (arith, h))
enough cs early (suc k) zero zero h g = refl
enough cs early (suc k) zero (suc i) h g = absurd (omega (arith, g))
enough cs early (suc k) (suc j) zero h g = refl
enough cs early (suc k) (suc j) (suc i) h g = go (slice_get cs i) refl
    (λ m l. enough cs early k j m (omega (arith, l, h)) (omega (arith, l, g)))
  where
    go : (o : Option Cell) → slice_get cs i ≡ o → ((m : ℕ) → m ≤ i → shapes_from cs k m ≡ shapes_from cs j m)
        → on_option [] o (λ c. shape_of c.shape ∷ shapes_from cs k c.below)
        ≡ on_option [] o (λ c. shape_of c.shape ∷ shapes_from cs j c.below)
    go None e on = refl
    go (Some c) e on = ap (λ ss. shape_of c.shape ∷ ss) (on c.below (early i c e))

-- the list of a number, by its cell
pub list_at : (cs : List Cell) → AreEarlier cs → (i : ℕ) (c : Cell) → slice_get cs i ≡ Some c → (n : ℕ) → n ≡ i + 1
    → shapes_from cs n n ≡ shape_of c.shape ∷ shapes_from cs c.below c.below
list_at cs early i c e zero s = absurd (omega (arith, s))
list_at cs early i c e (suc j) s =
    let t : j ≡ i = omega (arith, s) in
    let b : c.below ≤ i = early i c e in
    ap (λ o. on_option [] o (λ d. shape_of d.shape ∷ shapes_from cs j d.below)) (ap (slice_get cs) t ∙ e)
    ∙ ap (λ ss. shape_of c.shape ∷ ss) (enough cs early j c.below c.below (omega (arith, b, t)) (omega arith))

-- ---- keys

pub one_shape : (s t : Kept) → shape_of s ≡ shape_of t → s ≡ t
one_shape kept.Ordinal kept.Ordinal e = refl
one_shape kept.Ordinal kept.Channel e = absurd (cc e)
one_shape kept.Ordinal (kept.Cells n) e = absurd (cc e)
one_shape kept.Ordinal (kept.Address x n) e = absurd (cc e)
one_shape kept.Channel kept.Ordinal e = absurd (cc e)
one_shape kept.Channel kept.Channel e = refl
one_shape kept.Channel (kept.Cells n) e = absurd (cc e)
one_shape kept.Channel (kept.Address x n) e = absurd (cc e)
one_shape (kept.Cells m) kept.Ordinal e = absurd (cc e)
one_shape (kept.Cells m) kept.Channel e = absurd (cc e)
one_shape (kept.Cells m) (kept.Cells n) e = let h : m ≡ n = cc in ap kept.Cells h
one_shape (kept.Cells m) (kept.Address x n) e = absurd (cc e)
one_shape (kept.Address y m) kept.Ordinal e = absurd (cc e)
one_shape (kept.Address y m) kept.Channel e = absurd (cc e)
one_shape (kept.Address y m) (kept.Cells n) e = absurd (cc e)
one_shape (kept.Address y m) (kept.Address x n) e = let h : y ≡ x = cc in let g : m ≡ n = cc in
    ap (λ z. kept.Address z m) h ∙ ap (kept.Address x) g

pub one_key : (s t : Kept) → IsSmall s → IsSmall t → shape_key s ≡ shape_key t → s ≡ t
one_key kept.Ordinal kept.Ordinal h g e = refl
one_key kept.Ordinal kept.Channel h g e = absurd (omega (arith, e))
one_key kept.Ordinal (kept.Cells n) h g e = absurd (omega (arith, e))
one_key kept.Ordinal (kept.Address x n) h g e = absurd (omega (arith, e))
one_key kept.Channel kept.Ordinal h g e = absurd (omega (arith, e))
one_key kept.Channel kept.Channel h g e = refl
one_key kept.Channel (kept.Cells n) h g e = absurd (omega (arith, e))
one_key kept.Channel (kept.Address x n) h g e = absurd (omega (arith, e))
one_key (kept.Cells m) kept.Ordinal h g e = absurd (omega (arith, e))
one_key (kept.Cells m) kept.Channel h g e = absurd (omega (arith, e))
one_key (kept.Cells m) (kept.Cells n) h g e = let s : m ≡ n = omega (arith, e) in ap kept.Cells s
one_key (kept.Cells m) (kept.Address x n) h g e = absurd (omega (arith, e, h))
one_key (kept.Address y m) kept.Ordinal h g e = absurd (omega (arith, e))
one_key (kept.Address y m) kept.Channel h g e = absurd (omega (arith, e))
one_key (kept.Address y m) (kept.Cells n) h g e = absurd (omega (arith, e, g))
one_key (kept.Address y m) (kept.Address x n) h g e =
    let m0 : m < 4294967296 = h.1 in
    let n0 : n < 4294967296 = g.1 in
    let s : y ≡ x = omega (arith, e, m0, n0) in
    let t : m ≡ n = omega (arith, e, m0, n0) in
    ap (λ z. kept.Address z m) s ∙ ap (kept.Address x) t

-- a number and a rest of 32 bits
pub digits : (a b m n : ℕ) → m < 4294967296 → n < 4294967296 → a * 4294967296 + m ≡ b * 4294967296 + n
    → (a ≡ b) × (m ≡ n)
digits a b m n h g e = (omega (arith, h, g, e), omega (arith, h, g, e))

pub same_keys : (s t : Kept) (m n : ℕ) → IsSmall s → IsSmall t → m < 4294967296 → n < 4294967296
    → key_of s m ≡ key_of t n → (s ≡ t) × (m ≡ n)
same_keys s t m n hs ht hm hn e = let d = digits (shape_key s) (shape_key t) m n hm hn e in (one_key s t hs ht d.0, d.1)

-- ---- stacks

pub cell_at : (cs : List Cell) (i : ℕ) → i < length cs → (c : Cell) × (slice_get cs i ≡ Some c)
cell_at cs i l = ⊎_elim (λ h. (h.0, h.2)) (λ h. (let g = h.0 in absurd (omega (arith, l, g)))) (slice_get_cases cs i).1

-- the list of a number, by its cell
pub list_of_cell : (st : Stacks) → IsStacks st → (i : ℕ) (c : Cell) → slice_get st.cells i ≡ Some c → (n : ℕ)
    → n ≡ i + 1
    → (list_of st n ≡ shape_of c.shape ∷ list_of st c.below) × IsListNumber st c.below × IsListNumber st n
list_of_cell st h i c e n s =
    let b : c.below ≤ i = h.earlier i c e in
    let l : i < length st.cells = slice_get_within st.cells i c e in
    (list_at st.cells h.earlier i c e n s, omega (arith, b, l), omega (arith, l, s))

-- equal lists have equal numbers
pub upto : (st : Stacks) → IsStacks st → (k m n : ℕ) → m ≤ k → IsListNumber st m → IsListNumber st n
    → list_of st m ≡ list_of st n
    → m ≡ n
upto st h k zero zero l a b e = refl
upto st h k zero (suc j) l a b e =
    let d = cell_at st.cells j (omega (arith, b)) in
    let s = (list_of_cell st h j d.0 d.1 (suc j) (omega arith)).0 in
    absurd (nothing_more (shape_of d.0.shape) (list_of st d.0.below) (e ∙ s))
  where
    nothing_more : (s : Shape) (ss : List Shape) → [] ≡ s ∷ ss → ⊥
    nothing_more s ss e = cc e
upto st h zero (suc i) n l a b e = absurd (omega (arith, l))
upto st h (suc k) (suc i) zero l a b e =
    let d = cell_at st.cells i (omega (arith, a)) in
    let s = (list_of_cell st h i d.0 d.1 (suc i) (omega arith)).0 in
    absurd (nothing_more (shape_of d.0.shape) (list_of st d.0.below) (sym e ∙ s))
  where
    nothing_more : (s : Shape) (ss : List Shape) → [] ≡ s ∷ ss → ⊥
    nothing_more s ss e = cc e
upto st h (suc k) (suc i) (suc j) l a b e =
    let d = cell_at st.cells i (omega (arith, a)) in
    let f = cell_at st.cells j (omega (arith, b)) in
    let x = list_of_cell st h i d.0 d.1 (suc i) (omega arith) in
    let y = list_of_cell st h j f.0 f.1 (suc j) (omega arith) in
    let z = same_parts (shape_of d.0.shape) (shape_of f.0.shape) (list_of st d.0.below) (list_of st f.0.below)
    (sym x.0 ∙ e ∙ y.0) in
    let low : d.0.below ≤ i = h.earlier i d.0 d.1 in
    let r : d.0.below ≡ f.0.below = upto st h k d.0.below f.0.below (omega (arith, low, l)) x.1 y.1 z.1 in
    let q : d.0.shape ≡ f.0.shape = one_shape d.0.shape f.0.shape z.0 in
    let g : key_of d.0.shape d.0.below ≡ key_of f.0.shape f.0.below = ap (λ s. key_of s d.0.below) q
    ∙ ap (key_of f.0.shape) r in
    let t : i + 1 ≡ j + 1 =
    same_Some (i + 1) (j + 1) (sym (h.known i d.0 d.1) ∙ ap (number_at st) g ∙ h.known j f.0 f.1) in
    omega (arith, t)
  where
    same_parts : (s t : Shape) (ss ts : List Shape) → s ∷ ss ≡ t ∷ ts → (s ≡ t) × (ss ≡ ts)
    same_parts s t ss ts e = (cc, cc)

pub one_number : (st : Stacks) → IsStacks st → (m n : ℕ) → IsListNumber st m → IsListNumber st n
    → list_of st m ≡ list_of st n → m ≡ n
one_number st h m n a b e = upto st h m m n (omega arith) a b e

-- what is known under a key is the list that it is the key of
pub list_known : (st : Stacks) → IsStacks st → (s : Kept) (below n : ℕ) → IsSmall s → IsListNumber st below
    → number_at st (key_of s below) ≡ Some n
    → IsListNumber st n × (list_of st n ≡ shape_of s ∷ list_of st below)
list_known st h s below n small there e =
    let (i, c, number, at, same_key) = h.found (key_of s below) n e in
    let x = list_of_cell st h i c at n number in
    let few : length st.cells < 4294967296 = h.few in
    let low = x.1 in
    let k = same_keys s c.shape below c.below small (h.small i c at) (omega (arith, there, few))
    (omega (arith, low, few)) same_key in
    (x.2, x.0 ∙ ap (λ t. shape_of t ∷ list_of st c.below) (sym k.0) ∙ ap (λ m. shape_of s ∷ list_of st m) (sym k.1))

-- ---- one cell more

pub one_more : (cs : List Cell) (x : Cell) → length (cs ++ x ∷ []) ≡ length cs + 1
one_more cs x = length-append cs (x ∷ [])

pub stacks_extend : (old new : Stacks) (x : Cell) → IsStacks old → new.cells ≡ old.cells ++ x ∷ [] → Extends old new
stacks_extend old new x h e n l =
    let m = one_more old.cells x in
    let s : length new.cells ≡ length old.cells + 1 = ap (λ (cs : List Cell). length cs) e ∙ m in
    (omega (arith, s, l), ap (λ cs. shapes_from cs n n) e ∙ same_from old.cells x h.earlier n n l)

-- ---- jumps

pub one_before : (s : Shape) (ss : List Shape) → HasBefore 1 (s ∷ ss) ss
one_before s ss = record { before = s ∷ []; many = refl; whole = refl }

pub both_before : (j k : ℕ) (ss ts us : List Shape) → HasBefore j ss ts → HasBefore k ts us → HasBefore (j + k) ss us
both_before j k ss ts us a b = record {
  before = a.before ++ b.before;
  many = length-append a.before b.before ∙ ap (λ n. n + length b.before) a.many ∙ ap (λ n. j + n) b.many;
  whole = a.whole ∙ ap (λ xs. a.before ++ xs) b.whole ∙ sym (append_assoc a.before b.before us);
}

-- a jump to the rest, and two jumps behind one more shape
pub jump_one : (st : Stacks) (n : ℕ) (s : Shape) (o : Option Formal) → IsListNumber st n
    → ((f : Formal) → o ≡ Some f → fits_formal f s ≡ true)
    → IsJump st (s ∷ list_of st n) (record { to = n; far = 1; fits = o })
unfolding one_before
jump_one st n s o l fit = record { held = l; lands = one_before s (list_of st n); fits = λ f e. (fit f e, tt) }

pub jump_both : (st : Stacks) (s : Shape) (ss : List Shape) (near next : Jump) (g : Formal) (r o : Option Formal)
    → IsJump st ss near → IsJump st (list_of st near.to) next → fits_formal g s ≡ true
    → ((f : Formal) → r ≡ Some f → IsCovering f (Some g) × IsCovering f near.fits)
    → ((f : Formal) → o ≡ Some f → IsCovering f r × IsCovering f next.fits)
    → IsJump st (s ∷ ss) (record { to = next.to; far = 1 + near.far + next.far; fits = o })
unfolding one_before both_before
jump_both st s ss near next g r o a b fit both all = record {
  held = b.held;
  lands = both_before (1 + near.far) next.far (s ∷ ss) (list_of st near.to) (list_of st next.to)
      (both_before 1 near.far (s ∷ ss) ss (list_of st near.to) (one_before s ss) a.lands) b.lands;
  fits = λ f e. all_fit_three f g r near.fits next.fits s a.lands.before b.lands.before fit a.fits b.fits both
      (all f e);
}

-- a jump is one too where more lists are there
pub jump_kept : (old new : Stacks) (ss : List Shape) (j : Jump) → Extends old new → IsJump old ss j → IsJump new ss j
jump_kept old new ss j extends h =
    let r = extends j.to h.held in
    record {
      held = r.0;
      lands = record {
        before = h.lands.before;
        many = h.lands.many;
        whole = h.lands.whole ∙ ap (λ ts. h.lands.before ++ ts) (sym r.1);
      };
      fits = h.fits;
    }

-- ---- one cell more in the stacks

-- the stacks with one cell more, whose key was not there
pub stacks_more : (old new : Stacks) (x : Cell) → IsStacks old → new.cells ≡ old.cells ++ x ∷ []
    → length old.cells + 1 < 4294967296
    → IsListNumber old x.below → IsSmall x.shape → IsJump old (shape_of x.shape ∷ list_of old x.below) x.jump
    → number_at old (key_of x.shape x.below) ≡ None
    → ((q : ℕ) → number_at new q ≡ cond (key_of x.shape x.below == q) (Some (length old.cells + 1)) (number_at old q))
    → IsStacks new
stacks_more old new x h e few there small jump none now =
    record {
      few = omega (arith, size, few);
      earlier = early;
      small = λ i c f. at_cell (λ i c. IsSmall c.shape) h.small small i c f;
      known = λ i c f. at_cell (λ i c. number_at new (key_of c.shape c.below) ≡ Some (i + 1))
          (λ j d g. old_known (key_of d.shape d.below) (j + 1) (h.known j d g)) new_known i c f;
      jumps = λ i c f. at_cell (λ i c. IsJump new (list_of new (i + 1)) c.jump) old_jump new_jump i c f;
      found = found;
    }
  where
    key : ℕ
    key = key_of x.shape x.below

    size : length new.cells ≡ length old.cells + 1
    size = ap (λ (cs : List Cell). length cs) e ∙ one_more old.cells x

    at_cell : (P : ℕ → Cell → Type 0) → ((i : ℕ) (c : Cell) → slice_get old.cells i ≡ Some c → P i c)
        → P (length old.cells) x
        → (i : ℕ) (c : Cell) → slice_get new.cells i ≡ Some c → P i c
    at_cell P f g i c k = each_with_one P old.cells x f g i c (ap (λ cs. slice_get cs i) (sym e) ∙ k)

    early : AreEarlier new.cells
    early i c f = at_cell (λ i c. c.below ≤ i) h.earlier there i c f

    extends : Extends old new
    extends = stacks_extend old new x h e

    old_jump : (i : ℕ) (c : Cell) → slice_get old.cells i ≡ Some c → IsJump new (list_of new (i + 1)) c.jump
    old_jump i c f =
        let l : i < length old.cells = slice_get_within old.cells i c f in
        let r = extends (i + 1) (omega (arith, l)) in
        subst (λ ss. IsJump new ss c.jump) (sym r.1)
        (jump_kept old new (list_of old (i + 1)) c.jump extends (h.jumps i c f))

    new_jump : IsJump new (list_of new (length old.cells + 1)) x.jump
    new_jump =
        let at : slice_get new.cells (length old.cells) ≡ Some x = ap (λ cs. slice_get cs (length old.cells)) e
        ∙ new_at old.cells x in
        let is : list_of new (length old.cells + 1) ≡ shape_of x.shape ∷ list_of old x.below =
        list_at new.cells early (length old.cells) x at (length old.cells + 1) refl
        ∙ ap (λ ss. shape_of x.shape ∷ ss) (extends x.below there).1 in
        subst (λ ss. IsJump new ss x.jump) (sym is)
        (jump_kept old new (shape_of x.shape ∷ list_of old x.below) x.jump extends jump)

    is_key : (q : ℕ) (t : Bool) → (key_of x.shape x.below == q) ≡ t
        → (number_at new q ≡ cond t (Some (length old.cells + 1)) (number_at old q))
    is_key q t f = now q ∙ ap (λ (b : Bool). cond b (Some (length old.cells + 1)) (number_at old q)) f

    new_known : number_at new (key_of x.shape x.below) ≡ Some (length old.cells + 1)
    new_known = is_key (key_of x.shape x.below) true (eq-eqb (key_of x.shape x.below) (key_of x.shape x.below) refl)

    old_known : (q n : ℕ) → number_at old q ≡ Some n → number_at new q ≡ Some n
    old_known q n f = go (key_of x.shape x.below == q) refl
      where
        go : (t : Bool) → (key_of x.shape x.below == q) ≡ t → number_at new q ≡ Some n
        go true g = absurd (none-some n (sym none ∙ ap (number_at old) (eqb-true (key_of x.shape x.below) q g) ∙ f))
        go false g = is_key q false g ∙ f

    found : (q n : ℕ) → number_at new q ≡ Some n → (i : ℕ) × (c : Cell) × (n ≡ i + 1) × (slice_get new.cells i ≡ Some c)
        × (q ≡ key_of c.shape c.below)
    found q n f = go (key_of x.shape x.below == q) refl
      where
        go : (t : Bool) → (key_of x.shape x.below == q) ≡ t
            → (i : ℕ) × (c : Cell) × (n ≡ i + 1) × (slice_get new.cells i ≡ Some c) × (q ≡ key_of c.shape c.below)
        go true g = (
          length old.cells,
          x,
          same_Some n (length old.cells + 1) (sym f ∙ is_key q true g),
          ap
              (λ cs. slice_get cs (length old.cells)) e ∙ new_at old.cells x,
          sym (eqb-true (key_of x.shape x.below) q g),
        )
        go false g =
            let (i, c, number, at, same_key) = h.found q n (sym (is_key q false g) ∙ f) in
            let l : i < length old.cells = slice_get_within old.cells i c at in
            (i, c, number, ap (λ cs. slice_get cs i) e ∙ kept_at old.cells x i l ∙ at, same_key)

-- the same, as a table is written
pub stacks_grow : (old new : Stacks) (x : Cell) (key n : ℕ) → IsStacks old → new.cells ≡ old.cells ++ x ∷ []
    → n ≡ length old.cells + 1 → n ≤ 4294967295
    → IsListNumber old x.below → IsSmall x.shape → IsJump old (shape_of x.shape ∷ list_of old x.below) x.jump
    → key ≡ key_of x.shape x.below → number_at old key ≡ None
    → ((q : ℕ) → number_at new q ≡ cond (is_at (nat_cmp key) q) (Some n) (number_at old q)) → IsStacks new
stacks_grow old new x key n h e s few there small jump k none now =
    stacks_more old new x h e (omega (arith, s, few)) there small jump (ap (number_at old) (sym k) ∙ none)
    (λ q. now q ∙ ap (λ b. cond b (Some n) (number_at old q)) (unsigned_tied key q ∙ ap (λ m. m == q) k)
    ∙ ap (λ m. cond (key_of x.shape x.below == q) (Some m) (number_at old q)) s)

pub list_more : (old new : Stacks) (x : Cell) (n : ℕ) → IsStacks old → IsStacks new → new.cells ≡ old.cells ++ x ∷ []
    → n ≡ length old.cells + 1
    → IsListNumber old x.below → IsListNumber new n × (list_of new n ≡ shape_of x.shape ∷ list_of old x.below)
list_more old new x n h g e s there =
    let at : slice_get new.cells (length old.cells) ≡ Some x = ap (λ cs. slice_get cs (length old.cells)) e
    ∙ new_at old.cells x in
    let r = list_of_cell new g (length old.cells) x at n s in
    (r.2, r.0 ∙ ap (λ ss. shape_of x.shape ∷ ss) (stacks_extend old new x h e x.below there).1)

-- ---- none more, where memory was refused

-- the same cells, with the same numbers under their keys
pub stacks_same : (old new : Stacks) → IsStacks old → new.cells ≡ old.cells → new.known.entries ≡ old.known.entries
    → IsStacks new
stacks_same old new h e f = record {
  few = subst (λ (cs : List Cell). length cs < 4294967296) (sym e) h.few;
  earlier = λ i c g. h.earlier i c (there i c g);
  small = λ i c g. h.small i c (there i c g);
  known = λ i c g. now (key_of c.shape c.below) ∙ h.known i c (there i c g);
  jumps = λ i c g. subst (λ cs. JumpsIn cs (shapes_from cs (i + 1) (i + 1)) c.jump) (sym e) (h.jumps i c (there i c g));
  found = λ q n g. let (i, c, number, at, same_key) = h.found q n (sym (now q) ∙ g) in (
    i,
    c,
    number,
    ap (λ cs. slice_get cs i) e ∙ at,
    same_key,
  );
}
  where
    there : (i : ℕ) (c : Cell) → slice_get new.cells i ≡ Some c → slice_get old.cells i ≡ Some c
    there i c g = ap (λ cs. slice_get cs i) (sym e) ∙ g

    now : (q : ℕ) → number_at new q ≡ number_at old q
    now q = ap (lookup (is_at (nat_cmp q))) f

-- a cell that was added is taken away again
first_part : (cs : List Cell) (x : Cell) → take (length cs) (cs ++ x ∷ []) ≡ cs
first_part [] x = refl
first_part (c ∷ cs) x = ap (λ ds. c ∷ ds) (first_part cs x)

pub taken_away : (o : Option Cell) (xs ys zs : List Cell) (x : Cell) → ys ≡ xs ++ x ∷ []
    → MatchOption o ((ys ≡ []) × (zs ≡ [])) (λ y. ys ≡ zs ++ y ∷ []) → zs ≡ xs
taken_away None xs ys zs x e h =
    let n = ap (λ (cs : List Cell). length cs) (sym h.0 ∙ e) ∙ one_more xs x in
    absurd (omega (arith, n))
taken_away (Some y) xs ys zs x e h =
    let n = sym (one_more zs y) ∙ ap (λ (cs : List Cell). length cs) (sym h ∙ e) ∙ one_more xs x in
    let m : length zs ≡ length xs = omega (arith, n) in
    sym (first_part zs y) ∙ ap (take (length zs)) (sym h ∙ e) ∙ ap (λ k. take k (xs ++ x ∷ [])) m ∙ first_part xs x
