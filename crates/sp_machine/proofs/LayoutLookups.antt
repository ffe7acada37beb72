-- The layout of a block, and the cells of a frame.
use Rattle.std.proofs.Common.{◌≡◌, ◌≢◌, ℕ, zero, suc, ◌+◌, ◌≤◌, ◌<◌, List, [], ◌∷◌, length, take, drop, get_or}
use Rattle.std.proofs.Common.{Some, None, Bool, true, false, refl, sym, ap, ◌∙◌, subst, arith}
use Rattle.std.proofs.lemmas.List.Elements.{All-get_or}
use Rattle.std.specs.Prelude.{sum, slice_get, ◌==◌, if◌then◌else◌}
use Rattle.std.proofs.lemmas.Bool.{eq-eqb, ne_eqb}
use Rattle.std.proofs.lemmas.List.{drop_all, take_all}
use Rattle.std.proofs.lemmas.Option.{same_Some}
use Rattle.sp_code.specs.declared.code.Formal.{Formal}
use Rattle.sp_code.specs.declared.code.Layout.{Layout}
use Rattle.sp_code.specs.declared.code.Parts.{Parts}
use Rattle.sp_code.specs.Machine.{layout_of}
use Rattle.sp_code.specs.Sizes.{HasNumbers, KeepsSizes}
use Rattle.sp_code.specs.Sound.{HasDistinctBlocks}
use Rattle.sp_code.specs.Formals.{HaveFormals, HasRoom}

pub layout_here : (ls : List Layout) (b i : ℕ) (l : Layout) → i < length ls → l ≡ get_or ls i l → l.block ≡ b
    → layout_of (drop i ls) b ≡ Some l
layout_here [] b i l h e k = absurd (omega (arith, h))
layout_here (m ∷ ls) b zero l h e k = rw (sym e) (rw (eq-eqb l.block b k) refl)
layout_here (m ∷ ls) b (suc i) l h e k = layout_here ls b i l (omega (arith, h)) e k

pub layout_on : (ls : List Layout) (b i : ℕ) (l : Layout) → i < length ls → l ≡ get_or ls i l → l.block ≢ b
    → layout_of (drop i ls) b ≡ layout_of (drop (i + 1) ls) b
layout_on [] b i l h e k = absurd (omega (arith, h))
layout_on (m ∷ ls) b zero l h e k = rw (sym e) (rw (ne_eqb l.block b k) refl)
layout_on (m ∷ ls) b (suc i) l h e k = let one : suc (i + 1) ≡ suc i + 1 = omega arith in
    layout_on ls b i l (omega (arith, h)) e k ∙ ap (λ n. layout_of (drop n (m ∷ ls)) b) one

pub layout_end : (ls : List Layout) (b i : ℕ) → length ls ≤ i → layout_of (drop i ls) b ≡ None
layout_end ls b i h = ap (λ (x : List Layout). layout_of x b) (drop_all i ls h)

rest_distinct : (k : Layout) (ls : List Layout) → HasDistinctBlocks (k ∷ ls) → HasDistinctBlocks ls
rest_distinct k ls h i j l m p q e = let w : suc i ≡ suc j = h (suc i) (suc j) l m p q e in omega (arith, w)

found : (ls : List Layout) (i : ℕ) (l : Layout) → HasDistinctBlocks ls → slice_get ls i ≡ Some l
    → layout_of ls l.block ≡ Some l
found [] i l h e = absurd cc
found (k ∷ ls) zero l h e = let w : k ≡ l = same_Some k l e in
    rw (eq-eqb k.block l.block (ap (λ (x : Layout). x.block) w)) e
found (k ∷ ls) (suc i) l h e = rw (ne_eqb k.block l.block
    (λ w. let z : 0 ≡ suc i = h 0 (suc i) k l refl e w in absurd (omega (arith, z))))
    (found ls i l (rest_distinct k ls h) e)

got : (ls : List Layout) (i : ℕ) (l : Layout) → i < length ls → l ≡ get_or ls i l → slice_get ls i ≡ Some l
got [] i l h e = absurd (omega (arith, h))
got (k ∷ ls) zero l h e = ap Some (sym e)
got (k ∷ ls) (suc i) l h e = got ls i l (omega (arith, h)) e

-- the layout at a place is that of its block
pub layout_found : (ls : List Layout) (b i : ℕ) (l : Layout) → HasDistinctBlocks ls → i < length ls → l ≡ get_or ls i l
    → l.block ≡ b → layout_of ls b ≡ Some l
layout_found ls b i l d h e k = ap (layout_of ls) (sym k) ∙ found ls i l d (got ls i l h e)

pub sum_all : (xs : List ℕ) (i : ℕ) → length xs ≤ i → sum (take i xs) ≡ sum xs
sum_all xs i h = ap sum (take_all i xs h)

place_of : (ls : List Layout) (b : ℕ) (l : Layout) → layout_of ls b ≡ Some l → (i : ℕ) × (i < length ls)
    × (l ≡ get_or ls i l)
place_of [] b l e = absurd cc
place_of (k ∷ ls) b l e = go (k.block == b) (place_of ls b l) e
  where
    go : (t : Bool) → (layout_of ls b ≡ Some l → (i : ℕ) × (i < length ls) × (l ≡ get_or ls i l))
        → (if t then Some k else layout_of ls b) ≡ Some l → (i : ℕ) × (i < length (k ∷ ls)) × (l ≡ get_or (k ∷ ls) i l)
    go true rest w = (0, omega arith, sym (same_Some k l w))
    go false rest w = let r = rest w in (suc r.0, omega (arith, r.1), r.2)

pub few_sizes : (p : Parts) (b : ℕ) (l : Layout) → KeepsSizes p → layout_of p.layouts b ≡ Some l
    → length l.sizes ≤ 4294967294
few_sizes p b l h e =
    let r = place_of p.layouts b l e in
    subst (λ (x : Layout). length x.sizes ≤ 4294967294) (sym r.2) (All-get_or HasNumbers p.layouts r.0 l r.1 h.frames)

room_each : (fs : List Formal) (ss : List ℕ)
    → ((k : ℕ) (f : Formal) → slice_get fs k ≡ Some f → HasRoom f (slice_get ss k)) → length fs ≤ length ss
room_each [] ss h = omega arith
room_each (f ∷ fs) [] h = absurd (no_room f (h 0 f refl))
  where
    no_room : (f : Formal) → HasRoom f None → ⊥
    no_room f w = w
room_each (f ∷ fs) (s ∷ ss) h = let w = room_each fs ss (λ k g e. h (suc k) g e) in omega (arith, w)

pub few_formals : (ls : List Layout) (b : ℕ) (l : Layout) → HaveFormals ls → layout_of ls b ≡ Some l
    → length l.formals ≤ length l.sizes
few_formals ls b l h e = room_each l.formals l.sizes (h b l e)
