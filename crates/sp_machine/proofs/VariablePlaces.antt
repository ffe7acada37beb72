-- Where the variables of the tree stand.
use Rattle.std.proofs.Common.{◌≡◌, ◌≢◌, ℕ, zero, suc, ◌+◌, ◌-◌, ◌≤◌, ◌<◌, List, [], ◌∷◌, ◌++◌, length, drop, get_or}
use Rattle.std.proofs.Common.{Option, Some, None, refl, sym, ap, ◌∙◌, arith, append_assoc}
use Rattle.std.specs.Prelude.{min}
use Rattle.std.proofs.lemmas.Bool.{eq-eqb, ne_eqb}
use Rattle.std.proofs.lemmas.List.{append-nil, drop_all, length-drop}
use Rattle.std.proofs.Math.Seq.{drop-cons}
use Rattle.sp_cell.specs.declared.spot.Spot.{Spot}
use Rattle.sp_code.specs.declared.code.Layout.{Layout}
use Rattle.sp_code.specs.Memory.{Frame as PlainFrame, last_frames}
use Rattle.sp_code.specs.System.{place_of, spot_in, spot_from, spot_of, spots_of, with_spot, or_outward}
use Rattle.sp_machine.proofs.FrameLists.{none_last, all_last, last_twice}

next_item : {A : Type 0} → (xs : List A) (i : ℕ) (x : A) → i < length xs → x ≡ get_or xs i x
    → drop i xs ≡ x ∷ drop (i + 1) xs
next_item xs i x h e =
    let one : suc i ≡ i + 1 = omega arith in
    drop-cons xs i x h ∙ ap (λ y. y ∷ drop (suc i) xs) (sym e) ∙ ap (λ n. x ∷ drop n xs) one

pub place_here : (vs : List ℕ) (x n i y : ℕ) → i < length vs → y ≡ get_or vs i y → x ≡ y
    → place_of x n (drop i vs) ≡ Some n
place_here vs x n i y h e k = ap (place_of x n) (next_item vs i y h e) ∙ rw (eq-eqb x y k) refl

pub place_on : (vs : List ℕ) (x n i y : ℕ) → i < length vs → y ≡ get_or vs i y → x ≢ y
    → place_of x n (drop i vs) ≡ place_of x (n + 1) (drop (i + 1) vs)
place_on vs x n i y h e k =
    let one : suc n ≡ n + 1 = omega arith in
    ap (place_of x n) (next_item vs i y h e) ∙ rw (ne_eqb x y k) (ap (λ m. place_of x m (drop (i + 1) vs)) one)

pub place_end : (vs : List ℕ) (x n i : ℕ) → length vs ≤ i → place_of x n (drop i vs) ≡ None
place_end vs x n i h = ap (place_of x n) (drop_all i vs h)

no_spot : (ls : List Layout) (n x : ℕ) → spot_from ls n [] x ≡ None
no_spot ls zero x = refl
no_spot ls (suc n) x = refl

pub spot_none : (ls : List Layout) (fs : List PlainFrame) (n x : ℕ) → spot_from ls n (last_frames 0 fs) x ≡ None
spot_none ls fs n x = ap (λ (gs : List PlainFrame). spot_from ls n gs x) (none_last fs) ∙ no_spot ls n x

-- more levels than there are frames make no difference
enough : (ls : List Layout) (n k : ℕ) (gs : List PlainFrame) (x : ℕ) → length gs ≤ n → length gs ≤ k
    → spot_from ls n gs x ≡ spot_from ls k gs x
enough ls zero zero gs x h l = refl
enough ls zero (suc k) [] x h l = refl
enough ls zero (suc k) (g ∷ gs) x h l = absurd (omega (arith, h))
enough ls (suc n) zero [] x h l = refl
enough ls (suc n) zero (g ∷ gs) x h l = absurd (omega (arith, l))
enough ls (suc n) (suc k) [] x h l = refl
enough ls (suc n) (suc k) (g ∷ gs) x h l =
    let size : length (last_frames g.link gs) ≡ length gs - (length gs - g.link) =
    length-drop (length gs - g.link) gs in
    ap (or_outward (spot_in ls g g.home x)) (enough ls n k (last_frames g.link gs) x (omega (arith, size, h))
    (omega (arith, size, l)))

pub spot_start : (ls : List Layout) (fs : List PlainFrame) (n x : ℕ) → n ≡ length fs
    → spot_from ls (length fs) fs x ≡ spot_from ls n (last_frames n fs) x
spot_start ls fs n x e = sym (ap (λ k. spot_from ls k (last_frames k fs) x) e
    ∙ ap (λ (gs : List PlainFrame). spot_from ls (length fs) gs x) (all_last fs))

first_spot : (ls : List Layout) (fs : List PlainFrame) (count x : ℕ) (f : PlainFrame) → 0 < count
    → last_frames (count - 1 + 1) fs ≡ f ∷ last_frames (count - 1) fs
    → spot_from ls count (last_frames count fs) x
    ≡ or_outward (spot_in ls f f.home x)
    (spot_from ls (count - 1) (last_frames f.link (last_frames (count - 1) fs)) x)
first_spot ls fs zero x f h e = absurd (omega (arith, h))
first_spot ls fs (suc n) x f h e =
    let more : suc n ≡ suc n - 1 + 1 = omega arith in
    let less : n ≡ suc n - 1 = omega arith in
    ap (λ (gs : List PlainFrame). spot_from ls (suc n) gs x) (ap (λ k. last_frames k fs) more ∙ e)
    ∙ ap (λ k. or_outward (spot_in ls f f.home x) (spot_from ls k (last_frames f.link (last_frames (suc n - 1) fs)) x))
    less

pub spot_here : (ls : List Layout) (fs : List PlainFrame) (count x : ℕ) (f : PlainFrame) (s : Spot) → 0 < count
    → last_frames (count - 1 + 1) fs ≡ f ∷ last_frames (count - 1) fs → spot_in ls f f.home x ≡ Some s
    → spot_from ls count (last_frames count fs) x ≡ Some s
spot_here ls fs count x f s h e q = first_spot ls fs count x f h e
    ∙ ap (λ (o : Option Spot). or_outward o (spot_from ls (count - 1) (last_frames f.link (last_frames (count - 1) fs))
    x)) q

pub spot_next : (ls : List Layout) (fs : List PlainFrame) (count x : ℕ) (f : PlainFrame) → 0 < count
    → count ≤ length fs → last_frames (count - 1 + 1) fs ≡ f ∷ last_frames (count - 1) fs
    → spot_from ls count (last_frames count fs) x ≡ or_outward (spot_in ls f f.home x)
    (spot_from ls (min f.link (count - 1)) (last_frames (min f.link (count - 1)) fs) x)
spot_next ls fs count x f h l e =
    let next : last_frames f.link (last_frames (count - 1) fs) ≡ last_frames (min f.link (count - 1)) fs =
    last_twice fs f.link (count - 1) (omega (arith, l)) in
    let size : length (last_frames (min f.link (count - 1)) fs) ≡ length fs - (length fs - min f.link (count - 1)) =
    length-drop (length fs - min f.link (count - 1)) fs in
    first_spot ls fs count x f h e ∙ ap (or_outward (spot_in ls f f.home x))
    (ap (λ (gs : List PlainFrame). spot_from ls (count - 1) gs x) next
    ∙ enough ls (count - 1) (min f.link (count - 1)) (last_frames (min f.link (count - 1)) fs) x
    (omega (arith, size, l)) (omega (arith, size, l)))

pub spot_on : (ls : List Layout) (fs : List PlainFrame) (count x : ℕ) (f : PlainFrame) → 0 < count → count ≤ length fs
    → last_frames (count - 1 + 1) fs ≡ f ∷ last_frames (count - 1) fs → spot_in ls f f.home x ≡ None
    → spot_from ls count (last_frames count fs) x
    ≡ spot_from ls (min f.link (count - 1)) (last_frames (min f.link (count - 1)) fs) x
spot_on ls fs count x f h l e q =
    spot_next ls fs count x f h l e ∙ ap (λ (o : Option Spot). or_outward o
    (spot_from ls (min f.link (count - 1)) (last_frames (min f.link (count - 1)) fs) x)) q

pub spots_found : (ls : List Layout) (fs : List PlainFrame) (xs : List ℕ) (found : List Spot) (i x : ℕ) (s : Spot)
    → i < length xs → x ≡ get_or xs i x → spot_of ls fs x ≡ Some s
    → found ++ spots_of ls fs (drop i xs) ≡ (found ++ s ∷ []) ++ spots_of ls fs (drop (i + 1) xs)
spots_found ls fs xs found i x s h e k =
    ap (λ (ys : List ℕ). found ++ spots_of ls fs ys) (next_item xs i x h e)
    ∙ ap (λ (o : Option Spot). found ++ with_spot o (spots_of ls fs (drop (i + 1) xs))) k
    ∙ sym (append_assoc found (s ∷ []) (spots_of ls fs (drop (i + 1) xs)))

pub spots_not : (ls : List Layout) (fs : List PlainFrame) (xs : List ℕ) (found : List Spot) (i x : ℕ) → i < length xs
    → x ≡ get_or xs i x → spot_of ls fs x ≡ None
    → found ++ spots_of ls fs (drop i xs) ≡ found ++ spots_of ls fs (drop (i + 1) xs)
spots_not ls fs xs found i x h e k =
    ap (λ (ys : List ℕ). found ++ spots_of ls fs ys) (next_item xs i x h e)
    ∙ ap (λ (o : Option Spot). found ++ with_spot o (spots_of ls fs (drop (i + 1) xs))) k

pub spots_end : (ls : List Layout) (fs : List PlainFrame) (xs : List ℕ) (found : List Spot) (i : ℕ) → length xs ≤ i
    → found ++ spots_of ls fs (drop i xs) ≡ found
spots_end ls fs xs found i h = ap (λ (ys : List ℕ). found ++ spots_of ls fs ys) (drop_all i xs h) ∙ append-nil found

pub nothing_found : (found : Option Spot) → ((s : Spot) → found ≡ Some s → ⊥) → found ≡ None
nothing_found None h = refl
nothing_found (Some s) h = absurd (h s refl)
