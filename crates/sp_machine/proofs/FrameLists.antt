-- The frames in memory, the newest last, and the frames of the definitions, the newest first.
use Rattle.std.proofs.Common.{◌≡◌, ℕ, zero, suc, ◌+◌, ◌-◌, ◌<◌, ◌≤◌, List, [], ◌∷◌, ◌++◌, length, take, drop, get_or}
use Rattle.std.proofs.Common.{refl, sym, ap, ◌∙◌, arith, append_assoc, ◌≢◌}
use Rattle.std.specs.Prelude.{map, reverse, Some, None, min}
use Rattle.std.proofs.lemmas.Bool.{eq-eqb, ne_eqb}
use Rattle.sp_cell.specs.declared.spot.Address.{Address}
use Rattle.std.proofs.lemmas.List.{reverse-append, map-append, length-reverse, length-map, length-drop}
use Rattle.std.proofs.lemmas.List.{take-append-drop, take_more, length-take-le, drop_all, take_all, length-append}
use Rattle.std.proofs.lemmas.List.{append-nil, get_or-take, get_or_append_left, get_or-append_right}
use Rattle.std.proofs.Math.Seq.{drop-append_seam}
use Rattle.sp_code.specs.Memory.{Frame as PlainFrame, last_frames, frames_up, addr_in, deref_in, cell_at}
use Rattle.sp_code.specs.Memory.{reference_target}
use Rattle.sp_machine.specs.declared.frames.Frame.{Frame}
use Rattle.sp_machine.specs.Frames.{plain_frames, frame_of}

-- one more is the newest
pub with_newest : (ys : List Frame) (f : Frame) → plain_frames (ys ++ f ∷ []) ≡ frame_of f ∷ plain_frames ys
unfolding plain_frames
with_newest ys f = ap reverse (map-append frame_of ys (f ∷ [])) ∙ reverse-append (map frame_of ys) (frame_of f ∷ [])

pub length_plain : (ys : List Frame) → length (plain_frames ys) ≡ length ys
unfolding plain_frames
length_plain ys = length-reverse (map frame_of ys) ∙ length-map ys frame_of

pub no_frames : plain_frames [] ≡ []
unfolding plain_frames
no_frames = refl

both_parts : (xs ys : List Frame) → plain_frames (xs ++ ys) ≡ plain_frames ys ++ plain_frames xs
unfolding plain_frames
both_parts xs ys = ap reverse (map-append frame_of xs ys) ∙ reverse-append (map frame_of xs) (map frame_of ys)

-- the oldest n frames
last_plain : (ys : List Frame) (n : ℕ) → n ≤ length ys → last_frames n (plain_frames ys) ≡ plain_frames (take n ys)
last_plain ys n h =
    let parts : plain_frames ys ≡ plain_frames (drop n ys)
    ++ plain_frames (take n ys) = ap plain_frames (sym (take-append-drop n ys))
    ∙ both_parts (take n ys) (drop n ys) in
    let size : length (plain_frames ys) - n ≡ length (plain_frames (drop n ys)) = ap (λ k. k - n) (length_plain ys)
    ∙ sym (length_plain (drop n ys) ∙ length-drop n ys) in
    ap (λ k. drop k (plain_frames ys)) size ∙ ap (drop (length (plain_frames (drop n ys)))) parts
    ∙ drop-append_seam (plain_frames (drop n ys)) (plain_frames (take n ys))

-- the frame at a place, counted from the oldest, is above those before it
pub at_place : (ys : List Frame) (n : ℕ) (f : Frame) → n < length ys → f ≡ get_or ys n f
    → last_frames (n + 1) (plain_frames ys) ≡ frame_of f ∷ last_frames n (plain_frames ys)
at_place ys n f h e =
    last_plain ys (n + 1) (omega (arith, h)) ∙ ap plain_frames (take_more ys n f h)
    ∙ with_newest (take n ys) (get_or ys n f)
    ∙ ap (λ (x : Frame). frame_of x ∷ plain_frames (take n ys)) (sym e)
    ∙ ap (λ (fs : List PlainFrame). frame_of f ∷ fs) (sym (last_plain ys n (omega (arith, h))))

-- it is one of the shared frames, or one of the own ones
pub at_shared : (xs zs : List Frame) (v n : ℕ) (f : Frame) → v ≤ length xs → n < v → f ≡ get_or xs n f
    → last_frames (n + 1) (plain_frames (take v xs ++ zs)) ≡ frame_of f ∷ last_frames n (plain_frames (take v xs ++ zs))
at_shared xs zs v n f h k e =
    at_place (take v xs ++ zs) n f (rw (length-append (take v xs) zs) (rw (length-take-le v xs h) (omega (arith, k))))
    (e ∙ sym (get_or_append_left (take v xs) zs f n (rw (length-take-le v xs h) k) ∙ get_or-take v xs n f k))

pub at_own : (xs zs : List Frame) (v n : ℕ) (f : Frame) → v ≤ length xs → v ≤ n → n - v < length zs
    → f ≡ get_or zs (n - v) f → last_frames (n + 1) (plain_frames (take v xs ++ zs)) ≡ frame_of f
    ∷ last_frames n (plain_frames (take v xs ++ zs))
at_own xs zs v n f h k l e =
    at_place (take v xs ++ zs) n f (rw (length-append (take v xs) zs)
    (rw (length-take-le v xs h) (omega (arith, k, l))))
    (e ∙ sym (get_or-append_right (take v xs) zs v n f (length-take-le v xs h) k))

drop_twice : {A : Type 0} → (a b : ℕ) (xs : List A) → drop a (drop b xs) ≡ drop (b + a) xs
drop_twice a zero xs = let e : a ≡ 0 + a = omega arith in ap (λ k. drop k xs) e
drop_twice a (suc b) [] = drop_all a [] (omega arith) ∙ sym (drop_all (suc b + a) [] (omega arith))
drop_twice a (suc b) (x ∷ xs) = let e : suc (b + a) ≡ suc b + a = omega arith in
    drop_twice a b xs ∙ ap (λ k. drop k (x ∷ xs)) e

-- the oldest frames of the oldest ones
pub last_twice : (fs : List PlainFrame) (n c : ℕ) → c ≤ length fs
    → last_frames n (last_frames c fs) ≡ last_frames (min n c) fs
last_twice fs n c h =
    let less : length fs - (length fs - c) ≡ c = omega (arith, h) in
    let size : length (drop (length fs - c) fs) ≡ c = length-drop (length fs - c) fs ∙ less in
    let place : (length fs - c) + (c - n) ≡ length fs - min n c = omega (arith, h) in
    ap (λ k. drop (k - n) (drop (length fs - c) fs)) size ∙ drop_twice (c - n) (length fs - c) fs
    ∙ ap (λ k. drop k fs) place

pub none_last : (fs : List PlainFrame) → last_frames 0 fs ≡ []
none_last fs = drop_all (length fs - 0) fs (omega arith)

pub all_last : (fs : List PlainFrame) → last_frames (length fs) fs ≡ fs
all_last fs = let e : length fs - length fs ≡ 0 = omega arith in ap (λ k. drop k fs) e

pub up_none : (k : ℕ) → frames_up k [] ≡ []
up_none zero = refl
up_none (suc k) = refl

-- one level outward
pub up_one : (fs : List PlainFrame) (k n : ℕ) (f : PlainFrame) → n < length fs
    → last_frames (n + 1) fs ≡ f ∷ last_frames n fs
    → frames_up (suc k) (last_frames (n + 1) fs) ≡ frames_up k (last_frames (min f.link n) fs)
up_one fs k n f h e = ap (frames_up (suc k)) e ∙ ap (frames_up k) (last_twice fs f.link n (omega (arith, h)))

pub length_parts : (xs zs : List Frame) (v : ℕ) → v ≤ length xs
    → v + length zs ≡ length (plain_frames (take v xs ++ zs))
length_parts xs zs v h = sym (length_plain (take v xs ++ zs) ∙ length-append (take v xs) zs
    ∙ ap (λ k. k + length zs) (length-take-le v xs h))

pub within_parts : (xs zs : List Frame) (v place : ℕ) → v ≤ length xs → place < length (plain_frames (take v xs ++ zs))
    → place < v + length zs
within_parts xs zs v place h k = rw (length_parts xs zs v h) k

pub one_plain : (xs ys : List Frame) (f : Frame) → ys ≡ f ∷ [] → plain_frames (take 0 xs ++ ys) ≡ frame_of f ∷ []
one_plain xs ys f e = ap plain_frames e ∙ with_newest [] f ∙ ap (λ (fs : List PlainFrame). frame_of f ∷ fs) no_frames

pub more_plain : (xs zs : List Frame) (v : ℕ) (f : Frame)
    → plain_frames (take v xs ++ (zs ++ f ∷ [])) ≡ frame_of f ∷ plain_frames (take v xs ++ zs)
more_plain xs zs v f = ap plain_frames (sym (append_assoc (take v xs) zs (f ∷ []))) ∙ with_newest (take v xs ++ zs) f

-- the newest goes: an own one, or where there is none a shared one
pub less_own : (xs zs : List Frame) (v : ℕ) (f : Frame)
    → drop 1 (plain_frames (take v xs ++ (zs ++ f ∷ []))) ≡ plain_frames (take v xs ++ zs)
less_own xs zs v f = ap (drop 1) (more_plain xs zs v f)

pub less_shared : (xs : List Frame) (v : ℕ) → 0 < v → v ≤ length xs
    → drop 1 (plain_frames (take v xs ++ [])) ≡ plain_frames (take (v - 1) xs ++ [])
less_shared [] zero l h = absurd (omega (arith, l))
less_shared [] (suc v) l h = absurd (omega (arith, h))
less_shared (x ∷ xs) zero l h = absurd (omega (arith, l))
less_shared (x ∷ xs) (suc v) l h =
    let more : suc v ≡ v + 1 = omega arith in
    let less : v ≡ suc v - 1 = omega arith in
    let inside : v < length (x ∷ xs) = omega (arith, h) in
    ap (λ ys. drop 1 (plain_frames ys)) (append-nil (take (suc v) (x ∷ xs)))
    ∙ ap (λ ys. drop 1 (plain_frames ys)) (ap (λ k. take k (x ∷ xs)) more ∙ take_more (x ∷ xs) v x inside)
    ∙ ap (drop 1) (with_newest (take v (x ∷ xs)) (get_or (x ∷ xs) v x))
    ∙ ap plain_frames (ap (λ k. take k (x ∷ xs)) less ∙ sym (append-nil (take (suc v - 1) (x ∷ xs))))

pub length_last : (fs gs : List PlainFrame) (n : ℕ) → n ≤ length fs → gs ≡ last_frames n fs → n ≡ length gs
length_last fs gs n h e =
    let size : length fs - (length fs - n) ≡ n = omega (arith, h) in
    sym (ap length e ∙ length-drop (length fs - n) fs ∙ size)

-- the first of some frames
pub addr_first : (fs gs : List PlainFrame) (n var : ℕ) (f : Frame) → 0 < n → gs ≡ last_frames n fs
    → last_frames (n - 1 + 1) fs ≡ frame_of f ∷ last_frames (n - 1) fs → addr_in gs var ≡ Some (cell_at f.number var)
addr_first fs gs n var f h e k = ap (λ (x : List PlainFrame). addr_in x var)
    (let more : n ≡ n - 1 + 1 = omega (arith, h) in e ∙ ap (λ m. last_frames m fs) more ∙ k)

pub deref_first : (fs gs : List PlainFrame) (n var : ℕ) (f : Frame) → 0 < n → gs ≡ last_frames n fs
    → last_frames (n - 1 + 1) fs ≡ frame_of f ∷ last_frames (n - 1) fs
    → deref_in gs var ≡ reference_target var f.references
deref_first fs gs n var f h e k = ap (λ (x : List PlainFrame). deref_in x var)
    (let more : n ≡ n - 1 + 1 = omega (arith, h) in e ∙ ap (λ m. last_frames m fs) more ∙ k)

abbrev first_or : PlainFrame → List PlainFrame → PlainFrame
first_or d [] = d
first_or d (f ∷ fs) = f

head_same : (f g : PlainFrame) (fs gs : List PlainFrame) → f ∷ fs ≡ g ∷ gs → f ≡ g
head_same f g fs gs e = ap (λ (x : List PlainFrame). first_or f x) e

pub none_shorter : (fs : List PlainFrame) → fs ≢ [] → 0 < length fs
none_shorter [] h = absurd (h refl)
none_shorter (f ∷ fs) h = omega arith

pub newest_first : (fs gs : List PlainFrame) (n : ℕ) (f : Frame) (g : PlainFrame) → n ≡ length fs → 0 < n
    → last_frames (n - 1 + 1) fs ≡ frame_of f ∷ last_frames (n - 1) fs → fs ≡ g ∷ gs → g ≡ frame_of f
newest_first fs gs n f g h l k e =
    let more : length fs ≡ n - 1 + 1 = omega (arith, h, l) in
    head_same g (frame_of f) gs (last_frames (n - 1) fs)
    (sym e ∙ sym (all_last fs) ∙ ap (λ m. last_frames m fs) more ∙ k)

pub up_more : (fs : List PlainFrame) (up i count : ℕ) (f : PlainFrame) → i < up → count ≢ 0 → count ≤ length fs
    → last_frames (count - 1 + 1) fs ≡ f ∷ last_frames (count - 1) fs
    → frames_up (up - i) (last_frames count fs) ≡ frames_up (up - (i + 1)) (last_frames (min f.link (count - 1)) fs)
up_more fs up i count f h n l e =
    let one : up - i ≡ suc (up - (i + 1)) = omega (arith, h) in
    let more : count ≡ count - 1 + 1 = omega (arith, n) in
    let inside : count - 1 < length fs = omega (arith, n, l) in
    ap (λ k. frames_up k (last_frames count fs)) one ∙ ap (λ m. frames_up (suc (up - (i + 1))) (last_frames m fs)) more
    ∙ up_one fs (up - (i + 1)) (count - 1) f inside e

-- references one after another
pub referred_here : (rs : List (ℕ × Address)) (x i : ℕ) (r : ℕ × Address) → i < length rs → r ≡ get_or rs i r → r.0 ≡ x
    → reference_target x (drop i rs) ≡ Some r.1
referred_here [] x i r h e k = absurd (omega (arith, h))
referred_here (q ∷ rs) x zero r h e k = rw (sym e) (rw (eq-eqb x r.0 (sym k)) refl)
referred_here (q ∷ rs) x (suc i) r h e k = referred_here rs x i r (omega (arith, h)) e k

pub referred_on : (rs : List (ℕ × Address)) (x i : ℕ) (r : ℕ × Address) → i < length rs → r ≡ get_or rs i r → r.0 ≢ x
    → reference_target x (drop i rs) ≡ reference_target x (drop (i + 1) rs)
referred_on [] x i r h e k = absurd (omega (arith, h))
referred_on (q ∷ rs) x zero r h e k = rw (sym e) (rw (ne_eqb x r.0 (λ w. k (sym w))) refl)
referred_on (q ∷ rs) x (suc i) r h e k = let one : suc (i + 1) ≡ suc i + 1 = omega arith in
    referred_on rs x i r (omega (arith, h)) e k ∙ ap (λ n. reference_target x (drop n (q ∷ rs))) one

pub referred_end : (rs : List (ℕ × Address)) (x i : ℕ) → length rs ≤ i → reference_target x (drop i rs) ≡ None
referred_end rs x i h = ap (reference_target x) (drop_all i rs h)

pub some_visible : (xs : List Frame) (v : ℕ) → plain_frames (take v xs ++ []) ≢ [] → 0 < v
some_visible xs zero h = absurd (h no_frames)
some_visible xs (suc v) h = omega arith

-- ---- frames that are shared

all_shared : (xs ys : List Frame) (v : ℕ) → ys ≡ [] → plain_frames (take v xs ++ ys) ≡ plain_frames (take v xs)
all_shared xs ys v e = ap (λ (zs : List Frame). plain_frames (take v xs ++ zs)) e
    ∙ ap plain_frames (append-nil (take v xs))

all_gathered : (xs ys zs : List Frame) (v n : ℕ) → n ≡ length zs → zs ≡ take v xs ++ ys
    → plain_frames (take v xs ++ ys) ≡ plain_frames (take n zs)
all_gathered xs ys zs v n l e = ap plain_frames (sym e ∙ sym (take_all n zs (omega (arith, l))))

pub still_shared : (xs ys zs ws : List Frame) (v n : ℕ) → n ≡ length zs → zs ≡ take v xs ++ ys → ws ≡ []
    → plain_frames (take n zs ++ ws) ≡ plain_frames (take v xs ++ ys)
still_shared xs ys zs ws v n l e w = all_shared zs ws n w ∙ sym (all_gathered xs ys zs v n l e)

pub copied_more : (to : List Frame) (fs : List Frame) (i : ℕ) (f : Frame) → i < length fs → f ≡ get_or fs i f
    → (to ++ take i fs) ++ f ∷ [] ≡ to ++ take (i + 1) fs
copied_more to fs i f h e = append_assoc to (take i fs) (f ∷ [])
    ∙ ap (λ (xs : List Frame). to ++ xs) (ap (λ (x : Frame). take i fs ++ x ∷ []) e ∙ sym (take_more fs i f h))

pub copied_all : (to : List Frame) (fs : List Frame) (i : ℕ) → length fs ≤ i → to ++ take i fs ≡ to ++ fs
copied_all to fs i h = ap (λ (xs : List Frame). to ++ xs) (take_all i fs h)
