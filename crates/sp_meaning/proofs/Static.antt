-- Static links: what is visible from a frame is the same seen from the frames inside it.
use Rattle.std.proofs.Common.{◌≡◌, ℕ, suc, ◌<◌, ◌≤◌, ◌==◌, Bool, true, false, List, [], ◌∷◌, length, Some, refl, sym}
use Rattle.std.proofs.Common.{ap, ◌∙◌, subst, arith, if◌then◌else◌, eqb-true, eq-eqb}
use Rattle.std.proofs.lemmas.Option.{same_Some}
use Rattle.sp_meaning.specs.LocalWork.{Home, OfBlock, OfIndex, Frame, seek, top_frame, is_block}
use Rattle.sp_meaning.specs.Rights.{frame_found, IsInside, Linked}

pub unequal : (a b : ℕ) → b < a → a == b ≡ false
unequal a b l = go (a == b) refl
  where
    go : (c : Bool) → a == b ≡ c → c ≡ false
    go false e = refl
    go true e = let d : a ≡ b = eqb-true a b e in absurd (omega (arith, d))

-- the frame that is found is the first of those that the meaning seeks
pub find_is : (fits : Home → Bool) (n : ℕ) (fs : List Frame) → top_frame (seek fits n fs) ≡ frame_found fits n fs
find_is fits n [] = refl
find_is fits n (f ∷ fs) = go (λ m. find_is fits m fs) (length (f ∷ fs) == n) (fits f.home)
  where
    go : ((m : ℕ) → top_frame (seek fits m fs) ≡ frame_found fits m fs) → (a b : Bool)
        → top_frame (if a then (if b then f ∷ fs else seek fits f.link fs) else seek fits n fs)
        ≡ (if a then (if b then Some f else frame_found fits f.link fs) else frame_found fits n fs)
    go ih true true = refl
    go ih true false = ih f.link
    go ih false b = ih n

-- it is found where the list is as long as its number and one more
pub sought : (fits : Home → Bool) (n : ℕ) (fs : List Frame) (g : Frame) (gs : List Frame) → Linked fs
    → seek fits n fs ≡ g ∷ gs → (frame_found fits n fs ≡ Some g) × (length (g ∷ gs) ≡ suc g.number)
sought fits n fs g gs l e = (sym (find_is fits n fs) ∙ ap top_frame e, numbered fits n fs g gs l e)
  where
    nil_is : (a : Frame) (rest : List Frame) → [] ≡ a ∷ rest → ⊥
    nil_is a rest e = cc e

    numbered : (fits : Home → Bool) (n : ℕ) (fs : List Frame) (g : Frame) (gs : List Frame) → Linked fs
        → seek fits n fs ≡ g ∷ gs → length (g ∷ gs) ≡ suc g.number
    numbered fits n [] g gs l e = absurd (nil_is g gs e)
    numbered fits n (f ∷ fs) g gs (number_is, _, _, below) e =
        go (λ m x. numbered fits m fs g gs below x) (length (f ∷ fs) == n) (fits f.home) e
      where
        go : ((m : ℕ) → seek fits m fs ≡ g ∷ gs → length (g ∷ gs) ≡ suc g.number) → (a b : Bool)
            → (if a then (if b then f ∷ fs else seek fits f.link fs) else seek fits n fs) ≡ g ∷ gs
            → length (g ∷ gs) ≡ suc g.number
        go ih true true e =
            let h : length (f ∷ fs) ≡ suc f.number = ap suc (sym number_is) in
            let tail : f ∷ fs ≡ g ∷ gs = e in
            sym (ap length tail) ∙ h ∙ ap (λ (z : List Frame). suc (head_number z)) tail
          where
            head_number : List Frame → ℕ
            head_number [] = 0
            head_number (x ∷ xs) = x.number
        go ih true false e = ih f.link e
        go ih false b e = ih n e

pub lower : (fits : Home → Bool) (n : ℕ) (fs : List Frame) (f : Frame) → Linked fs → frame_found fits n fs ≡ Some f
    → f.number < length fs
lower fits n [] f l e = absurd (cc e)
lower fits n (g ∷ fs) f (number_is, _, _, below) e = go (λ m x. lower fits m fs f below x) (length (g ∷ fs) == n) e
  where
    inner : ((m : ℕ) → frame_found fits m fs ≡ Some f → f.number < length fs) → (b : Bool)
        → (if b then Some g else frame_found fits g.link fs) ≡ Some f → f.number < suc (length fs)
    inner ih true e = let d : g ≡ f = same_Some g f e in omega (arith, sym (ap (λ (z : Frame). z.number) d) ∙ number_is)
    inner ih false e = omega (arith, ih g.link e)

    go : ((m : ℕ) → frame_found fits m fs ≡ Some f → f.number < length fs) → (b : Bool)
        → (if b then (if fits g.home then Some g else frame_found fits g.link fs) else frame_found fits n fs) ≡ Some f
        → f.number < suc (length fs)
    go ih true e = inner ih (fits g.home) e
    go ih false e = omega (arith, ih n e)

pub home_is : (c : ℕ) (h : Home) → is_block c h ≡ true → h ≡ OfBlock c
home_is c (OfBlock b) e = ap OfBlock (sym (eqb-true c b e))
home_is c (OfIndex x n) e = absurd (cc e)

-- from a frame of block c outward, block d's frame is the one that is seen through c's, and d is no inner block
pub through : (c d n : ℕ) (f g : Frame) (fs : List Frame) → Linked fs → frame_found (is_block c) n fs ≡ Some f
    → frame_found (is_block d) (suc f.number) fs ≡ Some g → (frame_found (is_block d) n fs ≡ Some g) × (d ≤ c)
through c d n f g [] l e h = absurd (cc e)
through c d n f g (k ∷ fs) (number_is, is_inside, _, below) e h =
    go (λ m x y. through c d m f g fs below x y) (length (k ∷ fs) == n) e
  where
    skip : f.number < length fs → frame_found (is_block d) (suc f.number) fs ≡ Some g
    skip lt = subst (λ z. (if z then (if is_block d k.home then Some k else frame_found (is_block d) k.link fs) else
        frame_found (is_block d) (suc f.number) fs) ≡ Some g)
        (unequal (length (k ∷ fs)) (suc f.number) (omega (arith, lt))) h

    deeper : (z : Bool) → is_block d k.home ≡ z → (frame_found (is_block d) k.link fs ≡ Some g) × (d ≤ c)
        → ((if z then Some k else frame_found (is_block d) k.link fs) ≡ Some g) × (d ≤ c)
    deeper true m r = absurd (omega (arith, subst (λ x. IsInside x k.link fs) (home_is d k.home m) is_inside d g r.0))
    deeper false m r = r

    same : (z : Bool) → is_block d k.home ≡ z → is_block c k.home ≡ true
        → (if z then Some k else frame_found (is_block d) k.link fs) ≡ Some g → d ≤ c
    same true m mc r =
        let e1 : OfBlock c ≡ OfBlock d = sym (home_is c k.home mc) ∙ home_is d k.home m in
        let e2 : c ≡ d = cc e1 in
        omega (arith, e2)
    same false m mc r = omega (arith, subst (λ x. IsInside x k.link fs) (home_is c k.home mc) is_inside d g r)

    inner : ((m : ℕ) → frame_found (is_block c) m fs ≡ Some f → frame_found (is_block d) (suc f.number) fs ≡ Some g
        → (frame_found (is_block d) m fs ≡ Some g) × (d ≤ c)) → (z : Bool) → is_block c k.home ≡ z
        → (if z then Some k else frame_found (is_block c) k.link fs) ≡ Some f
        → ((if is_block d k.home then Some k else frame_found (is_block d) k.link fs) ≡ Some g) × (d ≤ c)
    inner ih true m e =
        let k_is : k ≡ f = same_Some k f e in
        let h1 : frame_found (is_block d) (suc k.number) (k ∷ fs) ≡ Some g =
        subst (λ (z : Frame). frame_found (is_block d) (suc z.number) (k ∷ fs) ≡ Some g) (sym k_is) h in
        let h2 : (if is_block d k.home then Some k else frame_found (is_block d) k.link fs) ≡ Some g =
        subst (λ z. (if z then (if is_block d k.home then Some k else frame_found (is_block d) k.link fs) else
        frame_found (is_block d) (suc k.number) fs) ≡ Some g)
        (eq-eqb (length (k ∷ fs)) (suc k.number) (ap suc (sym number_is)))
        h1 in
        (h2, same (is_block d k.home) refl m h2)
    inner ih false m e = deeper (is_block d k.home) refl (ih k.link e (skip (lower (is_block c) k.link fs f below e)))

    go : ((m : ℕ) → frame_found (is_block c) m fs ≡ Some f → frame_found (is_block d) (suc f.number) fs ≡ Some g
        → (frame_found (is_block d) m fs ≡ Some g) × (d ≤ c)) → (z : Bool)
        → (if z then (if is_block c k.home then Some k else frame_found (is_block c) k.link fs) else frame_found
        (is_block c) n fs)
        ≡ Some f
        → ((if z then (if is_block d k.home then Some k else frame_found (is_block d) k.link fs) else frame_found
        (is_block d) n fs)
        ≡ Some g) × (d ≤ c)
    go ih true e = inner ih (is_block c k.home) refl e
    go ih false e = ih n e (skip (lower (is_block c) n fs f below e))
