-- Rights by names: a process has its own locations and those that its fork gave it; what one of two parallel ones may
-- write the other has not.
use Rattle.std.proofs.Common.{◌≡◌, ◌≢◌, ◌⊎◌, inl, inr, ℕ, ◌<◌, [], ◌∷◌, ◌++◌, length, length-append, refl, sym}
use Rattle.std.proofs.Common.{ap, ◌∙◌, subst, arith}
use Rattle.std.specs.Prelude.{drop}
use Rattle.std.proofs.Math.Seq.{drop-append_seam}
use Rattle.sp_meaning.specs.Model.{Name}
use Rattle.sp_meaning.specs.LocalWork.{Loc, Cell, Input, Output}
use Rattle.sp_meaning.specs.Disjoint.{AreParallel}

abbrev pub OwnLocation : Name → Loc → Type 0
OwnLocation q (Cell r n x) = r ≡ q
OwnLocation q Input = ⊥
OwnLocation q Output = ⊥

-- its own, or given
abbrev pub OwnOrGiven : (Name → Loc → Type 0) → Name → Loc → Type 0
OwnOrGiven W q l = OwnLocation q l ⊎ W q l

-- the owner is further up
abbrev pub IsAbove : Name → Loc → Type 0
IsAbove q (Cell r n x) = length r < length q
IsAbove q Input = Unit {0}
IsAbove q Output = Unit {0}

pub record Fair_rights (W R : Name → Loc → Type 0) : Type 0 where
  pub reads : (q : Name) (l : Loc) → W q l → R q l
  pub above : (q : Name) (l : Loc) → R q l → IsAbove q l
  pub less_write : (q : Name) (k i : ℕ) (l : Loc) → W ((k, i) ∷ q) l → OwnOrGiven W q l
  pub less_read : (q : Name) (k i : ℕ) (l : Loc) → R ((k, i) ∷ q) l → OwnOrGiven R q l
  pub apart : (q : Name) (k i j : ℕ) (l : Loc) → i ≢ j → W ((k, i) ∷ q) l → R ((k, j) ∷ q) l → ⊥

-- the owner is this process or one below it
abbrev pub IsBelow : Name → Loc → Type 0
IsBelow q (Cell r n x) = (more : Name) × (r ≡ more ++ q)
IsBelow q Input = ⊥
IsBelow q Output = ⊥

pub mine_below : (more q : Name) (l : Loc) → OwnLocation (more ++ q) l → IsBelow q l
mine_below more q (Cell r n x) e = (more, e)
mine_below more q Input e = absurd e
mine_below more q Output e = absurd e

pub came_down : (V : Name → Loc → Type 0) → ((q : Name) (k i : ℕ) (l : Loc) → V ((k, i) ∷ q) l → OwnOrGiven V q l)
    → (more q : Name) (l : Loc) → OwnOrGiven V (more ++ q) l → IsBelow q l ⊎ V q l
came_down V less [] q l (inl m) = inl (mine_below [] q l m)
came_down V less [] q l (inr v) = inr v
came_down V less (a ∷ more) q l (inl m) = inl (mine_below (a ∷ more) q l m)
came_down V less (a ∷ more) q l (inr v) = came_down V less more q l (less (more ++ q) a.0 a.1 l v)

pub not_both : (q r : Name) (l : Loc) → length q ≡ length r → IsBelow q l → IsAbove r l → ⊥
not_both q r (Cell o n x) e b a = let h = ap length b.1 ∙ length-append b.0 q in absurd (omega (arith, h, a, e))
not_both q r Input e b a = b
not_both q r Output e b a = b

pub same_end : (xs ys u v : Name) → length u ≡ length v → xs ++ u ≡ ys ++ v → u ≡ v
same_end xs ys u v e h =
    let lx = length-append xs u in
    let ly = length-append ys v in
    let d : length xs ≡ length ys = omega (arith, lx, ly, e, ap length h) in
    sym (drop-append_seam xs u) ∙ ap (drop (length xs)) h ∙ ap (λ n. drop n (ys ++ v)) d ∙ drop-append_seam ys v

pub below_both : (z : Name) (k i j : ℕ) (l : Loc) → i ≢ j → IsBelow ((k, i) ∷ z) l → IsBelow ((k, j) ∷ z) l → ⊥
below_both z k i j (Cell o n x) apart a b =
    let h : (k, i) ∷ z ≡ (k, j) ∷ z = same_end a.0 b.0 ((k, i) ∷ z) ((k, j) ∷ z) refl (sym a.1 ∙ b.1) in
    apart (ap second h)
  where
    second : Name → ℕ
    second [] = 0
    second (c ∷ r) = c.1
below_both z k i j Input apart a b = a
below_both z k i j Output apart a b = a

pub parallel_apart : (W R : Name → Loc → Type 0) → Fair_rights W R → (a b : Name) → AreParallel a b → (l : Loc)
    → OwnOrGiven W a l → OwnOrGiven R b l → ⊥
parallel_apart W R f a b h l w r = go (came_down W f.less_write h.after_one ((h.fork, h.first) ∷ h.common) l
    (subst (λ x. OwnOrGiven W x l) h.a_is w)) (came_down R f.less_read h.after_other ((h.fork, h.second) ∷ h.common) l
    (subst (λ x. OwnOrGiven R x l) h.b_is r))
  where
    one : Name
    one = (h.fork, h.first) ∷ h.common

    other : Name
    other = (h.fork, h.second) ∷ h.common

    go : IsBelow one l ⊎ W one l → IsBelow other l ⊎ R other l → ⊥
    go (inl x) (inl y) = below_both h.common h.fork h.first h.second l h.apart x y
    go (inl x) (inr y) = not_both one other l refl x (f.above other l y)
    go (inr x) (inl y) = not_both other one l refl y (f.above one l (f.reads one l x))
    go (inr x) (inr y) = f.apart h.common h.fork h.first h.second l h.apart x y
