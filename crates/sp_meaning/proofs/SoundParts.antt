-- What is sound of a statement is so of its parts, of what it leaves to do and of the children that it begins.
use Rattle.std.proofs.Common.{◌≡◌, ◌≢◌, ◌⊎◌, inl, inr, ⊎_elim, sym, ap, ◌∙◌, subst, arith, ℕ, zero, suc, ◌≤◌, Bool}
use Rattle.std.proofs.Common.{true, false, List, [], ◌∷◌, length, Option, Some, None, refl, if◌then◌else◌}
use Rattle.std.specs.Prelude.{◌+ℤ◌, ℤ, pos}
use Rattle.sp_tree.specs.Plain.{Expr, Program, Stmt, Empty, Assign, Call, Sequence, If, IfElse, While, Repeat, For}
use Rattle.sp_tree.specs.Plain.{Case, Parallel, Forall, Assume, ReadValue, ReadLine, WriteValue, WriteText, WriteLine}
use Rattle.sp_tree.specs.Plain.{Open, Send, Receive, Stmts, No, And, On, Arms, NoArm, Or}
use Rattle.sp_meaning.specs.LocalWork.{Loc, Frame, Item, Do, First, Again, Test, Leave, Break}
use Rattle.sp_meaning.specs.Actions.{push, push_all, children, indexed_children, has_constant, arm_for}
use Rattle.sp_tree.specs.Uses.{Use, Target, Seen, CallOf, ParallelOf, ForallOf, Stop, In_stmt, In_stmts, In_arms}
use Rattle.sp_tree.specs.Uses.{IsOther}
use Rattle.sp_tree.specs.Sets.{Reach, IsTarget, IsUsed}
use Rattle.sp_tree.proofs.Closure.{called_in, target_part, used_part}
use Rattle.sp_tree.specs.Interference.{KeepsI1, IsFreeUse}
use Rattle.sp_meaning.specs.Rights.{Linked, frames_below, last_of, location_by, location_at, location_of, Touches}
use Rattle.sp_meaning.specs.Rights.{Sound, Fit, AreClear}
use Rattle.sp_meaning.specs.Rights.{IsClearOf, Born}
use Rattle.sp_meaning.proofs.Within.{part}
use Rattle.sp_meaning.proofs.Keys.{number_or}

-- two variables in use are two locations
uses_apart : {p : Program} {W R : Loc → Type 0} {fs : List Frame} {Here : Use → Type 0} → Sound p W R fs Here
    → (x y : ℕ) (l : Loc) → x ≢ y → location_of p fs x ≡ Some l → location_of p fs y ≡ Some l → IsUsed p Here x
    → IsUsed p Here y
    → ⊥
uses_apart s x y l n e d (inl a) (inl b) = s.apart a.0 b.0 (Target x) (Target y) a.1 b.1 x y l n (refl, e) (refl, d)
uses_apart s x y l n e d (inl a) (inr b) = s.apart a.0 b.0 (Target x) (Seen y) a.1 b.1 x y l n (refl, e) (refl, d)
uses_apart s x y l n e d (inr a) (inl b) = s.apart a.0 b.0 (Seen x) (Target y) a.1 b.1 x y l n (refl, e) (refl, d)
uses_apart s x y l n e d (inr a) (inr b) = s.apart a.0 b.0 (Seen x) (Seen y) a.1 b.1 x y l n (refl, e) (refl, d)

-- two statements of one whole whose variables are different use different locations
clear : {p : Program} {W R : Loc → Type 0} {fs : List Frame} {Here : Use → Type 0} → Sound p W R fs Here → (s t : Stmt)
    → ((u : Use) → In_stmt s u → Here u) → ((u : Use) → In_stmt t u → Here u)
    → ((x : ℕ) → IsTarget p (In_stmt s) x → IsUsed p (In_stmt t) x → ⊥)
    → ((x : ℕ) → IsUsed p (In_stmt s) x → IsTarget p (In_stmt t) x → ⊥) → AreClear p fs s t
clear {p} {fs = fs} so s t i j a b l = (
  λ h k. ⊎_elim (λ (e : h.0 ≡ k.0). a k.0 (subst (λ z. IsTarget p (In_stmt s) z) e h.1) k.1)
      (λ (n : h.0 ≢ k.0). uses_apart so h.0 k.0 l n h.2 k.2 (inl (target_part p i h.0 h.1)) (used_part p j k.0 k.1))
      (number_or h.0 k.0),
  λ h k. ⊎_elim (λ (e : h.0 ≡ k.0). b k.0 (subst (λ z. IsUsed p (In_stmt s) z) e h.1) k.1)
      (λ (n : h.0 ≢ k.0). uses_apart so h.0 k.0 l n h.2 k.2 (used_part p i h.0 h.1) (inl (target_part p j k.0 k.1)))
      (number_or h.0 k.0),
)

abbrev pub list_of : Stmts → List Stmt
list_of No = []
list_of (And s rest) = s ∷ list_of rest

clear_of : {p : Program} {W R : Loc → Type 0} {fs : List Frame} {Here : Use → Type 0} → Sound p W R fs Here → (s : Stmt)
    → ((u : Use) → In_stmt s u → Here u) → (ts : Stmts) → ((u : Use) → In_stmts ts u → Here u)
    → ((x : ℕ) → IsTarget p (In_stmt s) x → IsUsed p (In_stmts ts) x → ⊥)
    → ((x : ℕ) → IsUsed p (In_stmt s) x → IsTarget p (In_stmts ts) x → ⊥) → IsClearOf p fs s (list_of ts)
clear_of so s i No j a b = tt
clear_of {p} so s i (And t ts) j a b = (
  clear so s t i (λ u h. j u (inl h)) (λ x h k. a x h (used_part p (λ u. inl) x k))
      (λ x h k. b x h (target_part p (λ u. inl) x k)),
  clear_of so s i ts (λ u h. j u (inr h)) (λ x h k. a x h (used_part p (λ u. inr) x k))
      (λ x h k. b x h (target_part p (λ u. inr) x k)),
)

-- by rule I1
pub born_of : {p : Program} {W R : Loc → Type 0} {fs : List Frame} → (ss : Stmts) → Sound p W R fs (In_stmts ss)
    → KeepsI1 p ss → Born p W R fs (list_of ss) (children ss)
born_of No so i = tt
born_of (And s rest) so i = (
  refl,
  part (λ u. inl) so,
  clear_of so s (λ u. inl) rest (λ u. inr) i.0 i.1,
  born_of rest (part (λ u. inr) so) i.2,
)

abbrev pub copies : ℕ → Stmt → List Stmt
copies zero s = []
copies (suc n) s = s ∷ copies n s

-- by rule I2
clear_copies : (p : Program) (fs : List Frame) (s : Stmt) → ((x : ℕ) → IsTarget p (In_stmt s) x → ⊥) → (n : ℕ)
    → IsClearOf p fs s (copies n s)
clear_copies p fs s i zero = tt
clear_copies p fs s i (suc n) = (λ l. (λ h k. i h.0 h.1, λ h k. i k.0 k.1), clear_copies p fs s i n)

pub born_copies : {p : Program} {W R : Loc → Type 0} {fs : List Frame} (x : ℕ) (s : Stmt) → Sound p W R fs (In_stmt s)
    → ((x : ℕ) → IsTarget p (In_stmt s) x → ⊥) → (m : ℤ) (n : ℕ) → Born p W R fs (copies n s) (indexed_children x s m n)
born_copies x s so i m zero = tt
born_copies {p} {W} {R} {fs} x s so i m (suc n) =
    (refl, so, clear_copies p fs s i n, born_copies x s so i (m +ℤ pos 1) n)

-- the element statement of a forall: its index is no location
module _ {p : Program} {W R : Loc → Type 0} {fs : List Frame} (x : ℕ) (from to : Expr) (s : Stmt)
    (so : Sound p W R fs (In_stmt (Forall x from to s))) where
  no_spot : (l : Loc) → location_of p fs x ≡ Some l → ⊥
  no_spot l e =
      let i = (so.kept (ForallOf x s) (inl refl)).0 in
      let none : location_of p fs x ≡ None = ap (location_at fs x) i.1 ∙ ap (location_by fs x i.0) i.2 in
      let h : None ≡ Some l = sym none ∙ e in absurd (cc h)

  other_or : (u : Use) → ((y : ℕ) (l : Loc) → Touches p fs u y l → ⊥) ⊎ IsOther x u
  other_or (Target y) = ⊎_elim (λ (e : x ≡ y). inl (λ z l t. no_spot l (ap (location_of p fs) (e ∙ t.0) ∙ t.1)))
      (λ (n : x ≢ y). inr n) (number_or x y)
  other_or (Seen y) = ⊎_elim (λ (e : x ≡ y). inl (λ z l t. no_spot l (ap (location_of p fs) (e ∙ t.0) ∙ t.1)))
      (λ (n : x ≢ y). inr n) (number_or x y)
  other_or _ = inr tt

  lifted : (bs : List ℕ) (u : Use) → Reach p (In_stmt s) bs u → (y : ℕ) (l : Loc) → Touches p fs u y l
      → Reach p (In_stmt (Forall x from to s)) bs u
  lifted [] u r y l t = ⊎_elim (λ (h : (y : ℕ) (l : Loc) → Touches p fs u y l → ⊥). absurd (h y l t))
      (λ (o : IsOther x u). inr (inr (inr (inl (r, o))))) (other_or u)
  lifted (b ∷ bs) u step y l t = called_in p step (inr (inr (inr (inl (step.is_called, tt)))))

  rules : (u : Use) → In_stmt s u → IsFreeUse p u
  rules (Target y) h = tt
  rules (Seen y) h = tt
  rules (CallOf f args) h = so.kept (CallOf f args) (inr (inr (inr (inl (h, tt)))))
  rules (ParallelOf ss) h = so.kept (ParallelOf ss) (inr (inr (inr (inl (h, tt)))))
  rules (ForallOf y t) h = so.kept (ForallOf y t) (inr (inr (inr (inl (h, tt)))))
  rules Stop h = tt

  pub element_sound : Sound p W R fs (In_stmt s)
  element_sound = record {
    allowed = λ bs u r y l t. so.allowed bs u (lifted bs u r y l t) y l t;
    apart = λ bs cs u v r k y z l n a b. so.apart bs cs u v (lifted bs u r y l a) (lifted cs v k z l b) y z l n a b;
    kept = rules;
  }

module _ (p : Program) (W R : Loc → Type 0) (z fs : List Frame) where
  pub add_do : (s : Stmt) (todo : List Item) → Sound p W R fs (In_stmt s) → Fit p W R z fs todo
      → Fit p W R z fs (Do s ∷ todo)
  add_do s todo so f = record { linked = f.linked; ready = (so, f.ready); ends = f.ends }

  mutual
    pub push_good : (s : Stmt) (todo : List Item) → Sound p W R fs (In_stmt s) → Fit p W R z fs todo
        → Fit p W R z fs (push s todo)
    push_good Empty todo so f = f
    push_good (Assign v e) todo so f = add_do (Assign v e) todo so f
    push_good (Call g args) todo so f = add_do (Call g args) todo so f
    push_good (Sequence ss) todo so f = push_all_good ss todo so f
    push_good (If e a) todo so f = add_do (If e a) todo so f
    push_good (IfElse e a b) todo so f = add_do (IfElse e a b) todo so f
    push_good (While e s) todo so f = add_do (While e s) todo so f
    push_good (Repeat s e) todo so f = add_do (Repeat s e) todo so f
    push_good (For x from down to s) todo so f = add_do (For x from down to s) todo so f
    push_good (Case e arms) todo so f = add_do (Case e arms) todo so f
    push_good (Parallel ss) todo so f = add_do (Parallel ss) todo so f
    push_good (Forall x from to s) todo so f = add_do (Forall x from to s) todo so f
    push_good (Assume e) todo so f = add_do (Assume e) todo so f
    push_good (ReadValue v) todo so f = add_do (ReadValue v) todo so f
    push_good ReadLine todo so f = add_do ReadLine todo so f
    push_good (WriteValue e w) todo so f = add_do (WriteValue e w) todo so f
    push_good (WriteText t w) todo so f = add_do (WriteText t w) todo so f
    push_good WriteLine todo so f = add_do WriteLine todo so f
    push_good (Open v) todo so f = add_do (Open v) todo so f
    push_good (Send c e) todo so f = add_do (Send c e) todo so f
    push_good (Receive c v) todo so f = add_do (Receive c v) todo so f

    pub push_all_good : (ss : Stmts) (todo : List Item) → Sound p W R fs (In_stmts ss) → Fit p W R z fs todo
        → Fit p W R z fs (push_all ss todo)
    push_all_good No todo so f = f
    push_all_good (And s rest) todo so f = push_good s (push_all rest todo) (part (λ u. inl) so)
        (push_all_good rest todo (part (λ u. inr) so) f)

abbrev pub InArm : Arms → Option Stmt → Type 0
InArm arms None = Unit {0}
InArm arms (Some s) = (u : Use) → In_stmt s u → In_arms arms u

pub in_arm : (n : ℤ) (arms : Arms) → InArm arms (arm_for n arms)
in_arm n NoArm = tt
in_arm n (Or (On ms s) rest) = go (has_constant n ms) (arm_for n rest) (in_arm n rest)
  where
    go : (b : Bool) (o : Option Stmt) → InArm rest o → InArm (Or (On ms s) rest) (if b then Some s else o)
    go true o h = λ u i. inl i
    go false None h = tt
    go false (Some r) h = λ u i. inr (h u i)

pub linked_below : (fs : List Frame) → Linked fs → Linked (frames_below fs)
linked_below [] l = tt
linked_below (f ∷ fs) (_, _, _, below) = below

-- no more frames are left than there were
pub last_shorter : (fs : List Frame) (todo : List Item) → length (last_of fs todo) ≤ length fs
last_shorter fs [] = omega arith
last_shorter fs (Do s ∷ todo) = last_shorter fs todo
last_shorter fs (First x m n down s ∷ todo) = last_shorter fs todo
last_shorter fs (Again x n down s ∷ todo) = last_shorter fs todo
last_shorter fs (Test s e ∷ todo) = last_shorter fs todo
last_shorter fs (Leave ∷ todo) = let a = last_shorter (frames_below fs) todo in let b = below_shorter fs in
    omega (arith, a, b)
  where
    below_shorter : (gs : List Frame) → length (frames_below gs) ≤ length gs
    below_shorter [] = omega arith
    below_shorter (g ∷ gs) = omega arith
last_shorter fs (Break f ∷ todo) = last_shorter fs todo
