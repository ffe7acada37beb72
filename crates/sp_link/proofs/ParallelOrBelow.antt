-- Where a process stands to one that acts: both are parallel, or the one that acts is below it, in a child that it
-- joins. What such a child's descendants write and the parent may read, the child may write (`child_writes`).
use Rattle.std.proofs.Common.{◌≡◌, ◌⊎◌, inl, inr, ⊎_elim, ℕ, [], ◌∷◌, ◌++◌, length, length-append, sym, ap, ◌∙◌, subst}
use Rattle.std.proofs.Common.{arith}
use Rattle.std.specs.Prelude.{◌≢◌}
use Rattle.sp_meaning.specs.Model.{Name, State, Language}
use Rattle.sp_meaning.specs.Steps.{IsAlive, JoinsAt, Sound}
use Rattle.sp_meaning.specs.Disjoint.{AreParallel}
use Rattle.sp_meaning.specs.LocalWork.{Loc, Cell, Input, Output}
use Rattle.sp_meaning.proofs.Parallel.{Below, Parts, parts, last_of, moved, not_above, one_fork, ancestors_live}
use Rattle.sp_meaning.proofs.Parallel.{alone_lives, IsAlone}
use Rattle.sp_meaning.proofs.Rights.{OwnOrGiven, IsBelow, Fair_rights, came_down}

pub record Under {L : Language} (s : State L) (w r : Name) : Type 0 where
  pub front : Name
  pub fork : ℕ
  pub child : ℕ
  pub name_is : w ≡ front ++ (fork, child) ∷ r
  pub lives : IsAlive (s.condition ((fork, child) ∷ r))
  pub joins : JoinsAt fork child (s.condition r)

pub stance : {L : Language} (s : State L) (w r : Name) → Sound s → IsAlone s w → IsAlive (s.condition r) → r ≢ w
    → AreParallel w r ⊎ Under s w r
stance {L} s w r sound alone lives apart = ⊎_elim
    (λ (h : Below w r). inr (under h.rest h.name_is))
    (⊎_elim
    (λ (h : Below r w). absurd (not_above s r w sound alone lives apart h))
    (λ (h : Parts w r). inl (both h)))
    (parts w r)
  where
    under : (rest : Name) → w ≡ rest ++ r → Under s w r
    under [] e = absurd (apart (sym e))
    under (v ∷ rest) e =
        let l = last_of v rest in
        let w_is : w ≡ l.front ++ l.last ∷ r = e ∙ ap (λ z. z ++ r) l.name_is ∙ moved l.front l.last r in
        let child : IsAlive (s.condition (l.last ∷ r)) =
        ancestors_live s sound l.front (l.last ∷ r)
        (subst (λ z. IsAlive (s.condition z)) w_is (alone_lives s w alone)) in
        record {
          front = l.front;
          fork = (l.last).0;
          child = (l.last).1;
          name_is = w_is;
          lives = child;
          joins = sound.joined r (l.last).0 (l.last).1 child;
        }

    both : Parts w r → AreParallel w r
    both h =
        let ja = sound.joined h.common (h.x).0 (h.x).1
        (ancestors_live s sound h.after_x (h.x ∷ h.common)
        (subst (λ z. IsAlive (s.condition z)) h.a_is (alone_lives s w alone))) in
        let jb = sound.joined h.common (h.y).0 (h.y).1
        (ancestors_live s sound h.after_y (h.y ∷ h.common) (subst (λ z. IsAlive (s.condition z)) h.b_is lives)) in
        let fork : (h.x).0 ≡ (h.y).0 = one_fork (h.x).0 (h.x).1 (h.y).0 (h.y).1 (s.condition h.common) ja jb in
        record {
          common = h.common;
          fork = (h.x).0;
          first = (h.x).1;
          second = (h.y).1;
          apart = λ e. h.apart (λ i. (fork i, e i));
          after_one = h.after_x;
          after_other = h.after_y;
          a_is = h.a_is;
          b_is = h.b_is ∙ ap (λ k. h.after_y ++ (k, (h.y).1) ∷ h.common) (sym fork);
        }

-- what one under a child may write, and the parent may read, the child may write
pub child_writes : (W R : Name → Loc → Type 0) → Fair_rights W R → (front r : Name) (k i : ℕ) (l : Loc)
    → OwnOrGiven W (front ++ (k, i) ∷ r) l → OwnOrGiven R r l → W ((k, i) ∷ r) l
child_writes W R f front r k i l w a = ⊎_elim (λ (b : IsBelow ((k, i) ∷ r) l). absurd (no l b a)) (λ x. x)
    (came_down W f.less_write front ((k, i) ∷ r) l w)
  where
    no : (l : Loc) → IsBelow ((k, i) ∷ r) l → OwnOrGiven R r l → ⊥
    no (Cell o h x) b (inl e) = let n = ap length (sym e ∙ b.1) in let m = length-append b.0 ((k, i) ∷ r) in
        absurd (omega (arith, n, m))
    no (Cell o h x) b (inr e) = let n = ap length b.1 in let m = length-append b.0 ((k, i) ∷ r) in
        let u = f.above r (Cell o h x) e in absurd (omega (arith, n, m, u))
    no Input b a = b
    no Output b a = b
