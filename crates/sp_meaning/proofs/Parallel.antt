-- Two processes that do not wait for one another are parallel.
use Rattle.std.proofs.Common.{◌≡◌, ◌≢◌, ◌⊎◌, ⊎_elim, inl, inr, ℕ, [], ◌∷◌, ◌++◌, Some, refl, sym, ap, ◌∙◌, subst}
use Rattle.std.proofs.Common.{append_assoc, append-nil}
use Rattle.sp_meaning.specs.Model.{Name, Channel, Language, Condition, Absent, Works, Waits, Joins, Ended, State}
use Rattle.sp_meaning.specs.Steps.{own_part, WaitsOn, IsAlive, JoinsAt, Sound}
use Rattle.sp_meaning.proofs.Maps.{same_or_not}
use Rattle.sp_meaning.proofs.Keys.{name_test}
use Rattle.sp_meaning.specs.Disjoint.{AreParallel}
use Rattle.sp_meaning.proofs.Status.{working_lives, lives_ended, working_joins, waits_joins}
use Rattle.sp_meaning.proofs.StepInvariants.{waits_lives}

-- a is b or an ancestor of it, or the other way round, or they part
pub record Below (a b : Name) : Type 0 where
  pub rest : Name
  pub name_is : a ≡ rest ++ b

pub record Parts (a b : Name) : Type 0 where
  pub common : Name
  pub x : ℕ × ℕ
  pub y : ℕ × ℕ
  pub apart : x ≢ y
  pub after_x : Name
  pub after_y : Name
  pub a_is : a ≡ after_x ++ x ∷ common
  pub b_is : b ≡ after_y ++ y ∷ common

-- the last of a list
pub record Last (r : Name) : Type 0 where
  pub front : Name
  pub last : ℕ × ℕ
  pub name_is : r ≡ front ++ last ∷ []

pub last_of : (x : ℕ × ℕ) (r : Name) → Last (x ∷ r)
last_of x [] = record { front = []; last = x; name_is = refl }
last_of x (y ∷ r) = let l = last_of y r in record {
  front = x ∷ l.front;
  last = l.last;
  name_is = ap (λ z. x ∷ z)
      l.name_is;
}

pub moved : (u : Name) (x : ℕ × ℕ) (z : Name) → (u ++ x ∷ []) ++ z ≡ u ++ x ∷ z
moved u x z = append_assoc u (x ∷ []) z

same_pair : (x y : ℕ × ℕ) → (x ≡ y) ⊎ (x ≢ y)
same_pair x y = ⊎_elim
    (λ (e : (x ∷ []) ≡ (y ∷ [])). inl (head x y e))
    (λ (n : (x ∷ []) ≢ (y ∷ [])). inr (λ e. n (ap (λ z. z ∷ []) e)))
    (same_or_not name_test (x ∷ []) (y ∷ []))
  where
    head : (x y : ℕ × ℕ) → (x ∷ []) ≡ (y ∷ []) → x ≡ y
    head x y e = cc

pub parts : (a b : Name) → Below a b ⊎ (Below b a ⊎ Parts a b)
parts [] b = inr (inl (record { rest = b; name_is = sym (append-nil b) }))
parts (x ∷ a) b = ⊎_elim
    (λ (h : Below a b). inl (record { rest = x ∷ h.rest; name_is = ap (λ z. x ∷ z) h.name_is }))
    (⊎_elim (λ (h : Below b a). under h.rest h.name_is)
    (λ (h : Parts a b). inr (inr (record {
      common = h.common;
      x = h.x;
      y = h.y;
      apart = h.apart;
      after_x = x ∷ h.after_x;
      after_y = h.after_y;
      a_is = ap (λ z. x ∷ z) h.a_is;
      b_is = h.b_is;
    }))))
    (parts a b)
  where
    under : (r : Name) → b ≡ r ++ a → Below (x ∷ a) b ⊎ (Below b (x ∷ a) ⊎ Parts (x ∷ a) b)
    under [] e = inl (record { rest = x ∷ []; name_is = ap (λ z. x ∷ z) (sym e) })
    under (v ∷ r) e =
        let l = last_of v r in
        let b_is : b ≡ l.front ++ l.last ∷ a = e ∙ ap (λ z. z ++ a) l.name_is ∙ moved l.front l.last a in
        ⊎_elim
        (λ (same : x ≡ l.last). inr (inl (record
        { rest = l.front; name_is = b_is ∙ ap (λ z. l.front ++ z ∷ a) (sym same) })))
        (λ (apart : x ≢ l.last). inr (inr (record {
          common = a;
          x = x;
          y = l.last;
          apart = apart;
          after_x = [];
          after_y = l.front;
          a_is = refl;
          b_is = b_is;
        })))
        (same_pair x l.last)

pub joins_lives : {O V T : Type 0} (k i : ℕ) (c : Condition O V T) → JoinsAt k i c → IsAlive c
joins_lives k i Absent h = h
joins_lives k i (Works o) h = tt
joins_lives k i (Waits w) h = tt
joins_lives k i (Joins m n o) h = tt
joins_lives k i Ended h = h

pub one_fork : {O V T : Type 0} (k i m j : ℕ) (c : Condition O V T) → JoinsAt k i c → JoinsAt m j c → k ≡ m
one_fork k i m j (Joins n x o) h g = sym h.0 ∙ g.0
one_fork _ _ _ _ _ h _ = absurd h

-- each ancestor of a process that lives joins, and so lives
pub ancestors_live : {L : Language} (s : State L) → Sound s → (u : Name) (z : Name) → IsAlive (s.condition (u ++ z))
    → IsAlive (s.condition z)
ancestors_live s sound [] z l = l
ancestors_live s sound (x ∷ u) z l = ancestors_live s sound u z
    (joins_lives x.0 x.1 (s.condition (u ++ z)) (sound.joined (u ++ z) x.0 x.1 l))

-- p works, or waits for a message
abbrev pub IsAlone : {L : Language} → State L → Name → Type 0
IsAlone {L} s p = ((own : L.Own) × (own_part s p ≡ Some own)) ⊎ ((c : Channel) × WaitsOn c (s.condition p))

pub alone_lives : {L : Language} (s : State L) (p : Name) → IsAlone s p → IsAlive (s.condition p)
alone_lives s p h = ⊎_elim (λ w. working_lives s.condition p (s.condition p) w.0 w.1)
    (λ w. waits_lives w.0 (s.condition p) w.1) h

pub alone_childless : {L : Language} (s : State L) (p : Name) (k i : ℕ) → IsAlone s p
    → IsAlive (s.condition ((k, i) ∷ p))
    → JoinsAt k i (s.condition p) → ⊥
alone_childless s p k i h l j = ⊎_elim
    (λ w. lives_ended (s.condition ((k, i) ∷ p)) l (working_joins s.condition p (s.condition p) w.0 k i w.1 j))
    (λ w. waits_joins w.0 k i (s.condition p) w.1 j) h

pub not_above : {L : Language} (s : State L) (a b : Name) → Sound s → IsAlone s b → IsAlive (s.condition a) → a ≢ b
    → Below a b → ⊥
not_above {L} s a b sound alone lives apart h = over h.rest h.name_is
  where
    over : (r : Name) → a ≡ r ++ b → ⊥
    over [] e = apart e
    over (v ∷ r) e =
        let l = last_of v r in
        let a_is : a ≡ l.front ++ l.last ∷ b = e ∙ ap (λ z. z ++ b) l.name_is ∙ moved l.front l.last b in
        let child : IsAlive (s.condition (l.last ∷ b)) =
        ancestors_live s sound l.front (l.last ∷ b) (subst (λ z. IsAlive (s.condition z)) a_is lives) in
        alone_childless s b (l.last).0 (l.last).1 alone child (sound.joined b (l.last).0 (l.last).1 child)

pub parallel : {L : Language} (s : State L) (a b : Name) → Sound s → IsAlone s a → IsAlone s b → a ≢ b → AreParallel a b
parallel s a b sound one other apart = ⊎_elim
    (λ (h : Below a b). absurd (not_above s a b sound other (alone_lives s a one) apart h))
    (⊎_elim
    (λ (h : Below b a). absurd (not_above s b a sound one (alone_lives s b other) (λ e. apart (sym e)) h))
    (λ (h : Parts a b).
    let ja = sound.joined h.common (h.x).0 (h.x).1
    (ancestors_live s sound h.after_x (h.x ∷ h.common)
    (subst (λ z. IsAlive (s.condition z)) h.a_is (alone_lives s a one))) in
    let jb = sound.joined h.common (h.y).0 (h.y).1
    (ancestors_live s sound h.after_y (h.y ∷ h.common)
    (subst (λ z. IsAlive (s.condition z)) h.b_is (alone_lives s b other))) in
    let fork : (h.x).0 ≡ (h.y).0 = one_fork (h.x).0 (h.x).1 (h.y).0 (h.y).1 (s.condition h.common) ja jb in
    record {
      common = h.common;
      fork = (h.x).0;
      first = (h.x).1;
      second = (h.y).1;
      apart = λ e. h.apart (λ i. (fork i, e i));
      after_one = h.after_x;
      after_other = h.after_y;
      a_is = h.a_is;
      b_is = h.b_is ∙ ap (λ k. h.after_y ++ (k, (h.y).1) ∷ h.common) (sym fork);
    }))
    (parts a b)
