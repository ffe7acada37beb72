-- What each condition of a process says of the others: who is running, who waits, whom a step meets.
use Rattle.std.proofs.Common.{◌≡◌, ◌≢◌, ◌⊎◌, ⊎_elim, inl, inr, ℕ, zero, suc, ◌<◌, le_refl, true, false, cond, List, ◌∷◌}
use Rattle.std.proofs.Common.{Some, None, nat_lt, refl, sym, ap, ◌∙◌, subst, arith}
use Rattle.std.proofs.lemmas.Bool.{and_from}
use Rattle.sp_base.proofs.Facts.{first_true, second_true}
use Rattle.sp_meaning.specs.Model.{Name, Channel, Totals, Language, Moves, Opens, Forks, Offering, EndsProcess}
use Rattle.sp_meaning.specs.Model.{MeetsFault}
use Rattle.sp_meaning.specs.Model.{Condition, Absent, Works, Waits, Joins, Ended, State, Change, with_changes}
use Rattle.sp_meaning.specs.Steps.{ActOf, ConditionOf, has_ended, all_ended, own_part_in, own_part, Advances}
use Rattle.sp_meaning.specs.Steps.{act_outcome}
use Rattle.sp_meaning.specs.Steps.{limit_fault, cost, WaitsOn, IsAlive, JoinsAt, Sound}
use Rattle.sp_meaning.proofs.Frames.{IsOn, IsPartner, IsChild, IsNear, AllIn, all_in, condition_frame}

-- p can step in s, and does so without a fault, by these changes
pub record Makes {L : Language} (limits : Totals) (s : State L) (p : Name) (cs : List (Change L)) : Type 0 where
  pub own : L.Own
  pub works : own_part s p ≡ Some own
  pub within : limit_fault limits s.totals (cost (L.next own s.store)) ≡ None
  pub does : act_outcome s p (L.next own s.store) ≡ Advances cs

-- r is the parent of p
abbrev pub IsParent : Name → Name → Type 0
IsParent r p = (a : ℕ × ℕ) × (p ≡ a ∷ r)

-- it is there, and waits for no message
abbrev pub IsNotWaiting : {O V T : Type 0} → Condition O V T → Type 0
IsNotWaiting Absent = ⊥
IsNotWaiting (Works o) = Unit
IsNotWaiting (Waits w) = ⊥
IsNotWaiting (Joins k n o) = Unit
IsNotWaiting Ended = Unit

pub waits_stands : {O V T : Type 0} (c : Channel) (x : Condition O V T) → WaitsOn c x → IsNotWaiting x → ⊥
waits_stands c (Waits w) h k = k
waits_stands _ _ h _ = h

pub working_stands : {O V T : Type 0} (m : Name → Condition O V T) (p : Name) (x : Condition O V T) (own : O)
    → own_part_in m p x ≡ Some own → IsNotWaiting x
working_stands m p Absent own h = absurd (cc h)
working_stands m p (Works o) own h = tt
working_stands m p (Waits w) own h = absurd (cc h)
working_stands m p (Joins k n o) own h = tt
working_stands m p Ended own h = tt

pub working_lives : {O V T : Type 0} (m : Name → Condition O V T) (p : Name) (x : Condition O V T) (own : O)
    → own_part_in m p x ≡ Some own → IsAlive x
working_lives m p Absent own h = absurd (cc h)
working_lives m p (Works o) own h = tt
working_lives m p (Waits w) own h = tt
working_lives m p (Joins k n o) own h = tt
working_lives m p Ended own h = absurd (cc h)

pub lives_ended : {O V T : Type 0} (x : Condition O V T) → IsAlive x → has_ended x ≡ true → ⊥
lives_ended Absent h e = h
lives_ended (Works o) h e = cc e
lives_ended (Waits w) h e = cc e
lives_ended (Joins k n o) h e = cc e
lives_ended Ended h e = h

pub ended_stands : {O V T : Type 0} (x : Condition O V T) → has_ended x ≡ true → IsNotWaiting x
ended_stands Absent e = absurd (cc e)
ended_stands (Works o) e = tt
ended_stands (Waits w) e = absurd (cc e)
ended_stands (Joins k n o) e = tt
ended_stands Ended e = tt

ended_at : {O V T : Type 0} (m : Name → Condition O V T) (q : Name) (k n i : ℕ) → all_ended m q k n ≡ true → i < n
    → has_ended (m ((k, i) ∷ q)) ≡ true
ended_at m q k zero i h lt = absurd (omega arith)
ended_at m q k (suc n) i h lt = ⊎_elim
    (λ (is : n ≡ i). subst (λ j. has_ended (m ((k, j) ∷ q)) ≡ true) is
    (first_true (has_ended (m ((k, n) ∷ q))) (all_ended m q k n) h))
    (λ (less : i < n). ended_at m q k n i (second_true (has_ended (m ((k, n) ∷ q))) (all_ended m q k n) h) less)
    (last n i lt)
  where
    last : (n i : ℕ) → i < suc n → (n ≡ i) ⊎ (i < n)
    last n i lt = elim (nat_lt i n) as (λ b. nat_lt i n ≡ b → (n ≡ i) ⊎ (i < n))
        [ true ↦ λ e. inr (grind (arith, e)) | false ↦ λ e. inl (grind (arith, e)) ] refl

-- a process whose children have ended is joined by none that lives
pub working_joins : {O V T : Type 0} (m : Name → Condition O V T) (q : Name) (x : Condition O V T) (own : O) (k i : ℕ)
    → own_part_in m q x ≡ Some own → JoinsAt k i x → has_ended (m ((k, i) ∷ q)) ≡ true
working_joins m q (Joins k' n o) own k i h j =
    ended_at m q k n i (elim (all_ended m q k' n) as
    (λ b. all_ended m q k' n ≡ b → cond b (Some o) None ≡ Some own → all_ended m q k n ≡ true) [
      | true ↦ λ e f. subst (λ z. all_ended m q z n ≡ true) j.0 e
      | false ↦ λ e f. absurd (cc f)
    ] refl h) j.1
working_joins _ _ _ _ _ _ _ j = absurd j

all_ended_same : {O V T : Type 0} (m l : Name → Condition O V T) (q : Name) (k n : ℕ)
    → ((i : ℕ) → has_ended (m ((k, i) ∷ q)) ≡ true → l ((k, i) ∷ q) ≡ m ((k, i) ∷ q)) → all_ended m q k n ≡ true
    → all_ended l q k n ≡ true
all_ended_same m l q k zero h e = refl
all_ended_same m l q k (suc n) h e =
    let one = first_true (has_ended (m ((k, n) ∷ q))) (all_ended m q k n) e in
    and_from (has_ended (l ((k, n) ∷ q))) (all_ended l q k n) (rw (h n one) one)
    (all_ended_same m l q k n h (second_true (has_ended (m ((k, n) ∷ q))) (all_ended m q k n) e))

pub working_same : {O V T : Type 0} (m l : Name → Condition O V T) (q : Name) (x : Condition O V T) (own : O)
    → ((k i : ℕ) → has_ended (m ((k, i) ∷ q)) ≡ true → l ((k, i) ∷ q) ≡ m ((k, i) ∷ q)) → own_part_in m q x ≡ Some own
    → own_part_in l q x ≡ Some own
working_same m l q (Joins k n o) own h e = elim (all_ended m q k n) as
    (λ b. all_ended m q k n ≡ b → cond b (Some o) None ≡ Some own → cond (all_ended l q k n) (Some o) None ≡ Some own) [
      | true ↦ λ a f. rw (all_ended_same m l q k n (h k) a) f
      | false ↦ λ a f. absurd (cc f)
    ] refl e
working_same _ _ _ _ _ _ e = e

module _ {L : Language} (s : State L) (p : Name) where
  pub child_absent : Sound s → (a : ActOf L) (r : Name) → IsChild s p a r → s.condition r ≡ Absent
  child_absent sound (Forks o os) r h = ap s.condition h.1 ∙ sound.unborn p (s.forks p) h.0 (le_refl _)
  child_absent _ _ _ h = absurd h

  pub child_below : (a : ActOf L) (r : Name) → IsChild s p a r → (x : ℕ × ℕ) × (r ≡ x ∷ p)
  child_below (Forks o os) r h = ((s.forks p, h.0), h.1)
  child_below _ _ h = absurd h

  pub near_stands : Sound s → (a : ActOf L) (r : Name) → r ≢ p → IsNear s p a r → IsNotWaiting (s.condition r) → ⊥
  near_stands sound a r apart n st = ⊎_elim apart
      (⊎_elim (λ (h : IsPartner s a r). partner a h)
      (λ (h : IsChild s p a r). subst (λ (c : ConditionOf L). IsNotWaiting c) (child_absent sound a r h) st)) n
    where
      partner : (a : ActOf L) → IsPartner s a r → ⊥
      partner (Offering o) h = waits_stands o.channel (s.condition r) (sound.waits o.channel r h) st
      partner (Moves o ws) h = h
      partner (Opens o ws) h = h
      partner (Forks o os) h = h
      partner EndsProcess h = h
      partner (MeetsFault f) h = h

pub waits_joins : {O V T : Type 0} (c : Channel) (k i : ℕ) (x : Condition O V T) → WaitsOn c x → JoinsAt k i x → ⊥
waits_joins c k i (Waits w) h j = j
waits_joins _ _ _ _ h _ = h

pub waits_one : {O V T : Type 0} (c d : Channel) (x : Condition O V T) → WaitsOn c x → WaitsOn d x → c ≡ d
waits_one c d (Waits w) h k = sym h ∙ k
waits_one _ _ _ h _ = absurd h

pub waits_absent : {O V T : Type 0} (c : Channel) (x : Condition O V T) → WaitsOn c x → x ≡ Absent → ⊥
waits_absent c x h e = subst (WaitsOn c) e h

-- What p changes is not of q, nor of whom q meets
module _ {L : Language} {limits : Totals} (s : State L) (p : Name) (cs : List (Change L)) (sound : Sound s)
    (does : Makes limits s p cs) where
  abbrev pub act_of : ActOf L
  act_of = L.next does.own s.store

  pub ins : AllIn s p act_of cs
  ins = all_in s p act_of cs does.does

  pub far : (q : Name) → q ≢ p → IsNotWaiting (s.condition q) → IsNear s p act_of q → ⊥
  far q apart st n = near_stands s p sound act_of q apart n st

  pub keeps_condition : (q : Name) → q ≢ p → IsNotWaiting (s.condition q) → (with_changes cs s).condition q
      ≡ s.condition q
  keeps_condition q apart st = condition_frame s p act_of q (far q apart st) cs s ins

  pub keeps_working : (q : Name) (own : L.Own) → q ≢ p → own_part s q ≡ Some own → own_part (with_changes cs s) q
      ≡ Some own
  keeps_working q own apart w =
      let e = keeps_condition q apart (working_stands s.condition q (s.condition q) own w) in
      rw e (working_same s.condition (with_changes cs s).condition q (s.condition q) own (λ k i ended.
      keeps_condition ((k, i) ∷ q) (λ e. lives_ended (s.condition p)
      (working_lives s.condition p (s.condition p) does.own does.works)
      (subst (λ z. has_ended (s.condition z) ≡ true) e ended)) (ended_stands (s.condition ((k, i) ∷ q)) ended)) w)

  joins : (q : Name) (h : IsParent q p) → JoinsAt (h.0).0 (h.0).1 (s.condition q)
  joins q h = sound.joined q (h.0).0 (h.0).1
      (subst (λ z. IsAlive (s.condition z)) h.1 (working_lives s.condition p (s.condition p) does.own does.works))

  pub working_no_parent : (q : Name) (own : L.Own) → own_part s q ≡ Some own → IsParent q p → ⊥
  working_no_parent q own w h =
      let e = working_joins s.condition q (s.condition q) own (h.0).0 (h.0).1 w (joins q h) in
      lives_ended (s.condition p) (working_lives s.condition p (s.condition p) does.own does.works)
      (subst (λ z. has_ended (s.condition z) ≡ true) (sym h.1) e)

  pub waiting_no_parent : (c : Channel) (q : Name) → WaitsOn c (s.condition q) → IsParent q p → ⊥
  waiting_no_parent c q w h = waits_joins c (h.0).0 (h.0).1 (s.condition q) w (joins q h)

  pub on_partner : (a : ActOf L) (z : Name) → IsPartner s a z → (c : Channel) × IsOn a c × WaitsOn c (s.condition z)
  on_partner (Offering o) z h = (o.channel, refl, sound.waits o.channel z h)
  on_partner _ _ h = absurd h

  pub waiting_far : (c : Channel) (z : Name) → WaitsOn c (s.condition z) → (IsOn act_of c → ⊥) → IsNear s p act_of z → ⊥
  waiting_far c z w off n = ⊎_elim
      (λ (e : z ≡ p). waits_stands c (s.condition z) w
      (subst (λ r. IsNotWaiting (s.condition r)) (sym e)
      (working_stands s.condition p (s.condition p) does.own does.works)))
      (⊎_elim
      (λ (h : IsPartner s act_of z). let k = on_partner act_of z h in
      off (subst (IsOn act_of) (waits_one k.0 c (s.condition z) k.2 w) k.1))
      (λ (h : IsChild s p act_of z). waits_absent c (s.condition z) w (child_absent s p sound act_of z h)))
      n
