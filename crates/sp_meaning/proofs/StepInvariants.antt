-- Each step keeps what is known of the state: a pending offer's process waits, unborn children are absent, and the
-- parent of a child that lives joins it.
use Rattle.std.proofs.Common.{◌≡◌, ◌≢◌, ◌⊎◌, ⊎_elim, inl, inr, ℕ, suc, ◌+◌, ◌<◌, ◌≤◌, le_refl, le_trans, Bool, true}
use Rattle.std.proofs.Common.{false, cond, List, [], ◌∷◌, length, Option, Some, None, refl, sym, ap, ◌∙◌, subst, arith}
use Rattle.std.proofs.lemmas.Option.{none-some}
use Rattle.sp_base.proofs.Facts.{same_head, same_tail}
use Rattle.sp_meaning.specs.Model.{Name, Channel, same_name, Totals, Language, Moves, Opens, Forks, Offering}
use Rattle.sp_meaning.specs.Model.{EndsProcess}
use Rattle.sp_meaning.specs.Model.{MeetsFault, Condition, Absent, Works, Waits, Joins, Ended, State, Change, Becomes}
use Rattle.sp_meaning.specs.Model.{Forked}
use Rattle.sp_meaning.specs.Model.{AddsTotals, with_change, with_changes}
use Rattle.sp_meaning.specs.Steps.{ActOf, OfferOf, ConditionOf, has_ended, Advances, birth_changes, meeting_changes}
use Rattle.sp_meaning.specs.Steps.{waiting_changes, act_outcome}
use Rattle.sp_meaning.specs.Steps.{WaitsOn, IsAlive, JoinsAt, Sound}
use Rattle.sp_meaning.proofs.Maps.{same_or_not, itself, at_other}
use Rattle.sp_meaning.proofs.Keys.{name_test, channel_test}
use Rattle.sp_meaning.proofs.Frames.{IsOn, IsPartner, IsChild, IsNear, AllIn, all_in, condition_frame, pending_frame}
use Rattle.sp_meaning.proofs.Status.{Makes, IsNotWaiting, working_stands, working_lives, child_absent, waits_absent}
use Rattle.sp_meaning.proofs.Status.{on_partner, waiting_far, waits_joins, lives_ended, working_joins}
use Rattle.sp_meaning.proofs.Meeting.{met, waited, same_changes}

-- What only grows
pub forks_grow : {L : Language} (cs : List (Change L)) (t : State L) (r : Name)
    → t.forks r ≤ (with_changes cs t).forks r
forks_grow [] t r = le_refl _
forks_grow (Forked q ∷ cs) t r = le_trans (more (same_name q r) ((name_test q r).0))
    (forks_grow cs (with_change (Forked q) t) r)
  where
    more : (b : Bool) → (b ≡ true → q ≡ r) → t.forks r ≤ cond b (t.forks q + 1) (t.forks r)
    more true h = subst (λ z. t.forks r ≤ t.forks z + 1) (sym (h refl)) (omega arith)
    more false h = le_refl _
forks_grow (c ∷ cs) t r = forks_grow cs (with_change c t) r

-- Channels
on_or_not : (L : Language) (a : ActOf L) (c : Channel) → ((o : OfferOf L) × (a ≡ Offering o) × (o.channel ≡ c))
    ⊎ (IsOn a c → ⊥)
on_or_not L (Offering o) c = ⊎_elim (λ (e : o.channel ≡ c). inl (o, refl, e)) (λ (n : o.channel ≢ c). inr n)
    (same_or_not channel_test o.channel c)
on_or_not L (Moves o ws) c = inr (λ h. h)
on_or_not L (Opens o ws) c = inr (λ h. h)
on_or_not L (Forks o os) c = inr (λ h. h)
on_or_not L EndsProcess c = inr (λ h. h)
on_or_not L (MeetsFault f) c = inr (λ h. h)

joins_absent : {O V T : Type 0} (k i : ℕ) (x : Condition O V T) → JoinsAt k i x → x ≡ Absent → ⊥
joins_absent k i x h e = subst (JoinsAt k i) e h

absent_stands : {O V T : Type 0} (x : Condition O V T) → IsNotWaiting x → x ≡ Absent → ⊥
absent_stands x h e = subst (λ (c : Condition _ _ _). IsNotWaiting c) e h

pub waits_lives : {O V T : Type 0} (c : Channel) (x : Condition O V T) → WaitsOn c x → IsAlive x
waits_lives c Absent h = h
waits_lives c (Works o) h = tt
waits_lives c (Waits w) h = tt
waits_lives c (Joins k n o) h = tt
waits_lives c Ended h = h

not_below_itself : (x : ℕ × ℕ) (p : Name) → x ∷ p ≡ p → ⊥
not_below_itself x p e = let h : suc (length p) ≡ length p = ap length e in omega (arith, h)

births_condition : {L : Language} (p : Name) (k : ℕ) (i : ℕ) (os : List L.Own) (t : State L)
    → (with_changes (birth_changes {L = L} p k i os) t).condition p ≡ t.condition p
births_condition p k i [] t = refl
births_condition {L} p k i (o ∷ os) t = births_condition {L = L} p k (suc i) os
    (with_change (Becomes ((k, i) ∷ p) (Works o)) t)
    ∙ at_other name_test t.condition ((k, i) ∷ p) p (Works o) (not_below_itself (k, i) p)

module _ {L : Language} {limits : Totals} (s : State L) (p : Name) (cs : List (Change L)) (sound : Sound s)
    (one : Makes limits s p cs) where
  abbrev act : ActOf L
  act = L.next one.own s.store

  pending_kept : (c : Channel) (z : Name) → (with_changes cs s).pending c ≡ Some z
      → WaitsOn c ((with_changes cs s).condition z)
  pending_kept c z h = ⊎_elim
      (λ (on : (o : OfferOf L) × (act ≡ Offering o) × (o.channel ≡ c)).
      let o = on.0 in
      let made = subst (λ x. act_outcome s p x ≡ Advances cs) on.1 one.does in
      elim (s.pending o.channel) as (λ m. s.pending o.channel ≡ m → WaitsOn c ((with_changes cs s).condition z)) [
        | None ↦ λ e.
            let w = waited s p o cs e made in
            let t = with_changes (waiting_changes s p o) s in
            let here : t.pending c ≡ Some p = rw ((channel_test o.channel c).1 on.2) refl in
            let z_is : p ≡ z = some_is (sym here) (subst (λ x. (with_changes x s).pending c ≡ Some z) w h) in
            let at : t.condition p ≡ Waits o = rw (itself name_test p) refl in
            let good : WaitsOn c (t.condition p) = subst (λ (x : ConditionOf L). WaitsOn c x) (sym at) on.2 in
            subst (λ x. WaitsOn c ((with_changes x s).condition z)) (sym w)
            (subst (λ x. WaitsOn c (t.condition x)) z_is good)
        | Some y ↦ λ e.
            let w = met s p o y cs e made in
            let t = with_changes (meeting_changes s p o y w.its w.passes) s in
            let here : t.pending c ≡ None = rw ((channel_test o.channel c).1 on.2) refl in
            let k : t.pending c ≡ Some z = subst (λ x. (with_changes x s).pending c ≡ Some z) w.made h in
            absurd (none-some _ (sym here ∙ k))
      ] refl)
      (λ (off : IsOn act c → ⊥).
      let k : s.pending c ≡ Some z = sym (pending_frame s p act c off cs s (all_in s p act cs one.does)) ∙ h in
      let w = sound.waits c z k in
      let f = condition_frame s p act z (waiting_far s p cs sound one c z w off) cs s (all_in s p act cs one.does) in
      subst (λ (x : ConditionOf L). WaitsOn c x) (sym f) w)
      (on_or_not L act c)
    where
      some_is : {A : Type 0} {o : Option A} {x y : A} → Some x ≡ o → o ≡ Some y → x ≡ y
      some_is a b = cc

  forked_later : (a : ActOf L) → act_outcome s p a ≡ Advances cs → (z : Name) (k i : ℕ) → IsChild s p a ((k, i) ∷ z)
      → k < (with_changes cs s).forks z
  forked_later (Forks o os) does z k i h =
      let list : cs ≡ (Becomes p (Joins (s.forks p) (length os) o) ∷ Forked p
      ∷ AddsTotals (record { processes = length os; channels = 0; entries = 1 }) ∷ birth_changes p (s.forks p) 0 os) =
      same_changes _ _ does in
      let k_is : k ≡ s.forks p = ap (λ (x : ℕ × ℕ). x.0) (same_head h.1) in
      let z_is : p ≡ z = sym (same_tail h.1) in
      let rest : List (Change L) = AddsTotals (record { processes = length os; channels = 0; entries = 1 })
      ∷ birth_changes p (s.forks p) 0 os in
      let t : State L = with_change (Forked p) (with_change (Becomes p (Joins (s.forks p) (length os) o)) s) in
      let here : t.forks p ≡ s.forks p + 1 = rw (itself name_test p) refl in
      let more : t.forks p ≤ (with_changes rest t).forks p = forks_grow rest t p in
      let less : k < (with_changes rest t).forks p = omega (arith, here, more, k_is) in
      subst (λ x. k < (with_changes x s).forks z) (sym list) (subst (λ x. k < (with_changes rest t).forks x) z_is less)
  forked_later _ _ _ _ _ h = absurd h

  unborn_kept : (z : Name) (k i : ℕ) → (with_changes cs s).forks z ≤ k → (with_changes cs s).condition ((k, i) ∷ z)
      ≡ Absent
  unborn_kept z k i h =
      let r : Name = (k, i) ∷ z in
      let none : s.condition r ≡ Absent = sound.unborn z k i (le_trans (forks_grow cs s z) h) in
      condition_frame s p act r (⊎_elim
      (λ (e : r ≡ p). absent_stands (s.condition p) (working_stands s.condition p (s.condition p) one.own one.works)
      (ap s.condition (sym e) ∙ none))
      (⊎_elim
      (λ (e : IsPartner s act r). let w = on_partner s p cs sound one act r e in
      waits_absent w.0 (s.condition r) w.2 none)
      (λ (e : IsChild s p act r). let l = forked_later act one.does z k i e in omega (arith, l, h))))
      cs s (all_in s p act cs one.does) ∙ none

  near_lives : (q : Name) → IsNear s p act q → IsAlive (s.condition q) ⊎ IsChild s p act q
  near_lives q n = ⊎_elim
      (λ (e : q ≡ p). inl (subst (λ x. IsAlive (s.condition x)) (sym e)
      (working_lives s.condition p (s.condition p) one.own one.works)))
      (⊎_elim (λ (e : IsPartner s act q). let w = on_partner s p cs sound one act q e in
      inl (waits_lives w.0 (s.condition q) w.2)) (λ (e : IsChild s p act q). inr e))
      n

  lives_from : (es : List (Change L)) (t : State L) → AllIn s p act es
      → ((r : Name) → IsAlive (t.condition r) → IsAlive (s.condition r) ⊎ IsChild s p act r) → (r : Name)
      → IsAlive ((with_changes es t).condition r) → IsAlive (s.condition r) ⊎ IsChild s p act r
  lives_from [] t h k r l = k r l
  lives_from (Becomes q c ∷ es) t h k r l = lives_from es (with_change (Becomes q c) t) h.1 (λ x y. ⊎_elim
      (λ (e : q ≡ x). near_lives x (subst (IsNear s p act) e h.0))
      (λ (n : q ≢ x). k x (subst (λ (z : ConditionOf L). IsAlive z) (at_other name_test t.condition q x c n) y))
      (same_or_not name_test q x)) r l
  lives_from (c ∷ es) t h k r l = lives_from es (with_change c t) h.1 k r l

  child_joined : (a : ActOf L) → act_outcome s p a ≡ Advances cs → (z : Name) (k i : ℕ) → IsChild s p a ((k, i) ∷ z)
      → JoinsAt k i ((with_changes cs s).condition z)
  child_joined (Forks o os) does z k i h =
      let list : cs ≡ (Becomes p (Joins (s.forks p) (length os) o) ∷ Forked p
      ∷ AddsTotals (record { processes = length os; channels = 0; entries = 1 }) ∷ birth_changes p (s.forks p) 0 os) =
      same_changes _ _ does in
      let k_is : s.forks p ≡ k = sym (ap (λ (x : ℕ × ℕ). x.0) (same_head h.1)) in
      let i_is : i ≡ h.0 = ap (λ (x : ℕ × ℕ). x.1) (same_head h.1) in
      let z_is : p ≡ z = sym (same_tail h.1) in
      let t : State L = with_change (AddsTotals (record { processes = length os; channels = 0; entries = 1 }))
      (with_change (Forked p) (with_change (Becomes p (Joins (s.forks p) (length os) o)) s)) in
      let there : t.condition p ≡ Joins (s.forks p) (length os) o = rw (itself name_test p) refl in
      let at : (with_changes (birth_changes p (s.forks p) 0 os) t).condition p ≡ Joins (s.forks p) (length os) o =
      births_condition p (s.forks p) 0 os t ∙ there in
      let less : i < length os = subst (λ x. x < length os) (sym i_is) h.2 in
      let good : JoinsAt k i ((with_changes (birth_changes p (s.forks p) 0 os) t).condition p) =
      subst (λ (x : ConditionOf L). JoinsAt k i x) (sym at) (k_is, less) in
      subst (λ x. JoinsAt k i ((with_changes x s).condition z)) (sym list)
      (subst (λ x. JoinsAt k i ((with_changes (birth_changes p (s.forks p) 0 os) t).condition x)) z_is good)
  child_joined _ _ _ _ _ h = absurd h

  joined_kept : (z : Name) (k i : ℕ) → IsAlive ((with_changes cs s).condition ((k, i) ∷ z))
      → JoinsAt k i ((with_changes cs s).condition z)
  joined_kept z k i l = ⊎_elim
      (λ (before : IsAlive (s.condition ((k, i) ∷ z))).
      let j = sound.joined z k i before in
      let f = condition_frame s p act z (⊎_elim
      (λ (e : z ≡ p).
      let ended = working_joins s.condition p (s.condition p) one.own k i one.works
      (subst (λ x. JoinsAt k i (s.condition x)) e j) in
      lives_ended (s.condition ((k, i) ∷ z)) before
      (subst (λ x. has_ended (s.condition ((k, i) ∷ x)) ≡ true) (sym e) ended))
      (⊎_elim
      (λ (e : IsPartner s act z). let w = on_partner s p cs sound one act z e in
      waits_joins w.0 k i (s.condition z) w.2 j)
      (λ (e : IsChild s p act z). joins_absent k i (s.condition z) j (child_absent s p sound act z e))))
      cs s (all_in s p act cs one.does) in
      subst (λ (x : ConditionOf L). JoinsAt k i x) (sym f) j)
      (λ (child : IsChild s p act ((k, i) ∷ z)). child_joined act one.does z k i child)
      (lives_from cs s (all_in s p act cs one.does) (λ r y. inl y) ((k, i) ∷ z) l)

  pub sound_kept : Sound (with_changes cs s)
  sound_kept = record { waits = pending_kept; unborn = unborn_kept; joined = joined_kept }
