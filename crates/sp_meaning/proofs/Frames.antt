-- What a step changes, and that all else stays.
use Rattle.std.proofs.Common.{◌≡◌, ◌≢◌, ◌⊎◌, inl, inr, ℕ, suc, ◌+◌, ◌<◌, true, false, cond, ◌==◌, List, [], ◌∷◌, length}
use Rattle.std.proofs.Common.{Option, Some, None, refl, sym, ◌∙◌, subst, arith}
use Rattle.sp_meaning.specs.Maps.{IsTest}
use Rattle.sp_meaning.specs.Model.{Name, Channel, Language, Act, Moves, Opens, Forks, Offering, EndsProcess, MeetsFault}
use Rattle.sp_meaning.specs.Model.{Waits, State, Change, Becomes, Forked, WritesLocation, Pends}
use Rattle.sp_meaning.specs.Model.{AddsTotals}
use Rattle.sp_meaning.specs.Model.{Faults, with_change, with_changes}
use Rattle.sp_meaning.specs.Steps.{ActOf, OfferOf, ConditionOf, ActOutcome, Advances, Faulty, write_changes}
use Rattle.sp_meaning.specs.Steps.{birth_changes, message}
use Rattle.sp_meaning.specs.Steps.{meeting_changes, handover_outcome, meeting_outcome, offer_outcome, act_outcome}
use Rattle.sp_base.specs.declared.fault.Fault.TheVariants as fault
use Rattle.sp_meaning.specs.Disjoint.{IsWrittenIn, Delivers}
use Rattle.sp_meaning.proofs.Maps.{at_other}
use Rattle.sp_meaning.proofs.Keys.{name_test, channel_test}

-- the channel on which an act offers
abbrev pub IsOn : {O M V T : Type 0} → Act O M V T → Channel → Type 0
IsOn (Offering o) c = o.channel ≡ c
IsOn _ _ = ⊥

-- where an act writes, or puts a message
abbrev pub WritesTo : {L : Language} → State L → ActOf L → L.Loc → Type 0
WritesTo s (Moves o ws) l = IsWrittenIn ws l
WritesTo s (Opens o ws) l = IsWrittenIn ws l
WritesTo s (Forks o os) l = ⊥
WritesTo s (Offering o) l = Delivers s o l
WritesTo s EndsProcess l = ⊥
WritesTo s (MeetsFault f) l = ⊥

-- r is p, or whom its offer meets, or a child that it may fork
abbrev pub IsPartner : {L : Language} → State L → ActOf L → Name → Type 0
IsPartner s (Offering o) r = s.pending o.channel ≡ Some r
IsPartner _ _ _ = ⊥

abbrev pub IsChild : {L : Language} → State L → Name → ActOf L → Name → Type 0
IsChild s p (Forks o os) r = (i : ℕ) × (r ≡ (s.forks p, i) ∷ p) × (i < length os)
IsChild _ _ _ _ = ⊥

abbrev pub IsNear : {L : Language} → State L → Name → ActOf L → Name → Type 0
IsNear s p a r = (r ≡ p) ⊎ (IsPartner s a r ⊎ IsChild s p a r)

-- what p's step may change
abbrev pub IsIn : {L : Language} → State L → Name → ActOf L → Change L → Type 0
IsIn s p a (Becomes r c) = IsNear s p a r
IsIn s p a (Forked r) = r ≡ p
IsIn s p a (WritesLocation l v) = WritesTo s a l
IsIn s p a (Pends c o) = IsOn a c
IsIn s p a (AddsTotals n) = Unit
IsIn s p a (Faults q f) = ⊥

abbrev pub AllIn : {L : Language} → State L → Name → ActOf L → List (Change L) → Type 0
AllIn s p a [] = Unit
AllIn s p a (c ∷ cs) = IsIn s p a c × AllIn s p a cs

abbrev pub OutcomeIn : {L : Language} → State L → Name → ActOf L → ActOutcome L → Type 0
OutcomeIn s p a (Advances cs) = AllIn s p a cs
OutcomeIn s p a (Faulty f) = Unit

puts_in : {L : Language} (s : State L) (p : Name) (a : ActOf L) (ws : List (L.Loc × L.Value))
    → ((l : L.Loc) → IsWrittenIn ws l → WritesTo s a l) → AllIn s p a (write_changes {L = L} ws)
puts_in s p a [] h = tt
puts_in s p a (w ∷ ws) h = (h w.0 (inl refl), puts_in s p a ws (λ l k. h l (inr k)))

births_in : {L : Language} (s : State L) (p : Name) (x : L.Own) (all : List L.Own) (i : ℕ) (os : List L.Own)
    → i + length os ≡ length all → AllIn s p (Forks x all) (birth_changes {L = L} p (s.forks p) i os)
births_in s p x all i [] e = tt
births_in s p x all i (o ∷ os) e =
    let c : IsChild s p (Forks x all) ((s.forks p, i) ∷ p) = (i, refl, omega arith) in
    (inr (inr c), births_in s p x all (suc i) os (omega arith))

hands_in : {L : Language} (s : State L) (p : Name) (o : OfferOf L) (z : Name) (w : OfferOf L)
    (m : Option (L.Target × L.Value)) → s.pending o.channel ≡ Some z → s.condition z ≡ Waits w
    → message o.payload w.payload ≡ m → OutcomeIn s p (Offering o) (handover_outcome s p o z w m)
hands_in s p o z w None e c h = tt
hands_in {L} s p o z w (Some m) e c h = elim (o.kind == w.kind) as
    (λ b. OutcomeIn s p (Offering o) (cond b (Advances (meeting_changes s p o z w m)) (Faulty fault.F7))) [
      | true ↦ (
        inl refl,
        (
          inr (inl e),
          (
            refl,
            (
              record
                  { partner = z; pends = e; its = w; waits = c; passes = m; message_is = h; there = refl },
              (tt, tt),
            ),
          ),
        ),
      )
      | false ↦ tt
    ]

meets_in : {L : Language} (s : State L) (p : Name) (o : OfferOf L) (z : Name) (c : ConditionOf L)
    → s.pending o.channel ≡ Some z → s.condition z ≡ c → OutcomeIn s p (Offering o) (meeting_outcome s p o z c)
meets_in s p o z (Waits w) e h = hands_in s p o z w (message o.payload w.payload) e h refl
meets_in _ _ _ _ _ _ _ = tt

offered_in : {L : Language} (s : State L) (p : Name) (o : OfferOf L) (m : Option Name) → s.pending o.channel ≡ m
    → OutcomeIn s p (Offering o) (offer_outcome s p o m)
offered_in s p o None e = (inl refl, (refl, (tt, tt)))
offered_in s p o (Some z) e = meets_in s p o z (s.condition z) e refl

acts_in : {L : Language} (s : State L) (p : Name) (a : ActOf L) → OutcomeIn s p a (act_outcome s p a)
acts_in s p (Moves o ws) = (inl refl, puts_in s p (Moves o ws) ws (λ l h. h))
acts_in s p (Opens o ws) = (inl refl, (tt, puts_in s p (Opens o ws) ws (λ l h. h)))
acts_in s p (Forks o os) = (inl refl, (refl, (tt, births_in s p o os 0 os (omega arith))))
acts_in s p (Offering o) = offered_in s p o (s.pending o.channel) refl
acts_in s p EndsProcess = (inl refl, tt)
acts_in s p (MeetsFault f) = tt

-- a step's changes are of its own parts
pub all_in : {L : Language} (s : State L) (p : Name) (a : ActOf L) (cs : List (Change L))
    → act_outcome s p a ≡ Advances cs
    → AllIn s p a cs
all_in s p a cs e = subst (OutcomeIn s p a) e (acts_in s p a)

-- The frames: s is the state in which p steps, t one in which some of its changes are made
module _ {L : Language} (s : State L) (p : Name) (a : ActOf L) where
  pub condition_frame : (r : Name) → (IsNear s p a r → ⊥) → (cs : List (Change L)) (t : State L) → AllIn s p a cs
      → (with_changes cs t).condition r ≡ t.condition r
  condition_frame r out [] t h = refl
  condition_frame r out (Becomes q c ∷ cs) t h = condition_frame r out cs (with_change (Becomes q c) t) h.1
      ∙ at_other name_test t.condition q r c (λ e. out (subst (IsNear s p a) e h.0))
  condition_frame r out (c ∷ cs) t h = condition_frame r out cs (with_change c t) h.1

  pub forks_frame : (r : Name) → r ≢ p → (cs : List (Change L)) (t : State L) → AllIn s p a cs
      → (with_changes cs t).forks r ≡ t.forks r
  forks_frame r out [] t h = refl
  forks_frame r out (Forked q ∷ cs) t h = forks_frame r out cs (with_change (Forked q) t) h.1
      ∙ at_other name_test t.forks q r (t.forks q + 1) (λ e. out (sym e ∙ h.0))
  forks_frame r out (c ∷ cs) t h = forks_frame r out cs (with_change c t) h.1

  pub pending_frame : (d : Channel) → (IsOn a d → ⊥) → (cs : List (Change L)) (t : State L) → AllIn s p a cs
      → (with_changes cs t).pending d ≡ t.pending d
  pending_frame d out [] t h = refl
  pending_frame d out (Pends c o ∷ cs) t h = pending_frame d out cs (with_change (Pends c o) t) h.1
      ∙ at_other channel_test t.pending c d o (λ e. out (subst (IsOn a) e h.0))
  pending_frame d out (c ∷ cs) t h = pending_frame d out cs (with_change c t) h.1

  pub fault_frame : (cs : List (Change L)) (t : State L) → AllIn s p a cs → (with_changes cs t).fault ≡ t.fault
  fault_frame [] t h = refl
  fault_frame (Faults q f ∷ cs) t h = absurd h.0
  fault_frame (c ∷ cs) t h = fault_frame cs (with_change c t) h.1

  pub store_frame : IsTest L.same_loc → (l : L.Loc) → (WritesTo s a l → ⊥) → (cs : List (Change L)) (t : State L)
      → AllIn s p a cs → (with_changes cs t).store l ≡ t.store l
  store_frame loc l out [] t h = refl
  store_frame loc l out (WritesLocation k v ∷ cs) t h =
      store_frame loc l out cs (with_change (WritesLocation k v) t) h.1
      ∙ at_other loc t.store k l v (λ e. out (subst (WritesTo s a) e h.0))
  store_frame loc l out (c ∷ cs) t h = store_frame loc l out cs (with_change c t) h.1
