-- All of this belongs to what the program promises (docs/promise.txt).
-- Disjoint programs: in no schedule does a process write what a parallel one uses. The promise of a program without
-- interference is said by it, in the words of the model and of no rule.
use Rattle.std.specs.Prelude.{◌≡◌, ◌≢◌, ◌⊎◌, ℕ, List, [], ◌∷◌, ◌++◌, Some}
use Rattle.sp_meaning.specs.Model.{Name, Totals, Language, Act, Moves, Opens, Offering}
use Rattle.sp_meaning.specs.Model.{Payload}
use Rattle.sp_meaning.specs.Model.{Message, Takes, Waits, State}
use Rattle.sp_meaning.specs.Steps.{ActOf, OfferOf, own_part, message, step, process_system}
use Rattle.sp_meaning.specs.Schedules.{ScheduleLeads}

-- after a common beginning, they go on with the same fork and different children. (The newest step stands first)
pub record AreParallel (a b : Name) : Type 0 where
  pub common : Name
  pub fork : ℕ
  pub first : ℕ
  pub second : ℕ
  pub apart : first ≢ second
  pub after_one : Name
  pub after_other : Name
  pub a_is : a ≡ after_one ++ (fork, first) ∷ common
  pub b_is : b ≡ after_other ++ (fork, second) ∷ common

-- the location is written
abbrev pub IsWrittenIn : {M V : Type 0} → List (M × V) → M → Type 0
IsWrittenIn [] l = ⊥
IsWrittenIn (w ∷ ws) l = (w.0 ≡ l) ⊎ IsWrittenIn ws l

-- an assignment that is no message
abbrev pub Assigns : {O M V T : Type 0} → Act O M V T → M → Type 0
Assigns (Moves o ws) l = IsWrittenIn ws l
Assigns (Opens o ws) l = IsWrittenIn ws l
Assigns _ _ = ⊥

-- who receives, of p that offers this and of z that waits
abbrev pub receiver : {V T : Type 0} → Payload V T → Name → Name → Name
receiver (Message v) p z = z
receiver (Takes t) p z = p

-- the step of this offer puts a message there
pub record Delivers {L : Language} (s : State L) (o : OfferOf L) (l : L.Loc) : Type 0 where
  pub partner : Name
  pub pends : s.pending o.channel ≡ Some partner
  pub its : OfferOf L
  pub waits : s.condition partner ≡ Waits its
  pub passes : L.Target × L.Value
  pub message_is : message o.payload its.payload ≡ Some passes
  pub there : L.place passes.0 ≡ l

-- p's step at s assigns a message to l, which counts as a write of the receiver
pub record Receiving {L : Language} (s : State L) (p : Name) (a : ActOf L) (who : Name) (l : L.Loc) : Type 0 where
  pub offer : OfferOf L
  pub offer_is : a ≡ Offering offer
  pub goes : Delivers s offer l
  pub who_is : who ≡ receiver offer.payload p goes.partner

-- in the step of p at s, who writes l
abbrev pub WritesIn : {L : Language} → State L → Name → L.Own → Name → L.Loc → Type 0
WritesIn {L} s p own who l = ((who ≡ p) × Assigns (L.next own s.store) l) ⊎ Receiving s p (L.next own s.store) who l

-- in the step of p at s, who reads or writes l
abbrev pub AccessesIn : {L : Language} → State L → Name → L.Own → Name → L.Loc → Type 0
AccessesIn {L} s p own who l = ((who ≡ p) × (L.touches own s.store l)) ⊎ WritesIn s p own who l

-- somewhere along the schedule from s
abbrev pub Happens : {L : Language} → Totals → (State L → Name → L.Own → Type 0) → State L → List Name → Type 0
Happens limits it s [] = ⊥
Happens {L} limits it s (p ∷ ps) = ((own : L.Own) × (own_part s p ≡ Some own) × it s p own)
    ⊎ ((m : State L) × (step limits s p ≡ Some m) × Happens limits it m ps)

-- from this opening state no schedule has a process write what a parallel one reads or writes
abbrev pub IsDisjoint : (L : Language) → Totals → State L → Type 0
IsDisjoint L limits s = (ps : List Name) (t : State L) → ScheduleLeads (process_system L limits) s ps t → (a b : Name)
    → AreParallel a b → (l : L.Loc)
    → Happens limits (λ u p own. WritesIn u p own a l) s ps → Happens limits (λ u p own. AccessesIn u p own b l) s ps
    → ⊥
