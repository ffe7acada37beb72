-- A good step leaves what another running process does next, and what it knows; and who can step only after it has
-- learned of it.
use Rattle.std.proofs.Common.{◌≡◌, ◌≢◌, ◌⊎◌, ⊎_elim, inl, inr, ℕ, zero, suc, ◌+◌, ◌<◌, ◌≤◌, Bool, true, false, cond}
use Rattle.std.proofs.Common.{◌==◌, List, [], ◌∷◌, ◌++◌, length, Option, Some, None, nat_lt, refl, sym, ap, ◌∙◌}
use Rattle.std.proofs.Common.{subst, arith}
use Rattle.std.proofs.Common.{zero-add}
use Rattle.std.proofs.lemmas.Bool.{false≢true, or_left, or_right}
use Rattle.std.proofs.lemmas.Option.{none-some, same_Some}
use Rattle.sp_base.specs.declared.fault.Fault.TheVariants as fault
use Rattle.sp_base.proofs.Facts.{nil_is_not_cons}
use Rattle.sp_meaning.specs.Maps.{at_key}
use Rattle.sp_meaning.specs.EffectTree.{EffectTree, Leaf, ReadThen, WriteThen, TreeTouches, and_then}
use Rattle.sp_meaning.specs.Model.{Name, Channel, same_name, Totals, Language, Act, Moves, Opens, Forks, Offering}
use Rattle.sp_meaning.specs.Model.{EndsProcess}
use Rattle.sp_meaning.specs.Model.{MeetsFault, Waits, State, Change, Becomes, with_change}
use Rattle.sp_meaning.specs.Model.{with_changes}
use Rattle.sp_meaning.specs.Steps.{ActOf, OfferOf, ConditionOf, has_ended, own_part, ActOutcome, Advances, Faulty}
use Rattle.sp_meaning.specs.Steps.{write_changes}
use Rattle.sp_meaning.specs.Steps.{birth_changes, way_of, message, meeting_changes, handover_outcome, meeting_outcome}
use Rattle.sp_meaning.specs.Steps.{offer_outcome, act_outcome, step_outcome, result_of}
use Rattle.sp_meaning.specs.Steps.{step_with, step, HasNoFault, Sound}
use Rattle.sp_meaning.specs.Disjoint.{WritesIn, AccessesIn}
use Rattle.sp_meaning.specs.LocalWork.{RunInput, Loc, Process, same_loc}
use Rattle.sp_meaning.specs.SuperPascal.{superpascal, action_of, is_pausing, pauses_next}
use Rattle.sp_meaning.specs.Runs.{StateOf, start, total_limits, IsDisjointRun}
use Rattle.sp_meaning.proofs.Maps.{same_or_not, itself}
use Rattle.sp_meaning.proofs.Keys.{name_test}
use Rattle.sp_meaning.proofs.EffectTree.{local}
use Rattle.sp_meaning.proofs.Instance.{loc_test, superpascal_keeps}
use Rattle.sp_meaning.proofs.Frames.{IsOn, WritesTo, IsPartner, IsChild, IsNear, all_in, condition_frame, store_frame}
use Rattle.sp_meaning.proofs.Status.{Makes, waits_stands, IsNotWaiting, working_stands, working_same, far}
use Rattle.sp_meaning.proofs.Status.{keeps_working}
use Rattle.sp_meaning.proofs.Parallel.{parallel}
use Rattle.sp_race.specs.Notes.{Event, known_to_either, JudgeNotes, Note, Counts, Learns, Records, with_judge_note}
use Rattle.sp_race.specs.Notes.{with_judge_notes, next_event_of, known_after_event}
use Rattle.sp_race.specs.Notes.{same_event, notes_to_children, notes_to_parent, other_way, offer_notes, notes_of}
use Rattle.sp_race.specs.RunNotes.{WithNotes}
use Rattle.sp_race.proofs.NotesFrames.{event_test, both_right, both_kept}
use Rattle.sp_race.proofs.GoodSteps.{GoodStep, steps, no_fault_after, leads_on, happens_later, events_kept, past_kept}
use Rattle.sp_race.proofs.Partners.{TakesPart, writer, part_alone}

-- what a computation asks, it asks with another one after it
asks_then : {Loc Value A B : Type 0} (same : Loc → Loc → Bool) (t : EffectTree Loc Value A)
    (f : A → EffectTree Loc Value B)
    (m : Loc → Value) (q : Loc) → TreeTouches same t m q → TreeTouches same (and_then t f) m q
asks_then same (Leaf a) f m q h = absurd h
asks_then same (ReadThen l more) f m q h =
    ⊎_elim (λ (e : l ≡ q). inl e)
    (λ (k : TreeTouches same (more (m l)) m q). inr (asks_then same (more (m l)) f m q k)) h
asks_then same (WriteThen l v more) f m q h =
    ⊎_elim (λ (e : l ≡ q). inl e)
    (λ (k : TreeTouches same more (at_key same l v m) q). inr (asks_then same more f (at_key same l v m) q k)) h

-- the act is a local one
abbrev pub IsLocal : {O M V T : Type 0} → Act O M V T → Type 0
IsLocal (Moves o ws) = Unit {0}
IsLocal _ = ⊥

-- no change makes a process end
abbrev NoneEnds : {L : Language} → List (Change L) → Type 0
NoneEnds [] = Unit {0}
NoneEnds (Becomes p c ∷ cs) = (has_ended c ≡ false) × NoneEnds cs
NoneEnds (c ∷ cs) = NoneEnds cs

abbrev EndsNone : {L : Language} → ActOutcome L → Type 0
EndsNone (Advances cs) = NoneEnds cs
EndsNone (Faulty f) = Unit {0}

abbrev IsNoEnd : {O M V T : Type 0} → Act O M V T → Type 0
IsNoEnd EndsProcess = ⊥
IsNoEnd _ = Unit {0}

puts_none : (L : Language) (ws : List (L.Loc × L.Value)) → NoneEnds {L = L} (write_changes {L = L} ws)
puts_none L [] = tt
puts_none L (w ∷ ws) = puts_none L ws

births_none : (L : Language) (p : Name) (k i : ℕ) (os : List L.Own) → NoneEnds {L = L} (birth_changes {L = L} p k i os)
births_none L p k i [] = tt
births_none L p k i (o ∷ os) = (refl, births_none L p k (suc i) os)

module _ {L : Language} (s : State L) (p : Name) where
  hands_none : (o : OfferOf L) (z : Name) (w : OfferOf L) (m : Option (L.Target × L.Value))
      → EndsNone {L = L} (handover_outcome s p o z w m)
  hands_none o z w None = tt
  hands_none o z w (Some m) =
      elim (o.kind == w.kind) as
      (λ b. EndsNone {L = L} (cond b (Advances (meeting_changes s p o z w m)) (Faulty fault.F7))) [
        | true ↦ (refl, (refl, tt))
        | false ↦ tt
      ]

  meets_none : (o : OfferOf L) (z : Name) (c : ConditionOf L) → EndsNone {L = L} (meeting_outcome s p o z c)
  meets_none o z (Waits w) = hands_none o z w (message o.payload w.payload)
  meets_none _ _ _ = tt

  offered_none : (o : OfferOf L) (m : Option Name) → EndsNone {L = L} (offer_outcome s p o m)
  offered_none o None = (refl, tt)
  offered_none o (Some z) = meets_none o z (s.condition z)

  acts_none : (a : ActOf L) → IsNoEnd a → EndsNone {L = L} (act_outcome s p a)
  acts_none (Moves o ws) h = (refl, puts_none L ws)
  acts_none (Opens o ws) h = (refl, puts_none L ws)
  acts_none (Forks o os) h = (refl, births_none L p (s.forks p) 0 os)
  acts_none (Offering o) h = offered_none o (s.pending o.channel)
  acts_none EndsProcess h = absurd h
  acts_none (MeetsFault f) h = tt

-- who has ended after such changes had ended before
ended_before : {L : Language} (cs : List (Change L)) (t : State L) (r : Name) → NoneEnds cs
    → has_ended ((with_changes cs t).condition r) ≡ true → t.condition r ≡ (with_changes cs t).condition r
ended_before [] t r n h = refl
ended_before {L} (Becomes q c ∷ cs) t r n h =
    let e = ended_before cs (with_change (Becomes q c) t) r n.1 h in
    by (same_name q r) refl e
  where
    by : (b : Bool) → same_name q r ≡ b
        → cond (same_name q r) c (t.condition r) ≡ (with_changes cs (with_change (Becomes q c) t)).condition r
        → t.condition r ≡ (with_changes cs (with_change (Becomes q c) t)).condition r
    by true is e =
        let k : c ≡ (with_changes cs (with_change (Becomes q c) t)).condition r =
        ap (λ b. cond b c (t.condition r)) (sym is)
        ∙ e in
        absurd (false≢true (sym n.0 ∙ ap has_ended k ∙ h))
    by false is e = ap (λ b. cond b c (t.condition r)) (sym is) ∙ e
ended_before (c ∷ cs) t r n h = ended_before cs (with_change c t) r n h

abbrev head_child : Name → ℕ
head_child [] = 0
head_child (x ∷ p) = x.1

pub past_grows : (xs : List Note) (n : JudgeNotes) (q : Name) (e : Event) → n.past q e ≡ true
    → (with_judge_notes xs n).past q e ≡ true
past_grows [] n q e h = h
past_grows (Counts p ∷ xs) n q e h = past_grows xs (with_judge_note (Counts p) n) q e h
past_grows (Learns p k ∷ xs) n q e h =
    past_grows xs (with_judge_note (Learns p k) n) q e (both_kept (same_name p q) (n.past q) k e h)
past_grows (Records c w x ∷ xs) n q e h = past_grows xs (with_judge_note (Records c w x) n) q e h

learned : (p : Name) (k : Event → Bool) (xs : List Note) (n : JudgeNotes) (e : Event) → k e ≡ true
    → (with_judge_notes (Learns p k ∷ xs) n).past p e ≡ true
learned p k xs n e h =
    past_grows xs (with_judge_note (Learns p k) n) p e
    (both_right (same_name p p) (n.past p) k e (itself name_test p) h)

taught : (p : Name) (k : ℕ) (known : Event → Bool) (x m : ℕ) (n : JudgeNotes) (i : ℕ) (e : Event) → known e ≡ true
    → i < m
    → (with_judge_notes (notes_to_children p k known x m) n).past ((k, x + i) ∷ p) e ≡ true
taught p k known x zero n i e h lt = absurd (omega (arith, lt))
taught p k known x (suc m) n zero e h lt =
    subst (λ (z : ℕ). (with_judge_notes (notes_to_children p k known x (suc m)) n).past ((k, z) ∷ p) e ≡ true)
    (omega arith)
    (learned ((k, x) ∷ p) known (notes_to_children p k known (suc x) m) n e h)
taught p k known x (suc m) n (suc i) e h lt =
    subst (λ (z : ℕ). (with_judge_notes (notes_to_children p k known x (suc m)) n).past ((k, z) ∷ p) e ≡ true)
    (omega arith)
    (taught p k known (suc x) m (with_judge_note (Learns ((k, x) ∷ p) known) n) i e h (omega (arith, lt)))

knows_mine : (n : JudgeNotes) (p : Name) → known_after_event n p (next_event_of n p) ≡ true
knows_mine n p = or_right (n.past p (next_event_of n p)) (same_event (next_event_of n p) (next_event_of n p))
    (itself event_test (next_event_of n p))

-- whom a step meets or forks learns of it
near_learns : {L : Language} (s : State L) (n : JudgeNotes) (p : Name) (a : ActOf L) (q : Name) → q ≢ p → IsNear s p a q
    → (IsLocal a → ⊥) × (((with_judge_notes (notes_of s n p a) n).past q (next_event_of n p)) ≡ true)
near_learns {L} s n p a q apart near =
    ⊎_elim (λ (e : q ≡ p). absurd (apart e))
    (λ (h : IsPartner s a q ⊎ IsChild s p a q). ⊎_elim (λ (k : IsPartner s a q). partner a k)
    (λ (k : IsChild s p a q). child a k) h) near
  where
    partner : (a : ActOf L) → IsPartner s a q
        → (IsLocal a → ⊥) × (((with_judge_notes (notes_of s n p a) n).past q (next_event_of n p)) ≡ true)
    partner (Offering o) h = (
      λ x. x,
      subst (λ (m : Option Name). (with_judge_notes (offer_notes n p o.channel (way_of o.payload) m) n).past q
          (next_event_of n p) ≡ true)
          (sym h)
          (learned q (known_to_either (known_after_event n p) (known_after_event n q)) []
          (with_judge_notes (Records o.channel (way_of o.payload) (next_event_of n p)
          ∷ Records o.channel (other_way (way_of o.payload)) (next_event_of n q) ∷ Counts p ∷ Counts q
          ∷ Learns p (known_to_either (known_after_event n p) (known_after_event n q)) ∷ []) n) (next_event_of n p)
          (or_left (known_after_event n p (next_event_of n p)) (known_after_event n q (next_event_of n p))
          (knows_mine n p))),
    )
    partner (Moves o ws) h = absurd h
    partner (Opens o ws) h = absurd h
    partner (Forks o os) h = absurd h
    partner EndsProcess h = absurd h
    partner (MeetsFault f) h = absurd h

    child : (a : ActOf L) → IsChild s p a q
        → (IsLocal a → ⊥) × (((with_judge_notes (notes_of s n p a) n).past q (next_event_of n p)) ≡ true)
    child (Forks o os) h = (
      λ x. x,
      let m1 = with_judge_note (Learns p (same_event (next_event_of n p))) (with_judge_note (Counts p) n) in
          subst (λ (r : Name). (with_judge_notes (notes_of s n p (Forks o os)) n).past r (next_event_of n p) ≡ true)
          (ap (λ i. (s.forks p, i) ∷ p) (zero-add h.0) ∙ sym h.1)
          (taught p (s.forks p) (known_after_event n p) 0 (length os) m1 h.0 (next_event_of n p) (knows_mine n p) h.2),
    )
    child (Moves o ws) h = absurd h
    child (Opens o ws) h = absurd h
    child (Offering o) h = absurd h
    child EndsProcess h = absurd h
    child (MeetsFault f) h = absurd h

-- who runs after another's step ran before it, or has learned of it
module _ {L : Language} {limits : Totals} (s : State L) (n : JudgeNotes) (p : Name) (cs : List (Change L))
    (sound : Sound s)
    (one : Makes limits s p cs) where
  abbrev act : ActOf L
  act = L.next one.own s.store

  abbrev Learned : Name → Type 0
  Learned q = (IsLocal act → ⊥) × ((with_judge_notes (notes_of s n p act) n).past q (next_event_of n p) ≡ true)

  -- the step of a process that goes on
  goes_on : (q : Name) (own : L.Own) → q ≢ p → IsNoEnd act → own_part (with_changes cs s) q ≡ Some own
      → (own_part s q ≡ Some own) ⊎ Learned q
  goes_on q own apart stays w = by (near_or_not act)
    where
      near_or_not : (a : ActOf L) → IsNear s p a q ⊎ (IsNear s p a q → ⊥)
      near_or_not a = ⊎_elim (λ (h : IsPartner s a q). inl (inr (inl h)))
          (λ (no : IsPartner s a q → ⊥). ⊎_elim (λ (h : IsChild s p a q). inl (inr (inr h)))
          (λ (never : IsChild s p a q → ⊥). inr (λ n. ⊎_elim apart (⊎_elim no never) n)) (child a)) (partner a)
        where
          partner : (a : ActOf L) → IsPartner s a q ⊎ (IsPartner s a q → ⊥)
          partner (Offering o) = of_pending (s.pending o.channel)
            where
              of_pending : (m : Option Name) → (m ≡ Some q) ⊎ (m ≡ Some q → ⊥)
              of_pending None = inr (none-some _)
              of_pending (Some z) =
                  ⊎_elim (λ (e : z ≡ q). inl (ap (λ x. Some x) e)) (λ (e : z ≢ q). inr (λ h. e (same_Some _ _ h)))
                  (same_or_not name_test z q)
          partner (Moves o ws) = inr (λ h. h)
          partner (Opens o ws) = inr (λ h. h)
          partner (Forks o os) = inr (λ h. h)
          partner EndsProcess = inr (λ h. h)
          partner (MeetsFault f) = inr (λ h. h)

          child : (a : ActOf L) → IsChild s p a q ⊎ (IsChild s p a q → ⊥)
          child (Forks o os) = by_name q
            where
              by_name : (r : Name)
                  → ((i : ℕ) × (r ≡ (s.forks p, i) ∷ p) × (i < length os))
                  ⊎ ((i : ℕ) × (r ≡ (s.forks p, i) ∷ p) × (i < length os) → ⊥)
              by_name [] = inr (λ h. nil_is_not_cons h.1)
              by_name (x ∷ r) = ⊎_elim
                  (λ (e : x ∷ r ≡ (s.forks p, x.1) ∷ p).
                  elim (nat_lt x.1 (length os)) as (λ b. nat_lt x.1 (length os) ≡ b
                  → ((i : ℕ) × (x ∷ r ≡ (s.forks p, i) ∷ p) × (i < length os))
                  ⊎ ((i : ℕ) × (x ∷ r ≡ (s.forks p, i) ∷ p) × (i < length os) → ⊥)) [
                    | true ↦ λ b. inl (x.1, e, grind (arith, b))
                    | false ↦ λ b. inr (λ h. let k : x.1 ≡ h.0 = second h.1 in let l = h.2 in
                        omega (arith, k, l, not_below b))
                  ] refl)
                  (λ (e : x ∷ r ≢ (s.forks p, x.1) ∷ p). inr
                  (λ h. e (h.1 ∙ ap (λ i. (s.forks p, i) ∷ p) (sym (second h.1)))))
                  (same_or_not name_test (x ∷ r) ((s.forks p, x.1) ∷ p))
                where
                  second : {i : ℕ} → x ∷ r ≡ (s.forks p, i) ∷ p → x.1 ≡ i
                  second h = ap head_child h

                  not_below : nat_lt x.1 (length os) ≡ false → length os ≤ x.1
                  not_below b = grind (arith, b)
          child (Moves o ws) = inr (λ h. h)
          child (Opens o ws) = inr (λ h. h)
          child (Offering o) = inr (λ h. h)
          child EndsProcess = inr (λ h. h)
          child (MeetsFault f) = inr (λ h. h)

      by : IsNear s p act q ⊎ (IsNear s p act q → ⊥) → (own_part s q ≡ Some own) ⊎ Learned q
      by (inl h) = inr (near_learns s n p act q apart h)
      by (inr h) =
          let e = condition_frame s p act q h cs s (all_in s p act cs one.does) in
          let ends : NoneEnds cs = subst (EndsNone {L = L}) one.does (acts_none s p act stays) in
          inl (rw (sym e) (working_same (with_changes cs s).condition s.condition q
          ((with_changes cs s).condition q) own
          (λ k i ended. ended_before cs s ((k, i) ∷ q) ends ended) w))

  -- the last step of a process
  ends_on : (q : Name) (own : L.Own) → q ≢ p → act ≡ EndsProcess → own_part (with_changes cs s) q ≡ Some own
      → (own_part s q ≡ Some own) ⊎ Learned q
  ends_on q own apart is w = by p refl
    where
      out : (r : Name) → r ≢ p → IsNear s p act r → ⊥
      out r far near = ⊎_elim far
          (λ (h : IsPartner s act r ⊎ IsChild s p act r).
          ⊎_elim (λ (k : IsPartner s act r). subst (λ (a : ActOf L). IsPartner s a r) is k)
          (λ (k : IsChild s p act r). subst (λ (a : ActOf L). IsChild s p a r) is k) h) near

      same : (r : Name) → r ≢ p → (with_changes cs s).condition r ≡ s.condition r
      same r far = condition_frame s p act r (out r far) cs s (all_in s p act cs one.does)

      before : ((k i : ℕ) → (k, i) ∷ q ≢ p) → own_part s q ≡ Some own
      before far = rw (sym (same q apart))
          (working_same (with_changes cs s).condition s.condition q ((with_changes cs s).condition q) own
          (λ k i ended. sym (same ((k, i) ∷ q) (far k i))) w)

      by : (r : Name) → p ≡ r → (own_part s q ≡ Some own) ⊎ Learned q
      by [] e = inl (before (λ k i h. nil_is_not_cons (sym (h ∙ e))))
      by (a ∷ r) e = ⊎_elim
          (λ (h : r ≡ q). inr (
            λ x. subst IsLocal is x,
            subst (λ (b : ActOf L). (with_judge_notes (notes_of s n p b) n).past q (next_event_of n p) ≡ true) (sym is)
                (subst (λ (z : Name).
                (with_judge_notes (Counts p ∷ Learns p (same_event (next_event_of n p))
                ∷ notes_to_parent z (known_after_event n p)) n).past q (next_event_of n p)
                ≡ true) (sym e)
                (subst (λ (z : Name).
                (with_judge_notes (Counts p ∷ Learns p (same_event (next_event_of n p))
                ∷ Learns r (known_after_event n p) ∷ []) n).past z
                (next_event_of n p) ≡ true) h
                (learned r (known_after_event n p) [] (with_judge_note (Learns p (same_event (next_event_of n p)))
                (with_judge_note (Counts p) n)) (next_event_of n p)
                (knows_mine n p)))),
          ))
          (λ (h : r ≢ q). inl (before (λ k i x. h (tail_is (sym (x ∙ e))))))
          (same_or_not name_test r q)
        where
          tail_is : {x y : ℕ × ℕ} {u v : Name} → x ∷ u ≡ y ∷ v → u ≡ v
          tail_is h = cc

  pub enabled : (q : Name) (own : L.Own) → q ≢ p → own_part (with_changes cs s) q ≡ Some own
      → (own_part s q ≡ Some own) ⊎ Learned q
  enabled q own apart w = by act refl
    where
      by : (a : ActOf L) → act ≡ a → (own_part s q ≡ Some own) ⊎ Learned q
      by (Moves o ws) e = goes_on q own apart (subst IsNoEnd (sym e) tt) w
      by (Opens o ws) e = goes_on q own apart (subst IsNoEnd (sym e) tt) w
      by (Forks o os) e = goes_on q own apart (subst IsNoEnd (sym e) tt) w
      by (Offering o) e = goes_on q own apart (subst IsNoEnd (sym e) tt) w
      by EndsProcess e = ends_on q own apart e w
      by (MeetsFault f) e = goes_on q own apart (subst IsNoEnd (sym e) tt) w

module _ (g : RunInput) (disjoint : IsDisjointRun g) where
  abbrev L : Language
  L = superpascal g

  -- what a step of another process leaves of a running one
  pub record Unmoved (j k : WithNotes L) (q : Name) (own : Process) : Type 0 where
    pub works : own_part k.state q ≡ Some own
    pub act : L.next own k.state.store ≡ L.next own j.state.store
    pub pauses : pauses_next g own k.state.store ≡ pauses_next g own j.state.store
    pub past : k.notes.past q ≡ j.notes.past q
    pub events : k.notes.events q ≡ j.notes.events q

  module _ (j : WithNotes L) (p : Name) (k : WithNotes L) (x : GoodStep (total_limits g) (start g) j p k) (q : Name)
      (own : Process) (apart : q ≢ p) (w : own_part j.state q ≡ Some own) where
    still : own_part k.state q ≡ Some own
    still = subst (λ (z : StateOf g). own_part z q ≡ Some own) (sym x.to)
        (keeps_working j.state p x.cs x.sound x.makes q own apart w)

    st : step (total_limits g) j.state p ≡ Some k.state
    st = steps j.state p x.cs x.makes ∙ ap (λ (z : StateOf g). Some z) (sym x.to)

    -- it reads and writes nothing that the step wrote
    agrees : (l : Loc) → L.touches own k.state.store l → k.state.store l ≡ j.state.store l
    agrees l touched = ap (λ (z : StateOf g). z.store l) x.to
        ∙ store_frame j.state p (L.next x.makes.own j.state.store) loc_test l clash x.cs j.state
        (all_in j.state p (L.next x.makes.own j.state.store) x.cs x.makes.does)
      where
        clash : WritesTo j.state (L.next x.makes.own j.state.store) l → ⊥
        clash wr =
            let y = writer j.state p x.makes.own l wr in
            let u : StateOf g = result_of k.state q
            (step_outcome (total_limits g) k.state q (L.next own k.state.store)) in
            let no_fault_k : HasNoFault k.state =
            subst (λ (z : StateOf g). HasNoFault z) (sym x.to) (no_fault_after j.state p x.cs x.makes x.no_fault) in
            let next : step (total_limits g) k.state q ≡ Some u = ap (step_with (total_limits g) k.state q) still in
            let leads = leads_on (total_limits g) x.way (p ∷ q ∷ []) (start g) j.state u x.leads (
              k.state,
              x.no_fault,
              st,
              (u, no_fault_k, next, refl),
            ) in
            let alone = part_alone j.state x.sound p x.makes.own (L.next x.makes.own j.state.store) y.who x.makes.works
            y.part in
            disjoint (x.way ++ p ∷ q ∷ []) u leads y.who q
            (parallel j.state y.who q x.sound alone (inl (own, w)) (not_it y.who y.part)) l
            (happens_later (total_limits g) (λ z r o. WritesIn z r o y.who l) x.way (p ∷ q ∷ []) (start g) j.state
            x.leads
            (inl (x.makes.own, x.makes.works, y.writes)))
            (happens_later (total_limits g) (λ z r o. AccessesIn z r o q l) x.way (p ∷ q ∷ []) (start g) j.state x.leads
            (inr (k.state, st, inl (own, still, inl (refl, touched)))))
          where
            not_it : (who : Name) → TakesPart j.state p (L.next x.makes.own j.state.store) who → who ≢ q
            not_it who part e = ⊎_elim
                (λ (h : who ≡ p). apart (sym e ∙ h))
                (λ (z : (c : Channel) × IsOn (L.next x.makes.own j.state.store) c × (j.state.pending c ≡ Some who)).
                waits_stands z.0 (j.state.condition who) (x.sound.waits z.0 who z.2)
                (subst (λ r. IsNotWaiting (j.state.condition r)) (sym e)
                (working_stands j.state.condition q (j.state.condition q) own w)))
                part

    pub unmoved : Unmoved j k q own
    unmoved = record {
      works = still;
      act = (superpascal_keeps g).local own k.state.store j.state.store agrees;
      pauses = ap is_pausing (local loc_test (action_of g own) k.state.store j.state.store
          (λ l h. agrees l (asks_then same_loc (action_of g own) _ k.state.store l h))).value;
      past = ap (λ (v : JudgeNotes). v.past q) x.noted ∙ past_kept j.state j.notes p x.cs x.sound x.makes q own apart w;
      events = ap (λ (v : JudgeNotes). v.events q) x.noted
          ∙ events_kept j.state j.notes p x.cs x.sound x.makes q own apart w;
    }
