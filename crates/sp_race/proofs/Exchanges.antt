-- The exchange of two steps that are not both offers on one channel.
use Rattle.std.proofs.Common.{◌≡◌, ◌≢◌, ◌⊎◌, ⊎_elim, inl, inr, ℕ, zero, suc, ◌+◌, ◌<◌, ◌≤◌, Bool, true, false, cond}
use Rattle.std.proofs.Common.{◌==◌, List, [], ◌∷◌, length, Option, Some, None, refl, sym, ap, ◌∙◌, subst, arith}
use Rattle.std.proofs.lemmas.Bool.Decides.{nat_tests}
use Rattle.sp_base.specs.declared.fault.Fault.{Fault}
use Rattle.sp_base.specs.declared.fault.Fault.TheVariants as fault
use Rattle.sp_base.proofs.Facts.{same_tail}
use Rattle.sp_meaning.specs.Maps.{IsTest}
use Rattle.sp_meaning.specs.Model.{Name, Channel, Totals, add, Language, Moves, Opens, Forks, Offering, EndsProcess}
use Rattle.sp_meaning.specs.Model.{MeetsFault}
use Rattle.sp_meaning.specs.Model.{Absent, Works, Waits, Joins, State, Change, Becomes, Forked, WritesLocation}
use Rattle.sp_meaning.specs.Model.{Pends}
use Rattle.sp_meaning.specs.Model.{AddsTotals, Faults, with_change, with_changes}
use Rattle.sp_meaning.specs.Steps.{ActOf, OfferOf, ConditionOf, own_part, ActOutcome, Advances, Faulty, write_changes}
use Rattle.sp_meaning.specs.Steps.{birth_changes}
use Rattle.sp_meaning.specs.Steps.{message, entry_cost, meeting_changes, handover_outcome, meeting_outcome}
use Rattle.sp_meaning.specs.Steps.{offer_outcome, act_outcome, cost, is_limit_passed, limit_fault, Laws}
use Rattle.sp_meaning.specs.Steps.{Sound}
use Rattle.sp_meaning.specs.Disjoint.{Delivers}
use Rattle.sp_meaning.proofs.Frames.{IsOn, WritesTo, IsPartner, IsChild, IsNear, IsIn, AllIn, all_in, condition_frame}
use Rattle.sp_meaning.proofs.Frames.{forks_frame, pending_frame, store_frame}
use Rattle.sp_meaning.proofs.Status.{Makes, IsNotWaiting, working_stands, child_absent, child_below, waits_absent, far}
use Rattle.sp_meaning.proofs.Status.{keeps_working, on_partner, waiting_far}
use Rattle.sp_race.proofs.Changes.{Apart, ApartFrom, AllApart, after_swap}

-- a step with this own part reads or writes it
abbrev pub Touches : {L : Language} → State L → L.Own → L.Loc → Type 0
Touches {L} s own l = (L.touches own s.store l) ⊎ WritesTo s (L.next own s.store) l

abbrev spent : Option Totals → Totals
spent None = record { processes = 0; channels = 0; entries = 0 }
spent (Some n) = n

abbrev all_adds : {L : Language} → List (Change L) → Totals
all_adds [] = record { processes = 0; channels = 0; entries = 0 }
all_adds (AddsTotals n ∷ cs) = add n (all_adds cs)
all_adds (c ∷ cs) = all_adds cs

add_none : (t : Totals) → t ≡ add t (record { processes = 0; channels = 0; entries = 0 })
add_none t =
    let p : t.processes ≡ t.processes + 0 = omega arith in
    let c : t.channels ≡ t.channels + 0 = omega arith in
    let e : t.entries ≡ t.entries + 0 = omega arith in
    λ i. record { processes = p i; channels = c i; entries = e i }

add_assoc' : (t a b : Totals) → add (add t a) b ≡ add t (add a b)
add_assoc' t a b =
    let p : (t.processes + a.processes) + b.processes ≡ t.processes + (a.processes + b.processes) = omega arith in
    let c : (t.channels + a.channels) + b.channels ≡ t.channels + (a.channels + b.channels) = omega arith in
    let e : (t.entries + a.entries) + b.entries ≡ t.entries + (a.entries + b.entries) = omega arith in
    λ i. record { processes = p i; channels = c i; entries = e i }

totals_after : {L : Language} (cs : List (Change L)) (t : State L) → (with_changes cs t).totals
    ≡ add t.totals (all_adds cs)
totals_after [] t = add_none t.totals
totals_after (AddsTotals n ∷ cs) t = totals_after cs (with_change (AddsTotals n) t)
    ∙ add_assoc' t.totals n (all_adds cs)
totals_after (c ∷ cs) t = totals_after cs (with_change c t)

abbrev Costs : {L : Language} → ActOf L → ActOutcome L → Type 0
Costs a (Advances cs) = all_adds cs ≡ spent (cost a)
Costs a (Faulty f) = Unit

puts_cost : (L : Language) (ws : List (L.Loc × L.Value)) → all_adds (write_changes {L = L} ws) ≡ spent None
puts_cost L [] = refl
puts_cost L (w ∷ ws) = puts_cost L ws

births_cost : (L : Language) (p : Name) (k i : ℕ) (os : List L.Own) → all_adds (birth_changes {L = L} p k i os)
    ≡ spent None
births_cost L p k i [] = refl
births_cost L p k i (o ∷ os) = births_cost L p k (suc i) os

hands_cost : {L : Language} (s : State L) (p : Name) (o : OfferOf L) (z : Name) (w : OfferOf L)
    (m : Option (L.Target × L.Value)) → Costs (Offering o) (handover_outcome s p o z w m)
hands_cost s p o z w None = tt
hands_cost s p o z w (Some m) = elim (o.kind == w.kind) as
    (λ b. Costs (Offering o) (cond b (Advances (meeting_changes s p o z w m)) (Faulty fault.F7)))
    [ true ↦ sym (add_none entry_cost) | false ↦ tt ]

meets_cost : {L : Language} (s : State L) (p : Name) (o : OfferOf L) (z : Name) (c : ConditionOf L)
    → Costs (Offering o) (meeting_outcome s p o z c)
meets_cost s p o z (Waits w) = hands_cost s p o z w (message o.payload w.payload)
meets_cost _ _ _ _ _ = tt

offered_cost : {L : Language} (s : State L) (p : Name) (o : OfferOf L) (m : Option Name)
    → Costs (Offering o) (offer_outcome s p o m)
offered_cost s p o None = sym (add_none entry_cost)
offered_cost s p o (Some z) = meets_cost s p o z (s.condition z)

acts_cost : {L : Language} (s : State L) (p : Name) (a : ActOf L) → Costs a (act_outcome s p a)
acts_cost {L} s p (Moves o ws) = puts_cost L ws
acts_cost {L} s p (Opens o ws) = ap (add (record { processes = 0; channels = 1; entries = 1 })) (puts_cost L ws)
    ∙ sym (add_none _)
acts_cost {L} s p (Forks o os) = ap (add (record { processes = length os; channels = 0; entries = 1 }))
    (births_cost L p (s.forks p) 0 os) ∙ sym (add_none _)
acts_cost s p (Offering o) = offered_cost s p o (s.pending o.channel)
acts_cost s p EndsProcess = refl
acts_cost s p (MeetsFault f) = tt

pub totals_made : {L : Language} (s : State L) (p : Name) (a : ActOf L) (cs : List (Change L))
    → act_outcome s p a ≡ Advances cs → (with_changes cs s).totals ≡ add s.totals (spent (cost a))
totals_made s p a cs e = totals_after cs s ∙ ap (add s.totals) (subst (Costs a) e (acts_cost s p a))

record IsWithinLimits (l t n : Totals) : Type 0 where
  entries : 0 < n.entries → t.entries + n.entries ≤ l.entries
  processes : 0 < n.processes → t.processes + n.processes ≤ l.processes
  channels : 0 < n.channels → t.channels + n.channels ≤ l.channels

gone : (b : Bool) (f : Fault) (x : Option Fault) → cond b (Some f) x ≡ None → (b ≡ false) × (x ≡ None)
gone true f x h = absurd (cc h)
gone false f x h = (refl, h)

at_most : (l t n : ℕ) → is_limit_passed l t n ≡ false → 0 < n → t + n ≤ l
at_most l t n h p = grind (arith, nat_tests)

passed_fits : (l t n : Totals) → limit_fault l t (Some n) ≡ None → IsWithinLimits l t n
passed_fits l t n h =
    let e = gone (is_limit_passed l.entries t.entries n.entries) fault.F15 _ h in
    let p = gone (is_limit_passed l.processes t.processes n.processes) fault.F13 _ e.1 in
    let c = gone (is_limit_passed l.channels t.channels n.channels) fault.F14 None p.1 in
    record { entries = at_most _ _ _ e.0; processes = at_most _ _ _ p.0; channels = at_most _ _ _ c.0 }

not_over : (l t n : ℕ) → (0 < n → t + n ≤ l) → is_limit_passed l t n ≡ false
not_over l t n h = by (is_limit_passed l t n) refl
  where
    more : (l t n : ℕ) → is_limit_passed l t n ≡ true → (0 < n) × (l < t + n)
    more l t n e = grind (arith, nat_tests)

    by : (b : Bool) → is_limit_passed l t n ≡ b → b ≡ false
    by true e = let m = more l t n e in let f = h m.0 in let g = m.1 in absurd (omega arith)
    by false e = refl

fits_passed : (l t n : Totals) → IsWithinLimits l t n → limit_fault l t (Some n) ≡ None
fits_passed l t n h =
    let e = not_over l.entries t.entries n.entries h.entries in
    let p = not_over l.processes t.processes n.processes h.processes in
    let c = not_over l.channels t.channels n.channels h.channels in
    λ i. cond (e i) (Some fault.F15) (cond (p i) (Some fault.F13) (cond (c i) (Some fault.F14) None))

-- with less before it, it fits too
less_before : (l t n m : ℕ) → (0 < m → (t + n) + m ≤ l) → 0 < m → t + m ≤ l
less_before l t n m f p = let x = f p in omega arith

-- in the other order it fits too
in_other_order : (l t n m : ℕ) → (0 < n → t + n ≤ l) → (0 < m → (t + n) + m ≤ l) → 0 < n → (t + m) + n ≤ l
in_other_order l t n zero h f p = let x = h p in omega arith
in_other_order l t n (suc m) h f p = let x = f (omega arith) in omega arith

pub passed_earlier : (l t n : Totals) (c : Option Totals) → limit_fault l (add t n) c ≡ None → limit_fault l t c ≡ None
passed_earlier l t n None h = refl
passed_earlier l t n (Some m) h =
    let f = passed_fits l (add t n) m h in
    fits_passed l t m (record {
      entries = less_before l.entries t.entries n.entries m.entries f.entries;
      processes = less_before l.processes t.processes n.processes m.processes f.processes;
      channels = less_before l.channels t.channels n.channels m.channels f.channels;
    })

passed_later : (l t : Totals) (c d : Option Totals) → limit_fault l t c ≡ None
    → limit_fault l (add t (spent c)) d ≡ None
    → limit_fault l (add t (spent d)) c ≡ None
passed_later l t None d h k = refl
passed_later l t (Some n) None h k = subst (λ z. limit_fault l z (Some n) ≡ None) (add_none t) h
passed_later l t (Some n) (Some m) h k =
    let g = passed_fits l t n h in
    let f = passed_fits l (add t n) m k in
    fits_passed l (add t m) n (record {
      entries = in_other_order l.entries t.entries n.entries m.entries g.entries f.entries;
      processes = in_other_order l.processes t.processes n.processes m.processes g.processes f.processes;
      channels = in_other_order l.channels t.channels n.channels m.channels g.channels f.channels;
    })

-- what an act does goes by these parts of the state alone
module _ {L : Language} (t s : State L) (q : Name) where
  meeting_at : Name → OfferOf L → Name → OfferOf L → L.Target × L.Value → L.Value → List (Change L)
  meeting_at p o z w m old = Becomes p (Works o.next) ∷ Becomes z (Works w.next) ∷ Pends o.channel None
      ∷ WritesLocation (L.place m.0) (L.put m.0 old m.1) ∷ AddsTotals entry_cost ∷ []

  hands_same : (o : OfferOf L) (z : Name) (w : OfferOf L) (m : Option (L.Target × L.Value))
      → ((x : L.Target × L.Value) → m ≡ Some x → t.store (L.place x.0) ≡ s.store (L.place x.0))
      → handover_outcome t q o z w m ≡ handover_outcome s q o z w m
  unfolding meeting_at
  hands_same o z w None st = refl
  hands_same o z w (Some m) st = λ i. cond (o.kind == w.kind) (Advances (meeting_at q o z w m (st m refl i)))
      (Faulty fault.F7)

  meets_same : (o : OfferOf L) (z : Name) (c : ConditionOf L) → s.pending o.channel ≡ Some z → s.condition z ≡ c
      → ((l : L.Loc) → Delivers s o l → t.store l ≡ s.store l) → meeting_outcome t q o z c ≡ meeting_outcome s q o z c
  meets_same o z (Waits w) pe ce st = hands_same o z w (message o.payload w.payload)
      (λ x is. st (L.place x.0) (record {
        partner = z;
        pends = pe;
        its = w;
        waits = ce;
        passes = x;
        message_is = is;
        there = refl;
      }))
  meets_same _ _ _ _ _ _ = refl

  offered_same : (o : OfferOf L) (m : Option Name) → s.pending o.channel ≡ m
      → ((z : Name) → s.pending o.channel ≡ Some z → t.condition z ≡ s.condition z)
      → ((l : L.Loc) → Delivers s o l → t.store l ≡ s.store l) → offer_outcome t q o m ≡ offer_outcome s q o m
  offered_same o None pe other st = refl
  offered_same o (Some z) pe other st = ap (meeting_outcome t q o z) (other z pe)
      ∙ meets_same o z (s.condition z) pe refl st

  pub acts_same : (b : ActOf L) → t.forks q ≡ s.forks q → ((c : Channel) → IsOn b c → t.pending c ≡ s.pending c)
      → ((z : Name) → IsPartner s b z → t.condition z ≡ s.condition z)
      → ((l : L.Loc) → WritesTo s b l → t.store l ≡ s.store l) → act_outcome t q b ≡ act_outcome s q b
  acts_same (Forks o os) f pe other st = λ i. Advances
      (Becomes q (Joins (f i) (length os) o) ∷ Forked q
      ∷ AddsTotals (record { processes = length os; channels = 0; entries = 1 }) ∷ birth_changes q (f i) 0 os)
  acts_same (Offering o) f pe other st = ap (offer_outcome t q o) (pe o.channel refl)
      ∙ offered_same o (s.pending o.channel) refl other st
  acts_same _ _ _ _ _ = refl

-- What a step does is not changed by one of another process before it
module _ {L : Language} {limits : Totals} (loc : IsTest L.same_loc) (s : State L) (p : Name) (cs : List (Change L))
    (sound : Sound s) (does : Makes limits s p cs) where
  pub acts_kept : (q : Name) (own : L.Own) (b : ActOf L) → q ≢ p → own_part s q ≡ Some own
      → ((c : Channel) → IsOn (L.next does.own s.store) c → IsOn b c → ⊥)
      → ((l : L.Loc) → WritesTo s (L.next does.own s.store) l → WritesTo s b l → ⊥)
      → act_outcome (with_changes cs s) q b ≡ act_outcome s q b
  acts_kept q own b apart w off free =
      let a = L.next does.own s.store in
      let i = all_in s p a cs does.does in
      acts_same (with_changes cs s) s q b
      (forks_frame s p a q apart cs s i)
      (λ c on. pending_frame s p a c (λ h. off c h on) cs s i)
      (λ z h. let k = on_partner s p cs sound does b z h in
      condition_frame s p a z (waiting_far s p cs sound does k.0 z k.2 (λ on. off k.0 on k.1)) cs s i)
      (λ l h. store_frame s p a loc l (λ k. free l k h) cs s i)

  -- nor where it writes
  pub writes_kept : (b : ActOf L) → ((c : Channel) → IsOn (L.next does.own s.store) c → IsOn b c → ⊥) → (l : L.Loc)
      → WritesTo s b l → WritesTo (with_changes cs s) b l
  writes_kept (Offering o) off l h =
      let a = L.next does.own s.store in
      let i = all_in s p a cs does.does in
      let g = waiting_far s p cs sound does o.channel h.partner (sound.waits o.channel h.partner h.pends)
      (λ on. off o.channel on refl) in
      record {
        partner = h.partner;
        pends = pending_frame s p a o.channel (λ on. off o.channel on refl) cs s i ∙ h.pends;
        its = h.its;
        waits = condition_frame s p a h.partner g cs s i ∙ h.waits;
        passes = h.passes;
        message_is = h.message_is;
        there = h.there;
      }
  writes_kept _ _ _ h = h

-- The changes of both are of different parts of the state
module _ {L : Language} {limits : Totals} (s : State L) (sound : Sound s) (p q : Name) (cs ds : List (Change L))
    (one : Makes limits s p cs) (two : Makes limits s q ds) (apart : q ≢ p)
    (off : (c : Channel) → IsOn (L.next one.own s.store) c → IsOn (L.next two.own s.store) c → ⊥)
    (free : (l : L.Loc) → WritesTo s (L.next one.own s.store) l → WritesTo s (L.next two.own s.store) l → ⊥) where
  near_apart : (r : Name) → IsNear s p (L.next one.own s.store) r → IsNear s q (L.next two.own s.store) r → ⊥
  near_apart r n m = ⊎_elim
      (λ (e : r ≡ p). far s q ds sound two p (λ h. apart (sym h))
      (working_stands s.condition p (s.condition p) one.own one.works)
      (subst (IsNear s q (L.next two.own s.store)) e m))
      (⊎_elim
      (λ (h : IsPartner s (L.next one.own s.store) r).
      let k = on_partner s p cs sound one (L.next one.own s.store) r h in
      waiting_far s q ds sound two k.0 r k.2 (off k.0 k.1) m)
      (λ (h : IsChild s p (L.next one.own s.store) r).
      let none : s.condition r ≡ Absent = child_absent s p sound (L.next one.own s.store) r h in
      let x = child_below s p (L.next one.own s.store) r h in
      ⊎_elim
      (λ (e : r ≡ q). subst (λ (c : ConditionOf L). IsNotWaiting c) (ap s.condition (sym e) ∙ none)
      (working_stands s.condition q (s.condition q) two.own two.works))
      (⊎_elim
      (λ (g : IsPartner s (L.next two.own s.store) r). let k =
      on_partner s q ds sound two (L.next two.own s.store) r g in waits_absent k.0 (s.condition r) k.2 none)
      (λ (g : IsChild s q (L.next two.own s.store) r). let y = child_below s q (L.next two.own s.store) r g in
      apart (same_tail (sym y.1 ∙ x.1))))
      m))
      n

  pair_apart : (c d : Change L) → IsIn s p (L.next one.own s.store) c → IsIn s q (L.next two.own s.store) d → Apart c d
  pair_apart (Becomes x c) (Becomes y d) h k = λ e. near_apart y (subst (IsNear s p (L.next one.own s.store)) e h) k
  pair_apart (WritesLocation l v) (WritesLocation m w) h k =
      λ e. free m (subst (WritesTo s (L.next one.own s.store)) e h) k
  pair_apart (Pends c o) (Pends d n) h k = λ e. off d (subst (IsOn (L.next one.own s.store)) e h) k
  pair_apart (Faults x f) (Faults y g) h k = h
  pair_apart c d h k = tt

  from_apart : (c : Change L) (es : List (Change L)) → IsIn s p (L.next one.own s.store) c
      → AllIn s q (L.next two.own s.store) es → ApartFrom c es
  from_apart c [] h k = tt
  from_apart c (e ∷ es) h k = (pair_apart c e h k.0, from_apart c es h k.1)

  all_apart : (bs es : List (Change L)) → AllIn s p (L.next one.own s.store) bs → AllIn s q (L.next two.own s.store) es
      → AllApart bs es
  all_apart [] es h k = tt
  all_apart (b ∷ bs) es h k = (from_apart b es h.0 k, all_apart bs es h.1 k)

  pub both_orders : IsTest L.same_loc → with_changes ds (with_changes cs s) ≡ with_changes cs (with_changes ds s)
  both_orders loc = after_swap loc cs ds (all_apart cs ds (all_in s p (L.next one.own s.store) cs one.does)
      (all_in s q (L.next two.own s.store) ds two.does)) s

pub record Exchanged {L : Language} (limits : Totals) (s : State L) (p q : Name) (cs ds : List (Change L))
    (a b : ActOf L) : Type 0 where
  pub first : Makes limits s q ds
  pub first_act : L.next first.own s.store ≡ b
  pub second : Makes limits (with_changes ds s) p cs
  pub second_act : L.next second.own (with_changes ds s).store ≡ a
  pub commute : with_changes ds (with_changes cs s) ≡ with_changes cs (with_changes ds s)

-- The exchange
pub exchange : {L : Language} {limits : Totals} (laws : Laws L) (s : State L) (p q : Name) (cs ds : List (Change L))
    (own : L.Own) → Sound s → (one : Makes limits s p cs) → (two : Makes limits (with_changes cs s) q ds) → q ≢ p
    → own_part s q ≡ Some own
    → ((c : Channel) → IsOn (L.next one.own s.store) c → IsOn (L.next own (with_changes cs s).store) c → ⊥)
    → ((l : L.Loc) → WritesTo s (L.next one.own s.store) l → Touches (with_changes cs s) own l → ⊥)
    → ((l : L.Loc) → WritesTo (with_changes cs s) (L.next own (with_changes cs s).store) l → Touches s one.own l → ⊥)
    → Exchanged limits s p q cs ds (L.next one.own s.store) (L.next own (with_changes cs s).store)
exchange {L} {limits} laws s p q cs ds own sound one two apart w off free1 free2 =
    let t = with_changes cs s in
    let a = L.next one.own s.store in
    let b = L.next own t.store in
    let mine : two.own ≡ own = (let k = keeps_working s p cs sound one q own apart w in let h = two.works in
    cc (k, h)) in
    let next_is : L.next two.own t.store ≡ L.next own s.store =
    ap (λ o. L.next o t.store) mine ∙ laws.local own t.store s.store
    (λ l touched. store_frame s p a laws.told l (λ wr. free1 l wr (inl touched)) cs s (all_in s p a cs one.does)) in
    let b_is : b ≡ L.next own s.store = laws.local own t.store s.store
    (λ l touched. store_frame s p a laws.told l (λ wr. free1 l wr (inl touched)) cs s (all_in s p a cs one.does)) in
    let kept : act_outcome t q b ≡ act_outcome s q b = acts_kept laws.told s p cs sound one q own b apart w off
    (λ l h k. free1 l h (inr (writes_kept laws.told s p cs sound one b off l k))) in
    let first : Makes limits s q ds = record {
      own = own;
      works = w;
      within = passed_earlier limits s.totals (spent (cost a)) (cost (L.next own s.store))
          (subst (λ z. limit_fault limits z (cost (L.next own s.store)) ≡ None) (totals_made s p a cs one.does)
          (subst (λ z. limit_fault limits t.totals (cost z) ≡ None) next_is two.within));
      does = subst (λ z. act_outcome s q z ≡ Advances ds) b_is
          (sym kept ∙ subst (λ o. act_outcome t q (L.next o t.store) ≡ Advances ds) mine two.does);
    } in
    let c = L.next own s.store in
    let off' : (d : Channel) → IsOn a d → IsOn c d → ⊥ = λ d h k. off d h (subst (λ z. IsOn z d) (sym b_is) k) in
    let writes' : (l : L.Loc) → WritesTo s c l
    → WritesTo t b l = λ l h. writes_kept laws.told s p cs sound one b off l
    (subst (λ z. WritesTo s z l) (sym b_is) h) in
    let a_is : L.next one.own s.store ≡ L.next one.own (with_changes ds s).store =
    laws.local one.own s.store (with_changes ds s).store
    (λ l touched. sym (store_frame s q c laws.told l (λ wr. free2 l (writes' l wr) (inl touched)) ds s
    (all_in s q c ds first.does))) in
    let kept' : act_outcome (with_changes ds s) p a ≡ act_outcome s p a =
    acts_kept laws.told s q ds sound first p one.own a (λ e. apart (sym e)) one.works (λ d h k. off' d k h)
    (λ l h k. free2 l (writes' l h) (inr k)) in
    record {
      first = first;
      first_act = sym b_is;
      second = record {
        own = one.own;
        works = keeps_working s q ds sound first p one.own (λ e. apart (sym e)) one.works;
        within = subst (λ z. limit_fault limits (with_changes ds s).totals (cost z) ≡ None) a_is
            (subst (λ z. limit_fault limits z (cost a) ≡ None) (sym (totals_made s q c ds first.does))
            (passed_later limits s.totals (cost a) (cost c) one.within
            (subst (λ z. limit_fault limits z (cost c) ≡ None) (totals_made s p a cs one.does)
            (subst (λ z. limit_fault limits t.totals (cost z) ≡ None) next_is two.within))));
        does = subst (λ z. act_outcome (with_changes ds s) p z ≡ Advances cs) a_is (kept' ∙ one.does);
      };
      second_act = sym a_is;
      commute = both_orders s sound p q cs ds one first apart off' (λ l h k. free2 l (writes' l k) (inr h)) laws.told;
    }
