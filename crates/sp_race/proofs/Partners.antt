-- Who takes part in a step, what they write and access, and that those of two steps are apart.
use Rattle.std.proofs.Common.{◌≡◌, ◌≢◌, ◌⊎◌, ⊎_elim, inl, inr, true, Some, refl, sym, ap, ◌∙◌, subst}
use Rattle.sp_journal.specs.declared.entry.Way.{Way}
use Rattle.sp_meaning.specs.Model.{Name, Channel, Language, Moves, Opens, Forks, Offering, EndsProcess, MeetsFault}
use Rattle.sp_meaning.specs.Model.{Payload, Message}
use Rattle.sp_meaning.specs.Model.{Takes, State}
use Rattle.sp_meaning.specs.Steps.{ActOf, OfferOf, own_part, way_of, WaitsOn, Sound}
use Rattle.sp_meaning.specs.Disjoint.{Assigns, receiver, WritesIn, AccessesIn}
use Rattle.sp_meaning.proofs.Maps.{same_or_not}
use Rattle.sp_meaning.proofs.Keys.{channel_test}
use Rattle.sp_meaning.proofs.Frames.{IsOn, WritesTo}
use Rattle.sp_meaning.proofs.Status.{IsNotWaiting, waits_stands, working_stands, waits_one}
use Rattle.sp_meaning.proofs.Parallel.{IsAlone}
use Rattle.sp_race.specs.Notes.{Event, JudgeNotes, KnowsBefore}
use Rattle.sp_race.proofs.Exchanges.{Touches}

-- Who takes part in a step: the process, and whom its offer meets
abbrev pub TakesPart : {L : Language} → State L → Name → ActOf L → Name → Type 0
TakesPart s p a who = (who ≡ p) ⊎ ((c : Channel) × IsOn a c × (s.pending c ≡ Some who))

pub record Writer {L : Language} (s : State L) (p : Name) (own : L.Own) (l : L.Loc) : Type 0 where
  pub who : Name
  pub writes : WritesIn s p own who l
  pub part : TakesPart s p (L.next own s.store) who

pub writer : {L : Language} (s : State L) (p : Name) (own : L.Own) (l : L.Loc) → WritesTo s (L.next own s.store) l
    → Writer s p own l
writer {L} s p own l h = by_act (L.next own s.store) refl h
  where
    by_act : (a : ActOf L) → L.next own s.store ≡ a → WritesTo s a l → Writer s p own l
    by_act (Moves o ws) e h = record {
      who = p;
      writes = inl (refl, subst (λ a. Assigns a l) (sym e) h);
      part = inl refl;
    }
    by_act (Opens o ws) e h = record {
      who = p;
      writes = inl (refl, subst (λ a. Assigns a l) (sym e) h);
      part = inl refl;
    }
    by_act (Forks o os) e h = absurd h
    by_act EndsProcess e h = absurd h
    by_act (MeetsFault f) e h = absurd h
    by_act (Offering o) e h = record {
      who = receiver o.payload p h.partner;
      writes = inr (record { offer = o; offer_is = e; goes = h; who_is = refl });
      part = subst (λ a. TakesPart s p a (receiver o.payload p h.partner)) (sym e) (of_payload o.payload);
    }
      where
        of_payload : (c : Payload L.Value L.Target) → TakesPart s p (Offering o) (receiver c p h.partner)
        of_payload (Message v) = inr (o.channel, refl, h.pends)
        of_payload (Takes t) = inl refl

pub record Accessor {L : Language} (s : State L) (p : Name) (own : L.Own) (l : L.Loc) : Type 0 where
  pub who : Name
  pub accesses : AccessesIn s p own who l
  pub part : TakesPart s p (L.next own s.store) who

pub accessor : {L : Language} (s : State L) (p : Name) (own : L.Own) (l : L.Loc) → Touches s own l → Accessor s p own l
accessor s p own l h = ⊎_elim
    (λ t. record { who = p; accesses = inl (refl, t); part = inl refl })
    (λ w. let x = writer s p own l w in record { who = x.who; accesses = inr x.writes; part = x.part })
    h

pub part_alone : {L : Language} (s : State L) (sound : Sound s) (p : Name) (own : L.Own) (a : ActOf L) (who : Name)
    → own_part s p ≡ Some own → TakesPart s p a who → IsAlone s who
part_alone {L} s sound p own a who w h = ⊎_elim
    (λ (e : who ≡ p). inl (own, ap (λ z. own_part s z) e ∙ w))
    (λ (x : (c : Channel) × IsOn a c × (s.pending c ≡ Some who)). inr (x.0, sound.waits x.0 who x.2))
    h

pub parts_apart : {L : Language} (s : State L) (sound : Sound s) (p q : Name) (own other : L.Own) (a b : ActOf L)
    (x y : Name) → p ≢ q → own_part s p ≡ Some own → own_part s q ≡ Some other
    → ((c : Channel) → IsOn a c → IsOn b c → ⊥)
    → TakesPart s p a x → TakesPart s q b y → x ≢ y
parts_apart {L} s sound p q own other a b x y apart wp wq off h k e = ⊎_elim
    (λ (xp : x ≡ p). ⊎_elim
    (λ (yq : y ≡ q). apart (sym xp ∙ e ∙ yq))
    (λ (z : (c : Channel) × IsOn b c × (s.pending c ≡ Some y)). waits_stands z.0 (s.condition y) (sound.waits z.0 y z.2)
    (subst (λ r. IsNotWaiting (s.condition r)) (sym xp ∙ e) (working_stands s.condition p (s.condition p) own wp)))
    k)
    (λ (z : (c : Channel) × IsOn a c × (s.pending c ≡ Some x)). ⊎_elim
    (λ (yq : y ≡ q). waits_stands z.0 (s.condition x) (sound.waits z.0 x z.2)
    (subst (λ r. IsNotWaiting (s.condition r)) (sym yq ∙ sym e)
    (working_stands s.condition q (s.condition q) other wq)))
    (λ (v : (c : Channel) × IsOn b c × (s.pending c ≡ Some y)). off z.0 z.1
    (subst (IsOn b) (waits_one v.0 z.0 (s.condition x)
    (subst (λ r. WaitsOn v.0 (s.condition r)) (sym e) (sound.waits v.0 y v.2)) (sound.waits z.0 x z.2)) v.1))
    k)
    h

pub clash_or_off : (L : Language) (a b : ActOf L)
    → ((o : OfferOf L) × (r : OfferOf L) × (a ≡ Offering o) × (b ≡ Offering r) × (o.channel ≡ r.channel))
    ⊎ ((c : Channel) → IsOn a c → IsOn b c → ⊥)
clash_or_off L (Offering o) (Offering r) = ⊎_elim (λ (e : o.channel ≡ r.channel). inl (o, r, refl, refl, e))
    (λ (n : o.channel ≢ r.channel). inr (λ c h k. n (h ∙ sym k))) (same_or_not channel_test o.channel r.channel)
clash_or_off L (Offering o) (Moves x y) = inr (λ c h k. k)
clash_or_off L (Offering o) (Opens x y) = inr (λ c h k. k)
clash_or_off L (Offering o) (Forks x y) = inr (λ c h k. k)
clash_or_off L (Offering o) EndsProcess = inr (λ c h k. k)
clash_or_off L (Offering o) (MeetsFault f) = inr (λ c h k. k)
clash_or_off L (Moves x y) b = inr (λ c h k. h)
clash_or_off L (Opens x y) b = inr (λ c h k. h)
clash_or_off L (Forks x y) b = inr (λ c h k. h)
clash_or_off L EndsProcess b = inr (λ c h k. h)
clash_or_off L (MeetsFault f) b = inr (λ c h k. h)

-- the order condition of a step goes by what is recorded on its channel and what its process knows
pub knows_same : (L : Language) (t s : JudgeNotes) (q : Name) (b : ActOf L)
    → ((c : Channel) (v : Way) (e : Event) → IsOn b c → s.offers c v e ≡ true → t.offers c v e ≡ true)
    → t.past q ≡ s.past q → KnowsBefore L t q b → KnowsBefore L s q b
knows_same L t s q (Offering o) h p k = λ e x. ap (λ f. f e) (sym p) ∙ k e (h o.channel (way_of o.payload) e refl x)
knows_same L t s q (Moves x y) h p k = tt
knows_same L t s q (Opens x y) h p k = tt
knows_same L t s q (Forks x y) h p k = tt
knows_same L t s q EndsProcess h p k = tt
knows_same L t s q (MeetsFault f) h p k = tt
