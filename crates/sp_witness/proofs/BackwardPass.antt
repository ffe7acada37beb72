-- One entry of the pass backwards: what is known to somebody needed after it was known to somebody needed before it,
-- and the other way round; and the entry itself is known exactly where its process is needed before it.
use Rattle.std.proofs.Common.{◌≡◌, ◌⊎◌, ⊎_elim, inl, inr, ℕ, ◌<◌, lt_irrefl, Bool, true, false, cond, ◌||◌, ◌==◌, []}
use Rattle.std.proofs.Common.{◌∷◌, Option, Some, None, eqb-true, eq-eqb, refl, sym, ap, ◌∙◌, subst, arith}
use Rattle.std.proofs.lemmas.Bool.{or_cases, or_left, or_right}
use Rattle.std.proofs.lemmas.Option.{none-some, same_Some}
use Rattle.sp_base.proofs.Facts.{false_is_not_true}
use Rattle.sp_journal.specs.Maps.{at_key}
use Rattle.sp_journal.specs.Names.{Name, Channel, same_name, same_channel, Happening, Opened, Forked, Offered, Ended}
use Rattle.sp_journal.specs.Names.{Faulted, Laid, Paused}
use Rattle.sp_journal.specs.Past.{Knowledge, learn, teach, report, known_with, knowledge_after_offer, knowledge_after}
use Rattle.sp_race.specs.Prefixes.{WaitsForNone}
use Rattle.sp_race.proofs.Keys.{channel_is, channel_itself}
use Rattle.sp_race.proofs.PrefixLaws.{learn_more, teach_more, report_more, learn_here}
use Rattle.sp_witness.specs.NeededEntries.{any_child, parent_is, needed_to_meet, needed_before}
use Rattle.sp_witness.proofs.KnowledgeSteps.{IsChildAt, any_here, any_is, key_here, key_is, key_more, learn_is}
use Rattle.sp_witness.proofs.KnowledgeSteps.{report_here}
use Rattle.sp_witness.proofs.KnowledgeSteps.{report_is, teach_here, teach_is}

-- q knows the entry of index m, or it is its own offer that is pending
abbrev pub HasEntry : Knowledge → Name → ℕ → Type 0
HasEntry j q m = (j.past q m ≡ true) ⊎ ((c : Channel) × (j.pending c ≡ Some (q, m)))

-- somebody who is needed has it
abbrev pub Someone : (Name → Bool) → Knowledge → ℕ → Type 0
Someone F j m = (q : Name) × (F q ≡ true) × HasEntry j q m

abbrev pub IsCounted : Happening → Type 0
IsCounted (Faulted f) = ⊥
IsCounted Laid = ⊥
IsCounted Paused = ⊥
IsCounted _ = Unit {0}

module _ (j : Knowledge) (n : ℕ) (p : Name) (below : (q : Name) (i : ℕ) → j.past q i ≡ true → i < n)
    (bound : (c : Channel) (z : Name) (o : ℕ) → j.pending c ≡ Some (z, o) → o < n)
    (single : (c d : Channel) (z : Name) (k l : ℕ) → j.pending c ≡ Some (z, k) → j.pending d ≡ Some (z, l) → c ≡ d)
    (silent : WaitsForNone j p) (F : Name → Bool) where
  abbrev G : Happening → Name → Bool
  G h = needed_before j p h F

  not_last : (m : ℕ) → m < n → n == m ≡ true → ⊥
  not_last m lt e = let k = eqb-true n m e in omega (arith, lt, k)

  -- p's own index, or one that it knew
  now_is : (m : ℕ) → m < n → known_with j p n m ≡ true → j.past p m ≡ true
  now_is m lt h = ⊎_elim (λ (x : j.past p m ≡ true). x) (λ (x : n == m ≡ true). absurd (not_last m lt x))
      (or_cases (j.past p m) (n == m) h)

  no_old : (q : Name) → HasEntry j q n → ⊥
  no_old q h = ⊎_elim (λ (x : j.past q n ≡ true). lt_irrefl n (below q n x))
      (λ (x : (c : Channel) × (j.pending c ≡ Some (q, n))). lt_irrefl n (bound x.0 q n x.1)) h

  -- who was needed after the entry is needed before it
  pub more : (h : Happening) (q : Name) → F q ≡ true → G h q ≡ true
  more (Forked m) q f =
      key_more p (F p || any_child F p (j.forks p) m) F q (or_left (F p) (any_child F p (j.forks p) m)) f
  more (Offered w c) q f = by (j.pending c)
    where
      by : (o : Option (Name × ℕ)) → needed_to_meet p o F q ≡ true
      by None = f
      by (Some o) =
          let b = F p || F o.0 in
          key_more p b (at_key same_name o.0 b F) q
          (λ h. ⊎_elim (λ (x : (o.0 ≡ p) × (b ≡ true)). x.1) (λ (x : F p ≡ true). or_left (F p) (F o.0) x)
          (key_is o.0 b F p h))
          (key_more o.0 b F q (or_right (F p) (F o.0)) f)
  more Ended q f = key_more p (F p || parent_is F p) F q (or_left (F p) (parent_is F p)) f
  more _ _ f = f

  -- an offer that meets
  module _ (c : Channel) (o : Name × ℕ) (pe : j.pending c ≡ Some o) where
    abbrev either : Bool
    either = F p || F o.0

    abbrev both : ℕ → Bool
    both i = known_with j p n i || known_with j o.0 o.1 i

    abbrev then : Knowledge
    then = knowledge_after_offer j p n c (Some o)

    abbrev meets : Name → Bool
    meets = needed_to_meet p (Some o) F

    meets_p : either ≡ true → meets p ≡ true
    meets_p e = key_here p either (at_key same_name o.0 either F) e

    meets_o : either ≡ true → meets o.0 ≡ true
    meets_o e = key_more p either (at_key same_name o.0 either F) o.0 (λ h. e) (key_here o.0 either F e)

    meets_is : (q : Name) → meets q ≡ true → ((either ≡ true) × ((p ≡ q) ⊎ (o.0 ≡ q))) ⊎ (F q ≡ true)
    meets_is q h = ⊎_elim (λ (x : (p ≡ q) × (either ≡ true)). inl (x.1, inl x.0))
        (λ (x : at_key same_name o.0 either F q ≡ true).
        ⊎_elim (λ (y : (o.0 ≡ q) × (either ≡ true)). inl (y.1, inr y.0)) (λ (y : F q ≡ true). inr y)
        (key_is o.0 either F q x))
        (key_is p either (at_key same_name o.0 either F) q h)

    then_past : (q : Name) (i : ℕ) → then.past q i ≡ true
        → (j.past q i ≡ true) ⊎ (((p ≡ q) ⊎ (o.0 ≡ q)) × (both i ≡ true))
    then_past q i h = ⊎_elim
        (λ (x : learn p both j.past q i ≡ true). ⊎_elim (λ (y : j.past q i ≡ true). inl y)
        (λ (y : (p ≡ q) × (both i ≡ true)). inr (inl y.0, y.1)) (learn_is p both j.past q i x))
        (λ (x : (o.0 ≡ q) × (both i ≡ true)). inr (inr x.0, x.1))
        (learn_is o.0 both (learn p both j.past) q i h)

    then_p : (i : ℕ) → both i ≡ true → then.past p i ≡ true
    then_p i h = learn_more o.0 both (learn p both j.past) p i (learn_here p both j.past i h)

    then_o : (i : ℕ) → both i ≡ true → then.past o.0 i ≡ true
    then_o i h = learn_here o.0 both (learn p both j.past) i h

    then_pending : (d : Channel) (x : Name × ℕ) → then.pending d ≡ Some x → j.pending d ≡ Some x
    then_pending d x h = by (same_channel c d) h
      where
        by : (b : Bool) → cond b None (j.pending d) ≡ Some x → j.pending d ≡ Some x
        by true h = absurd (none-some _ h)
        by false h = h

    needs_either : (q : Name) → ((p ≡ q) ⊎ (o.0 ≡ q)) → F q ≡ true → either ≡ true
    needs_either q w f =
        ⊎_elim (λ (e : p ≡ q). or_left (F p) (F o.0) (subst (λ z. F z ≡ true) (sym e) f))
        (λ (e : o.0 ≡ q). or_right (F p) (F o.0) (subst (λ z. F z ≡ true) (sym e) f)) w

    both_has : (m : ℕ) → m < n → both m ≡ true → either ≡ true → Someone meets j m
    both_has m lt h e = ⊎_elim
        (λ (x : known_with j p n m ≡ true). (p, meets_p e, inl (now_is m lt x)))
        (λ (x : known_with j o.0 o.1 m ≡ true). ⊎_elim
        (λ (y : j.past o.0 m ≡ true). (o.0, meets_o e, inl y))
        (λ (y : o.1 == m ≡ true). (o.0, meets_o e, inr (c, pe ∙ (λ i. Some (o.0, eqb-true o.1 m y i)))))
        (or_cases (j.past o.0 m) (o.1 == m) x))
        (or_cases (known_with j p n m) (known_with j o.0 o.1 m) h)

    meet_back : (m : ℕ) → m < n → Someone F then m → Someone meets j m
    meet_back m lt s = ⊎_elim
        (λ (x : then.past s.0 m ≡ true). ⊎_elim
        (λ (y : j.past s.0 m ≡ true). (s.0, meets_more s.0 s.1, inl y))
        (λ (y : ((p ≡ s.0) ⊎ (o.0 ≡ s.0)) × (both m ≡ true)). both_has m lt y.1 (needs_either s.0 y.0 s.1))
        (then_past s.0 m x))
        (λ (x : (d : Channel) × (then.pending d ≡ Some (s.0, m))). (
          s.0,
          meets_more s.0 s.1,
          inr (x.0, then_pending x.0 (s.0, m) x.1),
        ))
        s.2
      where
        meets_more : (q : Name) → F q ≡ true → meets q ≡ true
        meets_more q f =
            key_more p either (at_key same_name o.0 either F) q
            (λ h. ⊎_elim (λ (x : (o.0 ≡ p) × (either ≡ true)). x.1) (λ (x : F p ≡ true). or_left (F p) (F o.0) x)
            (key_is o.0 either F p h))
            (key_more o.0 either F q (or_right (F p) (F o.0)) f)

    -- what q had, p and whom it met know
    had : (q : Name) (m : ℕ) → ((p ≡ q) ⊎ (o.0 ≡ q)) → HasEntry j q m → both m ≡ true
    had q m w h = ⊎_elim
        (λ (x : j.past q m ≡ true). ⊎_elim
        (λ (e : p ≡ q). or_left (known_with j p n m) (known_with j o.0 o.1 m)
        (or_left (j.past p m) (n == m) (subst (λ z. j.past z m ≡ true) (sym e) x)))
        (λ (e : o.0 ≡ q). or_right (known_with j p n m) (known_with j o.0 o.1 m)
        (or_left (j.past o.0 m) (o.1 == m) (subst (λ z. j.past z m ≡ true) (sym e) x)))
        w)
        (λ (x : (d : Channel) × (j.pending d ≡ Some (q, m))). ⊎_elim
        (λ (e : p ≡ q). absurd (silent x.0 m (x.1 ∙ (λ i. Some (sym e i, m)))))
        (λ (e : o.0 ≡ q).
        let f : j.pending x.0 ≡ Some (o.0, m) = x.1 ∙ (λ i. Some (sym e i, m)) in
        let same : c ≡ x.0 = single c x.0 o.0 o.1 m pe f in
        let is : o ≡ (o.0, m) = same_Some _ _ (sym pe ∙ ap j.pending same ∙ f) in
        or_right (known_with j p n m) (known_with j o.0 o.1 m)
        (or_right (j.past o.0 m) (o.1 == m) (eq-eqb o.1 m (ap (λ (z : Name × ℕ). z.1) is))))
        w)
        h

    stays : (q : Name) (m : ℕ) → HasEntry j q m → HasEntry then q m
    stays q m h = ⊎_elim
        (λ (x : j.past q m ≡ true). inl
        (learn_more o.0 both (learn p both j.past) q m (learn_more p both j.past q m x)))
        (λ (x : (d : Channel) × (j.pending d ≡ Some (q, m))). pends x.0 x.1 (same_channel c x.0) refl)
        h
      where
        pends : (d : Channel) → j.pending d ≡ Some (q, m) → (b : Bool) → same_channel c d ≡ b → HasEntry then q m
        pends d e true s =
            let is : o ≡ (q, m) = same_Some _ _ (sym pe ∙ ap j.pending (channel_is c d s) ∙ e) in
            let q_is : o.0 ≡ q = ap (λ (z : Name × ℕ). z.0) is in
            inl (subst (λ z. then.past z m ≡ true) q_is (then_o m (had q m (inr q_is) (inr (d, e)))))
        pends d e false s = inr (d, ap (λ b. cond b None (j.pending d)) s ∙ e)

    meet_forth : (m : ℕ) → Someone meets j m → Someone F then m
    meet_forth m s = ⊎_elim
        (λ (x : (either ≡ true) × ((p ≡ s.0) ⊎ (o.0 ≡ s.0))).
        let b = had s.0 m x.1 s.2 in
        ⊎_elim (λ (f : F p ≡ true). (p, f, inl (then_p m b))) (λ (f : F o.0 ≡ true). (o.0, f, inl (then_o m b)))
        (or_cases (F p) (F o.0) x.0))
        (λ (f : F s.0 ≡ true). (s.0, f, stays s.0 m s.2))
        (meets_is s.0 s.1)

    meet_new : Someone F then n → meets p ≡ true
    meet_new s = ⊎_elim
        (λ (x : then.past s.0 n ≡ true). ⊎_elim
        (λ (y : j.past s.0 n ≡ true). absurd (no_old s.0 (inl y)))
        (λ (y : ((p ≡ s.0) ⊎ (o.0 ≡ s.0)) × (both n ≡ true)). meets_p (needs_either s.0 y.0 s.1))
        (then_past s.0 n x))
        (λ (x : (d : Channel) × (then.pending d ≡ Some (s.0, n))). absurd
        (no_old s.0 (inr (x.0, then_pending x.0 (s.0, n) x.1))))
        s.2

    meet_known : meets p ≡ true → Someone F then n
    meet_known h = ⊎_elim
        (λ (x : (either ≡ true) × ((p ≡ p) ⊎ (o.0 ≡ p))).
        let b : both n ≡ true =
        or_left (known_with j p n n) (known_with j o.0 o.1 n) (or_right (j.past p n) (n == n) (eq-eqb n n refl)) in
        ⊎_elim (λ (f : F p ≡ true). (p, f, inl (then_p n b))) (λ (f : F o.0 ≡ true). (o.0, f, inl (then_o n b)))
        (or_cases (F p) (F o.0) x.0))
        (λ (f : F p ≡ true). (
          p,
          f,
          inl (then_p n (or_left (known_with j p n n) (known_with j o.0 o.1 n)
              (or_right (j.past p n) (n == n) (eq-eqb n n refl)))),
        ))
        (meets_is p h)

  -- an offer that waits
  module _ (c : Channel) (pe : j.pending c ≡ None) where
    abbrev waiting : Knowledge
    waiting = knowledge_after_offer j p n c None

    wait_pending : (d : Channel) (x : Name × ℕ) → waiting.pending d ≡ Some x → ((p, n) ≡ x) ⊎ (j.pending d ≡ Some x)
    wait_pending d x h = by (same_channel c d) h
      where
        by : (b : Bool) → cond b (Some (p, n)) (j.pending d) ≡ Some x → ((p, n) ≡ x) ⊎ (j.pending d ≡ Some x)
        by true h = inl (same_Some _ _ h)
        by false h = inr h

    wait_stays : (q : Name) (m : ℕ) → HasEntry j q m → HasEntry waiting q m
    wait_stays q m h = ⊎_elim (λ (x : j.past q m ≡ true). inl x)
        (λ (x : (d : Channel) × (j.pending d ≡ Some (q, m))). inr (x.0, pends x.0 x.1 (same_channel c x.0) refl)) h
      where
        pends : (d : Channel) → j.pending d ≡ Some (q, m) → (b : Bool) → same_channel c d ≡ b
            → waiting.pending d ≡ Some (q, m)
        pends d e true s = absurd (none-some _ (sym pe ∙ ap j.pending (channel_is c d s) ∙ e))
        pends d e false s = ap (λ b. cond b (Some (p, n)) (j.pending d)) s ∙ e

    wait_back : (m : ℕ) → m < n → Someone F waiting m → Someone F j m
    wait_back m lt s = (
      s.0,
      s.1,
      ⊎_elim
          (λ (x : j.past s.0 m ≡ true). inl x)
          (λ (x : (d : Channel) × (waiting.pending d ≡ Some (s.0, m))). ⊎_elim
          (λ (y : (p, n) ≡ (s.0, m)). let k : n ≡ m = ap (λ (z : Name × ℕ). z.1) y in absurd (omega (arith, lt, k)))
          (λ (y : j.pending x.0 ≡ Some (s.0, m)). inr (x.0, y))
          (wait_pending x.0 (s.0, m) x.1))
          s.2,
    )

    wait_new : Someone F waiting n → F p ≡ true
    wait_new s = ⊎_elim
        (λ (x : j.past s.0 n ≡ true). absurd (no_old s.0 (inl x)))
        (λ (x : (d : Channel) × (waiting.pending d ≡ Some (s.0, n))). ⊎_elim
        (λ (y : (p, n) ≡ (s.0, n)). subst (λ z. F z ≡ true) (ap (λ (z : Name × ℕ). z.0) (sym y)) s.1)
        (λ (y : j.pending x.0 ≡ Some (s.0, n)). absurd (no_old s.0 (inr (x.0, y))))
        (wait_pending x.0 (s.0, n) x.1))
        s.2

    wait_known : F p ≡ true → Someone F waiting n
    wait_known f = (p, f, inr (c, ap (λ b. cond b (Some (p, n)) (j.pending c)) (channel_itself c)))

  -- an entry that leaves the offers alone: who learns of it, and of what
  module _ (j' : Knowledge) (same : j'.pending ≡ j.pending) (H : Name → Bool)
      (grows : (q : Name) → F q ≡ true → H q ≡ true)
      (learns : (q : Name) (m : ℕ) → j'.past q m ≡ true
      → (j.past q m ≡ true) ⊎ ((F q ≡ true → H p ≡ true) × (known_with j p n m ≡ true)))
      (keeps : (q : Name) (m : ℕ) → j.past q m ≡ true → j'.past q m ≡ true)
      (needs : (q : Name) → H q ≡ true → (F q ≡ true) ⊎ (q ≡ p)) (passes : H p ≡ true
      → (r : Name) × (F r ≡ true) × ((m : ℕ) → known_with j p n m ≡ true → j'.past r m ≡ true)) where
    spread_back : (m : ℕ) → m < n → Someone F j' m → Someone H j m
    spread_back m lt s = ⊎_elim
        (λ (x : j'.past s.0 m ≡ true). ⊎_elim
        (λ (y : j.past s.0 m ≡ true). (s.0, grows s.0 s.1, inl y))
        (λ (y : (F s.0 ≡ true → H p ≡ true) × (known_with j p n m ≡ true)). (p, y.0 s.1, inl (now_is m lt y.1)))
        (learns s.0 m x))
        (λ (x : (d : Channel) × (j'.pending d ≡ Some (s.0, m))). (
          s.0,
          grows s.0 s.1,
          inr (x.0, sym (ap (λ f. f x.0) same) ∙ x.1),
        ))
        s.2

    spread_forth : (m : ℕ) → Someone H j m → Someone F j' m
    spread_forth m s = ⊎_elim
        (λ (f : F s.0 ≡ true). (
          s.0,
          f,
          ⊎_elim (λ (x : j.past s.0 m ≡ true). inl (keeps s.0 m x))
              (λ (x : (d : Channel) × (j.pending d ≡ Some (s.0, m))). inr (x.0, ap (λ f. f x.0) same ∙ x.1)) s.2,
        ))
        (λ (e : s.0 ≡ p).
        let r = passes (subst (λ z. H z ≡ true) e s.1) in
        ⊎_elim
        (λ (x : j.past s.0 m ≡ true). (
          r.0,
          r.1,
          inl (r.2 m (or_left (j.past p m) (n == m) (subst (λ z. j.past z m ≡ true) e x))),
        ))
        (λ (x : (d : Channel) × (j.pending d ≡ Some (s.0, m))). absurd (silent x.0 m (x.1 ∙ (λ i. Some (e i, m)))))
        s.2)
        (needs s.0 s.1)

    spread_new : Someone F j' n → H p ≡ true
    spread_new s = ⊎_elim
        (λ (x : j'.past s.0 n ≡ true). ⊎_elim
        (λ (y : j.past s.0 n ≡ true). absurd (no_old s.0 (inl y)))
        (λ (y : (F s.0 ≡ true → H p ≡ true) × (known_with j p n n ≡ true)). y.0 s.1)
        (learns s.0 n x))
        (λ (x : (d : Channel) × (j'.pending d ≡ Some (s.0, n))). absurd
        (no_old s.0 (inr (x.0, sym (ap (λ f. f x.0) same) ∙ x.1))))
        s.2

    spread_known : H p ≡ true → Someone F j' n
    spread_known h = let r = passes h in (r.0, r.1, inl (r.2 n (or_right (j.past p n) (n == n) (eq-eqb n n refl))))

  own_now : (m : ℕ) → n == m ≡ true → known_with j p n m ≡ true
  own_now m e = or_right (j.past p m) (n == m) e

  abbrev first : Name → ℕ → Bool
  first = learn p (λ i. n == i) j.past

  first_is : (q : Name) (m : ℕ) → first q m ≡ true → (j.past q m ≡ true) ⊎ ((p ≡ q) × (known_with j p n m ≡ true))
  first_is q m h = ⊎_elim (λ (x : j.past q m ≡ true). inl x)
      (λ (x : (p ≡ q) × (n == m ≡ true)). inr (x.0, own_now m x.1)) (learn_is p (λ i. n == i) j.past q m h)

  first_here : (m : ℕ) → known_with j p n m ≡ true → first p m ≡ true
  first_here m h = ⊎_elim (λ (x : j.past p m ≡ true). learn_more p (λ i. n == i) j.past p m x)
      (λ (x : n == m ≡ true). learn_here p (λ i. n == i) j.past m x) (or_cases (j.past p m) (n == m) h)

  -- the facts of one entry of the pass: what is judged after it, and who is needed before it
  pub record PassedAt (then : Knowledge) (H : Name → Bool) : Type 0 where
    pub back : (m : ℕ) → m < n → Someone F then m → Someone H j m
    pub forth : (m : ℕ) → Someone H j m → Someone F then m
    pub new : Someone F then n → H p ≡ true
    pub known : H p ≡ true → Someone F then n

  abbrev pub PassesBack : Happening → Type 0
  PassesBack h = PassedAt (knowledge_after j n p h) (needed_before j p h F)

  pub passed : (h : Happening) → IsCounted h → PassesBack h
  passed Opened ok = record {
    back = spread_back (knowledge_after j n p Opened) refl F (λ q f. f) learns keeps needs passes;
    forth = spread_forth (knowledge_after j n p Opened) refl F (λ q f. f) learns keeps needs passes;
    new = spread_new (knowledge_after j n p Opened) refl F (λ q f. f) learns keeps needs passes;
    known = spread_known (knowledge_after j n p Opened) refl F (λ q f. f) learns keeps needs passes;
  }
    where
      learns : (q : Name) (m : ℕ) → first q m ≡ true
          → (j.past q m ≡ true) ⊎ ((F q ≡ true → F p ≡ true) × (known_with j p n m ≡ true))
      learns q m h = ⊎_elim (λ (x : j.past q m ≡ true). inl x)
          (λ (x : (p ≡ q) × (known_with j p n m ≡ true)). inr (λ f. subst (λ z. F z ≡ true) (sym x.0) f, x.1))
          (first_is q m h)

      keeps : (q : Name) (m : ℕ) → j.past q m ≡ true → first q m ≡ true
      keeps q m h = learn_more p (λ i. n == i) j.past q m h

      needs : (q : Name) → F q ≡ true → (F q ≡ true) ⊎ (q ≡ p)
      needs q f = inl f

      passes : F p ≡ true → (r : Name) × (F r ≡ true) × ((m : ℕ) → known_with j p n m ≡ true → first r m ≡ true)
      passes f = (p, f, first_here)
  passed (Forked k) ok = record {
    back = spread_back (knowledge_after j n p (Forked k)) refl (G (Forked k)) (more (Forked k)) learns keeps needs
        passes;
    forth = spread_forth (knowledge_after j n p (Forked k)) refl (G (Forked k)) (more (Forked k)) learns keeps needs
        passes;
    new = spread_new (knowledge_after j n p (Forked k)) refl (G (Forked k)) (more (Forked k)) learns keeps needs passes;
    known = spread_known (knowledge_after j n p (Forked k)) refl (G (Forked k)) (more (Forked k)) learns keeps needs
        passes;
  }
    where
      learns : (q : Name) (m : ℕ) → teach p (j.forks p) (known_with j p n) 0 k first q m ≡ true
          → (j.past q m ≡ true) ⊎ ((F q ≡ true → needed_before j p (Forked k) F p ≡ true) × (known_with j p n m ≡ true))
      learns q m h = ⊎_elim
          (λ (x : first q m ≡ true). ⊎_elim (λ (y : j.past q m ≡ true). inl y)
          (λ (y : (p ≡ q) × (known_with j p n m ≡ true)). inr (
            λ f. key_here p (F p || any_child F p (j.forks p) k) F
                (or_left (F p) (any_child F p (j.forks p) k) (subst (λ z. F z ≡ true) (sym y.0) f)),
            y.1,
          ))
          (first_is q m x))
          (λ (x : IsChildAt p (j.forks p) 0 k q × (known_with j p n m ≡ true)).
          let ((child, _, below, child_is), knows) = x in
          inr (
            λ f. key_here p (F p || any_child F p (j.forks p) k) F
                (or_right (F p) (any_child F p (j.forks p) k)
                (any_here F p (j.forks p) k child (omega (arith, below)) (subst (λ z. F z ≡ true) child_is f))),
            knows,
          ))
          (teach_is p (j.forks p) (known_with j p n) 0 k first q m h)

      keeps : (q : Name) (m : ℕ) → j.past q m ≡ true → teach p (j.forks p) (known_with j p n) 0 k first q m ≡ true
      keeps q m h = teach_more p (j.forks p) (known_with j p n) 0 k first q m (learn_more p (λ i. n == i) j.past q m h)

      needs : (q : Name) → needed_before j p (Forked k) F q ≡ true → (F q ≡ true) ⊎ (q ≡ p)
      needs q h = ⊎_elim (λ (x : (p ≡ q) × (F p || any_child F p (j.forks p) k ≡ true)). inr (sym x.0))
          (λ (x : F q ≡ true). inl x) (key_is p (F p || any_child F p (j.forks p) k) F q h)

      passes : needed_before j p (Forked k) F p ≡ true
          → (r : Name) × (F r ≡ true)
          × ((m : ℕ) → known_with j p n m ≡ true → teach p (j.forks p) (known_with j p n) 0 k first r m ≡ true)
      passes h = ⊎_elim
          (λ (f : F p ≡ true). (
            p,
            f,
            λ m x. teach_more p (j.forks p) (known_with j p n) 0 k first p m
                (first_here m x),
          ))
          (λ (a : any_child F p (j.forks p) k ≡ true).
          let c = any_is F p (j.forks p) k a in
          let lt = c.1 in (
            (j.forks p, c.0) ∷ p,
            c.2,
            λ m x. teach_here p (j.forks p) (known_with j p n) 0 k first c.0 m (omega arith) (omega (arith, lt)) x,
          ))
          (or_cases (F p) (any_child F p (j.forks p) k)
          (⊎_elim (λ (x : (p ≡ p) × (F p || any_child F p (j.forks p) k ≡ true)). x.1)
          (λ (x : F p ≡ true). or_left (F p) (any_child F p (j.forks p) k) x)
          (key_is p (F p || any_child F p (j.forks p) k) F p h)))
  passed Ended ok = record {
    back = spread_back (knowledge_after j n p Ended) refl (G Ended) (more Ended) learns keeps needs passes;
    forth = spread_forth (knowledge_after j n p Ended) refl (G Ended) (more Ended) learns keeps needs passes;
    new = spread_new (knowledge_after j n p Ended) refl (G Ended) (more Ended) learns keeps needs passes;
    known = spread_known (knowledge_after j n p Ended) refl (G Ended) (more Ended) learns keeps needs passes;
  }
    where
      parent_here : (r : Name) (a : ℕ × ℕ) (q : Name) → r ≡ a ∷ q → F q ≡ true → parent_is F r ≡ true
      parent_here r a q e f = subst (λ z. parent_is F z ≡ true) (sym e) f

      parent_of : (r : Name) → parent_is F r ≡ true → (a : ℕ × ℕ) × (q : Name) × (r ≡ a ∷ q) × (F q ≡ true)
      parent_of [] h = false_is_not_true h
      parent_of (a ∷ q) h = (a, q, refl, h)

      learns : (q : Name) (m : ℕ) → report p (known_with j p n) first q m ≡ true
          → (j.past q m ≡ true) ⊎ ((F q ≡ true → needed_before j p Ended F p ≡ true) × (known_with j p n m ≡ true))
      learns q m h = ⊎_elim
          (λ (x : first q m ≡ true). ⊎_elim (λ (y : j.past q m ≡ true). inl y)
          (λ (y : (p ≡ q) × (known_with j p n m ≡ true)). inr (
            λ f. key_here p (F p || parent_is F p) F
                (or_left (F p) (parent_is F p) (subst (λ z. F z ≡ true) (sym y.0) f)),
            y.1,
          ))
          (first_is q m x))
          (λ (x : (a : ℕ × ℕ) × (p ≡ a ∷ q) × (known_with j p n m ≡ true)). inr (
            λ f. key_here p (F p || parent_is F p) F (or_right (F p) (parent_is F p) (parent_here p x.0 q x.1 f)),
            x.2,
          ))
          (report_is p (known_with j p n) first q m h)

      keeps : (q : Name) (m : ℕ) → j.past q m ≡ true → report p (known_with j p n) first q m ≡ true
      keeps q m h = report_more p (known_with j p n) first q m (learn_more p (λ i. n == i) j.past q m h)

      needs : (q : Name) → needed_before j p Ended F q ≡ true → (F q ≡ true) ⊎ (q ≡ p)
      needs q h = ⊎_elim (λ (x : (p ≡ q) × (F p || parent_is F p ≡ true)). inr (sym x.0)) (λ (x : F q ≡ true). inl x)
          (key_is p (F p || parent_is F p) F q h)

      passes : needed_before j p Ended F p ≡ true
          → (r : Name) × (F r ≡ true)
          × ((m : ℕ) → known_with j p n m ≡ true → report p (known_with j p n) first r m ≡ true)
      passes h = ⊎_elim
          (λ (f : F p ≡ true). (p, f, λ m x. report_more p (known_with j p n) first p m (first_here m x)))
          (λ (a : parent_is F p ≡ true). let (last, parent, name_is, needed) = parent_of p a in
          (parent, needed, λ m x. report_here p (known_with j p n) first last parent m name_is x))
          (or_cases (F p) (parent_is F p)
          (⊎_elim (λ (x : (p ≡ p) × (F p || parent_is F p ≡ true)). x.1)
          (λ (x : F p ≡ true). or_left (F p) (parent_is F p) x) (key_is p (F p || parent_is F p) F p h)))
  passed (Offered w c) ok = by (j.pending c) refl
    where
      by : (o : Option (Name × ℕ)) → j.pending c ≡ o → PassedAt (knowledge_after_offer j p n c o) (needed_to_meet p o F)
      by None e = record {
        back = wait_back c e;
        forth = λ m s. (s.0, s.1, wait_stays c e s.0 m s.2);
        new =
            wait_new c e;
        known = wait_known c e;
      }
      by (Some o) e = record {
        back = meet_back c o e;
        forth = meet_forth c o e;
        new = meet_new c o e;
        known =
            meet_known c o e;
      }
  passed (Faulted f) ok = absurd ok
  passed Laid ok = absurd ok
  passed Paused ok = absurd ok

  -- whoever is needed before it was needed after it, or made it, or waits
  pub newly : (h : Happening) (q : Name) → needed_before j p h F q ≡ true
      → (F q ≡ true) ⊎ ((q ≡ p) ⊎ ((c : Channel) × (o : ℕ) × (j.pending c ≡ Some (q, o))))
  newly (Forked k) q h =
      ⊎_elim (λ (x : (p ≡ q) × (F p || any_child F p (j.forks p) k ≡ true)). inr (inl (sym x.0)))
      (λ (x : F q ≡ true). inl x) (key_is p (F p || any_child F p (j.forks p) k) F q h)
  newly Ended q h = ⊎_elim (λ (x : (p ≡ q) × (F p || parent_is F p ≡ true)). inr (inl (sym x.0)))
      (λ (x : F q ≡ true). inl x) (key_is p (F p || parent_is F p) F q h)
  newly (Offered w c) q h = by (j.pending c) refl h
    where
      by : (o : Option (Name × ℕ)) → j.pending c ≡ o → needed_to_meet p o F q ≡ true
          → (F q ≡ true) ⊎ ((q ≡ p) ⊎ ((c : Channel) × (o : ℕ) × (j.pending c ≡ Some (q, o))))
      by None e h = inl h
      by (Some o) e h = ⊎_elim
          (λ (x : (either c o e ≡ true) × ((p ≡ q) ⊎ (o.0 ≡ q))). inr
          (⊎_elim (λ (y : p ≡ q). inl (sym y)) (λ (y : o.0 ≡ q). inr (c, o.1, e ∙ (λ i. Some (y i, o.1)))) x.1))
          (λ (x : F q ≡ true). inl x)
          (meets_is c o e q h)
  newly _ _ h = inl h

  -- an offer that is pending after it was pending before it, or is p's
  pub pends_after : (h : Happening) (d : Channel) (q : Name) (o : ℕ) → (knowledge_after j n p h).pending d ≡ Some (q, o)
      → (j.pending d ≡ Some (q, o)) ⊎ (q ≡ p)
  pends_after (Offered w c) d q o h = by (j.pending c) refl h
    where
      by : (x : Option (Name × ℕ)) → j.pending c ≡ x → (knowledge_after_offer j p n c x).pending d ≡ Some (q, o)
          → (j.pending d ≡ Some (q, o)) ⊎ (q ≡ p)
      by None e h = ⊎_elim (λ (y : (p, n) ≡ (q, o)). inr (ap (λ (z : Name × ℕ). z.0) (sym y)))
          (λ (y : j.pending d ≡ Some (q, o)). inl y) (wait_pending c e d (q, o) h)
      by (Some x) e h = inl (then_pending c x e d (q, o) h)
  pends_after _ _ _ _ h = inl h

  -- nobody has what is to come
  pub none_yet : Someone F j n → ⊥
  none_yet s = no_old s.0 s.2
