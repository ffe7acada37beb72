-- What is known is closed under what was known before it; so the entries of a witness's first part depend on none of
-- the others before them.
use Rattle.std.proofs.Common.{◌≡◌, ◌⊎◌, ⊎_elim, inl, inr, ℕ, suc, ◌+◌, ◌-◌, ◌<◌, ◌≤◌, nat_lt, Bool, true, false, cond}
use Rattle.std.proofs.Common.{◌&&◌, ◌||◌, ◌==◌, List, [], ◌∷◌, ◌++◌, length, append_assoc, append-nil, take, drop}
use Rattle.std.proofs.Common.{take_at, Option, Some, None, slice_get, refl, sym, ap, ◌∙◌, subst, arith, eqb-true}
use Rattle.std.proofs.lemmas.List.{take-append-drop}
use Rattle.std.proofs.Math.Seq.{take-append-add}
use Rattle.std.proofs.lemmas.Bool.{false_from_ne_true, or_cases, or_left, or_parts, or_right}
use Rattle.std.proofs.lemmas.Option.{none-some, same_Some}
use Rattle.sp_base.proofs.Facts.{first_true, second_true, true_is_not_false}
use Rattle.sp_journal.specs.Names.{Name, Channel, same_name, same_channel, Happening, Opened, Forked, Offered, Ended}
use Rattle.sp_journal.specs.Names.{Faulted, Laid, Paused, Occurrence}
use Rattle.sp_journal.specs.Past.{Knowledge, learn, known_with, knowledge_after_offer, knowledge_after, knowledge_from}
use Rattle.sp_journal.specs.Past.{knowledge_of, no_knowledge}
use Rattle.sp_journal.proofs.NameLaws.{name_itself, name_is}
use Rattle.sp_meaning.specs.Along.{IsCleanly, IsClean}
use Rattle.sp_race.specs.Prefixes.{is_counted, Counts, WaitersSilentFrom}
use Rattle.sp_race.proofs.PrefixLaws.{learn_all, teach_all, report_all, learn_more, teach_more, report_more}
use Rattle.sp_race.proofs.PrefixLaws.{PrefixesAreKnown}
use Rattle.sp_race.proofs.PrefixLaws.{one_entry}
use Rattle.sp_race.proofs.NoteLaws.{last_entry, kept_entry, grown_size}
use Rattle.sp_witness.specs.Witness.{who_of, who_at, past_before, is_pause, is_known, offers_after, is_member, is_among}
use Rattle.sp_witness.proofs.IndependentSteps.{Head, MarkedFree, Cuts}

-- nothing is forgotten
pub past_stays : (j : Knowledge) (n : ℕ) (p : Name) (h : Happening) (q : Name) (k : ℕ) → j.past q k ≡ true
    → (knowledge_after j n p h).past q k ≡ true
past_stays j n p Opened q k e = learn_more p (λ i. n == i) j.past q k e
past_stays j n p (Forked m) q k e =
    teach_more p (j.forks p) (known_with j p n) 0 m (learn p (λ i. n == i) j.past) q k
    (learn_more p (λ i. n == i) j.past q k e)
past_stays j n p (Offered w c) q k e = by (j.pending c)
  where
    by : (o : Option (Name × ℕ)) → (knowledge_after_offer j p n c o).past q k ≡ true
    by None = e
    by (Some o) =
        let both : ℕ → Bool = λ i. known_with j p n i || known_with j o.0 o.1 i in
        learn_more o.0 both (learn p both j.past) q k (learn_more p both j.past q k e)
past_stays j n p Ended q k e =
    report_more p (known_with j p n) (learn p (λ i. n == i) j.past) q k (learn_more p (λ i. n == i) j.past q k e)
past_stays j n p (Faulted f) q k e = e
past_stays j n p Laid q k e = e
past_stays j n p Paused q k e = e

stays_from : (j : Knowledge) (n : ℕ) (es : List Occurrence) (q : Name) (k : ℕ) → j.past q k ≡ true
    → (knowledge_from j n es).past q k ≡ true
stays_from j n [] q k h = h
stays_from j n (e ∷ es) q k h =
    stays_from (knowledge_after j n e.who e.what) (suc n) es q k (past_stays j n e.who e.what q k h)

from_append : (j : Knowledge) (n : ℕ) (xs ys : List Occurrence)
    → knowledge_from j n (xs ++ ys) ≡ knowledge_from (knowledge_from j n xs) (n + length xs) ys
from_append j n [] ys = let e : n ≡ n + 0 = omega arith in ap (λ x. knowledge_from j x ys) e
from_append j n (x ∷ xs) ys = let e : suc n + length xs ≡ n + suc (length xs) = omega arith in
    from_append (knowledge_after j n x.who x.what) (suc n) xs ys
    ∙ ap (λ z. knowledge_from (knowledge_from (knowledge_after j n x.who x.what) (suc n) xs) z ys) e

pub judged_append : (xs ys : List Occurrence) → knowledge_of (xs ++ ys) ≡ knowledge_from (knowledge_of xs)
    (length xs) ys
judged_append xs ys = let e : 0 + length xs ≡ length xs = omega arith in from_append no_knowledge 0 xs ys
    ∙ ap (λ z. knowledge_from (knowledge_of xs) z ys) e

pub get_at : (xs : List Occurrence) (e : Occurrence) (ys : List Occurrence) (n : ℕ) → length xs ≡ n
    → slice_get (xs ++ e ∷ ys) n ≡ Some e
get_at [] e ys n h = subst (λ z. slice_get (e ∷ ys) z ≡ Some e) h refl
get_at (x ∷ xs) e ys n h = subst (λ z. slice_get (x ∷ (xs ++ e ∷ ys)) z ≡ Some e) h (get_at xs e ys (length xs) refl)

-- the entries by their heads
abbrev pub heads_from : Knowledge → ℕ → List Occurrence → List Head
heads_from j n [] = []
heads_from j n (e ∷ es) =
    record { who = e.who; what = e.what; position = n; knows = j.past e.who }
    ∷ heads_from (knowledge_after j n e.who e.what) (suc n) es

module _ (es : List Occurrence) where
  -- some entries are done, and the others are to come
  pub record Stage (done rest : List Occurrence) (j : Knowledge) (n : ℕ) : Type 0 where
    pub whole : es ≡ done ++ rest
    pub knowledge_is : j ≡ knowledge_of done
    pub size : length done ≡ n

  pub next_stage : (done : List Occurrence) (e : Occurrence) (rest : List Occurrence) (j : Knowledge) (n : ℕ)
      → Stage done (e ∷ rest) j n → Stage (done ++ e ∷ []) rest (knowledge_after j n e.who e.what) (suc n)
  next_stage done e rest j n st = record {
    whole = st.whole ∙ sym (append_assoc done (e ∷ []) rest);
    knowledge_is = (λ i. knowledge_after (st.knowledge_is i) (sym st.size i) e.who e.what)
        ∙ sym (judged_append done (e ∷ []));
    size = grown_size done n e st.size;
  }

  pub past_here : (done : List Occurrence) (e : Occurrence) (rest : List Occurrence) (j : Knowledge) (n : ℕ)
      → Stage done (e ∷ rest) j n → (k : ℕ) → past_before es n k ≡ j.past e.who k
  past_here done e rest j n st k =
      let front : take n es ≡ done = ap (take n) st.whole ∙ take_at done (e ∷ rest) n st.size in
      let got : slice_get es n ≡ Some e = ap (λ xs. slice_get xs n) st.whole ∙ get_at done e rest n st.size in
      (λ i. (knowledge_of (front i)).past (who_of (got i)) k)
      ∙ ap (λ (x : Knowledge). x.past e.who k) (sym st.knowledge_is)

  -- who knows an entry knows what its process knew before it
  abbrev pub KnowsPastOfKnown : (ℕ → Bool) → Type 0
  KnowsPastOfKnown f = (m k : ℕ) → f m ≡ true → past_before es m k ≡ true → f k ≡ true

  record Closed (j : Knowledge) : Type 0 where
    past : (q : Name) → KnowsPastOfKnown (j.past q)
    pending : (c : Channel) (z : Name) (o k : ℕ) → j.pending c ≡ Some (z, o) → past_before es o k ≡ true
        → j.past z k ≡ true

  union_closed : (f h : ℕ → Bool) → KnowsPastOfKnown f → KnowsPastOfKnown h → KnowsPastOfKnown (λ i. f i || h i)
  union_closed f h a b m k e p =
      ⊎_elim (λ (x : f m ≡ true). or_left (f k) (h k) (a m k x p))
      (λ (x : h m ≡ true). or_right (f k) (h k) (b m k x p)) (or_cases (f m) (h m) e)

  module _ (j : Knowledge) (n : ℕ) (p : Name) (here : (k : ℕ) → past_before es n k ≡ j.past p k)
      (closed : Closed j) where
    mine : KnowsPastOfKnown (known_with j p n)
    mine m k e h = ⊎_elim
        (λ (x : j.past p m ≡ true). or_left (j.past p k) (n == k) (closed.past p m k x h))
        (λ (x : n == m ≡ true). or_left (j.past p k) (n == k) (sym (here k)
        ∙ subst (λ z. past_before es z k ≡ true) (sym (eqb-true n m x)) h))
        (or_cases (j.past p m) (n == m) e)

    index : (q : Name) → KnowsPastOfKnown (learn p (λ i. n == i) j.past q)
    index q = by (same_name p q) (name_is p q)
      where
        by : (t : Bool) → (t ≡ true → p ≡ q) → KnowsPastOfKnown (λ i. cond t (j.past q i || (n == i)) (j.past q i))
        by true f = subst (λ (x : Name). KnowsPastOfKnown (λ i. j.past x i || (n == i))) (f refl) mine
        by false f = closed.past q

    theirs : (c : Channel) (o : Name × ℕ) → j.pending c ≡ Some o → KnowsPastOfKnown (known_with j o.0 o.1)
    theirs c o met m k e h = ⊎_elim
        (λ (x : j.past o.0 m ≡ true). or_left (j.past o.0 k) (o.1 == k) (closed.past o.0 m k x h))
        (λ (x : o.1 == m ≡ true). or_left (j.past o.0 k) (o.1 == k)
        (closed.pending c o.0 o.1 k met (subst (λ z. past_before es z k ≡ true) (sym (eqb-true o.1 m x)) h)))
        (or_cases (j.past o.0 m) (o.1 == m) e)

    closed_by : (h : Happening) → Closed (knowledge_after j n p h)
    closed_by Opened = record {
      past = index;
      pending =
          λ c z o k e h. learn_more p (λ i. n == i) j.past z k (closed.pending c z o k e h);
    }
    closed_by (Forked m) =
        let mid : Name → ℕ → Bool = learn p (λ i. n == i) j.past in
        record {
          past = teach_all KnowsPastOfKnown union_closed (known_with j p n) mine p (j.forks p) 0 m mid index;
          pending = λ c z o k e h. teach_more p (j.forks p) (known_with j p n) 0 m mid z k
              (learn_more p (λ i. n == i) j.past z k (closed.pending c z o k e h));
        }
    closed_by Ended =
        let mid : Name → ℕ → Bool = learn p (λ i. n == i) j.past in
        record {
          past = report_all KnowsPastOfKnown union_closed (known_with j p n) mine p mid index;
          pending = λ c z o k e h. report_more p (known_with j p n) mid z k
              (learn_more p (λ i. n == i) j.past z k (closed.pending c z o k e h));
        }
    closed_by (Offered w c) = by (j.pending c) refl
      where
        by : (o : Option (Name × ℕ)) → j.pending c ≡ o → Closed (knowledge_after_offer j p n c o)
        by None e = record { past = closed.past; pending = λ d z o k f h. at d z o k (same_channel c d) f h }
          where
            at : (d : Channel) (z : Name) (o k : ℕ) (t : Bool) → cond t (Some (p, n)) (j.pending d) ≡ Some (z, o)
                → past_before es o k ≡ true → j.past z k ≡ true
            at d z o k true f h =
                let is : (p, n) ≡ (z, o) = same_Some _ _ f in
                subst (λ (x : Name × ℕ). j.past x.0 k ≡ true) is (sym (here k)
                ∙ subst (λ (x : Name × ℕ). past_before es x.1 k ≡ true) (sym is) h)
            at d z o k false f h = closed.pending d z o k f h
        by (Some o) e =
            let both : ℕ → Bool = λ i. known_with j p n i || known_with j o.0 o.1 i in
            let known : KnowsPastOfKnown both =
            union_closed (known_with j p n) (known_with j o.0 o.1) mine (theirs c o e) in
            record {
              past = learn_all KnowsPastOfKnown union_closed both known o.0 (learn p both j.past)
                  (learn_all KnowsPastOfKnown union_closed both known p j.past closed.past);
              pending = λ d z x k f h. learn_more o.0 both (learn p both j.past) z k
                  (learn_more p both j.past z k (at d z x k (same_channel c d) f h));
            }
          where
            at : (d : Channel) (z : Name) (x k : ℕ) (t : Bool) → cond t None (j.pending d) ≡ Some (z, x)
                → past_before es x k ≡ true → j.past z k ≡ true
            at d z x k true f h = absurd (none-some _ f)
            at d z x k false f h = closed.pending d z x k f h
    closed_by (Faulted f) = closed
    closed_by Laid = closed
    closed_by Paused = closed

  nothing_closed : Closed no_knowledge
  nothing_closed = record {
    past = λ q m k e h. true_is_not_false (sym e);
    pending = λ c z o k e h. absurd (none-some _ e);
  }

  closed_walk : (done mid rest : List Occurrence) → es ≡ done ++ (mid ++ rest) → Closed (knowledge_of done)
      → Closed (knowledge_of (done ++ mid))
  closed_walk done [] rest w c = subst (λ x. Closed (knowledge_of x)) (sym (append-nil done)) c
  closed_walk done (e ∷ mid) rest w c =
      let st : Stage done (e ∷ (mid ++ rest)) (knowledge_of done) (length done) =
      record { whole = w; knowledge_is = refl; size = refl } in
      let s = next_stage done e (mid ++ rest) (knowledge_of done) (length done) st in
      subst (λ x. Closed (knowledge_of x)) (append_assoc done (e ∷ []) mid)
      (closed_walk (done ++ e ∷ []) mid rest s.whole
      (subst Closed s.knowledge_is (closed_by (knowledge_of done) (length done) e.who
      (past_here done e (mid ++ rest) (knowledge_of done) (length done) st) c e.what)))

  closed_at : (i : ℕ) (q : Name) → KnowsPastOfKnown ((knowledge_of (take i es)).past q)
  closed_at i q = (closed_walk [] (take i es) (drop i es) (sym (take-append-drop i es)) nothing_closed).past q

  -- what is known at a stage is known at a later index
  reach : (done rest : List Occurrence) (j : Knowledge) (n : ℕ) → Stage done rest j n → (i : ℕ) → n ≤ i
      → (q : Name) (k : ℕ) → j.past q k ≡ true → (knowledge_of (take i es)).past q k ≡ true
  reach done rest j n st i le q k h =
      let s = st.size in
      let sum : i ≡ length done + (i - n) = omega (arith, s, le) in
      let front : take i es ≡ done ++ take (i - n) rest = ap (take i) st.whole ∙ ap (λ x. take x (done ++ rest)) sum
      ∙ take-append-add done rest (i - n) in
      let all : knowledge_of (take i es) ≡ knowledge_from (knowledge_of done) (length done) (take (i - n) rest) =
      ap knowledge_of front
      ∙ judged_append done (take (i - n) rest) in
      subst (λ (x : Knowledge). x.past q k ≡ true) (sym all)
      (stays_from (knowledge_of done) (length done) (take (i - n) rest) q k
      (ap (λ (x : Knowledge). x.past q k) (sym st.knowledge_is)
      ∙ h))

  module _ (earlier later : ℕ) where
    abbrev known : ℕ → Bool
    known = is_known es earlier later

    known_closed : KnowsPastOfKnown known
    known_closed = union_closed (past_before es earlier) (past_before es later) (closed_at earlier (who_at es earlier))
        (closed_at later (who_at es later))

    below_is : (n i : ℕ) → nat_lt n i ≡ true → n ≤ i
    below_is n i h = grind (arith, h)

    after_knows : (done rest : List Occurrence) (j : Knowledge) (n : ℕ) → Stage done rest j n → (q : Name) (k : ℕ)
        → offers_after es earlier later q n ≡ true → j.past q k ≡ true → known k ≡ true
    after_knows done rest j n st q k h p = ⊎_elim
        (λ (x : same_name q (who_at es earlier) && nat_lt n earlier ≡ true). or_left (past_before es earlier k)
        (past_before es later k) (by earlier x))
        (λ (x : same_name q (who_at es later) && nat_lt n later ≡ true). or_right (past_before es earlier k)
        (past_before es later k) (by later x))
        (or_cases (same_name q (who_at es earlier) && nat_lt n earlier)
        (same_name q (who_at es later) && nat_lt n later) h)
      where
        by : (i : ℕ) → same_name q (who_at es i) && nat_lt n i ≡ true → past_before es i k ≡ true
        by i x =
            let is : q ≡ who_at es i = name_is q (who_at es i)
            (first_true (same_name q (who_at es i)) (nat_lt n i) x) in
            subst (λ (z : Name). (knowledge_of (take i es)).past z k ≡ true) is
            (reach done rest j n st i (below_is n i (second_true (same_name q (who_at es i)) (nat_lt n i) x)) q k p)

    abbrev member : ℕ → Occurrence → Bool → Bool
    member = is_member es earlier later

    abbrev among : Name → ℕ → List Occurrence → Bool
    among = is_among es earlier later

    -- what the process of an entry in the first part knew is known
    member_by : (done : List Occurrence) (e : Occurrence) (rest : List Occurrence) (j : Knowledge) (n : ℕ)
        → Stage done (e ∷ rest) j n → (b : Bool) (k : ℕ) → (b ≡ true → known k ≡ true) → member n e b ≡ true
        → j.past e.who k ≡ true → known k ≡ true
    member_by done e rest j n st b k go h p = ⊎_elim
        (λ (x : known n ≡ true). known_closed n k x (past_here done e rest j n st k ∙ p))
        (λ (x : is_pause e.what && (offers_after es earlier later e.who n || b) ≡ true). ⊎_elim
        (λ (y : offers_after es earlier later e.who n ≡ true). after_knows done (e ∷ rest) j n st e.who k y p)
        go
        (or_cases (offers_after es earlier later e.who n) b
        (second_true (is_pause e.what) (offers_after es earlier later e.who n || b) x)))
        (or_cases (known n) (is_pause e.what && (offers_after es earlier later e.who n || b)) h)

    among_knows : (done mid tail : List Occurrence) (j : Knowledge) (n : ℕ) → Stage done (mid ++ tail) j n
        → (q : Name) (k : ℕ) → among q n mid ≡ true → j.past q k ≡ true → known k ≡ true
    among_knows done [] tail j n st q k h p = true_is_not_false (sym h)
    among_knows done (e ∷ mid) tail j n st q k h p =
        let s = next_stage done e (mid ++ tail) j n st in
        let j' = knowledge_after j n e.who e.what in
        ⊎_elim
        (λ (x : same_name q e.who && member n e (among e.who (suc n) mid) ≡ true).
        let is : q ≡ e.who = name_is q e.who
        (first_true (same_name q e.who) (member n e (among e.who (suc n) mid)) x) in
        let p' : j.past e.who k ≡ true = subst (λ (z : Name). j.past z k ≡ true) is p in
        member_by done e (mid ++ tail) j n st (among e.who (suc n) mid) k
        (λ y. among_knows (done ++ e ∷ []) mid tail j' (suc n) s e.who k y (past_stays j n e.who e.what e.who k p'))
        (second_true (same_name q e.who) (member n e (among e.who (suc n) mid)) x) p')
        (λ (x : among q (suc n) mid ≡ true). among_knows (done ++ e ∷ []) mid tail j' (suc n) s q k x
        (past_stays j n e.who e.what q k p))
        (or_cases (same_name q e.who && member n e (among e.who (suc n) mid)) (among q (suc n) mid) h)

    pub member_knows : (done : List Occurrence) (e : Occurrence) (mid tail : List Occurrence) (j : Knowledge) (n : ℕ)
        → Stage done (e ∷ (mid ++ tail)) j n → (k : ℕ) → member n e (among e.who (suc n) mid) ≡ true
        → j.past e.who k ≡ true → known k ≡ true
    member_knows done e mid tail j n st k h p = member_by done e (mid ++ tail) j n st (among e.who (suc n) mid) k
        (λ y. among_knows (done ++ e ∷ []) mid tail (knowledge_after j n e.who e.what) (suc n)
        (next_stage done e (mid ++ tail) j n st) e.who k y (past_stays j n e.who e.what e.who k p)) h p

    -- the marks of these entries say which are in the first part
    abbrev pub MarksAre : (ℕ → Bool) → ℕ → List Occurrence → Type 0
    MarksAre mark n [] = Unit {0}
    MarksAre mark n (e ∷ mid) = (mark n ≡ member n e (among e.who (suc n) mid)) × MarksAre mark (suc n) mid

    -- why a process has no further entry in the first part: an entry of its own is not known, or it has none
    abbrev Reason : List Occurrence → ℕ → List Occurrence → Name → ℕ → Type 0
    Reason done n mid q m = Counts done q m ⊎ (among q n mid ≡ false)

    -- an entry that is not known: those in the first part after it are free of it
    free_from : (mark : ℕ → Bool) (a : Head) (done mid tail : List Occurrence) (j : Knowledge) (n : ℕ)
        → Stage done (mid ++ tail) j n → PrefixesAreKnown j done → WaitersSilentFrom j n mid → MarksAre mark n mid
        → a.position < n → known a.position ≡ false → Reason done n mid a.who a.position
        → MarkedFree mark a (heads_from j n mid)
    free_from mark a done [] tail j n st kept silent marks lt not why = tt
    free_from mark a done (e ∷ mid) tail j n st kept silent marks lt not why = (
      λ marked.
          let h : member n e (among e.who (suc n) mid) ≡ true = sym marks.0 ∙ marked in
          let unknown : j.past e.who a.position ≡ true → ⊥ =
          λ p. true_is_not_false (sym (member_knows done e mid tail j n st a.position h p) ∙ not) in (
            λ is. ⊎_elim
                (λ (c : Counts done a.who a.position). ⊎_elim
                (λ (p : j.past a.who a.position ≡ true). unknown
                (subst (λ (z : Name). j.past z a.position ≡ true) is p))
                (λ (w : (d : Channel) × (j.pending d ≡ Some (a.who, a.position))). silent.0 w.0 a.position (w.1
                ∙ (λ i. Some (is i, a.position))))
                (kept.own a.who a.position c))
                (λ (none : among a.who n (e ∷ mid) ≡ false).
                let x = (or_parts (same_name a.who e.who && member n e (among e.who (suc n) mid))
                (among a.who (suc n) mid) none).0 in
                let same : same_name a.who e.who ≡ true =
                subst (λ (z : Name). same_name a.who z ≡ true) is (name_itself a.who) in
                true_is_not_false (sym h ∙ (ap (λ b. b && member n e (among e.who (suc n) mid)) (sym same) ∙ x)))
                why,
            lt,
            false_from_ne_true (j.past e.who a.position) unknown,
          ),
      free_from mark a (done ++ e ∷ []) mid tail (knowledge_after j n e.who e.what) (suc n)
          (next_stage done e (mid ++ tail) j n st)
          (subst (λ z. PrefixesAreKnown (knowledge_after j z e.who e.what) (done ++ e ∷ [])) st.size
          (one_entry j done e.who e.what kept silent.0)) silent.1 marks.1 (omega (arith, lt)) not
          (⊎_elim (λ (c : Counts done a.who a.position). inl (c.0, kept_entry done e _ a.position c.1, c.2))
          (λ (none : among a.who n (e ∷ mid) ≡ false). inr
          (or_parts (same_name a.who e.who && member n e (among e.who (suc n) mid)) (among a.who (suc n) mid)
          none).1) why),
    )

    -- each entry in the first part is free of each before it that is not
    pub cuts_from : (mark : ℕ → Bool) (done mid tail : List Occurrence) (j : Knowledge) (n : ℕ)
        → Stage done (mid ++ tail) j n → PrefixesAreKnown j done → WaitersSilentFrom j n mid → IsClean mid
        → MarksAre mark n mid
        → Cuts mark (heads_from j n mid)
    cuts_from mark done [] tail j n st kept silent clean marks = tt
    cuts_from mark done (e ∷ mid) tail j n st kept silent clean marks =
        let s = next_stage done e (mid ++ tail) j n st in
        let kept' = subst (λ z. PrefixesAreKnown (knowledge_after j z e.who e.what) (done ++ e ∷ [])) st.size
        (one_entry j done e.who e.what kept silent.0) in (
          λ unmarked.
              let h : member n e (among e.who (suc n) mid) ≡ false = sym marks.0 ∙ unmarked in
              let parts = or_parts (known n)
              (is_pause e.what && (offers_after es earlier later e.who n || among e.who (suc n) mid)) h in
              free_from mark (record { who = e.who; what = e.what; position = n; knows = j.past e.who })
              (done ++ e ∷ []) mid
              tail (knowledge_after j n e.who e.what) (suc n) s kept' silent.1 marks.1 (omega arith) parts.0
              (why e.what refl clean.0 parts.1),
          cuts_from mark (done ++ e ∷ []) mid tail (knowledge_after j n e.who e.what) (suc n) s kept' silent.1 clean.1
              marks.1,
        )
      where
        counted : (h : Happening) → e.what ≡ h → is_counted h ≡ true → Reason (done ++ e ∷ []) (suc n) mid e.who n
        counted h is c = inl (h, last_entry done n e st.size ∙ (λ i. Some (record { who = e.who; what = is i })), c)

        why : (h : Happening) → e.what ≡ h → IsCleanly h
            → is_pause h && (offers_after es earlier later e.who n || among e.who (suc n) mid) ≡ false
            → Reason (done ++ e ∷ []) (suc n) mid e.who n
        why Opened is ok out = counted Opened is refl
        why (Forked m) is ok out = counted (Forked m) is refl
        why (Offered w c) is ok out = counted (Offered w c) is refl
        why Ended is ok out = counted Ended is refl
        why (Faulted f) is ok out = absurd ok
        why Laid is ok out = absurd ok
        why Paused is ok out = inr (or_parts (offers_after es earlier later e.who n) (among e.who (suc n) mid) out).1
