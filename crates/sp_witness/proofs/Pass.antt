-- The pass backwards takes exactly the first part of the witness.
use Rattle.std.proofs.Common.{◌≡◌, ◌≢◌, ◌⊎◌, ⊎_elim, inl, inr, ℕ, suc, ◌+◌, ◌<◌, ◌≤◌, nat_lt, Bool, true, false, cond}
use Rattle.std.proofs.Common.{◌&&◌, ◌||◌, ◌==◌, List, [], ◌∷◌, ◌++◌, length, Some, slice_get, eqb-true, eq-eqb, refl}
use Rattle.std.proofs.Common.{sym, ap, ◌∙◌, subst, arith}
use Rattle.std.proofs.lemmas.Bool.{and_from, lt-ltb, ltb-true, or_cases, or_left, or_right}
use Rattle.std.proofs.lemmas.Option.{slice_get_within}
use Rattle.sp_base.proofs.Facts.{first_true, same_if_both_follow, second_true, true_is_not_false}
use Rattle.sp_journal.specs.Names.{Name, Channel, same_name, Happening, Opened, Forked, Offered, Ended, Faulted, Laid}
use Rattle.sp_journal.specs.Names.{Paused, Occurrence}
use Rattle.sp_journal.specs.Past.{Knowledge, knowledge_after}
use Rattle.sp_journal.proofs.NameLaws.{name_itself, name_is}
use Rattle.sp_meaning.specs.Along.{IsCleanly, IsClean}
use Rattle.sp_race.specs.Prefixes.{WaitsForNone, WaitersSilentFrom}
use Rattle.sp_witness.specs.Witness.{who_of, who_at, past_before, is_pause, is_known, offers_after, is_member, is_among}
use Rattle.sp_witness.specs.Witness.{members}
use Rattle.sp_witness.specs.NeededEntries.{needed_before, needed_processes, needed_entries, needed_marks}
use Rattle.sp_witness.proofs.Pasts.{Stage, next_stage, past_here, get_at}
use Rattle.sp_witness.proofs.PastFacts.{KnowledgeFacts, stands_next}
use Rattle.sp_witness.proofs.BackwardPass.{HasEntry, Someone, IsCounted, more, passed, newly, pends_after, none_yet}

module _ (es : List Occurrence) (earlier later : ℕ) where
  abbrev among : Name → ℕ → List Occurrence → Bool
  among = is_among es earlier later

  abbrev F_of : Knowledge → ℕ → List Occurrence → Name → Bool
  F_of = needed_processes es earlier later

  -- known to the process of an offer at index n or after it
  abbrev KnownAt : ℕ → ℕ → Type 0
  KnownAt n m = (past_before es later m ≡ true) ⊎ ((n ≤ earlier) × (past_before es earlier m ≡ true))

  -- q makes one of the two offers at index n or after it
  abbrev Offers : Name → ℕ → Type 0
  Offers q n = ((who_at es earlier ≡ q) × (n ≤ earlier)) ⊎ (who_at es later ≡ q)

  abbrev Waits : Knowledge → Name → Type 0
  Waits j q = (c : Channel) × (o : ℕ) × (j.pending c ≡ Some (q, o))

  -- whether each of these entries is in the first part
  abbrev pub member_marks : ℕ → List Occurrence → List Bool
  member_marks n [] = []
  member_marks n (e ∷ mid) = is_member es earlier later n e (among e.who (suc n) mid) ∷ member_marks (suc n) mid

  record Inv (j : Knowledge) (n : ℕ) (mid : List Occurrence) : Type 0 where
    has : (m : ℕ) → m < n → KnownAt n m → Someone (F_of j n mid) j m
    is : (m : ℕ) → m < n → Someone (F_of j n mid) j m → KnownAt n m
    why : (q : Name) → F_of j n mid q ≡ true → Offers q n ⊎ ((among q n mid ≡ true) ⊎ Waits j q)
    offers : (q : Name) → Offers q n → F_of j n mid q ≡ true
    members_too : (q : Name) → among q n mid ≡ true → F_of j n mid q ≡ true
    same : needed_entries es earlier later j n mid ≡ members es earlier later n mid
    marks_same : needed_marks es earlier later j n mid ≡ member_marks n mid

  who_here : (done : List Occurrence) (e : Occurrence) (rest : List Occurrence) (j : Knowledge) (n : ℕ)
      → Stage es done (e ∷ rest) j n → who_at es n ≡ e.who
  who_here done e rest j n st = ap who_of (ap (λ xs. slice_get xs n) st.whole ∙ get_at done e rest n st.size)

  module _ (in_order : earlier < later) (below_first : (k : ℕ) → past_before es earlier k ≡ true → k < earlier)
      (two : Occurrence) (after : List Occurrence) where
    -- before the later offer
    at_end : (done : List Occurrence) (j : Knowledge) (n : ℕ) → Stage es done (two ∷ after) j n → n ≡ later
        → WaitsForNone j two.who → Inv j n []
    at_end done j n st end silent = record {
      has = λ m lt k. ⊎_elim
          (λ (x : past_before es later m ≡ true). (
            who_at es later,
            name_itself (who_at es later),
            inl (subst (λ z. j.past z m ≡ true) (sym who) (sym (past_here es done two after j n st m)
                ∙ subst (λ z. past_before es z m ≡ true) (sym end) x)),
          ))
          (λ (x : (n ≤ earlier) × (past_before es earlier m ≡ true)). let l = x.0 in
          absurd (omega (arith, l, end, in_order)))
          k;
      is = λ m lt s.
          let q_is : s.0 ≡ who_at es later = name_is s.0 (who_at es later) s.1 in
          let p_is : s.0 ≡ two.who = q_is ∙ who in
          ⊎_elim
          (λ (x : j.past s.0 m ≡ true). inl
          (subst (λ z. past_before es z m ≡ true) end (past_here es done two after j n st m
          ∙ subst (λ z. j.past z m ≡ true) p_is x)))
          (λ (x : (c : Channel) × (j.pending c ≡ Some (s.0, m))). absurd (silent x.0 m (x.1 ∙ (λ i. Some (p_is i, m)))))
          s.2;
      why = λ q h. inl (inr (sym (name_is q (who_at es later) h)));
      offers = λ q o. ⊎_elim
          (λ (x : (who_at es earlier ≡ q) × (n ≤ earlier)). let l = x.1 in absurd (omega (arith, l, end, in_order)))
          (λ (x : who_at es later ≡ q). subst (λ z. same_name z (who_at es later) ≡ true) x
          (name_itself (who_at es later)))
          o;
      members_too = λ q h. true_is_not_false (sym h);
      same = refl;
      marks_same = refl;
    }
      where
        who : who_at es later ≡ two.who
        who = subst (λ z. who_at es z ≡ two.who) end (who_here done two after j n st)

    -- one entry
    module _ (done : List Occurrence) (e : Occurrence) (mid : List Occurrence) (j : Knowledge) (n : ℕ)
        (st : Stage es done (e ∷ (mid ++ two ∷ after)) j n) (stands : KnowledgeFacts j done n)
        (silent : WaitsForNone j e.who)
        (clean : IsCleanly e.what) (less : n < later)
        (inv : Inv (knowledge_after j n e.who e.what) (suc n) mid) where
      abbrev j' : Knowledge
      j' = knowledge_after j n e.who e.what

      abbrev F' : Name → Bool
      F' = F_of j' (suc n) mid

      abbrev G : Name → Bool
      G = needed_before j e.who e.what F'

      abbrev F : Name → Bool
      F = F_of j n (e ∷ mid)

      below : (q : Name) (i : ℕ) → j.past q i ≡ true → i < n
      below q i h = stands.paired.below q i h

      bound : (c : Channel) (z : Name) (o : ℕ) → j.pending c ≡ Some (z, o) → o < n
      bound c z o h = subst (λ k. o < k) st.size (slice_get_within done o _ (stands.kept.waiting c z o h).1)

      abbrev M : Bool
      M = is_member es earlier later n e (among e.who (suc n) mid)

      known_is : KnownAt (suc n) n → is_known es earlier later n ≡ true
      known_is k = ⊎_elim
          (λ (x : past_before es later n ≡ true). or_right (past_before es earlier n) (past_before es later n) x)
          (λ (x : (suc n ≤ earlier) × (past_before es earlier n ≡ true)). or_left (past_before es earlier n)
          (past_before es later n) x.1)
          k

      is_known_at : is_known es earlier later n ≡ true → KnownAt (suc n) n
      is_known_at h = ⊎_elim
          (λ (x : past_before es earlier n ≡ true). let l = below_first n x in inr (omega (arith, l), x))
          (λ (x : past_before es later n ≡ true). inl x)
          (or_cases (past_before es earlier n) (past_before es later n) h)

      counted_member : (h : Happening) → e.what ≡ h → is_pause h ≡ false → IsCounted h → G e.who ≡ M
      counted_member h is np ok =
          let p = passed j n e.who below bound stands.kept.single silent F' e.what (subst IsCounted (sym is) ok) in
          same_if_both_follow (G e.who) M
          (λ x. or_left (is_known es earlier later n)
          (is_pause e.what && (offers_after es earlier later e.who n || among e.who (suc n) mid))
          (known_is (inv.is n (omega arith) (p.known x))))
          (λ x. p.new (inv.has n (omega arith) (is_known_at (⊎_elim (λ (y : is_known es earlier later n ≡ true). y)
          (λ (y : is_pause e.what && (offers_after es earlier later e.who n || among e.who (suc n) mid) ≡ true).
          true_is_not_false (sym (first_true (is_pause e.what)
          (offers_after es earlier later e.who n || among e.who (suc n) mid) y) ∙ ap is_pause is ∙ np))
          (or_cases (is_known es earlier later n)
          (is_pause e.what && (offers_after es earlier later e.who n || among e.who (suc n) mid)) x)))))

      offers_to : Offers e.who (suc n) → offers_after es earlier later e.who n ≡ true
      offers_to o = ⊎_elim
          (λ (x : (who_at es earlier ≡ e.who) × (suc n ≤ earlier)).
          let l = x.1 in
          or_left (same_name e.who (who_at es earlier) && nat_lt n earlier)
          (same_name e.who (who_at es later) && nat_lt n later)
          (and_from (same_name e.who (who_at es earlier)) (nat_lt n earlier)
          (subst (λ z. same_name e.who z ≡ true) (sym x.0) (name_itself e.who))
          (lt-ltb n earlier (omega (arith, l)))))
          (λ (x : who_at es later ≡ e.who).
          or_right (same_name e.who (who_at es earlier) && nat_lt n earlier)
          (same_name e.who (who_at es later) && nat_lt n later)
          (and_from (same_name e.who (who_at es later)) (nat_lt n later)
          (subst (λ z. same_name e.who z ≡ true) (sym x) (name_itself e.who)) (lt-ltb n later less)))
          o

      offers_from : offers_after es earlier later e.who n ≡ true → Offers e.who (suc n)
      offers_from h = ⊎_elim
          (λ (x : same_name e.who (who_at es earlier) && nat_lt n earlier ≡ true).
          let l = ltb-true n earlier (second_true (same_name e.who (who_at es earlier)) (nat_lt n earlier) x) in
          inl (
            sym (name_is e.who (who_at es earlier)
                (first_true (same_name e.who (who_at es earlier)) (nat_lt n earlier) x)),
            omega (arith, l),
          ))
          (λ (x : same_name e.who (who_at es later) && nat_lt n later ≡ true). inr
          (sym (name_is e.who (who_at es later) (first_true (same_name e.who (who_at es later)) (nat_lt n later) x))))
          (or_cases (same_name e.who (who_at es earlier) && nat_lt n earlier)
          (same_name e.who (who_at es later) && nat_lt n later) h)

      pause_member : e.what ≡ Paused → G e.who ≡ M
      pause_member is =
          let g_is : G e.who ≡ F' e.who = ap (λ h. needed_before j e.who h F' e.who) is in
          let p_is : is_pause e.what ≡ true = ap is_pause is in
          let j_is : j' ≡ j = ap (knowledge_after j n e.who) is in
          same_if_both_follow (G e.who) M
          (λ x. or_right (is_known es earlier later n)
          (is_pause e.what && (offers_after es earlier later e.who n || among e.who (suc n) mid))
          (and_from (is_pause e.what) (offers_after es earlier later e.who n || among e.who (suc n) mid) p_is
          (⊎_elim
          (λ (o : Offers e.who (suc n)). or_left (offers_after es earlier later e.who n) (among e.who (suc n) mid)
          (offers_to o))
          (λ (o : (among e.who (suc n) mid ≡ true) ⊎ Waits j' e.who). ⊎_elim
          (λ (a : among e.who (suc n) mid ≡ true). or_right (offers_after es earlier later e.who n)
          (among e.who (suc n) mid) a)
          (λ (a : Waits j' e.who). absurd (silent a.0 a.1 (ap (λ (z : Knowledge). z.pending a.0) (sym j_is) ∙ a.2)))
          o)
          (inv.why e.who (sym g_is ∙ x)))))
          (λ x. g_is ∙ ⊎_elim
          (λ (y : is_known es earlier later n ≡ true). absurd
          (none_yet j n e.who below bound stands.kept.single silent F'
          (subst (λ z. Someone F' z n) j_is (inv.has n (omega arith) (is_known_at y)))))
          (λ (y : is_pause e.what && (offers_after es earlier later e.who n || among e.who (suc n) mid) ≡ true). ⊎_elim
          (λ (o : offers_after es earlier later e.who n ≡ true). inv.offers e.who (offers_from o))
          (λ (a : among e.who (suc n) mid ≡ true). inv.members_too e.who a)
          (or_cases (offers_after es earlier later e.who n) (among e.who (suc n) mid)
          (second_true (is_pause e.what) (offers_after es earlier later e.who n || among e.who (suc n) mid) y)))
          (or_cases (is_known es earlier later n)
          (is_pause e.what && (offers_after es earlier later e.who n || among e.who (suc n) mid)) x))

      member : G e.who ≡ M
      member = by e.what refl clean
        where
          by : (h : Happening) → e.what ≡ h → IsCleanly h → G e.who ≡ M
          by Opened is ok = counted_member Opened is refl tt
          by (Forked k) is ok = counted_member (Forked k) is refl tt
          by (Offered w c) is ok = counted_member (Offered w c) is refl tt
          by Ended is ok = counted_member Ended is refl tt
          by (Faulted f) is ok = absurd ok
          by Laid is ok = absurd ok
          by Paused is ok = pause_member is

      -- what somebody has goes over
      back : (m : ℕ) → m < n → Someone F' j' m → Someone G j m
      back m lt s = by e.what refl clean
        where
          counted : IsCounted e.what → Someone G j m
          counted ok = (passed j n e.who below bound stands.kept.single silent F' e.what ok).back m lt s

          by : (h : Happening) → e.what ≡ h → IsCleanly h → Someone G j m
          by (Faulted f) is ok = absurd ok
          by Laid is ok = absurd ok
          by Paused is ok = (
            s.0,
            more j n e.who below bound stands.kept.single silent F' e.what s.0 s.1,
            subst (λ (z : Knowledge). HasEntry z s.0 m) (ap (knowledge_after j n e.who) is) s.2,
          )
          by _ is _ = counted (subst IsCounted (sym is) tt)

      forth : (m : ℕ) → Someone G j m → Someone F' j' m
      forth m s = by e.what refl clean
        where
          counted : IsCounted e.what → Someone F' j' m
          counted ok = (passed j n e.who below bound stands.kept.single silent F' e.what ok).forth m s

          by : (h : Happening) → e.what ≡ h → IsCleanly h → Someone F' j' m
          by (Faulted f) is ok = absurd ok
          by Laid is ok = absurd ok
          by Paused is ok = (
            s.0,
            sym (ap (λ h. needed_before j e.who h F' s.0) is) ∙ s.1,
            subst (λ (z : Knowledge). HasEntry z s.0 m) (sym (ap (knowledge_after j n e.who) is)) s.2,
          )
          by _ is _ = counted (subst IsCounted (sym is) tt)

      from_F : (q : Name) → F q ≡ true → (G q ≡ true) ⊎ ((n ≡ earlier) × (q ≡ e.who))
      from_F q h = ⊎_elim (λ (x : G q ≡ true). inl x)
          (λ (x : (n == earlier) && same_name q e.who ≡ true). inr (
            eqb-true n earlier (first_true (n == earlier) (same_name q e.who) x),
            name_is q e.who (second_true (n == earlier) (same_name q e.who) x),
          ))
          (or_cases (G q) ((n == earlier) && same_name q e.who) h)

      to_F : (q : Name) → G q ≡ true → F q ≡ true
      to_F q h = or_left (G q) ((n == earlier) && same_name q e.who) h

      here_F : n ≡ earlier → F e.who ≡ true
      here_F h = or_right (G e.who) ((n == earlier) && same_name e.who e.who)
          (and_from (n == earlier) (same_name e.who e.who) (eq-eqb n earlier h) (name_itself e.who))

      more_F : (q : Name) → F' q ≡ true → F q ≡ true
      more_F q h = to_F q (more j n e.who below bound stands.kept.single silent F' e.what q h)

      member_among : G e.who ≡ true → among e.who n (e ∷ mid) ≡ true
      member_among h = or_left (same_name e.who e.who && M) (among e.who (suc n) mid)
          (and_from (same_name e.who e.who) M (name_itself e.who) (sym member ∙ h))

      at_or_before : n ≤ earlier → (n ≡ earlier) ⊎ (suc n ≤ earlier)
      at_or_before le = elim (n == earlier) as (λ b. n == earlier ≡ b → (n ≡ earlier) ⊎ (suc n ≤ earlier)) [
        | true ↦ λ h. inl (eqb-true n earlier h)
        | false ↦ λ h. let d : n ≢ earlier = λ f. true_is_not_false (sym (eq-eqb n earlier f) ∙ h) in
            inr (omega (arith, le, d))
      ] refl

      one_more : Inv j n (e ∷ mid)
      one_more = record {
        has = λ m lt k. ⊎_elim
            (λ (x : past_before es later m ≡ true). go m lt (inl x))
            (λ (x : (n ≤ earlier) × (past_before es earlier m ≡ true)). ⊎_elim
            (λ (i : n ≡ earlier). (
              e.who,
              here_F i,
              inl (sym (past_here es done e (mid ++ two ∷ after) j n st m)
                  ∙ subst (λ z. past_before es z m ≡ true) (sym i) x.1),
            ))
            (λ (i : suc n ≤ earlier). go m lt (inr (i, x.1)))
            (at_or_before x.0))
            k;
        is = λ m lt s. ⊎_elim
            (λ (x : G s.0 ≡ true). ⊎_elim
            (λ (y : past_before es later m ≡ true). inl y)
            (λ (y : (suc n ≤ earlier) × (past_before es earlier m ≡ true)). let l = y.0 in inr (omega (arith, l), y.1))
            (inv.is m (omega (arith, lt)) (forth m (s.0, x, s.2))))
            (λ (x : (n ≡ earlier) × (s.0 ≡ e.who)). ⊎_elim
            (λ (y : j.past s.0 m ≡ true). let i = x.0 in
            inr (
              omega (arith, i),
              subst (λ z. past_before es z m ≡ true) x.0 (past_here es done e (mid ++ two ∷ after) j n st m
                  ∙ subst (λ z. j.past z m ≡ true) x.1 y),
            ))
            (λ (y : (c : Channel) × (j.pending c ≡ Some (s.0, m))). absurd (silent y.0 m (y.1 ∙ (λ i. Some
            (x.1 i, m)))))
            s.2)
            (from_F s.0 s.1);
        why = λ q h. ⊎_elim
            (λ (x : G q ≡ true). ⊎_elim
            (λ (y : F' q ≡ true). ⊎_elim
            (λ (o : Offers q (suc n)). inl
            (⊎_elim (λ (z : (who_at es earlier ≡ q) × (suc n ≤ earlier)). let l = z.1 in
            inl (z.0, omega (arith, l))) (λ (z : who_at es later ≡ q). inr z) o))
            (λ (o : (among q (suc n) mid ≡ true) ⊎ Waits j' q). ⊎_elim
            (λ (a : among q (suc n) mid ≡ true). inr (inl (or_right (same_name q e.who && M) (among q (suc n) mid) a)))
            (λ (a : Waits j' q). ⊎_elim
            (λ (b : j.pending a.0 ≡ Some (q, a.1)). inr (inr (a.0, a.1, b)))
            (λ (b : q ≡ e.who). inr (inl (its q b x)))
            (pends_after j n e.who below bound stands.kept.single silent F' e.what a.0 q a.1 a.2))
            o)
            (inv.why q y))
            (λ (y : (q ≡ e.who) ⊎ Waits j q). ⊎_elim (λ (z : q ≡ e.who). inr (inl (its q z x)))
            (λ (z : Waits j q). inr (inr z)) y)
            (newly j n e.who below bound stands.kept.single silent F' e.what q x))
            (λ (x : (n ≡ earlier) × (q ≡ e.who)). let i = x.0 in
            inl (inl (
              subst (λ z. who_at es z ≡ q) x.0 (who_here done e (mid ++ two ∷ after) j n st ∙ sym x.1),
              omega (arith, i),
            )))
            (from_F q h);
        offers = λ q o. ⊎_elim
            (λ (x : (who_at es earlier ≡ q) × (n ≤ earlier)). ⊎_elim
            (λ (i : n ≡ earlier). subst (λ z. F z ≡ true) (sym (who_here done e (mid ++ two ∷ after) j n st)
            ∙ ap (who_at es) i ∙ x.0) (here_F i))
            (λ (i : suc n ≤ earlier). more_F q (inv.offers q (inl (x.0, i))))
            (at_or_before x.1))
            (λ (x : who_at es later ≡ q). more_F q (inv.offers q (inr x)))
            o;
        members_too = λ q h. ⊎_elim
            (λ (x : same_name q e.who && M ≡ true).
            subst (λ z. F z ≡ true) (sym (name_is q e.who (first_true (same_name q e.who) M x)))
            (to_F e.who (member ∙ second_true (same_name q e.who) M x)))
            (λ (x : among q (suc n) mid ≡ true). more_F q (inv.members_too q x))
            (or_cases (same_name q e.who && M) (among q (suc n) mid) h);
        same = λ i. cond (member i) (e ∷ inv.same i) (inv.same i);
        marks_same = λ i. member i ∷ inv.marks_same i;
      }
        where
          go : (m : ℕ) → m < n → KnownAt (suc n) m → Someone F j m
          go m lt k = let s = back m lt (inv.has m (omega (arith, lt)) k) in (s.0, to_F s.0 s.1, s.2)

          its : (q : Name) → q ≡ e.who → G q ≡ true → among q n (e ∷ mid) ≡ true
          its q i x = subst (λ z. among z n (e ∷ mid) ≡ true) (sym i) (member_among (subst (λ z. G z ≡ true) i x))

    passes : (done mid : List Occurrence) (j : Knowledge) (n : ℕ) → Stage es done (mid ++ two ∷ after) j n
        → KnowledgeFacts j done n → WaitersSilentFrom j n (mid ++ two ∷ after) → IsClean mid → n + length mid ≡ later
        → Inv j n mid
    passes done [] j n st stands silent clean size = at_end done j n st (omega (arith, size)) silent.0
    passes done (e ∷ mid) j n st stands silent clean size =
        one_more done e mid j n st stands silent.0 clean.0 (omega (arith, size))
        (passes (done ++ e ∷ []) mid (knowledge_after j n e.who e.what) (suc n)
        (next_stage es done e (mid ++ two ∷ after) j n st) (stands_next j done n e st.size stands silent.0) silent.1
        clean.1 (omega (arith, size)))

    pub taken_is : (done mid : List Occurrence) (j : Knowledge) (n : ℕ) → Stage es done (mid ++ two ∷ after) j n
        → KnowledgeFacts j done n → WaitersSilentFrom j n (mid ++ two ∷ after) → IsClean mid → n + length mid ≡ later
        → needed_entries es earlier later j n mid ≡ members es earlier later n mid
    taken_is done mid j n st stands silent clean size = (passes done mid j n st stands silent clean size).same

    pub marks_are : (done mid : List Occurrence) (j : Knowledge) (n : ℕ) → Stage es done (mid ++ two ∷ after) j n
        → KnowledgeFacts j done n → WaitersSilentFrom j n (mid ++ two ∷ after) → IsClean mid → n + length mid ≡ later
        → needed_marks es earlier later j n mid ≡ member_marks n mid
    marks_are done mid j n st stands silent clean size = (passes done mid j n st stands silent clean size).marks_same
