-- The parts of a witness: what is marked of the entries, which of them the two offers depend on, and the ticks at the
-- last entry of each process.
use Rattle.std.proofs.Common.{◌≡◌, ◌≢◌, ◌⊎◌, ⊎_elim, inl, inr, ℕ, suc, ◌+◌, ◌<◌, ◌≤◌, nat_lt, Bool, true, false, cond}
use Rattle.std.proofs.Common.{◌&&◌, ◌||◌, ◌==◌, if◌then◌else◌, List, [], ◌∷◌, ◌++◌, length, append_assoc, Option, Some}
use Rattle.std.proofs.Common.{slice_get, eq-eqb, refl, sym, ap, ◌∙◌, subst, arith}
use Rattle.std.proofs.lemmas.Bool.{lt-ltb, ne_eqb, or_parts}
use Rattle.sp_base.proofs.Facts.{cons_is_not_nil, nil_is_not_cons, same_head, same_tail, true_is_not_false}
use Rattle.sp_journal.specs.Names.{Name, Channel, same_name, Happening, Opened, Forked, Offered, Ended, Faulted, Laid}
use Rattle.sp_journal.specs.Names.{Paused, Occurrence}
use Rattle.sp_journal.specs.Past.{Knowledge, knowledge_after, knowledge_from}
use Rattle.sp_meaning.specs.LocalWork.{RunInput}
use Rattle.sp_meaning.specs.Along.{IsCleanly, IsClean}
use Rattle.sp_meaning.proofs.Maps.{differs}
use Rattle.sp_meaning.proofs.Keys.{name_test}
use Rattle.sp_race.specs.Prefixes.{is_counted, WaitsForNone}
use Rattle.sp_race.proofs.PrefixLaws.{PrefixesAreKnown}
use Rattle.sp_race.specs.Notes.{Event}
use Rattle.sp_race.proofs.NoteLaws.{grown_size}
use Rattle.sp_witness.specs.Witness.{who_at, past_before, is_pause, is_known, offers_after, is_member, is_among}
use Rattle.sp_witness.specs.Witness.{members}
use Rattle.sp_witness.proofs.IndependentSteps.{Head, Free, MarkedFree, Cuts, Block, heads, kept, left, EachFree}
use Rattle.sp_witness.proofs.Pasts.{heads_from, Stage, past_here, MarksAre}
use Rattle.sp_witness.proofs.Blocks.{Valid, since_after, since_all, AllValid}
use Rattle.sp_witness.proofs.Back.{entry_of, entries}

-- h depends on none of these that are not marked
abbrev pub UnmarkedFree : (ℕ → Bool) → List Head → Head → Type 0
UnmarkedFree mark [] h = Unit {0}
UnmarkedFree mark (a ∷ hs) h = (mark a.position ≡ false → Free a h) × UnmarkedFree mark hs h

module _ (es : List Occurrence) (earlier later : ℕ) where
  abbrev known : ℕ → Bool
  known = is_known es earlier later

  abbrev member : ℕ → Occurrence → Bool → Bool
  member = is_member es earlier later

  abbrev among : Name → ℕ → List Occurrence → Bool
  among = is_among es earlier later

  -- the marks by the definition
  abbrev pub mark_in : ℕ → List Occurrence → ℕ → Bool
  mark_in n [] k = false
  mark_in n (e ∷ mid) k = if n == k then member n e (among e.who (suc n) mid) else mark_in (suc n) mid k

  marks_from : (mark : ℕ → Bool) (n : ℕ) (mid : List Occurrence) → ((k : ℕ) → n ≤ k → mark k ≡ mark_in n mid k)
      → MarksAre es earlier later mark n mid
  marks_from mark n [] h = tt
  marks_from mark n (e ∷ mid) h = (
    h n (omega arith) ∙ ap (λ b. cond b (member n e (among e.who (suc n) mid)) (mark_in (suc n) mid n))
        (eq-eqb n n refl),
    marks_from mark (suc n) mid (λ k le. h k (omega (arith, le))
        ∙ ap (λ b. cond b (member n e (among e.who (suc n) mid)) (mark_in (suc n) mid k))
        (ne_eqb n k (λ e. omega (arith, e, le)))),
  )

  pub marks_are : (mid : List Occurrence) → MarksAre es earlier later (mark_in 0 mid) 0 mid
  marks_are mid = marks_from (mark_in 0 mid) 0 mid (λ k le. refl)

  -- marks of a list's second part
  pub marks_after : (mark : ℕ → Bool) (n : ℕ) (xs ys : List Occurrence) → MarksAre es earlier later mark n (xs ++ ys)
      → MarksAre es earlier later mark (n + length xs) ys
  marks_after mark n [] ys h = let e : n ≡ n + 0 = omega arith in subst (λ z. MarksAre es earlier later mark z ys) e h
  marks_after mark n (x ∷ xs) ys h = let e : suc n + length xs ≡ n + suc (length xs) = omega arith in
      subst (λ z. MarksAre es earlier later mark z ys) e (marks_after mark (suc n) xs ys h.1)

  -- the marked entries are those in the first part
  pub members_are : (g : RunInput) (mark : ℕ → Bool) (j : Knowledge) (n : ℕ) (mid : List Occurrence)
      (bs : List (Block g))
      → heads g bs ≡ heads_from j n mid → MarksAre es earlier later mark n mid
      → entries g (kept g mark bs) ≡ members es earlier later n mid
  members_are g mark j n [] [] e m = refl
  members_are g mark j n [] (b ∷ bs) e m = absurd (cons_is_not_nil e)
  members_are g mark j n (x ∷ mid) [] e m = absurd (nil_is_not_cons e)
  members_are g mark j n (x ∷ mid) (b ∷ bs) e m =
      let h : b.head ≡ record { who = x.who; what = x.what; position = n; knows = j.past x.who } = same_head e in
      let r : entries g (kept g mark bs) ≡ members es earlier later (suc n) mid =
      members_are g mark (knowledge_after j n x.who x.what) (suc n) mid bs (same_tail e) m.1 in
      let t : mark b.head.position ≡ member n x (among x.who (suc n) mid) = ap (λ (z : Head). mark z.position) h
      ∙ m.0 in
      by (mark b.head.position) ∙ (λ i. cond (t i) (entry_of (h i) ∷ r i) (r i))
    where
      by : (c : Bool) → entries g (cond c (b ∷ kept g mark bs) (kept g mark bs))
          ≡ cond c (entry_of b.head ∷ entries g (kept g mark bs)) (entries g (kept g mark bs))
      by true = refl
      by false = refl

  -- an offer of the two, and an entry before it that is not in the first part
  module _ (i : ℕ) (unknown : (k : ℕ) → known k ≡ false → past_before es i k ≡ false)
      (offers : (q : Name) (k : ℕ) → offers_after es earlier later q k ≡ false
      → same_name q (who_at es i) && nat_lt k i ≡ false)
      (before : List Occurrence) (target : Occurrence) (rest : List Occurrence) (ji : Knowledge)
      (stage : Stage es before (target ∷ rest) ji i) (kept_i : PrefixesAreKnown ji before)
      (waits_for_none_i : WaitsForNone ji target.who) (who_is : who_at es i ≡ target.who) where
    free_at : (n : ℕ) (x : Occurrence) (f : ℕ → Bool) → n < i → slice_get before n ≡ Some x → IsCleanly x.what
        → (b : Bool) → member n x b ≡ false
        → Free (record { who = x.who; what = x.what; position = n; knows = f })
        (record { who = target.who; what = target.what; position = i; knows = ji.past target.who })
    free_at n x f lt got clean b out = (apart, lt, not_known)
      where
        parts : (known n ≡ false) × (is_pause x.what && (offers_after es earlier later x.who n || b) ≡ false)
        parts = or_parts (known n) (is_pause x.what && (offers_after es earlier later x.who n || b)) out

        not_known : ji.past target.who n ≡ false
        not_known = sym (past_here es before target rest ji i stage n) ∙ unknown n parts.0

        own : (h : Happening) → x.what ≡ h → is_counted h ≡ true → x.who ≢ target.who
        own h is c e = ⊎_elim
            (λ (p : ji.past x.who n ≡ true). true_is_not_false (sym p
            ∙ subst (λ (z : Name). ji.past z n ≡ false) (sym e) not_known))
            (λ (w : (d : Channel) × (ji.pending d ≡ Some (x.who, n))). waits_for_none_i w.0 n (w.1 ∙ (λ i. Some
            (e i, n))))
            (kept_i.own x.who n (h, got ∙ (λ i. Some (record { who = x.who; what = is i })), c))

        pauses : is_pause x.what ≡ true → x.who ≢ target.who
        pauses p e =
            let z : is_pause x.what && (offers_after es earlier later x.who n || b) ≡ false = parts.1 in
            let y : offers_after es earlier later x.who n || b ≡ false =
            ap (λ c. c && (offers_after es earlier later x.who n || b)) (sym p) ∙ z in
            let o = offers x.who n (or_parts (offers_after es earlier later x.who n) b y).0 in
            let same : same_name x.who (who_at es i) ≡ true = (name_test x.who (who_at es i)).1 (e ∙ sym who_is) in
            true_is_not_false (sym (lt-ltb n i lt) ∙ (ap (λ c. c && nat_lt n i) (sym same) ∙ o))

        apart : x.who ≢ target.who
        apart = by x.what refl clean
          where
            by : (h : Happening) → x.what ≡ h → IsCleanly h → x.who ≢ target.who
            by Opened is ok = own Opened is refl
            by (Forked m) is ok = own (Forked m) is refl
            by (Offered w c) is ok = own (Offered w c) is refl
            by Ended is ok = own Ended is refl
            by (Faulted f) is ok = absurd ok
            by Laid is ok = absurd ok
            by Paused is ok = pauses (ap is_pause is)

    -- it depends on none of those before it that are not in the first part
    pub free_before : (mark : ℕ → Bool) (done mid extra : List Occurrence) (j : Knowledge) (n : ℕ) → length done ≡ n
        → before ≡ done ++ mid → IsClean mid → MarksAre es earlier later mark n (mid ++ extra) → n + length mid ≤ i
        → UnmarkedFree mark (heads_from j n mid)
        (record { who = target.who; what = target.what; position = i; knows = ji.past target.who })
    free_before mark done [] extra j n size all clean marks le = tt
    free_before mark done (e ∷ mid) extra j n size all clean marks le = (
      λ out. free_at n e (j.past e.who) (omega (arith, le)) (ap (λ xs. slice_get xs n) all ∙ got done n size) clean.0
          (among e.who (suc n) (mid ++ extra)) (sym marks.0 ∙ out),
      free_before mark (done ++ e ∷ []) mid extra (knowledge_after j n e.who e.what) (suc n)
          (grown_size done n e size) (all
          ∙ sym (append_assoc done (e ∷ []) mid)) clean.1 marks.1 (omega (arith, le)),
    )
      where
        got : (done : List Occurrence) (n : ℕ) → length done ≡ n → slice_get (done ++ e ∷ mid) n ≡ Some e
        got [] n h = subst (λ z. slice_get (e ∷ mid) z ≡ Some e) h refl
        got (d ∷ done) n h = subst (λ z. slice_get (d ∷ (done ++ e ∷ mid)) z ≡ Some e) h (got done (length done) refl)

module _ (g : RunInput) (mark : ℕ → Bool) where
  -- the entries that are left are free of it
  pub each_left : (label : ℕ → Option Event) (bs : List (Block g)) (h : Head) → UnmarkedFree mark (heads g bs) h
      → EachFree g label (left g mark bs) h
  each_left label [] h u = tt
  each_left label (b ∷ bs) h u =
      elim (mark b.head.position) as (λ c. mark b.head.position ≡ c
      → EachFree g label (cond c (left g mark bs) (b ∷ left g mark bs)) h) [
        | true ↦ λ e. each_left label bs h u.1
        | false ↦ λ e. (u.0 e, each_left label bs h u.1)
      ] refl

  -- what is free of an entry is so in parts
  pub free_parts : (label : ℕ → Option Event) (h : Head) (xs : List (Block g)) (b : Block g) (ys : List (Block g))
      → EachFree g label (xs ++ b ∷ ys) h → EachFree g label (xs ++ ys) h × Free b.head h
  free_parts label h [] b ys f = (f.1, f.0)
  free_parts label h (x ∷ xs) b ys f = let r = free_parts label h xs b ys f.1 in ((f.0, r.0), r.1)

  pub left_append : (xs bs : List (Block g)) → left g mark (xs ++ bs) ≡ left g mark xs ++ left g mark bs
  left_append [] bs = refl
  left_append (a ∷ xs) bs =
      elim (mark a.head.position) as (λ c. cond c (left g mark (xs ++ bs)) (a ∷ left g mark (xs ++ bs))
      ≡ cond c (left g mark xs) (a ∷ left g mark xs) ++ left g mark bs) [
        | true ↦ left_append xs bs
        | false ↦ ap (λ z. a ∷ z) (left_append xs bs)
      ]

  pub kept_append : (xs bs : List (Block g)) → kept g mark (xs ++ bs) ≡ kept g mark xs ++ kept g mark bs
  kept_append [] bs = refl
  kept_append (a ∷ xs) bs =
      elim (mark a.head.position) as (λ c. cond c (a ∷ kept g mark (xs ++ bs)) (kept g mark (xs ++ bs))
      ≡ cond c (a ∷ kept g mark xs) (kept g mark xs) ++ kept g mark bs) [
        | true ↦ ap (λ z. a ∷ z) (kept_append xs bs)
        | false ↦ kept_append xs bs
      ]

  module _ (turn : ℕ) where
    -- process q has a marked entry among these
    abbrev Later : Name → List (Block g) → Type 0
    Later q [] = ⊥
    Later q (b ∷ bs) = ((mark b.head.position ≡ true) × (b.head.who ≡ q)) ⊎ Later q bs

    later_apart : (a : Head) (bs : List (Block g)) (q : Name) → MarkedFree mark a (heads g bs) → Later q bs → a.who ≢ q
    later_apart a [] q m h = absurd h
    later_apart a (b ∷ bs) q m h =
        ⊎_elim (λ (x : (mark b.head.position ≡ true) × (b.head.who ≡ q)). λ e. (m.0 x.0).0 (e ∙ sym x.1))
        (λ (x : Later q bs). later_apart a bs q m.1 x) h

    -- the marked entries are valid without the others
    pub kept_valid : (c d : Name → ℕ) (bs : List (Block g)) → AllValid g turn c bs → Cuts mark (heads g bs)
        → ((q : Name) → Later q bs → d q ≡ c q) → AllValid g turn d (kept g mark bs)
    kept_valid c d [] v cuts same = tt
    kept_valid c d (b ∷ bs) v cuts same =
        elim (mark b.head.position) as (λ x. mark b.head.position ≡ x
        → AllValid g turn d (cond x (b ∷ kept g mark bs) (kept g mark bs))) [
          | true ↦ λ e. (
            subst (λ z. Valid g turn z b.head.what b.tags b.ticks) (sym (same b.head.who (inl (e, refl)))) v.0,
            kept_valid (since_after g turn c b) (since_after g turn d b) bs v.1 cuts.1
                (λ q h. ap (cond (same_name b.head.who q) b.ticks) (same q (inr h))),
          )
          | false ↦ λ e. kept_valid (since_after g turn c b) d bs v.1 cuts.1 (λ q h. same q (inr h)
              ∙ ap (λ x. cond x b.ticks (c q))
              (sym (differs name_test b.head.who q (later_apart b.head bs q (cuts.0 e) h))))
        ] refl

    -- a process of which each entry is marked has the same ticks at its last entry
    pub since_kept : (c d : Name → ℕ) (bs : List (Block g)) (h : Head) → UnmarkedFree mark (heads g bs) h
        → d h.who ≡ c h.who → since_all g turn d (kept g mark bs) h.who ≡ since_all g turn c bs h.who
    since_kept c d [] h u e = e
    since_kept c d (b ∷ bs) h u e =
        elim (mark b.head.position) as (λ x. mark b.head.position ≡ x
        → since_all g turn d (cond x (b ∷ kept g mark bs) (kept g mark bs)) h.who
        ≡ since_all g turn (since_after g turn c b) bs h.who) [
          | true ↦ λ is. since_kept (since_after g turn c b) (since_after g turn d b) bs h u.1
              (ap (cond (same_name b.head.who h.who) b.ticks) e)
          | false ↦ λ is. since_kept (since_after g turn c b) d bs h u.1 (e
              ∙ ap (λ x. cond x b.ticks (c h.who)) (sym (differs name_test b.head.who h.who (u.0 is).0)))
        ] refl

    -- a process without a marked entry keeps them
    pub since_stays : (d : Name → ℕ) (bs : List (Block g)) (a : Head) → MarkedFree mark a (heads g bs)
        → since_all g turn d (kept g mark bs) a.who ≡ d a.who
    since_stays d [] a m = refl
    since_stays d (b ∷ bs) a m =
        elim (mark b.head.position) as (λ x. mark b.head.position ≡ x
        → since_all g turn d (cond x (b ∷ kept g mark bs) (kept g mark bs)) a.who ≡ d a.who) [
          | true ↦ λ is. since_stays (since_after g turn d b) bs a m.1
              ∙ ap (λ x. cond x b.ticks (d a.who)) (differs name_test b.head.who a.who (λ e. (m.0 is).0 (sym e)))
          | false ↦ λ is. since_stays d bs a m.1
        ] refl

    pub since_append : (c : Name → ℕ) (xs bs : List (Block g))
        → since_all g turn c (xs ++ bs) ≡ since_all g turn (since_all g turn c xs) bs
    since_append c [] bs = refl
    since_append c (a ∷ xs) bs = since_append (since_after g turn c a) xs bs

    pub valid_second : (c : Name → ℕ) (xs bs : List (Block g)) → AllValid g turn c (xs ++ bs)
        → AllValid g turn (since_all g turn c xs) bs
    valid_second c [] bs v = v
    valid_second c (a ∷ xs) bs v = valid_second (since_after g turn c a) xs bs v.1

-- the marked ones after an entry that is not marked are free of it
pub cuts_second : (g : RunInput) (mark : ℕ → Bool) (xs : List (Block g)) (b : Block g) (ys : List (Block g))
    → Cuts mark (heads g (xs ++ b ∷ ys)) → mark b.head.position ≡ false → MarkedFree mark b.head (heads g ys)
cuts_second g mark [] b ys h out = h.0 out
cuts_second g mark (x ∷ xs) b ys h out = cuts_second g mark xs b ys h.1 out

-- entries cut where their heads are
pub record Split (g : RunInput) (xs : List Head) (y : Head) (ys : List Head) (bs : List (Block g)) : Type 0 where
  pub front : List (Block g)
  pub block : Block g
  pub back : List (Block g)
  pub whole : bs ≡ front ++ block ∷ back
  pub front_is : heads g front ≡ xs
  pub block_is : block.head ≡ y
  pub back_is : heads g back ≡ ys

pub split : (g : RunInput) (xs : List Head) (y : Head) (ys : List Head) (bs : List (Block g))
    → heads g bs ≡ xs ++ y ∷ ys
    → Split g xs y ys bs
split g [] y ys [] e = absurd (nil_is_not_cons e)
split g [] y ys (b ∷ bs) e =
    record {
      front = [];
      block = b;
      back = bs;
      whole = refl;
      front_is = refl;
      block_is = same_head e;
      back_is =
          same_tail e;
    }
split g (x ∷ xs) y ys [] e = absurd (nil_is_not_cons e)
split g (x ∷ xs) y ys (b ∷ bs) e =
    let r = split g xs y ys bs (same_tail e) in
    record {
      front = b ∷ r.front;
      block = r.block;
      back = r.back;
      whole = ap (λ z. b ∷ z) r.whole;
      front_is =
          (λ i. same_head e i ∷ r.front_is i);
      block_is = r.block_is;
      back_is = r.back_is;
    }

pub heads_append : (j : Knowledge) (n : ℕ) (xs ys : List Occurrence)
    → heads_from j n (xs ++ ys) ≡ heads_from j n xs ++ heads_from (knowledge_from j n xs) (n + length xs) ys
heads_append j n [] ys = let e : n ≡ n + 0 = omega arith in ap (λ z. heads_from j z ys) e
heads_append j n (x ∷ xs) ys =
    let e : suc n + length xs ≡ n + suc (length xs) = omega arith in
    ap (λ z. record { who = x.who; what = x.what; position = n; knows = j.past x.who } ∷ z)
    (heads_append (knowledge_after j n x.who x.what) (suc n) xs ys
    ∙ ap (λ z. heads_from (knowledge_after j n x.who x.what) (suc n) xs
    ++ heads_from (knowledge_from (knowledge_after j n x.who x.what) (suc n) xs) z ys) e)
