-- Each step of a turn keeps the rule of the room's table.
use Rattle.std.proofs.Common.{◌≡◌, ◌≢◌, ◌⊎◌, inl, inr, ⊎_elim, ℕ, ◌+◌, ◌-◌, ◌%◌, ◌^◌, ◌<◌, ◌≤◌, List, [], ◌∷◌, ◌++◌}
use Rattle.std.proofs.Common.{length, drop, get_or, set, eqb, refl, sym, ap, ◌∙◌, subst, arith, length-set}
use Rattle.std.proofs.Common.{length-append, true≢false, get_or-set_same, get_or-set_other, Option, Some, None, true}
use Rattle.std.proofs.Common.{false}
use Rattle.std.proofs.Math.Seq.{drop-append_seam}
use Rattle.std.proofs.lemmas.Option.{same_Some}
use mathlib.Core.Option.{some, none, some-injective}
use lib.ListN.{get_elem?}
use lib.Seq.{set-get_or}
use prog.Atomic.{either}
use Rattle.atomic_table.specs.Table.{step, keeps, takes, gives, stepped, Allows}
use Rattle.atomic_table.proofs.Lists.{at_set, set_here, set_else, set_again, exchanged}
use Rattle.sp_room.specs.declared.view.View.{View}
use Rattle.sp_room.specs.History.{StartsWith, notes_by, LeadsTo}
use Rattle.sp_room.specs.RoomRule.{SlotBox, RoomTable, SeatPart, SeatKnows, RoomRule, holder, view_after_note}
use Rattle.sp_room.specs.RoomRule.{view_after_return, Acquires, claims_of, in_hand}
use Rattle.sp_room.specs.RoomRule.{Raised, RaisedLast, view_after_last_note, Returned}
use Rattle.sp_room.proofs.Histories.{at_inside, starts_self, starts_trans, by_mine, by_other, claims_set, claims_has}

module _ {O A G N : Type 0} (opens : O → Type 0) (steps : O → ℕ → A → O → G → Option N → Type 0) (author : N → ℕ)
    (opening : O) where
  abbrev V : Type 0
  V = View O N

  abbrev Rule : RoomTable O N → Type 0
  Rule = RoomRule opens steps author opening

  abbrev turn : RoomTable O N → ℕ
  turn s = get_or s.words 0 0

  -- the seat id goes from v to w, while the turn is free or its own, and the history grows by notes of its own alone
  record SeatMoves (s : RoomTable O N) (r : Rule s) (id : ℕ) (v w : V) (words : List ℕ)
      (homes : List (mathlib.Core.Option.Option (Option (SlotBox O N)))) (log : List N) (last : O) : Type 0 where
    at : get_elem? s.views id ≡ some v
    active : v.spent ≡ false
    opened : w.opening ≡ v.opening
    numbered : w.number ≡ v.number
    still : w.spent ≡ false
    counts : w.seats_made ≡ v.seats_made
    starts : w.from ≡ v.from
    joined : w.joined ≡ v.joined
    looked : w.looked ≡ v.looked
    grows : StartsWith log r.log
    others : (j : ℕ) → j ≢ id → notes_by author j log ≡ notes_by author j r.log
    seen : StartsWith log w.seen
    own : notes_by author id log ≡ w.own
    holds : w.holding ≡ true → (get_or words 0 0 ≡ id + 1) × (w.seen ≡ log) × (claims_of (set s.views id w) ≤ w.reserve)
    alone : (turn s ≡ 0) ⊎ (turn s ≡ id + 1)
    legal : LeadsTo steps opening log last
    wide : length words ≡ 2
    deep : length homes ≡ 1
    count : get_or words 1 0 ≡ length log
    free : get_or words 0 0 ≡ 0 → (d : SlotBox O N) × (get_elem? homes 0 ≡ some (some (Some d)))
        × (d.value.notes.items ≡ log) × LeadsTo steps opening log d.value.object
        × (claims_of (set s.views id w) ≤ d.value.reserved) × (length log + d.value.reserved ≤ d.value.notes.cap)
    taken : get_or words 0 0 ≢ 0 → (get_or words 0 0 ≡ id + 1) × (w.holding ≡ true)

  module _ (s : RoomTable O N) (r : Rule s) (id : ℕ) (v w : V) (words : List ℕ)
      (homes : List (mathlib.Core.Option.Option (Option (SlotBox O N)))) (log : List N) (last : O)
      (m : SeatMoves s r id v w words homes log last) where
    abbrev views : List V
    views = set s.views id w

    there : (k : ℕ) (u : V) → get_elem? s.views k ≡ some u → u.spent ≡ true → (k ≢ id) × (get_elem? views k ≡ some u)
    there k u e sp = let other : k ≢ id = λ same. absurd
        (cc (sp, m.active, some-injective u v (sym e ∙ (ap (get_elem? s.views) same ∙ m.at)))) in
        (other, set_else s.views id k w other ∙ e)

    taken_in : (j : ℕ) (u : V) → get_elem? s.views j ≡ some u → u.spent ≡ false → (i : ℕ) (own : List N)
        → get_elem? u.joined i ≡ some own
        → (notes_by author (u.from + i) log ≡ own) × (x : V) × (get_elem? views (u.from + i) ≡ some x)
        × (x.spent ≡ true)
    taken_in j u at on i own e = let (notes_are, taken, at_taken, is_spent) = (r.each j u at on).taken_in i own e in
        let (else_seat, still_there) = there (u.from + i) taken at_taken is_spent in
        (m.others (u.from + i) else_seat ∙ notes_are, taken, still_there, is_spent)

    other : (j : ℕ) (u : V) → j ≢ id → get_elem? s.views j ≡ some u → u.spent ≡ false
        → SeatKnows author opening log (get_or words 0 0) views j u
    other j u ne at on = let k = r.each j u at on in record {
      opened = k.opened;
      numbered = k.numbered;
      seen = starts_trans log r.log u.seen m.grows k.seen;
      own = m.others j ne ∙ k.own;
      holds = λ h. let t : turn s ≡ j + 1 = (k.holds h).0 in
          absurd (⊎_elim (λ (z : turn s ≡ 0). omega arith) (λ (z : turn s ≡ id + 1). ne (omega arith)) m.alone);
      counts = λ d. let c = k.counts d in (c.0 ∙ sym (length-set s.views id w), c.1 ∙ sym (length-set s.views id w));
      joins = k.joins;
      taken_in = taken_in j u at on;
      had_seen = λ i l e. starts_trans log r.log l m.grows (k.had_seen i l e);
    }

    mine : SeatKnows author opening log (get_or words 0 0) views id w
    mine = let k = r.each id v m.at m.active in record {
      opened = m.opened ∙ k.opened;
      numbered = m.numbered ∙ k.numbered;
      seen = m.seen;
      own = m.own;
      holds = m.holds;
      counts = λ d. let c = k.counts (λ z. d (m.counts ∙ z)) in
          (m.counts ∙ (c.0 ∙ sym (length-set s.views id w)), c.1 ∙ sym (length-set s.views id w));
      joins = (λ i. m.starts i + length (m.joined i)) ∙ k.joins;
      taken_in = subst (λ (z : ℕ × List (List N)). (i : ℕ) (own : List N) → get_elem? z.1 i ≡ some own
          → (notes_by author (z.0 + i) log ≡ own) × (x : V) × (get_elem? views (z.0 + i) ≡ some x) × (x.spent ≡ true))
          (λ i. (sym m.starts i, sym m.joined i)) (taken_in id v m.at m.active);
      had_seen = λ i l e. starts_trans log r.log l m.grows
          (k.had_seen i l (ap (λ z. get_elem? z i) (sym m.looked) ∙ e));
    }

    inside : id < length s.views
    inside = at_inside s.views id v m.at

    moved : Rule record { words = words; homes = homes; views = views }
    moved = record {
      fine = r.fine;
      log = log;
      last = last;
      legal = m.legal;
      wide = m.wide;
      deep = m.deep;
      count = m.count;
      free = m.free;
      taken = λ j e. let t = m.taken (λ z. absurd (omega (arith, z, e))) in let same : j ≡ id = omega (arith, e, t.0) in
          (w, ap (get_elem? views) same ∙ set_here s.views id w inside, t.1, m.still);
      each = λ j u e on. ⊎_elim (λ (t : (j ≡ id) × (w ≡ u)). subst
          (λ (z : ℕ × V). SeatKnows author opening log (get_or words 0 0) views z.0 z.1) (λ i. (sym t.0 i, t.1 i)) mine)
          (λ (t : (j ≢ id) × (get_elem? s.views j ≡ some u)). other j u t.0 t.1 on) (at_set s.views id j w u e);
      nobody = λ j le. let out : length s.views ≤ j = subst (λ n. n ≤ j) (length-set s.views id w) le in
          m.others j (λ same. let i : id < length s.views = inside in absurd (omega (arith, same, out, i)))
          ∙ r.nobody j out;
    }

  -- nothing changes
  unmoved : (s : RoomTable O N) → Rule s → (i id : ℕ) (v : V) (cs : List (ℕ × Option (SlotBox O N)))
      → get_elem? s.views id ≡ some v → Rule (stepped s i (get_or s.words i 0) id cs v keeps)
  unmoved s r i id v cs at = subst (λ (z : List ℕ × List V). Rule record { words = z.0; homes = s.homes; views = z.1 })
      (λ k. (sym (set-get_or s.words i 0) k, sym (set_again s.views id v at) k)) r

  pub takes_turn : (slots id mine : ℕ) (me : SeatPart O N) → mine ≡ me.0.number + 1 → me.1 ≡ [] → me.0.spent ≡ false
      → Allows Rule slots id me 0 (λ n. either (eqb n 0) mine n)
      (Acquires opens steps author (step slots 0 0 mine none) me)
  takes_turn slots id flag me num bare active s r deep at small =
      exchanged (turn s) 0 flag
      (λ n. (w : V) × (a : Rattle.atomic_table.specs.Table.Act (Option (SlotBox O N)))
      × Rattle.atomic_table.specs.Table.Valid s.homes me.1 a × Rule (stepped s 0 n id me.1 w a)
      × Acquires opens steps author (step slots 0 0 flag none) me (turn s)
      (w, Rattle.atomic_table.specs.Table.carried_after me.1 a))
      (λ free. let (d, home, notes_are, runs, claimed, fits) = r.free free in let k = r.each id me.0 at active in
      let w : V = holder me.0 d.value.notes.items d.value.reserved in
      let same_claims = claims_set s.views id me.0 w at in let wide = r.wide in
      let now : get_or (set s.words 0 flag) 0 0 ≡ flag = get_or-set_same s.words 0 flag 0 (omega arith) in
      let is : flag ≡ id + 1 = num ∙ ap (λ (n : ℕ). n + 1) k.numbered in (
        w,
        takes 0 (Some d),
        home,
        moved s r id me.0 w (set s.words 0 flag) (set s.homes 0 none) r.log r.last record {
          at = at;
          active = active;
          opened = refl;
          numbered = refl;
          still = active;
          counts = refl;
          starts = refl;
          joined = refl;
          looked = refl;
          grows = starts_self r.log;
          others = λ _ _. refl;
          seen = subst (λ l. StartsWith r.log l) (sym notes_are) (starts_self r.log);
          own = k.own;
          holds = λ _. (now ∙ is, notes_are, omega (arith, same_claims, claimed));
          alone = inl free;
          legal = r.legal;
          wide = length-set s.words 0 flag ∙ r.wide;
          deep = length-set s.homes 0 none ∙ r.deep;
          count = get_or-set_other s.words 0 1 flag 0 (λ e. omega arith) ∙ r.count;
          free = λ z. absurd (omega (arith, z, now, is));
          taken = λ _. (now ∙ is, refl);
        },
        (
          λ ne. absurd (ne free),
          λ _. (
            d,
            ap (λ l. (w, (0, Some d) ∷ l)) bare,
            (
              subst (λ l. StartsWith l me.0.seen) (sym notes_are) k.seen,
              ap (notes_by author me.0.number) notes_are ∙ (ap (λ n. notes_by author n r.log) k.numbered ∙ k.own),
              (λ x is. let same : opening ≡ x = same_Some opening x (sym k.opened ∙ is) in (
                subst opens same r.fine,
                subst (λ (z : O × List N). LeadsTo steps z.0 z.1 d.value.object)
                    (λ i. (same i, sym notes_are i)) runs,
              )),
              omega (arith, claims_has s.views id me.0 at, claimed),
              omega (arith, ap (λ (l : List N). length l) notes_are, fits),
            ),
          ),
        ),
      ))
      (λ held. (me.0, keeps, tt, unmoved s r 0 id me.0 me.1 at, ((λ _. refl), λ free. absurd (held free))))

  pub raises : (slots id : ℕ) (me : SeatPart O N) (note : N) (y : O) → me.0.spent ≡ false → me.0.holding ≡ true
      → in_hand me.1 ≡ me.0.seen ++ note ∷ [] → author note ≡ me.0.number
      → LeadsTo steps opening (me.0.seen ++ note ∷ []) y → length me.0.seen + 1 < 18446744073709551616
      → Allows Rule slots id me 1 (λ n. (n + 1) % 2 ^ 64) (Raised (step slots 1 1 0 none) me)
  raises slots id me note y active holding hand named runs room s r deep at small = let k = r.each id me.0 at active in
      let h = k.holds holding in
      let e : drop (length me.0.seen) (in_hand me.1) ≡ note ∷ [] = ap (drop (length me.0.seen)) hand
      ∙ drop-append_seam me.0.seen (note ∷ []) in
      let w : V = view_after_note me.0 (note ∷ []) in let wide = r.wide in let n : ℕ = get_or s.words 1 0 in
      let count : n ≡ length me.0.seen = r.count ∙ ap (λ (l : List N). length l) (sym h.1) in
      let next : (n + 1) % 2 ^ 64 ≡ n + 1 = omega arith in
      let there : get_or (set s.words 1 ((n + 1) % 2 ^ 64)) 0 0 ≡ turn s =
      get_or-set_other s.words 1 0 ((n + 1) % 2 ^ 64) 0 (λ e. omega arith) in
      let here : get_or (set s.words 1 ((n + 1) % 2 ^ 64)) 1 0 ≡ (n + 1) % 2 ^ 64 =
      get_or-set_same s.words 1 ((n + 1) % 2 ^ 64) 0 (omega arith) in
      let by : author note ≡ id = named ∙ k.numbered in (
        view_after_note me.0 (drop (length me.0.seen) (in_hand me.1)),
        keeps,
        tt,
        subst (λ l. Rule (stepped s 1 ((n + 1) % 2 ^ 64) id me.1 (view_after_note me.0 l) keeps)) (sym e)
            (moved s r id me.0 w (set s.words 1 ((n + 1) % 2 ^ 64)) s.homes (r.log ++ note ∷ []) y record {
              at = at;
              active = active;
              opened = refl;
              numbered = refl;
              still = active;
              counts = refl;
              starts = refl;
              joined = refl;
              looked = refl;
              grows = (note ∷ [], refl);
              others = λ j ne. by_other author j r.log note (λ same. ne (sym same ∙ by));
              seen = subst (λ l. StartsWith (r.log ++ note ∷ []) (l ++ note ∷ [])) (sym h.1)
                  (starts_self (r.log ++ note ∷ []));
              own = by_mine author id r.log note by ∙ ap (λ l. l ++ note ∷ []) k.own;
              holds = λ _. (
                there ∙ h.0,
                ap (λ l. l ++ note ∷ []) h.1,
                omega (arith, claims_set s.views id me.0 w at, h.2),
              );
              alone = inr h.0;
              legal = subst (λ (z : List N). LeadsTo steps opening (z ++ note ∷ []) y) h.1 runs;
              wide = length-set s.words 1 ((n + 1) % 2 ^ 64) ∙ r.wide;
              deep = r.deep;
              count = here ∙ (next ∙ (ap (λ (z : ℕ). z + 1) r.count ∙ sym (length-append r.log (note ∷ []))));
              free = λ z. absurd (omega (arith, z, there, h.0));
              taken = λ _. (there ∙ h.0, holding);
            }),
        refl,
      )

  pub raises_last : (slots id : ℕ) (me : SeatPart O N) (note : N) (y : O) → me.0.spent ≡ false → me.0.holding ≡ true
      → in_hand me.1 ≡ me.0.seen ++ note ∷ [] → author note ≡ me.0.number
      → LeadsTo steps opening (me.0.seen ++ note ∷ []) y → 0 < me.0.claims → length me.0.seen + 1 < 18446744073709551616
      → Allows Rule slots id me 1 (λ n. (n + 1) % 2 ^ 64) (RaisedLast (step slots 1 1 0 none) me)
  raises_last slots id me note y active holding hand named runs claim room s r deep at small = let k =
      r.each id me.0 at active in let h = k.holds holding in
      let e : drop (length me.0.seen) (in_hand me.1) ≡ note ∷ [] = ap (drop (length me.0.seen)) hand
      ∙ drop-append_seam me.0.seen (note ∷ []) in
      let w : V = view_after_last_note me.0 (note ∷ []) in let wide = r.wide in let n : ℕ = get_or s.words 1 0 in
      let count : n ≡ length me.0.seen = r.count ∙ ap (λ (l : List N). length l) (sym h.1) in
      let next : (n + 1) % 2 ^ 64 ≡ n + 1 = omega arith in
      let there : get_or (set s.words 1 ((n + 1) % 2 ^ 64)) 0 0 ≡ turn s =
      get_or-set_other s.words 1 0 ((n + 1) % 2 ^ 64) 0 (λ e. omega arith) in
      let here : get_or (set s.words 1 ((n + 1) % 2 ^ 64)) 1 0 ≡ (n + 1) % 2 ^ 64 =
      get_or-set_same s.words 1 ((n + 1) % 2 ^ 64) 0 (omega arith) in
      let by : author note ≡ id = named ∙ k.numbered in (
        view_after_last_note me.0 (drop (length me.0.seen) (in_hand me.1)),
        keeps,
        tt,
        subst (λ l. Rule (stepped s 1 ((n + 1) % 2 ^ 64) id me.1 (view_after_last_note me.0 l) keeps)) (sym e)
            (moved s r id me.0 w (set s.words 1 ((n + 1) % 2 ^ 64)) s.homes (r.log ++ note ∷ []) y record {
              at = at;
              active = active;
              opened = refl;
              numbered = refl;
              still = active;
              counts = refl;
              starts = refl;
              joined = refl;
              looked = refl;
              grows = (note ∷ [], refl);
              others = λ j ne. by_other author j r.log note (λ same. ne (sym same ∙ by));
              seen = subst (λ l. StartsWith (r.log ++ note ∷ []) (l ++ note ∷ [])) (sym h.1)
                  (starts_self (r.log ++ note ∷ []));
              own = by_mine author id r.log note by ∙ ap (λ l. l ++ note ∷ []) k.own;
              holds = λ _. (
                there ∙ h.0,
                ap (λ l. l ++ note ∷ []) h.1,
                omega (arith, claims_set s.views id me.0 w at, h.2, claim, claims_has s.views id me.0 at),
              );
              alone = inr h.0;
              legal = subst (λ (z : List N). LeadsTo steps opening (z ++ note ∷ []) y) h.1 runs;
              wide = length-set s.words 1 ((n + 1) % 2 ^ 64) ∙ r.wide;
              deep = r.deep;
              count = here ∙ (next ∙ (ap (λ (z : ℕ). z + 1) r.count ∙ sym (length-append r.log (note ∷ []))));
              free = λ z. absurd (omega (arith, z, there, h.0));
              taken = λ _. (there ∙ h.0, holding);
            }),
        refl,
      )

  pub returns_turn : (slots id : ℕ) (me : SeatPart O N) (d : SlotBox O N) → me.0.spent ≡ false → me.0.holding ≡ true
      → me.1 ≡ (0, Some d) ∷ [] → d.value.notes.items ≡ me.0.seen → LeadsTo steps opening me.0.seen d.value.object
      → d.value.reserved ≡ me.0.reserve → length me.0.seen + d.value.reserved ≤ d.value.notes.cap
      → Allows Rule slots id me 0 (λ _. 0) (λ _. Returned (step slots 0 0 0 none) me 0)
  returns_turn slots id me d active holding hand items runs reserve space s r deep at small = let k =
      r.each id me.0 at active in let h = k.holds holding in let w : V = view_after_return me.0 in let wide = r.wide in
      let one = r.deep in
      let now : get_or (set s.words 0 0) 0 0 ≡ 0 = get_or-set_same s.words 0 0 0 (omega arith) in (
        w,
        gives,
        tt,
        subst (λ c. Rule record {
          words = set s.words 0 0;
          homes = Rattle.atomic_table.specs.Table.put_back s.homes c;
          views = set s.views id w;
        }) (sym hand)
            (moved s r id me.0 w (set s.words 0 0) (set s.homes 0 (some (Some d))) r.log r.last record {
              at = at;
              active = active;
              opened = refl;
              numbered = refl;
              still = active;
              counts = refl;
              starts = refl;
              joined = refl;
              looked = refl;
              grows = starts_self r.log;
              others = λ _ _. refl;
              seen = k.seen;
              own = k.own;
              holds = λ no. absurd (true≢false (sym no));
              alone = inr h.0;
              legal = r.legal;
              wide = length-set s.words 0 0 ∙ r.wide;
              deep = length-set s.homes 0 (some (Some d)) ∙ r.deep;
              count = get_or-set_other s.words 0 1 0 0 (λ e. omega arith) ∙ r.count;
              free = λ _. (
                d,
                set_here s.homes 0 (some (Some d)) (omega arith),
                items ∙ h.1,
                subst (λ (z : List N). LeadsTo steps opening z d.value.object) h.1 runs,
                omega (arith, claims_set s.views id me.0 w at, h.2, reserve),
                omega (arith, ap (λ (l : List N). length l) h.1, space),
              );
              taken = λ ne. absurd (ne now);
            }),
        ap (λ (c : List (ℕ × Option (SlotBox O N))). (w, Rattle.atomic_table.specs.Table.rest c)) hand,
      )

  laid : (me me' : SeatPart O N) (d : SlotBox O N) → me ≡ (me.0, (0, None) ∷ [])
      → me' ≡ (me.0, (0, Some d) ∷ Rattle.atomic_table.specs.Table.rest me.1) → me' ≡ (me.0, (0, Some d) ∷ [])
  laid me me' d bare is =
      is ∙ ap (λ (m : SeatPart O N). (me.0, (0, Some d) ∷ Rattle.atomic_table.specs.Table.rest m.1)) bare

  -- the slot's content was laid back as it was found
  pub gives_back : (slots id : ℕ) (me me' : SeatPart O N) (d : SlotBox O N) → me ≡ (me.0, (0, None) ∷ [])
      → me' ≡ (me.0, (0, Some d) ∷ Rattle.atomic_table.specs.Table.rest me.1)
      → me.0.spent ≡ false → me.0.holding ≡ true → d.value.notes.items ≡ me.0.seen
      → LeadsTo steps opening me.0.seen d.value.object → d.value.reserved ≡ me.0.reserve
      → length me.0.seen + d.value.reserved ≤ d.value.notes.cap
      → Allows Rule slots id me' 0 (λ _. 0) (λ _. Returned (step slots 0 0 0 none) me' 0)
  gives_back slots id me me' d bare is active holding items runs reserve space =
      subst (λ (m : SeatPart O N). Allows Rule slots id m 0 (λ _. 0) (λ _. Returned (step slots 0 0 0 none) m 0))
      (sym (laid me me' d bare is))
      (returns_turn slots id (me.0, (0, Some d) ∷ []) d active holding refl items runs reserve space)

  -- the slot's content was laid back with one note more
  pub counts_on : (slots id : ℕ) (me me' : SeatPart O N) (d : SlotBox O N) (note : N) → me ≡ (me.0, (0, None) ∷ [])
      → me' ≡ (me.0, (0, Some d) ∷ Rattle.atomic_table.specs.Table.rest me.1)
      → me.0.spent ≡ false → me.0.holding ≡ true → author note ≡ me.0.number
      → d.value.notes.items ≡ me.0.seen ++ note ∷ [] → LeadsTo steps opening (me.0.seen ++ note ∷ []) d.value.object
      → length d.value.notes.items < 18446744073709551616
      → Allows Rule slots id me' 1 (λ n. (n + 1) % 2 ^ 64) (Raised (step slots 1 1 0 none) me')
  counts_on slots id me me' d note bare is active holding named items runs small =
      subst (λ (m : SeatPart O N). Allows Rule slots id m 1 (λ n. (n + 1) % 2 ^ 64) (Raised (step slots 1 1 0 none) m))
      (sym (laid me me' d bare is))
      (raises slots id (me.0, (0, Some d) ∷ []) note d.value.object active holding items named runs
      (omega (arith, small, ap (λ (l : List N). length l) items, length-append me.0.seen (note ∷ []))))

  counted : (me me' me'' : SeatPart O N) (d : SlotBox O N) (note : N) → me ≡ (me.0, (0, None) ∷ [])
      → me' ≡ (me.0, (0, Some d) ∷ Rattle.atomic_table.specs.Table.rest me.1)
      → d.value.notes.items ≡ me.0.seen ++ note ∷ []
      → me'' ≡ (view_after_note me'.0 (drop (length me'.0.seen) (in_hand me'.1)), me'.1)
      → me'' ≡ (view_after_note me.0 (note ∷ []), (0, Some d) ∷ [])
  counted me me' me'' d note bare is items up = up
      ∙ (ap (λ (m : SeatPart O N). (view_after_note m.0 (drop (length m.0.seen) (in_hand m.1)), m.1))
      (laid me me' d bare is)
      ∙ ap (λ (l : List N). (view_after_note me.0 l, (0, Some d) ∷ []))
      (ap (drop (length me.0.seen)) items ∙ drop-append_seam me.0.seen (note ∷ [])))

  -- and then the turn is given back
  pub gives_on : (slots id : ℕ) (me me' me'' : SeatPart O N) (d : SlotBox O N) (note : N) → me ≡ (me.0, (0, None) ∷ [])
      → me' ≡ (me.0, (0, Some d) ∷ Rattle.atomic_table.specs.Table.rest me.1)
      → me'' ≡ (view_after_note me'.0 (drop (length me'.0.seen) (in_hand me'.1)), me'.1)
      → me.0.spent ≡ false → me.0.holding ≡ true → d.value.notes.items ≡ me.0.seen ++ note ∷ []
      → LeadsTo steps opening (me.0.seen ++ note ∷ []) d.value.object → d.value.reserved ≡ me.0.reserve
      → length d.value.notes.items + d.value.reserved ≤ d.value.notes.cap
      → Allows Rule slots id me'' 0 (λ _. 0) (λ _. Returned (step slots 0 0 0 none) me'' 0)
  gives_on slots id me me' me'' d note bare is up active holding items runs reserve space =
      subst (λ (m : SeatPart O N). Allows Rule slots id m 0 (λ _. 0) (λ _. Returned (step slots 0 0 0 none) m 0))
      (sym (counted me me' me'' d note bare is items up))
      (returns_turn slots id (view_after_note me.0 (note ∷ []), (0, Some d) ∷ []) d active holding refl items runs
      reserve
      (omega (arith, ap (λ (l : List N). length l) items, space)))

  -- the slot's content was laid back with one note more
  pub counts_last : (slots id : ℕ) (me me' : SeatPart O N) (d : SlotBox O N) (note : N) → me ≡ (me.0, (0, None) ∷ [])
      → me' ≡ (me.0, (0, Some d) ∷ Rattle.atomic_table.specs.Table.rest me.1)
      → me.0.spent ≡ false → me.0.holding ≡ true → author note ≡ me.0.number
      → d.value.notes.items ≡ me.0.seen ++ note ∷ [] → LeadsTo steps opening (me.0.seen ++ note ∷ []) d.value.object
      → 0 < me.0.claims → length d.value.notes.items < 18446744073709551616
      → Allows Rule slots id me' 1 (λ n. (n + 1) % 2 ^ 64) (RaisedLast (step slots 1 1 0 none) me')
  counts_last slots id me me' d note bare is active holding named items runs claim small =
      subst (λ (m : SeatPart O N). Allows Rule slots id m 1
      (λ n. (n + 1) % 2 ^ 64) (RaisedLast (step slots 1 1 0 none) m))
      (sym (laid me me' d bare is))
      (raises_last slots id (me.0, (0, Some d) ∷ []) note d.value.object active holding items named runs claim
      (omega (arith, small, ap (λ (l : List N). length l) items, length-append me.0.seen (note ∷ []))))

  counted_last : (me me' me'' : SeatPart O N) (d : SlotBox O N) (note : N) → me ≡ (me.0, (0, None) ∷ [])
      → me' ≡ (me.0, (0, Some d) ∷ Rattle.atomic_table.specs.Table.rest me.1)
      → d.value.notes.items ≡ me.0.seen ++ note ∷ []
      → me'' ≡ (view_after_last_note me'.0 (drop (length me'.0.seen) (in_hand me'.1)), me'.1)
      → me'' ≡ (view_after_last_note me.0 (note ∷ []), (0, Some d) ∷ [])
  counted_last me me' me'' d note bare is items up = up
      ∙ (ap (λ (m : SeatPart O N). (view_after_last_note m.0 (drop (length m.0.seen) (in_hand m.1)), m.1))
      (laid me me' d bare is)
      ∙ ap (λ (l : List N). (view_after_last_note me.0 l, (0, Some d) ∷ []))
      (ap (drop (length me.0.seen)) items ∙ drop-append_seam me.0.seen (note ∷ [])))

  -- and then the turn is given back
  pub gives_last : (slots id : ℕ) (me me' me'' : SeatPart O N) (d : SlotBox O N) (note : N)
      → me ≡ (me.0, (0, None) ∷ [])
      → me' ≡ (me.0, (0, Some d) ∷ Rattle.atomic_table.specs.Table.rest me.1)
      → me'' ≡ (view_after_last_note me'.0 (drop (length me'.0.seen) (in_hand me'.1)), me'.1)
      → me.0.spent ≡ false → me.0.holding ≡ true → d.value.notes.items ≡ me.0.seen ++ note ∷ []
      → LeadsTo steps opening (me.0.seen ++ note ∷ []) d.value.object → d.value.reserved ≡ me.0.reserve - 1
      → length d.value.notes.items + d.value.reserved ≤ d.value.notes.cap
      → Allows Rule slots id me'' 0 (λ _. 0) (λ _. Returned (step slots 0 0 0 none) me'' 0)
  gives_last slots id me me' me'' d note bare is up active holding items runs reserve space =
      subst (λ (m : SeatPart O N). Allows Rule slots id m 0 (λ _. 0) (λ _. Returned (step slots 0 0 0 none) m 0))
      (sym (counted_last me me' me'' d note bare is items up))
      (returns_turn slots id (view_after_last_note me.0 (note ∷ []), (0, Some d) ∷ []) d active holding refl items runs
      reserve
      (omega (arith, ap (λ (l : List N). length l) items, space)))
