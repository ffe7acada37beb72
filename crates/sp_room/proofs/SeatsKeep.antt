-- Dealing out seats, taking them in, and the end: each keeps the rule of the room's table.
use Rattle.std.proofs.Common.{◌≡◌, ◌≢◌, ◌⊎◌, inl, inr, ⊎_elim, ℕ, zero, suc, ◌+◌, ◌-◌, ◌<◌, ◌≤◌, List, [], ◌∷◌, ◌++◌}
use Rattle.std.proofs.Common.{length, get_or, set, refl, sym, ap, ◌∙◌, subst, arith, length-set, length-append}
use Rattle.std.proofs.Common.{true≢false, Option, Some, true, false}
use Rattle.std.proofs.lemmas.Option.{same_Some}
use mathlib.Core.Logic.{dite}
use mathlib.Core.Option.{some, some-injective, some-ne-none}
use native.Mathlib.Decide.{ℕ_discrete}
use lib.ListN.{get_elem?}
use Rattle.atomic_table.specs.Table.{Splits, Joins, Seen, Final, opening}
use Rattle.atomic_table.proofs.Lists.{at_set, set_here, set_else, at_longer}
use Rattle.sp_room.specs.declared.room_slot.RoomSlot.{RoomSlot}
use Rattle.sp_room.specs.declared.view.View.{View}
use Rattle.sp_room.specs.History.{StartsWith, notes_by, LeadsTo}
use Rattle.sp_room.specs.RoomRule.{SlotBox, RoomTable, SeatPart, SeatKnows, RoomRule, first_view, view_after_making}
use Rattle.sp_room.specs.RoomRule.{newcomer, view_after_joining, spent_view}
use Rattle.sp_room.specs.RoomRule.{newborn, claims_of, IsNewAt}
use Rattle.sp_room.proofs.Histories.{at_inside, claims_set, claims_end}

pub at_end : {X : Type 0} (l : List X) (a b : X) (j : ℕ) → get_elem? (l ++ a ∷ []) j ≡ some b → (get_elem? l j ≡ some b)
    ⊎ ((j ≡ length l) × (a ≡ b))
at_end [] a b zero e = inr (refl, some-injective a b e)
at_end [] a b (suc j) e = absurd (some-ne-none b (sym e))
at_end (x ∷ xs) a b zero e = inl e
at_end (x ∷ xs) a b (suc j) e = ⊎_elim (λ t. inl t) (λ t. inr (ap suc t.0, t.1)) (at_end xs a b j e)

pub at_some : {X : Type 0} (l : List X) (i : ℕ) → i < length l → (x : X) × (get_elem? l i ≡ some x)
at_some [] i h = absurd (omega arith)
at_some (x ∷ xs) zero h = (x, refl)
at_some (x ∷ xs) (suc i) h = at_some xs i (omega arith)

module _ {O A G N : Type 0} (opens : O → Type 0) (steps : O → ℕ → A → O → G → Option N → Type 0) (author : N → ℕ)
    (start : O) where
  abbrev V : Type 0
  V = View O N

  abbrev Rule : RoomTable O N → Type 0
  Rule = RoomRule opens steps author start

  abbrev turn : RoomTable O N → ℕ
  turn s = get_or s.words 0 0

  -- what a seat knows stays, where the seats that were taken in stay so, and it makes a seat with as many seats
  stays : (log : List N) (t : ℕ) (old new : List V) (j : ℕ) (u : V) → SeatKnows author start log t old j u
      → ((k : ℕ) (x : V) → get_elem? old k ≡ some x → x.spent ≡ true → get_elem? new k ≡ some x)
      → (u.seats_made ≢ 0 → (u.seats_made ≡ length new) × (j + 1 ≡ length new)) → claims_of new ≤ claims_of old
      → SeatKnows author start log t new j u
  stays log t old new j u k there counts less = record {
    opened = k.opened;
    numbered = k.numbered;
    seen = k.seen;
    own = k.own;
    holds = λ h. let t = k.holds h in (t.0, t.1, omega (arith, t.2, less));
    counts = counts;
    joins = k.joins;
    taken_in = λ i own e. let (notes_are, taken, at_taken, is_spent) = k.taken_in i own e in
        (notes_are, taken, there (u.from + i) taken at_taken is_spent, is_spent);
    had_seen = k.had_seen;
  }

  one : (l : List V) (i : ℕ) (x y : V) → get_elem? l i ≡ some x → get_elem? l i ≡ some y → x ≡ y
  one l i x y a b = some-injective x y (sym a ∙ b)

  pub opens_room : (d : SlotBox O N) → opens start → d.value.object ≡ start → d.value.notes.items ≡ []
      → d.value.reserved ≡ 64 → 64 ≤ d.value.notes.cap → Rule (opening (0 ∷ 0 ∷ []) (Some d ∷ []) (first_view start))
  opens_room d fine is empty kept space = record {
    fine = fine;
    log = [];
    last = start;
    legal = refl;
    wide = refl;
    deep = refl;
    count = refl;
    free = λ _. (d, refl, empty, sym is, omega (arith, kept), omega (arith, kept, space));
    taken = λ j e. absurd (omega (arith, e));
    each = first;
    nobody = λ _ _. refl;
  } where
    first : (j : ℕ) (v : V) → get_elem? (first_view start ∷ []) j ≡ some v → v.spent ≡ false
        → SeatKnows author start [] 0 (first_view start ∷ []) j v
    first zero v e on = subst (λ (z : V). SeatKnows author start [] 0 (first_view start ∷ []) 0 z)
        (some-injective (first_view start) v e) record {
          opened = refl;
          numbered = refl;
          seen = ([], refl);
          own = refl;
          holds = λ no. absurd (true≢false (sym no));
          counts = λ _. (refl, refl);
          joins = refl;
          taken_in = λ i own e. absurd (some-ne-none own (sym e));
          had_seen = λ i l e. absurd (some-ne-none l (sym e));
        }
    first (suc j) v e on = absurd (some-ne-none v (sym e))

  pub makes_seat : (id : ℕ) (v : V) → v.spent ≡ false → v.seats_made ≢ 0 → 0 < v.claims
      → Splits Rule id v (view_after_making v) (newcomer v)
  makes_seat id v active making claim s r at = let k = r.each id v at active in let n : ℕ = length s.views in
      let old : List V = set s.views id (view_after_making v) in let new : List V = old ++ newcomer v ∷ [] in
      let c = k.counts making in let wide : length old ≡ n = length-set s.views id (view_after_making v) in
      let long : length new ≡ length old + 1 = length-append old (newcomer v ∷ []) in
      let inside : id < n = at_inside s.views id v at in
      let less : claims_of new ≤ claims_of s.views =
      omega (arith, claim, claims_set s.views id v (view_after_making v) at, claims_end old (newcomer v)) in
      let there : (j : ℕ) (x : V) → get_elem? s.views j ≡ some x → x.spent ≡ true → get_elem? new j ≡ some x
      = λ j x e gone. at_longer old (newcomer v ∷ []) j x
      (set_else s.views id j (view_after_making v)
      (λ same. true≢false (sym gone ∙ (ap (λ (z : V). z.spent)
      (one s.views id x v (ap (get_elem? s.views) (sym same) ∙ e) at) ∙ active))) ∙ e) in record {
        fine = r.fine;
        log = r.log;
        last = r.last;
        legal = r.legal;
        wide = r.wide;
        deep = r.deep;
        count = r.count;
        free = λ z. let (d, home, notes_are, runs, claimed, fits) = r.free z in
            (d, home, notes_are, runs, omega (arith, claimed, less), fits);
        taken = λ j e. let (u, at_j, holding, on) = r.taken j e in dite (ℕ_discrete j id)
            (λ same. let is : u ≡ v = one s.views id u v (ap (get_elem? s.views) (sym same) ∙ at_j) at in (
              view_after_making v,
              at_longer old (newcomer v ∷ []) j (view_after_making v)
                  (ap (get_elem? old) same ∙ set_here s.views id (view_after_making v) inside),
              ap (λ (z : V). z.holding) (sym is)
                  ∙ holding,
              active,
            ))
            (λ ne. (
              u,
              at_longer old (newcomer v ∷ []) j u (set_else s.views id j (view_after_making v) ne ∙ at_j),
              holding,
              on,
            ));
        each = λ j u e on. ⊎_elim
            (λ (h : get_elem? old j ≡ some u). ⊎_elim
            (λ (p : (j ≡ id) × (view_after_making v ≡ u)). subst
            (λ (z : ℕ × V). SeatKnows author start r.log (turn s) new z.0 z.1)
            (λ i. (sym p.0 i, p.1 i))
            (stays r.log (turn s) s.views new id (view_after_making v) record {
              opened = k.opened;
              numbered = k.numbered;
              seen = k.seen;
              own = k.own;
              holds = k.holds;
              counts = λ z. absurd (z refl);
              joins = k.joins;
              taken_in = k.taken_in;
              had_seen = k.had_seen;
            } there (λ z. absurd (z refl)) less))
            (λ (p : (j ≢ id) × (get_elem? s.views j ≡ some u)). stays r.log (turn s) s.views new j u (r.each j u p.1 on)
            there
            (λ z. let d = (r.each j u p.1 on).counts z in absurd (p.0 (omega (arith, d.1, c.1)))) less)
            (at_set s.views id j (view_after_making v) u h))
            (λ (h : (j ≡ length old) × (newcomer v ≡ u)). let here : j ≡ v.seats_made = h.0 ∙ (wide ∙ sym c.0) in
            subst (λ (z : ℕ × V). SeatKnows author start r.log (turn s) new z.0 z.1) (λ i. (sym here i, h.1 i)) record {
              opened = k.opened;
              numbered = refl;
              seen = k.seen;
              own = r.nobody v.seats_made (omega (arith, c.0));
              holds = λ no. absurd (true≢false (sym no));
              counts = λ _. (omega (arith, c.0, wide, long), omega (arith, c.0, wide, long));
              joins = omega arith;
              taken_in = λ i own e. absurd (some-ne-none own (sym e));
              had_seen = λ i l e. absurd (some-ne-none l (sym e));
            })
            (at_end old (newcomer v) u j e);
        nobody = λ j le. r.nobody j (omega (arith, le, wide, long));
      }

  pub joins : (id : ℕ) (v : V) (other : ℕ) (w : V) → v.spent ≡ false → v.holding ≡ false → w.spent ≡ false
      → w.holding ≡ false → w.number + 1 ≡ v.from
      → Joins Rule id v other w (view_after_joining v w) spent_view
  joins id v other w active idle there_active there_idle next s r at apart at_other = let k = r.each id v at active in
      let both : V = view_after_joining v w in let mid : List V = set s.views id both in
      let new : List V = set mid other spent_view in
      let was : get_elem? s.views other ≡ some w = sym (set_else s.views id other both apart) ∙ at_other in
      let l = r.each other w was there_active in
      let wide : length new ≡ length s.views = length-set mid other spent_view ∙ length-set s.views id both in
      let less : claims_of new ≤ claims_of s.views =
      omega (arith, claims_set s.views id v both at, claims_set mid other w spent_view at_other) in
      let inside : other < length mid = at_inside mid other w at_other in
      let gone : get_elem? new other ≡ some spent_view = set_here mid other spent_view inside in
      let stay : (j : ℕ) (x : V) → j ≢ id → j ≢ other → get_elem? s.views j ≡ some x
      → get_elem? new j ≡ some x = λ j x a b e. set_else mid other j spent_view b
      ∙ (set_else s.views id j both a ∙ e) in
      let there : (j : ℕ) (x : V) → get_elem? s.views j ≡ some x → x.spent ≡ true → get_elem? new j ≡ some x
      = λ j x e sp. stay j x (λ same. true≢false
      (sym sp ∙ (ap (λ (z : V). z.spent) (one s.views id x v (ap (get_elem? s.views) (sym same) ∙ e) at) ∙ active)))
      (λ same. true≢false (sym sp ∙ (ap (λ (z : V). z.spent)
      (one s.views other x w (ap (get_elem? s.views) (sym same) ∙ e) was) ∙ there_active))) e in record {
        fine = r.fine;
        log = r.log;
        last = r.last;
        legal = r.legal;
        wide = r.wide;
        deep = r.deep;
        count = r.count;
        free = λ z. let (d, home, notes_are, runs, claimed, fits) = r.free z in
            (d, home, notes_are, runs, omega (arith, claimed, less), fits);
        taken = λ j e. let (u, at_j, holding, on) = r.taken j e in (
          u,
          stay j u (λ same. true≢false (sym holding
              ∙ (ap (λ (z : V). z.holding) (one s.views id u v (ap (get_elem? s.views) (sym same) ∙ at_j) at) ∙ idle)))
              (λ same. true≢false (sym holding ∙ (ap (λ (z : V). z.holding)
              (one s.views other u w (ap (get_elem? s.views) (sym same) ∙ at_j) was) ∙ there_idle))) at_j,
          holding,
          on,
        );
        each = λ j u e on. ⊎_elim
            (λ (p : (j ≡ other) × (spent_view ≡ u)). absurd (true≢false (ap (λ (z : V). z.spent) p.1 ∙ on)))
            (λ (p : (j ≢ other) × (get_elem? mid j ≡ some u)). ⊎_elim
            (λ (q : (j ≡ id) × (both ≡ u)). subst (λ (z : ℕ × V). SeatKnows author start r.log (turn s) new z.0 z.1)
            (λ i. (sym q.0 i, q.1 i)) record {
              opened = k.opened;
              numbered = k.numbered;
              seen = k.seen;
              own = k.own;
              holds = λ yes. absurd (true≢false (sym yes ∙ idle));
              counts = λ z. let c = k.counts z in (c.0 ∙ sym wide, c.1 ∙ sym wide);
              joins = omega (arith, next, k.joins);
              taken_in = took r.log (turn s) s.views new k l next gone there;
              had_seen = looked_too r.log (turn s) s.views k l;
            })
            (λ (q : (j ≢ id) × (get_elem? s.views j ≡ some u)). stays r.log (turn s) s.views new j u (r.each j u q.1 on)
            there
            (λ z. let c = (r.each j u q.1 on).counts z in (c.0 ∙ sym wide, c.1 ∙ sym wide)) less)
            (at_set s.views id j both u p.1))
            (at_set mid other j spent_view u e);
        nobody = λ j le. r.nobody j (subst (λ n. n ≤ j) wide le);
      } where
        took : (log : List N) (t : ℕ) (old new : List V) → SeatKnows author start log t old id v
            → SeatKnows author start log t old other w → w.number + 1 ≡ v.from → get_elem? new other ≡ some spent_view
            → ((j : ℕ) (x : V) → get_elem? old j ≡ some x → x.spent ≡ true → get_elem? new j ≡ some x)
            → (i : ℕ) (own : List N) → get_elem? (w.own ∷ v.joined) i ≡ some own
            → (notes_by author (w.number + i) log ≡ own) × (x : V) × (get_elem? new (w.number + i) ≡ some x)
            × (x.spent ≡ true)
        took log t old new k l next gone there zero own e = let here : w.number + 0 ≡ other =
            omega (arith, l.numbered) in (
              ap (λ n. notes_by author n log) here ∙ (l.own ∙ some-injective w.own own e),
              spent_view,
              ap (get_elem? new) here ∙ gone,
              refl,
            )
        took log t old new k l next gone there (suc i) own e =
            let (notes_are, taken, at_taken, is_spent) = k.taken_in i own e in
            let here : w.number + suc i ≡ v.from + i = omega (arith, next) in (
              ap (λ n. notes_by author n log) here ∙ notes_are,
              taken,
              ap (get_elem? new) here ∙ there (v.from + i) taken at_taken is_spent,
              is_spent,
            )

        looked_too : (log : List N) (t : ℕ) (old : List V) → SeatKnows author start log t old id v
            → SeatKnows author start log t old other w → (i : ℕ) (x : List N) → get_elem? (w.seen ∷ v.looked) i ≡ some x
            → StartsWith log x
        looked_too log t old k l zero x e = subst (StartsWith log) (some-injective w.seen x e) l.seen
        looked_too log t old k l (suc i) x e = k.had_seen i x e

  -- at the end, where one seat has taken in all others
  pub all_home : (s : RoomTable O N) (r : Rule s) (id : ℕ) (v : V) → get_elem? s.views id ≡ some v → v.spent ≡ false
      → v.holding ≡ false → v.from ≡ 0 → v.seats_made ≢ 0 → turn s ≡ 0
  all_home s r id v at active idle from makes_seat = dite (ℕ_discrete (turn s) 0) (λ z. z)
      (λ held. let j : ℕ = turn s - 1 in let k = r.each id v at active in
      let (u, at_u, holding, on) = r.taken j (omega (arith, held)) in
      let c = k.counts makes_seat in let here : j < length s.views = at_inside s.views j u at_u in
      absurd (dite (ℕ_discrete j id)
      (λ same. true≢false (sym holding ∙ (ap (λ (z : V). z.holding)
      (one s.views id u v (ap (get_elem? s.views) (sym same) ∙ at_u) at) ∙ idle)))
      (λ ne. let g = at_some v.joined j (omega (arith, ne, here, c.1, k.joins, from)) in
      let (_, taken, at_taken, is_spent) = k.taken_in j g.0 g.1 in
      let at_j : v.from + j ≡ j = omega (arith, from) in
      true≢false (sym is_spent ∙ (ap (λ (z : V). z.spent)
      (one s.views j taken u (ap (get_elem? s.views) (sym at_j) ∙ at_taken) at_u) ∙ on)))))

  -- what was laid back, and whose notes are whose
  pub settles : (words : List ℕ) (slots : List (Option (SlotBox O N))) (id : ℕ) (v : V) (x : Option (SlotBox O N))
      → Final (Seen Rule id v) words slots → v.spent ≡ false → v.holding ≡ false → v.from ≡ 0 → v.seats_made ≢ 0
      → get_elem? slots 0 ≡ some x → (d : SlotBox O N) × (x ≡ Some d)
      × LeadsTo steps start d.value.notes.items d.value.object
      × ((k : ℕ) (own : List N) → get_elem? (v.joined ++ v.own ∷ []) k ≡ some own
      → notes_by author k d.value.notes.items ≡ own)
      × ((k : ℕ) (l : List N) → get_elem? (v.looked ++ v.seen ∷ []) k ≡ some l → StartsWith d.value.notes.items l)
  settles words slots id v x (s, (r, at), _, _, homes) active idle from makes_seat found =
      let k = r.each id v at active in
      let (d, home, notes_are, runs, _, _) = r.free (all_home s r id v at active idle from makes_seat) in (
        d,
        some-injective x (Some d) (sym found ∙ homes 0 (Some d) home),
        subst (λ l. LeadsTo steps start l d.value.object) (sym notes_are) runs,
        λ j own e. ap (λ l. notes_by author j l) notes_are ∙ ⊎_elim
            (λ (p : get_elem? v.joined j ≡ some own). let t = k.taken_in j own p in
            let at_j : j ≡ v.from + j = omega (arith, from) in ap (λ n. notes_by author n r.log) at_j ∙ t.0)
            (λ (p : (j ≡ length v.joined) × (v.own ≡ own)). let at_j : j ≡ id = omega (arith, p.0, k.joins, from) in
            ap (λ n. notes_by author n r.log) at_j ∙ (k.own ∙ p.1))
            (at_end v.joined v.own own j e),
        λ j l e. subst (λ z. StartsWith z l) (sym notes_are) (⊎_elim
            (λ (p : get_elem? v.looked j ≡ some l). k.had_seen j l p)
            (λ (p : (j ≡ length v.looked) × (v.seen ≡ l)). subst (StartsWith r.log) p.1 k.seen)
            (at_end v.looked v.seen l j e)),
      )

  -- and nobody else has a note
  pub nobody_else : (words : List ℕ) (slots : List (Option (SlotBox O N))) (id : ℕ) (v : V) (x : Option (SlotBox O N))
      (d : SlotBox O N) → Final (Seen Rule id v) words slots → v.spent ≡ false → v.holding ≡ false → v.from ≡ 0
      → v.seats_made ≢ 0
      → get_elem? slots 0 ≡ some x → x ≡ Some d → (k : ℕ) → v.seats_made ≤ k
      → notes_by author k d.value.notes.items ≡ []
  nobody_else words slots id v x d (s, (r, at), _, _, homes) active idle from makes_seat found is k out =
      let c = (r.each id v at active).counts makes_seat in
      let (there, home, notes_are, _, _, _) = r.free (all_home s r id v at active idle from makes_seat) in
      let same : there ≡ d = same_Some there d
      (sym (some-injective x (Some there) (sym found ∙ homes 0 (Some there) home)) ∙ is) in
      ap (λ (e : SlotBox O N). notes_by author k e.value.notes.items) (sym same)
      ∙ (ap (λ l. notes_by author k l) notes_are ∙ r.nobody k (omega (arith, c.0, out)))

-- the first of several seats leaves the making to the next
pub deals_on : {O A G N : Type 0} (opens : O → Type 0) (steps : O → ℕ → A → O → G → Option N → Type 0) (author : N → ℕ)
    (start : O) (id : ℕ) (me : SeatPart O N) (number : ℕ) (seats_made : ℕ) (claims : ℕ)
    → me ≡ (newborn start number seats_made claims, []) → 0 < seats_made → 0 < claims
    → Splits (RoomRule opens steps author start) id me.0 (view_after_making me.0) (newcomer me.0)
deals_on opens steps author start id me number seats_made claims is several claim =
    makes_seat opens steps author start id me.0 (ap (λ (m : SeatPart _ _). m.0.spent) is)
    (λ z. let e : seats_made ≡ 0 = ap (λ (m : SeatPart _ _). m.0.seats_made) (sym is) ∙ z in absurd (omega arith))
    (let e : me.0.claims ≡ claims = ap (λ (m : SeatPart _ _). m.0.claims) is in omega arith)

-- a seat that was made is new
pub born : {O N : Type 0} (x : O) (n k : ℕ) (v : View O N) → v ≡ newborn x k v.seats_made v.claims → 0 < v.claims
    → (k + 1 ≡ n → v.seats_made ≡ n) → IsNewAt n k v
born x n k v is claim last = record {
  stands = record {
    number = λ i. (is i).number;
    from = λ i. (is i).from;
    joined = λ i. (is i).joined;
    looked = λ i. (is i).looked;
    last = last;
  };
  seen = λ i. (is i).seen;
  own = λ i. (is i).own;
  turns = λ i. (is i).turns;
  reserve = claim;
}

-- the table of a new room
pub opens_table : {O A G N : Type 0} (opens : O → Type 0) (steps : O → ℕ → A → O → G → Option N → Type 0)
    (author : N → ℕ) (x : O) (d : SlotBox O N) (slots : List (Option (SlotBox O N)))
    → slots ≡ Some d ∷ [] → x ≡ d.value.object → opens d.value.object → d.value.notes.items ≡ [] → d.value.reserved ≡ 64
    → 64 ≤ d.value.notes.cap → RoomRule opens steps author x (opening (0 ∷ 0 ∷ []) slots (first_view x))
opens_table {O} {A} {G} {N} opens steps author x d slots is same fine empty kept space =
    subst (λ (z : O × List (Option (SlotBox O N))). RoomRule opens steps author z.0
    (opening (0 ∷ 0 ∷ []) z.1 (first_view z.0)))
    (λ i. (sym same i, sym is i)) (opens_room opens steps author d.value.object d fine refl empty kept space)

-- the same, of what was filed
pub opens_filed : {O A G N : Type 0} (opens : O → Type 0) (steps : O → ℕ → A → O → G → Option N → Type 0)
    (author : N → ℕ) (x : O) (first : RoomSlot O N) (d : SlotBox O N) (slots : List (Option (SlotBox O N)))
    → d.value ≡ first → slots ≡ Some d ∷ [] → x ≡ first.object → opens first.object → first.notes.items ≡ []
    → first.reserved ≡ 64 → 64 ≤ first.notes.cap
    → RoomRule opens steps author x (opening (0 ∷ 0 ∷ []) slots (first_view x))
opens_filed {O} {A} {G} {N} opens steps author x first d slots filed is same fine empty kept space =
    let back : first ≡ d.value = sym filed in
    opens_table opens steps author x d slots is (same ∙ ap (λ (e : RoomSlot O N). e.object) back)
    (subst (λ (e : RoomSlot O N). opens e.object) back fine) (ap (λ (e : RoomSlot O N). e.notes.items) filed ∙ empty)
    (ap (λ (e : RoomSlot O N). e.reserved) filed ∙ kept) (subst (λ (e : RoomSlot O N). 64 ≤ e.notes.cap) back space)

-- what was taken out of the slot
pub settled : {O A G N : Type 0} (opens : O → Type 0) (steps : O → ℕ → A → O → G → Option N → Type 0) (author : N → ℕ)
    (start : O) (words : List ℕ) (slots : List (Option (SlotBox O N))) (id : ℕ) (v : View O N)
    (x : Option (SlotBox O N))
    (d : SlotBox O N)
    → Final (Seen (RoomRule opens steps author start) id v) words slots → v.spent ≡ false → v.holding ≡ false
    → v.from ≡ 0
    → v.seats_made ≢ 0 → get_elem? slots 0 ≡ some x → x ≡ Some d
    → LeadsTo steps start d.value.notes.items d.value.object
    × ((k : ℕ) (own : List N) → get_elem? (v.joined ++ v.own ∷ []) k ≡ some own
    → notes_by author k d.value.notes.items ≡ own)
    × ((k : ℕ) (l : List N) → get_elem? (v.looked ++ v.seen ∷ []) k ≡ some l → StartsWith d.value.notes.items l)
settled {O} {A} {G} {N} opens steps author start words slots id v x d final active idle from making found is =
    let (there, there_is, runs, owns, seens) =
    settles opens steps author start words slots id v x final active idle from making found in
    let same : there ≡ d = same_Some there d (sym there_is ∙ is) in
    subst (λ (e : SlotBox O N). LeadsTo steps start e.value.notes.items e.value.object
    × ((k : ℕ) (own : List N) → get_elem? (v.joined ++ v.own ∷ []) k ≡ some own
    → notes_by author k e.value.notes.items ≡ own)
    × ((k : ℕ) (l : List N) → get_elem? (v.looked ++ v.seen ∷ []) k ≡ some l → StartsWith e.value.notes.items l)) same
    (runs, owns, seens)
