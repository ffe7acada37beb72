-- Before the later offer of the least race a journal is in order.
use Rattle.std.proofs.Common.{◌≡◌, ⊎_elim, ℕ, zero, suc, ◌+◌, ◌<◌, ◌≤◌, true, false, List, [], ◌∷◌, ◌++◌, length}
use Rattle.std.proofs.Common.{take, take_at, Option, Some, None, slice_get, refl, sym, ap, ◌∙◌, subst, arith}
use Rattle.std.proofs.lemmas.Bool.{true≢false}
use Rattle.std.proofs.lemmas.Option.{none-some, same_Some, slice_get_within}
use Rattle.sp_journal.specs.declared.entry.Way.{Way}
use Rattle.sp_journal.specs.Names.{Name, Channel, Happening, Offered}
use Rattle.sp_journal.specs.Names.{Occurrence}
use Rattle.sp_journal.specs.Past.{Knowledge, knowledge_after, knowledge_of, no_knowledge, KnowsCompletions}
use Rattle.sp_journal.specs.Past.{CompletedFrom}
use Rattle.sp_race.specs.OfferOrder.{AreKnown}
use Rattle.sp_race.proofs.Completion.{ordered_known}
use Rattle.sp_race.specs.Races.{KnowsCompletion, IsLeastRace}
use Rattle.sp_witness.proofs.Pasts.{Stage, next_stage, get_at}

pub get_front : (xs ys : List Occurrence) (i : ℕ) (e : Occurrence) → slice_get xs i ≡ Some e
    → slice_get (xs ++ ys) i ≡ Some e
get_front [] ys i e h = absurd (none-some _ h)
get_front (x ∷ xs) ys zero e h = h
get_front (x ∷ xs) ys (suc i) e h = get_front xs ys i e h

module _ (es : List Occurrence) (w : Way) (c : Channel) (earlier later : ℕ)
    (least : IsLeastRace es w c earlier later) where
  ordered_from : (done mid tail : List Occurrence) (j : Knowledge) (n : ℕ) → Stage es done (mid ++ tail) j n
      → n + length mid ≤ later → CompletedFrom j done mid
  ordered_from done [] tail j n st le = tt
  ordered_from done (e ∷ mid) tail j n st le = (
    knows e.what refl,
    subst (λ z. CompletedFrom (knowledge_after j z e.who e.what) (done ++ e ∷ []) mid) (sym st.size)
        (ordered_from (done ++ e ∷ []) mid tail (knowledge_after j n e.who e.what) (suc n)
        (next_stage es done e (mid ++ tail) j n st) (omega (arith, le))),
  )
    where
      front_is : knowledge_of (take n es) ≡ j
      front_is = ap knowledge_of (ap (take n) st.whole ∙ take_at done (e ∷ (mid ++ tail)) n st.size)
          ∙ sym st.knowledge_is

      -- else these two were a race, and a smaller one
      never : (v : Way) (d : Channel) → e.what ≡ Offered v d → (i : ℕ) (z : Name)
          → slice_get done i ≡ Some (record { who = z; what = Offered v d }) → (KnowsCompletion j e.who i → ⊥) → ⊥
      never v d is i z got no_one =
          let inside = slice_get_within done i _ got in
          let size = st.size in
          ⊎_elim (λ (lt : later < n). omega (arith, lt, le)) (λ (x : (later ≡ n) × (earlier ≤ i)). let s = x.0 in
          omega (arith, s, le)) (least.1 v d i n (record {
            before = omega (arith, inside, size);
            first = z;
            offered_first = ap (λ xs. slice_get xs i) st.whole ∙ get_front done (e ∷ (mid ++ tail)) i _ got;
            second = e.who;
            offered_second = ap (λ xs. slice_get xs n) st.whole ∙ get_at done e (mid ++ tail) n st.size
                ∙ (λ i. Some (record { who = e.who; what = is i }));
            unknown = λ k. no_one (subst (λ (x : Knowledge). KnowsCompletion x e.who i) front_is k);
          }))

      knows_offer : (v : Way) (d : Channel) → e.what ≡ Offered v d → (i : ℕ) (z : Name)
          → slice_get done i ≡ Some (record { who = z; what = Offered v d })
          → (m : ℕ) × (j.completed i ≡ Some m) × (j.past e.who m ≡ true)
      knows_offer v d is i z got = by (j.completed i) refl
        where
          by : (o : Option ℕ) → j.completed i ≡ o → (m : ℕ) × (j.completed i ≡ Some m) × (j.past e.who m ≡ true)
          by None f = absurd (never v d is i z got (λ k. none-some _ (sym f ∙ k.1)))
          by (Some m) f = elim (j.past e.who m) as (λ b. j.past e.who m ≡ b
              → (m : ℕ) × (j.completed i ≡ Some m) × (j.past e.who m ≡ true)) [
                | true ↦ λ p. (m, f, p)
                | false ↦ λ p. absurd
                    (never v d is i z got (λ k. true≢false
                    (sym k.2 ∙ ap (j.past e.who) (same_Some _ _ (sym k.1 ∙ f)) ∙ p)))
              ] refl

      knows : (h : Happening) → e.what ≡ h → KnowsCompletions j done e.who h
      knows (Offered v d) is = knows_offer v d is
      knows _ _ = tt

  pub known_front : (front tail : List Occurrence) → es ≡ front ++ tail → length front ≤ later → AreKnown front
  known_front front tail whole le =
      ordered_known front (ordered_from [] front tail no_knowledge 0
      (record { whole = whole; knowledge_is = refl; size = refl }) (omega (arith, le)))
