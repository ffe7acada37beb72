-- The witness of a race is a run's journal, and ends in the contention of the two offers.
use Rattle.std.proofs.Common.{◌≡◌, ◌≢◌, ◌⊎◌, ⊎_elim, inl, inr, ℕ, ◌+◌, Bool, true, false, List, [], ◌∷◌}
use Rattle.std.proofs.Common.{◌++◌, Option, Some, refl, sym, ap, ◌∙◌, subst}
use Rattle.sp_base.proofs.Facts.{true_is_not_false}
use Rattle.sp_journal.specs.declared.entry.Way.{Way}
use Rattle.sp_meaning.specs.Model.{Name, Channel, Language}
use Rattle.sp_meaning.specs.LocalWork.{RunInput}
use Rattle.sp_meaning.specs.SuperPascal.{superpascal}
use Rattle.sp_meaning.specs.Entries.{Happening, Offered, Paused, Occurrence}
use Rattle.sp_meaning.specs.Along.{IsClean}
use Rattle.sp_race.specs.Notes.{Event, next_event_of}
use Rattle.sp_race.specs.RunNotes.{WithNotes}
use Rattle.sp_witness.specs.Witness.{is_pause}
use Rattle.sp_witness.proofs.Independent.{IsLocal}
use Rattle.sp_witness.proofs.IndependentSteps.{Head, Tag, Block, Does, Runs, BlockRuns}
use Rattle.sp_witness.proofs.Blocks.{IsMove, IsLocalNotDue, AllSilent, IsLast, Valid, since_after, since_all, AllValid}
use Rattle.sp_witness.proofs.Back.{entry_of, entries}
use Rattle.sp_witness.proofs.Contention.{Offers, offers_of, local_pending, local_condition, pends_next}

pub clean_front : (xs ys : List Occurrence) → IsClean (xs ++ ys) → IsClean xs
clean_front [] ys c = tt
clean_front (x ∷ xs) ys c = (c.0, clean_front xs ys c.1)

module _ (g : RunInput) (label : ℕ → Option Event) where
  abbrev L : Language
  L = superpascal g

  pub runs_split : (s t : WithNotes L) (xs ys : List (Block g)) → BlockRuns g label s (xs ++ ys) t
      → (m : WithNotes L) × BlockRuns g label s xs m × BlockRuns g label m ys t
  runs_split s t [] ys r = (s, refl, r)
  runs_split s t (x ∷ xs) ys r = let k = runs_split r.0 t xs ys r.2 in (k.0, (r.0, r.1, k.1), k.2)

  pub runs_join : (s m t : WithNotes L) (xs ys : List (Block g)) → BlockRuns g label s xs m → BlockRuns g label m ys t
      → BlockRuns g label s (xs ++ ys) t
  runs_join s m t [] ys r k = subst (λ z. BlockRuns g label z ys t) r k
  runs_join s m t (x ∷ xs) ys r k = (r.0, r.1, runs_join r.0 m t xs ys r.2 k)

  pub entries_join : (xs ys : List (Block g)) → entries g (xs ++ ys) ≡ entries g xs ++ entries g ys
  entries_join [] ys = refl
  entries_join (x ∷ xs) ys = ap (λ z. entry_of x.head ∷ z) (entries_join xs ys)

  module _ (turn : ℕ) where
    pub valid_join : (c : Name → ℕ) (xs ys : List (Block g)) → AllValid g turn c xs
        → AllValid g turn (since_all g turn c xs) ys → AllValid g turn c (xs ++ ys)
    valid_join c [] ys a b = b
    valid_join c (x ∷ xs) ys a b = (a.0, valid_join (since_after g turn c x) xs ys a.1 b)

    -- the last step of an offer
    pub record LastStep (w : Way) (c : Channel) (since : ℕ) (s t : WithNotes L) (h : Head) : Type 0 where
      pub before : WithNotes L
      pub locals : List (Tag g)
      pub silent : AllSilent g turn since locals
      pub runs : Runs g label s h locals before
      pub tag : Tag g
      pub does : Does g label before h tag t
      pub offers : Offers L tag.act w c

    pub last_step : (w : Way) (c : Channel) (since : ℕ) (s t : WithNotes L) (h : Head) (xs : List (Tag g)) (ticks : ℕ)
        → Valid g turn since (Offered w c) xs ticks → Runs g label s h xs t → LastStep w c since s t h
    last_step w c since s t h [] ticks v r = absurd v
    last_step w c since s t h (x ∷ xs) ticks v r = ⊎_elim
        (λ (y : IsLocalNotDue g turn since x × Valid g turn since (Offered w c) xs ticks).
        let k = last_step w c since r.0 t h xs ticks y.1 r.2 in
        record {
          before = k.before;
          locals = x ∷ k.locals;
          silent = (y.0, k.silent);
          runs = (r.0, r.1, k.runs);
          tag =
              k.tag;
          does = k.does;
          offers = k.offers;
        })
        (λ (y : (xs ≡ []) × IsLast g turn since (Offered w c) x ticks).
        let (none_left, (says, _)) = y in
        let e : t ≡ r.0 = subst (λ z. Runs g label r.0 h z t) none_left r.2 in
        record {
          before = s;
          locals = [];
          silent = tt;
          runs = refl;
          tag = x;
          does =
              subst (λ z. Does g label s h x z) (sym e) r.1;
          offers = offers_of L x.act w c says;
        })
        v

    local_is : (since : ℕ) (x : Tag g) (b : Bool) (ticks : ℕ) → IsMove g turn since x b ticks → IsLocal x.act
    local_is since x b ticks v = subst IsLocal (sym v.move_is) tt

    undue_is : (since : ℕ) (x : Tag g) → IsLocalNotDue g turn since x → IsLocal x.act
    undue_is since x (ticks, move) = local_is since x false ticks move

    pub silent_pending : (since : ℕ) (s t : WithNotes L) (h : Head) (xs : List (Tag g)) (c : Channel)
        → AllSilent g turn since xs → Runs g label s h xs t → t.state.pending c ≡ s.state.pending c
    silent_pending since s t h [] c q r = ap (λ (z : WithNotes L). z.state.pending c) r
    silent_pending since s t h (x ∷ xs) c q r = silent_pending since r.0 t h xs c q.1 r.2
        ∙ local_pending g label s h x r.0 r.1 (undue_is since x q.0) c

    pub silent_condition : (since : ℕ) (s t : WithNotes L) (h : Head) (xs : List (Tag g)) (p : Name) → p ≢ h.who
        → AllSilent g turn since xs → Runs g label s h xs t → t.state.condition p ≡ s.state.condition p
    silent_condition since s t h [] p apart q r = ap (λ (z : WithNotes L). z.state.condition p) r
    silent_condition since s t h (x ∷ xs) p apart q r = silent_condition since r.0 t h xs p apart q.1 r.2
        ∙ local_condition g label s h x r.0 r.1 (undue_is since x q.0) p apart

    -- pending offers are known ones
    module _ (known : ℕ → Bool) where
      abbrev pub Pends : WithNotes L → Type 0
      Pends u = (c : Channel) (z : Name) → u.state.pending c ≡ Some z
          → (k : ℕ) × (label k ≡ Some (next_event_of u.notes z)) × (known k ≡ true)

      pub silent_pends : (since : ℕ) (s t : WithNotes L) (h : Head) (xs : List (Tag g)) → AllSilent g turn since xs
          → Runs g label s h xs t → Pends s → Pends t
      silent_pends since s t h [] q r p = subst Pends (sym r) p
      silent_pends since s t h (x ∷ xs) q r p =
          silent_pends since r.0 t h xs q.1 r.2
          (pends_next g label s h x r.0 r.1 known (inl (undue_is since x q.0)) p)

      -- a pause, or an entry that is known
      abbrev pub IsFit : Head → Type 0
      IsFit h = (is_pause h.what ≡ true) ⊎ (known h.position ≡ true)

      last_local : (what : Happening) (since : ℕ) (x : Tag g) (ticks : ℕ) → is_pause what ≡ true
          → IsLast g turn since what x ticks → IsLocal x.act
      last_local Paused since x ticks p l = local_is since x true ticks l
      last_local _ _ _ _ p _ = true_is_not_false (sym p)

      block_pends : (since : ℕ) (s t : WithNotes L) (h : Head) (xs : List (Tag g)) (ticks : ℕ) → IsFit h
          → Valid g turn since h.what xs ticks → Runs g label s h xs t → Pends s → Pends t
      block_pends since s t h [] ticks fit v r p = absurd v
      block_pends since s t h (x ∷ xs) ticks fit v r p = ⊎_elim
          (λ (y : IsLocalNotDue g turn since x × Valid g turn since h.what xs ticks). block_pends since r.0 t h xs
          ticks fit
          y.1 r.2 (pends_next g label s h x r.0 r.1 known (inl (undue_is since x y.0)) p))
          (λ (y : (xs ≡ []) × IsLast g turn since h.what x ticks).
          let e : t ≡ r.0 = subst (λ z. Runs g label r.0 h z t) y.0 r.2 in
          subst Pends (sym e) (pends_next g label s h x r.0 r.1 known
          (⊎_elim (λ (z : is_pause h.what ≡ true). inl (last_local h.what since x ticks z y.1))
          (λ (z : known h.position ≡ true). inr z) fit) p))
          v

      abbrev pub HeadsFit : List (Block g) → Type 0
      HeadsFit [] = Unit {0}
      HeadsFit (b ∷ bs) = IsFit b.head × HeadsFit bs

      pub blocks_pend : (c : Name → ℕ) (s t : WithNotes L) (bs : List (Block g)) → HeadsFit bs → AllValid g turn c bs
          → BlockRuns g label s bs t → Pends s → Pends t
      blocks_pend c s t [] fit v r p = subst Pends (sym r) p
      blocks_pend c s t (b ∷ bs) fit v r p =
          blocks_pend (since_after g turn c b) r.0 t bs fit.1 v.1 r.2
          (block_pends (c b.head.who) s r.0 b.head b.tags b.ticks fit.0 v.0 r.1 p)
