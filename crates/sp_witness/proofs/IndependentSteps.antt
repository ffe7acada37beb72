-- Steps that do not depend on an earlier one move in front of it. Each step carries what it is: whose, of which entry,
-- what its process knew, and the act.
use Rattle.std.proofs.Common.{◌≡◌, ◌≢◌, ◌⊎◌, ⊎_elim, inl, inr, ℕ, ◌<◌, Bool, true, false, cond, if◌then◌else◌, List, []}
use Rattle.std.proofs.Common.{◌∷◌, Option, Some, refl, sym, ap, ◌∙◌, subst}
use Rattle.std.proofs.lemmas.Bool.{true≢false}
use Rattle.std.proofs.lemmas.Option.{same_Some}
use Rattle.sp_meaning.specs.Model.{Name, Language}
use Rattle.sp_meaning.specs.Steps.{ActOf, step_outcome, result_of, own_part}
use Rattle.sp_meaning.specs.LocalWork.{RunInput, Process}
use Rattle.sp_meaning.specs.SuperPascal.{superpascal, pauses_next}
use Rattle.sp_meaning.specs.Entries.{Happening}
use Rattle.sp_meaning.specs.Runs.{StateOf, start, total_limits, IsDisjointRun}
use Rattle.sp_meaning.proofs.Instance.{superpascal_keeps}
use Rattle.sp_race.specs.Notes.{Event, JudgeNotes, next_event_of}
use Rattle.sp_race.specs.RunNotes.{WithNotes, notes_after, noted_step_of}
use Rattle.sp_race.proofs.GoodSteps.{GoodStep, good_exchange}
use Rattle.sp_witness.proofs.Independent.{IsLocal, enabled, unmoved}

-- what an entry is: whose, which, its index, and the indices that its process knew before it
pub record Head : Type 0 where
  pub who : Name
  pub what : Happening
  pub position : ℕ
  pub knows : ℕ → Bool

-- b depends in no way on a, which is earlier
abbrev pub Free : Head → Head → Type 0
Free a b = (a.who ≢ b.who) × (a.position < b.position) × (b.knows a.position ≡ false)

-- of these, each that is marked is free of a
abbrev pub MarkedFree : (ℕ → Bool) → Head → List Head → Type 0
MarkedFree mark a [] = Unit {0}
MarkedFree mark a (b ∷ bs) = (mark b.position ≡ true → Free a b) × MarkedFree mark a bs

-- each that is marked is free of each one before it that is not
abbrev pub Cuts : (ℕ → Bool) → List Head → Type 0
Cuts mark [] = Unit {0}
Cuts mark (b ∷ bs) = (mark b.position ≡ false → MarkedFree mark b bs) × Cuts mark bs

module _ (g : RunInput) where
  abbrev L : Language
  L = superpascal g

  -- a step of the entry h
  pub record Tag : Type 0 where
    pub own : Process
    pub act : ActOf L
    pub pauses : Bool

  -- an entry with the steps that lead to it, and its process's ticks after them
  pub record Block : Type 0 where
    pub head : Head
    pub tags : List Tag
    pub ticks : ℕ

  abbrev pub heads : List Block → List Head
  heads [] = []
  heads (b ∷ bs) = b.head ∷ heads bs

  -- the marked ones, and the others
  abbrev pub kept : (ℕ → Bool) → List Block → List Block
  kept mark [] = []
  kept mark (b ∷ bs) = if mark b.head.position then b ∷ kept mark bs else kept mark bs

  abbrev pub left : (ℕ → Bool) → List Block → List Block
  left mark [] = []
  left mark (b ∷ bs) = if mark b.head.position then left mark bs else b ∷ left mark bs

  module _ (label : ℕ → Option Event) where
    -- the step can be made in this state
    pub record CanBeMade (s : WithNotes L) (h : Head) (x : Tag) : Type 0 where
      pub works : own_part s.state h.who ≡ Some x.own
      pub act_is : L.next x.own s.state.store ≡ x.act
      pub pauses_are : pauses_next g x.own s.state.store ≡ x.pauses
      pub past : (k : ℕ) (e : Event) → k < h.position → label k ≡ Some e → s.notes.past h.who e ≡ h.knows k
      pub named : IsLocal x.act ⊎ (label h.position ≡ Some (next_event_of s.notes h.who))

    -- the step is what its process does next
    pub record IsNextOfProcess (s : WithNotes L) (h : Head) (x : Tag) : Type 0 where
      pub works : own_part s.state h.who ≡ Some x.own
      pub act_is : L.next x.own s.state.store ≡ x.act
      pub pauses_are : pauses_next g x.own s.state.store ≡ x.pauses
      pub past : (k : ℕ) (e : Event) → k < h.position → label k ≡ Some e → s.notes.past h.who e ≡ h.knows k

    pub record Does (s : WithNotes L) (h : Head) (x : Tag) (m : WithNotes L) : Type 0 where
      pub fits : CanBeMade s h x
      pub good : GoodStep (total_limits g) (start g) s h.who m

    -- these steps of one entry
    abbrev pub Runs : WithNotes L → Head → List Tag → WithNotes L → Type 0
    Runs s h [] t = t ≡ s
    Runs s h (x ∷ xs) t = (m : WithNotes L) × Does s h x m × Runs m h xs t

    -- these entries
    abbrev pub BlockRuns : WithNotes L → List Block → WithNotes L → Type 0
    BlockRuns s [] t = t ≡ s
    BlockRuns s (b ∷ bs) t = (m : WithNotes L) × Runs s b.head b.tags m × BlockRuns m bs t

    -- the entry depends on none of these
    abbrev pub AllFree : Head → List Block → Type 0
    AllFree a [] = Unit {0}
    AllFree a (b ∷ bs) = Free a b.head × AllFree a bs

    -- each of these is one on which b does not depend
    abbrev pub EachFree : List Block → Head → Type 0
    EachFree [] b = Unit {0}
    EachFree (a ∷ bs) b = Free a.head b × EachFree bs b

    module _ (disjoint : IsDisjointRun g) where
      -- what is next after a step that is free of it was next before that step
      pub ready_back : (s s1 : WithNotes L) (a b : Head) (x y : Tag) → Free a b → Does s a x s1 → IsNextOfProcess s1 b y
          → IsNextOfProcess s b y
      ready_back s s1 a b x y free h k =
          ⊎_elim first (λ learned. absurd (never learned))
          (enabled s.state s.notes a.who h.good.cs h.good.sound h.good.makes b.who y.own back
          (subst (λ (z : StateOf g). own_part z b.who ≡ Some y.own) h.good.to k.works))
        where
          back : b.who ≢ a.who
          back e = free.0 (sym e)

          own_is : h.good.makes.own ≡ x.own
          own_is = same_Some _ _ (sym h.good.makes.works ∙ h.fits.works)

          never : (IsLocal (L.next h.good.makes.own s.state.store) → ⊥)
              × ((notes_after s.state s.notes a.who (L.next h.good.makes.own s.state.store)).past b.who
              (next_event_of s.notes a.who) ≡ true) → ⊥
          never l = ⊎_elim
              (λ (loc : IsLocal x.act). l.0
              (subst IsLocal (sym h.fits.act_is ∙ ap (λ o. L.next o s.state.store) (sym own_is)) loc))
              (λ (is : label a.position ≡ Some (next_event_of s.notes a.who)).
              let seen : s1.notes.past b.who (next_event_of s.notes a.who) ≡ b.knows a.position =
              k.past a.position (next_event_of s.notes a.who) free.1 is in
              let learned : s1.notes.past b.who (next_event_of s.notes a.who) ≡ true =
              ap (λ (v : JudgeNotes). v.past b.who (next_event_of s.notes a.who)) h.good.noted ∙ l.1 in
              true≢false (sym learned ∙ seen ∙ free.2))
              h.fits.named

          first : own_part s.state b.who ≡ Some y.own → IsNextOfProcess s b y
          first w =
              let u = unmoved g disjoint s a.who s1 h.good b.who y.own back w in
              record {
                works = w;
                act_is = sym u.act ∙ k.act_is;
                pauses_are = sym u.pauses ∙ k.pauses_are;
                past = λ i e lt is. ap (λ f. f e) (sym u.past) ∙ k.past i e lt is;
              }

      pub ready_of : (s : WithNotes L) (h : Head) (x : Tag) → CanBeMade s h x → IsNextOfProcess s h x
      ready_of s h x f = record { works = f.works; act_is = f.act_is; pauses_are = f.pauses_are; past = f.past }

      swap : (s s1 s2 : WithNotes L) (a b : Head) (x y : Tag) → Free a b → Does s a x s1 → Does s1 b y s2
          → (m : WithNotes L) × Does s b y m × Does m a x s2
      swap s s1 s2 a b x y free h k =
          let back : b.who ≢ a.who = λ e. free.0 (sym e) in
          let r = ready_back s s1 a b x y free h (ready_of s1 b y k.fits) in
          let m : WithNotes L =
          record {
            state = result_of s.state b.who (step_outcome (total_limits g) s.state b.who (L.next y.own s.state.store));
            notes = notes_after s.state s.notes b.who (L.next y.own s.state.store);
          } in
          let ex = good_exchange (total_limits g) (superpascal_keeps g) (start g) disjoint s a.who b.who s1 s2 m
          free.0 h.good
          k.good (ap (noted_step_of (total_limits g) s b.who) r.works) in
          let u = unmoved g disjoint s a.who s1 h.good b.who y.own back r.works in
          let v = unmoved g disjoint s b.who m ex.0 a.who x.own free.0 h.fits.works in (
            m,
            record {
              fits = record {
                works = r.works;
                act_is = r.act_is;
                pauses_are = r.pauses_are;
                past = r.past;
                named = ⊎_elim (λ (l : IsLocal y.act). inl l)
                    (λ (is : label b.position ≡ Some (next_event_of s1.notes b.who)). inr (is
                    ∙ (λ i. Some (record { who = b.who; nth = u.events i })))) k.fits.named;
              };
              good = ex.0;
            },
            record {
              fits = record {
                works = v.works;
                act_is = v.act ∙ h.fits.act_is;
                pauses_are = v.pauses ∙ h.fits.pauses_are;
                past = λ i e lt is. ap (λ f. f e) v.past ∙ h.fits.past i e lt is;
                named = ⊎_elim (λ (l : IsLocal x.act). inl l)
                    (λ (is : label a.position ≡ Some (next_event_of s.notes a.who)). inr (is
                    ∙ (λ i. Some (record { who = a.who; nth = sym v.events i })))) h.fits.named;
              };
              good = ex.1;
            },
          )

      -- one step behind those of an entry that is free of it
      push : (s s1 t : WithNotes L) (a b : Head) (x : Tag) (ys : List Tag) → Free a b → Does s a x s1 → Runs s1 b ys t
          → (m : WithNotes L) × Runs s b ys m × Does m a x t
      push s s1 t a b x [] free h r = (s, refl, subst (λ z. Does s a x z) (sym r) h)
      push s s1 t a b x (y ∷ ys) free h r =
          let w = swap s s1 r.0 a b x y free h r.1 in
          let p = push w.0 r.0 t a b x ys free w.2 r.2 in
          (p.0, (w.0, w.1, p.1), p.2)

      push_all : (s s1 t : WithNotes L) (a b : Head) (xs ys : List Tag) → Free a b → Runs s a xs s1 → Runs s1 b ys t
          → (m : WithNotes L) × Runs s b ys m × Runs m a xs t
      push_all s s1 t a b [] ys free h r = (t, subst (λ z. Runs z b ys t) h r, refl)
      push_all s s1 t a b (x ∷ xs) ys free h r =
          let p = push_all h.0 s1 t a b xs ys free h.2 r in
          let q = push s h.0 p.0 a b x ys free h.1 p.1 in
          (q.0, q.1, (p.0, q.2, p.2))

      -- an entry behind others that are free of it
      pub push_block : (s s1 t : WithNotes L) (a : Head) (xs : List Tag) (bs : List Block) → AllFree a bs
          → Runs s a xs s1 → BlockRuns s1 bs t → (m : WithNotes L) × BlockRuns s bs m × Runs m a xs t
      push_block s s1 t a xs [] free h r = (s, refl, subst (λ z. Runs s a xs z) (sym r) h)
      push_block s s1 t a xs (b ∷ bs) free h r =
          let p = push_all s s1 r.0 a b.head xs b.tags free.0 h r.1 in
          let q = push_block p.0 r.0 t a xs bs free.1 p.2 r.2 in
          (q.0, (p.0, p.1, q.1), q.2)

      marked_free : (mark : ℕ → Bool) (a : Head) (bs : List Block) → MarkedFree mark a (heads bs)
          → AllFree a (kept mark bs)
      marked_free mark a [] h = tt
      marked_free mark a (b ∷ bs) h =
          elim (mark b.head.position) as
          (λ x. mark b.head.position ≡ x → AllFree a (cond x (b ∷ kept mark bs) (kept mark bs))) [
            | true ↦ λ e. (h.0 e, marked_free mark a bs h.1)
            | false ↦ λ e. marked_free mark a bs h.1
          ] refl

      -- first the marked entries, and then the others
      pub parted : (mark : ℕ → Bool) (s t : WithNotes L) (bs : List Block) → Cuts mark (heads bs) → BlockRuns s bs t
          → (m : WithNotes L) × BlockRuns s (kept mark bs) m × BlockRuns m (left mark bs) t
      parted mark s t [] h r = (s, refl, r)
      parted mark s t (b ∷ bs) h r =
          let p = parted mark r.0 t bs h.1 r.2 in
          elim (mark b.head.position) as (λ x. mark b.head.position ≡ x
          → (m : WithNotes L) × BlockRuns s (cond x (b ∷ kept mark bs) (kept mark bs)) m
          × BlockRuns m (cond x (left mark bs) (b ∷ left mark bs)) t) [
            | true ↦ λ e. (p.0, (r.0, r.1, p.1), p.2)
            | false ↦ λ e.
                let q = push_block s r.0 p.0 b.head b.tags (kept mark bs) (marked_free mark b.head bs (h.0 e)) r.1
                p.1 in
                (q.0, q.1, (p.0, q.2, p.2))
          ] refl

      -- an entry in front of others that it is free of
      pub in_front : (s s1 t : WithNotes L) (bs : List Block) (b : Head) (ys : List Tag) → EachFree bs b
          → BlockRuns s bs s1 → Runs s1 b ys t → (m : WithNotes L) × Runs s b ys m × BlockRuns m bs t
      in_front s s1 t [] b ys free r h = (t, subst (λ z. Runs z b ys t) r h, refl)
      in_front s s1 t (a ∷ bs) b ys free r h =
          let p = in_front r.0 s1 t bs b ys free.1 r.2 h in
          let q = push_all s r.0 p.0 a.head b a.tags ys free.0 r.1 p.1 in
          (q.0, q.1, (p.0, q.2, p.2))

      pub readies_back : (s s1 : WithNotes L) (a b : Head) (xs : List Tag) (y : Tag) → Free a b → Runs s a xs s1
          → IsNextOfProcess s1 b y → IsNextOfProcess s b y
      readies_back s s1 a b [] y free r k = subst (λ z. IsNextOfProcess z b y) r k
      readies_back s s1 a b (x ∷ xs) y free r k =
          ready_back s r.0 a b x y free r.1 (readies_back r.0 s1 a b xs y free r.2 k)

      pub ready_before : (s s1 : WithNotes L) (bs : List Block) (b : Head) (y : Tag) → EachFree bs b → BlockRuns s bs s1
          → IsNextOfProcess s1 b y → IsNextOfProcess s b y
      ready_before s s1 [] b y free r k = subst (λ z. IsNextOfProcess z b y) r k
      ready_before s s1 (a ∷ bs) b y free r k =
          readies_back s r.0 a.head b a.tags y free.0 r.1 (ready_before r.0 s1 bs b y free.1 r.2 k)
