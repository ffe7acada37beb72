-- While a block that answers is being called, its process comes to no stop other than a fault or a pause: no
-- instruction that stops is reached from the block's code.
use Rattle.std.proofs.Common.{◌≡◌, inl, inr, ℕ, List, [], ◌∷◌, Some, Bool, true, false, refl, sym, subst}
use Rattle.sp_cell.specs.Map.{Plain}
use Rattle.sp_code.specs.declared.code.Layout.{Layout}
use Rattle.sp_code.specs.declared.code.Parts.{Parts}
use Rattle.sp_code.specs.Machine.{At, Entry, layout_of}
use Rattle.sp_code.specs.Memory.{CodeRun, Memory, memory}
use Rattle.sp_code.specs.PlainStore.{plain}
use Rattle.sp_code.specs.Turns.{RunsTo}
pub use Rattle.sp_verify_rules.specs.Activations.{IsCallee, Linked, IsAreaAmong}
use Rattle.sp_verify_rules.specs.Areas.{Area, Body, instr_at}
use Rattle.sp_verify_rules.specs.Changes.{areas, areas_of, Unchanged, Ticks, PutsCell, Copies, ReadsItem, Skips, Prints}
use Rattle.sp_verify_rules.specs.Changes.{MakesOwn, Calls}
use Rattle.sp_verify_rules.specs.Changes.{Returns}
use Rattle.sp_verify_rules.specs.Effects.{Does, StopsBy}
use Rattle.sp_verify_rules.specs.Forks as fork
use Rattle.sp_verify_rules.specs.KeepsCodeRules.{KeepsCodeRules}
use Rattle.sp_verify_rules.specs.Reach.{Reaches}
use Rattle.sp_verify_rules.specs.Shapes.{Shape}
use Rattle.sp_verify_rules.specs.InstructionFacts.{ProcessAt}
use Rattle.sp_verify_rules.specs.Verdict.{is_stop, HasStop}
use Rattle.sp_verify_rules.proofs.Safe as safe

module _ (c : Parts) where
  -- from each activation's code the stop is reached
  stops_below : (a : Area) (us : List Area) → Linked c (a ∷ us) → (bs : List Area) × StopsBy c (Does c) (HasStop c) bs a
      → (d : Area) → IsAreaAmong c d (a ∷ us) → (bs : List Area) × StopsBy c (Does c) (HasStop c) bs d
  stops_below a us l s d (inl e) = subst (λ z. (bs : List Area) × StopsBy c (Does c) (HasStop c) bs z) (sym e) s
  stops_below a [] l s d (inr m) = absurd m
  stops_below a (b ∷ us) l s d (inr m) =
      let ((f, p, up, ss, lay, is_body, call), below) = l in
      let (bs, stops) = s in
      stops_below b us below (a ∷ bs, inr (p, f, up, ss, lay, is_body, call, stops)) d m

  -- where V8 is broken at no block, no activation below an instruction that stops is of a block that answers
  pub none_answers : ((f : ℕ) (l : Layout) → layout_of c.layouts f ≡ Some l → fork.BreaksV8 c (Does c) (HasStop c) l f
      → ⊥)
      → (a : Area) (us : List Area) (p : ℕ) (ss : List Shape) → Linked c (a ∷ us) → Reaches c a p ss
      → is_stop (instr_at c p) ≡ true → (f : ℕ) (l : Layout) → IsAreaAmong c (Body f) (a ∷ us)
      → layout_of c.layouts f ≡ Some l → l.answer ≡ false
  none_answers eight a us p ss l r is f m among at = go m.answer refl
    where
      stops : (bs : List Area) × StopsBy c (Does c) (HasStop c) bs (Body f)
      stops = stops_below a us l ([], (p, ss, r, is)) (Body f) among

      go : (t : Bool) → m.answer ≡ t → m.answer ≡ false
      go true e = absurd (eight f m at (e, inr stops))
      go false e = e

module _ (g : CodeRun) (k : KeepsCodeRules g.code) where
  -- an instruction keeps the links
  pub linked_kept : (p q : ℕ) (st s1 : List Entry) (n m : Memory Plain) (s : ProcessAt g.code p st n.frames)
      (t : ProcessAt g.code q s1 m.frames) → Linked g.code (areas s) → safe.ChangesAt plain g k p st n s (areas t) m
      → Linked g.code (areas t)
  linked_kept p q st s1 n m s t h (Unchanged e d) = subst (Linked g.code) (sym e) h
  linked_kept p q st s1 n m s t h (Ticks e d) = subst (Linked g.code) (sym e) h
  linked_kept p q st s1 n m s t h (PutsCell a c e w d) = subst (Linked g.code) (sym e) h
  linked_kept p q st s1 n m s t h (Copies a b j e w d) = subst (Linked g.code) (sym e) h
  linked_kept p q st s1 n m s t h (ReadsItem a c j e w z d) = subst (Linked g.code) (sym e) h
  linked_kept p q st s1 n m s t h (Skips j e z d) = subst (Linked g.code) (sym e) h
  linked_kept p q st s1 n m s t h (Prints bs e z d) = subst (Linked g.code) (sym e) h
  linked_kept p q st s1 n m s t h (MakesOwn a j e w d) = subst (Linked g.code) (sym e) h
  linked_kept p q st s1 n m s t h (Calls f up l es e is at pr ft dp d) = subst (Linked g.code) (sym e)
      ((f, p, up, s.shapes, l, refl, record { reached = s.reached; call = is; layout = at }), h)
  linked_kept p q st s1 n m s t h (Returns e is d) = rest s.area (areas_of s.callers) (areas t) h e
    where
      rest : (a : Area) (us vs : List Area) → Linked g.code (a ∷ us) → ◌≡◌ {A = List Area} (a ∷ us) (s.area ∷ vs)
          → Linked g.code vs
      rest a [] vs h e = subst (Linked g.code) (tail_is a s.area [] vs e) tt
        where
          tail_is : (a d : Area) (us vs : List Area) → ◌≡◌ {A = List Area} (a ∷ us) (d ∷ vs) → us ≡ vs
          tail_is a d us vs e = cc
      rest a (b ∷ us) vs h e = subst (Linked g.code) (tail_is a s.area (b ∷ us) vs e) h.1
        where
          tail_is : (a d : Area) (us vs : List Area) → ◌≡◌ {A = List Area} (a ∷ us) (d ∷ vs) → us ≡ vs
          tail_is a d us vs e = cc

  -- along a turn: Holds is enough for the next instruction, and is kept
  module _ (Holds : (p : ℕ) (st : List Entry) (n : Memory Plain) → ProcessAt g.code p st n.frames → Type 0)
      (ready : (p : ℕ) (st : List Entry) (n : Memory Plain) (s : ProcessAt g.code p st n.frames) → Holds p st n s
      → safe.ReadyAt plain g k p st n s)
      (kept : (p q : ℕ) (st s1 : List Entry) (n m : Memory Plain) (s : ProcessAt g.code p st n.frames)
      (t : ProcessAt g.code q s1 m.frames) → Holds p st n s → safe.ChangesAt plain g k p st n s (areas t) m
      → Holds q s1 m t)
      (eight : (f : ℕ) (l : Layout) → layout_of g.code.layouts f ≡ Some l
      → fork.BreaksV8 g.code (Does g.code) (HasStop g.code) l f → ⊥) where
    abbrev Both : (p : ℕ) (st : List Entry) (n : Memory Plain) → ProcessAt g.code p st n.frames → Type 0
    Both p st n s = Holds p st n s × Linked g.code (areas s)

    both_ready : (p : ℕ) (st : List Entry) (n : Memory Plain) (s : ProcessAt g.code p st n.frames) → Both p st n s
        → safe.ReadyAt plain g k p st n s
    both_ready p st n s h = ready p st n s h.0

    both_kept : (p q : ℕ) (st s1 : List Entry) (n m : Memory Plain) (s : ProcessAt g.code p st n.frames)
        (t : ProcessAt g.code q s1 m.frames) → Both p st n s → safe.ChangesAt plain g k p st n s (areas t) m
        → Both q s1 m t
    both_kept p q st s1 n m s t h ch = (kept p q st s1 n m s t h.0 ch, linked_kept p q st s1 n m s t h.1 ch)

    -- wherever a turn comes to an instruction that stops, no activation is of a block that answers
    pub answers_without_stop : (p q : ℕ) (st s1 : List Entry) (n m : Memory Plain) (s : ProcessAt g.code p st n.frames)
        → Both p st n s → RunsTo (memory plain g) g.code (At p st n) (At q s1 m) → is_stop (instr_at g.code q) ≡ true
        → (t : ProcessAt g.code q s1 m.frames)
        × ((f : ℕ) (l : Layout) → IsAreaAmong g.code (Body f) (areas t) → layout_of g.code.layouts f ≡ Some l
        → l.answer ≡ false)
    answers_without_stop p q st s1 n m s h way is =
        let (t, (_, linked)) = safe.comes_in plain g k Both both_ready both_kept way.steps (At p st n) (At q s1 m)
        (s, h) way.proof in
        (t, none_answers g.code eight t.area (areas_of t.callers) q t.shapes linked t.reached is)
