-- A turn of a process of verified code changes its store where it may write, and nowhere else.
use Rattle.std.proofs.Common.{◌≡◌, ◌≢◌, ◌⊎◌, inl, inr, ⊎_elim, ℕ, List, [], ◌∷◌, Some, None}
use Rattle.std.proofs.Common.{Option, refl, sym, ap, ◌∙◌, subst, arith, if◌then◌else◌}
use Rattle.std.specs.Prelude.{IsSome}
use mathlib.Core.Bool.{false≢true}
use Rattle.std.specs.FinMap as map
use Rattle.std.proofs.lemmas.Bool.{cases_eq}
use Rattle.sp_tree.specs.Interference.{IsMember}
use Rattle.sp_tree.proofs.Members.{member_back}
use Rattle.sp_cell.specs.declared.cell.Cell.{Cell}
use Rattle.sp_cell.specs.declared.spot.Spot.{Spot}
use Rattle.sp_cell.specs.declared.spot.Address.{Address}
use Rattle.sp_cell.specs.Frame.{next_frame, last_own_frame, without_newest_frame, without_spots_of}
use Rattle.sp_cell.proofs.FrameLaws.{is_same, is_other, known_below, without_here, without_other, newest_last}
use Rattle.sp_cell.proofs.Laws.{get_here, get_other, same_or, known_of_held}
use Rattle.sp_cell.specs.Map.{Content, Own, Plain, IsHeld, output_spot, IsOwn}
use Rattle.sp_cell.specs.Spots.{In}
use Rattle.sp_code.specs.declared.code.Layout.{Layout}
use Rattle.sp_code.specs.Machine.{Entry, Config, At}
use Rattle.sp_code.specs.Memory.{CodeRun, Frame, Memory, memory, memory_after_call, without_frame}
use Rattle.sp_code.specs.PlainStore.{plain}
use Rattle.sp_code.specs.Sound.{identity, means}
use Rattle.sp_code.specs.System.{spot_of}
use Rattle.sp_code.proofs.Pieces.{pieces_other}
use Rattle.sp_verify_rules.specs.Areas.{Area, homes, instr_at}
use Rattle.sp_verify_rules.specs.Changes.{areas, areas_of, Target, Changes, Unchanged, Ticks, PutsCell, Copies}
use Rattle.sp_verify_rules.specs.Changes.{ReadsItem}
use Rattle.sp_verify_rules.specs.Changes.{Skips, Prints}
use Rattle.sp_verify_rules.specs.Changes.{MakesOwn}
use Rattle.sp_verify_rules.specs.Changes.{Calls, Returns}
use Rattle.sp_verify_rules.specs.Effects.{Does, May}
use Rattle.sp_verify_rules.specs.Forks.{KeepsEffects}
use Rattle.sp_verify_rules.specs.HeldEffects.{AreOwn, input_spot}
use Rattle.sp_verify_rules.specs.KeepsCodeRules.{KeepsCodeRules}
use Rattle.sp_verify_rules.specs.NameRules.{Unknown}
use Rattle.sp_verify_rules.specs.ProcessLife.{Base, HasActivations}
use Rattle.sp_verify_rules.specs.InstructionFacts.{ProcessAt}
use Rattle.sp_verify_rules.specs.Touches.{stored_by}
use Rattle.sp_verify_rules.specs.Writable.{IsWritable, MayWrite}
use Rattle.sp_verify_rules.proofs.Pieces.{filled_keeps}
use Rattle.sp_verify_rules.proofs.WriteLaws.{newest_writes, stores}
use Rattle.sp_verify_rules.specs.OwnChange.{AgreesOn, OwnChange}
use Rattle.sp_verify_rules.proofs.Contents.{own_agrees}

-- ---- any changes

pub change_none : (r : ℕ) (fs : List Frame) (p : Plain) → OwnChange r fs p fs p
change_none r fs p = record { moved = refl; meaning = λ s i. refl; known = λ s k. inr (k, refl, inl (λ o h. h)) }

-- the third way of what is known
abbrev Stayed : List Frame → Plain → List Frame → Plain → Spot → Type 0
Stayed fs p gs q s = IsSome (map.get p.map s) × (means gs s.frame ≡ means fs s.frame)
    × (AgreesOn (map.get p.map s) (map.get q.map s) ⊎ In s p.moved)

pub change_twice : (r : ℕ) (fs gs hs : List Frame) (p q t : Plain) → OwnChange r fs p gs q → OwnChange r gs q hs t
    → OwnChange r fs p hs t
change_twice r fs gs hs p q t a b = record {
  moved = b.moved ∙ a.moved;
  meaning = λ s i. b.meaning s (subst (In s) (sym a.moved) i) ∙ a.meaning s i;
  known = λ s k. later s (b.known s k);
}
  where
    both : (s : Spot) → AgreesOn (map.get p.map s) (map.get q.map s) ⊎ In s p.moved
        → AgreesOn (map.get q.map s) (map.get t.map s) ⊎ In s q.moved
        → AgreesOn (map.get p.map s) (map.get t.map s) ⊎ In s p.moved
    both s (inl x) (inl y) = inl (λ o h. y o (x o h))
    both s (inl x) (inr j) = inr (subst (In s) a.moved j)
    both s (inr j) y = inr j

    later : (s : Spot) → (means hs s.frame ≡ identity r s.frame) ⊎ Stayed gs q hs t s
        → (means hs s.frame ≡ identity r s.frame) ⊎ Stayed fs p hs t s
    later s (inl m) = inl m
    later s (inr w) = ⊎_elim (λ m. inl (w.1 ∙ m)) (λ v. inr (v.0, w.1 ∙ v.1, both s v.2 w.2)) (a.known s w.0)

-- a write where the process may
pub change_write : (r : ℕ) (fs : List Frame) (p : Plain) (s : Spot) (c : Content) → IsWritable r p.moved fs s
    → ((q : Spot) → In q p.moved → IsHeld (map.get p.map q))
    → OwnChange r fs p fs (record { map = map.insert p.map s c; own = p.own; moved = p.moved })
change_write r fs p s c w held = record {
  moved = refl;
  meaning = λ q i. refl;
  known = λ q k. ⊎_elim (λ (e : q ≡ s). here q (subst (IsWritable r p.moved fs) (sym e) w))
      (λ (d : q ≢ s). inr (
        subst (λ z. IsSome z) (get_other p.map s c q d) k,
        refl,
        inl (subst (λ z. AgreesOn (map.get p.map q) z) (sym (get_other p.map s c q d)) (λ o h. h)),
      ))
      (same_or q s);
}
  where
    here : (q : Spot) → IsWritable r p.moved fs q → (means fs q.frame ≡ identity r q.frame)
        ⊎ (IsSome (map.get p.map q) × (means fs q.frame ≡ means fs q.frame)
        × (AgreesOn (map.get p.map q) (map.get (map.insert p.map s c) q) ⊎ In q p.moved))
    here q (inl m) = inl m
    here q (inr i) = inr (known_of_held (map.get p.map q) (held q i), refl, inr i)

-- an own piece that stays one
pub change_own : (r : ℕ) (fs : List Frame) (p : Plain) (s : Spot) (cs : List Cell)
    → IsOwn (map.get p.map s) → OwnChange r fs p fs (plain.owned p s cs)
change_own r fs p s cs own = record {
  moved = refl;
  meaning = λ q i. refl;
  known = λ q k. ⊎_elim
      (λ (e : q ≡ s). inr (
        subst (λ z. IsSome (map.get p.map z)) (sym e) (there (map.get p.map s) own),
        refl,
        inl (subst (λ z. AgreesOn (map.get p.map z)
            (map.get (map.insert p.map s (Own cs)) z)) (sym e)
            (own_agrees (map.get p.map s) (map.get (map.insert p.map s (Own cs)) s) own
            (subst IsOwn (sym (get_here p.map s (Own cs))) tt))),
      ))
      (λ (d : q ≢ s). inr (
        subst (λ z. IsSome z) (get_other p.map s (Own cs) q d) k,
        refl,
        inl (subst (λ z. AgreesOn (map.get p.map q) z)
            (sym (get_other p.map s (Own cs) q d)) (λ o h. h)),
      ))
      (same_or q s);
}
  where
    there : (o : Option Content) → IsOwn o → IsSome o
    there None h = absurd h
    there (Some h) i = refl

-- a new frame, and nothing else
pub change_push : (r : ℕ) (fs : List Frame) (p q : Plain) (f : Frame) → f.owner ≡ r → f.number ≡ next_frame p
    → q.moved ≡ p.moved → ((s : Spot) → s.frame ≢ next_frame p → map.get q.map s ≡ map.get p.map s)
    → ((s : Spot) → In s p.moved → IsHeld (map.get p.map s)) → OwnChange r fs p (f ∷ fs) q
change_push r fs p q f owner number moved other held = record {
  moved = moved;
  meaning = λ s i. stays s (let b = known_below p.map s (known_of_held (map.get p.map s) (held s i)) in
      λ e. absurd (omega (arith, b, e, number)));
  known = λ s k. ⊎_elim (λ (e : f.number ≡ s.frame). inl (fresh s e))
      (λ (d : f.number ≢ s.frame). (let same = other s (λ e. d (number ∙ sym e)) in inr (
        subst (λ z. IsSome z) same k,
        stays s d,
        inl (subst (λ z. AgreesOn (map.get p.map s) z) (sym same) (λ o h. h)),
      )))
      (cases_eq f.number s.frame);
}
  where
    stays : (s : Spot) → f.number ≢ s.frame → means (f ∷ fs) s.frame ≡ means fs s.frame
    stays s d = ap (λ b. if b then identity f.owner f.number else means fs s.frame) (is_other f.number s.frame d)

    fresh : (s : Spot) → f.number ≡ s.frame → means (f ∷ fs) s.frame ≡ identity r s.frame
    fresh s e = ap (λ b. if b then identity f.owner f.number else means fs s.frame) (is_same f.number s.frame e)
        ∙ ap (λ z. identity z f.number) owner ∙ ap (identity r) e

-- the newest frame goes
pub change_pop : (r : ℕ) (f : Frame) (fs : List Frame) (p : Plain) → last_own_frame p.own ≡ f.number
    → ((s : Spot) → In s p.moved → f.number ≢ s.frame) → OwnChange r (f ∷ fs) p fs (without_newest_frame p)
change_pop r f fs p top old = record {
  moved = refl;
  meaning = λ s i. sym (stays s (old s i));
  known = λ s k. ⊎_elim (λ (e : f.number ≡ s.frame). absurd (nothing s k (absent s e)))
      (λ (d : f.number ≢ s.frame). inr (
        subst (λ z. IsSome z) (there s d) k,
        sym (stays s d),
        inl (subst (λ z. AgreesOn (map.get p.map s) z) (sym (there s d)) (λ o h. h)),
      ))
      (cases_eq f.number s.frame);
}
  where
    stays : (s : Spot) → f.number ≢ s.frame → means (f ∷ fs) s.frame ≡ means fs s.frame
    stays s d = ap (λ b. if b then identity f.owner f.number else means fs s.frame) (is_other f.number s.frame d)

    there : (s : Spot) → f.number ≢ s.frame → map.get (without_newest_frame p).map s ≡ map.get p.map s
    there s d = ap (λ n. map.get (without_spots_of p.map n) s) top ∙ without_other p.map f.number s (λ e. d (sym e))

    absent : (s : Spot) → f.number ≡ s.frame → map.get (without_newest_frame p).map s ≡ None
    absent s e = ap (λ n. map.get (without_spots_of p.map n) s) top ∙ without_here p.map f.number s (sym e)

    nothing : (s : Spot) → IsSome (map.get (without_newest_frame p).map s) → map.get (without_newest_frame p).map s
        ≡ None → ⊥
    nothing s k e = false≢true (subst (λ z. IsSome z) e k)

-- ---- an instruction

module _ (g : CodeRun) (k : KeepsCodeRules g.code) (e : KeepsEffects g.code (Does g.code)) (known : (p : ℕ)
    → Unknown g.code p
    → ⊥) (T : List Area → Config (Memory Plain) → Type 0) (b : Base g (homes g.code) (May g.code) T) (p q : ℕ)
    (st s1 : List Entry) (n m : Memory Plain) (s : ProcessAt g.code p st n.frames) (t : ProcessAt g.code q s1 m.frames)
    (l : HasActivations g (homes g.code) (May g.code) T b (areas s) (At p st n))
    (writes : MayWrite g.code (areas s) n) where
  abbrev Out : Memory Plain → Type 0
  Out z = OwnChange n.process n.frames n.store z.frames z.store

  may : (x : ℕ) (z : Spot) → IsMember x (stored_by g.code s.area (instr_at g.code p) s.shapes)
      → spot_of g.code.layouts n.frames x ≡ Some z
      → IsWritable n.process n.store.moved n.frames z
  may x z i at = newest_writes g.code n.process n.store.moved s.area (areas_of s.callers) n.frames writes x z
      (stores g k e known s.area p s.shapes x s.there s.reached i) at

  held : (z : Spot) → In z n.store.moved → IsHeld (map.get n.store.map z)
  held = l.holding.moved

  write : (z : Spot) (c : Content) → IsWritable n.process n.store.moved n.frames z
      → OwnChange n.process n.frames n.store n.frames
      (record { map = map.insert n.store.map z c; own = n.store.own; moved = n.store.moved })
  write z c w = change_write n.process n.frames n.store z c w held

  target : (to : Address) (j : ℕ) → Target plain g s.area (instr_at g.code p) s.shapes n to j
      → IsWritable n.process n.store.moved n.frames to.spot
  target to j w = may w.variable to.spot w.stored w.points.stands

  out : (z : Memory Plain) → m ≡ z → Out z → Out m
  out z d h = subst (λ (y : Memory Plain). Out y) (sym d) h

  -- where the position of the input goes on
  advanced : (j : ℕ) → IsMember 0 (stored_by g.code s.area (instr_at g.code p) s.shapes)
      → Out ((memory plain g).advance j n)
  advanced j i = write input_spot _ (may 0 input_spot i refl)

  held_on : (c : Content) → IsHeld (Some c) → (z : Spot) → In z n.store.moved
      → IsHeld (map.get (map.insert n.store.map input_spot c) z)
  held_on c h z i = ⊎_elim
      (λ (w : z ≡ input_spot). subst (λ y. IsHeld (map.get (map.insert n.store.map input_spot c) y)) (sym w)
      (subst IsHeld (sym (get_here n.store.map input_spot c)) h))
      (λ (d : z ≢ input_spot). subst IsHeld (sym (get_other n.store.map input_spot c z d)) (held z i))
      (same_or z input_spot)

  read : (to : Address) (c : Cell) (j : ℕ) → Target plain g s.area (instr_at g.code p) s.shapes n to 1
      → IsMember 0 (stored_by g.code s.area (instr_at g.code p) s.shapes)
      → Out ((memory plain g).put to c ((memory plain g).advance j n))
  read to c j w i = change_twice n.process n.frames n.frames n.frames n.store ((memory plain g).advance j n).store
      ((memory plain g).put to c ((memory plain g).advance j n)).store (advanced j i)
      (change_write n.process n.frames ((memory plain g).advance j n).store to.spot _ (target to 1 w) (held_on _ tt))

  -- outside the new frame all is as it was
  abbrev Others : Plain → Type 0
  Others z = (y : Spot) → y.frame ≢ next_frame n.store → map.get z.map y ≡ map.get n.store.map y

  called : (up : ℕ) (lay : Layout) (es : List Entry) → Out (memory_after_call plain g lay up es n)
  called up lay es = change_push n.process n.frames n.store (memory_after_call plain g lay up es n).store _ refl refl
      (filled_keeps (next_frame n.store) (λ z. z.moved ≡ n.store.moved) (λ z j cs h. h) 0 es
      (plain.pushed n.store lay.sizes) refl)
      (filled_keeps (next_frame n.store) Others written 0 es (plain.pushed n.store lay.sizes)
      (λ z o. pieces_other n.store.map (next_frame n.store) 0 lay.sizes z o)) held
    where
      written : (z : Plain) (j : ℕ) (cs : List Cell) → Others z
          → Others (plain.owned z (record { frame = next_frame n.store; variable = j }) cs)
      written z j cs h y o = get_other z.map (record { frame = next_frame n.store; variable = j })
          (Own cs) y (λ w. o (ap (λ (v : Spot). v.frame) w)) ∙ h y o

  returned : (a : Area) (us : List Area) (fs : List Frame) → n.frames ≡ fs
      → AreOwn g.code.layouts (homes g.code) (May g.code) l.holding.base (s.area ∷ a ∷ us) fs n.store.own
      → OwnChange n.process fs n.store (without_frame plain g fs n).frames (without_frame plain g fs n).store
  returned a us [] w h = absurd h
  returned a us (f ∷ fs) w h = change_pop n.process f fs n.store (ap last_own_frame h.1 ∙ newest_last h.0 f.number)
      (λ z i d. l.holding.old z i (subst (λ y. IsMember y n.store.own) d
      (subst (IsMember f.number) (sym h.1) (member_back f.number h.0 (f.number ∷ []) (inl refl)))))

  -- it changes the store so
  pub change_one : Changes plain g s.area (instr_at g.code p) s.shapes n (areas s) (areas t) m
      → OwnChange n.process n.frames n.store m.frames m.store
  change_one (Unchanged w d) = out n d (change_none n.process n.frames n.store)
  change_one (Ticks w d) = out _ d (change_none n.process n.frames n.store)
  change_one (PutsCell to c w z d) = out _ d (write to.spot _ (target to 1 z))
  change_one (Copies to from j w z d) = out _ d (write to.spot _ (target to j z))
  change_one (ReadsItem to c j w z y d) = out _ d (read to c j z y)
  change_one (Skips j w z d) = out _ d (advanced j z)
  change_one (Prints bs w z d) = out _ d (write output_spot _ (may 1 output_spot z refl))
  change_one (MakesOwn to j w z d) = out _ d (write to.spot _ (target to j z))
  change_one (Calls f up lay es w is at pr ft dp d) = out _ d (called up lay es)
  change_one (Returns w is d) = out _ d (returned t.area (areas_of t.callers) n.frames refl
      (subst (λ us. AreOwn g.code.layouts (homes g.code) (May g.code) l.holding.base us n.frames n.store.own) w
      l.holding.own))
