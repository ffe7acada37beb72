-- What an activation of verified code may store stands where its process may write, and each instruction keeps that.
use Rattle.std.proofs.Common.{◌≡◌, ◌⊎◌, inl, inr, ⊎_elim, ℕ, zero, suc, ◌<◌, ◌≤◌, ℤ, List, [], ◌∷◌, ◌++◌}
use Rattle.std.proofs.Common.{length, drop, Option, Some, None, true, refl, sym, ap, ◌∙◌, subst, arith}
use Rattle.std.proofs.Common.{if◌then◌else◌}
use Rattle.std.specs.Prelude.{IsSome, slice_get}
use Rattle.std.specs.FinMap as map
use Rattle.std.proofs.lemmas.Option.{same_Some}
use Rattle.sp_base.proofs.Facts.{below_two_or_not}
use Rattle.sp_tree.specs.Interference.{IsMember}
use Rattle.sp_tree.proofs.Members.{member_front, member_either}
use Rattle.sp_cell.specs.declared.spot.Spot.{Spot}
use Rattle.sp_cell.specs.declared.spot.Address.{Address}
use Rattle.sp_cell.specs.Frame.{next_frame}
use Rattle.sp_cell.proofs.FrameLaws.{is_same, is_other, known_below}
use Rattle.sp_cell.proofs.Laws.{known_of_held}
use Rattle.sp_cell.specs.Map.{Plain}
use Rattle.sp_code.specs.declared.instr.Instr.TheVariants as i
use Rattle.sp_code.specs.declared.code.Formal.{Formal}
use Rattle.sp_code.specs.declared.code.Formal.TheVariants as formal
use Rattle.sp_code.specs.declared.code.ChildTable.{ChildTable}
use Rattle.sp_code.specs.declared.code.Layout.{Layout}
use Rattle.sp_code.specs.declared.code.Parts.{Parts}
use Rattle.sp_code.specs.Machine.{Entry, Config, At, layout_of}
use Rattle.sp_code.specs.Memory.{OfBlock, CodeRun, Frame, Memory, references, reference_target, frames_up}
use Rattle.sp_code.specs.Memory.{without_frame}
use Rattle.sp_code.specs.Memory.{memory_after_call}
use Rattle.sp_code.specs.PlainStore.{plain}
use Rattle.sp_code.specs.Sound.{identity, means}
use Rattle.sp_code.specs.System.{spot_of, spot_by, spot_of_address, with_index_frame, handing_of}
use Rattle.sp_code.proofs.Plans.{in_spots}
use Rattle.sp_verify_rules.specs.Areas.{Area, Body, Child, homes, instr_at, child_at}
use Rattle.sp_verify_rules.specs.Chains.{Chain, all_variables, variables_of}
use Rattle.sp_verify_rules.specs.Changes.{areas, areas_of, Pairs, Unchanged, Ticks, PutsCell, Copies, ReadsItem}
use Rattle.sp_verify_rules.specs.Changes.{Skips, Prints}
use Rattle.sp_verify_rules.specs.Changes.{MakesOwn, Calls}
use Rattle.sp_verify_rules.specs.Changes.{Returns, Changes}
use Rattle.sp_verify_rules.specs.Effects.{Stored, IsEffect, IsActual, IsCalled, Does, Granted, May}
use Rattle.sp_verify_rules.specs.Forks.{KeepsEffects}
use Rattle.sp_verify_rules.specs.HeldEffects.{Allowed}
use Rattle.sp_verify_rules.specs.KeepsCodeRules.{KeepsCodeRules}
use Rattle.sp_verify_rules.specs.NameRules.{Unknown}
use Rattle.sp_verify_rules.specs.Reach.{IsArea, IsInCodeOf, Reaches}
use Rattle.sp_verify_rules.specs.Rules as rule
use Rattle.sp_verify_rules.specs.ProcessLife.{Base, HasConsole, HasActivations}
use Rattle.sp_verify_rules.specs.Shapes.{Shape}
use Rattle.sp_verify_rules.specs.InstructionFacts.{ProcessAt}
use Rattle.sp_verify_rules.specs.Touches.{stored_by}
use Rattle.sp_verify_rules.specs.Writable.{MovesTo, IsWritable, MayStore, WritesWithin, AllWriteWithin, MayWrite}
use Rattle.sp_verify_rules.proofs.Calls.{OwnAt, own_at, outer_stands}
use Rattle.sp_verify_rules.proofs.ForkSteps.{has_held}
use Rattle.sp_verify_rules.proofs.Holdings.{head}
use Rattle.sp_verify_rules.proofs.Holds.{call_given}
use Rattle.sp_verify_rules.proofs.Instances.{keeps_calls, actual_stored, outer_effect}
use Rattle.sp_verify_rules.proofs.Lists.{member_or}
use Rattle.sp_verify_rules.proofs.Pieces.{filled_keeps}
use Rattle.sp_verify_rules.proofs.Pushes.{KeepsCalls}

-- what the newest activation may store
pub newest_writes : (c : Parts) (r : ℕ) (ss : List Spot) (a : Area) (us : List Area) (fs : List Frame)
    → AllWriteWithin c r ss (a ∷ us) fs → WritesWithin c r ss a fs
newest_writes c r ss a [] fs h = h
newest_writes c r ss a (b ∷ us) [] h = absurd h
newest_writes c r ss a (b ∷ us) (f ∷ fs) h = h.0

module _ (g : CodeRun) (k : KeepsCodeRules g.code) (e : KeepsEffects g.code (Does g.code)) (known : (p : ℕ)
    → Unknown g.code p
    → ⊥) where
  abbrev ls : List Layout
  ls = g.code.layouts

  moves_granted : (o : Option ChildTable) (x : ℕ) → MovesTo o x → Granted g.code o x
  moves_granted None x m = m
  moves_granted (Some t) x m = inl (member_front x t.moved t.shared m)

  -- what it may store it may touch
  pub store_may : (a : Area) (x : ℕ) → MayStore g.code a x → May g.code a x
  store_may (Body f) x (inl d) = inl (inl d)
  store_may (Body f) x (inr m) = inr m
  store_may (Child a p j) x m = moves_granted (child_at g.code p j) x m

  -- what it stores it may store
  pub may_store : (a : Area) (x : ℕ) → IsArea g.code a → IsEffect g.code (Does g.code) Stored a x → MayStore g.code a x
  may_store (Body f) x area d = inl d
  may_store (Child a p j) x area d =
      let (_, _, (t, there)) = area in
      subst (λ o. MovesTo o x) (sym there) (e.stored a p j x t area there d)

  pub stores : (a : Area) (p : ℕ) (ss : List Shape) (x : ℕ) → IsArea g.code a → Reaches g.code a p ss
      → IsMember x (stored_by g.code a (instr_at g.code p) ss) → MayStore g.code a x
  stores a p ss x area r m = may_store a x area (record { areas = []; proof = inl (p, ss, r, m) })

  -- ---- a call

  module _ (a : Area) (p f up : ℕ) (ss : List Shape) (lay : Layout) (area : IsArea g.code a)
      (call : IsCalled g.code a p f up ss lay) (fs : List Frame) (chain : Chain (homes g.code a) fs) (r N : ℕ)
      (es : List Entry) (ws : List Spot)
      (given : (j m : ℕ) → slice_get lay.formals j ≡ Some (formal.Reference m) → (x : ℕ) × IsActual lay ss j x
      × ((to : Address) × (reference_target j (references 0 es) ≡ Some to) × (spot_of ls fs x ≡ Some to.spot)))
      (low : (x : ℕ) (s : Spot) → MayStore g.code a x → spot_of ls fs x ≡ Some s → s.frame < N)
      (was : WritesWithin g.code r ws a fs) where
    kc : KeepsCalls ls (homes g.code a) up lay (May g.code a) (May g.code (Body f)) (IsActual lay ss)
    kc = keeps_calls g.code k e known a p f up ss lay area call

    abbrev new : Frame
    new = record {
      owner = r;
      number = N;
      home = OfBlock lay.block;
      link = length (frames_up up fs);
      references = references 0 es;
    }

    -- one that stands below is writable as before
    old : (x : ℕ) (s : Spot) → MayStore g.code a x → spot_of ls fs x ≡ Some s → IsWritable r ws (new ∷ fs) s
    old x s d at = ⊎_elim (λ (w : means fs s.frame ≡ identity r s.frame). inl (stays ∙ w)) (λ w. inr w) (was x s d at)
      where
        stays : means (new ∷ fs) s.frame ≡ means fs s.frame
        stays = ap (λ b. if b then identity r N else means fs s.frame)
            (is_other N s.frame (λ i. absurd (let l = low x s d at in omega (arith, l, i))))

    -- one of the new frame is its own
    fresh : (s : Spot) → s.frame ≡ N → IsWritable r ws (new ∷ fs) s
    fresh s i = inl (ap (λ b. if b then identity r N else means fs s.frame) (is_same N s.frame (sym i))
        ∙ ap (identity r) (sym i))

    small : (y : ℕ) → y < 2 → (gs hs : List Frame) → spot_of ls gs y ≡ spot_of ls hs y
    small zero lt gs hs = refl
    small (suc zero) lt gs hs = refl
    small (suc (suc y)) lt gs hs = absurd (omega (arith, lt))

    own_one : (y : ℕ) (s : Spot) → IsMember y lay.variables → spot_of ls (new ∷ fs) y ≡ Some s
        → IsWritable r ws (new ∷ fs) s
    own_one y s m at = go (slice_get lay.formals o.place) refl
      where
        o : OwnAt ls (homes g.code a) up lay fs N r (references 0 es) chain kc.different kc.lay kc.inner kc.distinct y
        o = own_at ls (homes g.code a) up lay fs N r (references 0 es) chain kc.different kc.lay kc.inner kc.distinct y
            (kc.real y m) m

        plainly : (u : Option Formal) → slice_get lay.formals o.place ≡ u
            → spot_by new o.place u ≡ Some (record { frame = N; variable = o.place }) → IsWritable r ws (new ∷ fs) s
        plainly u i b = fresh s (ap (λ (z : Spot). z.frame) (same_Some _ _ (sym at
            ∙ o.stands_so (record { frame = N; variable = o.place }) (ap (spot_by new o.place) i ∙ b))))

        go : (u : Option Formal) → slice_get lay.formals o.place ≡ u → IsWritable r ws (new ∷ fs) s
        go None i = plainly None i refl
        go (Some (formal.Value n)) i = plainly (Some (formal.Value n)) i refl
        go (Some (formal.Reference n)) i =
            let (x, is_actual, (to, refers, stands)) = given o.place n i in
            let same : to.spot ≡ s = same_Some _ _
            (sym (o.stands_so to.spot (ap (spot_by new o.place) i ∙ ap spot_of_address refers)) ∙ at) in
            old x s (may_store a x area
            (actual_stored g.code k e known a p f up ss lay area call o.place x is_actual)) (stands ∙ ap Some same)

    -- the block's activation
    pub callee_writes : WritesWithin g.code r ws (Body f) (new ∷ fs)
    callee_writes y s d at = ⊎_elim (λ m. own_one y s m at) (λ n. outer n d) (member_or y lay.variables)
      where
        stays : (IsMember y lay.variables → ⊥) → (y < 2) ⊎ IsMember y (lay.variables
            ++ all_variables ls (drop up (homes g.code a))) → spot_of ls (new ∷ fs) y ≡ spot_of ls fs y
        stays n (inl lt) = small y lt (new ∷ fs) fs
        stays n (inr h) = ⊎_elim (λ (lt : y < 2). small y lt (new ∷ fs) fs)
            (λ (r2 : 2 ≤ y). outer_stands ls (homes g.code a) up lay fs N r (references 0 es) chain kc.different kc.lay
            kc.inner kc.distinct y r2 (⊎_elim (λ m. absurd (n m)) (λ m. m)
            (member_either y lay.variables (all_variables ls (drop up (homes g.code a))) h)))
            (below_two_or_not y)

        outer : (IsMember y lay.variables → ⊥) → MayStore g.code (Body f) y → IsWritable r ws (new ∷ fs) s
        outer n (inl w) = old y s (may_store a y area
            (outer_effect g.code k e known a p f up ss lay area call Stored y w n))
            (sym (stays n (kc.around y (store_may (Body f) y (inl w)))) ∙ at)
        outer n (inr m) = absurd (n (subst (λ o. IsMember y (variables_of o)) call.layout m))

  -- ---- an instruction

  module _ (T : List Area → Config (Memory Plain) → Type 0) (b : Base g (homes g.code) (May g.code) T) (p q : ℕ)
      (st s1 : List Entry) (n m : Memory Plain) (s : ProcessAt g.code p st n.frames)
      (t : ProcessAt g.code q s1 m.frames)
      (l : HasActivations g (homes g.code) (May g.code) T b (areas s) (At p st n))
      (was : MayWrite g.code (areas s) n) where
    abbrev K : Type 0
    K = HasConsole g (homes g.code) (May g.code) T b.area

    top : Chain (homes g.code s.area) n.frames
        × Allowed ls K (May g.code s.area) l.holding.bound n.frames n.store.map
    top = head ls (homes g.code) (May g.code) K l.holding.bound s.area (areas_of s.callers) n.frames n.store.map
        l.holding.allowed

    low : (x : ℕ) (z : Spot) → MayStore g.code s.area x → spot_of ls n.frames x ≡ Some z
        → z.frame < next_frame n.store
    low x z d at =
        let (there, stands, _, holds) = top.1.held x (store_may s.area x d) in
        let is : there ≡ z = same_Some _ _ (sym stands ∙ at) in
        let below = known_below n.store.map z (subst (λ (y : Spot). IsSome (map.get n.store.map y)) is
        (known_of_held (map.get n.store.map there) (has_held ls n.frames n.store.map x there holds))) in
        omega (arith, below)

    newest : WritesWithin g.code n.process n.store.moved s.area n.frames
    newest = newest_writes g.code n.process n.store.moved s.area (areas_of s.callers) n.frames was

    -- the same frames, with what moved
    alike : areas t ≡ areas s → (z : Memory Plain) → m ≡ z → MayWrite g.code (areas s) z → MayWrite g.code (areas t) m
    alike i z d h = subst (λ (y : Memory Plain). MayWrite g.code (areas t) y) (sym d)
        (subst (λ us. MayWrite g.code us z) (sym i) h)

    called : (f up : ℕ) (lay : Layout) (es : List Entry) → areas t ≡ Body f ∷ areas s
        → instr_at g.code p ≡ Some (i.Call f up) → layout_of ls f ≡ Some lay
        → Pairs ls n.frames (rule.lowest_first (length lay.formals) s.shapes []) es
        → rule.fit_formals lay.formals (rule.lowest_first (length lay.formals) s.shapes []) ≡ true
        → MayWrite g.code (Body f ∷ areas s) (memory_after_call plain g lay up es n)
    called f up lay es vs is at pr ft =
        subst (λ zs. AllWriteWithin g.code n.process zs (Body f ∷ areas s)
        (memory_after_call plain g lay up es n).frames)
        (sym same_moved) (
          callee_writes s.area p f up s.shapes lay s.there
              (record { reached = s.reached; call = is; layout = at }) n.frames top.0 n.process (next_frame n.store)
              es n.store.moved (call_given ls n.frames lay s.shapes es pr ft) low newest,
          was,
        )
      where
        same_moved : (memory_after_call plain g lay up es n).store.moved ≡ n.store.moved
        same_moved = filled_keeps (next_frame n.store) (λ z. z.moved ≡ n.store.moved) (λ z j cs h. h) 0 es
            (plain.pushed n.store lay.sizes) refl

    returned : (a : Area) (us : List Area) (fs : List Frame) → n.frames ≡ fs
        → AllWriteWithin g.code n.process n.store.moved (s.area ∷ a ∷ us) fs
        → MayWrite g.code (a ∷ us) (without_frame plain g fs n)
    returned a us [] i h = absurd h
    returned a us (f ∷ fs) i h = h.1

    -- it keeps where the process may write
    pub writes_kept : Changes plain g s.area (instr_at g.code p) s.shapes n (areas s) (areas t) m
        → MayWrite g.code (areas t) m
    writes_kept (Unchanged i d) = alike i n d was
    writes_kept (Ticks i d) = alike i _ d was
    writes_kept (PutsCell to c i w d) = alike i _ d was
    writes_kept (Copies to from j i w d) = alike i _ d was
    writes_kept (ReadsItem to c j i w z d) = alike i _ d was
    writes_kept (Skips j i z d) = alike i _ d was
    writes_kept (Prints bs i z d) = alike i _ d was
    writes_kept (MakesOwn to j i w d) = alike i _ d was
    writes_kept (Calls f up lay es i is at pr ft dp d) = subst (λ (y : Memory Plain). MayWrite g.code (areas t) y)
        (sym d) (subst (λ us. MayWrite g.code us (memory_after_call plain g lay up es n)) (sym i)
        (called f up lay es i is at pr ft))
    writes_kept (Returns i is d) = subst (λ (y : Memory Plain). MayWrite g.code (areas t) y) (sym d)
        (returned t.area (areas_of t.callers) n.frames refl (subst (λ us. MayWrite g.code us n) i was))

  -- ---- a child

  module _ (a : Area) (p j : ℕ) (ch : ChildTable) (pc : ℕ) (st : List Entry) (n : Memory Plain) (value : ℤ)
      (r number : ℕ) (area : IsArea g.code a) (pass : IsInCodeOf g.code a p) (is : child_at g.code p j ≡ Some ch) where
    -- a forall moves nothing, so where something moves there is no frame of an index
    pub child_writes : WritesWithin g.code r (handing_of ls n.frames value number ch).moved (Child a p j)
        (with_index_frame plain g r (handing_of ls n.frames value number ch) ch.index n.frames)
    child_writes x s d at = go ch.index refl at
      where
        moves : IsMember x ch.moved
        moves = subst (λ o. MovesTo o x) is d

        nothing : IsMember x [] → ⊥
        nothing h = h

        go : (o : Option ℕ) → ch.index ≡ o
            → spot_of ls (with_index_frame plain g r (handing_of ls n.frames value number ch) o n.frames) x ≡ Some s
            → IsWritable r (handing_of ls n.frames value number ch).moved
            (with_index_frame plain g r (handing_of ls n.frames value number ch) ch.index n.frames) s
        go None i at = inr (in_spots ls n.frames ch.moved x s moves at)
        go (Some y) i at = absurd (nothing (subst (IsMember x)
            (e.no_moves a p j ch (area, pass, (ch, is)) is (subst (λ o. IsSome o) (sym i) refl)) moves))
