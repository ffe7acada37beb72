-- Code that keeps the rules runs safely: along every journal no turn lacks anything, each fork, join and message can be
-- carried out.
use Rattle.std.proofs.Common.{◌≡◌, ℕ, ◌+◌, ◌≤◌, ◌==◌, ℤ, List, [], ◌∷◌, length, Some, true, false, refl, sym, ap, ◌∙◌}
use Rattle.std.proofs.Common.{subst, arith, inl, Bool, if◌then◌else◌}
use Rattle.std.proofs.lemmas.Bool.{eqb-true}
use Rattle.std.specs.Prelude.{not}
use Rattle.sp_tree.specs.Interference.{IsMember}
use Rattle.sp_cell.specs.Map.{Plain}
use Rattle.sp_journal.specs.declared.entry.Entry.{Entry as JournalEntry}
use Rattle.sp_journal.specs.declared.entry.Event.{Event}
use Rattle.sp_code.specs.declared.code.Layout.{Layout}
use Rattle.sp_code.specs.declared.instr.Instr.TheVariants as i
use Rattle.sp_code.specs.Machine.{Config, At, Entry, layout_of}
use Rattle.sp_code.specs.Memory.{CodeRun, Home, Frame, Memory, memory, first_memory}
use Rattle.sp_code.specs.PlainStore.{plain}
use Rattle.sp_code.specs.Sound.{IsSafeSystem, identity, means}
use Rattle.sp_code.specs.System.{System, Working, EntryLeads, IsSystem, depth_of}
use Rattle.sp_verify_rules.specs.Areas.{Area, Body, Child, homes, instr_at}
use Rattle.sp_verify_rules.specs.Changes.{areas, areas_of}
use Rattle.sp_verify_rules.specs.Chains.{Chain}
use Rattle.sp_verify_rules.specs.Effects.{Stored, Does, May, IsActual}
use Rattle.sp_verify_rules.specs.Forks.{KeepsEffects}
use Rattle.sp_verify_rules.specs.Rules.{BreaksV9}
use Rattle.sp_verify_rules.specs.HeldEffects.{Allowed, Holding}
use Rattle.sp_verify_rules.specs.KeepsCodeRules.{KeepsCodeRules}
use Rattle.sp_verify_rules.specs.NameRules.{Unknown, ends_well, InLayout}
use Rattle.sp_verify_rules.specs.Reach.{IsArea, IsInCodeOf, Reaches}
use Rattle.sp_verify_rules.specs.ProcessLife.{Base, HasConsole, HasActivations, ForkInvariant}
use Rattle.sp_verify_rules.specs.Shapes.{Shape}
use Rattle.sp_verify_rules.specs.Systems.{LivesIn, Inv}
use Rattle.sp_verify_rules.specs.InstructionFacts.{ProcessAt, Caller, Under, IsBottom, Framed, ForksAt}
use Rattle.sp_verify_rules.specs.Touches.{HasAnswer, stored_by}
use Rattle.sp_verify_rules.specs.Writable.{WritesWithin, MayWrite}
use Rattle.sp_verify_rules.proofs.TurnEnds.{T, Room, Sent, t_store, t_entered, t_deep, turn_safe, turn_well}
use Rattle.sp_verify_rules.proofs.TurnEnds.{turn_ranked}
use Rattle.sp_verify_rules.proofs.TurnEnds.{turn_without_stop}
use Rattle.sp_verify_rules.proofs.FunctionStops.{IsAreaAmong}
use Rattle.sp_verify_rules.specs.Forks as fork
use Rattle.sp_verify_rules.specs.Verdict.{is_stop, HasStop}
use Rattle.sp_code.specs.Turns.{RunsTo}
use Rattle.sp_verify_rules.proofs.Firsts.{first_stands, child_stands, root_frame}
use Rattle.sp_verify_rules.proofs.Instances.{may_do, keeps_calls, forks_well}
use Rattle.sp_verify_rules.proofs.FirstProcess.{first_lives}
use Rattle.sp_verify_rules.proofs.Pushes.{KeepsCalls}
use Rattle.sp_verify_rules.proofs.Readiness.{whole, input, output, next_fits, closes, variable, answer_there}
use Rattle.sp_verify_rules.proofs.Safe as safe
use Rattle.sp_verify_rules.proofs.Safety.{enters_ok, system_ok, system_safe}
use Rattle.sp_verify_rules.proofs.FrameScopes.{declared_here, found_layout, layout_different, newest}
use Rattle.sp_verify_rules.proofs.ShapePaths.{passes}
use Rattle.sp_verify_rules.proofs.WriteLaws.{writes_kept, child_writes}

module _ (g : CodeRun) (k : KeepsCodeRules g.code) (e : KeepsEffects g.code (Does g.code)) (known : (p : ℕ)
    → Unknown g.code p
    → ⊥) (small : g.limits.depth ≤ 4294967295) where
  abbrev pub E : Area → ℕ → Type 0
  E = May g.code

  abbrev pub H : Area → List Home
  H = homes g.code

  pub mays : (a : Area) (p : ℕ) (ss : List Shape) (x : ℕ) → IsArea g.code a → Reaches g.code a p ss
      → IsMember x (stored_by g.code a (instr_at g.code p) ss) → E a x
  mays a p ss x area r m = may_do g.code k e known Stored a p x ss area r m

  pub calls : (a : Area) (p : ℕ) (ss : List Shape) (f up : ℕ) (l : Layout) → IsArea g.code a → Reaches g.code a p ss
      → instr_at g.code p ≡ Some (i.Call f up) → layout_of g.code.layouts f ≡ Some l
      → KeepsCalls g.code.layouts (homes g.code a) up l (E a) (E (Body f)) (IsActual l ss)
  calls a p ss f up l area r is at = keeps_calls g.code k e known a p f up ss l area
      (record { reached = r; call = is; layout = at })

  -- ---- what the next instruction needs

  pub ready : (b : Base g H E (T g)) (p : ℕ) (st : List Entry) (n : Memory Plain) (s : ProcessAt g.code p st n.frames)
      → HasActivations g H E (T g) b (areas s) (At p st n) → n.depth ≤ g.limits.depth → safe.ReadyAt plain g k p st n s
  ready b p st n s l d = record {
    whole = whole g k e known (T g) b s.area (areas_of s.callers) p st n l s.there s.shapes s.reached;
    input = input g k e known (T g) b s.area (areas_of s.callers) p st n l s.there s.shapes s.reached;
    output = output g k e known (T g) b s.area (areas_of s.callers) p st n l s.there s.shapes s.reached;
    calls = λ f up is. next_fits g k e known (T g) b s.area (areas_of s.callers) p st n l s.there
        (omega (arith, small, d));
    returns = λ is. returns is s.callers refl s.under;
    answers = λ is f m at lay ans. answers f m at lay ans n.frames refl s.callers refl s.under is;
  }
    where
      lies : IsInCodeOf g.code s.area p
      lies = passes g.code s.area p s.shapes s.reached

      not_bottom : instr_at g.code p ≡ Some i.Return → IsBottom s.area → ⊥
      not_bottom is bot = go s.area bot (ap (λ o. ends_well g.code s.area o) (sym is) ∙ k.ends s.area p (s.there, lies))
        where
          go : (a : Area) → IsBottom a → ends_well g.code a (Some i.Return) ≡ true → ⊥
          go (Body f) z w = cc (ap (λ y. not (y == 0)) (sym z) ∙ w)
          go (Child a q j) z w = cc w

      returns : instr_at g.code p ≡ Some i.Return → (ks : List Caller) → s.callers ≡ ks
          → Under g.code ks s.area n.frames s.rest → (memory plain g).may_close n ≡ true
      returns is [] eq u = absurd (not_bottom is u.1)
      returns is (c ∷ ks) eq u = closes g k e known (T g) b s.area c.area (areas_of ks) n
          (subst (λ (zs : List Caller). Holding g.code.layouts H E (HasConsole g H E (T g) b.area)
          (s.area ∷ areas_of zs) n.frames n.depth n.store) eq l.holding)

      answers : (f : ℕ) (m : Layout) → s.area ≡ Body f → layout_of g.code.layouts f ≡ Some m → m.answer ≡ true
          → (fs : List Frame) → n.frames ≡ fs → (ks : List Caller) → s.callers ≡ ks
          → Under g.code ks s.area n.frames s.rest → instr_at g.code p ≡ Some i.Return
          → HasAnswer plain g n ((memory plain g).answer n)
      answers f m at lay ans fs is [] eq u ret = absurd (not_bottom ret u.1)
      answers f m at lay ans [] is (c ∷ ks) eq u ret = absurd
          (subst (λ zs. Under g.code (c ∷ ks) s.area zs s.rest) is u)
      answers f m at lay ans (fr ∷ fs) is (c ∷ ks) eq u ret =
          let framed : Framed g.code.layouts (homes g.code (Body f)) (fr ∷ fs) = subst
          (λ a. Framed g.code.layouts (homes g.code a) (fr ∷ fs)) at
          (subst (λ zs. Framed g.code.layouts (homes g.code s.area) zs) is s.framed) in
          let home = newest g.code k f m fr fs lay framed in
          let v = Rattle.sp_verify_rules.proofs.Holdings.head g.code.layouts H E
          (HasConsole g H E (T g) b.area) l.holding.bound s.area
          (areas_of s.callers) n.frames n.store.map l.holding.allowed in
          let chain : Chain (homes g.code (Body f)) (fr ∷ fs) = subst (λ a. Chain (homes g.code a) (fr ∷ fs)) at
          (subst (λ zs. Chain (homes g.code s.area) zs) is v.0) in
          let al : Allowed g.code.layouts (HasConsole g H E (T g) b.area) (E (Body f)) l.holding.bound
          (fr ∷ fs) n.store.map = subst (λ a. Allowed g.code.layouts (HasConsole g H E (T g) b.area)
          (E a) l.holding.bound (fr ∷ fs) n.store.map) at
          (subst (λ zs. Allowed g.code.layouts (HasConsole g H E (T g) b.area)
          (E s.area) l.holding.bound zs n.store.map) is v.1) in
          let w = (found_layout g.code.layouts f m lay).1 in
          let nz = not_zero (subst (λ zs. Under g.code (c ∷ ks) s.area zs s.rest) is u) in
          let diff = layout_different g.code k w.0 m w.1 in
          let y = variable g k e known (T g) b f m lay nz ans diff l.holding.bound (HasConsole g H E (T g) b.area) in
          let here : 2 ≤ y.0 = k.real (InLayout w.0 (length m.formals)) y.0 m.entry
          (declared_here g.code k w.0 (length m.formals) y.0 m w.1 y.1) in
          answer_there g k e known (T g) b f m lay nz ans diff l.holding.bound
          (HasConsole g H E (T g) b.area) fr fs n.store.map home al here n is refl (homes g.code (Body f)) chain
        where
          same : (x y : ℕ) → Body x ≡ Body y → x ≡ y
          same x y q = cc

          not_zero : Under g.code (c ∷ ks) s.area (fr ∷ fs) s.rest → (f == 0) ≡ false
          not_zero (h, _) = ap (λ z. z == 0) (same f h.block (sym at ∙ h.is_body)) ∙ h.not_program

  -- ---- forks

  framed_at : (a : Area) (us : List Area) (q : ℕ) (st : List Entry) (n : Memory Plain) → T g (a ∷ us) (At q st n)
      → Framed g.code.layouts (homes g.code a) n.frames
  framed_at a us q st n t = subst (λ z. Framed g.code.layouts (homes g.code z) n.frames)
      (sym (first_same a t.0.area us (areas_of t.0.callers) t.1)) t.0.framed
    where
      first_same : (a d : Area) (us vs : List Area) → ◌≡◌ {A = List Area} (a ∷ us) (d ∷ vs) → a ≡ d
      first_same a d us vs e = cc

  pub forks : (a : Area) (p t n : ℕ) (v : ℤ) (d : Config (Memory Plain)) (us : List Area) → IsArea g.code a
      → IsInCodeOf g.code a p → ForksAt g.code p t n → T g (a ∷ us) d → depth_of d + 1 ≤ g.limits.depth
      → ForkInvariant g H E (T g) a t v n d
  forks a p t n v (At q st m) us area pass at stand deep =
      forks_well g k e known (T g) a p t n v (At q st m) area pass at
      (λ j r ch is number. (
        child_stands plain g k a p j ch m.frames r
            (Rattle.sp_code.specs.System.handing_of g.code.layouts m.frames v number ch) area pass is
            (framed_at a us q st m stand),
        refl,
        deep,
        tt,
        child_writes g k e known a p j ch q st m v r number area pass is,
      ))

  pub writes : (b : Base g H E (T g)) (p q : ℕ) (st s1 : List Entry) (n m : Memory Plain)
      (s : ProcessAt g.code p st n.frames) (t : ProcessAt g.code q s1 m.frames)
      → HasActivations g H E (T g) b (areas s) (At p st n) → MayWrite g.code (areas s) n
      → safe.ChangesAt plain g k p st n s (areas t) m → MayWrite g.code (areas t) m
  writes b p q st s1 n m s t l h ch = writes_kept g k e known (T g) b p q st s1 n m s t l h ch

  -- all of the first process's frames are its own
  pub first_writes : WritesWithin g.code 0 [] (Body 0) (first_memory plain g (layout_of g.code.layouts 0)).frames
  first_writes x s d at = inl (only s.frame)
    where
      only : (f : ℕ) → means (root_frame g.code k ∷ []) f ≡ identity 0 f
      only f = go (0 == f) refl
        where
          go : (t : Bool) → (0 == f) ≡ t → (if t then identity 0 0 else identity 0 f) ≡ identity 0 f
          go true i = ap (identity 0) (eqb-true 0 f i)
          go false i = refl

  -- ---- along a journal

  module _ (v9 : (p : ℕ) → BreaksV9 g.code p → ⊥) where
    -- every process of the system along a journal lives and stands
    pub live_along : (es : List JournalEntry) (s : System Plain) → IsSystem plain g es s
        → Inv g H E (T g) (Room g) (Sent g) s.condition s.births
    live_along es s l =
        system_ok g H E (T g) (Room g) (Sent g) k.rooms (t_store g) (t_entered g) (t_deep g small)
        (λ b us c d x lv st tn. turn_well g k E mays calls ready forks writes b us c d x lv st tn)
        (λ b us c lv st. turn_safe g k E mays calls ready forks writes b us c lv st)
        (λ b us c lv st. turn_ranked g k E mays calls ready forks writes b v9 us c lv st)
        (Body 0) (first_lives g k e known (T g)) (first_stands plain g k, refl, omega arith, tt, first_writes) es s l

    -- an entry keeps that
    pub enters_live : (s t : System Plain) (q : ℕ) (ev : Event) → Inv g H E (T g) (Room g) (Sent g) s.condition s.births
        → EntryLeads plain g s q ev t → Inv g H E (T g) (Room g) (Sent g) t.condition t.births
    enters_live s t q ev i h =
        enters_ok g H E (T g) (Room g) (Sent g) k.rooms (t_store g) (t_entered g) (t_deep g small)
        (λ b us c d x lv st tn. turn_well g k E mays calls ready forks writes b us c d x lv st tn)
        (λ b us c lv st. turn_safe g k E mays calls ready forks writes b us c lv st)
        (λ b us c lv st. turn_ranked g k E mays calls ready forks writes b v9 us c lv st)
        s t q ev i h

    -- where all processes live, all is well with the next turn of each and with its event
    pub safe_where : (s : System Plain) → Inv g H E (T g) (Room g) (Sent g) s.condition s.births → IsSafeSystem g s
    safe_where s i =
        system_safe g H E (T g) (Room g) (Sent g) k.rooms (t_store g) (t_entered g) (t_deep g small)
        (λ b us c d x lv st tn. turn_well g k E mays calls ready forks writes b us c d x lv st tn)
        (λ b us c lv st. turn_safe g k E mays calls ready forks writes b us c lv st)
        (λ b us c lv st. turn_ranked g k E mays calls ready forks writes b v9 us c lv st)
        s i

    -- so it is in the system along every journal
    pub safe_along : (es : List JournalEntry) (s : System Plain) → IsSystem plain g es s → IsSafeSystem g s
    safe_along es s l = safe_where s (live_along es s l)

    -- a process that runs comes to no instruction that stops, other than by a fault or a pause, while a block that
    -- answers is being called
    pub without_stop_along : ((f : ℕ) (l : Layout) → layout_of g.code.layouts f ≡ Some l
        → fork.BreaksV8 g.code (Does g.code) (HasStop g.code) l f → ⊥)
        → (es : List JournalEntry) (s : System Plain) → IsSystem plain g es s → (q : ℕ) (c : Config (Memory Plain))
        → s.condition q ≡ Working c → (p : ℕ) (st : List Entry) (m : Memory Plain)
        → RunsTo (memory plain g) g.code c (At p st m) → is_stop (instr_at g.code p) ≡ true
        → (t : ProcessAt g.code p st m.frames)
        × ((f : ℕ) (l : Layout) → IsAreaAmong g.code (Body f) (areas t) → layout_of g.code.layouts f ≡ Some l
        → l.answer ≡ false)
    without_stop_along eight es s l q c runs p st m way is =
        let i = live_along es s l in
        let w = subst (λ y. LivesIn g H E (T g) (Room g) (Sent g) i.base (i.base q) (i.children q) y) runs (i.each q) in
        turn_without_stop g k E mays calls ready forks writes (i.base q) eight w.0 c p st m w.1 w.2 way is
