-- What is told of the entries of a journal is of the text.
use Rattle.std.proofs.Common.{◌≡◌, ◌≢◌, ℕ, zero, suc, List, [], ◌∷◌, length, Some, Bool, true, false}
use Rattle.std.proofs.Common.{refl}
use Rattle.std.proofs.Common.{sym, ap, ◌∙◌, subst, inl, inr}
use Rattle.std.proofs.lemmas.Option.{same_Some}
use Rattle.std.specs.Prelude.{slice_get, if◌then◌else◌}
use Rattle.sp_base.specs.declared.fault.Fault.{Fault}
use Rattle.sp_base.specs.declared.fault.Fault.TheVariants as fault
use Rattle.sp_tree.specs.PlainChecked.{Program}
use Rattle.sp_tree.specs.Plain as plain
use Rattle.sp_tree.specs.Bare.{without_places}
use Rattle.sp_cell.specs.Map.{Plain}
use Rattle.sp_journal.specs.declared.entry.Entry.{Entry}
use Rattle.sp_journal.specs.declared.entry.Event.{Event}
use Rattle.sp_journal.specs.declared.entry.Event.TheVariants as event
use Rattle.sp_code.specs.declared.instr.Instr.{Instr}
use Rattle.sp_code.specs.declared.instr.Instr.TheVariants as i
use Rattle.sp_code.specs.declared.code.Parts.{Parts}
use Rattle.sp_code.specs.TreeCode.{program_code}
use Rattle.sp_code.specs.Machine.{Stop, Forks, Opens, Sends, Receives, Ends, Pauses, Config}
use Rattle.sp_code.specs.Memory.{CodeRun, Memory, memory}
use Rattle.sp_code.specs.PlainStore.{plain as plain_store}
use Rattle.sp_code.specs.System.{System, event_or, fault_of}
use Rattle.sp_code.specs.Turns.{Turn, Stopped, Faulted, BeginsOrFaults, Runs, IsTurn, frames_fit}
use Rattle.sp_lines.specs.AtTurn.{at_turn, StopStands}
use Rattle.sp_lines.specs.Kinds.{HasStatement}
use Rattle.sp_lines.specs.declared.entry_place.Told.{Told}
use Rattle.sp_lines.specs.EntryPlaces.{EntryTells, EntriesTell}
use Rattle.sp_lines.proofs.FaultMarks.{fault_marked}
use Rattle.sp_lines.proofs.EntryStatements.{at_mark, shown}
use Rattle.sp_lines.proofs.StopInstructions.{turn_stands}
use Rattle.sp_execute.specs.TextTold.{HasMark}

module _ (p : Program) (moves shares : plain.Stmt → List ℕ) (g : CodeRun)
    (same : g.code ≡ program_code (without_places p) moves shares) where
  abbrev code : Parts
  code = program_code (without_places p) moves shares

  has_mark : (q : ℕ) (o : Instr) → slice_get code.instrs q ≡ Some o → HasMark p q
  has_mark q o e = let r = at_mark p moves shares q o e in (r.0, r.1)

  -- ---- a fault

  no_first : (c d : Config (Memory Plain)) (f h : Fault) → ◌≡◌ {A = Turn (Memory Plain)} (Faulted f d) (Faulted h c)
      → f ≡ h
  no_first c d f h e = cc e

  by_begin : (b : Bool) (c d : Config (Memory Plain)) (f : Fault) → f ≢ fault.F12
      → frames_fit (memory plain_store g) code c ≡ b
      → BeginsOrFaults b c (Faulted f d) (Runs (memory plain_store g) code c (Faulted f d))
      → HasMark p (at_turn (Faulted f d))
  by_begin true c d f n e h = fault_marked p moves shares (memory plain_store g) c f d
      (subst (λ (b : Bool). BeginsOrFaults b c (Faulted f d) (Runs (memory plain_store g) code c (Faulted f d)))
      (sym e) h)
      e
  by_begin false c d f n e h = absurd (n (no_first c d f fault.F12 h))

  by_stop : (s : System Plain) (z : Stop) (d : Config (Memory Plain)) (f : Fault)
      → StopStands code z (at_turn (Stopped z d))
      → event_or (fault_of g.limits s (Stopped z d)) (Stopped z d) ≡ event.Fault f → HasMark p (at_turn (Stopped z d))
  by_stop s (Forks t v n) d f (inl h) e = has_mark _ (i.Fork t) h
  by_stop s (Forks t v n) d f (inr h) e = has_mark _ (i.Forall t) h
  by_stop s (Opens a) d f h e = has_mark _ i.Open h
  by_stop s (Sends c k cs) d f h e = has_mark _ (i.Send k) h
  by_stop s (Receives c k a) d f h e = has_mark _ (i.Receive k) h
  by_stop s Ends d f h e = has_mark _ i.End h
  by_stop s Pauses d f h e = absurd (cc e)

  same_fault : (f h : Fault) → ◌≡◌ {A = Event} (event.Fault f) (event.Fault h) → f ≡ h
  same_fault f h e = cc e

  by_turn : (s : System Plain) (c : Config (Memory Plain)) (turn : Turn (Memory Plain)) (f : Fault) → f ≢ fault.F12
      → IsTurn (memory plain_store g) code c turn → event_or (fault_of g.limits s turn) turn ≡ event.Fault f
      → HasMark p (at_turn turn)
  by_turn s c (Stopped z d) f n is e = by_stop s z d f
      (turn_stands (memory plain_store g) code c z d (frames_fit (memory plain_store g) code c) is) e
  by_turn s c (Faulted k d) f n is e = by_begin (frames_fit (memory plain_store g) code c) c d k
      (λ w. n (sym (same_fault k f e) ∙ w)) refl is

  by_event : (b : Bool) (s : System Plain) (c : Config (Memory Plain)) (turn : Turn (Memory Plain)) (f : Fault)
      → f ≢ fault.F12 → IsTurn (memory plain_store g) code c turn
      → (if b then event.Laid else event_or (fault_of g.limits s turn) turn) ≡ event.Fault f → HasMark p (at_turn turn)
  by_event true s c turn f n is e = absurd (cc e)
  by_event false s c turn f n is e = by_turn s c turn f n is e

  fault_told : (s t : System Plain) (q : ℕ) (e : Event) (w : Told) (f : Fault) → EntryTells g s q e w t
      → e ≡ event.Fault f → f ≢ fault.F12 → HasMark p w.instruction
  fault_told s t q e w f (c, works, turn, is, happens, after, told) a n =
      subst (λ (x : Told). HasMark p x.instruction) (sym told)
      (by_event s.faulted s c turn f n
      (subst (λ (k : Parts). IsTurn (memory plain_store g) k c turn) same is) (happens ∙ a))

  -- ---- each entry

  pub each_told : (es : List Entry) (ws : List Told) (s t : System Plain) → EntriesTell g s es ws t
      → length ws ≡ length es
  each_told [] [] s t h = refl
  each_told [] (w ∷ ws) s t h = absurd h
  each_told (e ∷ es) [] s t h = absurd h
  each_told (e ∷ es) (w ∷ ws) s t h = ap suc (each_told es ws h.0 t h.2)

  at_entry : (es : List Entry) (ws : List Told) (s t : System Plain) → EntriesTell g s es ws t
      → (n : ℕ) (e : Entry) (w : Told) → slice_get es n ≡ Some e → slice_get ws n ≡ Some w
      → (u : System Plain) × (v : System Plain) × EntryTells g u e.process e.event w v
  at_entry [] ws s t h n e w a b = absurd (cc a)
  at_entry (d ∷ es) [] s t h n e w a b = absurd (cc b)
  at_entry (d ∷ es) (x ∷ ws) s t h zero e w a b = (
    s,
    h.0,
    subst (λ (y : Entry). EntryTells g s y.process y.event w h.0) (same_Some d e a)
        (subst (λ (y : Told). EntryTells g s d.process d.event y h.0) (same_Some x w b) h.1),
  )
  at_entry (d ∷ es) (x ∷ ws) s t h (suc n) e w a b = at_entry es ws h.0 t h.2 n e w a b

  pub entries_told : (es : List Entry) (ws : List Told) (s t : System Plain) → EntriesTell g s es ws t
      → (n : ℕ) (e : Entry) (w : Told) → slice_get es n ≡ Some e → slice_get ws n ≡ Some w
      → HasStatement p e.event w.instruction
  entries_told es ws s t h n e w a b =
      let r = at_entry es ws s t h n e w a b in shown p moves shares g same r.0 r.1 e.process e.event w r.2

  pub faults_told : (es : List Entry) (ws : List Told) (s t : System Plain) → EntriesTell g s es ws t
      → (n : ℕ) (e : Entry) (w : Told) (f : Fault) → slice_get es n ≡ Some e → slice_get ws n ≡ Some w
      → e.event ≡ event.Fault f → f ≢ fault.F12 → HasMark p w.instruction
  faults_told es ws s t h n e w f a b k m =
      let r = at_entry es ws s t h n e w a b in fault_told r.0 r.1 e.process e.event w f r.2 k m
