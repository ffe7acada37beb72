-- A process that waits or joins is told at its statement.
use Rattle.std.proofs.Common.{◌≡◌, ℕ, ◌-◌, ◌==◌, List, [], ◌∷◌, Option, Some, None, Bool, true, false, cond}
use Rattle.std.proofs.Common.{subst, sym, refl}
use Rattle.std.specs.Prelude.{if◌then◌else◌}
use Rattle.std.proofs.lemmas.Bool.{eqb-true}
use Rattle.sp_base.specs.declared.fault.Fault.{Fault}
use Rattle.sp_tree.specs.PlainChecked.{Program}
use Rattle.sp_tree.specs.Plain as plain
use Rattle.sp_tree.specs.Bare.{without_places}
use Rattle.sp_cell.specs.declared.cell.Cell.{Cell}
use Rattle.sp_cell.specs.Map.{Plain}
use Rattle.sp_journal.specs.declared.entry.Event.{Event}
use Rattle.sp_journal.specs.declared.entry.Event.TheVariants as event
use Rattle.sp_journal.specs.declared.entry.Entry.{Entry}
use Rattle.sp_journal.specs.declared.entry.Birth.{Birth}
use Rattle.sp_journal.specs.Births.{is_next}
use Rattle.sp_journal.specs.Maps.{at_key}
use Rattle.sp_code.specs.TreeCode.{program_code}
use Rattle.sp_code.specs.Machine.{Stop, Forks, Opens, Sends, Receives, Ends, Pauses, Config}
use Rattle.sp_code.specs.Memory.{CodeRun, Memory, memory}
use Rattle.sp_code.specs.PlainStore.{plain as stores}
use Rattle.sp_code.specs.System.{System, Condition, Absent, Working, Waits, Joins, Laid, Gone, Over, event_at, fault_of}
use Rattle.sp_code.specs.System.{config_of, process_at_entry, after_message, parent_after_join, apply_send}
use Rattle.sp_code.specs.System.{apply_receive, apply_end, apply_stop, apply_unless_fault, lays}
use Rattle.sp_code.specs.System.{opening_system}
use Rattle.sp_code.specs.Turns.{Turn, Stopped, Faulted, IsTurn}
use Rattle.sp_lines.specs.AtTurn.{at_turn}
use Rattle.sp_lines.specs.Kinds.{HasStatement}
use Rattle.sp_lines.specs.declared.entry_place.Told.{Told}
use Rattle.sp_lines.specs.EntryPlaces.{EntryTells, EntriesTell, lasts_after}
use Rattle.sp_lines.specs.WaitPlaces.{IsShown}
use Rattle.sp_lines.proofs.EntryStatements.{by_stop, stands}

module _ (p : Program) where
  -- each process is shown well
  abbrev Good : (ℕ → Condition Plain) → (ℕ → ℕ) → Type 0
  Good f at = (r : ℕ) → IsShown p (f r) (at r)

  by_key : (b : Bool) (c d : Condition Plain) (n m : ℕ) → IsShown p c n → IsShown p d m
      → IsShown p (cond b c d) (cond b n m)
  by_key true c d n m h k = h
  by_key false c d n m h k = k

  at_one : (q : ℕ) (c : Condition Plain) (n : ℕ) (f : ℕ → Condition Plain) (at : ℕ → ℕ) → IsShown p c n → Good f at
      → Good (at_key ◌==◌ q c f) (at_key ◌==◌ q n at)
  at_one q c n f at h good r = by_key (q == r) c (f r) n (at r) h (good r)

  -- one that another one's turn changes
  by_other : (b : Bool) (z r : ℕ) (c d : Condition Plain) (m : ℕ) → z == r ≡ b → (z ≡ r → IsShown p c m)
      → IsShown p d m → IsShown p (cond b c d) m
  by_other true z r c d m e h k = h (eqb-true z r e)
  by_other false z r c d m e h k = k

  message_kept : (g : CodeRun) (cs : List Cell) (c : Condition Plain) (m : ℕ) → IsShown p c m
      → IsShown p (after_message stores g cs c) m
  message_kept g cs Absent m h = tt
  message_kept g cs (Working c) m h = tt
  message_kept g cs (Waits (Receives d k a) c) m h = tt
  message_kept g cs (Waits (Sends d k bs) c) m h = tt
  message_kept g cs (Waits (Forks t v n) c) m h = tt
  message_kept g cs (Waits (Opens a) c) m h = tt
  message_kept g cs (Waits Ends c) m h = tt
  message_kept g cs (Waits Pauses c) m h = tt
  message_kept g cs (Joins left c) m h = h
  message_kept g cs (Laid c) m h = tt
  message_kept g cs Gone m h = tt
  message_kept g cs (Over c) m h = tt

  by_last : (b : Bool) (left : ℕ) (e : Config (Memory Plain)) (m : ℕ) → HasStatement p (event.Fork left) m
      → IsShown p (if b then Working e else Joins (left - 1) e) m
  by_last true left e m h = tt
  by_last false left e m h = h

  join_kept : (g : CodeRun) (c : Config (Memory Plain)) (d : Condition Plain) (m : ℕ) → IsShown p d m
      → IsShown p (parent_after_join stores g c d) m
  join_kept g c (Waits z d) m h = h
  join_kept g c (Joins left d) m h = by_last (left == 1) left _ m h
  join_kept _ _ _ _ _ = tt

  others : (z : ℕ) (c : Condition Plain) (f : ℕ → Condition Plain) (at : ℕ → ℕ)
      → ((r : ℕ) → z ≡ r → IsShown p c (at r)) → Good f at → Good (at_key ◌==◌ z c f) at
  others z c f at h good r = by_other (z == r) z r c (f r) (at r) refl (h r) (good r)

  messages : (g : CodeRun) (cs : List Cell) (z : ℕ) (f : ℕ → Condition Plain) (at : ℕ → ℕ) → Good f at
      → Good (at_key ◌==◌ z (after_message stores g cs (f z)) f) at
  messages g cs z f at good = others z _ f at
      (λ r e. message_kept g cs (f z) (at r) (subst (λ n. IsShown p (f z) (at n)) e (good z))) good

  module _ (g : CodeRun) (s : System Plain) (at : ℕ → ℕ) (good : Good s.condition at) (q n : ℕ)
      (own : Config (Memory Plain)) (works : s.condition q ≡ Working own) where
    abbrev After : (ℕ → Condition Plain) → Type 0
    After f = Good f (at_key ◌==◌ q n at)

    by_next : (b : Bool) (w : Config (Memory Plain)) (d : Condition Plain) (m : ℕ) → IsShown p d m
        → IsShown p (cond b (Working w) d) m
    by_next true w d m h = tt
    by_next false w d m h = h

    sent : (z : Stop) (ch : ℕ) (cs : List Cell) (c : Config (Memory Plain)) (o : Option ℕ)
        → HasStatement p (event_at z) n → After (apply_send stores g q z ch cs c o s).condition
    sent z ch cs c None h = at_one q (Waits z c) n s.condition at h good
    sent z ch cs c (Some w) h = at_one q (Working c) n _ at tt (messages g cs w s.condition at good)

    received : (z : Stop) (ch : ℕ) (a : _) (c : Config (Memory Plain)) (o : Option ℕ)
        → HasStatement p (event_at z) n → After (apply_receive stores g q z ch a c o s).condition
    received z ch a c None h = at_one q (Waits z c) n s.condition at h good
    received z ch a c (Some w) h = at_one q _ n _ at tt (messages g [] w s.condition at good)

    by_parent : (b : Bool) (k : ℕ) → q == k ≡ b → IsShown p (s.condition k) (cond b n (at k))
    by_parent true k e = subst (λ x. IsShown p (s.condition x) n) (eqb-true q k e)
        (subst (λ (c : Condition Plain). IsShown p c n) (sym works) tt)
    by_parent false k e = good k

    parents : (k r : ℕ) → k ≡ r → IsShown p (s.condition k) (at_key ◌==◌ q n at r)
    parents k r e = subst (λ x. IsShown p (s.condition k) (at_key ◌==◌ q n at x)) e (by_parent (q == k) k refl)

    ended : (c : Config (Memory Plain)) (b : Option Birth) → After (apply_end stores g q c b s).condition
    ended c None = at_one q (Over c) n s.condition at tt good
    ended c (Some b) = others b.parent _ _ _
        (λ r e. join_kept g c (s.condition b.parent) _ (parents b.parent r e)) (at_one q Gone n s.condition at tt good)

    stopped : (z : Stop) (c : Config (Memory Plain)) → HasStatement p (event_at z) n
        → After (apply_stop stores g q z c s).condition
    stopped (Forks t v k) c h = λ r. by_next (is_next s.births k r) _ _ _
        (by_key (q == r) _ (s.condition r) n (at r) h (good r))
    stopped (Opens a) c h = at_one q _ n s.condition at tt good
    stopped (Sends ch k cs) c h = sent (Sends ch k cs) ch cs c (s.pending ch) h
    stopped (Receives ch k a) c h = received (Receives ch k a) ch a c (s.pending ch) h
    stopped Ends c h = ended c (s.births.birth q)
    stopped Pauses c h = at_one q _ n s.condition at tt good

    turned : (b : Bool) (x : Option Fault) (turn : Turn (Memory Plain))
        → ((z : Stop) (c : Config (Memory Plain)) → turn ≡ Stopped z c → HasStatement p (event_at z) n)
        → After (if b then lays stores g q (config_of turn) s else apply_unless_fault stores g x q turn s).condition
    turned true x turn h = at_one q _ n s.condition at tt good
    turned false (Some f) turn h = at_one q _ n s.condition at tt good
    turned false None (Faulted f c) h = at_one q _ n s.condition at tt good
    turned false None (Stopped z c) h = stopped z (process_at_entry c) (h z c refl)

module _ (p : Program) (moves shares : plain.Stmt → List ℕ) (g : CodeRun)
    (same : g.code ≡ program_code (without_places p) moves shares) where
  at_stop_of : (c : Config (Memory Plain)) (turn : Turn (Memory Plain)) → IsTurn (memory stores g) g.code c turn
      → (z : Stop) (d : Config (Memory Plain)) → turn ≡ Stopped z d → HasStatement p (event_at z) (at_turn turn)
  at_stop_of c turn is z d e =
      subst (λ (x : Turn (Memory Plain)). HasStatement p (event_at z) (at_turn x)) (sym e)
      (by_stop p moves shares z (at_turn (Stopped z d))
      (stands p moves shares g same c (Stopped z d)
      (subst (λ (x : Turn (Memory Plain)). IsTurn (memory stores g) g.code c x) e is)))

  step : (s t : System Plain) (at : ℕ → ℕ) (q : ℕ) (e : Event) (w : Told) → Good p s.condition at
      → EntryTells g s q e w t → Good p t.condition (at_key ◌==◌ q w.instruction at)
  step s t at q e w good (c, works, turn, is, happens, after, told) =
      subst (λ (x : Told). Good p t.condition (at_key ◌==◌ q x.instruction at)) (sym told)
      (subst (λ (x : System Plain). Good p x.condition (at_key ◌==◌ q (at_turn turn) at)) (sym after)
      (turned p g s at good q (at_turn turn) c works s.faulted (fault_of g.limits s turn) turn
      (at_stop_of c turn is)))

  steps : (es : List Entry) (ws : List Told) (s t : System Plain) (at : ℕ → ℕ) → Good p s.condition at
      → EntriesTell g s es ws t → Good p t.condition (lasts_after es ws at)
  steps [] [] s t at good h = subst (λ (x : System Plain). Good p x.condition at) (sym h) good
  steps [] (w ∷ ws) s t at good h = absurd h
  steps (e ∷ es) [] s t at good h = absurd h
  steps (e ∷ es) (w ∷ ws) s t at good h =
      steps es ws h.0 t (at_key ◌==◌ e.process w.instruction at) (step s h.0 at e.process e.event w good h.1) h.2

  by_start : (b : Bool) (c : Config (Memory Plain)) (n : ℕ) → IsShown p (if b then Working c else Absent) n
  by_start true c n = tt
  by_start false c n = tt

  pub waits_shown : (es : List Entry) (ws : List Told) (t : System Plain)
      → EntriesTell g (opening_system stores g) es ws t → (r : ℕ)
      → IsShown p (t.condition r) (lasts_after es ws (λ _. 0) r)
  waits_shown es ws t h r = steps es ws (opening_system stores g) t (λ _. 0) (λ k. by_start (k == 0) _ 0) h r
