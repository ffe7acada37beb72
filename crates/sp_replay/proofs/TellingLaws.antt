-- What is told of an entry that was made: that of the turn that its process made.
use Rattle.std.proofs.lemmas.Option.{same_Some}
use Rattle.std.proofs.Common.{List, [], ◌∷◌, ◌++◌, take, get_or, length, suc, ◌+◌, ◌<◌, arith}
use Rattle.std.proofs.Common.{◌≡◌, ℕ, Bool, true, false, Option, Some, None, MatchBool, refl, sym, ap, ◌∙◌, subst}
use Rattle.std.specs.Prelude.{MatchOption, if◌then◌else◌}
use Rattle.sp_base.specs.declared.limits.Limits.{Limits}
use Rattle.sp_cell.specs.Map.{Plain}
use Rattle.sp_journal.specs.declared.entry.Entry.{Entry}
use Rattle.sp_code.specs.declared.code.Parts.{Parts}
use Rattle.sp_code.specs.Memory.{CodeRun, memory}
use Rattle.sp_code.specs.PlainStore.{plain}
use Rattle.sp_code.specs.Sound.{run_of}
use Rattle.sp_code.specs.System.{System, IsSystem, opening_system}
use Rattle.sp_code.specs.Turns.{IsTurn}
use Rattle.sp_lines.specs.declared.entry_place.Told.{Told}
use Rattle.sp_lines.specs.EntryPlaces.{told_of, EntryTells, EntriesTell, DescribesEntries}
use Rattle.sp_lines.proofs.Tellings.{of_turn}
use Rattle.sp_machine.specs.declared.state.State.{State as Proc}
use Rattle.sp_machine.specs.declared.state.Stop.{Stop}
use Rattle.sp_machine.specs.declared.state.Stop.TheVariants as stop
use Rattle.sp_machine.specs.Procs.{config_of, turn_by, IsTurnOf}
use Rattle.sp_kernel.specs.declared.handed.Handed.{Handed}
use Rattle.sp_kernel.specs.declared.kernel.Kernel.{Kernel}
use Rattle.sp_kernel.specs.Kernels.{system_of, code_run_of}
use Rattle.sp_replay.specs.declared.follow.FollowedRun.{FollowedRun}
use Rattle.sp_replay.specs.declared.replayer.Replayed.{Replayed}
use Rattle.sp_replay.specs.FollowInvariant.{HasCome, IsOutAs, RunsOn, WasTurned, HoldsAllReady, EventMade, CannotCome}
use Rattle.sp_replay.specs.Tellings.{ToldMade}
use Rattle.sp_replay.specs.TraceAnswers.{IsAt, TracedTo}
use Rattle.sp_replay.proofs.HistorySteps.{is_system}
use Rattle.sp_replay.proofs.Entries.{at_or, one_more}

is_turn : (p : Proc) (code : Parts) (lim : Limits) (q : Proc) (s : Stop) → IsTurnOf p code lim q s
    → (s ≡ stop.Memory → ⊥)
    → IsTurn (memory plain (run_of code p.input.value lim)) code (config_of p) (turn_by s q)
is_turn p code lim q stop.Memory h w = absurd (w refl)
is_turn _ _ _ _ _ h _ = h.0

module _ (x : Kernel) (code : Parts) (lim : Limits) (runs : RunsOn x code lim) (e : Entry) (p : Proc)
    (out : IsOutAs x e.process p) (h : Handed) (turned : WasTurned p code lim h) where
  same_run : run_of code p.input.value lim ≡ code_run_of x
  same_run = λ j. run_of (sym runs.code j) (out.input j) (sym runs.limits j)

  here : IsTurn (memory plain (code_run_of x)) (code_run_of x).code (config_of p) (turn_by h.stop h.proc)
  here = subst (λ (g : CodeRun). IsTurn (memory plain g) g.code (config_of p) (turn_by h.stop h.proc)) same_run
      (is_turn p code lim h.proc h.stop turned.turn turned.whole)

  told_made : (y : Kernel) (w : Told) → w ≡ told_of (system_of x) (turn_by h.stop h.proc)
      → EventMade x e.process e.event y → ToldMade x e w y
  told_made y w is made = record {
    made = made;
    tells = subst (λ (v : Told). EntryTells (code_run_of x) (system_of x) e.process e.event v (system_of y)) (sym is)
        (of_turn (code_run_of x) (system_of x) (system_of y) e.process e.event made.enters (config_of p) out.runs
        (turn_by h.stop h.proc) here);
  }

  pub told_if_same : (b : Bool) (w : Told) (g : FollowedRun) → w ≡ told_of (system_of x) (turn_by h.stop h.proc)
      → MatchBool b (HoldsAllReady g × EventMade x e.process e.event g.kernel) (CannotCome x e)
      → MatchOption (if b then Some w else None) (CannotCome x e)
      (λ v. HoldsAllReady g × ToldMade x e v g.kernel)
  told_if_same true w g is m = (m.0, told_made g.kernel w is m.1)
  told_if_same false w g is m = m

-- one entry more
snoc : (g : CodeRun) (es : List Entry) (ws : List Told) (s t u : System Plain) (e : Entry) (w : Told)
    → EntriesTell g s es ws t → EntryTells g t e.process e.event w u
    → EntriesTell g s (es ++ e ∷ []) (ws ++ w ∷ []) u
snoc g [] [] s t u e w h k = (u, subst (λ (z : System Plain). EntryTells g z e.process e.event w u) h k, refl)
snoc g [] (x ∷ ws) s t u e w h k = absurd h
snoc g (d ∷ es) [] s t u e w h k = absurd h
snoc g (d ∷ es) (x ∷ ws) s t u e w h k = (h.0, h.1, snoc g es ws h.0 t u e w h.2 k)

pub told_more : (g : CodeRun) (x y : Kernel) (e : Entry) (w : Told) (ws : List Told) → code_run_of x ≡ g
    → ToldMade x e w y → DescribesEntries g x.journal.entries ws (system_of x)
    → DescribesEntries g y.journal.entries (ws ++ w ∷ []) (system_of y)
told_more g x y e w ws same m told =
    subst (λ (es : List Entry). DescribesEntries g es (ws ++ w ∷ []) (system_of y)) (sym m.made.entries)
    (snoc g x.journal.entries ws (opening_system plain g) (system_of x) (system_of y) e w told
    (subst (λ (z : CodeRun). EntryTells z (system_of x) e.process e.event w (system_of y)) same m.tells))

pub told_none : (x : Kernel) → HasCome x → x.journal.entries ≡ [] → (ws : List Told) → ws ≡ []
    → DescribesEntries (code_run_of x) x.journal.entries ws (system_of x)
told_none x come none ws empty =
    let w : system_of x ≡ opening_system plain (code_run_of x) =
    subst (λ (es : List Entry). IsSystem plain (code_run_of x) es (system_of x)) none (is_system x come) in
    let start : DescribesEntries (code_run_of x) [] [] (system_of x) = w in
    subst (λ (es : List Entry). DescribesEntries (code_run_of x) es ws (system_of x)) (sym none)
    (subst (λ (vs : List Told). DescribesEntries (code_run_of x) [] vs (system_of x)) (sym empty) start)

pub of_some : {X : Type 0} (o : Option X) (P : Type 0) (Q : X → Type 0) (w : X) → MatchOption o P Q → o ≡ Some w
    → Q w
of_some None P Q w m e = absurd cc
of_some (Some r) P Q w m e = subst Q (same_Some r w e) m

pub of_none : {X : Type 0} (o : Option X) (P : Type 0) (Q : X → Type 0) → MatchOption o P Q → o ≡ None → P
of_none None P Q m e = m
of_none (Some r) P Q m e = absurd cc

pub entries_more : (x y : Kernel) (w : Told) (es : List Entry) (n : ℕ) (d : Entry) → ToldMade x (get_or es n d) w y
    → x.journal.entries ≡ take n es → n < length es → y.journal.entries ≡ take (n + 1) es
entries_more x y w es n d m i l =
    let next : n + 1 ≡ suc n = omega arith in
    m.made.entries ∙ ap (λ (z : List Entry). z ++ get_or es n d ∷ []) i
    ∙ sym (ap (λ (k : ℕ). take k es) next ∙ one_more es n (get_or es n d) (at_or es n d l))

-- a run that has followed a journal, of which this was told, with its end and output
pub traced : (g : CodeRun) (es : List Entry) (f : FollowedRun) (ws : List Told) (r : Replayed)
    → code_run_of f.kernel ≡ g
    → f.kernel.journal.entries ≡ es → DescribesEntries g f.kernel.journal.entries ws (system_of f.kernel)
    → IsAt f.kernel.journal.entries (system_of f.kernel) r → HoldsAllReady f
    → TracedTo g es (record { replayed = r; told = ws; state = f })
traced g es f ws r run entries told there stands =
    let along : IsSystem plain g f.kernel.journal.entries (system_of f.kernel) =
    subst (λ (x : CodeRun). IsSystem plain x f.kernel.journal.entries (system_of f.kernel)) run
    (is_system f.kernel stands.follows.come) in
    record {
      along = subst (λ (l : List Entry). IsSystem plain g l (system_of f.kernel)) entries along;
      told = subst (λ (l : List Entry). DescribesEntries g l ws (system_of f.kernel)) entries told;
      replayed = subst (λ (l : List Entry). IsAt l (system_of f.kernel) r) entries there;
      state = stands;
    }
