-- The system along a journal is one.
use Rattle.std.proofs.Common.{◌≡◌, ℕ, List, [], ◌∷◌, sym, ap, ◌∙◌, subst}
use Rattle.sp_journal.specs.declared.entry.Event.{Event}
use Rattle.sp_journal.specs.declared.entry.Entry.{Entry}
use Rattle.sp_code.specs.Machine.{Config}
use Rattle.sp_code.specs.Turns.{Turn, IsTurn}
use Rattle.sp_code.specs.Memory.{CodeRun, Stores, Memory, memory}
use Rattle.sp_code.specs.System.{System, Condition, Working, event_of, system_after_turn, EntryLeads, EntriesLead}
use Rattle.sp_code.proofs.OneTurn.{turn_same}

module _ {S : Type 0} (stores : Stores S) (g : CodeRun) where
  same_runs : (c d : Config (Memory S)) → ◌≡◌ {A = Condition S} (Working c) (Working d) → c ≡ d
  same_runs c d e = cc

  pub enters_same : (s : System S) (q : ℕ) (e f : Event) (t u : System S) → EntryLeads stores g s q e t
      → EntryLeads stores g s q f u → t ≡ u
  enters_same s q e f t u (runs, works, taken, is_turn, _, leads) (other, works_too, taken_too, is_too, _, leads_too) =
      let w : other ≡ runs = same_runs other runs (sym works_too ∙ works) in
      let turn : IsTurn (memory stores g) g.code runs taken_too =
      subst (λ (c : Config (Memory S)). IsTurn (memory stores g) g.code c taken_too) w is_too in
      leads ∙ ap (λ (x : Turn (Memory S)). system_after_turn stores g q x s)
      (turn_same (memory stores g) g.code runs taken taken_too is_turn turn)
      ∙ sym leads_too

  -- a turn makes one event
  pub event_same : (s : System S) (q : ℕ) (e f : Event) (t u : System S) → EntryLeads stores g s q e t
      → EntryLeads stores g s q f u → e ≡ f
  event_same s q e f t u (runs, works, taken, is_turn, tells, _) (other, works_too, taken_too, is_too, tells_too, _) =
      let w : other ≡ runs = same_runs other runs (sym works_too ∙ works) in
      let turn : IsTurn (memory stores g) g.code runs taken_too =
      subst (λ (c : Config (Memory S)). IsTurn (memory stores g) g.code c taken_too) w is_too in
      sym tells ∙ ap (λ (x : Turn (Memory S)). event_of g.limits s x)
      (turn_same (memory stores g) g.code runs taken taken_too is_turn turn) ∙ tells_too

  pub leads_same : (s : System S) (es : List Entry) (t u : System S) → EntriesLead stores g s es t
      → EntriesLead stores g s es u
      → t ≡ u
  leads_same s [] t u h k = h ∙ sym k
  leads_same s (e ∷ es) t u h k =
      leads_same h.0 es t u h.2 (subst (λ (m : System S). EntriesLead stores g m es u)
      (enters_same s e.process e.event e.event k.0 h.0 k.1 h.1) k.2)
