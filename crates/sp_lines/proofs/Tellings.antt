-- Of each journal along which the machine has a system one thing is told.
use Rattle.std.proofs.Common.{◌≡◌, ℕ, List, [], ◌∷◌, ◌∙◌, refl, sym, ap, subst}
use Rattle.sp_cell.specs.Map.{Plain}
use Rattle.sp_journal.specs.declared.entry.Event.{Event}
use Rattle.sp_journal.specs.declared.entry.Entry.{Entry}
use Rattle.sp_code.specs.Machine.{Config}
use Rattle.sp_code.specs.Memory.{CodeRun, Memory, memory}
use Rattle.sp_code.specs.PlainStore.{plain}
use Rattle.sp_code.specs.System.{System, Condition, Working, EntriesLead, EntryLeads}
use Rattle.sp_code.specs.Turns.{Turn, IsTurn}
use Rattle.sp_code.proofs.OneTurn.{turn_same}
use Rattle.sp_code.proofs.Systems.{enters_same}
use Rattle.sp_lines.specs.declared.entry_place.Told.{Told}
use Rattle.sp_lines.specs.EntryPlaces.{told_of, EntryTells, EntriesTell}

module _ (g : CodeRun) where
  pub told : (es : List Entry) (s t : System Plain) → EntriesLead plain g s es t
      → (ws : List Told) × EntriesTell g s es ws t
  told [] s t h = ([], h)
  told (e ∷ es) s t (u, (c, works, turn, is, event, after), rest) =
      let r = told es u t rest in
      (told_of s turn ∷ r.0, (u, (c, works, turn, is, event, after, refl), r.1))

  pub leads : (es : List Entry) (ws : List Told) (s t : System Plain) → EntriesTell g s es ws t
      → EntriesLead plain g s es t
  leads [] [] s t h = h
  leads [] (w ∷ ws) s t h = absurd h
  leads (e ∷ es) [] s t h = absurd h
  leads (e ∷ es) (w ∷ ws) s t (u, (c, works, turn, is, event, after, it), rest) =
      (u, (c, works, turn, is, event, after), leads es ws u t rest)

  same_works : (c d : Config (Memory Plain)) → ◌≡◌ {A = Condition Plain} (Working c) (Working d) → c ≡ d
  same_works c d e = cc

  -- what is told is that of the turn that was made
  pub of_turn : (s t : System Plain) (q : ℕ) (e : Event) → EntryLeads plain g s q e t → (c : Config (Memory Plain))
      → s.condition q ≡ Working c → (turn : Turn (Memory Plain)) → IsTurn (memory plain g) g.code c turn
      → EntryTells g s q e (told_of s turn) t
  of_turn s t q e (runs, works_too, taken, is_taken, event, after) c works turn is =
      let w : c ≡ runs = same_works c runs (sym works ∙ works_too) in
      let mine : IsTurn (memory plain g) g.code runs turn =
      subst (λ (d : Config (Memory Plain)). IsTurn (memory plain g) g.code d turn) w is in
      let same : turn ≡ taken = turn_same (memory plain g) g.code runs turn taken mine is_taken in
      (runs, works_too, taken, is_taken, event, after, ap (λ (x : Turn (Memory Plain)). told_of s x) same)

  -- one thing is told of an entry, and of a journal
  entry_once : (s t u : System Plain) (q : ℕ) (e : Event) (w x : Told) → EntryTells g s q e w t
      → EntryTells g s q e x u → w ≡ x
  entry_once s t u q e w x (runs, works, taken, is, _, _, it) (other, works_too, taken_too, is_too, _, _, it_too) =
      let v : other ≡ runs = same_works other runs (sym works_too ∙ works) in
      let turn : IsTurn (memory plain g) g.code runs taken_too =
      subst (λ (c : Config (Memory Plain)). IsTurn (memory plain g) g.code c taken_too) v is_too in
      it ∙ ap (λ (y : Turn (Memory Plain)). told_of s y)
      (turn_same (memory plain g) g.code runs taken taken_too is turn)
      ∙ sym it_too

  lead : (s t : System Plain) (q : ℕ) (e : Event) (w : Told) → EntryTells g s q e w t → EntryLeads plain g s q e t
  lead s t q e w (c, works, turn, is, event, after, it) = (c, works, turn, is, event, after)

  pub once : (es : List Entry) (ws xs : List Told) (s t u : System Plain) → EntriesTell g s es ws t
      → EntriesTell g s es xs u → ws ≡ xs
  once [] [] [] s t u h k = refl
  once [] [] (x ∷ xs) s t u h k = absurd k
  once [] (w ∷ ws) xs s t u h k = absurd h
  once (e ∷ es) [] xs s t u h k = absurd h
  once (e ∷ es) (w ∷ ws) [] s t u h k = absurd k
  once (e ∷ es) (w ∷ ws) (x ∷ xs) s t u h k =
      let same : k.0 ≡ h.0 = enters_same plain g s e.process e.event e.event k.0 h.0
      (lead s k.0 e.process e.event x k.1) (lead s h.0 e.process e.event w h.1) in
      let rest : EntriesTell g h.0 es xs u = subst (λ (m : System Plain). EntriesTell g m es xs u) same k.2 in
      ap (λ (y : Told). y ∷ ws) (entry_once s h.0 k.0 e.process e.event w x h.1 k.1)
      ∙ ap (λ (ys : List Told). x ∷ ys) (once es ws xs h.0 t u h.2 rest)
