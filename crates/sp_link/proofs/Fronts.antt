-- What each front of a journal that can be named has given to processes and channels is a beginning of what the whole
-- gives (`all_began`). The relation speaks of the whole journal's names; this leads from them to those of a front.
use Rattle.std.proofs.Common.{◌≡◌, ℕ, ◌<◌, ◌≤◌, ◌==◌, List, [], ◌∷◌, Bool, true, false, cond, eqb-true, refl, sym, ap}
use Rattle.std.proofs.Common.{◌∙◌, subst, arith}
use Rattle.std.specs.Prelude.{◌-◌}
use Rattle.sp_journal.specs.declared.entry.Event.{Event}
use Rattle.sp_journal.specs.declared.entry.Event.TheVariants as event
use Rattle.sp_journal.specs.declared.entry.Entry.{Entry}
use Rattle.sp_journal.specs.declared.entry.Opening.{Opening}
use Rattle.sp_journal.specs.Births.{Births, channel, is_next, births_after_event, births_from, NameableFrom}
use Rattle.sp_journal.proofs.BirthLaws.{Lawful, lawful_after}
use Rattle.sp_code.proofs.Orders.{next_not}
use Rattle.sp_link.proofs.Journal.{AllBegan}
use Rattle.sp_link.proofs.Relation.{RunContext, Began}

pub record Grows (b d : Births) : Type 0 where
  pub processes : b.processes ≤ d.processes
  pub channels : b.channels ≤ d.channels
  pub names : (i : ℕ) → i < b.processes → b.name i ≡ d.name i
  pub openings : (j : ℕ) → j < b.channels → channel b j ≡ channel d j

grows_same : (b : Births) → Grows b b
grows_same b = record { processes = omega arith; channels = omega arith; names = λ i l. refl; openings = λ j l. refl }

grows_on : (b d e : Births) → Grows b d → Grows d e → Grows b e
grows_on b d e h k = record {
  processes = (let x = h.processes in let y = k.processes in omega (arith, x, y));
  channels = (let x = h.channels in let y = k.channels in omega (arith, x, y));
  names = λ i l. h.names i l ∙ k.names i (let x = h.processes in omega (arith, x, l));
  openings = λ j l. h.openings j l ∙ k.openings j (let x = h.channels in omega (arith, x, l));
}

grows_event : (b : Births) (p : ℕ) (e : Event) → Lawful b → Grows b (births_after_event b p e)
grows_event b p (event.Fork n) w = record {
  processes = omega arith;
  channels = omega arith;
  names = λ i l. sym (name_old i l);
  openings = λ j l. ap (λ x. record { owner = x; nth = (b.opening j).nth })
      (sym (name_old (b.opening j).owner (w.owned j l)));
}
  where
    name_old : (i : ℕ) → i < b.processes → cond (is_next b n i) ((b.forks p, i - b.processes) ∷ b.name p) (b.name i)
        ≡ b.name i
    name_old i l = ap (λ x. cond x ((b.forks p, i - b.processes) ∷ b.name p) (b.name i)) (next_not b n i l)
grows_event b p event.Open w = record {
  processes = omega arith;
  channels = omega arith;
  names = λ i l. refl;
  openings = λ j l. ap (λ (x : Opening). record { owner = b.name x.owner; nth = x.nth })
      (sym (by (b.channels == j) refl l));
}
  where
    by : {j : ℕ} (x : Bool) → b.channels == j ≡ x → j < b.channels
        → cond (b.channels == j) (record { owner = p; nth = b.opens p }) (b.opening j) ≡ b.opening j
    by {j} true e l = let h : b.channels ≡ j = eqb-true b.channels j e in absurd (omega (arith, h, l))
    by {j} false e l = ap (λ x. cond x (record { owner = p; nth = b.opens p }) (b.opening j)) e
grows_event b p (event.Send c) w = grows_same b
grows_event b p (event.Receive c) w = grows_same b
grows_event b p event.End w = grows_same b
grows_event b p (event.Fault f) w = grows_same b
grows_event b p event.Laid w = grows_same b
grows_event b p event.Pause w = grows_same b

pub grows_from : (es : List Entry) (b : Births) → Lawful b → NameableFrom b es → Grows b (births_from b es)
grows_from [] b w n = grows_same b
grows_from (e ∷ es) b w n = grows_on b (births_after_event b e.process e.event)
    (births_from (births_after_event b e.process e.event) es) (grows_event b e.process e.event w)
    (grows_from es (births_after_event b e.process e.event) (lawful_after b e w n.0) n.1)

module _ (G : RunContext) where
  pub began : (b : Births) → Lawful b → Grows b G.births → Began G b
  began b w g = record {
    processes = g.processes;
    channels = g.channels;
    names = g.names;
    openings = g.openings;
    root = (w.no_birth, w.no_name, w.some);
    born = w.born;
  }

  -- each front of a nameable journal has begun
  pub all_began : (es : List Entry) (b : Births) → Lawful b → NameableFrom b es → births_from b es ≡ G.births
      → AllBegan G b es
  all_began [] b w n e = tt
  all_began (x ∷ es) b w n e =
      let d = lawful_after b x w n.0 in (
        began (births_after_event b x.process x.event) d
            (subst (λ y. Grows (births_after_event b x.process x.event) y) e
            (grows_from es (births_after_event b x.process x.event) d n.1)),
        all_began es (births_after_event b x.process x.event) d n.1 e,
      )
