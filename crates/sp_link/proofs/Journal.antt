-- Along a journal: where each entry keeps the relation, the meaning goes along the journal as the system does.
-- `OneEntry` is what one entry has to give, `goes_along` the induction; `Now` is the relation with the channels that
-- are open after so many entries.
use Rattle.std.proofs.Common.{◌≡◌, ⊎_elim, ℕ, ◌+◌, ◌<◌, ◌≤◌, List, [], ◌∷◌, Bool, false, refl}
use Rattle.std.proofs.Common.{sym, ap, ◌∙◌, subst}
use Rattle.std.specs.Prelude.{◌≢◌}
use Rattle.std.proofs.lemmas.Bool.{cases_lt}
use Rattle.sp_journal.specs.declared.entry.Event.{Event}
use Rattle.sp_journal.specs.declared.entry.Event.TheVariants as event
use Rattle.sp_journal.specs.declared.entry.Entry.{Entry}
use Rattle.sp_journal.specs.Births.{Births, births_after_event, happening, occurrence, occurrences_from}
use Rattle.sp_cell.specs.Map.{Plain}
use Rattle.sp_meaning.specs.Model.{Name}
use Rattle.sp_meaning.specs.Entries.{Happening}
use Rattle.sp_meaning.specs.LocalWork.{RunInput}
use Rattle.sp_meaning.specs.Runs.{StateOf}
use Rattle.sp_meaning.specs.Along.{JournalState, Turn, EntryStep, Along}
use Rattle.sp_code.specs.Machine.{Config}
use Rattle.sp_code.specs.Memory.{Memory}
use Rattle.sp_code.specs.PlainStore.{plain}
use Rattle.sp_code.specs.System.{System, Condition, Absent, Working, EntryLeads, EntriesLead}
use Rattle.sp_link.proofs.Relation.{RunContext, RightsOfAll, Began, Linked, at_open, run_is}

-- what q does in the meaning for an entry
pub record Way_by (g : RunInput) (pause : ℕ) (c : JournalState) (s : StateOf g) (q : Name)
    (what : Happening) : Type 1 where
  pub unlaid : c.laid q ≡ false
  pub steps : ℕ
  pub source : StateOf g
  pub paused : Bool
  pub turn : Turn g pause (c.since q) q steps s source paused
  pub cost : ℕ
  pub course : JournalState
  pub state : StateOf g
  pub enters : (left : JournalState → StateOf g → ℕ → Type 0) (n : ℕ) → left course state n
      → EntryStep g left c source paused q what (cost + n)

abbrev pub Way_on : (G : RunContext) → JournalState → StateOf G.g → Name → Happening → Type 1
Way_on G c s q what = Way_by G.g G.pause c s q what

-- the relation, with the channels that are open
abbrev pub Now : (G : RunContext) → RightsOfAll G → JournalState → StateOf G.g → System Plain → Type 0
Now G lv c s u = Linked (at_open G u.births.channels) lv c s u

-- where it is told with these channels
pub now_by : (G : RunContext) (lv : RightsOfAll G) (c : JournalState) (s : StateOf G.g) (u : System Plain)
    → Linked G lv c s u
    → Now G lv c s u
now_by G lv c s u l = subst (λ n. Linked (at_open G n) lv c s u) l.open_is l

-- the channel that an event speaks of is open
abbrev pub IsOpen : Births → Event → Type 0
IsOpen b (event.Send c) = c < b.channels
IsOpen b (event.Receive c) = c < b.channels
IsOpen _ _ = Unit {0}

module _ (G : RunContext) where
  -- and the machine's system after it is u
  pub record Goes_on (c : JournalState) (s : StateOf G.g) (q : Name) (what : Happening)
      (u : System Plain) : Type 1 where
    pub way : Way_on G c s q what
    pub lives : RightsOfAll G
    pub linked : Now G lives way.course way.state u

  -- one entry on both sides
  abbrev pub OneEntry : Type 1
  OneEntry = (lv : RightsOfAll G) (c : JournalState) (s : StateOf G.g) (u t : System Plain) (i : ℕ) (e : Event)
      → Now G lv c s u
      → EntryLeads plain (run_is G) u i e t → Began G t.births
      → Goes_on c s (G.births.name i) (happening u.births e) t

  -- a whole journal
  pub record Goes_along (c : JournalState) (s : StateOf G.g) (b : Births) (es : List Entry)
      (t : System Plain) : Type 1 where
    pub steps : ℕ
    pub course : JournalState
    pub state : StateOf G.g
    pub along : Along G.g G.pause c s (occurrences_from b es) steps state
    pub lives : RightsOfAll G
    pub linked : Now G lives course state t

  absent_not : (c : Config (Memory Plain)) → ◌≡◌ {A = Condition Plain} Absent (Working c) → ⊥
  absent_not c e = cc e

  -- who does anything has a number
  pub has_number : (lv : RightsOfAll G) (c : JournalState) (s : StateOf G.g) (u : System Plain) → Linked G lv c s u
      → (i : ℕ) (x : Condition Plain) → u.condition i ≡ x → x ≢ Absent → i < u.births.processes
  has_number lv c s u l i x e there = ⊎_elim (λ (h : i < u.births.processes). h)
      (λ (h : u.births.processes ≤ i). absurd (there (sym e ∙ l.unborn i h))) (cases_lt i u.births.processes)

  pub is_born : (lv : RightsOfAll G) (c : JournalState) (s : StateOf G.g) (u : System Plain) → Linked G lv c s u
      → (i : ℕ) (d : Config (Memory Plain)) → u.condition i ≡ Working d → i < u.births.processes
  is_born lv c s u l i d e = ⊎_elim (λ (h : i < u.births.processes). h)
      (λ (h : u.births.processes ≤ i). absurd (absent_not d (sym (l.unborn i h) ∙ e))) (cases_lt i u.births.processes)

  is_born_now : (lv : RightsOfAll G) (c : JournalState) (s : StateOf G.g) (u : System Plain) → Now G lv c s u
      → (i : ℕ) (d : Config (Memory Plain)) → u.condition i ≡ Working d → i < u.births.processes
  is_born_now lv c s u l i d e = ⊎_elim (λ (h : i < u.births.processes). h)
      (λ (h : u.births.processes ≤ i). absurd (absent_not d (sym (l.unborn i h) ∙ e))) (cases_lt i u.births.processes)

  -- each front of the journal has begun
  abbrev pub AllBegan : Births → List Entry → Type 0
  AllBegan b [] = Unit {0}
  AllBegan b (e ∷ es) = Began G (births_after_event b e.process e.event)
      × AllBegan (births_after_event b e.process e.event) es

  pub goes_along : OneEntry → (es : List Entry) (lv : RightsOfAll G) (c : JournalState) (s : StateOf G.g)
      (u t : System Plain)
      → Now G lv c s u → AllBegan u.births es → EntriesLead plain (run_is G) u es t → Goes_along c s u.births es t
  goes_along one [] lv c s u t l b h = record {
    steps = 0;
    course = c;
    state = s;
    along = (refl, refl);
    lives = lv;
    linked = subst (λ z. Now G lv c s z) (sym h) l;
  }
  goes_along one (e ∷ es) lv c s u t l b (v, (d, at, tn, is_turn, event_is, after_is), more) =
      on (λ z lv1 c1 s1 k q. goes_along one es lv1 c1 s1 v t k q more)
    where
      on : ((z : Unit {0}) (lv1 : RightsOfAll G) (c1 : JournalState) (s1 : StateOf G.g) → Now G lv1 c1 s1 v
          → AllBegan v.births es → Goes_along c1 s1 v.births es t) → Goes_along c s u.births (e ∷ es) t
      on ih = record {
        steps = x.way.steps + (x.way.cost + y.steps);
        course = y.course;
        state = y.state;
        along = subst (λ z. Along G.g G.pause c s
            (z ∷ occurrences_from (births_after_event u.births e.process e.event) es)
            (x.way.steps + (x.way.cost + y.steps)) y.state) (sym names) (record {
              not_laid = x.way.unlaid;
              steps = x.way.steps;
              rest = x.way.cost + y.steps;
              middle = x.way.source;
              paused = x.way.paused;
              size = refl;
              turns = x.way.turn;
              enters = x.way.enters (λ c1 u1 r. Along G.g G.pause c1 u1
                  (occurrences_from (births_after_event u.births e.process e.event) es) r y.state) y.steps
                  (subst (λ z. Along G.g G.pause x.way.course x.way.state (occurrences_from z es) y.steps y.state) given
                  y.along);
            });
        lives = y.lives;
        linked = y.linked;
      }
        where
          given : v.births ≡ births_after_event u.births e.process e.event
          given = ap (λ (z : System Plain). z.births) after_is ∙ ap (λ z. births_after_event u.births e.process z)
              event_is

          names : occurrence u.births e ≡ record { who = G.births.name e.process; what = happening u.births e.event }
          names = ap (λ z. record { who = z; what = happening u.births e.event })
              (l.began.names e.process (is_born_now lv c s u l e.process d at))

          x : Goes_on c s (G.births.name e.process) (happening u.births e.event) v
          x = one lv c s u v e.process e.event l (d, at, tn, is_turn, event_is, after_is) (subst (λ z. Began G z)
              (sym given) b.0)

          y : Goes_along x.way.course x.way.state v.births es t
          y = ih tt x.lives x.way.course x.way.state x.linked (subst (λ z. AllBegan z es) (sym given) b.1)
