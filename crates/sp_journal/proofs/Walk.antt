-- Going over the entries of a journal, one after another.
use Rattle.std.proofs.Common.{◌≡◌, ◌⊎◌, ⊎_elim, inl, inr, ℕ, ◌+◌, ◌-◌, ◌<◌, ◌≤◌, cond, List, [], ◌∷◌, ◌++◌, length}
use Rattle.std.proofs.Common.{get_or, take, drop, codes, add-one, Option, Some, None, refl, sym, ap, ◌∙◌, subst, arith}
use Rattle.std.proofs.Math.Seq.{drop-cons}
use Rattle.std.proofs.lemmas.List.{take_more, take-append-drop}
use Rattle.std.proofs.lemmas.Bool.{cases_lt}
use Rattle.std.proofs.lemmas.Option.{none-some}
use Rattle.sp_journal.specs.declared.entry.Birth.{Birth}
use Rattle.sp_journal.specs.declared.entry.Entry.{Entry}
use Rattle.sp_journal.specs.declared.entry.Event.{Event}
use Rattle.sp_journal.specs.declared.entry.Event.TheVariants as event
use Rattle.sp_journal.specs.Births.{Births, first_births, births_after_event, births_after_entry, births_from, births}
use Rattle.sp_journal.specs.Births.{CanFollow}
use Rattle.sp_journal.specs.Births.{NameableFrom}
use Rattle.sp_journal.specs.Texts.{entry_text, entries_text}
use Rattle.sp_journal.proofs.Facts.{below, above, between}
use Rattle.sp_journal.proofs.BirthLaws.{births_last, lawful}

pub left_is : (es : List Entry) (i : ℕ) (d : Entry) → i < length es → drop i es ≡ get_or es i d ∷ drop (i + 1) es
left_is es i d l = rw add-one (drop-cons es i d l)

pub more_births : (es : List Entry) (i : ℕ) (d : Entry) → i < length es
    → births (take (i + 1) es) ≡ births_after_entry (births (take i es)) (get_or es i d)
more_births es i d l = ap births (take_more es i d l) ∙ births_last (take i es) (get_or es i d)

pub can_follow : (es : List Entry) (i : ℕ) (d : Entry) → i < length es → NameableFrom (births (take i es)) (drop i es)
    → CanFollow (births (take i es)) (get_or es i d)
can_follow es i d l h = (subst (NameableFrom (births (take i es))) (left_is es i d l) h).0

pub still_nameable : (es : List Entry) (i : ℕ) (d : Entry) → i < length es
    → NameableFrom (births (take i es)) (drop i es) → NameableFrom (births (take (i + 1) es)) (drop (i + 1) es)
still_nameable es i d l h = subst (λ (s : Births). NameableFrom s (drop (i + 1) es)) (sym (more_births es i d l))
    (subst (NameableFrom (births (take i es))) (left_is es i d l) h).1

pub text_more : (es : List Entry) (i : ℕ) (d : Entry) → i < length es
    → entries_text (births (take i es)) (drop i es) ≡ (entry_text (births (take i es)) (get_or es i d) ++ codes "\n")
    ++ entries_text (births (take (i + 1) es)) (drop (i + 1) es)
text_more es i d l =
    ap (entries_text (births (take i es))) (left_is es i d l)
    ∙ ap (λ (s : Births). (entry_text (births (take i es)) (get_or es i d) ++ codes "\n")
    ++ entries_text s (drop (i + 1) es)) (sym (more_births es i d l))

pub births_parts : (s : Births) (xs ys : List Entry) → births_from s (xs ++ ys) ≡ births_from (births_from s xs) ys
births_parts s [] ys = refl
births_parts s (x ∷ xs) ys = births_parts (births_after_entry s x) xs ys

pub births_split : (es : List Entry) (i : ℕ) → births es ≡ births_from (births (take i es)) (drop i es)
births_split es i = ap births (sym (take-append-drop i es)) ∙ births_parts first_births (take i es) (drop i es)

-- a birth stays
event_birth : (s : Births) (p : ℕ) (e : Event) (q : ℕ) → q < s.processes
    → ((births_after_event s p e).birth q ≡ s.birth q)
    × (s.processes ≤ (births_after_event s p e).processes)
event_birth s p (event.Fork n) q l = (
  ap (λ b. cond b
      (Some (record { parent = p; fork = s.forks p; child = q - s.processes })) (s.birth q))
      (below s.processes q (s.processes + n) l),
  omega arith,
)
event_birth s p event.Open q l = (refl, omega arith)
event_birth s p (event.Send c) q l = (refl, omega arith)
event_birth s p (event.Receive c) q l = (refl, omega arith)
event_birth s p event.End q l = (refl, omega arith)
event_birth s p (event.Fault f) q l = (refl, omega arith)
event_birth s p event.Laid q l = (refl, omega arith)
event_birth s p event.Pause q l = (refl, omega arith)

pub birth_stays : (s : Births) (es : List Entry) (q : ℕ) → q < s.processes → (births_from s es).birth q ≡ s.birth q
birth_stays s [] q l = refl
birth_stays s (e ∷ es) q l =
    let b = event_birth s e.process e.event q l in
    birth_stays (births_after_entry s e) es q (let h = b.1 in omega arith) ∙ b.0

-- the default of a look-up
abbrev pub any_entry : Entry
any_entry = record { process = 0; event = event.Fork 0 }

module _ (es : List Entry) (i : ℕ) (l : i < length es) where
  abbrev pub before : Births
  before = births (take i es)

  abbrev pub this : Entry
  this = get_or es i any_entry

  pub kept_whole : (xs ys : List Entry) → xs ≡ take i es → ys ≡ xs ++ this ∷ [] → ys ≡ take (i + 1) es
  kept_whole xs ys e f = f ∙ ap (λ (x : List Entry). x ++ this ∷ []) e ∙ sym (take_more es i any_entry l)

  module _ (n : ℕ) (is : this.event ≡ event.Fork n) where
    pub after_fork : births (take (i + 1) es) ≡ births_after_event before this.process (event.Fork n)
    after_fork = more_births es i any_entry l ∙ ap (births_after_event before this.process) is

    pub found : (q next fork : ℕ) → next ≡ before.processes → fork ≡ before.forks this.process → next ≤ q → q < next + n
        → Some (record { parent = this.process; fork = fork; child = q - next }) ≡ (births es).birth q
    found q next fork ne fe lo hi =
        let a : births es ≡ births_from (births (take (i + 1) es)) (drop (i + 1) es) = births_split es (i + 1) in
        let b : q < (births (take (i + 1) es)).processes =
        subst (λ (s : Births). q < s.processes) (sym after_fork) (omega arith) in
        let c : (births (take (i + 1) es)).birth q
        ≡ Some (record { parent = this.process; fork = before.forks this.process; child = q - before.processes }) =
        ap (λ (s : Births). s.birth q) after_fork
        ∙ ap (λ x. cond x (Some (record {
          parent = this.process;
          fork = before.forks this.process;
          child = q - before.processes;
        })) (before.birth q))
        (between before.processes q (before.processes + n) (omega arith) (omega arith)) in
        (λ j. Some (record { parent = this.process; fork = fe j; child = q - ne j }))
        ∙ sym (ap (λ (s : Births). s.birth q) a ∙ birth_stays (births (take (i + 1) es)) (drop (i + 1) es) q b ∙ c)

    pub not_yet : (q : ℕ) → (q < before.processes) ⊎ (before.processes + n ≤ q) → before.birth q ≡ None
        → (births (take (i + 1) es)).birth q ≡ None
    not_yet q h e =
        ap (λ (s : Births). s.birth q) after_fork
        ∙ ap (λ x. cond x (Some (record {
          parent = this.process;
          fork = before.forks this.process;
          child = q - before.processes;
        })) (before.birth q))
        (⊎_elim (λ (o : q < before.processes). below before.processes q (before.processes + n) o)
        (λ (o : before.processes + n ≤ q). above before.processes q (before.processes + n) o) h)
        ∙ e

-- an event other than fork
pub no_fork : (s : Births) (p : ℕ) (e : Event) → ((n : ℕ) → e ≡ event.Fork n → ⊥)
    → ((births_after_event s p e).processes ≡ s.processes) × ((q : ℕ) → (births_after_event s p e).birth q ≡ s.birth q)
    × ((q : ℕ) → (births_after_event s p e).forks q ≡ s.forks q)
no_fork s p (event.Fork n) h = absurd (h n refl)
no_fork _ _ _ _ = (refl, λ q. refl, λ q. refl)

-- who has no birth
module _ (es : List Entry) (nameable : NameableFrom first_births es) (q : ℕ) where
  pub has_birth : (b : Birth) → Some b ≡ (births es).birth q → (q ≡ 0) ⊎ ((births es).processes ≤ q) → ⊥
  has_birth b e h = ⊎_elim
      (λ (z : q ≡ 0). let f : (births es).birth q ≡ None = ap (births es).birth z ∙ (lawful es nameable).no_birth in
      some_none (e ∙ f))
      (λ (z : (births es).processes ≤ q). some_none (e ∙ (lawful es nameable).unborn q z))
      h
    where
      some_none : ◌≡◌ {A = Option Birth} (Some b) None → ⊥
      some_none f = cc

  pub has_none : None ≡ (births es).birth q → (q ≡ 0) ⊎ ((births es).processes ≤ q)
  has_none e = ⊎_elim
      (λ (l : q < (births es).processes). ⊎_elim (λ (z : q < 1). inl (omega arith))
      (λ (z : 1 ≤ q). let b = (lawful es nameable).born q z l in absurd (none-some b.birth (e ∙ b.birth_is)))
      (cases_lt q 1))
      (λ (l : (births es).processes ≤ q). inr l)
      (cases_lt q (births es).processes)
