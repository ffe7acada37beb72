-- A ledger after one more entry.
use Rattle.std.proofs.Common.{◌≡◌, ◌≢◌, ⊎_elim, ℕ, zero, suc, ◌+◌, ◌-◌, ◌<◌, ◌≤◌, cond, nat_eq, List, [], ◌∷◌, ◌++◌}
use Rattle.std.proofs.Common.{length, length-append, get_or, Option, Some, slice_get, unwrap_or, sym, ap, ◌∙◌}
use Rattle.std.proofs.Common.{subst, arith}
use Rattle.std.specs.Option.{option_map}
use Rattle.std.specs.HashMap as hash
use Rattle.std.proofs.lemmas.Bool.{cases_eq, cases_lt, ne_eqb}
use Rattle.std.proofs.lemmas.List.Sorted.{IsNonDecreasingBy-push}
use Rattle.std.specs.List.Sorted.{IsNonDecreasingBy}
use Rattle.sp_base.proofs.Facts.{get_before_last, get_last}
use Rattle.sp_journal.specs.declared.entry.Opening.{Opening}
use Rattle.sp_journal.specs.declared.entry.Event.{Event}
use Rattle.sp_journal.specs.declared.entry.Event.TheVariants as event
use Rattle.sp_journal.specs.declared.ledger.Family.{Family}
use Rattle.sp_journal.specs.declared.ledger.Made.{Made}
use Rattle.sp_journal.specs.declared.ledger.Ledger.{Ledger}
use Rattle.sp_journal.specs.Births.{Births, first_births, births_after_event, births, CanFollow}
use Rattle.sp_journal.specs.Births.{GivesNumbers, NameableFrom}
use Rattle.sp_journal.specs.Ledger.{IsLedger, birth_in, nothing_made}
use Rattle.sp_journal.proofs.Facts.{here}
use Rattle.sp_journal.proofs.BirthLaws.{births_last, nameable_last, old_birth, new_birth, old_opening, new_opening}
use Rattle.sp_journal.proofs.BirthLaws.{lawful}
use Rattle.sp_journal.proofs.Families.{family_push_above, family_push_at, birth_of}

pub pushed_all : {X : Type 0} (P : X → Type 0) (xs : List X) (y : X)
    → ((k : ℕ) (d : X) → k < length xs → P (get_or xs k d)) → P y → (k : ℕ) (d : X) → k < length (xs ++ y ∷ [])
    → P (get_or (xs ++ y ∷ []) k d)
pushed_all P [] y h p zero d l = p
pushed_all P [] y h p (suc k) d l = absurd (omega arith)
pushed_all P (x ∷ xs) y h p zero d l = h 0 d (omega arith)
pushed_all P (x ∷ xs) y h p (suc k) d l = pushed_all P xs y (λ k d l. h (suc k) d (omega arith)) p k d (omega arith)

module _ (l m : Ledger) (p : ℕ) (ledger : IsLedger l) where
  abbrev was : Births
  was = births l.journal.entries

  module _ (n : ℕ) (next : CanFollow was (record { process = p; event = event.Fork n }))
      (journal : m.journal.entries ≡ l.journal.entries ++ record { process = p; event = event.Fork n } ∷ [])
      (processes : m.processes ≡ l.processes + n)
      (families : m.families ≡ l.families ++ record { first = l.processes; parent = p; fork = was.forks p } ∷ [])
      (openings : m.openings ≡ l.openings)
      (made : (q : ℕ) → hash.get nat_eq m.made q
      ≡ cond (nat_eq p q) (Some (record { forks = was.forks p + 1; opens = was.opens p }))
      (hash.get nat_eq l.made q))
    where
      abbrev numbers : GivesNumbers was p (event.Fork n)
      numbers = next.1

      abbrev its_family : Family
      its_family = record { first = l.processes; parent = p; fork = was.forks p }

      now_is : births m.journal.entries ≡ births_after_event was p (event.Fork n)
      now_is = ap births journal ∙ births_last l.journal.entries (record { process = p; event = event.Fork n })

      fork_families : (q : ℕ) → q < (births_after_event was p (event.Fork n)).processes
          → (births_after_event was p (event.Fork n)).birth q ≡ birth_in (l.families ++ its_family ∷ []) q
      fork_families q h = ⊎_elim
          (λ (o : q < was.processes).
          let k : q < l.processes = let e = ledger.processes in omega arith in
          old_birth was (lawful l.journal.entries ledger.nameable) p n next.0 numbers.0 numbers.1 q o
          ∙ ledger.families q o
          ∙ ap (option_map (λ (f : Family). birth_of f q)) (sym (family_push_above l.families its_family q k)))
          (λ (o : was.processes ≤ q).
          let k : l.processes ≤ q = let e = ledger.processes in omega arith in
          new_birth was (lawful l.journal.entries ledger.nameable) p n next.0 numbers.0 numbers.1 q o h
          ∙ ap (λ (x : ℕ). Some (record { parent = p; fork = was.forks p; child = q - x })) (sym ledger.processes)
          ∙ ap (option_map (λ (f : Family). birth_of f q)) (sym (family_push_at l.families its_family q k)))
          (cases_lt q was.processes)

      fork_made : (q : ℕ) → unwrap_or (hash.get nat_eq m.made q) nothing_made
          ≡ record { forks = (births_after_event was p (event.Fork n)).forks q; opens = was.opens q }
      fork_made q = ap (λ (o : Option Made). unwrap_or o nothing_made) (made q) ∙ ⊎_elim
          (λ (e : p ≡ q).
          let f : was.opens p ≡ was.opens q = ap was.opens e in
          rw (here p q e) (λ i. record { forks = was.forks p + 1; opens = f i }))
          (λ (e : p ≢ q). rw (ne_eqb p q e) (ledger.made q))
          (cases_eq p q)

      pub fork_ledger : IsLedger m
      fork_ledger = record {
        nameable = subst (λ es. NameableFrom first_births es) (sym journal)
            (nameable_last first_births l.journal.entries _ ledger.nameable next);
        processes = processes ∙ ap (λ (x : ℕ). x + n) ledger.processes ∙ ap (λ (s : Births). s.processes) (sym now_is);
        channels = ap length openings ∙ ledger.channels ∙ ap (λ (s : Births). s.channels) (sym now_is);
        openings = subst (λ (s : Births). (c : ℕ) → c < s.channels → slice_get m.openings c ≡ Some (s.opening c))
            (sym now_is) (subst (λ os. (c : ℕ) → c < was.channels → slice_get os c ≡ Some (was.opening c))
            (sym openings) ledger.openings);
        families = subst (λ (s : Births). (q : ℕ) → q < s.processes → s.birth q ≡ birth_in m.families q) (sym now_is)
            (subst (λ fs. (q : ℕ) → q < (births_after_event was p (event.Fork n)).processes
            → (births_after_event was p (event.Fork n)).birth q ≡ birth_in fs q) (sym families) fork_families);
        in_order = subst (IsNonDecreasingBy (λ (f : Family). f.first)) (sym families)
            (IsNonDecreasingBy-push (λ (f : Family). f.first) l.families its_family ledger.in_order
            (λ d h. subst (λ x. (get_or l.families (length l.families - 1) d).first ≤ x) (sym ledger.processes)
            (ledger.begun (length l.families - 1) d (omega arith))));
        begun = subst (λ (s : Births). (i : ℕ) (d : Family) → i < length m.families
            → (get_or m.families i d).first ≤ s.processes) (sym now_is)
            (subst (λ fs. (i : ℕ) (d : Family) → i < length fs → (get_or fs i d).first ≤ was.processes + n)
            (sym families) (pushed_all (λ f. f.first ≤ was.processes + n) l.families its_family
            (λ k d h. let b = ledger.begun k d h in omega arith) (let e = ledger.processes in omega arith)));
        made = subst (λ (s : Births). (q : ℕ)
            → unwrap_or (hash.get nat_eq m.made q) nothing_made ≡ record { forks = s.forks q; opens = s.opens q })
            (sym now_is) fork_made;
      }

  module _ (next : CanFollow was (record { process = p; event = event.Open }))
      (journal : m.journal.entries ≡ l.journal.entries ++ record { process = p; event = event.Open } ∷ [])
      (processes : m.processes ≡ l.processes)
      (families : m.families ≡ l.families)
      (openings : m.openings ≡ l.openings ++ record { owner = p; nth = was.opens p } ∷ [])
      (made : (q : ℕ) → hash.get nat_eq m.made q
      ≡ cond (nat_eq p q) (Some (record { forks = was.forks p; opens = was.opens p + 1 }))
      (hash.get nat_eq l.made q))
    where
      abbrev its_numbers : GivesNumbers was p event.Open
      its_numbers = next.1

      abbrev its_opening : Opening
      its_opening = record { owner = p; nth = was.opens p }

      then_is : births m.journal.entries ≡ births_after_event was p event.Open
      then_is = ap births journal ∙ births_last l.journal.entries (record { process = p; event = event.Open })

      open_made : (q : ℕ) → unwrap_or (hash.get nat_eq m.made q) nothing_made
          ≡ record { forks = was.forks q; opens = (births_after_event was p event.Open).opens q }
      open_made q = ap (λ (o : Option Made). unwrap_or o nothing_made) (made q) ∙ ⊎_elim
          (λ (e : p ≡ q).
          let f : was.forks p ≡ was.forks q = ap was.forks e in
          rw (here p q e) (λ i. record { forks = f i; opens = was.opens p + 1 }))
          (λ (e : p ≢ q). rw (ne_eqb p q e) (ledger.made q))
          (cases_eq p q)

      open_openings : (c : ℕ) → c < was.channels + 1
          → slice_get (l.openings ++ its_opening ∷ []) c ≡ Some ((births_after_event was p event.Open).opening c)
      open_openings c h = ⊎_elim
          (λ (o : c < was.channels).
          get_before_last l.openings its_opening c (let e = ledger.channels in omega arith) ∙ ledger.openings c o
          ∙ ap (λ (x : Opening). Some x) (sym
          (old_opening was (lawful l.journal.entries ledger.nameable) p next.0 its_numbers.0 its_numbers.1 c o)))
          (λ (o : was.channels ≤ c).
          let e : c ≡ length l.openings = let e = ledger.channels in omega arith in
          ap (slice_get (l.openings ++ its_opening ∷ [])) e ∙ get_last l.openings its_opening
          ∙ ap (λ (x : Opening). Some x) (sym
          (new_opening was (lawful l.journal.entries ledger.nameable) p next.0 its_numbers.0 its_numbers.1 c o h)))
          (cases_lt c was.channels)

      pub open_ledger : IsLedger m
      open_ledger = record {
        nameable = subst (λ es. NameableFrom first_births es) (sym journal)
            (nameable_last first_births l.journal.entries _ ledger.nameable next);
        processes = processes ∙ ledger.processes ∙ ap (λ (s : Births). s.processes) (sym then_is);
        channels = ap length openings ∙ length-append l.openings (its_opening ∷ [])
            ∙ ap (λ (x : ℕ). x + 1) ledger.channels ∙ ap (λ (s : Births). s.channels) (sym then_is);
        openings = subst (λ (s : Births). (c : ℕ) → c < s.channels → slice_get m.openings c ≡ Some (s.opening c))
            (sym then_is) (subst (λ os. (c : ℕ) → c < was.channels + 1
            → slice_get os c ≡ Some ((births_after_event was p event.Open).opening c)) (sym openings) open_openings);
        families = subst (λ (s : Births). (q : ℕ) → q < s.processes → s.birth q ≡ birth_in m.families q) (sym then_is)
            (subst (λ fs. (q : ℕ) → q < was.processes → was.birth q ≡ birth_in fs q) (sym families) ledger.families);
        in_order = subst (IsNonDecreasingBy (λ (f : Family). f.first)) (sym families) ledger.in_order;
        begun = subst (λ (s : Births). (i : ℕ) (d : Family) → i < length m.families
            → (get_or m.families i d).first ≤ s.processes) (sym then_is)
            (subst (λ fs. (i : ℕ) (d : Family) → i < length fs → (get_or fs i d).first ≤ was.processes) (sym families)
            ledger.begun);
        made = subst (λ (s : Births). (q : ℕ)
            → unwrap_or (hash.get nat_eq m.made q) nothing_made ≡ record { forks = s.forks q; opens = s.opens q })
            (sym then_is) open_made;
      }

  module _ (e : Event) (next : CanFollow was (record { process = p; event = e }))
      (gives : births_after_event was p e ≡ was)
      (journal : m.journal.entries ≡ l.journal.entries ++ record { process = p; event = e } ∷ [])
      (processes : m.processes ≡ l.processes) (families : m.families ≡ l.families) (openings : m.openings ≡ l.openings)
      (made : (q : ℕ) → hash.get nat_eq m.made q ≡ hash.get nat_eq l.made q)
    where
      stays : births m.journal.entries ≡ was
      stays = ap births journal ∙ births_last l.journal.entries (record { process = p; event = e }) ∙ gives

      -- an event that gives nothing
      pub other_ledger : IsLedger m
      other_ledger = record {
        nameable = subst (λ es. NameableFrom first_births es) (sym journal)
            (nameable_last first_births l.journal.entries _ ledger.nameable next);
        processes = processes ∙ ledger.processes ∙ ap (λ (s : Births). s.processes) (sym stays);
        channels = ap length openings ∙ ledger.channels ∙ ap (λ (s : Births). s.channels) (sym stays);
        openings = subst (λ (s : Births). (c : ℕ) → c < s.channels → slice_get m.openings c ≡ Some (s.opening c))
            (sym stays) (subst (λ os. (c : ℕ) → c < was.channels → slice_get os c ≡ Some (was.opening c)) (sym openings)
            ledger.openings);
        families = subst (λ (s : Births). (q : ℕ) → q < s.processes → s.birth q ≡ birth_in m.families q) (sym stays)
            (subst (λ fs. (q : ℕ) → q < was.processes → was.birth q ≡ birth_in fs q) (sym families) ledger.families);
        in_order = subst (IsNonDecreasingBy (λ (f : Family). f.first)) (sym families) ledger.in_order;
        begun = subst (λ (s : Births). (i : ℕ) (d : Family) → i < length m.families
            → (get_or m.families i d).first ≤ s.processes) (sym stays)
            (subst (λ fs. (i : ℕ) (d : Family) → i < length fs → (get_or fs i d).first ≤ was.processes) (sym families)
            ledger.begun);
        made = subst (λ (s : Births). (q : ℕ)
            → unwrap_or (hash.get nat_eq m.made q) nothing_made ≡ record { forks = s.forks q; opens = s.opens q })
            (sym stays) (λ q. ap (λ (o : Option Made). unwrap_or o nothing_made) (made q) ∙ ledger.made q);
      }
