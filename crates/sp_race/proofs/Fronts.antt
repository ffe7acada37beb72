-- What is judged of the front of a journal and of one more entry.
use Rattle.std.proofs.Common.{◌≡◌, ℕ, zero, suc, ◌+◌, ◌<◌, ◌≤◌, cond, List, [], ◌∷◌, ◌++◌, take, length, length-append}
use Rattle.std.proofs.Common.{append_assoc, append-nil, Option, Some, None, slice_get, refl, sym, ap, ◌∙◌, subst, arith}
use Rattle.std.proofs.lemmas.List.{take_more}
use Rattle.std.proofs.lemmas.Option.{get_or_from_slice_get, slice_get_within, same_Some, none-some}
use Rattle.sp_base.proofs.Facts.{is_plus_none}
use Rattle.sp_journal.specs.declared.entry.Entry.{Entry}
use Rattle.sp_journal.specs.declared.entry.Event.{Event}
use Rattle.sp_journal.specs.declared.entry.Event.TheVariants as event
use Rattle.sp_journal.specs.Names.{Name, Channel, Occurrence}
use Rattle.sp_journal.specs.Births.{Births, first_births, births_after_event, births_after_entry, births_from, births}
use Rattle.sp_journal.specs.Births.{CanFollow}
use Rattle.sp_journal.specs.Births.{NameableFrom, happening, occurrence}
use Rattle.sp_journal.specs.Past.{Knowledge, knowledge_of, knowledge_after, knowledge_from, no_knowledge}
use Rattle.sp_journal.specs.Past.{knowledge_after_offer}
use Rattle.sp_journal.proofs.Walk.{any_entry, births_parts}
use Rattle.sp_journal.proofs.BirthLaws.{births_last}
use Rattle.sp_race.specs.Prefixes.{WaitersAreSilent, WaitersSilentFrom, WaitsForNone}
use Rattle.sp_race.specs.Counts.{clocks_after_entry, clocks_from, clocks_of}
use Rattle.sp_race.specs.JudgeTables.{entries_by_names}
use Rattle.sp_race.proofs.Numbers.{ExtendsBirths, stays, same_process}
use Rattle.sp_race.proofs.EntryFacts.{EntryFacts, standing_from, nothing_standing}
use Rattle.sp_journal.proofs.BirthLaws.{Lawful}

judged_from_last : (j : Knowledge) (n : ℕ) (es : List Occurrence) (e : Occurrence)
    → knowledge_from j n (es ++ e ∷ []) ≡ knowledge_after (knowledge_from j n es) (n + length es) e.who e.what
judged_from_last j n [] e = ap (λ x. knowledge_after j x e.who e.what) (omega arith)
judged_from_last j n (x ∷ es) e =
    let l : suc n + length es ≡ n + suc (length es) = omega arith in
    judged_from_last (knowledge_after j n x.who x.what) (suc n) es e
    ∙ ap (λ y. knowledge_after (knowledge_from (knowledge_after j n x.who x.what) (suc n) es) y e.who e.what) l

pub judged_last : (es : List Occurrence) (e : Occurrence)
    → knowledge_of (es ++ e ∷ []) ≡ knowledge_after (knowledge_of es) (length es) e.who e.what
judged_last es e = judged_from_last no_knowledge 0 es e ∙ ap (λ y. knowledge_after (knowledge_of es) y e.who e.what)
    (omega arith)

counts_from_last : (c : Name → Name → ℕ) (j : Knowledge) (done es : List Occurrence) (e : Occurrence)
    → clocks_from c j done (es ++ e ∷ []) ≡ clocks_after_entry (clocks_from c j done es)
    (knowledge_from j (length done) es)
    (done ++ es) e.who e.what
counts_from_last c j done [] e = ap (λ xs. clocks_after_entry c j xs e.who e.what) (sym (append-nil done))
counts_from_last c j done (x ∷ es) e =
    let j' : Knowledge = knowledge_after j (length done) x.who x.what in
    let c' : Name → Name → ℕ = clocks_after_entry c j done x.who x.what in
    let l : length (done ++ x ∷ []) ≡ suc (length done) = length-append done (x ∷ []) ∙ (omega arith) in
    let a : (done ++ x ∷ []) ++ es ≡ done ++ x ∷ es = append_assoc done (x ∷ []) es in
    counts_from_last c' j' (done ++ x ∷ []) es e
    ∙ (λ i. clocks_after_entry (clocks_from c' j' (done ++ x ∷ []) es) (knowledge_from j' (l i) es) (a i) e.who e.what)

pub counts_last : (es : List Occurrence) (e : Occurrence)
    → clocks_of (es ++ e ∷ []) ≡ clocks_after_entry (clocks_of es) (knowledge_of es) es e.who e.what
counts_last es e = counts_from_last (λ p q. 0) no_knowledge [] es e

pub silent_front : (j : Knowledge) (n : ℕ) (xs ys : List Occurrence) → WaitersSilentFrom j n (xs ++ ys)
    → WaitersSilentFrom j n xs
    × WaitersSilentFrom (knowledge_from j n xs) (n + length xs) ys
silent_front j n [] ys q = (tt, subst (λ x. WaitersSilentFrom j x ys) (is_plus_none n) q)
silent_front j n (x ∷ xs) ys q =
    let r = silent_front (knowledge_after j n x.who x.what) (suc n) xs ys q.1 in
    let l : suc n + length xs ≡ n + suc (length xs) = omega arith in (
      (q.0, r.0),
      subst (λ y. WaitersSilentFrom (knowledge_from (knowledge_after j n x.who x.what) (suc n) xs) y
          ys) l r.1,
    )

nameable_front : (s : Births) (xs ys : List Entry) → NameableFrom s (xs ++ ys) → NameableFrom s xs
    × NameableFrom (births_from s xs) ys
nameable_front s [] ys f = (tt, f)
nameable_front s (x ∷ xs) ys f = let r = nameable_front (births_after_entry s x) xs ys f.1 in ((f.0, r.0), r.1)

rest_of : (all : List Entry) (at : ℕ) (e : Entry) → slice_get all at ≡ Some e → (rest : List Entry)
    × (all ≡ take at all ++ e ∷ rest)
rest_of [] at e h = absurd (none-some _ h)
rest_of (x ∷ xs) zero e h = (xs, ap (λ y. y ∷ xs) (same_Some x e h))
rest_of (x ∷ xs) (suc at) e h = let r = rest_of xs at e h in (r.0, ap (λ ys. x ∷ ys) r.1)

pub get_within : {X : Type 0} (xs : List X) (i : ℕ) (x : X) → slice_get xs i ≡ Some x → i < length xs
get_within xs i x h = slice_get_within xs i x h

pub take_next : (all : List Entry) (at : ℕ) (e : Entry) → slice_get all at ≡ Some e
    → take (at + 1) all ≡ take at all ++ e ∷ []
take_next all at e h = take_more all at any_entry (get_within all at e h)
    ∙ ap (λ x. take at all ++ x ∷ []) (get_or_from_slice_get all at e any_entry h)

pub take_length : {X : Type 0} (xs : List X) (i : ℕ) → i ≤ length xs → length (take i xs) ≡ i
take_length [] zero l = refl
take_length [] (suc i) l = absurd (omega arith)
take_length (x ∷ xs) zero l = refl
take_length (x ∷ xs) (suc i) l = ap suc (take_length xs i (omega arith))

named_more : (s : Births) (es : List Entry) (e : Entry) (rest : List Entry)
    → entries_by_names s (es ++ e ∷ rest) ≡ entries_by_names s es ++ occurrence s e ∷ entries_by_names s rest
named_more s [] e rest = refl
named_more s (x ∷ es) e rest = ap (λ ys. occurrence s x ∷ ys) (named_more s es e rest)

pub named_length : (s : Births) (es : List Entry) → length (entries_by_names s es) ≡ length es
named_length s [] = refl
named_length s (x ∷ es) = ap suc (named_length s es)

pub named_get : (s : Births) (es : List Entry) (i : ℕ) (e : Entry) → slice_get es i ≡ Some e
    → slice_get (entries_by_names s es) i ≡ Some (occurrence s e)
named_get s [] i e h = absurd (none-some _ h)
named_get s (x ∷ es) zero e h = ap (λ y. Some (occurrence s y)) (same_Some x e h)
named_get s (x ∷ es) (suc i) e h = named_get s es i e h

-- how many forks a process has made, by numbers and by names
module _ (t : Births) (lawful : Lawful t) where
  -- after one more entry
  pub forks_by : (j : Knowledge) (n : ℕ) (s : Births) (e : Entry) → e.process < t.processes
      → ((p : ℕ) → p < t.processes → j.forks (t.name p) ≡ s.forks p)
      → (p : ℕ) → p < t.processes → (knowledge_after j n (t.name e.process) (happening t e.event)).forks (t.name p)
      ≡ (births_after_entry s e).forks p
  forks_by j n s e l h p k = by e.event
    where
      met : (c : Channel) (o : Option (Name × ℕ)) → (knowledge_after_offer j (t.name e.process) n c o).forks ≡ j.forks
      met c None = refl
      met c (Some o) = refl

      by : (v : Event) → (knowledge_after j n (t.name e.process) (happening t v)).forks (t.name p)
          ≡ (births_after_event s e.process v).forks p
      by (event.Fork m) =
          let a = same_process t lawful e.process p l k in
          let b = h e.process l in
          let c = h p k in
          λ i. cond (sym a i) (b i + 1) (c i)
      by (event.Send c) = ap (λ f. f (t.name p)) (met _ (j.pending _)) ∙ h p k
      by (event.Receive c) = ap (λ f. f (t.name p)) (met _ (j.pending _)) ∙ h p k
      by _ = h p k

  forks_from : (es : List Entry) (j : Knowledge) (n : ℕ) (s : Births) → NameableFrom s es
      → ((r : ℕ) → r < (births_from s es).processes → r < t.processes)
      → ((p : ℕ) → p < t.processes → j.forks (t.name p) ≡ s.forks p)
      → (p : ℕ) → p < t.processes → (knowledge_from j n (entries_by_names t es)).forks (t.name p)
      ≡ (births_from s es).forks p
  forks_from [] j n s f fits h = h
  forks_from (e ∷ es) j n s ((room, _), others) fits h =
      let a = (stays s (e ∷ es)).processes in
      forks_from es (knowledge_after j n (t.name e.process) (happening t e.event)) (suc n) (births_after_entry s e)
      others fits
      (forks_by j n s e (fits e.process (omega arith)) h)

-- one entry of a nameable journal in which no process makes an entry while its own offer waits
module _ (all : List Entry) (nameable : NameableFrom first_births all)
    (silent : WaitersAreSilent (entries_by_names (births all) all))
    (lawful : Lawful (births all)) (at : ℕ) (e : Entry) (inside : slice_get all at ≡ Some e) where
  abbrev pub before : List Entry
  before = take at all

  abbrev pub past : List Occurrence
  past = entries_by_names (births all) before

  abbrev pub next : Occurrence
  next = occurrence (births all) e

  abbrev rest : List Entry
  rest = (rest_of all at e inside).0

  whole : all ≡ before ++ e ∷ rest
  whole = (rest_of all at e inside).1

  front : NameableFrom first_births before × NameableFrom (births before) (e ∷ rest)
  front = nameable_front first_births before (e ∷ rest) (subst (NameableFrom first_births) whole nameable)

  pub follows : CanFollow (births before) e
  follows = let (can_follow, _) = front.1 in can_follow

  pub front_nameable : NameableFrom first_births before
  front_nameable = front.0

  births_whole : births all ≡ births_from (births before) (e ∷ rest)
  births_whole = ap births whole ∙ births_parts first_births before (e ∷ rest)

  pub stays_on : ExtendsBirths (births before) (births all)
  stays_on = subst (ExtendsBirths (births before)) (sym births_whole) (stays (births before) (e ∷ rest))

  pub stays_after : ExtendsBirths (births_after_entry (births before) e) (births all)
  stays_after = subst (ExtendsBirths (births_after_entry (births before) e)) (sym births_whole)
      (stays (births_after_entry (births before) e) rest)

  pub there : e.process < (births all).processes
  there = let a = follows.0 in let b = stays_on.processes in omega arith

  pub at_length : length before ≡ at
  at_length = take_length all at (let l = get_within all at e inside in omega arith)

  pub next_length : length (take (at + 1) all) ≡ at + 1
  next_length = take_length all (at + 1) (let l = get_within all at e inside in omega arith)

  pub grown : entries_by_names (births all) (take (at + 1) all) ≡ past ++ next ∷ []
  grown = ap (entries_by_names (births all)) (take_next all at e inside) ∙ named_more (births all) before e []

  silent_parts : WaitersSilentFrom no_knowledge 0 past
      × WaitersSilentFrom (knowledge_of past) (0 + length past) (next ∷ entries_by_names (births all) rest)
  silent_parts = silent_front no_knowledge 0 past (next ∷ entries_by_names (births all) rest)
      (subst WaitersAreSilent (ap (entries_by_names (births all)) whole ∙ named_more (births all) before e rest) silent)

  pub waits_not : WaitsForNone (knowledge_of past) next.who
  waits_not = let (waits, _) = silent_parts.1 in waits

  pub stands : EntryFacts (knowledge_of past) past (clocks_of past)
  stands = standing_from no_knowledge [] (λ p q. 0) past nothing_standing silent_parts.0

  pub births_more : births (take (at + 1) all) ≡ births_after_entry (births before) e
  births_more = ap births (take_next all at e inside) ∙ births_last before e

  pub forks_named : (p : ℕ) → p < (births all).processes
      → (knowledge_of past).forks ((births all).name p) ≡ (births before).forks p
  forks_named = forks_from (births all) lawful before no_knowledge 0 first_births front_nameable
      (λ r l. let b = stays_on.processes in omega arith) (λ p l. refl)
