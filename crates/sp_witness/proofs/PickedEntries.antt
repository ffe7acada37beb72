-- The pass by numbers picks what the pass by names takes.
use Rattle.std.proofs.Common.{◌≡◌, ℕ, zero, suc, ◌+◌, ◌<◌, ◌≤◌, Bool, true, false, cond, ◌&&◌, ◌||◌, ◌==◌, List, []}
use Rattle.std.proofs.Common.{◌∷◌, ◌++◌, map, take, drop, Option, Some, None, slice_get, refl, sym, ap, ◌∙◌, subst}
use Rattle.std.proofs.Common.{arith}
use Rattle.std.proofs.lemmas.List.{take-append-drop}
use Rattle.sp_base.proofs.Facts.{get_of_map}
use Rattle.sp_journal.specs.declared.entry.Event.{Event}
use Rattle.sp_journal.specs.declared.entry.Event.TheVariants as event
use Rattle.sp_journal.specs.declared.entry.Entry.{Entry}
use Rattle.sp_journal.specs.declared.entry.Birth.{Birth}
use Rattle.sp_journal.specs.Maps.{at_key}
use Rattle.sp_journal.specs.Names.{Name, same_name, Occurrence}
use Rattle.sp_journal.specs.Births.{Births, first_births, births_after_event, births_after_entry, births_from, births}
use Rattle.sp_journal.specs.Births.{channel, CanFollow}
use Rattle.sp_journal.specs.Births.{GivesNumbers, NameableFrom, happening, occurrence, occurrences_from}
use Rattle.sp_journal.specs.Past.{Knowledge, knowledge_after, knowledge_after_offer, no_knowledge}
use Rattle.sp_journal.proofs.BirthLaws.{Lawful, lawful, parent_older, name_by_birth, name_of_root}
use Rattle.sp_journal.proofs.Walk.{birth_stays}
use Rattle.sp_race.proofs.Numbers.{ExtendsBirths, stays, same_process, same_chan, children_named, all_named}
use Rattle.sp_race.proofs.Fronts.{forks_by}
use Rattle.sp_witness.specs.Witness.{who_of, who_at}
use Rattle.sp_witness.specs.NeededEntries.{any_child, parent_is, needed_to_meet, needed_before, needed_processes}
use Rattle.sp_witness.specs.NeededEntries.{needed_entries, needed_marks}
use Rattle.sp_witness.specs.Flags.{any_flag, parent_flag, flags_to_meet, flags_before, line_by, lines_after, flags}
use Rattle.sp_witness.specs.Flags.{picked_entries, picked_first_part, marks}

-- who waits, by number and by name
abbrev Matches : Births → Option ℕ → Option (Name × ℕ) → Type 0
Matches t None None = Unit {0}
Matches t None (Some o) = ⊥
Matches t (Some z) None = ⊥
Matches t (Some z) (Some o) = (z < t.processes) × (t.name z ≡ o.0)

module _ (t : Births) (law : Lawful t) where
  abbrev SameFlags : (ℕ → Bool) → (Name → Bool) → Type 0
  SameFlags F H = (q : ℕ) → q < t.processes → F q ≡ H (t.name q)

  key_same : (F : ℕ → Bool) (H : Name → Bool) (p : ℕ) (b c : Bool) → p < t.processes → SameFlags F H → b ≡ c
      → SameFlags (at_key ◌==◌ p b F) (at_key same_name (t.name p) c H)
  key_same F H p b c there same e q l = let k = same_process t law p q there l in let h = same q l in
      λ i. cond (k i) (e i) (h i)

  meet_same : (F : ℕ → Bool) (H : Name → Bool) (p : ℕ) (x : Option ℕ) (y : Option (Name × ℕ)) → p < t.processes
      → SameFlags F H → Matches t x y → SameFlags (flags_to_meet p x F) (needed_to_meet (t.name p) y H)
  meet_same F H p None None there same m = same
  meet_same F H p None (Some o) there same m = absurd m
  meet_same F H p (Some z) None there same m = absurd m
  meet_same F H p (Some z) (Some o) there same m =
      let both : F p || F z ≡ H (t.name p) || H o.0 = (λ i. same p there i || same z m.0 i)
      ∙ ap (λ x. H (t.name p) || H x) m.1 in
      key_same (at_key ◌==◌ z (F p || F z) F) (at_key same_name o.0 (H (t.name p) || H o.0) H) p (F p || F z)
      (H (t.name p) || H o.0) there
      (subst (λ x. SameFlags (at_key ◌==◌ z (F p || F z) F) (at_key same_name x (H (t.name p) || H o.0) H)) m.1
      (key_same F H z (F p || F z) (H (t.name p) || H o.0) m.0 same both)) both

  any_same : (F : ℕ → Bool) (H : Name → Bool) (p first fork n m : ℕ) → m ≤ n → first + n ≤ t.processes → SameFlags F H
      → ((i : ℕ) → i < n → t.name (first + i) ≡ (fork, i) ∷ t.name p)
      → any_flag F first m ≡ any_child H (t.name p) fork m
  any_same F H p first fork n zero le fits same child = refl
  any_same F H p first fork n (suc m) le fits same child =
      let one = same (first + m) (omega (arith, le, fits)) ∙ ap H (child m (omega (arith, le))) in
      let r = any_same F H p first fork n m (omega (arith, le)) fits same child in
      λ i. one i || r i

  parent_same : (F : ℕ → Bool) (H : Name → Bool) (p : ℕ) → p < t.processes → SameFlags F H → (b : Option Birth)
      → t.birth p ≡ b → parent_flag F b ≡ parent_is H (t.name p)
  parent_same F H p there same None e = sym (ap (parent_is H) (name_of_root t law p there (sym e)))
  parent_same F H p there same (Some b) e =
      let l = parent_older t law p there b (sym e) in
      same b.parent (omega (arith, l, there)) ∙ sym (ap (parent_is H) (name_by_birth t law p there b (sym e)))

  -- one entry
  module _ (s : Births) (e : Entry) (es : List Entry) (whole : births_from s (e ∷ es) ≡ t) (f : CanFollow s e)
      (lines : ℕ → Option ℕ) (j : Knowledge)
      (forks : (p : ℕ) → p < t.processes → j.forks (t.name p) ≡ s.forks p) (waits : (c : ℕ) → c < t.channels
      → Matches t (lines c) (j.pending (channel t c))) where
    stay : ExtendsBirths s t
    stay = subst (ExtendsBirths s) whole (stays s (e ∷ es))

    stay_after : ExtendsBirths (births_after_entry s e) t
    stay_after = subst (ExtendsBirths (births_after_entry s e)) whole (stays (births_after_entry s e) es)

    there : e.process < t.processes
    there = let a = f.0 in let b = stay.processes in omega (arith, a, b)

    inside : (c : ℕ) → c < s.channels → c < t.channels
    inside c l = let b = stay.channels in omega (arith, l, b)

    before_same : (F : ℕ → Bool) (H : Name → Bool) → SameFlags F H
        → SameFlags (flags_before s lines e.process e.event F)
        (needed_before j (t.name e.process) (happening t e.event) H)
    before_same F H same = by e.event f.1 stay_after
      where
        by : (v : Event) → GivesNumbers s e.process v → ExtendsBirths (births_after_event s e.process v) t
            → SameFlags (flags_before s lines e.process v F) (needed_before j (t.name e.process) (happening t v) H)
        by (event.Fork m) given after =
            let room = after.processes in
            let any : any_flag F s.processes m ≡ any_child H (t.name e.process) (j.forks (t.name e.process)) m =
            any_same F H e.process s.processes (s.forks e.process) m m (omega arith) room same
            (λ i l. children_named s t e.process m f.0 stay after i l)
            ∙ ap (λ k. any_child H (t.name e.process) k m) (sym (forks e.process there)) in
            key_same F H e.process (F e.process || any_flag F s.processes m)
            (H (t.name e.process) || any_child H (t.name e.process) (j.forks (t.name e.process)) m) there same
            (λ i. same e.process there i || any i)
        by event.Open given after = same
        by (event.Send c) given after =
            meet_same F H e.process (lines c) (j.pending (channel t c)) there same (waits c (inside c given))
        by (event.Receive c) given after =
            meet_same F H e.process (lines c) (j.pending (channel t c)) there same (waits c (inside c given))
        by event.End given after =
            let known : t.birth e.process ≡ s.birth e.process = ap (λ (z : Births). z.birth e.process) (sym whole)
            ∙ birth_stays s (e ∷ es) e.process f.0 in
            let par = parent_same F H e.process there same (s.birth e.process) known in
            key_same F H e.process (F e.process || parent_flag F (s.birth e.process))
            (H (t.name e.process) || parent_is H (t.name e.process)) there same
            (λ i. same e.process there i || par i)
        by (event.Fault x) given after = same
        by event.Laid given after = same
        by event.Pause given after = same

    forks_after : (n p : ℕ) → p < t.processes
        → (knowledge_after j n (t.name e.process) (happening t e.event)).forks (t.name p)
        ≡ (births_after_entry s e).forks p
    forks_after n p k = forks_by t law j n s e there forks p k

    waits_after : (n d : ℕ) → d < t.channels
        → Matches t (lines_after lines e.process e.event d)
        ((knowledge_after j n (t.name e.process) (happening t e.event)).pending (channel t d))
    waits_after n d k = by e.event f.1
      where
        at : (c : ℕ) → c < t.channels → (x : Option ℕ) (y : Option (Name × ℕ)) → Matches t x y
            → Matches t (line_by lines e.process c x d)
            ((knowledge_after_offer j (t.name e.process) n (channel t c) y).pending (channel t d))
        at c l None None m =
            subst (λ b. Matches t (at_key ◌==◌ c (Some e.process) lines d)
            (cond b (Some (t.name e.process, n)) (j.pending (channel t d)))) (same_chan t law c d l k)
            (elim (c == d) as (λ b. Matches t (cond b (Some e.process) (lines d))
            (cond b (Some (t.name e.process, n)) (j.pending (channel t d)))) [
              | true ↦ (there, refl)
              | false ↦ waits
                  d k
            ])
        at c l None (Some o) m = absurd m
        at c l (Some z) None m = absurd m
        at c l (Some z) (Some o) m =
            subst (λ b. Matches t (at_key ◌==◌ c None lines d) (cond b None (j.pending (channel t d))))
            (same_chan t law c d l k)
            (elim (c == d) as (λ b. Matches t (cond b None (lines d)) (cond b None (j.pending (channel t d)))) [
              | true ↦
                  tt
              | false ↦ waits d k
            ])

        by : (v : Event) → GivesNumbers s e.process v
            → Matches t (lines_after lines e.process v d)
            ((knowledge_after j n (t.name e.process) (happening t v)).pending (channel t d))
        by (event.Send c) given = at c (inside c given) (lines c) (j.pending (channel t c)) (waits c (inside c given))
        by (event.Receive c) given =
            at c (inside c given) (lines c) (j.pending (channel t c)) (waits c (inside c given))
        by _ _ = waits d k

  -- the whole pass
  module _ (os : List Occurrence) (earlier later last : ℕ) (inside : last < t.processes)
      (last_is : t.name last ≡ who_at os later) where
    record SamePasses (s : Births) (lines : ℕ → Option ℕ) (j : Knowledge) (n : ℕ) (es : List Entry) : Type 0 where
      same : SameFlags (flags earlier last s lines n es) (needed_processes os earlier later j n (map (occurrence t) es))
      picks_same : map (occurrence t) (picked_entries earlier last s lines n es)
          ≡ needed_entries os earlier later j n (map (occurrence t) es)
      marks_same : marks earlier last s lines n es ≡ needed_marks os earlier later j n (map (occurrence t) es)

    agree : (s : Births) (lines : ℕ → Option ℕ) (j : Knowledge) (n : ℕ) (es rest : List Entry)
        → births_from s (es ++ rest) ≡ t → NameableFrom s (es ++ rest)
        → ((p : ℕ) → p < t.processes → j.forks (t.name p) ≡ s.forks p)
        → ((c : ℕ) → c < t.channels → Matches t (lines c) (j.pending (channel t c))) → SamePasses s lines j n es
    agree s lines j n [] rest whole f forks waits = record {
      same = λ q l. same_process t law q last l inside ∙ ap (same_name (t.name q)) last_is;
      picks_same = refl;
      marks_same = refl;
    }
    agree s lines j n (e ∷ es) rest whole f forks waits =
        let j' = knowledge_after j n (t.name e.process) (happening t e.event) in
        let lines' = lines_after lines e.process e.event in
        let r = agree (births_after_entry s e) lines' j' (suc n) es rest whole f.1
        (forks_after s e (es ++ rest) whole f.0 lines j forks waits n)
        (waits_after s e (es ++ rest) whole f.0 lines j forks waits n) in
        let F = flags earlier last (births_after_entry s e) lines' (suc n) es in
        let H = needed_processes os earlier later j' (suc n) (map (occurrence t) es) in
        let b = before_same s e (es ++ rest) whole f.0 lines j forks waits F H r.same in
        let room = there s e (es ++ rest) whole f.0 lines j forks waits in
        let own = b e.process room in
        record {
          same = λ q l. let x = b q l in let y = same_process t law q e.process l room in
              λ i. x i || ((n == earlier) && y i);
          picks_same = by (flags_before s lines e.process e.event F e.process)
              (picked_entries earlier last (births_after_entry s e) lines' (suc n) es)
              ∙ (λ i. cond (own i) (occurrence t e ∷ r.picks_same i) (r.picks_same i));
          marks_same = λ i. own i ∷ r.marks_same i;
        }
      where
        by : (c : Bool) (xs : List Entry)
            → map (occurrence t) (cond c (e ∷ xs) xs)
            ≡ cond c (occurrence t e ∷ map (occurrence t) xs) (map (occurrence t) xs)
        by true xs = refl
        by false xs = refl

pub take_map : {A B : Type 0} (f : A → B) (n : ℕ) (xs : List A) → take n (map f xs) ≡ map f (take n xs)
take_map f zero xs = refl
take_map f (suc n) [] = refl
take_map f (suc n) (x ∷ xs) = ap (λ z. f x ∷ z) (take_map f n xs)

-- a nameable journal's picks are what the pass by names takes
pub picks_taken : (es : List Entry) → NameableFrom first_births es → (earlier later : ℕ) (two : Entry)
    → slice_get es later ≡ Some two
    → map (occurrence (births es)) (picked_first_part earlier two.process (take later es))
    ≡ needed_entries (occurrences_from first_births es) earlier later no_knowledge 0
    (take later (occurrences_from first_births es))
picks_taken es f earlier later two got =
    let t = births es in
    let os = occurrences_from first_births es in
    let named : os ≡ map (occurrence t) es = all_named es f in
    let who : who_at os later ≡ t.name two.process = ap (λ xs. who_of (slice_get xs later)) named
    ∙ ap who_of (get_of_map (occurrence t) es later two got) in
    let split : take later es ++ drop later es ≡ es = take-append-drop later es in
    let room : two.process < t.processes = process_there es later two got f in
    (agree t (lawful es f) os earlier later two.process room (sym who) first_births (λ c. None) no_knowledge 0
    (take later es) (drop later es) (ap births split) (subst (NameableFrom first_births) (sym split) f) (λ p l. refl)
    (λ c l. tt)).picks_same
    ∙ ap (needed_entries os earlier later no_knowledge 0)
    (sym (ap (take later) named ∙ take_map (occurrence t) later es))
  where
    in_from : (s : Births) (xs : List Entry) (i : ℕ) (e : Entry) → slice_get xs i ≡ Some e → NameableFrom s xs
        → e.process < (births_from s xs).processes
    in_from s [] i e h g = absurd (none_some h)
      where
        none_some : ◌≡◌ {A = Option Entry} None (Some e) → ⊥
        none_some z = cc
    in_from s (x ∷ xs) zero e h ((room, _), _) =
        let is : x ≡ e = same_entry h in
        let a = (stays s (x ∷ xs)).processes in
        subst (λ z. z.process < (births_from s (x ∷ xs)).processes) is (omega (arith, a, room))
      where
        same_entry : ◌≡◌ {A = Option Entry} (Some x) (Some e) → x ≡ e
        same_entry z = cc
    in_from s (x ∷ xs) (suc i) e h g = in_from (births_after_entry s x) xs i e h g.1

    process_there : (xs : List Entry) (i : ℕ) (e : Entry) → slice_get xs i ≡ Some e → NameableFrom first_births xs
        → e.process < (births xs).processes
    process_there xs i e h g = in_from first_births xs i e h g

-- and the marks are those of the pass by names
pub marks_taken : (es : List Entry) → NameableFrom first_births es → (earlier later : ℕ) (two : Entry)
    → slice_get es later ≡ Some two
    → marks earlier two.process first_births (λ c. None) 0 (take later es)
    ≡ needed_marks (occurrences_from first_births es) earlier later no_knowledge 0
    (take later (occurrences_from first_births es))
marks_taken es f earlier later two got =
    let t = births es in
    let os = occurrences_from first_births es in
    let named : os ≡ map (occurrence t) es = all_named es f in
    let who : who_at os later ≡ t.name two.process = ap (λ xs. who_of (slice_get xs later)) named
    ∙ ap who_of (get_of_map (occurrence t) es later two got) in
    let split : take later es ++ drop later es ≡ es = take-append-drop later es in
    let room : two.process < t.processes = process_there es later two got f in
    (agree t (lawful es f) os earlier later two.process room (sym who) first_births (λ c. None) no_knowledge 0
    (take later es) (drop later es) (ap births split) (subst (NameableFrom first_births) (sym split) f) (λ p l. refl)
    (λ c l. tt)).marks_same
    ∙ ap (needed_marks os earlier later no_knowledge 0)
    (sym (ap (take later) named ∙ take_map (occurrence t) later es))
  where
    in_from : (s : Births) (xs : List Entry) (i : ℕ) (e : Entry) → slice_get xs i ≡ Some e → NameableFrom s xs
        → e.process < (births_from s xs).processes
    in_from s [] i e h g = absurd (none_some h)
      where
        none_some : ◌≡◌ {A = Option Entry} None (Some e) → ⊥
        none_some z = cc
    in_from s (x ∷ xs) zero e h ((room, _), _) =
        let is : x ≡ e = same_entry h in
        let a = (stays s (x ∷ xs)).processes in
        subst (λ z. z.process < (births_from s (x ∷ xs)).processes) is (omega (arith, a, room))
      where
        same_entry : ◌≡◌ {A = Option Entry} (Some x) (Some e) → x ≡ e
        same_entry z = cc
    in_from s (x ∷ xs) (suc i) e h g = in_from (births_after_entry s x) xs i e h g.1

    process_there : (xs : List Entry) (i : ℕ) (e : Entry) → slice_get xs i ≡ Some e → NameableFrom first_births xs
        → e.process < (births xs).processes
    process_there xs i e h g = in_from first_births xs i e h g
