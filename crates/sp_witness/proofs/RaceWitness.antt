-- The witness of a race shows it: the run up to the later offer, parted into the witness and the rest.
use Rattle.std.proofs.Common.{◌≡◌, ◌≢◌, ⊎_elim, inl, inr, ℕ, suc, ◌+◌, ◌<◌, lt_irrefl, nat_lt, Bool, true, false, cond}
use Rattle.std.proofs.Common.{◌&&◌, ◌||◌, List, [], ◌∷◌, ◌++◌, length, append_assoc, append-nil, take}
use Rattle.std.proofs.Common.{take_at, Option, Some, None, slice_get, refl, sym, ap, ◌∙◌, subst, arith}
use Rattle.std.proofs.lemmas.Bool.{false_from_ne_true, or_cases, or_from, or_parts}
use Rattle.std.proofs.lemmas.Option.{none-some}
use Rattle.sp_base.specs.declared.fault.Fault.TheVariants as fault
use Rattle.sp_base.proofs.Facts.{cons_is_not_nil, first_true, same_head, same_tail, true_is_not_false}
use Rattle.sp_journal.specs.declared.entry.Way.{Way}
use Rattle.sp_journal.specs.Past.{Knowledge, knowledge_after, knowledge_of, no_knowledge}
use Rattle.sp_meaning.specs.Model.{Name, Channel, same_name, Language, Waits, Faults, with_change}
use Rattle.sp_meaning.specs.Steps.{Advances, entry_cost, cost, limit_fault}
use Rattle.sp_meaning.specs.LocalWork.{RunInput, Process}
use Rattle.sp_meaning.specs.SuperPascal.{superpascal, root, first_store}
use Rattle.sp_meaning.specs.Entries.{Offered, Faulted, Paused, Occurrence}
use Rattle.sp_meaning.specs.Runs.{StateOf, start, total_limits, running_process, next_state, happening_of, happening_at}
use Rattle.sp_meaning.specs.Runs.{IsDisjointRun}
use Rattle.sp_meaning.specs.Along.{ticks_of, Turn, before_entries, Along, IsAlong, IsClean}
use Rattle.sp_meaning.proofs.Maps.{differs}
use Rattle.sp_meaning.proofs.Keys.{name_test}
use Rattle.sp_meaning.proofs.JournalSchedules.{no_fault_step}
use Rattle.sp_race.specs.Prefixes.{WaitersSilentFrom, WaitersAreSilent, WaitsForNone}
use Rattle.sp_race.proofs.PrefixLaws.{nothing_kept}
use Rattle.sp_race.specs.Notes.{Event, no_notes, next_event_of}
use Rattle.sp_race.specs.RunNotes.{WithNotes}
use Rattle.sp_race.specs.OfferOrder.{AreKnown}
use Rattle.sp_race.proofs.GoodSteps.{sound_opening, knows_nothing}
use Rattle.sp_race.proofs.OrderedSchedules.{KnownAfterEntries, stepped, said, linked_start}
use Rattle.sp_race.specs.Races.{KnowsCompletion}
use Rattle.sp_race.proofs.Fronts.{silent_front}
use Rattle.sp_witness.specs.Witness.{who_of, who_at, entry_list, past_before, is_pause, is_known, offers_after}
use Rattle.sp_witness.specs.Witness.{is_member, is_among, members, first_part, witness}
use Rattle.sp_witness.specs.Contention.{IsContention, Shows}
use Rattle.sp_witness.proofs.IndependentSteps.{Head, Free, MarkedFree, Cuts, Tag, Block, heads, kept, left}
use Rattle.sp_witness.proofs.IndependentSteps.{IsNextOfProcess, Runs, BlockRuns, EachFree, parted, in_front, ready_of}
use Rattle.sp_witness.proofs.IndependentSteps.{ready_back, ready_before}
use Rattle.sp_witness.proofs.Pasts.{heads_from, Stage, past_here, MarksAre, cuts_from, get_at}
use Rattle.sp_witness.proofs.Ticks.{said_same}
use Rattle.sp_witness.proofs.Blocks.{AllSilent, Valid, since_all, AllValid}
use Rattle.sp_witness.proofs.JournalSteps.{beside, tag_of, knows_so, Turned, turned, JournalFront, journal_front}
use Rattle.sp_witness.proofs.Back.{entry_of, entries, turn_silent, rebuilt}
use Rattle.sp_witness.proofs.Parts.{UnmarkedFree, mark_in, marks_are, marks_after, members_are, free_before, each_left}
use Rattle.sp_witness.proofs.Parts.{left_append, kept_append, kept_valid, since_kept, since_stays, since_append}
use Rattle.sp_witness.proofs.Parts.{valid_second, cuts_second, Split, split, heads_append, free_parts}
use Rattle.sp_witness.proofs.Contention.{Offers, offers_of, waits_here, blocks_fit, contends}
use Rattle.sp_witness.proofs.PastFacts.{KnowledgeFacts, nothing_stands, stands_from}
use Rattle.sp_witness.proofs.WitnessRuns.{clean_front, runs_split, runs_join, entries_join, valid_join}
use Rattle.sp_witness.proofs.WitnessRuns.{LastStep, last_step, silent_pending, silent_condition, Pends, silent_pends}
use Rattle.sp_witness.proofs.WitnessRuns.{HeadsFit, blocks_pend}

-- a race, with the journal cut at its two offers
module _ (g : RunInput) (disjoint : IsDisjointRun g) (turn : ℕ) (es : List Occurrence) (n : ℕ) (t : StateOf g)
    (along : IsAlong g turn es n t) (clean : IsClean es) (silent : WaitersAreSilent es)
    (w : Way) (c : Channel) (earlier later : ℕ) (before mid after : List Occurrence) (first second : Name)
    (whole : es ≡ (before ++ record { who = first; what = Offered w c } ∷ mid)
    ++ record { who = second; what = Offered w c } ∷ after)
    (size_first : length before ≡ earlier)
    (size_second : length (before ++ record { who = first; what = Offered w c } ∷ mid) ≡ later)
    (known_before : AreKnown (before ++ record { who = first; what = Offered w c } ∷ mid))
    (unknown : KnowsCompletion (knowledge_of (before ++ record { who = first; what = Offered w c } ∷ mid)) second
    earlier
    → ⊥) where
  abbrev L : Language
  L = superpascal g

  abbrev one : Occurrence
  one = record { who = first; what = Offered w c }

  abbrev two : Occurrence
  two = record { who = second; what = Offered w c }

  abbrev front : List Occurrence
  front = before ++ one ∷ mid

  abbrev known : ℕ → Bool
  known = is_known es earlier later

  zero_first : 0 + length before ≡ earlier
  zero_first = omega (arith, size_first)

  zero_second : 0 + length front ≡ later
  zero_second = omega (arith, size_second)

  stage_first : Stage es before (one ∷ (mid ++ two ∷ after)) (knowledge_of before) earlier
  stage_first = record {
    whole = whole ∙ append_assoc before (one ∷ mid) (two ∷ after);
    knowledge_is = refl;
    size = size_first;
  }

  stage_second : Stage es front (two ∷ after) (knowledge_of front) later
  stage_second = record { whole = whole; knowledge_is = refl; size = size_second }

  silent_second : WaitersSilentFrom no_knowledge 0 front × WaitersSilentFrom (knowledge_of front) (0 + length front)
      (two ∷ after)
  silent_second = silent_front no_knowledge 0 front (two ∷ after) (subst
      (WaitersSilentFrom no_knowledge 0) whole silent)

  silent_first : WaitersSilentFrom no_knowledge 0 before × WaitersSilentFrom (knowledge_of before) (0 + length before)
      (one ∷ mid)
  silent_first = silent_front no_knowledge 0 before (one ∷ mid) silent_second.0

  -- neither process has an offer that waits
  waits_first : WaitsForNone (knowledge_of before) first
  waits_first = let (waits, _) = silent_first.1 in waits

  waits_second : WaitsForNone (knowledge_of front) second
  waits_second = let (waits, _) = silent_second.1 in waits

  stands_first : KnowledgeFacts (knowledge_of before) before earlier
  stands_first = subst (λ z. KnowledgeFacts (knowledge_of before) before z) zero_first
      (stands_from no_knowledge [] 0 before refl nothing_stands silent_first.0)

  stands_second : KnowledgeFacts (knowledge_of front) front later
  stands_second = subst (λ z. KnowledgeFacts (knowledge_of front) front z) zero_second
      (stands_from no_knowledge [] 0 front refl nothing_stands silent_second.0)

  got_first : slice_get es earlier ≡ Some one
  got_first = ap (λ xs. slice_get xs earlier) stage_first.whole
      ∙ get_at before one (mid ++ two ∷ after) earlier size_first

  got_second : slice_get es later ≡ Some two
  got_second = ap (λ xs. slice_get xs later) whole ∙ get_at front two after later size_second

  who_first : who_at es earlier ≡ first
  who_first = ap who_of got_first

  who_second : who_at es later ≡ second
  who_second = ap who_of got_second

  past_first : (k : ℕ) → past_before es earlier k ≡ (knowledge_of before).past first k
  past_first = past_here es before one (mid ++ two ∷ after) (knowledge_of before) earlier stage_first

  past_second : (k : ℕ) → past_before es later k ≡ (knowledge_of front).past second k
  past_second = past_here es front two after (knowledge_of front) later stage_second

  -- neither offer's process knew the earlier offer
  first_unknown : known earlier ≡ false
  first_unknown = or_from (past_before es earlier earlier) (past_before es later earlier)
      (past_first earlier ∙ false_from_ne_true ((knowledge_of before).past first earlier)
      (λ e. lt_irrefl earlier (stands_first.paired.below first earlier e)))
      (past_second earlier
      ∙ false_from_ne_true ((knowledge_of front).past second earlier)
      (λ e. unknown (stands_second.rounded.complete second earlier first w c
      (get_at before one mid earlier size_first) e)))

  abbrev mark : ℕ → Bool
  mark = mark_in es earlier later 0 front

  marks : MarksAre es earlier later mark 0 front
  marks = marks_are es earlier later front

  first_unmarked : mark earlier ≡ false
  first_unmarked =
      subst (λ z. mark z ≡ is_member es earlier later z one (is_among es earlier later first (suc z) mid)) zero_first
      (marks_after es earlier later mark 0 before (one ∷ mid) marks).0
      ∙ or_from (known earlier) false first_unknown refl

  abbrev head_first : Head
  head_first = record { who = first; what = Offered w c; position = earlier; knows = (knowledge_of before).past first }

  abbrev head_second : Head
  head_second = record { who = second; what = Offered w c; position = later; knows = (knowledge_of front).past second }

  clean_all : IsClean front
  clean_all = clean_front front (two ∷ after) (subst IsClean whole clean)

  free_first : UnmarkedFree mark (heads_from no_knowledge 0 before) head_first
  free_first = free_before es earlier later earlier
      (λ k e. (or_parts (past_before es earlier k) (past_before es later k) e).0)
      (λ q k e. (or_parts (same_name q (who_at es earlier) && nat_lt k earlier)
      (same_name q (who_at es later) && nat_lt k later) e).0)
      before one (mid ++ two ∷ after) (knowledge_of before) stage_first stands_first.kept waits_first who_first
      mark []
      before (one ∷ mid) no_knowledge 0 refl refl (clean_front before (one ∷ mid) clean_all) marks
      (omega (arith, zero_first))

  free_second : UnmarkedFree mark (heads_from no_knowledge 0 front) head_second
  free_second = free_before es earlier later later
      (λ k e. (or_parts (past_before es earlier k) (past_before es later k) e).1)
      (λ q k e. (or_parts (same_name q (who_at es earlier) && nat_lt k earlier)
      (same_name q (who_at es later) && nat_lt k later) e).1)
      front two after (knowledge_of front) stage_second stands_second.kept waits_second who_second mark [] front []
      no_knowledge 0 refl refl clean_all (subst (MarksAre es earlier later mark 0) (sym (append-nil front)) marks)
      (omega (arith, zero_second))

  -- the run up to the later offer
  walk : JournalFront g turn (two ∷ after) t front before_entries (start g) no_notes no_knowledge [] 0 (λ i. None)
  walk = journal_front g turn (two ∷ after) t front before_entries (start g) n no_notes no_knowledge [] 0 (λ i. None)
      (subst (λ z. Along g turn before_entries (start g) z n t) whole along) clean_all
      (record {
        linked = linked_start g;
        sound = sound_opening L (root g) (first_store g);
        known = knows_nothing;
        no_fault = refl;
      }) ([], refl) known_before

  abbrev label : ℕ → Option Event
  label = walk.label_after

  at_second : KnownAfterEntries g walk.state walk.notes (knowledge_of front) front later label
  at_second = subst (λ z. KnownAfterEntries g walk.state walk.notes (knowledge_of front) front z label) zero_second
      walk.known

  abbrev start_notes : WithNotes L
  start_notes = beside g (start g) no_notes

  abbrev second_notes : WithNotes L
  second_notes = beside g walk.state walk.notes

  abbrev blocks : List (Block g)
  blocks = walk.blocks_of

  free_second_blocks : UnmarkedFree mark (heads g blocks) head_second
  free_second_blocks = subst (λ z. UnmarkedFree mark z head_second) (sym walk.heads_are) free_second

  cuts : Cuts mark (heads g blocks)
  cuts = subst (Cuts mark) (sym walk.heads_are)
      (cuts_from es earlier later mark [] front (two ∷ after) no_knowledge 0
      (record { whole = whole; knowledge_is = refl; size = refl }) nothing_kept silent_second.0 clean_all marks)

  -- the entries with their steps, cut at the earlier offer
  cut : Split g (heads_from no_knowledge 0 before) head_first
      (heads_from (knowledge_after (knowledge_of before) earlier first (Offered w c)) (suc earlier) mid) blocks
  cut = split g (heads_from no_knowledge 0 before) head_first
      (heads_from (knowledge_after (knowledge_of before) earlier first (Offered w c)) (suc earlier) mid) blocks
      (walk.heads_are ∙ heads_append no_knowledge 0 before (one ∷ mid)
      ∙ ap (λ z. heads_from no_knowledge 0 before ++ heads_from (knowledge_of before) z (one ∷ mid)) zero_first)

  abbrev block : Block g
  block = cut.block

  block_unmarked : mark block.head.position ≡ false
  block_unmarked = ap (λ (z : Head). mark z.position) cut.block_is ∙ first_unmarked

  cuts_cut : Cuts mark (heads g (cut.front ++ block ∷ cut.back))
  cuts_cut = subst (λ z. Cuts mark (heads g z)) cut.whole cuts

  back_free : MarkedFree mark block.head (heads g cut.back)
  back_free = cuts_second g mark cut.front block cut.back cuts_cut block_unmarked

  front_free : UnmarkedFree mark (heads g cut.front) head_first
  front_free = subst (λ z. UnmarkedFree mark z head_first) (sym cut.front_is) free_first

  kept_is : kept g mark blocks ≡ kept g mark cut.front ++ kept g mark cut.back
  kept_is = ap (kept g mark) cut.whole ∙ kept_append g mark cut.front (block ∷ cut.back)
      ∙ ap (λ is. kept g mark cut.front ++ cond is (block ∷ kept g mark cut.back) (kept g mark cut.back)) block_unmarked

  left_is : left g mark blocks ≡ left g mark cut.front ++ block ∷ left g mark cut.back
  left_is = ap (left g mark) cut.whole ∙ left_append g mark cut.front (block ∷ cut.back)
      ∙ ap (λ is. left g mark cut.front ++ cond is (left g mark cut.back) (block ∷ left g mark cut.back)) block_unmarked

  -- the later offer's process: its local steps, and its offer
  record OfferEntry : Type 0 where
    steps : ℕ
    between : StateOf g
    paused : Bool
    locals : Turn g turn (walk.course.since second) second steps walk.state between paused
    undue : paused ≡ false
    next : StateOf g
    own : Process
    runs : running_process g between second ≡ Some own
    says : happening_at g between second own ≡ Some (Offered w c)
    goes : next_state g between second ≡ Some next

  offer_entry : OfferEntry
  offer_entry =
      let its = walk.goes_on in
      let (_, kernel) = its.enters in
      record {
        steps = its.steps;
        between = its.middle;
        paused = its.paused;
        locals = its.turns;
        undue = kernel.unpaused;
        next = kernel.next;
        own = kernel.makes.process;
        runs = kernel.makes.runs;
        says = kernel.makes.happens;
        goes = kernel.makes.steps;
      }

  open offer_entry use {steps, between, paused, locals, undue, next, own, runs, says, goes}

  local_steps : Turned g turn (walk.course.since second) second walk.state between walk.notes (knowledge_of front)
      front later label head_second paused
  local_steps = turned g turn (walk.course.since second) second steps walk.state between walk.notes
      (knowledge_of front) front later label head_second paused refl refl refl locals at_second walk.way

  abbrev tags : List (Tag g)
  tags = local_steps.tags

  abbrev end_notes : WithNotes L
  end_notes = beside g between local_steps.notes

  tags_silent : AllSilent g turn (walk.course.since second) tags
  tags_silent = ⊎_elim
      (λ (z : (paused ≡ false) × AllSilent g turn (walk.course.since second) tags). z.1)
      (λ (z : (paused ≡ true) × Valid g turn (walk.course.since second) Paused tags (ticks_of g between second)).
      true_is_not_false (sym z.0 ∙ undue))
      local_steps.kind

  its_offer : Offers L (L.next own between.store) w c
      × (limit_fault (total_limits g) between.totals (Some entry_cost) ≡ None)
  its_offer =
      let x = stepped g between second own next runs goes
      (no_fault_step g between second own next (Some (Offered w c)) runs says tt goes local_steps.known.no_fault) in
      let is : happening_of {L = L} (L.next own between.store) (Advances []) ≡ Some (Offered w c) =
      said_same {L = L} (L.next own between.store) [] x.cs
      ∙ ap (λ z. happening_of {L = L} (L.next z between.store) (Advances x.cs)) (sym x.process_is)
      ∙ sym (said g between second own next x) ∙ says in
      let o = offers_of L (L.next own between.store) w c is in (
        o,
        subst (λ a. limit_fault (total_limits g) between.totals (cost a) ≡ None) o.offer_is
            (subst (λ z. limit_fault (total_limits g) between.totals (cost (L.next z between.store)) ≡ None)
            x.process_is x.makes.within),
      )

  ready_end : IsNextOfProcess g label end_notes head_second (tag_of g between own)
  ready_end = record {
    works = runs;
    act_is = refl;
    pauses_are = refl;
    past = λ k e lt is. knows_so g between local_steps.notes (knowledge_of front) front later label label second
        local_steps.known (λ i l. refl) k e lt is;
  }

  -- first the first part, then the earlier offer, and then the later one's local steps
  parts : (m : WithNotes L) × BlockRuns g label start_notes (kept g mark blocks) m
      × BlockRuns g label m (left g mark blocks) second_notes
  parts = parted g label disjoint mark start_notes second_notes blocks cuts walk.runs

  abbrev after_part : WithNotes L
  after_part = parts.0

  others : (m : WithNotes L) × BlockRuns g label after_part (left g mark cut.front) m
      × BlockRuns g label m (block ∷ left g mark cut.back) second_notes
  others = runs_split g label after_part second_notes (left g mark cut.front) (block ∷ left g mark cut.back)
      (subst (λ z. BlockRuns g label after_part z second_notes) left_is parts.2)

  abbrev block_runs : BlockRuns g label others.0 (block ∷ left g mark cut.back) second_notes
  block_runs = others.2

  block_first : (m : WithNotes L) × Runs g label after_part block.head block.tags m
      × BlockRuns g label m (left g mark cut.front) block_runs.0
  block_first = in_front g label disjoint after_part others.0 block_runs.0 (left g mark cut.front) block.head block.tags
      (subst (EachFree g label (left g mark cut.front)) (sym cut.block_is)
      (each_left g mark label cut.front head_first front_free)) others.1 block_runs.1

  abbrev after_first : WithNotes L
  after_first = block_first.0

  abbrev remaining : List (Block g)
  remaining = left g mark cut.front ++ left g mark cut.back

  free_all : EachFree g label (left g mark blocks) head_second
  free_all = each_left g mark label blocks head_second free_second_blocks

  free_cut : EachFree g label remaining head_second × Free block.head head_second
  free_cut = free_parts g mark label head_second (left g mark cut.front) block (left g mark cut.back)
      (subst (λ z. EachFree g label z head_second) left_is free_all)

  apart_second : block.head.who ≢ second
  apart_second = let (apart, _, _) = free_cut.1 in apart

  second_first : (m : WithNotes L) × Runs g label after_first head_second tags m
      × BlockRuns g label m remaining end_notes
  second_first = in_front g label disjoint after_first second_notes end_notes remaining head_second tags free_cut.0
      (runs_join g label after_first block_runs.0 second_notes (left g mark cut.front) (left g mark cut.back)
      block_first.2 block_runs.2) (local_steps.runs label (λ k lt. refl))

  abbrev at_end : WithNotes L
  at_end = second_first.0

  ready_at_end : IsNextOfProcess g label at_end head_second (tag_of g between own)
  ready_at_end = ready_before g label disjoint at_end end_notes remaining head_second (tag_of g between own) free_cut.0
      second_first.2 ready_end

  -- what the later offer's process does next after the earlier offer
  ready_after_first : (x : Tag g) × IsNextOfProcess g label after_first head_second x
  ready_after_first = by tags second_first.1
    where
      by : (xs : List (Tag g)) → Runs g label after_first head_second xs at_end
          → (x : Tag g) × IsNextOfProcess g label after_first head_second x
      by [] r = (
        tag_of g between own,
        subst (λ z. IsNextOfProcess g label z head_second (tag_of g between own)) r
            ready_at_end,
      )
      by (x ∷ xs) r = (x, ready_of g label disjoint after_first head_second x r.1.fits)

  abbrev no_since : Name → ℕ
  no_since = λ q. 0

  valid_cut : AllValid g turn (since_all g turn no_since cut.front) (block ∷ cut.back)
  valid_cut = valid_second g mark turn no_since cut.front (block ∷ cut.back)
      (subst (AllValid g turn no_since) cut.whole walk.valid)

  valid_block : Valid g turn (since_all g turn no_since cut.front block.head.who) (Offered w c) block.tags block.ticks
  valid_block = subst (λ z. Valid g turn (since_all g turn no_since cut.front block.head.who) z block.tags block.ticks)
      (ap (λ (z : Head). z.what) cut.block_is) valid_cut.0

  valid_kept : AllValid g turn no_since (kept g mark blocks)
  valid_kept = kept_valid g mark turn no_since no_since blocks walk.valid cuts (λ q h. refl)

  last : LastStep g label turn w c (since_all g turn no_since cut.front block.head.who) after_part after_first
      block.head
  last = last_step g label turn w c (since_all g turn no_since cut.front block.head.who) after_part after_first
      block.head block.tags block.ticks valid_block block_first.1

  -- each entry of the first part is a pause, or is known
  all_fit : (j : Knowledge) (n : ℕ) (xs : List Occurrence) (bs : List (Block g)) → heads g bs ≡ heads_from j n xs
      → MarksAre es earlier later mark n xs → HeadsFit g label turn known (kept g mark bs)
  all_fit j n xs [] e m = tt
  all_fit j n [] (b ∷ bs) e m = absurd (cons_is_not_nil e)
  all_fit j n (x ∷ xs) (b ∷ bs) e m =
      let h : b.head ≡ record { who = x.who; what = x.what; position = n; knows = j.past x.who } = same_head e in
      let r = all_fit (knowledge_after j n x.who x.what) (suc n) xs bs (same_tail e) m.1 in
      elim (mark b.head.position) as (λ z. mark b.head.position ≡ z
      → HeadsFit g label turn known (cond z (b ∷ kept g mark bs) (kept g mark bs))) [
        | true ↦ λ is.
            let k : is_member es earlier later n x (is_among es earlier later x.who (suc n) xs) ≡ true = sym m.0
            ∙ ap (λ (z : Head). mark z.position) (sym h) ∙ is in (
              ⊎_elim
                  (λ (y : known n ≡ true). inr (ap (λ (z : Head). known z.position) h ∙ y))
                  (λ (y : is_pause x.what && (offers_after es earlier later x.who n
                  || is_among es earlier later x.who (suc n) xs) ≡ true). inl
                  (ap (λ (z : Head). is_pause z.what) h
                  ∙ first_true (is_pause x.what)
                  (offers_after es earlier later x.who n || is_among es earlier later x.who (suc n) xs) y))
                  (or_cases (known n) (is_pause x.what
                  && (offers_after es earlier later x.who n || is_among es earlier later x.who (suc n) xs)) k),
              r,
            )
        | false ↦ λ is. r
      ] refl

  pends_last : Pends g label turn known last.before
  pends_last = silent_pends g label turn known (since_all g turn no_since cut.front block.head.who) after_part
      last.before block.head last.locals last.silent last.runs
      (blocks_pend g label turn known no_since start_notes after_part (kept g mark blocks)
      (all_fit no_knowledge 0 front blocks walk.heads_are marks) valid_kept parts.1 (λ d z e. absurd (none-some _ e)))

  ready_last : IsNextOfProcess g label last.before head_second ready_after_first.0
  ready_last = ready_back g label disjoint last.before after_first block.head head_second last.tag ready_after_first.0
      free_cut.1 last.does ready_after_first.1

  -- whose offer is pending is known, and so its offer was completed
  not_pending : (z : Name) → last.before.state.pending c ≡ Some z → ⊥
  not_pending z e =
      let k = pends_last c z e in
      let m : Event = next_event_of last.before.notes z in
      ⊎_elim
      (λ (x : past_before es earlier k.0 ≡ true).
      let p : (knowledge_of before).past first k.0 ≡ true = sym (past_first k.0) ∙ x in
      let lt : k.0 < block.head.position =
      subst (λ (h : Head). k.0 < h.position) (sym cut.block_is) (stands_first.paired.below first k.0 p) in
      let q : last.before.notes.past block.head.who m ≡ true = last.does.fits.past k.0 m lt k.1
      ∙ ap (λ (h : Head). h.knows k.0) cut.block_is ∙ p in
      lt_irrefl m.nth (last.does.good.known block.head.who m q))
      (λ (x : past_before es later k.0 ≡ true).
      let p : (knowledge_of front).past second k.0 ≡ true = sym (past_second k.0) ∙ x in
      let q : last.before.notes.past second m ≡ true =
      ready_last.past k.0 m (stands_second.paired.below second k.0 p) k.1 ∙ p in
      lt_irrefl m.nth (last.does.good.known second m q))
      (or_cases (past_before es earlier k.0) (past_before es later k.0) k.2)

  none_pending : last.before.state.pending c ≡ None
  none_pending = by (last.before.state.pending c) refl
    where
      by : (o : Option Name) → last.before.state.pending c ≡ o → last.before.state.pending c ≡ None
      by None e = e
      by (Some z) e = absurd (not_pending z e)

  who_block : block.head.who ≡ first
  who_block = ap (λ (z : Head). z.who) cut.block_is

  waits : (after_first.state.pending c ≡ Some block.head.who)
      × (after_first.state.condition block.head.who ≡ Waits last.offers.offer)
  waits = waits_here g label last.before block.head last.tag after_first last.does w c last.offers none_pending

  first_second : first ≢ second
  first_second e = apart_second (who_block ∙ e)

  pends_end : at_end.state.pending c ≡ Some first
  pends_end = silent_pending g label turn (walk.course.since second) after_first at_end head_second tags c tags_silent
      second_first.1 ∙ waits.0 ∙ ap (λ z. Some z) who_block

  waits_end : at_end.state.condition first ≡ Waits last.offers.offer
  waits_end = silent_condition g label turn (walk.course.since second) after_first at_end head_second tags first
      first_second tags_silent second_first.1
      ∙ subst (λ (z : Name). after_first.state.condition z ≡ Waits last.offers.offer) who_block waits.1

  offers_end : Offers L (L.next own at_end.state.store) w c
  offers_end = subst (λ a. Offers L a w c) (sym ready_at_end.act_is) its_offer.0

  faulty : (happening_at g at_end.state second own ≡ Some (Faulted fault.F6))
      × (next_state g at_end.state second ≡ Some (with_change (Faults second fault.F6) at_end.state))
  faulty = contends g label at_end.state first second own w c ready_at_end.works offers_end last.offers.offer pends_end
      waits_end last.offers.way_is
      (blocks_fit g label (Some entry_cost) at_end end_notes remaining second_first.2 its_offer.1)

  abbrev end_state : StateOf g
  end_state = with_change (Faults second fault.F6) at_end.state

  since_block : since_all g turn no_since (kept g mark blocks) block.head.who
      ≡ since_all g turn no_since cut.front block.head.who
  since_block =
      ap (λ z. since_all g turn no_since z block.head.who) kept_is
      ∙ ap (λ f. f block.head.who) (since_append g mark turn no_since (kept g mark cut.front) (kept g mark cut.back))
      ∙ since_stays g mark turn (since_all g turn no_since (kept g mark cut.front)) cut.back block.head back_free
      ∙ since_kept g mark turn no_since no_since cut.front block.head
      (subst (UnmarkedFree mark (heads g cut.front)) (sym cut.block_is) front_free) refl

  since_second : since_all g turn no_since (kept g mark blocks ++ block ∷ []) second ≡ walk.course.since second
  since_second =
      ap (λ f. f second) (since_append g mark turn no_since (kept g mark blocks) (block ∷ []))
      ∙ ap (λ b. cond b block.ticks (since_all g turn no_since (kept g mark blocks) second))
      (differs name_test block.head.who second apart_second)
      ∙ since_kept g mark turn no_since no_since blocks head_second free_second_blocks refl
      ∙ ap (λ f. f second) (sym walk.since)

  valid_all : AllValid g turn no_since (kept g mark blocks ++ block ∷ [])
  valid_all = valid_join g label turn no_since (kept g mark blocks) (block ∷ []) valid_kept
      (subst (λ z. Valid g turn z block.head.what block.tags block.ticks) (sym since_block) valid_cut.0, tt)

  abbrev tail : List Occurrence
  tail = record { who = second; what = Faulted fault.F6 } ∷ []

  runs_all : (k : ℕ) × Along g turn before_entries (start g) (entries g (kept g mark blocks ++ block ∷ []) ++ tail) k
      end_state
  runs_all = rebuilt g turn label tail end_state
      (kept g mark blocks ++ block ∷ []) start_notes after_first before_entries
      (runs_join g label start_notes after_part after_first (kept g mark blocks) (block ∷ []) parts.1 (
        after_first,
        block_first.1,
        refl,
      )) valid_all (refl, λ q. refl)
      (λ c1 e f.
      let q = turn_silent g turn label (c1.since second) after_first at_end head_second tags
      (subst (λ z. AllSilent g turn z tags) (sym (ap (λ h. h second) e ∙ since_second)) tags_silent) second_first.1
      own ready_at_end.works (Faulted fault.F6) faulty.0 in (
        q.0 + 1,
        record {
          not_laid = f.1 second;
          steps = q.0;
          rest = 1;
          middle = at_end.state;
          paused = false;
          size = refl;
          turns = q.1;
          enters = (
            f.0,
            record {
              unpaused = refl;
              next = end_state;
              rest = 0;
              size = refl;
              makes = record { process = own; runs = ready_at_end.works; happens = faulty.0; steps = faulty.1 };
              ahead = (refl, refl);
            },
          );
        },
      ))

  entries_are : entries g (kept g mark blocks ++ block ∷ []) ++ tail ≡ witness es earlier later
  entries_are =
      let part : entries g (kept g mark blocks) ≡ first_part es earlier later =
      members_are es earlier later g mark no_knowledge 0 front blocks walk.heads_are marks
      ∙ ap (members es earlier later 0)
      (sym (ap (take later) whole ∙ take_at front (two ∷ after) later size_second)) in
      ap (λ z. z ++ tail) (entries_join g label (kept g mark blocks) (block ∷ []))
      ∙ ap (λ z. (entries g (kept g mark blocks) ++ entry_of z ∷ []) ++ tail) cut.block_is
      ∙ (λ i. (part i ++ entry_list (sym got_first i)) ++ record {
        who = sym who_second i;
        what =
            Faulted fault.F6;
      } ∷ [])

  pub shown : Shows g turn es w c earlier later
  shown = record {
    size = runs_all.0;
    state = end_state;
    along = subst (λ z. Along g turn before_entries (start g) z runs_all.0 end_state) entries_are runs_all.1;
    contention = subst (λ z. IsContention g end_state w c z (who_at es later)) (sym who_first)
        (subst (λ z. IsContention g end_state w c first z) (sym who_second) (record {
          fault = refl;
          own = own;
          runs = ready_at_end.works;
          offer = offers_end.offer;
          offers = offers_end.offer_is;
          way_is = offers_end.way_is;
          channel_is = offers_end.channel_is;
          pends = pends_end;
          waiting = last.offers.offer;
          waits = waits_end;
          same_way = last.offers.way_is;
        }));
  }
