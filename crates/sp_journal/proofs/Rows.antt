-- Worked journals: names, what their processes know, whether they are ordered, and their turns.
use Rattle.std.proofs.Common.{◌≡◌, ℕ, [], ◌∷◌, true, false, Option, Some, None, refl, sym, ◌∙◌, ap}
use Rattle.std.proofs.Common.{take}
use Rattle.std.proofs.lemmas.Bool.{false≢true}
use Rattle.sp_journal.specs.declared.entry.Event.{Event}
use Rattle.sp_journal.specs.declared.entry.Event.TheVariants as event
use Rattle.sp_journal.specs.declared.entry.Entry.{Entry}
use Rattle.sp_journal.specs.declared.entry.Journal.{Journal}
use Rattle.sp_journal.specs.Births.{births, channel, occurrences}
use Rattle.sp_journal.specs.Past.{Knowledge, knowledge_of, IsOrdered}
use Rattle.sp_journal.specs.Queue.{IsFirstInFirstOut}

abbrev by : ℕ → Event → Entry
by p e = record { process = p; event = e }

-- two senders race for a receiver that takes twice
abbrev two_senders : Journal
two_senders = record {
  entries = by 0 event.Open ∷ by 0 (event.Fork 3) ∷ by 1 (event.Receive 0) ∷ by 2 (event.Send 0) ∷ by 3 (event.Send 0)
      ∷ by 1 (event.Receive 0) ∷ by 2 event.End ∷ by 3 event.End ∷ by 1 event.End ∷ by 0 event.End ∷ [];
}

-- what is known after the first n entries
abbrev after_first : ℕ → Knowledge
after_first n = knowledge_of (take n (occurrences two_senders))

names : (births two_senders.entries).name 3 ≡ (0, 2) ∷ []
names = refl

channels : channel (births two_senders.entries) 0 ≡ record { owner = []; nth = 0 }
channels = refl

-- the offer of index 2 waits, and adds nothing until it meets that of index 3
waits : (after_first 3).past ((0, 0) ∷ []) 2 ≡ false
waits = refl

meets : (after_first 4).past ((0, 0) ∷ []) 2 ≡ true
meets = refl

meets_sender : (after_first 4).past ((0, 1) ∷ []) 3 ≡ true
meets_sender = refl

-- a completion is the later of the two offers
completed_later : (after_first 4).completed 2 ≡ Some 3
completed_later = refl

not_completed : (after_first 5).completed 4 ≡ None
not_completed = refl

-- children start with their parent's past
starts : (after_first 2).past ((0, 2) ∷ []) 1 ≡ true
starts = refl

-- after the join the root knows what its children knew
joins : (after_first 9).past [] 5 ≡ true
joins = refl

-- the second sender did not know that the first one's offer, of index 3, was completed
raced : IsOrdered two_senders → ⊥
raced (_, (_, (_, (_, (fifth, _))))) =
    let k = fifth 3 ((0, 1) ∷ []) refl in
    let m : k.0 ≡ 3 = from_some k.0 k.1 in
    let f : (after_first 4).past ((0, 2) ∷ []) 3 ≡ true = ap ((after_first 4).past ((0, 2) ∷ [])) (sym m) ∙ k.2 in
    false≢true f
  where
    from_some : (m : ℕ) → ◌≡◌ {A = Option ℕ} (Some 3) (Some m) → m ≡ 3
    from_some m e = cc

-- with one worker the processes come in this order
in_turn : IsFirstInFirstOut two_senders
in_turn = (
  [],
  refl,
  (
    [],
    refl,
    (
      2 ∷ 3 ∷ [],
      refl,
      (
        3 ∷ [],
        refl,
        (
          1 ∷ 2 ∷ [],
          refl,
          (
            2 ∷ [],
            refl,
            (3 ∷ 1 ∷ [], refl, (1 ∷ [], refl, ([], refl, ([], refl, tt)))),
          ),
        ),
      ),
    ),
  ),
)
