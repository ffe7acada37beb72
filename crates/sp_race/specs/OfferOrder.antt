-- None of this belongs to what the program promises: it is for contracts between crates.
-- The order condition of a journal by the earlier offer's own index, in place of its completion's. A law of this crate
-- says that it is the same, and the judge, which meets the offer first, goes by it.
use Rattle.std.specs.Prelude.{◌≡◌, ℕ, true, List, [], ◌∷◌, ◌++◌, length, Some, slice_get}
use Rattle.sp_journal.specs.Names.{Name, Happening, Offered, Occurrence}
use Rattle.sp_journal.specs.Past.{Knowledge, knowledge_after, no_knowledge}

-- who offers knows the index of each earlier offer of this way on this channel
abbrev pub KnowsOffers : Knowledge → List Occurrence → Name → Happening → Type 0
KnowsOffers j done p (Offered w c) = (i : ℕ) (z : Name)
    → slice_get done i ≡ Some (record { who = z; what = Offered w c }) → j.past p i ≡ true
KnowsOffers _ _ _ _ = Unit {0}

abbrev pub KnownFrom : Knowledge → List Occurrence → List Occurrence → Type 0
KnownFrom j done [] = Unit {0}
KnownFrom j done (e ∷ es) = KnowsOffers j done e.who e.what
    × KnownFrom (knowledge_after j (length done) e.who e.what) (done ++ e ∷ []) es

-- of any two offers of one way on one channel, the later one's process knew the earlier one just before it offered
abbrev pub AreKnown : List Occurrence → Type 0
AreKnown es = KnownFrom no_knowledge [] es
