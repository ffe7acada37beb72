-- All of this belongs to what the program promises (docs/promise.txt).
-- The witness of a race: the journal that leads to the contention of its two offers. It has what the processes of the
-- two offers knew just before them, then the earlier offer, and then the fault of the later one. The contract of
-- `witness` and the law of this crate cite it.
use Rattle.std.specs.Option.{option_map_or}
use Rattle.std.specs.Prelude.{ℕ, suc, Bool, true, false, ◌&&◌, ◌||◌, if◌then◌else◌, nat_lt, List, [], ◌∷◌, ◌++◌, take}
use Rattle.std.specs.Prelude.{Option, slice_get}
use Rattle.sp_base.specs.declared.fault.Fault.TheVariants as fault
use Rattle.sp_journal.specs.Names.{Name, same_name, Happening, Faulted, Paused}
use Rattle.sp_journal.specs.Names.{Occurrence}
use Rattle.sp_journal.specs.Past.{knowledge_of}

-- whose entry this is
abbrev pub who_of : Option Occurrence → Name
who_of e = option_map_or (λ e. e.who) e []

-- whose entry has this index
abbrev pub who_at : List Occurrence → ℕ → Name
who_at es i = who_of (slice_get es i)

-- the entry of this index alone
abbrev pub entry_list : Option Occurrence → List Occurrence
entry_list e = option_map_or (λ e. e ∷ []) e []

-- what the process of entry i knew just before it, as indices
abbrev pub past_before : List Occurrence → ℕ → ℕ → Bool
past_before es i k = (knowledge_of (take i es)).past (who_at es i) k

-- a process pauses
abbrev pub is_pause : Happening → Bool
is_pause Paused = true
is_pause _ = false

-- of a journal, for its offers of these two indices
module _ (es : List Occurrence) (earlier later : ℕ) where
  -- the process of one of the two offers knew it just before that offer
  abbrev pub is_known : ℕ → Bool
  is_known k = past_before es earlier k || past_before es later k

  -- process q makes one of the two offers after index k
  abbrev pub offers_after : Name → ℕ → Bool
  offers_after q k =
      (same_name q (who_at es earlier) && nat_lt k earlier)
      || (same_name q (who_at es later) && nat_lt k later)

  -- The entry of index k is in the first part: it is known; or it is a pause, and its process makes one of the two
  -- offers after it, or has a later entry in this part
  abbrev pub is_member : ℕ → Occurrence → Bool → Bool
  is_member k e has_later = is_known k || (is_pause e.what && (offers_after e.who k || has_later))

  -- process q has an entry in the first part among these, which begin with index k
  abbrev pub is_among : Name → ℕ → List Occurrence → Bool
  is_among q k [] = false
  is_among q k (e ∷ rest) =
      (same_name q e.who && is_member k e (is_among e.who (suc k) rest)) || is_among q (suc k) rest

  -- those of these entries that are in the first part, in order
  abbrev pub members : ℕ → List Occurrence → List Occurrence
  members k [] = []
  members k (e ∷ rest) =
      if is_member k e (is_among e.who (suc k) rest) then e ∷ members (suc k) rest else members (suc k) rest

  -- those of the entries before the later offer
  abbrev pub first_part : List Occurrence
  first_part = members 0 (take later es)

  -- the first part, the earlier offer, and the fault of the later offer's process
  abbrev pub witness : List Occurrence
  witness = first_part ++ entry_list (slice_get es earlier) ++ record {
    who = who_at es later;
    what =
        Faulted fault.F6;
  } ∷ []
