-- None of this belongs to what the program promises: it is for contracts between crates.
-- The order condition as a test that computes. A law of this crate says that it tells what the definition in
-- `sp_journal` says, so that rows can be computed.
use Rattle.std.specs.Prelude.{ℕ, suc, Bool, true, false, ◌&&◌, if◌then◌else◌, List, [], ◌∷◌, ◌++◌, length, Option, Some}
use Rattle.std.specs.Prelude.{None}
use Rattle.sp_journal.specs.declared.entry.Way.{Way}
use Rattle.sp_journal.specs.Names.{Name, Channel, same_way, same_channel, Happening, Offered}
use Rattle.sp_journal.specs.Names.{Occurrence}
use Rattle.sp_journal.specs.Past.{Knowledge, knowledge_after, no_knowledge}

-- an offer of this way on this channel
abbrev pub is_offer : Way → Channel → Happening → Bool
is_offer w c (Offered v d) = same_way w v && same_channel c d
is_offer _ _ _ = false

-- the completion is there, and p knows it
abbrev pub is_known : Knowledge → Name → Option ℕ → Bool
is_known j p None = false
is_known j p (Some m) = j.past p m

-- of these entries, from index i on, p knows the completion of each offer of this way on this channel
abbrev pub knows_all : Knowledge → Name → Way → Channel → ℕ → List Occurrence → Bool
knows_all j p w c i [] = true
knows_all j p w c i (e ∷ es) = (if is_offer w c e.what then is_known j p (j.completed i) else true)
    && knows_all j p w c (suc i) es

-- the condition at one entry
abbrev pub is_in_order : Knowledge → List Occurrence → Name → Happening → Bool
is_in_order j done p (Offered w c) = knows_all j p w c 0 done
is_in_order _ _ _ _ = true

abbrev pub order_from : Knowledge → List Occurrence → List Occurrence → Bool
order_from j done [] = true
order_from j done (e ∷ es) = is_in_order j done e.who e.what
    && order_from (knowledge_after j (length done) e.who e.what) (done ++ e ∷ []) es

abbrev pub order_test : List Occurrence → Bool
order_test es = order_from no_knowledge [] es
