-- None of this belongs to what the program promises: it is for contracts between crates.
-- The text of a timeline: each entry on a line of its own. The contract of the timeline promises it.
use Rattle.std.specs.Prelude.{◌==◌, ◌+◌, ℕ, Bool, true, false, List, [], ◌∷◌, ◌++◌, codes, decimal}
use Rattle.sp_journal.specs.declared.entry.Entry.{Entry}
use Rattle.sp_journal.specs.Births.{Births, births_after_entry, first_births}
use Rattle.sp_journal.specs.Texts.{entry_text}

-- the lines of the entries from index i on, as `3 0/0.1 send 0#0`
abbrev pub timeline_lines : ℕ → Births → List Entry → List ℕ
timeline_lines i s [] = []
timeline_lines i s (e ∷ es) = (decimal i ++ codes " " ++ entry_text s e ++ codes "\n")
    ++ timeline_lines (i + 1) (births_after_entry s e) es

-- the name of the report, and the lines
abbrev pub timeline_text : List Entry → List ℕ
timeline_text es = codes "timeline\n" ++ timeline_lines 0 first_births es

-- these bytes with a number before each line; a line begins here, or goes on
abbrev pub numbered_lines : Bool → ℕ → List ℕ → List ℕ
numbered_lines begins n [] = []
numbered_lines true n (b ∷ bs) = decimal n ++ codes " " ++ b ∷ numbered_lines (b == 10) (n + 1) bs
numbered_lines false n (b ∷ bs) = b ∷ numbered_lines (b == 10) n bs
