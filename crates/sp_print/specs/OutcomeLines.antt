-- Some of this belongs to what the program promises (docs/promise.txt).
-- The lines of a refusal, of an end and of a verdict. The printing here promises them, and the contract of the top
-- call says by them what it writes.
use Rattle.std.specs.Prelude.{ℕ, List, [], ◌++◌, codes, decimal}
use Rattle.std.specs.List.{flat_map}
use Rattle.sp_base.specs.Faults.{fault_name}
use Rattle.sp_base.specs.declared.halt.Refusal.{Refusal}
use Rattle.sp_base.specs.Rules.{rule_name}
use Rattle.sp_base.specs.Names.{name_text, channel_text}
use Rattle.sp_journal.specs.declared.outcome.Waiter.{Waiter}
use Rattle.sp_journal.specs.declared.outcome.End.{End}
use Rattle.sp_journal.specs.declared.outcome.End.TheVariants as ends
use Rattle.sp_journal.specs.declared.outcome.Verdict.{Verdict}
use Rattle.sp_journal.specs.declared.outcome.Verdict.TheVariants as verdict
use Rattle.sp_journal.specs.Texts.{way_text}

-- a process that waits, as `waits 0/0.1 receive 0#0`
abbrev pub waiter_line : Waiter → List ℕ
waiter_line w = codes "waits " ++ name_text w.process ++ codes " " ++ way_text w.way ++ codes " "
    ++ channel_text w.channel ++ codes "\n"

-- an end has lines unless memory ran out
abbrev pub HasLines : End → Type 0
HasLines ends.Memory = ⊥
HasLines _ = Unit {0}

-- the lines of an end
abbrev pub end_text : End → List ℕ
end_text ends.Done = codes "done\n"
end_text (ends.Deadlock ws) = codes "deadlock\n" ++ flat_map waiter_line ws
end_text (ends.Fault p f) = codes "fault " ++ fault_name f ++ codes " " ++ name_text p ++ codes "\n"
end_text ends.Memory = []

-- the line of a verdict
abbrev pub verdict_text : Verdict → List ℕ
verdict_text verdict.Ordered = codes "ordered\n"
verdict_text (verdict.Race w c e l) = codes "race " ++ way_text w ++ codes " " ++ channel_text c ++ codes " "
    ++ decimal e ++ codes " " ++ decimal l ++ codes "\n"
verdict_text verdict.Unjudged = codes "unjudged\n"

-- a broken rule and its place, as `refused G1 1:20`
abbrev pub refusal_text : Refusal → List ℕ
refusal_text r = codes "refused " ++ rule_name r.rule ++ codes " " ++ decimal r.at.line ++ codes ":"
    ++ decimal r.at.column ++ codes "\n"
