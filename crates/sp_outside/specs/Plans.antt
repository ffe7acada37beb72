-- None of this belongs to what the program promises: it is for contracts between crates.
-- Which calls of an outside in memory fail. The contracts of the sources, sinks and libraries in memory cite it:
-- failures go by the numbers of calls, so that a test can place each one.
use Rattle.std.specs.Prelude.{ℕ, List, Bool, ◌==◌, cond}
use Rattle.std.specs.List.{list_any}
use Rattle.sp_outside.specs.Counts.{next_count}
use Rattle.sp_outside.specs.declared.plan.Plan.{Plan}

-- the next call fails: its number is among those that are to fail
abbrev pub fails_next : Plan → Bool
fails_next p = list_any (λ k. k == p.calls) p.failing

-- one call more
abbrev pub with_call : Plan → Plan
with_call p = record p { calls = next_count p.calls }

-- one fault more
abbrev pub with_failed_call : Plan → Plan
with_failed_call p = record p { faults = next_count p.faults }

-- after a call, with a fault or without
abbrev pub plan_after_call : Bool → Plan → Plan
plan_after_call fails p = cond fails (with_failed_call (with_call p)) (with_call p)

-- no call was made
abbrev pub first_plan : List ℕ → Plan
first_plan failing = record { failing = failing; calls = 0; faults = 0 }
