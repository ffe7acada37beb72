-- The front of a lawful schedule is lawful, of any system.
use Rattle.std.proofs.Common.{List, [], ◌∷◌, ◌++◌, refl}
use Rattle.sp_meaning.specs.Schedules.{System, ScheduleLeads}

-- the front of a lawful schedule is lawful
pub front_lawful : (y : System) (ps qs : List y.Name) (s t : y.State) → ScheduleLeads y s (ps ++ qs) t → (m : y.State)
    × ScheduleLeads y s ps m × ScheduleLeads y m qs t
front_lawful y [] qs s t l = (s, refl, l)
front_lawful y (p ∷ ps) qs s t (next, no_fault, steps, leads) =
    let (middle, front, rest) = front_lawful y ps qs next t leads in
    (middle, (next, no_fault, steps, front), rest)
