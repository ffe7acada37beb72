-- All of this belongs to what the program promises (docs/promise.txt).
-- The names of the faults, as reports and journals write them. `Fault`'s printing promises them, and the texts of
-- journals and of ends are made of them: one table, so that all print a fault alike.
use Rattle.std.specs.Prelude.{ℕ, List, codes}
use Rattle.sp_base.specs.declared.fault.Fault.{Fault}
use Rattle.sp_base.specs.declared.fault.Fault.TheVariants as fault

-- a fault is printed by its name
abbrev pub fault_name : Fault → List ℕ
fault_name fault.F1 = codes "F1"
fault_name fault.F2 = codes "F2"
fault_name fault.F3 = codes "F3"
fault_name fault.F4 = codes "F4"
fault_name fault.F5 = codes "F5"
fault_name fault.F6 = codes "F6"
fault_name fault.F7 = codes "F7"
fault_name fault.F8 = codes "F8"
fault_name fault.F9 = codes "F9"
fault_name fault.F10 = codes "F10"
fault_name fault.F11 = codes "F11"
fault_name fault.F12 = codes "F12"
fault_name fault.F13 = codes "F13"
fault_name fault.F14 = codes "F14"
fault_name fault.F15 = codes "F15"
fault_name fault.F16 = codes "F16"
fault_name fault.F17 = codes "F17"
fault_name fault.F18 = codes "F18"
