-- None of this belongs to what the program promises: it is for contracts between crates.
-- The names in a program's heading, with what stood before. The contract of the heading's loop cites it; two flags
-- stand for the names, since only `input` and `output` may be there.
use Rattle.std.specs.Prelude.{List, [], ◌∷◌, Bool, true, codes, if◌then◌else◌}
use Rattle.std.specs.Str.{bytes_eq}
use Rattle.sp_base.specs.declared.rule.Rule.TheVariants as rule
use Rattle.sp_tree.specs.declared.syntax.Name.{Name}
use Rattle.sp_tree.specs.PhaseResults.{earlier_refusal, refusal_at, refusal_if}
use Rattle.sp_tree.specs.NameFirst.{Onward}

-- `input` and `output`: it stood before
abbrev pub files_flagged : Bool → Bool → List Name → Onward
files_flagged input output [] given = given
files_flagged input output (x ∷ xs) given =
    if bytes_eq x.text (codes "input") then files_flagged true output xs
    (earlier_refusal given (refusal_if rule.N2 x.at input))
    else if bytes_eq x.text (codes "output") then
    files_flagged input true xs (earlier_refusal given (refusal_if rule.N2 x.at output))
    else files_flagged input output xs (earlier_refusal given (refusal_at rule.N1 x.at))
