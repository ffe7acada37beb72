use Rattle.std.proofs.Common.{◌≢◌, ℕ, ◌<◌, Some, map}
use Rattle.std.specs.Prelude.{slice_get}
use Rattle.sp_tree.specs.Characters.{lower_case_letter}
use Rattle.sp_tree.specs.Lexemes.{refused_words}
use Rattle.sp_scan.proofs.rules.is_refused.Given as goal

abbrev pub invariant-loop-n : goal.invariant-loop-n
invariant-loop-n l = (m : ℕ) → m < l.n → slice_get refused_words m ≢ Some (map lower_case_letter l.spelled)
