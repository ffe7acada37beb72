-- Some of this belongs to what the program promises (docs/promise.txt).
-- What a text is by all rules: its tree with its sets and its code, or the first rule that it breaks. The contract of
-- the whole compilation promises it, and the top call's texts cite it.
use Rattle.std.specs.Prelude.{◌≡◌, ◌⊎◌, ℕ, ◌<◌, ◌≤◌, List, Result, Ok, Err}
use Rattle.sp_base.specs.declared.halt.Halt.{Halt}
use Rattle.sp_base.specs.declared.halt.Halt.TheVariants as halt
use Rattle.sp_base.specs.declared.halt.Refusal.{Refusal}
use Rattle.sp_base.specs.declared.rule.Rule.TheVariants as rule
use Rattle.sp_tree.specs.Bare.{without_places}
use Rattle.sp_tree.specs.CheckedOf.{program_of}
use Rattle.sp_tree.specs.Places.{start}
use Rattle.sp_tree.specs.PlainChecked as c
use Rattle.sp_code.specs.declared.code.Parts.{Parts}
use Rattle.sp_code.specs.Places.{tree_length}
use Rattle.sp_code.specs.Listing.{listing_text}
use Rattle.sp_varsets.specs.AreSets.{AreSets}
use Rattle.sp_front.specs.Compiles.{FirstBrokenOfPhases, IsAccepted}
use Rattle.sp_generate.specs.declared.program.GenError.{GenError}
use Rattle.sp_generate.specs.declared.program.GenError.TheVariants as gen
use Rattle.sp_generate.specs.GeneratorAnswers.{IsCodeOf}
use Rattle.sp_front.specs.declared.to_code.CompiledText.{CompiledText}

-- what a text breaks whose code would be too long
abbrev pub too_long_refusal : Refusal
too_long_refusal = record { rule = rule.L5; at = start }

-- an error of the generator as a refusal
abbrev pub halt_of : GenError → Halt
halt_of (gen.TooLong n) = halt.Refused too_long_refusal
halt_of gen.Memory = halt.Memory

-- the text breaks no rule of the phases, and its code would be too long
abbrev pub BreaksLength : List ℕ → Refusal → Type 0
BreaksLength text r = (p : c.Program) × IsAccepted text p × (1048576 < tree_length (without_places p))
    × (r ≡ too_long_refusal)

-- the accepted tree of the text with its sets, and the code of that tree, which is no longer than code may be
pub record IsCompiled (text : List ℕ) (r : CompiledText) : Type 0 where
  pub accepted : IsAccepted text (program_of r.accepted.checked)
  pub sets : AreSets (program_of r.accepted.checked) r.accepted.sets
  pub short : tree_length (without_places (program_of r.accepted.checked)) ≤ 1048576
  pub code : IsCodeOf (without_places (program_of r.accepted.checked)) r.code

-- the answer of the compilation; want of memory is free
abbrev pub Codes : List ℕ → Result CompiledText Halt → Type 0
Codes text (Ok r) = IsCompiled text r
Codes text (Err (halt.Refused r)) = FirstBrokenOfPhases text r ⊎ BreaksLength text r
Codes text (Err halt.Memory) = Unit {0}

-- the answer that a text breaks no rule, for which no code is made; want of memory is free
abbrev pub Accepts : List ℕ → Result (Unit {0}) Halt → Type 0
Accepts text (Ok x) = (p : c.Program) × IsAccepted text p × (tree_length (without_places p) ≤ 1048576)
Accepts text (Err (halt.Refused r)) = FirstBrokenOfPhases text r ⊎ BreaksLength text r
Accepts text (Err halt.Memory) = Unit {0}

-- the text breaks no rule, and this is the listing of its code
abbrev pub HasListing : List ℕ → List ℕ → Type 0
HasListing text out = (p : c.Program) × IsAccepted text p × (tree_length (without_places p) ≤ 1048576) × (code : Parts)
    × IsCodeOf (without_places p) code × (out ≡ listing_text code)
