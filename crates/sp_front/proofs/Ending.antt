-- What the generator's answer, or the length of the code, is for the compilation: code, the refusal L5, or want of
-- memory.
use Rattle.std.proofs.Common.{◌≡◌, ◌<◌, ◌≤◌, inr, ℕ, List, Result, Ok, Err, refl, sym, subst}
use Rattle.sp_base.specs.declared.halt.Halt.{Halt}
use Rattle.sp_base.specs.declared.halt.Halt.TheVariants as halt
use Rattle.sp_tree.specs.declared.checked.Checked.{Checked}
use Rattle.sp_tree.specs.CheckedOf.{program_of}
use Rattle.sp_tree.specs.PlainChecked as c
use Rattle.sp_varsets.specs.declared.sets.Sets.{Sets}
use Rattle.sp_varsets.specs.AreSets.{AreSets}
use Rattle.sp_code.specs.declared.code.Parts.{Parts}
use Rattle.sp_code.specs.Places.{tree_length}
use Rattle.sp_generate.specs.CappedLength.{capped_length}
use Rattle.sp_tree.specs.Bare.{without_places}
use Rattle.sp_front.specs.declared.analysis.Accepted.{Accepted}
use Rattle.sp_front.specs.Compiles.{IsAccepted}
use Rattle.sp_generate.specs.declared.program.GenError.{GenError}
use Rattle.sp_generate.specs.declared.program.GenError.TheVariants as gen
use Rattle.sp_generate.specs.GeneratorAnswers.{Answered}
use Rattle.sp_generate.proofs.Limits.{told_beyond, told_within}
use Rattle.sp_front.specs.Codes.{Accepts, Codes, IsCompiled, halt_of, too_long_refusal}

-- of a tree and sets that are the same
pub same_sets : (a b : Checked) (s t : Sets) → a ≡ b → s ≡ t → AreSets (program_of b) t → AreSets (program_of a) s
same_sets a b s t e f h = subst (λ (z : Checked × Sets). AreSets (program_of z.0) z.1) (λ i. (sym e i, sym f i)) h

pub same_answer : (a b : Checked) (r : Result Parts GenError) → a ≡ b → Answered (program_of a) r
    → Answered (program_of b) r
same_answer a b r e h = subst (λ (z : Checked). Answered (program_of z) r) e h

-- code, and none
pub made : (text : List ℕ) (a : Accepted) (code : Parts) → IsAccepted text (program_of a.checked)
    → AreSets (program_of a.checked) a.sets → Answered (program_of a.checked) (Ok code)
    → IsCompiled text (record { accepted = a; code = code })
made text a code accepted sets h = record { accepted = accepted; sets = sets; short = h.0; code = h.1 }

pub stopped : (text : List ℕ) (p : c.Program) (e : GenError) (halt : Halt) → IsAccepted text p → Answered p (Err e)
    → halt ≡ halt_of e → Codes text (Err halt)
stopped text p (gen.TooLong n) halt accepted h e =
    subst (λ (z : Halt). Codes text (Err z)) (sym e) (inr (p, accepted, h.0, refl))
stopped text p gen.Memory halt accepted h e = subst (λ (z : Halt). Codes text (Err z)) (sym e) tt

-- that it is accepted, or its code too long, by the length as it is told
module _ (text : List ℕ) (a b : Checked) (same : a ≡ b) (accepted : IsAccepted text (program_of b)) where
  of_tree : (P : ℕ → Type 0) → P (tree_length (without_places (program_of a)))
      → P (tree_length (without_places (program_of b)))
  of_tree P h = subst (λ (z : Checked). P (tree_length (without_places (program_of z)))) same h

  pub short : capped_length (tree_length (without_places (program_of a))) ≤ 1048576 → Accepts text (Ok tt)
  short h = (program_of b, accepted, of_tree (λ n. n ≤ 1048576) (told_within _ h))

  pub long : 1048576 < capped_length (tree_length (without_places (program_of a)))
      → Accepts text (Err (halt.Refused too_long_refusal))
  long h = inr (program_of b, accepted, of_tree (λ n. 1048576 < n) (told_beyond _ h), refl)
