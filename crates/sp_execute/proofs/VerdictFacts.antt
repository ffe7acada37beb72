-- What is so of each verdict that was made is so of the one that an answer gives; and what an ordered one promises.
use Rattle.std.proofs.Common.{◌≡◌, ℕ, List, Result, Ok, Err, subst}
use Rattle.std.specs.Result.{IfOk}
use Rattle.sp_base.specs.declared.halt.Memory.{Memory}
use Rattle.sp_journal.specs.declared.outcome.End.{End}
use Rattle.sp_journal.specs.declared.outcome.Verdict.{Verdict}
use Rattle.sp_journal.specs.declared.outcome.Verdict.TheVariants as verdict
use Rattle.sp_journal.specs.Names.{Occurrence}
use Rattle.sp_race.specs.Runs.{AllEndAlike, IsRunVerdict}
use Rattle.sp_meaning.specs.LocalWork.{RunInput}
use Rattle.sp_meaning.specs.Runs.{StateOf}

pub if_judged : (P Q : Verdict → Type 0) → ((v : Verdict) → P v → Q v) → (r : Result Verdict Memory) → IfOk r P
    → IfOk r Q
if_judged P Q f (Ok v) h = f v h
if_judged P Q f (Err e) h = tt {0}

pub alike : (g : RunInput) (es : List Occurrence) (n : ℕ) (t : StateOf g) (e : End) (v : Verdict)
    → IsRunVerdict g es n t e v → v ≡ verdict.Ordered → AllEndAlike g n t
alike g es n t e v h is = (subst (λ (x : Verdict). IsRunVerdict g es n t e x) is h).1
