-- The lines of the rows, and the numbers in them.
use Rattle.std.proofs.Common.{◌≡◌, ℕ, List, ◌++◌, refl, ◌∙◌, ap, arith}
use Rattle.std.specs.Prelude.{codes, decimal}
use Rattle.std.proofs.lemmas.Fmt.{decimal_digit, decimal_step}
use Rattle.sp_base.specs.Rules.{rule_name}
use Rattle.sp_base.specs.declared.rule.Rule.TheVariants as rule
use Rattle.sp_codefile.specs.declared.verifier.VRule.TheVariants as v
use Rattle.superpascal.specs.declared.ending.Ending.{Ending}
use Rattle.superpascal.specs.declared.ending.Ending.TheVariants as e
use Rattle.superpascal.specs.Answers.{line_of, status_of}
use Rattle.promise_rows.proofs.Trees.{unknown_name}

pub zero_text : decimal 0 ≡ codes "0"
zero_text = decimal_digit 0 (omega arith)

pub one_text : decimal 1 ≡ codes "1"
one_text = decimal_digit 1 (omega arith)

pub three_text : decimal 3 ≡ codes "3"
three_text = decimal_digit 3 (omega arith)

pub seven_text : decimal 7 ≡ codes "7"
seven_text = decimal_digit 7 (omega arith)

eighteen_text : decimal 18 ≡ codes "18"
eighteen_text = decimal_step 18 (omega arith) (omega arith) ∙ ap (λ (x : List ℕ). x ++ codes "8") one_text

abbrev refusal_with : List ℕ → List ℕ → List ℕ
refusal_with line column = codes "refused " ++ rule_name rule.N1 ++ codes " " ++ line ++ codes ":" ++ column
    ++ codes "\n"

pub unknown_name_line : line_of (e.Refused unknown_name) ≡ codes "refused N1 1:18\n"
unknown_name_line = ap (λ x. refusal_with x (decimal 18)) one_text
    ∙ ap (λ x. refusal_with (codes "1") x) eighteen_text

pub bad_code_line : line_of (e.BadCode 1) ≡ codes "bad code 1\n"
bad_code_line = ap (λ (x : List ℕ). codes "bad code " ++ x ++ codes "\n") one_text

pub rejected_line : line_of (e.Rejected v.V1 0) ≡ codes "rejected V1 0\n"
rejected_line = ap (λ (x : List ℕ). codes "rejected V" ++ x ++ codes " " ++ decimal 0 ++ codes "\n") one_text
    ∙ ap (λ (x : List ℕ). codes "rejected V1 " ++ x ++ codes "\n") zero_text

pub bad_journal_line : line_of (e.BadJournal 1) ≡ codes "bad journal 1\n"
bad_journal_line = ap (λ (x : List ℕ). codes "bad journal " ++ x ++ codes "\n") one_text

pub unfit_line : line_of (e.Unfit 1) ≡ codes "journal unfit 1\n"
unfit_line = ap (λ (x : List ℕ). codes "journal unfit " ++ x ++ codes "\n") one_text

-- the line of status 2
pub line_of_2 : (x : Ending) → 2 ≡ status_of x → line_of x ≡ codes "bad words\n"
line_of_2 e.BadWords h = refl
line_of_2 _ h = absurd (omega (arith, h))

-- the line of status 5
pub line_of_5 : (x : Ending) → 5 ≡ status_of x → line_of x ≡ codes "read fault\n"
line_of_5 e.ReadFault h = refl
line_of_5 _ h = absurd (omega (arith, h))

-- the line of status 7
pub line_of_7 : (x : Ending) → 7 ≡ status_of x → line_of x ≡ codes "input too long\n"
line_of_7 e.TooLong h = refl
line_of_7 _ h = absurd (omega (arith, h))
