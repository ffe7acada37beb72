-- Some of this belongs to what the program promises (docs/promise.txt).
-- What `verify` answers: the contract of the verifier. It says both that the answer is right and that there is no
-- other.
use Rattle.std.specs.Prelude.{◌≡◌, ℕ, ◌<◌, Result, Ok, Err}
use Rattle.sp_code.specs.declared.code.Parts.{Parts}
use Rattle.sp_verify_rules.specs.Verdict.{Rule, V1, V2, V3, V4, V5, V6, V7, V8, V9, number, BreaksRuleAt, IsVerified}
use Rattle.sp_verify_rules.specs.Verdict.{IsRejected}
use Rattle.sp_codefile.specs.declared.verifier.VRule.{VRule}
use Rattle.sp_codefile.specs.declared.verifier.VRule.TheVariants as rule
use Rattle.sp_codefile.specs.declared.verifier.Rejected.{Rejected}
use Rattle.sp_codefile.specs.declared.verifier.Rejected.TheVariants as rejected

-- the rule of a name
abbrev pub rule_of : VRule → Rule
rule_of rule.V1 = V1
rule_of rule.V2 = V2
rule_of rule.V3 = V3
rule_of rule.V4 = V4
rule_of rule.V5 = V5
rule_of rule.V6 = V6
rule_of rule.V7 = V7
rule_of rule.V8 = V8
rule_of rule.V9 = V9

-- no rule with a number below n is broken
abbrev pub KeepsBefore : Parts → ℕ → Type 0
KeepsBefore c n = (v : Rule) (p : ℕ) → number v < n → BreaksRuleAt c v p → ⊥

-- this is the first broken rule, and the least instruction at which it is; or memory was refused
abbrev pub IsRefused : Parts → Rejected → Type 0
IsRefused c (rejected.Rule v p) = IsRejected c (rule_of v) p
IsRefused c rejected.Memory = Unit {0}

-- the code that is given is the same, and breaks no rule; or it is refused
abbrev pub Verifies : Parts → Result Parts Rejected → Type 0
Verifies c (Ok d) = (d ≡ c) × IsVerified c
Verifies c (Err e) = IsRefused c e
