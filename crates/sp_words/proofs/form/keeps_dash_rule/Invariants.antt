use Rattle.std.proofs.Common.{◌≡◌, drop, false, map}
use Rattle.std.specs.Prelude.{string_bytes}
use Rattle.sp_words.proofs.DashLemmas.{passes}
use Rattle.sp_words.proofs.form.keeps_dash_rule.Given as goal

abbrev pub invariant-loop-word : goal.invariant-loop-word
invariant-loop-word l = passes (map (λ s. s.now) l.fn.options) l.waits
    (map string_bytes (drop l.word-index l.fn.words)) ≡ passes (map (λ s. s.now) l.fn.options) false
    (map string_bytes l.fn.words)
