use Rattle.std.proofs.Common.{◌∙◌, map, sym, drop, suc, true, false}
use Rattle.std.specs.Prelude.{string_bytes}
use Rattle.sp_words.specs.declared.form.Form.TheVariants.{End, Stray}
use Rattle.sp_words.proofs.DashLemmas.{pass_answer, pass_end, waits_on, form_answer}
use Rattle.sp_words.proofs.form.keeps_dash_rule.Goals as goal

pub returns-then-is_some : goal.returns-then-is_some
returns-then-is_some c = pass_answer string_bytes
    (map (λ s. s.now) c.args.options.now) c.loop-word.waits false c.args.words.now c.loop-word.word-index
    c.word-item.result c.loop-word-test.true c.word-item.is c.loop-word.invariant
    (waits_on (map (λ s. s.now) c.args.options.now) c.loop-word.waits (string_bytes c.word-item.result)
    (map string_bytes (drop (suc c.loop-word.word-index) c.args.words.now)) c.strip_dash.result
    c.as_str-word.result.now c.if-waits.true c.as_str-word.ensures.value c.strip_dash.ensures (sym c.is_some.ensures
    ∙ c.if-is_some.true))

pub returns-in-End : goal.returns-in-End
returns-in-End c = pass_answer string_bytes
    (map (λ s. s.now) c.args.options.now) c.loop-word.waits true c.args.words.now c.loop-word.word-index
    c.word-item.result c.loop-word-test.true c.word-item.is c.loop-word.invariant
    (form_answer (map (λ s. s.now) c.args.options.now) c.loop-word.waits
    (string_bytes c.word-item.result) c.as_str-word.result.now
    (map string_bytes (drop (suc c.loop-word.word-index) c.args.words.now)) End c.form_of.result c.if-waits.false
    c.as_str-word.ensures.value c.in-End.is c.form_of.ensures)

pub returns-in-Stray : goal.returns-in-Stray
returns-in-Stray c = pass_answer string_bytes
    (map (λ s. s.now) c.args.options.now) c.loop-word.waits false c.args.words.now c.loop-word.word-index
    c.word-item.result c.loop-word-test.true c.word-item.is c.loop-word.invariant
    (form_answer (map (λ s. s.now) c.args.options.now) c.loop-word.waits
    (string_bytes c.word-item.result) c.as_str-word.result.now
    (map string_bytes (drop (suc c.loop-word.word-index) c.args.words.now)) Stray c.form_of.result c.if-waits.false
    c.as_str-word.ensures.value c.in-Stray.is c.form_of.ensures)

pub returns : goal.returns
returns c = pass_end string_bytes
    (map (λ s. s.now) c.args.options.now) c.loop-word.waits c.args.words.now c.loop-word.word-index
    c.loop-word-test.false c.loop-word.invariant
