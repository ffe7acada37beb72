use Rattle.std.proofs.Common.{sym, ◌∙◌, ◌+◌, List}
use Rattle.sp_base.proofs.Facts.{on_map as ok_on}
use Rattle.sp_verify_effects.specs.declared.facts.Fact.{Fact}
use Rattle.sp_verify_effects.specs.Facts.{Tells}
use Rattle.sp_verify_effects.specs.Own.{AskedAt, OwnBefore}
use Rattle.sp_verify_effects.proofs.Again.{before_again}
use Rattle.sp_verify_effects.proofs.Owns.{before_more}
use Rattle.sp_verify_effects.proofs.own.tell_next.Goals as goal

pub returns-then-flag_at : goal.returns-then-flag_at
returns-then-flag_at c = λ first t.
    let g = c.args.g.now in
    let known = c.requires.known in
    let r = known.repeats c.args.p (sym c.flag_at.ensures ∙ c.if-flag_at.true) in
    before_again g.code.now g.owners.now g.shapes.now known.kept known.owners known.shapes c.args.p r.0 r.1
    c.args.asked.now first c.args.facts.now t

pub returns-else-flag_at : goal.returns-else-flag_at
returns-else-flag_at c =
    let code = c.args.g.now.code.now in
    let k = c.args.asked.now in
    let p = c.args.p in
    let f = c.args.facts.now in
    let g = c.tell_at.new.facts in
    ok_on c.tell_at.result (Tells f g (AskedAt code k p))
    ((first : List Fact) → Tells first f (OwnBefore code k p) → Tells first g (OwnBefore code k (p + 1)))
    (λ v first t. before_more code k first f g p t v) c.tell_at.ensures
