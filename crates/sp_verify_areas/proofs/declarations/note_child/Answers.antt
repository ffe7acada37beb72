use Rattle.std.proofs.Common.{◌+◌, None, Some}
use Rattle.sp_verify_rules.specs.NameRules.{OfChild}
use Rattle.sp_verify_areas.proofs.DeclarationSteps.{noted, passes, next_child, index_of}
use Rattle.sp_verify_areas.proofs.declarations.note_child.Goals as goal

pub returns-in-None : goal.returns-in-None
returns-in-None c = λ kept.
    let code = c.args.code.now in
    let t = c.args.table in
    let k = c.args.number in
    let old = c.args.seen.now in
    passes code (OfChild t k) (OfChild t (k + 1)) old.variables old.first (next_child code t k)
    (index_of code t k c.args.child.now None c.requires.there c.in-None.is) (c.requires.known kept)

pub returns-in-Some : goal.returns-in-Some
returns-in-Some c = λ kept.
    let (was, notes) = c.note.ensures kept in
    let code = c.args.code.now in
    let t = c.args.table in
    let k = c.args.number in
    let ch = c.args.child.now in
    let x = c.in-Some.x in
    let old = c.args.seen.now in
    let new = c.note.new.seen in
    noted code (OfChild t k) (OfChild t (k + 1)) (next_child code t k) old.variables new.variables old.first new.first
    x ch.entry (index_of code t k ch (Some x) c.requires.there c.in-Some.is) (c.requires.known was) notes
