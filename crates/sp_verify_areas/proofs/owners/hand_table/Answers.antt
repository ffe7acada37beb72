use Rattle.std.proofs.Common.{◌≡◌, ◌+◌, ◌<◌, length, ap, sym, ◌∙◌, subst}
use Rattle.sp_code.specs.declared.code.Parts.{Parts}
use Rattle.sp_verify_areas.specs.Owners.{HandsOwner}
use Rattle.sp_verify_areas.proofs.OwnerSteps.{table_given}
use Rattle.sp_verify_areas.proofs.owners.hand_table.Goals as goal

pub returns-then-t-len : goal.returns-then-t-len
returns-then-t-len c =
    let code = c.args.code.now in
    let a = c.args.owners.now in
    let b = c.give.new.owners in
    let t = c.in-Some.t in
    let p = c.args.p in
    let l : t < length code.forks = subst (λ n. t < n) (c.len.ensures
    ∙ ap (λ (z : Parts). length z.forks) c.parts-parts.ensures.same) c.if-t-len.true in
    let m : c.len-then-t-len.result ≡ length code.instrs = c.len-then-t-len.ensures
    ∙ ap (λ (z : Parts). length z.instrs) c.parts-parts.ensures.same in
    table_given code a b p t c.args.o c.as_child.result c.args.instr c.give.result c.requires.just c.requires.some
    c.requires.owner.0 c.requires.owner.1 c.requires.there (sym c.in-Some.is
    ∙ c.table_named.ensures) l c.as_child.ensures
    (subst (λ n. HandsOwner a b (n + t) c.as_child.result c.give.result) m c.give.ensures)
