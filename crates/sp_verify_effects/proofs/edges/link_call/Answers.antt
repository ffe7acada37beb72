use Rattle.sp_verify_shapes.specs.Stacks.{list_of}
use Rattle.sp_verify_effects.proofs.EdgeRows.{call_linked, idle_linked}
use Rattle.sp_verify_effects.proofs.LinkedLaws.{linked_all, linked_kept}
use Rattle.sp_verify_effects.proofs.edges.link_call.Goals as goal

pub link_operands-requires-clause-linked : goal.link_operands-requires-clause-linked
link_operands-requires-clause-linked c = λ n d g i s e at within edge.
    c.in-Ok.ensures.kept c.args.layout.now.entry e (c.requires.linked n d g i s e at within edge)

pub returns-in-Ok-put_links-clause-edges : goal.returns-in-Ok-put_links-clause-edges
returns-in-Ok-put_links-clause-edges c =
    let ss = list_of c.args.stacks.now c.args.stack in
    let d = c.link_operands.new.rows in
    call_linked c.args.layout.now c.args.to ss c.args.rows.now c.link.new.rows d c.in-Ok.ensures
    c.in-Ok-link_operands.ensures c.args.acts c.if-acts.true

pub returns-in-Ok-put_links-clause-linked : goal.returns-in-Ok-put_links-clause-linked
returns-in-Ok-put_links-clause-linked c = λ ls is h.
    let st = c.args.stacks.now in
    let l = c.args.layout.now in
    let n = c.args.to in
    let d = c.link_operands.new.rows in
    let more = c.in-Ok-link_operands.ensures in
    c.in-Ok-put_links.ensures ls d is (linked_all st d l n c.args.stack more.has)
    (linked_kept ls st c.args.rows.now d c.args.linked.now (λ m e w. more.kept m e (c.in-Ok.ensures.kept m e w)) h)

pub returns-else-acts-clause-edges : goal.returns-else-acts-clause-edges
returns-else-acts-clause-edges c = idle_linked c.args.layout.now c.args.to (list_of c.args.stacks.now c.args.stack)
    c.args.rows.now c.link.new.rows c.in-Ok.ensures c.args.acts c.if-acts.false

pub returns-else-acts-clause-linked : goal.returns-else-acts-clause-linked
returns-else-acts-clause-linked c = λ ls is h. linked_kept ls c.args.stacks.now c.args.rows.now c.link.new.rows
    c.args.linked.now c.in-Ok.ensures.kept h
