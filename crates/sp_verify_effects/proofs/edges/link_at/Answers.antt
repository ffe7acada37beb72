use Rattle.std.proofs.Common.{◌<◌, sym, ◌∙◌, subst}
use Rattle.sp_base.proofs.Facts.{on_map as ok_on}
use Rattle.sp_verify_effects.specs.Edges.{Links, CalledAt, StartedAt, EdgeAt}
use Rattle.sp_verify_effects.specs.Linked.{AreLinked}
use Rattle.sp_verify_effects.proofs.EdgeRows.{nothing_at, layout_within, child_within, links_then}
use Rattle.sp_verify_effects.proofs.LinkedLaws.{linked_kept}
use Rattle.sp_verify_effects.proofs.edges.link_at.Goals as goal

pub returns-in-None-clause-edges : goal.returns-in-None-clause-edges
returns-in-None-clause-edges c =
    let code = c.args.g.now.code.now in
    nothing_at code c.args.p c.args.acts.now c.args.rows.now c.in-None.ensures

pub link_called-requires-clause-there : goal.link_called-requires-clause-there
link_called-requires-clause-there c = λ b l e. subst (λ n. l.entry < n) (sym c.requires.size)
    (layout_within c.args.g.now.code.now c.requires.known.kept b l e)

pub link_started-requires-clause-within : goal.link_started-requires-clause-within
link_started-requires-clause-within c = λ k t e.
    subst (λ n. t.entry < n) (sym (c.in-Ok.ensures.edges.size
    ∙ c.requires.size)) (child_within c.args.g.now.code.now c.requires.known.kept c.args.p k t e)

pub returns-clause-edges : goal.returns-clause-edges
returns-clause-edges c =
    let code = c.args.g.now.code.now in
    let acts = c.args.acts.now in
    let p = c.args.p in
    let a = c.args.rows.now in
    let b = c.link_called.new.rows in
    let d = c.link_started.new.rows in
    ok_on c.link_started.result (Links b d (StartedAt code p)) (Links a d (EdgeAt code acts p))
    (λ v. links_then a b d (CalledAt code acts p) (StartedAt code p) c.in-Ok.ensures.edges v)
    c.link_started.ensures

pub returns-clause-linked : goal.returns-clause-linked
returns-clause-linked c =
    let code = c.args.g.now.code.now in
    let st = c.args.g.now.shapes.now.stacks in
    let p = c.args.p in
    let b = c.link_called.new.rows in
    let d = c.link_started.new.rows in
    let ks = c.link_called.new.linked in
    ok_on c.link_started.result (Links b d (StartedAt code p)) (AreLinked code.layouts st d ks)
    (λ v. linked_kept code.layouts st b d ks v.kept c.in-Ok.ensures.linked)
    c.link_started.ensures
