use Rattle.std.proofs.Common.{sym, ◌∙◌, ◌+◌}
use Rattle.sp_base.proofs.Facts.{on_map as ok_on}
use Rattle.sp_verify_effects.specs.Edges.{EdgeAt, HasEdges, Links}
use Rattle.sp_verify_effects.proofs.Again.{edges_again}
use Rattle.sp_verify_effects.proofs.EdgeRows.{more_edges}
use Rattle.sp_verify_effects.proofs.edges.link_next.Goals as goal

pub returns-then-flag_at-clause-edges : goal.returns-then-flag_at-clause-edges
returns-then-flag_at-clause-edges c =
    let g = c.args.g.now in
    let known = c.requires.known in
    let r = known.repeats c.args.p (sym c.flag_at.ensures ∙ c.if-flag_at.true) in
    edges_again g.code.now g.owners.now g.shapes.now known.kept known.owners known.shapes c.args.p r.0 r.1
    c.args.acts.now c.args.rows.now c.requires.before

pub link_at-requires-clause-size : goal.link_at-requires-clause-size
link_at-requires-clause-size c = c.requires.before.size

pub returns-else-flag_at-clause-edges : goal.returns-else-flag_at-clause-edges
returns-else-flag_at-clause-edges c =
    let code = c.args.g.now.code.now in
    let acts = c.args.acts.now in
    let p = c.args.p in
    let a = c.args.rows.now in
    let b = c.link_at.new.rows in
    ok_on c.link_at.result (Links a b (EdgeAt code acts p)) (HasEdges code acts (p + 1) b)
    (λ v. more_edges code acts a b p c.requires.before v) c.link_at.ensures.edges
