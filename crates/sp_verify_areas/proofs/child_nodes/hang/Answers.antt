use Rattle.std.proofs.Common.{◌≡◌, List, length, None, Some, ap, sym, ◌∙◌, subst, arith}
use Rattle.std.specs.Prelude.{slice_get, slice_set}
use Rattle.std.proofs.lemmas.Option.{slice_get_within}
use Rattle.sp_base.proofs.Facts.{value_if_some}
use Rattle.sp_code.specs.declared.code.ChildTable.{ChildTable}
use Rattle.sp_code.specs.declared.code.Parts.{Parts}
use Rattle.sp_verify_rules.specs.Areas.{instr_at, table_named}
use Rattle.sp_verify_areas.specs.Around.{AreAttached, AttachesChildren, IsAttachedBy, PutsChildren, node_of}
use Rattle.sp_verify_areas.specs.declared.tree.Grown.{Grown}
use Rattle.sp_verify_areas.specs.Grown.{node_at}
use Rattle.sp_verify_areas.specs.Owners.{Owns}
use Rattle.sp_verify_areas.proofs.TreeGrowth.{steps_none}
use Rattle.sp_verify_areas.proofs.BlockNodes.{is_none}
use Rattle.sp_verify_areas.proofs.OwnerClosure.{named_within}
use Rattle.sp_verify_areas.proofs.Surroundings.{attached_has, attached_past, attached_step, owner_there}
use Rattle.sp_verify_areas.proofs.child_nodes.hang.Goals as goal

pub returns-then-is_some : goal.returns-then-is_some
returns-then-is_some c =
    let code = c.args.code.now in
    let g = c.args.grown.now in
    let has = value_if_some c.node_at.result (sym c.is_some.ensures ∙ c.if-is_some.true) in
    steps_none (AreAttached code c.args.of_blocks.now) g
    (IsAttachedBy code c.args.owners.now c.args.of_blocks.now c.args.q) c.requires.just
    (attached_has code c.args.of_blocks.now c.args.owners.now c.args.q c.in-Some.t has.0 g (sym c.table_number.ensures
    ∙ c.in-Some.is) (sym c.node_at.ensures ∙ has.1))

pub returns-in-None-get : goal.returns-in-None-get
returns-in-None-get c =
    let code = c.args.code.now in
    let g = c.args.grown.now in
    let past : slice_get code.forks c.in-Some.t ≡ None = ap (λ (z : Parts). slice_get z.forks c.in-Some.t)
    (sym c.parts.ensures.same) ∙ sym c.in-None-get.ensures in
    steps_none (AreAttached code c.args.of_blocks.now) g
    (IsAttachedBy code c.args.owners.now c.args.of_blocks.now c.args.q) c.requires.just
    (attached_past code c.args.of_blocks.now c.args.owners.now c.args.q c.in-Some.t g (sym c.table_number.ensures
    ∙ c.in-Some.is) past)

pub replace-none-requires : goal.replace-none-requires
replace-none-requires c =
    let code = c.args.code.now in
    let tb = c.in-Some-get.table.now in
    let there : slice_get code.forks c.in-Some.t ≡ Some tb = ap (λ (z : Parts). slice_get z.forks c.in-Some.t)
    (sym c.parts.ensures.same) ∙ sym c.in-Some-get.ensures in
    let a = slice_get_within code.forks c.in-Some.t tb there in
    let b = c.requires.just.long in
    omega (arith, a, b)

pub returns : goal.returns
returns c =
    let code = c.args.code.now in
    let g = c.args.grown.now in
    let t = c.in-Some.t in
    let tb = c.in-Some-get.table.now in
    let there : slice_get code.forks t ≡ Some tb = ap (λ (z : Parts). slice_get z.forks t) (sym c.parts.ensures.same)
    ∙ sym c.in-Some-get.ensures in
    let names : table_named (instr_at code c.args.q) ≡ Some t = sym c.table_number.ensures ∙ c.in-Some.is in
    let node : node_of code (length g.nodes) c.args.of_blocks.now g.of c.owner_in-owner.result ≡ Some
    c.in-Some-node_of.around = sym c.node_of.ensures ∙ c.in-Some-node_of.is in
    let none : node_at g.of t ≡ None = sym c.node_at.ensures
    ∙ is_none c.node_at.result (sym c.is_some.ensures ∙ c.if-is_some.false) in
    let owns : Owns code c.args.q c.owner_in-owner.result = subst (Owns code c.args.q) (sym c.owner_in-owner.ensures)
    (owner_there code c.args.owners.now c.args.q c.requires.owners (named_within code t c.args.q names)) in
    let new : Grown = record { nodes = c.put_children.new.nodes; of = c.replace-none.new.self } in
    let hangs : AttachesChildren g new t c.in-Some-node_of.around tb.children = record {
      of = c.replace-none.ensures.list ∙ ap (λ n. slice_set g.of t (Some n)) c.len-base.ensures;
      puts = subst (λ (ts : List ChildTable). PutsChildren g.nodes new.nodes c.in-Some-node_of.around ts (length ts))
          c.items.ensures c.in-Ok.ensures;
    } in
    attached_step code c.args.of_blocks.now g new c.requires.just t c.args.q
    c.in-Some-node_of.around tb
    c.owner_in-owner.result names owns node none there hangs c.args.owners.now
