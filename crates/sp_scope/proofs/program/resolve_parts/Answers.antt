use Rattle.std.proofs.Common.{◌∙◌, ap, [], None}
use Rattle.sp_tree.specs.SyntaxOf as plain
use Rattle.sp_scope.specs.Walks.{seen_block}
use Rattle.sp_scope.specs.Firsts.{files_first}
use Rattle.sp_scope.proofs.Heads.{files_are}
use Rattle.sp_scope.proofs.PartBreaches.{resolved_found, resolved_refused}
use Rattle.sp_scope.proofs.program.resolve_parts.Goals as goal

pub returns-in-Some : goal.returns-in-Some
returns-in-Some c =
    let found = c.check_flagged-first.ensures ∙ files_are c.items.result.now None in
    let files = found ∙ ap (λ xs. files_first [] xs None) c.items.ensures in
    resolved_refused c.in-Some.r
    (plain.program_of (record { name = c.args.name; heading = c.args.heading; block = c.args.block }))
    c.check_flagged-first.result (seen_block c.in-Ok.value.tree)
    c.in-Ok.value.first files c.in-Ok.ensures c.in-Some.is

pub returns : goal.returns
returns c =
    let found = c.check_flagged-first.ensures ∙ files_are c.items.result.now None in
    let files = found ∙ ap (λ xs. files_first [] xs None) c.items.ensures in
    resolved_found _ (plain.program_of (record { name = c.args.name; heading = c.args.heading; block = c.args.block }))
    c.check_flagged-first.result (seen_block c.in-Ok.value.tree)
    c.in-Ok.value.first files c.in-Ok.ensures c.in-None.is
    c.program_tables.ensures
