use Rattle.std.proofs.Common.{List, [], ◌∷◌, sym, subst}
use Rattle.std.proofs.lemmas.List.{length-append}
use Rattle.sp_verify_areas.specs.declared.tree.Node.{Node}
use Rattle.sp_verify_areas.specs.Grown.{PutsNode}
use Rattle.sp_verify_areas.specs.Tree.{around_list, home_of}
use Rattle.sp_verify_areas.proofs.TreeGrowth.{put_lists}
use Rattle.sp_verify_areas.proofs.tree.put.Goals as goal

pub returns : goal.returns
returns c =
    let old = c.args.tree.now in
    let n = c.node_inside-node.result in
    subst (λ (ns : List Node). PutsNode old ns c.args.frame c.args.around) (sym c.in-Ok.ensures.ok)
    (record {
      more = length-append old (n ∷ []);
      lists = λ ls lists are f i. put_lists ls lists old n
          (home_of c.args.frame ∷ around_list lists c.args.around) are (c.node_inside-node.ensures ls lists are f i);
    })
