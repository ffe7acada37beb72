use Rattle.std.proofs.Common.{◌<◌, ◌∷◌, length, refl, ap, sym, subst}
use Rattle.sp_base.proofs.Facts.{item_there}
use Rattle.sp_verify_areas.specs.Tree.{IsAround, IsJump, around_list, home_of}
use Rattle.sp_verify_areas.proofs.TreeGrowth.{node_inner, node_root}
use Rattle.sp_verify_areas.proofs.tree.node_inside.Goals as goal

pub returns-in-None : goal.returns-in-None
returns-in-None c = λ ls lists are f i.
    node_root ls lists (length c.args.tree.now)
    (home_of c.args.frame ∷ around_list lists c.args.around) c.args.frame _ f refl refl c.len.ensures refl
    (ap (λ o. home_of c.args.frame ∷ around_list lists o) c.in-None.is)

pub returns-in-Some : goal.returns-in-Some
returns-in-Some c = λ ls lists are f i.
    let size = length c.args.tree.now in
    let e = ap (λ o. home_of c.args.frame ∷ around_list lists o) c.in-Some.is in
    let l : c.in-Some.to < size = subst (IsAround size) c.in-Some.is i in
    let j = c.jump_inside.ensures ls lists (home_of c.args.frame) are l in
    let m = item_there c.args.tree.now c.in-Some.to l in
    node_inner ls lists size (home_of c.args.frame ∷ around_list lists c.args.around) c.args.frame _ c.in-Some.to f l
    (are c.in-Some.to m.0 m.1).short refl refl (subst (λ hs. IsJump lists size hs c.jump_inside.result) (sym e) j) e
