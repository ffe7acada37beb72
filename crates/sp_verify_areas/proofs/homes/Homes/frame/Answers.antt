use Rattle.std.proofs.Common.{◌≡◌, ◌<◌, List, length, Some, ap, sym, ◌∙◌, subst}
use Rattle.std.specs.Prelude.{slice_get}
use Rattle.std.proofs.lemmas.Option.{same_Some}
use Rattle.sp_code.specs.Memory.{Home}
use Rattle.sp_verify_areas.specs.Tree.{IsFrameOfHome}
use Rattle.sp_verify_areas.proofs.homes.Homes.frame.Goals as goal

pub returns-in-Some-at : goal.returns-in-Some-at
returns-in-Some-at c = λ p a are there lies.
    let h = are.each c.args.p a there lies in
    let node = c.in-Some-at.node in
    let same : h.node ≡ node = same_Some h.node node (same_Some (Some h.node) (Some node) (sym h.node_is
    ∙ sym c.in-Some.ensures ∙ ap Some c.in-Some-at.is)) in
    let found = c.outward.ensures p.layouts are.lists are.tree
    (subst (λ n. n < length c.args.self.now.nodes) same h.within) in
    subst (λ (hs : List Home). IsFrameOfHome p.layouts (slice_get hs c.args.up) c.outward.result)
    (ap are.lists (sym same)
    ∙ h.stands) found
