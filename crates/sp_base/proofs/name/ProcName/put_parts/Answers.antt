use Rattle.std.proofs.Common.{◌++◌, ◌∙◌, append_assoc, codes, take}
use Rattle.sp_base.specs.Names.{pairs_text}
use Rattle.sp_base.proofs.ListFronts.{kept_through}
use Rattle.sp_base.proofs.name.ProcName.put_parts.Goals as goal

pub returns-in_err-put_pair-clause-kept : goal.returns-in_err-put_pair-clause-kept
returns-in_err-put_pair-clause-kept c =
    let pairs = pairs_text (take c.loop-pair.pair-index c.items-pair-items.result.now) in
    kept_through c.args.out.now.items (codes "0" ++ pairs) c.loop-pair.out.items c.put_pair.new.out.items
    (c.loop-pair.invariant ∙ append_assoc c.args.out.now.items (codes "0") pairs) c.put_pair.ensures.kept
