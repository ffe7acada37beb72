use Rattle.std.proofs.Common.{◌++◌, refl, codes}
use Rattle.sp_base.specs.Faults.{fault_name}
use Rattle.sp_base.proofs.Additions.{joined}
use Rattle.sp_where.specs.States.{line_start}
use Rattle.sp_where.proofs.state.put_faulted.Goals as goal

pub returns : goal.returns
returns c = λ kept.
    let two = c.put_fault.ensures kept in
    let one = c.put_start.ensures two.0 in (
      one.0,
      joined c.args.out.now.items.items (line_start c.args.name.now c.args.at)
          (codes "fault " ++ fault_name c.args.fault ++ codes "\n") one.1 two.1 refl,
    )
