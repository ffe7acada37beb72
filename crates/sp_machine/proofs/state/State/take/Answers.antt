use Rattle.std.proofs.Common.{sym, subst}
use Rattle.sp_cell.specs.Map.{HasCells}
use Rattle.sp_code.specs.Memory.{position_at}
use Rattle.sp_machine.specs.declared.state.State.{State}
use Rattle.sp_machine.proofs.Positions.{put_has}
use Rattle.sp_machine.proofs.state.State.take.Goals as goal

pub store-requires : goal.store-requires
store-requires c = subst (λ (x : State). HasCells x.store.map c.args.at 1) (sym c.in-Ok.ensures.taken)
    (put_has c.args.self.now.store position_at _ c.args.at 1 c.requires.has)
