use Rattle.std.proofs.Common.{◌≡◌, drop}
use Rattle.sp_code.specs.Machine.{layout_of}
use Rattle.sp_machine.proofs.layouts.search.Given as goal

abbrev pub invariant-loop-layout : goal.invariant-loop-layout
invariant-loop-layout l = layout_of l.layouts l.block ≡ layout_of (drop l.layout-index l.layouts) l.block
