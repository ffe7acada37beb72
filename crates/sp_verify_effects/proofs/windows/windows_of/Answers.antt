use Rattle.std.proofs.Common.{[]}
use Rattle.sp_verify_effects.proofs.WindowLaws.{first_windows, no_windows}
use Rattle.sp_verify_effects.proofs.windows.windows_of.Goals as goal

pub returns-then-not-takes_reference : goal.returns-then-not-takes_reference
returns-then-not-takes_reference c = no_windows c.args.g.now.shapes.now.stacks c.new-windows.result
    c.new-windows.ensures

pub loop-n-init : goal.loop-n-init
loop-n-init c = first_windows c.args.g.now.shapes.now.stacks c.new-windows.result c.new-last.result
    c.new-windows.ensures

pub loop-n-preserved : goal.loop-n-preserved
loop-n-preserved c = c.in-Ok.ensures

pub returns : goal.returns
returns c = c.loop-n.invariant.windows
