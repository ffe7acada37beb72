use Rattle.std.proofs.Common.{sym, ◌∙◌, refl}
use Rattle.sp_verify_shapes.specs.Stacks.{shape_of}
use Rattle.sp_verify_effects.proofs.WindowLaws.{next_new, next_other, one_window}
use Rattle.sp_verify_effects.proofs.windows.next_window.Goals as goal

pub returns-in-None : goal.returns-in-None
returns-in-None c = λ st first is.
    let at = c.window_at-window.ensures in
    let w = c.wider.ensures in
    next_other st c.args.n c.args.below (shape_of c.args.shape) is c.args.windows.now c.args.last.now first
    c.window_at-window.result c.wider.result (at.is_window st first.windows) at.there w.count w.deep w.least
    (sym c.variable_of.ensures ∙ c.in-None.is)

pub returns-then-is_new : goal.returns-then-is_new
returns-then-is_new c = λ st first is.
    let at = c.window_at-window.ensures in
    let w = c.wider-then-is_new.ensures in
    next_new st c.args.n c.args.below (shape_of c.args.shape) is c.args.windows.now c.args.last.now first
    c.window_at-window.result c.wider-then-is_new.result (at.is_window st first.windows) at.there w.count w.deep w.least
    c.in-Some.x (sym c.variable_of.ensures ∙ c.in-Some.is) (c.is_new.ensures c.if-is_new.true)

pub returns-else-is_new : goal.returns-else-is_new
returns-else-is_new c = λ st first is. one_window st c.args.n (record { count = 1; deep = c.args.n }) refl refl
