use Rattle.std.proofs.Common.{◌≡◌, ◌+◌, ap, List, refl}
use Rattle.std.specs.Prelude.{slice_get, Some}
use Rattle.sp_base.proofs.Facts.{on_map as ok_on}
use Rattle.sp_verify_rules.specs.Shapes.{Shape}
use Rattle.sp_verify_shapes.specs.declared.stacks.Stacks.{Stacks}
use Rattle.sp_verify_shapes.specs.Stacks.{list_of, shape_of}
use Rattle.sp_verify_effects.specs.declared.windows.Window.{Window}
use Rattle.sp_verify_effects.specs.Windows.{AreFirstWindows, AreLast}
use Rattle.sp_verify_effects.proofs.WindowLaws.{last_none, no_window, windows_more}
use Rattle.sp_verify_effects.proofs.windows.put_window.Goals as goal

pub returns-in-Ok : goal.returns-in-Ok
returns-in-Ok c =
    let st = c.args.stacks.now in
    let n = c.args.n in
    let last = c.args.last.now in
    let w : Window = record { count = 0; deep = n } in
    let first = c.requires.first in
    windows_more st n c.args.windows.now c.push.new.self w last last c.in-Ok.ensures.ok first (no_window st n w refl)
    (last_none st n last c.in-None.ensures first.last)

pub returns-in-Ok-push : goal.returns-in-Ok-push
returns-in-Ok-push c =
    let st = c.args.stacks.now in
    let n = c.args.n in
    let old = c.args.last.now in
    let new = c.put_last.new.last in
    let w = c.next_window-window.result in
    let s = shape_of c.in-Some.shape in
    let first = c.requires.first in
    let is = c.in-Some.ensures.0 in
    ok_on c.put_last.result
    ((z : Stacks) → slice_get (list_of z n) 0 ≡ Some s → AreLast z n old → AreLast z (n + 1) new)
    (AreFirstWindows st (n + 1) c.push-in-Some.new.self new)
    (λ v. windows_more st n c.args.windows.now c.push-in-Some.new.self w old new c.in-Ok-push.ensures.ok first
    (c.next_window-window.ensures st first is) (v st (ap (λ (z : List Shape). slice_get z 0) is) first.last))
    c.put_last.ensures
