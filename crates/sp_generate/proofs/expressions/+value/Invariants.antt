use Rattle.std.proofs.Common.{◌≡◌, map, drop}
use Rattle.sp_tree.specs.CheckedOf.{selectors, selector_of, actuals, actual_of}
use Rattle.sp_tree.specs.Bare.{bare_selectors, bare_actuals}
use Rattle.sp_code.specs.Scopes.{selected_type}
use Rattle.sp_code.specs.TreeCode.{selectors_code, actuals_code}
use Rattle.sp_base.specs.Adds.{Covers}
use Rattle.sp_generate.specs.Views.{plain_program, scopes}
use Rattle.sp_generate.proofs.expressions.+value.Given as goal

abbrev pub invariant-put_selectors-loop-s : goal.invariant-put_selectors-loop-s
invariant-put_selectors-loop-s l =
    Covers l.fn.code l.code (selectors_code (plain_program l.g) (scopes l.sc) l.k
    (bare_selectors (selectors (map selector_of (drop l.s-index l.ss)))))
    (selectors_code (plain_program l.g) (scopes l.sc) l.fn.k (bare_selectors (selectors (map selector_of l.ss)))) ×
    (selected_type (plain_program l.g) l.k (bare_selectors (selectors (map selector_of (drop l.s-index l.ss))))
    ≡ selected_type (plain_program l.g) l.fn.k (bare_selectors (selectors (map selector_of l.ss))))

abbrev pub invariant-put_actuals-loop-a : goal.invariant-put_actuals-loop-a
invariant-put_actuals-loop-a l = Covers l.fn.code l.code (actuals_code (plain_program l.g) (scopes l.sc)
    (bare_actuals (actuals (map actual_of (drop l.a-index l.args)))))
    (actuals_code (plain_program l.g) (scopes l.sc) (bare_actuals (actuals (map actual_of l.args))))
