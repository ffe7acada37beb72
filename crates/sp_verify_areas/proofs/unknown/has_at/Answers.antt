use Rattle.std.proofs.Common.{◌≡◌, Option, Some, true, false, ap, sym, ◌∙◌, subst}
use Rattle.std.specs.Prelude.{slice_get}
use Rattle.sp_code.specs.declared.code.Layout.{Layout}
use Rattle.sp_code.specs.Machine.{layout_of}
use Rattle.sp_verify_rules.specs.Areas.{on_option}
use Rattle.sp_verify_rules.specs.NameRules.{has_variable, is_in}
use Rattle.sp_verify_areas.specs.declared.tree.Frame.{Frame}
use Rattle.sp_verify_areas.specs.Tree.{IsFrame, home_of}
use Rattle.sp_verify_areas.proofs.KnownVariables.{in_at}
use Rattle.sp_verify_areas.proofs.unknown.has_at.Goals as goal

pub returns-in-Some-get : goal.returns-in-Some-get
returns-in-Some-get c = λ f t.
    let ls = c.args.layouts.now in
    let l = c.in-Some.l.now in
    let b = c.in-Block.block in
    let j = c.in-Block.j in
    let placed : slice_get ls j ≡ layout_of ls b = subst (IsFrame ls) c.in-Block.is f in
    let there : layout_of ls b ≡ Some l = sym placed ∙ sym c.in-Some.ensures in
    let here : is_in c.args.x l.variables ≡ true = in_at c.args.x c.in-Some-get.y.now l.variables c.args.place
    (sym c.in-Some-get.ensures) t in
    subst (λ (z : Frame). has_variable ls c.args.x (home_of z) ≡ true) (sym c.in-Block.is)
    (ap (λ (o : Option Layout). on_option false o (λ l. is_in c.args.x l.variables)) there ∙ here)
