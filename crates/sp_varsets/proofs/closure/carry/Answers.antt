use Rattle.std.proofs.Common.{◌≡◌, ◌∙◌, ◌||◌, ◌&&◌, not, ℕ, set, ap, subst, sym}
use Rattle.sp_varsets.specs.Members.{has}
use Rattle.sp_varsets.specs.Paths.{row_has, member, Carried}
use Rattle.sp_varsets.proofs.Paths.{carried, set_set, set_other}
use Rattle.sp_varsets.proofs.closure.carry.Goals as goal

pub returns : goal.returns
returns c =
    let e : c.replace-empty.new.self ≡ set c.args.rows.now c.args.to c.add_row.new.row =
    c.replace-empty.ensures.list ∙ (ap (λ z. set z c.args.to c.add_row.new.row) c.replace-row.ensures.list
    ∙ set_set c.args.rows.now c.args.to c.new-empty.result c.add_row.new.row) in
    let from : (x : ℕ) → member c.items.result.now c.args.from x ≡ member c.args.rows.now c.args.from x =
    λ x. ap (λ z. member z c.args.from x) (c.items.ensures ∙ c.replace-row.ensures.list)
    ∙ ap (λ o. row_has o x) (set_other c.args.rows.now c.args.to c.args.from c.new-empty.result
    c.if-from-to.false) in
    subst (λ z. Carried c.args.rows.now z c.args.to c.args.from c.args.hidden.now c.in-Ok.value) (sym e)
    (carried c.args.rows.now c.args.to c.args.from c.replace-row.result c.add_row.new.row c.args.hidden.now
    c.in-Ok.value c.replace-row.ensures.replaced c.requires c.if-from-to.false
    (λ x. c.in-Ok.ensures.added x ∙ ap (λ b. has c.replace-row.result x || (b && not (has c.args.hidden.now x)))
    (from x))
    c.in-Ok.ensures.same c.in-Ok.ensures.changed)
