use Rattle.std.proofs.Common.{◌≡◌, sym, subst, length, List, Some}
use Rattle.std.specs.Prelude.{slice_get}
use Rattle.sp_base.proofs.Facts.{on_map}
use Rattle.sp_code.specs.declared.code.ChildTable.{ChildTable}
use Rattle.sp_verify_shapes.specs.Starts.{AddsStarts, IsMadeAt, IsOfChildren}
use Rattle.sp_verify_shapes.proofs.AreaEntries.{of_child, made_is, adds_as}
use Rattle.sp_verify_shapes.proofs.begin.begin_at.Goals as goal

pub begin_children-requires : goal.begin_children-requires
begin_children-requires c = λ k ch e.
    of_child c.args.code.now c.args.p c.in-Some.t c.in-Some-table.table.now (sym c.in-Some.ensures)
    (sym c.in-Some-table.ensures) c.args.o c.requires (sym c.if-is_same.ensures) k ch
    (subst (λ (ts : List ChildTable). slice_get ts k ≡ Some ch) c.items.ensures e)

pub returns-in-Some-table : goal.returns-in-Some-table
returns-in-Some-table c =
    let code = c.args.code.now in
    let p = c.args.p in
    let tb = c.in-Some-table.table.now in
    let xs = c.args.arrivals.now in
    let ys = c.begin_children.new.arrivals in
    let ts = c.items.result.now in
    on_map c.begin_children.result (AddsStarts code (IsOfChildren ts (length ts)) xs ys)
    (AddsStarts code (IsMadeAt code p) xs ys)
    (λ h. adds_as code (IsOfChildren ts (length ts)) (IsMadeAt code p) xs ys
    (λ q m. subst (λ (z : List ChildTable). IsOfChildren z (length z) q) (sym c.items.ensures)
    (made_is code p c.in-Some.t tb (sym c.in-Some.ensures) (sym c.in-Some-table.ensures) q m)) h)
    c.begin_children.ensures
