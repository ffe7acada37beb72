use Rattle.std.proofs.Common.{◌≡◌, ◌+◌, List, Bool, length, refl, sym, subst, arith}
use Rattle.std.proofs.lemmas.Option.{slice_get_read}
use Rattle.sp_code.specs.declared.code.ChildTable.{ChildTable}
use Rattle.sp_verify_areas.specs.Alone.{ChildFails, ChildrenFail, TableFails, child_fails, first_fails, flag_at}
use Rattle.sp_verify_areas.specs.LeastPlaces.{IsLeast, Upto}
use Rattle.sp_verify_areas.proofs.Leasts.{both, more}
use Rattle.sp_verify_areas.proofs.FirstFailures.{one_table}
use Rattle.sp_verify_areas.proofs.tables.first_in.Goals as goal

pub loop-t-preserved : goal.loop-t-preserved
loop-t-preserved c =
    let fs = c.args.tables.now in
    let n = c.args.count in
    let R = TableFails n c.args.forked.now c.args.foralled.now fs in
    let t = c.loop-t.t in
    let tb = c.index-tables-t.result in
    let e = slice_get_read fs (length fs) t tb refl c.loop-t-test.true c.index-tables-t.is in
    let ts = c.items-children.result.now in
    let forks = c.flag_at-forks.result in
    let foralls = c.flag_at-foralls.result in
    let here = c.least-here.result in
    let is : ts ≡ tb.children = c.items-children.ensures in
    let found : IsLeast (ChildrenFail n forks foralls ts) here = subst (IsLeast (ChildrenFail n forks foralls ts))
    (sym c.least-here.ensures) (both (Upto (ChildFails (child_fails n forks) ts) (length ts))
    (ChildFails (first_fails foralls (length ts)) ts 0) c.first_child-any.result c.first_of_forall.result
    c.first_child-any.ensures c.first_of_forall.ensures) in
    let named : IsLeast (ChildrenFail n (flag_at c.args.forked.now t) (flag_at c.args.foralled.now t) ts) here =
    subst (λ (f : Bool). IsLeast (ChildrenFail n f (flag_at c.args.foralled.now t) ts) here) c.flag_at-forks.ensures
    (subst (λ (f : Bool). IsLeast (ChildrenFail n forks f ts) here) c.flag_at-foralls.ensures found) in
    let one = one_table n c.args.forked.now c.args.foralled.now fs t tb here e
    (subst (λ (xs : List ChildTable). IsLeast (ChildrenFail n (flag_at c.args.forked.now t)
    (flag_at c.args.foralled.now t) xs) here) is named) in
    subst (IsLeast (Upto R (t + 1))) (sym c.least-first.ensures)
    (more R t c.loop-t.first here c.loop-t.invariant one)

pub returns : goal.returns
returns c =
    let e : c.loop-t.t ≡ length c.args.tables.now = omega arith in
    subst (λ n. IsLeast (Upto (TableFails c.args.count c.args.forked.now c.args.foralled.now c.args.tables.now) n)
    c.loop-t.first) e c.loop-t.invariant
