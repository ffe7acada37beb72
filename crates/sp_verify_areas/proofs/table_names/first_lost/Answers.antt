use Rattle.std.proofs.Common.{◌≡◌, ◌∙◌, ◌+◌, ◌<◌, List, length, Some, get_or, refl, ap, sym, subst, arith}
use Rattle.std.specs.Prelude.{slice_get}
use Rattle.std.proofs.lemmas.Option.{slice_get-get_or, slice_get_read}
use Rattle.sp_code.specs.declared.code.ChildTable.{ChildTable}
use Rattle.sp_code.specs.declared.code.ForkTable.{ForkTable}
use Rattle.sp_code.specs.declared.code.Parts.{Parts}
use Rattle.sp_verify_areas.specs.Alone.{ChildFails}
use Rattle.sp_verify_areas.specs.LeastPlaces.{IsLeast, Upto}
use Rattle.sp_verify_areas.specs.declared.table_names.Namer.{Namer}
use Rattle.sp_verify_areas.specs.declared.table_names.Namer.TheVariants as namer
use Rattle.sp_verify_areas.specs.Namers.{LostAt}
use Rattle.sp_verify_areas.proofs.Leasts.{more}
use Rattle.sp_verify_areas.proofs.NamedTables.{one_table, all_tables}
use Rattle.sp_verify_areas.proofs.table_names.first_lost.Goals as goal

pub bounds-items-t : goal.bounds-items-t
bounds-items-t c =
    let code = c.args.code.now in
    let m : length c.items-tables.result.now ≡ length code.forks = ap (λ (z : List ForkTable). length z)
    (c.items-tables.ensures ∙ ap (λ (z : Parts). z.forks) c.parts.ensures.same) in
    let e = c.requires.namers.0 in
    let n = ap (λ (ws : List Namer). length ws) c.items.ensures in
    omega (arith, m, e, n)

pub loop-t-preserved : goal.loop-t-preserved
loop-t-preserved c =
    let code = c.args.code.now in
    let fs = c.items-tables.result.now in
    let t = c.loop-t.t in
    let tb = c.index-tables-t.result in
    let lost = c.is_lost-lost.result in
    let same : fs ≡ code.forks = c.items-tables.ensures ∙ ap (λ (z : Parts). z.forks) c.parts.ensures.same in
    let there : slice_get code.forks t ≡ Some tb = subst (λ (zs : List ForkTable). slice_get zs t ≡ Some tb) same
    (slice_get_read fs (length fs) t tb refl c.loop-t-test.true c.index-tables-t.is) in
    let is : c.items-in-loop-t.result.now ≡ tb.children = c.items-in-loop-t.ensures ∙ ap (λ (z : ForkTable). z.children)
    (sym c.index-tables-t.is) in
    let here : IsLeast (ChildFails (λ ch. lost) tb.children 0) c.first_child-here.result = subst
    (λ (zs : List ChildTable). IsLeast (ChildFails (λ ch. lost) zs 0) c.first_child-here.result) is
    c.first_child-here.ensures in
    let ws = c.items.result.now in
    let m = ap (λ (zs : List ForkTable). length zs) same in
    let e = c.requires.namers.0 in
    let n = ap (λ (ws : List Namer). length ws) c.items.ensures in
    let l : t < length ws = let q = c.loop-t-test.true in omega (arith, m, e, n, q) in
    let w = get_or ws t namer.Nothing in
    let named : slice_get c.args.namers.now t ≡ Some w = subst (λ (zs : List Namer). slice_get zs t ≡ Some w)
    c.items.ensures (slice_get-get_or ws t namer.Nothing l) in
    let one = one_table code c.args.owners.now c.requires.owners t tb w lost c.first_child-here.result
    there (c.requires.namers.1 t w named) c.is_lost-lost.ensures here in
    subst (IsLeast (Upto (LostAt code) (t + 1))) (sym c.least-first.ensures) (more (LostAt code) t c.loop-t.first
    c.first_child-here.result c.loop-t.invariant one)

pub returns : goal.returns
returns c =
    let code = c.args.code.now in
    let m : length c.items-tables.result.now ≡ length code.forks = ap (λ (z : List ForkTable). length z)
    (c.items-tables.ensures ∙ ap (λ (z : Parts). z.forks) c.parts.ensures.same) in
    let e : length code.forks ≡ c.loop-t.t = omega (arith, m) in
    all_tables code c.loop-t.t c.loop-t.first e c.loop-t.invariant
