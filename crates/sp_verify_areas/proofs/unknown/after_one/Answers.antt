use Rattle.std.proofs.Common.{◌≡◌, ◌⊎◌, List, length, None, Some, ap, sym, ◌∙◌, subst}
use Rattle.std.specs.Prelude.{slice_get}
use Rattle.sp_code.specs.declared.code.ChildTable.{ChildTable}
use Rattle.sp_code.specs.declared.code.Parts.{Parts}
use Rattle.sp_verify_rules.specs.Areas.{homes, instr_at, table_named}
use Rattle.sp_verify_areas.specs.LeastPlaces.{IsLeast, Upto}
use Rattle.sp_verify_areas.specs.Unknown.{ChildUnknown, UnknownBy}
use Rattle.sp_verify_areas.proofs.KnownVariables.{after_none, after_table, never_named, never_there}
use Rattle.sp_verify_areas.proofs.unknown.after_one.Goals as goal

pub returns-in-None : goal.returns-in-None
returns-in-None c =
    let code = c.args.code.now in
    after_none code c.args.q c.args.before (λ p. never_named code c.args.q p (sym c.table_number.ensures
    ∙ c.in-None.is)) c.requires.before

pub returns-in-None-get : goal.returns-in-None-get
returns-in-None-get c =
    let code = c.args.code.now in
    let t = c.in-Some.t in
    let past : slice_get code.forks t ≡ None = ap (λ (z : Parts). slice_get z.forks t) (sym c.parts.ensures.same)
    ∙ sym c.in-None-get.ensures in
    after_none code c.args.q c.args.before (λ p. never_there code c.args.q p t (sym c.table_number.ensures
    ∙ c.in-Some.is) past) c.requires.before

pub returns : goal.returns
returns c =
    let code = c.args.code.now in
    let t = c.in-Some.t in
    let tb = c.in-Some-get.table.now in
    let one = c.requires.one in
    let there : slice_get code.forks t ≡ Some tb = ap (λ (z : Parts). slice_get z.forks t) (sym c.parts.ensures.same)
    ∙ sym c.in-Some-get.ensures in
    let names : table_named (instr_at code c.args.q) ≡ Some t = sym c.table_number.ensures ∙ c.in-Some.is in
    after_table code c.args.q t tb one.0 c.after_children.result names one.1 there
    (subst (λ (ts : List ChildTable). IsLeast (λ p. Upto (UnknownBy code) c.args.q p
    ⊎ Upto (ChildUnknown code.layouts (homes code one.0) ts) (length ts) p) c.after_children.result) c.items.ensures
    (c.after_children.ensures one.0 one.1))
