use Rattle.std.proofs.Common.{◌∙◌, ap, List}
use Rattle.std.specs.List.{list_any}
use Rattle.sp_types.specs.declared.tables.Ordinal.{Ordinal}
use Rattle.sp_types.specs.TypeRules.{is_same_ordinal}
use Rattle.sp_types.proofs.ConstantSets.{found_by}
use Rattle.sp_types.proofs.seen.Seen.contains.Goals as goal

pub returns : goal.returns
returns c =
    c.contains.ensures ∙
    found_by c.self.inside.list.items c.self.inside.set.keys c.args.o c.key_of-key.result c.key_of-key.ensures
    c.self.invariant ∙
    ap (λ (xs : List Ordinal). list_any (is_same_ordinal c.args.o) xs) c.self.view_is
