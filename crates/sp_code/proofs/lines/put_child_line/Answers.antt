use Rattle.std.proofs.Common.{◌≡◌, ℕ, List, ◌++◌, refl, append_assoc, codes, decimal}
use Rattle.std.specs.List.{flat_map}
use Rattle.sp_code.specs.declared.code.ChildTable.{ChildTable}
use Rattle.sp_code.specs.Listing.{number_text, child_line}
use Rattle.sp_base.proofs.Additions.{joined}
use Rattle.sp_code.proofs.lines.put_child_line.Goals as goal

regrouped : (e m f s g n : List ℕ) → e ++ (m ++ f ++ s ++ g ++ n) ≡ e ++ m ++ f ++ s ++ g ++ n
regrouped e m f s g n = simp append_assoc refl

whole : (t k : ℕ) (x : ChildTable)
    → (codes "table " ++ decimal t ++ codes " child " ++ decimal k ++ codes " entry " ++ decimal x.entry)
    ++ (codes " moves" ++ flat_map number_text x.moved ++ codes " shares" ++ flat_map number_text x.shared
    ++ codes "\n") ≡ child_line t k x
whole t k x =
    regrouped (codes "table " ++ decimal t ++ codes " child " ++ decimal k ++ codes " entry " ++ decimal x.entry)
    (codes " moves") (flat_map number_text x.moved) (codes " shares") (flat_map number_text x.shared) (codes "\n")

pub returns : goal.returns
returns c k =
    let lists = c.put_lists.ensures k in
    let entry = c.put_child_entry.ensures lists.0 in (
      entry.0,
      joined c.args.out.now.items.items _ _ entry.1 lists.1 (whole c.args.table c.args.number c.args.child.now),
    )
