use Rattle.std.proofs.Common.{ℕ, List, slice_get, sym, ap, ◌∙◌, option_copied}
use Rattle.sp_generate.specs.Views.{plain_program}
use Rattle.sp_generate.proofs.Tables.{offset_found}
use Rattle.sp_generate.proofs.single.offset.Goals as goal

pub returns-in-Some-get : goal.returns-in-Some-get
returns-in-Some-get c fs e =
    offset_found (plain_program c.args.g.now) c.args.k c.args.f c.in-Some-get.n.now c.in-Some.offsets.now fs
    (ap (λ (os : List (List ℕ)). slice_get os c.args.k) (sym c.args.g.now.shifted) ∙ sym c.get.ensures
    ∙ ap option_copied c.in-Some.is)
    (sym c.get-in-Some.ensures ∙ ap option_copied c.in-Some-get.is) e
