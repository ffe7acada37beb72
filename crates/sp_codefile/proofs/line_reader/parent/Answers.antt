use Rattle.std.proofs.Common.{◌≡◌, sym, ◌∙◌, codes, rules}
use Rattle.sp_codefile.proofs.WordLaws.{no_sign}
use Rattle.sp_codefile.proofs.line_reader.parent.Goals as goal

pub returns-then-eq-clause-some : goal.returns-then-eq-clause-some
returns-then-eq-clause-some c = λ b l e.
    let w : c.args.word.now ≡ codes "-" = search rules in
    absurd (no_sign b l (sym w ∙ e))
