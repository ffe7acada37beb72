-- The text gets the next number; its code is that of its width and the instruction that writes it. Each call says that
-- nothing was lost before it (`good`) where nothing is lost behind it, so the last one comes first here.
use Rattle.std.proofs.Common.{[], ◌∷◌, ◌++◌, ◌∙◌, if◌then◌else◌}
use Rattle.sp_tree.specs.CheckedOf.{width_of}
use Rattle.sp_tree.specs.Bare.{bare_width}
use Rattle.sp_code.specs.declared.instr.Instr.TheVariants as i
use Rattle.sp_code.specs.Scopes.{is_given}
use Rattle.sp_code.specs.TreeCode.{width_code}
use Rattle.sp_generate.specs.BuffersAfter.{written}
use Rattle.sp_generate.specs.Handings.{moved_of, shared_of}
use Rattle.sp_generate.specs.Views.{plain_program, scopes}
use Rattle.sp_generate.specs.CodeBuffers.{buffer_of}
use Rattle.sp_generate.proofs.Forms.{text_is}
use Rattle.sp_generate.proofs.statements.put_written.Goals as goal

pub returns : goal.returns
returns c k =
    let context = c.args.context.now in
    let p = plain_program context.program.now in
    let sc = scopes context.scopes.now in
    let d = written c.args.d.now in
    let w = bare_width (width_of c.args.w.now) in
    let (text_good, (text_same, texts_are)) = c.push_to.ensures _ c.duplicate.ensures k in
    let (put_good, code_is) = c.put_text.ensures text_good in
    let (number_good, (number_same, count_is)) = c.number-number.ensures _ c.narrow.ensures put_good in
    let number = count_is ∙ c.len.ensures in (
      number_good,
      (λ j. buffer_of (text_same j) d.forks (texts_are j))
          ∙ text_is p (moved_of context.sets.now) (shared_of context.sets.now) sc d c.args.text.now
          (width_of c.args.w.now)
          c.put_text.new.code.items.items
          (code_is ∙ (λ j. number_same j ++ (width_code p sc w
          ++ (if is_given w then i.WritewText (number j) else i.WriteText (number j)) ∷ []))),
    )
