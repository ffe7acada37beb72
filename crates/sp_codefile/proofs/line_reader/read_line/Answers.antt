use Rattle.std.proofs.Common.{drop, sym, ap, ◌∙◌}
use Rattle.sp_codefile.specs.Lines.{bytes_of}
use Rattle.sp_codefile.proofs.KindLaws.{says_layout, says_text, says_instr, says_child_of}
use Rattle.sp_codefile.proofs.line_reader.read_line.Goals as goal

pub returns-in-Ok : goal.returns-in-Ok
returns-in-Ok c =
    says_layout c.args.line.now c.in-Ok.value (sym c.kind_of.ensures
    ∙ c.in-Layout.is) (λ m f e. c.in-Ok.ensures m f (c.after.ensures ∙ e))

pub returns-in-Ok-read_bytes : goal.returns-in-Ok-read_bytes
returns-in-Ok-read_bytes c =
    says_text c.args.line.now c.of.result (sym c.kind_of.ensures ∙ c.in-Text.is) (c.of.ensures
    ∙ c.in-Ok-read_bytes.ensures ∙ ap bytes_of c.after-in-Text.ensures)

pub returns-in-Child : goal.returns-in-Child
returns-in-Child c =
    says_child_of c.args.line.now c.read_child.result (sym c.kind_of.ensures ∙ c.in-Child.is)
    (λ t d l f e. c.read_child.ensures.first t d l f (c.after-in-Child.ensures ∙ e))
    (λ t n d l s m f e. c.read_child.ensures.further t n d l s m f (c.after-in-Child.ensures ∙ e))

pub returns-in-Instr : goal.returns-in-Instr
returns-in-Instr c =
    says_instr c.args.line.now c.read_instr.result (sym c.kind_of.ensures ∙ c.in-Instr.is)
    (λ y f e. c.read_instr.ensures y f (c.after-in-Instr.ensures ∙ ap (drop 1) c.blank_cut.ensures.rest ∙ e))
