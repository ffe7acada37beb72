-- What names, compilation and marks answer one after the other, as one answer about the text.
use Rattle.std.proofs.Common.{◌≡◌, ◌≤◌, ℕ, List, Result, Ok, Err, inl, sym, ap, ◌∙◌, subst}
use Rattle.sp_base.specs.declared.halt.Halt.{Halt}
use Rattle.sp_base.specs.declared.halt.Halt.TheVariants as halt
use Rattle.sp_tree.specs.CheckedOf.{program_of}
use Rattle.sp_tree.specs.declared.checked.Checked.{Checked}
use Rattle.sp_tree.specs.Bare.{without_places}
use Rattle.sp_code.specs.declared.code.Parts.{Parts}
use Rattle.sp_code.specs.Places.{tree_length}
use Rattle.sp_generate.specs.GeneratorAnswers.{IsCodeOf}
use Rattle.sp_lines.specs.declared.mark.Mark.{Mark}
use Rattle.sp_lines.specs.Marks.{marks}
use Rattle.sp_lines.specs.Constants.{by_kind}
use Rattle.sp_front.specs.declared.marks.MarkedText.{MarkedText}
use Rattle.sp_front.specs.declared.to_code.CompiledText.{CompiledText}
use Rattle.sp_front.specs.Codes.{IsCompiled}
use Rattle.sp_front.specs.Compiles.{IsAccepted}
use Rattle.sp_front.specs.TextMarks.{IsMarked, MarksText, NamesTo}
use Rattle.sp_front.specs.Texts.{ParsesTo}

reading_failed : (text : List ℕ) (e : Halt) → ParsesTo text (Err e) → NamesTo text (Err e)
reading_failed text halt.Memory h = tt
reading_failed text (halt.Refused r) h = h

pub unread : (text : List ℕ) (result : Result (List (List (List ℕ))) Halt) (e : Halt)
    → (y : Halt) × (result ≡ Err y) × (y ≡ e) → ParsesTo text (Err e) → NamesTo text result
unread text result e p h = subst (NamesTo text) (sym (p.1 ∙ ap Err p.2)) (reading_failed text e h)

names_failed : (text : List ℕ) (e : Halt) → NamesTo text (Err e) → MarksText text (Err e)
names_failed text halt.Memory h = tt
names_failed text (halt.Refused r) h = inl (inl (inl h))

pub unnamed : (text : List ℕ) (result : Result MarkedText Halt) (e : Halt) → (y : Halt) × (result ≡ Err y) × (y ≡ e)
    → NamesTo text (Err e) → MarksText text result
unnamed text result e p h = subst (MarksText text) (sym (p.1 ∙ ap Err p.2)) (names_failed text e h)

pub all_marked : (text : List ℕ) (r : CompiledText) → IsCompiled text r → (checked : Checked) (code : Parts)
    → checked ≡ r.accepted.checked → code ≡ r.code → (ms : List Mark) → ms ≡ marks (program_of checked)
    → (names : List (List (List ℕ))) → NamesTo text (Ok names) → (table : List (List (List ℕ)))
    → table ≡ by_kind checked.kinds names
    → IsMarked text (record { code = code; checked = checked; marks = ms; constants = table })
all_marked text r h checked code e f ms m names (tree, is, k) table t =
    record {
      accepted = subst (λ (x : Checked). IsAccepted text (program_of x)) (sym e) h.accepted;
      short = subst (λ (x : Checked). tree_length (without_places (program_of x)) ≤ 1048576) (sym e) h.short;
      code = subst (λ (x : Checked × Parts). IsCodeOf (without_places (program_of x.0)) x.1)
          (λ i. (sym e i, sym f i)) h.code;
      marks = m;
      constants = (tree, is, t ∙ ap (by_kind checked.kinds) k);
    }
