use Rattle.std.proofs.Common.{All, take}
use Rattle.std.specs.List.{flat_map}
use Rattle.sp_codefile.specs.CodeText.{line, text_text, IsByte}
use Rattle.sp_base.specs.Adds.{Adds}
use Rattle.sp_codefile.proofs.line_writer.put_texts.Given as goal

abbrev pub invariant-loop-text : goal.invariant-loop-text
invariant-loop-text l = record {
  text : Adds l.fn.out l.out (flat_map (λ t. line (text_text t)) (take l.text-index l.texts));
  fits : All (All IsByte) (take l.text-index l.texts);
}
