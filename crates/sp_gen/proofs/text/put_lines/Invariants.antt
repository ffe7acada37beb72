use Rattle.std.proofs.Common.{◌≡◌, ◌++◌, drop}
use Rattle.std.specs.List.{flat_map}
use Rattle.sp_gen.specs.GeneratedText.{line_text}
use Rattle.sp_gen.proofs.text.put_lines.Given as goal

abbrev pub invariant-loop-line : goal.invariant-loop-line
invariant-loop-line l = l.out.items ++ flat_map (λ line. line_text line.now) (drop l.line-index l.fn.lines)
    ≡ l.fn.out.items ++ flat_map (λ line. line_text line.now) l.fn.lines
