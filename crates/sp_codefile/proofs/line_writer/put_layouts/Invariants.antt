use Rattle.std.proofs.Common.{All, take}
use Rattle.std.specs.List.{flat_map}
use Rattle.sp_codefile.specs.CodeText.{line, layout_text, LayoutFits}
use Rattle.sp_base.specs.Adds.{Adds}
use Rattle.sp_codefile.proofs.line_writer.put_layouts.Given as goal

abbrev pub invariant-loop-layout : goal.invariant-loop-layout
invariant-loop-layout l = record {
  text : Adds l.fn.out l.out (flat_map (λ l. line (layout_text l)) (take l.layout-index l.layouts));
  fits : All LayoutFits (take l.layout-index l.layouts);
}
