use Rattle.std.proofs.Common.{◌≡◌, ◌++◌, take, drop}
use Rattle.sp_codefile.specs.Cuts.{class_cut}
use Rattle.sp_codefile.proofs.words.class_cut.Given as goal

abbrev pub invariant-loop-at : goal.invariant-loop-at
invariant-loop-at l = record {
  before : (class_cut l.low l.high l.text).0 ≡ take l.at l.text ++ (class_cut l.low l.high (drop l.at l.text)).0;
  rest : (class_cut l.low l.high l.text).1 ≡ (class_cut l.low l.high (drop l.at l.text)).1;
}
