use Rattle.std.proofs.Common.{◌≡◌, ◌++◌, take, drop}
use Rattle.sp_codefile.specs.Cuts.{blank_cut}
use Rattle.sp_codefile.proofs.words.blank_cut.Given as goal

abbrev pub invariant-loop-at : goal.invariant-loop-at
invariant-loop-at l = record {
  before : (blank_cut l.text).0 ≡ take l.at l.text ++ (blank_cut (drop l.at l.text)).0;
  rest : (blank_cut l.text).1 ≡ (blank_cut (drop l.at l.text)).1;
}
