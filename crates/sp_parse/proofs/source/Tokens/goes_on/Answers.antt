use Rattle.sp_parse.proofs.Pending.{passed, not_passed}
use Rattle.sp_parse.proofs.source.Tokens.goes_on.Goals as goal

pub returns-then-pass : goal.returns-then-pass
returns-then-pass c = passed c.pass.ensures c.if-pass.true

pub returns : goal.returns
returns c = record {
  differs = c.pass.new.self;
  passes = not_passed c.pass.ensures c.if-pass.false;
  token = c.expect.result;
  expects = c.expect.ensures;
}
