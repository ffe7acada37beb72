use Rattle.std.proofs.Common.{◌∙◌, sym, arith}
use Rattle.sp_verify_shapes.proofs.repeats.is_repeat.Goals as goal

pub returns : goal.returns
returns c = λ e.
    let calls = c.are_same.ensures c.if-not-are_same.false in
    let lists = c.are_same-2.ensures c.if-not-are_same-2.false in
    record {
      earlier = omega arith;
      block = calls.0;
      calls = sym c.called_block.ensures ∙ calls.1;
      called = sym c.called_block-2.ensures ∙ calls.2;
      list = lists.0;
      comes = sym c.reached.ensures ∙ lists.1;
      came = sym c.reached-2.ensures ∙ lists.2;
      owner = c.have_one_owner.ensures e;
    }
