use Rattle.std.proofs.Common.{ap, sym, ◌∙◌, subst, List, length}
use Rattle.sp_tree.specs.Interference.{IsMember}
use Rattle.sp_code.specs.declared.code.Formal.{Formal}
use Rattle.sp_verify_shapes.specs.Stacks.{list_of}
use Rattle.sp_verify_effects.specs.Calls.{actuals}
use Rattle.sp_verify_effects.proofs.ClashLaws.{among}
use Rattle.sp_verify_effects.proofs.clash.meets.Goals as goal

pub returns-then-l-fact : goal.returns-then-l-fact
returns-then-l-fact c = λ t. absurd (cc t)

pub returns-in-None : goal.returns-in-None
returns-in-None c = λ t. absurd (cc t)

pub returns-then-owns : goal.returns-then-owns
returns-then-owns c = λ t. absurd (cc t)

pub returns-in-Ok : goal.returns-in-Ok
returns-in-Ok c = λ t. record {
  begins = c.if-l-fact.false;
  variable = c.in-Some.x;
  does = sym c.touched.ensures ∙ c.in-Some.is;
  outside = sym c.owns.ensures ∙ c.if-owns.false;
  among = subst (IsMember c.in-Some.x)
      (c.items-in-Some.ensures
      ∙ (c.in-Ok.ensures
      ∙ ap (λ (fs : List Formal). actuals fs (list_of c.args.stacks.now c.args.stack) (length fs)) c.items.ensures))
      (among c.in-Some.x c.items-in-Some.result.now (sym c.contains.ensures.value ∙ t));
}
