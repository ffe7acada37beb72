use Rattle.std.proofs.Common.{suc, inl, inr, refl, Some, ap, sym, ◌∙◌}
use Rattle.sp_machine.specs.declared.state.Outcome.TheVariants as outcome
use Rattle.sp_machine.specs.declared.state.Stop.{Stop}
use Rattle.sp_machine.specs.declared.state.Stop.TheVariants as stop
use Rattle.sp_machine.proofs.TurnSteps.{safe_next, safe_both, on_it, on_both, smaller, smaller_both, ends_by}
use Rattle.sp_machine.proofs.TurnSteps.{turned_with}
use Rattle.sp_machine.proofs.state.State.turn.Goals as goal

pub proceed-requires-clause-safe : goal.proceed-requires-clause-safe
proceed-requires-clause-safe c = safe_next c.args.self.now c.args.code.now c.args.limits.now c.loop-fault.self
    c.loop-fault.invariant.same.1 c.loop-fault.invariant.came.0 c.requires.safe c.loop-fault.invariant.begun
    c.loop-fault.invariant.came.1

pub proceed-requires-clause-then : goal.proceed-requires-clause-then
proceed-requires-clause-then c = safe_both c.args.self.now c.args.code.now c.args.limits.now c.loop-fault.self
    c.loop-fault.invariant.same.1 c.loop-fault.invariant.came.0 c.requires.safe c.loop-fault.invariant.begun
    c.loop-fault.invariant.came.1

pub returns-in-Pause-clause-turn : goal.returns-in-Pause-clause-turn
returns-in-Pause-clause-turn c = ends_by c.args.self.now c.args.code.now c.args.limits.now c.loop-fault.self
    c.loop-fault.invariant.same.1 c.proceed.new.self c.loop-fault.invariant.came.0 c.requires.safe
    c.loop-fault.invariant.begun c.loop-fault.invariant.came.1 outcome.Pause stop.Pause refl c.in-Pause.ensures.came

pub returns-in-Fault-clause-turn : goal.returns-in-Fault-clause-turn
returns-in-Fault-clause-turn c = ends_by c.args.self.now c.args.code.now c.args.limits.now c.loop-fault.self
    c.loop-fault.invariant.same.1 c.proceed.new.self c.loop-fault.invariant.came.0 c.requires.safe
    c.loop-fault.invariant.begun c.loop-fault.invariant.came.1 (outcome.Fault c.in-Fault.fault)
    (stop.Fault c.in-Fault.fault) refl c.in-Fault.ensures.came

pub returns-in-Stop-clause-turn : goal.returns-in-Stop-clause-turn
returns-in-Stop-clause-turn c =
    turned_with c.args.self.now c.args.code.now c.args.limits.now c.proceed.new.self c.replace.new.dest
    c.replace.result
    (ends_by c.args.self.now c.args.code.now c.args.limits.now c.loop-fault.self c.loop-fault.invariant.same.1
    c.proceed.new.self c.loop-fault.invariant.came.0 c.requires.safe c.loop-fault.invariant.begun
    c.loop-fault.invariant.came.1 outcome.Stop c.replace.result
    (ap (λ (s : Stop). Some (Some s)) (sym c.replace.ensures.value)) c.in-Stop.ensures.came)

pub loop-fault-smaller : goal.loop-fault-smaller
loop-fault-smaller c = elim c.in-On.ensures.came [
  | inl once ↦ smaller c.args.self.now c.args.code.now c.args.limits.now c.loop-fault.self
      c.loop-fault.invariant.same.1 c.proceed.new.self c.loop-fault.invariant.came.0 c.requires.safe
      c.loop-fault.invariant.begun c.loop-fault.invariant.came.1 c.requires.ranked once
  | inr twice ↦ smaller_both c.args.self.now c.args.code.now c.args.limits.now c.loop-fault.self
      c.loop-fault.invariant.same.1 c.proceed.new.self c.loop-fault.invariant.came.0 c.requires.safe
      c.loop-fault.invariant.begun c.loop-fault.invariant.came.1 c.requires.ranked twice.1
]

pub loop-fault-preserved : goal.loop-fault-preserved
loop-fault-preserved c = record {
  same = (
    c.proceed.ensures.same.0 ∙ c.loop-fault.invariant.same.0,
    c.proceed.ensures.same.1
        ∙ c.loop-fault.invariant.same.1,
  );
  begun = c.loop-fault.invariant.begun;
  came = elim c.in-On.ensures.came [
    | inl once ↦ (
      suc c.loop-fault.invariant.came.0,
      on_it c.args.self.now c.args.code.now c.args.limits.now c.loop-fault.self c.loop-fault.invariant.same.1
          c.proceed.new.self c.loop-fault.invariant.came.0 c.requires.safe c.loop-fault.invariant.begun
          c.loop-fault.invariant.came.1 once,
    )
    | inr twice ↦ (
      suc (suc c.loop-fault.invariant.came.0),
      on_both c.args.self.now c.args.code.now c.args.limits.now c.loop-fault.self c.loop-fault.invariant.same.1
          c.proceed.new.self c.loop-fault.invariant.came.0 c.requires.safe c.loop-fault.invariant.begun
          c.loop-fault.invariant.came.1 twice.1,
    )
  ];
}
