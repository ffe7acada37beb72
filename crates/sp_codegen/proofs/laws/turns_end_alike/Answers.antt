use Rattle.sp_codegen.proofs.ProcessInfoLaws.{turn_alike, turn_over, turn_safe}
use Rattle.sp_codegen.proofs.laws.turns_end_alike.Goals as goal

pub returns-clause-turn : goal.returns-clause-turn
returns-clause-turn c = λ r t steps. turn_alike r.input r.moves r.shares r.pause t.life r.compilable t.laws t.end t.base
    t.below t.frames t.todo t.place t.stack t.own t.store t.memory t.stands steps

pub returns-clause-over : goal.returns-clause-over
returns-clause-over c = λ r t light. turn_over r.input r.moves r.shares r.pause t.life r.compilable t.laws t.end t.base
    t.below t.frames t.todo t.place t.stack t.own t.store t.memory t.stands light

pub returns-clause-safe : goal.returns-clause-safe
returns-clause-safe c = λ r t light. turn_safe r.input r.moves r.shares r.pause t.life r.compilable t.laws t.end t.base
    t.below t.frames t.todo t.place t.stack t.own t.store t.memory t.stands light
