use Rattle.sp_replay.proofs.follow.turned.Goals as goal

pub turn-requires-clause-ranked : goal.turn-requires-clause-ranked
turn-requires-clause-ranked c = c.requires.ranked

pub turn-requires-clause-blocks : goal.turn-requires-clause-blocks
turn-requires-clause-blocks c = c.requires.sound.blocks

pub turn-requires-clause-formals : goal.turn-requires-clause-formals
turn-requires-clause-formals c = c.requires.sound.formals

pub returns-in_default : goal.returns-in_default
returns-in_default c = record {
  turn = c.turn.ensures.turn;
  keeps = c.turn.ensures.same;
  whole = c.in_default.not-Memory;
}
