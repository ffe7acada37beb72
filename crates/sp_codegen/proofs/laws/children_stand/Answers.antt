use Rattle.sp_codegen.proofs.BirthLaws.{child_begins_so, index_child_begins_so}
use Rattle.sp_codegen.proofs.laws.children_stand.Goals as goal

pub returns-clause-parallel : goal.returns-clause-parallel
returns-clause-parallel c = λ r f z. child_begins_so r.input r.moves r.shares r.pause r.compilable f.parent f.is_process
    f.sets f.frames f.own f.store f.memory f.stands f.shallow z.child.identity z.child.longer z.child.number
    z.child.named f.place f.stack f.value f.scopes z.statements z.first z.child.nth z.birth z.placed z.formed z.body
    z.handed

pub returns-clause-indexed : goal.returns-clause-indexed
returns-clause-indexed c = λ r f z. (let (j, index_is, is_process, begins) = index_child_begins_so r.input r.moves
    r.shares r.pause r.compilable f.parent f.is_process f.sets f.frames f.own f.store f.memory f.stands f.shallow
    z.child.identity z.child.longer z.child.number z.child.named f.place f.stack f.value f.scopes z.index z.from z.to
    z.statement z.entry z.child.nth z.placed z.formed z.body z.end z.handed in
    (j, index_is, (is_process, begins)))
