use Rattle.std.proofs.Common.{rules}
use Rattle.sp_scope.proofs.ScopeTables.{find_last}
use Rattle.sp_scope.proofs.scopes.+find_in.Goals as goal

pub returns-in-Some-get : goal.returns-in-Some-get
returns-in-Some-get t c =
    rw (find_last (λ m. m.entries) c.args.bs.now c.in-Some.rest.now c.in-Some.b.now c.args.name.now
    c.in-Some.ensures.cases.0)
    (search rules)

pub returns-in-None-get : goal.returns-in-None-get
returns-in-None-get t c =
    rw (find_last (λ m. m.entries) c.args.bs.now c.in-Some.rest.now c.in-Some.b.now c.args.name.now
    c.in-Some.ensures.cases.0)
    (search rules)
