-- Where names are visible, the index of each forall is an index.
use Rattle.std.proofs.Common.{ℕ, suc, List, [], ◌∷◌}
use Rattle.sp_tree.specs.Plain.{Program}
use Rattle.sp_tree.specs.PlainNamed as n
use Rattle.sp_tree.specs.Interference.{IsIndexOf}
use Rattle.sp_code.specs.Scopes.{Scope, OfIndex, scopes_of}
use Rattle.sp_front.specs.ScopeFacts.{InStatement, InStatementForm, InOther, InStatements, InArms, InBranches}
use Rattle.sp_front.specs.PartsInTables.{AreScoped}
use Rattle.sp_front.specs.ForkWalk.{ForksSatisfy, FormSatisfies, ElseSatisfies, AllSatisfy, ArmsSatisfy}
use Rattle.sp_front.specs.ForkWalk.{BranchesSatisfy, BlocksSatisfy, AnyBranches}

module _ (p : Program) (m : ℕ) where
  mutual
    statement_has : (sc : List Scope) (s : n.Statement) → InStatement p m sc s
        → ForksSatisfy (IsIndexOf p) AnyBranches s
    statement_has sc (n.Does at form) i = form_has sc form i

    form_has : (sc : List Scope) (form : n.Form) → InStatementForm p m sc form
        → FormSatisfies (IsIndexOf p) AnyBranches form
    form_has sc (n.Sequence ss) i = all_have sc ss i
    form_has sc (n.If e a o) i = (statement_has sc a i.1, other_has sc o i.2)
    form_has sc (n.While e a) i = statement_has sc a i.1
    form_has sc (n.Repeat ss e) i = all_have sc ss i.0
    form_has sc (n.Case e arms) i = arms_have sc arms i.1
    form_has sc (n.For x at from down to a) (_, _, _, in_body) = statement_has sc a in_body
    form_has sc (n.Parallel bs) i = (tt, branches_have sc bs i)
    form_has sc (n.Forall x from to a) (index, _, _, in_body) = (index, statement_has (OfIndex x ∷ sc) a in_body)
    form_has _ _ _ = tt

    other_has : (sc : List Scope) (o : n.ElsePart) → InOther p m sc o → ElseSatisfies (IsIndexOf p) AnyBranches o
    other_has sc n.NoElse i = tt
    other_has sc (n.Else a) i = statement_has sc a i

    all_have : (sc : List Scope) (ss : n.Statements) → InStatements p m sc ss → AllSatisfy (IsIndexOf p) AnyBranches ss
    all_have sc n.NoStatement i = tt
    all_have sc (n.AndThen a rest) i = (statement_has sc a i.0, all_have sc rest i.1)

    arms_have : (sc : List Scope) (arms : n.Arms) → InArms p m sc arms → ArmsSatisfy (IsIndexOf p) AnyBranches arms
    arms_have sc n.NoArm i = tt
    arms_have sc (n.Or (n.On cs a) rest) i = (statement_has sc a i.0, arms_have sc rest i.1)

    branches_have : (sc : List Scope) (bs : n.Branches) → InBranches p m sc bs
        → BranchesSatisfy (IsIndexOf p) AnyBranches bs
    branches_have sc n.NoBranch i = tt
    branches_have sc (n.Beside ss rest) i = (all_have sc ss i.0, branches_have sc rest i.1)

  pub blocks_have : (k : ℕ) (bs : List n.Block) → AreScoped p m k bs → BlocksSatisfy (IsIndexOf p) AnyBranches bs
  blocks_have k [] i = tt
  blocks_have k (b ∷ bs) i = (statement_has (scopes_of p k) b.body i.0, blocks_have (suc k) bs i.1)
