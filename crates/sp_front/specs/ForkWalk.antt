-- None of this belongs to what the program promises: it is for contracts between crates.
-- What is asked of the index of each forall and of the branches of each parallel statement in a statement. The walk is
-- said once, and what is asked is left open.
use Rattle.std.specs.Prelude.{ℕ, List, [], ◌∷◌}
use Rattle.sp_tree.specs.PlainNamed as n
use Rattle.sp_tree.specs.PlainChecked as c
use Rattle.sp_tree.specs.Sites.{Site, SplitsAt}

module _ (OnIndex : ℕ → Type 0) (OnBranches : n.Branches → Type 0) where
  abbrev mutual
    pub ForksSatisfy : n.Statement → Type 0
    ForksSatisfy (n.Does at form) = FormSatisfies form

    pub FormSatisfies : n.Form → Type 0
    FormSatisfies (n.Sequence ss) = AllSatisfy ss
    FormSatisfies (n.If e a o) = ForksSatisfy a × ElseSatisfies o
    FormSatisfies (n.While e a) = ForksSatisfy a
    FormSatisfies (n.Repeat ss e) = AllSatisfy ss
    FormSatisfies (n.Case e arms) = ArmsSatisfy arms
    FormSatisfies (n.For x at from down to a) = ForksSatisfy a
    FormSatisfies (n.Parallel bs) = OnBranches bs × BranchesSatisfy bs
    FormSatisfies (n.Forall x from to a) = OnIndex x × ForksSatisfy a
    FormSatisfies _ = Unit {0}

    pub ElseSatisfies : n.ElsePart → Type 0
    ElseSatisfies n.NoElse = Unit {0}
    ElseSatisfies (n.Else a) = ForksSatisfy a

    pub AllSatisfy : n.Statements → Type 0
    AllSatisfy n.NoStatement = Unit {0}
    AllSatisfy (n.AndThen a rest) = ForksSatisfy a × AllSatisfy rest

    pub ArmsSatisfy : n.Arms → Type 0
    ArmsSatisfy n.NoArm = Unit {0}
    ArmsSatisfy (n.Or (n.On cs a) rest) = ForksSatisfy a × ArmsSatisfy rest

    pub BranchesSatisfy : n.Branches → Type 0
    BranchesSatisfy n.NoBranch = Unit {0}
    BranchesSatisfy (n.Beside ss rest) = AllSatisfy ss × BranchesSatisfy rest

  -- in all blocks
  abbrev pub BlocksSatisfy : List n.Block → Type 0
  BlocksSatisfy [] = Unit {0}
  BlocksSatisfy (b ∷ bs) = ForksSatisfy b.body × BlocksSatisfy bs

-- nothing is asked
abbrev pub AnyIndex : ℕ → Type 0
AnyIndex x = Unit {0}

abbrev pub AnyBranches : n.Branches → Type 0
AnyBranches bs = Unit {0}

-- there is a branch
abbrev pub IsSplit : n.Branches → Type 0
IsSplit n.NoBranch = ⊥
IsSplit (n.Beside ss rest) = Unit {0}

-- a parallel statement has a process statement
abbrev pub HasPart : Site → Type 0
HasPart (SplitsAt c.NoStatement) = ⊥
HasPart _ = Unit {0}
