use Rattle.sp_codegen.proofs.BirthLaws.{same_stands, parent_joins, parent_goes_on, child_gives_back}
use Rattle.sp_codegen.proofs.laws.parents_stand_again.Goals as goal

pub returns-clause-forks : goal.returns-clause-forks
returns-clause-forks c = λ r life js o s n hs stands known dry. parent_joins r.input r.moves r.shares r.pause
    r.compilable life js o s n hs stands known dry

pub returns-clause-returned : goal.returns-clause-returned
returns-clause-returned c = λ r life child hs back js ks o oc s n nc m ec ep joins stands gives. child_gives_back
    r.input r.moves r.shares r.pause r.compilable life hs back js o s n m child ks oc nc ec ep joins stands gives

pub returns-clause-joined : goal.returns-clause-joined
returns-clause-joined c = λ r life hs back js o s n m none joins. parent_goes_on r.input r.moves r.shares r.pause
    r.compilable life hs back js o s n m none joins

pub returns-clause-elsewhere : goal.returns-clause-elsewhere
returns-clause-elsewhere c = λ r life js o s t n stands same. same_stands r.input r.moves r.shares r.pause r.compilable
    life js o s t n stands same
